-- The lists of a frame, one push after the other.
use Rattle.std.proofs.Common.{◌≡◌, ℕ, suc, ◌+◌, ◌-◌, ◌<◌, refl, sym, ap, ◌∙◌, arith, List, [], ◌∷◌, ◌++◌, append_assoc, length, map, true, false}
use Rattle.std.proofs.lemmas.List.{append-nil}
use Rattle.std.specs.Prelude.{if◌then◌else◌}
use Rattle.vax_long.specs.Registers.{is_in_mask}
use Rattle.program_codegen.specs.declared.frames.Pushed.{Pushed}
use Rattle.program_codegen.specs.declared.frames.Pushed.TheVariants.{Register}
use Rattle.program_codegen.specs.declared.lines.Line.{Line}
use Rattle.program_codegen.specs.declared.points.Site.{Site}
use Rattle.micro_ops.specs.declared.program.Micro.{Micro}
use Rattle.program_codegen.specs.declared.calls.Call.{Call}
use Rattle.program_codegen.specs.Words.{plain, program_lines}
use Rattle.program_codegen.specs.Calls.{align_frame, call_lines, saved_below, check_lines, checks_from, count_lines, end_lines, end_of, frame_of, front_program, pushes_from, steps_of}

pub saved_none : (mask : ℕ) → saved_below 0 mask ≡ []
unfolding saved_below
saved_none mask = refl

pub saved_next : (done mask : ℕ) → done < 12
    → saved_below (12 - done) mask ≡ (if is_in_mask (12 - (done + 1)) mask then Register (12 - (done + 1)) ∷ saved_below (12 - (done + 1)) mask else saved_below (12 - (done + 1)) mask)
unfolding saved_below
saved_next done mask lt = let e : 12 - done ≡ suc (12 - (done + 1)) = omega arith in rw e refl

-- a register that the mask saves stands behind the higher ones
pub saved_pushed : (frame all : List Pushed) (done mask : ℕ) → done < 12 → is_in_mask (12 - (done + 1)) mask ≡ true
    → frame ++ saved_below (12 - done) mask ≡ all → (frame ++ Register (12 - (done + 1)) ∷ []) ++ saved_below (12 - (done + 1)) mask ≡ all
saved_pushed frame all done mask lt is before =
    append_assoc frame (Register (12 - (done + 1)) ∷ []) (saved_below (12 - (done + 1)) mask)
    ∙ (ap (λ xs. frame ++ xs) (sym (saved_next done mask lt ∙ chosen is)) ∙ before)
  where
    chosen : is_in_mask (12 - (done + 1)) mask ≡ true
        → (if is_in_mask (12 - (done + 1)) mask then Register (12 - (done + 1)) ∷ saved_below (12 - (done + 1)) mask else saved_below (12 - (done + 1)) mask) ≡ Register (12 - (done + 1)) ∷ saved_below (12 - (done + 1)) mask
    chosen e = rw e refl

pub saved_passed : (frame all : List Pushed) (done mask : ℕ) → done < 12 → is_in_mask (12 - (done + 1)) mask ≡ false
    → frame ++ saved_below (12 - done) mask ≡ all → frame ++ saved_below (12 - (done + 1)) mask ≡ all
saved_passed frame all done mask lt is before = ap (λ xs. frame ++ xs) (sym (saved_next done mask lt ∙ chosen is)) ∙ before
  where
    chosen : is_in_mask (12 - (done + 1)) mask ≡ false
        → (if is_in_mask (12 - (done + 1)) mask then Register (12 - (done + 1)) ∷ saved_below (12 - (done + 1)) mask else saved_below (12 - (done + 1)) mask) ≡ saved_below (12 - (done + 1)) mask
    chosen e = rw e refl

pub saved_all : (saved : List Pushed) (mask : ℕ) → saved ++ saved_below (12 - 12) mask ≡ saved_below 12 mask → saved ≡ saved_below 12 mask
saved_all saved mask e = sym (append-nil saved) ∙ (ap (λ xs. saved ++ xs) (sym (saved_none mask)) ∙ e)

pub checks_next : (site : Site) (lines : List Line) (place count : ℕ) → place < count
    → (lines ++ check_lines site (place + 1)) ++ checks_from site (place + 1 + 1) (count - (place + 1)) ≡ lines ++ checks_from site (place + 1) (count - place)
checks_next site lines place count lt =
    let e : count - place ≡ suc (count - (place + 1)) = omega arith in
    append_assoc lines (check_lines site (place + 1)) (checks_from site (place + 1 + 1) (count - (place + 1))) ∙ ap (λ n. lines ++ checks_from site (place + 1) n) (sym e)

-- ---- the lines of a call, one part behind the other
parts_joined : (front checks count frame end : List Line) (align : Line) → ((((front ++ align ∷ []) ++ checks) ++ count) ++ frame) ++ end ≡ front ++ (align ∷ (checks ++ (count ++ (frame ++ end))))
parts_joined front checks count frame end align =
    append_assoc (((front ++ align ∷ []) ++ checks) ++ count) frame end
    ∙ (append_assoc ((front ++ align ∷ []) ++ checks) count (frame ++ end)
    ∙ (append_assoc (front ++ align ∷ []) checks (count ++ (frame ++ end)) ∙ append_assoc front (align ∷ []) (checks ++ (count ++ (frame ++ end)))))

pub call_joined : (site : Site) (call : Call) (front : List Micro) (steps : List ℕ) (checked frame : List Pushed) (pushes : ℕ) (l0 l1 l2 l3 l4 l5 : List Line)
    → front ≡ front_program call → steps ≡ steps_of call → checked ≡ frame_of call.mask → frame ≡ frame_of call.mask → pushes ≡ length (frame_of call.mask)
    → l0 ≡ program_lines site [] front → l1 ≡ l0 ++ map plain (align_frame ∷ []) → l2 ≡ l1 ++ checks_from site 1 (length checked) → l3 ≡ l2 ++ count_lines site call.stack
    → l4 ≡ l3 ++ pushes_from site.after call steps 1 frame → l5 ≡ l4 ++ end_of site call steps pushes → l5 ≡ call_lines site call
call_joined site call front steps checked frame pushes l0 l1 l2 l3 l4 l5 front_is steps_are checked_is frame_is pushes_are e0 e1 e2 e3 e4 e5 =
    let f0 = e0 ∙ ap (program_lines site []) front_is in
    let f1 = e1 ∙ ap (λ (ls : List Line). ls ++ plain align_frame ∷ []) f0 in
    let f2 = e2 ∙ (ap (λ (fs : List Pushed). l1 ++ checks_from site 1 (length fs)) checked_is ∙ ap (λ (ls : List Line). ls ++ checks_from site 1 (length (frame_of call.mask))) f1) in
    let f3 = e3 ∙ ap (λ (ls : List Line). ls ++ count_lines site call.stack) f2 in
    let f4 = e4 ∙ (ap (λ (fs : List Pushed). l3 ++ pushes_from site.after call steps 1 fs) frame_is ∙ (ap (λ (ss : List ℕ). l3 ++ pushes_from site.after call ss 1 (frame_of call.mask)) steps_are ∙ ap (λ (ls : List Line). ls ++ pushes_from site.after call (steps_of call) 1 (frame_of call.mask)) f3)) in
    let f5 = e5 ∙ (ap (λ (n : ℕ). l4 ++ end_of site call steps n) pushes_are ∙ (ap (λ (ss : List ℕ). l4 ++ end_of site call ss (length (frame_of call.mask))) steps_are ∙ ap (λ (ls : List Line). ls ++ end_lines site call) f4)) in
    f5 ∙ parts_joined (program_lines site [] (front_program call)) (checks_from site 1 (length (frame_of call.mask))) (count_lines site call.stack) (pushes_from site.after call (steps_of call) 1 (frame_of call.mask)) (end_lines site call) (plain align_frame)
