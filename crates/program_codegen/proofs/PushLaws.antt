-- The pushes of a frame follow their tree.
use Rattle.std.proofs.Common.{◌≡◌, ℕ, ◌+◌, ◌-◌, ◌*◌, ◌/◌, ◌%◌, ◌^◌, ◌<◌, ◌≤◌, refl, sym, ap, ◌∙◌, subst, arith, List, [], ◌∷◌, ◌++◌, length, map, length-append, None, true, false}
use Rattle.std.specs.Prelude.{slice_index}
use Rattle.std.proofs.lemmas.Bool.Decides.{nat_tests}
use Rattle.vax_form.specs.PageTable.{IsPageTable}
use Rattle.vax_form.specs.Pages.{is_allowed}
use Rattle.vax_form.specs.Tree.{Tree}
use Rattle.alpha_encode.specs.declared.instr.AlphaInstr.{AlphaInstr}
use Rattle.alpha_encode.specs.declared.instr.AlphaInstr.TheVariants.{Memory}
use Rattle.alpha_encode.specs.declared.instr.MemoryOp.TheVariants.{Stl}
use Rattle.alpha_meaning.specs.Pieces.{Only}
use Rattle.alpha_meaning.specs.State.{Regs, at_place}
use Rattle.block_law.specs.Laws.{MoreKinds}
use Rattle.block_law.specs.Placements.{Placement}
use Rattle.block_law.proofs.Rules.{Always, roomy}
use Rattle.program_codegen.specs.declared.calls.Call.{Call}
use Rattle.program_codegen.specs.declared.frames.Pushed.{Pushed}
use Rattle.program_codegen.specs.declared.frames.Pushed.TheVariants as pushes
use Rattle.program_codegen.specs.declared.lines.Line.{Line}
use Rattle.program_codegen.specs.declared.points.Site.{Site}
use Rattle.program_codegen.specs.Accesses.{needed}
use Rattle.program_codegen.specs.Words.{plain}
use Rattle.program_codegen.specs.Calls.{displacement, value_words, value_register, pushes_from, status_high}
use Rattle.program_codegen.proofs.Walk.{Within, next}
use Rattle.program_codegen.proofs.Operands.{first_passes}
use Rattle.program_codegen.proofs.Frame.{place_of, at_number, at_place_of, place_below, push_below, MayPush, pushed_from}
use Rattle.program_codegen.proofs.Storing.{stores_longword}
use Rattle.program_codegen.proofs.Valuing.{is_pushing, value_in, IsPushable, makes_value}

abbrev pub ArePushable : (steps : List ℕ) → List Pushed → Type 0
ArePushable steps [] = Unit {0}
ArePushable steps (pushed ∷ frame) = IsPushable steps pushed × ArePushable steps frame

-- ---- lines
row_then : (words : List AlphaInstr) (last : AlphaInstr) (more rest : List Line) → (map plain (words ++ last ∷ []) ++ more) ++ rest ≡ map plain words ++ (plain last ∷ (more ++ rest))
row_then [] last more rest = refl
row_then (word ∷ words) last more rest = ap (λ lines. plain word ∷ lines) (row_then words last more rest)

row_count : (words : List AlphaInstr) (last : AlphaInstr) (more : List Line) → length (map plain (words ++ last ∷ []) ++ more) ≡ length words + 1 + length more
row_count [] last more = omega arith
row_count (word ∷ words) last more = let e = row_count words last more in omega arith

-- ---- registers
low_not_pushing : (n : ℕ) → n < 15 → is_pushing n ≡ false
low_not_pushing n lt = grind (arith, nat_tests)

-- a value is the same where R22 and R26 alone have changed
same_value : (after : ℕ) (call : Call) (steps : List ℕ) (old new : Regs) (pushed : Pushed) → Only is_pushing old new → IsPushable steps pushed → value_in after call steps new pushed ≡ value_in after call steps old pushed
same_value after call steps old new (pushes.Register number) only small = ap (λ x. (x + slice_index steps number) % 2 ^ 32) (only number (low_not_pushing number small.0))
same_value after call steps old new pushes.After only small = refl
same_value after call steps old new pushes.Status only small =
    ap (λ x. x % 4 * 2 ^ 30 + (status_high call + new 20 / 32 * 32)) (only 23 refl) ∙ ap (λ x. old 23 % 4 * 2 ^ 30 + (status_high call + x / 32 * 32)) (only 20 refl)
same_value after call steps old new pushes.NoHandler only small = refl

module _ (p : Placement) (site : Site) (table : IsPageTable p.pages) (kinds : MoreKinds (needed site.byte_word 4) p.kinds) (call : Call) (steps : List ℕ) (top : ℕ) (found : Regs)
    (small : top < 2 ^ 32) (aligned : top % 4 ≡ 0) (has_top : found 24 ≡ top) (zero_reads : found 31 ≡ 0) (status : found 20 < 256) (after : site.after < 2 ^ 32) where
  -- the values, by the registers that were found
  abbrev pub values : List Pushed → List ℕ
  values frame = map (value_in site.after call steps found) frame

  pub pushes_frame : (frame : List Pushed) (number need pc : ℕ) (rest : List Line) (regs : Regs) (t : Tree)
      → Within p site.behind pc (pushes_from site.after call steps number frame ++ rest) → 1 ≤ length rest
      → ArePushable steps frame → 1 ≤ number → number + length frame ≤ 18 → MayPush p.pages top number (length frame) → Only is_pushing found regs
      → ((g : Regs) (pc' : ℕ) → Within p site.behind pc' rest → Only is_pushing found g → Always p None need (at_place g pc') t)
      → Always p None (length (pushes_from site.after call steps number frame) + need) (at_place regs pc) (pushed_from top number (values frame) t)
  pushes_frame [] number need pc rest regs t w some pushable from few may only behind =
      roomy p None need (0 + need) (at_place regs pc) t (omega arith) (behind regs pc w only)
  pushes_frame (pushed ∷ frame) number need pc rest regs t w some pushable from few may only behind =
      let words = value_words site.after call steps pushed in
      let store = Memory Stl (value_register steps pushed) 24 (displacement number) in
      let more = pushes_from site.after call steps (number + 1) frame in
      let tail = more ++ rest in
      let w0 = subst (Within p site.behind pc) (row_then words store more rest) w in
      let count = row_count words store more in
      let longer = length-append more rest in
      let below = push_below p.pages top number table small (omega arith) may.0 in
      let place : place_of top number ≡ top - 4 * number = place_below top number small (omega arith) below in
      let fits : place_of top number % 4 ≡ 0 = ap (λ x. x % 4) place ∙ omega arith in
      let allowed : is_allowed p.pages (place_of top number) true ≡ true = (first_passes p.pages true (place_of top number) 3 may.0).0 in
      let value = value_in site.after call steps found pushed in
      roomy p None (length words + (length more + need + 1)) (length (pushes_from site.after call steps number (pushed ∷ frame)) + need) (at_place regs pc) _ (omega arith)
      (makes_value p site call steps pushed (length more + need + 1) pc (plain store ∷ tail) regs _ w0 (omega arith) (only 31 refl ∙ zero_reads) (subst (λ x. x < 256) (sym (only 20 refl)) status) after pushable.0
      (λ g only' holds w1.
      let all : Only is_pushing found g = λ n out. only' n out ∙ only n out in
      let here : at_number (g 24) number ≡ place_of top number = ap (λ x. at_number x number) (all 24 refl ∙ has_top) ∙ (at_place_of top number small from (omega arith) below ∙ sym place) in
      stores_longword p site kinds (length more + need) (pc + length words) (value_register steps pushed) (place_of top number) (value_in site.after call steps found pushed) (displacement number) tail g
      (λ reply. pushed_from top (number + 1) (values frame) t) w1 (omega arith) here fits allowed (holds ∙ same_value site.after call steps found regs pushed only pushable.0)
      (pushes_frame frame (number + 1) need (pc + length words + 1) rest g t (next p site.behind (pc + length words) store None tail w1) some pushable.1 (omega arith) (omega arith) may.1 all behind)))
