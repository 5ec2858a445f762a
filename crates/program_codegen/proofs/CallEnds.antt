-- Behind the pushes of a call the commits leave what its script leaves.
use Rattle.std.proofs.Common.{◌≡◌, ℕ, ◌+◌, ◌*◌, ◌/◌, ◌%◌, ◌^◌, ◌<◌, refl, sym, ap, ◌∙◌, arith, List, [], ◌∷◌, length, Bool, true, false, lit<}
use Rattle.std.specs.Prelude.{◌==◌, slice_index, slice_set}
use Rattle.std.proofs.lemmas.List.{length-set, set_comm}
use Rattle.vax_form.specs.PageTable.{IsPageTable}
use Rattle.vax_form.specs.State.{IsState, with_core}
use Rattle.vax_form.specs.Tree.{Same, Ends, Finish}
use Rattle.vax_form.specs.declared.state.VaxState.{VaxState}
use Rattle.vax_long.specs.Calls.{entry_psw}
use Rattle.exception_records.specs.Codes.{all_ready}
use Rattle.micro_ops.specs.declared.program.Micro.TheVariants.{Commit}
use Rattle.micro_ops.specs.Course.{AtLeaves}
use Rattle.micro_ops.specs.Meaning.{Standing, Left, Temps, course_of, with_value}
use Rattle.operand_programs.specs.Specifiers.{stepped_registers}
use Rattle.operand_programs.proofs.Accesses.{register_below}
use Rattle.operand_programs.specs.Pieces.{Agrees}
use Rattle.operand_programs.proofs.Agrees.{agreed, held}
use Rattle.operand_programs.proofs.Commits.{commits_agree}
use Rattle.operand_programs.proofs.Stepped.{stepped_set}
use Rattle.block_law.specs.Laws.{MoreKinds}
use Rattle.block_law.specs.Placements.{Placement}
use Rattle.program_codegen.specs.declared.calls.Call.{Call}
use Rattle.program_codegen.specs.declared.points.Site.{Site}
use Rattle.program_codegen.specs.Accesses.{needed}
use Rattle.program_codegen.specs.Calls.{argument_temp, list_program, steps_left}
use Rattle.program_codegen.proofs.Holding.{found, tree}
use Rattle.program_codegen.proofs.Frame.{place_of}
use Rattle.program_codegen.proofs.Composed.{entering}
use Rattle.program_codegen.proofs.CallScripts.{left_by}

apart : (a b : ℕ) → b < a → a ≡ b → ⊥
apart a b lt e = omega arith

-- ---- registers
-- what was added to AP, FP and SP is lost
registers_entered : (r steps : List ℕ) (f a : ℕ)
    → slice_set (slice_set (slice_set (stepped_registers r (steps_left steps)) 12 a) 13 f) 14 f ≡ slice_set (slice_set (slice_set (stepped_registers r steps) 14 f) 13 f) 12 a
registers_entered r steps f a =
    let z12 = slice_set steps 12 0 in
    let z13 = slice_set z12 13 0 in
    let z14 = slice_set z13 14 0 in
    let fp_sp : 13 ≡ 14 → ⊥ = λ e. apart 14 13 (lit< tt) (sym e) in
    let ap_sp : 12 ≡ 14 → ⊥ = λ e. apart 14 12 (lit< tt) (sym e) in
    let ap_fp : 12 ≡ 13 → ⊥ = λ e. apart 13 12 (lit< tt) (sym e) in
    set_comm (slice_set (stepped_registers r z14) 12 a) 13 14 f f fp_sp
    ∙ (ap (λ (l : List ℕ). slice_set l 13 f) (set_comm (stepped_registers r z14) 12 14 a f ap_sp)
    ∙ (ap (λ (l : List ℕ). slice_set (slice_set l 12 a) 13 f) (stepped_set r z13 14 0 f)
    ∙ (set_comm (slice_set (stepped_registers r z13) 14 f) 12 13 a f ap_fp
    ∙ (ap (λ (l : List ℕ). slice_set l 12 a) (set_comm (stepped_registers r z13) 14 13 f f (apart 14 13 (lit< tt)))
    ∙ (ap (λ (l : List ℕ). slice_set (slice_set l 14 f) 12 a) (stepped_set r z12 13 0 f)
    ∙ (set_comm (slice_set (stepped_registers r z12) 13 f) 14 12 f a (apart 14 12 (lit< tt))
    ∙ (ap (λ (l : List ℕ). slice_set l 14 f) (set_comm (stepped_registers r z12) 13 12 f a (apart 13 12 (lit< tt)))
    ∙ (ap (λ (l : List ℕ). slice_set (slice_set l 13 f) 14 f) (stepped_set r steps 12 0 a)
    ∙ (set_comm (slice_set (stepped_registers r steps) 12 a) 13 14 f f fp_sp
    ∙ (ap (λ (l : List ℕ). slice_set l 13 f) (set_comm (stepped_registers r steps) 12 14 a f ap_sp)
    ∙ set_comm (slice_set (stepped_registers r steps) 14 f) 12 13 a f ap_fp))))))))))

left_length : (steps : List ℕ) → length (steps_left steps) ≡ length steps
left_length steps = length-set (slice_set (slice_set steps 12 0) 13 0) 14 0 ∙ (length-set (slice_set steps 12 0) 13 0 ∙ length-set steps 12 0)

-- ---- temporaries
argument_low : (stack : Bool) → (argument_temp stack == 5) ≡ false
argument_low true = refl
argument_low false = refl

argument_kept : (stack : Bool) (top : ℕ) (standing : Standing) → (with_value 3 top standing).temps (argument_temp stack) ≡ standing.temps (argument_temp stack)
argument_kept true top standing = refl
argument_kept false top standing = refl

-- ---- the end
-- behind its operands a call has changed nothing yet
abbrev pub standing_of : VaxState → Temps → Standing
standing_of begun temps = record { temps = temps; state = begun; overflowed = false }

-- a state whose SP alone is not what the operands leave
pub record IsStacked (steps : List ℕ) (begun : VaxState) (state : VaxState) : Type 0 where
  pub core : state ≡ with_core begun state.r begun.pc begun.psw
  pub stacked : (value : ℕ) → slice_set state.r 14 value ≡ slice_set (stepped_registers begun.r steps) 14 value

module _ (p : Placement) (site : Site) (table : IsPageTable p.pages) (kinds : MoreKinds (needed site.byte_word 4) p.kinds) (behind_ready : site.behind ≡ all_ready) (call : Call) (steps : List ℕ) where
  abbrev aligned_standing : Temps → Standing
  aligned_standing temps = with_value 3 (temps 2 / 4 * 4) (standing_of p.begun temps)

  -- temporary 3 is kept
  abbrev HasTop : Temps → Left → Type 0
  HasTop temps left = left.temps 3 ≡ temps 2 / 4 * 4

  module _ (temps : Temps) (state : VaxState) (destination argument pushes : ℕ) (ok : IsState p.begun) (fifteen : length steps ≡ 15) (is : IsStacked steps p.begun state)
      (entry_is : call.entry ≡ (destination + 2) % 2 ^ 32) (argument_is : temps (argument_temp call.stack) % 2 ^ 32 ≡ argument) where
    abbrev last : VaxState
    last = left_by call.mask (temps 2) state destination argument pushes

    abbrev with_both : (f a : ℕ) → VaxState
    with_both f a = with_core p.begun (slice_set (slice_set (slice_set (stepped_registers p.begun.r (steps_left steps)) 12 a) 13 f) 14 f) call.entry (entry_psw call.mask p.begun.psw)

    left : (after : Temps) → after 3 ≡ temps 2 / 4 * 4 → after (argument_temp call.stack) ≡ temps (argument_temp call.stack)
        → with_both (place_of (after 3) pushes) (after (argument_temp call.stack) % 2 ^ 32) ≡ last
    left after has_top has_argument =
        let f = place_of (temps 2 / 4 * 4) pushes in
        let psw = entry_psw call.mask p.begun.psw in
        ap (λ (top : ℕ). with_both (place_of top pushes) (after (argument_temp call.stack) % 2 ^ 32)) has_top
        ∙ (ap (λ (a : ℕ). with_both f a) (ap (λ (a : ℕ). a % 2 ^ 32) has_argument ∙ argument_is)
        ∙ (ap (λ (r : List ℕ). with_core p.begun r call.entry psw) (registers_entered p.begun.r steps f argument ∙ ap (λ (r : List ℕ). slice_set (slice_set r 13 f) 12 argument) (sym (is.stacked f)))
        ∙ (ap (λ (pc : ℕ). with_core p.begun (slice_set (slice_set (slice_set state.r 14 f) 13 f) 12 argument) pc psw) entry_is
        ∙ ap (λ (s : VaxState). left_by call.mask (temps 2) s destination argument pushes) (sym is.core))))

    ends_agree : Agrees (HasTop temps) (entering p site table kinds behind_ready call.entry call.mask pushes) (course_of (list_program call.stack steps) (found p site) (aligned_standing temps)) (Ends (Finish last))
    ends_agree =
        commits_agree (HasTop temps) (entering p site table kinds behind_ready call.entry call.mask pushes) (Commit 12 (argument_temp call.stack) ∷ []) (Ends (Finish last)) (found p site) [] p.begun.r (steps_left steps) 0 (aligned_standing temps)
        refl (left_length steps ∙ (fifteen ∙ sym ok.registers)) refl (λ i. register_below p.begun ok i) (λ i. let e : 0 + i ≡ i = omega arith in ap (λ (n : ℕ). slice_index p.begun.r n) e)
        (λ after kept. (kept 3 refl, ap Finish (left after (kept 3 refl) (kept (argument_temp call.stack) (argument_low call.stack) ∙ argument_kept call.stack (temps 2 / 4 * 4) (standing_of p.begun temps)))))

    -- the procedure is entered as the script enters it
    pub ends_same : Same (tree (entering p site table kinds behind_ready call.entry call.mask pushes) (course_of (list_program call.stack steps) (found p site) (aligned_standing temps))) (Ends (Finish last))
    ends_same = agreed (HasTop temps) (entering p site table kinds behind_ready call.entry call.mask pushes) (course_of (list_program call.stack steps) (found p site) (aligned_standing temps)) (Ends (Finish last)) ends_agree

    pub keeps_top : AtLeaves (HasTop temps) (course_of (list_program call.stack steps) (found p site) (aligned_standing temps))
    keeps_top = held (HasTop temps) (entering p site table kinds behind_ready call.entry call.mask pushes) (course_of (list_program call.stack steps) (found p site) (aligned_standing temps)) (Ends (Finish last)) ends_agree
