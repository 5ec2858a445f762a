-- The block that copies a string follows its tree.
use Rattle.std.proofs.Common.{◌≡◌, ℕ, suc, ◌+◌, ◌%◌, ◌^◌, ◌<◌, refl, sym, ap, ◌∙◌, subst, arith, add-zero, List, [], ◌∷◌, length, Some, true, false, lit<, lit≤}
use Rattle.std.specs.Prelude.{nat_le, slice_get, slice_index}
use Rattle.std.proofs.lemmas.Bool.Decides.{nat_tests}
use Rattle.vax_form.specs.State.{with_pc}
use Rattle.vax_form.specs.Tree.{Tree, Check}
use Rattle.vax_form.specs.declared.pages.Pages.{Pages}
use Rattle.vax_form.specs.declared.state.Flags.{Flags}
use Rattle.vax_form.specs.declared.state.VaxState.{VaxState}
use Rattle.alpha_encode.specs.declared.instr.AlphaInstr.{AlphaInstr}
use Rattle.alpha_encode.specs.declared.instr.AlphaInstr.TheVariants.{Operate}
use Rattle.alpha_encode.specs.declared.instr.OperateOp.TheVariants.{Addq}
use Rattle.alpha_encode.specs.declared.instr.Second.TheVariants.{Register}
use Rattle.alpha_meaning.specs.State.{Regs, at_place}
use Rattle.alpha_meaning.specs.Loops.{effect}
use Rattle.alpha_meaning.specs.Pieces.{Plain}
use Rattle.exception_records.specs.Codes.{all_ready}
use Rattle.exception_records.specs.Shown.{Shows, registers_shown}
use Rattle.block_law.proofs.Laid.{has_each}
use Rattle.block_law.specs.Blocks.{is_exit_word}
use Rattle.block_law.specs.Follows.{Follows, LeadsTo}
use Rattle.block_law.specs.Placements.{Placement, InForm}
use Rattle.block_law.specs.Rounds.{block_steps, new_round}
use Rattle.block_law.specs.Translations.{Code, placed, fetch_of}
use Rattle.block_law.proofs.Rules.{Always, IsAt, goes}
use Rattle.loop_rows.specs.Copying.{copied, copy_tree, copy_meaning, copy_permit, copy_value, copy_words, Copies}
use Rattle.loop_rows.proofs.Looping.{Here, copies_string, free_put}

-- the tree of the strings by the registers
abbrev pub Told : (after count : ℕ) → VaxState → Regs → Tree
Told after count state regs =
    Check (regs 1 % 2 ^ 32) count false (Check (regs 3 % 2 ^ 32) count true (copied count (regs 1 % 2 ^ 32) (regs 3 % 2 ^ 32) (with_pc after state)))

module _ (pages : Pages) (after : ℕ) (code : Code) (first thread : ℕ) (state : VaxState) (held : Flags) (address : ℕ) (start : Regs) where
  abbrev p : Placement
  p = placed (copy_meaning pages after) copy_permit code thread state held first

  abbrev count : ℕ
  count = start 0 % 2 ^ 32 % 2 ^ 16

  whole : Here (copy_tree after) pages after code first (first + 1) thread state held address start → IsAt p first (Operate Addq 31 (Register 0) 21) → InForm start → Shows start address all_ready held state
      → Always p (Some new_round) 22 (at_place start first) (Told after count state start)
  whole here at form shows =
      let f = effect (Operate Addq 31 (Register 0) 21) start in
      let zero_in = form.zero in
      goes p (Some new_round) 21 (at_place start first) (at_place f (first + 1)) (Operate Addq 31 (Register 0) 21) (Told after count state start) at refl (omega arith) (ap p.stops (sym (add-zero (first + 1))) ∙ here.inside 0 (lit< tt))
      (copies_string (copy_tree after) pages after code first (first + 1) thread state held address start here form shows (Some new_round) count f (omega arith) (below (start 31) (start 0)) (sum_low (start 31) (start 0) zero_in) (free_put start 21 _ refl))
    where
      below : (z x : ℕ) → (z + x) % 2 ^ 64 < 2 ^ 64
      below z x = omega arith

      sum_low : (z x : ℕ) → z ≡ 0 → (z + x) % 2 ^ 64 % 2 ^ 16 ≡ x % 2 ^ 32 % 2 ^ 16
      sum_low z x e = omega arith

-- ---- wherever it stands
pub copies : (address after : ℕ) → Copies address after (copy_value address after)
copies address after pages code first thread n state held regs few s is form shows leads =
    let count : length s.words ≡ 25 = s.like.count in
    let ends = s.ends in
    let within = s.within in
    let p = placed (copy_meaning pages after) copy_permit code thread state held first in
    let there : (k : ℕ) → first + 1 + k ≡ first + suc k = λ k. omega arith in
    let word : (k : ℕ) (i : AlphaInstr) → k < 22 → slice_get copy_words k ≡ Some i → p.fetch (first + k) ≡ Some i = λ k i lt e. has_each (fetch_of code.words) first s.words s.stand k i (s.like.same k (no_exit k lt) ∙ e) in
    let here : Here (copy_tree after) pages after code first (first + 1) thread state held address regs = record {
      word = λ k i lt e. ap p.fetch (there k) ∙ word (suc k) i (omega arith) e;
      inside = λ k lt. ap p.stops (there k) ∙ s.alone (suc k) (omega arith) (omega arith);
      read_point = ap p.points (there 1) ∙ s.points 2 (omega arith);
      write_point = ap p.points (there 3) ∙ s.points 4 (omega arith);
      above = omega arith;
      high = omega arith;
      low = omega arith;
      exit = subst (λ w. LeadsTo p w after all_ready 3) (sym (there 21)) (leads 0 (22, after) refl);
    } in
    let begins : IsAt p first (Operate Addq 31 (Register 0) 21) = record { is = ap p.fetch (sym (add-zero first)) ∙ word 0 (Operate Addq 31 (Register 0) 21) (lit< tt) refl; low = omega arith; high = omega arith } in
    let r : state.r ≡ registers_shown regs = ap (λ (s : VaxState). s.r) shows in
    let tree : copy_tree after state ≡ Told after (regs 0 % 2 ^ 32 % 2 ^ 16) state regs =
    ap (λ (xs : List ℕ). Check (slice_index xs 1) (slice_index xs 0 % 2 ^ 16) false (Check (slice_index xs 3) (slice_index xs 0 % 2 ^ 16) true (copied (slice_index xs 0 % 2 ^ 16) (slice_index xs 1) (slice_index xs 3) (with_pc after state)))) r in
    subst (λ (t : Tree). Follows p n Plain block_steps new_round (at_place regs first) t) (sym tree)
    (whole pages after code first thread state held address regs here begins form shows n block_steps new_round (record { refs = record { reads = refl; writes = refl; others = refl }; within = lit≤ tt; earned = lit≤ tt }))
  where
    no_exit : (k : ℕ) → k < 22 → is_exit_word ((22, after) ∷ []) k ≡ false
    no_exit k lt = let e : nat_le 22 k ≡ false = grind (arith, nat_tests) in rw e refl
