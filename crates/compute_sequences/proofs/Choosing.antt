-- Words with one branch forward, which passes over some of them.
use Rattle.std.proofs.Common.{◌≡◌, ℕ, suc, ◌+◌, ◌^◌, ◌<◌, ◌≤◌, refl, ap, ◌∙◌, subst, arith, List, ◌∷◌, ◌++◌, length, Bool, true, false}
use Rattle.std.specs.Prelude.{pos, ◌==◌}
use Rattle.std.proofs.lemmas.List.{length-append}
use Rattle.alpha_encode.specs.declared.instr.BranchOp.TheVariants.{Beq}
use Rattle.alpha_encode.specs.declared.instr.AlphaInstr.{AlphaInstr}
use Rattle.alpha_encode.specs.declared.instr.AlphaInstr.TheVariants.{Branch}
use Rattle.alpha_meaning.specs.State.{Regs, at_place}
use Rattle.alpha_meaning.specs.Act.{target_of}
use Rattle.alpha_meaning.specs.Pieces.{Over, Plain, Piece, HasAt, piece, Only}
use Rattle.alpha_meaning.proofs.Rules.{Always, done, roomy, passes, skips, has_front, has_back}
use Rattle.compute_sequences.specs.Registers.{may_change}
use Rattle.compute_sequences.specs.Promises.{Leaves, LeavesAt}
use Rattle.compute_sequences.proofs.Straight.{Fine, Each, afters, afters_only, same, locals}

-- the target of a branch over `count` words
over : (pc count : ℕ) → pc + 1 + count < 2 ^ 32 → target_of pc (pos count) ≡ pc + 1 + count
over pc count lt = omega arith

module _ (Is : ℕ → Type 0) (to x : ℕ) (before middle behind : List AlphaInstr) (f : Regs)
    (fine_before : Each (Fine (may_change to)) before) (fine_middle : Each (Fine (may_change to)) middle) (fine_behind : Each (Fine (may_change to)) behind) where
  abbrev reached : Regs
  reached = afters before f

  abbrev branch : AlphaInstr
  branch = Branch Beq x (pos (length middle))

  abbrev whole : List AlphaInstr
  whole = before ++ (branch ∷ (middle ++ behind))

  only_before : Only (may_change to) f reached
  only_before = afters_only (may_change to) f f before fine_before (same f (may_change to))

  module _ (p : Piece) (most pc : ℕ) (has : HasAt p.fetch pc (branch ∷ (middle ++ behind))) (from : p.from ≤ pc) (end : pc + 1 + length middle + length behind ≡ p.to) (low : p.to ≤ 2 ^ 23) where
    has_behind : HasAt p.fetch (pc + 1 + length middle) behind
    has_behind = has_back p.fetch (pc + 1) middle behind has.1

    -- the words behind, from registers in which only these have changed
    rest : (g : Regs) → Only (may_change to) f g → Is (afters behind g to) → Always p (Leaves Is to f) most (length behind) Plain (at_place g (pc + 1 + length middle)) (Over tt)
    rest g only is =
        let count : length behind + 0 ≡ length behind = omega arith in
        subst (λ m. Always p (Leaves Is to f) most m Plain (at_place g (pc + 1 + length middle)) (Over tt)) count
        (locals p (Leaves Is to f) most 0 (may_change to) behind g (pc + 1 + length middle) (Over tt) has_behind fine_behind (omega arith) (omega arith)
        (done p (Leaves Is to f) most (at_place (afters behind g) (pc + 1 + length middle + length behind)) tt end (record { holds = is; only = afters_only (may_change to) f g behind fine_behind only })))

    chosen_by : (b : Bool) → (reached x == 0) ≡ b → (b ≡ true → Is (afters behind reached to)) → (b ≡ false → Is (afters behind (afters middle reached) to))
        → Always p (Leaves Is to f) most (1 + length middle + length behind) Plain (at_place reached pc) (Over tt)
    chosen_by true e skipped taken =
        let lt : pc + 1 + length middle < 2 ^ 32 = omega arith in
        let forth : pc < pc + 1 + length middle = omega arith in
        let enough : length behind + 1 ≤ 1 + length middle + length behind = omega arith in
        roomy p (Leaves Is to f) most (length behind + 1) (1 + length middle + length behind) Plain (at_place reached pc) (Over tt) enough
        (skips p (Leaves Is to f) most (length behind) Plain (at_place reached pc) Beq x (pos (length middle)) (pc + 1 + length middle) (Over tt) has.0 refl e (over pc (length middle) lt) from forth (omega arith)
        (rest reached only_before (skipped refl)))
    chosen_by false e skipped taken =
        let within : pc < p.to = omega arith in
        let count : length middle + length behind + 1 ≡ 1 + length middle + length behind = omega arith in
        subst (λ m. Always p (Leaves Is to f) most m Plain (at_place reached pc) (Over tt)) count
        (passes p (Leaves Is to f) most (length middle + length behind) Plain (at_place reached pc) Beq x (pos (length middle)) (Over tt) has.0 e from within
        (locals p (Leaves Is to f) most (length behind) (may_change to) middle reached (pc + 1) (Over tt) (has_front p.fetch (pc + 1) middle behind has.1) fine_middle (omega arith) (omega arith)
        (rest (afters middle reached) (afters_only (may_change to) f reached middle fine_middle only_before) (taken refl))))

  pub branched : ((reached x == 0) ≡ true → Is (afters behind reached to)) → ((reached x == 0) ≡ false → Is (afters behind (afters middle reached) to)) → LeavesAt Is to whole f
  branched skipped taken fetch terms first n low has =
      let p = piece fetch terms first (first + length whole) in
      let size : length whole ≡ length before + (1 + length middle + length behind) = length-append before (branch ∷ (middle ++ behind)) ∙ (ap (λ m. length before + suc m) (length-append middle behind) ∙ omega arith) in
      let place = first + length before in
      let run = locals p (Leaves Is to f) n (1 + length middle + length behind) (may_change to) before f first (Over tt) (has_front fetch first before (branch ∷ (middle ++ behind)) has) fine_before (omega arith) (omega (arith, size))
      (chosen_by p n place (has_back fetch first before (branch ∷ (middle ++ behind)) has) (omega arith) (omega (arith, size)) low (reached x == 0) refl skipped taken) in
      run n (length whole) (omega arith) (omega (arith, size))
