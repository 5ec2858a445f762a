-- Each instruction is in one run.
use Rattle.std.proofs.Common.{◌≡◌, ◌<◌, ◌≤◌, ℕ, zero, suc, refl, sym, ap, ◌∙◌, subst, arith, List, [], ◌∷◌, length, get_or, Option, Some, None}
use Rattle.std.specs.Prelude.{Contains}
use Rattle.std.specs.Option.{option_map_or}
use Rattle.vax_form.specs.declared.instr.Instr.{Instr}
use Rattle.code_runs.specs.Runs.{AreInOrder, Follow, IsRun, joined_to}
use Rattle.code_runs.specs.Codes.{before_in_run, behind_in_run}
use Rattle.code_runs.specs.Promises.{EachInOneRun, IsInOneRun}
use Rattle.code_runs.proofs.Joined.{joined}
use Rattle.code_runs.proofs.Chains.{before_more, before_none, behind_follows, follow_is}

-- the places, of which the nearest come first, before others
onto : (before after : List ℕ) → List ℕ
onto [] after = after
onto (place ∷ before) after = onto before (place ∷ after)

onto_contains : (before after : List ℕ) (place : ℕ) → Contains after place → Contains (onto before after) place
unfolding onto
onto_contains [] after place h = h
onto_contains (p ∷ before) after place h = onto_contains before (p ∷ after) place (suc h.0, omega (arith, h.1), h.2)

module _ (instrs : List Instr) (order : AreInOrder instrs) where
  through : (place : ℕ) → List ℕ
  through place = onto (before_in_run instrs (length instrs) place) (place ∷ behind_in_run instrs (length instrs) place)

  begins : (most place : ℕ) (rest : List ℕ) → place ≤ most → place < length instrs → Follow instrs place rest → IsRun instrs (onto (before_in_run instrs most place) (place ∷ rest))
  unfolding onto
  begins zero place rest enough within h = by (joined_to instrs place) refl
    where
      by : (o : Option ℕ) → joined_to instrs place ≡ o → IsRun instrs (place ∷ rest)
      by None e = (within, e, h)
      by (Some other) e = let j = joined instrs order other place e in let before = j.before in absurd (omega arith)
  begins (suc most) place rest enough within h = by (joined_to instrs place) refl (begins most)
    where
      by : (o : Option ℕ) → joined_to instrs place ≡ o
          → ((other : ℕ) (more : List ℕ) → other ≤ most → other < length instrs → Follow instrs other more → IsRun instrs (onto (before_in_run instrs most other) (other ∷ more)))
          → IsRun instrs (onto (option_map_or (λ n. n ∷ before_in_run instrs most n) o []) (place ∷ rest))
      by None e further = (within, e, h)
      by (Some other) e further =
          let j = joined instrs order other place e in
          let before = j.before in
          further other (place ∷ rest) (omega arith) (omega arith) (within, e, h)

  is_through : (before : List ℕ) (first : ℕ) (rest : List ℕ) (place k : ℕ) → before ≡ before_in_run instrs (length instrs) first → first < length instrs → Follow instrs first rest
      → k < length (first ∷ rest) → get_or (first ∷ rest) k place ≡ place → onto before (first ∷ rest) ≡ through place
  unfolding onto through
  is_through before first rest place zero b within h lt e =
      let all = ap (λ (ps : List ℕ). onto ps (first ∷ rest)) b ∙ ap (λ (ps : List ℕ). onto (before_in_run instrs (length instrs) first) (first ∷ ps)) (sym (follow_is instrs order first rest h)) in
      subst (λ p. onto before (first ∷ rest) ≡ onto (before_in_run instrs (length instrs) p) (p ∷ behind_in_run instrs (length instrs) p)) e all
  is_through before first [] place (suc k) b within h lt e = absurd (omega arith)
  is_through before first (next ∷ rest) place (suc k) b within h lt e =
      is_through (first ∷ before) next rest place k
      (ap (λ (ps : List ℕ). first ∷ ps) b ∙ sym (before_more instrs order (length instrs) next first (omega (arith, h.0)) h.1))
      h.0 h.2 (omega arith) e

  alone : (place : ℕ) (other : List ℕ) → IsRun instrs other → Contains other place → other ≡ through place
  unfolding onto
  alone place [] h c = absurd h
  alone place (first ∷ rest) h c =
      is_through [] first rest place c.0 (sym (before_none instrs order (length instrs) first h.1)) h.0 h.2 c.1 c.2

  its_run : (place : ℕ) → place < length instrs → IsRun instrs (through place)
  unfolding through
  its_run place lt = begins (length instrs) place (behind_in_run instrs (length instrs) place) (omega arith) lt (behind_follows instrs order (length instrs) place (omega arith))

  its_place : (place : ℕ) → Contains (through place) place
  unfolding through
  its_place place = onto_contains (before_in_run instrs (length instrs) place) (place ∷ behind_in_run instrs (length instrs) place) place (0, omega arith, refl)

  in_one_run : (place : ℕ) → place < length instrs → IsInOneRun instrs place
  in_one_run place lt = record {
    run = through place;
    is_run = its_run place lt;
    contains = its_place place;
    alone = alone place;
  }

pub each_in_one_run : EachInOneRun
each_in_one_run instrs order place lt = in_one_run instrs order place lt
