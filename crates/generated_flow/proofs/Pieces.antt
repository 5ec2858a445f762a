-- The flow of code that is made of instructions which go on behind themselves.
use Rattle.std.proofs.Common.{◌≡◌, ℕ, zero, suc, ◌+◌, ◌^◌, ◌<◌, ◌≤◌, true, false, ◌||◌, List, [], ◌∷◌, ◌++◌, length, get_or, refl, sym, ap, ◌∙◌, arith, inl, inr, nat_eq, append_assoc, length-append}
use Rattle.std.specs.List.{AllByRecursion}
use Rattle.std.specs.Option.{option_map_or}
use Rattle.std.proofs.lemmas.Bool.{cases_lt}
use Rattle.std.proofs.lemmas.Bool.Decides.{nat_tests}
use Rattle.vax_form.specs.Grammar.{Found, instruction, wrapped}
use Rattle.flow_discovery.specs.Flow.{goes_on}
use Rattle.vax_form.specs.Targets.{has}
use Rattle.flow_discovery.specs.Reach.{Member, decodes, instruction_at, instruction_in, start, step, successors}
use Rattle.report_text.proofs.GeneratedLaws.{table_with}
use Rattle.generated_flow.proofs.Fetching.{no_end, part_here, stands}
use Rattle.generated_flow.proofs.Forms.{Goes}

abbrev pub joined : List (List ℕ) → List ℕ
joined [] = []
joined (p ∷ ps) = p ++ joined ps

-- where a piece begins
abbrev pub offset : ℕ → List (List ℕ) → ℕ
offset zero ps = 0
offset (suc j) [] = 0
offset (suc j) (p ∷ ps) = length p + offset j ps

pub joined-append : (ps qs : List (List ℕ)) → joined (ps ++ qs) ≡ joined ps ++ joined qs
joined-append [] qs = refl
joined-append (p ∷ ps) qs = ap (λ t. p ++ t) (joined-append ps qs) ∙ sym (append_assoc p (joined ps) (joined qs))

pub offset_grows : (ps : List (List ℕ)) (j k : ℕ) → j ≤ k → offset j ps ≤ offset k ps
offset_grows ps zero k le = omega arith
offset_grows ps (suc j) zero le = absurd (omega (arith, le))
offset_grows [] (suc j) (suc k) le = omega arith
offset_grows (p ∷ ps) (suc j) (suc k) le = omega (arith, offset_grows ps j k (omega (arith, le)))

offset_next : (ps : List (List ℕ)) (j : ℕ) → j < length ps → offset (suc j) ps ≡ offset j ps + length (get_or ps j [])
offset_next [] j lt = absurd (omega (arith, lt))
offset_next (p ∷ ps) zero lt = omega arith
offset_next (p ∷ ps) (suc j) lt = omega (arith, offset_next ps j (omega (arith, lt)))

offset_end : (ps : List (List ℕ)) → offset (length ps) ps ≡ length (joined ps)
offset_end [] = refl
offset_end (p ∷ ps) = omega (arith, offset_end ps, length-append p (joined ps))

offset_small : (ps : List (List ℕ)) (j : ℕ) → j ≤ length ps → offset j ps ≤ length (joined ps)
offset_small ps j le = omega (arith, offset_grows ps j (length ps) le, offset_end ps)

-- the code in front of a piece, and behind it
record Parted (ps : List (List ℕ)) (j : ℕ) : Type 0 where
  front : List ℕ
  back : List ℕ
  whole : joined ps ≡ (front ++ get_or ps j []) ++ back
  size : length front ≡ offset j ps

parted : (ps : List (List ℕ)) (j : ℕ) → j < length ps → Parted ps j
parted [] j lt = absurd (omega (arith, lt))
parted (p ∷ ps) zero lt = record { front = []; back = joined ps; whole = refl; size = refl }
parted (p ∷ ps) (suc j) lt =
    let rest = parted ps j (omega (arith, lt)) in
    record {
      front = p ++ rest.front;
      back = rest.back;
      whole = ap (λ t. p ++ t) rest.whole ∙ sym (append_assoc p (rest.front ++ get_or ps j []) rest.back)
          ∙ ap (λ t. t ++ rest.back) (sym (append_assoc p rest.front (get_or ps j [])));
      size = length-append p rest.front ∙ ap (λ n. length p + n) rest.size;
    }

-- a piece is a short instruction that goes on behind itself
pub record Flows (p : List ℕ) : Type 0 where
  pub goes : (at : ℕ) → Goes at p
  pub short : length p ≤ 64

flows_at : (ps : List (List ℕ)) (j : ℕ) → AllByRecursion Flows ps → j < length ps → Flows (get_or ps j [])
flows_at [] j all lt = absurd (omega (arith, lt))
flows_at (p ∷ ps) zero all lt = all.0
flows_at (p ∷ ps) (suc j) all lt = flows_at ps j all.1 (omega (arith, lt))

same_test : (a b : ℕ) → (nat_eq a b || false) ≡ true → a ≡ b
same_test a b h = grind (arith, nat_tests)

module _ (ps : List (List ℕ)) (all : AllByRecursion Flows ps) (some : 0 < length ps) (few : length (joined ps) ≤ 2 ^ 19)
    (starts : List ℕ) (front : (a : ℕ) → has starts a ≡ true → a ≡ 65536) where
  -- a piece goes on to the next one
  next : (j : ℕ) → j < length ps
      → successors (table_with (joined ps)) (65536 + offset j ps) ≡ wrapped (65536 + offset (suc j) ps) ∷ []
  unfolding instruction_at
  next j lt =
      let piece : List ℕ = get_or ps j [] in
      let parts = parted ps j lt in
      let flows = flows_at ps j all lt in
      let at : ℕ = 65536 + length parts.front in
      let goes = flows.goes at in
      let here = part_here (joined ps) parts.front piece parts.back parts.whole few in
      let found = stands (table_with (joined ps)) at piece (instruction goes.instr) here flows.short goes.spells in
      let begins : 65536 + offset j ps ≡ at = ap (λ n. 65536 + n) (sym parts.size) in
      let ends : at + length piece ≡ 65536 + offset (suc j) ps = omega (arith, offset_next ps j lt, parts.size) in
      ap (successors (table_with (joined ps))) begins
      ∙ ap (λ (f : Found). option_map_or (goes_on (table_with (joined ps))) (instruction_in f) []) found
      ∙ goes.goes (table_with (joined ps))
      ∙ ap (λ n. wrapped n ∷ []) ends

  -- what can be reached begins a piece
  pub place : (a : ℕ) → Member (table_with (joined ps)) starts a → (j : ℕ) × (j < length ps) × (a ≡ 65536 + offset j ps)
  place _ (start a h d) = (0, some, front a h)
  place _ (step a b m h d) =
      let from = place a m in
      let later = next from.0 from.1 in
      let is : b ≡ wrapped (65536 + offset (suc from.0) ps) =
      same_test b _ (ap (λ (xs : List ℕ). has xs b) (sym (ap (successors (table_with (joined ps))) from.2 ∙ later)) ∙ h) in
      let small : offset (suc from.0) ps ≤ length (joined ps) = offset_small ps (suc from.0) (omega (arith, from.1)) in
      let there : b ≡ 65536 + offset (suc from.0) ps = omega (arith, is, small, few) in
      elim (cases_lt (suc from.0) (length ps)) [
        | inl lt ↦ (suc from.0, lt, there)
        | inr ge ↦
            let last : suc from.0 ≡ length ps = omega (arith, ge, from.1) in
            let end : b ≡ 65536 + length (joined ps) = there ∙ ap (λ j. 65536 + offset j ps) last ∙ ap (λ n. 65536 + n) (offset_end ps) in
            let wrong : true ≡ false = sym d ∙ ap (decodes (table_with (joined ps))) end ∙ no_end (joined ps) few in
            absurd cc
      ]
