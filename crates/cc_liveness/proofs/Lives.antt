-- The recursion from the last instruction of a run to the first finds the codes that are live.
use Rattle.std.proofs.Common.{◌≡◌, ℕ, zero, suc, ◌<◌, ◌≤◌, refl, sym, ap, ◌∙◌, arith, Bool, true, false, ◌||◌, List, [], ◌∷◌, ◌++◌, length, reverse}
use Rattle.std.proofs.Math.Nat.{suc_inj}
use Rattle.std.proofs.lemmas.Grind.{reverse_onto}
use Rattle.std.specs.Prelude.{◌⊎◌, if◌then◌else◌}
use Rattle.std.proofs.lemmas.Bool.{or_cases, or_left, or_right}
use mathlib.Core.Logic.◌⊎◌.{inl, inr}
use Rattle.vax_form.specs.declared.state.Flags.{Flags}
use Rattle.cc_liveness.specs.declared.uses.CodeUse.{CodeUse}
use Rattle.vax_form.specs.Codes.{Code, negative, zero_code, overflow, carry, holds, all}
use Rattle.cc_liveness.specs.Liveness.{at, reads, writes, ends, IsLive, passes, wanted_before, live_behind, wanted_by, live_codes, RecursionIsLiveness}

-- Codes one by one

pub holds_all : (code : Code) → holds code all ≡ true
holds_all negative = refl
holds_all zero_code = refl
holds_all overflow = refl
holds_all carry = refl

holds_either : (code : Code) (ended : Bool) (wanted : Flags) → holds code (if ended then all else wanted) ≡ (ended || holds code wanted)
holds_either code true wanted = holds_all code
holds_either code false wanted = refl

holds_before : (code : Code) (instruction : CodeUse) (live : Flags)
    → holds code (wanted_before instruction live) ≡ passes (reads code instruction) (writes code instruction) (holds code live)
holds_before negative instruction live = refl
holds_before zero_code instruction live = refl
holds_before overflow instruction live = refl
holds_before carry instruction live = refl

at_last : (code : Code) (instruction : CodeUse) → holds code (live_behind instruction (wanted_by [])) ≡ (instruction.ends || holds code all)
at_last code instruction = holds_either code instruction.ends all

one_on : (code : Code) (instruction next : CodeUse) (rest : List CodeUse)
    → holds code (live_behind instruction (wanted_by (next ∷ rest)))
    ≡ (instruction.ends || passes (reads code next) (writes code next) (holds code (live_behind next (wanted_by rest))))
one_on code instruction next rest =
    holds_either code instruction.ends (wanted_by (next ∷ rest))
    ∙ ap (λ b. instruction.ends || b) (holds_before code next (live_behind next (wanted_by rest)))

-- Tests

passes_is : (read written live : Bool) → passes read written live ≡ true → (read ≡ true) ⊎ ((written ≡ false) × (live ≡ true))
passes_is true written live is = inl refl
passes_is false true live is = absurd (cc is)
passes_is false false live is = inr (refl, is)

pub read_passes : (read written live : Bool) → read ≡ true → passes read written live ≡ true
read_passes true written live is = refl
read_passes false written live is = absurd (cc is)

pub unwritten_passes : (read written live : Bool) → written ≡ false → live ≡ true → passes read written live ≡ true
unwritten_passes true written live not_written is = refl
unwritten_passes false true live not_written is = absurd (cc not_written)
unwritten_passes false false live not_written is = is

-- Places, with one instruction more in front

-- the j-th instruction ends, or is the last, or stands before one that reads the code
abbrev IsWanted : Code → List CodeUse → ℕ → Type 0
IsWanted code run j = (at ends run j ≡ true) ⊎ ((suc j ≡ length run) ⊎ (at (reads code) run (suc j) ≡ true))

-- none of the instructions behind the i-th up to the j-th writes the code
abbrev IsUnwritten : Code → List CodeUse → (i j : ℕ) → Type 0
IsUnwritten code run i j = (k : ℕ) → i < k → k ≤ j → at (writes code) run k ≡ false

wanted_on : (code : Code) (first : CodeUse) (run : List CodeUse) (j : ℕ) → IsWanted code run j → IsWanted code (first ∷ run) (suc j)
wanted_on code first run j (inl is) = inl is
wanted_on code first run j (inr (inl is)) = inr (inl (ap suc is))
wanted_on code first run j (inr (inr is)) = inr (inr is)

wanted_back : (code : Code) (first : CodeUse) (run : List CodeUse) (j : ℕ) → IsWanted code (first ∷ run) (suc j) → IsWanted code run j
wanted_back code first run j (inl is) = inl is
wanted_back code first run j (inr (inl is)) = inr (inl (suc_inj is))
wanted_back code first run j (inr (inr is)) = inr (inr is)

unwritten_on : (code : Code) (first : CodeUse) (run : List CodeUse) (i j : ℕ) → IsUnwritten code run i j → IsUnwritten code (first ∷ run) (suc i) (suc j)
unwritten_on code first run i j unwritten zero above below = absurd (omega (arith, above))
unwritten_on code first run i j unwritten (suc k) above below = unwritten k (omega (arith, above)) (omega (arith, below))

unwritten_back : (code : Code) (first : CodeUse) (run : List CodeUse) (i j : ℕ) → IsUnwritten code (first ∷ run) (suc i) (suc j) → IsUnwritten code run i j
unwritten_back code first run i j unwritten k above below = unwritten (suc k) (omega (arith, above)) (omega (arith, below))

unwritten_first : (code : Code) (first next : CodeUse) (rest : List CodeUse) (j : ℕ) → writes code next ≡ false
    → IsUnwritten code (next ∷ rest) 0 j → IsUnwritten code (first ∷ next ∷ rest) 0 (suc j)
unwritten_first code first next rest j not_written unwritten zero above below = absurd (omega (arith, above))
unwritten_first code first next rest j not_written unwritten (suc zero) above below = not_written
unwritten_first code first next rest j not_written unwritten (suc (suc k)) above below = unwritten (suc k) (omega arith) (omega (arith, below))

unwritten_rest : (code : Code) (first next : CodeUse) (rest : List CodeUse) (j : ℕ)
    → IsUnwritten code (first ∷ next ∷ rest) 0 (suc j) → IsUnwritten code (next ∷ rest) 0 j
unwritten_rest code first next rest j unwritten k above below = unwritten (suc k) (omega arith) (omega (arith, below))

-- What the recursion finds is live

live_at_once : (code : Code) (run : List CodeUse) (i : ℕ) → IsWanted code run i → IsLive code run i
live_at_once code run i wanted = record {
  j = i;
  onward = omega arith;
  unwritten = λ k above below. absurd (omega (arith, above, below));
  wanted = wanted;
}

live_first_on : (code : Code) (first next : CodeUse) (rest : List CodeUse) → writes code next ≡ false
    → IsLive code (next ∷ rest) 0 → IsLive code (first ∷ next ∷ rest) 0
live_first_on code first next rest not_written live = record {
  j = suc live.j;
  onward = omega arith;
  unwritten = unwritten_first code first next rest live.j not_written live.unwritten;
  wanted = wanted_on code first (next ∷ rest) live.j live.wanted;
}

live_on : (code : Code) (first : CodeUse) (run : List CodeUse) (i : ℕ) → IsLive code run i → IsLive code (first ∷ run) (suc i)
live_on code first run i live = record {
  j = suc live.j;
  onward = omega (arith, live.onward);
  unwritten = unwritten_on code first run i live.j live.unwritten;
  wanted = wanted_on code first run live.j live.wanted;
}

first_live : (code : Code) (first : CodeUse) (rest : List CodeUse) → holds code (live_behind first (wanted_by rest)) ≡ true → IsLive code (first ∷ rest) 0
first_live code first [] is = live_at_once code (first ∷ []) 0 (inr (inl refl))
first_live code first (next ∷ rest) is =
    elim (or_cases first.ends _ (sym (one_on code first next rest) ∙ is)) [
      | inl ended ↦ live_at_once code (first ∷ next ∷ rest) 0 (inl ended)
      | inr passed ↦ elim (passes_is (reads code next) (writes code next) _ passed) [
        | inl read ↦ live_at_once code (first ∷ next ∷ rest) 0 (inr (inr read))
        | inr through ↦ live_first_on code first next rest through.0 (first_live code next rest through.1)
      ]
    ]

each_live : (code : Code) (run : List CodeUse) (i : ℕ) → at (holds code) (live_codes run) i ≡ true → IsLive code run i
each_live code [] i is = absurd (cc is)
each_live code (first ∷ rest) zero is = first_live code first rest is
each_live code (first ∷ rest) (suc i) is = live_on code first rest i (each_live code rest i is)

-- What is live the recursion finds

first_found : (code : Code) (first : CodeUse) (rest : List CodeUse) (j : ℕ) → IsUnwritten code (first ∷ rest) 0 j → IsWanted code (first ∷ rest) j
    → holds code (live_behind first (wanted_by rest)) ≡ true
first_found code first [] j unwritten wanted = at_last code first ∙ or_right first.ends _ (holds_all code)
first_found code first (next ∷ rest) zero unwritten (inl ended) = one_on code first next rest ∙ or_left first.ends _ ended
first_found code first (next ∷ rest) zero unwritten (inr (inl last)) = absurd (omega (arith, last))
first_found code first (next ∷ rest) zero unwritten (inr (inr read)) =
    one_on code first next rest ∙ or_right first.ends _ (read_passes (reads code next) (writes code next) _ read)
first_found code first (next ∷ rest) (suc j) unwritten wanted =
    one_on code first next rest
    ∙ or_right first.ends _ (unwritten_passes (reads code next) (writes code next) _ (unwritten 1 (omega arith) (omega arith))
    (first_found code next rest j (unwritten_rest code first next rest j unwritten) (wanted_back code first (next ∷ rest) j wanted)))

each_found : (code : Code) (run : List CodeUse) (i j : ℕ) → i ≤ j → IsUnwritten code run i j → IsWanted code run j
    → at (holds code) (live_codes run) i ≡ true
each_found code [] i j onward unwritten (inl is) = absurd (cc is)
each_found code [] i j onward unwritten (inr (inl is)) = absurd (omega (arith, is))
each_found code [] i j onward unwritten (inr (inr is)) = absurd (cc is)
each_found code (first ∷ rest) zero j onward unwritten wanted = first_found code first rest j unwritten wanted
each_found code (first ∷ rest) (suc i) zero onward unwritten wanted = absurd (omega (arith, onward))
each_found code (first ∷ rest) (suc i) (suc j) onward unwritten wanted =
    each_found code rest i j (omega (arith, onward)) (unwritten_back code first rest i j unwritten) (wanted_back code first rest j wanted)

count_found : (run : List CodeUse) → length (live_codes run) ≡ length run
count_found [] = refl
count_found (first ∷ rest) = ap suc (count_found rest)

pub recursion_is_liveness : RecursionIsLiveness
recursion_is_liveness run = record {
  count = count_found run;
  live = λ code i. (each_live code run i, λ live. each_found code run i live.j live.onward live.unwritten live.wanted);
}

-- One step of the walk from the last instruction to the first

pub found_more : (instruction : CodeUse) (rest : List CodeUse) (before after : List Flags) (behind live : Flags)
    → before ≡ reverse (live_codes rest) → behind ≡ wanted_by rest → live ≡ live_behind instruction behind
    → after ≡ before ++ live ∷ [] → after ≡ reverse (live_codes (instruction ∷ rest))
found_more instruction rest before after behind live found wanted is pushed =
    pushed ∙ ap (λ (xs : List Flags). xs ++ live ∷ []) found
    ∙ ap (λ (x : Flags). reverse (live_codes rest) ++ x ∷ []) (is ∙ ap (live_behind instruction) wanted)
    ∙ sym (reverse_onto (live_codes rest) (live_behind instruction (wanted_by rest)) [])

pub wanted_more : (instruction : CodeUse) (rest : List CodeUse) (behind live earlier : Flags)
    → behind ≡ wanted_by rest → live ≡ live_behind instruction behind → earlier ≡ wanted_before instruction live
    → earlier ≡ wanted_by (instruction ∷ rest)
wanted_more instruction rest behind live earlier wanted is found =
    found ∙ ap (wanted_before instruction) (is ∙ ap (live_behind instruction) wanted)
