-- The cut at a row's first space.
use mathlib.Core.Path.{◌≡◌, refl, sym, subst, ap, ◌∙◌}
use mathlib.Core.Bool.{false}
use mathlib.Core.List.{List, [], ◌∷◌}
use Prim.Native.Nat.{ℕ, ◌≤◌}
use native.Mathlib.Omega.{arith}
use lib.Dec.{eqb}
use lib.ListN.{length, get_or}
use denote.Ref.{Bor}
use borrow.Author.Tests.{ne_eqb}
use Rattle.std.specs.Option.{MatchOption}
use Rattle.std.specs.declared.option.Option.{Option}
use Rattle.std.specs.declared.option.Option.TheVariants.{None, Some}
use Rattle.std.proofs.lemmas.List.Elements.{All-from_get_or}
use Rattle.std.proofs.lemmas.List.Splits.{slice_split_at, slice_split_none, length-slice_split}
use Rattle.std.proofs.lemmas.Str.Pattern.{IsSplitOnceResult, split_parts}
use Rattle.row_tally.specs.Rows.{fields_of}

abbrev pub IsCut : List ℕ → Option (Bor (List ℕ) × Bor (List ℕ)) → Type 0
IsCut row r = MatchOption r (fields_of row ≡ row ∷ []) (λ cut. (fields_of row ≡ cut.0.now ∷ fields_of cut.1.now) × (1 ≤ length (fields_of cut.1.now)))

pub IsCut-from_split_once : (row : List ℕ) (r : Option (Bor (List ℕ) × Bor (List ℕ))) → IsSplitOnceResult 32 row r → IsCut row r
IsCut-from_split_once row None h =
    let no = split_parts 32 row None h (omega arith) in
    slice_split_none (λ b. eqb b 32) row (All-from_get_or (λ b. eqb b 32 ≡ false) row 0 (λ i l. ne_eqb (get_or row i 0) 32 (no i l)))
IsCut-from_split_once row (Some x) h =
    let parts = split_parts 32 row (Some x) h (omega arith) in (
      ap fields_of parts.0 ∙ slice_split_at (λ b. eqb b 32) x.0.now 32 x.1.now (All-from_get_or (λ b. eqb b 32 ≡ false) x.0.now 0 (λ i l. ne_eqb (get_or x.0.now i 0) 32 (parts.1 i l))) refl,
      subst (λ n. 1 ≤ n) (sym (length-slice_split (λ b. eqb b 32) x.1.now)) (omega arith),
    )
