-- The places of a frame's pushes, and the trees of their checks and of the pushes.
use Rattle.std.proofs.Common.{◌≡◌, ℕ, zero, suc, ◌+◌, ◌-◌, ◌*◌, ◌%◌, ◌^◌, ◌<◌, ◌≤◌, refl, ap, ◌∙◌, arith, List, [], ◌∷◌, None, true}
use Rattle.std.specs.Int.{cast_signed, cast_unsigned, w16, w64}
use Rattle.std.proofs.Math.Facts.{to_z-neg}
use Rattle.alpha_meaning.specs.Result.{plus, times}
use Rattle.vax_form.specs.PageTable.{IsPageTable}
use Rattle.vax_form.specs.Pages.{first_bad}
use Rattle.vax_form.specs.Tree.{Tree, Check, Ask}
use Rattle.vax_form.specs.declared.pages.Pages.{Pages}
use Rattle.vax_form.specs.declared.state.RefKind.TheVariants.{Write}
use Rattle.program_codegen.specs.Calls.{displacement}
use Rattle.program_codegen.proofs.Operands.{first_passes, in_space}

-- ---- places
-- where a push goes, by its number from 1 on
abbrev pub place_of : (frame number : ℕ) → ℕ
place_of frame number = (frame + (2 ^ 32 - 4 * number)) % 2 ^ 32

pub half_high : (l : ℕ) → 2 ^ 15 ≤ l → l < 2 ^ 16 → cast_unsigned w64 (cast_signed w16 l) ≡ 2 ^ 64 - 2 ^ 16 + l
half_high l le lt =
    let is : l ≡ 2 ^ 16 - suc (2 ^ 16 - 1 - l) = omega arith in
    let few : 2 ^ 16 - 1 - l < 2 ^ 15 = omega arith in
    ap (λ x. cast_unsigned w64 (cast_signed w16 x)) is ∙ ap (cast_unsigned w64) (to_z-neg w16 (2 ^ 16 - 1 - l) few) ∙ omega arith

displaced : (number : ℕ) → 1 ≤ number → number ≤ 17 → cast_unsigned w64 (displacement number) ≡ 2 ^ 64 - 4 * number
displaced number some few =
    let low : (2 ^ 32 - 4 * number) % 2 ^ 16 ≡ 2 ^ 16 - 4 * number = omega arith in
    let here = half_high (2 ^ 16 - 4 * number) (omega arith) (omega arith) in
    let sum : 2 ^ 64 - 2 ^ 16 + (2 ^ 16 - 4 * number) ≡ 2 ^ 64 - 4 * number = omega arith in
    ap (λ l. cast_unsigned w64 (cast_signed w16 l)) low ∙ (here ∙ sum)

-- what LDA and STL make of the frame's top and the displacement
abbrev pub at_number : (frame number : ℕ) → ℕ
at_number frame number = plus frame (times (cast_unsigned w64 (displacement number)) 1)

pub in_place : (frame number : ℕ) → frame < 2 ^ 32 → 1 ≤ number → number ≤ 17 → at_number frame number % 2 ^ 32 ≡ place_of frame number
in_place frame number small some few = by (cast_unsigned w64 (displacement number)) (displaced number some few)
  where
    by : (x : ℕ) → x ≡ 2 ^ 64 - 4 * number → plus frame (times x 1) % 2 ^ 32 ≡ (frame + (2 ^ 32 - 4 * number)) % 2 ^ 32
    by x e = omega arith

-- where it does not wrap, they are the place itself
pub at_place_of : (frame number : ℕ) → frame < 2 ^ 32 → 1 ≤ number → number ≤ 17 → 4 * number ≤ frame → at_number frame number ≡ frame - 4 * number
at_place_of frame number small some few le = by (cast_unsigned w64 (displacement number)) (displaced number some few)
  where
    by : (x : ℕ) → x ≡ 2 ^ 64 - 4 * number → plus frame (times x 1) ≡ frame - 4 * number
    by x e = omega arith

pub place_below : (frame number : ℕ) → frame < 2 ^ 32 → number ≤ 17 → 4 * number ≤ frame → place_of frame number ≡ frame - 4 * number
place_below frame number small few le = omega arith

-- ---- what the checks of a frame tell
-- the pushes from a number on may be made
abbrev pub MayPush : Pages → (frame number count : ℕ) → Type 0
MayPush pages frame number zero = Unit {0}
MayPush pages frame number (suc count) = (first_bad pages true (place_of frame number) 4 ≡ None) × MayPush pages frame (number + 1) count

-- a push that may be made goes below the top: pages end at 80000000
pub push_below : (pages : Pages) (frame number : ℕ) → IsPageTable pages → frame < 2 ^ 32 → number ≤ 17 → first_bad pages true (place_of frame number) 4 ≡ None → 4 * number ≤ frame
push_below pages frame number table small few passes =
    let allowed = (first_passes pages true (place_of frame number) 3 passes).0 in
    let low = in_space pages (place_of frame number) true table allowed in
    above (place_of frame number) refl low
  where
    above : (place : ℕ) → place ≡ (frame + (2 ^ 32 - 4 * number)) % 2 ^ 32 → place < 2 ^ 31 → 4 * number ≤ frame
    above place e low = omega arith

-- so all do
pub pushes_below : (pages : Pages) (frame number count : ℕ) → IsPageTable pages → frame < 2 ^ 32 → number + count ≤ 18 → MayPush pages frame number count → 1 ≤ count → 4 * (number + count) ≤ frame + 4
pushes_below pages frame number zero table small few may some = absurd (omega arith)
pushes_below pages frame number (suc zero) table small few may some = let le = push_below pages frame number table small (omega arith) may.0 in omega arith
pushes_below pages frame number (suc (suc count)) table small few may some =
    let le = pushes_below pages frame (number + 1) (suc count) table small (omega arith) may.1 (omega arith) in omega arith

-- ---- trees
-- so many pushes are checked from a number on
abbrev pub checked_from : (frame number count : ℕ) → Tree → Tree
checked_from frame number zero tree = tree
checked_from frame number (suc count) tree = Check (place_of frame number) 4 true (checked_from frame (number + 1) count tree)

-- values are pushed from a number on
abbrev pub pushed_from : (frame number : ℕ) → List ℕ → Tree → Tree
pushed_from frame number [] tree = tree
pushed_from frame number (value ∷ values) tree =
    Ask (record { address = place_of frame number; count = 4; kind = Write value }) (λ reply. pushed_from frame (number + 1) values tree)
