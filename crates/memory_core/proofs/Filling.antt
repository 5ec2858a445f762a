-- Bytes copied one after the other.
use Rattle.std.proofs.Common.{◌≡◌, ℕ, ◌<◌, ◌+◌, ◌==◌, List, length, if◌then◌else◌, slice_index, slice_set, ◌∙◌, arith}
use Rattle.std.proofs.lemmas.Bool.Decides.{nat_tests}
use Rattle.std.proofs.lemmas.Grind.{elements}
use Rattle.std.proofs.lemmas.List.{length-set}
use Rattle.memory_core.specs.Bytes.{quad_of}

set_at : (bytes : List ℕ) (at k v : ℕ) → at < length bytes → slice_index (slice_set bytes at v) k ≡ (if k == at then v else slice_index bytes k)
set_at bytes at k v h = grind (arith, elements, nat_tests)

pub same_quad : (f g : ℕ → ℕ) → ((k : ℕ) → k < 8 → f k ≡ g k) → quad_of f ≡ quad_of g
same_quad f g h =
    let a0 : f 0 ≡ g 0 = h 0 (omega arith) in
    let a1 : f 1 ≡ g 1 = h 1 (omega arith) in
    let a2 : f 2 ≡ g 2 = h 2 (omega arith) in
    let a3 : f 3 ≡ g 3 = h 3 (omega arith) in
    let a4 : f 4 ≡ g 4 = h 4 (omega arith) in
    let a5 : f 5 ≡ g 5 = h 5 (omega arith) in
    let a6 : f 6 ≡ g 6 = h 6 (omega arith) in
    let a7 : f 7 ≡ g 7 = h 7 (omega arith) in
    cc

-- the bytes below `at` are those of the list from `offset` on
pub record Copied (list : List ℕ) (offset : ℕ) (bytes : List ℕ) (at : ℕ) : Type 0 where
  pub long : length bytes ≡ 8
  pub done : (k : ℕ) → k < at → slice_index bytes k ≡ slice_index list (offset + k)

module _ (list : List ℕ) (offset : ℕ) (bytes : List ℕ) (at v : ℕ) (f : Copied list offset bytes at) where
  copied_done : at < length bytes → v ≡ slice_index list (offset + at) → (k : ℕ) → k < at + 1 → slice_index (slice_set bytes at v) k ≡ slice_index list (offset + k)
  copied_done h e k l = grind (arith, nat_tests, set_at bytes at k v h, f.done k, e)

  pub copied_more : at < 8 → v ≡ slice_index list (offset + at) → Copied list offset (slice_set bytes at v) (at + 1)
  copied_more h e =
      let within : at < length bytes = omega (arith, f.long) in
      record { long = length-set bytes at v ∙ f.long; done = copied_done within e }

pub copied_all : (list : List ℕ) (offset : ℕ) (bytes : List ℕ) → Copied list offset bytes 8 → quad_of (λ k. slice_index bytes k) ≡ quad_of (λ k. slice_index list (offset + k))
copied_all list offset bytes f = same_quad (λ k. slice_index bytes k) (λ k. slice_index list (offset + k)) f.done
