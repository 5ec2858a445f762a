-- One more of the numbers from 0 on.
use Rattle.std.proofs.Common.{◌≡◌, ℕ, zero, suc, ◌+◌, List, [], ◌∷◌, ◌++◌, sym, ap, ◌∙◌, arith, add-one, append_assoc}
use Rattle.std.specs.List.{flat_map, range_with_len}
use Rattle.image_text.specs.Text.{opcodes}
use Rattle.std.proofs.lemmas.List.{append-nil}
use Rattle.std.proofs.lemmas.Grind.{flat_map-append}

range_suc : (a k : ℕ) → range_with_len a (suc k) ≡ range_with_len a k ++ (a + k) ∷ []
range_suc a zero = let same : a ≡ a + 0 = omega arith in ap (λ n. n ∷ []) same
range_suc a (suc k) =
    let same : a + 1 + k ≡ a + suc k = omega arith in
    ap (λ rest. a ∷ rest) (range_suc (a + 1) k ∙ ap (λ n. range_with_len (a + 1) k ++ n ∷ []) same)

pub range_more : (k : ℕ) → range_with_len 0 (k + 1) ≡ range_with_len 0 k ++ k ∷ []
range_more k =
    let same : 0 + k ≡ k = omega arith in
    ap (range_with_len 0) (add-one k) ∙ range_suc 0 k ∙ ap (λ n. range_with_len 0 k ++ n ∷ []) same

pub flat_more : (f : ℕ → List ℕ) (old out new : List ℕ) (k : ℕ) → out ≡ old ++ flat_map f (range_with_len 0 k) → new ≡ out ++ f k → new ≡ old ++ flat_map f (range_with_len 0 (k + 1))
flat_more f old out new k before more =
    let all : flat_map f (range_with_len 0 (k + 1)) ≡ flat_map f (range_with_len 0 k) ++ f k =
    ap (flat_map f) (range_more k) ∙ flat_map-append f (range_with_len 0 k) (k ∷ []) ∙ ap (λ rest. flat_map f (range_with_len 0 k) ++ rest) (append-nil (f k)) in
    more ∙ ap (λ o. o ++ f k) before ∙ append_assoc old (flat_map f (range_with_len 0 k)) (f k) ∙ ap (λ rest. old ++ rest) (sym all)

pub all_opcodes : (n : ℕ) → n ≡ 256 → range_with_len 0 n ≡ opcodes
unfolding opcodes
all_opcodes n is = ap (range_with_len 0) is
