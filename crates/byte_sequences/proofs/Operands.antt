-- Registers that are kept, and the parts of an operand of 1, 2, 4 or 8 bytes.
use Rattle.std.proofs.Common.{◌≡◌, ℕ, ◌+◌, ◌-◌, ◌*◌, ◌/◌, ◌%◌, ◌^◌, ◌<◌, ◌≤◌, refl, arith, List, [], ◌∷◌, Bool, true, false, eqb, ne_eqb}
use Rattle.std.specs.Prelude.{pos, nat_lt, nat_le, ◌==◌, if◌then◌else◌}
use Rattle.std.specs.Int.{cast_unsigned, w64}
use Rattle.std.proofs.lemmas.Bool.Decides.{nat_tests}
use Rattle.vt_words.specs.Quad.{IsCount, one as c1, two as c2, four as c4, eight as c8, field_of, crossing}
use Rattle.vt_words.proofs.Spreads.{below_8}
use Rattle.alpha_meaning.specs.Result.{times}
use Rattle.byte_sequences.specs.Instructions.{IsArgument}

-- ---- registers
pub other : (n k : ℕ) → IsArgument n → 24 < k → eqb n k ≡ false
other n k a h = let high = a.high in ne_eqb n k (λ (e : n ≡ k). absurd (omega arith))

-- ---- parts
-- does the operand lie in one quadword?
abbrev pub lies_within : (a c : ℕ) → Bool
lies_within a c = nat_le c (8 - a % 8)

-- the address of the second part
abbrev pub next_of : (a : ℕ) → ℕ
next_of a = (a + (8 - a % 8)) % 2 ^ 32

abbrev pub parts_by : Bool → (a c : ℕ) → List (ℕ × ℕ)
parts_by b a c = if b then (a, c) ∷ [] else (a, 8 - a % 8) ∷ (next_of a, c - (8 - a % 8)) ∷ []

pub is_within : (a c : ℕ) → lies_within a c ≡ true → 1 ≤ c → a % 8 + c ≤ 8
is_within a c e some = grind (arith, nat_tests, e)

pub is_across : (a c : ℕ) → lies_within a c ≡ false → 8 < a % 8 + c
is_across a c e = grind (arith, nat_tests, e)

-- what the sequences test
pub test_same : (a c : ℕ) → 1 ≤ c → c ≤ 8 → nat_lt (a % 8) (9 - c) ≡ lies_within a c
test_same a c some le = grind (arith, nat_tests)

pub byte_within : (a : ℕ) → lies_within a 1 ≡ true
byte_within a = grind (arith, nat_tests)

-- ---- aligned operands
pub aligned_within : (a : ℕ) → a % 4 ≡ 0 → lies_within a 4 ≡ true
aligned_within a h = let le : 4 ≤ 8 - a % 8 = omega arith in grind (arith, nat_tests, le)

pub aligned_within_8 : (a : ℕ) → a % 8 ≡ 0 → lies_within a 8 ≡ true
aligned_within_8 a h = let le : 8 ≤ 8 - a % 8 = omega arith in grind (arith, nat_tests, le)

pub across_8 : (a : ℕ) → 0 < a % 8 → lies_within a 8 ≡ false
across_8 a h = let gt : 8 - a % 8 < 8 = omega arith in grind (arith, nat_tests, gt)

pub eqb_pos : (n : ℕ) → (n == 0) ≡ false → 0 < n
eqb_pos n h = grind (arith, nat_tests, h)

-- bit 2 of the address of a longword that isn't aligned
pub unaligned_within : (a : ℕ) → 0 < a % 4 → (a / 4 % 2 * 4 == 0) ≡ lies_within a 4
unaligned_within a some = grind (arith, nat_tests, some)

pub disp_is : {c : ℕ} → IsCount c → times (cast_unsigned w64 (pos (c - 1))) 1 ≡ c - 1
disp_is c1 = refl
disp_is c2 = refl
disp_is c4 = refl
disp_is c8 = refl

-- where the second part lies
pub next_quad : (a c : ℕ) → c ≤ 8 → a + c ≤ 2 ^ 32 → 8 < a % 8 + c → next_of a ≡ a / 8 * 8 + 8
next_quad a c le fits gt = omega arith

-- ---- the value of an operand that crosses, from its parts
abbrev pub of_parts : (first second o c : ℕ) → ℕ
of_parts first second o c = field_of first o (8 - o) + field_of second 0 (c - (8 - o)) * 2 ^ (8 * (8 - o))

pub crossing_is : {c : ℕ} → IsCount c → (p q : ℕ) → p < 2 ^ 64 → (o : ℕ) → o < 8 → 8 < o + c → crossing p q o c ≡ of_parts p q o c
crossing_is c1 p q h = λ o lt gt. absurd (omega arith)
crossing_is c2 p q h = below_8 (λ o. 8 < o + 2 → crossing p q o 2 ≡ of_parts p q o 2)
    (λ h. absurd (omega arith)) (λ h. absurd (omega arith)) (λ h. absurd (omega arith)) (λ h. absurd (omega arith)) (λ h. absurd (omega arith)) (λ h. absurd (omega arith)) (λ h. absurd (omega arith)) (λ _. omega arith)
crossing_is c4 p q h = below_8 (λ o. 8 < o + 4 → crossing p q o 4 ≡ of_parts p q o 4)
    (λ h. absurd (omega arith)) (λ h. absurd (omega arith)) (λ h. absurd (omega arith)) (λ h. absurd (omega arith)) (λ h. absurd (omega arith)) (λ _. omega arith) (λ _. omega arith) (λ _. omega arith)
crossing_is c8 p q h = below_8 (λ o. 8 < o + 8 → crossing p q o 8 ≡ of_parts p q o 8)
    (λ h. absurd (omega arith)) (λ _. omega arith) (λ _. omega arith) (λ _. omega arith) (λ _. omega arith) (λ _. omega arith) (λ _. omega arith) (λ _. omega arith)
