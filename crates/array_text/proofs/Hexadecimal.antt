-- The hexadecimal digits of a number, from its last one; how many there are; and that they tell the number.
use Rattle.std.proofs.Common.{◌≡◌, ◌<◌, ◌≤◌, ◌+◌, ◌-◌, ◌*◌, ◌/◌, ◌%◌, ◌^◌, ℕ, zero, suc, List, [], ◌∷◌, ◌++◌, cond, length, length-append, arith, refl, sym, ap, ◌∙◌, lt-ltb, ltb, ⊎_elim}
use Rattle.std.proofs.lemmas.Bool.{cases_lt, le-ltb}
use Rattle.std.proofs.lemmas.Bool.Decides.{nat_tests}
use Rattle.array_text.specs.Hexadecimal.{digit, digits_within, hexadecimal}

-- ---- from the last digit

one_place : (k n : ℕ) → n < 16 → digits_within (suc k) n ≡ digit n ∷ []
unfolding digits_within
one_place k n h = ap (λ t. cond t (digit n ∷ []) (digits_within k (n / 16) ++ digit (n % 16) ∷ [])) (lt-ltb n 16 h)

more_places : (k n : ℕ) → 16 ≤ n → digits_within (suc k) n ≡ digits_within k (n / 16) ++ digit (n % 16) ∷ []
unfolding digits_within
more_places k n h = ap (λ t. cond t (digit n ∷ []) (digits_within k (n / 16) ++ digit (n % 16) ∷ [])) (le-ltb n 16 h)

-- how many places there are doesn't matter where they are enough
enough : (j k n : ℕ) → n < 16 ^ suc j → n < 16 ^ suc k → digits_within (suc j) n ≡ digits_within (suc k) n
enough zero k n p q = one_place zero n (omega arith) ∙ sym (one_place k n (omega arith))
enough (suc j) zero n p q = one_place (suc j) n (omega arith) ∙ sym (one_place zero n (omega arith))
enough (suc j) (suc k) n p q = ⊎_elim
    (λ l. one_place (suc j) n l ∙ sym (one_place (suc k) n l))
    (λ l. more_places (suc j) n l ∙ ap (λ ds. ds ++ digit (n % 16) ∷ []) (enough j k (n / 16) (omega arith) (omega arith))
    ∙ sym (more_places (suc k) n l))
    (cases_lt n 16)

pub hexadecimal_one : (n : ℕ) → n < 16 → hexadecimal n ≡ digit n ∷ []
unfolding hexadecimal
hexadecimal_one n h = one_place 15 n h

pub hexadecimal_more : (n : ℕ) → 16 ≤ n → n < 2 ^ 64 → hexadecimal n ≡ hexadecimal (n / 16) ++ digit (n % 16) ∷ []
unfolding hexadecimal
hexadecimal_more n h small =
    more_places 15 n h ∙ ap (λ ds. ds ++ digit (n % 16) ∷ []) (enough 14 15 (n / 16) (omega arith) (omega arith))

pub hexadecimal_longer : (n : ℕ) → 16 ≤ n → n < 2 ^ 64 → length (hexadecimal n) ≡ length (hexadecimal (n / 16)) + 1
hexadecimal_longer n h small = ap length (hexadecimal_more n h small) ∙ length-append (hexadecimal (n / 16)) (digit (n % 16) ∷ [])

-- ---- how many

-- a number below 16 ^ k has at most k digits
pub hexadecimal_places : (k n : ℕ) → 0 < k → n < 16 ^ k → n < 2 ^ 64 → length (hexadecimal n) ≤ k
hexadecimal_places zero n some below small = absurd (omega arith)
hexadecimal_places (suc zero) n some below small = omega (arith, ap length (hexadecimal_one n (omega arith)))
hexadecimal_places (suc (suc k)) n some below small = ⊎_elim
    (λ l. omega (arith, ap length (hexadecimal_one n l)))
    (λ l. omega (arith, hexadecimal_longer n l small, hexadecimal_places (suc k) (n / 16) (omega arith) (omega arith) (omega arith)))
    (cases_lt n 16)

pub longword_places : (n : ℕ) → n < 2 ^ 32 → length (hexadecimal n) ≤ 8
longword_places n h = hexadecimal_places 8 n (omega arith) (omega arith) (omega arith)

pub quadword_places : (n : ℕ) → n < 2 ^ 64 → length (hexadecimal n) ≤ 16
quadword_places n h = hexadecimal_places 16 n (omega arith) (omega arith) h

-- ---- back to the number

value_of : ℕ → ℕ
value_of c = cond (ltb c 58) (c - 48) (c - 55)

value_after : ℕ → List ℕ → ℕ
value_after n [] = n
value_after n (c ∷ cs) = value_after (n * 16 + value_of c) cs

value_more : (n c : ℕ) (cs : List ℕ) → value_after n (cs ++ c ∷ []) ≡ value_after n cs * 16 + value_of c
unfolding value_after
value_more n c [] = refl
value_more n c (d ∷ cs) = value_more (n * 16 + value_of d) c cs

value_digit : (n : ℕ) → n < 16 → value_of (digit n) ≡ n
unfolding value_of
value_digit n h = grind (arith, nat_tests)

value_within : (k n : ℕ) → n < 16 ^ k → value_after 0 (digits_within k n) ≡ n
unfolding digits_within value_after
value_within zero n h = omega arith
value_within (suc k) n h = ⊎_elim
    (λ l. ap (value_after 0) (one_place k n l) ∙ omega (arith, value_digit n l))
    (λ l. ap (value_after 0) (more_places k n l) ∙ value_more 0 (digit (n % 16)) (digits_within k (n / 16))
    ∙ omega (arith, value_within k (n / 16) (omega arith), value_digit (n % 16) (omega arith)))
    (cases_lt n 16)

pub hexadecimal_injective : (m n : ℕ) → m < 2 ^ 64 → n < 2 ^ 64 → hexadecimal m ≡ hexadecimal n → m ≡ n
unfolding hexadecimal
hexadecimal_injective m n p q e =
    sym (value_within 16 m (omega arith)) ∙ ap (value_after 0) e ∙ value_within 16 n (omega arith)
