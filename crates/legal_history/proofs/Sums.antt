-- Numbers of entries, summed over processors.
use Rattle.std.proofs.Common.{◌≡◌, ℕ, zero, suc, ◌+◌, ◌*◌, ◌<◌, ◌≤◌, ◌==◌, Bool, true, false, if◌then◌else◌, List, [], ◌∷◌, length, refl, sym, ap, ◌∙◌, arith, ◌⊎◌, inl, ⊎_elim}
use Rattle.std.specs.List.{AllByRecursion}
use Rattle.std.proofs.lemmas.Bool.Decides.{nat_tests}
use Rattle.memory_core.specs.declared.entry.Entry.{Entry}
use Rattle.memory_core.specs.Order.{own}
use Rattle.system_model.specs.Counted.{is_counted}
use Rattle.legal_history.specs.Entries.{fails, counted_in, failed_in}

-- the sum over the first processors
abbrev pub sum_below : ℕ → (ℕ → ℕ) → ℕ
sum_below zero f = 0
sum_below (suc n) f = sum_below n f + f n

one : (n p x sf sg fn gn : ℕ) → gn ≡ (if p == n then x + fn else fn) → ((n ≤ p) × (sg ≡ sf)) ⊎ ((p < n) × (sg ≡ x + sf)) → ((suc n ≤ p) × (sg + gn ≡ sf + fn)) ⊎ ((p < suc n) × (sg + gn ≡ x + (sf + fn)))
one n p x sf sg fn gn e h = grind (arith, nat_tests)

more_below : (n p x : ℕ) (f g : ℕ → ℕ) → ((t : ℕ) → g t ≡ (if p == t then x + f t else f t)) → ((n ≤ p) × (sum_below n g ≡ sum_below n f)) ⊎ ((p < n) × (sum_below n g ≡ x + sum_below n f))
more_below zero p x f g h = inl (omega arith, refl)
more_below (suc n) p x f g h = one n p x (sum_below n f) (sum_below n g) (f n) (g n) (h n) (more_below n p x f g h)

abbrev pub weigh : (Entry → ℕ) → List Entry → ℕ
weigh f [] = 0
weigh f (e ∷ h) = f e + weigh f h

weigh_if : (f : Entry → ℕ) (b : Bool) (e : Entry) (mine : List Entry) → weigh f (if b then e ∷ mine else mine) ≡ (if b then f e + weigh f mine else weigh f mine)
weigh_if f true e mine = refl
weigh_if f false e mine = refl

none_below : (n : ℕ) → sum_below n (λ t. 0) ≡ 0
none_below zero = refl
none_below (suc n) = omega (arith, none_below n)

-- what is added over the history is added over each processor's own entries
by_processor : (n : ℕ) (f : Entry → ℕ) (h : List Entry) → AllByRecursion (λ e. e.processor < n) h → weigh f h ≡ sum_below n (λ t. weigh f (own t h))
by_processor n f [] below = sym (none_below n)
by_processor n f (e ∷ h) below =
    let rest = by_processor n f h below.1 in
    let more = more_below n e.processor (f e) (λ t. weigh f (own t h)) (λ t. weigh f (own t (e ∷ h))) (λ t. weigh_if f (e.processor == t) e (own t h)) in
    ⊎_elim (λ a. let lt : e.processor < n = below.0 in absurd (omega (arith, a.0))) (λ b. ap (λ m. f e + m) rest ∙ sym b.1) more

sum_bound : (n : ℕ) (f g : ℕ → ℕ) → ((t : ℕ) → f t ≤ 2 * g t + 1) → sum_below n f ≤ 2 * sum_below n g + n
sum_bound zero f g h = omega arith
sum_bound (suc n) f g h = omega (arith, sum_bound n f g h, h n)

abbrev each_one : Entry → ℕ
each_one e = 1

abbrev each_kept : Entry → ℕ
each_kept e = (if is_counted e then 1 else 0) + (if fails e.kind e.success then 1 else 0)

length_is : (h : List Entry) → length h ≡ weigh each_one h
length_is [] = refl
length_is (e ∷ h) = omega (arith, length_is h)

one_more : (b c : Bool) (m n w : ℕ) → m + n ≡ w → (if b then suc m else m) + (if c then suc n else n) ≡ (if b then 1 else 0) + (if c then 1 else 0) + w
one_more true true m n w h = omega arith
one_more true false m n w h = omega arith
one_more false true m n w h = omega arith
one_more false false m n w h = omega arith

kept_is : (h : List Entry) → counted_in h + failed_in h ≡ weigh each_kept h
kept_is [] = refl
kept_is (e ∷ h) = one_more (is_counted e) (fails e.kind e.success) (counted_in h) (failed_in h) (weigh each_kept h) (kept_is h)

-- where each processor's own entries have a bound, all entries have its sum
pub all_entries : (n : ℕ) (h : List Entry) → AllByRecursion (λ e. e.processor < n) h → ((t : ℕ) → length (own t h) ≤ 2 * (counted_in (own t h) + failed_in (own t h)) + 1) → length h ≤ 2 * (counted_in h + failed_in h) + n
all_entries n h below each =
    let bound = sum_bound n (λ t. weigh each_one (own t h)) (λ t. weigh each_kept (own t h)) (λ t. omega (arith, each t, length_is (own t h), kept_is (own t h))) in
    omega (arith, bound, length_is h, kept_is h, by_processor n each_one h below, by_processor n each_kept h below)

-- a processor beyond the last has no entries
own_of : (b : Bool) (e : Entry) (mine : List Entry) → b ≡ false → mine ≡ [] → (if b then e ∷ mine else mine) ≡ []
own_of true e mine h k = absurd (cc h)
own_of false e mine h k = k

other_number : (a b n : ℕ) → a < n → n ≤ b → (a == b) ≡ false
other_number a b n h k = grind (arith, nat_tests)

pub own_none : (n : ℕ) (h : List Entry) (t : ℕ) → AllByRecursion (λ e. e.processor < n) h → n ≤ t → own t h ≡ []
own_none n [] t below k = refl
own_none n (e ∷ h) t below k = own_of (e.processor == t) e (own t h) (other_number e.processor t n below.0 k) (own_none n h t below.1 k)
