-- Where blocks stand: the pairs of their map.
use Rattle.std.proofs.Common.{◌≡◌, ℕ, zero, suc, ◌+◌, ◌*◌, ◌<◌, ◌≤◌, ◌++◌, refl, ◌∙◌, ap, arith, add-zero, nat_lt, eqb, cond, List, [], ◌∷◌, length, take, get_or, All, eqb-true, Bool, true, false, Some, None}
use Rattle.std.specs.Prelude.{find, slice_get}
use Rattle.std.specs.List.{AllAdjacentBelow}
use Rattle.std.specs.Option.{option_map}
use Rattle.std.proofs.lemmas.Bool.{ne_eqb}
use Rattle.std.proofs.lemmas.Bool.Decides.{nat_tests}
use Rattle.std.proofs.lemmas.List.Sums.{sum_by-cons, sum_by_more, sum_by_more_le, sum_by-le}
use Rattle.address_map.specs.Pairs.{Pair, AllRise, word_at, address_at}
use Rattle.std.proofs.lemmas.Option.{slice_get-get_or, slice_get_within, get_or_from_slice_get}
use Rattle.address_map.proofs.Lookups.{word_at-pair, address_at-pair}
use Rattle.block_law.specs.Translations.{next_first}
use Rattle.branch_layout.specs.Layouts.{Sized, places, words_of}

abbrev pub size : Sized → ℕ
size block = block.1

words_cons : (b : Sized) (bs : List Sized) → words_of (b ∷ bs) ≡ size b + words_of bs
words_cons b bs = sum_by-cons size b bs

pub places-append : (f : ℕ) (bs cs : List Sized) → places f (bs ++ cs) ≡ places f bs ++ places (f + words_of bs) cs
places-append f [] cs = rw add-zero refl
places-append f (b ∷ bs) cs =
    let e : f + size b + words_of bs ≡ f + words_of (b ∷ bs) = omega (arith, words_cons b bs) in
    ap (λ (ps : List Pair). (b.0, f) ∷ ps) (places-append (f + size b) bs cs ∙ ap (λ n. places (f + size b) bs ++ places n cs) e)

-- the pair of a block
pub places_get : (f : ℕ) (bs : List Sized) (i : ℕ) (b : Sized) (d : Pair) → slice_get bs i ≡ Some b → get_or (places f bs) i d ≡ (b.0, f + words_of (take i bs))
places_get f [] i b d e = cc
places_get f (c ∷ bs) zero b d e = let same : c ≡ b = cc in rw (same, add-zero) refl
places_get f (c ∷ bs) (suc i) b d e =
    let there : f + size c + words_of (take i bs) ≡ f + words_of (c ∷ take i bs) = omega (arith, words_cons c (take i bs)) in
    places_get (f + size c) bs i b d e ∙ ap (λ (n : ℕ). (b.0, n)) there

pub places_length : (f : ℕ) (bs : List Sized) → length (places f bs) ≡ length bs
places_length f [] = refl
places_length f (b ∷ bs) = ap suc (places_length (f + size b) bs)

-- what stands where there is none
no_size : Sized
no_size = (0, 0)

pub places_rise : (f : ℕ) (bs : List Sized) → AllAdjacentBelow (λ b c. b.0 < c.0) bs (length bs) → ((i : ℕ) (b : Sized) → slice_get bs i ≡ Some b → 1 ≤ size b) → AllRise (places f bs)
places_rise f bs rise some k d lt =
    let count = places_length f bs in
    let here : k < length bs = omega arith in
    let there : k + 1 < length bs = omega arith in
    let first = slice_get-get_or bs k no_size here in
    let second = slice_get-get_or bs (k + 1) no_size there in
    let has = some k (get_or bs k no_size) first in
    let more = sum_by_more size bs k no_size here in
    rw (places_get f bs k (get_or bs k no_size) d first, places_get f bs (k + 1) (get_or bs (k + 1) no_size) d second) (rise k no_size there, omega arith)

-- the first word of a block, and the block that begins at a word
pub mapped : (f : ℕ) (bs : List Sized) (i : ℕ) (b : Sized) → AllRise (places f bs) → slice_get bs i ≡ Some b → word_at (places f bs) b.0 ≡ Some (f + words_of (take i bs))
mapped f bs i b rise e =
    let within = slice_get_within bs i b e in
    let count = places_length f bs in
    rw (places_get f bs i b (0, 0) e) at (word_at-pair (places f bs) i (0, 0) rise (omega arith))

pub starts : (f : ℕ) (bs : List Sized) (i : ℕ) (b : Sized) → AllRise (places f bs) → slice_get bs i ≡ Some b → address_at (places f bs) (f + words_of (take i bs)) ≡ Some b.0
starts f bs i b rise e =
    let within = slice_get_within bs i b e in
    let count = places_length f bs in
    rw (places_get f bs i b (0, 0) e) at (address_at-pair (places f bs) i (0, 0) rise (omega arith))

-- a mapped address has a block
pub record IsPlace (f : ℕ) (bs : List Sized) (address word : ℕ) : Type 0 where
  pub place : ℕ
  pub block : Sized
  pub is : slice_get bs place ≡ Some block
  pub its : block.0 ≡ address
  pub first : word ≡ f + words_of (take place bs)

pub placed_of : (f : ℕ) (bs : List Sized) (address word : ℕ) → word_at (places f bs) address ≡ Some word → IsPlace f bs address word
placed_of f [] address word e = cc
placed_of f (b ∷ bs) address word e = by (eqb b.0 address) refl (placed_of (f + size b) bs address word) e
  where
    by : (t : Bool) → eqb b.0 address ≡ t → (word_at (places (f + size b) bs) address ≡ Some word → IsPlace (f + size b) bs address word)
        → option_map (λ (p : Pair). p.1) (cond t (Some (b.0, f)) (find (λ p. eqb p.0 address) (places (f + size b) bs))) ≡ Some word → IsPlace f (b ∷ bs) address word
    by true same later e = let here : f ≡ word = cc in record { place = 0; block = b; is = refl; its = eqb-true b.0 address same; first = omega arith }
    by false other later e =
        let h = later e in
        let at = h.first in
        let more = words_cons b (take h.place bs) in
        record { place = suc h.place; block = h.block; is = h.is; its = h.its; first = omega arith }

-- the next first word behind a block
next : (first g : ℕ) (bs : List Sized) → first < g → next_first (find (λ pair. nat_lt first pair.1) (places g bs)) (g + words_of bs) ≡ g
next first g [] lt = add-zero g
next first g (b ∷ bs) lt = let yes : nat_lt first g ≡ true = grind (arith, nat_tests) in rw yes refl

pub behind : (f : ℕ) (bs : List Sized) (i : ℕ) (b : Sized) (first last : ℕ) → first ≡ f + words_of (take i bs) → last ≡ f + words_of bs → slice_get bs i ≡ Some b → 1 ≤ size b
    → next_first (find (λ pair. nat_lt first pair.1) (places f bs)) last ≡ first + size b
behind f [] i b first last is_first is_last e some = cc
behind f (c ∷ bs) zero b first last is_first is_last e some =
    let here : first ≡ f = omega arith in
    let same : c ≡ b = cc in
    let size_is : size c ≡ size b = ap size same in
    let no : nat_lt first f ≡ false = grind (arith, nat_tests) in
    let more = words_cons c bs in
    let all : last ≡ f + size c + words_of bs = omega arith in
    rw no (rw all (next first (f + size c) bs (omega arith) ∙ omega arith))
behind f (c ∷ bs) (suc i) b first last is_first is_last e some =
    let more = words_cons c (take i bs) in
    let more_all = words_cons c bs in
    let no : nat_lt first f ≡ false = grind (arith, nat_tests) in
    rw no (behind (f + size c) bs i b first last (omega arith) (omega arith) e some)

-- no block begins before the first of them
before : (g word : ℕ) (bs : List Sized) → word < g → address_at (places g bs) word ≡ None
before g word [] lt = refl
before g word (b ∷ bs) lt =
    let no : eqb g word ≡ false = ne_eqb g word (λ same. absurd (omega arith)) in
    rw no (before (g + size b) word bs (omega arith))

-- no block begins behind the first word of another
pub alone : (f : ℕ) (bs : List Sized) (i : ℕ) (b : Sized) (word : ℕ) → slice_get bs i ≡ Some b → f + words_of (take i bs) < word → word < f + words_of (take i bs) + size b
    → address_at (places f bs) word ≡ None
alone f [] i b word e low high = cc
alone f (c ∷ bs) zero b word e low high =
    let same : c ≡ b = cc in
    let size_is : size c ≡ size b = ap size same in
    let no : eqb f word ≡ false = ne_eqb f word (λ same. absurd (omega arith)) in
    rw no (before (f + size c) word bs (omega arith))
alone f (c ∷ bs) (suc i) b word e low high =
    let more = words_cons c (take i bs) in
    let no : eqb f word ≡ false = ne_eqb f word (λ same. absurd (omega arith)) in
    rw no (alone (f + size c) bs i b word e (omega arith) (omega arith))

-- how many words there are
pub words_below : (bs : List Sized) (i : ℕ) (b : Sized) → slice_get bs i ≡ Some b → words_of (take i bs) + size b ≤ words_of bs
words_below bs i b e = rw (get_or_from_slice_get bs i b b e) at (sum_by_more_le size bs i b (slice_get_within bs i b e))

pub words_few : (bs : List Sized) → All (λ b. b.1 ≤ 256) bs → words_of bs ≤ length bs * 256
words_few bs small = sum_by-le size 256 bs small
