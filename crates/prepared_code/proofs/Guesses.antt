-- Guesses of the words of a code.
use Rattle.std.proofs.Common.{◌≡◌, ℕ, zero, suc, ◌+◌, ◌<◌, ◌≤◌, if◌then◌else◌, Bool, true, false, nat_lt, ltb-true, ltb-false, List, length, get_or, Some, None, refl, sym, ap, ◌∙◌, ⊎_elim, arith}
use Rattle.std.specs.Prelude.{replicate, slice_get}
use Rattle.std.proofs.Math.ListN.{set}
use Rattle.std.proofs.Math.Path.{fun_ext}
use Rattle.std.proofs.lemmas.List.{get_or-replicate}
use Rattle.std.proofs.lemmas.Option.{get_or_from_slice_get, slice_get_cases, slice_get_within}
use Rattle.block_law.specs.Translations.{Code}
use Rattle.prepared_code.specs.Known.{flat_at, guess, guess_at, guess_of, guess_told, guess_within, later_than, other}
use Rattle.prepared_code.specs.declared.flat.Flat.{Flat}
use Rattle.prepared_code.proofs.Flats.{others}
use Rattle.prepared_code.proofs.Known.{AreKnownFrom, other_behind}

-- ---- behind the words none is told
none_within : (code : Code) (words place : ℕ) → length code.words ≤ place → guess_within code words place ≡ 0
unfolding guess_within
none_within code zero place past = refl
none_within code (suc words) place past = ap (guess_of code (later_than place (guess_within code words)) place) (other_behind code place past)

pub none_guessed : (code : Code) (place : ℕ) → length code.words ≤ place → guess code place ≡ 0
unfolding guess
none_guessed code place past = none_within code (length code.words) place past

-- ---- so many words suffice as are left
enough : (code : Code) (a b place : ℕ) → length code.words ≤ place + a → length code.words ≤ place + b → guess_within code a place ≡ guess_within code b place
unfolding guess_within
enough code zero b place all most = sym (none_within code b place (omega (arith, all)))
enough code (suc a) zero place all most = none_within code (suc a) place (omega (arith, most))
enough code (suc a) (suc b) place all most =
    ap (λ later. guess_of code later place (flat_at code place)) (fun_ext (λ word. by word (nat_lt place word) refl (enough code a b word)))
  where
    by : (word : ℕ) (l : Bool) → nat_lt place word ≡ l
        → (length code.words ≤ word + a → length code.words ≤ word + b → guess_within code a word ≡ guess_within code b word)
        → (if l then guess_within code a word else 0) ≡ (if l then guess_within code b word else 0)
    by word true l same = let later = ltb-true place word l in same (omega (arith, all, later)) (omega (arith, most, later))
    by word false l same = refl

-- ---- one more word, before those that are known
-- none is told yet of the words before one
abbrev pub AreUntold : List Flat → (from : ℕ) → Type 0
AreUntold flats from = (k : ℕ) (f : Flat) → k < from → slice_get flats k ≡ Some f → f.within ≡ 0

pub untold_at_first : (n : ℕ) (flats : List Flat) (from : ℕ) → flats ≡ replicate n other → length flats ≡ n → AreUntold flats from
untold_at_first n flats from is counted k f l found =
    let one : get_or (replicate n other) k f ≡ f = ap (λ (fs : List Flat). get_or fs k f) (sym is) ∙ get_or_from_slice_get flats k f f found in
    let other_there : get_or (replicate n other) k f ≡ other = get_or-replicate n k other f (omega (arith, slice_get_within flats k f found, counted)) in
    ap (λ (g : Flat). g.within) (sym one ∙ other_there)

pub still_untold : (old : List Flat) (place : ℕ) (g : Flat) → AreUntold old (place + 1) → AreUntold (set old place g) place
still_untold old place g are k f l found = are k f (omega (arith, l)) (others old place k g f (λ q. omega (arith, l, q)) found)

pub one_more_guess : (code : Code) (flats : List Flat) (place within : ℕ) (f : Flat) → length flats ≡ length code.words → place < length flats → f ≡ flat_at code place
    → AreKnownFrom code flats (place + 1) → AreUntold flats (place + 1) → within ≡ guess_of code (guess_at flats) place f → within ≡ guess code place
unfolding guess guess_within
one_more_guess code flats place within f counted here is are untold guessed = by (length code.words) refl
  where
    words : ℕ
    words = length code.words

    there : (m word : ℕ) (h : Flat) (l : Bool) → words ≡ suc m → slice_get flats word ≡ Some h → nat_lt place word ≡ l → h.within ≡ (if l then guess_within code m word else 0)
    there m word h true all found l =
        let later = ltb-true place word l in
        ap (λ (g : Flat). g.within) (are word h (omega (arith, later)) found) ∙ enough code words m word (omega arith) (omega (arith, later, all))
    there m word h false all found l = untold word h (omega (arith, ltb-false place word l)) found

    nowhere : (m word : ℕ) (l : Bool) → length flats ≤ word → 0 ≡ (if l then guess_within code m word else 0)
    nowhere m word true past = sym (none_within code m word (omega (arith, past, counted)))
    nowhere m word false past = refl

    told : (m word : ℕ) → words ≡ suc m → guess_at flats word ≡ later_than place (guess_within code m) word
    told m word all =
        ⊎_elim
        (λ (p : (h : Flat) × (word < length flats) × (slice_get flats word ≡ Some h) × (get_or flats word h ≡ h)). ap guess_told p.2 ∙ there m word p.0 (nat_lt place word) all p.2 refl)
        (λ (p : (length flats ≤ word) × (slice_get flats word ≡ None)). ap guess_told p.1 ∙ nowhere m word (nat_lt place word) p.0)
        (slice_get_cases flats word).1

    by : (n : ℕ) → words ≡ n → within ≡ guess_within code n place
    by zero all = absurd (omega (arith, all, counted, here))
    by (suc m) all =
        guessed
        ∙ ap (guess_of code (guess_at flats) place) is
        ∙ ap (λ later. guess_of code later place (flat_at code place)) (fun_ext (λ word. told m word all))
