-- The map both ways.
use Rattle.std.proofs.Common.{◌≡◌, ◌<◌, ◌==◌, ℕ, suc, Bool, true, false, if◌then◌else◌, refl, sym, ap, ◌∙◌, arith, List, [], ◌∷◌, length, get_or, Some}
use Rattle.std.specs.Prelude.{find}
use Rattle.std.specs.Option.{option_map}
use Rattle.std.proofs.lemmas.Bool.{eqb-true}
use Rattle.address_map.specs.Pairs.{AllRise, Pair, address_at, word_at}
use Rattle.address_map.proofs.Lookups.{word_at-pair}

record IsPlace (ps : List Pair) (w a : ℕ) (d : Pair) : Type 0 where
  place : ℕ
  within : place < length ps
  address : (get_or ps place d).0 ≡ a
  word : (get_or ps place d).1 ≡ w

found_place : (ps : List Pair) (w a : ℕ) (d : Pair) → address_at ps w ≡ Some a → IsPlace ps w a d
found_place [] w a d h = absurd (cc h)
found_place (p ∷ ps) w a d h = by (p.1 == w) refl h (found_place ps w a d)
  where
    by : (b : Bool) → (p.1 == w) ≡ b → option_map (λ (q : Pair). q.0) (if b then Some p else find (λ (q : Pair). q.1 == w) ps) ≡ Some a → (address_at ps w ≡ Some a → IsPlace ps w a d) → IsPlace (p ∷ ps) w a d
    by true e h again = record { place = 0; within = omega arith; address = cc h; word = eqb-true p.1 w e }
    by false e h again = let r = again h in record { place = suc r.place; within = omega (arith, r.within); address = r.address; word = r.word }

-- the address of a mapped word is mapped to it
pub there_and_back : (ps : List Pair) (w a : ℕ) → AllRise ps → address_at ps w ≡ Some a → word_at ps a ≡ Some w
there_and_back ps w a rise h =
    let d : Pair = (0, 0) in
    let r = found_place ps w a d h in
    ap (word_at ps) (sym r.address) ∙ word_at-pair ps r.place d rise r.within ∙ ap Some r.word
