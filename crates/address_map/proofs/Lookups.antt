-- What is found in a list of pairs that rise.
use Rattle.std.proofs.Common.{◌≡◌, ◌<◌, ℕ, refl, ap, List, length, get_or, Option, Some}
use Rattle.std.specs.Option.{option_map}
use Rattle.rising_lists.specs.Rising.{KeysRise}
use Rattle.rising_lists.proofs.Lookups.{find_at}
use Rattle.address_map.specs.Pairs.{AllRise, Pair, address_at, word_at}

pub addresses_rise : (ps : List Pair) → AllRise ps → KeysRise (λ (p : Pair). p.0) ps
addresses_rise ps rise = λ k d h. (rise k d h).0

pub words_rise : (ps : List Pair) → AllRise ps → KeysRise (λ (p : Pair). p.1) ps
words_rise ps rise = λ k d h. (rise k d h).1

-- each pair of a rising list is looked up as it stands there
pub word_at-pair : (ps : List Pair) (i : ℕ) (d : Pair) → AllRise ps → i < length ps → word_at ps (get_or ps i d).0 ≡ Some (get_or ps i d).1
word_at-pair ps i d rise within =
    ap (λ (o : Option Pair). option_map (λ (p : Pair). p.1) o) (find_at (λ (p : Pair). p.0) ps i (get_or ps i d).0 d (addresses_rise ps rise) within refl)

pub address_at-pair : (ps : List Pair) (i : ℕ) (d : Pair) → AllRise ps → i < length ps → address_at ps (get_or ps i d).1 ≡ Some (get_or ps i d).0
address_at-pair ps i d rise within =
    ap (λ (o : Option Pair). option_map (λ (p : Pair). p.0) o) (find_at (λ (p : Pair). p.1) ps i (get_or ps i d).1 d (words_rise ps rise) within refl)
