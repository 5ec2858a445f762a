-- A translation of nothing meets every judgement.
use Rattle.std.proofs.Common.{◌≡◌, ℕ, List, [], Some, length, sym, ap, ◌∙◌, subst, arith}
use Rattle.address_map.specs.Pairs.{Pair, AllRise, word_at}
use Rattle.exception_records.specs.Points.{Entry, WordsRise}
use Rattle.block_law.specs.Translations.{Meaning, Permit, Code, Meets}
use Rattle.block_law.specs.Empty.{IsEmpty}

none_there : (map : List Pair) (address first : ℕ) → map ≡ [] → word_at map address ≡ Some first → ⊥
none_there map address first none at = let never : word_at [] address ≡ Some first = ap (λ (m : List Pair). word_at m address) (sym none) ∙ at in absurd cc

nothing_meets : (meaning : Meaning) (permit : Permit) (code : Code) → code.words ≡ [] → code.map ≡ [] → code.points ≡ [] → Meets meaning permit code
nothing_meets meaning permit code words map points = record {
  few = omega (arith, ap length words);
  map_rises = subst (λ (m : List Pair). AllRise m) (sym map) (λ k d inside. absurd (omega arith));
  points_rise = subst (λ (p : List Entry). WordsRise p) (sym points) (λ k d inside. absurd (omega arith));
  blocks = λ address first at. absurd (none_there code.map address first map at);
}

pub empty_meets : (meaning : Meaning) (permit : Permit) (code : Code) → IsEmpty code → Meets meaning permit code
empty_meets meaning permit code empty = nothing_meets meaning permit code empty.words empty.map empty.points
