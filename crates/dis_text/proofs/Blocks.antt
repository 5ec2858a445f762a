-- Where a block ends.
use Rattle.std.proofs.Common.{◌≡◌, ℕ, ◌+◌, List, [], ◌∷◌, ◌++◌, true, cond, refl, ap}
use Rattle.std.specs.Option.{is_some}
use Rattle.address_map.specs.Pairs.{Pair, address_at}
use Rattle.vax_form.specs.Grammar.{wrapped}
use Rattle.dis_text.specs.Words.{alpha_line, lines_behind}

-- at a word with which one begins no line follows
pub none_behind : (pairs : List Pair) (number : ℕ) (words : List ℕ) → is_some (address_at pairs number) ≡ true → lines_behind pairs number words ≡ []
none_behind pairs number [] begins = refl
none_behind pairs number (word ∷ words) begins = ap (λ b. cond b [] (alpha_line pairs number word ++ lines_behind pairs (wrapped (number + 1)) words)) begins
