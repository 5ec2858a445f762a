use Rattle.std.proofs.Common.{◌≡◌, ◌≤◌, ◌∷◌, length, take}
use Rattle.translated_file.proofs.refusal.TranslatedRefusal.numbers.Given as goal

abbrev pub invariant-loop-number : goal.invariant-loop-number
invariant-loop-number l = record { so_far : l.numbers.items ≡ 4 ∷ take l.number-index l.number-items; few : length l.number-items ≤ 3 }
