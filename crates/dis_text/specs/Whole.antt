-- The pieces of a section are its bytes, each in just one of them, save those of instructions that begin inside others.
use Rattle.std.specs.Prelude.{◌≡◌, ◌≤◌, ◌<◌, ℕ, ◌+◌, max, List, [], ◌∷◌, Some, None}
use Rattle.vax_form.specs.declared.instr.Instr.{Instr}
use Rattle.vax_form.specs.declared.pages.Pages.{Pages}
use Rattle.dis_text.specs.Bytes.{count_of}
use Rattle.dis_text.specs.Pieces.{Covered, Piece, bytes, instruction, pieces, word, zeros}

abbrev pub end_of : Piece → ℕ
end_of (instruction instr inside) = instr.at + count_of instr
end_of (word at target) = at + 2
end_of (bytes at count) = at + count
end_of (zeros at count) = at + count

-- A piece begins just where those before it end; an instruction that is inside another begins before.
abbrev pub Begins : (reached : ℕ) → Piece → Type 0
Begins reached (instruction instr None) = instr.at ≡ reached
Begins reached (instruction instr (Some other)) = instr.at < reached
Begins reached (word at target) = at ≡ reached
Begins reached (bytes at count) = at ≡ reached
Begins reached (zeros at count) = at ≡ reached

-- each of them does, where those before the first end at that address
unfoldable pub AllBegin : (reached : ℕ) → List Piece → Type 0
AllBegin reached [] = Unit {0}
AllBegin reached (piece ∷ more) = Begins reached piece × AllBegin (max reached (end_of piece)) more

-- where the pieces end
unfoldable pub last_end : (reached : ℕ) → List Piece → ℕ
last_end reached [] = reached
last_end reached (piece ∷ more) = last_end (max reached (end_of piece)) more

-- from the first address that is not covered before to the section's end, or behind it where an instruction goes on there
abbrev pub IsWhole : Type 0
IsWhole = (pages : Pages) (stored end : ℕ) (c : Covered) (instrs : List Instr)
    → AllBegin c.end (pieces pages stored end c instrs) × (end ≤ last_end c.end (pieces pages stored end c instrs))
