-- What the report takes of a line.
use Rattle.std.specs.Prelude.{◌⊎◌, ℕ, List, codes}
use Rattle.vt_outside.specs.Sink.{SinkMeaning}
use Rattle.vt_outside.specs.Taking.{TookAll, TookSome}

-- the report took the line, or failed in it
abbrev pub Says : (line : List ℕ) → (old new : SinkMeaning) → Type 0
Says line old new = TookAll old new line ⊎ TookSome old new line

abbrev pub usage_line : List ℕ
usage_line = codes "usage: vest COMMAND WORDS\n"
