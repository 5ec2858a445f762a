-- Parts of an image, and what is asked of an image made of a program, as numbers and lists.
use Rattle.std.specs.Prelude.{ℕ, List}
use Rattle.image_file.specs.declared.image.Start.{Start}
use Rattle.image_file.specs.Values.{SectionValue}
use Rattle.image_parts.specs.declared.options.Functions.{Functions}

-- a section of size 0 is as long as what it stores
pub record PartsValue : Type 0 where
  pub threads : List Start
  pub sections : List SectionValue
  pub entries : List ℕ

-- the addresses at which threads start, of which none is the program's own; the bytes of each thread's stack; which
-- symbols become entries, and further entries
pub record OptionsValue : Type 0 where
  pub starts : List ℕ
  pub stack : ℕ
  pub functions : Functions
  pub entries : List ℕ
