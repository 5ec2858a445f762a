-- Images as numbers and lists.
use Rattle.std.specs.Prelude.{ℕ, Bool, List}
use Rattle.vax_form.specs.PageTable.{PageTable}
use Rattle.image_file.specs.declared.image.Start.{Start}

pub record SectionValue : Type 0 where
  pub start : ℕ
  pub size : ℕ
  pub writable : Bool
  pub stored : List ℕ

pub record ImageValue : Type 0 where
  pub version : ℕ
  pub threads : List Start
  pub sections : List SectionValue
  pub entries : List ℕ
  pub pages : PageTable
