-- Command lines: a command's title, and its names and options behind it in any order.
use Rattle.std.specs.Prelude.{List, [], ◌∷◌, Option, Some, None, if◌then◌else◌, find, option_and_then}
use Rattle.std.specs.List.{list_all}
use Rattle.std.specs.Str.{bytes_eq}
use Rattle.command_words.specs.Parts.{Choice, Part, Text, parts_of, stands_once}

-- a command: its title, and the options that may stand behind it
pub record Form : Type 0 where
  pub title : Text
  pub choices : List Choice

-- the form with the title
abbrev pub form_of : List Form → Text → Option Form
form_of forms word = find (λ f. bytes_eq f.title word) forms

-- the form with its parts, where no option stands too often
abbrev pub form_line : Form → Option (List Part) → Option (Form × List Part)
form_line f None = None
form_line f (Some parts) = if list_all (stands_once parts) f.choices then Some (f, parts) else None

-- the command that the first word names, and the names and options behind it
abbrev pub line_of : List Form → List Text → Option (Form × List Part)
line_of forms [] = None
line_of forms (word ∷ words) =
    option_and_then (λ f. form_line f (parts_of f.choices words None)) (form_of forms word)
