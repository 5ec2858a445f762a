-- The names and options behind a command.
use Rattle.std.specs.Prelude.{◌==◌, ◌&&◌, ◌||◌, ℕ, Bool, true, false, List, [], ◌∷◌, map}
use Rattle.std.specs.Prelude.{Option, Some, None, if◌then◌else◌, length, find, nat_lt, option_map}
use Rattle.std.specs.List.{list_any, before_first, after_first}
use Rattle.std.specs.Str.{bytes_eq, chars}

-- the bytes of a text
abbrev pub Text : Type 0
Text = List ℕ

-- an option of a command, whether it may stand more than once, and whether it has a value
pub record Choice : Type 0 where
  pub label : Text
  pub repeats : Bool
  pub has_value : Bool

-- a name, or an option with its value, which is empty where it has none
pub data Part : Type 0 where
  named : Text → Part
  chosen : Text → Text → Part

-- the text has a byte
abbrev pub is_filled : Text → Bool
is_filled [] = false
is_filled (x ∷ rest) = true

-- the word begins with a hyphen (45) and has more characters
abbrev pub is_dashed : Text → Bool
is_dashed [] = false
is_dashed (x ∷ rest) = x == 45 && is_filled (chars rest)

-- what stands behind two hyphens, where anything does
abbrev pub behind_hyphens : Text → Option Text
behind_hyphens (x ∷ y ∷ z ∷ rest) = if x == 45 && y == 45 then Some (z ∷ rest) else None
behind_hyphens _ = None

-- the label before the first `=` (61), and the value behind it if there is one
abbrev pub label_and_value : Text → Text × Option Text
label_and_value text = (
  before_first (λ x. x == 61) text,
  if list_any (λ x. x == 61) text then Some (after_first (λ x. x == 61) text) else None,
)

-- `--label` or `--label=value`
abbrev pub option_word : Text → Option (Text × Option Text)
option_word word = option_map label_and_value (behind_hyphens word)

-- the option with the whole label
abbrev pub choice_of : List Choice → Text → Option Choice
choice_of choices label = find (λ o. bytes_eq o.label label) choices

-- the part before the others, where these are parts
abbrev pub with_part : Part → Option (List Part) → Option (List Part)
with_part part rest = option_map (λ parts. part ∷ parts) rest

-- the label of an option, with the value that is attached to it: else its value is the next word, where it has one
abbrev pub choice_parts : Option Choice → Text → Option Text → (Option Text → Option (List Part))
    → Option (List Part)
choice_parts None label value rest = None
choice_parts (Some o) label (Some value) rest =
    if o.has_value then with_part (chosen label value) (rest None) else None
choice_parts (Some o) label None rest =
    if o.has_value then rest (Some label) else with_part (chosen label []) (rest None)

-- an option word
abbrev pub option_parts : List Choice → Text × Option Text → (Option Text → Option (List Part))
    → Option (List Part)
option_parts choices (label, value) rest = choice_parts (choice_of choices label) label value rest

-- a word where no option waits for its value
abbrev pub word_parts : List Choice → Text → Option (Text × Option Text)
    → (Option Text → Option (List Part)) → Option (List Part)
word_parts choices word (Some option) rest = option_parts choices option rest
word_parts choices word None rest =
    if is_dashed word then None else with_part (named word) (rest None)

-- the names and options that the words give, in order, where an option may wait for its value;
-- behind `--` every word is a name
unfoldable pub parts_of : List Choice → List Text → Option Text → Option (List Part)
parts_of choices [] None = Some []
parts_of choices [] (Some label) = None
parts_of choices (word ∷ rest) (Some label) =
    if is_dashed word then None else with_part (chosen label word) (parts_of choices rest None)
parts_of choices (word ∷ rest) None =
    if bytes_eq word (45 ∷ 45 ∷ []) then Some (map named rest)
    else word_parts choices word (option_word word) (parts_of choices rest)

-- the names, in order
abbrev pub names_in : List Part → List Text
names_in [] = []
names_in (named word ∷ rest) = word ∷ names_in rest
names_in (chosen label value ∷ rest) = names_in rest

-- the values of one option
abbrev pub values_in : Text → List Part → List Text
values_in label [] = []
values_in label (named word ∷ rest) = values_in label rest
values_in label (chosen other value ∷ rest) =
    if bytes_eq other label then value ∷ values_in label rest else values_in label rest

-- an option that may not repeat stands at most once
abbrev pub stands_once : List Part → Choice → Bool
stands_once parts o = o.repeats || nat_lt (length (values_in o.label parts)) 2

-- the name, where it is the only one
abbrev pub only_name : List Text → Option Text
only_name (name ∷ []) = Some name
only_name _ = None

-- the names, where there are two
abbrev pub two_names : List Text → Option (Text × Text)
two_names (first ∷ second ∷ []) = Some (first, second)
two_names _ = None

-- the first value, if there is one
abbrev pub first_of : List Text → Option Text
first_of [] = None
first_of (value ∷ rest) = Some value
