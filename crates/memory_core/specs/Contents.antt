-- A memory as contracts see it.
use Rattle.std.specs.Prelude.{◌≡◌, ℕ, ◌-◌, ◌%◌, Bool, false, List, [], ◌∷◌, ◌++◌, Option, Some, None, option_map, map, filter, length, reverse, if◌then◌else◌}
use Rattle.std.specs.Int.{byte_at}
use Rattle.image_file.specs.Values.{ImageValue}
use Rattle.vax_form.specs.Pages.{is_allowed}
use Rattle.memory_core.specs.declared.entry.Entry.{Entry}
use Rattle.memory_core.specs.declared.entry.Limit.{Limit}
use Rattle.memory_core.specs.declared.entry.Request.{Request}
use Rattle.memory_core.specs.declared.entry.SetUp.{SetUp}
use Rattle.memory_core.specs.Kinds.{is_put}
use Rattle.memory_core.specs.Order.{left_by, entry_of}

-- the history is oldest first; processors are numbered from 0
pub record Contents : Type 0 where
  pub set_up : SetUp
  pub processors : ℕ
  pub history : List Entry

-- a memory without entries
abbrev pub fresh : ImageValue → (input : List ℕ) → (processors : ℕ) → Limit → (miss : ℕ) → Contents
fresh image input processors limit miss =
    record { set_up = record { image = image; input = input; limit = limit; miss = miss }; processors = processors; history = [] }

-- the entry of a request behind a history, which is oldest first
abbrev pub entry_for : SetUp → List Entry → Request → Entry
entry_for set_up history request = entry_of set_up (reverse history) request

-- the bytes that were put, in order
abbrev pub output_of : List Entry → List ℕ
output_of history = map (λ (e : Entry). e.after) (filter (λ (e : Entry). is_put e.kind) history)

-- how many
abbrev pub bytes_put : List Entry → ℕ
bytes_put history = length (output_of history)

-- the quadword of an address of the image's pages, as the history left it
abbrev pub quad_left : SetUp → List Entry → ℕ → Option ℕ
quad_left set_up history address =
    if is_allowed set_up.image.pages address false
    then Some (left_by set_up (reverse history) (address - address % 8))
    else None

-- the byte at an address of the image's pages
abbrev pub byte_left : SetUp → List Entry → ℕ → Option ℕ
byte_left set_up history address = option_map (byte_at (address % 8)) (quad_left set_up history address)

-- the memory has made the request's entry, and before and success are that entry's
pub record Appends (old new : Contents) (request : Request) (before : ℕ) (success : Bool) : Type 0 where
  pub entry : new ≡ record old { history = old.history ++ entry_for old.set_up old.history request ∷ [] }
  pub found : before ≡ (entry_for old.set_up old.history request).before
  pub succeeded : success ≡ (entry_for old.set_up old.history request).success
