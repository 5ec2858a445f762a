-- What an image has, and what its translation makes of it.
use Rattle.std.specs.Prelude.{ℕ, Bool, ◌==◌, ◌&&◌, not, List, [], ◌∷◌, ◌++◌, codes, length, filter, if◌then◌else◌}
use Rattle.std.specs.List.{flat_map, range_with_len}
use Rattle.image_file.specs.Spelling.{spelling}
use Rattle.image_file.specs.Values.{ImageValue}
use Rattle.vax_form.specs.declared.instr.Instr.{Instr}
use Rattle.vax_form.specs.declared.pages.Pages.{Pages}
use Rattle.flow_discovery.specs.Mapped.{has_block}
use Rattle.vax_text.specs.Names.{name_of}
use Rattle.image_text.specs.Lines.{number, counted, thread_line, section_line, entry_line, hint_line, numbered, open_line, stop_lines, service_line}

abbrev pub image_line : ImageValue → List ℕ
image_line image = codes "image version" ++ number image.version ++ codes " bytes" ++ number (length (spelling image)) ++ 10 ∷ []

-- a reached instruction that has no block
abbrev pub is_interpreted : Pages → Instr → Bool
is_interpreted pages instr = not (has_block instr pages)

abbrev pub reached_line : Pages → List Instr → (mapped words : ℕ) → List ℕ
reached_line pages instrs mapped words =
    counted (codes "reached") (length instrs) ++ counted (codes " mapped") mapped ++ counted (codes " interpreted") (length (filter (is_interpreted pages) instrs)) ++ counted (codes " words") words ++ 10 ∷ []

-- of an opcode whose instructions have no block, how many are reached
abbrev pub has_opcode : Pages → ℕ → Instr → Bool
has_opcode pages opcode instr = (instr.opcode == opcode) && is_interpreted pages instr

abbrev pub opcode_line : ℕ → (count : ℕ) → List ℕ
opcode_line opcode count = codes "interpreted " ++ name_of opcode ++ number count ++ 10 ∷ []

abbrev pub opcode_text : ℕ → (count : ℕ) → List ℕ
opcode_text opcode count = if count == 0 then [] else opcode_line opcode count

abbrev pub interpreted_line : Pages → List Instr → ℕ → List ℕ
interpreted_line pages instrs opcode = opcode_text opcode (length (filter (has_opcode pages opcode) instrs))

-- all opcodes
unfoldable pub opcodes : List ℕ
opcodes = range_with_len 0 256

-- the tables of the image, and the hints of its translation
unfoldable pub tables_text : ImageValue → (hints : List ℕ) → List ℕ
tables_text image hints =
    image_line image ++ numbered thread_line 0 image.threads ++ numbered section_line 0 image.sections ++ numbered entry_line 0 image.entries ++ numbered hint_line 0 hints

-- the reached instructions, by what is told of each
unfoldable pub flow_text : ImageValue → List Instr → (mapped words : ℕ) → List ℕ
flow_text image instrs mapped words =
    reached_line image.pages instrs mapped words ++ flat_map (interpreted_line image.pages instrs) opcodes
    ++ flat_map open_line instrs ++ flat_map (stop_lines image.pages) instrs ++ flat_map service_line instrs

-- the whole text of an image, of a translation's hints, of the reached instructions, and of the numbers of mapped addresses and of words
unfoldable pub show_text : ImageValue → (hints : List ℕ) → List Instr → (mapped words : ℕ) → List ℕ
show_text image hints instrs mapped words = tables_text image hints ++ flow_text image instrs mapped words
