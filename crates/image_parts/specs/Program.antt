-- The image of a program: its sections, its threads with their stacks, and its entries.
use Rattle.std.specs.Prelude.{ℕ, true, ◌+◌, ◌-◌, ◌*◌, ◌^◌, ◌&&◌, ◌||◌, ◌==◌, not, Bool, List, [], ◌∷◌, ◌++◌, length, map, filter, fold, insert, position, slice_index, unwrap_or, replicate, nat_lt, Result, Ok, if◌then◌else◌}
use Rattle.std.specs.List.{list_any, range_with_len}
use Rattle.vax_form.specs.PageTable.{page_size}
use Rattle.vax_form.specs.Targets.{has}
use Rattle.image_file.specs.declared.image.Start.{Start}
use Rattle.image_file.specs.Limits.{FIRST_REGISTERS}
use Rattle.image_file.specs.Rows.{page_bytes}
use Rattle.image_file.specs.Memory.{has_address}
use Rattle.image_file.specs.Values.{SectionValue}
use Rattle.image_file.specs.Steps.{◌>>=◌, refuse_at}
use Rattle.elf_file.specs.Values.{ProgramValue}
use Rattle.elf_file.specs.Program.{program_of}
use Rattle.elf_file.specs.Symbols.{functions_named}
use Rattle.elf_file.specs.declared.refusal.ElfRefusal.{ElfRefusal}
use Rattle.image_parts.specs.declared.options.Functions.{Functions}
use Rattle.image_parts.specs.declared.options.Functions.TheVariants.{Procedures, Routines, Omitted}
use Rattle.image_parts.specs.declared.refusal.MakeRefusal.{MakeRefusal}
use Rattle.image_parts.specs.declared.refusal.MakeRefusal.TheVariants.{SharedPage, StartOutside}
use Rattle.image_parts.specs.Values.{PartsValue, OptionsValue}
use Rattle.image_parts.specs.Refusal.{of_elf, refused_as}
use Rattle.image_parts.specs.Parts.{parts_bytes}
use Rattle.image_parts.specs.Segments.{span_of, first_clash}
use Rattle.image_parts.specs.Sections.{sections_of}

-- ---- threads and stacks

-- where the first thread's stack ends
abbrev pub STACKS_END : ℕ
STACKS_END = 0x7FFF0000

-- where a thread's stack ends, of so many bytes each: below it is a page that no stack has
abbrev pub stack_end : (size thread : ℕ) → ℕ
stack_end size thread = STACKS_END - thread * (page_bytes size + page_size)

abbrev pub stack_of : (size thread : ℕ) → SectionValue
stack_of size thread = record { start = stack_end size thread - page_bytes size; size = size; writable = true; stored = [] }

abbrev pub stacks_of : (size count : ℕ) → List SectionValue
stacks_of size count = map (stack_of size) (range_with_len 0 count)

-- a thread begins at an address, with its stack pointer at its stack's end and 0 in all other registers
abbrev pub thread_at : (size thread pc : ℕ) → Start
thread_at size thread pc = record { pc = pc; sp = stack_end size thread; first = replicate FIRST_REGISTERS 0 }

-- the threads from that number on
abbrev pub threads_from : (size thread : ℕ) → (starts : List ℕ) → List Start
threads_from size thread [] = []
threads_from size thread (pc ∷ pcs) = thread_at size thread pc ∷ threads_from size (thread + 1) pcs

-- the program's own start, where no other is asked for
abbrev pub starts_of : ProgramValue → OptionsValue → List ℕ
starts_of program options = if length options.starts == 0 then program.entry ∷ [] else options.starts

-- the address is in a read-only section
abbrev pub is_code : List SectionValue → ℕ → Bool
is_code sections address = list_any (λ (s : SectionValue). not s.writable && has_address address s) sections

-- ---- entries

-- A procedure begins with two bytes that name the registers which its call saves; a routine begins with its first instruction.
abbrev pub entry_of : Functions → ℕ → ℕ
entry_of Procedures value = value + 2
entry_of Routines value = value
entry_of Omitted value = value

abbrev pub values_of : Functions → List ℕ → Result (List ℕ) ElfRefusal
values_of Procedures bytes = functions_named bytes
values_of Routines bytes = functions_named bytes
values_of Omitted bytes = Ok []

-- an entry is an address in code, and neither it nor its function is a start
abbrev pub is_entry : Functions → List SectionValue → List ℕ → ℕ → Bool
is_entry functions sections starts value =
    nat_lt (entry_of functions value) (2 ^ 32) && not (has starts value || has starts (entry_of functions value)) && is_code sections (entry_of functions value)

-- before the first one above it, unless it is there
abbrev pub with_entry : List ℕ → ℕ → List ℕ
with_entry placed entry = if has placed entry then placed else insert placed (unwrap_or (position (nat_lt entry) placed) (length placed)) entry

-- in rising order, each once
abbrev pub rising : List ℕ → List ℕ
rising entries = fold with_entry [] entries

-- those of functions
abbrev pub function_entries : Functions → List SectionValue → List ℕ → List ℕ → List ℕ
function_entries functions sections starts values = map (entry_of functions) (filter (is_entry functions sections starts) values)

-- and those that are asked for
abbrev pub entries_of : List SectionValue → List ℕ → OptionsValue → List ℕ → List ℕ
entries_of sections starts options values = rising (function_entries options.functions sections starts values ++ options.entries)

-- ---- the image

-- the program that a file has, where no two segments of different rights share a page
unfoldable pub program_apart : List ℕ → Result ProgramValue MakeRefusal
program_apart bytes = do
  program ← refused_as of_elf (program_of bytes)
  apart ← refuse_at (first_clash 0 (map span_of program.segments)) (λ (pair : ℕ × ℕ). SharedPage pair.0 pair.1)
  Ok program

-- starts, each of which is in a read-only section
unfoldable pub starts_in : List SectionValue → List ℕ → Result (List ℕ) MakeRefusal
starts_in sections starts = do
  inside ← refuse_at (position (λ start. not (is_code sections start)) starts) (λ place. StartOutside (slice_index starts place))
  Ok starts

-- The parts of a program's image: the sections of its segments, and behind them a stack for each thread.
unfoldable pub program_parts : List SectionValue → List ℕ → OptionsValue → List ℕ → PartsValue
program_parts sections starts options values =
    record { threads = threads_from options.stack 0 starts; sections = sections ++ stacks_of options.stack (length starts); entries = entries_of sections starts options values }

-- The parts of the image of a file's program, or the first reason for which it has none.
unfoldable pub parts_of : List ℕ → OptionsValue → ProgramValue → Result PartsValue MakeRefusal
parts_of bytes options program = do
  starts ← starts_in (sections_of program.segments) (starts_of program options)
  values ← refused_as of_elf (values_of options.functions bytes)
  Ok (program_parts (sections_of program.segments) starts options values)

unfoldable pub elf_parts : List ℕ → OptionsValue → Result PartsValue MakeRefusal
elf_parts bytes options = do
  program ← program_apart bytes
  parts_of bytes options program

unfoldable pub elf_bytes : List ℕ → OptionsValue → Result (List ℕ) MakeRefusal
elf_bytes bytes options = do
  parts ← elf_parts bytes options
  parts_bytes parts
