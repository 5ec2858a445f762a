-- The lines of a text.
use Rattle.std.specs.Prelude.{ℕ, Bool, ◌+◌, ◌-◌, ◌==◌, List, [], ◌∷◌, ◌++◌, Option, Some, None, codes, decimal, length, if◌then◌else◌}
use Rattle.std.specs.List.{flat_map}
use Rattle.report_text.specs.Digits.{eight_digits}
use Rattle.image_file.specs.declared.image.Start.{Start}
use Rattle.image_file.specs.Values.{SectionValue}
use Rattle.vax_form.specs.Grammar.{Found, instruction, past, reserved_instruction, reserved_mode}
use Rattle.vax_form.specs.GrammarFound.{found}
use Rattle.vax_form.specs.Targets.{operand_of}
use Rattle.vax_form.specs.declared.instr.Instr.{Instr}
use Rattle.vax_form.specs.declared.pages.Pages.{Pages}
use Rattle.flow_discovery.specs.Flow.{goes_on}
use Rattle.vax_text.specs.Names.{name_of}
use Rattle.image_text.specs.Instructions.{is_open, asks_service, fixed_value, ends_thread}

-- a number in decimal digits, and an address in eight hexadecimal digits, each behind a blank
abbrev pub number : ℕ → List ℕ
number n = 32 ∷ decimal n

-- a text, and a number behind it
abbrev pub counted : List ℕ → ℕ → List ℕ
counted text n = text ++ number n

abbrev pub address_text : ℕ → List ℕ
address_text address = 32 ∷ eight_digits address

-- what is said of each item with its number
abbrev pub numbered : {X : Type 0} → (ℕ → X → List ℕ) → ℕ → List X → List ℕ
numbered line n [] = []
numbered line n (x ∷ xs) = line n x ++ numbered line (n + 1) xs

-- a register of a thread's start that is not 0
abbrev pub register_text : ℕ → ℕ → List ℕ
register_text n value = if value == 0 then [] else codes " R" ++ decimal n ++ address_text value

abbrev pub thread_line : ℕ → Start → List ℕ
thread_line n t = codes "thread" ++ number n ++ codes " pc" ++ address_text t.pc ++ codes " sp" ++ address_text t.sp ++ numbered register_text 0 t.first ++ 10 ∷ []

abbrev pub rights_text : Bool → List ℕ
rights_text writable = if writable then codes " writable stored" else codes " read-only stored"

-- from its first byte to its last
abbrev pub section_line : ℕ → SectionValue → List ℕ
section_line n s =
    codes "section" ++ number n ++ address_text s.start ++ codes " to" ++ address_text (s.start + s.size - 1)
    ++ rights_text s.writable ++ number (length s.stored) ++ 10 ∷ []

-- an address of a table, behind the table's name and its number there
abbrev pub address_line : (table : List ℕ) → ℕ → ℕ → List ℕ
address_line table n address = table ++ number n ++ address_text address ++ 10 ∷ []

abbrev pub entry_line : ℕ → ℕ → List ℕ
entry_line = address_line (codes "entry")

abbrev pub hint_line : ℕ → ℕ → List ℕ
hint_line = address_line (codes "hint")

-- ---- instructions

abbrev pub open_line : Instr → List ℕ
open_line instr = if is_open instr then codes "open" ++ address_text instr.at ++ 32 ∷ name_of instr.opcode ++ 10 ∷ [] else []

-- what stands where no instruction does
abbrev pub stop_kind : Found → Option (List ℕ)
stop_kind (instruction instr) = None
stop_kind reserved_instruction = Some (codes " reserved")
stop_kind reserved_mode = Some (codes " mode")
stop_kind (past address) = Some (codes " past")

abbrev pub stop_text : (from address : ℕ) → Option (List ℕ) → List ℕ
stop_text from address None = []
stop_text from address (Some kind) = codes "stop" ++ address_text address ++ codes " from" ++ address_text from ++ kind ++ 10 ∷ []

abbrev pub stop_line : Pages → (from address : ℕ) → List ℕ
stop_line pages from address = stop_text from address (stop_kind (found pages address))

-- each address to which an instruction goes on, and where none stands; an exit goes nowhere
abbrev pub stop_lines : Pages → Instr → List ℕ
stop_lines pages instr = if ends_thread instr then [] else flat_map (stop_line pages instr.at) (goes_on pages instr)

abbrev pub code_text : Option ℕ → List ℕ
code_text None = []
code_text (Some code) = number code

abbrev pub service_line : Instr → List ℕ
service_line instr = if asks_service instr then codes "service" ++ code_text (fixed_value (operand_of instr 0)) ++ codes " at" ++ address_text instr.at ++ 10 ∷ [] else []
