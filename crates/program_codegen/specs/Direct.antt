-- The words of programs that use operands where they stand, from one operation to the next.
use Rattle.std.specs.Prelude.{ℕ, pos, ◌+◌, ◌==◌, ◌&&◌, ◌||◌, not, nat_lt, Bool, true, false, List, [], ◌∷◌, ◌++◌, length, map, Option, Some, None, is_none, is_some, unwrap_or, option_map, option_and_then, if◌then◌else◌}
use Rattle.vax_form.specs.declared.instr.Size.{Size}
use Rattle.vax_form.specs.declared.instr.Size.TheVariants.{Byte, Long}
use Rattle.alpha_encode.specs.declared.instr.AlphaInstr.{AlphaInstr}
use Rattle.alpha_encode.specs.declared.instr.AlphaInstr.TheVariants.{Branch, Pal}
use Rattle.alpha_encode.specs.declared.instr.BranchOp.{BranchOp}
use Rattle.alpha_encode.specs.declared.instr.BranchOp.TheVariants.{Beq, Blbc}
use Rattle.alpha_encode.specs.Calls.{PROBE}
use Rattle.alpha_encode.specs.Registers.{ADDRESS, NEGATIVE}
use Rattle.micro_ops.specs.LeftOut.{is_left_out}
use Rattle.micro_ops.specs.Uses.{is_quad, is_select}
use Rattle.micro_ops.specs.declared.codes.CodeSources.{CodeSources}
use Rattle.micro_ops.specs.declared.program.Arg.{Arg}
use Rattle.micro_ops.specs.declared.program.Arg.TheVariants as arguments
use Rattle.micro_ops.specs.declared.program.Exit.{Exit}
use Rattle.micro_ops.specs.declared.program.Exit.TheVariants.{Choice}
use Rattle.micro_ops.specs.declared.program.Micro.{Micro}
use Rattle.micro_ops.specs.declared.program.Micro.TheVariants.{Compute, Probe, Read, Write}
use Rattle.micro_ops.specs.declared.program.MicroOp.{MicroOp}
use Rattle.micro_ops.specs.declared.program.MicroOp.TheVariants.{And, Move}
use Rattle.byte_sequences.specs.Words.{extended_read}
use Rattle.alpha_meaning.specs.Loops.{written}
use Rattle.program_codegen.specs.declared.homes.Homes.{Homes}
use Rattle.program_codegen.specs.declared.lines.Line.{Line}
use Rattle.program_codegen.specs.declared.points.Site.{Site}
use Rattle.program_codegen.specs.Words.{plain, marked, holder, copy, probing, exit_lines, may_trap, read_by, write_by}
use Rattle.program_codegen.specs.Homes.{all_waiting, direct_by, home_of, is_shared, made, waiting_words, with_home}
use Rattle.program_codegen.specs.Ends.{are_left, are_short_rules, direct_end, end_at, exit_of, when}

-- ---- the whole
-- an argument that stands exactly where it is read
abbrev pub is_exact : Homes → Arg → Bool
is_exact homes (arguments.Temp temp) = is_none (home_of homes temp)
is_exact homes arg = true

-- on longwords at most, or one that they give the same, or of arguments that stand exactly
abbrev pub is_sized : Homes → (to : ℕ) → MicroOp → Size → (a b : Arg) → Bool
is_sized homes to op size a b = not (is_quad size) || is_some (made homes to op size a b) || (is_exact homes a && is_exact homes b)

-- such a computation, that doesn't read what it writes, and into whose register none has its home
abbrev pub is_direct : Homes → (to : ℕ) → MicroOp → Size → (a b : Arg) → Bool
is_direct homes to op size a b = is_sized homes to op size a b && not (is_select op) && not (is_shared homes to)

-- the words of a computation, of which one that is left out has none, and where the temporaries stand behind them
abbrev pub direct_step : CodeSources → Homes → (to : ℕ) → MicroOp → Size → (a b : Arg) → (behind : List Micro) → Option (Homes × List AlphaInstr)
direct_step sources homes to op size a b behind =
    if is_left_out sources (Compute to op size a b) behind
    then Some (homes, [])
    else if is_direct homes to op size a b
    then Some (direct_by homes to op size a b)
    else None

-- ---- references
-- Homes outlast a reference: it writes scratch alone, and what it reads. Its address is the low longword of the place's home,
-- and behind its check, since no page has a longer one, the home itself.
abbrev pub stands : Homes → (temp : ℕ) → ℕ
stands homes temp = unwrap_or (home_of homes temp) (holder temp)

abbrev pub settled : Homes → Homes
settled homes = record homes { before = None; waiting = None }

-- a longword that is read into temporaries 0 to 2 is extended with its sign
abbrev pub is_extended : (to count : ℕ) → Bool
is_extended to count = count == 4 && nat_lt to 3

abbrev pub read_home : (to count : ℕ) → Option ℕ
read_home to count = if is_extended to count then Some (holder to) else None

abbrev pub reading : (byte_word : Bool) → Homes → (to place count : ℕ) → List AlphaInstr
reading byte_word homes to place count =
    if is_extended to count then extended_read (stands homes place) (holder to)
    else read_by byte_word (stands homes place) count (holder to)

-- the low longword of a home may be written
abbrev pub may_write : Homes → (count from : ℕ) → Bool
may_write homes count from = is_none (home_of homes from) || count == 4

-- where the temporaries stand behind a reference, and its lines; none where another stands in the register that is read into
abbrev pub reached : Site → Homes → Micro → Option (Homes × List Line)
reached site homes (Probe place count write) =
    Some (settled homes, plain (copy (stands homes place) ADDRESS) ∷ marked (Pal PROBE) (probing site count write) ∷ [])
reached site homes (Read to place count) =
    if is_shared homes to then None
    else Some (with_home to (read_home to count) (settled homes), map plain (reading site.byte_word homes to place count))
reached site homes (Write place count from) =
    if may_write homes count from
    then Some (settled homes, map plain (write_by site.byte_word (stands homes place) count (stands homes from)))
    else None
reached site homes operation = None

-- the words that wait come first
abbrev pub behind_waiting : Homes → Homes × List Line → Homes × List Line
behind_waiting homes step = (step.0, map plain (all_waiting homes) ++ step.1)

abbrev pub reach : Site → Homes → Micro → Option (Homes × List Line)
reach site homes operation = option_map (behind_waiting homes) (reached site homes operation)

-- ---- a step
abbrev pub goes_on : Micro → Bool
goes_on (Compute to op size a b) = true
goes_on (Probe place count write) = true
goes_on (Read to place count) = true
goes_on (Write place count from) = true
goes_on operation = false

abbrev pub in_lines : Homes × List AlphaInstr → Homes × List Line
in_lines step = (step.0, map plain step.1)

abbrev pub step_at : Site → Homes → Micro → (behind : List Micro) → Option (Homes × List Line)
step_at site homes (Compute to op size a b) behind = option_map in_lines (direct_step site.sources homes to op size a b behind)
step_at site homes operation behind = reach site homes operation

abbrev pub lines_at : Option (Homes × List Line) → List Line
lines_at None = []
lines_at (Some step) = step.1

abbrev pub homes_at : Option (Homes × List Line) → Option Homes
homes_at step = option_map (λ (step : Homes × List Line). step.0) step

-- the lines from an operation on with which a program comes to its end
abbrev pub ended_lines : Site → (codes : List AlphaInstr) → Homes → Micro → (behind : List Micro) → Option (List Line)
ended_lines site codes homes operation behind =
    option_and_then (λ (end : Option (ℕ × ℕ) × Exit). direct_end site codes homes end.0 end.1) (end_at site.sources operation behind)

-- ---- a choice by what stands there
-- The last computation may tell the lowest bit of a register, or a code. Then the exit is chosen by that itself.
abbrev pub bit_register : Homes → Arg → Option ℕ
bit_register homes (arguments.Temp temp) = if nat_lt temp 6 then Some (unwrap_or (home_of homes temp) (holder temp)) else None
bit_register homes (arguments.Register number) = Some number
bit_register homes arg = None

abbrev pub bit_test : Homes → (a b : Arg) → Option (BranchOp × ℕ)
bit_test homes a (arguments.Const value) = if value == 1 then option_map (λ register. (Blbc, register)) (bit_register homes a) else None
bit_test homes a b = None

abbrev pub code_test : Arg → Option (BranchOp × ℕ)
code_test (arguments.Flag flag) = if nat_lt flag 4 then Some (Beq, NEGATIVE + flag) else None
code_test arg = None

abbrev pub byte_test : Homes → MicroOp → (a b : Arg) → Option (BranchOp × ℕ)
byte_test homes And a b = bit_test homes a b
byte_test homes Move a b = code_test a
byte_test homes op a b = None

abbrev pub long_test : Homes → MicroOp → (a b : Arg) → Option (BranchOp × ℕ)
long_test homes And a b = bit_test homes a b
long_test homes op a b = None

-- a branch that is taken just where the computation gives 0, and its register
abbrev pub test_of : Homes → MicroOp → Size → (a b : Arg) → Option (BranchOp × ℕ)
test_of homes op Byte a b = byte_test homes op a b
test_of homes op Long a b = long_test homes op a b
test_of homes op size a b = None

abbrev pub choice_lines : BranchOp × ℕ → (taken other : ℕ) → List Line
choice_lines test taken other = plain (Branch test.0 test.1 (pos 3)) ∷ (exit_lines taken ++ exit_lines other)

-- What waits has no use where the computation writes over it, but for the test.
abbrev pub needed_words : (to register : ℕ) → (waiting : Option AlphaInstr) → List AlphaInstr
needed_words to register None = []
needed_words to register (Some word) = if written word == holder to && not (register == holder to) then [] else word ∷ []

abbrev pub tested_words : (to register : ℕ) → Homes → List AlphaInstr
tested_words to register homes = waiting_words homes.before ++ needed_words to register homes.waiting

-- no word leaves a code, and nothing traps
abbrev pub may_test : Site → (codes : List AlphaInstr) → Homes → (to : ℕ) → MicroOp → Size → (a b : Arg) → Bool
may_test site codes homes to op size a b =
    nat_lt to 6 && is_direct homes to op size a b && is_none (made homes to op size a b) && length codes == 0 && not (may_trap site)
    && are_short_rules site.behind && are_left site.sources homes

abbrev pub tested_exit : Site → (codes : List AlphaInstr) → Homes → (to : ℕ) → MicroOp → Size → (a b : Arg) → Exit → Option (List Line)
tested_exit site codes homes to op size a b (Choice when taken other) =
    if when == to && may_test site codes homes to op size a b
    then option_map (λ (test : BranchOp × ℕ). map plain (tested_words to test.1 homes) ++ choice_lines test taken other) (test_of homes op size a b)
    else None
tested_exit site codes homes to op size a b exit = None

abbrev pub next_exit : List Micro → Option Exit
next_exit [] = None
next_exit (operation ∷ program) = exit_of operation

-- the lines from an operation on of which an exit comes next
abbrev pub tested_at : Site → (codes : List AlphaInstr) → Homes → Micro → (behind : List Micro) → Option (List Line)
tested_at site codes homes (Compute to op size a b) behind = option_and_then (tested_exit site codes homes to op size a b) (next_exit behind)
tested_at site codes homes operation behind = None

abbrev pub either_of : (one other : Option (List Line)) → Option (List Line)
either_of None other = other
either_of (Some lines) other = Some lines

-- The lines of a program from an operation on; none where it makes an interlocked reference, or writes two registers, or where
-- operands can't be used where they stand.
abbrev pub direct_lines : Site → (codes : List AlphaInstr) → Homes → List Micro → Option (List Line)
direct_lines site codes homes [] = None
direct_lines site codes homes (Compute to op size a b ∷ program) =
    either_of (tested_at site codes homes (Compute to op size a b) program)
    (option_and_then
    (λ (step : Homes × List AlphaInstr). option_map (λ (lines : List Line). map plain step.1 ++ lines) (direct_lines site codes step.0 program))
    (direct_step site.sources homes to op size a b program))
direct_lines site codes homes (Probe place count write ∷ program) =
    option_and_then
    (λ (step : Homes × List Line). option_map (λ (lines : List Line). step.1 ++ lines) (direct_lines site codes step.0 program))
    (reach site homes (Probe place count write))
direct_lines site codes homes (Read to place count ∷ program) =
    option_and_then
    (λ (step : Homes × List Line). option_map (λ (lines : List Line). step.1 ++ lines) (direct_lines site codes step.0 program))
    (reach site homes (Read to place count))
direct_lines site codes homes (Write place count from ∷ program) =
    option_and_then
    (λ (step : Homes × List Line). option_map (λ (lines : List Line). step.1 ++ lines) (direct_lines site codes step.0 program))
    (reach site homes (Write place count from))
direct_lines site codes homes (operation ∷ program) = ended_lines site codes homes operation program
