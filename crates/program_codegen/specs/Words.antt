-- The words of a micro program's block, with the points and the exits of those that have one. R21 to R26 hold the
-- temporaries 0 to 5, and R27 is scratch.
-- Alpha Architecture Reference Manual, "Call Privileged Architecture Library": the numbers are this system's own.
use Rattle.std.specs.Prelude.{ℕ, pos, ◌+◌, ◌==◌, Bool, true, false, List, [], ◌∷◌, ◌++◌, length, map, Option, Some, None, unwrap_or, if◌then◌else◌}
use Rattle.vax_form.specs.declared.instr.Instr.{Instr}
use Rattle.vax_form.specs.declared.instr.Size.{Size}
use Rattle.vax_form.specs.declared.instr.Size.TheVariants as sizes
use Rattle.vax_form.specs.declared.instr.Width.{Width}
use Rattle.vax_form.specs.declared.instr.Width.TheVariants.{Byte, Word, Long}
use Rattle.alpha_encode.specs.Halves.{load_longword}
use Rattle.alpha_encode.specs.NoOperation.{nop}
use Rattle.alpha_encode.specs.declared.instr.AlphaInstr.{AlphaInstr}
use Rattle.alpha_encode.specs.declared.instr.AlphaInstr.TheVariants.{Memory, Branch, Operate, Pal}
use Rattle.alpha_encode.specs.Calls.{PROBE, LOOK_UP, SERVE, RAISE, TRAP}
use Rattle.alpha_encode.specs.Registers.{OVERFLOW, STATUS, TEMPORARIES, TARGET, ADDRESS, RULE_FIRST, RULE_SECOND, ZERO}
use Rattle.alpha_encode.specs.declared.instr.BranchOp.{BranchOp}
use Rattle.alpha_encode.specs.declared.instr.BranchOp.TheVariants.{Br, Beq}
use Rattle.alpha_encode.specs.declared.instr.MemoryOp.TheVariants.{Lda}
use Rattle.alpha_encode.specs.declared.instr.OperateOp.TheVariants.{Addl, And, Bis}
use Rattle.alpha_encode.specs.declared.instr.Second.TheVariants.{Literal}
use Rattle.exception_records.specs.Blocks.{BlockValue}
use Rattle.exception_records.specs.Points.{Entry}
use Rattle.exception_records.specs.declared.points.Point.{Point}
use Rattle.exception_records.specs.declared.rules.CodeRule.{CodeRule}
use Rattle.exception_records.specs.declared.rules.CodeRule.TheVariants as rules
use Rattle.exception_records.specs.declared.rules.Rules.{Rules}
use Rattle.micro_ops.specs.LeftOut.{is_left_out}
use Rattle.micro_ops.specs.declared.codes.CodeSource.{CodeSource}
use Rattle.micro_ops.specs.declared.codes.CodeSource.TheVariants as sources
use Rattle.micro_ops.specs.declared.codes.CodeSources.{CodeSources}
use Rattle.micro_ops.specs.declared.program.Exit.{Exit}
use Rattle.micro_ops.specs.declared.program.Exit.TheVariants.{Next, Fixed, Computed, Choice, Service, Breakpoint}
use Rattle.micro_ops.specs.declared.program.Micro.{Micro}
use Rattle.micro_ops.specs.declared.program.Micro.TheVariants.{Compute, Probe, Refuse, Read, Write, Locked, Commit, Codes, SetPsw, Leave}
use Rattle.byte_sequences.specs.Words.{read_code, bw_read_code, write_code, bw_write_code, locked_code}
use Rattle.compute_sequences.specs.Words.{compute_code}
use Rattle.compute_sequences.specs.Overflow.{overflow_code}
use Rattle.compute_sequences.specs.declared.overflow.Arithmetic.TheVariants.{Sum, Difference}
use Rattle.program_codegen.specs.declared.lines.Line.{Line}
use Rattle.program_codegen.specs.declared.points.Site.{Site}

-- ---- points
-- of an instruction that is not done
abbrev pub point_of : Site → Point
point_of site = record { vax_pc = site.at; done = 0; count = 0; write = false; raises = 0; rules = site.before }

abbrev pub probing : Site → (count : ℕ) → (write : Bool) → Point
probing site count write = record (point_of site) { count = count; write = write }

-- a fault, by its vector
abbrev pub raising : Site → (vector : ℕ) → Point
raising site vector = record (point_of site) { raises = vector }

-- a trap, where the instruction is done
abbrev pub trapping : Site → Point
trapping site = record (point_of site) { done = 1; rules = site.behind }

-- ---- lines
abbrev pub plain : AlphaInstr → Line
plain instr = record { instr = instr; point = None; exit = None }

abbrev pub marked : AlphaInstr → Point → Line
marked instr point = record { instr = instr; point = Some point; exit = None }

-- an exit's words are filled where the block is laid out
abbrev pub exit_lines : (address : ℕ) → List Line
exit_lines address = record { instr = nop; point = None; exit = Some address } ∷ plain nop ∷ plain nop ∷ []

-- ---- registers
-- the register of a temporary
abbrev pub holder : (temp : ℕ) → ℕ
holder temp = TEMPORARIES + temp

abbrev pub copy : (from to : ℕ) → AlphaInstr
copy from to = Operate Bis from (Literal 0) to

-- ---- the trap on overflow
abbrev pub width_of : Size → Width
width_of sizes.Byte = Byte
width_of sizes.Word = Word
width_of sizes.Long = Long
width_of sizes.Quad = Long

-- the register in which V is made
abbrev pub made_overflow : ℕ
made_overflow = holder 3

-- the words that make V behind the instruction by its rule; what is ready is not made
abbrev pub overflow_made : CodeRule → List AlphaInstr
overflow_made (rules.Add size) = overflow_code Sum (width_of size) RULE_FIRST RULE_SECOND made_overflow
overflow_made (rules.Sub size) = overflow_code Difference (width_of size) RULE_FIRST RULE_SECOND made_overflow
overflow_made rule = []

-- and the register that has it then
abbrev pub overflow_register : CodeRule → ℕ
overflow_register rules.Ready = OVERFLOW
overflow_register rule = made_overflow

-- by some rules V is 0
abbrev pub tells_overflow : CodeRule → Bool
tells_overflow rules.Ready = true
tells_overflow (rules.Add size) = true
tells_overflow (rules.Sub size) = true
tells_overflow rule = false

abbrev pub may_overflow : CodeSource → Bool
may_overflow (sources.Add size) = true
may_overflow (sources.Sub size) = true
may_overflow (sources.Computed size) = true
may_overflow source = false

-- The PC behind the instruction, in R26. A choice takes the other of its addresses where the branch on its register is taken.
abbrev pub load_by : BranchOp → (after : ℕ) → Exit → List AlphaInstr
load_by op after (Fixed address) = load_longword TARGET address
load_by op after (Computed temp) = copy (holder temp) TARGET ∷ []
load_by op after (Choice when taken other) =
    Branch op (holder when) (pos 3) ∷ (load_longword TARGET taken ++ (Branch Br ZERO (pos 2) ∷ load_longword TARGET other))
load_by op after exit = load_longword TARGET after

-- integer overflow has the type 1
abbrev pub overflow_by : BranchOp → Site → Exit → List Line
overflow_by op site exit = map plain (load_by op site.after exit) ++ (plain (Memory Lda TEMPORARIES ZERO (pos 1)) ∷ marked (Pal TRAP) (trapping site) ∷ [])

-- where IV, bit 5 of R20, is clear, words are passed over
abbrev pub enabled_lines : (over : ℕ) → List Line
enabled_lines over = plain (Operate And STATUS (Literal 32) ADDRESS) ∷ plain (Branch Beq ADDRESS (pos over)) ∷ []

-- V that is ready is tested first
abbrev pub ready_lines : (trap : List Line) → List Line
ready_lines trap = plain (Branch Beq OVERFLOW (pos (2 + length trap))) ∷ (enabled_lines (length trap) ++ trap)

-- else V is made and tested where IV is set
abbrev pub made_lines : CodeRule → (made : List AlphaInstr) → (trap : List Line) → List Line
made_lines rule made trap =
    enabled_lines (length made + 1 + length trap)
    ++ (map plain made ++ (plain (Branch Beq (overflow_register rule) (pos (length trap))) ∷ trap))

abbrev pub tested_lines : CodeRule → (made : List AlphaInstr) → (trap : List Line) → List Line
tested_lines rules.Ready made trap = ready_lines trap
tested_lines rule made trap = made_lines rule made trap

abbrev pub may_trap : Site → Bool
may_trap site = if may_overflow site.sources.nzv then tells_overflow site.behind.v else false

abbrev pub trap_by : BranchOp → Site → Exit → List Line
trap_by op site exit = if may_trap site then tested_lines site.behind.v (overflow_made site.behind.v) (overflow_by op site exit) else []

-- where a program chooses, it takes the other address if its temporary is 0
abbrev pub trap_lines : Site → Exit → List Line
trap_lines site exit = trap_by Beq site exit

-- ---- leaving
-- a service has its code in R21, where temporary 0 stands, and the PC behind it in R26
abbrev pub code_copied : (there : Bool) → (temp : ℕ) → List Line
code_copied there temp = if there then [] else plain (copy (holder temp) TEMPORARIES) ∷ []

abbrev pub serving : Site → List Line
serving site = map plain (load_longword TARGET site.after) ++ (marked (Pal SERVE) (point_of site) ∷ exit_lines site.after)

-- a computed exit looks its address up in R26
abbrev pub departing_by : BranchOp → Site → Exit → List Line
departing_by op site Next = exit_lines site.after
departing_by op site (Fixed address) = exit_lines address
departing_by op site (Computed temp) = plain (copy (holder temp) TARGET) ∷ plain (Pal LOOK_UP) ∷ []
departing_by op site (Choice when taken other) = plain (Branch op (holder when) (pos 3)) ∷ (exit_lines taken ++ exit_lines other)
departing_by op site (Service temp) = code_copied (temp == 0) temp ++ serving site
departing_by op site Breakpoint = marked (Pal RAISE) (raising site 0x2C) ∷ []

abbrev pub departing : Site → Exit → List Line
departing site exit = departing_by Beq site exit

abbrev pub leaving : Site → (codes : List AlphaInstr) → Exit → List Line
leaving site codes exit = map plain codes ++ (trap_lines site exit ++ departing site exit)

-- ---- operations
-- the words of a read and of a write, without the byte-word extension and with it
abbrev pub read_by : (byte_word : Bool) → (place count to : ℕ) → List AlphaInstr
read_by false place count to = read_code place count to
read_by true place count to = bw_read_code place count to

abbrev pub write_by : (byte_word : Bool) → (place count from : ℕ) → List AlphaInstr
write_by false place count from = write_code place count from
write_by true place count from = bw_write_code place count from

abbrev pub computing : Site → Micro → (behind : List Micro) → List AlphaInstr → List Line
computing site operation behind words = if is_left_out site.sources operation behind then [] else map plain words

abbrev pub lines_of : Site → (codes : List AlphaInstr) → Micro → (behind : List Micro) → List Line
lines_of site codes (Compute to op size a b) behind =
    computing site (Compute to op size a b) behind (compute_code op size a b (holder to))
lines_of site codes (Probe place count write) behind =
    plain (copy (holder place) ADDRESS) ∷ marked (Pal PROBE) (probing site count write) ∷ []
lines_of site codes (Refuse when) behind = plain (Branch Beq (holder when) (pos 1)) ∷ marked (Pal RAISE) (raising site 0x18) ∷ []
lines_of site codes (Read to place count) behind = map plain (read_by site.byte_word (holder place) count (holder to))
lines_of site codes (Write place count from) behind = map plain (write_by site.byte_word (holder place) count (holder from))
lines_of site codes (Locked to place kind from) behind = map plain (locked_code kind (holder place) (holder from) (holder to))
lines_of site codes (Commit register from) behind = plain (Operate Addl (holder from) (Literal 0) register) ∷ []
lines_of site codes (Codes n z v c) behind = []
lines_of site codes (SetPsw from) behind = plain (Operate And (holder from) (Literal 0xF0) STATUS) ∷ []
lines_of site codes (Leave exit) behind = leaving site codes exit

abbrev pub program_lines : Site → (codes : List AlphaInstr) → List Micro → List Line
program_lines site codes [] = []
program_lines site codes (operation ∷ program) = lines_of site codes operation program ++ program_lines site codes program

-- ---- blocks
-- the first word has a point
abbrev pub with_first : Point → List Line → List Line
with_first point [] = []
with_first point (line ∷ lines) = record line { point = Some (unwrap_or line.point point) } ∷ lines

abbrev pub words_of : List Line → List AlphaInstr
words_of lines = map (λ (line : Line). line.instr) lines

abbrev pub with_entry : {A : Type 0} → Option A → (word : ℕ) → List (ℕ × A) → List (ℕ × A)
with_entry None word entries = entries
with_entry (Some x) word entries = (word, x) ∷ entries

-- the points and the exits of lines from a word on
abbrev pub points_from : (word : ℕ) → List Line → List Entry
points_from word [] = []
points_from word (line ∷ lines) = with_entry line.point word (points_from (word + 1) lines)

-- points without the words at which they stand
abbrev pub points_alone : List Entry → List Point
points_alone points = map (λ (entry : Entry). entry.1) points

abbrev pub exits_from : (word : ℕ) → List Line → List (ℕ × ℕ)
exits_from word [] = []
exits_from word (line ∷ lines) = with_entry line.exit word (exits_from (word + 1) lines)

abbrev pub block_of : List Line → BlockValue
block_of lines = record { words = words_of lines; exits = exits_from 0 lines; points = points_from 0 lines }

abbrev pub site_of : Instr → CodeSources → (before behind : Rules) → (byte_word : Bool) → Site
site_of instr sources before behind byte_word =
    record { at = instr.at; after = instr.after; sources = sources; before = before; behind = behind; byte_word = byte_word }
