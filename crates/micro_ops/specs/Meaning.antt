-- What a micro program means.
-- The condition codes and IV stand in the status word as in the VAX Architecture Reference Manual, "Processor Status
-- Longword".
use Rattle.std.specs.Prelude.{ℕ, ◌+◌, ◌*◌, ◌/◌, ◌%◌, ◌^◌, ◌==◌, ◌&&◌, List, [], ◌∷◌, Bool, false, not, Option, Some, None, if◌then◌else◌}
use Rattle.vax_form.specs.Parts.{parts}
use Rattle.vax_form.specs.State.{register, with_register, with_pc, with_psw}
use Rattle.vax_form.specs.Tree.{Tree, Ending, Finish, Trap, Ends}
use Rattle.vax_form.specs.declared.state.VaxState.{VaxState}
use Rattle.vax_form.specs.declared.state.Exception.TheVariants as exceptions
use Rattle.vax_form.specs.declared.state.RefKind.{RefKind}
use Rattle.vax_form.specs.declared.state.RefKind.TheVariants as references
use Rattle.vt_words.specs.Values.{bit}
use Rattle.micro_ops.specs.declared.program.Arg.{Arg}
use Rattle.micro_ops.specs.declared.program.Arg.TheVariants.{Temp, Register, Flag, Const}
use Rattle.micro_ops.specs.declared.program.Exit.{Exit}
use Rattle.micro_ops.specs.declared.program.Exit.TheVariants.{Next, Fixed, Computed, Choice, Service, Breakpoint}
use Rattle.micro_ops.specs.declared.program.LockedOp.{LockedOp}
use Rattle.micro_ops.specs.declared.program.LockedOp.TheVariants.{AddWord, SetBit, ClearBit}
use Rattle.micro_ops.specs.declared.program.Micro.{Micro}
use Rattle.micro_ops.specs.declared.program.Micro.TheVariants.{Compute, Probe, Refuse, Read, Write, Locked, Commit, Codes, SetPsw, Leave}
use Rattle.micro_ops.specs.Values.{computed}
use Rattle.micro_ops.specs.Course.{Course, Check, Ask, Fault, Leaves, continued, read_parts, write_parts}

-- what each temporary holds; all start at 0
abbrev pub Temps : Type 0
Temps = ℕ → ℕ

abbrev pub no_temps : Temps
no_temps = λ temp. 0

abbrev pub with_temp : (temp value : ℕ) → Temps → Temps
with_temp temp value temps = λ other. if other == temp then value else temps other

-- what a program starts from: the state, and the address behind the instruction
pub record Found : Type 0 where
  pub state : VaxState
  pub after : ℕ

-- where a program stands: the temporaries, the state that it is to leave, and whether it overflowed
pub record Standing : Type 0 where
  pub temps : Temps
  pub state : VaxState
  pub overflowed : Bool

-- how a program leaves: as an instruction ends, or for a service with that code, which finds that state
pub data Departure : Type 0 where
  Ended : Ending → Departure
  Serves : (code : ℕ) → VaxState → Departure

-- with what the temporaries hold then
pub record Left : Type 0 where
  pub departure : Departure
  pub temps : Temps

-- the place of a flag in the status word: N, Z, V, C, T, IV, FU, DV
abbrev pub unit_of : (flag : ℕ) → ℕ
unit_of flag =
    if flag == 0 then 8 else if flag == 1 then 4 else if flag == 2 then 2 else if flag == 3 then 1
    else 2 ^ flag

abbrev pub flag_of : (flag psw : ℕ) → ℕ
flag_of flag psw = psw / unit_of flag % 2

abbrev pub value_of_arg : Found → Temps → Arg → ℕ
value_of_arg found temps (Temp temp) = temps temp
value_of_arg found temps (Register number) = register number found.state
value_of_arg found temps (Flag flag) = flag_of flag found.state.psw
value_of_arg found temps (Const value) = value

-- what an interlocked operation asks for
abbrev pub locked_count : LockedOp → ℕ
locked_count AddWord = 2
locked_count SetBit = 1
locked_count ClearBit = 1

abbrev pub locked_kind : LockedOp → (from : ℕ) → RefKind
locked_kind AddWord from = references.Add (from % 2 ^ 16)
locked_kind SetBit from = references.SetBit from
locked_kind ClearBit from = references.ClearBit from

abbrev pub with_value : (temp value : ℕ) → Standing → Standing
with_value temp value standing = record standing { temps = with_temp temp value standing.temps }

abbrev pub is_set : (temp : ℕ) → Standing → Bool
is_set temp standing = not (standing.temps temp == 0)

-- C where it is written, else as it was
abbrev pub carry_from : Option ℕ → Standing → ℕ
carry_from None standing = standing.state.psw % 2
carry_from (Some temp) standing = bit (is_set temp standing)

abbrev pub codes_from : (n z v : ℕ) → Option ℕ → Standing → ℕ
codes_from n z v c standing =
    bit (is_set n standing) * 8 + bit (is_set z standing) * 4 + bit (is_set v standing) * 2 + carry_from c standing

abbrev pub with_codes : (n z v : ℕ) → Option ℕ → Standing → Standing
with_codes n z v c standing =
    record standing {
      state = with_psw (standing.state.psw / 16 * 16 + codes_from n z v c standing) standing.state;
      overflowed = is_set v standing;
    }

-- does it overflow while IV is 1?
abbrev pub traps : Standing → Bool
traps standing = standing.overflowed && (flag_of 5 standing.state.psw == 1)

-- leaves to an address: the instruction is done, or traps there
abbrev pub departure_to : (pc : ℕ) → Standing → Departure
departure_to pc standing =
    if traps standing then Ended (Trap 1 (with_pc pc standing.state)) else Ended (Finish (with_pc pc standing.state))

-- a service comes behind the instruction, where that does not trap
abbrev pub departure_for : (code after : ℕ) → Standing → Departure
departure_for code after standing =
    if traps standing then Ended (Trap 1 (with_pc after standing.state)) else Serves code (with_pc after standing.state)

abbrev pub leaves_with : Departure → Standing → Course Left
leaves_with departure standing = Leaves (record { departure = departure; temps = standing.temps })

abbrev pub leaves_by : Exit → Found → Standing → Course Left
leaves_by Next found standing = leaves_with (departure_to found.after standing) standing
leaves_by (Fixed address) found standing = leaves_with (departure_to address standing) standing
leaves_by (Computed temp) found standing = leaves_with (departure_to (standing.temps temp % 2 ^ 32) standing) standing
leaves_by (Choice when taken other) found standing = leaves_with (departure_to (if standing.temps when == 0 then other else taken) standing) standing
leaves_by (Service temp) found standing = leaves_with (departure_for (standing.temps temp % 2 ^ 16) found.after standing) standing
leaves_by Breakpoint found standing = Fault exceptions.Breakpoint

-- Registers and flags are read as the instruction found them. Commit, Codes and SetPsw change the state that is left.
abbrev pub course_of : List Micro → Found → Standing → Course Left
course_of [] found standing = leaves_by Next found standing
course_of (Compute to op size a b ∷ program) found standing =
    course_of program found (with_value to (computed op size (value_of_arg found standing.temps a) (value_of_arg found standing.temps b) (standing.temps to)) standing)
course_of (Probe place count write ∷ program) found standing =
    Check (standing.temps place) count write (course_of program found standing)
course_of (Refuse when ∷ program) found standing =
    if standing.temps when == 0 then course_of program found standing else Fault exceptions.ReservedOperand
course_of (Read to place count ∷ program) found standing =
    read_parts (parts (standing.temps place) count) (λ value. course_of program found (with_value to value standing))
course_of (Write place count from ∷ program) found standing =
    write_parts (parts (standing.temps place) count) (standing.temps from) (course_of program found standing)
course_of (Locked to place kind from ∷ program) found standing =
    Ask (record { address = standing.temps place; count = locked_count kind; kind = locked_kind kind (standing.temps from) })
    (λ reply. course_of program found (with_value to (reply % 2 ^ (8 * locked_count kind)) standing))
course_of (Commit number from ∷ program) found standing =
    course_of program found (record standing { state = with_register number (standing.temps from % 2 ^ 32) standing.state })
course_of (Codes n z v c ∷ program) found standing =
    course_of program found (with_codes n z v c standing)
course_of (SetPsw from ∷ program) found standing =
    course_of program found (record standing { state = with_psw (standing.temps from % 256) standing.state })
course_of (Leave exit ∷ program) found standing = leaves_by exit found standing

-- a program's start in a state
abbrev pub started : VaxState → Standing
started state = record { temps = no_temps; state = state; overflowed = false }

-- what a program means from a state on; `after` is the address behind the instruction
abbrev pub denote : List Micro → VaxState → (after : ℕ) → Course Left
denote program state after = course_of program (record { state = state; after = after }) (started state)

-- how the tree of an instruction goes on where its program leaves, with what services do
abbrev pub departed : (serve : ℕ → VaxState → Tree) → Departure → Tree
departed serve (Ended ending) = Ends ending
departed serve (Serves code state) = serve code state

-- the tree of an instruction with this program
abbrev pub program_tree : (serve : ℕ → VaxState → Tree) → List Micro → VaxState → (after : ℕ) → Tree
program_tree serve program state after = continued (denote program state after) (λ left. departed serve left.departure)
