-- What is asked of the programs that have blocks, one operation after the other.
use Rattle.std.specs.Prelude.{◌≡◌, ℕ, ◌<◌, ◌^◌, ◌==◌, not, Bool, true, false, List, [], ◌∷◌, if◌then◌else◌}
use Rattle.std.specs.List.{list_any}
use Rattle.vt_words.specs.Quad.{IsCount}
use Rattle.exception_records.specs.Codes.{all_ready, is_ready}
use Rattle.exception_records.specs.declared.rules.CodeRule.{CodeRule}
use Rattle.exception_records.specs.declared.rules.CodeRule.TheVariants as rules
use Rattle.exception_records.specs.declared.rules.Rules.{Rules}
use Rattle.micro_ops.specs.Exits.{leaves_computed}
use Rattle.micro_ops.specs.Uses.{is_unary, is_quad, reads_flag}
use Rattle.micro_ops.specs.LeftOut.{is_left_out}
use Rattle.micro_ops.specs.declared.codes.CodeSources.{CodeSources}
use Rattle.micro_ops.specs.declared.program.Arg.{Arg}
use Rattle.micro_ops.specs.declared.program.Arg.TheVariants as arguments
use Rattle.micro_ops.specs.declared.program.Exit.{Exit}
use Rattle.micro_ops.specs.declared.program.Exit.TheVariants.{Next, Fixed, Computed, Choice, Service, Breakpoint}
use Rattle.micro_ops.specs.declared.program.Micro.{Micro}
use Rattle.micro_ops.specs.declared.program.Micro.TheVariants.{Compute, Probe, Refuse, Read, Write, Locked, Commit, Codes, SetPsw, Leave}
use Rattle.byte_sequences.specs.Instructions as bytes
use Rattle.compute_sequences.specs.Registers.{IsArgument, IsTarget}
use Rattle.micro_ops.specs.Sources.{is_written}
use Rattle.program_codegen.specs.Words.{holder}

-- ---- flags and rules
abbrev pub rule_of : (flag : ℕ) → Rules → CodeRule
rule_of flag rules = if flag == 0 then rules.n else if flag == 1 then rules.z else if flag == 2 then rules.v else rules.c

-- a code that the program reads stands in its register
abbrev pub ReadsReady : Rules → List Micro → Type 0
ReadsReady before program = (flag : ℕ) → flag < 4 → list_any (reads_flag flag) program ≡ true → is_ready (rule_of flag before) ≡ true

-- where it goes to an address that it computes, all codes are ready
abbrev pub LeavesReady : Rules → List Micro → Type 0
LeavesReady behind program = list_any leaves_computed program ≡ true → behind ≡ all_ready

-- where N, Z and V are kept, so is C
abbrev pub KeepsTogether : CodeSources → Type 0
KeepsTogether sources = is_written sources.nzv ≡ false → is_written sources.c ≡ false

-- V is not that of a sum or difference of quadwords
abbrev pub is_narrow : CodeRule → Bool
is_narrow (rules.Add size) = not (is_quad size)
is_narrow (rules.Sub size) = not (is_quad size)
is_narrow rule = true

-- ---- exits
-- ---- each operation
-- its temporary has a register, and its addresses are longwords
abbrev pub IsExit : Exit → Type 0
IsExit Next = Unit {0}
IsExit (Fixed address) = address < 2 ^ 32
IsExit (Computed temp) = temp < 6
IsExit (Choice when taken other) = (when < 6) × (taken < 2 ^ 32) × (other < 2 ^ 32)
IsExit (Service temp) = temp < 6
IsExit Breakpoint = Unit {0}

-- what the types of its numbers say
abbrev pub IsRangedArgument : Arg → Type 0
IsRangedArgument (arguments.Const value) = value < 2 ^ 64
IsRangedArgument arg = Unit {0}

abbrev pub IsRangedExit : Exit → Type 0
IsRangedExit (Fixed address) = address < 2 ^ 32
IsRangedExit (Choice when taken other) = (taken < 2 ^ 32) × (other < 2 ^ 32)
IsRangedExit exit = Unit {0}

abbrev pub IsRanged : Micro → Type 0
IsRanged (Compute to op size a b) = IsRangedArgument a × IsRangedArgument b
IsRanged (Leave exit) = IsRangedExit exit
IsRanged operation = Unit {0}

abbrev pub AllRanged : List Micro → Type 0
AllRanged [] = Unit {0}
AllRanged (operation ∷ program) = IsRanged operation × AllRanged program

-- the same up to where the program leaves
abbrev pub RangedToLeave : List Micro → Type 0
RangedToLeave [] = Unit {0}
RangedToLeave (Leave exit ∷ program) = IsRangedExit exit
RangedToLeave (operation ∷ program) = IsRanged operation × RangedToLeave program

-- what its words are made from
abbrev pub HasWords : CodeSources → Micro → (behind : List Micro) → Type 0
HasWords sources (Compute to op size a b) behind =
    is_left_out sources (Compute to op size a b) behind ≡ false
    → IsTarget (holder to) × IsArgument a × (is_unary op ≡ false → IsArgument b)
HasWords sources (Probe place count write) behind = (place < 6) × IsCount count
HasWords sources (Refuse when) behind = when < 6
HasWords sources (Read to place count) behind = bytes.IsArgument (holder place) × bytes.IsArgument (holder to) × IsCount count
HasWords sources (Write place count from) behind = bytes.IsArgument (holder place) × bytes.IsArgument (holder from) × IsCount count
HasWords sources (Locked to place kind from) behind =
    bytes.IsArgument (holder place) × bytes.IsArgument (holder from) × bytes.IsArgument (holder to)
    × ((place == to) ≡ false) × ((from == to) ≡ false)
HasWords sources (Commit register from) behind = (register < 15) × (from < 6)
HasWords sources (Codes n z v c) behind = Unit {0}
HasWords sources (SetPsw from) behind = from < 6
HasWords sources (Leave exit) behind = IsExit exit

-- the same of operations of which only the numbers' types are not told
abbrev pub AllFitWords : CodeSources → List Micro → Type 0
AllFitWords sources [] = Unit {0}
AllFitWords sources (operation ∷ program) = (IsRanged operation → HasWords sources operation program) × AllFitWords sources program

abbrev pub AllHaveWords : CodeSources → List Micro → Type 0
AllHaveWords sources [] = Unit {0}
AllHaveWords sources (operation ∷ program) = HasWords sources operation program × AllHaveWords sources program
