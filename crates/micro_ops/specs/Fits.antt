-- Which programs fit a block: a walk over the program, by what is known from the operations before.
use Rattle.std.specs.Prelude.{ℕ, ◌==◌, ◌&&◌, ◌||◌, Bool, true, false, not, List, [], ◌∷◌, nat_lt, nat_le, Option, Some, None, if◌then◌else◌, option_and_then}
use Rattle.micro_ops.specs.declared.codes.CodeSource.{CodeSource}
use Rattle.micro_ops.specs.declared.codes.CodeSource.TheVariants as sources
use Rattle.micro_ops.specs.declared.codes.CodeSources.{CodeSources}
use Rattle.micro_ops.specs.declared.known.Holding.{Holding}
use Rattle.micro_ops.specs.declared.known.Holding.TheVariants.{Wide, Longword}
use Rattle.micro_ops.specs.declared.known.Checked.TheVariants.{At}
use Rattle.micro_ops.specs.declared.known.Known.{Known}
use Rattle.micro_ops.specs.declared.program.Arg.{Arg}
use Rattle.micro_ops.specs.declared.program.Arg.TheVariants.{Temp, Register, Flag, Const}
use Rattle.micro_ops.specs.declared.program.Exit.{Exit}
use Rattle.micro_ops.specs.declared.program.Exit.TheVariants.{Next, Fixed, Computed, Choice, Service, Breakpoint}
use Rattle.micro_ops.specs.declared.program.Micro.{Micro}
use Rattle.micro_ops.specs.declared.program.Micro.TheVariants.{Compute, Probe, Refuse, Read, Write, Locked, Commit, Codes, SetPsw, Leave}
use Rattle.micro_ops.specs.declared.program.MicroOp.{MicroOp}
use Rattle.micro_ops.specs.Uses.{is_unary, is_select, is_codes, leaves_longword}
use Rattle.micro_ops.specs.Known.{at_start, holds, holds_longword, is_checked, is_committed, behind_write, behind_access, behind_commit}
use Rattle.micro_ops.specs.LeftOut.{is_left_out, is_low}
use Rattle.micro_ops.specs.Meaning.{locked_count}
use Rattle.micro_ops.specs.WordCounts.{program_words}

abbrev pub same : Bool → Bool → Bool
same a b = if a then b else not b

abbrev pub is_count : ℕ → Bool
is_count count = (count == 1) || (count == 2) || (count == 4) || (count == 8)

-- ---- computations
-- What is read was written, and is not lost. No register is read behind its commit, and no flag behind a change of the flags
abbrev pub argument_fits : Known → Arg → Bool
argument_fits known (Temp temp) = holds known temp
argument_fits known (Register number) = nat_lt number 15 && not (is_committed known number)
argument_fits known (Flag flag) = nat_lt flag 8 && not known.codes && not known.psw
argument_fits known (Const value) = true

-- a choice reads its own temporary
abbrev pub computation_fits : Known → (to : ℕ) → MicroOp → (a b : Arg) → Bool
computation_fits known to op a b =
    nat_lt to 64
    && argument_fits known a
    && (is_unary op || argument_fits known b)
    && (not (is_select op) || holds known to)

abbrev pub holding_of : (longword : Bool) → Holding
holding_of longword = if longword then Longword else Wide

-- ---- checks and references: none stands behind a change, and each place is a longword
abbrev pub place_fits : Known → (place : ℕ) → Bool
place_fits known place = not known.changed && holds_longword known place

abbrev pub check_fits : Known → (place count : ℕ) → Bool
check_fits known place count = is_count count && place_fits known place

-- each reference stands behind a check of its place and count, for writing where it writes
abbrev pub reference_fits : Known → (place count : ℕ) → (write : Bool) → Bool
reference_fits known place count write = place_fits known place && is_checked known.checked place count write

-- the temporaries of one reference are different from each other and among 0 to 3
abbrev pub are_apart : (a b : ℕ) → Bool
are_apart a b = nat_lt a 4 && nat_lt b 4 && not (a == b)

abbrev pub read_fits : Known → (to place count : ℕ) → Bool
read_fits known to place count = is_count count && are_apart to place && reference_fits known place count false

abbrev pub write_fits : Known → (place count from : ℕ) → Bool
write_fits known place count from =
    is_count count && are_apart place from && holds known from && reference_fits known place count true

abbrev pub locked_fits : Known → (to place count from : ℕ) → Bool
locked_fits known to place count from =
    are_apart to place && are_apart place from && are_apart from to && holds known from && reference_fits known place count true

-- ---- changes: each register, the codes and the PSW are changed once at most
abbrev pub commit_fits : Known → (register from : ℕ) → Bool
commit_fits known register from = nat_lt register 15 && holds known from && not (is_committed known register)

abbrev pub code_fits : Known → Option ℕ → Bool
code_fits known None = true
code_fits known (Some temp) = holds known temp

abbrev pub codes_fit : Known → (n z v : ℕ) → Option ℕ → Bool
codes_fit known n z v c = not known.codes && holds known n && holds known z && holds known v && code_fits known c

-- ---- leaving
-- the words that make the codes change temporaries 3 and 4
abbrev pub exit_holds : Known → (temp : ℕ) → Bool
exit_holds known temp = holds known temp && not (temp == 3) && not (temp == 4)

-- a service finds the codes as the instruction found them, and the breakpoint fault finds the whole state so
abbrev pub exit_fits : Known → Exit → Bool
exit_fits known Next = true
exit_fits known (Fixed address) = true
exit_fits known (Computed temp) = exit_holds known temp
exit_fits known (Choice when taken other) = exit_holds known when
exit_fits known (Service temp) = exit_holds known temp && not known.codes && not known.psw
exit_fits known Breakpoint = not known.changed

-- N, Z and V come from values, and not from what was found or from the PSW
abbrev pub is_from_values : CodeSource → Bool
is_from_values sources.Kept = false
is_from_values sources.Psw = false
is_from_values source = true

abbrev pub is_from_psw : CodeSource → Bool
is_from_psw sources.Psw = true
is_from_psw source = false

-- the temporaries hold what N, Z and V come from, and the result
abbrev pub signs_are_held : Known → CodeSource → Bool
signs_are_held known sources.Kept = true
signs_are_held known sources.Zero = true
signs_are_held known (sources.Result size) = holds known 2
signs_are_held known (sources.Add size) = holds known 0 && holds known 1 && holds known 2
signs_are_held known (sources.Sub size) = holds known 0 && holds known 1 && holds known 2
signs_are_held known (sources.Compare size) = holds known 0 && holds known 1
signs_are_held known (sources.Computed size) = holds known 2 && holds known 3
signs_are_held known sources.Psw = holds known 2

-- the same of C
abbrev pub carry_is_held : Known → CodeSource → Bool
carry_is_held known sources.Kept = true
carry_is_held known sources.Zero = true
carry_is_held known (sources.Result size) = true
carry_is_held known (sources.Add size) = holds known 0 && holds known 1
carry_is_held known (sources.Sub size) = holds known 0 && holds known 1
carry_is_held known (sources.Compare size) = holds known 0 && holds known 1
carry_is_held known (sources.Computed size) = holds known 4
carry_is_held known sources.Psw = holds known 2

-- `Codes` stands just where N, Z and V come from values, `SetPsw` just where they come from the PSW
abbrev pub sources_fit : CodeSources → Known → Bool
sources_fit codes known =
    same known.codes (is_from_values codes.nzv)
    && same known.psw (is_from_psw codes.nzv)
    && signs_are_held known codes.nzv
    && carry_is_held known codes.c

-- ---- the walk
abbrev pub when_fits : (fits : Bool) → Known → Option Known
when_fits fits known = if fits then Some known else None

-- what is known behind an operation, where it fits
unfoldable pub step : CodeSources → Known → Micro → Option Known
step codes known (Compute to op size a b) =
    when_fits (computation_fits known to op a b) (behind_write to (holding_of (leaves_longword (Compute to op size a b))) known)
step codes known (Probe place count write) =
    when_fits (check_fits known place count) (behind_access (record known { checked = At place count write }))
step codes known (Refuse when) = when_fits (not known.changed && holds known when) known
step codes known (Read to place count) =
    when_fits (read_fits known to place count) (behind_access (behind_write to (holding_of (nat_le count 4)) known))
step codes known (Write place count from) = when_fits (write_fits known place count from) (behind_access known)
step codes known (Locked to place kind from) =
    when_fits (locked_fits known to place (locked_count kind) from) (behind_access (behind_write to Wide known))
step codes known (Commit register from) = when_fits (commit_fits known register from) (behind_commit register known)
step codes known (Codes n z v c) = when_fits (codes_fit known n z v c) (record known { codes = true; changed = true })
step codes known (SetPsw from) = when_fits (not known.psw && holds known from) (record known { psw = true; changed = true })
step codes known (Leave exit) = when_fits (exit_fits known exit && sources_fit codes known) (record known { ended = true })

-- nothing stands behind `Leave`
abbrev pub walk : CodeSources → Known → List Micro → Option Known
walk codes known [] = Some known
walk codes known (operation ∷ program) =
    if known.ended then None else option_and_then (λ behind. walk codes behind program) (step codes known operation)

abbrev pub is_ended : Option Known → Bool
is_ended None = false
is_ended (Some known) = known.ended

-- ---- the registers of a block
abbrev pub is_low_argument : Arg → Bool
is_low_argument (Temp temp) = is_low temp
is_low_argument arg = true

abbrev pub is_low_exit : Exit → Bool
is_low_exit (Computed temp) = is_low temp
is_low_exit (Choice when taken other) = is_low when
is_low_exit (Service temp) = is_low temp
is_low_exit exit = true

abbrev pub is_low_code : Option ℕ → Bool
is_low_code None = true
is_low_code (Some temp) = is_low temp

-- names no temporary above 5
abbrev pub names_low : Micro → Bool
names_low (Compute to op size a b) = is_low to && is_low_argument a && (is_unary op || is_low_argument b)
names_low (Probe place count write) = is_low place
names_low (Refuse when) = is_low when
names_low (Read to place count) = is_low to && is_low place
names_low (Write place count from) = is_low place && is_low from
names_low (Locked to place kind from) = is_low to && is_low place && is_low from
names_low (Commit register from) = is_low from
names_low (Codes n z v c) = is_low n && is_low z && is_low v && is_low_code c
names_low (SetPsw from) = is_low from
names_low (Leave exit) = is_low_exit exit

-- all but the codes, and what is left out, names the temporaries 0 to 5 alone
abbrev pub keeps_low : CodeSources → Micro → (behind : List Micro) → Bool
keeps_low codes operation behind = is_codes operation || is_left_out codes operation behind || names_low operation

abbrev pub all_keep_low : CodeSources → List Micro → Bool
all_keep_low codes [] = true
all_keep_low codes (operation ∷ program) = keeps_low codes operation program && all_keep_low codes program

-- ---- the whole
-- of the 256 words of a block
abbrev pub most_words : ℕ
most_words = 192

-- the walk comes to the end, the temporaries have registers, and the words have room
abbrev pub fits : CodeSources → List Micro → Bool
fits codes program =
    is_ended (walk codes at_start program) && all_keep_low codes program && nat_le (program_words codes program) most_words
