-- The condition codes of instructions along their runs.
-- Source: own.
use Rattle.std.specs.Prelude.{◌≡◌, ◌==◌, ℕ, zero, suc, false, Bool, List, [], ◌∷◌, Option, length, map, slice_index_or}
use Rattle.std.specs.List.{find, range_with_len}
use Rattle.std.specs.Option.{option_map_or}
use Rattle.vax_form.specs.Operation.{operation_at}
use Rattle.vax_form.specs.declared.instr.Instr.{Instr}
use Rattle.vax_form.specs.declared.state.Flags.{Flags}
use Rattle.vax_form.specs.Codes.{none}
use Rattle.cc_liveness.specs.Liveness.{live_behind, live_codes, wanted_by}
use Rattle.cc_liveness.specs.Uses.{use_of}
use Rattle.micro_ops.specs.Sources.{from, sources_of}
use Rattle.micro_ops.specs.declared.codes.CodeSource.TheVariants.{Kept}
use Rattle.micro_ops.specs.declared.codes.CodeSources.{CodeSources}
use Rattle.exception_records.specs.Codes.{all_ready}
use Rattle.exception_records.specs.declared.rules.Rules.{Rules}
use Rattle.code_runs.specs.Rules.{rules_behind}
use Rattle.code_runs.specs.declared.codes.InstrCodes.{InstrCodes}
use Rattle.code_runs.specs.Runs.{instr_at, joined_to, IsRun}

-- where the codes that it writes come from
unfoldable pub code_sources : Instr → CodeSources
code_sources instr = option_map_or sources_of (operation_at instr.opcode) (from Kept Kept)

-- ---- a run
-- from the rules before the first, and the codes that are live behind each
abbrev pub codes_along : (before : Rules) → List Instr → List Flags → List InstrCodes
codes_along before [] lives = []
codes_along before (instr ∷ rest) [] = []
codes_along before (instr ∷ rest) (live ∷ lives) =
    let behind = rules_behind (code_sources instr) live before in
    record { live = live; before = before; behind = behind } ∷ codes_along behind rest lives

-- all codes are ready before a run
abbrev pub run_codes : List Instr → List InstrCodes
run_codes run = codes_along all_ready run (live_codes (map use_of run))

abbrev pub no_codes : InstrCodes
no_codes = record { live = none; before = all_ready; behind = all_ready }

abbrev pub codes_of : List InstrCodes → (place : ℕ) → InstrCodes
codes_of codes place = slice_index_or codes place no_codes

-- one for each instruction, and along each run its codes
pub record AreCodes (instrs : List Instr) (codes : List InstrCodes) : Type 0 where
  pub count : length codes ≡ length instrs
  pub runs : (run : List ℕ) → IsRun instrs run → map (codes_of codes) run ≡ run_codes (map (instr_at instrs) run)

-- ---- an instruction by the others of its run
abbrev pub is_joined : List Instr → (place next : ℕ) → Bool
is_joined instrs place next = option_map_or (λ before. before == place) (joined_to instrs next) false

-- the place of the instruction that is joined to the one at a place
unfoldable pub joined_behind : List Instr → (place : ℕ) → Option ℕ
joined_behind instrs place = find (is_joined instrs place) (range_with_len 0 (length instrs))

-- the places behind a place in its run, in their order; no more than that number
abbrev pub behind_in_run : List Instr → (most place : ℕ) → List ℕ
behind_in_run instrs zero place = []
behind_in_run instrs (suc most) place = option_map_or (λ next. next ∷ behind_in_run instrs most next) (joined_behind instrs place) []

-- the places before a place in its run, the nearest first; no more than that number
abbrev pub before_in_run : List Instr → (most place : ℕ) → List ℕ
before_in_run instrs zero place = []
before_in_run instrs (suc most) place = option_map_or (λ before. before ∷ before_in_run instrs most before) (joined_to instrs place) []

-- the codes that are live behind an instruction
unfoldable pub live_at : List Instr → (place : ℕ) → Flags
live_at instrs place =
    live_behind (use_of (instr_at instrs place)) (wanted_by (map use_of (map (instr_at instrs) (behind_in_run instrs (length instrs) place))))

-- the rules behind the instructions at these places of a run, of which the last begins it
abbrev pub rules_along : List Instr → (places : List ℕ) → Rules
rules_along instrs [] = all_ready
rules_along instrs (place ∷ before) = rules_behind (code_sources (instr_at instrs place)) (live_at instrs place) (rules_along instrs before)

-- the rules before an instruction
unfoldable pub rules_before : List Instr → (place : ℕ) → Rules
rules_before instrs place = rules_along instrs (before_in_run instrs (length instrs) place)

abbrev pub codes_at : List Instr → (place : ℕ) → InstrCodes
codes_at instrs place =
    let live = live_at instrs place in
    let before = rules_before instrs place in
    record { live = live; before = before; behind = rules_behind (code_sources (instr_at instrs place)) live before }

-- the codes of each instruction
abbrev pub instruction_codes : List Instr → List InstrCodes
instruction_codes instrs = map (codes_at instrs) (range_with_len 0 (length instrs))
