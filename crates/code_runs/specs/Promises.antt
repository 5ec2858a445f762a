-- What holds of the runs of instructions, and of the condition codes along them.
use Rattle.cc_liveness.specs.Uses.{use_of}
use Rattle.std.specs.Prelude.{◌≡◌, ◌≢◌, ◌<◌, ℕ, true, false, All, Contains, List, None, length}
use Rattle.std.specs.Option.{option_map_or}
use Rattle.vax_form.specs.Operation.{operation_at}
use Rattle.vax_form.specs.declared.instr.Instr.{Instr}
use Rattle.exception_records.specs.Codes.{all_ready}
use Rattle.code_runs.specs.Ready.{AreReady, can_have_block}
use Rattle.code_runs.specs.Runs.{AreInOrder, instr_at, joined_to, IsRun}
use Rattle.code_runs.specs.Codes.{codes_at}

-- the instruction at the place is in a run, and in no other
pub record IsInOneRun (instrs : List Instr) (place : ℕ) : Type 0 where
  pub run : List ℕ
  pub is_run : IsRun instrs run
  pub contains : Contains run place
  pub alone : (other : List ℕ) → IsRun instrs other → Contains other place → other ≡ run

abbrev pub EachInOneRun : Type 0
EachInOneRun = (instrs : List Instr) → AreInOrder instrs → (place : ℕ) → place < length instrs → IsInOneRun instrs place

-- there can be a block for each
abbrev pub CanHaveBlocks : List Instr → Type 0
CanHaveBlocks instrs = All (λ instr. option_map_or can_have_block (operation_at instr.opcode) false ≡ true) instrs

-- Where an instruction ends, control may be elsewhere behind it, and all codes are ready there; so they are before one that
-- is joined to none. An instruction finds the rules of the one that ends where it begins, and behind one where none begins
-- all codes are ready. The codes that an instruction reads are ready before it.
pub record RulesMeet (instrs : List Instr) : Type 0 where
  pub ends : (place : ℕ) → place < length instrs → (use_of (instr_at instrs place)).ends ≡ true → (codes_at instrs place).behind ≡ all_ready
  pub begins : (place : ℕ) → place < length instrs → joined_to instrs place ≡ None → (codes_at instrs place).before ≡ all_ready
  pub onward : (place next : ℕ) → place < length instrs → next < length instrs → (instr_at instrs next).at ≡ (instr_at instrs place).after
      → (codes_at instrs next).before ≡ (codes_at instrs place).behind
  pub leaves : (place : ℕ) → place < length instrs → ((next : ℕ) → next < length instrs → (instr_at instrs next).at ≢ (instr_at instrs place).after)
      → (codes_at instrs place).behind ≡ all_ready
  pub reads : (place : ℕ) → place < length instrs → AreReady (use_of (instr_at instrs place)).reads (codes_at instrs place).before

abbrev pub RulesAlwaysMeet : Type 0
RulesAlwaysMeet = (instrs : List Instr) → AreInOrder instrs → CanHaveBlocks instrs → RulesMeet instrs
