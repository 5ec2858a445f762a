-- Instructions, states and pages that show what an operation does.
use Rattle.std.proofs.Common.{◌≡◌, ℕ, ◌<◌, ◌∷◌, [], ◌++◌, List, refl, sym, subst, Some, true, false, arith, lit<}
use Rattle.std.specs.Prelude.{replicate}
use Rattle.std.proofs.lemmas.List.Elements.{All-append, All-cons, All-nil, All-replicate}
use Rattle.vax_form.specs.Codes.{holds}
use Rattle.vax_form.specs.Operation.{operation_at}
use Rattle.vax_form.specs.PageTable.{IsPageTable}
use Rattle.vax_form.specs.Script.{Script}
use Rattle.vax_form.specs.State.{IsState}
use Rattle.vax_form.specs.declared.instr.Instr.{Instr}
use Rattle.vax_form.specs.declared.instr.Operand.{Operand}
use Rattle.vax_form.specs.declared.operation.Operation.{Operation}
use Rattle.vax_form.specs.declared.operation.Operation.TheVariants as operations
use Rattle.vax_form.specs.declared.pages.Pages.{Pages}
use Rattle.vax_form.specs.declared.script.End.{End}
use Rattle.vax_form.specs.declared.state.Pending.TheVariants.{Nothing}
use Rattle.vax_form.specs.declared.state.VaxState.{VaxState}
use Rattle.vax_meaning.specs.Instructions.{operation_script, script_where}
use Rattle.vax_long.specs.Instructions.{any_script_of, either_script, long_operation, long_script}

-- at address 0, with these operands; it goes on behind itself at 2, and elsewhere at 4
abbrev pub behind : ℕ
behind = 2

abbrev pub instr_of : (opcode : ℕ) → List Operand → Instr
instr_of opcode operands = record { at = 0; opcode = opcode; count = 6; operands = operands; after = behind }

-- R0 to FP are 0, and SP is 512
abbrev pub state_of : (psw : ℕ) → VaxState
state_of psw = record { r = replicate 14 0 ++ 512 ∷ []; pc = 0; psw = psw; handler = 0; pending = Nothing }

pub is_state_of : (psw : ℕ) → psw < 256 → IsState (state_of psw)
is_state_of psw small = record {
  registers = refl;
  longwords = All-append (λ value. value < 4294967296) (replicate 14 0) (512 ∷ []) (All-replicate (λ value. value < 4294967296) 14 0 (lit< tt)) (All-cons (λ value. value < 4294967296) 512 [] (lit< tt) (All-nil (λ value. value < 4294967296)));
  pc = lit< tt;
  psw = small;
  handler = lit< tt;
}

-- a page that can be written, and behind it one of the code, which holds 0
abbrev pub two_pages : Pages
two_pages = record {
  ranges = record { first = 0; count = 1; writable = true; place = 0 } ∷ record { first = 1; count = 1; writable = false; place = 0 } ∷ [];
  code = replicate 512 0;
}

pub is_table : IsPageTable two_pages
is_table = record {
  rising = (omega arith, omega arith, omega arith, (omega arith, omega arith, omega arith, tt));
  placed = (refl, (refl, tt));
  filled = refl;
}

-- ---- the script of an instruction, by its operation
abbrev pub script_by : Operation → Instr → Script End
script_by (operations.Long operation) instr = long_script operation instr
script_by operation instr = operation_script operation instr 0

either_by : (P : Script End → Type 0) (operation : Operation) (instr : Instr) → operation_at instr.opcode ≡ Some operation → P (script_by operation instr)
    → P (either_script (long_operation (Some operation)) instr 0)
unfolding long_operation
either_by P (operations.Long operation) instr is holds = holds
either_by P _ instr is holds = subst (λ found. P (script_where found instr 0)) (sym is) holds

pub any_by : (P : Script End → Type 0) (operation : Operation) (instr : Instr) → operation_at instr.opcode ≡ Some operation → P (script_by operation instr) → P (any_script_of instr 0)
any_by P operation instr is holds = subst (λ found. P (either_script (long_operation found) instr 0)) (sym is) (either_by P operation instr is holds)
