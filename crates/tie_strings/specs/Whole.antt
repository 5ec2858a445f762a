-- For what a `LongTie` stands.
use Rattle.std.specs.Prelude.{◌≡◌, ℕ, Bool, false, [], List, true, Result}
use Rattle.vax_form.specs.Grammar.{Found, instruction, reserved_instruction, reserved_mode, past}
use Rattle.vax_form.specs.Row.{is_long_at}
use Rattle.vax_form.specs.Tree.{Tree, feed}
use Rattle.vax_form.specs.declared.instr.Instr.{Instr}
use Rattle.vax_form.specs.declared.operation.LongOperation.{LongOperation}
use Rattle.vax_form.specs.declared.pages.Pages.{Pages}
use Rattle.vax_form.specs.declared.script.Stop.{Stop}
use Rattle.vax_form.specs.declared.state.VaxState.{VaxState}
use Rattle.vax_meaning.specs.declared.cursor.Cursor.{Cursor}
use Rattle.vax_meaning.specs.declared.evaluation.Evaluated.{Evaluated}
use Rattle.tie_operands.specs.Rest.{instr_of, operands_rest, rest_with, LeadsTo}
use Rattle.tie_operands.specs.Steps.{StandsFor}
use Rattle.tie_operands.specs.declared.operands.Operands.{Operands}
use Rattle.tie_strings.specs.Bodies.{long_tree, body_rest}
use Rattle.tie_strings.specs.Strings.{loop_tree, strings_tell}
use Rattle.tie_strings.specs.declared.tie.LongTie.{LongTie}
use Rattle.tie_strings.specs.declared.tie.Stage.{Stage}
use Rattle.tie_strings.specs.declared.tie.Stage.TheVariants.{Evaluates, Closes, Repeats}

-- a long instruction was found
abbrev pub IsLong : Found → Type 0
IsLong (instruction instr) = is_long_at instr.opcode ≡ true
IsLong reserved_instruction = ⊥
IsLong reserved_mode = ⊥
IsLong (past address) = ⊥

-- what an operation does behind its operands, with the state and the replies of a cursor
abbrev pub closed_at : LongOperation → Instr → List Evaluated → Cursor → Tree
closed_at operation instr values cursor = feed cursor.pages.now (long_tree cursor.pages.now operation instr values cursor.state) cursor.replies.now

-- what is left of operands and of what an operation does behind them, with the state and the replies of a cursor
abbrev pub led : LongOperation → Operands → Cursor → Tree
led operation operands cursor = rest_with operands cursor (long_tree cursor.pages.now operation (instr_of operands))

-- evaluating the operands of an operation leads to what it does
abbrev pub LeadsToBody : VaxState → LongOperation → Operands → Cursor → Result (List Evaluated) Stop → Operands → Cursor → Type 0
LeadsToBody before operation operands old result after new =
    LeadsTo before (long_tree old.pages.now operation (instr_of operands)) operands old result after new

abbrev pub stage_rest : Pages → Stage → Tree
stage_rest pages (Evaluates operation operands) = operands_rest pages operands (long_tree pages operation (instr_of operands))
stage_rest pages (Closes closing) = body_rest pages closing
stage_rest pages (Repeats under_way) = feed pages (loop_tree pages under_way) []

-- the rest of the tree, with the checks that hold behind it
abbrev pub rest_of : Pages → LongTie → Tree
rest_of pages tie = stage_rest pages tie.stage

-- a string is under way that tells what it wants
abbrev pub stage_tells : Pages → Stage → Bool
stage_tells pages (Evaluates operation operands) = false
stage_tells pages (Closes closing) = false
stage_tells pages (Repeats under_way) = strings_tell pages under_way.strings

abbrev pub goes_on_alone : Pages → LongTie → Bool
goes_on_alone pages tie = stage_tells pages tie.stage

abbrev pub before_of : LongTie → VaxState
before_of tie = tie.before

-- it stands for the instruction of that tree, begun in that state, with those replies made
abbrev pub Stands : Pages → LongTie → VaxState → Tree → List ℕ → Type 0
Stands pages tie state tree replies = StandsFor pages (before_of tie) (rest_of pages tie) state tree replies
