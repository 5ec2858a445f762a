-- The rest of the tree of an instruction's operands, with whatever comes behind them.
use Rattle.std.specs.Prelude.{◌≡◌, ℕ, ◌+◌, ◌-◌, List, slice_index_or, slice_set, Option, Some, None, Result, Ok, Err}
use Rattle.vax_form.specs.Script.{Script, ◌>>=◌}
use Rattle.vax_form.specs.Tree.{Tree, tree_of, feed, head_outcome, stop_outcome}
use Rattle.vax_form.specs.declared.instr.Access.{Access}
use Rattle.vax_form.specs.declared.instr.Access.TheVariants.{Read}
use Rattle.vax_form.specs.declared.instr.Instr.{Instr}
use Rattle.vax_form.specs.declared.instr.Size.{Size}
use Rattle.vax_form.specs.declared.instr.Size.TheVariants.{Byte}
use Rattle.vax_form.specs.declared.pages.Pages.{Pages}
use Rattle.vax_form.specs.declared.script.Stop.{Stop}
use Rattle.vax_form.specs.declared.script.Stop.TheVariants.{Wants, Fails}
use Rattle.vax_form.specs.declared.state.VaxState.{VaxState}
use Rattle.vax_meaning.specs.Play.{IsFault}
use Rattle.vax_meaning.specs.Evaluation.{operand, obtain, operands_from}
use Rattle.vax_meaning.specs.declared.cursor.Cursor.{Cursor}
use Rattle.vax_meaning.specs.declared.evaluation.Evaluated.{Evaluated}
use Rattle.vax_meaning.specs.declared.operands.Location.{Location}
use Rattle.tie_operands.specs.Replies.{replies_of}
use Rattle.tie_operands.specs.Steps.{Shows}
use Rattle.tie_operands.specs.declared.step.TieStep.TheVariants.{Want, Raised}
use Rattle.tie_operands.specs.declared.specifiers.Specifiers.{Specifiers}
use Rattle.tie_operands.specs.declared.operands.Operands.{Operands}

-- what comes behind the operands, by their values and the state
abbrev pub Behind : Type 0
Behind = List Evaluated → VaxState → Tree

abbrev pub access_at : Specifiers → (place : ℕ) → Access
access_at specifiers place = slice_index_or specifiers.row.access place Read

abbrev pub size_at : Specifiers → (place : ℕ) → Size
size_at specifiers place = slice_index_or specifiers.row.size place Byte

-- the operands from one on that is found or not, with the values of those before it
abbrev pub operands_script : Specifiers → Option Location → (place : ℕ) → List Evaluated → Script (List Evaluated)
operands_script specifiers None place values = operands_from (6 - place) specifiers.row specifiers.instr values
operands_script specifiers (Some location) place values = do
  value ← obtain (access_at specifiers place) (size_at specifiers place) (operand specifiers.instr place) location
  operands_from (6 - (place + 1)) specifiers.row specifiers.instr (slice_set values place value)

unfoldable pub operands_tree : Pages → Specifiers → Option Location → (place : ℕ) → List Evaluated → VaxState → Behind → Tree
operands_tree pages specifiers found place values state behind = tree_of pages (operands_script specifiers found place values) state behind

abbrev pub instr_of : Operands → Instr
instr_of operands = operands.specifiers.instr

-- the state before the current part of an operand, and the replies that this part has
abbrev pub state_of : Operands → VaxState
state_of operands = operands.state

abbrev pub kept_of : Operands → List ℕ
kept_of operands = replies_of operands.kept

-- what is left of the operands with the replies that are kept
abbrev pub operands_rest : Pages → Operands → Behind → Tree
operands_rest pages operands behind =
    feed pages (operands_tree pages operands.specifiers operands.found operands.done operands.values operands.state behind) (kept_of operands)

-- what is left from an operand on with the replies of a cursor
abbrev pub rest_at : Specifiers → Option Location → (place : ℕ) → List Evaluated → Cursor → Behind → Tree
rest_at specifiers found place values cursor behind = feed cursor.pages.now (operands_tree cursor.pages.now specifiers found place values cursor.state behind) cursor.replies.now

-- a stop is at the head of what is left from an operand on
abbrev pub StopsAt : Specifiers → Option Location → (place : ℕ) → Cursor → Stop → Type 0
StopsAt specifiers found place old stop =
    (values : List Evaluated) (behind : Behind) (before : VaxState) → head_outcome before (rest_at specifiers found place values old behind) ≡ stop_outcome before stop

-- finding an operand leads from what is left with its finding to what is left behind that
abbrev pub PassesFinding : Specifiers → (place : ℕ) → Option Location → Cursor → Result Location Stop → Cursor → Type 0
PassesFinding specifiers place found old (Ok location) new =
    (new.pages.now ≡ old.pages.now)
    × ((values : List Evaluated) (behind : Behind) → rest_at specifiers found place values old behind ≡ rest_at specifiers (Some location) place values new behind)
PassesFinding specifiers place found old (Err stop) new = StopsAt specifiers found place old stop

-- and obtaining one that was found leads to the next operand
abbrev pub PassesObtaining : Specifiers → (place : ℕ) → Location → Cursor → Result Evaluated Stop → Cursor → Type 0
PassesObtaining specifiers place location old (Ok value) new =
    (new.pages.now ≡ old.pages.now)
    × ((values : List Evaluated) (behind : Behind)
    → rest_at specifiers (Some location) place values old behind ≡ rest_at specifiers None (place + 1) (slice_set values place value) new behind)
PassesObtaining specifiers place location old (Err stop) new = StopsAt specifiers (Some location) place old stop

-- what is left of operands with the replies of a cursor
abbrev pub rest_with : Operands → Cursor → Behind → Tree
rest_with operands cursor behind = rest_at operands.specifiers operands.found operands.done operands.values cursor behind

-- evaluating the operands leads to what comes behind them; where it wants a reference the new ones have the same rest
abbrev pub PassesOperands : Operands → Cursor → Result (List Evaluated) Stop → Operands → Cursor → Type 0
PassesOperands operands old (Ok values) after new =
    (new.pages.now ≡ old.pages.now) × ((behind : Behind) → rest_with operands old behind ≡ feed old.pages.now (behind values new.state) new.replies.now)
PassesOperands operands old (Err (Wants reference)) after new = (behind : Behind)
    → record {
      shown : (before : VaxState) → head_outcome before (rest_with operands old behind) ≡ stop_outcome before (Wants reference);
      rest : operands_rest old.pages.now after behind ≡ rest_with operands old behind;
    }
PassesOperands operands old (Err (Fails exception)) after new =
    IsFault exception × ((behind : Behind) (before : VaxState) → head_outcome before (rest_with operands old behind) ≡ stop_outcome before (Fails exception))

-- the same with what comes behind them, as a step shows it
abbrev pub LeadsTo : VaxState → Behind → Operands → Cursor → Result (List Evaluated) Stop → Operands → Cursor → Type 0
LeadsTo before behind operands old (Ok values) after new =
    (new.pages.now ≡ old.pages.now) × (rest_with operands old behind ≡ feed old.pages.now (behind values new.state) new.replies.now)
LeadsTo before behind operands old (Err (Wants reference)) after new =
    Shows before (rest_with operands old behind) (Want reference) × (operands_rest old.pages.now after behind ≡ rest_with operands old behind)
LeadsTo before behind operands old (Err (Fails exception)) after new = Shows before (rest_with operands old behind) (Raised exception before)
