-- The rest of the tree of a long instruction behind its operands.
use Rattle.std.specs.Prelude.{List, Option, Some, None}
use Rattle.vax_form.specs.Tree.{Tree, feed, instruction_tree}
use Rattle.vax_form.specs.declared.instr.Instr.{Instr}
use Rattle.vax_form.specs.declared.operation.LongOperation.{LongOperation}
use Rattle.vax_form.specs.declared.operation.LongOperation.TheVariants as long
use Rattle.vax_form.specs.declared.pages.Pages.{Pages}
use Rattle.vax_form.specs.declared.state.VaxState.{VaxState}
use Rattle.vax_meaning.specs.declared.cursor.Cursor.{Cursor}
use Rattle.vax_meaning.specs.declared.evaluation.Evaluated.{Evaluated}
use Rattle.vax_long.specs.Instructions.{long_body}
use Rattle.tie_operands.specs.Replies.{replies_of}
use Rattle.tie_strings.specs.declared.body.Plain.{Plain}
use Rattle.tie_strings.specs.declared.body.Plain.TheVariants.{Index, CallGeneral, CallStack, Return, PushRegisters, PopRegisters}
use Rattle.tie_strings.specs.declared.body.Body.{Body}

abbrev pub long_of : Plain → LongOperation
long_of Index = long.Index
long_of CallGeneral = long.CallGeneral
long_of CallStack = long.CallStack
long_of Return = long.Return
long_of PushRegisters = long.PushRegisters
long_of PopRegisters = long.PopRegisters

-- the operation, where it has no strings
abbrev pub plain_of : LongOperation → Option Plain
plain_of long.Index = Some Index
plain_of long.CallGeneral = Some CallGeneral
plain_of long.CallStack = Some CallStack
plain_of long.Return = Some Return
plain_of long.PushRegisters = Some PushRegisters
plain_of long.PopRegisters = Some PopRegisters
plain_of long.MoveCharacters = None
plain_of long.MoveCharactersFilled = None
plain_of long.CompareCharacters = None
plain_of long.LocateCharacter = None
plain_of long.SkipCharacter = None

-- what a long operation does once its operands are evaluated, to its end
unfoldable pub long_tree : Pages → LongOperation → Instr → List Evaluated → VaxState → Tree
long_tree pages operation instr values state = instruction_tree pages (long_body operation instr values) state

-- what is left of it with the replies that are kept
abbrev pub body_rest : Pages → Body → Tree
body_rest pages closing = feed pages (long_tree pages (long_of closing.operation) closing.instr closing.values closing.state) (replies_of closing.kept)

-- and with the state and the replies of a cursor
abbrev pub body_at : Body → Cursor → Tree
body_at closing cursor = feed cursor.pages.now (long_tree cursor.pages.now (long_of closing.operation) closing.instr closing.values cursor.state) cursor.replies.now
