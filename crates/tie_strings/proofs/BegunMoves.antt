-- A move is the checks of its strings, and its loop.
use Rattle.std.proofs.Common.{◌≡◌, ℕ, List, Ok, Err, refl, ap, ◌∙◌, arith}
use Rattle.std.specs.Prelude.{min}
use Rattle.vax_form.specs.Tree.{tree_of, feed, head_outcome}
use Rattle.vax_form.specs.declared.instr.Instr.{Instr}
use Rattle.vax_form.specs.declared.instr.Size.TheVariants.{Byte, Word, Long}
use Rattle.vax_form.specs.declared.operation.LongOperation.{LongOperation}
use Rattle.vax_form.specs.declared.operation.LongOperation.TheVariants.{MoveCharacters, MoveCharactersFilled}
use Rattle.vax_form.specs.declared.pages.Pages.{Pages}
use Rattle.vax_form.specs.declared.script.Stop.{Stop}
use Rattle.vax_form.specs.declared.script.Stop.TheVariants.{Wants, Fails}
use Rattle.vax_form.specs.declared.state.VaxState.{VaxState}
use Rattle.vax_meaning.specs.Evaluation.{value_of_place}
use Rattle.vax_meaning.specs.Play.{Plays, Uses}
use Rattle.vax_meaning.specs.declared.cursor.Cursor.{Cursor}
use Rattle.vax_meaning.specs.declared.evaluation.Evaluated.{Evaluated}
use Rattle.vax_meaning.proofs.Feeding.{fed_of_plays}
use Rattle.vax_long.specs.Instructions.{long_body}
use Rattle.vax_long.specs.Strings.{move_characters, move_characters_filled, move_string, fill_bytes}
use Rattle.tie_operands.proofs.Whole.{StopsByFault, shows_stop}
use Rattle.tie_strings.specs.Begins.{check_strings, move_of, filled_move_of, IsFailure, BeginsMove}
use Rattle.tie_strings.specs.Bodies.{long_tree}
use Rattle.tie_strings.specs.Moves.{move_on, moving_script}
use Rattle.tie_strings.specs.Strings.{strings_tree}
use Rattle.tie_strings.specs.declared.moving.Moving.{Moving}
use Rattle.tie_strings.specs.declared.string.Strings.TheVariants.{Moves}

-- the tree of an instruction that checks its strings, and goes on with that move
abbrev pub IsMove : LongOperation → Instr → List Evaluated → (source count destination room : ℕ) → Moving → Type 0
IsMove operation instr values source count destination room moving = (pages : Pages) (state : VaxState)
    → long_tree pages operation instr values state
    ≡ tree_of pages (check_strings source count destination room) state (λ _ after. strings_tree pages (Moves moving) after)

pub is_move : (instr : Instr) (values : List Evaluated) (count source destination : ℕ)
    → count ≡ value_of_place values 0 Word → source ≡ value_of_place values 1 Long → destination ≡ value_of_place values 2 Long
    → IsMove MoveCharacters instr values source count destination count (move_of count source destination instr.after)
unfolding long_tree long_body move_characters move_string check_strings moving_script move_on fill_bytes
is_move instr values count source destination a b c = λ pages state. rw (a, b, c) refl

pub is_filled_move : (instr : Instr) (values : List Evaluated) (length source byte room destination count : ℕ)
    → length ≡ value_of_place values 0 Word → source ≡ value_of_place values 1 Long → byte ≡ value_of_place values 2 Byte
    → room ≡ value_of_place values 3 Word → destination ≡ value_of_place values 4 Long → count ≡ min length room
    → IsMove MoveCharactersFilled instr values source count destination room (filled_move_of length source byte room destination instr.after)
unfolding long_tree long_body move_characters_filled move_string check_strings moving_script move_on
is_filled_move instr values length source byte room destination count a b c d e f = λ pages state. rw f (rw (a, b, c, d, e) refl)

pub begins : (operation : LongOperation) (instr : Instr) (values : List Evaluated) (source count destination room : ℕ) (moving : Moving) (old new : Cursor)
    → IsMove operation instr values source count destination room moving → Plays (check_strings source count destination room) old (Ok tt) new
    → BeginsMove operation instr values old (Ok moving) new
begins operation instr values source count destination room moving old new is plays =
    let fed = fed_of_plays (check_strings source count destination room) old new (Ok tt) plays in (
      fed.0,
      ap (λ t. feed old.pages.now t old.replies.now) (is old.pages.now old.state) ∙ fed.1 (λ _ after. strings_tree old.pages.now (Moves moving) after),
    )

is_failure : (old new : Cursor) (stop : Stop) → Uses {A = Unit {0}} 0 old (Err stop) new → IsFailure stop
is_failure old new (Wants reference) few = absurd (omega (arith, few))
is_failure old new (Fails exception) few = tt

stops_by_fault : (old new : Cursor) (stop : Stop) → Uses {A = Unit {0}} 0 old (Err stop) new → StopsByFault stop
stops_by_fault old new (Wants reference) few = tt
stops_by_fault old new (Fails exception) few = few

pub fails : (operation : LongOperation) (instr : Instr) (values : List Evaluated) (source count destination room : ℕ) (moving : Moving) (old new : Cursor) (stop : Stop)
    → IsMove operation instr values source count destination room moving → Plays (check_strings source count destination room) old (Err stop) new
    → Uses {A = Unit {0}} 0 old (Err stop) new → BeginsMove operation instr values old (Err stop) new
fails operation instr values source count destination room moving old new stop is plays few = (
  is_failure old new stop few,
  λ before. shows_stop before (feed old.pages.now (long_tree old.pages.now operation instr values old.state) old.replies.now) stop _ refl (stops_by_fault old new stop few)
      (ap (λ t. head_outcome before (feed old.pages.now t old.replies.now)) (is old.pages.now old.state)
      ∙ fed_of_plays (check_strings source count destination room) old new (Err stop) plays (λ _ after. strings_tree old.pages.now (Moves moving) after) before),
)
