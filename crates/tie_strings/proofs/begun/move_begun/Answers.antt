-- Both strings are checked, and then the bytes are moved.
use Rattle.tie_strings.specs.Begins.{move_of}
use Rattle.vax_form.specs.declared.operation.LongOperation.TheVariants.{MoveCharacters}
use Rattle.tie_strings.proofs.BegunMoves.{is_move, begins, fails}
use Rattle.tie_strings.proofs.begun.move_begun.Goals as goal

pub returns-in-Ok : goal.returns-in-Ok
returns-in-Ok c =
    let instr = c.args.instr.now in
    let values = c.args.values.now in
    rw c.move_of.ensures
    (begins MoveCharacters instr values c.value_of_place-source.result c.value_of_place-count.result c.value_of_place-destination.result c.value_of_place-count.result
    (move_of c.value_of_place-count.result c.value_of_place-source.result c.value_of_place-destination.result instr.after) c.args.cursor.now c.strings_checked.new.cursor
    (is_move instr values c.value_of_place-count.result c.value_of_place-source.result c.value_of_place-destination.result c.value_of_place-count.ensures.value c.value_of_place-source.ensures.value c.value_of_place-destination.ensures.value)
    c.in-Ok.ensures.plays)

pub returns-in-Err : goal.returns-in-Err
returns-in-Err c =
    let instr = c.args.instr.now in
    let values = c.args.values.now in
    fails MoveCharacters instr values c.value_of_place-source.result c.value_of_place-count.result c.value_of_place-destination.result c.value_of_place-count.result
    (move_of c.value_of_place-count.result c.value_of_place-source.result c.value_of_place-destination.result instr.after) c.args.cursor.now c.strings_checked.new.cursor c.in-Err.stop
    (is_move instr values c.value_of_place-count.result c.value_of_place-source.result c.value_of_place-destination.result c.value_of_place-count.ensures.value c.value_of_place-source.ensures.value c.value_of_place-destination.ensures.value)
    c.in-Err.ensures.plays c.in-Err.ensures.few
