-- Both strings are checked, and then the bytes are moved and the rest is filled.
use Rattle.tie_strings.specs.Begins.{filled_move_of}
use Rattle.vax_form.specs.declared.operation.LongOperation.TheVariants.{MoveCharactersFilled}
use Rattle.tie_strings.proofs.BegunMoves.{is_filled_move, begins, fails}
use Rattle.tie_strings.proofs.begun.filled_move_begun.Goals as goal

pub returns-in-Ok : goal.returns-in-Ok
returns-in-Ok c =
    let instr = c.args.instr.now in
    let values = c.args.values.now in
    rw c.filled_move_of.ensures
    (begins MoveCharactersFilled instr values c.value_of_place-source.result c.min.result c.value_of_place-destination.result c.value_of_place-room.result
    (filled_move_of c.value_of_place-length.result c.value_of_place-source.result c.value_of_place-fill.result c.value_of_place-room.result c.value_of_place-destination.result instr.after) c.args.cursor.now c.strings_checked.new.cursor
    (is_filled_move instr values c.value_of_place-length.result c.value_of_place-source.result c.value_of_place-fill.result c.value_of_place-room.result c.value_of_place-destination.result c.min.result
    c.value_of_place-length.ensures.value c.value_of_place-source.ensures.value c.value_of_place-fill.ensures.value c.value_of_place-room.ensures.value c.value_of_place-destination.ensures.value c.min.ensures)
    c.in-Ok.ensures.plays)

pub returns-in-Err : goal.returns-in-Err
returns-in-Err c =
    let instr = c.args.instr.now in
    let values = c.args.values.now in
    fails MoveCharactersFilled instr values c.value_of_place-source.result c.min.result c.value_of_place-destination.result c.value_of_place-room.result
    (filled_move_of c.value_of_place-length.result c.value_of_place-source.result c.value_of_place-fill.result c.value_of_place-room.result c.value_of_place-destination.result instr.after) c.args.cursor.now c.strings_checked.new.cursor c.in-Err.stop
    (is_filled_move instr values c.value_of_place-length.result c.value_of_place-source.result c.value_of_place-fill.result c.value_of_place-room.result c.value_of_place-destination.result c.min.result
    c.value_of_place-length.ensures.value c.value_of_place-source.ensures.value c.value_of_place-fill.ensures.value c.value_of_place-room.ensures.value c.value_of_place-destination.ensures.value c.min.ensures)
    c.in-Err.ensures.plays c.in-Err.ensures.few
