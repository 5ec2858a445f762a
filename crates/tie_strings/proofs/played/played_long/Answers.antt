-- An operation without strings is its script.
use Rattle.vax_long.specs.Instructions.{long_script}
use Rattle.tie_operands.proofs.Played.{played}
use Rattle.tie_strings.specs.Bodies.{long_of}
use Rattle.tie_strings.proofs.played.played_long.Goals as goal

pub returns-clause-answers : goal.returns-clause-answers
returns-clause-answers c =
    let run = c.run_whole in
    (played 60 (long_script (long_of c.args.operation) c.args.instr.now) c.args.cursor.now run.new.cursor run.result run.ensures.plays run.ensures.few).answers

pub returns-clause-faults : goal.returns-clause-faults
returns-clause-faults c =
    let run = c.run_whole in
    (played 60 (long_script (long_of c.args.operation) c.args.instr.now) c.args.cursor.now run.new.cursor run.result run.ensures.plays run.ensures.few).faults
