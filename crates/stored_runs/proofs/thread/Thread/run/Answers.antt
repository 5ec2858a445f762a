use Rattle.stored_runs.specs.Marks.{mark_of}
use Rattle.stored_runs.proofs.Marked.{passed_way}
use Rattle.stored_runs.proofs.Standing.{noted_behind, noted_run}
use Rattle.stored_runs.proofs.thread.Thread.run.Goals as goal

pub returns-in-Some-clause-run : goal.returns-in-Some-clause-run
returns-in-Some-clause-run c = λ replies at.
    noted_run c.args.image.now c.args.thread replies c.args.self.retired c.args.self.count c.args.self.noted c.in-Some.state c.in-Some.is at.noted

pub returns-in-Some-clause-marks : goal.returns-in-Some-clause-marks
returns-in-Some-clause-marks c = λ replies at.
    passed_way c.args.image.now c.args.thread replies c.args.self.count c.args.self.retired (mark_of c.args.course.now.marks)
    (noted_behind c.args.image.now c.args.thread replies c.args.self.retired c.args.self.count c.args.self.noted c.in-Some.state c.in-Some.is at.noted)
