use Rattle.std.proofs.Common.{subst, refl}
use Rattle.shared_memory.specs.Passes.{start_of}
use Rattle.shared_memory.specs.Ways.{IsWay}
use Rattle.shared_memory.proofs.Accesses.{has_behind}
use Rattle.shared_memory.proofs.shared.SharedMemory.access_taken.Goals as goal

pub returns-clause-way : goal.returns-clause-way
returns-clause-way c =
    let k = start_of c.args.self.now in let p = c.args.request.now.processor in let m = c.args.way.now.seat.me in let e = c.access.ensures in
    let lease = subst (IsWay k p m) c.in-Some.is c.requires.way.is in record {
      table = c.requires.way.table;
      is = has_behind k p m c.in-Some.state lease c.access.new.self c.args.request.now c.access.result refl e.reply e.order e.room;
    }
