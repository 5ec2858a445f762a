use Rattle.std.proofs.Common.{IsSome, sym, subst}
use Rattle.memory_core.proofs.Reading.{request_left}
use Rattle.memory_core.proofs.held.Held.found.Goals as goal

pub unwrap-requires : goal.unwrap-requires
unwrap-requires c =
    let m = c.args.self.now.contents in
    subst IsSome (sym c.quad.ensures) (request_left m.set_up m.history c.args.request.now c.requires c.in_default.not-Put c.in_default.not-Get)
