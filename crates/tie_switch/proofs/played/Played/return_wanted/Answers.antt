-- What a RET wants is a step of it.
use Rattle.tie_switch.proofs.Playing.{return_steps}
use Rattle.tie_switch.proofs.played.Played.return_wanted.Goals as goal

pub returns : goal.returns
returns c =
    let self = c.args.self.now in
    return_steps c.args.pages.now self.thread self.before c.args.instr.now c.args.replies.now c.told.result c.requires c.told.ensures.wanted c.told.ensures.few
