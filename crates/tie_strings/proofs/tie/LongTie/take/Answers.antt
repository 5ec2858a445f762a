-- Behind the reply what is left of a string stands for the instruction.
use Rattle.tie_strings.proofs.Telling.{take_stands}
use Rattle.tie_strings.proofs.tie.LongTie.take.Goals as goal

pub returns-in-Repeats : goal.returns-in-Repeats
returns-in-Repeats c = λ pages tells state tree replies stands.
    take_stands pages c.in-Repeats.under_way _ c.args.self.now.before c.args.reply (rw c.in-Repeats.is at tells) (c.take.ensures pages c.in-Repeats.under_way.state)
    state tree replies (rw c.in-Repeats.is at stands)
