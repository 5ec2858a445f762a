-- The command that was read is obeyed, or what was told in its place is passed on.
use Rattle.vximage_words.specs.Commands.{command_value}
use Rattle.vximage_cli.specs.Vximage.{obeyed}
use Rattle.vximage_cli.proofs.top.vximage.Goals as goal

pub returns-in-Ok : goal.returns-in-Ok
returns-in-Ok g c = obeyed (command_value c.in-Ok.command) c.obey_last.ensures

pub returns-in-Err : goal.returns-in-Err
returns-in-Err g c = c.tell_last.ensures (g.D.Desk.meaning c.args.desk.now)
