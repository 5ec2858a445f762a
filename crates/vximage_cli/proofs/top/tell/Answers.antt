-- Help goes out, or the report is told why nothing was read.
use Rattle.std.proofs.Common.{refl}
use Rattle.vximage_cli.specs.Vximage.{told, unread}
use Rattle.vximage_cli.proofs.Reading.{same_desk}
use Rattle.vximage_cli.proofs.Saying.{says}
use Rattle.vximage_cli.proofs.top.tell.Goals as goal

pub returns-in-Help : goal.returns-in-Help
returns-in-Help g c = λ desk. told c.send.result c.as_bytes.result.now c.status.ensures (record { sent = c.send.ensures; desk = refl; report = refl })

pub returns-in-Fault : goal.returns-in-Fault
returns-in-Fault g c = λ desk.
    unread c.as_bytes-in-Fault.result.now refl
    (record {
      desk = same_desk desk;
      out = refl;
      said = says c.write_all.result c.as_bytes-in-Fault.result.now (g.E.Sink.meaning c.args.report.now) (g.E.Sink.meaning c.write_all.new.sink) c.write_all.ensures.ok c.write_all.ensures.err;
    })
