-- Each command is one call, and how it ended is told.
use Rattle.std.proofs.Common.{ap, refl, subst, sym}
use Rattle.std.proofs.lemmas.Result.{IfOk-weaker}
use Rattle.vximage_words.specs.Commands.{CommandValue, command_value, list, listing_wanted, make_elf, make_parts, parts_wanted, show}
use Rattle.vximage_cli.specs.Vximage.{Obeys, lent}
use Rattle.vximage_cli.proofs.Ending.{obeyed_end, obeyed_fault}
use Rattle.vximage_cli.proofs.Saying.{on_err}
use Rattle.vximage_cli.proofs.top.obey.Goals as goal

pub returns-in-MakeParts : goal.returns-in-MakeParts
returns-in-MakeParts g c =
    let command = make_parts c.in-MakeParts.name.now (parts_wanted c.in-MakeParts.parts) in
    let old = lent (g.D.Desk.meaning c.args.desk.now) (g.K.Sink.meaning c.args.out.now) (g.E.Sink.meaning c.args.report.now) in
    let new = lent (g.D.Desk.meaning c.make_parts.new.desk) (g.K.Sink.meaning c.args.out.now) (g.E.Sink.meaning c.ended.new.report) in
    subst (λ (k : CommandValue). Obeys k c.ended.result old new) (sym (ap command_value c.in-MakeParts.is))
    (obeyed_end command c.ended.result old new c.make_parts.result
    (IfOk-weaker c.make_parts.result _ _ (λ end makes. record { makes = makes; unsent = refl }) c.make_parts.ensures.does)
    c.make_parts.ensures.why c.make_parts.ensures.stays (on_err c.make_parts.result _ refl) c.ended.ensures)

pub returns-in-MakeElf : goal.returns-in-MakeElf
returns-in-MakeElf g c =
    let command = make_elf c.in-MakeElf.name.now c.in-MakeElf.file.now c.in-MakeElf.options in
    let old = lent (g.D.Desk.meaning c.args.desk.now) (g.K.Sink.meaning c.args.out.now) (g.E.Sink.meaning c.args.report.now) in
    let new = lent (g.D.Desk.meaning c.make_elf.new.desk) (g.K.Sink.meaning c.args.out.now) (g.E.Sink.meaning c.ended-in-MakeElf.new.report) in
    subst (λ (k : CommandValue). Obeys k c.ended-in-MakeElf.result old new) (sym (ap command_value c.in-MakeElf.is))
    (obeyed_end command c.ended-in-MakeElf.result old new c.make_elf.result
    (IfOk-weaker c.make_elf.result _ _ (λ end makes. record { makes = makes; unsent = refl }) c.make_elf.ensures.does)
    c.make_elf.ensures.why c.make_elf.ensures.stays (on_err c.make_elf.result _ refl) c.ended-in-MakeElf.ensures)

pub returns-in-Show : goal.returns-in-Show
returns-in-Show g c =
    let command = show c.in-Show.name.now in
    let old = lent (g.D.Desk.meaning c.args.desk.now) (g.K.Sink.meaning c.args.out.now) (g.E.Sink.meaning c.args.report.now) in
    let new = lent (g.D.Desk.meaning c.show.new.desk) (g.K.Sink.meaning c.show.new.out) (g.E.Sink.meaning c.ended-in-Show.new.report) in
    subst (λ (k : CommandValue). Obeys k c.ended-in-Show.result old new) (sym (ap command_value c.in-Show.is))
    (obeyed_end command c.ended-in-Show.result old new c.show.result
    (IfOk-weaker c.show.result _ _ (λ end shows. record { shows = shows; stays = c.show.ensures.stays }) c.show.ensures.does)
    c.show.ensures.why (on_err c.show.result _ c.show.ensures.stays) c.show.ensures.unsent c.ended-in-Show.ensures)

pub returns-in-List : goal.returns-in-List
returns-in-List g c =
    let command = list c.in-List.name.now (listing_wanted c.in-List.asked) in
    let old = lent (g.D.Desk.meaning c.args.desk.now) (g.K.Sink.meaning c.args.out.now) (g.E.Sink.meaning c.args.report.now) in
    let new = lent (g.D.Desk.meaning c.list.new.desk) (g.K.Sink.meaning c.list.new.out) (g.E.Sink.meaning c.listing_ended.new.report) in
    subst (λ (k : CommandValue). Obeys k c.listing_ended.result old new) (sym (ap command_value c.in-List.is))
    (obeyed_fault command c.listing_ended.result old new c.list.result
    (IfOk-weaker c.list.result _ _ (λ end lists. record { lists = lists; stays = c.list.ensures.stays }) c.list.ensures.does)
    c.list.ensures.why (on_err c.list.result _ c.list.ensures.stays) c.list.ensures.unsent c.listing_ended.ensures)
