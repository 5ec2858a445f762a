-- What is made of the parts says why, behind the files.
use Rattle.std.proofs.Common.{◌≡◌, ◌++◌, ◌∙◌, IfErr, List, None, Option, inr, map, rules, subst, sym}
use Rattle.std.specs.List.{AllZip}
use Rattle.std.proofs.lemmas.Result.{IfErr-weaker}
use Rattle.vt_outside.specs.Desk.{Files}
use Rattle.image_file.specs.Values.{SectionValue}
use Rattle.image_parts.specs.Values.{PartsValue}
use Rattle.vximage_words.specs.Commands.{parts_wanted, section_wanted}
use Rattle.vximage_words.specs.declared.commands.SectionAsked.{SectionAsked}
use Rattle.vximage_cli.specs.Making.{AreListed, AreParts, IsSection, StopsParts}
use Rattle.vximage_cli.specs.Named.{name_told}
use Rattle.vximage_cli.specs.declared.halt.Halt.{Halt}
use Rattle.vximage_cli.proofs.making.make_parts.Goals as goal

pub returns-in_err-bytes-clause-why : goal.returns-in_err-bytes-clause-why
returns-in_err-bytes-clause-why g c =
    let files = (g.D.Desk.meaning c.args.desk.now).files in
    let wanted = parts_wanted c.args.asked.now in
    let parts : PartsValue = record { threads = c.deref-4.result.now; sections = c.deref-5.result.now; entries = c.deref-6.result.now } in
    let read = subst (λ (asked : List SectionAsked). AllZip (IsSection files) (map section_wanted asked) c.in_ok-sections.sections.items) c.deref.ensures.value c.in_ok-sections.ensures.ok in
    let are : AreParts files wanted parts = record {
      threads = c.deref-4.ensures.value;
      sections = subst (λ (sections : List SectionValue). AllZip (IsSection files) wanted.sections sections) (sym c.deref-5.ensures.value) read;
      listed = c.in_ok-listed.listed.items;
      are_listed = subst (λ (f : Option Files). AreListed f wanted.entries_file c.in_ok-listed.listed.items) c.sections_of.ensures.stays.files c.in_ok-listed.ensures.ok;
      entries = c.deref-6.ensures.value ∙ c.in_ok-entries.ensures ∙ (λ i. c.deref-2.ensures.value i ++ c.deref-3.ensures.value i);
    } in
    let halt : Halt = record { stop = c.in_err-bytes.field-0.0; name = None } in
    let same : IfErr c.from_residual-in_err-bytes.result (λ x. x ≡ halt) = search rules in
    IfErr-weaker c.from_residual-in_err-bytes.result _ _
    (λ x is. subst (λ (h : Halt). StopsParts h.stop (name_told h) wanted (g.D.Desk.meaning c.args.desk.now) (g.D.Desk.meaning c.listed_of.new.desk)) (sym is) (inr (parts, are, c.in_err-bytes.ensures.err)))
    same
