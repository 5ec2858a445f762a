use Rattle.std.proofs.Common.{◌++◌, ap, ◌∙◌}
use Rattle.std.specs.List.{flat_map}
use Rattle.std.proofs.lemmas.Result.{IfOk-weaker}
use Rattle.vax_form.specs.PageTable.{PageTable}
use Rattle.image_file.specs.Values.{ImageValue}
use Rattle.image_text.specs.Lines.{open_line, stop_lines, service_line}
use Rattle.image_text.specs.Text.{reached_line, interpreted_line, opcodes, flow_text}
use Rattle.image_text.proofs.Appended.{five}
use Rattle.image_text.proofs.flow.put_flow.Goals as goal

pub returns : goal.returns
unfolding flow_text
returns c =
    let image = c.args.image.now in
    let instrs = c.args.instrs.now in
    let pages = ap (λ (i : ImageValue). i.pages) c.image.view_is in
    IfOk-weaker c.put_services.result _ _
    (λ _ last. five c.args.out.now.items (reached_line image.pages instrs c.args.mapped c.args.words) (flat_map (interpreted_line image.pages instrs) opcodes) (flat_map open_line instrs) (flat_map (stop_lines image.pages) instrs) (flat_map service_line instrs)
    c.put_reached.new.out.items c.put_opcodes.new.out.items c.put_opens.new.out.items c.put_all_stops.new.out.items _
    (c.in_ok-put_reached.ensures ∙ ap (λ (p : PageTable). c.args.out.now.items ++ reached_line p instrs c.args.mapped c.args.words) pages)
    (c.in_ok-put_opcodes.ensures ∙ ap (λ (p : PageTable). c.put_reached.new.out.items ++ flat_map (interpreted_line p instrs) opcodes) pages)
    c.in_ok-put_opens.ensures
    (c.in_ok-put_all_stops.ensures ∙ ap (λ (p : PageTable). c.put_opens.new.out.items ++ flat_map (stop_lines p) instrs) pages)
    last)
    c.put_services.ensures
