use Rattle.std.proofs.Common.{◌≡◌, ◌++◌, ap, ◌∙◌, length}
use Rattle.std.specs.List.{flat_map}
use Rattle.system_model.specs.Counted.{order}
use Rattle.run_files.specs.Spelling.{header_bytes, end_bytes, pick_bytes}
use Rattle.run_files.proofs.WriteLaws.{put_so}
use Rattle.run_files.proofs.writing.append_order.Goals as goal

pub returns : goal.returns
returns c =
    let ends = c.args.ends.now in
    let input = c.args.input.now in
    let picks = order c.args.history.now in
    let header = header_bytes (length ends) c.count_picks.result (length input) in
    let first : c.put_header.new.into.items ≡ header = c.put_header.ensures.items ∙ ap (λ out. out ++ header) c.requires.empty in
    c.put_picks.ensures
    ∙ ap (λ out. out ++ flat_map pick_bytes picks) (c.put_bytes.ensures.items ∙ ap (λ out. out ++ input) (c.put_ends.ensures.items ∙ ap (λ out. out ++ flat_map end_bytes ends) first))
    ∙ put_so ends input picks c.count_picks.result c.count_picks.ensures
