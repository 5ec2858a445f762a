use Rattle.std.proofs.Common.{◌≡◌, length, arith}
use Rattle.image_file.specs.Rows.{page_count}
use Rattle.report_text.proofs.GeneratedLaws.{padded, same_table, two_ranges}
use Rattle.report_text.proofs.images.pages_of.Goals as goal

pub returns : goal.returns
returns c =
    let count : c.div_ceil-count.result ≡ page_count (length c.args.code.now) = omega (arith, c.div_ceil-count.ensures) in
    let ranges =
    two_ranges c.args.code.now c.div_ceil-count.result _ _ _ count c.new-ranges.ensures.items c.in_ok-push.ensures.items c.in_ok-push-2.ensures.items in
    let bytes =
    padded c.args.code.now _ _ c.div_ceil-count.result _ count c.in_ok-bytes.ensures.items c.in_ok-bytes.ensures.len c.in_ok-resize.ensures.items in
    same_table c.args.code.now _ _ ranges bytes
