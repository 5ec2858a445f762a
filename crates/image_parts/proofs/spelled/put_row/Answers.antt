use Rattle.std.proofs.Common.{◌≡◌, ◌^◌, ◌<◌, Bool, true, false, cond, length, ap, ◌∙◌, arith, lit<}
use Rattle.image_file.specs.Values.{SectionValue}
use Rattle.image_parts.proofs.Tests.{on_ok}
use Rattle.image_parts.proofs.spelled.put_row.Goals as goal

flag_fits : (writable : Bool) → cond writable 1 0 < 2 ^ 32
flag_fits true = lit< tt
flag_fits false = lit< tt

pub returns-clause-fit : goal.returns-clause-fit
returns-clause-fit c =
    let section = c.args.section.now in
    let start : c.section.inside.start ≡ section.start = ap (λ (s : SectionValue). s.start) c.section.view_is in
    let stored : c.len-stored.result ≡ length section.stored = c.len-stored.ensures ∙ c.section.inside.stored.ok.0 ∙ ap (λ (s : SectionValue). length s.stored) c.section.view_is in
    on_ok c.put_words.result (λ all. record {
      start = omega (arith, start, all.0);
      size = omega (arith, c.size_of-size.ensures, all.1.0);
      stored = omega (arith, stored, all.1.1.0);
      flags = flag_fits section.writable;
    }) c.put_words.ensures.fit
