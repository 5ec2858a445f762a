use Rattle.std.proofs.Common.{◌≡◌, ◌∙◌, ◌<◌, ◌≤◌, ap, sym, arith, rules, length, false, true≢false}
use Rattle.std.specs.Prelude.{◌==◌, slice_index}
use Rattle.command_words.proofs.Readings.{short_read}
use Rattle.command_words.proofs.numbers.short_number.Goals as goal

pub returns : goal.returns
returns c =
    let first : (slice_index c.args.text.now 0 == 43) ≡ false = search rules in
    let plus : slice_index c.args.text.now 0 ≡ 43 → ⊥ = λ e. true≢false (sym (ap (λ n. n == 43) e) ∙ first) in
    let short : length c.args.text.now ≤ c.args.most = search rules in
    let least : 0 < c.args.radix = omega arith in
    c.ok.ensures.value ∙ short_read c.args.radix c.args.most c.args.text.now c.from_str_radix.result c.requires.small least short plus c.from_str_radix.ensures.value
