use Rattle.std.proofs.Common.{◌∷◌, ◌++◌, ◌-◌, ap, ◌∙◌}
use Rattle.std.specs.Prelude.{codes, decimal}
use Rattle.report_text.specs.Digits.{eight_digits}
use Rattle.dis_text.specs.Listing.{end_of}
use Rattle.dis_text.proofs.Appended.{five}
use Rattle.dis_text.proofs.sections.put_head.Goals as goal

pub returns : goal.returns
returns c =
    let s = c.args.section.now in
    five c.args.out.now.items (codes "; section") (32 ∷ decimal c.args.number) (codes " " ++ eight_digits s.start) (codes " to " ++ eight_digits (end_of s - 1)) (codes " read-only\n")
    c.extend_from_slice.new.self.items c.put_spaced.new.out.items c.put_address.new.out.items c.put_address-2.new.out.items _
    c.in_ok-extend_from_slice.ensures.items
    c.in_ok-put_spaced.ensures
    (c.in_ok-put_address.ensures ∙ ap (λ n. c.put_spaced.new.out.items ++ (codes " " ++ eight_digits n)) c.start_of.ensures.value)
    (c.in_ok-put_address-2.ensures ∙ ap (λ n. c.put_address.new.out.items ++ (codes " to " ++ eight_digits n)) (c.saturating_sub-last.ensures ∙ ap (λ n. n - 1) c.end_of.ensures.value))
    c.in_ok-extend_from_slice-2.ensures.items
