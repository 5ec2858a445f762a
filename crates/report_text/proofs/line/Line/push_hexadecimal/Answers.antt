use Rattle.std.proofs.Common.{◌≡◌, ◌+◌, ◌-◌, ◌++◌, ◌∷◌, [], suc, length, length-append, append-nil, sym, ap, ◌∙◌, arith}
use Rattle.report_text.specs.Digits.{digit_at, digits_from}
use Rattle.report_text.proofs.Hexadecimal.{next_digit}
use Rattle.report_text.proofs.line.Line.push_hexadecimal.Goals as goal

pub loop-written-init : goal.loop-written-init
loop-written-init c =
    let all : c.args.digits - 0 ≡ c.args.digits = omega arith in
    record { count = omega arith; text = ap (λ k. c.args.self.now ++ digits_from k c.args.number) all }

pub loop-written-preserved : goal.loop-written-preserved
loop-written-preserved c =
    let place = c.args.digits - 1 - c.loop-written.written in
    let one_less : c.args.digits - c.loop-written.written ≡ suc (c.args.digits - 1 - c.loop-written.written) = omega arith in
    let same : c.args.digits - (c.loop-written.written + 1) ≡ c.args.digits - 1 - c.loop-written.written = omega arith in
    let pushed : c.push.new.self ≡ c.loop-written.self ++ digit_at (c.args.digits - 1 - c.loop-written.written) c.args.number ∷ [] =
    c.push.ensures ∙ ap (λ digit. c.loop-written.self ++ digit ∷ []) c.digit_at.ensures in
    record {
      count = simp length-append at (ap length c.push.ensures) ∙ omega arith;
      text = ap (λ front. front ++ digits_from (c.args.digits - (c.loop-written.written + 1)) c.args.number) pushed
          ∙ ap (λ k. (c.loop-written.self ++ digit_at (c.args.digits - 1 - c.loop-written.written) c.args.number ∷ []) ++ digits_from k c.args.number) same
          ∙ next_digit c.loop-written.self _ _ _ c.args.number one_less c.loop-written.invariant.text;
    }

pub returns-clause-text : goal.returns-clause-text
unfolding digits_from
returns-clause-text c =
    let done : c.args.digits - c.loop-written.written ≡ 0 = omega arith in
    sym (append-nil c.loop-written.self)
    ∙ ap (λ k. c.loop-written.self ++ digits_from k c.args.number) (sym done)
    ∙ c.loop-written.invariant.text
