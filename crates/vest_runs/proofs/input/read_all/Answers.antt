-- Each turn brought a byte, and no more than there was room for.
use Rattle.std.proofs.Common.{◌≡◌, ◌<◌, ◌≤◌, ◌+◌, ◌∙◌, ℕ, IfErr, length, arith, rules, sym, subst, length-take, length-take-le}
use Rattle.vest_stops.specs.declared.stop.Stop.TheVariants.{WantOfMemory}
use Rattle.vest_runs.proofs.Progress.{has_given_some, has_given_too_many, has_read_more, stops_for_want}
use Rattle.vest_runs.proofs.input.read_all.Goals as goal

pub loop-turn-preserved : goal.loop-turn-preserved
loop-turn-preserved g c =
    let some = subst (λ (n : ℕ). 1 ≤ n) (sym (length-take-le c.in-Bytes.count c.read.new.into c.in-Bytes.ensures.count_in_range.1)) c.in-Bytes.ensures.count_in_range.0 in
    let short = subst (λ (n : ℕ). n ≤ 65536) (c.len-in-loop-turn.ensures ∙ c.extend_from_slice.new.self.ok.0) c.if-len-gt-INPUT_LIMIT.false in
    has_read_more (g.I.Source.meaning c.args.input.now) (g.I.Source.meaning c.loop-turn.input) (g.I.Source.meaning c.read.new.self) c.loop-turn.bytes.items _ c.extend_from_slice.new.self.items c.loop-turn.turn
    c.loop-turn.invariant c.in-Bytes.ensures.first_bytes_left c.read.ensures.count_never_falls some c.in_ok-extend_from_slice-in-Bytes.ensures.items short

pub returns-then-len-gt-INPUT_LIMIT-clause-err : goal.returns-then-len-gt-INPUT_LIMIT-clause-err
returns-then-len-gt-INPUT_LIMIT-clause-err g c =
    let held : length c.loop-turn.bytes.items + length c.read.new.into ≤ 65537 =
    omega (arith, length-take c.min-room.result c.loop-turn.buffer, c.len.ensures, c.loop-turn.bytes.ok.0, c.min-room.ensures, c.loop-turn.invariant.short) in
    let few = subst (λ (n : ℕ). length c.loop-turn.bytes.items + n ≤ 65537) (sym (length-take-le c.in-Bytes.count c.read.new.into c.in-Bytes.ensures.count_in_range.1)) (omega (arith, held, c.in-Bytes.ensures.count_in_range.1)) in
    let long = subst (λ (n : ℕ). 65536 < n) (c.len-in-loop-turn.ensures ∙ c.extend_from_slice.new.self.ok.0) c.if-len-gt-INPUT_LIMIT.true in
    has_given_too_many (g.I.Source.meaning c.args.input.now) (g.I.Source.meaning c.loop-turn.input) (g.I.Source.meaning c.read.new.self) c.loop-turn.bytes.items _ c.extend_from_slice.new.self.items c.loop-turn.turn
    c.loop-turn.invariant c.in-Bytes.ensures.first_bytes_left few c.in_ok-extend_from_slice-in-Bytes.ensures.items long

pub returns-in_err-extend_from_slice-in-Bytes-clause-err : goal.returns-in_err-extend_from_slice-in-Bytes-clause-err
returns-in_err-extend_from_slice-in-Bytes-clause-err g c =
    let held : length c.loop-turn.bytes.items + length c.read.new.into ≤ 65537 =
    omega (arith, length-take c.min-room.result c.loop-turn.buffer, c.len.ensures, c.loop-turn.bytes.ok.0, c.min-room.ensures, c.loop-turn.invariant.short) in
    let few = subst (λ (n : ℕ). length c.loop-turn.bytes.items + n ≤ 65537) (sym (length-take-le c.in-Bytes.count c.read.new.into c.in-Bytes.ensures.count_in_range.1)) (omega (arith, held, c.in-Bytes.ensures.count_in_range.1)) in
    let want : IfErr c.from_residual.result (λ stop. stop ≡ WantOfMemory) = search rules in
    stops_for_want c.from_residual.result (g.I.Source.meaning c.args.input.now) (g.I.Source.meaning c.read.new.self) want
    (has_given_some (g.I.Source.meaning c.args.input.now) (g.I.Source.meaning c.loop-turn.input) (g.I.Source.meaning c.read.new.self) c.loop-turn.bytes.items _ c.loop-turn.turn
    c.loop-turn.invariant c.in-Bytes.ensures.first_bytes_left few)
