use Rattle.std.proofs.Common.{◌≡◌, true, false, not, ap, sym, subst, ◌∙◌, arith}
use Rattle.std.specs.Prelude.{nat_lt}
use Rattle.std.proofs.lemmas.Bool.{lt-ltb, le-ltb}
use Rattle.vax_form.specs.declared.state.Pick.{Pick}
use Rattle.run_files.specs.Reading.{is_of_no_thread, pick_in}
use Rattle.run_files.proofs.PartsLaws.{bad_thread}
use Rattle.run_files.proofs.Tables.{NonePass, none_more, first_refused, none_refused}
use Rattle.run_files.proofs.parts.check_picks.Goals as goal

pub returns-then-pick_at-threads : goal.returns-then-pick_at-threads
returns-then-pick_at-threads c =
    let none : not (nat_lt c.pick_at.result.thread c.args.threads) ≡ true = ap not (le-ltb _ _ c.if-pick_at-threads.true) in
    first_refused (is_of_no_thread c.args.threads) bad_thread 9 pick_in c.loop-place.place c.args.count c.args.picks.now c.loop-place-test.true c.loop-place.invariant
    (ap (λ (p : Pick). is_of_no_thread c.args.threads p) (sym c.pick_at.ensures) ∙ none)

pub loop-place-preserved : goal.loop-place-preserved
loop-place-preserved c =
    let some : not (nat_lt c.pick_at.result.thread c.args.threads) ≡ false = ap not (lt-ltb _ _ c.if-pick_at-threads.false) in
    none_more (is_of_no_thread c.args.threads) 9 pick_in c.loop-place.place c.args.picks.now c.loop-place.invariant (ap (λ (p : Pick). is_of_no_thread c.args.threads p) (sym c.pick_at.ensures) ∙ some)

pub returns : goal.returns
returns c =
    let all : c.loop-place.place ≡ c.args.count = omega (arith, c.loop-place-test.false, c.loop-place.auto.place-end) in
    none_refused (is_of_no_thread c.args.threads) bad_thread 9 pick_in c.args.count c.args.picks.now (subst (λ n. NonePass (is_of_no_thread c.args.threads) 9 pick_in n c.args.picks.now) all c.loop-place.invariant)
