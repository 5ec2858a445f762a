use Rattle.std.proofs.Common.{◌≡◌, ap, sym, subst, ◌∙◌, arith}
use Rattle.std.proofs.lemmas.Bool.{lt-ltb, le-ltb}
use Rattle.run_files.specs.Reading.{is_bad_flag, flag_in}
use Rattle.run_files.proofs.PartsLaws.{bad_flag}
use Rattle.run_files.proofs.Tables.{NonePass, none_more, first_refused, none_refused}
use Rattle.run_files.proofs.parts.check_flags.Goals as goal

pub returns-then-flag_at-gt1 : goal.returns-then-flag_at-gt1
returns-then-flag_at-gt1 c =
    first_refused is_bad_flag bad_flag 9 flag_in c.loop-thread.thread c.args.threads c.args.ends.now c.loop-thread-test.true c.loop-thread.invariant
    (ap is_bad_flag (sym c.flag_at.ensures) ∙ lt-ltb _ _ c.if-flag_at-gt1.true)

pub loop-thread-preserved : goal.loop-thread-preserved
loop-thread-preserved c =
    none_more is_bad_flag 9 flag_in c.loop-thread.thread c.args.ends.now c.loop-thread.invariant (ap is_bad_flag (sym c.flag_at.ensures) ∙ le-ltb _ _ c.if-flag_at-gt1.false)

pub returns : goal.returns
returns c =
    let all : c.loop-thread.thread ≡ c.args.threads = omega (arith, c.loop-thread-test.false, c.loop-thread.auto.thread-end) in
    none_refused is_bad_flag bad_flag 9 flag_in c.args.threads c.args.ends.now (subst (λ n. NonePass is_bad_flag 9 flag_in n c.args.ends.now) all c.loop-thread.invariant)
