use Rattle.std.proofs.Common.{◌≡◌, ap, sym, subst, ◌∙◌, arith}
use Rattle.std.proofs.lemmas.Bool.{lt-ltb, le-ltb}
use Rattle.run_files.specs.Reading.{is_large_count, quad}
use Rattle.run_files.proofs.PartsLaws.{large_count}
use Rattle.run_files.proofs.Tables.{NonePass, none_more, first_refused, none_refused}
use Rattle.run_files.proofs.parts.check_counts.Goals as goal

pub returns-then-count_at-gt-MOST_COUNT : goal.returns-then-count_at-gt-MOST_COUNT
returns-then-count_at-gt-MOST_COUNT c =
    first_refused is_large_count large_count 9 quad c.loop-thread.thread c.args.threads c.args.ends.now c.loop-thread-test.true c.loop-thread.invariant
    (ap is_large_count (sym c.count_at.ensures) ∙ lt-ltb _ _ c.if-count_at-gt-MOST_COUNT.true)

pub loop-thread-preserved : goal.loop-thread-preserved
loop-thread-preserved c =
    none_more is_large_count 9 quad c.loop-thread.thread c.args.ends.now c.loop-thread.invariant (ap is_large_count (sym c.count_at.ensures) ∙ le-ltb _ _ c.if-count_at-gt-MOST_COUNT.false)

pub returns : goal.returns
returns c =
    let all : c.loop-thread.thread ≡ c.args.threads = omega (arith, c.loop-thread-test.false, c.loop-thread.auto.thread-end) in
    none_refused is_large_count large_count 9 quad c.args.threads c.args.ends.now (subst (λ n. NonePass is_large_count 9 quad n c.args.ends.now) all c.loop-thread.invariant)
