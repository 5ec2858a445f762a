use Rattle.std.proofs.Common.{◌≡◌, length, Some}
use Rattle.vax_form.specs.declared.state.VaxState.{VaxState}
use Rattle.vax_meaning.specs.After.{after}
use Rattle.vax_long.specs.Pending.{moment_at}
use Rattle.vax_run.specs.Answered.{reached_of, IsPlace}
use Rattle.vax_run.proofs.advance.advance.Given as goal

abbrev pub invariant-loop : goal.invariant-loop
invariant-loop l = record {
  reached : (start : VaxState) → after (moment_at l.pages l.thread) l.pages start l.fn.retired l.replies ≡ reached_of l.replies (Some l.fn.from)
      → after (moment_at l.pages l.thread) l.pages start l.counter l.replies ≡ reached_of l.replies l.here;
  place : IsPlace (length l.replies) l.here;
}
