use Rattle.std.proofs.Common.{◌≡◌, ◌∙◌, ℕ, Some, None, sym, ap}
use Rattle.code_runs.specs.Runs.{joined_to}
use Rattle.code_runs.proofs.Joined.{joined_is_behind, none_where_none, none_where_other}
use Rattle.code_runs.proofs.codes.joined_behind.Goals as goal

pub returns-in_err-next-clause-value : goal.returns-in_err-next-clause-value
returns-in_err-next-clause-value c = c.from_residual.ensures ∙ sym (none_where_none c.args.instrs.now c.requires.order c.args.place c.in_err-next.ensures.none)

pub returns-in-Some-clause-value : goal.returns-in-Some-clause-value
returns-in-Some-clause-value c =
    let is : joined_to c.args.instrs.now c.in_ok-next.next ≡ Some c.args.place = sym c.in-Some.ensures.value ∙ ap (λ (k : ℕ). Some k) c.if-before-place.true in
    sym (joined_is_behind c.args.instrs.now c.requires.order c.args.place c.in_ok-next.next is)

pub returns-in_default-clause-value : goal.returns-in_default-clause-value
returns-in_default-clause-value c =
    let is = c.in-Some.ensures.value in
    sym (none_where_other c.args.instrs.now c.requires.order c.args.place c.in_ok-next.next c.in_ok-next.ensures.found
    (λ e. c.if-before-place.false (let same : Some c.in-Some.before ≡ Some c.args.place = is ∙ e in cc)))

pub returns-in_default-2-clause-value : goal.returns-in_default-2-clause-value
returns-in_default-2-clause-value c =
    let is = c.in_default.ensures.value in
    sym (none_where_other c.args.instrs.now c.requires.order c.args.place c.in_ok-next.next c.in_ok-next.ensures.found
    (λ e. let same : None ≡ Some c.args.place = is ∙ e in cc))
