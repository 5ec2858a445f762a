use Rattle.std.proofs.Common.{◌≡◌, ◌<◌, ◌∙◌, ℕ, Option, Some, None, ap}
use Rattle.std.specs.Prelude.{IfSome}
use Rattle.code_runs.specs.Entrances.{joined_by}
use Rattle.code_runs.specs.Runs.{instr_at, joined_to}
use Rattle.code_runs.proofs.Entering.{joined_is}
use Rattle.code_runs.proofs.Joined.{joined}
use Rattle.code_runs.proofs.codes.joined_to.Goals as goal

pub returns-clause-value : goal.returns-clause-value
returns-clause-value c =
    let instrs = c.args.instrs.now in
    let place = c.args.place in
    c.joined.ensures ∙ ap joined_by (c.requires.entrances.each place c.requires.within) ∙ joined_is instrs (instr_at instrs place).at

pub returns-clause-earlier : goal.returns-clause-earlier
returns-clause-earlier c = by c.joined.result (returns-clause-value c)
  where
    by : (o : Option ℕ) → o ≡ joined_to c.args.instrs.now c.args.place → IfSome o (λ before. before < c.args.place)
    by None e = tt
    by (Some before) e = (joined c.args.instrs.now c.requires.order before c.args.place (let h : joined_to c.args.instrs.now c.args.place ≡ Some before = cc in h)).before
