use Rattle.std.proofs.Common.{◌≡◌, ◌∙◌, get_or, sym, ap}
use Rattle.code_runs.specs.Rules.{rules_behind}
use Rattle.micro_ops.specs.declared.codes.CodeSources.{CodeSources}
use Rattle.code_runs.specs.declared.codes.InstrCodes.{InstrCodes}
use Rattle.code_runs.specs.Codes.{no_codes, rules_before}
use Rattle.code_runs.proofs.Chains.{codes_found, rules_first, rules_more}
use Rattle.code_runs.proofs.codes.codes_at.Goals as goal
use Rattle.code_runs.proofs.codes.codes_at.Goals.{in-Some, in-None}

pub returns : goal.returns
returns c =
    let instrs = c.args.instrs.now in
    let place = c.args.place in
    let before : c.match-joined_to.before ≡ rules_before instrs place = elim c.match-joined_to.branch [
      | in-Some w ↦
          let is : c.match-joined_to.before ≡ (get_or c.args.earlier.now w.in-Some.before no_codes).behind = w.before-is in
          is
          ∙ ap (λ (codes : InstrCodes). codes.behind) (c.requires.earlier w.in-Some.before w.in-Some.ensures.earlier)
          ∙ sym (rules_more instrs c.requires.order place w.in-Some.before c.requires.within (sym w.in-Some.ensures.value))
      | in-None w ↦ w.before-is ∙ sym (rules_first instrs c.requires.order place (sym w.in-None.ensures.value))
    ] in
    let behind = c.rules_behind-behind.ensures ∙ ap (λ (sources : CodeSources). rules_behind sources c.args.live c.match-joined_to.before) c.code_sources.ensures in
    codes_found instrs c.requires.order place c.args.live c.match-joined_to.before c.rules_behind-behind.result c.requires.live before behind
