use Rattle.std.proofs.Common.{◌≡◌, ◌++◌, ◌+◌, ℕ, List, subst, sym, ap, ◌∙◌, take}
use Rattle.std.specs.List.{filter_map}
use Rattle.std.specs.Option.{option_to_list}
use Rattle.vax_form.specs.declared.instr.Operand.TheVariants.{Unused}
use Rattle.code_runs.specs.Entrances.{AreChanged, also_target}
use Rattle.code_runs.proofs.Entering.{branches_more, changed_both}
use Rattle.vax_form.specs.Targets.{branch_target, has}
use Rattle.code_runs.proofs.entrances.note_branches.Goals as goal

pub loop-operand-preserved : goal.loop-operand-preserved
loop-operand-preserved c =
    let instrs = c.args.instrs.now in
    let operands = c.args.operands.now in
    let k = c.loop-operand.operand-index in
    let more : filter_map branch_target (take k operands) ++ option_to_list c.branch_target.result ≡ filter_map branch_target (take (k + 1) operands) =
    ap (λ o. filter_map branch_target (take k operands) ++ option_to_list o) c.branch_target.ensures ∙ sym (branches_more operands k Unused c.loop-operand-test.true) in
    subst (λ (xs : List ℕ). AreChanged instrs (has xs) also_target c.args.entrances.now c.note_target.new.entrances) more
    (changed_both instrs c.args.entrances.now c.loop-operand.entrances c.note_target.new.entrances (filter_map branch_target (take k operands)) (option_to_list c.branch_target.result) c.loop-operand.invariant c.note_target.ensures)
