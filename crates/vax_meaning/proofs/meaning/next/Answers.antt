-- What is seen of a script that was run is what is seen of its tree.
use Rattle.std.proofs.Common.{◌∙◌}
use Rattle.vax_form.proofs.Feeding.{outcome_by_tree}
use Rattle.vax_meaning.specs.Instructions.{script_of}
use Rattle.vax_meaning.proofs.meaning.next.Goals as goal

pub returns-clause-value : goal.returns-clause-value
returns-clause-value c = c.played.ensures.value ∙ outcome_by_tree (script_of c.args.instr.now c.args.thread) c.args.state.now c.args.pages.now c.args.replies.now
