use Rattle.std.proofs.Common.{ap, subst, ◌∙◌, arith}
use Rattle.run_files.specs.Hints.{GivesHints, hints_of}
use Rattle.run_files.proofs.HintLaws.{is_found, written_is_read}
use Rattle.run_files.proofs.hints.read_hints.Goals as goal

pub returns-clause-found : goal.returns-clause-found
returns-clause-found c = is_found c.args.bytes.now (λ v. v.items) c.hints_of.result (λ i. omega (arith, c.type_inv.bytes i)) c.hints_of.ensures

pub returns-clause-only : goal.returns-clause-only
returns-clause-only c = λ hints are spelled. subst (λ read. GivesHints (λ v. v.items) c.hints_of.result read) (ap hints_of spelled ∙ written_is_read hints are) c.hints_of.ensures
