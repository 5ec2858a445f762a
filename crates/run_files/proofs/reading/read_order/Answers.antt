use Rattle.std.proofs.Common.{ap, subst, ◌∙◌, arith}
use Rattle.run_files.specs.Reading.{Gives, order_of}
use Rattle.run_files.proofs.BothWays.{is_found, written_is_read}
use Rattle.run_files.proofs.reading.read_order.Goals as goal

pub returns-clause-found : goal.returns-clause-found
returns-clause-found c = is_found c.args.threads c.args.bytes.now c.order_of.result (omega (arith, c.ranges.threads)) (λ i. omega (arith, c.type_inv.bytes i)) c.order_of.ensures

pub returns-clause-only : goal.returns-clause-only
returns-clause-only c = λ file fits spelled. subst (λ read. Gives (λ f. f) c.order_of.result read) (ap (order_of c.args.threads) spelled ∙ written_is_read c.args.threads file fits) c.order_of.ensures
