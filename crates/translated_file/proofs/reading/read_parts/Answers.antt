use Rattle.std.proofs.Common.{ap, subst, ◌∙◌, arith}
use Rattle.translated_file.specs.Reading.{Gives, parts_of}
use Rattle.translated_file.proofs.BothWays.{is_found, read_again}
use Rattle.translated_file.proofs.reading.read_parts.Goals as goal

pub returns-clause-found : goal.returns-clause-found
returns-clause-found c = is_found c.args.bytes.now c.parts_of.result (λ i. omega (arith, c.type_inv.bytes i)) c.parts_of.ensures

pub returns-clause-only : goal.returns-clause-only
returns-clause-only c = λ parts whole spelled. subst (λ read. Gives (λ p. p) c.parts_of.result read) (ap parts_of spelled ∙ read_again parts whole) c.parts_of.ensures
