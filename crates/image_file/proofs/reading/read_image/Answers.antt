use Rattle.std.proofs.Common.{ap, subst, ◌∙◌, arith}
use Rattle.image_file.specs.Reading.{Gives, image_of}
use Rattle.image_file.proofs.Found.{is_found}
use Rattle.image_file.proofs.AgainLaws.{read_again}
use Rattle.image_file.proofs.reading.read_image.Goals as goal

pub returns-clause-found : goal.returns-clause-found
returns-clause-found c = is_found c.args.bytes.now c.image_of.result (λ i. omega (arith, c.type_inv.bytes i)) c.image_of.ensures

pub returns-clause-only : goal.returns-clause-only
returns-clause-only c = λ image whole spelled. subst (λ read. Gives (λ i. i) c.image_of.result read) (ap image_of spelled ∙ read_again image whole) c.image_of.ensures
