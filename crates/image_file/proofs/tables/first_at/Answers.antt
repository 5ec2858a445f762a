use Rattle.std.proofs.Common.{◌∙◌, drop, sym}
use Rattle.image_file.proofs.StartLaws.{first_of_1, first_of_2}
use Rattle.image_file.proofs.tables.first_at.Goals as goal

pub returns-then-version-eq-VERSION_1 : goal.returns-then-version-eq-VERSION_1
returns-then-version-eq-VERSION_1 c = sym (first_of_1 c.args.version (drop c.args.at c.args.bytes.now) c.if-version-eq-VERSION_1.true)

pub returns-else-version-eq-VERSION_1 : goal.returns-else-version-eq-VERSION_1
returns-else-version-eq-VERSION_1 c = c.registers_at.ensures ∙ sym (first_of_2 c.args.version (drop c.args.at c.args.bytes.now) c.if-version-eq-VERSION_1.false)
