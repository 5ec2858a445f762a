use Rattle.std.proofs.Common.{◌≡◌, drop}
use Rattle.std.specs.Prelude.{find}
use Rattle.image_file.specs.Memory.{has_address}
use Rattle.image_file.proofs.image.Image.byte.Given as goal

abbrev pub invariant-loop-section : goal.invariant-loop-section
invariant-loop-section l = find (has_address l.address) (drop l.section-index l.section-items) ≡ find (has_address l.address) l.section-items
