-- Several reads of the desk, one after the other, seen from before the first.
use Rattle.std.proofs.Common.{◌∙◌, refl, arith}
use Rattle.vt_outside.specs.Desk.{DeskMeaning}
use Rattle.vest_stops.specs.Files.{SameFiles}

pub same_desk : (a : DeskMeaning) → SameFiles a a
same_desk a = record { files = refl; write_faults = refl; read_faults = omega arith }

pub same_both : (a b c : DeskMeaning) → SameFiles a b → SameFiles b c → SameFiles a c
same_both a b c p q =
    let first = p.read_faults in
    let second = q.read_faults in
    record { files = q.files ∙ p.files; write_faults = q.write_faults ∙ p.write_faults; read_faults = omega (arith, first, second) }
