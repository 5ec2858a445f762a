use Rattle.std.proofs.Common.{◌≡◌, ◌++◌, take}
use Rattle.std.specs.List.{flat_map}
use Rattle.image_file.specs.Values.{SectionValue}
use Rattle.image_parts.proofs.spelled.put_stored.Given as goal

abbrev pub invariant-loop-section : goal.invariant-loop-section
invariant-loop-section l = l.out.items ≡ l.fn.out.items ++ flat_map (λ (s : SectionValue). s.stored) (take l.section-index l.sections)
