use Rattle.std.proofs.Common.{◌≡◌, ℕ, ◌<◌, Some, slice_index}
use Rattle.std.specs.Prelude.{slice_get}
use Rattle.image_file.specs.Values.{SectionValue}
use Rattle.vax_form.specs.References.{AreBytes}
use Rattle.legal_history.proofs.laws.image_has_bytes.Given as goal

abbrev pub invariant-loop-section : goal.invariant-loop-section
invariant-loop-section l = (k : ℕ) (s : SectionValue) → k < l.section-index → slice_get l.section-items k ≡ Some s → AreBytes (slice_index s.stored)
