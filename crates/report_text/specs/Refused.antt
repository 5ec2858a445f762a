-- The line that says why a file is refused.
use Rattle.std.specs.Prelude.{ℕ, List, [], ◌∷◌, ◌++◌, codes}
use Rattle.report_text.specs.declared.refused.Subject.{Subject}
use Rattle.report_text.specs.declared.refused.Subject.TheVariants.{Image, Translated, Flow, Order, Hints, Live, Elf, Parts}
use Rattle.report_text.specs.Numbers.{spaced}

abbrev pub subject_text : Subject → List ℕ
subject_text Image = codes "image"
subject_text Translated = codes "translated"
subject_text Flow = codes "flow"
subject_text Order = codes "order"
subject_text Hints = codes "hints"
subject_text Live = codes "live"
subject_text Elf = codes "elf"
subject_text Parts = codes "parts"

abbrev pub refused_text : Subject → (numbers : List ℕ) → List ℕ
refused_text subject numbers = codes "refused " ++ subject_text subject ++ spaced numbers ++ 10 ∷ []
