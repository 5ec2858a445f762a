-- What processors run by.
use Rattle.std.specs.Prelude.{ℕ, List, Option, None}
use Rattle.vax_form.specs.declared.state.Pending.{Pending}
use Rattle.vax_form.specs.declared.state.Pending.TheVariants.{Nothing, Deliver, Resume}
use Rattle.vax_form.specs.declared.state.VaxState.{VaxState}
use Rattle.block_law.specs.Translations.{Meaning, Code}
use Rattle.system_model.specs.declared.translation.Range.{Range}
use Rattle.system_model.specs.Ranges.{word_for}

-- what the instructions of an image mean, their translation, and the addresses that threads interpret
pub record Setting : Type 0 where
  pub meaning : Meaning
  pub code : Code
  pub ranges : List Range

abbrev pub unless_pending : Pending → Option ℕ → Option ℕ
unless_pending Nothing word = word
unless_pending (Deliver exception) word = None
unless_pending Resume word = None

-- whether a thread goes on in Alpha code at that state, and at which word
abbrev pub goes_on : Setting → (thread : ℕ) → VaxState → Option ℕ
goes_on setting thread state = unless_pending state.pending (word_for setting.code.map setting.ranges thread state.pc)
