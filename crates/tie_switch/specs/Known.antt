-- Instructions that are known, each of which stands at its address.
use Rattle.std.specs.Prelude.{◌≡◌, ℕ, List, Option, Some, slice_get}
use Rattle.vax_form.specs.Grammar.{instruction}
use Rattle.vax_form.specs.GrammarFound.{found}
use Rattle.vax_form.specs.declared.instr.Instr.{Instr}
use Rattle.vax_form.specs.declared.pages.Pages.{Pages}

abbrev pub AreFound : Pages → List (Option Instr) → Type 0
AreFound pages known = (place : ℕ) (instr : Instr) → slice_get known place ≡ Some (Some instr) → found pages instr.at ≡ instruction instr
