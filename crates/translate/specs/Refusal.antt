-- Why an image isn't translated.
use Rattle.std.specs.Prelude.{ℕ, ◌≤◌, List, [], ◌∷◌, Option, length, slice_get}
use Rattle.vax_form.specs.declared.pages.Pages.{Pages}
use Rattle.flow_discovery.specs.Reach.{AreReached, AreTooMany, most}
use Rattle.flow_discovery.specs.declared.FlowRefusal.{FlowRefusal}
use Rattle.flow_discovery.specs.declared.FlowRefusal.TheVariants as flows
use Rattle.translate.specs.declared.refusal.TranslateRefusal.{TranslateRefusal}
use Rattle.translate.specs.declared.refusal.TranslateRefusal.TheVariants.{Flow, WantOfMemory}

-- there are so many instructions that can be reached, and they are too many
abbrev pub IsRefused : Pages → (starts : List ℕ) → TranslateRefusal → Type 0
IsRefused pages starts (Flow count) = AreTooMany pages starts count
IsRefused pages starts WantOfMemory = Unit {0}

-- the instructions that can be reached are not too many
pub record AreFew (pages : Pages) (starts : List ℕ) : Type 0 where
  pub addresses : List ℕ
  pub reached : AreReached pages starts addresses
  pub few : length addresses ≤ most

abbrev pub refusal_of : FlowRefusal → TranslateRefusal
refusal_of (flows.TooManyInstructions count) = Flow count
refusal_of flows.WantOfMemory = WantOfMemory

-- the number, and what the refusal tells of the flow
abbrev pub numbers_of : TranslateRefusal → List ℕ
numbers_of (Flow count) = 1 ∷ count ∷ []
numbers_of WantOfMemory = []

abbrev pub number_of : TranslateRefusal → Option ℕ
number_of refusal = slice_get (numbers_of refusal) 0
