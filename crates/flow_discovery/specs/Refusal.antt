-- Why the flow of an image is refused.
use Rattle.std.specs.Prelude.{ℕ, List, Option, Some, None}
use Rattle.flow_discovery.specs.declared.FlowRefusal.{FlowRefusal}
use Rattle.flow_discovery.specs.declared.FlowRefusal.TheVariants.{TooManyInstructions, WantOfMemory}
use Rattle.flow_discovery.specs.Reach.{AreTooMany}
use Rattle.vax_form.specs.declared.pages.Pages.{Pages}

-- the refusal carries the number of the members, which is above the limit
abbrev pub IsRefused : Pages → List ℕ → FlowRefusal → Type 0
IsRefused pages starts (TooManyInstructions count) = AreTooMany pages starts count
IsRefused pages starts WantOfMemory = Unit {0}

-- the number of a refusal; want of memory has none
abbrev pub number_of : FlowRefusal → Option ℕ
number_of (TooManyInstructions count) = Some 1
number_of WantOfMemory = None
