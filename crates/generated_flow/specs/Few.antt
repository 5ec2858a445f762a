-- How many instructions can be reached in a generated image.
use Rattle.std.specs.Prelude.{ℕ, ◌+◌, ◌≤◌, List, [], length}
use Rattle.flow_discovery.specs.Reach.{AreReached, AreTooMany}
use Rattle.flow_discovery.specs.Starts.{starts}
use Rattle.report_text.specs.Generated.{generated_image}
use Rattle.report_text.specs.declared.images.TheConstants.{MOST_GROUPS}

-- those of the groups, the three in front of them, and the two behind
abbrev pub ReachesFew : Type 0
ReachesFew = (number : ℕ) (addresses : List ℕ) → number ≤ MOST_GROUPS
    → AreReached (generated_image number).pages (starts (generated_image number) []) addresses → length addresses ≤ number + 5

-- so they are never too many
abbrev pub NeverTooMany : Type 0
NeverTooMany = (number count : ℕ) → number ≤ MOST_GROUPS
    → ¬ AreTooMany (generated_image number).pages (starts (generated_image number) []) count
