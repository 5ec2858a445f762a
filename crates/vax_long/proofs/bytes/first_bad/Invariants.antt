-- what is found from here on is what is found from the beginning; each turn passes some bytes
use Rattle.std.proofs.Common.{◌≡◌, ◌<◌, ◌^◌}
use Rattle.vax_form.specs.Pages.{first_bad}
use Rattle.vax_long.proofs.bytes.first_bad.Given as goal

abbrev pub invariant-loop-left : goal.invariant-loop-left
invariant-loop-left l = (l.place < 2 ^ 32) × (first_bad l.pages l.write l.place l.left ≡ first_bad l.pages l.write l.fn.address l.count)

abbrev pub decreases-loop-left : goal.decreases-loop-left
decreases-loop-left l = l.left
