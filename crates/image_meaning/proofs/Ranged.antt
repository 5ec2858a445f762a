-- What is shown of the trees of all instructions, and what of it is said to others.
use Rattle.std.proofs.Common.{◌≡◌, ℕ, Bool, true, false, None, refl}
use Rattle.std.specs.Prelude.{◌||◌}
use Rattle.vax_form.specs.Pages.{first_bad}
use Rattle.vax_form.specs.State.{IsState, Answers}
use Rattle.vax_form.specs.Ranges.{ending_state, is_write, FitsPage, ChecksNoWrite, IsInRange, IsFault, FailsByFaults}
use Rattle.vax_form.specs.Tree.{Tree, Check, Ask, Fault, Ends}
use Rattle.vax_form.specs.declared.pages.Pages.{Pages}

-- a tree in range that fails by faults; where something was written before it, it checks nothing with write intent
abbrev pub Ranged : Pages → (wrote : Bool) → Tree → Type 0
Ranged pages wrote (Check address count write tree) = (wrote ≡ true → write ≡ false) × (first_bad pages write address count ≡ None → Ranged pages wrote tree)
Ranged pages wrote (Ask reference on) =
    FitsPage pages reference × ((reply : ℕ) → Answers reference reply → Ranged pages (is_write reference.kind || wrote) (on reply))
Ranged pages wrote (Fault exception) = IsFault exception
Ranged pages wrote (Ends e) = IsState (ending_state e)

kept_by : (a : Bool) (pages : Pages) (t : Tree) → (Ranged pages true t → Ranged pages false t) → Ranged pages (a || true) t → Ranged pages (a || false) t
kept_by true pages t less ranged = ranged
kept_by false pages t less ranged = less ranged

-- it may come where nothing was written
pub ranged_unwritten : (pages : Pages) (t : Tree) → Ranged pages true t → Ranged pages false t
ranged_unwritten pages (Check address count write tree) ranged = (λ wrote. absurd cc, λ holds. ranged_unwritten pages tree (ranged.1 holds))
ranged_unwritten pages (Ask reference on) ranged =
    (ranged.0, λ reply answers. kept_by (is_write reference.kind) pages (on reply) (ranged_unwritten pages (on reply)) (ranged.1 reply answers))
ranged_unwritten pages (Fault exception) ranged = ranged
ranged_unwritten pages (Ends e) ranged = ranged

-- and what may come behind a write may come anywhere
pub ranged_anywhere : (w : Bool) (pages : Pages) (t : Tree) → Ranged pages true t → Ranged pages w t
ranged_anywhere true pages t ranged = ranged
ranged_anywhere false pages t ranged = ranged_unwritten pages t ranged

behind_any : (a : Bool) (pages : Pages) (t : Tree) → Ranged pages (a || true) t → Ranged pages true t
behind_any true pages t ranged = ranged
behind_any false pages t ranged = ranged

pub checks_no_write : (pages : Pages) (t : Tree) → Ranged pages true t → ChecksNoWrite pages t
checks_no_write pages (Check address count write tree) ranged = (ranged.0 refl, λ holds. checks_no_write pages tree (ranged.1 holds))
checks_no_write pages (Ask reference on) ranged =
    λ reply answers. checks_no_write pages (on reply) (behind_any (is_write reference.kind) pages (on reply) (ranged.1 reply answers))
checks_no_write pages (Fault exception) ranged = tt
checks_no_write pages (Ends e) ranged = tt

behind_write : (a w : Bool) (pages : Pages) (t : Tree) → a ≡ true → Ranged pages (a || w) t → Ranged pages true t
behind_write true w pages t writes ranged = ranged
behind_write false w pages t writes ranged = absurd cc

pub is_in_range : (w : Bool) (pages : Pages) (t : Tree) → Ranged pages w t → IsInRange pages t
is_in_range w pages (Check address count write tree) ranged = λ holds. is_in_range w pages tree (ranged.1 holds)
is_in_range w pages (Ask reference on) ranged = (
  ranged.0,
  λ reply answers. is_in_range (is_write reference.kind || w) pages (on reply) (ranged.1 reply answers),
  λ writes reply answers. checks_no_write pages (on reply) (behind_write (is_write reference.kind) w pages (on reply) writes (ranged.1 reply answers)),
)
is_in_range w pages (Fault exception) ranged = tt
is_in_range w pages (Ends e) ranged = ranged

pub fails_by_faults : (w : Bool) (pages : Pages) (t : Tree) → Ranged pages w t → FailsByFaults pages t
fails_by_faults w pages (Check address count write tree) ranged = λ holds. fails_by_faults w pages tree (ranged.1 holds)
fails_by_faults w pages (Ask reference on) ranged = λ reply answers. fails_by_faults (is_write reference.kind || w) pages (on reply) (ranged.1 reply answers)
fails_by_faults w pages (Fault exception) ranged = ranged
fails_by_faults w pages (Ends e) ranged = tt
