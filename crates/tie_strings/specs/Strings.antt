-- An instruction with strings that is under way.
use Rattle.std.specs.Prelude.{◌≡◌, ℕ, ◌==◌, ◌&&◌, ◌||◌, Bool, false, not, is_some, List, []}
use Rattle.vax_form.specs.Script.{Script}
use Rattle.vax_form.specs.Tree.{Tree, feed, instruction_tree}
use Rattle.vax_form.specs.declared.pages.Pages.{Pages}
use Rattle.vax_form.specs.declared.script.End.{End}
use Rattle.vax_form.specs.declared.state.VaxState.{VaxState}
use Rattle.tie_operands.specs.Steps.{Shows, IfWant}
use Rattle.tie_operands.specs.declared.step.TieStep.{TieStep}
use Rattle.tie_strings.specs.Bytes.{may_be_read}
use Rattle.tie_strings.specs.Moves.{moving_script}
use Rattle.tie_strings.specs.Compares.{comparing_script}
use Rattle.tie_strings.specs.Scans.{scanning_script}
use Rattle.tie_strings.specs.declared.comparing.Comparing.{Comparing}
use Rattle.tie_strings.specs.declared.comparing.Pair.{Pair}
use Rattle.tie_strings.specs.declared.comparing.Pair.TheVariants.{First, Second, Differs}
use Rattle.tie_strings.specs.declared.moving.Moving.{Moving}
use Rattle.tie_strings.specs.declared.scanning.Scanning.{Scanning}
use Rattle.tie_strings.specs.declared.string.Strings.{Strings}
use Rattle.tie_strings.specs.declared.string.Strings.TheVariants.{Moves, Compares, Scans}
use Rattle.tie_strings.specs.declared.string.StringLoop.{StringLoop}

-- what is left of it
abbrev pub strings_script : Strings → Script End
strings_script (Moves m) = moving_script m.byte m.down m.left m.from m.to m.fill m.moved
strings_script (Compares m) = comparing_script m.checked m.pair m.left m.first m.second m.compared
strings_script (Scans m) = scanning_script m.stopped m.checked m.left m.address m.scanned

abbrev pub strings_tree : Pages → Strings → VaxState → Tree
strings_tree pages strings state = instruction_tree pages (strings_script strings) state

abbrev pub loop_tree : Pages → StringLoop → Tree
loop_tree pages under_way = strings_tree pages under_way.strings under_way.state

-- a step shows a tree with some replies, and where it wants another, what is left is what is left of that tree
pub record StandsAt (pages : Pages) (before : VaxState) (tree : Tree) (replies : List ℕ) (under_way : StringLoop) (step : TieStep) : Type 0 where
  pub shown : Shows before (feed pages tree replies) step
  pub rest : IfWant step (feed pages (loop_tree pages under_way) [] ≡ feed pages tree replies)

-- ---- where it tells the reference that it wants, with no look at the state
-- a byte was read and is written, or one more is read or filled
abbrev pub move_tells : Moving → Bool
move_tells m = is_some m.byte || (not (m.left == 0) || not (m.fill.left == 0))

-- the next of two bytes may be read
abbrev pub pair_tells : Pages → Pair → (checked : Bool) → (left first second : ℕ) → Bool
pair_tells pages First checked left first second = not (left == 0) && may_be_read checked pages first
pair_tells pages (Second one) checked left first second = may_be_read checked pages second
pair_tells pages (Differs one other) checked left first second = false

abbrev pub compare_tells : Pages → Comparing → Bool
compare_tells pages m = pair_tells pages m.pair m.checked m.left m.first m.second

-- the next byte may be read
abbrev pub scan_tells : Pages → Scanning → Bool
scan_tells pages m = not m.stopped && (not (m.left == 0) && may_be_read m.checked pages m.address)

abbrev pub strings_tell : Pages → Strings → Bool
strings_tell pages (Moves m) = move_tells m
strings_tell pages (Compares m) = compare_tells pages m
strings_tell pages (Scans m) = scan_tells pages m
