-- A string that tells what it wants asks for it.
use Rattle.std.proofs.Common.{◌≡◌, ℕ, zero, suc, ◌<◌, ◌==◌, ◌&&◌, ◌||◌, Bool, true, false, List, [], ◌∷◌, ◌++◌, Option, Some, None, refl, sym, ap, ◌∙◌, subst, arith}
use Rattle.std.specs.Prelude.{not, is_some}
use Rattle.std.proofs.lemmas.Bool.{and_parts}
use Rattle.vax_form.specs.Tree.{Tree, Answer, Wants, Fails, Comes, Finish, Exit, Trap, answer, feed, outcome}
use Rattle.vax_form.specs.declared.pages.Pages.{Pages}
use Rattle.vax_form.specs.declared.state.Reference.{Reference}
use Rattle.vax_form.specs.declared.state.VaxState.{VaxState}
use Rattle.vax_form.proofs.Trees.{feeding_twice}
use Rattle.tie_operands.specs.Steps.{IsAsking, Shows, StandsFor, step_of}
use Rattle.tie_operands.specs.declared.step.TieStep.TheVariants.{Want}
use Rattle.tie_operands.proofs.Passing.{asking}
use Rattle.tie_operands.proofs.Whole.{seen_as}
use Rattle.tie_strings.specs.Bytes.{may_be_read, read_of, write_of}
use Rattle.tie_strings.specs.Strings.{loop_tree, pair_tells, strings_tell, strings_tree}
use Rattle.tie_strings.specs.declared.comparing.Comparing.{Comparing}
use Rattle.tie_strings.specs.declared.comparing.Pair.{Pair}
use Rattle.tie_strings.specs.declared.comparing.Pair.TheVariants.{First, Second, Differs}
use Rattle.tie_strings.specs.declared.moving.Moving.{Moving}
use Rattle.tie_strings.specs.declared.string.Strings.{Strings}
use Rattle.tie_strings.specs.declared.string.Strings.TheVariants.{Moves, Compares, Scans}
use Rattle.tie_strings.specs.declared.string.StringLoop.{StringLoop}
use Rattle.tie_strings.proofs.CompareTakes.{first_shown, second_shown}
use Rattle.tie_strings.proofs.MoveTakes.{write_shown, read_shown, fill_shown}
use Rattle.tie_strings.proofs.ScanTakes.{byte_shown}

some_left : (left : ℕ) → not (left == 0) ≡ true → 0 < left
some_left zero is = absurd (cc is)
some_left (suc rest) is = omega arith

not_stopped : (stopped : Bool) → not stopped ≡ true → stopped ≡ false
not_stopped true is = absurd (cc is)
not_stopped false is = refl

move_asks : (pages : Pages) (state : VaxState) (m : Moving) (byte : Option ℕ) (left fill : ℕ) → m.byte ≡ byte → m.left ≡ left → m.fill.left ≡ fill
    → (is_some byte || (not (left == 0) || not (fill == 0))) ≡ true → IsAsking (feed pages (strings_tree pages (Moves m) state) [])
move_asks pages state m (Some b) left fill is count more tells =
    asking state (feed pages (strings_tree pages (Moves m) state) []) (write_of m.to b) (write_shown pages state state m.byte b m.down m.left m.from m.to m.fill m.moved is).head
move_asks pages state m None (suc rest) fill is count more tells =
    asking state (feed pages (strings_tree pages (Moves m) state) []) (read_of m.from) (read_shown rest pages state state m.byte m.down m.left m.from m.to m.fill m.moved is count).head
move_asks pages state m None zero (suc rest) is count more tells =
    asking state (feed pages (strings_tree pages (Moves m) state) []) (write_of m.fill.to m.fill.byte) (fill_shown rest pages state state m.byte m.down m.left m.from m.to m.fill.left m.fill.to m.fill.byte m.moved is count more).head
move_asks pages state m None zero zero is count more tells = absurd (cc tells)

compare_asks : (pages : Pages) (state : VaxState) (m : Comparing) (pair : Pair) → m.pair ≡ pair → pair_tells pages pair m.checked m.left m.first m.second ≡ true
    → IsAsking (feed pages (strings_tree pages (Compares m) state) [])
compare_asks pages state m First is tells =
    let both = and_parts (not (m.left == 0)) (may_be_read m.checked pages m.first) tells in
    asking state (feed pages (strings_tree pages (Compares m) state) []) (read_of m.first) (first_shown pages state state m.compared m.checked m.pair m.left m.first m.second is (some_left m.left both.0) both.1).head
compare_asks pages state m (Second one) is tells =
    asking state (feed pages (strings_tree pages (Compares m) state) []) (read_of m.second) (second_shown pages state state m.compared m.checked m.pair one m.left m.first m.second is tells).head
compare_asks pages state m (Differs one other) is tells = absurd (cc tells)

strings_ask : (pages : Pages) (state : VaxState) (strings : Strings) → strings_tell pages strings ≡ true → IsAsking (feed pages (strings_tree pages strings state) [])
strings_ask pages state (Moves m) tells = move_asks pages state m m.byte m.left m.fill.left refl refl refl tells
strings_ask pages state (Compares m) tells = compare_asks pages state m m.pair refl tells
strings_ask pages state (Scans m) tells =
    let both = and_parts (not m.stopped) (not (m.left == 0) && may_be_read m.checked pages m.address) tells in
    let last = and_parts (not (m.left == 0)) (may_be_read m.checked pages m.address) both.1 in
    asking state (feed pages (strings_tree pages (Scans m) state) []) (read_of m.address) (byte_shown pages state state m.scanned m.stopped m.checked m.left m.address (not_stopped m.stopped both.0) (some_left m.left last.0) last.1).head

-- ---- what is told is what the whole instruction wants
wants_is : (before : VaxState) (a : Answer) (reference : Reference) → Want reference ≡ step_of (outcome before a) → a ≡ Wants reference
wants_is before (Wants other) reference is = ap Wants (same reference other is)
  where
    same : (x y : Reference) → Want x ≡ Want y → y ≡ x
    same x y e = cc e
wants_is before (Fails exception) reference is = absurd (cc is)
wants_is before (Comes (Finish state) left) reference is = absurd (cc is)
wants_is before (Comes (Exit state) left) reference is = absurd (cc is)
wants_is before (Comes (Trap kind state) left) reference is = absurd (cc is)

pub told_wants : (pages : Pages) (under_way : StringLoop) (kept : VaxState) (reference : Reference) → ((before : VaxState) → Shows before (feed pages (loop_tree pages under_way) []) (Want reference))
    → (state : VaxState) (tree : Tree) (replies : List ℕ) → StandsFor pages kept (feed pages (loop_tree pages under_way) []) state tree replies → answer pages tree replies ≡ Wants reference
told_wants pages under_way kept reference shows state tree replies stands =
    wants_is state (answer pages tree replies) reference
    (seen_as pages state tree replies (Want reference) (subst (λ t. Shows state t (Want reference)) stands.rest (shows state))).answers

-- and behind its reply what is left stands for the instruction
pub take_stands : (pages : Pages) (old new : StringLoop) (kept : VaxState) (reply : ℕ) → strings_tell pages old.strings ≡ true
    → (IsAsking (feed pages (loop_tree pages old) []) → feed pages (loop_tree pages old) (reply ∷ []) ≡ feed pages (loop_tree pages new) [])
    → (state : VaxState) (tree : Tree) (replies : List ℕ) → StandsFor pages kept (feed pages (loop_tree pages old) []) state tree replies
    → StandsFor pages kept (feed pages (loop_tree pages new) []) state tree (replies ++ reply ∷ [])
take_stands pages old new kept reply tells takes state tree replies stands = record {
  before = stands.before;
  rest =
      sym (takes (strings_ask pages old.state old.strings tells)) ∙ sym (feeding_twice pages (loop_tree pages old) [] (reply ∷ []))
      ∙ ap (λ t. feed pages t (reply ∷ [])) stands.rest ∙ feeding_twice pages tree replies (reply ∷ []);
}
