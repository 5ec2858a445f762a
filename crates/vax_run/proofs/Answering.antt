-- Scripts that were run, as answers of their trees.
use Rattle.std.proofs.Common.{◌≡◌, Bool, true, false, if◌then◌else◌, ℕ, zero, suc, ◌+◌, ◌-◌, ◌≤◌, List, [], ◌∷◌, length, drop, Option, Some, None, Result, Ok, Err, sym, ap, ◌∙◌, subst, arith}
use Rattle.vax_form.specs.Pages.{first_bad}
use Rattle.vax_form.specs.Script.{Script}
use Rattle.vax_form.specs.Tree as trees
use Rattle.vax_form.specs.Tree.{Tree, Check, Ask, Fault, Ends, Ending, unless_bad, answer, behind, ends_with, ending, instruction_tree}
use Rattle.vax_form.specs.declared.pages.Pages.{Pages}
use Rattle.vax_form.specs.declared.script.End.{End}
use Rattle.vax_form.specs.declared.script.End.TheVariants as ends
use Rattle.vax_form.specs.declared.script.Stop.{Stop}
use Rattle.vax_form.specs.declared.script.Stop.TheVariants as stops
use Rattle.vax_form.specs.declared.state.VaxState.{VaxState}
use Rattle.vax_form.specs.Moments.{delivering, has_handler, handled, handled_behind}
use Rattle.vax_form.specs.declared.state.Exception.{Exception}
use Rattle.vax_form.specs.declared.state.Exception.TheVariants.{Arithmetic}
use Rattle.vax_form.proofs.Feeding.{answering_is_running}
use Rattle.vax_form.proofs.Handling.{handling_is_running}
use Rattle.vax_meaning.specs.After.{one_more, after}
use Rattle.vax_meaning.specs.Play.{Plays, view}
use Rattle.vax_meaning.specs.declared.cursor.Cursor.{Cursor}
use Rattle.vax_run.specs.Answered.{answer_of, answer_to, handled_answer, IsWithin, reached_of}
use Rattle.vax_run.specs.declared.answered.Answer.{Answer}
use Rattle.vax_run.specs.declared.answered.Answer.TheVariants.{Fails, Comes}
use Rattle.vax_run.specs.declared.advance.Place.{Place}

-- the replies that are left are the last of those that there were
pub record IsRest (left replies : List ℕ) : Type 0 where
  pub few : length left ≤ length replies
  pub last : left ≡ drop (length replies - length left) replies

rest_of_all : (replies : List ℕ) → IsRest replies replies
rest_of_all replies = record { few = omega arith; last = let e : 0 ≡ length replies - length replies = omega arith in ap (λ n. drop n replies) e }

rest_behind : (left replies : List ℕ) (reply : ℕ) → IsRest left replies → IsRest left (reply ∷ replies)
rest_behind left replies reply rest =
    let few = rest.few in
    let e : suc (length replies - length left) ≡ suc (length replies) - length left = omega arith in
    record { few = omega arith; last = rest.last ∙ ap (λ n. drop n (reply ∷ replies)) e }

checked_rest : (bad : Option ℕ) (write : Bool) (a : trees.Answer) (e : Ending) (left replies : List ℕ) → unless_bad bad trees.Fails write a ≡ trees.Comes e left
    → (a ≡ trees.Comes e left → IsRest left replies) → IsRest left replies
checked_rest None write a e left replies is rest = rest is
checked_rest (Some address) write a e left replies is rest = absurd (cc is)

rest : (pages : Pages) (tree : Tree) (replies : List ℕ) (e : Ending) (left : List ℕ) → answer pages tree replies ≡ trees.Comes e left → IsRest left replies
rest pages (Check address count write tree) replies e left is =
    checked_rest (first_bad pages write address count) write (answer pages tree replies) e left replies is (rest pages tree replies e left)
rest pages (Ask reference on) [] e left is = absurd (cc is)
rest pages (Ask reference on) (reply ∷ replies) e left is = rest_behind left replies reply (rest pages (on reply) replies e left is)
rest pages (Fault exception) replies e left is = absurd (cc is)
rest pages (Ends end) replies e left is = let same : replies ≡ left = cc is in subst (λ l. IsRest l replies) same (rest_of_all replies)

-- a script that was run comes to the answer of its tree
pub record IsAnswer (pages : Pages) (tree : Tree) (replies : List ℕ) (a : Answer) : Type 0 where
  pub value : answer_to replies a ≡ answer pages tree replies
  pub within : IsWithin (length replies) a

comes_is : (pages : Pages) (tree : Tree) (replies : List ℕ) (end : End) (state : VaxState) (left : List ℕ) → answer pages tree replies ≡ trees.Comes (ending end state) left
    → IsAnswer pages tree replies (Comes end state (length replies - length left))
comes_is pages tree replies end state left e =
    let r = rest pages tree replies (ending end state) left e in
    record { value = ap (trees.Comes (ending end state)) (sym r.last) ∙ sym e; within = omega arith }

pub answer_is : (script : Script End) (old new : Cursor) (r : Result End Stop) → Plays script old r new
    → IsAnswer old.pages.now (instruction_tree old.pages.now script old.state) old.replies.now (answer_of r new.state (length old.replies.now - length new.replies.now))
answer_is script old new (Ok end) plays =
    comes_is old.pages.now (instruction_tree old.pages.now script old.state) old.replies.now end new.state new.replies.now
    (answering_is_running _ script (view old) ends_with ∙ ap (λ r. behind r ends_with) plays)
answer_is script old new (Err (stops.Wants reference)) plays =
    record { value = sym (answering_is_running _ script (view old) ends_with ∙ ap (λ r. behind r ends_with) plays); within = tt }
answer_is script old new (Err (stops.Fails exception)) plays =
    record { value = sym (answering_is_running _ script (view old) ends_with ∙ ap (λ r. behind r ends_with) plays); within = tt }

-- the same where the handler takes the exceptions
trap_is : (b : Bool) (pages : Pages) (tree : Tree) (replies : List ℕ) (kind : ℕ) (state : VaxState) (left : List ℕ)
    → answer pages tree replies ≡ trees.Comes (if b then trees.Finish (delivering (Arithmetic kind) state) else trees.Trap kind state) left
    → IsAnswer pages tree replies (if b then Comes ends.Done (delivering (Arithmetic kind) state) (length replies - length left) else Comes (ends.Traps kind) state (length replies - length left))
trap_is true pages tree replies kind state left e = comes_is pages tree replies ends.Done (delivering (Arithmetic kind) state) left e
trap_is false pages tree replies kind state left e = comes_is pages tree replies (ends.Traps kind) state left e

fault_is : (b : Bool) (pages : Pages) (tree : Tree) (replies : List ℕ) (exception : Exception) (before : VaxState) (left : List ℕ)
    → answer pages tree replies ≡ (if b then trees.Comes (trees.Finish (delivering exception before)) left else trees.Fails exception)
    → IsAnswer pages tree replies (if b then Comes ends.Done (delivering exception before) (length replies - length left) else Fails exception)
fault_is true pages tree replies exception before left e = comes_is pages tree replies ends.Done (delivering exception before) left e
fault_is false pages tree replies exception before left e = record { value = sym e; within = tt }

pub handled_is : (script : Script End) (old new : Cursor) (r : Result End Stop) → Plays script old r new
    → IsAnswer old.pages.now (handled old.pages.now old.state (instruction_tree old.pages.now script old.state)) old.replies.now
    (handled_answer old.state new.state r (length old.replies.now - length new.replies.now))
handled_is script old new (Ok ends.Done) plays =
    comes_is old.pages.now (handled old.pages.now old.state (instruction_tree old.pages.now script old.state)) old.replies.now ends.Done new.state new.replies.now
    (handling_is_running _ script old.state (view old) ends_with ∙ ap (λ r. handled_behind old.state r ends_with) plays)
handled_is script old new (Ok ends.Exits) plays =
    comes_is old.pages.now (handled old.pages.now old.state (instruction_tree old.pages.now script old.state)) old.replies.now ends.Exits new.state new.replies.now
    (handling_is_running _ script old.state (view old) ends_with ∙ ap (λ r. handled_behind old.state r ends_with) plays)
handled_is script old new (Ok (ends.Traps kind)) plays =
    trap_is (has_handler new.state) old.pages.now (handled old.pages.now old.state (instruction_tree old.pages.now script old.state)) old.replies.now kind new.state new.replies.now
    (handling_is_running _ script old.state (view old) ends_with ∙ ap (λ r. handled_behind old.state r ends_with) plays)
handled_is script old new (Err (stops.Wants reference)) plays =
    record { value = sym (handling_is_running _ script old.state (view old) ends_with ∙ ap (λ r. handled_behind old.state r ends_with) plays); within = tt }
handled_is script old new (Err (stops.Fails exception)) plays =
    fault_is (has_handler old.state) old.pages.now (handled old.pages.now old.state (instruction_tree old.pages.now script old.state)) old.replies.now exception old.state new.replies.now
    (handling_is_running _ script old.state (view old) ends_with ∙ ap (λ r. handled_behind old.state r ends_with) plays)

module _ (tree : VaxState → Tree) (pages : Pages) (replies : List ℕ) where
  nothing_more : (start : VaxState) (count more : ℕ) → after tree pages start count replies ≡ None → after tree pages start (more + count) replies ≡ None
  nothing_more start count zero is = let e : 0 + count ≡ count = omega arith in ap (λ n. after tree pages start n replies) e ∙ is
  nothing_more start count (suc more) is =
      let e : suc more + count ≡ suc (more + count) = omega arith in
      ap (λ n. after tree pages start n replies) e ∙ ap (one_more tree pages) (nothing_more start count more is)

  -- a thread that did not come so far comes no further
  pub never : (start : VaxState) (now count : ℕ) → after tree pages start now replies ≡ None → now ≤ count → after tree pages start count replies ≡ None
  never start now count is ahead =
      let e : count - now + now ≡ count = omega arith in
      subst (λ n. after tree pages start n replies ≡ None) e (nothing_more start now (count - now) is)

  pub once : (start : VaxState) (now : ℕ) (here next : Option Place) (on : Place) → after tree pages start now replies ≡ reached_of replies here → here ≡ Some on
      → reached_of replies next ≡ one_more tree pages (reached_of replies (Some on)) → after tree pages start (now + 1) replies ≡ reached_of replies next
  once start now here next on is stands retired =
      let e : now + 1 ≡ suc now = omega arith in
      ap (λ n. after tree pages start n replies) e ∙ ap (one_more tree pages) (is ∙ ap (reached_of replies) stands) ∙ sym retired
