-- The tree from one operand on, by that operand.
use Rattle.std.proofs.Common.{◌≡◌, ℕ, suc, ◌+◌, ◌-◌, ◌<◌, ◌≤◌, List, [], Option, Some, None, Result, Ok, Err, refl, ap, sym, ◌∙◌, arith}
use Rattle.std.specs.Prelude.{slice_set, slice_index_or}
use Rattle.vax_form.specs.Script.{Script}
use Rattle.vax_form.specs.Tree.{Tree, tree_of, feed, head_outcome, stop_outcome}
use Rattle.vax_form.specs.declared.instr.Access.{Access}
use Rattle.vax_form.specs.declared.instr.Access.TheVariants.{Read}
use Rattle.vax_form.specs.declared.instr.Instr.{Instr}
use Rattle.vax_form.specs.declared.instr.Operand.{Operand}
use Rattle.vax_form.specs.declared.instr.Size.{Size}
use Rattle.vax_form.specs.declared.instr.Size.TheVariants.{Byte}
use Rattle.vax_form.specs.declared.pages.Pages.{Pages}
use Rattle.vax_form.specs.declared.row.Row.{Row}
use Rattle.vax_form.specs.declared.script.Stop.{Stop}
use Rattle.vax_form.specs.declared.state.VaxState.{VaxState}
use Rattle.vax_meaning.specs.Evaluation.{find, obtain, operand, operands_from}
use Rattle.vax_meaning.specs.Fed.{Fed}
use Rattle.vax_meaning.specs.declared.cursor.Cursor.{Cursor}
use Rattle.vax_meaning.specs.declared.evaluation.Evaluated.{Evaluated}
use Rattle.vax_meaning.specs.declared.operands.Location.{Location}
use Rattle.tie_operands.specs.declared.specifiers.Specifiers.{Specifiers}
use Rattle.tie_operands.specs.Room.{IsPlace}
use Rattle.tie_operands.specs.Rest.{Behind, access_at, size_at, operands_tree, rest_at, StopsAt, PassesFinding, PassesObtaining}

step_suc : (left : ℕ) (pages : Pages) (row : Row) (instr : Instr) (values : List Evaluated) (state : VaxState) (behind : Behind)
    → tree_of pages (operands_from (suc left) row instr values) state behind
    ≡ tree_of pages (find (slice_index_or row.access (5 - left) Read) (slice_index_or row.size (5 - left) Byte) (operand instr (5 - left))) state
    (λ location after. tree_of pages (obtain (slice_index_or row.access (5 - left) Read) (slice_index_or row.size (5 - left) Byte) (operand instr (5 - left)) location) after
    (λ value then. tree_of pages (operands_from left row instr (slice_set values (5 - left) value)) then behind))
unfolding operands_from
step_suc left pages row instr values state behind = refl

step_at : (left whole rest place : ℕ) (pages : Pages) (row : Row) (instr : Instr) (values : List Evaluated) (state : VaxState) (behind : Behind)
    → whole ≡ suc left → rest ≡ left → place ≡ 5 - left
    → tree_of pages (operands_from whole row instr values) state behind
    ≡ tree_of pages (find (slice_index_or row.access place Read) (slice_index_or row.size place Byte) (operand instr place)) state
    (λ location after. tree_of pages (obtain (slice_index_or row.access place Read) (slice_index_or row.size place Byte) (operand instr place) location) after
    (λ value then. tree_of pages (operands_from rest row instr (slice_set values place value)) then behind))
step_at left whole rest place pages row instr values state behind a b c = rw a (rw b (rw c (step_suc left pages row instr values state behind)))

-- an operand is found, and the rest is that behind its finding
tree_step : (pages : Pages) (specifiers : Specifiers) (place : ℕ) (values : List Evaluated) (state : VaxState) (behind : Behind) → place < 6
    → operands_tree pages specifiers None place values state behind
    ≡ tree_of pages (find (access_at specifiers place) (size_at specifiers place) (operand specifiers.instr place)) state
    (λ location after. operands_tree pages specifiers (Some location) place values after behind)
unfolding operands_tree
tree_step pages specifiers place values state behind small =
    step_at (5 - place) (6 - place) (6 - (place + 1)) place pages specifiers.row specifiers.instr values state behind (omega arith) (omega arith) (omega arith)

-- from a part of the tree to what is behind it
part_passes : {A : Type 0} (script : Script A) (tree : Tree) (rest : Pages → A → VaxState → Tree) (old new : Cursor) (x : A)
    → tree ≡ tree_of old.pages.now script old.state (rest old.pages.now) → Fed script old (Ok x) new
    → feed old.pages.now tree old.replies.now ≡ feed new.pages.now (rest new.pages.now x new.state) new.replies.now
part_passes script tree rest old new x is fed =
    ap (λ t. feed old.pages.now t old.replies.now) is ∙ fed.1 (rest old.pages.now) ∙ ap (λ p. feed p (rest p x new.state) new.replies.now) (sym fed.0)

part_stops : {A : Type 0} (script : Script A) (tree : Tree) (rest : A → VaxState → Tree) (before : VaxState) (old new : Cursor) (stop : Stop)
    → tree ≡ tree_of old.pages.now script old.state rest → Fed script old (Err stop) new
    → head_outcome before (feed old.pages.now tree old.replies.now) ≡ stop_outcome before stop
part_stops script tree rest before old new stop is fed = ap (λ t. head_outcome before (feed old.pages.now t old.replies.now)) is ∙ fed rest before

pub find_passes : (specifiers : Specifiers) (place : ℕ) (old new : Cursor) (access : Access) (size : Size) (of : Operand) (result : Result Location Stop)
    → place < 6 → access ≡ access_at specifiers place → size ≡ size_at specifiers place → of ≡ operand specifiers.instr place
    → Fed (find access size of) old result new → PassesFinding specifiers place None old result new
find_passes specifiers place old new access size of (Ok location) small a b c fed = (
  fed.0,
  λ values behind. part_passes (find (access_at specifiers place) (size_at specifiers place) (operand specifiers.instr place)) _
      (λ pages l after. operands_tree pages specifiers (Some l) place values after behind) old new location
      (tree_step old.pages.now specifiers place values old.state behind small) (rw (a, b, c) at fed),
)
find_passes specifiers place old new access size of (Err stop) small a b c fed =
    λ values behind before. part_stops (find (access_at specifiers place) (size_at specifiers place) (operand specifiers.instr place)) _
    (λ l after. operands_tree old.pages.now specifiers (Some l) place values after behind) before old new stop
    (tree_step old.pages.now specifiers place values old.state behind small) (rw (a, b, c) at fed)

pub obtain_passes : (specifiers : Specifiers) (place : ℕ) (location : Location) (old new : Cursor) (access : Access) (size : Size) (of : Operand) (result : Result Evaluated Stop)
    → access ≡ access_at specifiers place → size ≡ size_at specifiers place → of ≡ operand specifiers.instr place
    → Fed (obtain access size of location) old result new → PassesObtaining specifiers place location old result new
unfolding operands_tree
obtain_passes specifiers place location old new access size of (Ok value) a b c fed = (
  fed.0,
  λ values behind. part_passes (obtain (access_at specifiers place) (size_at specifiers place) (operand specifiers.instr place) location) _
      (λ pages v after. operands_tree pages specifiers None (place + 1) (slice_set values place v) after behind) old new value refl (rw (a, b, c) at fed),
)
obtain_passes specifiers place location old new access size of (Err stop) a b c fed =
    λ values behind before. part_stops (obtain (access_at specifiers place) (size_at specifiers place) (operand specifiers.instr place) location) _
    (λ v after. operands_tree old.pages.now specifiers None (place + 1) (slice_set values place v) after behind) before old new stop refl (rw (a, b, c) at fed)

-- behind the last operand
pub all_passed : (pages : Pages) (specifiers : Specifiers) (found : Option Location) (place : ℕ) (values : List Evaluated) (state : VaxState) (behind : Behind)
    → IsPlace place found → 6 ≤ place → operands_tree pages specifiers found place values state behind ≡ behind values state
unfolding operands_tree operands_from
all_passed pages specifiers (Some location) place values state behind is last = absurd (omega (arith, is, last))
all_passed pages specifiers None place values state behind is last =
    let none : 6 - place ≡ 0 = omega (arith, last) in
    rw none refl

pub evaluated_all : (specifiers : Specifiers) (found : Option Location) (place : ℕ) (values : List Evaluated) (cursor : Cursor) (pages : Pages) (behind : Behind)
    → IsPlace place found → 6 ≤ place → cursor.pages.now ≡ pages
    → rest_at specifiers found place values cursor behind ≡ feed pages (behind values cursor.state) cursor.replies.now
evaluated_all specifiers found place values cursor pages behind is last same =
    ap (λ t. feed cursor.pages.now t cursor.replies.now) (all_passed cursor.pages.now specifiers found place values cursor.state behind is last)
    ∙ ap (λ p. feed p (behind values cursor.state) cursor.replies.now) same
