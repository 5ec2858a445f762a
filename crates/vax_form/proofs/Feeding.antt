-- Feeding the tree of a script is running the script, and so is answering it.
use Rattle.std.proofs.Common.{◌≡◌, ℕ, List, [], ◌∷◌, Bool, true, false, Result, Ok, Err, Option, Some, None, refl, sym, ap, ◌∙◌}
use Rattle.std.specs.Prelude.{if◌then◌else◌}
use Rattle.vax_form.specs.Pages.{first_bad, code_byte_at}
use Rattle.vax_form.specs.declared.pages.Pages.{Pages}
use Rattle.vax_form.specs.declared.state.VaxState.{VaxState}
use Rattle.vax_form.specs.declared.state.Reference.{Reference}
use Rattle.vax_form.specs.declared.state.Exception.TheVariants.{ReservedInstruction}
use Rattle.vax_form.specs.declared.script.Stop.TheVariants as stops
use Rattle.vax_form.specs.declared.script.End.{End}
use Rattle.vax_form.specs.Script.{Script, Moment, Halt, pure, bind, choose, ask, check_bytes, read_code, fail, get, change, run, then_do, asked, checked, fetched}
use Rattle.vax_form.specs.Tree.{Tree, Ask, Fault, tree_of, code_or_fault, unless_bad, Fails, answer, feed, behind, outcome, run_outcome, ends_with, instruction_tree}
use Rattle.vax_form.specs.TreeLaws.{Feeds, FeedingIsRunning, AnsweringIsRunning}

feeds_there : {A : Type 0} (pages there : Pages) (fed : Tree) (tree : Pages → Tree) (rest : A → VaxState → Tree) (r : Result (A × Moment) Halt)
    → there ≡ pages → fed ≡ tree pages → Feeds there (tree there) rest r → Feeds pages fed rest r
feeds_there pages there fed tree rest r same is feeds = rw is (rw same at feeds)

feeds_bind : {A B : Type 0} (pages : Pages) (fed : Tree) (r : Result (A × Moment) Halt) (f : A → Script B) (rest : B → VaxState → Tree)
    → Feeds pages fed (λ x after. tree_of pages (f x) after rest) r
    → ((x : A) (t : Moment) → Feeds t.pages (feed t.pages (tree_of t.pages (f x) t.state rest) t.replies) rest (run (f x) t))
    → Feeds pages fed rest (then_do r (λ x. run (f x)))
feeds_bind pages fed (Ok (x, t)) f rest first each =
    feeds_there pages t.pages fed (λ p. feed p (tree_of p (f x) t.state rest) t.replies) rest (run (f x) t) first.0 first.1 (each x t)
feeds_bind pages fed (Err stop) f rest first each = first

feeds_choice : {A : Type 0} (b : Bool) (m n : Script A) (moment : Moment) (rest : A → VaxState → Tree)
    → Feeds moment.pages (feed moment.pages (tree_of moment.pages m moment.state rest) moment.replies) rest (run m moment)
    → Feeds moment.pages (feed moment.pages (tree_of moment.pages n moment.state rest) moment.replies) rest (run n moment)
    → Feeds moment.pages (feed moment.pages (if b then tree_of moment.pages m moment.state rest else tree_of moment.pages n moment.state rest) moment.replies) rest (if b then run m moment else run n moment)
feeds_choice true m n moment rest first second = first
feeds_choice false m n moment rest first second = second

feeds_ask : (reference : Reference) (replies : List ℕ) (moment : Moment) (rest : ℕ → VaxState → Tree)
    → Feeds moment.pages (feed moment.pages (Ask reference (λ reply. rest reply moment.state)) replies) rest (asked reference replies moment)
feeds_ask reference [] moment rest = λ before. refl
feeds_ask reference (reply ∷ replies) moment rest = (refl, refl)

feeds_check : (bad : Option ℕ) (write : Bool) (moment : Moment) (rest : Unit {0} → VaxState → Tree)
    → Feeds moment.pages (unless_bad bad Fault write (feed moment.pages (rest tt moment.state) moment.replies)) rest (checked bad write moment)
feeds_check None write moment rest = (refl, refl)
feeds_check (Some address) write moment rest = λ before. refl

feeds_code : (byte : Option ℕ) (address : ℕ) (moment : Moment) (rest : ℕ → VaxState → Tree)
    → Feeds moment.pages (feed moment.pages (code_or_fault byte address (λ b. rest b moment.state)) moment.replies) rest (fetched byte address moment)
feeds_code None address moment rest = λ before. refl
feeds_code (Some byte) address moment rest = (refl, refl)

pub feeding_is_running : FeedingIsRunning
feeding_is_running _ (pure x) moment rest = (refl, refl)
feeding_is_running _ (bind m f) moment rest =
    feeds_bind moment.pages _ (run m moment) f rest (feeding_is_running _ m moment (λ x after. tree_of moment.pages (f x) after rest)) (λ x t. feeding_is_running _ (f x) t rest)
feeding_is_running _ (choose b m n) moment rest = feeds_choice b m n moment rest (feeding_is_running _ m moment rest) (feeding_is_running _ n moment rest)
feeding_is_running _ (ask reference) moment rest = feeds_ask reference moment.replies moment rest
feeding_is_running _ (check_bytes address count write) moment rest = feeds_check (first_bad moment.pages write address count) write moment rest
feeding_is_running _ (read_code address) moment rest = feeds_code (code_byte_at moment.pages address) address moment rest
feeding_is_running _ (fail exception) moment rest = λ before. refl
feeding_is_running _ (get f) moment rest = (refl, refl)
feeding_is_running _ (change f) moment rest = (refl, refl)

-- a script that came to its end left the pages as they were
unfoldable pub KeepsPages : {A : Type 0} → Pages → Result (A × Moment) Halt → Type 0
KeepsPages pages (Ok (x, moment)) = moment.pages ≡ pages
KeepsPages pages (Err stop) = Unit {0}

pub pages_kept : {A : Type 0} (pages : Pages) (fed : Tree) (rest : A → VaxState → Tree) (r : Result (A × Moment) Halt) → Feeds pages fed rest r → KeepsPages pages r
unfolding KeepsPages
pages_kept pages fed rest (Ok (x, t)) feeds = feeds.0
pages_kept pages fed rest (Err stop) feeds = tt

-- what comes behind does not matter to the pages
unfoldable pub nothing_behind : {A : Type 0} → A → VaxState → Tree
nothing_behind x state = Fault ReservedInstruction

answers_bind : {A B : Type 0} (pages : Pages) (r : Result (A × Moment) Halt) (f : A → Script B) (rest : B → VaxState → Tree) → KeepsPages pages r
    → ((x : A) (t : Moment) → answer t.pages (tree_of t.pages (f x) t.state rest) t.replies ≡ behind (run (f x) t) rest)
    → behind r (λ x after. tree_of pages (f x) after rest) ≡ behind (then_do r (λ x. run (f x))) rest
unfolding KeepsPages
answers_bind pages (Ok (x, t)) f rest kept each = ap (λ p. answer t.pages (tree_of p (f x) t.state rest) t.replies) (sym kept) ∙ each x t
answers_bind pages (Err (stops.Wants reference, left)) f rest kept each = refl
answers_bind pages (Err (stops.Fails exception, left)) f rest kept each = refl

answers_choice : {A : Type 0} (b : Bool) (m n : Script A) (moment : Moment) (rest : A → VaxState → Tree)
    → answer moment.pages (tree_of moment.pages m moment.state rest) moment.replies ≡ behind (run m moment) rest
    → answer moment.pages (tree_of moment.pages n moment.state rest) moment.replies ≡ behind (run n moment) rest
    → answer moment.pages (if b then tree_of moment.pages m moment.state rest else tree_of moment.pages n moment.state rest) moment.replies ≡ behind (if b then run m moment else run n moment) rest
answers_choice true m n moment rest first second = first
answers_choice false m n moment rest first second = second

answers_ask : (reference : Reference) (replies : List ℕ) (moment : Moment) (rest : ℕ → VaxState → Tree)
    → answer moment.pages (Ask reference (λ reply. rest reply moment.state)) replies ≡ behind (asked reference replies moment) rest
answers_ask reference [] moment rest = refl
answers_ask reference (reply ∷ replies) moment rest = refl

answers_check : (bad : Option ℕ) (write : Bool) (moment : Moment) (rest : Unit {0} → VaxState → Tree)
    → unless_bad bad Fails write (answer moment.pages (rest tt moment.state) moment.replies) ≡ behind (checked bad write moment) rest
answers_check None write moment rest = refl
answers_check (Some address) write moment rest = refl

answers_code : (byte : Option ℕ) (address : ℕ) (moment : Moment) (rest : ℕ → VaxState → Tree)
    → answer moment.pages (code_or_fault byte address (λ b. rest b moment.state)) moment.replies ≡ behind (fetched byte address moment) rest
answers_code None address moment rest = refl
answers_code (Some byte) address moment rest = refl

pub answering_is_running : AnsweringIsRunning
answering_is_running _ (pure x) moment rest = refl
answering_is_running _ (bind m f) moment rest =
    answering_is_running _ m moment (λ x after. tree_of moment.pages (f x) after rest)
    ∙ answers_bind moment.pages (run m moment) f rest (pages_kept moment.pages _ nothing_behind (run m moment) (feeding_is_running _ m moment nothing_behind)) (λ x t. answering_is_running _ (f x) t rest)
answering_is_running _ (choose b m n) moment rest = answers_choice b m n moment rest (answering_is_running _ m moment rest) (answering_is_running _ n moment rest)
answering_is_running _ (ask reference) moment rest = answers_ask reference moment.replies moment rest
answering_is_running _ (check_bytes address count write) moment rest = answers_check (first_bad moment.pages write address count) write moment rest
answering_is_running _ (read_code address) moment rest = answers_code (code_byte_at moment.pages address) address moment rest
answering_is_running _ (fail exception) moment rest = refl
answering_is_running _ (get f) moment rest = refl
answering_is_running _ (change f) moment rest = refl

outcome_behind : (before : VaxState) (r : Result (End × Moment) Halt) → outcome before (behind r ends_with) ≡ run_outcome before r
outcome_behind before (Ok (end, moment)) = refl
outcome_behind before (Err (stops.Wants reference, left)) = refl
outcome_behind before (Err (stops.Fails exception, left)) = refl

-- what is seen of an instruction's script that is run is what is seen of its tree
pub outcome_by_tree : (script : Script End) (state : VaxState) (pages : Pages) (replies : List ℕ)
    → run_outcome state (run script (record { state = state; pages = pages; replies = replies })) ≡ outcome state (answer pages (instruction_tree pages script state) replies)
outcome_by_tree script state pages replies =
    let moment : Moment = record { state = state; pages = pages; replies = replies } in
    sym (ap (outcome state) (answering_is_running _ script moment ends_with) ∙ outcome_behind state _)
