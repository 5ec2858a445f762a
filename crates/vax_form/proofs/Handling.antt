-- Answering the tree of a script whose exceptions the handler takes is running the script.
use Rattle.std.proofs.Common.{◌≡◌, ℕ, List, [], ◌∷◌, Bool, true, false, Result, Ok, Err, Option, Some, None, refl, sym, ap, ◌∙◌}
use Rattle.std.specs.Prelude.{if◌then◌else◌}
use Rattle.vax_form.specs.Pages.{first_bad, code_byte_at}
use Rattle.vax_form.specs.declared.pages.Pages.{Pages}
use Rattle.vax_form.specs.declared.state.VaxState.{VaxState}
use Rattle.vax_form.specs.declared.state.Reference.{Reference}
use Rattle.vax_form.specs.declared.state.Exception.{Exception}
use Rattle.vax_form.specs.declared.state.Exception.TheVariants.{AccessViolation}
use Rattle.vax_form.specs.declared.script.Stop.TheVariants as stops
use Rattle.vax_form.specs.Script.{Script, Moment, Halt, pure, bind, choose, ask, check_bytes, read_code, fail, get, change, run, then_do, asked, checked, fetched}
use Rattle.vax_form.specs.Tree.{Tree, Ask, Fault, Ends, Finish, Fails, Comes, tree_of, code_or_fault, unless_bad, answer}
use Rattle.vax_form.specs.Moments.{delivering, has_handler, handled_fault, handled, handled_failure, handled_behind, HandlingIsRunning}
use Rattle.vax_form.proofs.Feeding.{KeepsPages, pages_kept, nothing_behind, feeding_is_running}

fault_answered : (b : Bool) (pages : Pages) (before : VaxState) (exception : Exception) (replies : List ℕ)
    → answer pages (if b then Ends (Finish (delivering exception before)) else Fault exception) replies
    ≡ (if b then Comes (Finish (delivering exception before)) replies else Fails exception)
fault_answered true pages before exception replies = refl
fault_answered false pages before exception replies = refl

fails : (pages : Pages) (before : VaxState) (exception : Exception) (replies : List ℕ)
    → answer pages (handled_fault before exception) replies ≡ handled_failure before exception replies
fails pages before exception replies = fault_answered (has_handler before) pages before exception replies

handles_bind : {A B : Type 0} (pages : Pages) (before : VaxState) (r : Result (A × Moment) Halt) (f : A → Script B) (rest : B → VaxState → Tree) → KeepsPages pages r
    → ((x : A) (t : Moment) → answer t.pages (handled t.pages before (tree_of t.pages (f x) t.state rest)) t.replies ≡ handled_behind before (run (f x) t) rest)
    → handled_behind before r (λ x after. tree_of pages (f x) after rest) ≡ handled_behind before (then_do r (λ x. run (f x))) rest
unfolding KeepsPages
handles_bind pages before (Ok (x, t)) f rest kept each = ap (λ p. answer t.pages (handled t.pages before (tree_of p (f x) t.state rest)) t.replies) (sym kept) ∙ each x t
handles_bind pages before (Err (stops.Wants reference, left)) f rest kept each = refl
handles_bind pages before (Err (stops.Fails exception, left)) f rest kept each = refl

handles_choice : {A : Type 0} (b : Bool) (before : VaxState) (m n : Script A) (moment : Moment) (rest : A → VaxState → Tree)
    → answer moment.pages (handled moment.pages before (tree_of moment.pages m moment.state rest)) moment.replies ≡ handled_behind before (run m moment) rest
    → answer moment.pages (handled moment.pages before (tree_of moment.pages n moment.state rest)) moment.replies ≡ handled_behind before (run n moment) rest
    → answer moment.pages (handled moment.pages before (if b then tree_of moment.pages m moment.state rest else tree_of moment.pages n moment.state rest)) moment.replies
    ≡ handled_behind before (if b then run m moment else run n moment) rest
handles_choice true before m n moment rest first second = first
handles_choice false before m n moment rest first second = second

handles_ask : (before : VaxState) (reference : Reference) (replies : List ℕ) (moment : Moment) (rest : ℕ → VaxState → Tree)
    → answer moment.pages (handled moment.pages before (Ask reference (λ reply. rest reply moment.state))) replies ≡ handled_behind before (asked reference replies moment) rest
handles_ask before reference [] moment rest = refl
handles_ask before reference (reply ∷ replies) moment rest = refl

handles_check : (before : VaxState) (bad : Option ℕ) (write : Bool) (moment : Moment) (rest : Unit {0} → VaxState → Tree)
    → answer moment.pages (unless_bad bad (handled_fault before) write (handled moment.pages before (rest tt moment.state))) moment.replies
    ≡ handled_behind before (checked bad write moment) rest
handles_check before None write moment rest = refl
handles_check before (Some address) write moment rest = fails moment.pages before (AccessViolation address write) moment.replies

handles_code : (before : VaxState) (byte : Option ℕ) (address : ℕ) (moment : Moment) (rest : ℕ → VaxState → Tree)
    → answer moment.pages (handled moment.pages before (code_or_fault byte address (λ b. rest b moment.state))) moment.replies
    ≡ handled_behind before (fetched byte address moment) rest
handles_code before None address moment rest = fails moment.pages before (AccessViolation address false) moment.replies
handles_code before (Some byte) address moment rest = refl

pub handling_is_running : HandlingIsRunning
handling_is_running _ (pure x) before moment rest = refl
handling_is_running _ (bind m f) before moment rest =
    handling_is_running _ m before moment (λ x after. tree_of moment.pages (f x) after rest)
    ∙ handles_bind moment.pages before (run m moment) f rest (pages_kept moment.pages _ nothing_behind (run m moment) (feeding_is_running _ m moment nothing_behind)) (λ x t. handling_is_running _ (f x) before t rest)
handling_is_running _ (choose b m n) before moment rest = handles_choice b before m n moment rest (handling_is_running _ m before moment rest) (handling_is_running _ n before moment rest)
handling_is_running _ (ask reference) before moment rest = handles_ask before reference moment.replies moment rest
handling_is_running _ (check_bytes address count write) before moment rest = handles_check before (first_bad moment.pages write address count) write moment rest
handling_is_running _ (read_code address) before moment rest = handles_code before (code_byte_at moment.pages address) address moment rest
handling_is_running _ (fail exception) before moment rest = fails moment.pages before exception moment.replies
handling_is_running _ (get f) before moment rest = refl
handling_is_running _ (change f) before moment rest = refl
