-- A script does what its head does.
use Rattle.std.proofs.Common.{◌≡◌, ℕ, List, [], ◌∷◌, Bool, true, false, Option, Some, None, Result, refl, ap, ◌∙◌}
use Rattle.std.specs.Prelude.{if◌then◌else◌}
use Rattle.vax_form.specs.Pages.{first_bad, code_byte_at}
use Rattle.vax_form.specs.declared.pages.Pages.{Pages}
use Rattle.vax_form.specs.declared.state.VaxState.{VaxState}
use Rattle.vax_form.specs.declared.state.Reference.{Reference}
use Rattle.vax_form.specs.Script.{Script, Moment, Halt, pure, bind, choose, ask, check_bytes, read_code, fail, get, change, run, then_do, checked, fetched}
use Rattle.vax_form.specs.Head.{Head, ended, failed, waits, onward, one_of, unless, with_byte, head, played}

through_bind : {A B : Type 0} (h : Head A) (f : A → Script B) (pages : Pages) (replies : List ℕ)
    → ((x : A) (state : VaxState) → run (f x) (record { state = state; pages = pages; replies = replies }) ≡ played (head (f x) pages state) pages replies)
    → then_do (played h pages replies) (λ x. run (f x)) ≡ played (onward h f (λ x. head (f x) pages)) pages replies
through_bind (ended x state) f pages replies each = each x state
through_bind (failed exception) f pages replies each = refl
through_bind (waits reference k state) f pages [] each = refl
through_bind (waits reference k state) f pages (reply ∷ replies) each = refl

through_choice : {A : Type 0} (b : Bool) (m n : Head A) (pages : Pages) (replies : List ℕ) (r s : Result (A × Moment) Halt)
    → r ≡ played m pages replies → s ≡ played n pages replies → (if b then r else s) ≡ played (one_of b m n) pages replies
through_choice true m n pages replies r s first second = first
through_choice false m n pages replies r s first second = second

through_ask : (reference : Reference) (state : VaxState) (pages : Pages) (replies : List ℕ)
    → run (ask reference) (record { state = state; pages = pages; replies = replies }) ≡ played (waits reference (λ reply. pure reply) state) pages replies
through_ask reference state pages [] = refl
through_ask reference state pages (reply ∷ replies) = refl

through_check : (bad : Option ℕ) (write : Bool) (state : VaxState) (pages : Pages) (replies : List ℕ)
    → checked bad write (record { state = state; pages = pages; replies = replies }) ≡ played (unless bad write state) pages replies
through_check None write state pages replies = refl
through_check (Some address) write state pages replies = refl

through_code : (byte : Option ℕ) (address : ℕ) (state : VaxState) (pages : Pages) (replies : List ℕ)
    → fetched byte address (record { state = state; pages = pages; replies = replies }) ≡ played (with_byte byte address state) pages replies
through_code None address state pages replies = refl
through_code (Some byte) address state pages replies = refl

pub run-head : {A : Type 0} (script : Script A) (pages : Pages) (state : VaxState) (replies : List ℕ)
    → run script (record { state = state; pages = pages; replies = replies }) ≡ played (head script pages state) pages replies
run-head (pure x) pages state replies = refl
run-head (bind m f) pages state replies =
    ap (λ r. then_do r (λ x. run (f x))) (run-head m pages state replies)
    ∙ through_bind (head m pages state) f pages replies (λ x after. run-head (f x) pages after replies)
run-head (choose b m n) pages state replies = through_choice b (head m pages state) (head n pages state) pages replies _ _ (run-head m pages state replies) (run-head n pages state replies)
run-head (ask reference) pages state replies = through_ask reference state pages replies
run-head (check_bytes address count write) pages state replies = through_check (first_bad pages write address count) write state pages replies
run-head (read_code address) pages state replies = through_code (code_byte_at pages address) address state pages replies
run-head (fail exception) pages state replies = refl
run-head (get f) pages state replies = refl
run-head (change f) pages state replies = refl
