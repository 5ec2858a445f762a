-- A script taken to its next reference, for what goes on one reply at a time.
use Rattle.std.specs.Prelude.{ℕ, List, [], ◌∷◌, Bool, Option, Some, None, Result, Ok, Err, true, false}
use Rattle.vax_form.specs.Pages.{first_bad, code_byte_at}
use Rattle.vax_form.specs.Script.{Script, Moment, Halt, pure, bind, choose, ask, check_bytes, read_code, fail, get, change, run}
use Rattle.vax_form.specs.declared.pages.Pages.{Pages}
use Rattle.vax_form.specs.declared.state.VaxState.{VaxState}
use Rattle.vax_form.specs.declared.state.Reference.{Reference}
use Rattle.vax_form.specs.declared.state.Exception.{Exception}
use Rattle.vax_form.specs.declared.state.Exception.TheVariants.{AccessViolation}
use Rattle.vax_form.specs.declared.script.Stop.TheVariants.{Wants, Fails}

pub data Head (A : Type 0) : Type 1 where
  ended : A → VaxState → Head A
  failed : Exception → Head A
  waits : Reference → (ℕ → Script A) → VaxState → Head A

abbrev pub onward : {A B : Type 0} → Head A → (A → Script B) → (A → VaxState → Head B) → Head B
onward (ended x state) f heads = heads x state
onward (failed exception) f heads = failed exception
onward (waits reference k state) f heads = waits reference (λ reply. bind (k reply) f) state

abbrev pub one_of : {A : Type 0} → Bool → Head A → Head A → Head A
one_of true m n = m
one_of false m n = n

abbrev pub unless : Option ℕ → (write : Bool) → VaxState → Head (Unit {0})
unless None write state = ended tt state
unless (Some address) write state = failed (AccessViolation address write)

abbrev pub with_byte : Option ℕ → (address : ℕ) → VaxState → Head ℕ
with_byte None address state = failed (AccessViolation address false)
with_byte (Some byte) address state = ended byte state

abbrev pub head : {A : Type 0} → Script A → Pages → VaxState → Head A
head (pure x) pages state = ended x state
head (bind m f) pages state = onward (head m pages state) f (λ x. head (f x) pages)
head (choose b m n) pages state = one_of b (head m pages state) (head n pages state)
head (ask reference) pages state = waits reference (λ reply. pure reply) state
head (check_bytes address count write) pages state = unless (first_bad pages write address count) write state
head (read_code address) pages state = with_byte (code_byte_at pages address) address state
head (fail exception) pages state = failed exception
head (get f) pages state = ended (f state) state
head (change f) pages state = ended tt (f state)

-- what the head comes to with these replies
abbrev pub played : {A : Type 0} → Head A → Pages → List ℕ → Result (A × Moment) Halt
played (ended x state) pages replies = Ok (x, record { state = state; pages = pages; replies = replies })
played (failed exception) pages replies = Err (Fails exception, replies)
played (waits reference k state) pages [] = Err (Wants reference, [])
played (waits reference k state) pages (reply ∷ replies) = run (k reply) (record { state = state; pages = pages; replies = replies })
