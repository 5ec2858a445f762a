-- Scripts: what an instruction does in order, each step computed from the state and the replies before it.
-- VAX Architecture Reference Manual, "Instruction Descriptions": the operation of each instruction.
use Rattle.std.specs.Prelude.{ℕ, List, [], ◌∷◌, ◌++◌, Bool, false, Option, Some, None, Result, Ok, Err, if◌then◌else◌}
use Rattle.vax_form.specs.Pages.{first_bad, code_byte_at}
use Rattle.vax_form.specs.declared.pages.Pages.{Pages}
use Rattle.vax_form.specs.declared.state.VaxState.{VaxState}
use Rattle.vax_form.specs.declared.state.Reference.{Reference}
use Rattle.vax_form.specs.declared.state.Exception.{Exception}
use Rattle.vax_form.specs.declared.state.Exception.TheVariants.{AccessViolation}
use Rattle.vax_form.specs.declared.script.Stop.{Stop}
use Rattle.vax_form.specs.declared.script.Stop.TheVariants.{Wants, Fails}

-- the state so far, the pages, and the replies that are left
pub record Moment : Type 0 where
  pub state : VaxState
  pub pages : Pages
  pub replies : List ℕ

-- why a script does not come to its end, and the replies that are left there
abbrev pub Halt : Type 0
Halt = Stop × List ℕ

pub data Script : Type 0 → Type 1 where
  -- does nothing
  pure : {A : Type 0} → A → Script A
  -- does one script, and then the one that its result chooses
  bind : {A B : Type 0} → Script A → (A → Script B) → Script B
  -- does the one script or the other
  choose : {A : Type 0} → Bool → Script A → Script A → Script A
  -- makes a reference, and gives its reply
  ask : Reference → Script ℕ
  -- fails with an access violation at the first of the bytes that may not be used with that intent
  check_bytes : (address count : ℕ) → (write : Bool) → Script (Unit {0})
  -- gives a byte of the code, or fails with an access violation there
  read_code : (address : ℕ) → Script ℕ
  -- fails with a fault
  fail : {A : Type 0} → Exception → Script A
  -- gives what a function reads off the state
  get : {A : Type 0} → (VaxState → A) → Script A
  -- changes the state
  change : (VaxState → VaxState) → Script (Unit {0})

infixl 10 ◌>>=◌
abbrev pub ◌>>=◌ : {A B : Type 0} → Script A → (A → Script B) → Script B
m >>= f = bind m f

infixl 10 ◌>>◌
abbrev pub ◌>>◌ : {A B : Type 0} → Script A → Script B → Script B
m >> n = bind m (λ _. n)

infix 4 when◌then◌else◌
abbrev pub when◌then◌else◌ : {A : Type 0} → Bool → Script A → Script A → Script A
when b then m else n = choose b m n

abbrev pub then_do : {A B : Type 0} → Result (A × Moment) Halt → (A → Moment → Result (B × Moment) Halt) → Result (B × Moment) Halt
then_do (Ok x) f = f x.0 x.1
then_do (Err e) f = Err e

abbrev pub changed : (VaxState → VaxState) → Moment → Moment
changed f moment = record moment { state = f moment.state }

abbrev pub asked : Reference → List ℕ → Moment → Result (ℕ × Moment) Halt
asked reference [] moment = Err (Wants reference, [])
asked reference (reply ∷ replies) moment = Ok (reply, record moment { replies = replies })

-- goes on where no byte was found that may not be used
abbrev pub checked : Option ℕ → (write : Bool) → Moment → Result (Unit {0} × Moment) Halt
checked None write moment = Ok (tt, moment)
checked (Some bad) write moment = Err (Fails (AccessViolation bad write), moment.replies)

-- goes on with a byte that was found; a fetch has no write intent
abbrev pub fetched : Option ℕ → (address : ℕ) → Moment → Result (ℕ × Moment) Halt
fetched None address moment = Err (Fails (AccessViolation address false), moment.replies)
fetched (Some byte) address moment = Ok (byte, moment)

-- goes through a script until a reference has no reply, a fault comes, or to its end
abbrev pub run : {A : Type 0} → Script A → Moment → Result (A × Moment) Halt
run (pure x) moment = Ok (x, moment)
run (bind m f) moment = then_do (run m moment) (λ x. run (f x))
run (choose b m n) moment = if b then run m moment else run n moment
run (ask reference) moment = asked reference moment.replies moment
run (check_bytes address count write) moment = checked (first_bad moment.pages write address count) write moment
run (read_code address) moment = fetched (code_byte_at moment.pages address) address moment
run (fail exception) moment = Err (Fails exception, moment.replies)
run (get f) moment = Ok (f moment.state, moment)
run (change f) moment = Ok (tt, changed f moment)

-- the moment with further replies behind those that are left
abbrev pub more : List ℕ → Moment → Moment
more extra moment = record moment { replies = moment.replies ++ extra }
