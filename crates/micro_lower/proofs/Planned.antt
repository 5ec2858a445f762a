-- A program by a plan does what its instruction does, where what comes behind the operands does what the body does.
use Rattle.std.proofs.Common.{◌≡◌, ℕ, ◌^◌, ◌<◌, ◌≤◌, List, [], ◌∷◌, length, Some, sym, ◌∙◌, subst}
use Rattle.vax_form.specs.Operation.{operation_at}
use Rattle.vax_form.specs.Row.{filled}
use Rattle.vax_form.specs.State.{IsState}
use Rattle.vax_form.specs.Tree.{Tree, tree_of, ends_with}
use Rattle.vax_form.specs.declared.instr.Access.{Access}
use Rattle.vax_form.specs.declared.instr.Access.TheVariants.{Read, Write, Modify, Address, Branch}
use Rattle.vax_form.specs.declared.instr.Instr.{Instr}
use Rattle.vax_form.specs.declared.instr.Operand.{Operand}
use Rattle.vax_form.specs.declared.instr.Size.{Size}
use Rattle.vax_form.specs.declared.operation.Operation.{Operation}
use Rattle.vax_form.specs.declared.pages.Pages.{Pages}
use Rattle.vax_form.specs.declared.state.VaxState.{VaxState}
use Rattle.vax_meaning.specs.Evaluation.{nothing, evaluated_row}
use Rattle.vax_meaning.specs.Instructions.{operation_script, body}
use Rattle.vax_meaning.specs.declared.evaluation.Evaluated.{Evaluated}
use Rattle.vax_meaning.specs.declared.operands.Location.{Location}
use Rattle.vax_meaning.specs.declared.operands.Location.TheVariants.{InMemory}
use Rattle.micro_ops.specs.Leaving.{CodesComeFrom}
use Rattle.micro_ops.specs.Meaning.{Temps, course_of, started}
use Rattle.micro_ops.specs.Sources.{sources_of}
use Rattle.operand_programs.specs.InOrder.{AreLeft, ArePlaced, AreOperandsOf, steps_behind_all, no_steps}
use Rattle.operand_programs.specs.Operands.{IsAt, IsOfSize}
use Rattle.operand_programs.specs.Pieces.{Agrees, with_temps, leaving}
use Rattle.operand_programs.specs.Specifiers.{stepped}
use Rattle.operand_programs.specs.declared.operands.Specifier.{Specifier}
use Rattle.operand_programs.proofs.Ordered.{in_order, of_instruction, all_steps_length}
use Rattle.operand_programs.proofs.Stepped.{nothing_added}
use Rattle.micro_lower.specs.Plans.{Plan, specifiers_from, steps_of, rest_program, program_of}
use Rattle.micro_lower.proofs.Plain.{Does}

module _ (operation : Operation) (instr : Instr) (plan : Plan) where
  abbrev pub steps : List ℕ
  steps = steps_of plan.slots instr

  -- behind the operands, the program does what the body does
  abbrev pub BodyDoes : VaxState → Pages → (thread : ℕ) → Temps → List Evaluated → Type 0
  BodyDoes state pages thread temps values =
      Agrees (CodesComeFrom (sources_of operation) state) (leaving pages thread)
      (course_of (rest_program (sources_of operation) plan steps) (record { state = state; after = instr.after }) (with_temps temps (started state)))
      (tree_of pages (body operation instr thread (filled nothing 6 values)) (stepped steps state) ends_with)

  abbrev pub AllDo : Type 0
  AllDo = (state : VaxState) (pages : Pages) (thread : ℕ) (temps : Temps) (values : List Evaluated) → IsState state → length steps ≡ length state.r
      → AreLeft (specifiers_from 0 plan.slots instr) values temps → BodyDoes state pages thread temps values

  pub plan_does : operation_at instr.opcode ≡ Some operation → length (specifiers_from 0 plan.slots instr) ≤ 6
      → AreOperandsOf (specifiers_from 0 plan.slots instr) (evaluated_row operation) instr → ArePlaced (specifiers_from 0 plan.slots instr)
      → AllDo → Does (sources_of operation) instr (program_of (sources_of operation) plan instr)
  unfolding operation_script
  plan_does is few are placed all state pages thread ok =
      let specifiers = specifiers_from 0 plan.slots instr in
      let rest : List Evaluated → VaxState → Tree = λ values after. tree_of pages (body operation instr thread values) after ends_with in
      rw (is, of_instruction specifiers (evaluated_row operation) instr pages state rest few are)
      (subst (λ (s : VaxState). Agrees (CodesComeFrom (sources_of operation) state) (leaving pages thread) (course_of (program_of (sources_of operation) plan instr) (record { state = state; after = instr.after }) (started state))
      (tree_of pages (Rattle.operand_programs.specs.InOrder.evaluate_all specifiers) s (λ values after. rest (filled nothing 6 values) after))) (nothing_added state ok)
      (in_order specifiers no_steps placed (sources_of operation) state pages thread (rest_program (sources_of operation) plan steps) (record { state = state; after = instr.after }) (started state)
      (λ values after. rest (filled nothing 6 values) after) (sym ok.registers)
      (λ values temps left kept. all state pages thread temps values ok (all_steps_length specifiers no_steps ∙ sym ok.registers) left)))

-- ---- what the operands left, one after the other
module _ (size : Size) (operand : Operand) (to place : ℕ) (later : List Specifier) (values : List Evaluated) (temps : Temps) (P : List Evaluated → Type 0) where
  pub after_read : AreLeft (record { access = Read; size = size; operand = operand; to = to; place = place } ∷ later) values temps
      → ((others : List Evaluated) → AreLeft later others temps → IsOfSize size (temps to) → P (record { location = InMemory 0; value = temps to } ∷ others)) → P values
  after_read left goes = subst P (sym left.2) (subst (λ (e : Evaluated). P (e ∷ left.1)) (sym left.3.0) (goes left.1 left.4 left.3.1))

  pub after_write : AreLeft (record { access = Write; size = size; operand = operand; to = to; place = place } ∷ later) values temps
      → ((others : List Evaluated) → AreLeft later others temps → (location : Location) → IsAt operand location (temps place) → P (record { location = location; value = 0 } ∷ others)) → P values
  after_write left goes =
      subst P (sym left.2) (subst (λ (v : ℕ). P (record { location = left.0.location; value = v } ∷ left.1)) (sym left.3.0) (goes left.1 left.4 left.0.location left.3.1))

  pub after_modify : AreLeft (record { access = Modify; size = size; operand = operand; to = to; place = place } ∷ later) values temps
      → ((others : List Evaluated) → AreLeft later others temps → (location : Location) → IsAt operand location (temps place) → IsOfSize size (temps to)
      → P (record { location = location; value = temps to } ∷ others)) → P values
  after_modify left goes =
      subst P (sym left.2) (subst (λ (v : ℕ). P (record { location = left.0.location; value = v } ∷ left.1)) (sym left.3.0) (goes left.1 left.4 left.0.location left.3.2 left.3.1))

  pub after_address : AreLeft (record { access = Address; size = size; operand = operand; to = to; place = place } ∷ later) values temps
      → ((others : List Evaluated) → AreLeft later others temps → temps to < 2 ^ 32 → P (record { location = InMemory (temps to); value = temps to } ∷ others)) → P values
  after_address left goes = subst P (sym left.2) (subst (λ (e : Evaluated). P (e ∷ left.1)) (sym left.3.0) (goes left.1 left.4 left.3.1))

  pub after_branch : AreLeft (record { access = Branch; size = size; operand = operand; to = to; place = place } ∷ later) values temps
      → ((others : List Evaluated) → AreLeft later others temps → P (nothing ∷ others)) → P values
  after_branch left goes = subst P (sym left.2) (subst (λ (e : Evaluated). P (e ∷ left.1)) (sym left.3) (goes left.1 left.4))

pub after_all : (values : List Evaluated) (temps : Temps) (P : List Evaluated → Type 0) → AreLeft [] values temps → P [] → P values
after_all values temps P left goes = subst P (sym left) goes

-- a value that was read, and where a result goes
abbrev pub value : ℕ → Evaluated
value number = record { location = InMemory 0; value = number }

abbrev pub place : Location → Evaluated
place location = record { location = location; value = 0 }

abbrev pub both : Location → ℕ → Evaluated
both location number = record { location = location; value = number }

abbrev pub address : ℕ → Evaluated
address number = record { location = InMemory number; value = number }

-- ---- shapes of rows
abbrev pub specifier : Access → Size → Operand → (to place : ℕ) → Specifier
specifier access size operand to place = record { access = access; size = size; operand = operand; to = to; place = place }

module _ (values : List Evaluated) (temps : Temps) (P : List Evaluated → Type 0) where
  pub only_write : (size : Size) (a : Operand) → AreLeft (specifier Write size a 2 3 ∷ []) values temps
      → ((location : Location) → IsAt a location (temps 3) → P (place location ∷ [])) → P values
  only_write size a left goes =
      after_write size a 2 3 [] values temps P left (λ others left' location at.
      after_all others temps (λ others. P (place location ∷ others)) left' (goes location at))

  pub only_place : (size : Size) (a : Operand) → AreLeft (specifier Write size a 0 3 ∷ []) values temps
      → ((location : Location) → IsAt a location (temps 3) → P (place location ∷ [])) → P values
  only_place size a left goes =
      after_write size a 0 3 [] values temps P left (λ others left' location at.
      after_all others temps (λ others. P (place location ∷ others)) left' (goes location at))

  pub only_read : (size : Size) (a : Operand) (to from : ℕ) → AreLeft (specifier Read size a to from ∷ []) values temps
      → (IsOfSize size (temps to) → P (value (temps to) ∷ [])) → P values
  only_read size a to from left goes =
      after_read size a to from [] values temps P left (λ others left' fits.
      after_all others temps (λ others. P (value (temps to) ∷ others)) left' (goes fits))

  pub only_address : (size : Size) (a : Operand) (to from : ℕ) → AreLeft (specifier Address size a to from ∷ []) values temps
      → (temps to < 2 ^ 32 → P (address (temps to) ∷ [])) → P values
  only_address size a to from left goes =
      after_address size a to from [] values temps P left (λ others left' fits.
      after_all others temps (λ others. P (address (temps to) ∷ others)) left' (goes fits))

  pub only_modify : (size : Size) (a : Operand) (to : ℕ) → AreLeft (specifier Modify size a to 3 ∷ []) values temps
      → ((location : Location) → IsAt a location (temps 3) → IsOfSize size (temps to) → P (both location (temps to) ∷ [])) → P values
  only_modify size a to left goes =
      after_modify size a to 3 [] values temps P left (λ others left' location at fits.
      after_all others temps (λ others. P (both location (temps to) ∷ others)) left' (goes location at fits))

-- behind a value that was read
module _ (values : List Evaluated) (temps : Temps) (P : List Evaluated → Type 0) (size : Size) (a : Operand) (to from : ℕ) (size' : Size) (b : Operand) where
  abbrev P' : List Evaluated → Type 0
  P' others = P (value (temps to) ∷ others)

  pub read_and_write : AreLeft (specifier Read size a to from ∷ specifier Write size' b 2 3 ∷ []) values temps
      → ((location : Location) → IsOfSize size (temps to) → IsAt b location (temps 3) → P (value (temps to) ∷ place location ∷ [])) → P values
  read_and_write left goes =
      after_read size a to from (specifier Write size' b 2 3 ∷ []) values temps P left (λ others left' fits. only_write others temps P' size' b left' (λ location at. goes location fits at))

  pub read_and_place : AreLeft (specifier Read size a to from ∷ specifier Write size' b 0 3 ∷ []) values temps
      → ((location : Location) → IsOfSize size (temps to) → IsAt b location (temps 3) → P (value (temps to) ∷ place location ∷ [])) → P values
  read_and_place left goes =
      after_read size a to from (specifier Write size' b 0 3 ∷ []) values temps P left (λ others left' fits. only_place others temps P' size' b left' (λ location at. goes location fits at))

  pub address_and_place : AreLeft (specifier Address size a to from ∷ specifier Write size' b 0 3 ∷ []) values temps
      → ((location : Location) → temps to < 2 ^ 32 → IsAt b location (temps 3) → P (address (temps to) ∷ place location ∷ [])) → P values
  address_and_place left goes =
      after_address size a to from (specifier Write size' b 0 3 ∷ []) values temps P left
      (λ others left' fits. only_place others temps (λ others. P (address (temps to) ∷ others)) size' b left' (λ location at. goes location fits at))

  pub read_and_modify : (to' : ℕ) → AreLeft (specifier Read size a to from ∷ specifier Modify size' b to' 3 ∷ []) values temps
      → ((location : Location) → IsOfSize size (temps to) → IsAt b location (temps 3) → IsOfSize size' (temps to') → P (value (temps to) ∷ both location (temps to') ∷ [])) → P values
  read_and_modify to' left goes =
      after_read size a to from (specifier Modify size' b to' 3 ∷ []) values temps P left (λ others left' fits. only_modify others temps P' size' b to' left' (λ location at fits'. goes location fits at fits'))

  pub read_twice : (to' from' : ℕ) → AreLeft (specifier Read size a to from ∷ specifier Read size' b to' from' ∷ []) values temps
      → (IsOfSize size (temps to) → IsOfSize size' (temps to') → P (value (temps to) ∷ value (temps to') ∷ [])) → P values
  read_twice to' from' left goes =
      after_read size a to from (specifier Read size' b to' from' ∷ []) values temps P left (λ others left' fits. only_read others temps P' size' b to' from' left' (λ fits'. goes fits fits'))

-- and two
pub read_twice_and_write : (values : List Evaluated) (temps : Temps) (P : List Evaluated → Type 0) (size size' size'' : Size) (a b c : Operand) (to from to' from' : ℕ)
    → AreLeft (specifier Read size a to from ∷ specifier Read size' b to' from' ∷ specifier Write size'' c 2 3 ∷ []) values temps
    → ((location : Location) → IsOfSize size (temps to) → IsOfSize size' (temps to') → IsAt c location (temps 3) → P (value (temps to) ∷ value (temps to') ∷ place location ∷ [])) → P values
read_twice_and_write values temps P size size' size'' a b c to from to' from' left goes =
    after_read size a to from (specifier Read size' b to' from' ∷ specifier Write size'' c 2 3 ∷ []) values temps P left (λ others left' fits.
    read_and_write others temps (λ others. P (value (temps to) ∷ others)) size' b to' from' size'' c left' (λ location fits' at. goes location fits fits' at))
