-- Operands in order, each behind the earlier ones.
use Rattle.std.proofs.Common.{◌≡◌, ℕ, ◌==◌, false, List, [], ◌∷◌, ◌++◌, length, refl, ◌∙◌, append_assoc, arith}
use Rattle.vax_form.specs.Size.{bytes_of}
use Rattle.vax_form.specs.Tree.{tree_of}
use Rattle.vax_form.specs.declared.instr.Access.{Access}
use Rattle.vax_form.specs.declared.instr.Access.TheVariants as accesses
use Rattle.vax_form.specs.declared.instr.Operand.{Operand}
use Rattle.vax_form.specs.declared.instr.Operand.TheVariants.{Place}
use Rattle.vax_form.specs.declared.instr.Size.{Size}
use Rattle.vax_meaning.specs.Evaluation.{nothing, operands_from, find, obtain, read_found}
use Rattle.vax_meaning.specs.Operands.{locate}
use Rattle.vax_meaning.specs.declared.evaluation.Evaluated.{Evaluated}
use Rattle.micro_ops.specs.Meaning.{Temps}
use Rattle.operand_programs.specs.Specifiers.{steps_behind_operand}
use Rattle.operand_programs.specs.Pieces.{with_temps}
use Rattle.operand_programs.specs.Operands.{IsPlaced, IsLeftAs, IsBase, steps_behind_access, steps_behind_specifier}
use Rattle.operand_programs.specs.InOrder.{evaluate_all, EvaluatesAll, operands_program, IsOutside, Lasts, KeptByAll, InOrder, OfInstruction, steps_behind_all}
use Rattle.operand_programs.specs.declared.operands.Specifier.{Specifier}
use Rattle.operand_programs.proofs.Evaluating.{evaluates_one}
use Rattle.operand_programs.proofs.Places.{steps_length}

pub operand_steps_length : (operand : Operand) (size : Size) (steps : List ℕ) → length (steps_behind_operand operand size steps) ≡ length steps
operand_steps_length (Place base index) size steps = steps_length base (bytes_of size) steps
operand_steps_length operand size steps = refl

pub access_steps_length : (access : Access) (operand : Operand) (size : Size) (steps : List ℕ) → length (steps_behind_access access operand size steps) ≡ length steps
access_steps_length accesses.Branch operand size steps = refl
access_steps_length access operand size steps = operand_steps_length operand size steps

pub all_steps_length : (specifiers : List Specifier) (steps : List ℕ) → length (steps_behind_all specifiers steps) ≡ length steps
all_steps_length [] steps = refl
all_steps_length (specifier ∷ specifiers) steps =
    all_steps_length specifiers (steps_behind_specifier specifier steps) ∙ access_steps_length specifier.access specifier.operand specifier.size steps

-- what an operand left stays where its temporaries stay
module _ (operand : Operand) (size : Size) (evaluated : Evaluated) (to place : ℕ) (later : List Specifier) (before after : Temps) (kept : KeptByAll later before after) where
  stays_base : (operand : Operand) → IsOutside later to × IsOutside later place → IsBase operand evaluated (before to) (before place) → IsBase operand evaluated (after to) (after place)
  stays_base operand outside left = rw (kept to outside.0, kept place outside.1) left

  pub stays : (access : Access) → Lasts access to place later → IsLeftAs access operand size evaluated (before to) (before place) → IsLeftAs access operand size evaluated (after to) (after place)
  stays accesses.Read outside left = rw (kept to outside) left
  stays accesses.Write outside left = rw (kept place outside) left
  stays accesses.Modify outside left = rw (kept to outside.0, kept place outside.1) left
  stays accesses.Address outside left = rw (kept to outside) left
  stays accesses.Field outside left = stays_base operand outside left
  stays accesses.Branch outside left = left

-- behind one operand that may change its temporaries
module _ (specifier : Specifier) (specifiers : List Specifier) (steps : List ℕ) (outside : (temp : ℕ) → IsOutside (specifier ∷ specifiers) temp
    → ((temp == specifier.place) ≡ false) × ((temp == specifier.to) ≡ false) × ((temp == 4) ≡ false)) (placed : IsPlaced specifier)
    (lasts : Lasts specifier.access specifier.to specifier.place specifiers)
    (later : EvaluatesAll specifiers (steps_behind_specifier specifier steps) (operands_program specifiers (steps_behind_specifier specifier steps))) where
  behind_one : EvaluatesAll (specifier ∷ specifiers) steps (operands_program (specifier ∷ specifiers) steps)
  behind_one sources start pages thread program found standing rest same goes =
      let behind = steps_behind_specifier specifier steps in
      rw append_assoc (evaluates_one specifier steps placed sources start pages thread (operands_program specifiers behind ++ program) found standing
      (λ first after. tree_of pages (evaluate_all specifiers) after (λ others last. rest (first ∷ others) last)) same
      (λ first temps left kept. later sources start pages thread program found (with_temps temps standing) (λ others last. rest (first ∷ others) last)
      (access_steps_length specifier.access specifier.operand specifier.size steps ∙ same)
      (λ others temps' lefts kept'. goes (first ∷ others) temps'
      (first, others, refl, stays specifier.operand specifier.size first specifier.to specifier.place specifiers temps temps' kept' specifier.access lasts left, lefts)
      (λ temp out. let o = outside temp out in kept' temp out.1 ∙ kept temp o.0 o.1 o.2))))

in_order_by : (access : Access) (size : Size) (operand : Operand) (to place : ℕ) (specifiers : List Specifier) (steps : List ℕ) →
    (let specifier : Specifier = record { access = access; size = size; operand = operand; to = to; place = place } in
    IsPlaced specifier → Lasts access to place specifiers
    → EvaluatesAll specifiers (steps_behind_specifier specifier steps) (operands_program specifiers (steps_behind_specifier specifier steps))
    → EvaluatesAll (specifier ∷ specifiers) steps (operands_program (specifier ∷ specifiers) steps))
unfolding find obtain
in_order_by accesses.Read size operand to place specifiers steps placed lasts later = behind_one _ specifiers steps (λ temp out. out.0) placed lasts later
in_order_by accesses.Write size operand to place specifiers steps placed lasts later = behind_one _ specifiers steps (λ temp out. out.0) placed lasts later
in_order_by accesses.Modify size operand to place specifiers steps placed lasts later = behind_one _ specifiers steps (λ temp out. out.0) placed lasts later
in_order_by accesses.Address size operand to place specifiers steps placed lasts later = behind_one _ specifiers steps (λ temp out. out.0) placed lasts later
in_order_by accesses.Field size operand to place specifiers steps placed lasts later = behind_one _ specifiers steps (λ temp out. out.0) placed lasts later
in_order_by accesses.Branch size operand to place specifiers steps placed lasts later = λ sources start pages thread program found standing rest same goes.
    later sources start pages thread program found standing (λ others last. rest (nothing ∷ others) last) same
    (λ others temps lefts kept. goes (nothing ∷ others) temps (nothing, others, refl, refl, lefts) (λ temp out. kept temp out.1))

pub in_order : InOrder
in_order [] steps placed = λ sources start pages thread program found standing rest same goes. goes [] standing.temps refl (λ temp outside. refl)
in_order (specifier ∷ specifiers) steps placed =
    in_order_by specifier.access specifier.size specifier.operand specifier.to specifier.place specifiers steps placed.0 placed.1 (in_order specifiers (steps_behind_specifier specifier steps) placed.2)

pub of_instruction : OfInstruction
unfolding operands_from find obtain read_found locate
of_instruction [] row instr pages state rest few are = rw (are.0, are.1) refl
of_instruction (a ∷ []) row instr pages state rest few are = rw (are.0, are.1) refl
of_instruction (a ∷ b ∷ []) row instr pages state rest few are = rw (are.0, are.1) refl
of_instruction (a ∷ b ∷ c ∷ []) row instr pages state rest few are = rw (are.0, are.1) refl
of_instruction (a ∷ b ∷ c ∷ d ∷ []) row instr pages state rest few are = rw (are.0, are.1) refl
of_instruction (a ∷ b ∷ c ∷ d ∷ e ∷ []) row instr pages state rest few are = rw (are.0, are.1) refl
of_instruction (a ∷ b ∷ c ∷ d ∷ e ∷ f ∷ []) row instr pages state rest few are = rw (are.0, are.1) refl
of_instruction (a ∷ b ∷ c ∷ d ∷ e ∷ f ∷ g ∷ more) row instr pages state rest few are = absurd (omega (arith, few))
