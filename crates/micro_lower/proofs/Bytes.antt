-- How many bytes each write of a program has: as many as the operand that its result goes to.
use Rattle.std.proofs.Common.{◌≡◌, ℕ, true, List, [], ◌∷◌, ◌++◌, get_or, Some, refl, ◌∙◌}
use Rattle.std.specs.List.{list_all}
use Rattle.std.proofs.lemmas.Bool.{eq-eqb}
use Rattle.std.proofs.lemmas.List.Folds.{list_all-append}
use Rattle.vax_form.specs.Size.{bytes_of}
use Rattle.vax_form.specs.declared.instr.Instr.{Instr}
use Rattle.vax_form.specs.declared.instr.Operand.{Operand}
use Rattle.vax_form.specs.declared.instr.Operand.TheVariants.{Place}
use Rattle.vax_form.specs.declared.instr.Size.{Size}
use Rattle.vax_form.specs.declared.instr.Size.TheVariants.{Long}
use Rattle.micro_ops.specs.declared.codes.CodeSources.{CodeSources}
use Rattle.micro_ops.specs.declared.program.Micro.{Micro}
use Rattle.micro_ops.specs.declared.program.Micro.TheVariants.{Write, Leave}
use Rattle.operand_programs.specs.InOrder.{operands_program, no_steps}
use Rattle.operand_programs.specs.Results.{result_program, replacement_program, push_program, steps_behind_push}
use Rattle.operand_programs.specs.Specifiers.{sum_into}
use Rattle.micro_ops.specs.Uses.{has_bytes}
use Rattle.micro_lower.specs.Plans.{Plan, specifiers_from, steps_of, steps_behind_target, codes_program, write_program, end_program, rest_program, program_of}
use Rattle.micro_lower.specs.declared.plans.Target.{Target}
use Rattle.micro_lower.proofs.Quiet.{IsQuiet, is_quiet, quiet_passes, sum_quiet, operands_quiet, codes_quiet, end_quiet}

-- ---- pieces
abbrev pub HaveBytes : (count : ℕ) → List Micro → Type 0
HaveBytes count piece = list_all (has_bytes count) piece ≡ true

pub joined : (count : ℕ) (first second : List Micro) → HaveBytes count first → HaveBytes count second → HaveBytes count (first ++ second)
joined count first second x y = list_all-append (has_bytes count) first second ∙ rw (x, y) refl

-- ---- a result has the bytes of its size
pub result_has : (operand : Operand) (size : Size) (place from : ℕ) → HaveBytes (bytes_of size) (result_program operand size place from)
result_has (Place base index) size place from = rw (eq-eqb (bytes_of size) (bytes_of size) refl) refl
result_has _ size place from = refl

pub replacement_has : (operand : Operand) (size : Size) (place from : ℕ) → HaveBytes (bytes_of size) (replacement_program operand size place from)
replacement_has (Place base index) size place from = rw (eq-eqb (bytes_of size) (bytes_of size) refl) refl
replacement_has _ size place from = refl

-- what is quiet writes nothing
quiet_has_bytes : (count : ℕ) (operation : Micro) → is_quiet operation ≡ true → has_bytes count operation ≡ true
quiet_has_bytes count (Write place bytes from) quiet = cc
quiet_has_bytes count operation quiet = refl

module _ (count : ℕ) where
  pub quiet_has : (piece : List Micro) → IsQuiet piece → HaveBytes count piece
  quiet_has = quiet_passes (has_bytes count) (quiet_has_bytes count)

  -- ---- plans
  abbrev pub TargetHas : Target → Type 0
  TargetHas to = (steps : List ℕ) → HaveBytes count (write_program to steps)

  pub rest_have : (codes : CodeSources) (plan : Plan) (steps : List ℕ) → HaveBytes count plan.before → TargetHas plan.target → HaveBytes count plan.behind
      → HaveBytes count (rest_program codes plan steps)
  rest_have codes plan steps before target behind =
      let later = steps_behind_target plan.target steps in
      joined count plan.before (write_program plan.target steps ++ (plan.behind ++ (end_program plan.target later ++ (codes_program codes ++ Leave plan.exit ∷ [])))) before
      (joined count (write_program plan.target steps) (plan.behind ++ (end_program plan.target later ++ (codes_program codes ++ Leave plan.exit ∷ []))) (target steps)
      (joined count plan.behind (end_program plan.target later ++ (codes_program codes ++ Leave plan.exit ∷ [])) behind
      (joined count (end_program plan.target later) (codes_program codes ++ Leave plan.exit ∷ []) (quiet_has (end_program plan.target later) (end_quiet plan.target later))
      (joined count (codes_program codes) (Leave plan.exit ∷ []) (quiet_has (codes_program codes) (codes_quiet codes.nzv codes.c)) refl))))

  pub plan_has : (codes : CodeSources) (plan : Plan) (instr : Instr) → HaveBytes count plan.before → TargetHas plan.target → HaveBytes count plan.behind
      → HaveBytes count (program_of codes plan instr)
  plan_has codes plan instr before target behind =
      let specifiers = specifiers_from 0 plan.slots instr in
      joined count (operands_program specifiers no_steps) (rest_program codes plan (steps_of plan.slots instr)) (quiet_has (operands_program specifiers no_steps) (operands_quiet specifiers no_steps))
      (rest_have codes plan (steps_of plan.slots instr) before target behind)

-- a push has the bytes of a longword
pub push_has : (steps : List ℕ) (place from : ℕ) → HaveBytes (bytes_of Long) (push_program steps place from)
push_has steps place from =
    let address = get_or (steps_behind_push steps) 14 0 in
    rw (quiet_has_bytes (bytes_of Long) (sum_into place (Some 14) address) (sum_quiet place (Some 14) address)) refl
