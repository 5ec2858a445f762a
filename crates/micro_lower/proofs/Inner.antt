-- Pieces of a program that read no other codes than some, and do not leave.
use Rattle.std.proofs.Common.{◌≡◌, ℕ, Bool, true, false, List, ◌++◌, get_or, Some, refl, ◌∙◌}
use Rattle.std.specs.Prelude.{◌&&◌, ◌||◌, nat_le}
use Rattle.std.specs.List.{list_all}
use Rattle.std.proofs.lemmas.Bool.{and_parts}
use Rattle.std.proofs.lemmas.List.Folds.{list_all-append}
use Rattle.vax_form.specs.declared.instr.Operand.{Operand}
use Rattle.vax_form.specs.declared.instr.Operand.TheVariants.{Place}
use Rattle.vax_form.specs.declared.instr.Size.{Size}
use Rattle.vax_form.specs.declared.state.Flags.{Flags}
use Rattle.micro_ops.specs.declared.codes.CodeSource.{CodeSource}
use Rattle.micro_ops.specs.declared.program.Arg.{Arg}
use Rattle.micro_ops.specs.declared.program.Arg.TheVariants as args
use Rattle.micro_ops.specs.declared.program.Micro.{Micro}
use Rattle.micro_ops.specs.declared.program.Micro.TheVariants.{Compute, Write, Leave}
use Rattle.operand_programs.specs.InOrder.{operands_program}
use Rattle.operand_programs.specs.Results.{result_program, replacement_program, push_program, steps_behind_push}
use Rattle.operand_programs.specs.Specifiers.{sum_into}
use Rattle.operand_programs.specs.declared.operands.Specifier.{Specifier}
use Rattle.micro_lower.specs.Lowering.{holds_flag}
use Rattle.micro_lower.specs.Plans.{codes_program, write_program, end_program}
use Rattle.micro_lower.specs.declared.plans.Target.{Target}
use Rattle.micro_lower.specs.declared.plans.Target.TheVariants as targets
use Rattle.micro_lower.proofs.Quiet.{IsQuiet, is_number, is_quiet, quiet_passes, sum_quiet, operands_quiet, codes_quiet, end_quiet}

-- ---- pieces
-- a code of the set, or a flag that is none
abbrev pub is_allowed : Flags → Arg → Bool
is_allowed set (args.Flag flag) = nat_le 4 flag || holds_flag flag set
is_allowed set arg = true

-- reads no other codes, and does not leave
abbrev pub is_inner : Flags → Micro → Bool
is_inner set (Compute to op size a b) = is_allowed set a && is_allowed set b
is_inner set (Leave exit) = false
is_inner set operation = true

abbrev pub IsInner : Flags → List Micro → Type 0
IsInner set piece = list_all (is_inner set) piece ≡ true

pub joined : (set : Flags) (first second : List Micro) → IsInner set first → IsInner set second → IsInner set (first ++ second)
joined set first second x y = list_all-append (is_inner set) first second ∙ rw (x, y) refl

number_allowed : (set : Flags) (arg : Arg) → is_number arg ≡ true → is_allowed set arg ≡ true
number_allowed set (args.Flag flag) number = cc
number_allowed set arg number = refl

quiet_is_inner : (set : Flags) (operation : Micro) → is_quiet operation ≡ true → is_inner set operation ≡ true
quiet_is_inner set (Compute to op size a b) quiet =
    let parts = and_parts _ _ quiet in
    rw (number_allowed set a parts.0, number_allowed set b parts.1) refl
quiet_is_inner set (Write place count from) quiet = refl
quiet_is_inner set (Leave exit) quiet = cc
quiet_is_inner set operation quiet = refl

module _ (set : Flags) where
  quiet_inner : (piece : List Micro) → IsQuiet piece → IsInner set piece
  quiet_inner = quiet_passes (is_inner set) (quiet_is_inner set)

  pub operands_inner : (specifiers : List Specifier) (steps : List ℕ) → IsInner set (operands_program specifiers steps)
  operands_inner specifiers steps = quiet_inner (operands_program specifiers steps) (operands_quiet specifiers steps)

  -- ---- results
  result_inner : (operand : Operand) (size : Size) (place from : ℕ) → IsInner set (result_program operand size place from)
  result_inner (Place base index) size place from = refl
  result_inner _ size place from = refl

  replacement_inner : (operand : Operand) (size : Size) (place from : ℕ) → IsInner set (replacement_program operand size place from)
  replacement_inner (Place base index) size place from = refl
  replacement_inner _ size place from = refl

  push_inner : (steps : List ℕ) (place from : ℕ) → IsInner set (push_program steps place from)
  push_inner steps place from =
      let address = get_or (steps_behind_push steps) 14 0 in
      rw (quiet_is_inner set (sum_into place (Some 14) address) (sum_quiet place (Some 14) address)) refl

  -- ---- plans
  pub codes_inner : (nzv c : CodeSource) → IsInner set (codes_program (record { nzv = nzv; c = c }))
  codes_inner nzv c = quiet_inner (codes_program (record { nzv = nzv; c = c })) (codes_quiet nzv c)

  pub target_inner : (to : Target) (steps : List ℕ) → IsInner set (write_program to steps)
  target_inner targets.Nowhere steps = refl
  target_inner (targets.Result operand size) steps = result_inner operand size 3 2
  target_inner (targets.Replacement operand size) steps = replacement_inner operand size 3 2
  target_inner targets.Stack steps = push_inner steps 3 2

  pub end_inner : (to : Target) (steps : List ℕ) → IsInner set (end_program to steps)
  end_inner to steps = quiet_inner (end_program to steps) (end_quiet to steps)
