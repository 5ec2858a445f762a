-- Code for each of the processors does what it may on any.
use Rattle.std.proofs.Common.{ℕ, ◌≤◌, Option, None, Some, refl, lit≤}
use Rattle.vax_form.specs.Operation.{operation_at}
use Rattle.vax_form.specs.Pages.{code_byte_at}
use Rattle.vax_form.specs.declared.operation.LongOperation.TheVariants.{MoveCharacters}
use Rattle.vax_form.specs.declared.operation.Operation.{Operation}
use Rattle.vax_form.specs.declared.operation.Operation.TheVariants as operations
use Rattle.vax_form.specs.declared.pages.Pages.{Pages}
use Rattle.block_law.proofs.MoreKinds.{more_kinds_meet}
use Rattle.image_meaning.specs.Permits.{AnyPermitAllowsFew, MeetsAnyPermit, PermitsAllowFew, any_permit, bonus_by, bonus_of_operation, loop_bonus, permit_of}

operation_allows_few : (o : Option Operation) → bonus_of_operation o ≤ 256
operation_allows_few (Some (operations.Long MoveCharacters)) = lit≤ tt
operation_allows_few _ = lit≤ tt

loop_allows_few : (pages : Pages) (address : ℕ) → loop_bonus pages address ≤ 256
loop_allows_few pages address = by (code_byte_at pages address)
  where
    by : (o : Option ℕ) → bonus_by o ≤ 256
    by None = lit≤ tt
    by (Some opcode) = operation_allows_few (operation_at opcode)

pub permits_allow_few : PermitsAllowFew
permits_allow_few target pages address = loop_allows_few pages address

pub any_permit_allows_few : AnyPermitAllowsFew
any_permit_allows_few pages address = loop_allows_few pages address

pub meets_any_permit : MeetsAnyPermit
meets_any_permit meaning target pages code m =
    more_kinds_meet meaning (permit_of target pages) (any_permit pages) code (record { kinds = λ address reference kind bytes may. refl; bonus = λ address. refl }) m
