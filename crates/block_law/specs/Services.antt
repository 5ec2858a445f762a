-- The services as trees.
-- VAX Architecture Reference Manual, "Operating System Support": CHMK, whose codes are this system's own.
use Rattle.std.specs.Prelude.{ℕ, ◌%◌, ◌^◌, ◌==◌, if◌then◌else◌}
use Rattle.service_codes.specs.Codes.{EXIT, PUT, GET, THREAD, HANDLER, RESUME}
use Rattle.vax_form.specs.State.{register, with_register, with_handler, with_pending}
use Rattle.vax_form.specs.declared.state.Pending.TheVariants.{Resume}
use Rattle.vax_form.specs.Tree.{Tree, Ask, Ends, Finish, Exit}
use Rattle.vax_form.specs.declared.state.RefKind.TheVariants.{Put, Get}
use Rattle.vax_form.specs.declared.state.VaxState.{VaxState}

-- each service, by its code; any other code puts 0 into R0
abbrev pub service : (thread code : ℕ) → VaxState → Tree
service thread code state =
    if code == EXIT then Ends (Exit state)
    else if code == PUT then Ask (record { address = 0; count = 0; kind = Put (register 0 state % 256) }) (λ _. Ends (Finish state))
    else if code == GET then Ask (record { address = 0; count = 0; kind = Get }) (λ reply. Ends (Finish (with_register 0 (reply % 2 ^ 32) state)))
    else if code == THREAD then Ends (Finish (with_register 0 thread state))
    else if code == HANDLER then Ends (Finish (with_register 0 state.handler (with_handler (register 0 state) state)))
    else if code == RESUME then Ends (Finish (with_pending Resume state))
    else Ends (Finish (with_register 0 0 state))
