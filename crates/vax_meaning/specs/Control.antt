-- The services and the breakpoint.
-- VAX Architecture Reference Manual, "Operating System Support": CHMK, whose codes are this system's own.
use Rattle.std.specs.Prelude.{ℕ, ◌%◌, ◌^◌, ◌==◌, List}
use Rattle.service_codes.specs.Codes.{EXIT, PUT, GET, THREAD, HANDLER, RESUME}
use Rattle.vax_form.specs.State.{with_pc, with_handler, with_pending}
use Rattle.vax_form.specs.Script.{Script, ◌>>=◌, ◌>>◌, pure, ask, get, change, when◌then◌else◌}
use Rattle.vax_form.specs.declared.instr.Size.TheVariants.{Word}
use Rattle.vax_form.specs.declared.instr.Instr.{Instr}
use Rattle.vax_form.specs.declared.script.End.{End}
use Rattle.vax_form.specs.declared.script.End.TheVariants.{Done, Exits}
use Rattle.vax_form.specs.declared.state.Pending.TheVariants.{Resume}
use Rattle.vax_form.specs.declared.state.RefKind.TheVariants.{Put, Get}
use Rattle.vax_meaning.specs.declared.evaluation.Evaluated.{Evaluated}
use Rattle.vax_meaning.specs.Operands.{get_register, set_register}
use Rattle.vax_meaning.specs.Evaluation.{value_of_place}

-- appends the low byte of R0 to the output
unfoldable pub put_byte : Script End
put_byte = do
  first ← get_register 0
  _ ← ask (record { address = 0; count = 0; kind = Put (first % 256) })
  pure Done

-- takes the next byte of the input into R0
unfoldable pub get_byte : Script End
get_byte = do
  got ← ask (record { address = 0; count = 0; kind = Get })
  set_register 0 (got % 2 ^ 32)
  pure Done

abbrev pub answer_with : (value : ℕ) → Script End
answer_with value = do
  set_register 0 value
  pure Done

-- makes R0 the handler, and gives the handler before
unfoldable pub exchange_handler : Script End
exchange_handler = do
  before ← get (λ state. state.handler)
  first ← get_register 0
  change (with_handler first)
  answer_with before

-- resumes behind the service
abbrev pub ask_to_resume : Script End
ask_to_resume = do
  change (with_pending Resume)
  pure Done

-- a service, by its code; any other gives 0
unfoldable pub serve : (code thread : ℕ) → Script End
serve code thread =
    when code == EXIT then pure Exits
    else when code == PUT then put_byte
    else when code == GET then get_byte
    else when code == THREAD then answer_with thread
    else when code == HANDLER then exchange_handler
    else when code == RESUME then ask_to_resume
    else answer_with 0

-- CHMK: the codes are kept
unfoldable pub change_mode : Instr → (thread : ℕ) → List Evaluated → Script End
change_mode instr thread values = do
  change (with_pc instr.after)
  serve (value_of_place values 0 Word) thread
