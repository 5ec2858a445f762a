-- How a thread starts.
use Rattle.std.specs.Prelude.{[], ◌∷◌, ◌++◌}
use Rattle.vax_form.specs.declared.state.VaxState.{VaxState}
use Rattle.vax_form.specs.declared.state.Pending.TheVariants.{Nothing}
use Rattle.image_file.specs.declared.image.Start.{Start}

-- its first registers in R0 to R13, its stack pointer in R14, its PC, and nothing in the processor status word, no handler and nothing pending
abbrev pub start_state : Start → VaxState
start_state t = record { r = t.first ++ t.sp ∷ []; pc = t.pc; psw = 0; handler = 0; pending = Nothing }
