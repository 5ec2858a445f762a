-- What contracts see of the values that stand for those of the model.
use Rattle.std.specs.Prelude.{ℕ, Bool, [], Option, Some, None}
use Rattle.alpha_encode.specs.declared.instr.AlphaInstr.{AlphaInstr}
use Rattle.alpha_machine.specs.Step.{state_of}
use Rattle.alpha_meaning.specs.Act.{finished}
use Rattle.alpha_meaning.specs.Pieces.{loaded}
use Rattle.alpha_meaning.specs.State.{Alpha}
use Rattle.block_law.specs.Follows.{Call}
use Rattle.block_law.specs.Follows as calls
use Rattle.block_law.specs.Translations.{fetch_of}
use Rattle.vax_form.specs.Tree.{Finish, Exit, Trap}
use Rattle.vax_form.specs.declared.state.VaxState.{VaxState}
use Rattle.system_model.specs.Settings as settings
use Rattle.tie_switch.specs.Settings.{image_setting}
use Rattle.system_model.specs.Steps as steps
use Rattle.system_model.specs.Processors as processors
use Rattle.tie_switch.specs.declared.setting.Setting.{Setting}
use Rattle.tie_switch.specs.declared.place.Last.{Last}
use Rattle.tie_switch.specs.declared.place.Last.TheVariants as lasts
use Rattle.tie_switch.specs.declared.place.Place.{Place}
use Rattle.tie_switch.specs.declared.place.Place.TheVariants as places
use Rattle.tie_switch.specs.declared.place.Wanted.{Wanted}
use Rattle.tie_switch.specs.declared.place.Wanted.TheVariants as wanted
use Rattle.tie_switch.specs.declared.place.Next.{Next}
use Rattle.tie_switch.specs.declared.place.Next.TheVariants as nexts
use Rattle.tie_switch.specs.declared.call.PalCall.{PalCall}
use Rattle.tie_switch.specs.declared.call.PalCall.TheVariants as pals
use Rattle.tie_switch.specs.declared.processor.Mode.{Mode}
use Rattle.tie_switch.specs.declared.processor.Mode.TheVariants as modes

abbrev pub setting_of : Setting → settings.Setting
setting_of s = image_setting s.pages.now s.code.now s.ranges.now

abbrev pub last_of : Last → steps.Last
last_of (lasts.Finish state) = steps.Comes (Finish state)
last_of (lasts.Exit state) = steps.Comes (Exit state)
last_of (lasts.Trap kind state) = steps.Comes (Trap kind state)
last_of (lasts.Fault exception) = steps.Fails exception

abbrev pub place_of : Place → steps.Place
place_of (places.Inside cpu) = steps.Inside (state_of cpu)
place_of (places.Lands state held cpu) = steps.Lands state held (state_of cpu).regs
place_of (places.Leaves last) = steps.Leaves (last_of last)

-- what an instruction leaves for its reply
abbrev pub finished_by : Option AlphaInstr → (value : ℕ) (success : Bool) → Alpha → Alpha
finished_by None value success c = c
finished_by (Some i) value success c = finished i value success c

-- where the step of a word leads by the reply to what it wants
abbrev pub place_behind : settings.Setting → steps.Moment → Alpha → Wanted → (before : ℕ) (success : Bool) → steps.Place
place_behind setting moment c (wanted.Access a) before success =
    steps.place_of setting moment (finished_by (fetch_of setting.code.words c.pc) (loaded a before) success c)
place_behind setting moment c wanted.Put before success = steps.behind setting moment c c.regs
place_behind setting moment c wanted.Get before success = steps.behind setting moment c (steps.with_r0 c.regs before)

abbrev pub next_of : settings.Setting → steps.Moment → Alpha → Next → steps.Next
next_of setting moment c (nexts.Moves place) = steps.Moves (place_of place)
next_of setting moment c (nexts.Wants request wanted) = steps.Wants request (place_behind setting moment c wanted)

abbrev pub call_of : PalCall → Call
call_of pals.Probe = calls.Probe
call_of pals.LookUp = calls.LookUp
call_of pals.Serve = calls.Serve
call_of pals.Raise = calls.Raise
call_of pals.Arithmetic = calls.Arithmetic
call_of pals.Switch = calls.Switch
call_of pals.Other = calls.Other

-- the mode of the model, where no interpreted instruction is under way
abbrev pub mode_of : Mode → (boundary : VaxState) → processors.Mode
mode_of modes.New boundary = processors.New
mode_of (modes.Runs cpu) boundary = processors.Runs (state_of cpu)
mode_of (modes.Interprets interpreted reply) boundary = processors.Interprets boundary []
mode_of (modes.Ended end) boundary = processors.Ended end
