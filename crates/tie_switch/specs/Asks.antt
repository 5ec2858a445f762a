-- Courses at an access inside a block.
use Rattle.std.specs.Prelude.{◌≡◌, ℕ, false}
use Rattle.alpha_meaning.specs.State.{Alpha}
use Rattle.prepared_code.specs.Asks.{asks_inside}
use Rattle.prepared_code.specs.Probes.{passes}
use Rattle.prepared_code.specs.Sources.{Source}
use Rattle.memory_core.specs.declared.entry.SetUp.{SetUp}
use Rattle.system_model.specs.Settings.{Setting}
use Rattle.tie_switch.specs.Courses.{course_of}
use Rattle.tie_switch.specs.Inside.{goes_on_locally}
use Rattle.tie_switch.specs.Processors.{CanStep}
use Rattle.tie_switch.specs.declared.course.Course.{Course}
use Rattle.vax_form.specs.declared.state.VaxState.{VaxState}

-- a processor on that course has a step, and memory can make what it asks for
pub record HasCourseStep (setting : Setting) (set_up : SetUp) (thread : ℕ) (course : Course) : Type 0 where
  pub before : VaxState
  pub interpreted : ℕ
  pub steps : ℕ
  pub can : CanStep setting set_up (course_of thread before interpreted course steps)

-- the next turn is none that is made along a course: no local step behind which the thread goes on in Alpha code, no probe that passes, and no access inside a block
pub record Rests (setting : Setting) (source : Source) (thread : ℕ) (c : Alpha) : Type 0 where
  pub local : goes_on_locally setting thread c ≡ false
  pub probe : passes source c ≡ false
  pub access : asks_inside source c ≡ false
