-- The lines that tell how far a thread has come: one each time that it has made so many steps more, at its next boundary.
use Rattle.std.specs.Prelude.{ℕ, ◌+◌, ◌&&◌, Bool, not, List, [], ◌++◌, Option, Some, None, nat_lt, if◌then◌else◌}
use Rattle.memory_core.specs.declared.entry.Entry.{Entry}
use Rattle.report_text.specs.Progress.{progress_text}
use Rattle.system_model.specs.Processors.{Processor, Reaches, Begins, Steps, Takes}
use Rattle.system_model.specs.Settings.{Setting}

-- so many steps were made at least, and an instruction was retired in the last of them
abbrev pub is_due : (due retired : ℕ) → Processor → Bool
is_due due retired p = not (nat_lt p.steps due) && nat_lt retired p.retired

abbrev pub line_of : Processor → List ℕ
line_of p = progress_text p.thread p.steps p.retired p.boundary.pc

-- its line, where it is due
abbrev pub line_if : (due retired : ℕ) → Processor → List ℕ
line_if due retired p = if is_due due retired p then line_of p else []

-- the lines so far, and how many steps have to be made before the next
pub record Told : Type 0 where
  pub due : ℕ
  pub lines : List ℕ

-- behind a step from one processor to the next
abbrev pub told_behind : (every : ℕ) → (p q : Processor) → Told → Told
told_behind every p q told =
    if is_due told.due p.retired q then record { due = q.steps + every; lines = told.lines ++ line_of q } else told

-- behind the steps of a processor that began so
abbrev pub progress : {setting : Setting} {first : Processor} {n : ℕ} {mine : List Entry} {p : Processor} → (every : ℕ) → Reaches setting first n mine p → Told
progress every Begins = record { due = every; lines = [] }
progress every (Steps {p = p} {q = q} r e) = told_behind every p q (progress every r)
progress every (Takes {p = p} {on = on} r e before success) = told_behind every p (on before success) (progress every r)

-- its lines, where any are told
abbrev pub lines_of : {setting : Setting} {first : Processor} {n : ℕ} {mine : List Entry} {p : Processor} → Option ℕ → Reaches setting first n mine p → List ℕ
lines_of None r = []
lines_of (Some every) r = (progress every r).lines
