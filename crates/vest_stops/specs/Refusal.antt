-- A refusal as its subject and its numbers.
use Rattle.std.specs.Prelude.{ℕ, List}
use Rattle.report_text.specs.declared.refused.Subject.{Subject}

pub record RefusalValue : Type 0 where
  pub subject : Subject
  pub numbers : List ℕ

abbrev pub told : Subject → List ℕ → RefusalValue
told subject numbers = record { subject = subject; numbers = numbers }
