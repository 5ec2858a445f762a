-- The report of a run: how each thread ended, and the registers of one that did not exit.
-- VAX Architecture Reference Manual, "Exceptions and Interrupts": the vector offset of each exception, and the processor
-- status longword of user mode.
use Rattle.std.specs.Prelude.{ℕ, suc, List, [], ◌∷◌, ◌++◌, codes, decimal, if◌then◌else◌}
use Rattle.vax_form.specs.Exceptions.{vector_of}
use Rattle.vax_form.specs.State.{psl_of}
use Rattle.vax_form.specs.declared.state.Exception.{Exception}
use Rattle.vax_form.specs.declared.state.Exception.TheVariants.{AccessViolation, Arithmetic}
use Rattle.vax_form.specs.declared.state.VaxState.{VaxState}
use Rattle.vax_driven.specs.declared.thread.End.{End}
use Rattle.vax_driven.specs.declared.thread.End.TheVariants.{Exit, Raised, Spent}
use Rattle.report_text.specs.Digits.{two_digits, eight_digits}
use Rattle.report_text.specs.Numbers.{longwords}

-- what comes with an exception: the address and the intent of an access violation, and the type of an arithmetic trap
abbrev pub detail_of : Exception → List ℕ
detail_of (AccessViolation address write) =
    codes " address " ++ eight_digits address ++ (if write then codes " intent 1" else codes " intent 0")
detail_of (Arithmetic kind) = codes " type" ++ (32 ∷ decimal kind)
detail_of _ = []

-- the PC, the processor status longword, and on a line of their own R0 to R14
abbrev pub state_text : VaxState → List ℕ
state_text state =
    codes " pc " ++ eight_digits state.pc ++ codes " psl " ++ eight_digits (psl_of state)
    ++ codes "\nregisters" ++ longwords state.r

abbrev pub end_text : End → VaxState → (retired : ℕ) → List ℕ
end_text (Exit value) state retired = codes " exit " ++ eight_digits value
end_text (Raised exception) state retired =
    codes " exception " ++ two_digits (vector_of exception) ++ detail_of exception ++ state_text state
end_text Spent state retired = codes " spent retired" ++ (32 ∷ decimal retired) ++ state_text state

-- the lines of a thread that ended so, with that shown state and that count of retired instructions
abbrev pub thread_text : (thread : ℕ) → End → VaxState → (retired : ℕ) → List ℕ
thread_text thread end state retired = codes "thread" ++ (32 ∷ decimal thread) ++ end_text end state retired ++ 10 ∷ []

-- the lines of threads from that number on
abbrev pub report_from : (thread : ℕ) → List (End × VaxState × ℕ) → List ℕ
report_from thread [] = []
report_from thread (p ∷ processors) = thread_text thread p.0 p.1 p.2 ++ report_from (suc thread) processors

-- the lines of all threads, in rising order
abbrev pub report_text : List (End × VaxState × ℕ) → List ℕ
report_text processors = report_from 0 processors
