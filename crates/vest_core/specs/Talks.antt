-- One thread that is talked with: where it asks for a byte of the input the source is asked for one, and what it puts goes to the sink.
use Rattle.std.specs.Prelude.{◌≡◌, ◌≤◌, ◌<◌, ◌+◌, ◌++◌, ◌⊎◌, ℕ, true, List, [], ◌∷◌, Option, Some, length, refl, reverse}
use Rattle.std.specs.Io.KnownBytes.{Consumes, IsAtEnd, Keeps}
use Rattle.memory_core.specs.Contents.{output_of}
use Rattle.memory_core.specs.Order.{gets}
use Rattle.memory_core.specs.declared.entry.Entry.{Entry}
use Rattle.memory_core.specs.declared.entry.SetUp.{SetUp}
use Rattle.system_model.specs.Legal.{IsLegal, starts}
use Rattle.system_model.specs.Processors as model
use Rattle.system_model.specs.Settings.{Setting}
use Rattle.tie_switch.specs.Live.{is_spent, next_asks_get}
use Rattle.tie_switch.specs.Processors.{ProcessorValue, StandsFor, processor_of}
use Rattle.tie_switch.specs.Turns.{has_ended}
use Rattle.vax_form.specs.declared.state.VaxState.{VaxState}
use Rattle.vest_core.specs.Progress.{line_of, lines_of}
use Rattle.vest_core.specs.declared.talking.Heard.{Heard}
use Rattle.vest_core.specs.declared.talking.Heard.TheVariants as heard
use Rattle.vest_core.specs.declared.talking.TalkEnd.{TalkEnd}
use Rattle.vest_core.specs.declared.talking.TalkEnd.TheVariants.{Ended, ReadFault, WriteFault, ReportFault}
use Rattle.vt_outside.specs.Causes.{Rose}
use Rattle.vt_outside.specs.Sink.{SinkMeaning}
use Rattle.vt_outside.specs.Source.{SourceMeaning}
use Rattle.vt_outside.specs.Taking.{TookAll, TookSome}

-- ---- one byte of the source
-- what it does to the source to ask it for one
abbrev pub Hears : Heard → (old new : SourceMeaning) → Type 0
Hears (heard.Byte byte) old new = Consumes old.left new.left (byte ∷ []) × (old.faults ≤ new.faults)
Hears heard.End old new = Keeps old.left new.left × IsAtEnd new.left × (old.faults ≤ new.faults)
Hears heard.Failed old new = Keeps old.left new.left × Rose old.faults new.faults

-- ---- what a talk leaves
-- how the processor stands where the talk ended
abbrev pub StandsAt : TalkEnd → Setting → (budget : ℕ) → ProcessorValue → model.Processor → (source source' : SourceMeaning) → Type 0
StandsAt Ended setting budget k p source source' = has_ended (processor_of k).mode ≡ true
StandsAt ReadFault setting budget k p source source' = (next_asks_get setting budget p ≡ true) × Rose source.faults source'.faults
StandsAt WriteFault setting budget k p source source' = Unit {0}
StandsAt ReportFault setting budget k p source source' = Unit {0}

-- the sink took all that was put, or failed in it
abbrev pub Sends : TalkEnd → (output : List ℕ) → (sink sink' : SinkMeaning) → Type 0
Sends Ended output sink sink' = TookAll sink sink' output
Sends ReadFault output sink sink' = TookAll sink sink' output
Sends WriteFault output sink sink' = TookSome sink sink' output
Sends ReportFault output sink sink' = TookAll sink sink' output

-- the report took these lines, or a part of them and failed. Where a write failed it may lack one that was due just there
abbrev pub Tells : TalkEnd → model.Processor → (lines : List ℕ) → (report report' : SinkMeaning) → Type 0
Tells Ended p lines report report' = TookAll report report' lines
Tells ReadFault p lines report report' = TookAll report report' lines
Tells WriteFault p lines report report' =
    TookAll report report' lines ⊎ ((before : List ℕ) × (lines ≡ before ++ line_of p) × TookAll report report' before)
Tells ReportFault p lines report report' = TookSome report report' lines

-- the talk may have ended between a byte that was given and the turn that asks for it
abbrev pub EndsBetween : TalkEnd → Type 0
EndsBetween Ended = ⊥
EndsBetween ReadFault = ⊥
EndsBetween WriteFault = Unit {0}
EndsBetween ReportFault = Unit {0}

-- each byte of the input was asked for, or the last one is, by the next turn
abbrev pub AreAsked : TalkEnd → Setting → (budget : ℕ) → model.Processor → (input : List ℕ) → List Entry → Type 0
AreAsked end setting budget p input history =
    (length input ≤ gets (reverse history))
    ⊎ (EndsBetween end × (length input ≡ gets (reverse history) + 1) × (next_asks_get setting budget p ≡ true))

-- the thread of an image, from its start, and its history, oldest first
pub record HasTalked (end : TalkEnd) (setting : Setting) (of : SetUp) (budget : ℕ) (history : List Entry) (k : ProcessorValue)
    (source source' : SourceMeaning) (sink sink' : SinkMeaning) (every : Option ℕ) (report report' : SinkMeaning) : Type 0 where
  -- its processor stands for one of the model that is a legal run up to here
  pub processor : model.Processor
  pub stands : StandsFor setting.meaning.pages k processor
  pub legal : IsLegal setting of budget (reverse history) (processor ∷ [])
  pub spent : is_spent (processor_of k).mode ≡ true → k.steps ≡ budget
  pub stands_at : StandsAt end setting budget k processor source source'
  -- the input is what the source gave, one byte each time that the thread asked for one, and it asked for more only at the end
  pub given : Consumes source.left source'.left of.input
  pub asked : AreAsked end setting budget processor of.input history
  pub behind : length of.input < gets (reverse history) → IsAtEnd source'.left
  pub sent : Sends end (output_of history) sink sink'
  -- the report took the lines of all steps that it made from its start
  pub start : VaxState
  pub first : starts of.image 0 ≡ Some start
  pub told : Tells end processor (lines_of every (legal.each 0 start processor first refl).reaches) report report'
