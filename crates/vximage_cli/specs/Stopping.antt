-- Why a command stops before it has written anything, and what is then said.
use Rattle.std.specs.Prelude.{◌≡◌, ◌⊎◌, ℕ, List, [], ◌∷◌, ◌++◌, Option, Some, None, codes}
use Rattle.std.specs.Option.{MatchOption}
use Rattle.vt_outside.specs.Desk.{DeskMeaning}
use Rattle.vt_outside.specs.Sink.{SinkMeaning}
use Rattle.vt_outside.specs.Taking.{TookAll, TookSome}
use Rattle.image_parts.specs.Refusal.{judge_of, numbers_of}
use Rattle.image_parts.specs.declared.refusal.Judge.{Judge}
use Rattle.image_parts.specs.declared.refusal.Judge.TheVariants.{OfElf, OfParts, OfImage}
use Rattle.image_parts.specs.declared.refusal.MakeRefusal.{MakeRefusal}
use Rattle.report_text.specs.declared.refused.Subject.{Subject}
use Rattle.report_text.specs.declared.refused.Subject.TheVariants.{Elf, Parts, Image}
use Rattle.vest_files.specs.Stages.{StopsAtFile}
use Rattle.vest_stops.specs.Line as stops
use Rattle.vest_stops.specs.Refusal.{RefusalValue, told}
use Rattle.vest_stops.specs.declared.stop.Stop.{Stop}
use Rattle.vest_stops.specs.declared.stop.Stop.TheVariants.{Absent, ReadFault, TooLong}

-- ---- why
-- at a file, whose name is told
pub record StopsAtNamed (stop : Stop) (named : Option (List ℕ)) (name : List ℕ) (old new : DeskMeaning) : Type 0 where
  pub named_so : named ≡ Some name
  pub at_file : StopsAtFile stop name old new

-- who refuses
abbrev pub subject_of : Judge → Subject
subject_of OfElf = Elf
subject_of OfParts = Parts
subject_of OfImage = Image

-- the refusal is told by its subject and its numbers
abbrev pub IsTold : MakeRefusal → RefusalValue → Type 0
IsTold cause refusal = MatchOption (judge_of cause) ⊥ (λ judge. refusal ≡ told (subject_of judge) (numbers_of cause))

-- ---- what is said
-- a line of `vest`, and the name where the reason is the file
abbrev pub line_of : Stop → (named : Option (List ℕ)) → List ℕ
line_of stop None = stops.line_of stop
line_of Absent (Some name) = codes "absent " ++ name ++ 10 ∷ []
line_of ReadFault (Some name) = codes "read fault " ++ name ++ 10 ∷ []
line_of TooLong (Some name) = codes "too long " ++ name ++ 10 ∷ []
line_of stop (Some name) = stops.line_of stop

-- the report took the text, or failed in it
abbrev pub Says : (text : List ℕ) → (old new : SinkMeaning) → Type 0
Says text old new = TookAll old new text ⊎ TookSome old new text
