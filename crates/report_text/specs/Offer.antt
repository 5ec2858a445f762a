-- Lines that are offered to a sink.
use Rattle.std.specs.Prelude.{ℕ, List}
use Rattle.vt_outside.specs.Sink.{SinkMeaning}
use Rattle.vt_outside.specs.Taking.{TookAll, TookSome}
use Rattle.report_text.specs.declared.threads.Offered.{Offered}
use Rattle.report_text.specs.declared.threads.Offered.TheVariants.{Written, Failed}

-- they were taken whole, or a call of the sink failed behind a part of them
abbrev pub Offers : Offered → (old new : SinkMeaning) → (text : List ℕ) → Type 0
Offers Written old new text = TookAll old new text
Offers Failed old new text = TookSome old new text
