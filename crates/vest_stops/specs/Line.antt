-- The lines that say why a call stopped.
use Rattle.std.specs.Prelude.{ℕ, List, codes}
use Rattle.report_text.specs.Refused.{refused_text}
use Rattle.vest_stops.specs.declared.stop.Stop.{Stop}
use Rattle.vest_stops.specs.declared.stop.Stop.TheVariants.{Absent, Refused, ReadFault, TooLong, WantOfMemory}

abbrev pub line_of : Stop → List ℕ
line_of Absent = codes "absent\n"
line_of (Refused refusal) = refused_text refusal.subject refusal.numbers
line_of ReadFault = codes "read fault\n"
line_of TooLong = codes "too long\n"
line_of WantOfMemory = codes "no memory\n"
