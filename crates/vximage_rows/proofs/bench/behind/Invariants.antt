-- What is left is a text.
use denote.Shadow.{shadow}
use denote.Text.{Utf8}
use Rattle.vximage_rows.proofs.bench.behind.Given as goal

abbrev pub invariant-loop-text : goal.invariant-loop-text
invariant-loop-text l = shadow (Utf8 l.rest)
