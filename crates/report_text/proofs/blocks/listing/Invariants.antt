use Rattle.std.proofs.Common.{◌≡◌, ◌++◌, drop}
use Rattle.report_text.specs.Listing.{listing_text}
use Rattle.report_text.proofs.blocks.listing.Given as goal

abbrev pub invariant-loop-place : goal.invariant-loop-place
invariant-loop-place l = l.text.items ++ listing_text l.words (drop l.place l.pairs) ≡ listing_text l.words l.pairs
