-- The listing is of a translation whose blocks lie within its words.
use Rattle.vest_files.proofs.Sizes.{blocks_within}
use Rattle.vest_files.proofs.listing.list_file.Goals as goal

pub listing_of-requires : goal.listing_of-requires
listing_of-requires g c = blocks_within _ _ _ c.in_ok-loaded.ensures.meets
