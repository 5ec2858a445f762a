-- The meaning of the VAX instructions is sound.
use Rattle.image_meaning.proofs.TreesAt.{tree_at_stays_in_range}
use Rattle.image_meaning.proofs.Moments.{moments_stay_in_range, moment_alone}
use Rattle.image_meaning.proofs.Services.{services_are}
use Rattle.image_meaning.specs.Laws.{VaxMeaningIsSound}

pub vax_meaning_is_sound : VaxMeaningIsSound
vax_meaning_is_sound pages written code = record {
  ranged = λ thread few. tree_at_stays_in_range pages thread code few;
  moments_ranged = λ thread few. moments_stay_in_range pages thread code few;
  moments = λ thread state none. moment_alone pages thread state none;
  serves = λ thread key state. services_are pages thread key state;
}
