-- The tree of a service's script is the service.
use Rattle.std.proofs.Common.{refl}
use Rattle.vax_meaning.specs.Control.{serve, put_byte, get_byte, exchange_handler}
use Rattle.image_meaning.specs.Laws.{ServicesAre}

pub services_are : ServicesAre
unfolding serve put_byte get_byte exchange_handler
services_are pages thread code state = refl
