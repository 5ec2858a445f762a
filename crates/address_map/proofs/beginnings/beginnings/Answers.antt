use Rattle.std.proofs.Common.{ap, arith, Option}
use Rattle.std.specs.Option.{option_map}
use Rattle.address_map.specs.Pairs.{Pair}
use Rattle.rising_lists.proofs.Lookups.{find_none}
use Rattle.address_map.proofs.beginnings.beginnings.Goals as goal

pub returns : goal.returns
returns c = λ word told. ap (λ (o : Option Pair). option_map (λ (p : Pair). p.0) o)
    (find_none (λ (p : Pair). p.1) c.args.pairs.now word (λ k d h. c.loop-place.invariant word told k d (let past = c.loop-place-test.false in omega arith)))
