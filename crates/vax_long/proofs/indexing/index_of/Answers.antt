-- A product's low bits are those of its factors.
use Rattle.std.proofs.Common.{◌+◌, ◌^◌}
use Rattle.std.proofs.lemmas.Nat.{mul-mod_first}
use Rattle.vax_long.proofs.indexing.index_of.Goals as goal

pub returns : goal.returns
returns c = mul-mod_first (c.args.sum + c.args.subscript) c.args.size (2 ^ 32)
