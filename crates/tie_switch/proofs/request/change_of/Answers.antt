-- A store has its bytes of the quadword.
use Rattle.std.proofs.Common.{◌%◌, lit<}
use Rattle.std.proofs.lemmas.Nat.{mod_below}
use Rattle.alpha_meaning.proofs.Rows.{count_within}
use Rattle.tie_switch.proofs.Masks.{value_fits}
use Rattle.tie_switch.proofs.request.change_of.Goals as goal

pub stored-requires-clause-value : goal.stored-requires-clause-value
stored-requires-clause-value c =
    let a = c.args.access in
    value_fits c.requires.access.bytes a.value (a.address % 8) (mod_below a.address 8 (lit< tt)) c.requires.access.value (count_within c.requires.access.bytes a.address c.requires.aligned)
