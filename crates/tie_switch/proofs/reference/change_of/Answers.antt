-- A write stands within its quadword.
use Rattle.std.proofs.Common.{◌%◌, subst, lit<}
use Rattle.std.proofs.lemmas.Nat.{mod_below}
use Rattle.memory_core.specs.Changes.{IsInRange}
use Rattle.system_model.specs.Quadwords.{change_by}
use Rattle.vax_form.specs.declared.state.RefKind.{RefKind}
use Rattle.tie_switch.proofs.Masks.{mask_within}
use Rattle.tie_switch.proofs.reference.change_of.Goals as goal

pub stored-requires-clause-within : goal.stored-requires-clause-within
stored-requires-clause-within c =
    let r = c.args.reference.now in
    let range = subst (λ (k : RefKind). IsInRange (change_by k (r.address % 8) r.count)) c.in-Write.is c.requires.range in
    mask_within (r.address % 8) r.count (mod_below r.address 8 (lit< tt)) range.0
