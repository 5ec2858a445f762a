use Rattle.std.proofs.Common.{◌≡◌, ◌+◌, ap, arith, ◌∙◌}
use Rattle.vax_form.specs.Grammar.{wrapped}
use Rattle.operand_specifiers.proofs.Specifiers.{FitsExtension-from, indexed_none, indexed_reserved, indexed_short, indexed_whole}
use Rattle.operand_specifiers.proofs.spec.indexed.Goals as goal

pub returns-in_default : goal.returns-in_default
returns-in_default c =
    indexed_none c.args.at c.args.size _ c.args.index c.args.bytes.now (c.args.at + 1) (c.in_default.ensures.lookup.3)

pub returns-then-is_reserved_behind_index : goal.returns-then-is_reserved_behind_index
returns-then-is_reserved_behind_index c =
    let get = c.in-Some.ensures.lookup in
    indexed_reserved c.args.at c.args.size _ c.args.index c.args.bytes.now (c.args.at + 1) (c.args.at + 2) c.in-Some.first.now
    c.of-mode.result (get.3.0, get.1) (omega arith) c.of-mode.ensures (cc)

pub returns-in_default-number_behind : goal.returns-in_default-number_behind
returns-in_default-number_behind c =
    let get = c.in-Some.ensures.lookup in
    indexed_short c.args.at c.args.size _ c.args.index c.args.bytes.now (c.args.at + 1) (c.args.at + 2) c.in-Some.first.now
    c.of-mode.result (get.3.0, get.1) (omega arith) c.of-mode.ensures (cc) (cc c.in_default-number_behind.ensures.number)

pub base-base-requires : goal.base-base-requires
base-base-requires c =
    FitsExtension-from c.args.size c.of-mode.result c.in-Some-number_behind.value
    (rw (← c.extension.ensures) c.in-Some-number_behind.ensures.fits)

pub returns : goal.returns
returns c =
    let get = c.in-Some.ensures.lookup in
    indexed_whole c.args.at c.args.size (c.args.origin + c.args.at + 1) c.args.index c.args.bytes.now (c.args.at + 1) (c.args.at + 2)
    c.in-Some.first.now c.of-mode.result (get.3.0, get.1) (omega arith) c.of-mode.ensures c.in-Some-number_behind.value
    c.in-Some-number_behind.count _ _ c.base-base.result _ (cc) (cc c.in-Some-number_behind.ensures.number)
    (c.address_at-from.ensures ∙ ap wrapped (omega arith)) (c.address_at-after.ensures ∙ ap wrapped (omega arith))
    c.base-base.ensures (omega arith)
