use Rattle.std.proofs.Common.{◌≡◌, ◌+◌, ap, arith, ◌∙◌}
use Rattle.vax_form.specs.Grammar.{wrapped}
use Rattle.operand_specifiers.proofs.Specifiers.{FitsExtension-from, general_index, general_none, general_reserved, general_short, general_whole}
use Rattle.operand_specifiers.proofs.spec.specifier.Goals as goal

pub returns-in_default : goal.returns-in_default
returns-in_default c = general_none c.args.at c.args.access c.args.size _ c.args.bytes.now c.in_default.ensures.lookup.3

pub returns-in-Index : goal.returns-in-Index
returns-in-Index c =
    let get = c.in-Some.ensures.lookup in
    c.indexed.ensures
    ∙ general_index c.args.at c.args.access c.args.size (c.args.origin + c.args.at) c.args.bytes.now c.in-Some.first.now
    c.of-mode.result (get.3.0, get.1) c.of-mode.ensures c.in-Index.is

pub returns-then-is_reserved : goal.returns-then-is_reserved
returns-then-is_reserved c =
    let get = c.in-Some.ensures.lookup in
    general_reserved c.args.at c.args.access c.args.size _ c.args.bytes.now c.in-Some.first.now c.of-mode.result
    (get.3.0, get.1) c.of-mode.ensures c.in_default-mode.not-Index (cc)

pub returns-in_default-number_behind : goal.returns-in_default-number_behind
returns-in_default-number_behind c =
    let get = c.in-Some.ensures.lookup in
    general_short c.args.at c.args.access c.args.size _ c.args.bytes.now c.in-Some.first.now c.of-mode.result
    (get.3.0, get.1) c.of-mode.ensures c.in_default-mode.not-Index (cc) (cc c.in_default-number_behind.ensures.number)

pub operand-requires : goal.operand-requires
operand-requires c =
    FitsExtension-from c.args.size c.of-mode.result c.in-Some-number_behind.value
    (rw (← c.extension.ensures) c.in-Some-number_behind.ensures.fits)

pub returns : goal.returns
returns c =
    let get = c.in-Some.ensures.lookup in
    general_whole c.args.at c.args.access c.args.size (c.args.origin + c.args.at) c.args.bytes.now c.in-Some.first.now
    c.of-mode.result (get.3.0, get.1) c.of-mode.ensures c.in-Some-number_behind.value c.in-Some-number_behind.count _ _
    c.operand.result _ c.in_default-mode.not-Index (cc) (cc c.in-Some-number_behind.ensures.number)
    (c.address_at-from.ensures ∙ ap wrapped (omega arith)) (c.address_at-after.ensures ∙ ap wrapped (omega arith))
    c.operand.ensures (omega arith)
