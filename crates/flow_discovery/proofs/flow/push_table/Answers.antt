use Rattle.std.proofs.Common.{◌≡◌, ◌∙◌, ◌+◌, ◌*◌, ◌++◌, ◌∷◌, [], ap, arith}
use Rattle.std.specs.List.{filter_map, range_with_len}
use Rattle.std.specs.Option.{option_to_list}
use Rattle.vax_form.specs.Grammar.{wrapped}
use Rattle.flow_discovery.specs.Flow.{table_target}
use Rattle.flow_discovery.proofs.Pushed.{joined, pushed_number}
use Rattle.flow_discovery.proofs.flow.push_table.Goals as goal

pub loop-number-preserved : goal.loop-number-preserved
loop-number-preserved c =
    pushed_number (table_target c.args.pages.now c.args.table) c.loop-number.number c.args.into.now.items c.loop-number.into.items c.push_some.new.into.items c.loop-number.invariant
    (c.in_ok-push_some.ensures ∙ ap (λ o. c.loop-number.into.items ++ option_to_list o) c.table_target.ensures)

pub returns : goal.returns
returns c =
    let all : c.loop-number.number ≡ c.args.count = omega arith in
    let targets = ap (λ n. c.args.into.now.items ++ filter_map (table_target c.args.pages.now c.args.table) (range_with_len 0 n)) all in
    joined c.args.into.now.items (filter_map (table_target c.args.pages.now c.args.table) (range_with_len 0 c.args.count)) (wrapped (c.args.table + 2 * c.args.count) ∷ []) c.loop-number.into.items
    c.push.new.self.items (c.loop-number.invariant ∙ targets) c.in_ok-push.ensures.items
