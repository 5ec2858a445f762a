use Rattle.std.proofs.Common.{◌∙◌, List, ap, refl, sym, subst, get_or, arith}
use Rattle.std.proofs.lemmas.Result.{IfOk-weaker}
use Rattle.std.specs.Prelude.{IfOk}
use Rattle.branch_layout.specs.Layouts.{Placed, layout}
use Rattle.code_runs.specs.Runs.{AreInOrder}
use Rattle.code_runs.specs.Codes.{instruction_codes}
use Rattle.code_runs.proofs.Along.{are_codes}
use Rattle.code_runs.proofs.Meeting.{rules_always_meet}
use Rattle.translate.specs.Compiled.{AreCompiled, CanBeLaid, IsLaidOut}
use Rattle.translate.proofs.Above.{goes_on_above, is_spelled}
use Rattle.translate.proofs.Asked.{can_have_blocks}
use Rattle.translate.proofs.Meeting.{its_rules, meets}
use Rattle.translate.proofs.Placing.{are_blocks, are_of, blocks_rise, map_addresses}
use Rattle.translate.proofs.translate_instrs.Goals as goal

pub compiled-requires-clause-order : goal.compiled-requires-clause-order
compiled-requires-clause-order c = record {
  rising = c.requires.rising;
  onward = λ k d lt. goes_on_above c.args.pages.now (get_or c.args.instrs.now k d) c.pages_law.ensures (c.requires.longwords k d lt) (c.requires.found k d lt);
}

pub compiled-requires-clause-spelled : goal.compiled-requires-clause-spelled
compiled-requires-clause-spelled c = λ k d lt. is_spelled c.args.pages.now (get_or c.args.instrs.now k d) c.pages_law.ensures (c.requires.found k d lt)

pub laid_out-requires : goal.laid_out-requires
laid_out-requires c =
    let order : AreInOrder c.args.instrs.now = record {
      rising = c.requires.rising;
      onward = λ k d lt. goes_on_above c.args.pages.now (get_or c.args.instrs.now k d) c.pages_law.ensures (c.requires.longwords k d lt) (c.requires.found k d lt);
    } in
    let are = c.in_ok-blocks.ensures in
    let blocks = c.in_ok-blocks.blocks.items in
    let many = are.many in
    let few = c.requires.few in
    subst CanBeLaid (sym c.deref.ensures.value)
    (record { few = omega arith; rising = blocks_rise c.args.target c.args.pages.now c.args.instrs.now blocks are order; are_blocks = are_blocks c.args.target c.args.pages.now c.args.instrs.now blocks are })

pub returns-clause-meets : goal.returns-clause-meets
returns-clause-meets c =
    let instrs = c.args.instrs.now in
    let order : AreInOrder instrs = record {
      rising = c.requires.rising;
      onward = λ k d lt. goes_on_above c.args.pages.now (get_or instrs k d) c.pages_law.ensures (c.requires.longwords k d lt) (c.requires.found k d lt);
    } in
    let blocks = c.in_ok-blocks.blocks.items in
    IfOk-weaker c.laid_out.result (IsLaidOut blocks) _
    (λ code laid. meets c.args.target c.args.pages.now instrs blocks code c.in_ok-blocks.ensures laid.laid c.requires.found c.requires.longwords c.pages_law.ensures (rules_always_meet instrs order (can_have_blocks c.args.pages.now instrs c.requires.built)))
    (subst (λ (bs : List Placed). IfOk c.laid_out.result (IsLaidOut bs)) c.deref.ensures.value c.laid_out.ensures)

pub returns-clause-mapped : goal.returns-clause-mapped
returns-clause-mapped c =
    let blocks = c.in_ok-blocks.blocks.items in
    IfOk-weaker c.laid_out.result (IsLaidOut blocks) _
    (λ code laid. laid.laid.addresses ∙ map_addresses c.args.target c.args.pages.now c.args.instrs.now blocks c.in_ok-blocks.ensures)
    (subst (λ (bs : List Placed). IfOk c.laid_out.result (IsLaidOut bs)) c.deref.ensures.value c.laid_out.ensures)

pub returns-clause-blocks : goal.returns-clause-blocks
returns-clause-blocks c =
    let instrs = c.args.instrs.now in
    let order : AreInOrder instrs = record {
      rising = c.requires.rising;
      onward = λ k d lt. goes_on_above c.args.pages.now (get_or instrs k d) c.pages_law.ensures (c.requires.longwords k d lt) (c.requires.found k d lt);
    } in
    let blocks = c.in_ok-blocks.blocks.items in
    IfOk-weaker c.laid_out.result (IsLaidOut blocks) _
    (λ code laid. record {
      order = order;
      codes = are_codes instrs order (instruction_codes instrs) refl;
      compiled = subst (AreCompiled c.args.target c.args.pages.now instrs) (are_of c.args.target c.args.pages.now instrs blocks c.in_ok-blocks.ensures) c.in_ok-blocks.ensures;
      rules = its_rules c.args.target c.args.pages.now instrs blocks code c.in_ok-blocks.ensures laid.laid c.requires.found c.requires.longwords c.pages_law.ensures (rules_always_meet instrs order (can_have_blocks c.args.pages.now instrs c.requires.built));
      laid = laid.value ∙ ap layout (are_of c.args.target c.args.pages.now instrs blocks c.in_ok-blocks.ensures);
    })
    (subst (λ (bs : List Placed). IfOk c.laid_out.result (IsLaidOut bs)) c.deref.ensures.value c.laid_out.ensures)
