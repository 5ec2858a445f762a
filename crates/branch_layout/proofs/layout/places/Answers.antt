use Rattle.std.proofs.Common.{◌≡◌, ◌+◌, ◌<◌, ◌≤◌, ◌∙◌, arith, rules, ap, subst, Some, None, Option, length, get_or}
use Rattle.std.specs.Prelude.{IfSome, slice_get, drop}
use Rattle.std.proofs.lemmas.Option.{slice_get-get_or, get_or_from_slice_get}
use Rattle.branch_layout.specs.Ends.{placed_size}
use Rattle.branch_layout.specs.Layouts.{AreEnds, next_address}
use Rattle.branch_layout.specs.declared.ends.End.{End}
use Rattle.branch_layout.proofs.Building.{ends_next, places_next, size_within}
use Rattle.branch_layout.proofs.layout.places.Goals as goal

pub placed_size-first-requires-clause-start : goal.placed_size-first-requires-clause-start
placed_size-first-requires-clause-start c =
    let bs = c.args.blocks.now in
    let i = c.loop-place.place in
    let r = c.index-blocks-place-in-loop-place.result in
    let b = get_or bs i r in
    let at : slice_get bs i ≡ Some b = slice_get-get_or bs i r c.loop-place-test.true in
    let few = (c.requires.blocks i r c.loop-place-test.true).1.tidy.few in
    weaker c.end_at-end.result (length b.1.words) few (c.end_at-end.ensures.start b at)
  where
    weaker : (o : Option End) (n : _) → n ≤ 256 → IfSome o (λ (end : End). end.start < n) → IfSome o (λ (end : End). end.start ≤ 256)
    weaker None n le h = h
    weaker (Some end) n le h = omega arith

pub placed_size-first-requires-clause-few : goal.placed_size-first-requires-clause-few
placed_size-first-requires-clause-few c = (c.requires.blocks c.loop-place.place c.index-blocks-place-in-loop-place.result c.loop-place-test.true).1.tidy.few

pub overflow_add-first : goal.overflow_add-first
overflow_add-first c =
    let bs = c.args.blocks.now in
    let i = c.loop-place.place in
    let r = c.index-blocks-place-in-loop-place.result in
    let b = get_or bs i r in
    let at : slice_get bs i ≡ Some b = slice_get-get_or bs i r c.loop-place-test.true in
    let own = c.requires.blocks i r c.loop-place-test.true in
    let few = own.1.tidy.few in
    let low = c.loop-place.invariant.low in
    let many = c.requires.few in
    let in_list = c.loop-place-test.true in
    let added = c.placed_size-first.ensures ∙ ap (λ (o : Option End). placed_size o b.1) (c.end_at-end.ensures.end b at) in
    let within = size_within c.args.small c.args.mapped.now (next_address (drop (i + 1) bs)) b own in
    let small : c.loop-place.first + c.placed_size-first.result < 4294967296 = omega arith in
    search rules

pub loop-place-preserved : goal.loop-place-preserved
loop-place-preserved c =
    let bs = c.args.blocks.now in
    let i = c.loop-place.place in
    let r = c.index-blocks-place-in-loop-place.result in
    let b = get_or bs i r in
    let at : slice_get bs i ≡ Some b = slice_get-get_or bs i r c.loop-place-test.true in
    let own = c.requires.blocks i r c.loop-place-test.true in
    let few = own.1.tidy.few in
    let low = c.loop-place.invariant.low in
    let in_list = c.loop-place-test.true in
    let added = c.placed_size-first.ensures ∙ ap (λ (o : Option End). placed_size o b.1) (c.end_at-end.ensures.end b at) in
    let within = size_within c.args.small c.args.mapped.now (next_address (drop (i + 1) bs)) b own in
    record {
      within = omega arith;
      pairs = places_next c.args.small c.args.mapped.now bs i b at c.loop-place.places.items c.push.new.self.items _ c.loop-place.first c.placed_size-first.result (rw (get_or_from_slice_get bs i b c.index-blocks-place.result at) at c.in_ok-push.ensures.items) added c.loop-place.invariant.pairs;
      ends = ends_next c.args.small c.args.mapped.now bs i b c.loop-place.ends.items c.push-in-loop-place.new.self.items c.end_at-end.result at c.in_ok-push-2.ensures.items (c.end_at-end.ensures.end b at) c.loop-place.invariant.ends;
      low = omega arith;
    }

pub returns-clause-ends : goal.returns-clause-ends
returns-clause-ends c =
    let many : c.loop-place.place ≡ length c.args.blocks.now = omega arith in
    subst (λ n. AreEnds c.args.small c.args.mapped.now c.args.blocks.now n c.loop-place.ends.items) many c.loop-place.invariant.ends
