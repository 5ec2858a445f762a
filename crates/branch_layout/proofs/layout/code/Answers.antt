use Rattle.std.proofs.Common.{◌≡◌, ◌+◌, ◌^◌, ◌<◌, ◌++◌, ◌∙◌, refl, arith, rules, ap, sym, subst, Some, None, Option, length, length-append, map, drop, get_or, List}
use Rattle.std.specs.Prelude.{slice_get, All}
use Rattle.std.proofs.lemmas.List.{length-map}
use Rattle.std.proofs.lemmas.Option.{slice_get-get_or, get_or_from_slice_get}
use Rattle.alpha_encode.specs.Words.{IsEncodable, word_of}
use Rattle.alpha_encode.specs.declared.instr.AlphaInstr.{AlphaInstr}
use Rattle.exception_records.specs.Blocks.{BlockValue}
use Rattle.branch_layout.specs.Ends.{end_of, placed_size}
use Rattle.branch_layout.specs.Layouts.{laid_points, next_address, placed_words}
use Rattle.branch_layout.specs.declared.ends.End.{End}
use Rattle.branch_layout.proofs.Building.{first_next, its_made, points_next, start_within, words_next}
use Rattle.branch_layout.proofs.Laid.{targets_few, whole_few}
use Rattle.branch_layout.proofs.Sizes.{room_at}
use Rattle.branch_layout.proofs.Standing.{points_within}
use Rattle.branch_layout.proofs.layout.code.Goals as goal

pub overflow_cast-first : goal.overflow_cast-first
overflow_cast-first c =
    let bs = c.args.blocks.now in
    let i = c.loop-place.place in
    let r = c.index-blocks-place.result in
    let b = get_or bs i r in
    let at : slice_get bs i ≡ Some b = slice_get-get_or bs i r c.loop-place-test.true in
    let first : c.len-first.result ≡ length c.loop-place.words.items = search rules in
    let room = room_at c.args.small c.args.mapped.now bs c.requires.blocks i b at in
    let all = whole_few bs c.requires.blocks c.requires.few in
    let so_far = c.loop-place.invariant.first in
    let low : c.len-first.result < 2 ^ 32 = omega arith in
    search rules

pub placed_words-requires-clause-within : goal.placed_words-requires-clause-within
placed_words-requires-clause-within c =
    let bs = c.args.blocks.now in
    let i = c.loop-place.place in
    let r = c.index-blocks-place.result in
    let b = get_or bs i r in
    let at : slice_get bs i ≡ Some b = slice_get-get_or bs i r c.loop-place-test.true in
    let first : c.len-first.result ≡ length c.loop-place.words.items = search rules in
    let room = room_at c.args.small c.args.mapped.now bs c.requires.blocks i b at in
    let all = whole_few bs c.requires.blocks c.requires.few in
    let so_far = c.loop-place.invariant.first in
    omega arith

pub placed_words-requires-clause-targets : goal.placed_words-requires-clause-targets
placed_words-requires-clause-targets c =
    rw (c.requires.places, c.requires.mapped, c.requires.small) (targets_few c.args.blocks.now c.requires.blocks c.requires.rising c.requires.few)

pub placed_words-requires-clause-block : goal.placed_words-requires-clause-block
placed_words-requires-clause-block c =
    let own = c.requires.blocks c.loop-place.place c.index-blocks-place.result c.loop-place-test.true in
    ((get_or c.args.blocks.now c.loop-place.place c.index-blocks-place.result).0, own)

pub placed_words-requires-clause-start : goal.placed_words-requires-clause-start
placed_words-requires-clause-start c =
    let bs = c.args.blocks.now in
    let i = c.loop-place.place in
    let r = c.index-blocks-place.result in
    let b = get_or bs i r in
    let at : slice_get bs i ≡ Some b = slice_get-get_or bs i r c.loop-place-test.true in
    let told = c.requires.ends.each i b c.loop-place-test.true at in
    start_within c.args.small c.args.mapped.now (next_address (drop (i + 1) bs)) b.1 (get_or c.args.ends.now i None) (get_or_from_slice_get c.args.ends.now i _ None told)

pub bounds-ends-place : goal.bounds-ends-place
bounds-ends-place c = rw c.requires.ends.counted c.loop-place-test.true

pub append_words-requires : goal.append_words-requires
append_words-requires c =
    let bs = c.args.blocks.now in
    let i = c.loop-place.place in
    let r = c.index-blocks-place.result in
    let b = get_or bs i r in
    let at : slice_get bs i ≡ Some b = slice_get-get_or bs i r c.loop-place-test.true in
    let first : c.len-first.result ≡ length c.loop-place.words.items = search rules in
    let told = c.requires.ends.each i b c.loop-place-test.true at in
    let ends = get_or_from_slice_get c.args.ends.now i _ None told in
    let known = its_made bs c.requires.blocks c.requires.rising c.requires.few c.args.small c.args.mapped.now c.args.map.now c.requires.small c.requires.mapped c.requires.places i b at c.len-first.result (first ∙ c.loop-place.invariant.first) (get_or c.args.ends.now i None) ends in
    let instrs : c.as_slice.result.now ≡ placed_words c.args.map.now c.len-first.result (get_or c.args.ends.now i None) b.1 = c.as_slice.ensures.value ∙ c.in_ok-placed_words.ensures in
    subst (λ (is : List AlphaInstr). All IsEncodable is) (sym instrs) known.encodable

pub append_points-requires : goal.append_points-requires
append_points-requires c =
    let bs = c.args.blocks.now in
    let i = c.loop-place.place in
    let r = c.index-blocks-place.result in
    let b = get_or bs i r in
    let at : slice_get bs i ≡ Some b = slice_get-get_or bs i r c.loop-place-test.true in
    let first : c.len-first.result ≡ length c.loop-place.words.items = search rules in
    let room = room_at c.args.small c.args.mapped.now bs c.requires.blocks i b at in
    let all = whole_few bs c.requires.blocks c.requires.few in
    let so_far = c.loop-place.invariant.first in
    let own = c.requires.blocks i r c.loop-place-test.true in
    let points : c.as_slice-in-loop-place.result.now ≡ b.1.points = c.as_slice-in-loop-place.ensures.value ∙ ap (λ (v : BlockValue). v.points) c.block.view_is in
    rw points (λ j d lt. let inside = points_within own.0 b.0 b.1 own.1 j d lt in omega arith)

pub loop-place-preserved : goal.loop-place-preserved
loop-place-preserved c =
    let bs = c.args.blocks.now in
    let i = c.loop-place.place in
    let r = c.index-blocks-place.result in
    let b = get_or bs i r in
    let at : slice_get bs i ≡ Some b = slice_get-get_or bs i r c.loop-place-test.true in
    let first : c.len-first.result ≡ length c.loop-place.words.items = search rules in
    let told = c.requires.ends.each i b c.loop-place-test.true at in
    let ends = get_or_from_slice_get c.args.ends.now i _ None told in
    let known = its_made bs c.requires.blocks c.requires.rising c.requires.few c.args.small c.args.mapped.now c.args.map.now c.requires.small c.requires.mapped c.requires.places i b at c.len-first.result (first ∙ c.loop-place.invariant.first) (get_or c.args.ends.now i None) ends in
    let instrs : c.as_slice.result.now ≡ placed_words c.args.map.now c.len-first.result (get_or c.args.ends.now i None) b.1 = c.as_slice.ensures.value ∙ c.in_ok-placed_words.ensures in
    let of_end : placed_words c.args.map.now c.len-first.result (get_or c.args.ends.now i None) b.1 ≡ placed_words c.args.map.now c.len-first.result (end_of c.args.small c.args.mapped.now (next_address (drop (i + 1) bs)) b.1) b.1 = ap (λ (o : Option End). placed_words c.args.map.now c.len-first.result o b.1) ends in
    let count : length (placed_words c.args.map.now c.len-first.result (end_of c.args.small c.args.mapped.now (next_address (drop (i + 1) bs)) b.1) b.1) ≡ placed_size (end_of c.args.small c.args.mapped.now (next_address (drop (i + 1) bs)) b.1) b.1 =
    sym (ap length of_end) ∙ known.count ∙ ap (λ (o : Option End). placed_size o b.1) ends
    in
    let words = c.in_ok-append_words.ensures in
    let many = ap length words ∙ length-append c.loop-place.words.items (map word_of c.as_slice.result.now) in
    let mapped_many = length-map c.as_slice.result.now word_of in
    let instr_count = ap length (instrs ∙ of_end) in
    let next_first : length c.append_words.new.words.items ≡ c.len-first.result + placed_size (end_of c.args.small c.args.mapped.now (next_address (drop (i + 1) bs)) b.1) b.1 = omega arith in
    let points : c.as_slice-in-loop-place.result.now ≡ b.1.points = c.as_slice-in-loop-place.ensures.value ∙ ap (λ (v : BlockValue). v.points) c.block.view_is in
    let in_list = c.loop-place-test.true in
    record {
      within = omega arith;
      first = next_first ∙ first_next c.args.small c.args.mapped.now bs i b at c.len-first.result (placed_size (end_of c.args.small c.args.mapped.now (next_address (drop (i + 1) bs)) b.1) b.1) (first ∙ c.loop-place.invariant.first) refl;
      words_are = words_next c.args.small c.args.mapped.now bs i b at c.args.map.now c.loop-place.words.items c.append_words.new.words.items _ c.len-first.result c.as_slice.result.now first count (instrs ∙ of_end) words c.loop-place.invariant.words_are;
      points_are = points_next c.args.small c.args.mapped.now bs i b at c.loop-place.points.items c.append_points.new.points.items c.as_slice-in-loop-place.result.now _ c.len-first.result (length c.append_words.new.words.items) points c.in_ok-append_points.ensures next_first
          (subst (λ n. c.loop-place.points.items ++ laid_points c.args.small c.args.mapped.now n (drop i bs) ≡ laid_points c.args.small c.args.mapped.now 0 bs) (sym first) c.loop-place.invariant.points_are);
    }
