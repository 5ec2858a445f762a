-- A translation's points are the same for every target, but for the words at which they stand.
use Rattle.std.proofs.Common.{◌≡◌, ℕ, ◌+◌, refl, sym, ap, ◌∙◌, Bool, true, false, List, [], ◌∷◌, ◌++◌, length, map}
use Rattle.std.specs.Prelude.{if◌then◌else◌, unwrap_or}
use Rattle.std.specs.List.{range_with_len}
use Rattle.vax_form.specs.declared.instr.Instr.{Instr}
use Rattle.vax_form.specs.declared.pages.Pages.{Pages}
use Rattle.exception_records.specs.Points.{Entry}
use Rattle.block_law.specs.Translations.{Code}
use Rattle.address_map.specs.Pairs.{Pair}
use Rattle.branch_layout.specs.Ends.{end_of, placed_size}
use Rattle.branch_layout.specs.Layouts.{Placed, is_small, laid_points, layout, next_address, places, shifted, whole_sizes, words_of}
use Rattle.program_codegen.specs.Calls.{call_block}
use Rattle.program_codegen.specs.Strings.{string_block}
use Rattle.program_codegen.specs.Words.{points_alone}
use Rattle.program_codegen.proofs.Targets.{block_points, call_points, string_points}
use Rattle.code_runs.specs.Codes.{code_sources, codes_at}
use Rattle.code_runs.specs.Runs.{instr_at}
use Rattle.code_runs.specs.declared.codes.InstrCodes.{InstrCodes}
use Rattle.flow_discovery.specs.Mapped.{has_call_block, has_string_block}
use Rattle.flag_codegen.specs.Words.{code_words}
use Rattle.micro_lower.specs.Rows.{program_for}
use Rattle.image_meaning.specs.declared.target.Target.{Target}
use Rattle.translate.specs.Compiled.{HaveLikePoints, block_of, blocks_of, has_byte_word, short_block}
use Rattle.translate.proofs.Alone.{same_mapped}

-- ---- blocks one behind the other
alone_both : (points more : List Entry) → points_alone (points ++ more) ≡ points_alone points ++ points_alone more
alone_both [] more = refl
alone_both (point ∷ points) more = ap (λ ps. point.1 ∷ ps) (alone_both points more)

alone_shifted : (first : ℕ) (points : List Entry) → points_alone (shifted first points) ≡ points_alone points
alone_shifted first [] = refl
alone_shifted first (point ∷ points) = ap (λ ps. point.1 ∷ ps) (alone_shifted first points)

laid_alone : (small : Bool) (mapped : List Pair) (first next : ℕ) (block : Placed) (blocks : List Placed)
    → points_alone (shifted first block.1.points ++ laid_points small mapped next blocks) ≡ points_alone block.1.points ++ points_alone (laid_points small mapped next blocks)
laid_alone small mapped first next block blocks =
    alone_both (shifted first block.1.points) (laid_points small mapped next blocks)
    ∙ ap (λ ps. ps ++ points_alone (laid_points small mapped next blocks)) (alone_shifted first block.1.points)

module _ (target other : Target) (pages : Pages) (instrs : List Instr) where
  -- the blocks of the instructions at these places
  abbrev blocks_at : Target → List ℕ → List Placed
  blocks_at kind places = map (λ place. block_of kind pages (instr_at instrs place) (codes_at instrs place)) places

  one_alike : (place : ℕ)
      → points_alone (block_of target pages (instr_at instrs place) (codes_at instrs place)).1.points ≡ points_alone (block_of other pages (instr_at instrs place) (codes_at instrs place)).1.points
  unfolding block_of
  one_alike place = by (instr_at instrs place) (codes_at instrs place) (has_call_block (instr_at instrs place) pages) (has_string_block (instr_at instrs place))
    where
      by : (instr : Instr) (codes : InstrCodes) (call moves : Bool)
          → points_alone (if call then call_block instr pages codes.before (has_byte_word target) else if moves then string_block instr codes.before (has_byte_word target) else short_block target instr codes).points
          ≡ points_alone (if call then call_block instr pages codes.before (has_byte_word other) else if moves then string_block instr codes.before (has_byte_word other) else short_block other instr codes).points
      by instr codes true moves = call_points instr codes.before (has_byte_word target) (has_byte_word other) pages
      by instr codes false true = string_points instr codes.before (has_byte_word target) (has_byte_word other)
      by instr codes false false =
          block_points instr (code_sources instr) codes.before codes.behind (has_byte_word target) (has_byte_word other) (code_words (code_sources instr) codes.live) (unwrap_or (program_for instr) [])

  -- whatever is near, and wherever they stand
  laid_alike : (small small' : Bool) (mapped mapped' : List Pair) (first first' : ℕ) (places : List ℕ)
      → points_alone (laid_points small mapped first (blocks_at target places)) ≡ points_alone (laid_points small' mapped' first' (blocks_at other places))
  laid_alike small small' mapped mapped' first first' [] = refl
  laid_alike small small' mapped mapped' first first' (place ∷ places) =
      let here = block_of target pages (instr_at instrs place) (codes_at instrs place) in
      let there = block_of other pages (instr_at instrs place) (codes_at instrs place) in
      let next = first + placed_size (end_of small mapped (next_address (blocks_at target places)) here.1) here.1 in
      let next' = first' + placed_size (end_of small' mapped' (next_address (blocks_at other places)) there.1) there.1 in
      laid_alone small mapped first next here (blocks_at target places)
      ∙ (ap (λ ps. ps ++ points_alone (laid_points small mapped next (blocks_at target places))) (one_alike place)
      ∙ (ap (λ ps. points_alone there.1.points ++ ps) (laid_alike small small' mapped mapped' next next' places)
      ∙ sym (laid_alone small' mapped' first' next' there (blocks_at other places))))

  layout_alike : points_alone (layout (blocks_of target pages instrs)).points ≡ points_alone (layout (blocks_of other pages instrs)).points
  unfolding layout
  layout_alike =
      laid_alike (is_small (words_of (whole_sizes (blocks_of target pages instrs)))) (is_small (words_of (whole_sizes (blocks_of other pages instrs))))
      (places 0 (whole_sizes (blocks_of target pages instrs))) (places 0 (whole_sizes (blocks_of other pages instrs))) 0 0 (range_with_len 0 (length instrs))

pub have_like_points : HaveLikePoints
have_like_points target other pages starts a b is is' =
    ap (λ (code : Code). points_alone code.points) is.made.laid
    ∙ (layout_alike target other pages is.instrs
    ∙ (ap (λ (instrs : List Instr). points_alone (layout (blocks_of other pages instrs)).points) (same_mapped target other pages starts a b is is')
    ∙ ap (λ (code : Code). points_alone code.points) (sym is'.made.laid)))
