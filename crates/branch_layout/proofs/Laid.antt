-- The code of blocks: where each stands, with its points, and that it does there what it does anywhere.
use Rattle.std.proofs.Common.{◌≡◌, ℕ, zero, suc, ◌+◌, ◌-◌, ◌*◌, ◌^◌, ◌<◌, ◌≤◌, ◌++◌, refl, sym, ◌∙◌, ap, subst, arith, add-zero, zero-add, append_assoc, eqb-true, List, [], ◌∷◌, length, length-append, map, take, drop, get_or, All, Bool, true, false, Option, Some, None}
use Rattle.std.specs.Prelude.{nat_le, slice_get, IfSome}
use Rattle.std.specs.Option.{is_some}
use Rattle.std.proofs.lemmas.Bool.{and_parts}
use Rattle.std.proofs.lemmas.Bool.Decides.{nat_tests}
use Rattle.std.proofs.lemmas.List.{length-map}
use Rattle.std.proofs.lemmas.List.Sums.{sum_by-cons, sum_by_more}
use Rattle.std.proofs.lemmas.Option.{slice_get-get_or, slice_get_within, get_or_from_slice_get}
use Rattle.vax_form.specs.declared.state.Flags.{Flags}
use Rattle.vax_form.specs.declared.state.VaxState.{VaxState}
use Rattle.alpha_encode.specs.Words.{IsEncodable, word_of}
use Rattle.alpha_encode.specs.declared.instr.AlphaInstr.{AlphaInstr}
use Rattle.alpha_meaning.specs.Pieces.{HasAt, most_words}
use Rattle.address_map.specs.Pairs.{Pair, AllRise, address_at, word_at}
use Rattle.exception_records.specs.Blocks.{BlockValue}
use Rattle.exception_records.specs.Points.{Entry, WordsRise, point_at}
use Rattle.exception_records.specs.declared.rules.Rules.{Rules}
use Rattle.block_law.specs.Blocks.{ExitsLead, IsBlockOf, IsExitOf, IsLaid, RulesAt, RulesMeet, Stands}
use Rattle.block_law.specs.Follows.{LeadsTo}
use Rattle.block_law.specs.Translations.{Meaning, Permit, Code, IsBlock, end_of as code_end, fetch_of, has_loop, placed}
use Rattle.block_law.proofs.Laid.{has_each, is_block}
use Rattle.branch_layout.specs.Exits.{code_to, exit_code, is_near}
use Rattle.branch_layout.specs.Ends.{end_of, is_next, placed_size}
use Rattle.branch_layout.specs.Layouts.{AddressesRise, AreBlocks, FollowsAnywhere, IsInPlace, IsLayout, IsPlaced, Placed, Sized, filled_words, is_small, laid_points, laid_words, layout, layout_by, next_address, placed_sizes, placed_words, places, shifted, whole_sizes, words_of}
use Rattle.branch_layout.specs.declared.ends.End.{End}
use Rattle.branch_layout.proofs.Ended.{ended_block}
use Rattle.branch_layout.proofs.Ending.{end_is}
use Rattle.branch_layout.proofs.Filled.{is_filled}
use Rattle.branch_layout.proofs.Filling.{All_at, has_by, some_same}
use Rattle.branch_layout.proofs.InPlace.{IsSet, IsTarget}
use Rattle.branch_layout.proofs.Leads.{near_leads, far_leads, none_leads}
use Rattle.branch_layout.proofs.Places.{size, places_rise, mapped, starts, placed_of, behind, alone, words_below}
use Rattle.branch_layout.proofs.Sizes.{AreNear, all_some, end_before, end_facts, ended_encodable, ended_length, mapped_alike, room_at, same_addresses, size_facts, sized_at, sizes_length, sizes_rise, words_fewer}
use Rattle.branch_layout.proofs.Standing.{fetch_back, fetch_front, get_shifted, points_back, points_front, rise_more, shifted_find, shifted_length}

-- ---- the words of one block
-- as many as its end has; all with encodings
pub record AreMade (pairs : List Pair) (first : ℕ) (end : Option End) (block : BlockValue) : Type 0 where
  pub count : length (placed_words pairs first end block) ≡ placed_size end block
  pub encodable : All IsEncodable (placed_words pairs first end block)

pub are_made : (loops : Bool) (address : ℕ) (small : Bool) (mapped pairs : List Pair) (next : Option ℕ) (first : ℕ) (block : BlockValue) → IsBlockOf loops address block → AreNear small mapped pairs (first + placed_size (end_of small mapped next block) block) → AreMade pairs first (end_of small mapped next block) block
are_made loops address small mapped pairs next first block of near = by (end_of small mapped next block) refl near
  where
    by : (o : Option End) → end_of small mapped next block ≡ o → AreNear small mapped pairs (first + placed_size o block) → AreMade pairs first o block
    by None e near = let f = is_filled pairs first loops address block of in record { count = f.like.count; encodable = f.encodable }
    by (Some end) e near =
        let is = end_is small mapped next block end e in
        let room = (end_facts small mapped next block end is).room in
        record { count = ended_length pairs first block end (omega arith); encodable = ended_encodable loops address small mapped pairs next first block end of is near }

-- ---- words and points of blocks
module _ (small : Bool) (mapped pairs : List Pair) where
  -- what stands before a block's words, its words, and what stands behind them
  pub record AreParted (f : ℕ) (blocks : List Placed) (i : ℕ) (b : Placed) : Type 0 where
    pub front : List ℕ
    pub back : List ℕ
    pub are : laid_words small mapped pairs f blocks ≡ front ++ (map word_of (placed_words pairs (f + words_of (take i (placed_sizes small mapped blocks))) (end_before small mapped (drop (suc i) blocks) b.1) b.1) ++ back)
    pub count : length front ≡ words_of (take i (placed_sizes small mapped blocks))

  abbrev pub AllMade : (f : ℕ) → List Placed → Type 0
  AllMade f blocks = (i : ℕ) (b : Placed) → slice_get blocks i ≡ Some b → AreMade pairs (f + words_of (take i (placed_sizes small mapped blocks))) (end_before small mapped (drop (suc i) blocks) b.1) b.1

  -- those of the blocks behind the first
  later_made : (f : ℕ) (x : Placed) (blocks : List Placed) → AllMade f (x ∷ blocks) → AllMade (f + placed_size (end_before small mapped blocks x.1) x.1) blocks
  later_made f x blocks made i b at =
      let sum = sum_by-cons (λ (s : Sized). s.1) (x.0, placed_size (end_before small mapped blocks x.1) x.1) (take i (placed_sizes small mapped blocks)) in
      let there : f + words_of (take (suc i) (placed_sizes small mapped (x ∷ blocks))) ≡ f + placed_size (end_before small mapped blocks x.1) x.1 + words_of (take i (placed_sizes small mapped blocks)) = omega arith in
      subst (λ n. AreMade pairs n (end_before small mapped (drop (suc i) blocks) b.1) b.1) there (made (suc i) b at)

  pub parted : (f : ℕ) (blocks : List Placed) → AllMade f blocks → (i : ℕ) (b : Placed) → slice_get blocks i ≡ Some b → AreParted f blocks i b
  parted f [] made i b at = absurd (cc at)
  parted f (x ∷ blocks) made zero b at =
      let same : x ≡ b = some_same at in
      let here : f ≡ f + 0 = omega arith in
      subst (AreParted f (x ∷ blocks) 0) same
      (record {
        front = [];
        back = laid_words small mapped pairs (f + placed_size (end_before small mapped blocks x.1) x.1) blocks;
        are = ap (λ n. map word_of (placed_words pairs n (end_before small mapped blocks x.1) x.1) ++ laid_words small mapped pairs (f + placed_size (end_before small mapped blocks x.1) x.1) blocks) here;
        count = refl;
      })
  parted f (x ∷ blocks) made (suc i) b at =
      let own = map word_of (placed_words pairs f (end_before small mapped blocks x.1) x.1) in
      let rest = parted (f + placed_size (end_before small mapped blocks x.1) x.1) blocks (later_made f x blocks made) i b at in
      let sum = sum_by-cons (λ (s : Sized). s.1) (x.0, placed_size (end_before small mapped blocks x.1) x.1) (take i (placed_sizes small mapped blocks)) in
      let there : f + placed_size (end_before small mapped blocks x.1) x.1 + words_of (take i (placed_sizes small mapped blocks)) ≡ f + words_of (take (suc i) (placed_sizes small mapped (x ∷ blocks))) = omega arith in
      let its = map word_of (placed_words pairs (f + placed_size (end_before small mapped blocks x.1) x.1 + words_of (take i (placed_sizes small mapped blocks))) (end_before small mapped (drop (suc i) blocks) b.1) b.1) in
      let first_made : length (placed_words pairs f (end_before small mapped blocks x.1) x.1) ≡ placed_size (end_before small mapped blocks x.1) x.1 = subst (λ n. length (placed_words pairs n (end_before small mapped blocks x.1) x.1) ≡ placed_size (end_before small mapped blocks x.1) x.1) (add-zero f) (made 0 x refl).count in
      let many = length-append own rest.front in
      let mapped_many = length-map (placed_words pairs f (end_before small mapped blocks x.1) x.1) word_of in
      let rest_many = rest.count in
      record {
        front = own ++ rest.front;
        back = rest.back;
        are = ap (λ (ws : List ℕ). own ++ ws) rest.are ∙ sym (append_assoc own rest.front (its ++ rest.back))
            ∙ ap (λ n. (own ++ rest.front) ++ (map word_of (placed_words pairs n (end_before small mapped (drop (suc i) blocks) b.1) b.1) ++ rest.back)) there;
        count = omega arith;
      }

  pub laid_length : (f : ℕ) (blocks : List Placed) → AllMade f blocks → length (laid_words small mapped pairs f blocks) ≡ words_of (placed_sizes small mapped blocks)
  laid_length f [] made = refl
  laid_length f (x ∷ blocks) made =
      let own = map word_of (placed_words pairs f (end_before small mapped blocks x.1) x.1) in
      let rest = laid_length (f + placed_size (end_before small mapped blocks x.1) x.1) blocks (later_made f x blocks made) in
      let many = length-append own (laid_words small mapped pairs (f + placed_size (end_before small mapped blocks x.1) x.1) blocks) in
      let mapped_many = length-map (placed_words pairs f (end_before small mapped blocks x.1) x.1) word_of in
      let first_made : length (placed_words pairs f (end_before small mapped blocks x.1) x.1) ≡ placed_size (end_before small mapped blocks x.1) x.1 = subst (λ n. length (placed_words pairs n (end_before small mapped blocks x.1) x.1) ≡ placed_size (end_before small mapped blocks x.1) x.1) (add-zero f) (made 0 x refl).count in
      let sum = sum_by-cons (λ (s : Sized). s.1) (x.0, placed_size (end_before small mapped blocks x.1) x.1) (placed_sizes small mapped blocks) in
      omega arith

  -- a block's words stand there
  pub parted_stand : (f : ℕ) (blocks : List Placed) (i : ℕ) (b : Placed) (x : AreParted f blocks i b) → AreMade pairs (f + words_of (take i (placed_sizes small mapped blocks))) (end_before small mapped (drop (suc i) blocks) b.1) b.1
      → HasAt (fetch_of (laid_words small mapped pairs f blocks)) (words_of (take i (placed_sizes small mapped blocks))) (placed_words pairs (f + words_of (take i (placed_sizes small mapped blocks))) (end_before small mapped (drop (suc i) blocks) b.1) b.1)
  parted_stand f blocks i b x made =
      let instrs = placed_words pairs (f + words_of (take i (placed_sizes small mapped blocks))) (end_before small mapped (drop (suc i) blocks) b.1) b.1 in
      has_by (fetch_of (laid_words small mapped pairs f blocks)) (words_of (take i (placed_sizes small mapped blocks))) instrs
      (λ j instr at.
      let within = slice_get_within instrs j instr at in
      let many = length-append x.front (map word_of instrs) in
      let mapped_many = length-map instrs word_of in
      subst (λ (ws : List ℕ). fetch_of ws (words_of (take i (placed_sizes small mapped blocks)) + j) ≡ Some instr) (sym x.are)
      (subst (λ n. fetch_of (x.front ++ (map word_of instrs ++ x.back)) (n + j) ≡ Some instr) x.count
      (subst (λ (ws : List ℕ). fetch_of ws (length x.front + j) ≡ Some instr) (append_assoc x.front (map word_of instrs) x.back)
      (fetch_front (x.front ++ map word_of instrs) x.back (length x.front + j) (omega arith) ∙ fetch_back x.front instrs j instr at (All_at IsEncodable instrs j instr made.encodable at)))))

-- ---- points
shifted_twice : (f g : ℕ) (points : List Entry) → shifted (f + g) points ≡ shifted f (shifted g points)
shifted_twice f g [] = refl
shifted_twice f g (p ∷ points) = let same : f + g + p.0 ≡ f + (g + p.0) = omega arith in ap (λ n. (n, p.1) ∷ shifted (f + g) points) same ∙ ap (λ (ps : List Entry). (f + (g + p.0), p.1) ∷ ps) (shifted_twice f g points)

shifted_append : (f : ℕ) (ps qs : List Entry) → shifted f (ps ++ qs) ≡ shifted f ps ++ shifted f qs
shifted_append f [] qs = refl
shifted_append f (p ∷ ps) qs = ap (λ (xs : List Entry). (f + p.0, p.1) ∷ xs) (shifted_append f ps qs)

shifted_rise : (first : ℕ) (points : List Entry) → WordsRise points → WordsRise (shifted first points)
shifted_rise first points rise k d lt =
    let count = shifted_length first points in
    let low = get_shifted first points k d d (omega arith) in
    let high = get_shifted first points (k + 1) d d (omega arith) in
    let step = rise k d (omega arith) in
    omega arith

shifted_under : (first bound : ℕ) (points : List Entry) → All (λ (p : Entry). p.0 < bound) points → All (λ (p : Entry). p.0 < first + bound) (shifted first points)
shifted_under first bound points under k d lt =
    let count = shifted_length first points in
    let at = get_shifted first points k d d (omega arith) in
    let low = under k d (omega arith) in
    omega arith

module _ (small : Bool) (mapped : List Pair) where
  -- points of blocks from a word on are those from word 0 on, moved
  laid_shift : (f g : ℕ) (blocks : List Placed) → laid_points small mapped (f + g) blocks ≡ shifted f (laid_points small mapped g blocks)
  laid_shift f g [] = refl
  laid_shift f g (x ∷ blocks) =
      let size_x = placed_size (end_before small mapped blocks x.1) x.1 in
      let there : f + g + size_x ≡ f + (g + size_x) = omega arith in
      ap (λ (ps : List Entry). ps ++ laid_points small mapped (f + g + size_x) blocks) (shifted_twice f g x.1.points)
      ∙ ap (λ (ps : List Entry). shifted f (shifted g x.1.points) ++ ps) (ap (λ n. laid_points small mapped n blocks) there ∙ laid_shift f (g + size_x) blocks)
      ∙ sym (shifted_append f (shifted g x.1.points) (laid_points small mapped (g + size_x) blocks))

  laid_from : (f : ℕ) (blocks : List Placed) → laid_points small mapped f blocks ≡ shifted f (laid_points small mapped 0 blocks)
  laid_from f blocks = let here : f ≡ f + 0 = omega arith in ap (λ n. laid_points small mapped n blocks) here ∙ laid_shift f 0 blocks

  abbrev AllPlaced : List Placed → Type 0
  AllPlaced blocks = (i : ℕ) (b : Placed) → slice_get blocks i ≡ Some b → IsPlaced b

  pub laid_rise : (f : ℕ) (blocks : List Placed) → AllPlaced blocks → WordsRise (laid_points small mapped f blocks)
  laid_rise f [] own = λ k d lt. absurd (omega arith)
  laid_rise f (x ∷ blocks) own =
      let size_x = placed_size (end_before small mapped blocks x.1) x.1 in
      let its = own 0 x refl in
      let facts = size_facts small mapped (next_address blocks) its.0 x.0 x.1 its.1 in
      subst (λ (ps : List Entry). WordsRise (shifted f x.1.points ++ ps)) (sym (laid_from (f + size_x) blocks))
      (rise_more (f + size_x) (shifted f x.1.points) (laid_points small mapped 0 blocks) (shifted_under f size_x x.1.points facts.points) (shifted_rise f x.1.points its.1.points_rise) (laid_rise 0 blocks (λ i b at. own (suc i) b at)))

  -- the points of a block's words are its own
  pub laid_point : (f : ℕ) (blocks : List Placed) → AllPlaced blocks → (i : ℕ) (b : Placed) → slice_get blocks i ≡ Some b → (w : ℕ) → w < placed_size (end_before small mapped (drop (suc i) blocks) b.1) b.1
      → point_at (laid_points small mapped f blocks) (f + words_of (take i (placed_sizes small mapped blocks)) + w) ≡ point_at b.1.points w
  laid_point f [] own i b at w lt = absurd (cc at)
  laid_point f (x ∷ blocks) own zero b at w lt =
      let same : b ≡ x = sym (some_same at) in
      let size_x = placed_size (end_before small mapped blocks x.1) x.1 in
      let lt' : w < size_x = subst (λ (b : Placed). w < placed_size (end_before small mapped blocks b.1) b.1) same lt in
      let here : f + 0 + w ≡ f + w = omega arith in
      subst (λ (b : Placed). point_at (shifted f x.1.points ++ laid_points small mapped (f + size_x) blocks) (f + 0 + w) ≡ point_at b.1.points w) (sym same)
      (ap (point_at (shifted f x.1.points ++ laid_points small mapped (f + size_x) blocks)) here
      ∙ ap (λ (ps : List Entry). point_at (shifted f x.1.points ++ ps) (f + w)) (laid_from (f + size_x) blocks)
      ∙ points_front (f + size_x) (f + w) (shifted f x.1.points) (laid_points small mapped 0 blocks) (omega arith) ∙ shifted_find f w x.1.points)
  laid_point f (x ∷ blocks) own (suc i) b at w lt =
      let size_x = placed_size (end_before small mapped blocks x.1) x.1 in
      let its = own 0 x refl in
      let facts = size_facts small mapped (next_address blocks) its.0 x.0 x.1 its.1 in
      let sum = sum_by-cons (λ (s : Sized). s.1) (x.0, size_x) (take i (placed_sizes small mapped blocks)) in
      let there : f + words_of (take (suc i) (placed_sizes small mapped (x ∷ blocks))) + w ≡ f + size_x + (0 + words_of (take i (placed_sizes small mapped blocks)) + w) = omega arith in
      ap (point_at (shifted f x.1.points ++ laid_points small mapped (f + size_x) blocks)) there
      ∙ ap (λ (ps : List Entry). point_at (shifted f x.1.points ++ ps) (f + size_x + (0 + words_of (take i (placed_sizes small mapped blocks)) + w))) (laid_from (f + size_x) blocks)
      ∙ points_back (f + size_x) (0 + words_of (take i (placed_sizes small mapped blocks)) + w) (shifted f x.1.points) (laid_points small mapped 0 blocks) (shifted_under f size_x x.1.points facts.points)
      ∙ laid_point 0 blocks (λ j c e. own (suc j) c e) i b at w lt

-- ---- the code
pub whole_few : (blocks : List Placed) → AreBlocks blocks → length blocks ≤ 32768 → words_of (whole_sizes blocks) ≤ 2 ^ 23
whole_few blocks are few = let most = sum_most blocks (λ i b at. (All_at IsPlaced blocks i b are at).1.tidy.few) in omega arith
  where
    sum_most : (blocks : List Placed) → ((i : ℕ) (b : Placed) → slice_get blocks i ≡ Some b → length b.1.words ≤ 256) → words_of (whole_sizes blocks) ≤ 256 * length blocks
    sum_most [] own = omega arith
    sum_most (x ∷ blocks) own =
        let rest = sum_most blocks (λ i b at. own (suc i) b at) in
        let its = own 0 x refl in
        let sum = sum_by-cons (λ (s : Sized). s.1) (x.0, length x.1.words) (whole_sizes blocks) in
        omega arith

-- the first of the blocks behind so many
dropped_at : (n : ℕ) (xs : List Placed) (y : Placed) (ys : List Placed) → drop n xs ≡ y ∷ ys → slice_get xs n ≡ Some y
dropped_at zero [] y ys e = absurd (cc e)
dropped_at zero (x ∷ xs) y ys e = let same : x ≡ y = cc in ap (λ (x : Placed). Some x) same
dropped_at (suc n) [] y ys e = absurd (cc e)
dropped_at (suc n) (x ∷ xs) y ys e = dropped_at n xs y ys e

module _ (blocks : List Placed) (are : AreBlocks blocks) (rising : AddressesRise blocks) (few : length blocks ≤ 32768) where
  abbrev pub small : Bool
  small = is_small (words_of (whole_sizes blocks))

  abbrev pub whole : List Pair
  whole = places 0 (whole_sizes blocks)

  abbrev pub sizes : List Sized
  sizes = placed_sizes small whole blocks

  abbrev pub pairs : List Pair
  pairs = places 0 sizes

  abbrev pub code : Code
  code = layout_by small whole blocks

  abbrev pub end_at : ℕ → Placed → Option End
  end_at i b = end_before small whole (drop (suc i) blocks) b.1

  own : (i : ℕ) (b : Placed) → slice_get blocks i ≡ Some b → IsPlaced b
  own i b at = All_at IsPlaced blocks i b are at

  rise : AllRise pairs
  rise = places_rise 0 sizes (sizes_rise small whole blocks rising) (all_some small whole blocks are)

  pub all_words : words_of (whole_sizes blocks) ≤ 2 ^ 23
  all_words = whole_few blocks are few

  placed_words_few : words_of sizes ≤ words_of (whole_sizes blocks)
  placed_words_few = words_fewer small whole blocks are

  -- so many words stand before a block, and its own fit
  pub block_room : (i : ℕ) (b : Placed) → slice_get blocks i ≡ Some b → words_of (take i sizes) + placed_size (end_at i b) b.1 ≤ words_of sizes
  block_room i b at = words_below sizes i (b.0, placed_size (end_at i b) b.1) (sized_at small whole blocks i b at)

  -- where it is small each word is near each block
  are_near : (last : ℕ) → last ≤ words_of sizes → AreNear small whole pairs last
  are_near last within to e = by (word_at pairs to) refl (mapped_alike small whole blocks to ∙ parts.1)
    where
      parts : (small ≡ true) × (is_some (word_at whole to) ≡ true)
      parts = and_parts small (is_some (word_at whole to)) e

      is_le : (a b : ℕ) → nat_le a b ≡ true → a ≤ b
      is_le a b e = grind (arith, nat_tests, e)

      most : words_of (whole_sizes blocks) ≤ 2 ^ 20
      most = is_le (words_of (whole_sizes blocks)) (2 ^ 20) parts.0

      by : (o : Option ℕ) → word_at pairs to ≡ o → is_some o ≡ true → (target : ℕ) × (word_at pairs to ≡ Some target) × (target < 2 ^ 20) × (last ≤ 2 ^ 20)
      by None is none = absurd (cc none)
      by (Some target) is there =
          let h = placed_of 0 sizes to target is in
          let first = h.first in
          let some = all_some small whole blocks are h.place h.block h.is in
          let below = words_below sizes h.place h.block h.is in
          let all = placed_words_few in
          let bound = most in
          (target, is, omega arith, omega arith)

  pub made : (i : ℕ) (b : Placed) → slice_get blocks i ≡ Some b → AreMade pairs (0 + words_of (take i sizes)) (end_at i b) b.1
  made i b at =
      let its = own i b at in
      let room = block_room i b at in
      are_made its.0 b.0 small whole pairs (next_address (drop (suc i) blocks)) (0 + words_of (take i sizes)) b.1 its.1 (are_near (0 + words_of (take i sizes) + placed_size (end_at i b) b.1) (omega arith))

  pub total : length code.words ≡ words_of sizes
  total = laid_length small whole pairs 0 blocks made

  -- each mapped address has a block
  target_is : (to target : ℕ) → word_at pairs to ≡ Some target → IsTarget code to target
  target_is to target e =
      let h = placed_of 0 sizes to target e in
      let s = h.block in
      let within = slice_get_within sizes h.place s h.is in
      let count = sizes_length small whole blocks in
      let none : Placed = (0, record { words = []; exits = []; points = [] }) in
      let b = get_or blocks h.place none in
      let at : slice_get blocks h.place ≡ Some b = slice_get-get_or blocks h.place none (omega arith) in
      let its = own h.place b at in
      let facts = size_facts small whole (next_address (drop (suc h.place) blocks)) its.0 b.0 b.1 its.1 in
      let some = facts.some in
      let room = block_room h.place b at in
      let all = placed_words_few in
      let most = all_words in
      let first = h.first in
      let here : target ≡ 0 + words_of (take h.place sizes) + 0 = omega arith in
      record {
        below = omega arith;
        begins = ap (address_at pairs) h.first ∙ starts 0 sizes h.place s rise h.is ∙ ap (λ (n : ℕ). Some n) h.its;
        point = its.1.first;
        has_point = ap (point_at code.points) here ∙ laid_point small whole 0 blocks own h.place b at 0 (omega arith) ∙ its.1.has_first;
      }

  -- what is known of a block in its place
  set_at : (i : ℕ) (b : Placed) → slice_get blocks i ≡ Some b → IsSet code small whole (next_address (drop (suc i) blocks)) b.0 (words_of (take i sizes)) b.1 (placed_words pairs (words_of (take i sizes)) (end_at i b) b.1)
  set_at i b at =
      let its = own i b at in
      let sized = sized_at small whole blocks i b at in
      let its_made = subst (λ n. AreMade pairs n (end_at i b) b.1) (zero-add (words_of (take i sizes))) (made i b at) in
      let count = its_made.count in
      let room = block_room i b at in
      let all = placed_words_few in
      let most = all_words in
      let sum = total in
      let whole_room = room_at small whole blocks are i b at in
      let facts = size_facts small whole (next_address (drop (suc i) blocks)) its.0 b.0 b.1 its.1 in
      let some = facts.some in
      record {
        few = omega arith;
        whole = omega arith;
        here = mapped 0 sizes i (b.0, placed_size (end_at i b) b.1) rise sized ∙ ap (λ (n : ℕ). Some n) (zero-add (words_of (take i sizes)));
        stand = subst (λ n. HasAt (fetch_of code.words) (words_of (take i sizes)) (placed_words pairs n (end_at i b) b.1)) (zero-add (words_of (take i sizes)))
            (parted_stand small whole pairs 0 blocks i b (parted small whole pairs 0 blocks made i b at) (made i b at));
        ends = behind 0 sizes i (b.0, placed_size (end_at i b) b.1) (words_of (take i sizes)) (length code.words) (omega arith) (omega arith) sized (omega arith) ∙ (let same : words_of (take i sizes) + placed_size (end_at i b) b.1 ≡ words_of (take i sizes) + length (placed_words pairs (words_of (take i sizes)) (end_at i b) b.1) = omega arith in same);
        within = omega arith;
        alone = λ w low high. alone 0 sizes i (b.0, placed_size (end_at i b) b.1) (words_of (take i sizes) + w) sized (omega arith) (omega arith);
        points = λ w lt. let here : words_of (take i sizes) + w ≡ 0 + words_of (take i sizes) + w = omega arith in ap (point_at code.points) here ∙ laid_point small whole 0 blocks own i b at w (omega arith);
        targets = target_is;
        near = λ to e. let x = are_near 0 (omega arith) to e in (x.0, x.1);
        next_is = λ to e. next_block to e (drop (suc i) blocks) refl;
      }
    where
      next_block : (to : ℕ) → is_next (next_address (drop (suc i) blocks)) to ≡ true → (rest : List Placed) → drop (suc i) blocks ≡ rest → word_at pairs to ≡ Some (words_of (take i sizes) + length (placed_words pairs (words_of (take i sizes)) (end_at i b) b.1))
      next_block to e [] is = absurd (cc (sym e ∙ ap (λ (bs : List Placed). is_next (next_address bs) to) is))
      next_block to e (c ∷ rest) is =
          let same : c.0 ≡ to = eqb-true c.0 to (sym (ap (λ (bs : List Placed). is_next (next_address bs) to) is) ∙ e) in
          let there = dropped_at (suc i) blocks c rest is in
          let sized = sized_at small whole blocks (suc i) c there in
          let within = slice_get_within sizes (suc i) (c.0, placed_size (end_at (suc i) c) c.1) sized in
          let its = own i b at in
          let its_made = subst (λ n. AreMade pairs n (end_at i b) b.1) (zero-add (words_of (take i sizes))) (made i b at) in
          let count = its_made.count in
          let here = sized_at small whole blocks i b at in
          let its_size : (get_or sizes i (0, 0)).1 ≡ placed_size (end_at i b) b.1 = ap (λ (s : Sized). s.1) (get_or_from_slice_get sizes i (b.0, placed_size (end_at i b) b.1) (0, 0) here) in
          let more = sum_by_more size sizes i (0, 0) (omega arith) in
          let next_place : i + 1 ≡ suc i = omega arith in
          let sum : words_of (take (suc i) sizes) ≡ words_of (take i sizes) + (get_or sizes i (0, 0)).1 = ap (λ n. words_of (take n sizes)) (sym next_place) ∙ more in
          let total_is : 0 + words_of (take (suc i) sizes) ≡ words_of (take i sizes) + length (placed_words pairs (words_of (take i sizes)) (end_at i b) b.1) = omega arith in
          ap (word_at pairs) (sym same) ∙ mapped 0 sizes (suc i) (c.0, placed_size (end_at (suc i) c) c.1) rise sized ∙ ap (λ (n : ℕ). Some n) total_is

  -- a block whose exits keep three words
  module _ (i : ℕ) (b : Placed) (at : slice_get blocks i ≡ Some b) (kept : end_at i b ≡ None) where
    abbrev first : ℕ
    first = words_of (take i sizes)

    abbrev filled : List AlphaInstr
    filled = filled_words pairs first b.1

    set : IsSet code small whole (next_address (drop (suc i) blocks)) b.0 first b.1 filled
    set = subst (λ o. IsSet code small whole (next_address (drop (suc i) blocks)) b.0 first b.1 (placed_words pairs first o b.1)) kept (set_at i b at)

    kept_stands : Stands code b.1 first
    kept_stands =
        let its = own i b at in
        let f = is_filled pairs first its.0 b.0 b.1 its.1 in
        let ends = set.ends in
        let within = set.within in
        record {
          words = filled;
          like = f.like;
          stand = set.stand;
          ends = sym ends;
          within = omega arith;
          alone = λ w low lt. set.alone w low lt;
          points = λ w lt. set.points w lt;
        }

    -- each exit leads to its address
    kept_leads : (meaning : Meaning) (permit : Permit) (thread : ℕ) (state : VaxState) (held : Flags) (rules : Rules) → RulesMeet code b.1.exits rules → ExitsLead (placed meaning permit code thread state held first) b.1.exits first rules
    kept_leads meaning permit thread state held rules meet place exit e = by (word_at pairs exit.1) refl (meet place exit e) stands_there
      where
        its : IsPlaced b
        its = own i b at

        in_block : (exit.0 + 3 ≤ length b.1.words) × (exit.1 < 2 ^ 32)
        in_block = All_at (IsExitOf b.1) b.1.exits place exit its.1.exits e

        count : length filled ≡ length b.1.words
        count = (is_filled pairs first its.0 b.0 b.1 its.1).like.count

        stands_there : HasAt (fetch_of code.words) (first + exit.0) (exit_code (word_at pairs exit.1) (first + exit.0) exit.1)
        stands_there =
            let exit_code_words = exit_code (word_at pairs exit.1) (first + exit.0) exit.1 in
            has_by (fetch_of code.words) (first + exit.0) exit_code_words
            (λ j instr is.
            let in_words = has_each (slice_get filled) exit.0 exit_code_words ((is_filled pairs first its.0 b.0 b.1 its.1).exits place exit e) j instr is in
            let there : first + (exit.0 + j) ≡ first + exit.0 + j = omega arith in
            subst (λ w. fetch_of code.words w ≡ Some instr) there (has_each (fetch_of code.words) first filled set.stand (exit.0 + j) instr in_words))

        high : first + exit.0 + 3 ≤ code_end code first
        high = let ends = set.ends in let room = in_block.0 in let many = count in omega arith

        inside : (k : ℕ) → first + exit.0 < k → k < first + exit.0 + 3 → address_at pairs k ≡ None
        inside k low below =
            let there : first + (k - first) ≡ k = omega arith in
            let room = in_block.0 in
            let many = count in
            subst (λ n. address_at pairs n ≡ None) there (set.alone (k - first) (omega arith) (omega arith))

        by : (o : Option ℕ) → word_at pairs exit.1 ≡ o → RulesAt code o rules → HasAt (fetch_of code.words) (first + exit.0) (exit_code o (first + exit.0) exit.1) → LeadsTo (placed meaning permit code thread state held first) (first + exit.0) exit.1 rules 3
        by None is ready has = none_leads (placed meaning permit code thread state held first) (first + exit.0) exit.1 rules (omega arith) high inside ready in_block.1 is has
        by (Some target) is same has = nearly (is_near (first + exit.0) target) has
          where
            t : IsTarget code exit.1 target
            t = set.targets exit.1 target is

            below : first + exit.0 < 2 ^ 23
            below = let most = set.few in let within = set.within in let room = in_block.0 in let many = count in omega arith

            nearly : (n : Bool) → HasAt (fetch_of code.words) (first + exit.0) (code_to n (first + exit.0) target) → LeadsTo (placed meaning permit code thread state held first) (first + exit.0) exit.1 rules 3
            nearly true has = near_leads (placed meaning permit code thread state held first) (first + exit.0) exit.1 rules (omega arith) high inside target t.point below t.below t.begins t.has_point (same t.point t.has_point) has
            nearly false has = far_leads (placed meaning permit code thread state held first) (first + exit.0) exit.1 rules (omega arith) high inside target t.point below t.below t.begins t.has_point (same t.point t.has_point) has

    kept_block : (meaning : Meaning) (permit : Permit) (shape : IsBlockOf (has_loop permit b.0) b.0 b.1) (rules : Rules) → RulesMeet code b.1.exits rules → FollowsAnywhere meaning permit b.0 b.1 shape.first.rules rules → IsBlock meaning permit code b.0 first
    kept_block meaning permit shape rules meet anywhere =
        let laid : IsLaid code b.0 b.1 = record { first = first; mapped = set.here; stands = kept_stands; leads = λ meaning permit thread state held rules meet. kept_leads meaning permit thread state held rules meet } in
        is_block meaning permit code b.0 b.1 shape laid
        (λ thread n state held regs lt is_state pc form shows. anywhere code first thread n state held regs set.few kept_stands lt is_state pc form shows (kept_leads meaning permit thread state held rules meet))

  -- ---- the layout
  in_place : (i : ℕ) (b : Placed) → slice_get blocks i ≡ Some b → IsInPlace code b.0 b.1
  in_place i b at =
      let set = set_at i b at in
      let its = own i b at in
      let facts = size_facts small whole (next_address (drop (suc i) blocks)) its.0 b.0 b.1 its.1 in
      let some = facts.some in
      let its_made = subst (λ n. AreMade pairs n (end_at i b) b.1) (zero-add (words_of (take i sizes))) (made i b at) in
      let count = its_made.count in
      record {
        first = words_of (take i sizes);
        mapped = set.here;
        points = ap (point_at code.points) (sym (add-zero (words_of (take i sizes)))) ∙ set.points 0 (omega arith);
        does = λ meaning permit shape rules meet anywhere. by (end_at i b) refl meaning permit shape rules meet anywhere;
      }
    where
      by : (o : Option End) → end_at i b ≡ o → (meaning : Meaning) (permit : Permit) (shape : IsBlockOf (has_loop permit b.0) b.0 b.1) (rules : Rules) → RulesMeet code b.1.exits rules → FollowsAnywhere meaning permit b.0 b.1 shape.first.rules rules
          → IsBlock meaning permit code b.0 (words_of (take i sizes))
      by None e meaning permit shape rules meet anywhere = kept_block i b at e meaning permit shape rules meet anywhere
      by (Some end) e meaning permit shape rules meet anywhere =
          ended_block meaning permit code small whole (next_address (drop (suc i) blocks)) b.0 (words_of (take i sizes)) b.1 shape rules meet end (end_is small whole (next_address (drop (suc i) blocks)) b.1 end e)
          (subst (λ o. IsSet code small whole (next_address (drop (suc i) blocks)) b.0 (words_of (take i sizes)) b.1 (placed_words pairs (words_of (take i sizes)) o b.1)) e (set_at i b at)) anywhere

  pub is_layout : IsLayout blocks (layout blocks)
  unfolding layout
  is_layout =
      let sum = total in
      let fewer = placed_words_few in
      let most = all_words in
      record {
        few = omega arith;
        addresses = same_addresses small whole 0 blocks;
        map_rises = rise;
        points_rise = laid_rise small whole 0 blocks own;
        laid = in_place;
      }

-- each target is a word of the code
pub targets_few : (blocks : List Placed) (are : AreBlocks blocks) (rising : AddressesRise blocks) (few : length blocks ≤ 32768) (address : ℕ) → IfSome (word_at (pairs blocks are rising few) address) (λ target. target ≤ most_words)
targets_few blocks are rising few address = by (word_at (pairs blocks are rising few) address) refl
  where
    by : (o : Option ℕ) → word_at (pairs blocks are rising few) address ≡ o → IfSome o (λ target. target ≤ most_words)
    by None e = tt
    by (Some target) e = let below = (target_is blocks are rising few address target e).below in omega arith
