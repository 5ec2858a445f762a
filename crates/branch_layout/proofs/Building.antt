-- One block more of those that are laid out.
use Rattle.std.proofs.Common.{◌≡◌, ℕ, zero, suc, ◌+◌, ◌<◌, ◌≤◌, ◌++◌, refl, sym, ◌∙◌, ap, subst, arith, append_assoc, zero-add, List, [], ◌∷◌, length, length-append, map, take, drop, get_or, Bool, Option, Some, None, inl, inr}
use Rattle.std.specs.Prelude.{slice_get, IfSome}
use Rattle.std.proofs.lemmas.List.{length-map}
use Rattle.std.proofs.lemmas.List.Sums.{sum_by_more}
use Rattle.std.proofs.Math.Nat.{eq-or-lt_of_le}
use Rattle.std.proofs.lemmas.Option.{slice_get_within, get_or_from_slice_get}
use Rattle.alpha_encode.specs.Words.{word_of}
use Rattle.alpha_encode.specs.declared.instr.AlphaInstr.{AlphaInstr}
use Rattle.address_map.specs.Pairs.{Pair}
use Rattle.exception_records.specs.Blocks.{BlockValue}
use Rattle.exception_records.specs.Points.{Entry}
use Rattle.branch_layout.specs.Ends.{end_of, placed_size}
use Rattle.branch_layout.specs.Layouts.{AddressesRise, AreBlocks, AreEnds, IsPlaced, Placed, Sized, is_small, laid_points, laid_words, next_address, placed_sizes, placed_words, places, shifted, whole_sizes, words_of}
use Rattle.branch_layout.specs.declared.ends.End.{End}
use Rattle.branch_layout.proofs.Ending.{end_is}
use Rattle.branch_layout.proofs.Filling.{some_same}
use Rattle.branch_layout.proofs.Laid.{AreMade, made}
use Rattle.branch_layout.proofs.Places.{size}
use Rattle.branch_layout.proofs.Sizes.{end_before, end_facts, size_facts, sized_at}

-- the list behind a place
pub behind_place : {X : Type 0} (xs : List X) (i : ℕ) (x : X) → slice_get xs i ≡ Some x → drop i xs ≡ x ∷ drop (i + 1) xs
behind_place {X} xs i x e = let next : suc i ≡ i + 1 = omega arith in subst (λ n. drop i xs ≡ x ∷ drop n xs) next (from xs i e)
  where
    from : (xs : List X) (i : ℕ) → slice_get xs i ≡ Some x → drop i xs ≡ x ∷ drop (suc i) xs
    from [] i e = absurd (cc e)
    from (y ∷ xs) zero e = let same : y ≡ x = cc in ap (λ (y : X). y ∷ xs) same
    from (y ∷ xs) (suc i) e = from xs i e

-- an end begins inside its block
pub start_within : (small : Bool) (mapped : List Pair) (next : Option ℕ) (block : BlockValue) (end : Option End) → end ≡ end_of small mapped next block → IfSome end (λ (end : End). end.start < length block.words)
start_within small mapped next block None e = tt
start_within small mapped next block (Some end) e = (end_facts small mapped next block end (end_is small mapped next block end (sym e))).room

pub size_within : (small : Bool) (mapped : List Pair) (next : Option ℕ) (block : Placed) → IsPlaced block → placed_size (end_of small mapped next block.1) block.1 ≤ length block.1.words
size_within small mapped next block own = (size_facts small mapped next own.0 block.0 block.1 own.1).count

-- one end more
pushed_front : {X : Type 0} (xs : List X) (x : X) (k : ℕ) → k < length xs → slice_get (xs ++ x ∷ []) k ≡ slice_get xs k
pushed_front [] x k lt = absurd (omega arith)
pushed_front (y ∷ xs) x zero lt = refl
pushed_front (y ∷ xs) x (suc k) lt = pushed_front xs x k (omega arith)

pushed_last : {X : Type 0} (xs : List X) (x : X) → slice_get (xs ++ x ∷ []) (length xs) ≡ Some x
pushed_last [] x = refl
pushed_last (y ∷ xs) x = pushed_last xs x

pub ends_next : (small : Bool) (mapped : List Pair) (blocks : List Placed) (i : ℕ) (b : Placed) (ends ends' : List (Option End)) (end : Option End) → slice_get blocks i ≡ Some b → ends' ≡ ends ++ end ∷ []
    → end ≡ end_of small mapped (next_address (drop (i + 1) blocks)) b.1 → AreEnds small mapped blocks i ends → AreEnds small mapped blocks (i + 1) ends'
ends_next small mapped blocks i b ends ends' end at is ends_so before = subst (AreEnds small mapped blocks (i + 1)) (sym is) (record {
  counted = length-append ends (end ∷ []) ∙ ap (λ n. n + 1) before.counted;
  each = λ k c lt e. elim (eq-or-lt_of_le (within k lt)) [ inl same ↦ last k c same e | inr less ↦ pushed_front ends end k (rw before.counted less) ∙ before.each k c less e ];
})
  where
    within : (k : ℕ) → k < i + 1 → k ≤ i
    within k lt = omega arith

    last : (k : ℕ) (c : Placed) → k ≡ i → slice_get blocks k ≡ Some c → slice_get (ends ++ end ∷ []) k ≡ Some (end_of small mapped (next_address (drop (k + 1) blocks)) c.1)
    last k c same e =
        let is_b : b ≡ c = some_same (sym at ∙ ap (slice_get blocks) (sym same) ∙ e) in
        ap (slice_get (ends ++ end ∷ [])) (same ∙ sym before.counted) ∙ pushed_last ends end
        ∙ ap (λ (o : Option End). Some o) (ends_so ∙ ap (λ (d : Placed). end_of small mapped (next_address (drop (i + 1) blocks)) d.1) is_b ∙ ap (λ n. end_of small mapped (next_address (drop (n + 1) blocks)) c.1) (sym same))

module _ (small : Bool) (mapped : List Pair) (blocks : List Placed) (i : ℕ) (b : Placed) (at : slice_get blocks i ≡ Some b) where
  abbrev its_size : ℕ
  its_size = placed_size (end_of small mapped (next_address (drop (i + 1) blocks)) b.1) b.1

  pub places_next : (pairs pairs' whole : List Pair) (first added : ℕ) → pairs' ≡ pairs ++ (b.0, first) ∷ [] → added ≡ its_size → pairs ++ places first (placed_sizes small mapped (drop i blocks)) ≡ whole
      → pairs' ++ places (first + added) (placed_sizes small mapped (drop (i + 1) blocks)) ≡ whole
  places_next pairs pairs' whole first added is is_added up =
      ap (λ (ps : List Pair). ps ++ places (first + added) (placed_sizes small mapped (drop (i + 1) blocks))) is
      ∙ ap (λ n. (pairs ++ (b.0, first) ∷ []) ++ places (first + n) (placed_sizes small mapped (drop (i + 1) blocks))) is_added
      ∙ append_assoc pairs ((b.0, first) ∷ []) (places (first + its_size) (placed_sizes small mapped (drop (i + 1) blocks)))
      ∙ ap (λ (bs : List Placed). pairs ++ places first (placed_sizes small mapped bs)) (sym (behind_place blocks i b at)) ∙ up

  pub first_next : (count added : ℕ) → count ≡ words_of (take i (placed_sizes small mapped blocks)) → added ≡ its_size → count + added ≡ words_of (take (i + 1) (placed_sizes small mapped blocks))
  first_next count added is is_added =
      let sized = sized_at small mapped blocks i b at in
      let next : suc i ≡ i + 1 = omega arith in
      let within = slice_get_within (placed_sizes small mapped blocks) i (b.0, placed_size (end_before small mapped (drop (suc i) blocks) b.1) b.1) sized in
      let more = sum_by_more size (placed_sizes small mapped blocks) i (0, 0) within in
      let last : (get_or (placed_sizes small mapped blocks) i (0, 0)).1 ≡ its_size = ap (λ (s : Sized). s.1) (get_or_from_slice_get (placed_sizes small mapped blocks) i (b.0, placed_size (end_before small mapped (drop (suc i) blocks) b.1) b.1) (0, 0) sized) ∙ ap (λ n. placed_size (end_before small mapped (drop n blocks) b.1) b.1) next in
      omega arith

  module _ (pairs : List Pair) where
    abbrev its_words : (first : ℕ) → List AlphaInstr
    its_words first = placed_words pairs first (end_of small mapped (next_address (drop (i + 1) blocks)) b.1) b.1

    pub words_next : (words words' whole : List ℕ) (first : ℕ) (instrs : List AlphaInstr) → first ≡ length words → length (its_words first) ≡ its_size → instrs ≡ its_words first → words' ≡ words ++ map word_of instrs
        → words ++ laid_words small mapped pairs (length words) (drop i blocks) ≡ whole → words' ++ laid_words small mapped pairs (length words') (drop (i + 1) blocks) ≡ whole
    words_next words words' whole first instrs is_first count is_instrs is up =
        let made : words' ≡ words ++ map word_of (its_words first) = is ∙ ap (λ (is : List AlphaInstr). words ++ map word_of is) is_instrs in
        let many = ap length made ∙ length-append words (map word_of (its_words first)) in
        let mapped_many = length-map (its_words first) word_of in
        let there : length words' ≡ first + its_size = omega arith in
        ap (λ (ws : List ℕ). ws ++ laid_words small mapped pairs (length words') (drop (i + 1) blocks)) made
        ∙ ap (λ n. (words ++ map word_of (its_words first)) ++ laid_words small mapped pairs n (drop (i + 1) blocks)) there
        ∙ append_assoc words (map word_of (its_words first)) (laid_words small mapped pairs (first + its_size) (drop (i + 1) blocks))
        ∙ ap (λ (bs : List Placed). words ++ laid_words small mapped pairs first bs) (sym (behind_place blocks i b at))
        ∙ ap (λ n. words ++ laid_words small mapped pairs n (drop i blocks)) is_first ∙ up

  pub points_next : (points points' its whole : List Entry) (first last : ℕ) → its ≡ b.1.points → points' ≡ points ++ shifted first its → last ≡ first + its_size
      → points ++ laid_points small mapped first (drop i blocks) ≡ whole → points' ++ laid_points small mapped last (drop (i + 1) blocks) ≡ whole
  points_next points points' its whole first last are is is_last up =
      let made : points' ≡ points ++ shifted first b.1.points = is ∙ ap (λ (ps : List Entry). points ++ shifted first ps) are in
      ap (λ (ps : List Entry). ps ++ laid_points small mapped last (drop (i + 1) blocks)) made
      ∙ ap (λ n. (points ++ shifted first b.1.points) ++ laid_points small mapped n (drop (i + 1) blocks)) is_last
      ∙ append_assoc points (shifted first b.1.points) (laid_points small mapped (first + its_size) (drop (i + 1) blocks))
      ∙ ap (λ (bs : List Placed). points ++ laid_points small mapped first bs) (sym (behind_place blocks i b at)) ∙ up

-- what is known of the words of a block, where the parts are known by equations
pub its_made : (blocks : List Placed) (are : AreBlocks blocks) (rising : AddressesRise blocks) (few : length blocks ≤ 32768) (small : Bool) (mapped pairs : List Pair) → small ≡ is_small (words_of (whole_sizes blocks)) → mapped ≡ places 0 (whole_sizes blocks) → pairs ≡ places 0 (placed_sizes small mapped blocks)
    → (i : ℕ) (b : Placed) → slice_get blocks i ≡ Some b → (first : ℕ) → first ≡ words_of (take i (placed_sizes small mapped blocks)) → (end : Option End) → end ≡ end_of small mapped (next_address (drop (i + 1) blocks)) b.1 → AreMade pairs first end b.1
its_made blocks are rising few small mapped pairs is_small_so is_mapped are_pairs i b at first is_first end is_end =
    let next : suc i ≡ i + 1 = omega arith in
    let known : AreMade (places 0 (placed_sizes (is_small (words_of (whole_sizes blocks))) (places 0 (whole_sizes blocks)) blocks)) (0 + words_of (take i (placed_sizes (is_small (words_of (whole_sizes blocks))) (places 0 (whole_sizes blocks)) blocks)))
    (end_of (is_small (words_of (whole_sizes blocks))) (places 0 (whole_sizes blocks)) (next_address (drop (suc i) blocks)) b.1) b.1 = made blocks are rising few i b at in
    subst (λ o. AreMade pairs first o b.1) (sym is_end)
    (subst (λ n. AreMade pairs n (end_of small mapped (next_address (drop (i + 1) blocks)) b.1) b.1) (zero-add (words_of (take i (placed_sizes small mapped blocks))) ∙ sym is_first)
    (subst (λ (ps : List Pair). AreMade ps (0 + words_of (take i (placed_sizes small mapped blocks))) (end_of small mapped (next_address (drop (i + 1) blocks)) b.1) b.1) (sym are_pairs)
    (subst (λ n. AreMade (places 0 (placed_sizes small mapped blocks)) (0 + words_of (take i (placed_sizes small mapped blocks))) (end_of small mapped (next_address (drop n blocks)) b.1) b.1) next
    (subst (λ (m : List Pair). AreMade (places 0 (placed_sizes small m blocks)) (0 + words_of (take i (placed_sizes small m blocks))) (end_of small m (next_address (drop (suc i) blocks)) b.1) b.1) (sym is_mapped)
    (subst (λ s. AreMade (places 0 (placed_sizes s (places 0 (whole_sizes blocks)) blocks)) (0 + words_of (take i (placed_sizes s (places 0 (whole_sizes blocks)) blocks))) (end_of s (places 0 (whole_sizes blocks)) (next_address (drop (suc i) blocks)) b.1) b.1) (sym is_small_so) known)))))
