-- The words of a block with those of its exits filled in.
use Rattle.std.proofs.Common.{◌≡◌, ℕ, zero, suc, ◌+◌, ◌<◌, ◌≤◌, ◌++◌, take, drop, refl, sym, ◌∙◌, ap, subst, arith, add-zero, add-one, ltb-true, ltb-false, List, [], ◌∷◌, length, get_or, All, Bool, true, false, Some, inl, inr}
use Rattle.std.specs.Prelude.{slice_get, nat_lt, nat_le, ◌&&◌, ◌||◌, ◌⊎◌}
use Rattle.std.specs.List.{AllAdjacentBelow}
use Rattle.std.specs.Simd.Lanes.{put_chunk}
use Rattle.std.proofs.lemmas.Bool.Decides.{nat_tests}
use Rattle.std.proofs.lemmas.Option.{slice_get-get_or, slice_get_within, get_or_from_slice_get}
use Rattle.std.proofs.lemmas.List.{take_at, drop-drop}
use Rattle.std.proofs.lemmas.Simd.{length-put_chunk, put_chunk_is}
use Rattle.alpha_encode.specs.Words.{IsEncodable}
use Rattle.alpha_encode.specs.declared.instr.AlphaInstr.{AlphaInstr}
use Rattle.alpha_meaning.specs.Pieces.{Fetch, HasAt}
use Rattle.address_map.specs.Pairs.{Pair, word_at}
use Rattle.exception_records.specs.Blocks.{BlockValue}
use Rattle.block_law.specs.Blocks.{Exit, exit_words, has_word, is_exit_word, IsExitOf, IsBlockOf, IsLike}
use Rattle.block_law.proofs.Laid.{has_each}
use Rattle.branch_layout.specs.Exits.{exit_code}
use Rattle.branch_layout.proofs.ExitWords.{exit_length, exit_quiet, exit_encodable}

-- some of its exits are filled in
pub record IsFilledUpTo (pairs : List Pair) (first : ℕ) (block : BlockValue) (words : List AlphaInstr) (count : ℕ) : Type 0 where
  pub like : IsLike block words
  pub encodable : All IsEncodable words
  pub exits : (place : ℕ) (exit : Exit) → place < count → slice_get block.exits place ≡ Some exit → HasAt (slice_get words) exit.0 (exit_code (word_at pairs exit.1) (first + exit.0) exit.1)

-- ---- words at a place, one by one
pub has_by : (fetch : Fetch) (pc : ℕ) (is : List AlphaInstr) → ((j : ℕ) (i : AlphaInstr) → slice_get is j ≡ Some i → fetch (pc + j) ≡ Some i) → HasAt fetch pc is
has_by fetch pc [] h = tt
has_by fetch pc (i ∷ is) h =
    let here : pc + 0 ≡ pc = add-zero pc in (
      subst (λ x. fetch x ≡ Some i) here (h 0 i refl),
      has_by fetch (pc + 1) is (λ j k e. let there : pc + suc j ≡ pc + 1 + j = omega arith in subst (λ x. fetch x ≡ Some k) there (h (suc j) k e)),
    )

-- the same words stand where another list of instructions has them
pub has_same : (fetch fetch' : Fetch) (pc : ℕ) (is : List AlphaInstr) → ((k : ℕ) → pc ≤ k → k < pc + length is → fetch' k ≡ fetch k) → HasAt fetch pc is → HasAt fetch' pc is
has_same fetch fetch' pc is same h =
    has_by fetch' pc is (λ j i e. let within = slice_get_within is j i e in same (pc + j) (omega arith) (omega arith) ∙ has_each fetch pc is h j i e)

-- ---- a piece of a list is overwritten
module _ {X : Type 0} where
  put_below : (i : ℕ) (xs ys : List X) (k : ℕ) → k < i → slice_get (put_chunk i xs ys) k ≡ slice_get xs k
  put_below i [] ys k lt = refl
  put_below zero (x ∷ xs) ys k lt = absurd (omega arith)
  put_below (suc i) (x ∷ xs) ys zero lt = refl
  put_below (suc i) (x ∷ xs) ys (suc k) lt = put_below i xs ys k (omega arith)

  put_above : (i : ℕ) (xs ys : List X) (k : ℕ) → i + length ys ≤ k → slice_get (put_chunk i xs ys) k ≡ slice_get xs k
  put_above i [] ys k le = refl
  put_above zero (x ∷ xs) [] k le = refl
  put_above zero (x ∷ xs) (y ∷ ys) zero le = absurd (omega arith)
  put_above zero (x ∷ xs) (y ∷ ys) (suc k) le = put_above zero xs ys k (omega arith)
  put_above (suc i) (x ∷ xs) ys zero le = absurd (omega arith)
  put_above (suc i) (x ∷ xs) ys (suc k) le = put_above i xs ys k (omega arith)

  put_at : (i : ℕ) (xs ys : List X) (j k : ℕ) (y : X) → k ≡ i + j → k < length xs → slice_get ys j ≡ Some y → slice_get (put_chunk i xs ys) k ≡ Some y
  put_at i [] ys j k y is lt e = absurd (omega arith)
  put_at zero (x ∷ xs) [] j k y is lt e = cc
  put_at zero (x ∷ xs) (y' ∷ ys) zero zero y is lt e = e
  put_at zero (x ∷ xs) (y' ∷ ys) zero (suc k) y is lt e = absurd (omega arith)
  put_at zero (x ∷ xs) (y' ∷ ys) (suc j) zero y is lt e = absurd (omega arith)
  put_at zero (x ∷ xs) (y' ∷ ys) (suc j) (suc k) y is lt e = put_at zero xs ys j k y (omega arith) (omega arith) e
  put_at (suc i) (x ∷ xs) ys j zero y is lt e = absurd (omega arith)
  put_at (suc i) (x ∷ xs) ys j (suc k) y is lt e = put_at i xs ys j k y (omega arith) (omega arith) e

  -- what stands there stood there before, or is of the piece
  put_either : (i : ℕ) (xs ys : List X) (k : ℕ) (x : X) → slice_get (put_chunk i xs ys) k ≡ Some x → (slice_get xs k ≡ Some x) ⊎ ((j : ℕ) × (slice_get ys j ≡ Some x))
  put_either i [] ys k x e = inl e
  put_either zero (x' ∷ xs) [] k x e = inl e
  put_either zero (x' ∷ xs) (y ∷ ys) zero x e = inr (0, e)
  put_either zero (x' ∷ xs) (y ∷ ys) (suc k) x e = elim (put_either zero xs ys k x e) [ inl h ↦ inl h | inr h ↦ inr (suc h.0, h.1) ]
  put_either (suc i) (x' ∷ xs) ys zero x e = inl e
  put_either (suc i) (x' ∷ xs) ys (suc k) x e = put_either i xs ys k x e

  -- it is the list up to the piece, the piece, and the rest
  overwritten : (i : ℕ) (xs ys : List X) → i + length ys ≤ length xs → put_chunk i xs ys ≡ take i xs ++ (ys ++ drop (i + length ys) xs)
  overwritten i xs ys le = put_chunk_is i xs ys le ∙ ap (λ (zs : List X). take i xs ++ (ys ++ zs)) (drop-drop (length ys) i xs)

pub All_by : {X : Type 0} (P : X → Type 0) (xs : List X) → ((k : ℕ) (x : X) → slice_get xs k ≡ Some x → P x) → All P xs
All_by P xs h k d lt = h k (get_or xs k d) (slice_get-get_or xs k d lt)

pub All_at : {X : Type 0} (P : X → Type 0) (xs : List X) (k : ℕ) (x : X) → All P xs → slice_get xs k ≡ Some x → P x
All_at P xs k x all e = subst P (get_or_from_slice_get xs k x x e) (all k x (slice_get_within xs k x e))

-- ---- exits
-- an earlier exit ends before a later one
exits_below : (exits : List Exit) (j n : ℕ) → AllAdjacentBelow (λ e f. e.0 + exit_words ≤ f.0) exits (length exits) → j < n → n < length exits → (get_or exits j (0, 0)).0 + exit_words ≤ (get_or exits n (0, 0)).0
exits_below exits j zero apart lt within = absurd (omega arith)
exits_below exits j (suc n) apart lt within = by (nat_lt j n) refl (λ far. exits_below exits j n apart far (omega arith))
  where
    step : (get_or exits n (0, 0)).0 + exit_words ≤ (get_or exits (suc n) (0, 0)).0
    step = rw add-one at (apart n (0, 0) (omega arith))

    by : (b : Bool) → nat_lt j n ≡ b → (j < n → (get_or exits j (0, 0)).0 + exit_words ≤ (get_or exits n (0, 0)).0) → (get_or exits j (0, 0)).0 + exit_words ≤ (get_or exits (suc n) (0, 0)).0
    by true e far = let below = far (ltb-true j n e) in let next = step in omega arith
    by false e far =
        let late : n ≤ j = ltb-false j n e in
        let same : j ≡ n = omega arith in
        rw same step

-- a word that is none of three lies before or behind them
beside : (start word : ℕ) → (nat_le start word && nat_lt word (start + exit_words)) ≡ false → (word < start) ⊎ (start + exit_words ≤ word)
beside start word outside = by (nat_lt word start) refl
  where
    by : (b : Bool) → nat_lt word start ≡ b → (word < start) ⊎ (start + exit_words ≤ word)
    by true e = inl (ltb-true word start e)
    by false e = inr (let late : start ≤ word = ltb-false word start e in grind (arith, nat_tests))

pub some_same : {A : Type 0} {a b : A} → Some a ≡ Some b → a ≡ b
some_same e = cc

-- a word of no exit is none of that exit's
not_of : (exits : List Exit) (n : ℕ) (exit : Exit) (word : ℕ) → slice_get exits n ≡ Some exit → is_exit_word exits word ≡ false → has_word word exit ≡ false
not_of [] n exit word e outside = cc
not_of (f ∷ exits) zero exit word e outside = let same : f ≡ exit = cc in subst (λ (x : Exit). has_word word x ≡ false) same (or_first _ _ outside)
  where
    or_first : (a b : Bool) → (a || b) ≡ false → a ≡ false
    or_first true b e = cc
    or_first false b e = refl
not_of (f ∷ exits) (suc n) exit word e outside = not_of exits n exit word e (or_second _ _ outside)
  where
    or_second : (a b : Bool) → (a || b) ≡ false → b ≡ false
    or_second true b e = cc
    or_second false b e = e

module _ (pairs : List Pair) (first : ℕ) (loops : Bool) (address : ℕ) (block : BlockValue) (of : IsBlockOf loops address block) where
  abbrev code : Exit → List AlphaInstr
  code exit = exit_code (word_at pairs exit.1) (first + exit.0) exit.1

  -- one more exit is filled in
  pub fill_more : (words : List AlphaInstr) (n : ℕ) (exit : Exit) → slice_get block.exits n ≡ Some exit → IsFilledUpTo pairs first block words n → IsFilledUpTo pairs first block (put_chunk exit.0 words (code exit)) (n + 1)
  fill_more words n exit e up =
      record {
        like = record {
          count = length-put_chunk exit.0 words (code exit) ∙ up.like.count;
          same = λ word outside. off word (not_of block.exits n exit word e outside) ∙ up.like.same word outside;
          quiet = λ word i is at. elim (put_either exit.0 words (code exit) word i at) [ inl h ↦ up.like.quiet word i is h | inr h ↦ exit_quiet (word_at pairs exit.1) (first + exit.0) exit.1 h.0 i h.1 ];
        };
        encodable =
            All_by IsEncodable (put_chunk exit.0 words (code exit))
            (λ k i at. elim (put_either exit.0 words (code exit) k i at) [ inl h ↦ All_at IsEncodable words k i up.encodable h | inr h ↦ exit_encodable (word_at pairs exit.1) (first + exit.0) exit.1 h.0 i h.1 ]);
        exits = λ place f lt at. by (nat_lt place n) place refl f lt at;
      }
    where
      size : length (code exit) ≡ exit_words
      size = exit_length (word_at pairs exit.1) (first + exit.0) exit.1

      within : exit.0 + exit_words ≤ length words
      within = let own = (All_at (IsExitOf block) block.exits n exit of.exits e).0 in let count = up.like.count in omega arith

      off : (word : ℕ) → has_word word exit ≡ false → slice_get (put_chunk exit.0 words (code exit)) word ≡ slice_get words word
      off word outside =
          elim (beside exit.0 word outside) [ inl h ↦ put_below exit.0 words (code exit) word h | inr h ↦ put_above exit.0 words (code exit) word (let count = size in omega arith) ]

      by : (b : Bool) (place : ℕ) → nat_lt place n ≡ b → (f : Exit) → place < n + 1 → slice_get block.exits place ≡ Some f → HasAt (slice_get (put_chunk exit.0 words (code exit))) f.0 (code f)
      by true place is f lt at =
          let earlier : place < n = ltb-true place n is in
          let n_within = slice_get_within block.exits n exit e in
          let below : f.0 + exit_words ≤ exit.0 =
          rw (get_or_from_slice_get block.exits place f (0, 0) at, get_or_from_slice_get block.exits n exit (0, 0) e) at (exits_below block.exits place n of.exits_apart earlier n_within)
          in
          let f_size = exit_length (word_at pairs f.1) (first + f.0) f.1 in
          has_same (slice_get words) (slice_get (put_chunk exit.0 words (code exit))) f.0 (code f)
          (λ k low high. put_below exit.0 words (code exit) k (omega arith)) (up.exits place f earlier at)
      by false place is f lt at =
          let late : n ≤ place = ltb-false place n is in
          let same_place : place ≡ n = omega arith in
          let same : exit ≡ f = some_same (sym e ∙ rw same_place at at) in
          subst (λ (x : Exit). HasAt (slice_get (put_chunk exit.0 words (code exit))) x.0 (code x)) same
          (has_by (slice_get (put_chunk exit.0 words (code exit))) exit.0 (code exit)
          (λ j i here. let in_code = slice_get_within (code exit) j i here in let count = size in let room = within in put_at exit.0 words (code exit) j (exit.0 + j) i refl (omega arith) here))

  pub filled_more : (exits : List Exit) (n : ℕ) (words written new code' : List AlphaInstr) → exits ≡ block.exits → n < length exits → written ≡ words → code' ≡ code (get_or exits n (0, 0))
      → new ≡ take (get_or exits n (0, 0)).0 written ++ (code' ++ drop ((get_or exits n (0, 0)).0 + exit_words) written)
      → IsFilledUpTo pairs first block words n → (length new ≡ length words) × IsFilledUpTo pairs first block new (n + 1)
  filled_more exits n words written new code' are within is_written is_code is_new up =
      let exit = get_or exits n (0, 0) in
      let at : slice_get block.exits n ≡ Some exit = rw (← are) (slice_get-get_or exits n (0, 0) within) in
      let size = exit_length (word_at pairs exit.1) (first + exit.0) exit.1 in
      let own = (All_at (IsExitOf block) block.exits n exit of.exits at).0 in
      let count = up.like.count in
      let room : exit.0 + length (code exit) ≤ length words = omega arith in
      let is : new ≡ put_chunk exit.0 words (code exit) = is_new ∙ rw (is_written, is_code, ← size) (sym (overwritten exit.0 words (code exit) room)) in
      (ap length is ∙ length-put_chunk exit.0 words (code exit), subst (λ (new : List AlphaInstr). IsFilledUpTo pairs first block new (n + 1)) (sym is) (fill_more words n exit at up))

-- a list of the same length that was written back
pub written_back : {X : Type 0} (count : ℕ) (new old : List X) → count ≡ length old → length new ≡ length old → take count (new ++ drop (length new) old) ≡ new
written_back count new old is same = take_at new (drop (length new) old) count (same ∙ sym is)
