-- The words of a block with those of its exits filled in.
use Rattle.std.proofs.Common.{◌≡◌, ℕ, zero, suc, ◌+◌, ◌<◌, ◌≤◌, ◌++◌, refl, sym, ◌∙◌, ap, subst, arith, List, length, take, take_all, le_refl, drop, get_or, All, Bool, Some}
use Rattle.std.specs.Prelude.{slice_get}
use Rattle.std.specs.List.{fold}
use Rattle.std.proofs.lemmas.List.Sums.{fold_more}
use Rattle.std.proofs.lemmas.Option.{slice_get_within}
use Rattle.alpha_encode.specs.Words.{IsEncodable}
use Rattle.alpha_encode.specs.declared.instr.AlphaInstr.{AlphaInstr}
use Rattle.alpha_meaning.specs.Pieces.{HasAt}
use Rattle.address_map.specs.Pairs.{Pair, word_at}
use Rattle.exception_records.specs.Blocks.{BlockValue}
use Rattle.block_law.specs.Blocks.{Exit, IsBlockOf, IsLike, exit_words}
use Rattle.branch_layout.specs.Exits.{exit_code}
use Rattle.branch_layout.specs.Layouts.{fill_exit, filled_words, with_exit}
use Rattle.branch_layout.proofs.Filling.{IsFilledUpTo, filled_more}

-- the words of a block that begins at that word of the code, with those of its exits filled in
pub record IsFilled (pairs : List Pair) (first : ℕ) (block : BlockValue) (words : List AlphaInstr) : Type 0 where
  pub like : IsLike block words
  pub encodable : All IsEncodable words
  pub exits : (place : ℕ) (exit : Exit) → slice_get block.exits place ≡ Some exit → HasAt (slice_get words) exit.0 (exit_code (word_at pairs exit.1) (first + exit.0) exit.1)

module _ (pairs : List Pair) (first : ℕ) (loops : Bool) (address : ℕ) (block : BlockValue) (of : IsBlockOf loops address block) where
  -- with the first so many of its exits
  abbrev filled_to : (count : ℕ) → List AlphaInstr
  filled_to count = fold (fill_exit pairs first) block.words (take count block.exits)

  filled_up : (count : ℕ) → count ≤ length block.exits → IsFilledUpTo pairs first block (filled_to count) count
  filled_up zero le = record {
    like = record { count = refl; same = λ word out. refl; quiet = λ word i is e. of.exits_quiet word i is e };
    encodable = of.encodable;
    exits = λ place exit lt e. absurd (omega arith);
  }
  filled_up (suc count) le =
      let up = filled_up count (omega arith) in
      let exit = get_or block.exits count (0, 0) in
      let code = exit_code (word_at pairs exit.1) (first + exit.0) exit.1 in
      let more = filled_more pairs first loops address block of block.exits count (filled_to count) (filled_to count) (with_exit (filled_to count) exit.0 code) code refl (omega arith) refl refl refl up in
      let next : count + 1 ≡ suc count = omega arith in
      let same : filled_to (count + 1) ≡ with_exit (filled_to count) exit.0 code = fold_more (fill_exit pairs first) block.words block.exits count (0, 0) (omega arith) in
      subst (λ n. IsFilledUpTo pairs first block (filled_to n) n) next (subst (λ (words : List AlphaInstr). IsFilledUpTo pairs first block words (count + 1)) (sym same) more.1)

  pub is_filled : IsFilled pairs first block (filled_words pairs first block)
  is_filled =
      let up = filled_up (length block.exits) (le_refl _) in
      let all : filled_to (length block.exits) ≡ filled_words pairs first block = ap (fold (fill_exit pairs first) block.words) (take_all (length block.exits) block.exits (le_refl _)) in
      subst (IsFilled pairs first block) all (record {
        like = up.like;
        encodable = up.encodable;
        exits = λ place exit e. up.exits place exit (slice_get_within block.exits place exit e) e;
      })

-- ---- the loop that fills them in
-- the exits up to one are filled in
abbrev pub FilledTo : List Pair → (first : ℕ) → BlockValue → List AlphaInstr → (count : ℕ) → Type 0
FilledTo pairs first block words count = words ≡ fold (fill_exit pairs first) block.words (take count block.exits)

pub filled_next : (pairs : List Pair) (first : ℕ) (block : BlockValue) (exits : List Exit) (count : ℕ) (words written new code : List AlphaInstr) → exits ≡ block.exits → count < length exits → written ≡ words
    → code ≡ exit_code (word_at pairs (get_or exits count (0, 0)).1) (first + (get_or exits count (0, 0)).0) (get_or exits count (0, 0)).1
    → new ≡ take (get_or exits count (0, 0)).0 written ++ (code ++ drop ((get_or exits count (0, 0)).0 + exit_words) written)
    → FilledTo pairs first block words count → FilledTo pairs first block new (count + 1)
filled_next pairs first block exits count words written new code are within is_written is_code is_new up =
    is_new
    ∙ ap (λ (ws : List AlphaInstr). with_exit ws (get_or exits count (0, 0)).0 code) (is_written ∙ up)
    ∙ ap (λ (is : List AlphaInstr). with_exit (fold (fill_exit pairs first) block.words (take count block.exits)) (get_or exits count (0, 0)).0 is) is_code
    ∙ ap (λ (es : List Exit). fill_exit pairs first (fold (fill_exit pairs first) block.words (take count block.exits)) (get_or es count (0, 0))) are
    ∙ sym (fold_more (fill_exit pairs first) block.words block.exits count (0, 0) (let same = ap length are in omega arith))

pub filled_whole : (pairs : List Pair) (first : ℕ) (block : BlockValue) (words : List AlphaInstr) (count : ℕ) → length block.exits ≤ count → FilledTo pairs first block words count → words ≡ filled_words pairs first block
filled_whole pairs first block words count late up = up ∙ ap (fold (fill_exit pairs first) block.words) (take_all count block.exits late)
