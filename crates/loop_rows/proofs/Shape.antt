-- The blocks by themselves: their words have encodings and are tidy, and their points are the instruction's.
use Rattle.std.proofs.Common.{◌≡◌, ℕ, zero, suc, ◌+◌, ◌<◌, ◌≤◌, ◌^◌, refl, subst, arith, List, [], ◌∷◌, ◌++◌, length, Some, Bool, true, false, rules, lit<, lit≤}
use Rattle.std.specs.Prelude.{◌==◌, ◌&&◌, ◌||◌, nat_le, nat_lt, slice_get}
use Rattle.std.proofs.lemmas.Bool.Decides.{nat_tests}
use Rattle.std.proofs.lemmas.Bool.{eqb-true}
use Rattle.std.proofs.lemmas.List.Elements.{All-cons, All-nil}
use Rattle.byte_sequences.proofs.Encoded.{EachEncodable, all_encodable}
use Rattle.exception_records.specs.Points.{Entry, WordsRise, point_at}
use Rattle.exception_records.specs.declared.points.Point.{Point}
use Rattle.alpha_encode.specs.NoOperation.{nop}
use Rattle.alpha_encode.specs.declared.registers.TheConstants.{TEMPORARIES, ZERO}
use Rattle.alpha_encode.specs.declared.instr.AlphaInstr.{AlphaInstr}
use Rattle.alpha_encode.specs.declared.instr.AlphaInstr.TheVariants.{Operate}
use Rattle.alpha_encode.specs.declared.instr.OperateOp.TheVariants.{Addq}
use Rattle.alpha_encode.specs.declared.instr.Second.TheVariants.{Register}
use Rattle.block_law.specs.Blocks.{is_exit_word, is_quiet, IsExitOf, IsPointOf, IsBlockOf}
use Rattle.loop_rows.specs.Copying.{copy_value, copy_words, point_of, probe_words, turn_words}
use Rattle.loop_rows.specs.Measuring.{length_words, measured_value, measured_words, word_point}

copy_encodable : EachEncodable copy_words
copy_encodable = search rules

measured_encodable : EachEncodable measured_words
measured_encodable = search rules

-- ---- the words of an exit do nothing
nop_is_quiet : (i : AlphaInstr) → Some nop ≡ Some i → is_quiet i ≡ true
nop_is_quiet i e = let same : nop ≡ i = cc e in subst (λ (x : AlphaInstr). is_quiet x ≡ true) same refl

quiet_behind : (front : List AlphaInstr) (word : ℕ) (i : AlphaInstr) → length front ≤ word → slice_get (front ++ nop ∷ nop ∷ nop ∷ []) word ≡ Some i → is_quiet i ≡ true
quiet_behind [] zero i le e = nop_is_quiet i e
quiet_behind [] (suc zero) i le e = nop_is_quiet i e
quiet_behind [] (suc (suc zero)) i le e = nop_is_quiet i e
quiet_behind [] (suc (suc (suc k))) i le e = absurd (cc e)
quiet_behind (x ∷ front) zero i le e = absurd (omega arith)
quiet_behind (x ∷ front) (suc k) i le e = quiet_behind front k i (omega arith) e

exit_low : (exit after word : ℕ) → is_exit_word ((exit, after) ∷ []) word ≡ true → exit ≤ word
exit_low exit after word e = by (nat_le exit word) (nat_lt word (exit + 3)) refl e
  where
    by : (a b : Bool) → nat_le exit word ≡ a → ((a && b) || false) ≡ true → exit ≤ word
    by true b is e = grind (arith, nat_tests, is)
    by false b is e = absurd (cc e)

-- ---- what each point has, the point at a word has
abbrev EachPoint : (ℕ → Point → Type 0) → List Entry → Type 0
EachPoint Q [] = Unit {0}
EachPoint Q (p ∷ ps) = Q p.0 p.1 × EachPoint Q ps

some_same : (x y : Point) → Some x ≡ Some y → x ≡ y
some_same x y e = cc e

each_point : (Q : ℕ → Point → Type 0) (points : List Entry) → EachPoint Q points → (word : ℕ) (point : Point) → point_at points word ≡ Some point → Q word point
each_point Q [] h word point e = absurd (cc e)
each_point Q (p ∷ ps) h word point e = by (p.0 == word) refl (each_point Q ps h.1 word point)
  where
    by : (b : Bool) → (p.0 == word) ≡ b → (point_at ps word ≡ Some point → Q word point) → Q word point
    by true is behind = let same : p.1 ≡ point = some_same p.1 point (rw is at e) in subst (Q word) same (subst (λ n. Q n p.1) (eqb-true p.0 word is) h.0)
    by false is behind = behind (rw is at e)

-- ---- the blocks
pub copy_is_block : (address after : ℕ) → after < 2 ^ 32 → IsBlockOf true address (copy_value address after)
copy_is_block address after small = record {
  tidy = record { some = lit≤ tt; few = lit≤ tt; keeps = refl; translated = refl };
  encodable = all_encodable copy_words copy_encodable;
  exits = All-cons (IsExitOf (copy_value address after)) (22, after) [] (lit≤ tt, small) (All-nil (IsExitOf (copy_value address after)));
  exits_apart = λ k d lt. absurd (omega arith);
  exits_quiet = λ word i is e. quiet_behind (Operate Addq ZERO (Register 0) TEMPORARIES ∷ probe_words ++ turn_words) word i (exit_low 22 after word is) e;
  points_rise = rising;
  points = each_point (IsPointOf address (copy_value address after)) (copy_value address after).points (record { within = lit< tt; no_exit = refl; its = refl; done = refl }, (record { within = lit< tt; no_exit = refl; its = refl; done = refl }, (record { within = lit< tt; no_exit = refl; its = refl; done = refl }, tt)));
  first = point_of address false;
  has_first = refl;
}
  where
    rising : WordsRise (copy_value address after).points
    rising zero d lt = lit< tt
    rising (suc zero) d lt = lit< tt
    rising (suc (suc k)) d lt = absurd (omega arith)

pub measured_is_block : (address after : ℕ) → after < 2 ^ 32 → IsBlockOf true address (measured_value address after)
measured_is_block address after small = record {
  tidy = record { some = lit≤ tt; few = lit≤ tt; keeps = refl; translated = refl };
  encodable = all_encodable measured_words measured_encodable;
  exits = All-cons (IsExitOf (measured_value address after)) (33, after) [] (lit≤ tt, small) (All-nil (IsExitOf (measured_value address after)));
  exits_apart = λ k d lt. absurd (omega arith);
  exits_quiet = λ word i is e. quiet_behind (length_words ++ probe_words ++ turn_words) word i (exit_low 33 after word is) e;
  points_rise = rising;
  points = each_point (IsPointOf address (measured_value address after)) (measured_value address after).points (record { within = lit< tt; no_exit = refl; its = refl; done = refl }, (record { within = lit< tt; no_exit = refl; its = refl; done = refl }, (record { within = lit< tt; no_exit = refl; its = refl; done = refl }, (record { within = lit< tt; no_exit = refl; its = refl; done = refl }, tt))));
  first = word_point address;
  has_first = refl;
}
  where
    rising : WordsRise (measured_value address after).points
    rising zero d lt = lit< tt
    rising (suc zero) d lt = lit< tt
    rising (suc (suc zero)) d lt = lit< tt
    rising (suc (suc (suc k))) d lt = absurd (omega arith)
