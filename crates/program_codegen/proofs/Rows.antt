-- The words of operations by themselves: their encodings, what they write, whether they may fault, and how many they are.
use Rattle.std.proofs.Common.{◌≡◌, ℕ, ◌+◌, ◌/◌, ◌%◌, ◌^◌, ◌<◌, ◌≤◌, refl, arith, rules, List, [], ◌∷◌, length, Bool, true, false, lit<, lit≤}
use Rattle.std.specs.Prelude.{pos, ◌&&◌, ◌||◌, not, nat_lt, nat_le, All, FitsSigned, if◌then◌else◌}
use Rattle.std.specs.Int.{w16}
use Rattle.std.specs.List.{list_all, list_any}
use Rattle.std.proofs.lemmas.Bool.Decides.{nat_tests}
use Rattle.std.proofs.lemmas.Int.{ints}
use Rattle.std.proofs.lemmas.List.Elements.{All-nil}
use Rattle.alpha_encode.proofs.SignedHalves.{half_fits}
use Rattle.vt_words.specs.Quad.{IsCount, one as c1, two as c2, four as c4, eight as c8}
use Rattle.vax_form.specs.declared.instr.Size.TheVariants.{Byte, Word, Long, Quad}
use Rattle.alpha_encode.specs.Words.{IsEncodable}
use Rattle.alpha_encode.specs.declared.instr.AlphaInstr.{AlphaInstr}
use Rattle.alpha_encode.specs.declared.instr.AlphaInstr.TheVariants.{Memory, Branch, Operate, Jump, Pal}
use Rattle.alpha_encode.specs.declared.instr.BranchOp.{BranchOp}
use Rattle.alpha_encode.specs.declared.instr.MemoryOp.TheVariants.{Lda, Ldah}
use Rattle.alpha_meaning.specs.Act.{links}
use Rattle.exception_records.specs.declared.rules.CodeRule.{CodeRule}
use Rattle.exception_records.specs.declared.rules.CodeRule.TheVariants as code_rules
use Rattle.micro_ops.specs.declared.program.LockedOp.{LockedOp}
use Rattle.micro_ops.specs.declared.program.LockedOp.TheVariants.{AddWord, SetBit, ClearBit}
use Rattle.micro_ops.specs.WordCounts.{by_count}
use Rattle.byte_sequences.specs.Instructions as bytes
use Rattle.byte_sequences.specs.Words.{locked_code}
use Rattle.byte_sequences.proofs.Encoded.{EachEncodable, all_encodable, encoded, bw_written}
use Rattle.compute_sequences.specs.Promises.{changes_only}
use Rattle.compute_sequences.specs.Registers.{IsTarget, may_change}
use Rattle.compute_sequences.specs.declared.overflow.Arithmetic.TheVariants.{Sum, Difference}
use Rattle.compute_sequences.proofs.OverflowLaws.{overflow_fine}
use Rattle.compute_sequences.proofs.Straight.{all_of, each_encodable}
use Rattle.block_law.specs.Tidy.{is_kept, register_written, may_fault}
use Rattle.alpha_encode.specs.Halves.{load_longword}
use Rattle.program_codegen.specs.Words.{width_of, overflow_made, read_by, write_by}
use Rattle.program_codegen.proofs.Shapes.{is_local}

-- ---- what is asked of words
-- no register is written that a boundary shows
abbrev pub is_free : AlphaInstr → Bool
is_free i = not (is_kept (register_written i))

-- a word of an operation's own
abbrev pub is_own : AlphaInstr → Bool
is_own i = is_local i && is_free i

-- that makes no access
abbrev pub is_silent : AlphaInstr → Bool
is_silent i = not (may_fault i) && is_local i && is_free i

pub list_all_of : (f g : AlphaInstr → Bool) → ((i : AlphaInstr) → f i ≡ true → g i ≡ true) → (is : List AlphaInstr) → list_all f is ≡ true → list_all g is ≡ true
list_all_of f g h [] e = refl
list_all_of f g h (i ∷ is) e = by (f i) (list_all f is) (h i) (list_all_of f g h is) e
  where
    by : (a b : Bool) → (a ≡ true → g i ≡ true) → (b ≡ true → list_all g is ≡ true) → (a && b) ≡ true → (g i && list_all g is) ≡ true
    by true true here rest e = rw (here refl, rest refl) refl
    by true false here rest e = absurd (cc e)
    by false b here rest e = absurd (cc e)

pub own_local : (i : AlphaInstr) → is_own i ≡ true → is_local i ≡ true
own_local i e = by (is_local i) (is_free i) e
  where
    by : (a b : Bool) → (a && b) ≡ true → a ≡ true
    by true b e = refl
    by false b e = absurd (cc e)

pub own_free : (i : AlphaInstr) → is_own i ≡ true → is_free i ≡ true
own_free i e = by (is_local i) (is_free i) e
  where
    by : (a b : Bool) → (a && b) ≡ true → b ≡ true
    by true b e = e
    by false b e = absurd (cc e)

pub silent_own : (i : AlphaInstr) → is_silent i ≡ true → is_own i ≡ true
silent_own i e = by (may_fault i) (is_local i) (is_free i) e
  where
    by : (f a b : Bool) → (not f && a && b) ≡ true → (a && b) ≡ true
    by true a b e = absurd (cc e)
    by false a b e = e

pub silent_quiet : (is : List AlphaInstr) → list_all is_silent is ≡ true → list_any may_fault is ≡ false
silent_quiet [] e = refl
silent_quiet (i ∷ is) e = by (may_fault i) (is_local i) (is_free i) (list_all is_silent is) (silent_quiet is) e
  where
    by : (f a b c : Bool) → (c ≡ true → list_any may_fault is ≡ false) → ((not f && a && b) && c) ≡ true → (f || list_any may_fault is) ≡ false
    by false true true true rest e = rest refl
    by false true true false rest e = absurd (cc e)
    by false true false c rest e = absurd (cc e)
    by false false b c rest e = absurd (cc e)
    by true a b c rest e = absurd (cc e)

-- ---- computations
free_target : (to n : ℕ) → 21 ≤ to → to ≤ 26 → may_change to n ≡ true → not (is_kept n) ≡ true
free_target to n low high e = grind (arith, nat_tests, e)

pub changes_silent : (to : ℕ) → IsTarget to → (i : AlphaInstr) → changes_only (may_change to) i ≡ true → is_silent i ≡ true
changes_silent to is (Memory Lda ra rb disp) e = free_target to ra is.low is.high e
changes_silent to is (Memory Ldah ra rb disp) e = free_target to ra is.low is.high e
changes_silent to is (Memory op ra rb disp) e = absurd (cc e)
changes_silent to is (Branch op ra disp) e = by (links op) e
  where
    by : (b : Bool) → not b ≡ true → not (is_kept (if b then ra else 31)) ≡ true
    by true e = absurd (cc e)
    by false e = refl
changes_silent to is (Operate op ra rb rc) e = free_target to rc is.low is.high e
changes_silent to is (Jump ra rb) e = absurd (cc e)
changes_silent to is (Pal number) e = absurd (cc e)

-- ---- operands in memory
module _ (place to : ℕ) (place_fits : place < 32) (to_fits : to < 32) where
  read_each : (byte_word : Bool) (count : ℕ) → IsCount count → EachEncodable (read_by byte_word place count to)
  read_each false count c1 = search rules
  read_each false count c2 = search rules
  read_each false count c4 = search rules
  read_each false count c8 = search rules
  read_each true count c1 = search rules
  read_each true count c2 = search rules
  read_each true count c4 = search rules
  read_each true count c8 = search rules

  locked_each : (source : ℕ) → source < 32 → (kind : LockedOp) → EachEncodable (locked_code kind place source to)
  locked_each source source_fits AddWord = search rules
  locked_each source source_fits SetBit = search rules
  locked_each source source_fits ClearBit = search rules

pub read_encodable : (byte_word : Bool) (place count to : ℕ) → IsCount count → place < 32 → to < 32 → All IsEncodable (read_by byte_word place count to)
read_encodable byte_word place count to is place_fits to_fits = all_encodable (read_by byte_word place count to) (read_each place to place_fits to_fits byte_word count is)

pub write_encodable : (byte_word : Bool) (place count source : ℕ) → IsCount count → bytes.IsArgument place → bytes.IsArgument source → All IsEncodable (write_by byte_word place count source)
write_encodable false = encoded
write_encodable true = bw_written

pub locked_encodable : (kind : LockedOp) (place source to : ℕ) → place < 32 → source < 32 → to < 32 → All IsEncodable (locked_code kind place source to)
locked_encodable kind place source to place_fits source_fits to_fits = all_encodable (locked_code kind place source to) (locked_each place to place_fits to_fits source source_fits kind)

module _ (to : ℕ) (low : 21 ≤ to) (high : to ≤ 24) where
  not_below : nat_lt to 21 ≡ false
  not_below = grind (arith, nat_tests)

  not_above : nat_le 28 to ≡ false
  not_above = grind (arith, nat_tests)

  pub read_own : (byte_word : Bool) (place count : ℕ) → IsCount count → list_all is_own (read_by byte_word place count to) ≡ true
  read_own false place count c1 = rw (not_below, not_above) refl
  read_own false place count c2 = rw (not_below, not_above) refl
  read_own false place count c4 = rw (not_below, not_above) refl
  read_own false place count c8 = rw (not_below, not_above) refl
  read_own true place count c1 = rw (not_below, not_above) refl
  read_own true place count c2 = rw (not_below, not_above) refl
  read_own true place count c4 = rw (not_below, not_above) refl
  read_own true place count c8 = rw (not_below, not_above) refl

  pub locked_own : (place source : ℕ) (kind : LockedOp) → list_all is_own (locked_code kind place source to) ≡ true
  locked_own place source AddWord = rw (not_below, not_above) refl
  locked_own place source SetBit = rw (not_below, not_above) refl
  locked_own place source ClearBit = rw (not_below, not_above) refl

pub write_own : (byte_word : Bool) (place count source : ℕ) → IsCount count → list_all is_own (write_by byte_word place count source) ≡ true
write_own false place count source c1 = refl
write_own false place count source c2 = refl
write_own false place count source c4 = refl
write_own false place count source c8 = refl
write_own true place count source c1 = refl
write_own true place count source c2 = refl
write_own true place count source c4 = refl
write_own true place count source c8 = refl

pub read_short : (byte_word : Bool) (place count to : ℕ) → IsCount count → length (read_by byte_word place count to) ≤ by_count count 4 12 12
read_short false place count to c1 = lit≤ tt
read_short false place count to c2 = lit≤ tt
read_short false place count to c4 = lit≤ tt
read_short false place count to c8 = lit≤ tt
read_short true place count to c1 = lit≤ tt
read_short true place count to c2 = lit≤ tt
read_short true place count to c4 = lit≤ tt
read_short true place count to c8 = lit≤ tt

pub write_short : (byte_word : Bool) (place count source : ℕ) → IsCount count → length (write_by byte_word place count source) ≤ by_count count 8 20 24
write_short false place count source c1 = lit≤ tt
write_short false place count source c2 = lit≤ tt
write_short false place count source c4 = lit≤ tt
write_short false place count source c8 = lit≤ tt
write_short true place count source c1 = lit≤ tt
write_short true place count source c2 = lit≤ tt
write_short true place count source c4 = lit≤ tt
write_short true place count source c8 = lit≤ tt

pub locked_short : (kind : LockedOp) (place source to : ℕ) → length (locked_code kind place source to) ≤ 12
locked_short AddWord place source to = lit≤ tt
locked_short SetBit place source to = lit≤ tt
locked_short ClearBit place source to = lit≤ tt

pub small_fits : (n : ℕ) → n < 2 ^ 15 → FitsSigned w16 (pos n)
small_fits n lt = record { sfits = grind (arith, ints) }

pub load_each : (to address : ℕ) → to < 32 → EachEncodable (load_longword to address)
load_each to address lt = ((lt, lit< tt, half_fits ((address + 2 ^ 15) / 2 ^ 16 % 2 ^ 16) (omega arith)), ((lt, lt, half_fits (address % 2 ^ 16) (omega arith)), tt))

pub load_encodable : (to address : ℕ) → to < 32 → All IsEncodable (load_longword to address)
load_encodable to address lt = all_encodable (load_longword to address) (load_each to address lt)

pub branch_encodable : (op : BranchOp) (ra n : ℕ) → ra < 32 → n < 2 ^ 20 → IsEncodable (Branch op ra (pos n))
branch_encodable op ra n lt small = (lt, grind (arith, ints), grind (arith, ints))

-- ---- V made for the trap
pub made_encodable : (rule : CodeRule) → All IsEncodable (overflow_made rule)
made_encodable (code_rules.Add size) = all_of IsEncodable _ (each_encodable (may_change 24) _ (overflow_fine Sum (width_of size) 28 29 24 (record { low = lit≤ tt; high = lit≤ tt }) (lit< tt) (lit< tt)))
made_encodable (code_rules.Sub size) = all_of IsEncodable _ (each_encodable (may_change 24) _ (overflow_fine Difference (width_of size) 28 29 24 (record { low = lit≤ tt; high = lit≤ tt }) (lit< tt) (lit< tt)))
made_encodable rule = All-nil IsEncodable

pub made_silent : (rule : CodeRule) → list_all is_silent (overflow_made rule) ≡ true
made_silent (code_rules.Add Byte) = refl
made_silent (code_rules.Add Word) = refl
made_silent (code_rules.Add Long) = refl
made_silent (code_rules.Add Quad) = refl
made_silent (code_rules.Sub Byte) = refl
made_silent (code_rules.Sub Word) = refl
made_silent (code_rules.Sub Long) = refl
made_silent (code_rules.Sub Quad) = refl
made_silent rule = refl

pub made_short : (rule : CodeRule) → length (overflow_made rule) ≤ 9
made_short (code_rules.Add Byte) = lit≤ tt
made_short (code_rules.Add Word) = lit≤ tt
made_short (code_rules.Add Long) = lit≤ tt
made_short (code_rules.Add Quad) = lit≤ tt
made_short (code_rules.Sub Byte) = lit≤ tt
made_short (code_rules.Sub Word) = lit≤ tt
made_short (code_rules.Sub Long) = lit≤ tt
made_short (code_rules.Sub Quad) = lit≤ tt
made_short rule = lit≤ tt
