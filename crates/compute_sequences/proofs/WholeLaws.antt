-- Computations as a whole: what their words leave, how many they are, and their encodings.
use Rattle.std.proofs.Common.{◌≡◌, ℕ, ◌+◌, ◌^◌, ◌<◌, ◌≤◌, refl, sym, ap, ◌∙◌, arith, List, [], ◌∷◌, ◌++◌, length, Bool, true, false, eqb, eqb-true, ne_eqb, lit<, lit≤}
use Rattle.std.specs.Prelude.{All, ◌&&◌, nat_lt, if◌then◌else◌}
use Rattle.std.proofs.lemmas.Bool.Decides.{nat_tests}
use Rattle.std.specs.List.{list_all}
use Rattle.std.proofs.lemmas.Bool.{ltb-true}
use Rattle.std.proofs.lemmas.List.{length-append}
use Rattle.vax_form.specs.declared.instr.Size.{Size}
use Rattle.vax_form.specs.declared.instr.Size.TheVariants.{Byte, Word, Long, Quad}
use Rattle.alpha_encode.specs.declared.instr.AlphaInstr.{AlphaInstr}
use Rattle.alpha_encode.specs.Words.{IsEncodable}
use Rattle.alpha_meaning.specs.State.{Regs}
use Rattle.micro_ops.specs.declared.program.Arg.{Arg}
use Rattle.micro_ops.specs.declared.program.Arg.TheVariants as arguments
use Rattle.micro_ops.specs.declared.program.Micro.TheVariants.{Compute}
use Rattle.micro_ops.specs.declared.program.MicroOp.{MicroOp}
use Rattle.micro_ops.specs.declared.program.MicroOp.TheVariants.{Move, Add, AndNot, Sub, Mul, Xor, Equal, Less, LessUnsigned, SignExtend, ZeroExtend}
use Rattle.micro_ops.specs.Uses.{is_unary}
use Rattle.micro_ops.specs.Values.{limit_of, low, value_from}
use Rattle.micro_ops.specs.WordCounts.{operation_words, argument_words, has_literal, is_literal, by_size, words_of}
use Rattle.compute_sequences.specs.Registers.{IsTarget, IsArgument, register_at, value_at, may_change}
use Rattle.compute_sequences.specs.Constants.{low_long, load_short}
use Rattle.compute_sequences.specs.Words.{load_code, first_register, is_constant, is_zero, constant_of, is_short, is_displacement, takes_literal, takes_zero, is_moved, is_sum, is_clearing, is_low_bytes, low_cleared, displaced, literal_form, zero_form, register_code, compute_code}
use Rattle.compute_sequences.specs.Promises.{IsComputed, LeavesComputed, LeavesAt, changes_only}
use Rattle.compute_sequences.proofs.Straight.{Fine, Each, each_append, each_encodable, each_writes, all_of, all_writes, afters, afters_append, straight}
use Rattle.compute_sequences.proofs.ConstantLaws.{target_real, target_fits, may_target}
use Rattle.compute_sequences.proofs.FineLaws.{load_length}
use Rattle.compute_sequences.proofs.Placing.{first_placed, first_fits, only_first}
use Rattle.compute_sequences.proofs.ComputeLaws.{first_fine}
use Rattle.compute_sequences.proofs.LiteralLaws.{literal_is, displaced_is, cleared_is, short_is, zero_is}
use Rattle.compute_sequences.proofs.LiteralFine.{literal_fine, displaced_fine, cleared_fine, short_fine, zero_fine, literal_length, literal_few, displaced_length, zero_length}
use Rattle.compute_sequences.proofs.RegisterLaws.{leaves_by_registers, registers_length, registers_encodable, registers_writes}

-- ---- tests
both : (a b : Bool) → (a && b) ≡ true → (a ≡ true) × (b ≡ true)
both true b e = (refl, e)
both false b e = cc

constant_is : (has : ℕ → Bool) (arg : Arg) → is_constant has arg ≡ true → has (constant_of arg) ≡ true
constant_is has (arguments.Const value) e = e
constant_is has arg e = cc

constant_value : (has : ℕ → Bool) (arg : Arg) → is_constant has arg ≡ true → (f : Regs) → value_at f arg ≡ constant_of arg
constant_value has (arguments.Const value) e f = refl
constant_value has arg e f = cc

constant_words : (has : ℕ → Bool) (arg : Arg) → is_constant has arg ≡ true → (size : Size) → argument_words arg size ≡ by_size size 1 2 5
constant_words has (arguments.Const value) e size = refl
constant_words has arg e size = cc

literal_two : (op : MicroOp) (size : Size) (value : ℕ) → takes_literal op size value ≡ true → is_unary op ≡ false
literal_two Move size value e = cc
literal_two SignExtend size value e = cc
literal_two ZeroExtend size value e = cc
literal_two op size value e = refl

zero_two : (op : MicroOp) → takes_zero op ≡ true → is_unary op ≡ false
zero_two Sub e = refl
zero_two Less e = refl
zero_two LessUnsigned e = refl
zero_two op e = cc

-- the words have a property where those of each form have it
module _ (P : List AlphaInstr → Type 0) (op : MicroOp) (size : Size) (a b : Arg) (to : ℕ) where
  abbrev Short : Type 0
  Short = is_moved op ≡ true → is_constant (is_short size) a ≡ true → P (load_short to (low_long (constant_of a)) ∷ [])

  abbrev Displaced : Type 0
  Displaced = is_sum op ≡ true → is_constant (is_displacement size) b ≡ true → P (load_code size a 27 ++ displaced size (first_register size a) (constant_of b) to)

  abbrev Cleared : Type 0
  Cleared = is_clearing op ≡ true → is_constant is_low_bytes b ≡ true → P (load_code size a 27 ++ low_cleared size (first_register size a) (constant_of b) to)

  abbrev ByLiteral : Type 0
  ByLiteral = is_constant (takes_literal op size) b ≡ true → P (load_code size a 27 ++ literal_form op size (first_register size a) (constant_of b) to)

  abbrev FromZero : Type 0
  FromZero = takes_zero op ≡ true → is_constant is_zero a ≡ true → P (load_code size b 27 ++ zero_form op size (first_register size b) to)

  -- where the second argument is no literal
  abbrev Else : Type 0 → Type 0
  Else X = is_constant (takes_literal op size) b ≡ false → X

  each_form : Short → Displaced → Cleared → ByLiteral → Else FromZero → Else (P (register_code op size a b to)) → P (compute_code op size a b to)
  each_form short sum clear literal zero others = first (is_moved op && is_constant (is_short size) a) refl
    where
      fourth : (t : Bool) → is_constant (takes_literal op size) b ≡ false → (takes_zero op && is_constant is_zero a) ≡ t
          → P (if t then load_code size b 27 ++ zero_form op size (first_register size b) to else register_code op size a b to)
      fourth true none e = let x = both (takes_zero op) (is_constant is_zero a) e in zero none x.0 x.1
      fourth false none e = others none

      third : (t : Bool) → is_constant (takes_literal op size) b ≡ t
          → P (if t then load_code size a 27 ++ literal_form op size (first_register size a) (constant_of b) to
          else if takes_zero op && is_constant is_zero a then load_code size b 27 ++ zero_form op size (first_register size b) to
          else register_code op size a b to)
      third true e = literal e
      third false e = fourth (takes_zero op && is_constant is_zero a) e refl

      between : (t : Bool) → (is_clearing op && is_constant is_low_bytes b) ≡ t
          → P (if t then load_code size a 27 ++ low_cleared size (first_register size a) (constant_of b) to
          else if is_constant (takes_literal op size) b then load_code size a 27 ++ literal_form op size (first_register size a) (constant_of b) to
          else if takes_zero op && is_constant is_zero a then load_code size b 27 ++ zero_form op size (first_register size b) to
          else register_code op size a b to)
      between true e = let x = both (is_clearing op) (is_constant is_low_bytes b) e in clear x.0 x.1
      between false e = third (is_constant (takes_literal op size) b) refl

      second : (t : Bool) → (is_sum op && is_constant (is_displacement size) b) ≡ t
          → P (if t then load_code size a 27 ++ displaced size (first_register size a) (constant_of b) to
          else if is_clearing op && is_constant is_low_bytes b then load_code size a 27 ++ low_cleared size (first_register size a) (constant_of b) to
          else if is_constant (takes_literal op size) b then load_code size a 27 ++ literal_form op size (first_register size a) (constant_of b) to
          else if takes_zero op && is_constant is_zero a then load_code size b 27 ++ zero_form op size (first_register size b) to
          else register_code op size a b to)
      second true e = let x = both (is_sum op) (is_constant (is_displacement size) b) e in sum x.0 x.1
      second false e = between (is_clearing op && is_constant is_low_bytes b) refl

      first : (t : Bool) → (is_moved op && is_constant (is_short size) a) ≡ t
          → P (if t then load_short to (low_long (constant_of a)) ∷ []
          else if is_sum op && is_constant (is_displacement size) b then load_code size a 27 ++ displaced size (first_register size a) (constant_of b) to
          else if is_clearing op && is_constant is_low_bytes b then load_code size a 27 ++ low_cleared size (first_register size a) (constant_of b) to
          else if is_constant (takes_literal op size) b then load_code size a 27 ++ literal_form op size (first_register size a) (constant_of b) to
          else if takes_zero op && is_constant is_zero a then load_code size b 27 ++ zero_form op size (first_register size b) to
          else register_code op size a b to)
      first true e = let x = both (is_moved op) (is_constant (is_short size) a) e in short x.0 x.1
      first false e = second (is_sum op && is_constant (is_displacement size) b) refl

module _ (to : ℕ) (is : IsTarget to) where
  -- ---- words behind those of an argument
  module _ (size : Size) (a : Arg) (a_is : IsArgument a) where
    x_fits : first_register size a < 32
    x_fits = first_fits size a a to is (λ n. 0) refl a_is (lit< tt)

    behind_fine : (words : List AlphaInstr) → Each (Fine (may_change to)) words → Each (Fine (may_change to)) (load_code size a 27 ++ words)
    behind_fine words fine = each_append (Fine (may_change to)) (load_code size a 27) words (first_fine size a to is a_is) fine

    -- what they leave of the low bytes of the argument
    behind_is : (words : List AlphaInstr) (wanted : ℕ → ℕ) (f : Regs) → f 31 ≡ 0 → f (register_at a) < 2 ^ 64
        → ((g : Regs) → g 31 ≡ 0 → g (first_register size a) < 2 ^ 64 → afters words g to ≡ wanted (low size (g (first_register size a))))
        → afters (load_code size a 27 ++ words) f to ≡ wanted (low size (value_at f a))
    behind_is words wanted f zero fits law =
        let placed = first_placed size a a to is f zero a_is fits in
        let g = afters (load_code size a 27) f in
        ap (λ (h : Regs). h to) (afters_append (load_code size a 27) words f)
        ∙ (law g (only_first size a a to is f zero a_is fits 31 refl ∙ zero) placed.fits ∙ ap wanted placed.low_bytes)

  apart : eqb 31 to ≡ false
  apart = let high = is.high in ne_eqb 31 to (λ (e : 31 ≡ to). absurd (omega (arith, high, e)))

  zero_is_low : (value : ℕ) → is_zero value ≡ true → value ≡ 0
  zero_is_low value e = eqb-true value 0 e

  -- ---- what they leave
  module _ (a b : Arg) (a_is : IsArgument a) where
    moved_leaves : (op : MicroOp) (size : Size) → is_moved op ≡ true → is_constant (is_short size) a ≡ true → (f : Regs) → f 31 ≡ 0
        → LeavesAt (IsComputed op size a b to f) to (load_short to (low_long (constant_of a)) ∷ []) f
    unfolding value_from
    moved_leaves Move size m e f zero =
        let x = both (nat_lt (constant_of a) (limit_of size)) (nat_lt (constant_of a) (2 ^ 15)) (constant_is (is_short size) a e) in
        straight (IsComputed Move size a b to f) to (load_short to (low_long (constant_of a)) ∷ []) f
        (short_fine (may_change to) to to (target_fits to is) (target_fits to is) (may_target to) (constant_of a))
        (short_is f to to (target_real to is) size (constant_of a) zero (ltb-true (constant_of a) (2 ^ 15) x.1) (ltb-true (constant_of a) (limit_of size) x.0)
        ∙ ap (low size) (sym (constant_value (is_short size) a e f)))
    moved_leaves ZeroExtend size m e f zero =
        let x = both (nat_lt (constant_of a) (limit_of size)) (nat_lt (constant_of a) (2 ^ 15)) (constant_is (is_short size) a e) in
        straight (IsComputed ZeroExtend size a b to f) to (load_short to (low_long (constant_of a)) ∷ []) f
        (short_fine (may_change to) to to (target_fits to is) (target_fits to is) (may_target to) (constant_of a))
        (short_is f to to (target_real to is) size (constant_of a) zero (ltb-true (constant_of a) (2 ^ 15) x.1) (ltb-true (constant_of a) (limit_of size) x.0)
        ∙ ap (low size) (sym (constant_value (is_short size) a e f)))
    moved_leaves op size m e f zero = cc

    displaced_leaves : (op : MicroOp) (size : Size) → is_sum op ≡ true → is_constant (is_displacement size) b ≡ true → (f : Regs) → f 31 ≡ 0 → f (register_at a) < 2 ^ 64
        → LeavesAt (IsComputed op size a b to f) to (load_code size a 27 ++ displaced size (first_register size a) (constant_of b) to) f
    displaced_leaves Add size m e f zero fits =
        straight (IsComputed Add size a b to f) to (load_code size a 27 ++ displaced size (first_register size a) (constant_of b) to) f
        (behind_fine size a a_is (displaced size (first_register size a) (constant_of b) to) (displaced_fine (may_change to) (first_register size a) to (x_fits size a a_is) (target_fits to is) (may_target to) size (constant_of b)))
        (behind_is size a a_is (displaced size (first_register size a) (constant_of b) to) (λ n. value_from Add size n (low size (constant_of b)) (f to)) f zero fits
        (λ g z lt. displaced_is g (first_register size a) to (target_real to is) size (constant_of b) (f to) (constant_is (is_displacement size) b e))
        ∙ ap (λ v. value_from Add size (low size (value_at f a)) (low size v) (f to)) (sym (constant_value (is_displacement size) b e f)))
    displaced_leaves op size m e f zero fits = cc

    cleared_leaves : (op : MicroOp) (size : Size) → is_clearing op ≡ true → is_constant is_low_bytes b ≡ true → (f : Regs) → f 31 ≡ 0 → f (register_at a) < 2 ^ 64
        → LeavesAt (IsComputed op size a b to f) to (load_code size a 27 ++ low_cleared size (first_register size a) (constant_of b) to) f
    cleared_leaves AndNot size m e f zero fits =
        straight (IsComputed AndNot size a b to f) to (load_code size a 27 ++ low_cleared size (first_register size a) (constant_of b) to) f
        (behind_fine size a a_is (low_cleared size (first_register size a) (constant_of b) to) (cleared_fine (may_change to) (first_register size a) to (x_fits size a a_is) (target_fits to is) (may_target to) size (constant_of b)))
        (behind_is size a a_is (low_cleared size (first_register size a) (constant_of b) to) (λ n. value_from AndNot size n (low size (constant_of b)) (f to)) f zero fits
        (λ g z lt. cleared_is g (first_register size a) to (target_real to is) size (constant_of b) (f to) (constant_is is_low_bytes b e))
        ∙ ap (λ v. value_from AndNot size (low size (value_at f a)) (low size v) (f to)) (sym (constant_value is_low_bytes b e f)))
    cleared_leaves op size m e f zero fits = cc

    literal_leaves : (op : MicroOp) (size : Size) → is_constant (takes_literal op size) b ≡ true → (f : Regs) → f 31 ≡ 0 → f (register_at a) < 2 ^ 64
        → LeavesAt (IsComputed op size a b to f) to (load_code size a 27 ++ literal_form op size (first_register size a) (constant_of b) to) f
    literal_leaves op size e f zero fits =
        let takes = constant_is (takes_literal op size) b e in
        straight (IsComputed op size a b to f) to (load_code size a 27 ++ literal_form op size (first_register size a) (constant_of b) to) f
        (behind_fine size a a_is (literal_form op size (first_register size a) (constant_of b) to) (literal_fine (may_change to) (first_register size a) to (x_fits size a a_is) (target_fits to is) (may_target to) op size (constant_of b) takes))
        (behind_is size a a_is (literal_form op size (first_register size a) (constant_of b) to) (λ n. value_from op size n (low size (constant_of b)) (f to)) f zero fits
        (λ g z lt. literal_is g (first_register size a) to (target_real to is) op size (constant_of b) (f to) takes lt)
        ∙ ap (λ v. value_from op size (low size (value_at f a)) (low size v) (f to)) (sym (constant_value (takes_literal op size) b e f)))

    zero_leaves : (op : MicroOp) (size : Size) → takes_zero op ≡ true → is_constant is_zero a ≡ true → IsArgument b → (f : Regs) → f 31 ≡ 0 → f (register_at b) < 2 ^ 64
        → LeavesAt (IsComputed op size a b to f) to (load_code size b 27 ++ zero_form op size (first_register size b) to) f
    zero_leaves op size takes e b_is f zero fits =
        straight (IsComputed op size a b to f) to (load_code size b 27 ++ zero_form op size (first_register size b) to) f
        (behind_fine size b b_is (zero_form op size (first_register size b) to) (zero_fine (may_change to) (first_register size b) to (x_fits size b b_is) (target_fits to is) (may_target to) op size))
        (behind_is size b b_is (zero_form op size (first_register size b) to) (λ n. value_from op size (low size 0) n (f to)) f zero fits
        (λ g z lt. zero_is g (first_register size b) to (target_real to is) apart (x_fits size b b_is) (target_fits to is) z lt op size (f to) takes)
        ∙ ap (λ v. value_from op size (low size v) (low size (value_at f b)) (f to))
        (sym (constant_value is_zero a e f ∙ zero_is_low (constant_of a) (constant_is is_zero a e))))

module _ (a b : Arg) (to : ℕ) (a_is : IsArgument a) (is : IsTarget to) where
  pub leaves_computed : (op : MicroOp) (size : Size) → (is_unary op ≡ false → IsArgument b) → LeavesComputed op size a b to (compute_code op size a b to)
  leaves_computed op size b_is f may =
      each_form (λ words. LeavesAt (IsComputed op size a b to f) to words f) op size a b to
      (λ m e. moved_leaves to is a b a_is op size m e f may.zero)
      (λ m e. displaced_leaves to is a b a_is op size m e f may.zero may.first)
      (λ m e. cleared_leaves to is a b a_is op size m e f may.zero may.first)
      (λ e. literal_leaves to is a b a_is op size e f may.zero may.first)
      (λ none t e. zero_leaves to is a b a_is op size t e (b_is (zero_two op t)) f may.zero (may.second (zero_two op t)))
      (λ none. leaves_by_registers a b to a_is is op size b_is f may)

  -- ---- their encodings, and what they write
  fine_forms : (P : List AlphaInstr → Type 0) → ((words : List AlphaInstr) → Each (Fine (may_change to)) words → P words) → (op : MicroOp) (size : Size) → (is_unary op ≡ false → IsArgument b)
      → P (register_code op size a b to) → P (compute_code op size a b to)
  fine_forms P of op size b_is others =
      each_form P op size a b to
      (λ m e. of _ (short_fine (may_change to) to to (target_fits to is) (target_fits to is) (may_target to) (constant_of a)))
      (λ m e. of _ (behind_fine to is size a a_is _ (displaced_fine (may_change to) (first_register size a) to (x_fits to is size a a_is) (target_fits to is) (may_target to) size (constant_of b))))
      (λ m e. of _ (behind_fine to is size a a_is _ (cleared_fine (may_change to) (first_register size a) to (x_fits to is size a a_is) (target_fits to is) (may_target to) size (constant_of b))))
      (λ e. of _ (behind_fine to is size a a_is _ (literal_fine (may_change to) (first_register size a) to (x_fits to is size a a_is) (target_fits to is) (may_target to) op size (constant_of b) (constant_is (takes_literal op size) b e))))
      (λ none t e. let is_b = b_is (zero_two op t) in of _ (behind_fine to is size b is_b _ (zero_fine (may_change to) (first_register size b) to (x_fits to is size b is_b) (target_fits to is) (may_target to) op size)))
      (λ none. others)

  pub computed_encodable : (op : MicroOp) (size : Size) → (is_unary op ≡ false → IsArgument b) → All IsEncodable (compute_code op size a b to)
  computed_encodable op size b_is =
      fine_forms (All IsEncodable) (λ words fine. all_of IsEncodable words (each_encodable (may_change to) words fine)) op size b_is (registers_encodable a b to a_is is op size b_is)

  pub computed_writes : (op : MicroOp) (size : Size) → (is_unary op ≡ false → IsArgument b) → list_all (changes_only (may_change to)) (compute_code op size a b to) ≡ true
  computed_writes op size b_is =
      fine_forms (λ words. list_all (changes_only (may_change to)) words ≡ true) (λ words fine. all_writes (may_change to) words (each_writes (may_change to) words fine)) op size b_is (registers_writes a b to a_is is op size b_is)

-- ---- how many they are
one_of_size : (size : Size) → 1 ≤ by_size size 1 2 5
one_of_size Byte = lit≤ tt
one_of_size Word = lit≤ tt
one_of_size Long = lit≤ tt
one_of_size Quad = lit≤ tt

-- what counts nothing is the literal of the instruction
is_below : (value n m : ℕ) → n ≤ m → nat_lt value m ≡ false → nat_lt value n ≡ false
is_below value n m le e = grind (arith, nat_tests, le, e)

no_literal : (has : Bool) → (has && false) ≡ false
no_literal true = refl
no_literal false = refl

none_counted : (op : MicroOp) (size : Size) (b : Arg) → is_constant (takes_literal op size) b ≡ false → (has_literal op && is_literal b) ≡ false
none_counted Sub size (arguments.Const value) e = is_below value 128 256 (lit≤ tt) e
none_counted Mul size (arguments.Const value) e = is_below value 128 256 (lit≤ tt) e
none_counted Xor size (arguments.Const value) e = is_below value 128 256 (lit≤ tt) e
none_counted Equal size (arguments.Const value) e = is_below value 128 256 (lit≤ tt) e
none_counted Less size (arguments.Const value) e = e
none_counted LessUnsigned size (arguments.Const value) e = is_below value 128 256 (lit≤ tt) e
none_counted op size (arguments.Const value) e = refl
none_counted op size (arguments.Temp temp) e = no_literal (has_literal op)
none_counted op size (arguments.Register number) e = no_literal (has_literal op)
none_counted op size (arguments.Flag flag) e = no_literal (has_literal op)

literal_second : (op : MicroOp) (size : Size) (b : Arg) (x to : ℕ) → is_constant (takes_literal op size) b ≡ true
    → length (literal_form op size x (constant_of b) to) ≤ operation_words op size + (if has_literal op && is_literal b then 0 else argument_words b size)
literal_second op size b x to e = by (has_literal op) (is_literal b) refl
  where
    by : (has small : Bool) → has_literal op ≡ has → length (literal_form op size x (constant_of b) to) ≤ operation_words op size + (if has && small then 0 else argument_words b size)
    by true true h = let few = literal_few op size x (constant_of b) to h in omega arith
    by true false h = let few = literal_few op size x (constant_of b) to h in omega arith
    by false small h =
        let form = literal_length op size x (constant_of b) to in
        let words = constant_words (takes_literal op size) b e size in
        omega arith

pub computed_length : (op : MicroOp) (size : Size) (a b : Arg) (to : ℕ) → length (compute_code op size a b to) ≤ words_of (Compute to op size a b)
computed_length op size a b to =
    each_form (λ words. length words ≤ words_of (Compute to op size a b)) op size a b to
    (λ m e. let one = one_of_size size in let words = constant_words (is_short size) a e size in omega arith)
    (λ m e. sum_length op m (constant_words (is_displacement size) b e size))
    (λ m e. clear_length op m (constant_words is_low_bytes b e size))
    (λ e. let load = load_length size a 27 in
    let form = literal_second op size b (first_register size a) to e in
    let two = literal_two op size (constant_of b) (constant_is (takes_literal op size) b e) in
    let joined = length-append (load_code size a 27) (literal_form op size (first_register size a) (constant_of b) to) in
    rw two (omega (arith, load, form, joined)))
    (λ none t e. let load = load_length size b 27 in
    let form = zero_length op t size (first_register size b) to in
    let words = constant_words is_zero a e size in
    let joined = length-append (load_code size b 27) (zero_form op size (first_register size b) to) in
    rw (zero_two op t, none_counted op size b none) (omega (arith, load, form, words, joined)))
    (λ none. registers_length op size a b to (none_counted op size b none))
  where
    sum_length : (op : MicroOp) → is_sum op ≡ true → argument_words b size ≡ by_size size 1 2 5
        → length (load_code size a 27 ++ displaced size (first_register size a) (constant_of b) to) ≤ words_of (Compute to op size a b)
    sum_length Add m words =
        let load = load_length size a 27 in
        let form = displaced_length size (first_register size a) (constant_of b) to in
        let joined = length-append (load_code size a 27) (displaced size (first_register size a) (constant_of b) to) in
        omega (arith, load, form, words, joined)
    sum_length op m words = cc

    clear_length : (op : MicroOp) → is_clearing op ≡ true → argument_words b size ≡ by_size size 1 2 5
        → length (load_code size a 27 ++ low_cleared size (first_register size a) (constant_of b) to) ≤ words_of (Compute to op size a b)
    clear_length AndNot m words =
        let load = load_length size a 27 in
        let one = one_of_size size in
        let joined = length-append (load_code size a 27) (low_cleared size (first_register size a) (constant_of b) to) in
        omega (arith, load, one, words, joined)
    clear_length op m words = cc
