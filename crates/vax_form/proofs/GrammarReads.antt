-- What a list of bytes specifies is read from it, whatever follows.
use Rattle.std.proofs.Common.{◌≡◌, ◌≢◌, ℕ, ◌+◌, ◌*◌, ◌%◌, ◌^◌, ◌<◌, ◌≤◌, Bool, true, false, List, [], ◌∷◌, ◌++◌, length, take, Option, Some, None, refl, sym, ap, ◌∙◌, subst, inl, inr, arith, length-append, add_comm}
use Rattle.std.proofs.Math.Nat.{add-mod-mod}
use Rattle.std.proofs.Math.Seq.{take-append_seam}
use Rattle.std.proofs.lemmas.Bool.{cases_lt, cond-false, cond-true, false≢true, eq-eqb, le-leb, ne_eqb}
use Rattle.std.specs.Option.{option_map}
use Rattle.vax_form.specs.Size.{bytes_of}
use Rattle.vax_form.specs.Grammar.{Describes, Displaces, HasRegister, IsReservedBase, Locates, ShowsReserved, ShowsReservedMode, Specifies, Steps, absolute, base, byte_displacement, byte_relative, constant_address, decrement, deferred, extended, immediate, increment, increment_deferred, index, index_pc, indexed, literal, long_displacement, long_relative, number, place, quad_in_r14, register, register_address, register_pc, deferred_pc, decrement_pc, stored_immediate, steps_down, steps_up, steps_up_deferred, word_displacement, word_relative, wrapped}
use Rattle.vax_form.specs.GrammarModes.{base_of, extension_size, is_reserved_base, is_reserved_mode, mode_of, operand_of, program_counter_mode, register_mode}
use Rattle.vax_form.specs.GrammarReading.{Shown, complete, read_base, read_by_mode, read_displacement, read_extension, read_general, read_number, read_plain, read_specifier, reserved}
use Rattle.vax_form.proofs.GrammarFirstBytes.{mode_of-literal, mode_of-program_counter, mode_of-register}
use Rattle.vax_form.specs.declared.mode.Mode.{Mode}
use Rattle.vax_form.specs.declared.mode.Mode.TheVariants as mode
use Rattle.vax_form.specs.declared.instr.Size.{Size}
use Rattle.vax_form.specs.declared.instr.Size.TheVariants.{Byte, Word, Long, Quad}
use Rattle.vax_form.specs.declared.instr.Access.{Access}
use Rattle.vax_form.specs.declared.instr.Access.TheVariants as access
use Rattle.vax_form.specs.declared.instr.Base.{Base}
use Rattle.vax_form.specs.declared.instr.Base.TheVariants.{Offset, Fixed}
use Rattle.vax_form.specs.declared.instr.Operand.{Operand}
use Rattle.vax_form.specs.declared.instr.Operand.TheVariants.{Register, Place, Target}

-- ---- numbers

pub read_number-front : (size : Size) (d rest : List ℕ) → length d ≡ bytes_of size → read_number size (d ++ rest) ≡ Some (number d)
unfolding read_number
read_number-front size d rest e =
    let enough : bytes_of size ≤ length (d ++ rest) = omega (arith, length-append d rest) in
    cond-true _ _ _ (le-leb _ _ enough)
    ∙ ap (λ n. Some (number (take n (d ++ rest)))) (sym e) ∙ ap (λ l. Some (number l)) (take-append_seam d rest)

pub read_extension-front : (size : Size) (d rest : List ℕ) → length d ≡ bytes_of size → read_extension (Some size) (d ++ rest) ≡ Some (number d, length d)
unfolding read_extension
read_extension-front size d rest e =
    ap (option_map (λ value. (value, bytes_of size))) (read_number-front size d rest e) ∙ ap (λ n. Some (number d, n)) (sym e)

pub wrapped-add : (a b : ℕ) → wrapped (wrapped a + b) ≡ wrapped (a + b)
wrapped-add a b = ap (λ n. n % 2 ^ 32) (add_comm (a % 2 ^ 32) b) ∙ add-mod-mod b a (2 ^ 32) ∙ ap (λ n. n % 2 ^ 32) (add_comm b a)

-- ---- places in memory

-- the modes of a place in memory
abbrev pub is_place : Mode → Bool
is_place mode.Deferred = true
is_place mode.Decrement = true
is_place mode.Increment = true
is_place mode.IncrementDeferred = true
is_place mode.Absolute = true
is_place (mode.Displacement size is_deferred) = true
is_place (mode.Relative size is_deferred) = true
is_place _ = false

pub is_reserved_mode-place : (a : Access) (size : Size) (n : ℕ) (m : Mode) → is_place m ≡ true → is_reserved_mode a size n m ≡ false
unfolding is_reserved_mode
is_reserved_mode-place a size n mode.Deferred p = refl
is_reserved_mode-place a size n mode.Decrement p = refl
is_reserved_mode-place a size n mode.Increment p = refl
is_reserved_mode-place a size n mode.IncrementDeferred p = refl
is_reserved_mode-place a size n mode.Absolute p = refl
is_reserved_mode-place a size n (mode.Displacement s is_deferred) p = refl
is_reserved_mode-place a size n (mode.Relative s is_deferred) p = refl
is_reserved_mode-place a size n _ p = absurd (false≢true p)

pub operand_of-place : (a : Access) (first value from behind : ℕ) (m : Mode) → is_place m ≡ true
    → operand_of a first value from behind m ≡ Place (base_of (first % 16) value from behind m) None
unfolding operand_of
operand_of-place a first value from behind mode.Deferred p = refl
operand_of-place a first value from behind mode.Decrement p = refl
operand_of-place a first value from behind mode.Increment p = refl
operand_of-place a first value from behind mode.IncrementDeferred p = refl
operand_of-place a first value from behind mode.Absolute p = refl
operand_of-place a first value from behind (mode.Displacement s is_deferred) p = refl
operand_of-place a first value from behind (mode.Relative s is_deferred) p = refl
operand_of-place a first value from behind _ p = absurd (false≢true p)

pub read_by_mode-place : (a : Access) (size : Size) (at first : ℕ) (m : Mode) (rest : List ℕ) → is_place m ≡ true
    → read_by_mode a size at first m rest ≡ read_plain a size at first m rest
unfolding read_by_mode
read_by_mode-place a size at first mode.Index rest p = absurd (false≢true p)
read_by_mode-place a size at first _ rest p = refl

pub is_reserved_base-place : (x n value from behind : ℕ) (m : Mode) → is_place m ≡ true → ¬ Steps (base_of n value from behind m) x
    → is_reserved_base x n m ≡ false
unfolding is_reserved_base base_of
is_reserved_base-place x n value from behind mode.Decrement p h = ne_eqb n x h
is_reserved_base-place x n value from behind mode.Increment p h = ne_eqb n x h
is_reserved_base-place x n value from behind mode.IncrementDeferred p h = ne_eqb n x h
is_reserved_base-place x n value from behind mode.Deferred p h = refl
is_reserved_base-place x n value from behind mode.Absolute p h = refl
is_reserved_base-place x n value from behind (mode.Displacement s is_deferred) p h = refl
is_reserved_base-place x n value from behind (mode.Relative s is_deferred) p h = refl
is_reserved_base-place x n value from behind _ p h = absurd (false≢true p)

-- The first byte of a base, its mode, what is read behind it and what it gives.
pub record IsRead (size : Size) (at : ℕ) (bytes : List ℕ) (b : Base) : Type 0 where
  pub first : ℕ
  pub m : Mode
  pub d : List ℕ
  pub value : ℕ
  pub are_bytes : bytes ≡ first ∷ d
  pub is_mode : mode_of first ≡ m
  pub is_for_place : is_place m ≡ true
  pub reads : (rest : List ℕ) → read_extension (extension_size size m) (d ++ rest) ≡ Some (value, length d)
  pub gives : base_of (first % 16) value (wrapped (at + 1)) (wrapped (at + 1 + length d)) m ≡ b

displaced : (size : Size) (at : ℕ) (bytes : List ℕ) (b : Base) (s : Size) (is_deferred : Bool) (n first high : ℕ) (d : List ℕ)
    → first ≡ 16 * high + n → n < 15 → 4 ≤ high → register_mode high ≡ mode.Displacement s is_deferred → length d ≡ bytes_of s
    → bytes ≡ first ∷ d → b ≡ Offset n (extended s (number d)) is_deferred → IsRead size at bytes b
unfolding base_of extension_size
displaced size at bytes b s is_deferred n first high d e below above is_mode len are_bytes is = record {
  first = first;
  m = mode.Displacement s is_deferred;
  d = d;
  value = number d;
  are_bytes = are_bytes;
  is_mode = mode_of-register high n first e below above ∙ is_mode;
  is_for_place = refl;
  reads = λ rest. read_extension-front s d rest len;
  gives = (let rest : first % 16 ≡ n = omega arith in ap (λ k. Offset k (extended s (number d)) is_deferred) rest) ∙ sym is;
}

relative_to : (size : Size) (at : ℕ) (bytes : List ℕ) (b : Base) (s : Size) (is_deferred : Bool) (first high : ℕ) (d : List ℕ)
    → first ≡ 16 * high + 15 → 4 ≤ high → program_counter_mode high ≡ mode.Relative s is_deferred → length d ≡ bytes_of s
    → bytes ≡ first ∷ d → b ≡ Fixed (wrapped (at + length bytes + extended s (number d))) is_deferred → IsRead size at bytes b
unfolding base_of extension_size
relative_to size at bytes b s is_deferred first high d e above is_mode len are_bytes is =
    let same : at + 1 + length d ≡ at + length bytes = omega (arith, ap length are_bytes) in record {
      first = first;
      m = mode.Relative s is_deferred;
      d = d;
      value = number d;
      are_bytes = are_bytes;
      is_mode = mode_of-program_counter high first e above ∙ is_mode;
      is_for_place = refl;
      reads = λ rest. read_extension-front s d rest len;
      gives = ap (λ k. Fixed k is_deferred) (wrapped-add (at + 1 + length d) (extended s (number d)) ∙ ap (λ n. wrapped (n + extended s (number d))) same) ∙ sym is;
    }

of_register : (size : Size) (at : ℕ) (bytes : List ℕ) (b : Base) (n first high : ℕ) (m : Mode)
    → first ≡ 16 * high + n → n < 15 → 4 ≤ high → register_mode high ≡ m → is_place m ≡ true
    → extension_size size m ≡ None → base_of n 0 (wrapped (at + 1)) (wrapped (at + 1 + 0)) m ≡ b → bytes ≡ first ∷ []
    → IsRead size at bytes b
unfolding read_extension
of_register size at bytes b n first high m e below above is_mode p none gives are_bytes = record {
  first = first;
  m = m;
  d = [];
  value = 0;
  are_bytes = are_bytes;
  is_mode = mode_of-register high n first e below above ∙ is_mode;
  is_for_place = p;
  reads = λ rest. ap (λ o. read_extension o rest) none;
  gives = (let rest : first % 16 ≡ n = omega arith in ap (λ k. base_of k 0 (wrapped (at + 1)) (wrapped (at + 1 + 0)) m) rest) ∙ gives;
}

pub IsRead-from : (size : Size) (at : ℕ) (bytes : List ℕ) (b : Base) → Locates size at bytes b → IsRead size at bytes b
unfolding extension_size base_of
IsRead-from size at bytes b (deferred n below e is) =
    of_register size at bytes b n (0x60 + n) 6 mode.Deferred (omega arith) below (omega arith) refl refl refl (sym is) e
IsRead-from size at bytes b (decrement n below e is) =
    of_register size at bytes b n (0x70 + n) 7 mode.Decrement (omega arith) below (omega arith) refl refl refl (sym is) e
IsRead-from size at bytes b (increment n below e is) =
    of_register size at bytes b n (0x80 + n) 8 mode.Increment (omega arith) below (omega arith) refl refl refl (sym is) e
IsRead-from size at bytes b (increment_deferred n below e is) =
    of_register size at bytes b n (0x90 + n) 9 mode.IncrementDeferred (omega arith) below (omega arith) refl refl refl (sym is) e
IsRead-from size at bytes b (absolute d len e is) = record {
  first = 0x9F;
  m = mode.Absolute;
  d = d;
  value = number d;
  are_bytes = e;
  is_mode = mode_of-program_counter 9 0x9F refl (omega arith);
  is_for_place = refl;
  reads = λ rest. read_extension-front Long d rest len;
  gives = sym is;
}
IsRead-from size at bytes b (byte_displacement n false d below len e is) =
    displaced size at bytes b Byte false n (0xA0 + n) 10 d (omega arith) below (omega arith) refl len e is
IsRead-from size at bytes b (byte_displacement n true d below len e is) =
    displaced size at bytes b Byte true n (0xB0 + n) 11 d (omega arith) below (omega arith) refl len e is
IsRead-from size at bytes b (word_displacement n false d below len e is) =
    displaced size at bytes b Word false n (0xC0 + n) 12 d (omega arith) below (omega arith) refl len e is
IsRead-from size at bytes b (word_displacement n true d below len e is) =
    displaced size at bytes b Word true n (0xD0 + n) 13 d (omega arith) below (omega arith) refl len e is
IsRead-from size at bytes b (long_displacement n false d below len e is) =
    displaced size at bytes b Long false n (0xE0 + n) 14 d (omega arith) below (omega arith) refl len e is
IsRead-from size at bytes b (long_displacement n true d below len e is) =
    displaced size at bytes b Long true n (0xF0 + n) 15 d (omega arith) below (omega arith) refl len e is
IsRead-from size at bytes b (byte_relative false d len e is) =
    relative_to size at bytes b Byte false 0xAF 10 d refl (omega arith) refl len e is
IsRead-from size at bytes b (byte_relative true d len e is) =
    relative_to size at bytes b Byte true 0xBF 11 d refl (omega arith) refl len e is
IsRead-from size at bytes b (word_relative false d len e is) =
    relative_to size at bytes b Word false 0xCF 12 d refl (omega arith) refl len e is
IsRead-from size at bytes b (word_relative true d len e is) =
    relative_to size at bytes b Word true 0xDF 13 d refl (omega arith) refl len e is
IsRead-from size at bytes b (long_relative false d len e is) =
    relative_to size at bytes b Long false 0xEF 14 d refl (omega arith) refl len e is
IsRead-from size at bytes b (long_relative true d len e is) =
    relative_to size at bytes b Long true 0xFF 15 d refl (omega arith) refl len e is

-- ---- specifiers that are complete

plain : (a : Access) (size : Size) (at first : ℕ) (m : Mode) (rest : List ℕ) (value len : ℕ) (o : Operand)
    → is_reserved_mode a size (first % 16) m ≡ false → read_extension (extension_size size m) rest ≡ Some (value, len)
    → operand_of a first value (wrapped (at + 1)) (wrapped (at + 1 + len)) m ≡ o
    → read_plain a size at first m rest ≡ Some (complete o, 1 + len)
unfolding read_plain
plain a size at first m rest value len o fine reads gives =
    cond-false _ _ _ fine ∙ ap (option_map _) reads ∙ ap (λ x. Some (complete x, 1 + len)) gives

-- a specifier with no index
pub read_general-plain : (a : Access) (size : Size) (at : ℕ) (bytes rest d : List ℕ) (first value : ℕ) (m : Mode) (o : Operand)
    → bytes ≡ first ∷ d → mode_of first ≡ m
    → read_by_mode a size at first m (d ++ rest) ≡ read_plain a size at first m (d ++ rest)
    → is_reserved_mode a size (first % 16) m ≡ false
    → read_extension (extension_size size m) (d ++ rest) ≡ Some (value, length d)
    → operand_of a first value (wrapped (at + 1)) (wrapped (at + 1 + length d)) m ≡ o
    → read_general a size at (bytes ++ rest) ≡ Some (complete o, length bytes)
unfolding read_general
read_general-plain a size at bytes rest d first value m o are_bytes is_mode by_mode fine reads gives =
    let len : 1 + length d ≡ length bytes = omega (arith, ap length are_bytes) in
    ap (λ l. read_general a size at (l ++ rest)) are_bytes ∙ ap (λ k. read_by_mode a size at first k (d ++ rest)) is_mode
    ∙ by_mode ∙ plain a size at first m (d ++ rest) value (length d) o fine reads gives ∙ ap (λ n. Some (complete o, n)) len

indexed_base : (size : Size) (at x first : ℕ) (rest : List ℕ) (m : Mode) (value len : ℕ) (b : Base)
    → mode_of first ≡ m → is_reserved_base x (first % 16) m ≡ false
    → read_extension (extension_size size m) rest ≡ Some (value, len)
    → base_of (first % 16) value (wrapped (at + 1)) (wrapped (at + 1 + len)) m ≡ b
    → read_base size at x (first ∷ rest) ≡ Some (complete (Place b (Some x)), 2 + len)
unfolding read_base
indexed_base size at x first rest m value len b is_mode fine reads gives =
    rw is_mode (cond-false _ _ _ fine ∙ ap (option_map _) reads ∙ ap (λ k. Some (complete (Place k (Some x)), 2 + len)) gives)

pub HasRegister-below : (size : Size) (n : ℕ) → HasRegister size n → n < 15
HasRegister-below Byte n h = h
HasRegister-below Word n h = h
HasRegister-below Long n h = h
HasRegister-below Quad n h = omega arith

is_reserved_mode-register : (a : Access) (size : Size) (n : ℕ) → HasRegister size n → a ≢ access.Address
    → is_reserved_mode a size n mode.Register ≡ false
unfolding is_reserved_mode
is_reserved_mode-register access.Address size n has other = absurd (other refl)
is_reserved_mode-register a Quad n has other = ne_eqb n 14 (λ e. omega arith)
is_reserved_mode-register a size n has other = refl

-- a specifier behind an index byte
read_general-indexed : (a : Access) (size : Size) (at : ℕ) (bytes more rest : List ℕ) (x : ℕ) (found : Option (Shown Operand × ℕ))
    → x < 15 → bytes ≡ (0x40 + x) ∷ more → read_base size (at + 1) x (more ++ rest) ≡ found
    → read_general a size at (bytes ++ rest) ≡ found
unfolding read_general read_by_mode
read_general-indexed a size at bytes more rest x found below e is =
    let remainder : (0x40 + x) % 16 ≡ x = omega arith in
    ap (λ l. read_general a size at (l ++ rest)) e
    ∙ ap (λ k. read_by_mode a size at (0x40 + x) k (more ++ rest)) (mode_of-register 4 x (0x40 + x) (omega arith) below (omega arith))
    ∙ ap (λ k. read_base size (at + 1) k (more ++ rest)) remainder ∙ is

read_base-located : (size : Size) (at x : ℕ) (more rest : List ℕ) (b : Base) → Locates size at more b → ¬ Steps b x
    → read_base size at x (more ++ rest) ≡ Some (complete (Place b (Some x)), 1 + length more)
read_base-located size at x more rest b located free =
    let r = IsRead-from size at more b located in
    let len : 2 + length r.d ≡ 1 + length more = omega (arith, ap length r.are_bytes) in
    let unstepped : ¬ Steps (base_of (r.first % 16) r.value (wrapped (at + 1)) (wrapped (at + 1 + length r.d)) r.m) x =
    λ h. free (subst (λ k. Steps k x) r.gives h) in
    ap (λ l. read_base size at x (l ++ rest)) r.are_bytes
    ∙ indexed_base size at x r.first (r.d ++ rest) r.m r.value (length r.d) b r.is_mode
    (is_reserved_base-place x (r.first % 16) r.value (wrapped (at + 1)) (wrapped (at + 1 + length r.d)) r.m r.is_for_place unstepped)
    (r.reads rest) r.gives
    ∙ ap (λ n. Some (complete (Place b (Some x)), n)) len

pub read_general-describes : (a : Access) (size : Size) (at : ℕ) (bytes : List ℕ) (o : Operand) (rest : List ℕ)
    → Describes a size at bytes o → read_general a size at (bytes ++ rest) ≡ Some (complete o, length bytes)
unfolding is_reserved_mode operand_of extension_size read_by_mode read_extension base_of
read_general-describes a size at bytes o rest (literal v below read e is) =
    read_general-plain a size at bytes rest [] v 0 mode.Literal o e (mode_of-literal v below) refl
    (ap (λ k. is_reserved_mode k size (v % 16) mode.Literal) read) refl (sym is)
read_general-describes a size at bytes o rest (register n has other e is) =
    let below = HasRegister-below size n has in
    let remainder : (0x50 + n) % 16 ≡ n = omega arith in
    read_general-plain a size at bytes rest [] (0x50 + n) 0 mode.Register o e
    (mode_of-register 5 n (0x50 + n) (omega arith) below (omega arith)) refl
    (ap (λ k. is_reserved_mode a size k mode.Register) remainder ∙ is_reserved_mode-register a size n has other)
    refl (ap Register remainder ∙ sym is)
read_general-describes a size at bytes o rest (immediate d len read e is) =
    read_general-plain a size at bytes rest d 0x8F (number d) mode.Immediate o e
    (mode_of-program_counter 8 0x8F refl (omega arith)) refl
    (ap (λ k. is_reserved_mode k size 15 mode.Immediate) read) (read_extension-front size d rest len)
    (ap (λ k. operand_of k 0x8F (number d) (wrapped (at + 1)) (wrapped (at + 1 + length d)) mode.Immediate) read ∙ sym is)
read_general-describes a size at bytes o rest (constant_address d len (inl used) e is) =
    read_general-plain a size at bytes rest d 0x8F (number d) mode.Immediate o e
    (mode_of-program_counter 8 0x8F refl (omega arith)) refl
    (ap (λ k. is_reserved_mode k size 15 mode.Immediate) used) (read_extension-front size d rest len)
    (ap (λ k. operand_of k 0x8F (number d) (wrapped (at + 1)) (wrapped (at + 1 + length d)) mode.Immediate) used ∙ sym is)
read_general-describes a size at bytes o rest (constant_address d len (inr used) e is) =
    read_general-plain a size at bytes rest d 0x8F (number d) mode.Immediate o e
    (mode_of-program_counter 8 0x8F refl (omega arith)) refl
    (ap (λ k. is_reserved_mode k size 15 mode.Immediate) used) (read_extension-front size d rest len)
    (ap (λ k. operand_of k 0x8F (number d) (wrapped (at + 1)) (wrapped (at + 1 + length d)) mode.Immediate) used ∙ sym is)
read_general-describes a size at bytes o rest (place b located is) =
    let r = IsRead-from size at bytes b located in
    read_general-plain a size at bytes rest r.d r.first r.value r.m o r.are_bytes r.is_mode
    (read_by_mode-place a size at r.first r.m (r.d ++ rest) r.is_for_place)
    (is_reserved_mode-place a size (r.first % 16) r.m r.is_for_place) (r.reads rest)
    (operand_of-place a r.first r.value _ _ r.m r.is_for_place ∙ ap (λ k. Place k None) r.gives ∙ sym is)
read_general-describes a size at bytes o rest (indexed x b more below located free e is) =
    let len : 1 + length more ≡ length bytes = omega (arith, ap length e) in
    read_general-indexed a size at bytes more rest x (Some (complete o, length bytes)) below e
    (read_base-located size (at + 1) x more rest b located free
    ∙ ap (λ n. Some (complete (Place b (Some x)), n)) len ∙ ap (λ k. Some (complete k, length bytes)) (sym is))

-- ---- specifiers that show a reserved mode

read_general-reserved_mode : (a : Access) (size : Size) (at : ℕ) (bytes rest : List ℕ) (first : ℕ) (m : Mode)
    → bytes ≡ first ∷ [] → mode_of first ≡ m → read_by_mode a size at first m rest ≡ read_plain a size at first m rest
    → is_reserved_mode a size (first % 16) m ≡ true
    → read_general a size at (bytes ++ rest) ≡ Some (reserved, length bytes)
unfolding read_general read_plain
read_general-reserved_mode a size at bytes rest first m e is_mode by_mode bad =
    ap (λ l. read_general a size at (l ++ rest)) e ∙ ap (λ k. read_by_mode a size at first k rest) is_mode
    ∙ by_mode ∙ cond-true _ _ _ bad ∙ ap (λ l. Some (reserved, length l)) (sym e)

read_base-reserved : (size : Size) (at x byte : ℕ) (m : Mode) (rest : List ℕ) → mode_of byte ≡ m
    → is_reserved_base x (byte % 16) m ≡ true → read_base size at x (byte ∷ rest) ≡ Some (reserved, 2)
unfolding read_base
read_base-reserved size at x byte m rest is_mode bad = rw is_mode (cond-true _ _ _ bad)

read_base-any : (size : Size) (at x byte : ℕ) (rest : List ℕ) → x < 15 → IsReservedBase x byte
    → read_base size at x (byte ∷ rest) ≡ Some (reserved, 2)
unfolding is_reserved_base
read_base-any size at x byte rest small (literal below) =
    read_base-reserved size at x byte mode.Literal rest (mode_of-literal byte below) refl
read_base-any size at x byte rest small (index n below e) = elim (cases_lt n 15) [
  | inl under ↦ read_base-reserved size at x byte mode.Index rest (mode_of-register 4 n byte e under (omega arith)) refl
  | inr over ↦ read_base-reserved size at x byte mode.Reserved rest (mode_of-program_counter 4 byte (omega arith) (omega arith)) refl
]
read_base-any size at x byte rest small (register n below e) = elim (cases_lt n 15) [
  | inl under ↦ read_base-reserved size at x byte mode.Register rest (mode_of-register 5 n byte e under (omega arith)) refl
  | inr over ↦ read_base-reserved size at x byte mode.Reserved rest (mode_of-program_counter 5 byte (omega arith) (omega arith)) refl
]
read_base-any size at x byte rest small (deferred_pc e) =
    read_base-reserved size at x byte mode.Reserved rest (mode_of-program_counter 6 byte e (omega arith)) refl
read_base-any size at x byte rest small (decrement_pc e) =
    read_base-reserved size at x byte mode.Reserved rest (mode_of-program_counter 7 byte e (omega arith)) refl
read_base-any size at x byte rest small (immediate e) =
    read_base-reserved size at x byte mode.Immediate rest (mode_of-program_counter 8 byte e (omega arith)) refl
read_base-any size at x byte rest small (steps_down e) =
    read_base-reserved size at x byte mode.Decrement rest (mode_of-register 7 x byte e small (omega arith)) (eq-eqb _ _ (omega arith))
read_base-any size at x byte rest small (steps_up e) =
    read_base-reserved size at x byte mode.Increment rest (mode_of-register 8 x byte e small (omega arith)) (eq-eqb _ _ (omega arith))
read_base-any size at x byte rest small (steps_up_deferred e) =
    read_base-reserved size at x byte mode.IncrementDeferred rest (mode_of-register 9 x byte e small (omega arith)) (eq-eqb _ _ (omega arith))

is_reserved_mode-literal : (a : Access) (size : Size) (n : ℕ) → a ≢ access.Read → is_reserved_mode a size n mode.Literal ≡ true
unfolding is_reserved_mode
is_reserved_mode-literal access.Read size n other = absurd (other refl)
is_reserved_mode-literal a size n other = refl

is_reserved_mode-quad : (a : Access) → is_reserved_mode a Quad 14 mode.Register ≡ true
unfolding is_reserved_mode
is_reserved_mode-quad access.Address = refl
is_reserved_mode-quad a = refl

pub read_general-shows : (a : Access) (size : Size) (at : ℕ) (bytes rest : List ℕ)
    → ShowsReserved a size bytes → read_general a size at (bytes ++ rest) ≡ Some (reserved, length bytes)
unfolding is_reserved_mode read_by_mode
read_general-shows a size at bytes rest (literal v below other e) =
    read_general-reserved_mode a size at bytes rest v mode.Literal e (mode_of-literal v below) refl
    (is_reserved_mode-literal a size (v % 16) other)
read_general-shows a size at bytes rest (index_pc e) =
    read_general-reserved_mode a size at bytes rest 0x4F mode.Reserved e (mode_of-program_counter 4 0x4F refl (omega arith)) refl refl
read_general-shows a size at bytes rest (register_pc e) =
    read_general-reserved_mode a size at bytes rest 0x5F mode.Reserved e (mode_of-program_counter 5 0x5F refl (omega arith)) refl refl
read_general-shows a size at bytes rest (deferred_pc e) =
    read_general-reserved_mode a size at bytes rest 0x6F mode.Reserved e (mode_of-program_counter 6 0x6F refl (omega arith)) refl refl
read_general-shows a size at bytes rest (decrement_pc e) =
    read_general-reserved_mode a size at bytes rest 0x7F mode.Reserved e (mode_of-program_counter 7 0x7F refl (omega arith)) refl refl
read_general-shows a size at bytes rest (register_address n below used e) = elim (cases_lt n 15) [
  | inl under ↦ read_general-reserved_mode a size at bytes rest (0x50 + n) mode.Register e
      (mode_of-register 5 n (0x50 + n) (omega arith) under (omega arith)) refl
      (ap (λ k. is_reserved_mode k size ((0x50 + n) % 16) mode.Register) used)
  | inr over ↦ read_general-reserved_mode a size at bytes rest (0x50 + n) mode.Reserved e
      (mode_of-program_counter 5 (0x50 + n) (omega arith) (omega arith)) refl refl
]
read_general-shows a size at bytes rest (quad_in_r14 is_quad e) =
    read_general-reserved_mode a size at bytes rest 0x5E mode.Register e
    (mode_of-register 5 14 0x5E refl (omega arith) (omega arith)) refl
    (ap (λ k. is_reserved_mode a k 14 mode.Register) is_quad ∙ is_reserved_mode-quad a)
read_general-shows a size at bytes rest (stored_immediate (inl used) e) =
    read_general-reserved_mode a size at bytes rest 0x8F mode.Immediate e (mode_of-program_counter 8 0x8F refl (omega arith)) refl
    (ap (λ k. is_reserved_mode k size 15 mode.Immediate) used)
read_general-shows a size at bytes rest (stored_immediate (inr used) e) =
    read_general-reserved_mode a size at bytes rest 0x8F mode.Immediate e (mode_of-program_counter 8 0x8F refl (omega arith)) refl
    (ap (λ k. is_reserved_mode k size 15 mode.Immediate) used)
read_general-shows a size at bytes rest (base x byte below bad e) =
    read_general-indexed a size at bytes (byte ∷ []) rest x (Some (reserved, length bytes)) below e
    (read_base-any size (at + 1) x byte rest below bad ∙ ap (λ l. Some (reserved, length l)) (sym e))

-- ---- any operand, and displacements

read_displacement-displaces : (size : Size) (at : ℕ) (bytes : List ℕ) (o : Operand) (rest : List ℕ)
    → Displaces size at bytes o → read_displacement size at (bytes ++ rest) ≡ Some (complete o, length bytes)
unfolding read_displacement
read_displacement-displaces size at bytes o rest (len, is) =
    ap (option_map _) (read_number-front size bytes rest len)
    ∙ ap (λ n. Some (complete (Target (wrapped (at + n + extended size (number bytes)))), n)) (sym len)
    ∙ ap (λ k. Some (complete k, length bytes)) (sym is)

-- what the bytes specify is read
pub read_specifier-specifies : (a : Access) (size : Size) (at : ℕ) (bytes : List ℕ) (o : Operand) (rest : List ℕ)
    → Specifies a size at bytes o → read_specifier a size at (bytes ++ rest) ≡ Some (complete o, length bytes)
unfolding read_specifier
read_specifier-specifies access.Branch size at bytes o rest h = read_displacement-displaces size at bytes o rest h
read_specifier-specifies a size at bytes o rest h = read_general-describes a size at bytes o rest h

-- a reserved mode that the last byte shows is read
pub read_specifier-shows : (a : Access) (size : Size) (at : ℕ) (bytes rest : List ℕ)
    → ShowsReservedMode a size bytes → read_specifier a size at (bytes ++ rest) ≡ Some (reserved, length bytes)
unfolding read_specifier
read_specifier-shows access.Branch size at bytes rest h = absurd h
read_specifier-shows a size at bytes rest h = read_general-shows a size at bytes rest h
