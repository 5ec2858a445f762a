-- What is read from the front of a list of bytes, those bytes specify.
use Rattle.std.proofs.Common.{◌≡◌, ◌≢◌, ℕ, suc, ◌+◌, ◌/◌, ◌%◌, ◌<◌, ◌≤◌, ◌⊎◌, Bool, true, false, cond, leb, List, [], ◌∷◌, length, take, Option, Some, None, refl, sym, ap, ◌∙◌, subst, inl, inr, arith, length-take}
use Rattle.std.proofs.lemmas.Bool.{cases_eq, eqb-false, eqb-true, false≢true, leb-true, true≢false}
use Rattle.std.specs.Option.{option_map}
use Rattle.std.proofs.lemmas.Option.{some_pair_parts}
use Rattle.vax_form.specs.Size.{bytes_of}
use Rattle.vax_form.specs.Grammar.{Describes, HasRegister, IsReservedBase, Locates, ShowsReserved, ShowsReservedMode, Specifies, Steps, absolute, base, byte_displacement, byte_relative, constant_address, decrement, decrement_pc, deferred, deferred_pc, extended, immediate, increment, increment_deferred, index, index_pc, indexed, literal, long_displacement, long_relative, number, place, quad_in_r14, register, register_address, register_pc, steps_down, steps_up, steps_up_deferred, stored_immediate, word_displacement, word_relative, wrapped}
use Rattle.vax_form.specs.GrammarLaws.{AreBytes}
use Rattle.vax_form.specs.GrammarModes.{base_of, extension_size, is_reserved_base, is_reserved_mode, mode_of, operand_of}
use Rattle.vax_form.specs.GrammarReading.{Shown, complete, read_base, read_by_mode, read_displacement, read_extension, read_general, read_number, read_plain, read_specifier, reserved}
use Rattle.vax_form.proofs.GrammarFirstBytes.{IsFirst, is_first}
use Rattle.vax_form.proofs.GrammarReads.{is_place, operand_of-place, wrapped-add}
use Rattle.vax_form.specs.declared.mode.Mode.{Mode}
use Rattle.vax_form.specs.declared.mode.Mode.TheVariants as mode
use Rattle.vax_form.specs.declared.instr.Size.{Size}
use Rattle.vax_form.specs.declared.instr.Size.TheVariants.{Byte, Word, Long, Quad}
use Rattle.vax_form.specs.declared.instr.Access.{Access}
use Rattle.vax_form.specs.declared.instr.Access.TheVariants as access
use Rattle.vax_form.specs.declared.instr.Base.TheVariants.{Offset, Fixed}
use Rattle.vax_form.specs.declared.instr.Operand.{Operand}
use Rattle.vax_form.specs.declared.instr.Operand.TheVariants.{Value, Target}

-- ---- options and choices

pub option_map-some : {A B : Type 0} (f : A → B) (o : Option A) (y : B) → option_map f o ≡ Some y → (x : A) × (o ≡ Some x) × (f x ≡ y)
option_map-some f None y e = absurd cc
option_map-some f (Some x) y e = (x, refl, cc)

pub chosen : {A : Type 0} (b : Bool) (x y z : A) → cond b x y ≡ z → ((b ≡ true) × (x ≡ z)) ⊎ ((b ≡ false) × (y ≡ z))
chosen true x y z e = inl (refl, e)
chosen false x y z e = inr (refl, e)

-- ---- numbers

-- a number of that size was read from the front
pub record IsNumber (size : Size) (bytes : List ℕ) (value : ℕ) : Type 0 where
  pub enough : bytes_of size ≤ length bytes
  pub is : value ≡ number (take (bytes_of size) bytes)

pub read_number-some : (size : Size) (bytes : List ℕ) (value : ℕ) → read_number size bytes ≡ Some value → IsNumber size bytes value
unfolding read_number
read_number-some size bytes value e = elim (chosen (leb (bytes_of size) (length bytes)) _ _ _ e) [
  | inl h ↦ record { enough = leb-true _ _ h.0; is = cc }
  | inr h ↦ absurd (let none = h.1 in cc)
]

-- what was read behind the first byte
abbrev pub IsExtension : Option Size → List ℕ → ℕ → ℕ → Type 0
IsExtension None rest value len = (value ≡ 0) × (len ≡ 0)
IsExtension (Some size) rest value len = IsNumber size rest value × (len ≡ bytes_of size)

pub read_extension-some : (o : Option Size) (rest : List ℕ) (value len : ℕ) → read_extension o rest ≡ Some (value, len) → IsExtension o rest value len
unfolding read_extension
read_extension-some None rest value len e =
    let h = some_pair_parts 0 value 0 len e in
    (sym h.0, sym h.1)
read_extension-some (Some size) rest value len e =
    let x = option_map-some _ (read_number size rest) _ e in
    (read_number-some size rest value (x.1 ∙ ap Some (ap (λ p. p.0) x.2)), sym (ap (λ p. p.1) x.2))

pub IsExtension-enough : (o : Option Size) (rest : List ℕ) (value len : ℕ) → IsExtension o rest value len → len ≤ length rest
IsExtension-enough None rest value len h = omega (arith, h.1)
IsExtension-enough (Some size) rest value len h = omega (arith, h.0.enough, h.1)

-- ---- places in memory

length-take-enough : (n : ℕ) (bytes : List ℕ) → n ≤ length bytes → length (take n bytes) ≡ n
length-take-enough n bytes h = omega (arith, length-take n bytes)

length-extension : (size : Size) (rest : List ℕ) (value len : ℕ) → IsExtension (Some size) rest value len → length (take len rest) ≡ bytes_of size
length-extension size rest value len x = length-take-enough len rest (omega (arith, x.0.enough, x.1)) ∙ x.1

number-extension : (size : Size) (rest : List ℕ) (value len : ℕ) → IsExtension (Some size) rest value len → value ≡ number (take len rest)
number-extension size rest value len x = x.0.is ∙ ap (λ l. number (take l rest)) (sym x.1)

-- a displacement counts from the address behind the specifier
relative_address : (size : Size) (at first value len : ℕ) (rest : List ℕ) → IsExtension (Some size) rest value len
    → wrapped (wrapped (at + 1 + len) + extended size value)
    ≡ wrapped (at + length (first ∷ take len rest) + extended size (number (take len rest)))
relative_address size at first value len rest x =
    let len_is : length (take len rest) ≡ len = length-take-enough len rest (omega (arith, x.0.enough, x.1)) in
    let same : at + 1 + len ≡ at + length (first ∷ take len rest) = omega arith in
    wrapped-add (at + 1 + len) (extended size value) ∙ ap (λ n. wrapped (n + extended size value)) same
    ∙ ap (λ v. wrapped (at + length (first ∷ take len rest) + extended size v)) (number-extension size rest value len x)

located : (size : Size) (at first value len : ℕ) (m : Mode) (rest : List ℕ) → is_place m ≡ true → IsFirst first m
    → IsExtension (extension_size size m) rest value len
    → Locates size at (first ∷ take len rest) (base_of (first % 16) value (wrapped (at + 1)) (wrapped (at + 1 + len)) m)
unfolding extension_size base_of
located size at first value len mode.Deferred rest p is x =
    deferred (first % 16) is.0 (ap (λ l. first ∷ take l rest) x.1 ∙ ap (λ b. b ∷ []) is.1) refl
located size at first value len mode.Decrement rest p is x =
    decrement (first % 16) is.0 (ap (λ l. first ∷ take l rest) x.1 ∙ ap (λ b. b ∷ []) is.1) refl
located size at first value len mode.Increment rest p is x =
    increment (first % 16) is.0 (ap (λ l. first ∷ take l rest) x.1 ∙ ap (λ b. b ∷ []) is.1) refl
located size at first value len mode.IncrementDeferred rest p is x =
    increment_deferred (first % 16) is.0 (ap (λ l. first ∷ take l rest) x.1 ∙ ap (λ b. b ∷ []) is.1) refl
located size at first value len mode.Absolute rest p is x =
    absolute (take len rest) (length-extension Long rest value len x) (ap (λ b. b ∷ take len rest) is)
    (ap (λ v. Fixed v false) (number-extension Long rest value len x))
located size at first value len (mode.Displacement Byte is_deferred) rest p is x =
    byte_displacement (first % 16) is_deferred (take len rest) is.0 (length-extension Byte rest value len x)
    (ap (λ b. b ∷ take len rest) is.1) (ap (λ v. Offset (first % 16) (extended Byte v) is_deferred) (number-extension Byte rest value len x))
located size at first value len (mode.Displacement Word is_deferred) rest p is x =
    word_displacement (first % 16) is_deferred (take len rest) is.0 (length-extension Word rest value len x)
    (ap (λ b. b ∷ take len rest) is.1) (ap (λ v. Offset (first % 16) (extended Word v) is_deferred) (number-extension Word rest value len x))
located size at first value len (mode.Displacement Long is_deferred) rest p is x =
    long_displacement (first % 16) is_deferred (take len rest) is.0 (length-extension Long rest value len x)
    (ap (λ b. b ∷ take len rest) is.1) (ap (λ v. Offset (first % 16) (extended Long v) is_deferred) (number-extension Long rest value len x))
located size at first value len (mode.Relative Byte is_deferred) rest p is x =
    byte_relative is_deferred (take len rest) (length-extension Byte rest value len x) (ap (λ b. b ∷ take len rest) is)
    (ap (λ a. Fixed a is_deferred) (relative_address Byte at first value len rest x))
located size at first value len (mode.Relative Word is_deferred) rest p is x =
    word_relative is_deferred (take len rest) (length-extension Word rest value len x) (ap (λ b. b ∷ take len rest) is)
    (ap (λ a. Fixed a is_deferred) (relative_address Word at first value len rest x))
located size at first value len (mode.Relative Long is_deferred) rest p is x =
    long_relative is_deferred (take len rest) (length-extension Long rest value len x) (ap (λ b. b ∷ take len rest) is)
    (ap (λ a. Fixed a is_deferred) (relative_address Long at first value len rest x))
located size at first value len (mode.Displacement Quad is_deferred) rest p is x = absurd is
located size at first value len (mode.Relative Quad is_deferred) rest p is x = absurd is
located size at first value len _ rest p is x = absurd (false≢true p)

-- ---- one specifier

-- what the bytes show
abbrev pub Describes_shown : Access → Size → ℕ → List ℕ → Shown Operand → Type 0
Describes_shown a size at bytes (complete o) = Describes a size at bytes o
Describes_shown a size at bytes reserved = ShowsReserved a size bytes

-- so many bytes were read, which show it
abbrev pub Finds : Access → Size → ℕ → List ℕ → Shown Operand → ℕ → Type 0
Finds a size at bytes shown n = (n ≤ length bytes) × Describes_shown a size at (take n bytes) shown

record IsPlain (a : Access) (size : Size) (at first : ℕ) (m : Mode) (rest : List ℕ) (shown : Shown Operand) (n : ℕ) : Type 0 where
  value : ℕ
  len : ℕ
  fine : is_reserved_mode a size (first % 16) m ≡ false
  reads : IsExtension (extension_size size m) rest value len
  gives : complete (operand_of a first value (wrapped (at + 1)) (wrapped (at + 1 + len)) m) ≡ shown
  count : 1 + len ≡ n

abbrev IsBadMode : Access → Size → ℕ → Mode → Shown Operand → ℕ → Type 0
IsBadMode a size first m shown n = (is_reserved_mode a size (first % 16) m ≡ true) × (reserved ≡ shown) × (1 ≡ n)

read_plain-some : (a : Access) (size : Size) (at first : ℕ) (m : Mode) (rest : List ℕ) (shown : Shown Operand) (n : ℕ)
    → read_plain a size at first m rest ≡ Some (shown, n) → IsBadMode a size first m shown n ⊎ IsPlain a size at first m rest shown n
unfolding read_plain
read_plain-some a size at first m rest shown n e = elim (chosen (is_reserved_mode a size (first % 16) m) _ _ _ e) [
  | inl h ↦ inl (let p = some_pair_parts reserved shown 1 n h.1 in (h.0, p.0, p.1))
  | inr h ↦ inr (
      let x = option_map-some _ (read_extension (extension_size size m) rest) _ h.1 in
      record {
        value = x.0.0;
        len = x.0.1;
        fine = h.0;
        reads = read_extension-some (extension_size size m) rest x.0.0 x.0.1 x.1;
        gives = ap (λ p. p.0) x.2;
        count = ap (λ p. p.1) x.2;
      })
]

-- a byte that shows a reserved mode
program_counter_shows : (a : Access) (size : Size) (first : ℕ) → first % 16 ≡ 15 → first / 16 < 8 → 4 ≤ first / 16
    → ShowsReserved a size (first ∷ [])
program_counter_shows a size first pc below above =
    elim (cases_eq (first / 16) 4) [
      | inl e4 ↦ index_pc (ap (λ b. b ∷ []) (omega arith))
      | inr n4 ↦
          elim (cases_eq (first / 16) 5) [
            | inl e5 ↦ register_pc (ap (λ b. b ∷ []) (omega arith))
            | inr n5 ↦
                elim (cases_eq (first / 16) 6) [
                  | inl e6 ↦ deferred_pc (ap (λ b. b ∷ []) (omega arith))
                  | inr n6 ↦
                      decrement_pc (ap (λ b. b ∷ []) (omega arith))
                ]
          ]
    ]

literal_shows : (a : Access) (size : Size) (first : ℕ) → first < 0x40 → is_reserved_mode a size (first % 16) mode.Literal ≡ true
    → ShowsReserved a size (first ∷ [])
unfolding is_reserved_mode
literal_shows access.Read size first below bad = absurd (false≢true bad)
literal_shows access.Write size first below bad = literal first below (λ e. cc) refl
literal_shows access.Modify size first below bad = literal first below (λ e. cc) refl
literal_shows access.Address size first below bad = literal first below (λ e. cc) refl
literal_shows access.Field size first below bad = literal first below (λ e. cc) refl
literal_shows access.Branch size first below bad = literal first below (λ e. cc) refl

register_shows : (a : Access) (size : Size) (first : ℕ) → first % 16 < 15 → first ≡ 0x50 + first % 16
    → is_reserved_mode a size (first % 16) mode.Register ≡ true → ShowsReserved a size (first ∷ [])
unfolding is_reserved_mode
register_shows access.Address size first below is bad =
    register_address (first % 16) (omega arith) refl (ap (λ b. b ∷ []) is)
register_shows a Quad first below is bad =
    let fourteen = eqb-true (first % 16) 14 bad in
    let e : first ≡ 0x5E = omega arith in
    quad_in_r14 refl (ap (λ b. b ∷ []) e)
register_shows a size first below is bad = absurd (false≢true bad)

immediate_shows : (a : Access) (size : Size) (first : ℕ) → first ≡ 0x8F
    → is_reserved_mode a size (first % 16) mode.Immediate ≡ true → ShowsReserved a size (first ∷ [])
unfolding is_reserved_mode
immediate_shows access.Write size first is bad = stored_immediate (inl refl) (ap (λ b. b ∷ []) is)
immediate_shows access.Modify size first is bad = stored_immediate (inr refl) (ap (λ b. b ∷ []) is)
immediate_shows a size first is bad = absurd (false≢true bad)

mode_shows : (a : Access) (size : Size) (first : ℕ) (m : Mode) → IsFirst first m → is_reserved_mode a size (first % 16) m ≡ true
    → ShowsReserved a size (first ∷ [])
unfolding is_reserved_mode
mode_shows a size first mode.Literal is bad = literal_shows a size first is bad
mode_shows a size first mode.Register is bad = register_shows a size first is.0 is.1 bad
mode_shows a size first mode.Immediate is bad = immediate_shows a size first is bad
mode_shows a size first mode.Reserved is bad = program_counter_shows a size first is.0 is.1 is.2
mode_shows a size first mode.Index is bad = absurd (false≢true bad)
mode_shows a size first mode.Deferred is bad = absurd (false≢true bad)
mode_shows a size first mode.Decrement is bad = absurd (false≢true bad)
mode_shows a size first mode.Increment is bad = absurd (false≢true bad)
mode_shows a size first mode.IncrementDeferred is bad = absurd (false≢true bad)
mode_shows a size first mode.Absolute is bad = absurd (false≢true bad)
mode_shows a size first (mode.Displacement s is_deferred) is bad = absurd (false≢true bad)
mode_shows a size first (mode.Relative s is_deferred) is bad = absurd (false≢true bad)

-- a specifier that is complete
literal_describes : (a : Access) (size : Size) (at first value from behind : ℕ) → first < 0x40
    → is_reserved_mode a size (first % 16) mode.Literal ≡ false
    → Describes a size at (first ∷ []) (operand_of a first value from behind mode.Literal)
unfolding is_reserved_mode operand_of
literal_describes access.Read size at first value from behind below fine = literal first below refl refl refl
literal_describes a size at first value from behind below fine = absurd (true≢false fine)

HasRegister-from : (a : Access) (size : Size) (n : ℕ) → n < 15 → is_reserved_mode a size n mode.Register ≡ false → HasRegister size n
unfolding is_reserved_mode
HasRegister-from access.Address size n below fine = absurd (true≢false fine)
HasRegister-from a Quad n below fine = let other = eqb-false n 14 fine in omega arith
HasRegister-from a Byte n below fine = below
HasRegister-from a Word n below fine = below
HasRegister-from a Long n below fine = below

register_describes : (a : Access) (size : Size) (at first value from behind : ℕ) → first % 16 < 15 → first ≡ 0x50 + first % 16
    → is_reserved_mode a size (first % 16) mode.Register ≡ false
    → Describes a size at (first ∷ []) (operand_of a first value from behind mode.Register)
unfolding is_reserved_mode operand_of
register_describes a size at first value from behind below is fine =
    register (first % 16) (HasRegister-from a size (first % 16) below fine)
    (λ e. true≢false (ap (λ k. is_reserved_mode k size (first % 16) mode.Register) (sym e) ∙ fine))
    (ap (λ b. b ∷ []) is) refl

immediate_describes : (a : Access) (size : Size) (at first value len : ℕ) (rest : List ℕ) → a ≢ access.Branch → first ≡ 0x8F
    → is_reserved_mode a size (first % 16) mode.Immediate ≡ false → IsExtension (Some size) rest value len
    → Describes a size at (first ∷ take len rest) (operand_of a first value (wrapped (at + 1)) (wrapped (at + 1 + len)) mode.Immediate)
unfolding is_reserved_mode operand_of base_of
immediate_describes access.Read size at first value len rest other is fine x =
    immediate (take len rest) (length-extension size rest value len x) refl (ap (λ b. b ∷ take len rest) is)
    (ap Value (number-extension size rest value len x))
immediate_describes access.Address size at first value len rest other is fine x =
    constant_address (take len rest) (length-extension size rest value len x) (inl refl) (ap (λ b. b ∷ take len rest) is) refl
immediate_describes access.Field size at first value len rest other is fine x =
    constant_address (take len rest) (length-extension size rest value len x) (inr refl) (ap (λ b. b ∷ take len rest) is) refl
immediate_describes access.Branch size at first value len rest other is fine x = absurd (other refl)
immediate_describes a size at first value len rest other is fine x = absurd (true≢false fine)

place_describes : (a : Access) (size : Size) (at first value len : ℕ) (m : Mode) (rest : List ℕ) → is_place m ≡ true → IsFirst first m
    → IsExtension (extension_size size m) rest value len
    → Describes a size at (first ∷ take len rest) (operand_of a first value (wrapped (at + 1)) (wrapped (at + 1 + len)) m)
place_describes a size at first value len m rest p is x =
    place _ (located size at first value len m rest p is x) (operand_of-place a first value _ _ m p)

no_extension : (a : Access) (size : Size) (at first len : ℕ) (rest : List ℕ) (o : Operand) → len ≡ 0
    → Describes a size at (first ∷ []) o → Describes a size at (first ∷ take len rest) o
no_extension a size at first len rest o none h = subst (λ k. Describes a size at (first ∷ take k rest) o) (sym none) h

mode_describes : (a : Access) (size : Size) (at first value len : ℕ) (m : Mode) (rest : List ℕ) → a ≢ access.Branch
    → m ≢ mode.Index → IsFirst first m → is_reserved_mode a size (first % 16) m ≡ false
    → IsExtension (extension_size size m) rest value len
    → Describes a size at (first ∷ take len rest) (operand_of a first value (wrapped (at + 1)) (wrapped (at + 1 + len)) m)
unfolding extension_size is_reserved_mode
mode_describes a size at first value len mode.Literal rest other plain is fine x =
    no_extension a size at first len rest _ x.1 (literal_describes a size at first value _ _ is fine)
mode_describes a size at first value len mode.Register rest other plain is fine x =
    no_extension a size at first len rest _ x.1 (register_describes a size at first value _ _ is.0 is.1 fine)
mode_describes a size at first value len mode.Immediate rest other plain is fine x =
    immediate_describes a size at first value len rest other is fine x
mode_describes a size at first value len mode.Index rest other plain is fine x = absurd (plain refl)
mode_describes a size at first value len mode.Reserved rest other plain is fine x = absurd (true≢false fine)
mode_describes a size at first value len mode.Deferred rest other plain is fine x = place_describes a size at first value len _ rest refl is x
mode_describes a size at first value len mode.Decrement rest other plain is fine x = place_describes a size at first value len _ rest refl is x
mode_describes a size at first value len mode.Increment rest other plain is fine x = place_describes a size at first value len _ rest refl is x
mode_describes a size at first value len mode.IncrementDeferred rest other plain is fine x = place_describes a size at first value len _ rest refl is x
mode_describes a size at first value len mode.Absolute rest other plain is fine x = place_describes a size at first value len _ rest refl is x
mode_describes a size at first value len (mode.Displacement s is_deferred) rest other plain is fine x = place_describes a size at first value len _ rest refl is x
mode_describes a size at first value len (mode.Relative s is_deferred) rest other plain is fine x = place_describes a size at first value len _ rest refl is x

Finds-plain : (a : Access) (size : Size) (at first : ℕ) (m : Mode) (rest : List ℕ) (shown : Shown Operand) (n : ℕ)
    → a ≢ access.Branch → m ≢ mode.Index → IsFirst first m → read_plain a size at first m rest ≡ Some (shown, n)
    → Finds a size at (first ∷ rest) shown n
Finds-plain a size at first m rest shown n other plain is e = elim (read_plain-some a size at first m rest shown n e) [
  | inl bad ↦ (
    omega (arith, bad.2),
    subst (λ k. Describes_shown a size at (take k (first ∷ rest)) shown) bad.2
        (subst (λ k. Describes_shown a size at (first ∷ []) k) bad.1 (mode_shows a size first m is bad.0)),
  )
  | inr fine ↦ (
      let enough = IsExtension-enough (extension_size size m) rest fine.value fine.len fine.reads in
      let count : suc fine.len ≡ n = omega (arith, fine.count) in (
        omega (arith, count),
        subst (λ k. Describes_shown a size at (take k (first ∷ rest)) shown) count
            (subst (λ k. Describes_shown a size at (first ∷ take fine.len rest) k) fine.gives
            (mode_describes a size at first fine.value fine.len m rest other plain is fine.fine fine.reads)),
      ))
]

-- ---- behind an index byte

reserved_base : (x byte : ℕ) (m : Mode) → IsFirst byte m → is_reserved_base x (byte % 16) m ≡ true → IsReservedBase x byte
unfolding is_reserved_base
reserved_base x byte mode.Literal is bad = literal is
reserved_base x byte mode.Index is bad = index (byte % 16) (omega arith) is.1
reserved_base x byte mode.Register is bad = register (byte % 16) (omega arith) is.1
reserved_base x byte mode.Immediate is bad = immediate is
reserved_base x byte mode.Reserved is bad =
    elim (cases_eq (byte / 16) 4) [
      | inl e4 ↦ index 15 (omega arith) (omega arith)
      | inr n4 ↦
          elim (cases_eq (byte / 16) 5) [
            | inl e5 ↦ register 15 (omega arith) (omega arith)
            | inr n5 ↦
                elim (cases_eq (byte / 16) 6) [ inl e6 ↦ deferred_pc (omega arith) | inr n6 ↦ decrement_pc (omega arith) ]
          ]
    ]
reserved_base x byte mode.Decrement is bad = let same = eqb-true (byte % 16) x bad in steps_down (omega arith)
reserved_base x byte mode.Increment is bad = let same = eqb-true (byte % 16) x bad in steps_up (omega arith)
reserved_base x byte mode.IncrementDeferred is bad = let same = eqb-true (byte % 16) x bad in steps_up_deferred (omega arith)
reserved_base x byte mode.Deferred is bad = absurd (false≢true bad)
reserved_base x byte mode.Absolute is bad = absurd (false≢true bad)
reserved_base x byte (mode.Displacement s is_deferred) is bad = absurd (false≢true bad)
reserved_base x byte (mode.Relative s is_deferred) is bad = absurd (false≢true bad)

-- a base that isn't reserved is a place that doesn't step the index register
record IsFreeBase (x n value from behind : ℕ) (m : Mode) : Type 0 where
  is_for_place : is_place m ≡ true
  free : ¬ Steps (base_of n value from behind m) x

free_base : (x n value from behind : ℕ) (m : Mode) → is_reserved_base x n m ≡ false → IsFreeBase x n value from behind m
unfolding is_reserved_base base_of
free_base x n value from behind mode.Decrement fine = record { is_for_place = refl; free = eqb-false n x fine }
free_base x n value from behind mode.Increment fine = record { is_for_place = refl; free = eqb-false n x fine }
free_base x n value from behind mode.IncrementDeferred fine = record { is_for_place = refl; free = eqb-false n x fine }
free_base x n value from behind mode.Deferred fine = record { is_for_place = refl; free = λ h. h }
free_base x n value from behind mode.Absolute fine = record { is_for_place = refl; free = λ h. h }
free_base x n value from behind (mode.Displacement s is_deferred) fine = record { is_for_place = refl; free = λ h. h }
free_base x n value from behind (mode.Relative s is_deferred) fine = record { is_for_place = refl; free = λ h. h }
free_base x n value from behind _ fine = absurd (true≢false fine)

Finds-base : (a : Access) (size : Size) (at first x byte : ℕ) (rest : List ℕ) (shown : Shown Operand) (n : ℕ)
    → byte < 256 → x < 15 → first ≡ 0x40 + x → read_base size (at + 1) x (byte ∷ rest) ≡ Some (shown, n)
    → Finds a size at (first ∷ byte ∷ rest) shown n
unfolding read_base
Finds-base a size at first x byte rest shown n small below is e =
    let m = mode_of byte in
    elim (chosen (is_reserved_base x (byte % 16) m) _ _ _ e) [
      | inl bad ↦ (let p = some_pair_parts reserved shown 2 n bad.1 in (
        omega (arith, p.1),
        subst (λ k. Describes_shown a size at (take k (first ∷ byte ∷ rest)) shown) p.1
            (subst (λ k. Describes_shown a size at (first ∷ byte ∷ []) k) p.0
            (base x byte below (reserved_base x byte m (is_first byte small) bad.0) (ap (λ b. b ∷ byte ∷ []) is))),
      ))
      | inr fine ↦ (
          let y = option_map-some _ (read_extension (extension_size size m) rest) _ fine.1 in
          let ext = read_extension-some (extension_size size m) rest y.0.0 y.0.1 y.1 in
          let enough = IsExtension-enough (extension_size size m) rest y.0.0 y.0.1 ext in
          let f = free_base x (byte % 16) y.0.0 (wrapped (at + 1 + 1)) (wrapped (at + 1 + 1 + y.0.1)) m fine.0 in
          let count : suc (suc y.0.1) ≡ n = omega (arith, ap (λ p. p.1) y.2) in (
            omega (arith, count),
            subst (λ k. Describes_shown a size at (take k (first ∷ byte ∷ rest)) shown) count
                (subst (λ k. Describes_shown a size at (first ∷ byte ∷ take y.0.1 rest) k) (ap (λ p. p.0) y.2)
                (indexed x _ (byte ∷ take y.0.1 rest) below
                (located size (at + 1) byte y.0.0 y.0.1 m rest f.is_for_place (is_first byte small) ext)
                f.free (ap (λ b. b ∷ byte ∷ take y.0.1 rest) is) refl)),
          ))
    ]

Finds-index : (a : Access) (size : Size) (at first : ℕ) (rest : List ℕ) (shown : Shown Operand) (n : ℕ) → AreBytes rest
    → IsFirst first mode.Index → read_base size (at + 1) (first % 16) rest ≡ Some (shown, n) → Finds a size at (first ∷ rest) shown n
unfolding read_base
Finds-index a size at first [] shown n are is e = absurd cc
Finds-index a size at first (byte ∷ rest) shown n are is e =
    Finds-base a size at first (first % 16) byte rest shown n (are 0) is.0 is.1 e

Finds-by_mode : (a : Access) (size : Size) (at first : ℕ) (m : Mode) (rest : List ℕ) (shown : Shown Operand) (n : ℕ)
    → a ≢ access.Branch → AreBytes rest → IsFirst first m → read_by_mode a size at first m rest ≡ Some (shown, n)
    → Finds a size at (first ∷ rest) shown n
unfolding read_by_mode
Finds-by_mode a size at first mode.Index rest shown n other are is e = Finds-index a size at first rest shown n are is e
Finds-by_mode a size at first mode.Literal rest shown n other are is e = Finds-plain a size at first _ rest shown n other (λ h. cc) is e
Finds-by_mode a size at first mode.Register rest shown n other are is e = Finds-plain a size at first _ rest shown n other (λ h. cc) is e
Finds-by_mode a size at first mode.Deferred rest shown n other are is e = Finds-plain a size at first _ rest shown n other (λ h. cc) is e
Finds-by_mode a size at first mode.Decrement rest shown n other are is e = Finds-plain a size at first _ rest shown n other (λ h. cc) is e
Finds-by_mode a size at first mode.Increment rest shown n other are is e = Finds-plain a size at first _ rest shown n other (λ h. cc) is e
Finds-by_mode a size at first mode.IncrementDeferred rest shown n other are is e = Finds-plain a size at first _ rest shown n other (λ h. cc) is e
Finds-by_mode a size at first mode.Immediate rest shown n other are is e = Finds-plain a size at first _ rest shown n other (λ h. cc) is e
Finds-by_mode a size at first mode.Absolute rest shown n other are is e = Finds-plain a size at first _ rest shown n other (λ h. cc) is e
Finds-by_mode a size at first (mode.Displacement s is_deferred) rest shown n other are is e = Finds-plain a size at first _ rest shown n other (λ h. cc) is e
Finds-by_mode a size at first (mode.Relative s is_deferred) rest shown n other are is e = Finds-plain a size at first _ rest shown n other (λ h. cc) is e
Finds-by_mode a size at first mode.Reserved rest shown n other are is e = Finds-plain a size at first _ rest shown n other (λ h. cc) is e

Finds-general : (a : Access) (size : Size) (at : ℕ) (bytes : List ℕ) (shown : Shown Operand) (n : ℕ)
    → a ≢ access.Branch → AreBytes bytes → read_general a size at bytes ≡ Some (shown, n) → Finds a size at bytes shown n
unfolding read_general
Finds-general a size at [] shown n other are e = absurd cc
Finds-general a size at (first ∷ rest) shown n other are e =
    Finds-by_mode a size at first (mode_of first) rest shown n other (λ i. are (suc i)) (is_first first (are 0)) e

-- ---- any operand

abbrev pub Specifies_shown : Access → Size → ℕ → List ℕ → Shown Operand → Type 0
Specifies_shown a size at bytes (complete o) = Specifies a size at bytes o
Specifies_shown a size at bytes reserved = ShowsReservedMode a size bytes

displacement_found : (size : Size) (at : ℕ) (bytes : List ℕ) (shown : Shown Operand) (n : ℕ)
    → read_displacement size at bytes ≡ Some (shown, n) → (n ≤ length bytes) × Specifies_shown access.Branch size at (take n bytes) shown
unfolding read_displacement
displacement_found size at bytes shown n e =
    let x = option_map-some _ (read_number size bytes) _ e in
    let number_read = read_number-some size bytes x.0 x.1 in
    let count : bytes_of size ≡ n = ap (λ p. p.1) x.2 in
    let len : length (take (bytes_of size) bytes) ≡ bytes_of size = length-take-enough (bytes_of size) bytes number_read.enough in (
      omega (arith, number_read.enough, count),
      subst (λ k. Specifies_shown access.Branch size at (take k bytes) shown) count
          (subst (λ k. Specifies_shown access.Branch size at (take (bytes_of size) bytes) k) (ap (λ p. p.0) x.2) (
            len,
            ap (λ k. Target (wrapped (at + k + extended size x.0))) (sym len)
                ∙ ap (λ v. Target (wrapped (at + length (take (bytes_of size) bytes) + extended size v))) number_read.is,
          )),
    )

-- what is read, the bytes specify
pub specifier_found : (a : Access) (size : Size) (at : ℕ) (bytes : List ℕ) (shown : Shown Operand) (n : ℕ)
    → AreBytes bytes → read_specifier a size at bytes ≡ Some (shown, n)
    → (n ≤ length bytes) × Specifies_shown a size at (take n bytes) shown
unfolding read_specifier
specifier_found access.Branch size at bytes shown n are e = displacement_found size at bytes shown n e
specifier_found access.Read size at bytes (complete o) n are e = Finds-general access.Read size at bytes (complete o) n (λ h. cc) are e
specifier_found access.Write size at bytes (complete o) n are e = Finds-general access.Write size at bytes (complete o) n (λ h. cc) are e
specifier_found access.Modify size at bytes (complete o) n are e = Finds-general access.Modify size at bytes (complete o) n (λ h. cc) are e
specifier_found access.Address size at bytes (complete o) n are e = Finds-general access.Address size at bytes (complete o) n (λ h. cc) are e
specifier_found access.Field size at bytes (complete o) n are e = Finds-general access.Field size at bytes (complete o) n (λ h. cc) are e
specifier_found access.Read size at bytes reserved n are e = Finds-general access.Read size at bytes reserved n (λ h. cc) are e
specifier_found access.Write size at bytes reserved n are e = Finds-general access.Write size at bytes reserved n (λ h. cc) are e
specifier_found access.Modify size at bytes reserved n are e = Finds-general access.Modify size at bytes reserved n (λ h. cc) are e
specifier_found access.Address size at bytes reserved n are e = Finds-general access.Address size at bytes reserved n (λ h. cc) are e
specifier_found access.Field size at bytes reserved n are e = Finds-general access.Field size at bytes reserved n (λ h. cc) are e
