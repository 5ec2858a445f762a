-- What is read from a place on, by the byte at that place.
use Rattle.std.proofs.Common.{◌≡◌, ◌≢◌, ℕ, ◌+◌, ◌%◌, ◌<◌, ◌≤◌, true, false, List, [], ◌∷◌, length, get_or, drop, Option, Some, None, Result, Ok, Err, refl, sym, ap, ◌∙◌, arith}
use Rattle.std.proofs.lemmas.Bool.{cond-false, cond-true}
use Rattle.std.proofs.lemmas.List.{at_drop_all, at_drop_more}
use Rattle.std.specs.Option.{option_map}
use Rattle.vax_form.specs.Grammar.{wrapped}
use Rattle.vax_form.specs.GrammarModes.{base_of, extension_size, is_reserved_base, is_reserved_mode, mode_of, operand_of}
use Rattle.vax_form.specs.GrammarReading.{Shown, complete, read_base, read_by_mode, read_extension, read_general, read_plain, read_specifier, reserved}
use Rattle.vax_form.specs.declared.mode.Mode.{Mode}
use Rattle.vax_form.specs.declared.mode.Mode.TheVariants as mode
use Rattle.vax_form.specs.declared.instr.Size.{Size}
use Rattle.vax_form.specs.declared.instr.Access.{Access}
use Rattle.vax_form.specs.declared.instr.Access.TheVariants as access
use Rattle.vax_form.specs.declared.instr.Base.{Base}
use Rattle.vax_form.specs.declared.instr.Operand.{Operand}
use Rattle.vax_form.specs.declared.instr.Operand.TheVariants.{Place}
use Rattle.operand_specifiers.specs.declared.spec.SpecFault.{SpecFault}
use Rattle.operand_specifiers.specs.declared.spec.SpecFault.TheVariants.{Past, ReservedMode}
use Rattle.operand_specifiers.specs.Answer.{FitsExtension, FitsSize, answer_of}

pub FitsExtension-from : (size : Size) (m : Mode) (value : ℕ) → FitsSize (extension_size size m) value → FitsExtension m value
unfolding extension_size
FitsExtension-from size mode.Absolute value h = h
FitsExtension-from size (mode.Displacement s is_deferred) value h = h
FitsExtension-from size (mode.Relative s is_deferred) value h = h
FitsExtension-from size _ value h = tt

-- the byte at that place
abbrev pub IsAt : List ℕ → ℕ → ℕ → Type 0
IsAt bytes place first = (place < length bytes) × (first ≡ get_or bytes place first)

at_byte : {Y : Type 0} (F : List ℕ → Y) (bytes : List ℕ) (place first : ℕ) → IsAt bytes place first
    → F (drop place bytes) ≡ F (first ∷ drop (place + 1) bytes)
at_byte F bytes place first is =
    at_drop_more F bytes place first is.0 ∙ ap (λ b. F (b ∷ drop (place + 1) bytes)) (sym is.1)

-- ---- a base behind an index byte

pub indexed_none : (at : ℕ) (size : Size) (a x : ℕ) (bytes : List ℕ) (place : ℕ) → length bytes ≤ place
    → Err Past ≡ answer_of at (read_base size a x (drop place bytes))
unfolding read_base
indexed_none at size a x bytes place h = ap (answer_of at) (sym (at_drop_all (read_base size a x) bytes place h))

module _ (at : ℕ) (size : Size) (a x : ℕ) (bytes : List ℕ) (place next first : ℕ) (m : Mode) (is : IsAt bytes place first)
    (follows : next ≡ place + 1) (is_mode : m ≡ mode_of first) where
  base_at : read_base size a x (drop place bytes) ≡ read_base size a x (first ∷ drop next bytes)
  base_at = at_byte (read_base size a x) bytes place first is ∙ ap (λ n. read_base size a x (first ∷ drop n bytes)) (sym follows)

  pub indexed_reserved : is_reserved_base x (first % 16) m ≡ true → Err ReservedMode ≡ answer_of at (read_base size a x (drop place bytes))
  unfolding read_base
  indexed_reserved bad =
      let bad' : is_reserved_base x (first % 16) (mode_of first) ≡ true = rw (← is_mode) bad in
      ap (answer_of at) (sym (base_at ∙ cond-true _ _ _ bad'))

  pub indexed_short : is_reserved_base x (first % 16) m ≡ false → None ≡ read_extension (extension_size size m) (drop next bytes)
      → Err Past ≡ answer_of at (read_base size a x (drop place bytes))
  unfolding read_base
  indexed_short fine none =
      let fine' : is_reserved_base x (first % 16) (mode_of first) ≡ false = rw (← is_mode) fine in
      let none' : None ≡ read_extension (extension_size size (mode_of first)) (drop next bytes) = rw (← is_mode) none in
      ap (answer_of at) (sym (base_at ∙ cond-false _ _ _ fine' ∙ ap (option_map _) (sym none')))

  pub indexed_whole : (value count from after : ℕ) (b : Base) (behind : ℕ) → is_reserved_base x (first % 16) m ≡ false
      → Some (value, count) ≡ read_extension (extension_size size m) (drop next bytes) → from ≡ wrapped (a + 1)
      → after ≡ wrapped (a + 1 + count) → b ≡ base_of (first % 16) value from after m → behind ≡ at + (2 + count)
      → Ok (Place b (Some x), behind) ≡ answer_of at (read_base size a x (drop place bytes))
  unfolding read_base
  indexed_whole value count from after b behind fine reads from_is after_is gives len =
      let fine' : is_reserved_base x (first % 16) (mode_of first) ≡ false = rw (← is_mode) fine in
      let reads' : Some (value, count) ≡ read_extension (extension_size size (mode_of first)) (drop next bytes) = rw (← is_mode) reads in
      let gives' : b ≡ base_of (first % 16) value (wrapped (a + 1)) (wrapped (a + 1 + count)) (mode_of first) =
      gives ∙ ap (λ n. base_of (first % 16) value n after m) from_is ∙ ap (λ n. base_of (first % 16) value (wrapped (a + 1)) n m) after_is
      ∙ ap (base_of (first % 16) value (wrapped (a + 1)) (wrapped (a + 1 + count))) is_mode in
      ap (λ n. Ok (Place b (Some x), n)) len ∙ ap (λ k. Ok (Place k (Some x), at + (2 + count))) gives'
      ∙ ap (answer_of at) (sym (base_at ∙ cond-false _ _ _ fine' ∙ ap (option_map _) (sym reads')))

-- ---- a specifier that begins with its mode

pub general_none : (at : ℕ) (a : Access) (size : Size) (p : ℕ) (bytes : List ℕ) → length bytes ≤ at
    → Err Past ≡ answer_of at (read_general a size p (drop at bytes))
unfolding read_general
general_none at a size p bytes h = ap (answer_of at) (sym (at_drop_all (read_general a size p) bytes at h))

read_by_mode-plain : (a : Access) (size : Size) (p first : ℕ) (m : Mode) (rest : List ℕ) → m ≢ mode.Index
    → read_by_mode a size p first m rest ≡ read_plain a size p first m rest
unfolding read_by_mode
read_by_mode-plain a size p first mode.Index rest other = absurd (other refl)
read_by_mode-plain a size p first m rest other = refl

module _ (at : ℕ) (a : Access) (size : Size) (p : ℕ) (bytes : List ℕ) (first : ℕ) (m : Mode) (is : IsAt bytes at first) (is_mode : m ≡ mode_of first) where
  general_at : read_general a size p (drop at bytes) ≡ read_by_mode a size p first m (drop (at + 1) bytes)
  unfolding read_general
  general_at = at_byte (read_general a size p) bytes at first is ∙ ap (λ k. read_by_mode a size p first k (drop (at + 1) bytes)) (sym is_mode)

  pub general_index : m ≡ mode.Index
      → answer_of at (read_base size (p + 1) (first % 16) (drop (at + 1) bytes)) ≡ answer_of at (read_general a size p (drop at bytes))
  unfolding read_by_mode
  general_index index =
      ap (answer_of at) (sym (general_at ∙ ap (λ k. read_by_mode a size p first k (drop (at + 1) bytes)) index))

  plain_at : m ≢ mode.Index → read_general a size p (drop at bytes) ≡ read_plain a size p first m (drop (at + 1) bytes)
  plain_at other = general_at ∙ read_by_mode-plain a size p first m (drop (at + 1) bytes) other

  pub general_reserved : m ≢ mode.Index → is_reserved_mode a size (first % 16) m ≡ true
      → Err ReservedMode ≡ answer_of at (read_general a size p (drop at bytes))
  unfolding read_plain
  general_reserved other bad = ap (answer_of at) (sym (plain_at other ∙ cond-true _ _ _ bad))

  pub general_short : m ≢ mode.Index → is_reserved_mode a size (first % 16) m ≡ false
      → None ≡ read_extension (extension_size size m) (drop (at + 1) bytes)
      → Err Past ≡ answer_of at (read_general a size p (drop at bytes))
  unfolding read_plain
  general_short other fine none = ap (answer_of at) (sym (plain_at other ∙ cond-false _ _ _ fine ∙ ap (option_map _) (sym none)))

  pub general_whole : (value count from after : ℕ) (o : Operand) (behind : ℕ) → m ≢ mode.Index
      → is_reserved_mode a size (first % 16) m ≡ false
      → Some (value, count) ≡ read_extension (extension_size size m) (drop (at + 1) bytes) → from ≡ wrapped (p + 1)
      → after ≡ wrapped (p + 1 + count) → o ≡ operand_of a first value from after m → behind ≡ at + (1 + count)
      → Ok (o, behind) ≡ answer_of at (read_general a size p (drop at bytes))
  unfolding read_plain
  general_whole value count from after o behind other fine reads from_is after_is gives len =
      let gives' : o ≡ operand_of a first value (wrapped (p + 1)) (wrapped (p + 1 + count)) m =
      gives ∙ ap (λ n. operand_of a first value n after m) from_is ∙ ap (λ n. operand_of a first value (wrapped (p + 1)) n m) after_is in
      ap (λ n. Ok (o, n)) len ∙ ap (λ k. Ok (k, at + (1 + count))) gives'
      ∙ ap (answer_of at) (sym (plain_at other ∙ cond-false _ _ _ fine ∙ ap (option_map _) (sym reads)))
