-- The operands of an instruction that is spelled fit the slots of their row.
use Rattle.std.proofs.Common.{◌≡◌, ℕ, suc, ◌+◌, ◌≤◌, ◌^◌, Bool, true, false, List, [], ◌∷◌, length, map, Some, None, refl, ap, ◌∙◌, subst, arith, ltb-true, lit<}
use Rattle.std.specs.Prelude.{◌≢◌, ◌==◌, ◌&&◌, not, nat_lt}
use Rattle.std.proofs.lemmas.Nat.{mod_below}
use Rattle.std.proofs.lemmas.Bool.{and_parts, not-true}
use Rattle.vax_form.specs.Grammar.{SpecifyAll, Specifies, Describes, Locates, HasRegister, number}
use Rattle.vax_form.specs.Row.{row_with}
use Rattle.vax_form.specs.declared.instr.Access.{Access}
use Rattle.vax_form.specs.declared.instr.Access.TheVariants.{Read, Write, Modify, Address, Field, Branch}
use Rattle.vax_form.specs.declared.instr.Base.{Base}
use Rattle.vax_form.specs.declared.instr.Instr.{Instr}
use Rattle.vax_form.specs.declared.instr.Operand.{Operand}
use Rattle.vax_form.specs.declared.instr.Operand.TheVariants as operands
use Rattle.vax_form.specs.declared.instr.Size.{Size}
use Rattle.vax_form.specs.declared.instr.Size.TheVariants.{Byte, Word, Long, Quad}
use Rattle.vax_meaning.specs.Evaluation.{operand}
use Rattle.operand_programs.specs.InOrder.{IsOutsideOne, IsOutside, Lasts, ArePlaced, AreOperandsOf}
use Rattle.operand_programs.specs.Operands.{IsFor}
use Rattle.operand_programs.specs.Pieces.{IsLong, IsLongOperand}
use Rattle.operand_programs.specs.Behind.{AreFit}
use Rattle.operand_programs.specs.Registers.{BaseIsNamed, NamesRegisters}
use Rattle.operand_programs.specs.Results.{IsGivable}
use Rattle.operand_programs.specs.declared.operands.Specifier.{Specifier}
use Rattle.micro_lower.specs.Plans.{specifiers_from}
use Rattle.micro_lower.specs.declared.plans.Slot.{Slot}
use Rattle.micro_lower.proofs.Spelled.{with_operands}

-- it can be used so, and given a value of that size
abbrev pub CanBeUsed : Access → Size → Operand → Type 0
CanBeUsed access size operand = IsFor access operand × IsGivable operand size

-- and it names registers that there are
abbrev pub Fits : Access → Size → Operand → Type 0
Fits access size operand = CanBeUsed access size operand × NamesRegisters operand size

below_255 : (size : Size) (n : ℕ) → HasRegister size n → IsGivable (operands.Register n) size
below_255 Byte n has = tt
below_255 Word n has = tt
below_255 Long n has = tt
below_255 Quad n has = omega (arith, has)

place_fits : (access : Access) (size : Size) (base : Base) (index : _) → access ≢ Branch → IsLong base → CanBeUsed access size (operands.Place base index)
place_fits Read size base index other long = (long, tt)
place_fits Write size base index other long = (long, tt)
place_fits Modify size base index other long = (long, tt)
place_fits Address size base index other long = (long, tt)
place_fits Field size base index other long = (long, tt)
place_fits Branch size base index other long = absurd (other refl)

value_fits : (access : Access) (size : Size) (value : ℕ) → access ≡ Read → CanBeUsed access size (operands.Value value)
value_fits Read size value is = (tt, tt)
value_fits Write size value is = cc
value_fits Modify size value is = cc
value_fits Address size value is = cc
value_fits Field size value is = cc
value_fits Branch size value is = cc

register_fits : (access : Access) (size : Size) (n : ℕ) → access ≢ Address → access ≢ Branch → HasRegister size n → CanBeUsed access size (operands.Register n)
register_fits Read size n other other' has = (tt, below_255 size n has)
register_fits Write size n other other' has = (tt, below_255 size n has)
register_fits Modify size n other other' has = (tt, below_255 size n has)
register_fits Address size n other other' has = absurd (other refl)
register_fits Field size n other other' has = (tt, below_255 size n has)
register_fits Branch size n other other' has = absurd (other' refl)

described : (access : Access) (size : Size) (at : ℕ) (bytes : List ℕ) (operand : Operand) → access ≢ Branch → Describes access size at bytes operand → IsLongOperand operand → CanBeUsed access size operand
described access size at bytes operand other (Describes.literal v lt is b o) long = rw o (value_fits access size v is)
described access size at bytes operand other (Describes.register n has not b o) long = rw o (register_fits access size n not other has)
described access size at bytes operand other (Describes.immediate d l is b o) long = rw o (value_fits access size (number d) is)
described access size at bytes operand other (Describes.constant_address d l is b o) long = rw o (place_fits access size _ _ other (mod_below _ (2 ^ 32) (lit< tt)))
described access size at bytes operand other (Describes.place base locates o) long = rw o (place_fits access size base None other (subst IsLongOperand o long))
described access size at bytes operand other (Describes.indexed x base more lt locates free b o) long = rw o (place_fits access size base (Some x) other (subst IsLongOperand o long))

used : (access : Access) (size : Size) (at : ℕ) (bytes : List ℕ) (operand : Operand) → Specifies access size at bytes operand → IsLongOperand operand → CanBeUsed access size operand
used Branch size at bytes operand is long = rw is.1 (tt, tt)
used Read size at bytes operand is long = described Read size at bytes operand (λ e. cc) is long
used Write size at bytes operand is long = described Write size at bytes operand (λ e. cc) is long
used Modify size at bytes operand is long = described Modify size at bytes operand (λ e. cc) is long
used Address size at bytes operand is long = described Address size at bytes operand (λ e. cc) is long
used Field size at bytes operand is long = described Field size at bytes operand (λ e. cc) is long

-- ---- registers
base_named : (size : Size) (at : ℕ) (bytes : List ℕ) (base : Base) → Locates size at bytes base → BaseIsNamed base
base_named size at bytes base (Locates.deferred n lt b is) = rw is lt
base_named size at bytes base (Locates.decrement n lt b is) = rw is lt
base_named size at bytes base (Locates.increment n lt b is) = rw is lt
base_named size at bytes base (Locates.increment_deferred n lt b is) = rw is lt
base_named size at bytes base (Locates.absolute d l b is) = rw is tt
base_named size at bytes base (Locates.byte_displacement n is_deferred d lt l b is) = rw is lt
base_named size at bytes base (Locates.word_displacement n is_deferred d lt l b is) = rw is lt
base_named size at bytes base (Locates.long_displacement n is_deferred d lt l b is) = rw is lt
base_named size at bytes base (Locates.byte_relative is_deferred d l b is) = rw is tt
base_named size at bytes base (Locates.word_relative is_deferred d l b is) = rw is tt
base_named size at bytes base (Locates.long_relative is_deferred d l b is) = rw is tt

described_named : (access : Access) (size : Size) (at : ℕ) (bytes : List ℕ) (operand : Operand) → Describes access size at bytes operand → NamesRegisters operand size
described_named access size at bytes operand (Describes.literal v lt is b o) = rw o tt
described_named access size at bytes operand (Describes.register n has not b o) = rw o has
described_named access size at bytes operand (Describes.immediate d l is b o) = rw o tt
described_named access size at bytes operand (Describes.constant_address d l is b o) = rw o (tt, tt)
described_named access size at bytes operand (Describes.place base locates o) = rw o (base_named size at bytes base locates, tt)
described_named access size at bytes operand (Describes.indexed x base more lt locates free b o) = rw o (base_named size (at + 1) more base locates, lt)

specified_is_named : (access : Access) (size : Size) (at : ℕ) (bytes : List ℕ) (operand : Operand) → Specifies access size at bytes operand → NamesRegisters operand size
specified_is_named Branch size at bytes operand is = rw is.1 tt
specified_is_named Read size at bytes operand is = described_named Read size at bytes operand is
specified_is_named Write size at bytes operand is = described_named Write size at bytes operand is
specified_is_named Modify size at bytes operand is = described_named Modify size at bytes operand is
specified_is_named Address size at bytes operand is = described_named Address size at bytes operand is
specified_is_named Field size at bytes operand is = described_named Field size at bytes operand is

specified : (access : Access) (size : Size) (at : ℕ) (bytes : List ℕ) (operand : Operand) → Specifies access size at bytes operand → IsLongOperand operand → Fits access size operand
specified access size at bytes operand is long = (used access size at bytes operand is long, specified_is_named access size at bytes operand is)

-- ---- several operands
-- the types of the slots
abbrev pub types_of : List Slot → List (Access × Size)
types_of slots = map (λ (slot : Slot). (slot.access, slot.size)) slots

abbrev pub FitSlots : List Slot → List Operand → Type 0
FitSlots [] [] = Unit {0}
FitSlots (slot ∷ slots) (operand ∷ operands) = Fits slot.access slot.size operand × FitSlots slots operands
FitSlots _ _ = ⊥

abbrev pub AreLong : List Operand → Type 0
AreLong [] = Unit {0}
AreLong (operand ∷ operands) = IsLongOperand operand × AreLong operands

pub fit_slots : (slots : List Slot) (at : ℕ) (bytes : List ℕ) (operands : List Operand) → SpecifyAll (types_of slots) at bytes operands → AreLong operands → FitSlots slots operands
fit_slots [] at bytes operands are long = rw are.1 tt
fit_slots (slot ∷ slots) at bytes operands are long =
    let l = subst AreLong are.5 long in
    rw are.5 (specified slot.access slot.size at are.0 are.2 are.6 l.0, fit_slots slots (at + length are.0) are.1 are.3 are.7 l.1)

-- the operands in their slots
abbrev pub zip : List Slot → List Operand → List Specifier
zip (slot ∷ slots) (operand ∷ operands) = record { access = slot.access; size = slot.size; operand = operand; to = slot.to; place = slot.place } ∷ zip slots operands
zip _ _ = []

same_length : (slots : List Slot) (operands : List Operand) → FitSlots slots operands → length slots ≡ length operands
same_length [] [] fit = refl
same_length (slot ∷ slots) (operand ∷ operands) fit = ap suc (same_length slots operands fit.1)
same_length [] (operand ∷ operands) fit = absurd fit
same_length (slot ∷ slots) [] fit = absurd fit

zipped : (slots : List Slot) (operands : List Operand) (at opcode count after : ℕ) → FitSlots slots operands → length slots ≤ 4
    → specifiers_from 0 slots (with_operands at opcode count after operands) ≡ zip slots operands
zipped [] [] at opcode count after fit few = refl
zipped (a ∷ []) (x ∷ []) at opcode count after fit few = refl
zipped (a ∷ b ∷ []) (x ∷ y ∷ []) at opcode count after fit few = refl
zipped (a ∷ b ∷ c ∷ []) (x ∷ y ∷ z ∷ []) at opcode count after fit few = refl
zipped (a ∷ b ∷ c ∷ d ∷ []) (x ∷ y ∷ z ∷ w ∷ []) at opcode count after fit few = refl
zipped (a ∷ b ∷ c ∷ d ∷ e ∷ more) operands at opcode count after fit few = absurd (omega (arith, few))
zipped slots operands at opcode count after fit few = absurd (omega (arith, same_length slots operands fit))

are_operands : (slots : List Slot) (operands : List Operand) → FitSlots slots operands → map (λ (specifier : Specifier). specifier.operand) (zip slots operands) ≡ operands
are_operands [] [] fit = refl
are_operands (slot ∷ slots) (operand ∷ operands) fit = ap (λ xs. operand ∷ xs) (are_operands slots operands fit.1)
are_operands [] (operand ∷ operands) fit = absurd fit
are_operands (slot ∷ slots) [] fit = absurd fit

are_types : (slots : List Slot) (operands : List Operand) → FitSlots slots operands → map (λ (specifier : Specifier). (specifier.access, specifier.size)) (zip slots operands) ≡ types_of slots
are_types [] [] fit = refl
are_types (slot ∷ slots) (operand ∷ operands) fit = ap (λ xs. (slot.access, slot.size) ∷ xs) (are_types slots operands fit.1)
are_types [] (operand ∷ operands) fit = absurd fit
are_types (slot ∷ slots) [] fit = absurd fit

-- ---- temporaries
abbrev pub is_outside_one : Access → (to place temp : ℕ) → Bool
is_outside_one Branch to place temp = true
is_outside_one access to place temp = not (temp == place) && not (temp == to) && not (temp == 4)

abbrev pub is_outside : List Slot → (temp : ℕ) → Bool
is_outside [] temp = true
is_outside (slot ∷ slots) temp = is_outside_one slot.access slot.to slot.place temp && is_outside slots temp

abbrev pub lasts : Access → (to place : ℕ) → List Slot → Bool
lasts Read to place later = is_outside later to
lasts Write to place later = is_outside later place
lasts Modify to place later = is_outside later to && is_outside later place
lasts Address to place later = is_outside later to
lasts Field to place later = is_outside later to && is_outside later place
lasts Branch to place later = true

-- each operand has two temporaries of 0 to 3, and what it leaves outlasts the later ones
abbrev pub are_apart : List Slot → Bool
are_apart [] = true
are_apart (slot ∷ slots) = nat_lt slot.to 4 && nat_lt slot.place 4 && not (slot.to == slot.place) && lasts slot.access slot.to slot.place slots && are_apart slots

three : (a b c : Bool) → (not a && not b && not c) ≡ true → (a ≡ false) × (b ≡ false) × (c ≡ false)
three a b c is =
    let second = and_parts _ _ is in
    let first = and_parts _ _ second.0 in
    (not-true a first.0, not-true b first.1, not-true c second.1)

outside_one : (access : Access) (to place temp : ℕ) → is_outside_one access to place temp ≡ true → IsOutsideOne access to place temp
outside_one Read to place temp is = three _ _ _ is
outside_one Write to place temp is = three _ _ _ is
outside_one Modify to place temp is = three _ _ _ is
outside_one Address to place temp is = three _ _ _ is
outside_one Field to place temp is = three _ _ _ is
outside_one Branch to place temp is = tt

outside : (slots : List Slot) (operands : List Operand) (temp : ℕ) → FitSlots slots operands → is_outside slots temp ≡ true → IsOutside (zip slots operands) temp
outside [] [] temp fit is = tt
outside (slot ∷ slots) (operand ∷ operands) temp fit is =
    let b = and_parts _ _ is in
    (outside_one slot.access slot.to slot.place temp b.0, outside slots operands temp fit.1 b.1)
outside [] (operand ∷ operands) temp fit is = absurd fit
outside (slot ∷ slots) [] temp fit is = absurd fit

last : (access : Access) (to place : ℕ) (slots : List Slot) (operands : List Operand) → FitSlots slots operands → lasts access to place slots ≡ true → Lasts access to place (zip slots operands)
last Read to place slots operands fit is = outside slots operands to fit is
last Write to place slots operands fit is = outside slots operands place fit is
last Modify to place slots operands fit is = let b = and_parts _ _ is in (outside slots operands to fit b.0, outside slots operands place fit b.1)
last Address to place slots operands fit is = outside slots operands to fit is
last Field to place slots operands fit is = let b = and_parts _ _ is in (outside slots operands to fit b.0, outside slots operands place fit b.1)
last Branch to place slots operands fit is = tt

are_placed : (slots : List Slot) (operands : List Operand) → FitSlots slots operands → are_apart slots ≡ true → ArePlaced (zip slots operands)
are_placed [] [] fit is = tt
are_placed (slot ∷ slots) (operand ∷ operands) fit is =
    let e = and_parts _ _ is in
    let d = and_parts _ _ e.0 in
    let c = and_parts _ _ d.0 in
    let b = and_parts _ _ c.0 in (
      record { operand = fit.0.0.0; to = ltb-true slot.to 4 b.0; place = ltb-true slot.place 4 b.1; apart = not-true _ c.1 },
      last slot.access slot.to slot.place slots operands fit.1 d.1,
      are_placed slots operands fit.1 e.1,
    )
are_placed [] (operand ∷ operands) fit is = absurd fit
are_placed (slot ∷ slots) [] fit is = absurd fit

are_fit : (slots : List Slot) (operands : List Operand) → FitSlots slots operands → ArePlaced (zip slots operands) → AreFit (zip slots operands)
are_fit [] [] fit placed = tt
are_fit (slot ∷ slots) (operand ∷ operands) fit placed = (record { placed = placed.0; registers = fit.0.1 }, are_fit slots operands fit.1 placed.2)
are_fit [] (operand ∷ operands) fit placed = absurd fit
are_fit (slot ∷ slots) [] fit placed = absurd fit

-- the operands of an instruction fit the slots
pub record AreSlots (slots : List Slot) (instr : Instr) : Type 0 where
  pub operands : List Operand
  pub fit : FitSlots slots operands
  pub is_instr : instr ≡ with_operands instr.at instr.opcode instr.count instr.after operands
  pub are : specifiers_from 0 slots instr ≡ zip slots operands
  pub placed : ArePlaced (specifiers_from 0 slots instr)
  pub registers : AreFit (specifiers_from 0 slots instr)
  pub of_instruction : AreOperandsOf (specifiers_from 0 slots instr) (row_with (types_of slots)) instr

pub are_slots : (slots : List Slot) (instr : Instr) (operands : List Operand) → FitSlots slots operands → are_apart slots ≡ true → length slots ≤ 4
    → instr ≡ with_operands instr.at instr.opcode instr.count instr.after operands → AreSlots slots instr
are_slots slots instr operands fit apart few is =
    let are : specifiers_from 0 slots instr ≡ zip slots operands = ap (specifiers_from 0 slots) is ∙ zipped slots operands instr.at instr.opcode instr.count instr.after fit few in
    record {
      operands = operands;
      fit = fit;
      is_instr = is;
      are = are;
      placed = rw are (are_placed slots operands fit apart);
      registers = rw are (are_fit slots operands fit (are_placed slots operands fit apart));
      of_instruction = rw (are, are_types slots operands fit, are_operands slots operands fit) (refl, ap (λ (i : Instr). i.operands) is);
    }
