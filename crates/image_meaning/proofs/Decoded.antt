-- What is decoded from bytes has longwords for addresses.
use Rattle.std.proofs.Common.{◌≡◌, ℕ, zero, suc, ◌+◌, ◌-◌, ◌*◌, ◌<◌, ◌^◌, inl, inr, arith, lit<, List, [], ◌∷◌, ◌++◌, length, take, replicate, Option, Some, None, sym, subst, slice_index}
use Rattle.std.specs.Prelude.{slice_index_or, option_map, find}
use Rattle.std.proofs.lemmas.Bool.{cases_lt}
use Rattle.std.proofs.lemmas.List.{get_or_past, get_or_append_left, get_or-append-add}
use Rattle.vax_form.specs.Grammar.{Describes, Locates, Specifies, SpecifyAll, Spells, instruction, wrapped, number, absolute, byte_displacement, byte_relative, constant_address, decrement, deferred, immediate, increment, increment_deferred, indexed, literal, long_displacement, long_relative, place, register, word_displacement, word_relative}
use Rattle.vax_form.specs.GrammarFound.{Stands, fetched, found, in_front_of}
use Rattle.vax_form.specs.GrammarLaws.{AreBytes}
use Rattle.vax_form.specs.Pages.{has_code}
use Rattle.vax_form.specs.declared.pages.PageRange.{PageRange}
use Rattle.vax_form.specs.declared.pages.Pages.{Pages}
use Rattle.vax_form.specs.declared.instr.Size.{Size}
use Rattle.vax_form.specs.declared.instr.Access.{Access}
use Rattle.vax_form.specs.declared.instr.Access.TheVariants.{Read, Write, Modify, Address, Field, Branch}
use Rattle.vax_form.specs.declared.instr.Base.{Base}
use Rattle.vax_form.specs.declared.instr.Operand.{Operand}
use Rattle.vax_form.specs.declared.instr.Operand.TheVariants.{Unused}
use Rattle.vax_form.specs.declared.instr.Instr.{Instr}
use Rattle.vax_form.proofs.GrammarStands.{Stands-found, take-fetched}
use Rattle.image_meaning.proofs.States.{low_longword}
use Rattle.image_meaning.proofs.Operands.{FitsBase, FitsOperand}
use Rattle.image_meaning.proofs.Codes.{FitsInstr}

-- ---- lists of bytes

behind_first : (b : ℕ) (bytes : List ℕ) → AreBytes (b ∷ bytes) → AreBytes bytes
behind_first b bytes are i = are (suc i)

front_bytes : (first rest : List ℕ) → AreBytes (first ++ rest) → AreBytes first
front_bytes first rest are i = elim (cases_lt i (length first)) [
  | inl h ↦ rw (← get_or_append_left first rest 0 i h) (are i)
  | inr h ↦ rw (get_or_past first i 0 h) (lit< tt)
]

rest_bytes : (first rest : List ℕ) → AreBytes (first ++ rest) → AreBytes rest
rest_bytes first rest are i = rw (← get_or-append-add first rest i 0) (are (length first + i))

take_bytes : (n : ℕ) (bytes : List ℕ) → AreBytes bytes → AreBytes (take n bytes)
take_bytes zero bytes are i = lit< tt
take_bytes (suc n) [] are i = lit< tt
take_bytes (suc n) (b ∷ bytes) are zero = are zero
take_bytes (suc n) (b ∷ bytes) are (suc i) = take_bytes n bytes (behind_first b bytes are) i

four_below : (a b c d : ℕ) → a < 256 → b < 256 → c < 256 → d < 256 → a + 256 * (b + 256 * (c + 256 * (d + 256 * 0))) < 2 ^ 32
four_below a b c d la lb lc ld = omega arith

number_below : (d : List ℕ) → AreBytes d → length d ≡ 4 → number d < 2 ^ 32
number_below [] are four = absurd (omega arith)
number_below (a ∷ []) are four = absurd (omega arith)
number_below (a ∷ b ∷ []) are four = absurd (omega arith)
number_below (a ∷ b ∷ c ∷ []) are four = absurd (omega arith)
number_below (a ∷ b ∷ c ∷ d ∷ []) are four = four_below a b c d (are 0) (are 1) (are 2) (are 3)
number_below (a ∷ b ∷ c ∷ d ∷ e ∷ rest) are four = absurd (omega arith)

-- ---- operands

located_fits : (size : Size) (at : ℕ) (bytes : List ℕ) (b : Base) → AreBytes bytes → Locates size at bytes b → FitsBase b
located_fits size at bytes b are (deferred n low these is) = rw is tt
located_fits size at bytes b are (decrement n low these is) = rw is tt
located_fits size at bytes b are (increment n low these is) = rw is tt
located_fits size at bytes b are (increment_deferred n low these is) = rw is tt
located_fits size at bytes b are (absolute d four these is) = rw is (number_below d (behind_first 0x9F d (subst AreBytes these are)) four)
located_fits size at bytes b are (byte_displacement n is_deferred d low few these is) = rw is tt
located_fits size at bytes b are (word_displacement n is_deferred d low few these is) = rw is tt
located_fits size at bytes b are (long_displacement n is_deferred d low few these is) = rw is tt
located_fits size at bytes b are (byte_relative is_deferred d few these is) = rw is (low_longword _)
located_fits size at bytes b are (word_relative is_deferred d few these is) = rw is (low_longword _)
located_fits size at bytes b are (long_relative is_deferred d few these is) = rw is (low_longword _)

described_fits : (access : Access) (size : Size) (at : ℕ) (bytes : List ℕ) (o : Operand) → AreBytes bytes → Describes access size at bytes o → FitsOperand o
described_fits access size at bytes o are (literal v low reads these is) = rw is tt
described_fits access size at bytes o are (register n has uses these is) = rw is tt
described_fits access size at bytes o are (immediate d few reads these is) = rw is tt
described_fits access size at bytes o are (constant_address d few uses these is) = rw is (low_longword (at + 1))
described_fits access size at bytes o are (place b locates is) = rw is (located_fits size at bytes b are locates)
described_fits access size at bytes o are (indexed x b more low locates apart these is) =
    rw is (located_fits size (at + 1) more b (behind_first (0x40 + x) more (subst AreBytes these are)) locates)

specified_fits : (access : Access) (size : Size) (at : ℕ) (bytes : List ℕ) (o : Operand) → AreBytes bytes → Specifies access size at bytes o → FitsOperand o
specified_fits Branch size at bytes o are displaces = rw displaces.1 (low_longword _)
specified_fits Read size at bytes o are describes = described_fits Read size at bytes o are describes
specified_fits Write size at bytes o are describes = described_fits Write size at bytes o are describes
specified_fits Modify size at bytes o are describes = described_fits Modify size at bytes o are describes
specified_fits Address size at bytes o are describes = described_fits Address size at bytes o are describes
specified_fits Field size at bytes o are describes = described_fits Field size at bytes o are describes

abbrev FitAll : List Operand → Type 0
FitAll operands = (at : ℕ) → FitsOperand (slice_index_or operands at Unused)

none_fit : FitAll []
none_fit at = tt

one_more : (o : Operand) (operands : List Operand) → FitsOperand o → FitAll operands → FitAll (o ∷ operands)
one_more o operands fits all zero = fits
one_more o operands fits all (suc at) = all at

all_fit : (types : List (Access × Size)) (at : ℕ) (bytes : List ℕ) (operands : List Operand) → AreBytes bytes → SpecifyAll types at bytes operands → FitAll operands
all_fit [] at bytes operands are (none, empty) = subst FitAll (sym empty) none_fit
all_fit (t ∷ types) at bytes operands are (first, rest, o, others, e, is, h, hs) =
    let whole : AreBytes (first ++ rest) = subst AreBytes e are in
    subst FitAll (sym is) (one_more o others (specified_fits t.0 t.1 at first o (front_bytes first rest whole) h)
    (all_fit types (at + length first) rest others (rest_bytes first rest whole) hs))

unused_fit : (k : ℕ) → FitAll (replicate k Unused)
unused_fit zero at = tt
unused_fit (suc k) zero = tt
unused_fit (suc k) (suc at) = unused_fit k at

padded_fit : (operands : List Operand) (k : ℕ) → FitAll operands → FitAll (operands ++ replicate k Unused)
padded_fit [] k all at = unused_fit k at
padded_fit (o ∷ operands) k all zero = all zero
padded_fit (o ∷ operands) k all (suc at) = padded_fit operands k (λ i. all (suc i)) at

-- ---- instructions

spelled_fits : (at : ℕ) (bytes : List ℕ) (instr : Instr) → AreBytes bytes → Spells at bytes instr → FitsInstr instr
spelled_fits at bytes instr are h = subst FitsInstr (sym h.is_instr) (record {
  after = low_longword (at + length bytes);
  operands = padded_fit h.operands (6 - length h.operands)
      (all_fit h.types (at + 1) h.rest h.operands (behind_first h.opcode h.rest (subst AreBytes h.are_bytes are)) h.are_operands);
})

byte_below : (f : PageRange → ℕ) → ((r : PageRange) → f r < 256) → (o : Option PageRange) (bytes : List ℕ) → AreBytes bytes → AreBytes (in_front_of (option_map f o) bytes)
byte_below f below None bytes are i = lit< tt
byte_below f below (Some r) bytes are zero = below r
byte_below f below (Some r) bytes are (suc i) = are i

pub fetched_bytes : (pages : Pages) (at n : ℕ) → AreBytes pages.code → AreBytes (fetched pages at n)
unfolding fetched
fetched_bytes pages at zero code = λ i. lit< tt
fetched_bytes pages at (suc n) code =
    byte_below (λ (r : PageRange). slice_index pages.code (r.place + (wrapped at - 512 * r.first))) (λ r. code (r.place + (wrapped at - 512 * r.first)))
    (find (has_code (wrapped at)) pages.ranges) (fetched pages (at + 1) n) (fetched_bytes pages (at + 1) n code)

pub found_fits : (pages : Pages) (pc : ℕ) (instr : Instr) → AreBytes pages.code → found pages pc ≡ instruction instr → FitsInstr instr
found_fits pages pc instr code is =
    let stands : Stands pages pc (instruction instr) = subst (Stands pages pc) is (Stands-found pages pc (fetched_bytes pages pc 64 code)) in
    let bytes : List ℕ = stands.0 in
    let front : take (length bytes) (fetched pages pc (length bytes)) ≡ bytes = take-fetched pages pc (length bytes) bytes stands.1 (omega arith) in
    let are : AreBytes bytes = subst AreBytes front (take_bytes (length bytes) (fetched pages pc (length bytes)) (fetched_bytes pages pc (length bytes) code)) in
    spelled_fits pc bytes instr are stands.2
