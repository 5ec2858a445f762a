-- An instruction that stands in the code is spelled there, and goes on above its own address.
use Rattle.std.proofs.Common.{◌≡◌, ℕ, zero, suc, ◌+◌, ◌-◌, ◌*◌, ◌/◌, ◌^◌, ◌<◌, refl, sym, ◌∙◌, ap, subst, arith, Bool, true, false, cond, List, [], ◌∷◌, length, get_or, Option, Some, None, find, not, nat_lt, ltb-true}
use Rattle.std.specs.Prelude.{nat_le, slice_get, slice_index, option_map}
use Rattle.std.proofs.lemmas.Option.{slice_get-get_or}
use Rattle.std.proofs.lemmas.Bool.{and_parts}
use Rattle.vax_form.specs.Grammar.{Spells, IsSpelled, instruction, wrapped}
use Rattle.vax_form.specs.GrammarFound.{IsFetched, Stands, fetched, found}
use Rattle.vax_form.specs.GrammarLaws.{AreBytes}
use Rattle.vax_form.specs.PageTable.{AreRising, IsPageTable, has_page}
use Rattle.vax_form.specs.Pages.{code_byte_at, has_code}
use Rattle.vax_form.specs.declared.instr.Instr.{Instr}
use Rattle.vax_form.specs.declared.pages.PageRange.{PageRange}
use Rattle.vax_form.specs.declared.pages.Pages.{Pages}
use Rattle.vax_form.proofs.GrammarStands.{Stands-found}
use Rattle.image_meaning.proofs.Decoded.{fetched_bytes}
use Rattle.translate.specs.Compiled.{ArePages}

-- ---- bytes are fetched below 80000000
some_range : (ranges : List PageRange) (lowest address : ℕ) (r : PageRange) → AreRising lowest ranges → find (has_code address) ranges ≡ Some r → address < 2147483648
some_range [] lowest address r rising e = absurd (cc e)
some_range (s ∷ ranges) lowest address r rising e = by (has_code address s) refl e (some_range ranges (s.first + s.count) address r rising.3)
  where
    by : (b : Bool) → has_code address s ≡ b → cond b (Some s) (find (has_code address) ranges) ≡ Some r → (find (has_code address) ranges ≡ Some r → address < 2147483648) → address < 2147483648
    by true has e later =
        let parts = and_parts (has_page (address / 512) s) (not s.writable) has in
        let places = and_parts (nat_le s.first (address / 512)) (nat_lt (address / 512) (s.first + s.count)) parts.0 in
        let high : address / 512 < s.first + s.count = ltb-true (address / 512) (s.first + s.count) places.1 in
        let most = rising.2 in
        omega arith
    by false has e later = later e

fetched_below : (pages : Pages) (address b : ℕ) → IsPageTable pages → code_byte_at pages address ≡ Some b → address < 2147483648
fetched_below pages address b table e = by (find (has_code address) pages.ranges) refl e
  where
    by : (o : Option PageRange) → find (has_code address) pages.ranges ≡ o → option_map (λ (r : PageRange). slice_index pages.code (r.place + (address - 512 * r.first))) o ≡ Some b → address < 2147483648
    by None f e = absurd (cc e)
    by (Some r) f e = some_range pages.ranges 0 address r table.rising f

-- ---- the instruction
pub record IsThere (pages : Pages) (at : ℕ) (instr : Instr) : Type 0 where
  pub bytes : List ℕ
  pub fetched : IsFetched pages at bytes
  pub spells : Spells at bytes instr

is_there : (pages : Pages) (at : ℕ) (instr : Instr) → AreBytes pages.code → found pages at ≡ instruction instr → IsThere pages at instr
is_there pages at instr code is =
    let stands : Stands pages at (instruction instr) = subst (Stands pages at) is (Stands-found pages at (fetched_bytes pages at 64 code)) in
    record { bytes = stands.0; fetched = stands.1; spells = stands.2 }

pub is_spelled : (pages : Pages) (instr : Instr) → ArePages pages → found pages instr.at ≡ instruction instr → IsSpelled instr
is_spelled pages instr are is = let there = is_there pages instr.at instr are.bytes is in (there.bytes, there.spells)

-- none of its bytes stands at the end of the addresses
below_end : (pages : Pages) (at : ℕ) (bytes : List ℕ) → IsPageTable pages → at < 2 ^ 32 → IsFetched pages at bytes → (k : ℕ) → k < length bytes → at + k < 2147483648
below_end pages at bytes table fits fetched k lt = by k lt
  where
    low : (k : ℕ) → k < length bytes → at + k < 2 ^ 32 → at + k < 2147483648
    low k lt small =
        let b = slice_get-get_or bytes k 0 lt in
        let byte : code_byte_at pages (wrapped (at + k)) ≡ Some (get_or bytes k 0) = sym (fetched k lt) ∙ b in
        let below : wrapped (at + k) < 2147483648 = fetched_below pages (wrapped (at + k)) (get_or bytes k 0) table byte in
        omega arith

    by : (k : ℕ) → k < length bytes → at + k < 2147483648
    by zero lt = low 0 lt (omega arith)
    by (suc k) lt = let before = by k (omega arith) in low (suc k) lt (omega arith)

pub goes_on_above : (pages : Pages) (instr : Instr) → ArePages pages → instr.at < 2 ^ 32 → found pages instr.at ≡ instruction instr → instr.at < instr.after
goes_on_above pages instr are fits is =
    let there = is_there pages instr.at instr are.bytes is in
    let spells = there.spells in
    let some : 0 < length there.bytes = let e = ap length spells.are_bytes in omega arith in
    let last = below_end pages instr.at there.bytes are.table fits there.fetched (length there.bytes - 1) (omega arith) in
    let after : instr.after ≡ wrapped (instr.at + length there.bytes) = ap (λ (i : Instr). i.after) spells.is_instr in
    omega arith

-- its opcode is the byte at its address
pub opcode_at : (pages : Pages) (instr : Instr) → ArePages pages → instr.at < 2 ^ 32 → found pages instr.at ≡ instruction instr → code_byte_at pages instr.at ≡ Some instr.opcode
opcode_at pages instr are fits is =
    let there = is_there pages instr.at instr are.bytes is in
    let spells = there.spells in
    let some : 0 < length there.bytes = let e = ap length spells.are_bytes in omega arith in
    let first : slice_get there.bytes 0 ≡ Some spells.opcode = ap (λ (bytes : List ℕ). slice_get bytes 0) spells.are_bytes in
    let here : wrapped (instr.at + 0) ≡ instr.at = omega arith in
    ap (code_byte_at pages) (sym here) ∙ sym (there.fetched 0 some) ∙ first ∙ ap (λ (opcode : ℕ). Some opcode) (sym (ap (λ (i : Instr). i.opcode) spells.is_instr))
