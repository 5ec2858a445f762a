-- What stands in the code of a generated image, and behind it.
use Rattle.std.proofs.Common.{◌≡◌, ℕ, ◌+◌, ◌-◌, ◌*◌, ◌/◌, ◌^◌, ◌<◌, ◌≤◌, Bool, true, false, cond, ◌&&◌, List, [], ◌∷◌, ◌++◌, Some, None, length, get_or, drop, refl, sym, ap, ◌∙◌, arith, inl, inr, nat_le, nat_lt, length-append, lit<, lit≤}
use Rattle.std.specs.Prelude.{find, is_some, option_map, replicate, slice_get, unwrap_or}
use Rattle.std.proofs.Math.ListN.{get_or-append}
use Rattle.std.proofs.lemmas.Bool.{cases_lt, le-leb, le-ltb, lt-ltb}
use Rattle.std.proofs.lemmas.List.{get_or-append-add, get_or-replicate, take-append-drop}
use Rattle.std.proofs.lemmas.Option.{slice_get-get_or}
use Rattle.std.proofs.Math.Bool.{and-false}
use Rattle.vax_form.specs.Grammar.{Decides, Found, past, reserved_instruction, wrapped}
use Rattle.vax_form.specs.GrammarFound.{IsFetched, fetched, found, found_in}
use Rattle.vax_form.specs.GrammarReading.{read_instruction}
use Rattle.vax_form.specs.Operation.{operation_at, integer_opcodes, control_opcodes, mixed_opcodes, move_opcodes, bit_opcodes}
use Rattle.vax_form.specs.Pages.{code_byte_at, has_code}
use Rattle.vax_form.specs.declared.pages.PageRange.{PageRange}
use Rattle.vax_form.specs.declared.pages.Pages.{Pages}
use Rattle.vax_form.proofs.GrammarLaws.{read_instruction-decides}
use Rattle.vax_form.proofs.GrammarStands.{fetched-whole, take-fetched}
use Rattle.image_file.specs.Pages.{section_bytes}
use Rattle.image_file.specs.Rows.{page_bytes, page_count}
use Rattle.flow_discovery.specs.Reach.{decodes, instruction_at, instruction_in}
use Rattle.report_text.specs.Generated.{code_section}
use Rattle.report_text.proofs.GeneratedLaws.{code_range, data_range, table_with}

-- ---- bytes of the read-only pages
second : (address : ℕ) (d c : PageRange) (b : Bool) → has_code address d ≡ false → has_code address c ≡ b
    → find (has_code address) (d ∷ c ∷ []) ≡ cond b (Some c) None
second address d c b not_first is = λ i. cond (not_first i) (Some d) (cond (is i) (Some c) None)

within : (page count : ℕ) → 128 ≤ page → page < 128 + count → ((nat_le 128 page && nat_lt page (128 + count)) && true) ≡ true
within page count low high = rw (le-leb 128 page low, lt-ltb page (128 + count) high) refl

beyond : (page count : ℕ) → 128 + count ≤ page → ((nat_le 128 page && nat_lt page (128 + count)) && true) ≡ false
beyond page count high =
    let low : 128 ≤ page = omega (arith, high) in
    rw (le-leb 128 page low, le-ltb page (128 + count) high) refl

abbrev bytes_of : List ℕ → List ℕ
bytes_of code = section_bytes (code_section code)

byte_here : (code : List ℕ) (j : ℕ) → j < page_bytes (length code) → code_byte_at (table_with code) (65536 + j) ≡ Some (get_or (bytes_of code) j 0)
byte_here code j inside =
    let page : ℕ = (65536 + j) / 512 in
    let low : 128 ≤ page = omega arith in
    let high : page < 128 + page_count (length code) = omega (arith, inside) in
    let range = second (65536 + j) data_range (code_range code) true (and-false _) (within page (page_count (length code)) low high) in
    let place : 0 + (65536 + j - 65536) ≡ j = omega arith in
    ap (option_map (λ (r : PageRange). get_or (bytes_of code) (r.place + (65536 + j - 512 * r.first)) 0)) range
    ∙ ap (λ k. Some (get_or (bytes_of code) k 0)) place

no_byte : (code : List ℕ) (j : ℕ) → page_bytes (length code) ≤ j → code_byte_at (table_with code) (65536 + j) ≡ None
no_byte code j behind =
    let page : ℕ = (65536 + j) / 512 in
    let high : 128 + page_count (length code) ≤ page = omega (arith, behind) in
    let range = second (65536 + j) data_range (code_range code) false (and-false _) (beyond page (page_count (length code)) high) in
    ap (option_map (λ (r : PageRange). get_or (bytes_of code) (r.place + (65536 + j - 512 * r.first)) 0)) range

-- ---- a part of the code
pub part_here : (code front bytes back : List ℕ) → code ≡ (front ++ bytes) ++ back → length code ≤ 2 ^ 19
    → IsFetched (table_with code) (65536 + length front) bytes
part_here code front bytes back is few i inside =
    let size : length code ≡ length front + length bytes + length back =
    ap length is ∙ length-append (front ++ bytes) back ∙ ap (λ n. n + length back) (length-append front bytes) in
    let shorter : length (front ++ bytes) ≡ length front + length bytes = length-append front bytes in
    let j : ℕ = length front + i in
    let byte : get_or (bytes_of code) j 0 ≡ get_or bytes i 0 =
    get_or-append code (replicate (page_bytes (length code) - length code) 0) 0 j (omega (arith, size, inside))
    ∙ ap (λ c. get_or c j 0) is
    ∙ get_or-append (front ++ bytes) back 0 j (omega (arith, shorter, inside))
    ∙ get_or-append-add front bytes i 0 in
    let address : 65536 + j ≡ wrapped (65536 + length front + i) = omega (arith, size, inside, few) in
    slice_get-get_or bytes i 0 inside
    ∙ ap Some (sym byte)
    ∙ sym (byte_here code j (omega (arith, size, inside)))
    ∙ ap (code_byte_at (table_with code)) address

-- what a part decides stands there
pub stands : (pages : Pages) (at : ℕ) (bytes : List ℕ) (f : Found) → IsFetched pages at bytes → length bytes ≤ 64 → Decides at bytes f
    → found pages at ≡ f
unfolding found found_in
stands pages at bytes f are short decides =
    let all : List ℕ = fetched pages at 64 in
    let rest : List ℕ = drop (length bytes) all in
    let split : all ≡ bytes ++ rest =
    sym (take-append-drop (length bytes) all) ∙ ap (λ front. front ++ rest) (take-fetched pages at 64 bytes are short) in
    let read = ap (read_instruction at) split ∙ read_instruction-decides at bytes rest f decides in
    ap (λ r. unwrap_or (option_map (λ (s : Found × ℕ). s.0) r) (past (wrapped (at + length all)))) read

-- ---- behind the code
zero_decides : (at : ℕ) → Decides at (0 ∷ []) reserved_instruction
unfolding operation_at integer_opcodes control_opcodes mixed_opcodes move_opcodes bit_opcodes
zero_decides at = (0, refl, refl)

zero_behind : (code : List ℕ) → length code ≤ 2 ^ 19 → length code < page_bytes (length code)
    → IsFetched (table_with code) (65536 + length code) (0 ∷ [])
zero_behind code few more i inside =
    let first : i ≡ 0 = omega (arith, inside) in
    let zeros : List ℕ = replicate (page_bytes (length code) - length code) 0 in
    let same : length code ≡ length code + 0 = omega arith in
    let byte : get_or (bytes_of code) (length code) 0 ≡ 0 =
    ap (λ k. get_or (code ++ zeros) k 0) same ∙ get_or-append-add code zeros 0 0
    ∙ get_or-replicate (page_bytes (length code) - length code) 0 0 0 (omega (arith, more)) in
    let address : 65536 + length code ≡ wrapped (65536 + length code + i) = omega (arith, first, few) in
    ap (slice_get (0 ∷ [])) first
    ∙ ap Some (sym byte)
    ∙ sym (byte_here code (length code) more)
    ∙ ap (code_byte_at (table_with code)) address

empty_found : (at : ℕ) → found_in at [] ≡ past (wrapped (at + 0))
unfolding found_in read_instruction
empty_found at = refl

nothing_behind : (code : List ℕ) → length code ≤ 2 ^ 19 → page_bytes (length code) ≤ length code
    → found (table_with code) (65536 + length code) ≡ past (wrapped (65536 + length code + 0))
unfolding found
nothing_behind code few whole =
    let at : ℕ = 65536 + length code in
    let same : at ≡ wrapped (at + 0) = omega (arith, few) in
    let none = ap (code_byte_at (table_with code)) (sym same) ∙ no_byte code (length code) whole in
    let empty : fetched (table_with code) at 64 ≡ [] = fetched-whole (table_with code) at 64 [] (λ i inside. absurd (omega (arith, inside))) none (lit< tt) in
    ap (found_in at) empty ∙ empty_found at

pub no_end : (code : List ℕ) → length code ≤ 2 ^ 19 → decodes (table_with code) (65536 + length code) ≡ false
unfolding instruction_at
no_end code few =
    let tests : Found → Bool = λ f. is_some (instruction_in f) in
    elim (cases_lt (length code) (page_bytes (length code))) [
      | inl more ↦ ap tests (stands (table_with code) (65536 + length code) (0 ∷ []) reserved_instruction (zero_behind code few more) (lit≤ tt) (zero_decides (65536 + length code)))
      | inr whole ↦ ap tests (nothing_behind code few whole)
    ]
