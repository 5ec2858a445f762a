-- The bytes that stand where an instruction was found spell it.
use Rattle.std.proofs.Common.{◌≡◌, ◌≤◌, ◌<◌, ◌+◌, ◌-◌, ◌*◌, ◌%◌, ◌^◌, ℕ, zero, suc, List, [], ◌∷◌, ◌++◌, length, map, Option, Some, None, refl, sym, ap, ap₂, ◌∙◌, subst, arith, lit<}
use Rattle.std.specs.Prelude.{find, option_map, slice_get, slice_index, unwrap_or}
use Rattle.std.specs.List.{range_with_len}
use Rattle.vax_form.specs.Grammar.{Found, Spells, instruction, past, reserved_instruction, reserved_mode, wrapped}
use Rattle.vax_form.specs.GrammarFound.{IsFetched, Stands, fetched, found, in_front_of}
use Rattle.vax_form.specs.GrammarLaws.{AreBytes}
use Rattle.vax_form.specs.Pages.{code_byte_at, has_code}
use Rattle.vax_form.specs.declared.instr.Instr.{Instr}
use Rattle.vax_form.specs.declared.pages.PageRange.{PageRange}
use Rattle.vax_form.specs.declared.pages.Pages.{Pages}
use Rattle.vax_form.proofs.GrammarLaws.{read_instruction-decides, read_instruction-short}
use Rattle.vax_form.proofs.GrammarLengths.{IsShort}
use Rattle.vax_form.proofs.GrammarStands.{Stands-found}
use Rattle.flow_discovery.specs.Reach.{instruction_at, instruction_in}
use Rattle.dis_text.specs.Bytes.{byte_at, bytes_at, count_of}

byte_below : (f : PageRange → ℕ) → ((r : PageRange) → f r < 256) → (o : Option PageRange) (bytes : List ℕ) → AreBytes bytes → AreBytes (in_front_of (option_map f o) bytes)
byte_below f below None bytes are i = lit< tt
byte_below f below (Some r) bytes are zero = below r
byte_below f below (Some r) bytes are (suc i) = are i

fetched_bytes : (pages : Pages) (at n : ℕ) → AreBytes pages.code → AreBytes (fetched pages at n)
unfolding fetched
fetched_bytes pages at zero code = λ i. lit< tt
fetched_bytes pages at (suc n) code =
    byte_below (λ (r : PageRange). slice_index pages.code (r.place + (wrapped at - 512 * r.first))) (λ r. code (r.place + (wrapped at - 512 * r.first)))
    (find (has_code (wrapped at)) pages.ranges) (fetched pages (at + 1) n) (fetched_bytes pages (at + 1) n code)

found_is : (f : Found) (instr : Instr) → instruction_in f ≡ Some instr → f ≡ instruction instr
found_is (instruction i) instr e = let same : i ≡ instr = cc in ap instruction same
found_is reserved_instruction instr e = absurd cc
found_is reserved_mode instr e = absurd cc
found_is (past address) instr e = absurd cc

bytes_from : (pages : Pages) (at : ℕ) (bytes : List ℕ) (k : ℕ) → ((j : ℕ) → j < length bytes → slice_get bytes j ≡ code_byte_at pages (wrapped (at + k + j)))
    → map (λ j. byte_at pages (at + j)) (range_with_len k (length bytes)) ≡ bytes
bytes_from pages at [] k are = refl
bytes_from pages at (b ∷ bytes) k are =
    let here : at + k + 0 ≡ at + k = omega arith in
    let first : byte_at pages (at + k) ≡ b = ap (λ a. unwrap_or (code_byte_at pages (wrapped a)) 0) (sym here) ∙ ap (λ o. unwrap_or o 0) (sym (are 0 (omega arith))) in
    ap₂ (λ x xs. x ∷ xs) first (bytes_from pages at bytes (k + 1) (λ j h.
    let next : at + k + suc j ≡ at + (k + 1) + j = omega arith in
    are (suc j) (omega arith) ∙ ap (λ a. code_byte_at pages (wrapped a)) next))

same_bytes : (pages : Pages) (at : ℕ) (bytes : List ℕ) → IsFetched pages at bytes → bytes_at pages at (length bytes) ≡ bytes
same_bytes pages at bytes are = bytes_from pages at bytes 0 (λ j h.
    let same : at + j ≡ at + 0 + j = omega arith in
    are j h ∙ ap (λ a. code_byte_at pages (wrapped a)) same)

counted : (at n after : ℕ) → at < 2 ^ 32 → n < 2 ^ 32 → after ≡ (at + n) % 2 ^ 32 → (after + 2 ^ 32 - at) % 2 ^ 32 ≡ n
counted at n after low few is = omega (arith, is)

short : (at : ℕ) (bytes : List ℕ) (instr : Instr) → Spells at bytes instr → length bytes ≤ 61
short at bytes instr h =
    subst (IsShort 61 (bytes ++ [])) (read_instruction-decides at bytes [] (instruction instr) h) (read_instruction-short at (bytes ++ []))

pub spelled : (pages : Pages) (instr : Instr) → AreBytes pages.code → instr.at < 2 ^ 32 → instruction_at pages instr.at ≡ Some instr
    → Spells instr.at (bytes_at pages instr.at (count_of instr)) instr
unfolding instruction_at
spelled pages instr code low e =
    let at = instr.at in
    let stands : Stands pages at (instruction instr) = subst (Stands pages at) (found_is (found pages at) instr e) (Stands-found pages at (fetched_bytes pages at 64 code)) in
    let bytes : List ℕ = stands.0 in
    let few = short at bytes instr stands.2 in
    let count : count_of instr ≡ length bytes = counted at (length bytes) instr.after low (omega (arith, few)) (ap (λ (i : Instr). i.after) stands.2.is_instr) in
    subst (λ bs. Spells at bs instr) (sym (ap (bytes_at pages at) count ∙ same_bytes pages at bytes stands.1)) stands.2
