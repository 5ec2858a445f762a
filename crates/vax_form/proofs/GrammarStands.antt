-- What stands at an address is what is read of the bytes that can be fetched there.
use Rattle.std.proofs.Common.{◌≡◌, ℕ, zero, suc, ◌+◌, ◌<◌, ◌≤◌, List, [], ◌∷◌, ◌++◌, length, take, drop, Option, Some, None, refl, sym, ap, ◌∙◌, subst, inl, inr, arith, length-take}
use Rattle.std.proofs.lemmas.Bool.{cases_lt}
use Rattle.std.proofs.lemmas.List.{take-append-drop}
use Rattle.std.specs.List.{slice_get}
use Rattle.std.specs.Option.{option_map, unwrap_or}
use Rattle.vax_form.specs.Pages.{code_byte_at}
use Rattle.vax_form.specs.declared.pages.Pages.{Pages}
use Rattle.vax_form.specs.Grammar.{Decides, Found, instruction, past, reserved_instruction, reserved_mode, wrapped}
use Rattle.vax_form.specs.GrammarReading.{read_instruction}
use Rattle.vax_form.specs.GrammarFound.{Ends, IsDecided, IsFetched, Stands, fetched, found, found_in, in_front_of}
use Rattle.vax_form.specs.GrammarLaws.{AreBytes}
use Rattle.vax_form.proofs.GrammarLaws.{instruction_found, read_instruction-decides, read_instruction-short}
use Rattle.vax_form.proofs.GrammarLengths.{IsShort}

-- ---- bytes that can be fetched

length-in_front_of : (o : Option ℕ) (bytes : List ℕ) (n : ℕ) → length bytes ≤ n → length (in_front_of o bytes) ≤ suc n
length-in_front_of None bytes n h = omega arith
length-in_front_of (Some b) bytes n h = omega arith

pub length-fetched : (pages : Pages) (at n : ℕ) → length (fetched pages at n) ≤ n
unfolding fetched
length-fetched pages at zero = omega arith
length-fetched pages at (suc n) =
    length-in_front_of (code_byte_at pages (wrapped at)) (fetched pages (at + 1) n) n (length-fetched pages (at + 1) n)

-- the byte in front and those behind it
IsFetched-more : (pages : Pages) (at b : ℕ) (bytes : List ℕ) → code_byte_at pages (wrapped at) ≡ Some b
    → IsFetched pages (at + 1) bytes → IsFetched pages at (b ∷ bytes)
IsFetched-more pages at b bytes e are zero h =
    let same : at ≡ at + 0 = omega arith in sym e ∙ ap (λ a. code_byte_at pages (wrapped a)) same
IsFetched-more pages at b bytes e are (suc k) h =
    let same : at + 1 + k ≡ at + suc k = omega arith in
    are k (omega arith) ∙ ap (λ a. code_byte_at pages (wrapped a)) same

IsFetched-rest : (pages : Pages) (at b : ℕ) (bytes : List ℕ) → IsFetched pages at (b ∷ bytes) → IsFetched pages (at + 1) bytes
IsFetched-rest pages at b bytes are k h =
    let same : at + suc k ≡ at + 1 + k = omega arith in
    are (suc k) (omega arith) ∙ ap (λ a. code_byte_at pages (wrapped a)) same

IsFetched-first : (pages : Pages) (at b : ℕ) (bytes : List ℕ) → IsFetched pages at (b ∷ bytes) → code_byte_at pages (wrapped at) ≡ Some b
IsFetched-first pages at b bytes are =
    let same : at + 0 ≡ at = omega arith in
    ap (λ a. code_byte_at pages (wrapped a)) (sym same) ∙ sym (are 0 (omega arith))

-- the bytes that are fetched stand in the code
IsFetched-by : (pages : Pages) (at : ℕ) (o : Option ℕ) (bytes : List ℕ) → code_byte_at pages (wrapped at) ≡ o
    → IsFetched pages (at + 1) bytes → IsFetched pages at (in_front_of o bytes)
IsFetched-by pages at None bytes e are k h = absurd (omega arith)
IsFetched-by pages at (Some b) bytes e are k h = IsFetched-more pages at b bytes e are k h

pub IsFetched-fetched : (pages : Pages) (at n : ℕ) → IsFetched pages at (fetched pages at n)
unfolding fetched
IsFetched-fetched pages at zero k h = absurd (omega arith)
IsFetched-fetched pages at (suc n) k h =
    IsFetched-by pages at (code_byte_at pages (wrapped at)) (fetched pages (at + 1) n) refl (IsFetched-fetched pages (at + 1) n) k h

-- where they are fewer than were asked for, the code ends behind them
last_by : (pages : Pages) (at n : ℕ) (o : Option ℕ) (bytes : List ℕ) → code_byte_at pages (wrapped at) ≡ o
    → (length bytes < n → code_byte_at pages (wrapped (at + 1 + length bytes)) ≡ None)
    → length (in_front_of o bytes) < suc n → code_byte_at pages (wrapped (at + length (in_front_of o bytes))) ≡ None
last_by pages at n None bytes e rest h =
    let same : at + 0 ≡ at = omega arith in ap (λ a. code_byte_at pages (wrapped a)) same ∙ e
last_by pages at n (Some b) bytes e rest h =
    let same : at + suc (length bytes) ≡ at + 1 + length bytes = omega arith in
    ap (λ a. code_byte_at pages (wrapped a)) same ∙ rest (omega arith)

pub fetched-last : (pages : Pages) (at n : ℕ) → length (fetched pages at n) < n
    → code_byte_at pages (wrapped (at + length (fetched pages at n))) ≡ None
unfolding fetched
fetched-last pages at zero h = absurd (omega arith)
fetched-last pages at (suc n) h =
    last_by pages at n (code_byte_at pages (wrapped at)) (fetched pages (at + 1) n) refl (fetched-last pages (at + 1) n) h

-- bytes that stand in the code are the first of those that are fetched
pub take-fetched : (pages : Pages) (at n : ℕ) (bytes : List ℕ) → IsFetched pages at bytes → length bytes ≤ n
    → take (length bytes) (fetched pages at n) ≡ bytes
unfolding fetched
take-fetched pages at n [] are h = refl
take-fetched pages at zero (b ∷ bytes) are h = absurd (omega arith)
take-fetched pages at (suc n) (b ∷ bytes) are h =
    ap (λ o. take (suc (length bytes)) (in_front_of o (fetched pages (at + 1) n))) (IsFetched-first pages at b bytes are)
    ∙ ap (λ l. b ∷ l) (take-fetched pages (at + 1) n bytes (IsFetched-rest pages at b bytes are) (omega arith))

-- and all of them where the code ends behind them
pub fetched-whole : (pages : Pages) (at n : ℕ) (bytes : List ℕ) → IsFetched pages at bytes
    → code_byte_at pages (wrapped (at + length bytes)) ≡ None → length bytes < n → fetched pages at n ≡ bytes
unfolding fetched
fetched-whole pages at zero bytes are e h = absurd (omega arith)
fetched-whole pages at (suc n) [] are e h =
    let same : at ≡ at + 0 = omega arith in
    ap (λ o. in_front_of o (fetched pages (at + 1) n)) (ap (λ a. code_byte_at pages (wrapped a)) same ∙ e)
fetched-whole pages at (suc n) (b ∷ bytes) are e h =
    let same : at + 1 + length bytes ≡ at + suc (length bytes) = omega arith in
    ap (λ o. in_front_of o (fetched pages (at + 1) n)) (IsFetched-first pages at b bytes are)
    ∙ ap (λ l. b ∷ l) (fetched-whole pages (at + 1) n bytes (IsFetched-rest pages at b bytes are)
    (ap (λ a. code_byte_at pages (wrapped a)) same ∙ e) (omega arith))

slice_get-take : (n k : ℕ) (xs : List ℕ) → k < n → slice_get (take n xs) k ≡ slice_get xs k
slice_get-take zero k xs h = absurd (omega arith)
slice_get-take (suc n) k [] h = refl
slice_get-take (suc n) zero (x ∷ xs) h = refl
slice_get-take (suc n) (suc k) (x ∷ xs) h = slice_get-take n k xs (omega arith)

IsFetched-take : (pages : Pages) (at n : ℕ) (bytes : List ℕ) → IsFetched pages at bytes → IsFetched pages at (take n bytes)
IsFetched-take pages at n bytes are k h =
    slice_get-take n k bytes (omega (arith, length-take n bytes)) ∙ are k (omega (arith, length-take n bytes))

-- so any first bytes of the two are the same
same_front : (pages : Pages) (at most n : ℕ) (bytes : List ℕ) → IsFetched pages at bytes → n ≤ length bytes → n ≤ most
    → take n (fetched pages at most) ≡ take n bytes
same_front pages at most n bytes are few below =
    let len : length (take n bytes) ≡ n = omega (arith, length-take n bytes) in
    ap (λ k. take k (fetched pages at most)) (sym len)
    ∙ take-fetched pages at most (take n bytes) (IsFetched-take pages at n bytes are) (omega arith)

-- ---- what stands at an address

found_in-some : (pc : ℕ) (bytes : List ℕ) (f : Found) (n : ℕ) → read_instruction pc bytes ≡ Some (f, n) → found_in pc bytes ≡ f
unfolding found_in
found_in-some pc bytes f n e = ap (λ o. unwrap_or (option_map (λ r. r.0) o) (past (wrapped (pc + length bytes)))) e

found_in-none : (pc : ℕ) (bytes : List ℕ) → read_instruction pc bytes ≡ None → found_in pc bytes ≡ past (wrapped (pc + length bytes))
unfolding found_in
found_in-none pc bytes e = ap (λ o. unwrap_or (option_map (λ r. r.0) o) (past (wrapped (pc + length bytes)))) e

Stands-decided : (pages : Pages) (pc : ℕ) (bytes : List ℕ) (f : Found) → IsFetched pages pc bytes → Decides pc bytes f → Stands pages pc f
Stands-decided pages pc bytes (instruction instr) are h = (bytes, are, h)
Stands-decided pages pc bytes reserved_instruction are h = (bytes, are, h)
Stands-decided pages pc bytes reserved_mode are h = (bytes, are, h)
Stands-decided pages pc bytes (past address) are h = absurd h

undecided : (pc : ℕ) (bytes : List ℕ) → read_instruction pc bytes ≡ None → (n : ℕ) (f : Found) → ¬ Decides pc (take n bytes) f
undecided pc bytes none n f h =
    let reads = read_instruction-decides pc (take n bytes) (drop n bytes) f h in
    let whole = ap (read_instruction pc) (take-append-drop n bytes) in
    cc

Stands-read : (pages : Pages) (pc : ℕ) (bytes : List ℕ) (o : Option (Found × ℕ)) → AreBytes bytes → IsFetched pages pc bytes
    → (length bytes < 64 → code_byte_at pages (wrapped (pc + length bytes)) ≡ None) → read_instruction pc bytes ≡ o
    → Stands pages pc (found_in pc bytes)
Stands-read pages pc bytes None are fetch last e =
    let short : length bytes < 61 = subst (IsShort 61 bytes) e (read_instruction-short pc bytes) in
    subst (Stands pages pc) (sym (found_in-none pc bytes e)) (record {
      bytes = bytes;
      are_fetched = fetch;
      is_last = last (omega arith);
      is_address = refl;
      undecided = undecided pc bytes e;
    })
Stands-read pages pc bytes (Some r) are fetch last e =
    let d = instruction_found pc bytes r.0 r.1 are e in
    subst (Stands pages pc) (sym (found_in-some pc bytes r.0 r.1 e))
    (Stands-decided pages pc (take r.1 bytes) r.0 (IsFetched-take pages pc r.1 bytes fetch) d.1)

-- What is found stands there.
pub Stands-found : (pages : Pages) (pc : ℕ) → AreBytes (fetched pages pc 64) → Stands pages pc (found pages pc)
unfolding found
Stands-found pages pc are =
    Stands-read pages pc (fetched pages pc 64) _ are (IsFetched-fetched pages pc 64) (fetched-last pages pc 64) refl

found-decided : (pages : Pages) (pc : ℕ) (f : Found) → IsDecided pages pc f → found pages pc ≡ f
unfolding found
found-decided pages pc f (bytes, are, h) =
    let all = fetched pages pc 64 in
    let k = length bytes in
    let reads = read_instruction-decides pc bytes [] f h in
    let most : k ≤ 61 = subst (IsShort 61 (bytes ++ [])) reads (read_instruction-short pc (bytes ++ [])) in
    let front = take-fetched pages pc 64 bytes are (omega arith) in
    found_in-some pc all f k (
    ap (read_instruction pc) (sym (take-append-drop k all) ∙ ap (λ l. l ++ drop k all) front)
    ∙ read_instruction-decides pc bytes (drop k all) f h)

found-past : (pages : Pages) (pc address : ℕ) (o : Option (Found × ℕ)) → AreBytes (fetched pages pc 64) → Ends pages pc address
    → read_instruction pc (fetched pages pc 64) ≡ o → found pages pc ≡ past address
unfolding found
found-past pages pc address None are h e =
    let all = fetched pages pc 64 in
    let short : length all < 61 = subst (IsShort 61 all) e (read_instruction-short pc all) in
    elim (cases_lt (length h.bytes) 64) [
      | inl few ↦ (
          let same = fetched-whole pages pc 64 h.bytes h.are_fetched h.is_last few in
          found_in-none pc all e ∙ ap (λ l. past (wrapped (pc + length l))) same ∙ ap past (sym h.is_address))
      | inr many ↦ (
          let front = same_front pages pc 64 64 h.bytes h.are_fetched many (omega arith) in
          absurd (omega (arith, ap length front, length-take 64 all, length-take 64 h.bytes)))
    ]
found-past pages pc address (Some r) are h e =
    let all = fetched pages pc 64 in
    let d = instruction_found pc all r.0 r.1 are e in
    let most = length-fetched pages pc 64 in
    elim (cases_lt (length h.bytes) 64) [
      | inl few ↦ (
          let same = fetched-whole pages pc 64 h.bytes h.are_fetched h.is_last few in
          absurd (h.undecided r.1 r.0 (subst (λ l. Decides pc (take r.1 l) r.0) same d.1)))
      | inr many ↦ (
          let front = same_front pages pc 64 r.1 h.bytes h.are_fetched (omega (arith, d.0)) (omega (arith, d.0)) in
          absurd (h.undecided r.1 r.0 (subst (λ l. Decides pc l r.0) front d.1)))
    ]

-- Nothing else stands there.
pub found-only : (pages : Pages) (pc : ℕ) (f : Found) → AreBytes (fetched pages pc 64) → Stands pages pc f → f ≡ found pages pc
found-only pages pc (instruction instr) are h = sym (found-decided pages pc (instruction instr) h)
found-only pages pc reserved_instruction are h = sym (found-decided pages pc reserved_instruction h)
found-only pages pc reserved_mode are h = sym (found-decided pages pc reserved_mode h)
found-only pages pc (past address) are h = sym (found-past pages pc address _ are h refl)
