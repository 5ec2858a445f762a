-- Reading an instruction from the front of a list is deciding what the list shows.
use Rattle.std.proofs.Common.{◌≡◌, ℕ, suc, ◌+◌, ◌*◌, ◌<◌, ◌≤◌, ◌⊎◌, List, [], ◌∷◌, ◌++◌, length, take, drop, Option, Some, None, refl, sym, ap, ◌∙◌, subst, inl, inr, arith, length-append, length-take, length-drop, append-nil, append_assoc, get_or-drop}
use Rattle.std.proofs.Math.Seq.{drop-append_seam, take-add}
use Rattle.std.proofs.lemmas.List.{nil_from_length}
use Rattle.std.specs.Option.{option_map}
use Rattle.std.proofs.lemmas.Option.{some_pair_parts}
use Rattle.vax_form.specs.Grammar.{Decides, EndReserved, Found, SpecifyAll, Specifies, instruction, padded, past, reserved_instruction, reserved_mode, wrapped}
use Rattle.vax_form.specs.GrammarLaws.{AreBytes, Decided, DecidedOnce, ReadBack}
use Rattle.vax_form.specs.GrammarReading.{Shown, complete, followed, in_front, instruction_of, read_instruction, read_operands, read_specifier, read_specifiers, reserved}
use Rattle.vax_form.specs.GrammarRows.{operand_types}
use Rattle.vax_form.proofs.GrammarFinds.{option_map-some, specifier_found}
use Rattle.vax_form.proofs.GrammarReads.{read_specifier-shows, read_specifier-specifies}
use Rattle.vax_form.proofs.GrammarCounts.{operand_types-most}
use Rattle.vax_form.proofs.GrammarLengths.{IsShort, IsShort-from, option_map-none, read_specifier-short}
use Rattle.vax_form.specs.declared.instr.Size.{Size}
use Rattle.vax_form.specs.declared.instr.Access.{Access}
use Rattle.vax_form.specs.declared.instr.Operand.{Operand}

-- ---- specifiers one behind the other: what is specified is read

-- reading behind a specifier that is complete
read_specifiers-behind : (t : Access × Size) (types : List (Access × Size)) (at : ℕ) (first rest : List ℕ) (o : Operand)
    → Specifies t.0 t.1 at first o
    → read_specifiers (t ∷ types) at (first ++ rest) ≡ in_front o (length first) (read_specifiers types (at + length first) rest)
unfolding read_specifiers
read_specifiers-behind t types at first rest o h =
    ap (λ x. followed x (λ n. read_specifiers types (at + n) (drop n (first ++ rest)))) (read_specifier-specifies t.0 t.1 at first o rest h)
    ∙ ap (λ l. in_front o (length first) (read_specifiers types (at + length first) l)) (drop-append_seam first rest)

pub read_specifiers-all : (types : List (Access × Size)) (at : ℕ) (bytes rest : List ℕ) (operands : List Operand)
    → SpecifyAll types at bytes operands → read_specifiers types at (bytes ++ rest) ≡ Some (complete operands, length bytes)
unfolding read_specifiers
read_specifiers-all [] at bytes rest operands (none, empty) =
    ap (λ l. Some (complete l, 0)) (sym empty) ∙ ap (λ l. Some (complete operands, length l)) (sym none)
read_specifiers-all (t ∷ types) at bytes rest operands (first, more, o, others, e, is, h, hs) =
    let len : length first + length more ≡ length bytes = omega (arith, ap length e, length-append first more) in
    ap (λ l. read_specifiers (t ∷ types) at (l ++ rest)) e ∙ ap (read_specifiers (t ∷ types) at) (append_assoc first more rest)
    ∙ read_specifiers-behind t types at first (more ++ rest) o h
    ∙ ap (in_front o (length first)) (read_specifiers-all types (at + length first) more rest others hs)
    ∙ ap (λ n. Some (complete (o ∷ others), n)) len ∙ ap (λ l. Some (complete l, length bytes)) (sym is)

pub read_specifiers-reserved : (types : List (Access × Size)) (at : ℕ) (bytes rest : List ℕ)
    → EndReserved types at bytes → read_specifiers types at (bytes ++ rest) ≡ Some (reserved, length bytes)
unfolding read_specifiers
read_specifiers-reserved [] at bytes rest h = absurd h
read_specifiers-reserved (t ∷ types) at bytes rest (inl h) =
    ap (λ x. followed x (λ n. read_specifiers types (at + n) (drop n (bytes ++ rest)))) (read_specifier-shows t.0 t.1 at bytes rest h)
read_specifiers-reserved (t ∷ types) at bytes rest (inr h) =
    let first = h.0 in
    let more = h.1 in
    let o = h.2 in
    let e = h.3 in
    let len : length first + length more ≡ length bytes = omega (arith, ap length e, length-append first more) in
    ap (λ l. read_specifiers (t ∷ types) at (l ++ rest)) e ∙ ap (read_specifiers (t ∷ types) at) (append_assoc first more rest)
    ∙ read_specifiers-behind t types at first (more ++ rest) o h.4
    ∙ ap (in_front o (length first)) (read_specifiers-reserved types (at + length first) more rest h.5)
    ∙ ap (λ n. Some (reserved, n)) len

-- ---- the same, the other way round

abbrev pub SpecifyAll_shown : List (Access × Size) → ℕ → List ℕ → Shown (List Operand) → Type 0
SpecifyAll_shown types at bytes (complete operands) = SpecifyAll types at bytes operands
SpecifyAll_shown types at bytes reserved = EndReserved types at bytes

AreBytes-drop : (n : ℕ) (bytes : List ℕ) → AreBytes bytes → AreBytes (drop n bytes)
AreBytes-drop n bytes are i = rw get_or-drop (are (n + i))

-- an operand in front of others that were read
abbrev with_front : Operand → Shown (List Operand) → Shown (List Operand)
with_front o (complete operands) = complete (o ∷ operands)
with_front o reserved = reserved

record IsInFront (o : Operand) (m : ℕ) (others : Option (Shown (List Operand) × ℕ)) (shown : Shown (List Operand)) (n : ℕ) : Type 0 where
  inner : Shown (List Operand)
  count : ℕ
  is : others ≡ Some (inner, count)
  gives : with_front o inner ≡ shown
  total : m + count ≡ n

in_front-some : (o : Operand) (m : ℕ) (others : Option (Shown (List Operand) × ℕ)) (shown : Shown (List Operand)) (n : ℕ)
    → in_front o m others ≡ Some (shown, n) → IsInFront o m others shown n
in_front-some o m None shown n e = absurd cc
in_front-some o m (Some (complete operands, count)) shown n e =
    let p = some_pair_parts (complete (o ∷ operands)) shown (m + count) n e in
    record { inner = complete operands; count = count; is = refl; gives = p.0; total = p.1 }
in_front-some o m (Some (reserved, count)) shown n e =
    let p = some_pair_parts reserved shown (m + count) n e in
    record { inner = reserved; count = count; is = refl; gives = p.0; total = p.1 }

-- what was read of one operand and of the others
record IsFollowed (one : Option (Shown Operand × ℕ)) (others : ℕ → Option (Shown (List Operand) × ℕ)) (shown : Shown (List Operand)) (n : ℕ) : Type 0 where
  operand : Operand
  count : ℕ
  is : one ≡ Some (complete operand, count)
  behind : IsInFront operand count (others count) shown n

followed-some : (one : Option (Shown Operand × ℕ)) (others : ℕ → Option (Shown (List Operand) × ℕ)) (shown : Shown (List Operand)) (n : ℕ)
    → followed one others ≡ Some (shown, n) → ((one ≡ Some (reserved, n)) × (reserved ≡ shown)) ⊎ IsFollowed one others shown n
followed-some None others shown n e = absurd cc
followed-some (Some (reserved, count)) others shown n e =
    let p = some_pair_parts reserved shown count n e in inl (ap (λ k. Some (reserved, k)) p.1, p.0)
followed-some (Some (complete o, count)) others shown n e =
    inr (record { operand = o; count = count; is = refl; behind = in_front-some o count (others count) shown n e })

specify_more : (t : Access × Size) (types : List (Access × Size)) (at : ℕ) (first rest : List ℕ) (o : Operand) (inner : Shown (List Operand))
    → Specifies t.0 t.1 at first o → SpecifyAll_shown types (at + length first) rest inner
    → SpecifyAll_shown (t ∷ types) at (first ++ rest) (with_front o inner)
specify_more t types at first rest o (complete operands) h hs = (first, rest, o, operands, refl, refl, h, hs)
specify_more t types at first rest o reserved h hs = inr (first, rest, o, refl, h, hs)

pub specifiers_found : (types : List (Access × Size)) (at : ℕ) (bytes : List ℕ) (shown : Shown (List Operand)) (n : ℕ)
    → AreBytes bytes → read_specifiers types at bytes ≡ Some (shown, n)
    → (n ≤ length bytes) × SpecifyAll_shown types at (take n bytes) shown
unfolding read_specifiers
specifiers_found [] at bytes shown n are e =
    let p = some_pair_parts (complete []) shown 0 n e in (
      omega (arith, p.1),
      subst (λ k. SpecifyAll_shown [] at (take k bytes) shown) p.1 (subst (λ k. SpecifyAll_shown [] at [] k) p.0 (refl, refl)),
    )
specifiers_found (t ∷ types) at bytes shown n are e =
    elim (followed-some (read_specifier t.0 t.1 at bytes) (λ k. read_specifiers types (at + k) (drop k bytes)) shown n e) [
      | inl bad ↦ (
          let found = specifier_found t.0 t.1 at bytes reserved n are bad.0 in
          (found.0, subst (λ k. SpecifyAll_shown (t ∷ types) at (take n bytes) k) bad.1 (inl found.1)))
      | inr fine ↦ (
          let k = fine.count in
          let b = fine.behind in
          let found = specifier_found t.0 t.1 at bytes (complete fine.operand) k are fine.is in
          let others = specifiers_found types (at + k) (drop k bytes) b.inner b.count (AreBytes-drop k bytes are) b.is in
          let len : k ≡ length (take k bytes) = omega (arith, length-take k bytes, found.0) in
          let rest = take b.count (drop k bytes) in
          let split : take k bytes ++ rest ≡ take n bytes =
          sym (take-add k b.count bytes) ∙ ap (λ j. take j bytes) b.total in (
            omega (arith, found.0, others.0, b.total, length-drop k bytes),
            subst (λ l. SpecifyAll_shown (t ∷ types) at l shown) split
                (subst (λ x. SpecifyAll_shown (t ∷ types) at (take k bytes ++ rest) x) b.gives
                (specify_more t types at (take k bytes) rest fine.operand b.inner found.1
                (subst (λ j. SpecifyAll_shown types (at + j) rest b.inner) len others.1))),
          ))
    ]

-- ---- how many bytes they have

in_front-short : (o : Operand) (m most : ℕ) (bytes : List ℕ) (others : Option (Shown (List Operand) × ℕ)) → m ≤ 10
    → IsShort most (drop m bytes) others → IsShort (10 + most) bytes (in_front o m others)
in_front-short o m most bytes None few h = omega (arith, length-drop m bytes)
in_front-short o m most bytes (Some (complete operands, count)) few h = omega arith
in_front-short o m most bytes (Some (reserved, count)) few h = omega arith

followed-short : (most : ℕ) (bytes : List ℕ) (one : Option (Shown Operand × ℕ)) (others : ℕ → Option (Shown (List Operand) × ℕ))
    → IsShort 10 bytes one → ((n : ℕ) → IsShort most (drop n bytes) (others n)) → IsShort (10 + most) bytes (followed one others)
followed-short most bytes None others h hs = omega arith
followed-short most bytes (Some (reserved, n)) others h hs = omega arith
followed-short most bytes (Some (complete o, n)) others h hs = in_front-short o n most bytes (others n) h (hs n)

pub read_specifiers-short : (types : List (Access × Size)) (at : ℕ) (bytes : List ℕ)
    → IsShort (10 * length types) bytes (read_specifiers types at bytes)
unfolding read_specifiers
read_specifiers-short [] at bytes = omega arith
read_specifiers-short (t ∷ types) at bytes =
    let few : 10 + 10 * length types ≡ 10 * length (t ∷ types) = omega arith in
    subst (λ k. IsShort k bytes (read_specifiers (t ∷ types) at bytes)) few
    (followed-short (10 * length types) bytes (read_specifier t.0 t.1 at bytes) (λ n. read_specifiers types (at + n) (drop n bytes))
    (read_specifier-short t.0 t.1 at bytes) (λ n. read_specifiers-short types (at + n) (drop n bytes)))

-- ---- whole instructions

read_instruction-types : (at opcode : ℕ) (bytes rest more : List ℕ) (types : List (Access × Size)) (shown : Shown (List Operand)) (n : ℕ)
    → operand_types opcode ≡ Some types → bytes ≡ opcode ∷ rest → read_specifiers types (at + 1) (rest ++ more) ≡ Some (shown, n)
    → read_instruction at (bytes ++ more) ≡ Some (instruction_of at opcode (length types) (shown, n))
unfolding read_instruction read_operands
read_instruction-types at opcode bytes rest more types shown n is e reads =
    ap (λ l. read_instruction at (l ++ more)) e ∙ ap (λ o. read_operands at opcode o (rest ++ more)) is
    ∙ ap (option_map (instruction_of at opcode (length types))) reads

-- What a list decides is read from every list that begins with it.
pub read_instruction-decides : ReadBack
unfolding read_instruction read_operands instruction_of
read_instruction-decides at bytes rest (instruction instr) h =
    let len : 1 + length h.rest ≡ length bytes = omega (arith, ap length h.are_bytes) in
    read_instruction-types at h.opcode bytes h.rest rest h.types (complete h.operands) (length h.rest) h.is_opcode h.are_bytes
    (read_specifiers-all h.types (at + 1) h.rest rest h.operands h.are_operands)
    ∙ ap (λ n. Some (
      instruction (record {
        at = at;
        opcode = h.opcode;
        count = length h.types;
        operands = padded h.operands;
        after = wrapped (at + n);
      }),
      n,
    )) len
    ∙ ap (λ i. Some (instruction i, length bytes)) (sym h.is_instr)
read_instruction-decides at bytes rest reserved_instruction (opcode, is, e) =
    ap (λ l. read_instruction at (l ++ rest)) e ∙ ap (λ o. read_operands at opcode o rest) is
    ∙ ap (λ l. Some (reserved_instruction, length l)) (sym e)
read_instruction-decides at bytes rest reserved_mode h =
    let len : 1 + length h.rest ≡ length bytes = omega (arith, ap length h.are_bytes) in
    read_instruction-types at h.opcode bytes h.rest rest h.types reserved (length h.rest) h.is_opcode h.are_bytes
    (read_specifiers-reserved h.types (at + 1) h.rest rest h.are_reserved)
    ∙ ap (λ n. Some (reserved_mode, n)) len
read_instruction-decides at bytes rest (past address) h = absurd h

-- what the operands show makes what the instruction shows
decided_by : (at opcode : ℕ) (rest : List ℕ) (types : List (Access × Size)) (shown : Shown (List Operand)) (n : ℕ)
    → operand_types opcode ≡ Some types → n ≤ length rest → SpecifyAll_shown types (at + 1) (take n rest) shown
    → Decides at (opcode ∷ take n rest) (instruction_of at opcode (length types) (shown, n)).0
unfolding instruction_of
decided_by at opcode rest types (complete operands) n is few h =
    let len : 1 + n ≡ length (opcode ∷ take n rest) = omega (arith, length-take n rest) in
    record {
      opcode = opcode;
      types = types;
      rest = take n rest;
      operands = operands;
      is_opcode = is;
      are_bytes = refl;
      are_operands = h;
      is_instr = ap (λ k. record {
        at = at;
        opcode = opcode;
        count = length types;
        operands = padded operands;
        after = wrapped (at + k);
      }) len;
    }
decided_by at opcode rest types reserved n is few h = record {
  opcode = opcode;
  types = types;
  rest = take n rest;
  is_opcode = is;
  are_bytes = refl;
  are_reserved = h;
}

instruction_of-count : (at opcode count : ℕ) (shown : Shown (List Operand)) (n : ℕ) → (instruction_of at opcode count (shown, n)).1 ≡ suc n
unfolding instruction_of
instruction_of-count at opcode count (complete operands) n = omega arith
instruction_of-count at opcode count reserved n = omega arith

found_by_opcode : (at opcode : ℕ) (rest : List ℕ) (o : Option (List (Access × Size))) (found : Found) (n : ℕ) → AreBytes rest
    → operand_types opcode ≡ o → read_operands at opcode o rest ≡ Some (found, n)
    → (n ≤ suc (length rest)) × Decides at (take n (opcode ∷ rest)) found
unfolding read_operands
found_by_opcode at opcode rest None found n are is e =
    let p = some_pair_parts reserved_instruction found 1 n e in (
      omega (arith, p.1),
      subst (λ k. Decides at (take k (opcode ∷ rest)) found) p.1
          (subst (λ f. Decides at (opcode ∷ []) f) p.0 (opcode, is, refl)),
    )
found_by_opcode at opcode rest (Some types) found n are is e =
    let x = option_map-some (instruction_of at opcode (length types)) (read_specifiers types (at + 1) rest) _ e in
    let shown = x.0.0 in
    let k = x.0.1 in
    let specified = specifiers_found types (at + 1) rest shown k are x.1 in
    let count : suc k ≡ n = sym (instruction_of-count at opcode (length types) shown k) ∙ ap (λ p. p.1) x.2 in (
      omega (arith, count, specified.0),
      subst (λ j. Decides at (take j (opcode ∷ rest)) found) count
          (subst (λ f. Decides at (opcode ∷ take k rest) f) (ap (λ p. p.0) x.2)
          (decided_by at opcode rest types shown k is specified.0 specified.1)),
    )

-- What is read is decided by the bytes that were read.
pub instruction_found : Decided
unfolding read_instruction
instruction_found at [] found n are e = absurd cc
instruction_found at (opcode ∷ rest) found n are e =
    found_by_opcode at opcode rest (operand_types opcode) found n (λ i. are (suc i)) refl e

-- At most 61 bytes are read, and more are wanted only of a list that has fewer.
IsShort-by_opcode : (at opcode : ℕ) (rest : List ℕ) (o : Option (List (Access × Size))) → operand_types opcode ≡ o
    → IsShort 61 (opcode ∷ rest) (read_operands at opcode o rest)
unfolding read_operands
IsShort-by_opcode at opcode rest None is = omega arith
IsShort-by_opcode at opcode rest (Some types) is =
    let few = operand_types-most opcode types is in
    let short = read_specifiers-short types (at + 1) rest in
    IsShort-from 61 (opcode ∷ rest) (read_operands at opcode (Some types) rest)
    (λ e. (
    let none = option_map-none (instruction_of at opcode (length types)) (read_specifiers types (at + 1) rest) e in
    let h : length rest < 10 * length types = subst (IsShort (10 * length types) rest) none short in
    omega arith))
    (λ found n e. (
    let x = option_map-some (instruction_of at opcode (length types)) (read_specifiers types (at + 1) rest) _ e in
    let h : x.0.1 ≤ 10 * length types = subst (IsShort (10 * length types) rest) x.1 short in
    let count : suc x.0.1 ≡ n = sym (instruction_of-count at opcode (length types) x.0.0 x.0.1) ∙ ap (λ p. p.1) x.2 in
    omega arith))

pub read_instruction-short : (at : ℕ) (bytes : List ℕ) → IsShort 61 bytes (read_instruction at bytes)
unfolding read_instruction
read_instruction-short at [] = omega arith
read_instruction-short at (opcode ∷ rest) = IsShort-by_opcode at opcode rest (operand_types opcode) refl

-- ---- a list decides at most one thing, and no proper prefix of it decides

pub decides_once : DecidedOnce
decides_once at bytes more found other h hs =
    let short = read_instruction-decides at bytes more found h in
    let long = read_instruction-decides at (bytes ++ more) [] other hs in
    let p = some_pair_parts found other (length bytes) (length (bytes ++ more))
    (sym short ∙ ap (read_instruction at) (sym (append-nil (bytes ++ more))) ∙ long) in
    (nil_from_length more (omega (arith, p.1, length-append bytes more)), p.0)
