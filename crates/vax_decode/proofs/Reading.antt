-- Reading the specifiers of an instruction one after the other.
use Rattle.std.proofs.Common.{◌≡◌, ℕ, suc, ◌+◌, ◌-◌, ◌<◌, ◌≤◌, List, [], ◌∷◌, ◌++◌, length, get_or, drop, set, replicate, Option, Some, None, Ok, Err, refl, sym, ap, ◌∙◌, arith, append-nil, append_assoc, length-append, length-take, get_or-take}
use Rattle.std.proofs.Math.Seq.{drop-drop, set-append_seam}
use Rattle.std.proofs.lemmas.List.{at_drop_all, at_drop_more}
use Rattle.std.proofs.lemmas.Slice.Zip.{get_or-zip}
use Rattle.std.specs.List.{zip}
use Rattle.vax_form.specs.Grammar.{padded, wrapped}
use Rattle.vax_form.specs.GrammarReading.{Shown, complete, followed, in_front, read_specifier, read_specifiers, reserved}
use Rattle.vax_form.specs.declared.instr.Size.{Size}
use Rattle.vax_form.specs.declared.instr.Access.{Access}
use Rattle.vax_form.specs.declared.instr.Operand.{Operand}
use Rattle.vax_form.specs.declared.instr.Operand.TheVariants.{Unused}
use Rattle.vax_form.specs.declared.row.Row.{Row}
use Rattle.operand_specifiers.specs.Answer.{answer_of}
use Rattle.operand_specifiers.specs.declared.spec.SpecFault.{SpecFault}
use Rattle.operand_specifiers.specs.declared.spec.SpecFault.TheVariants.{Past, ReservedMode}
use Rattle.vax_decode.specs.Reading.{instr_answer, types_of}

-- operands that were read, in so many bytes, in front of what is read behind them
abbrev pub joined : List Operand → ℕ → Option (Shown (List Operand) × ℕ) → Option (Shown (List Operand) × ℕ)
joined done n None = None
joined done n (Some (complete operands, count)) = Some (complete (done ++ operands), n + count)
joined done n (Some (reserved, count)) = Some (reserved, n + count)

joined-in_front : (done : List Operand) (m n : ℕ) (o : Operand) (x : Option (Shown (List Operand) × ℕ))
    → joined done m (in_front o n x) ≡ joined (done ++ o ∷ []) (m + n) x
joined-in_front done m n o None = refl
joined-in_front done m n o (Some (complete operands, count)) =
    let sum : m + (n + count) ≡ m + n + count = omega arith in
    ap (λ k. Some (complete (done ++ o ∷ operands), k)) sum
    ∙ ap (λ l. Some (complete l, m + n + count)) (sym (append_assoc done (o ∷ []) operands))
joined-in_front done m n o (Some (reserved, count)) =
    let sum : m + (n + count) ≡ m + n + count = omega arith in ap (λ k. Some (reserved, k)) sum

-- ---- the types of a row's operands

length-zip : {A B : Type 0} (xs : List A) (ys : List B) → length xs ≡ length ys → length (zip xs ys) ≡ length xs
length-zip [] ys e = refl
length-zip (x ∷ xs) [] e = absurd (omega arith)
length-zip (x ∷ xs) (y ∷ ys) e = ap suc (length-zip xs ys (omega arith))

pub length-types_of : (row : Row) → length row.access ≡ 6 → length row.size ≡ 6 → row.count ≤ 6 → length (types_of row) ≡ row.count
length-types_of row accesses sizes few =
    omega (arith, length-take row.count (zip row.access row.size), length-zip row.access row.size (accesses ∙ sym sizes))

type_at : {Y : Type 0} (F : List (Access × Size) → Y) (row : Row) (i : ℕ) (a : Access) (s : Size) → length row.access ≡ 6
    → length row.size ≡ 6 → row.count ≤ 6 → i < row.count
    → F (drop i (types_of row)) ≡ F ((get_or row.access i a, get_or row.size i s) ∷ drop (i + 1) (types_of row))
type_at F row i a s accesses sizes few below =
    let within : i < length (types_of row) = omega (arith, length-types_of row accesses sizes few) in
    at_drop_more F (types_of row) i (a, s) within
    ∙ ap (λ t. F (t ∷ drop (i + 1) (types_of row)))
    (get_or-take row.count (zip row.access row.size) i (a, s) below
    ∙ get_or-zip row.access row.size i (a, s) (omega (arith, accesses)) (omega (arith, sizes)))

-- ---- the loop

-- The operands that were read, and what is read of the others.
pub record Reading (row : Row) (pc i place : ℕ) (bytes : List ℕ) (operands : List Operand) : Type 0 where
  pub done : List Operand
  pub count : length done ≡ i
  pub are_operands : operands ≡ padded done
  pub begun : 1 ≤ place
  pub within : place ≤ length bytes
  pub rest : joined done (place - 1) (read_specifiers (drop i (types_of row)) (pc + place) (drop place bytes))
      ≡ read_specifiers (types_of row) (pc + 1) (drop 1 bytes)

answer-ok : (at behind : ℕ) (operand : Operand) (o : Option (Shown Operand × ℕ)) → Ok (operand, behind) ≡ answer_of at o
    → (n : ℕ) × (o ≡ Some (complete operand, n)) × (behind ≡ at + n)
answer-ok at behind operand None e = absurd cc
answer-ok at behind operand (Some (reserved, n)) e = absurd cc
answer-ok at behind operand (Some (complete other, n)) e =
    let p : Operand × ℕ = (operand, behind) in
    let q : Operand × ℕ = (other, at + n) in
    let both : p ≡ q = cc in
    (n, ap (λ k. Some (complete k, n)) (sym (ap (λ p. p.0) both)), ap (λ p. p.1) both)

answer-past : (at : ℕ) (o : Option (Shown Operand × ℕ)) → Err Past ≡ answer_of at o → o ≡ None
answer-past at None e = refl
answer-past at (Some (reserved, n)) e = absurd cc
answer-past at (Some (complete other, n)) e = absurd cc

answer-reserved : (at : ℕ) (o : Option (Shown Operand × ℕ)) → Err ReservedMode ≡ answer_of at o → (n : ℕ) × (o ≡ Some (reserved, n))
answer-reserved at None e = absurd cc
answer-reserved at (Some (reserved, n)) e = (n, refl)
answer-reserved at (Some (complete other, n)) e = absurd cc

padded-set : (done : List Operand) (operand : Operand) → length done < 6 → set (padded done) (length done) operand ≡ padded (done ++ operand ∷ [])
padded-set done operand few =
    let k = 5 - length done in
    let room : 6 - length done ≡ suc k = omega arith in
    let left : k ≡ 6 - length (done ++ operand ∷ []) = omega (arith, length-append done (operand ∷ [])) in
    ap (λ n. set (done ++ replicate n Unused) (length done) operand) room
    ∙ set-append_seam done Unused (replicate k Unused) operand
    ∙ ap (λ n. done ++ operand ∷ replicate n Unused) left
    ∙ sym (append_assoc done (operand ∷ []) (replicate (6 - length (done ++ operand ∷ [])) Unused))

module _ (row : Row) (pc i place : ℕ) (bytes : List ℕ) (operands : List Operand) (r : Reading row pc i place bytes operands)
    (accesses : length row.access ≡ 6) (sizes : length row.size ≡ 6) (few : row.count ≤ 6) where
  module _ (a : Access) (s : Size) (below : i < row.count) where
    rest_at : (one : Option (Shown Operand × ℕ)) → read_specifier (get_or row.access i a) (get_or row.size i s) (pc + place) (drop place bytes) ≡ one
        → joined r.done (place - 1) (followed one (λ n. read_specifiers (drop (i + 1) (types_of row)) (pc + place + n) (drop n (drop place bytes))))
        ≡ read_specifiers (types_of row) (pc + 1) (drop 1 bytes)
    unfolding read_specifiers
    rest_at one e =
        ap (λ o. joined r.done (place - 1) (followed o (λ n. read_specifiers (drop (i + 1) (types_of row)) (pc + place + n) (drop n (drop place bytes))))) (sym e)
        ∙ sym (type_at (λ ts. joined r.done (place - 1) (read_specifiers ts (pc + place) (drop place bytes))) row i a s accesses sizes few below)
        ∙ r.rest

    pub reading_more : (operand : Operand) (behind : ℕ)
        → Ok (operand, behind) ≡ answer_of place (read_specifier (get_or row.access i a) (get_or row.size i s) (pc + place) (drop place bytes)) → behind ≤ length bytes
        → Reading row pc (i + 1) behind bytes (set operands i operand)
    reading_more operand behind e within =
        let x = answer-ok place behind operand _ e in
        let n = x.0 in
        let place_is : place + n ≡ behind = sym x.2 in
        let address_is : pc + place + n ≡ pc + behind = omega (arith, place_is) in
        let left_is : place - 1 + n ≡ behind - 1 = omega (arith, place_is, r.begun) in
        let ts = drop (i + 1) (types_of row) in
        let done = r.done ++ operand ∷ [] in
        record {
          done = done;
          count = length-append r.done (operand ∷ []) ∙ ap (λ k. k + 1) r.count;
          are_operands = ap (λ l. set l i operand) r.are_operands ∙ ap (λ k. set (padded r.done) k operand) (sym r.count)
              ∙ padded-set r.done operand (omega (arith, r.count));
          begun = omega (arith, r.begun, place_is);
          within = within;
          rest = ap (λ l. joined done (behind - 1) (read_specifiers ts (pc + behind) l))
              (ap (λ k. drop k bytes) (sym place_is) ∙ sym (drop-drop n place bytes))
              ∙ ap (λ k. joined done (behind - 1) (read_specifiers ts k (drop n (drop place bytes)))) (sym address_is)
              ∙ ap (λ k. joined done k (read_specifiers ts (pc + place + n) (drop n (drop place bytes)))) (sym left_is)
              ∙ sym (joined-in_front r.done (place - 1) n operand _)
              ∙ rest_at (Some (complete operand, n)) x.1;
        }

    pub reading_stops : (fault : SpecFault) (opcode : ℕ) → Err fault ≡ answer_of place (read_specifier (get_or row.access i a) (get_or row.size i s) (pc + place) (drop place bytes))
        → Err fault ≡ instr_answer pc opcode row.count (read_specifiers (types_of row) (pc + 1) (drop 1 bytes))
    reading_stops Past opcode e =
        ap (instr_answer pc opcode row.count) (rest_at None (answer-past place _ e))
    reading_stops ReservedMode opcode e =
        let x = answer-reserved place _ e in
        ap (instr_answer pc opcode row.count) (rest_at (Some (reserved, x.0)) x.1)

pub reading_ended : (row : Row) (pc i place : ℕ) (bytes : List ℕ) (operands : List Operand) → Reading row pc i place bytes operands
    → (opcode : ℕ) → i ≡ row.count
    → Ok (record { at = pc; opcode = opcode; count = row.count; operands = operands; after = wrapped (pc + place) })
    ≡ instr_answer pc opcode row.count (read_specifiers (types_of row) (pc + 1) (drop 1 bytes))
unfolding read_specifiers
reading_ended row pc i place bytes operands r opcode end =
    let none : length (types_of row) ≤ i = omega (arith, length-take row.count (zip row.access row.size)) in
    let last = at_drop_all (λ ts. joined r.done (place - 1) (read_specifiers ts (pc + place) (drop place bytes))) (types_of row) i none in
    let behind : pc + place ≡ pc + (1 + (place - 1 + 0)) = omega (arith, r.begun) in
    ap (λ l. Ok (record { at = pc; opcode = opcode; count = row.count; operands = l; after = wrapped (pc + place) }))
    (r.are_operands ∙ ap padded (sym (append-nil r.done)))
    ∙ ap (λ n. Ok (record { at = pc; opcode = opcode; count = row.count; operands = padded (r.done ++ []); after = wrapped n })) behind
    ∙ ap (instr_answer pc opcode row.count) (sym last ∙ r.rest)
