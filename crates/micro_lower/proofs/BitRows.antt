-- Branches on a bit do what their instructions do.
use Rattle.std.proofs.Common.{◌≡◌, ℕ, ◌+◌, ◌-◌, ◌*◌, ◌/◌, ◌%◌, ◌^◌, ◌<◌, ◌==◌, Bool, true, false, List, [], ◌∷◌, ◌++◌, length, Option, None, refl, sym, ap, ◌∙◌, subst, arith, inl, inr, lit<, ltb-false}
use Rattle.std.specs.Prelude.{◌&&◌, ◌||◌, nat_lt, bit_and, bit_or, if◌then◌else◌}
use Rattle.std.specs.List.{list_all}
use Rattle.std.proofs.Math.Nat.{mod-eq_of_lt}
use Rattle.std.proofs.Math.Pow.{pow-lt}
use Rattle.std.proofs.lemmas.Bool.{cases_lt, lt-ltb}
use Rattle.std.proofs.lemmas.Bool.Decides.{nat_tests}
use Rattle.std.proofs.lemmas.Nat.{and_mask, and_mod, or_mod, div-add-mod', mod_below, one_shl}
use Rattle.std.proofs.lemmas.Nat.Bits.{bit_at_cat_low, shr_and_one}
use Rattle.vax_form.specs.State.{IsState, with_register}
use Rattle.vax_form.specs.Parts.{parts}
use Rattle.vax_form.specs.Tree.{Tree, tree_of}
use Rattle.vax_form.specs.Tree as trees
use Rattle.vax_form.specs.declared.instr.Base.{Base}
use Rattle.vax_form.specs.declared.instr.Access.TheVariants.{Read, Field, Branch}
use Rattle.vax_form.specs.declared.instr.Instr.{Instr}
use Rattle.vax_form.specs.declared.instr.Operand.{Operand}
use Rattle.vax_form.specs.declared.instr.Operand.TheVariants as operands
use Rattle.vax_form.specs.declared.instr.Size.{Size}
use Rattle.vax_form.specs.declared.instr.Size.TheVariants.{Byte, Long}
use Rattle.vax_form.specs.declared.operation.BitStore.{BitStore}
use Rattle.vax_form.specs.declared.operation.BitStore.TheVariants.{Nothing, Plain, Interlocked}
use Rattle.vax_form.specs.declared.operation.Operation.TheVariants as operations
use Rattle.vax_form.specs.declared.pages.Pages.{Pages}
use Rattle.vax_form.specs.declared.state.RefKind.TheVariants as references
use Rattle.vax_form.specs.declared.state.Reference.{Reference}
use Rattle.vax_form.specs.declared.state.VaxState.{VaxState}
use Rattle.vax_meaning.specs.Branches.{target, pc_after}
use Rattle.vax_meaning.specs.Evaluation.{nothing, operand}
use Rattle.vax_meaning.specs.Fields.{with_bits, bits_of, field_address, leave_bit, byte_found, bit_found, branch_on_bit}
use Rattle.vax_meaning.specs.Instructions.{body}
use Rattle.vax_meaning.specs.Memory.{low_bytes, read, write}
use Rattle.vax_meaning.specs.Operands.{put}
use Rattle.vax_meaning.specs.declared.evaluation.Evaluated.{Evaluated}
use Rattle.vax_meaning.specs.declared.operands.Location.TheVariants.{InMemory, InRegister}
use Rattle.vt_words.specs.Shifts.{right_shift_of}
use Rattle.vt_words.specs.Values.{bit}
use Rattle.micro_ops.specs.Course.{Course, Check, read_parts, write_parts}
use Rattle.micro_ops.specs.Leaving.{CodesComeFrom}
use Rattle.micro_ops.specs.Meaning.{Left, Temps, Found, with_temp, course_of}
use Rattle.micro_ops.specs.Sources.{sources_of, from}
use Rattle.micro_ops.specs.Values.{computed, value_from}
use Rattle.micro_ops.specs.declared.codes.CodeSource.TheVariants.{Kept}
use Rattle.micro_ops.specs.declared.program.Arg.TheVariants.{Temp, Const}
use Rattle.micro_ops.specs.declared.program.Micro.{Micro}
use Rattle.micro_ops.specs.declared.program.Micro.TheVariants.{Compute, Write, Leave}
use Rattle.micro_ops.specs.declared.program.MicroOp.TheVariants as ops
use Rattle.operand_programs.specs.InOrder.{AreLeft}
use Rattle.operand_programs.specs.Operands.{IsBase, IsOfSize}
use Rattle.operand_programs.specs.Pieces.{Agrees, leaving}
use Rattle.operand_programs.specs.Results.{finish_program}
use Rattle.operand_programs.specs.Specifiers.{stepped, commit_program}
use Rattle.operand_programs.specs.declared.operands.Specifier.{Specifier}
use Rattle.operand_programs.proofs.Accesses.{reads_agree, writes_agree}
use Rattle.micro_lower.specs.Plans.{steps_of}
use Rattle.micro_lower.specs.Rows.{test_exit, bit_tested, storing, with_bit_into, byte_program, bit_plan_for}
use Rattle.micro_lower.proofs.BitValues.{bit_set, bit_cleared, last_bit}
use Rattle.micro_lower.proofs.Endings.{found_at, with, DoesSo, computes, is_computation, nowhere, replaces, closes_kept}
use Rattle.micro_lower.proofs.JumpRows.{go_end, set_test, test_low}
use Rattle.micro_lower.proofs.Planned.{BodyDoes, after_read, after_branch, after_all, specifier, value}
use Rattle.micro_lower.proofs.PswRows.{refuses}
use Rattle.micro_lower.proofs.Ready.{effect}
use Rattle.micro_lower.proofs.Coding.{GoesTo}

-- ---- shapes
after_field : (size : Size) (operand : Operand) (to place : ℕ) (later : List Specifier) (values : List Evaluated) (temps : Temps) (P : List Evaluated → Type 0)
    → AreLeft (specifier Field size operand to place ∷ later) values temps
    → ((others : List Evaluated) → AreLeft later others temps → (first : Evaluated) → IsBase operand first (temps to) (temps place) → P (first ∷ others)) → P values
after_field size operand to place later values temps P left goes = subst P (sym left.2) (goes left.1 left.4 left.0 left.3)

pub read_field_branch : (values : List Evaluated) (temps : Temps) (P : List Evaluated → Type 0) (a b c : Operand)
    → AreLeft (specifier Read Long a 0 1 ∷ specifier Field Byte b 1 2 ∷ specifier Branch Byte c 0 1 ∷ []) values temps
    → ((first : Evaluated) → IsOfSize Long (temps 0) → IsBase b first (temps 1) (temps 2) → P (value (temps 0) ∷ first ∷ nothing ∷ [])) → P values
read_field_branch values temps P a b c left goes =
    after_read Long a 0 1 (specifier Field Byte b 1 2 ∷ specifier Branch Byte c 0 1 ∷ []) values temps P left (λ others left' fits.
    after_field Byte b 1 2 (specifier Branch Byte c 0 1 ∷ []) others temps (λ others. P (value (temps 0) ∷ others)) left' (λ others' left'' first base.
    after_branch Byte c 0 1 [] others' temps (λ others. P (value (temps 0) ∷ first ∷ others)) left'' (λ none left'''.
    after_all none temps (λ none. P (value (temps 0) ∷ first ∷ nothing ∷ none)) left''' (goes first fits base))))

-- ---- the test
test_goes : (state : Bool) (instr : Instr) (size : Size) (found : Found) (temps : Temps) (v : ℕ) → computed ops.ShiftRight size (temps 1) (temps 0) (temps 0) ≡ v
    → GoesTo (test_exit state instr 2) found (effect (bit_tested size) found temps) (pc_after instr 2 (v % 2 == bit state))
unfolding value_from
test_goes true instr size found temps v is = rw (is, and_mask (v % 256) 1, last_bit v) (set_test v (target (operand instr 2)) instr.after)
test_goes false instr size found temps v is = rw (is, and_mask (v % 256) 1, last_bit v) refl

-- ---- a bit of a register
pub outside_is : (n position : ℕ) → (nat_lt 31 position || (n == 14 && nat_lt 32 (position + 1))) ≡ nat_lt 31 position
outside_is n position = elim (cases_lt 31 position) [
  | inl above ↦ (let t : nat_lt 31 position ≡ true = lt-ltb 31 position above in rw t refl)
  | inr below ↦ (let t : nat_lt 31 position ≡ false = grind (arith, nat_tests) in
      let u : nat_lt 32 (position + 1) ≡ false = grind (arith, nat_tests) in
      rw (t, u) (never (n == 14)))
]
  where
    never : (b : Bool) → (b && false) ≡ false
    never true = refl
    never false = refl

pub inside : (position : ℕ) → nat_lt 31 position ≡ false → position < 32
inside position fine = let le = ltb-false 31 position fine in omega (arith, le)

told : (n k : ℕ) → n / 2 ^ k % 2 ≡ bit_and (n / 2 ^ k) 1
told n k = sym (and_mask (n / 2 ^ k) 1)

pub low_told : (whole k : ℕ) → k < 32 → whole % 2 ^ 32 / 2 ^ k % 2 ≡ whole / 2 ^ k % 2
low_told whole k lt =
    told (whole % 2 ^ 32) k ∙ shr_and_one (whole % 2 ^ 32) k
    ∙ sym (bit_at_cat_low (whole / 2 ^ 32) 32 (whole % 2 ^ 32) k lt)
    ∙ sym (shr_and_one (whole / 2 ^ 32 * 2 ^ 32 + whole % 2 ^ 32) k)
    ∙ ap (λ n. bit_and (n / 2 ^ k) 1) (div-add-mod' whole (2 ^ 32))
    ∙ sym (told whole k)

-- one bit, at its place in a longword
one_at : (k : ℕ) → k < 32 → (if nat_lt (k % 2 ^ 32) 32 then 1 * 2 ^ (k % 2 ^ 32) % 2 ^ 32 else 0) % 2 ^ 32 ≡ 2 ^ k
one_at k lt =
    let same : k % 2 ^ 32 ≡ k = omega (arith, lt) in
    let t : nat_lt k 32 ≡ true = lt-ltb k 32 lt in
    let small : 2 ^ k < 2 ^ 32 = pow-lt lt in
    rw (same, t) (ap (λ n. n % 2 ^ 32) (one_shl k 32 lt) ∙ mod-eq_of_lt small)

rest_of_all : (unit : ℕ) → unit < 2 ^ 32 → (2 ^ 64 - 1 - unit) % 2 ^ 32 ≡ 2 ^ 32 - 1 - unit
rest_of_all unit lt = omega (arith, lt)

pub set_register : (whole k : ℕ) → k < 32 → bit_or (whole % 2 ^ 32) (2 ^ k) ≡ with_bits whole k 1 1 % 2 ^ 32
set_register whole k lt =
    ap (λ n. bit_or (whole % 2 ^ 32) n) (sym (mod-eq_of_lt (pow-lt lt)))
    ∙ sym (or_mod whole (2 ^ k) 32)
    ∙ ap (λ n. n % 2 ^ 32) (bit_set whole k)

pub cleared_register : (whole k : ℕ) → k < 32 → whole < 2 ^ 64 → bit_and (whole % 2 ^ 32) (2 ^ 32 - 1 - 2 ^ k) ≡ with_bits whole k 1 0 % 2 ^ 32
cleared_register whole k lt fits =
    let room : 64 ≡ 63 - k + 1 + k = omega (arith, lt) in
    ap (λ n. bit_and (whole % 2 ^ 32) n) (sym (rest_of_all (2 ^ k) (pow-lt lt)))
    ∙ sym (and_mod whole (2 ^ 64 - 1 - 2 ^ k) 32)
    ∙ ap (λ n. n % 2 ^ 32) (bit_cleared whole k 64 (63 - k) room fits)

-- what is stored in a register
stored : (v : Bool) (whole k x held : ℕ) → k < 32 → whole < 2 ^ 64 → x ≡ whole % 2 ^ 32
    → value_from (storing v) Long (x % 2 ^ 32) ((if nat_lt (k % 2 ^ 32) 32 then 1 * 2 ^ (k % 2 ^ 32) % 2 ^ 32 else 0) % 2 ^ 32) held ≡ with_bits whole k 1 (bit v) % 2 ^ 32
unfolding value_from
stored true whole k x held lt fits is =
    let low : whole % 2 ^ 32 % 2 ^ 32 ≡ whole % 2 ^ 32 = omega arith in
    rw (one_at k lt, is, low) (set_register whole k lt)
stored false whole k x held lt fits is =
    let low : whole % 2 ^ 32 % 2 ^ 32 ≡ whole % 2 ^ 32 = omega arith in
    rw (one_at k lt, is, low) (cleared_register whole k lt fits)

told_long : (temps : Temps) (k x : ℕ) → temps 0 ≡ k → temps 1 ≡ x → k < 32 → x < 2 ^ 32 → computed ops.ShiftRight Long (temps 1) (temps 0) (temps 0) ≡ x / 2 ^ k
unfolding value_from
told_long temps k x zero one lt fits =
    let same : k % 2 ^ 32 ≡ k = omega (arith, lt) in
    let t : nat_lt k 32 ≡ true = lt-ltb k 32 lt in
    rw (zero, one, same, t, mod-eq_of_lt fits) refl

pub again : (x : ℕ) → x % 2 ^ 32 % 2 ^ 32 ≡ x % 2 ^ 32
again x = omega arith

module _ (s : Bool) (instr : Instr) (state : VaxState) (pages : Pages) (thread : ℕ) (temps : Temps) (ok : IsState state) (zero_fits : temps 0 < 2 ^ 32) where
  abbrev found : Found
  found = found_at state instr.after

  abbrev position : ℕ
  position = temps 0 % 2 ^ 32

  module _ (n registers : ℕ) (low : registers % 2 ^ 32 ≡ temps 1) where
    abbrev whole : ℕ
    whole = registers % 2 ^ 64

    abbrev pc : ℕ
    pc = pc_after instr 2 (bits_of whole (position % 32) 1 == bit s)

    abbrev bit_values : List Evaluated
    bit_values = value (temps 0) ∷ record { location = InRegister n; value = registers } ∷ nothing ∷ []

    one_is : temps 1 ≡ whole % 2 ^ 32
    one_is = sym low ∙ lower registers
      where
        lower : (x : ℕ) → x % 2 ^ 32 ≡ x % 2 ^ 64 % 2 ^ 32
        lower x = omega arith

    goes_by_register : (temps' : Temps) → temps' 0 ≡ temps 0 → temps' 1 ≡ temps 1 → position < 32
        → GoesTo (test_exit s instr 2) found (effect (bit_tested Long) found temps') pc
    goes_by_register temps' zero one fine =
        let k = position in
        let is : temps 0 ≡ k = sym (mod-eq_of_lt zero_fits) in
        let small : k % 32 ≡ k = omega (arith, fine) in
        subst (λ b. GoesTo (test_exit s instr 2) found (effect (bit_tested Long) found temps') (pc_after instr 2 (b == bit s))) (low_told whole k fine ∙ ap (λ n. whole / 2 ^ n % 2) (sym small))
        (test_goes s instr Long found temps' (whole % 2 ^ 32 / 2 ^ k)
        (told_long temps' k (whole % 2 ^ 32) (zero ∙ is) (one ∙ one_is) fine (mod_below whole (2 ^ 32) (lit< tt))))

    -- the register takes what is in 2
    abbrev close : List Micro
    close = Leave (test_exit s instr 2) ∷ []

    stores_in : (v : Bool) (steps : List ℕ) → length steps ≡ length state.r → (after : Temps) → after 0 ≡ temps 0 → after 1 ≡ temps 1 → after 2 ≡ with_bits whole (position % 32) 1 (bit v) % 2 ^ 32 → position < 32
        → DoesSo (from Kept Kept) state pages thread instr.after (bit_tested Long ++ (finish_program (operands.Register n) Long steps 2 ++ close)) (with state after)
        (go_end pages pc (with_register n (with_bits whole (position % 32) 1 (bit v) % 2 ^ 32) (stepped steps state)))
    unfolding put
    stores_in v steps same after zero one two fine =
        let w = with_bits whole (position % 32) 1 (bit v) in
        let last = effect (bit_tested Long) found after in
        rw (computes (bit_tested Long) (finish_program (operands.Register n) Long steps 2 ++ close) found (with state after) refl)
        (subst (λ (x : ℕ). DoesSo (from Kept Kept) state pages thread instr.after (finish_program (operands.Register n) Long steps 2 ++ close) (with state last) (go_end pages pc (with_register n x (stepped steps state)))) (again w)
        (replaces (from Kept Kept) state pages thread instr.after ok close (go_end pages pc) _ (closes_kept state pages thread instr.after (test_exit s instr 2) pc) [] refl (operands.Register n) Long steps (InRegister n) (w % 2 ^ 32) last same
        refl tt (two) (mod_below w (2 ^ 32) (lit< tt)) refl (record { low = test_low s instr 2; goes = goes_by_register after zero one fine })))

    abbrev refused_first : List Micro
    refused_first = Compute 4 ops.LessUnsigned Long (Const 31) (Temp 0) ∷ []

    two_is : (v : Bool) (held : ℕ) → position < 32
        → value_from (storing v) Long (temps 1 % 2 ^ 32) ((if nat_lt (temps 0 % 2 ^ 32) 32 then 1 * 2 ^ (temps 0 % 2 ^ 32) % 2 ^ 32 else 0) % 2 ^ 32) held ≡ with_bits whole (position % 32) 1 (bit v) % 2 ^ 32
    two_is v held fine =
        let is : temps 0 ≡ position = sym (mod-eq_of_lt zero_fits) in
        let small : temps 0 < 32 = omega (arith, is, fine) in
        let number : temps 0 ≡ position % 32 = omega (arith, is, fine) in
        stored v whole (temps 0) (temps 1) held small (mod_below registers (2 ^ 64) (lit< tt)) one_is ∙ ap (λ k. with_bits whole k 1 (bit v) % 2 ^ 32) number

    pub register_body : (store : BitStore) → (let plan = bit_plan_for None (operands.Register n) (record { state = s; store = store }) instr in length (steps_of plan.slots instr) ≡ length state.r
        → BodyDoes (operations.BranchOnBit (record { state = s; store = store })) instr plan state pages thread temps bit_values)
    unfolding body branch_on_bit bit_found leave_bit put sources_of value_from
    register_body Nothing same =
        let plan = bit_plan_for None (operands.Register n) (record { state = s; store = Nothing }) instr in
        let steps = steps_of plan.slots instr in
        let after = effect refused_first found temps in
        rw (outside_is n position) (refuses (from Kept Kept) state pages thread instr.after 4 (nat_lt 31 position) (bit_tested Long ++ (commit_program 0 steps ++ close)) after (go_end pages pc (stepped steps state)) refl (λ fine.
        nowhere (from Kept Kept) state pages thread instr.after ok close (go_end pages pc) _ (closes_kept state pages thread instr.after (test_exit s instr 2) pc) (bit_tested Long) refl steps after same
        (record { low = test_low s instr 2; goes = goes_by_register after refl refl (inside position fine) })))
    register_body (Plain v) same =
        let plan = bit_plan_for None (operands.Register n) (record { state = s; store = Plain v }) instr in
        let steps = steps_of plan.slots instr in
        let after = effect refused_first found temps in
        rw (outside_is n position) (refuses (from Kept Kept) state pages thread instr.after 4 (nat_lt 31 position) (with_bit_into 2 Long v ++ (bit_tested Long ++ (finish_program (operands.Register n) Long steps 2 ++ close))) after
        (go_end pages pc (with_register n (with_bits whole (position % 32) 1 (bit v) % 2 ^ 32) (stepped steps state))) refl (λ fine.
        let small = inside position fine in
        stores_in v steps same (effect (with_bit_into 2 Long v) found after) refl refl (two_is v (after 2) small) small))
    register_body (Interlocked v) same =
        let plan = bit_plan_for None (operands.Register n) (record { state = s; store = Interlocked v }) instr in
        let steps = steps_of plan.slots instr in
        let after = effect refused_first found temps in
        rw (outside_is n position) (refuses (from Kept Kept) state pages thread instr.after 4 (nat_lt 31 position) (with_bit_into 2 Long v ++ (bit_tested Long ++ (finish_program (operands.Register n) Long steps 2 ++ close))) after
        (go_end pages pc (with_register n (with_bits whole (position % 32) 1 (bit v) % 2 ^ 32) (stepped steps state))) refl (λ fine.
        let small = inside position fine in
        stores_in v steps same (effect (with_bit_into 2 Long v) found after) refl refl (two_is v (after 2) small) small))

-- ---- a bit in memory
module _ (P : Left → Type 0) (end : Left → Tree) (pages : Pages) (state : VaxState) where
  -- a byte is checked and read
  pub read_at : (write : Bool) (on : ℕ → Course Left) (rest : ℕ → VaxState → Tree) (place address : ℕ) → place ≡ address
      → ((byte : ℕ) → byte < 2 ^ 8 → Agrees P end (on byte) (rest byte state))
      → Agrees P end (Check place 1 write (read_parts (parts place 1) on)) (trees.Check address 1 write (tree_of pages (read address 1) state rest))
  read_at write on rest place address is goes =
      subst (λ (x : ℕ). Agrees P end (Check x 1 write (read_parts (parts x 1) on)) (trees.Check address 1 write (tree_of pages (read address 1) state rest))) (sym is)
      (refl, refl, refl, reads_agree P end pages address 1 state on rest (lit< tt) goes)

  -- and written
  pub write_at : (on : Course Left) (rest : Unit {0} → VaxState → Tree) (place address made value : ℕ) → place ≡ address → made ≡ value → Agrees P end on (rest tt state)
      → Agrees P end (write_parts (parts place 1) made on) (tree_of pages (write address 1 value) state rest)
  write_at on rest place address made value is holds goes =
      subst (λ (x : ℕ). Agrees P end (write_parts (parts x 1) made on) (tree_of pages (write address 1 value) state rest)) (sym is)
      (subst (λ (y : ℕ). Agrees P end (write_parts (parts address 1) y on) (tree_of pages (write address 1 value) state rest)) (sym holds)
      (writes_agree P end pages address 1 value state on rest (lit< tt) goes))

byte_one : (k : ℕ) → k < 8 → (if nat_lt (k % 256) 8 then 1 * 2 ^ (k % 256) % 256 else 0) % 256 ≡ 2 ^ k
byte_one k lt =
    let same : k % 256 ≡ k = omega (arith, lt) in
    let t : nat_lt k 8 ≡ true = lt-ltb k 8 lt in
    let small : 2 ^ k < 2 ^ 8 = pow-lt lt in
    rw (same, t) (ap (λ n. n % 256) (one_shl k 8 lt) ∙ mod-eq_of_lt small)

stored_byte : (v : Bool) (byte k zero held : ℕ) → zero ≡ k → byte < 2 ^ 8 → k < 8
    → value_from (storing v) Byte (byte % 256) ((if nat_lt (zero % 256) 8 then 1 * 2 ^ (zero % 256) % 256 else 0) % 256) held ≡ with_bits byte k 1 (bit v)
unfolding value_from
stored_byte true byte k zero held is fits lt = rw (is, byte_one k lt, mod-eq_of_lt fits) (bit_set byte k)
stored_byte false byte k zero held is fits lt =
    let room : 8 ≡ 7 - k + 1 + k = omega (arith, lt) in
    rw (is, byte_one k lt, mod-eq_of_lt fits) (bit_cleared byte k 8 (7 - k) room fits)

told_byte : (temps : Temps) (k byte : ℕ) → temps 0 ≡ k → temps 1 ≡ byte → k < 8 → byte < 2 ^ 8 → computed ops.ShiftRight Byte (temps 1) (temps 0) (temps 0) ≡ byte / 2 ^ k
unfolding value_from
told_byte temps k byte zero one lt fits =
    let same : k % 256 ≡ k = omega (arith, lt) in
    let t : nat_lt k 8 ≡ true = lt-ltb k 8 lt in
    rw (zero, one, same, t, mod-eq_of_lt fits) refl

-- one interlocked reference to a bit
abbrev pub setting : (address number : ℕ) → Reference
setting address number = record { address = address; count = 1; kind = references.SetBit number }

abbrev pub clearing : (address number : ℕ) → Reference
clearing address number = record { address = address; count = 1; kind = references.ClearBit number }

module _ (start : VaxState) (pages : Pages) (thread after : ℕ) (rest : List Micro) (k address : ℕ) (temps : Temps) (tree : ℕ → VaxState → Tree) (state : VaxState)
    (zero : temps 0 ≡ k) (two : temps 2 ≡ address) (lt : k < 8)
    (goes : (byte : ℕ) (temps' : Temps) → byte < 2 ^ 8 → temps' 0 ≡ k → temps' 1 ≡ byte → DoesSo (from Kept Kept) start pages thread after rest (with start temps') (tree byte state)) where
  abbrev at_leaves : Left → Type 0
  at_leaves = CodesComeFrom (from Kept Kept) start

  byte_does : (store : BitStore) → DoesSo (from Kept Kept) start pages thread after (byte_program store ++ rest) (with start temps) (tree_of pages (byte_found address k store) state tree)
  unfolding byte_found value_from
  byte_does Nothing =
      read_at at_leaves (leaving pages thread) pages state false (λ byte. course_of rest (found_at start after) (with start (with_temp 1 byte temps))) tree (temps 2) address two
      (λ byte fits. goes byte (with_temp 1 byte temps) fits zero refl)
  byte_does (Plain v) =
      let found = found_at start after in
      read_at at_leaves (leaving pages thread) pages state true (λ byte. course_of (with_bit_into 3 Byte v ++ Write 2 1 3 ∷ rest) found (with start (with_temp 1 byte temps)))
      (λ byte s. tree_of pages (write address 1 (with_bits byte k 1 (bit v))) s (λ done last. tree byte last)) (temps 2) address two
      (λ byte fits.
      let temps' = effect (with_bit_into 3 Byte v) found (with_temp 1 byte temps) in
      write_at at_leaves (leaving pages thread) pages state (course_of rest found (with start temps')) (λ done last. tree byte last) (temps 2) address (temps' 3) (with_bits byte k 1 (bit v)) two
      (stored_byte v byte k (temps 0) _ zero fits lt) (goes byte temps' fits zero refl))
  byte_does (Interlocked true) =
      (two, refl, refl, (ap (λ (a : ℕ). setting a (temps 0)) two ∙ ap (λ (n : ℕ). setting address n) zero, λ reply answers. goes (reply % 2 ^ 8) (with_temp 1 (reply % 2 ^ 8) temps) (mod_below reply (2 ^ 8) (lit< tt)) zero refl))
  byte_does (Interlocked false) =
      (two, refl, refl, (ap (λ (a : ℕ). clearing a (temps 0)) two ∙ ap (λ (n : ℕ). clearing address n) zero, λ reply answers. goes (reply % 2 ^ 8) (with_temp 1 (reply % 2 ^ 8) temps) (mod_below reply (2 ^ 8) (lit< tt)) zero refl))

low_three : (x : ℕ) → x % 256 % 8 ≡ x % 4294967296 % 8
low_three x = omega arith

module _ (s : Bool) (instr : Instr) (state : VaxState) (pages : Pages) (thread : ℕ) (temps : Temps) (ok : IsState state) (registers : ℕ) (base_fits : temps 2 < 2 ^ 32) where
  abbrev number : ℕ
  number = temps 0 % 2 ^ 32 % 8

  abbrev byte_at : ℕ
  byte_at = field_address (temps 2) (temps 0 % 2 ^ 32)

  abbrev memory_values : List Evaluated
  memory_values = value (temps 0) ∷ record { location = InMemory (temps 2); value = registers } ∷ nothing ∷ []

  -- the address of the byte, and the number of the bit
  abbrev byte_located : List Micro
  byte_located = Compute 4 ops.ShiftSigned Long (Temp 0) (Const 3) ∷ Compute 2 ops.Add Long (Temp 2) (Temp 4) ∷ Compute 0 ops.And Byte (Temp 0) (Const 7) ∷ []

  abbrev goes_on_at : (byte : ℕ) → ℕ
  goes_on_at byte = pc_after instr 2 (bits_of byte number 1 == bit s)

  byte_goes : (store : BitStore) (steps : List ℕ) → length steps ≡ length state.r
      → DoesSo (from Kept Kept) state pages thread instr.after (byte_program store ++ (bit_tested Byte ++ (commit_program 0 steps ++ Leave (test_exit s instr 2) ∷ []))) (with state (effect byte_located (found_at state instr.after) temps))
      (tree_of pages (byte_found byte_at number store) (stepped steps state) (λ byte last. go_end pages (goes_on_at byte) last))
  unfolding value_from
  byte_goes store steps same =
      let found = found_at state instr.after in
      let after = effect byte_located found temps in
      let zero : after 0 ≡ number = and_mask (temps 0 % 256) 3 ∙ low_three (temps 0) in
      let two : after 2 ≡ byte_at = ap (λ n. (n + low_bytes 4 (right_shift_of (temps 0 % 2 ^ 32) 3)) % 2 ^ 32) (mod-eq_of_lt base_fits) in
      let lt : number < 8 = mod_below (temps 0 % 2 ^ 32) 8 (lit< tt) in
      byte_does state pages thread instr.after (bit_tested Byte ++ (commit_program 0 steps ++ Leave (test_exit s instr 2) ∷ [])) number byte_at after (λ byte last. go_end pages (goes_on_at byte) last) (stepped steps state) zero two lt
      (λ byte temps' fits at_zero at_one.
      nowhere (from Kept Kept) state pages thread instr.after ok (Leave (test_exit s instr 2) ∷ []) (go_end pages (goes_on_at byte)) _ (closes_kept state pages thread instr.after (test_exit s instr 2) (goes_on_at byte))
      (bit_tested Byte) refl steps temps' same
      (record { low = test_low s instr 2; goes = test_goes s instr Byte found temps' (byte / 2 ^ number) (told_byte temps' number byte at_zero at_one lt fits) }))
      store

  pub memory_body : (base : Base) (index : Option ℕ) (store : BitStore)
      → (let plan = bit_plan_for None (operands.Place base index) (record { state = s; store = store }) instr in length (steps_of plan.slots instr) ≡ length state.r
      → BodyDoes (operations.BranchOnBit (record { state = s; store = store })) instr plan state pages thread temps memory_values)
  unfolding body branch_on_bit bit_found sources_of
  memory_body base index Nothing same = byte_goes Nothing _ same
  memory_body base index (Plain v) same = byte_goes (Plain v) _ same
  memory_body base index (Interlocked v) same = byte_goes (Interlocked v) _ same
