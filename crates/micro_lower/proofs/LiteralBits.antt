-- Branches on a bit do what their instructions do, where the position is a literal, too.
use Rattle.std.proofs.Common.{◌≡◌, ℕ, ◌+◌, ◌-◌, ◌*◌, ◌/◌, ◌%◌, ◌^◌, ◌<◌, ◌==◌, Bool, true, false, List, [], ◌∷◌, ◌++◌, length, Option, Some, None, refl, sym, ap, ◌∙◌, subst, arith, inl, inr, lit<, ltb-true}
use Rattle.std.specs.Prelude.{nat_lt, bit_and, bit_or, if◌then◌else◌}
use Rattle.std.proofs.Math.Nat.{mod-eq_of_lt}
use Rattle.std.proofs.Math.Pow.{pow-lt}
use Rattle.std.proofs.lemmas.Bool.{cases_lt}
use Rattle.std.proofs.lemmas.Bool.Decides.{nat_tests}
use Rattle.std.proofs.lemmas.Nat.{mod_below, pow_pos}
use Rattle.std.proofs.lemmas.Nat.Bits.{and_pow}
use Rattle.vax_form.specs.State.{IsState, with_register}
use Rattle.vax_form.specs.Tree.{tree_of}
use Rattle.vax_form.specs.declared.instr.Base.{Base}
use Rattle.vax_form.specs.declared.instr.Instr.{Instr}
use Rattle.vax_form.specs.declared.instr.Operand.{Operand}
use Rattle.vax_form.specs.declared.instr.Operand.TheVariants as operands
use Rattle.vax_form.specs.declared.instr.Size.TheVariants.{Byte, Long}
use Rattle.vax_form.specs.declared.operation.BitBranch.{BitBranch}
use Rattle.vax_form.specs.declared.operation.BitStore.{BitStore}
use Rattle.vax_form.specs.declared.operation.BitStore.TheVariants.{Nothing, Plain, Interlocked}
use Rattle.vax_form.specs.declared.operation.Operation.TheVariants as operations
use Rattle.vax_form.specs.declared.pages.Pages.{Pages}
use Rattle.vax_form.specs.declared.state.VaxState.{VaxState}
use Rattle.vax_form.specs.Tree.{Tree}
use Rattle.vax_meaning.specs.Branches.{target, pc_after}
use Rattle.vax_meaning.specs.Evaluation.{nothing, operand}
use Rattle.vax_meaning.specs.Fields.{with_bits, bits_of, field_address, leave_bit, byte_found, bit_found, branch_on_bit}
use Rattle.vax_meaning.specs.Instructions.{body}
use Rattle.vax_meaning.specs.Memory.{low_bytes, write}
use Rattle.vax_meaning.specs.Operands.{put}
use Rattle.vax_meaning.specs.declared.evaluation.Evaluated.{Evaluated}
use Rattle.vax_meaning.specs.declared.operands.Location.{Location}
use Rattle.vax_meaning.specs.declared.operands.Location.TheVariants.{InMemory, InRegister}
use Rattle.vt_words.specs.Shifts.{right_shift_of}
use Rattle.vt_words.specs.Values.{bit}
use Rattle.micro_ops.specs.Leaving.{CodesComeFrom}
use Rattle.micro_ops.specs.Meaning.{Left, Temps, Found, with_temp, course_of}
use Rattle.micro_ops.specs.Sources.{sources_of, from}
use Rattle.micro_ops.specs.Values.{value_from}
use Rattle.micro_ops.specs.declared.codes.CodeSource.TheVariants.{Kept}
use Rattle.micro_ops.specs.declared.program.Exit.{Exit}
use Rattle.micro_ops.specs.declared.program.Micro.{Micro}
use Rattle.micro_ops.specs.declared.program.Micro.TheVariants.{Write, Leave}
use Rattle.operand_programs.specs.Operands.{IsBase}
use Rattle.operand_programs.specs.Pieces.{leaving, IsKnownValue}
use Rattle.operand_programs.specs.Results.{finish_program}
use Rattle.operand_programs.specs.Specifiers.{stepped, commit_program}
use Rattle.micro_lower.specs.Plans.{steps_of}
use Rattle.micro_lower.specs.Rows.{read, field, displaced, storing, is_plain, literal_position, masked, with_mask_into, mask_program, byte_of, before_literal, test_exit, bit_plan_with, bit_plan_for, bit_branch_plan}
use Rattle.micro_lower.proofs.BitRows.{outside_is, low_told, set_register, cleared_register, again, read_at, write_at, setting, clearing, read_field_branch, register_body, memory_body}
use Rattle.micro_lower.proofs.BitValues.{bit_set, bit_cleared}
use Rattle.micro_lower.proofs.Coding.{GoesTo}
use Rattle.micro_lower.proofs.Endings.{found_at, with, DoesSo, IsReadyToGo, nowhere, replaces, closes_kept}
use Rattle.micro_lower.proofs.JumpRows.{go_end, set_test, test_low}
use Rattle.micro_lower.proofs.Planned.{AllDo, BodyDoes, value}
use Rattle.micro_lower.proofs.Ready.{effect}

-- ---- the test
nothing_of : (b k : ℕ) → b < 2 → (b * 2 ^ k == 0) ≡ (b == 0)
nothing_of b k small = elim (cases_lt b 1) [
  | inl below ↦ (let z : b ≡ 0 = omega (arith, below) in
      let none : 0 * 2 ^ k ≡ 0 = omega arith in
      rw (z, none) refl)
  | inr above ↦ (let o : b ≡ 1 = omega (arith, above, small) in
      let some = pow_pos k in
      let t : (1 * 2 ^ k == 0) ≡ false = grind (arith, nat_tests, some) in
      rw (o, t) refl)
]

-- what is left under a mask is 0 where the bit is
mask_tells : (x k : ℕ) → (bit_and x (2 ^ k) == 0) ≡ (x / 2 ^ k % 2 == 0)
mask_tells x k = ap (λ n. n == 0) (and_pow x k) ∙ nothing_of (x / 2 ^ k % 2) k (mod_below (x / 2 ^ k) 2 (lit< tt))

masked_goes : (s : Bool) (instr : Instr) (found : Found) (temps : Temps) (x k : ℕ) → temps 0 ≡ bit_and x (2 ^ k)
    → GoesTo (test_exit s instr 2) found temps (pc_after instr 2 (x / 2 ^ k % 2 == bit s))
masked_goes true instr found temps x k is = rw (is, mask_tells x k) (set_test (x / 2 ^ k) (target (operand instr 2)) instr.after)
masked_goes false instr found temps x k is = rw (is, mask_tells x k) refl

masked_ready : (s : Bool) (instr : Instr) (state : VaxState) (temps : Temps) (x k : ℕ) → temps 0 ≡ bit_and x (2 ^ k)
    → IsReadyToGo state instr.after (test_exit s instr 2) (pc_after instr 2 (x / 2 ^ k % 2 == bit s)) temps
masked_ready s instr state temps x k is = record { low = test_low s instr 2; goes = masked_goes s instr (found_at state instr.after) temps x k is }

-- ---- a bit of a register
module _ (s : Bool) (instr : Instr) (state : VaxState) (pages : Pages) (thread : ℕ) (temps : Temps) (ok : IsState state) (n registers : ℕ) (low : registers % 2 ^ 32 ≡ temps 1)
    (few : nat_lt 31 (temps 0 % 2 ^ 32) ≡ false) where
  abbrev position : ℕ
  position = temps 0 % 2 ^ 32

  abbrev number : ℕ
  number = position % 32

  abbrev whole : ℕ
  whole = registers % 2 ^ 64

  abbrev exit : Exit
  exit = test_exit s instr 2

  abbrev close : List Micro
  close = Leave exit ∷ []

  abbrev pc : ℕ
  pc = pc_after instr 2 (bits_of whole number 1 == bit s)

  one_is : temps 1 ≡ whole % 2 ^ 32
  one_is = sym low ∙ lower registers
    where
      lower : (x : ℕ) → x % 2 ^ 32 ≡ x % 2 ^ 64 % 2 ^ 32
      lower x = omega arith

  below : number < 32
  below = mod_below position 32 (lit< tt)

  unit_fits : 2 ^ number % 2 ^ 32 ≡ 2 ^ number
  unit_fits = mod-eq_of_lt (pow-lt below)

  tested : bit_and (temps 1 % 2 ^ 32) (2 ^ number % 2 ^ 32) ≡ bit_and (whole % 2 ^ 32) (2 ^ number)
  tested = ap (λ x. bit_and (x % 2 ^ 32) (2 ^ number % 2 ^ 32)) one_is ∙ ap (λ x. bit_and x (2 ^ number % 2 ^ 32)) (again whole) ∙ ap (λ x. bit_and (whole % 2 ^ 32) x) unit_fits

  here : (after : Temps) → after 0 ≡ bit_and (temps 1 % 2 ^ 32) (2 ^ number % 2 ^ 32) → IsReadyToGo state instr.after exit pc after
  here after is =
      subst (λ (b : ℕ). IsReadyToGo state instr.after exit (pc_after instr 2 (b == bit s)) after) (low_told whole number below)
      (masked_ready s instr state after (whole % 2 ^ 32) number (is ∙ tested))

  stored : (v : Bool) (held : ℕ) → value_from (storing v) Long (temps 1 % 2 ^ 32) (2 ^ number % 2 ^ 32) held ≡ with_bits whole number 1 (bit v) % 2 ^ 32
  unfolding value_from
  stored true held =
      ap (λ x. bit_or (temps 1 % 2 ^ 32) x) unit_fits ∙ ap (λ x. bit_or (x % 2 ^ 32) (2 ^ number)) one_is ∙ ap (λ x. bit_or x (2 ^ number)) (again whole) ∙ set_register whole number below
  stored false held =
      ap (λ x. bit_and (temps 1 % 2 ^ 32) (2 ^ 32 - 1 - x)) unit_fits ∙ ap (λ x. bit_and (x % 2 ^ 32) (2 ^ 32 - 1 - 2 ^ number)) one_is
      ∙ ap (λ x. bit_and x (2 ^ 32 - 1 - 2 ^ number)) (again whole) ∙ cleared_register whole number below (mod_below registers (2 ^ 64) (lit< tt))

  -- the register takes what is in 2
  takes : (v : Bool) (steps : List ℕ) → length steps ≡ length state.r → (after : Temps) → after 0 ≡ bit_and (temps 1 % 2 ^ 32) (2 ^ number % 2 ^ 32) → after 2 ≡ with_bits whole number 1 (bit v) % 2 ^ 32
      → DoesSo (from Kept Kept) state pages thread instr.after (finish_program (operands.Register n) Long steps 2 ++ close) (with state after)
      (go_end pages pc (with_register n (with_bits whole number 1 (bit v) % 2 ^ 32) (stepped steps state)))
  unfolding put
  takes v steps same after zero two =
      let w = with_bits whole number 1 (bit v) in
      subst (λ (x : ℕ). DoesSo (from Kept Kept) state pages thread instr.after (finish_program (operands.Register n) Long steps 2 ++ close) (with state after) (go_end pages pc (with_register n x (stepped steps state)))) (again w)
      (replaces (from Kept Kept) state pages thread instr.after ok close (go_end pages pc) _ (closes_kept state pages thread instr.after exit pc) [] refl (operands.Register n) Long steps (InRegister n) (w % 2 ^ 32) after same
      refl tt two (mod_below w (2 ^ 32) (lit< tt)) refl (here after zero))

  literal_register : (store : BitStore) → (let plan = bit_plan_with (before_literal (operands.Register n) (nat_lt position 8) position store) exit (operands.Register n) store instr in
      length (steps_of plan.slots instr) ≡ length state.r
      → BodyDoes (operations.BranchOnBit (record { state = s; store = store })) instr plan state pages thread temps (value (temps 0) ∷ record { location = InRegister n; value = registers } ∷ nothing ∷ []))
  unfolding body branch_on_bit bit_found leave_bit put sources_of value_from
  literal_register Nothing same =
      let found = found_at state instr.after in
      rw (outside_is n position, few)
      (nowhere (from Kept Kept) state pages thread instr.after ok close (go_end pages pc) _ (closes_kept state pages thread instr.after exit pc) (masked Long (2 ^ number) ∷ []) refl _ temps same
      (here (effect (masked Long (2 ^ number) ∷ []) found temps) refl))
  literal_register (Plain v) same =
      rw (outside_is n position, few)
      (takes v _ same (effect (with_mask_into 2 Long v (2 ^ number) ∷ masked Long (2 ^ number) ∷ []) (found_at state instr.after) temps) refl (stored v (temps 2)))
  literal_register (Interlocked v) same =
      rw (outside_is n position, few)
      (takes v _ same (effect (with_mask_into 2 Long v (2 ^ number) ∷ masked Long (2 ^ number) ∷ []) (found_at state instr.after) temps) refl (stored v (temps 2)))

-- ---- a bit in memory
unit_of_byte : (k : ℕ) → k < 8 → 2 ^ k % 256 ≡ 2 ^ k
unit_of_byte k lt = let small : 2 ^ k < 2 ^ 8 = pow-lt lt in mod-eq_of_lt small

stored_in_byte : (v : Bool) (byte k held : ℕ) → byte < 2 ^ 8 → k < 8 → value_from (storing v) Byte (byte % 256) (2 ^ k % 256) held ≡ with_bits byte k 1 (bit v)
unfolding value_from
stored_in_byte true byte k held fits lt = ap (λ x. bit_or (byte % 256) x) (unit_of_byte k lt) ∙ ap (λ x. bit_or x (2 ^ k)) (mod-eq_of_lt fits) ∙ bit_set byte k
stored_in_byte false byte k held fits lt =
    let room : 8 ≡ 7 - k + 1 + k = omega (arith, lt) in
    ap (λ x. bit_and (byte % 256) (256 - 1 - x)) (unit_of_byte k lt) ∙ ap (λ x. bit_and x (256 - 1 - 2 ^ k)) (mod-eq_of_lt fits) ∙ bit_cleared byte k 8 (7 - k) room fits

module _ (start : VaxState) (pages : Pages) (thread after : ℕ) (rest : List Micro) (k address : ℕ) (temps : Temps) (tree : ℕ → VaxState → Tree) (state : VaxState)
    (zero : temps 0 ≡ k) (two : temps 2 ≡ address) (lt : k < 8)
    (goes : (byte : ℕ) (temps' : Temps) → byte < 2 ^ 8 → temps' 1 ≡ byte → DoesSo (from Kept Kept) start pages thread after rest (with start temps') (tree byte state)) where
  abbrev at_leaves : Left → Type 0
  at_leaves = CodesComeFrom (from Kept Kept) start

  mask_does : (store : BitStore) → DoesSo (from Kept Kept) start pages thread after (mask_program store (2 ^ k) ++ rest) (with start temps) (tree_of pages (byte_found address k store) state tree)
  unfolding byte_found value_from
  mask_does Nothing =
      read_at at_leaves (leaving pages thread) pages state false (λ byte. course_of rest (found_at start after) (with start (with_temp 1 byte temps))) tree (temps 2) address two
      (λ byte fits. goes byte (with_temp 1 byte temps) fits refl)
  mask_does (Plain v) =
      let found = found_at start after in
      read_at at_leaves (leaving pages thread) pages state true (λ byte. course_of (with_mask_into 3 Byte v (2 ^ k) ∷ Write 2 1 3 ∷ rest) found (with start (with_temp 1 byte temps)))
      (λ byte s. tree_of pages (write address 1 (with_bits byte k 1 (bit v))) s (λ done last. tree byte last)) (temps 2) address two
      (λ byte fits.
      let temps' = effect (with_mask_into 3 Byte v (2 ^ k) ∷ []) found (with_temp 1 byte temps) in
      write_at at_leaves (leaving pages thread) pages state (course_of rest found (with start temps')) (λ done last. tree byte last) (temps 2) address (temps' 3) (with_bits byte k 1 (bit v)) two
      (stored_in_byte v byte k _ fits lt) (goes byte temps' fits refl))
  mask_does (Interlocked true) =
      (two, refl, refl, (ap (λ (a : ℕ). setting a (temps 0)) two ∙ ap (λ (n : ℕ). setting address n) zero, λ reply answers. goes (reply % 2 ^ 8) (with_temp 1 (reply % 2 ^ 8) temps) (mod_below reply (2 ^ 8) (lit< tt)) refl))
  mask_does (Interlocked false) =
      (two, refl, refl, (ap (λ (a : ℕ). clearing a (temps 0)) two ∙ ap (λ (n : ℕ). clearing address n) zero, λ reply answers. goes (reply % 2 ^ 8) (with_temp 1 (reply % 2 ^ 8) temps) (mod_below reply (2 ^ 8) (lit< tt)) refl))

-- whole bytes of a position that is not negative
offset_is : (position : ℕ) → nat_lt position 2147483648 ≡ true → low_bytes 4 (right_shift_of position 3) ≡ position / 8
offset_is position few = let lt = ltb-true position 2147483648 few in rw few (omega (arith, lt))

place_is : (base position : ℕ) → nat_lt position 2147483648 ≡ true → (base % 4294967296 + position / 8 % 4294967296) % 4294967296 ≡ field_address base position
place_is base position few = rw (offset_is position few) (sums base (position / 8))
  where
    sums : (x y : ℕ) → (x % 4294967296 + y % 4294967296) % 4294967296 ≡ (x + y) % 4294967296
    sums x y = omega arith

first_is : (base position : ℕ) → base < 4294967296 → nat_lt position 2147483648 ≡ true → position < 8 → base ≡ field_address base position
first_is base position fits few first =
    let none : position / 8 ≡ 0 = omega (arith, first) in
    rw (offset_is position few, none) (omega (arith, fits))

module _ (s : Bool) (instr : Instr) (state : VaxState) (pages : Pages) (thread : ℕ) (temps : Temps) (ok : IsState state) (registers : ℕ) (zero_fits : temps 0 < 2 ^ 32) (base_fits : temps 2 < 2 ^ 32)
    (few : nat_lt (temps 0 % 2 ^ 32) 2147483648 ≡ true) where
  abbrev place_position : ℕ
  place_position = temps 0 % 2 ^ 32

  abbrev bit_number : ℕ
  bit_number = place_position % 8

  abbrev byte_at : ℕ
  byte_at = field_address (temps 2) place_position

  abbrev byte_exit : Exit
  byte_exit = test_exit s instr 2

  abbrev byte_close : List Micro
  byte_close = Leave byte_exit ∷ []

  abbrev goes_on_at : (byte : ℕ) → ℕ
  goes_on_at byte = pc_after instr 2 (bits_of byte bit_number 1 == bit s)

  bit_does : (store : BitStore) (steps : List ℕ) → length steps ≡ length state.r → (after : Temps) → after 0 ≡ bit_number → after 2 ≡ byte_at
      → DoesSo (from Kept Kept) state pages thread instr.after (mask_program store (2 ^ bit_number) ++ (masked Byte (2 ^ bit_number) ∷ (commit_program 0 steps ++ byte_close))) (with state after)
      (tree_of pages (byte_found byte_at bit_number store) (stepped steps state) (λ byte last. go_end pages (goes_on_at byte) last))
  unfolding value_from
  bit_does store steps same after zero two =
      let lt : bit_number < 8 = mod_below place_position 8 (lit< tt) in
      mask_does state pages thread instr.after (masked Byte (2 ^ bit_number) ∷ (commit_program 0 steps ++ byte_close)) bit_number byte_at after (λ byte last. go_end pages (goes_on_at byte) last) (stepped steps state) zero two lt
      (λ byte temps' fits at_one.
      nowhere (from Kept Kept) state pages thread instr.after ok byte_close (go_end pages (goes_on_at byte)) _ (closes_kept state pages thread instr.after byte_exit (goes_on_at byte)) (masked Byte (2 ^ bit_number) ∷ []) refl steps temps' same
      (masked_ready s instr state (effect (masked Byte (2 ^ bit_number) ∷ []) (found_at state instr.after) temps') byte bit_number
      (ap (λ x. bit_and (x % 256) (2 ^ bit_number % 256)) at_one ∙ ap (λ x. bit_and x (2 ^ bit_number % 256)) (mod-eq_of_lt fits) ∙ ap (λ x. bit_and byte x) (unit_of_byte bit_number lt))))
      store

  zero_is : nat_lt place_position 8 ≡ true → temps 0 ≡ bit_number
  zero_is is =
      let lt = ltb-true place_position 8 is in
      let itself : place_position ≡ temps 0 = mod-eq_of_lt zero_fits in
      sym itself ∙ sym (mod-eq_of_lt lt)

  number_is : (p : ℕ) → p % 8 % 256 ≡ p % 8
  number_is p = omega arith

  two_is : nat_lt place_position 8 ≡ true → temps 2 ≡ byte_at
  two_is is = first_is (temps 2) place_position base_fits few (ltb-true place_position 8 is)

  literal_memory : (base : Base) (index : Option ℕ) (store : BitStore) (first : Bool) → nat_lt place_position 8 ≡ first
      → (let plan = bit_plan_with (before_literal (operands.Place base index) first place_position store) byte_exit (operands.Place base index) store instr in
      length (steps_of plan.slots instr) ≡ length state.r
      → BodyDoes (operations.BranchOnBit (record { state = s; store = store })) instr plan state pages thread temps (value (temps 0) ∷ record { location = InMemory (temps 2); value = registers } ∷ nothing ∷ []))
  unfolding body branch_on_bit bit_found sources_of value_from
  literal_memory base index Nothing true is same = bit_does Nothing _ same temps (zero_is is) (two_is is)
  literal_memory base index (Plain v) true is same = bit_does (Plain v) _ same temps (zero_is is) (two_is is)
  literal_memory base index (Interlocked v) true is same = bit_does (Interlocked v) _ same temps (zero_is is) (two_is is)
  literal_memory base index Nothing false is same = bit_does Nothing _ same (effect (byte_of false place_position) (found_at state instr.after) temps) (number_is place_position) (place_is (temps 2) place_position few)
  literal_memory base index (Plain v) false is same = bit_does (Plain v) _ same (effect (byte_of false place_position) (found_at state instr.after) temps) (number_is place_position) (place_is (temps 2) place_position few)
  literal_memory base index (Interlocked v) false is same = bit_does (Interlocked v) _ same (effect (byte_of false place_position) (found_at state instr.after) temps) (number_is place_position) (place_is (temps 2) place_position few)

-- ---- all
turned : (p : ℕ) → nat_lt p 32 ≡ true → nat_lt 31 p ≡ false
turned p is = grind (arith, nat_tests, is)

module _ (s : Bool) (store : BitStore) (instr : Instr) (state : VaxState) (pages : Pages) (thread : ℕ) (temps : Temps) (ok : IsState state) (zero_fits : temps 0 < 2 ^ 32) (first : Evaluated)
    (same : length (steps_of (read Long 0 1 ∷ field Byte ∷ displaced Byte ∷ []) instr) ≡ length state.r) where
  abbrev branch_here : BitBranch
  branch_here = record { state = s; store = store }

  abbrev DoesAt : Option ℕ → Operand → Location → Type 0
  DoesAt position base location =
      BodyDoes (operations.BranchOnBit branch_here) instr (bit_plan_for position base branch_here instr) state pages thread temps (value (temps 0) ∷ record { location = location; value = first.value } ∷ nothing ∷ [])

  computed_at : (base : Operand) → IsBase base first (temps 1) (temps 2) → DoesAt None base first.location
  computed_at (operands.Register n) is = subst (DoesAt None (operands.Register n)) (sym is.0) (register_body s instr state pages thread temps ok zero_fits n first.value is.1 store same)
  computed_at (operands.Place base index) is = subst (DoesAt None (operands.Place base index)) (sym is.0) (memory_body s instr state pages thread temps ok first.value is.1 base index store same)
  computed_at operands.Unused is = absurd is
  computed_at (operands.Value literal) is = absurd is
  computed_at (operands.Target address) is = absurd is

  literal_at : (base : Operand) → is_plain base (temps 0 % 2 ^ 32) ≡ true → IsBase base first (temps 1) (temps 2) → DoesAt (Some (temps 0 % 2 ^ 32)) base first.location
  literal_at (operands.Register n) few is =
      subst (DoesAt (Some (temps 0 % 2 ^ 32)) (operands.Register n)) (sym is.0) (literal_register s instr state pages thread temps ok n first.value is.1 (turned _ few) store same)
  literal_at (operands.Place base index) few is =
      subst (DoesAt (Some (temps 0 % 2 ^ 32)) (operands.Place base index)) (sym is.0)
      (literal_memory s instr state pages thread temps ok first.value zero_fits is.1 few base index store (nat_lt (temps 0 % 2 ^ 32) 8) refl same)
  literal_at operands.Unused few is = absurd is
  literal_at (operands.Value literal) few is = absurd is
  literal_at (operands.Target address) few is = absurd is

  bit_body : (counted base : Operand) → IsKnownValue counted Long (temps 0) → IsBase base first (temps 1) (temps 2) → DoesAt (literal_position counted base) base first.location
  bit_body operands.Unused base known is = computed_at base is
  bit_body (operands.Register n) base known is = computed_at base is
  bit_body (operands.Place at index) base known is = computed_at base is
  bit_body (operands.Target address) base known is = computed_at base is
  bit_body (operands.Value literal) base known is = chosen (is_plain base (literal % 2 ^ 32)) refl
    where
      itself : temps 0 % 2 ^ 32 ≡ literal % 2 ^ 32
      itself = ap (λ x. x % 2 ^ 32) known ∙ again literal

      chosen : (plain : Bool) → is_plain base (literal % 2 ^ 32) ≡ plain → DoesAt (if plain then Some (literal % 2 ^ 32) else None) base first.location
      chosen true few = subst (λ (p : ℕ). DoesAt (Some p) base first.location) itself (literal_at base (ap (is_plain base) itself ∙ few) is)
      chosen false few = computed_at base is

pub bit_branch_all : (branch : BitBranch) (instr : Instr) → AllDo (operations.BranchOnBit branch) instr (bit_branch_plan branch instr)
bit_branch_all branch instr state pages thread temps values ok same left =
    read_field_branch values temps (BodyDoes (operations.BranchOnBit branch) instr (bit_branch_plan branch instr) state pages thread temps) (operand instr 0) (operand instr 1) (operand instr 2) left
    (λ first fits base. bit_body branch.state branch.store instr state pages thread temps ok fits first same (operand instr 0) (operand instr 1) left.3.2 base)
