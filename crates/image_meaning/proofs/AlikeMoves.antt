-- Moves, tests and arithmetic use the condition codes that they are said to.
use Rattle.std.proofs.Common.{◌≡◌, ℕ, ◌+◌, ◌-◌, ◌/◌, ◌%◌, ◌^◌, ◌<◌, Bool, true, false, List, refl, sym, ap, subst, arith}
use Rattle.std.specs.Prelude.{◌==◌, nat_lt, int_lt, bit_or, bit_and, if◌then◌else◌}
use Rattle.std.proofs.lemmas.Bool.Decides.{nat_tests}
use Rattle.vt_words.specs.Values.{signed_value}
use Rattle.vt_words.specs.Arithmetic.{sum_of, difference_of, extended_product_of}
use Rattle.vt_words.specs.declared.arithmetic.Coded.{Coded}
use Rattle.vax_form.specs.Size.{bytes_of, size_of}
use Rattle.vax_form.specs.Script.{Script, bind, change, get}
use Rattle.vax_form.specs.declared.instr.Instr.{Instr}
use Rattle.vax_form.specs.declared.instr.Size.{Size}
use Rattle.vax_form.specs.declared.instr.Size.TheVariants as sizes
use Rattle.vax_form.specs.declared.instr.Width.{Width}
use Rattle.vax_form.specs.declared.operation.BinaryOperation.{BinaryOperation}
use Rattle.vax_form.specs.declared.operation.BinaryOperation.TheVariants.{Add, Subtract, Multiply, Divide, BitSet, BitClear, ExclusiveOr}
use Rattle.vax_form.specs.declared.pages.Pages.{Pages}
use Rattle.vax_form.specs.declared.script.End.{End}
use Rattle.vax_form.specs.declared.state.Flags.{Flags}
use Rattle.vax_form.specs.declared.state.RefKind.TheVariants as references
use Rattle.vax_form.specs.declared.state.VaxState.{VaxState}
use Rattle.vax_meaning.specs.declared.evaluation.Evaluated.{Evaluated}
use Rattle.vax_meaning.specs.declared.operands.Location.{Location}
use Rattle.vax_meaning.specs.declared.operands.Location.TheVariants.{InRegister, InMemory}
use Rattle.vax_meaning.specs.Memory.{low_bytes}
use Rattle.vax_meaning.specs.Evaluation.{value_of_place, location_of_place}
use Rattle.vax_meaning.specs.Operands.{put, store}
use Rattle.vax_meaning.specs.Codes.{with_codes, with_all, sign_of, carry_of}
use Rattle.vax_meaning.specs.Moves.{give, move_zero_extended, push, push_value, compare, test_value, bit_test, move_psl, change_psw}
use Rattle.vax_meaning.specs.Arithmetic.{replace, give_coded, binary_of, finish_binary, two_operands, three_operands, add_with_carry, subtract_with_carry, add_aligned, leave_aligned, add_aligned_word, extended_multiply}
use Rattle.vax_form.specs.Codes.{Code, holds, none, all, all_but_carry}
use Rattle.vax_form.specs.Codes as code
use Rattle.cc_liveness.specs.Uses.{written_by_binary}
use Rattle.block_law.specs.CodeWords.{codes_in}
use Rattle.image_meaning.proofs.Alike.{Case, Stand, Follow, Equal, Uses, follow_bind, follow_get, follow_change, use_pure, use_bind, use_then, use_either, use_check, use_fail, use_get}
use Rattle.image_meaning.proofs.AlikeStates.{use_get_register, use_set_register, same_register, use_pc, use_go_to, use_finish, same_carry, use_all, none_out, use_three, stand_three, carry_first, carry_second}
use Rattle.image_meaning.proofs.AlikeOperands.{use_write, use_lock, use_put, use_store}

-- an instruction that writes no code leaves what is common
pub use_none : {A : Type 0} {pages : Pages} {c : Case} {k : Flags} {g : Bool} {k' : Flags} {g' : Bool} {m : Script A} → c.used.writes ≡ none → Uses pages c k g k' g' m → Uses pages c k g c.used.writes g' m
use_none {c = c} {k' = k'} {g' = g'} e first = record {
  follow = λ s t rest rest' stand on. first.follow s t rest rest' stand (λ x y s' t' same still. on x y s' t' same (less s' t' still));
}
  where
    out : (s t : VaxState) (which : Code) → holds which c.used.writes ≡ true → holds which (codes_in s.psw) ≡ holds which (codes_in t.psw)
    out s t code.negative h = absurd (cc (ap (holds code.negative) e, h))
    out s t code.zero_code h = absurd (cc (ap (holds code.zero_code) e, h))
    out s t code.overflow h = absurd (cc (ap (holds code.overflow) e, h))
    out s t code.carry h = absurd (cc (ap (holds code.carry) e, h))

    less : (s t : VaxState) → Stand c k' g' s t → Stand c c.used.writes g' s t
    less s t stand = record { same = stand.same; common = out s t; first = stand.first; second = stand.second; on = stand.on }

module _ (pages : Pages) (c : Case) (k : Flags) (instr : Instr) (values : List Evaluated) (here : instr.after ≡ c.after) where
  pub use_give : (place : ℕ) (size : Size) (value : ℕ) → c.used.writes ≡ all_but_carry → Uses pages c k false c.used.writes true (give instr place size value values)
  unfolding give
  use_give place size value e =
      use_then (use_store (location_of_place values place) size value) (use_then (use_three (sign_of size value) (value == 0) false e) (use_go_to instr.after (λ _. here)))

  pub use_move_zero_extended : (from to : Width) → c.used.writes ≡ all_but_carry → Uses pages c k false c.used.writes true (move_zero_extended instr from to values)
  unfolding move_zero_extended
  use_move_zero_extended from to e =
      let value = value_of_place values 0 (size_of from) in
      use_then (use_store (location_of_place values 1) (size_of to) value) (use_then (use_three false (value == 0) false e) (use_go_to instr.after (λ _. here)))

  pub use_push : {g : Bool} (value : ℕ) → Uses pages c k g k g (push value)
  unfolding push
  use_push value =
      use_bind (use_get_register 14) (λ stack.
      let top = (stack + (2 ^ 32 - 4)) % 2 ^ 32 in
      use_then use_check (use_then (use_write top 4 value) (use_set_register 14 top)))

  pub use_push_value : c.used.writes ≡ all_but_carry → Uses pages c k false c.used.writes true (push_value instr values)
  unfolding push_value
  use_push_value e =
      let value = value_of_place values 0 sizes.Long in
      use_then (use_push value) (use_then (use_three (sign_of sizes.Long value) (value == 0) false e) (use_go_to instr.after (λ _. here)))

  pub use_compare : (width : Width) → c.used.writes ≡ all → Uses pages c k false c.used.writes true (compare instr width values)
  unfolding compare
  use_compare width e =
      let a = value_of_place values 0 (size_of width) in
      let b = value_of_place values 1 (size_of width) in
      use_then (use_all (int_lt (signed_value (bytes_of (size_of width)) a) (signed_value (bytes_of (size_of width)) b)) (a == b) false (nat_lt a b) e) (use_go_to instr.after (λ _. here))

  pub use_test_value : (width : Width) → c.used.writes ≡ all → Uses pages c k false c.used.writes true (test_value instr width values)
  unfolding test_value
  use_test_value width e =
      let value = value_of_place values 0 (size_of width) in
      use_then (use_all (sign_of (size_of width) value) (value == 0) false false e) (use_go_to instr.after (λ _. here))

  pub use_bit_test : (width : Width) → c.used.writes ≡ all_but_carry → Uses pages c k false c.used.writes true (bit_test instr width values)
  unfolding bit_test
  use_bit_test width e =
      let value = bit_and (value_of_place values 0 (size_of width)) (value_of_place values 1 (size_of width)) in
      use_then (use_three (sign_of (size_of width) value) (value == 0) false e) (use_go_to instr.after (λ _. here))

  -- ---- the whole status word
  bits_same : (x y : ℕ) → x < 2 → y < 2 → (x == 1) ≡ (y == 1) → x ≡ y
  bits_same x y lt lt' e = grind (arith, nat_tests)

  bit_less : (n : ℕ) → n % 2 < 2
  bit_less n = omega arith

  pub same_psw : {g : Bool} (s t : VaxState) → k ≡ all → Stand c k g s t → s.psw ≡ t.psw
  same_psw s t e stand =
      let upper = stand.same.upper in
      let n = bits_same (s.psw / 8 % 2) (t.psw / 8 % 2) (bit_less (s.psw / 8)) (bit_less (t.psw / 8)) (stand.common code.negative (ap (holds code.negative) e)) in
      let z = bits_same (s.psw / 4 % 2) (t.psw / 4 % 2) (bit_less (s.psw / 4)) (bit_less (t.psw / 4)) (stand.common code.zero_code (ap (holds code.zero_code) e)) in
      let v = bits_same (s.psw / 2 % 2) (t.psw / 2 % 2) (bit_less (s.psw / 2)) (bit_less (t.psw / 2)) (stand.common code.overflow (ap (holds code.overflow) e)) in
      let d = bits_same (s.psw / 1 % 2) (t.psw / 1 % 2) (bit_less (s.psw / 1)) (bit_less (t.psw / 1)) (stand.common code.carry (ap (holds code.carry) e)) in
      joined s.psw t.psw upper n z v d
    where
      joined : (x y : ℕ) → x / 16 ≡ y / 16 → x / 8 % 2 ≡ y / 8 % 2 → x / 4 % 2 ≡ y / 4 % 2 → x / 2 % 2 ≡ y / 2 % 2 → x / 1 % 2 ≡ y / 1 % 2 → x ≡ y
      joined x y u n z v d = omega arith

  pub use_move_psl : k ≡ all → c.used.writes ≡ none → Uses pages c k false c.used.writes true (move_psl instr values)
  unfolding move_psl
  use_move_psl e e' = use_none e' (
      use_bind (use_get (λ s t stand. ap (λ psw. 0x03C00000 + psw) (same_psw s t e stand))) (λ psl. use_then (use_store (location_of_place values 0) sizes.Long psl) (use_go_to instr.after (λ _. here))))

  abbrev changed_psw : (set : Bool) → (mask psw : ℕ) → ℕ
  changed_psw set mask psw = if set then bit_or psw mask else bit_and psw (65535 - mask)

  pub use_change_psw : (set : Bool) → k ≡ all → c.used.writes ≡ all → Uses pages c k false c.used.writes true (change_psw instr set values)
  unfolding change_psw
  use_change_psw set e e' =
      let mask = value_of_place values 0 sizes.Word in
      use_either use_fail (use_then (follow_change (λ s t stand.
      let same = ap (changed_psw set mask) (same_psw s t e stand) in
      record {
        same = record { registers = stand.same.registers; pc = stand.same.pc; upper = ap (λ psw. psw / 16) same; handler = stand.same.handler; pending = stand.same.pending };
        common = λ which _. ap (λ psw. holds which (codes_in psw)) same;
        first = λ which h. none_out c.used.writes which e' h;
        second = λ which h. none_out c.used.writes which e' h;
        on = stand.on;
      }))
      (use_go_to instr.after (λ _. here)))

  -- ---- arithmetic
  pub use_replace : (place : ℕ) (size : Size) (answer : Coded) → c.used.writes ≡ all → Uses pages c k false c.used.writes true (replace instr place size answer values)
  unfolding replace
  use_replace place size answer e =
      use_then (use_put (location_of_place values place) size answer.value)
      (use_then (use_all answer.n answer.z answer.v answer.c e) (use_finish instr.after (ap (holds code.overflow) e) (λ _. here)))

  pub use_give_coded : (place : ℕ) (size : Size) (answer : Coded) → c.used.writes ≡ all → Uses pages c k false c.used.writes true (give_coded instr place size answer values)
  unfolding give_coded
  use_give_coded place size answer e =
      use_then (use_store (location_of_place values place) size answer.value)
      (use_then (use_all answer.n answer.z answer.v answer.c e) (use_finish instr.after (ap (holds code.overflow) e) (λ _. here)))

  use_finish_binary : (l : Flags) (operation : BinaryOperation) (first : ℕ) → holds code.overflow l ≡ true → Uses pages c l false l true (finish_binary operation first instr.after)
  unfolding finish_binary
  use_finish_binary l operation first e = use_either (use_then (use_pc instr.after (λ _. here)) use_pure) (use_finish instr.after e (λ _. here))

  -- C that was read, of the states that the instruction starts from
  abbrev IsCarry : Bool → Bool → Type 0
  IsCarry x y = (x ≡ holds code.carry (codes_in c.one.psw)) × (y ≡ holds code.carry (codes_in c.other.psw))

  -- behind what puts the answer: its codes, of which C is that which was read
  logical_rest : (n z v x y : Bool) (operation : BinaryOperation) (first : ℕ) (m : Script (Unit {0})) → c.used.writes ≡ all_but_carry → IsCarry x y → Uses pages c k false k false m
      → Follow pages c k false c.used.writes true Equal (bind m (λ _. bind (change (with_codes n z v x)) (λ _. finish_binary operation first instr.after)))
      (bind m (λ _. bind (change (with_codes n z v y)) (λ _. finish_binary operation first instr.after)))
  logical_rest n z v x y operation first m e is put =
      follow_bind put (λ _ _ _. follow_bind (follow_change (λ s t. stand_three n z v x y s t e is.0 is.1)) (λ _ _ _. use_finish_binary c.used.writes operation first (ap (holds code.overflow) e)))

  whole_rest : (answer : Coded) (operation : BinaryOperation) (first : ℕ) (m : Script (Unit {0})) → c.used.writes ≡ all → Uses pages c k false k false m
      → Uses pages c k false c.used.writes true (bind m (λ _. bind (change (with_all answer)) (λ _. finish_binary operation first instr.after)))
  whole_rest answer operation first m e put =
      use_then put (use_then (use_all answer.n answer.z answer.v answer.c e) (use_finish_binary c.used.writes operation first (ap (holds code.overflow) e)))

  read_carry : c.used.writes ≡ all_but_carry → (s t : VaxState) → Stand c k false s t → IsCarry (carry_of s) (carry_of t)
  read_carry e s t stand = (carry_first s t e stand, carry_second s t e stand)

  abbrev first_of : Width → ℕ
  first_of width = value_of_place values 0 (size_of width)

  abbrev answer_of : BinaryOperation → Width → (carry : Bool) → Coded
  answer_of operation width carry = binary_of operation (bytes_of (size_of width)) (first_of width) (value_of_place values 1 (size_of width)) carry

  -- what comes behind the operands, where the answer is put by some script
  abbrev coded_rest : BinaryOperation → Width → (put : ℕ → Script (Unit {0})) → Coded → Script End
  coded_rest operation width put answer = bind (put answer.value) (λ _. bind (change (with_all answer)) (λ _. finish_binary operation (first_of width) instr.after))

  abbrev rest_of : BinaryOperation → Width → (put : ℕ → Script (Unit {0})) → (carry : Bool) → Script End
  rest_of operation width put carry = coded_rest operation width put (answer_of operation width carry)

  abbrev Puts : (ℕ → Script (Unit {0})) → Type 0
  Puts put = (value : ℕ) → Uses pages c k false k false (put value)

  abbrev FollowsRest : BinaryOperation → Width → (put : ℕ → Script (Unit {0})) → Type 0
  FollowsRest operation width put = Follow pages c k false c.used.writes true Equal (bind (get carry_of) (rest_of operation width put)) (bind (get carry_of) (rest_of operation width put))

  whole_uses : (operation : BinaryOperation) (width : Width) (put : ℕ → Script (Unit {0})) → Puts put → c.used.writes ≡ all
      → ((x : Bool) → answer_of operation width x ≡ answer_of operation width false) → FollowsRest operation width put
  whole_uses operation width put puts e same =
      follow_bind {P = λ x y. Unit {0}} (follow_get (λ s t stand. tt)) (λ x y _.
      let answer = answer_of operation width false in
      subst (λ a. Follow pages c k false c.used.writes true Equal (coded_rest operation width put a) (coded_rest operation width put (answer_of operation width y))) (sym (same x))
      (subst (λ a. Follow pages c k false c.used.writes true Equal (coded_rest operation width put answer) (coded_rest operation width put a)) (sym (same y))
      (whole_rest answer operation (first_of width) (put answer.value) e (puts answer.value))))

  logical_uses : (operation : BinaryOperation) (width : Width) (put : ℕ → Script (Unit {0})) → Puts put → c.used.writes ≡ all_but_carry
      → ((x : Bool) → answer_of operation width x ≡ record (answer_of operation width false) { c = x }) → FollowsRest operation width put
  logical_uses operation width put puts e same =
      follow_bind {P = IsCarry} (follow_get (read_carry e)) (λ x y is.
      let answer = answer_of operation width false in
      subst (λ a. Follow pages c k false c.used.writes true Equal (coded_rest operation width put a) (coded_rest operation width put (answer_of operation width y))) (sym (same x))
      (subst (λ a. Follow pages c k false c.used.writes true Equal (coded_rest operation width put (record answer { c = x })) (coded_rest operation width put a)) (sym (same y))
      (logical_rest answer.n answer.z answer.v x y operation (first_of width) (put answer.value) e is (puts answer.value))))

  binary_uses : (operation : BinaryOperation) (width : Width) (put : ℕ → Script (Unit {0})) → Puts put → c.used.writes ≡ written_by_binary operation → FollowsRest operation width put
  unfolding binary_of written_by_binary
  binary_uses Add width put puts e = whole_uses Add width put puts e (λ x. refl)
  binary_uses Subtract width put puts e = whole_uses Subtract width put puts e (λ x. refl)
  binary_uses Multiply width put puts e = whole_uses Multiply width put puts e (λ x. refl)
  binary_uses Divide width put puts e = whole_uses Divide width put puts e (λ x. refl)
  binary_uses BitSet width put puts e = logical_uses BitSet width put puts e (λ x. refl)
  binary_uses BitClear width put puts e = logical_uses BitClear width put puts e (λ x. refl)
  binary_uses ExclusiveOr width put puts e = logical_uses ExclusiveOr width put puts e (λ x. refl)

  pub use_two_operands : (operation : BinaryOperation) (width : Width) → c.used.writes ≡ written_by_binary operation → Uses pages c k false c.used.writes true (two_operands instr operation width values)
  unfolding two_operands
  use_two_operands operation width e = binary_uses operation width (put (location_of_place values 1) (size_of width)) (use_put (location_of_place values 1) (size_of width)) e

  pub use_three_operands : (operation : BinaryOperation) (width : Width) → c.used.writes ≡ written_by_binary operation → Uses pages c k false c.used.writes true (three_operands instr operation width values)
  unfolding three_operands
  use_three_operands operation width e = binary_uses operation width (store (location_of_place values 2) (size_of width)) (use_store (location_of_place values 2) (size_of width)) e

  pub use_add_with_carry : holds code.carry k ≡ true → c.used.writes ≡ all → Uses pages c k false c.used.writes true (add_with_carry instr values)
  unfolding add_with_carry
  use_add_with_carry e e' =
      use_bind (use_get (λ s t. same_carry s t e)) (λ carry. use_replace 1 sizes.Long (sum_of 4 (value_of_place values 1 sizes.Long) (value_of_place values 0 sizes.Long) carry) e')

  pub use_subtract_with_carry : holds code.carry k ≡ true → c.used.writes ≡ all → Uses pages c k false c.used.writes true (subtract_with_carry instr values)
  unfolding subtract_with_carry
  use_subtract_with_carry e e' =
      use_bind (use_get (λ s t. same_carry s t e)) (λ carry. use_replace 1 sizes.Long (difference_of 4 (value_of_place values 1 sizes.Long) (value_of_place values 0 sizes.Long) carry) e')

  use_add_aligned : (at : Location) (addend : ℕ) → Uses pages c k false k false (add_aligned at addend)
  unfolding add_aligned
  use_add_aligned (InRegister n) addend = use_get (λ s t stand. ap (low_bytes 2) (same_register n s t stand))
  use_add_aligned (InMemory address) addend = use_either use_fail (use_then use_check (use_lock address 2 (references.Add addend)))

  use_leave_aligned : (at : Location) (value : ℕ) → Uses pages c k false k false (leave_aligned at value)
  unfolding leave_aligned
  use_leave_aligned (InRegister n) value = use_put (InRegister n) sizes.Word value
  use_leave_aligned (InMemory address) value = use_pure

  pub use_add_aligned_word : c.used.writes ≡ all → Uses pages c k false c.used.writes true (add_aligned_word instr values)
  unfolding add_aligned_word
  use_add_aligned_word e =
      let addend = value_of_place values 0 sizes.Word in
      use_bind (use_add_aligned (location_of_place values 1) addend) (λ found.
      let sum = sum_of 2 found addend false in
      use_then (use_leave_aligned (location_of_place values 1) sum.value)
      (use_then (use_all sum.n sum.z sum.v sum.c e) (use_finish instr.after (ap (holds code.overflow) e) (λ _. here))))

  pub use_extended_multiply : c.used.writes ≡ all → Uses pages c k false c.used.writes true (extended_multiply instr values)
  unfolding extended_multiply
  use_extended_multiply e =
      let product = extended_product_of (value_of_place values 0 sizes.Long) (value_of_place values 1 sizes.Long) (value_of_place values 2 sizes.Long) in
      use_then (use_store (location_of_place values 3) sizes.Quad product)
      (use_then (use_all (sign_of sizes.Quad product) (product == 0) false false e) (use_go_to instr.after (λ _. here)))
