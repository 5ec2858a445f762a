-- Branches, fields and services use the condition codes that they are said to.
use Rattle.std.proofs.Common.{◌≡◌, ℕ, ◌+◌, ◌*◌, ◌%◌, ◌^◌, Bool, true, false, List, ap, ◌∙◌}
use Rattle.std.specs.Prelude.{◌==◌, ◌&&◌, ◌||◌, not, nat_lt, int_lt}
use Rattle.vt_words.specs.Values.{bit, signed_value}
use Rattle.vt_words.specs.Arithmetic.{sum_of, difference_of}
use Rattle.vt_words.specs.declared.arithmetic.Coded.{Coded}
use Rattle.vax_form.specs.Size.{bytes_of, size_of}
use Rattle.vax_form.specs.declared.instr.Instr.{Instr}
use Rattle.vax_form.specs.declared.instr.Size.TheVariants as sizes
use Rattle.vax_form.specs.declared.instr.Width.{Width}
use Rattle.vax_form.specs.declared.instr.Width.TheVariants as widths
use Rattle.vax_form.specs.declared.operation.BitBranch.{BitBranch}
use Rattle.vax_form.specs.declared.operation.BitStore.{BitStore}
use Rattle.vax_form.specs.declared.operation.BitStore.TheVariants.{Nothing, Plain, Interlocked}
use Rattle.vax_form.specs.declared.operation.Condition.{Condition}
use Rattle.vax_form.specs.declared.operation.Condition.TheVariants.{NotEqual, Equal, Greater, LessOrEqual, GreaterOrEqual, Less, GreaterUnsigned, LessOrEqualUnsigned, OverflowClear, OverflowSet, CarryClear, CarrySet}
use Rattle.vax_form.specs.declared.pages.Pages.{Pages}
use Rattle.vax_form.specs.declared.state.Flags.{Flags}
use Rattle.vax_form.specs.declared.state.Pending.TheVariants.{Resume}
use Rattle.vax_form.specs.declared.state.RefKind.TheVariants as references
use Rattle.vax_form.specs.declared.state.VaxState.{VaxState}
use Rattle.vax_meaning.specs.declared.evaluation.Evaluated.{Evaluated}
use Rattle.vax_meaning.specs.declared.operands.Location.{Location}
use Rattle.vax_meaning.specs.declared.operands.Location.TheVariants.{InRegister, InMemory}
use Rattle.vax_meaning.specs.Memory.{low_bytes}
use Rattle.vax_meaning.specs.Evaluation.{value_of_place, location_of_place}
use Rattle.vax_meaning.specs.Codes.{carry_of, zero_of, negative_of}
use Rattle.vax_meaning.specs.Branches.{pc_after, branch_if, branch, branch_on_low_bit, goes_up, goes_down, goes_by, step_index, add_one_branch, subtract_one_branch, add_compare_branch, branch_to_subroutine, jump_to_subroutine, jump, return_from_subroutine, signed_word, case_to, case_of}
use Rattle.vax_meaning.specs.Branches as branches
use Rattle.vax_meaning.specs.Fields.{with_bits, field_address, field_bytes, field_value, extended, extract_field, put_bytes, put_field, insert_field, leave_bit, byte_found, bit_found, branch_on_bit}
use Rattle.vax_meaning.specs.Control.{put_byte, get_byte, exchange_handler, serve, change_mode}
use Rattle.vax_form.specs.Codes.{holds, none, all, all_but_carry}
use Rattle.vax_form.specs.Codes as code
use Rattle.cc_liveness.specs.Uses.{tested_by}
use Rattle.image_meaning.proofs.Alike.{Case, Stand, Uses, use_pure, use_bind, use_then, use_either, use_ask, use_check, use_fail, use_get}
use Rattle.image_meaning.proofs.AlikeStates.{use_get_register, use_set_register, use_pc, use_go_to, use_finish, use_handler, use_pending, same_carry, same_overflow, same_zero, same_negative, use_all, use_three, anywhere}
use Rattle.image_meaning.proofs.AlikeOperands.{use_read, use_write, use_fetch, use_lock, use_code_word, use_put}
use Rattle.image_meaning.proofs.AlikeMoves.{use_none, use_give, use_push}

-- ---- branches: where control goes is elsewhere
same_condition : {c : Case} {k : Flags} {g : Bool} (condition : Condition) (s t : VaxState) → k ≡ tested_by condition → Stand c k g s t → branches.holds condition s ≡ branches.holds condition t
unfolding branches.holds tested_by
same_condition NotEqual s t e stand = ap not (same_zero s t (ap (holds code.zero_code) e) stand)
same_condition Equal s t e stand = same_zero s t (ap (holds code.zero_code) e) stand
same_condition Greater s t e stand =
    ap (λ b. not b && not (zero_of s)) (same_negative s t (ap (holds code.negative) e) stand) ∙ ap (λ b. not (negative_of t) && not b) (same_zero s t (ap (holds code.zero_code) e) stand)
same_condition LessOrEqual s t e stand =
    ap (λ b. b || zero_of s) (same_negative s t (ap (holds code.negative) e) stand) ∙ ap (λ b. negative_of t || b) (same_zero s t (ap (holds code.zero_code) e) stand)
same_condition GreaterOrEqual s t e stand = ap not (same_negative s t (ap (holds code.negative) e) stand)
same_condition Less s t e stand = same_negative s t (ap (holds code.negative) e) stand
same_condition GreaterUnsigned s t e stand =
    ap (λ b. not b && not (zero_of s)) (same_carry s t (ap (holds code.carry) e) stand) ∙ ap (λ b. not (carry_of t) && not b) (same_zero s t (ap (holds code.zero_code) e) stand)
same_condition LessOrEqualUnsigned s t e stand =
    ap (λ b. b || zero_of s) (same_carry s t (ap (holds code.carry) e) stand) ∙ ap (λ b. carry_of t || b) (same_zero s t (ap (holds code.zero_code) e) stand)
same_condition OverflowClear s t e stand = ap not (same_overflow s t (ap (holds code.overflow) e) stand)
same_condition OverflowSet s t e stand = same_overflow s t (ap (holds code.overflow) e) stand
same_condition CarryClear s t e stand = ap not (same_carry s t (ap (holds code.carry) e) stand)
same_condition CarrySet s t e stand = same_carry s t (ap (holds code.carry) e) stand

module _ (pages : Pages) (c : Case) (k : Flags) (instr : Instr) (values : List Evaluated) (here : instr.after ≡ c.after) where
  pub use_branch : c.used.ends ≡ true → c.used.writes ≡ none → Uses pages c k false c.used.writes true (branch instr)
  use_branch e e' = use_none e' (use_go_to (pc_after instr 0 true) (anywhere c e))

  pub use_branch_if : (condition : Condition) → k ≡ tested_by condition → c.used.ends ≡ true → c.used.writes ≡ none → Uses pages c k false c.used.writes true (branch_if instr condition)
  unfolding branch_if
  use_branch_if condition tested e e' =
      use_none e' (use_bind (use_get (λ s t. same_condition condition s t tested)) (λ taken. use_go_to (pc_after instr 0 taken) (anywhere c e)))

  pub use_branch_on_low_bit : (state : Bool) → c.used.ends ≡ true → c.used.writes ≡ none → Uses pages c k false c.used.writes true (branch_on_low_bit instr state values)
  use_branch_on_low_bit state e e' = use_none e' (use_go_to (pc_after instr 1 (value_of_place values 0 sizes.Long % 2 == bit state)) (anywhere c e))

  use_step_index : (width : Width) (index at : ℕ) (answer : Coded) (taken : Bool) → c.used.ends ≡ true → c.used.writes ≡ all_but_carry
      → Uses pages c k false c.used.writes true (step_index instr width index at answer taken values)
  unfolding step_index
  use_step_index width index at answer taken e e' =
      use_then (use_put (location_of_place values index) (size_of width) answer.value)
      (use_then (use_three answer.n answer.z answer.v e') (use_finish (pc_after instr at taken) (ap (holds code.overflow) e') (anywhere c e)))

  pub use_add_one_branch : (or_equal : Bool) → c.used.ends ≡ true → c.used.writes ≡ all_but_carry → Uses pages c k false c.used.writes true (add_one_branch instr or_equal values)
  unfolding add_one_branch
  use_add_one_branch or_equal e e' =
      let index = sum_of 4 (value_of_place values 1 sizes.Long) 1 false in
      use_step_index widths.Long 1 2 index (goes_up or_equal index.value (value_of_place values 0 sizes.Long)) e e'

  pub use_subtract_one_branch : (or_equal : Bool) → c.used.ends ≡ true → c.used.writes ≡ all_but_carry → Uses pages c k false c.used.writes true (subtract_one_branch instr or_equal values)
  unfolding subtract_one_branch
  use_subtract_one_branch or_equal e e' =
      let index = difference_of 4 (value_of_place values 0 sizes.Long) 1 false in
      use_step_index widths.Long 0 1 index (goes_down or_equal index.value) e e'

  pub use_add_compare_branch : (width : Width) → c.used.ends ≡ true → c.used.writes ≡ all_but_carry → Uses pages c k false c.used.writes true (add_compare_branch instr width values)
  unfolding add_compare_branch
  use_add_compare_branch width e e' =
      let addend = value_of_place values 1 (size_of width) in
      let index = sum_of (bytes_of (size_of width)) (value_of_place values 2 (size_of width)) addend false in
      use_step_index width 2 3 index (goes_by (bytes_of (size_of width)) addend index.value (value_of_place values 0 (size_of width))) e e'

  pub use_branch_to_subroutine : c.used.ends ≡ true → c.used.writes ≡ none → Uses pages c k false c.used.writes true (branch_to_subroutine instr)
  use_branch_to_subroutine e e' = use_none e' (use_then (use_push pages c k instr values here instr.after) (use_go_to (pc_after instr 0 true) (anywhere c e)))

  pub use_jump_to_subroutine : c.used.ends ≡ true → c.used.writes ≡ none → Uses pages c k false c.used.writes true (jump_to_subroutine instr values)
  use_jump_to_subroutine e e' = use_none e' (use_then (use_push pages c k instr values here instr.after) (use_go_to (value_of_place values 0 sizes.Long) (anywhere c e)))

  pub use_jump : c.used.ends ≡ true → c.used.writes ≡ none → Uses pages c k false c.used.writes true (jump values)
  use_jump e e' = use_none e' (use_go_to (value_of_place values 0 sizes.Long) (anywhere c e))

  pub use_return_from_subroutine : c.used.ends ≡ true → c.used.writes ≡ none → Uses pages c k false c.used.writes true return_from_subroutine
  unfolding return_from_subroutine
  use_return_from_subroutine e e' =
      use_none e' (use_bind (use_get_register 14) (λ top. use_bind (use_fetch top 4) (λ pc. use_then (use_set_register 14 ((top + 4) % 2 ^ 32)) (use_go_to (low_bytes 4 pc) (anywhere c e)))))

  use_case_to : {l : Flags} (table difference limit : ℕ) → c.used.ends ≡ true → Uses pages c l false l true (case_to table difference limit)
  unfolding case_to
  use_case_to table difference limit e =
      use_either
      (use_bind (use_code_word ((table + 2 * difference) % 2 ^ 32)) (λ word. use_go_to ((table + signed_word word) % 2 ^ 32) (anywhere c e)))
      (use_go_to ((table + 2 * (limit + 1)) % 2 ^ 32) (anywhere c e))

  pub use_case_of : (width : Width) → c.used.ends ≡ true → c.used.writes ≡ all → Uses pages c k false c.used.writes true (case_of instr width values)
  unfolding case_of
  use_case_of width e e' =
      let bytes = bytes_of (size_of width) in
      let difference = (difference_of bytes (value_of_place values 0 (size_of width)) (value_of_place values 1 (size_of width)) false).value in
      let limit = value_of_place values 2 (size_of width) in
      use_then (use_all (int_lt (signed_value bytes difference) (signed_value bytes limit)) (difference == limit) false (nat_lt difference limit) e') (use_case_to instr.after difference limit e)

  -- ---- fields
  use_field_value : (at : Location) (registers position size : ℕ) → Uses pages c k false k false (field_value at registers position size)
  unfolding field_value
  use_field_value (InRegister n) registers position size = use_pure
  use_field_value (InMemory base) registers position size = use_either use_pure (use_bind (use_fetch (field_address base position) (field_bytes position size)) (λ bytes. use_pure))

  pub use_extract_field : (signed : Bool) → c.used.writes ≡ all_but_carry → Uses pages c k false c.used.writes true (extract_field instr signed values)
  unfolding extract_field
  use_extract_field signed e =
      let position = value_of_place values 0 sizes.Long in
      let size = value_of_place values 1 sizes.Byte in
      use_either use_fail (use_bind (use_field_value (location_of_place values 2) (value_of_place values 2 sizes.Quad) position size)
      (λ value. use_give pages c k instr values here 3 sizes.Long (extended signed value size) e))

  use_put_bytes : (address count position size value : ℕ) → Uses pages c k false k false (put_bytes address count position size value)
  use_put_bytes address count position size value = use_then use_check (use_bind (use_read address count) (λ bytes. use_write address count (with_bits bytes position size value)))

  use_put_field : (at : Location) (registers position size value : ℕ) → Uses pages c k false k false (put_field at registers position size value)
  unfolding put_field
  use_put_field (InRegister n) registers position size value = use_put (InRegister n) sizes.Quad (with_bits registers (position % 32) size value)
  use_put_field (InMemory base) registers position size value = use_either use_pure (use_put_bytes (field_address base position) (field_bytes position size) (position % 8) size value)

  pub use_insert_field : c.used.writes ≡ none → Uses pages c k false c.used.writes true (insert_field instr values)
  unfolding insert_field
  use_insert_field e =
      let position = value_of_place values 1 sizes.Long in
      let size = value_of_place values 2 sizes.Byte in
      use_none e (use_either use_fail
      (use_then (use_put_field (location_of_place values 3) (value_of_place values 3 sizes.Quad) position size (value_of_place values 0 sizes.Long)) (use_go_to instr.after (λ _. here))))

  use_leave_bit : (n registers position : ℕ) (store : BitStore) → Uses pages c k false k false (leave_bit n registers position store)
  unfolding leave_bit
  use_leave_bit n registers position Nothing = use_pure
  use_leave_bit n registers position (Plain value) = use_put (InRegister n) sizes.Long (with_bits registers (position % 32) 1 (bit value))
  use_leave_bit n registers position (Interlocked value) = use_put (InRegister n) sizes.Long (with_bits registers (position % 32) 1 (bit value))

  use_byte_found : (address number : ℕ) (store : BitStore) → Uses pages c k false k false (byte_found address number store)
  unfolding byte_found
  use_byte_found address number Nothing = use_fetch address 1
  use_byte_found address number (Plain value) = use_then use_check (use_bind (use_read address 1) (λ byte. use_then (use_write address 1 (with_bits byte number 1 (bit value))) use_pure))
  use_byte_found address number (Interlocked true) = use_then use_check (use_lock address 1 (references.SetBit number))
  use_byte_found address number (Interlocked false) = use_then use_check (use_lock address 1 (references.ClearBit number))

  use_bit_found : (at : Location) (registers position : ℕ) (store : BitStore) → Uses pages c k false k false (bit_found at registers position store)
  unfolding bit_found
  use_bit_found (InRegister n) registers position store = use_then (use_leave_bit n registers position store) use_pure
  use_bit_found (InMemory base) registers position store = use_bind (use_byte_found (field_address base position) (position % 8) store) (λ byte. use_pure)

  pub use_branch_on_bit : (by : BitBranch) → c.used.ends ≡ true → c.used.writes ≡ none → Uses pages c k false c.used.writes true (branch_on_bit instr by values)
  unfolding branch_on_bit
  use_branch_on_bit by e e' =
      let position = value_of_place values 0 sizes.Long in
      use_none e' (use_either use_fail
      (use_bind (use_bit_found (location_of_place values 1) (value_of_place values 1 sizes.Quad) position by.store) (λ found. use_go_to (pc_after instr 2 (found == bit by.state)) (anywhere c e))))

  -- ---- services
  use_put_byte : {g : Bool} → Uses pages c k g k g put_byte
  unfolding put_byte
  use_put_byte = use_bind (use_get_register 0) (λ first. use_bind use_ask (λ reply. use_pure))

  use_get_byte : {g : Bool} → Uses pages c k g k g get_byte
  unfolding get_byte
  use_get_byte = use_bind use_ask (λ got. use_then (use_set_register 0 (got % 2 ^ 32)) use_pure)

  use_exchange_handler : {g : Bool} → Uses pages c k g k g exchange_handler
  unfolding exchange_handler
  use_exchange_handler =
      use_bind (use_get (λ s t stand. stand.same.handler)) (λ before. use_bind (use_get_register 0) (λ first. use_then (use_handler first) (use_then (use_set_register 0 before) use_pure)))

  use_serve : {g : Bool} (number thread : ℕ) → Uses pages c k g k g (serve number thread)
  unfolding serve
  use_serve number thread =
      use_either use_pure (use_either use_put_byte (use_either use_get_byte (use_either (use_then (use_set_register 0 thread) use_pure)
      (use_either use_exchange_handler (use_either (use_then (use_pending Resume) use_pure) (use_then (use_set_register 0 0) use_pure))))))

  pub use_change_mode : (thread : ℕ) → c.used.writes ≡ none → Uses pages c k false c.used.writes true (change_mode instr thread values)
  unfolding change_mode
  use_change_mode thread e = use_none e (use_then (use_pc instr.after (λ _. here)) (use_serve (value_of_place values 0 sizes.Word) thread))
