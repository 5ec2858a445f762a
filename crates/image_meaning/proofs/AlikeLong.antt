-- The long instructions use the condition codes that they are said to.
use Rattle.std.proofs.Common.{◌≡◌, ℕ, zero, suc, ◌+◌, ◌-◌, ◌*◌, ◌/◌, ◌%◌, ◌^◌, Bool, true, false, List, refl, sym, ap, ◌∙◌, subst, arith}
use Rattle.std.specs.Prelude.{◌==◌, min, nat_lt, int_lt, slice_index, slice_set}
use Rattle.vt_words.specs.Values.{bit, signed_value}
use Rattle.vax_form.specs.Size.{bytes_of, size_of}
use Rattle.vax_form.specs.Script.{Script, choose, pure, change}
use Rattle.vax_form.specs.State.{register, with_psw}
use Rattle.vax_form.specs.declared.instr.Instr.{Instr}
use Rattle.vax_form.specs.declared.instr.Size.TheVariants as sizes
use Rattle.vax_form.specs.declared.instr.Width.{Width}
use Rattle.vax_form.specs.declared.instr.Width.TheVariants as widths
use Rattle.vax_form.specs.declared.pages.Pages.{Pages}
use Rattle.vax_form.specs.declared.state.Flags.{Flags}
use Rattle.vax_form.specs.declared.state.VaxState.{VaxState}
use Rattle.vax_meaning.specs.declared.evaluation.Evaluated.{Evaluated}
use Rattle.vax_meaning.specs.Memory.{low_bytes}
use Rattle.vax_meaning.specs.Evaluation.{value_of_place, location_of_place}
use Rattle.vax_meaning.specs.Codes.{sign_of}
use Rattle.vax_meaning.specs.Moves.{with_comparison}
use Rattle.vax_long.specs.Index.{index_of, index}
use Rattle.vax_long.specs.Registers.{is_in_mask, below, check_push, check_registers, push_checked, push_registers, pop_checked, pop, pop_register, pop_registers, push_by_mask, pop_by_mask}
use Rattle.vax_long.specs.Calls.{aligned, entry_mask, check_frame, frame_status, push_frame, entry_psw, enter, call_general, call_stack, with_released, release_arguments, leave, return_from_procedure}
use Rattle.vax_long.specs.Strings.{beyond, beside, move_bytes, move_string, fill_bytes, with_moved, move_characters, move_characters_filled, fetch_byte, compare_bytes, compare_characters, scan_bytes, scan_characters}
use Rattle.vax_form.specs.Codes.{holds, none, all}
use Rattle.block_law.specs.CodeWords.{codes_in}
use Rattle.image_meaning.proofs.Alike.{Case, Stand, Follow, Equal, Uses, follow_bind, follow_get, follow_change, use_pure, use_bind, use_then, use_either, use_ask, use_check, use_fail}
use Rattle.image_meaning.proofs.AlikeStates.{use_registers, use_get_register, use_set_register, use_pc, use_go_to, use_all, none_out, anywhere}
use Rattle.image_meaning.proofs.AlikeOperands.{use_read, use_write, use_fetch, use_code_word, use_store}
use Rattle.image_meaning.proofs.AlikeMoves.{use_none}

-- what is read of a state: all but its codes
abbrev Seen : VaxState → VaxState → Type 0
Seen x y = (x.r ≡ y.r) × (x.psw / 16 ≡ y.psw / 16)

module _ (pages : Pages) (c : Case) where
  -- ---- lists of registers
  use_check_push : {k : Flags} {g : Bool} (top : ℕ) → Uses pages c k g k g (check_push top)
  unfolding check_push
  use_check_push top = use_then use_check use_pure

  use_check_registers : {k : Flags} {g : Bool} (number mask top : ℕ) → Uses pages c k g k g (check_registers number mask top)
  unfolding check_registers
  use_check_registers zero mask top = use_pure
  use_check_registers (suc number) mask top = use_bind (use_either (use_check_push top) use_pure) (λ next. use_check_registers number mask next)

  use_push_checked : {k : Flags} {g : Bool} (value : ℕ) → Uses pages c k g k g (push_checked value)
  unfolding push_checked
  use_push_checked value = use_bind (use_get_register 14) (λ top. use_then (use_write (below top) 4 value) (use_set_register 14 (below top)))

  follow_push_registers : {k : Flags} {g : Bool} (number mask : ℕ) (x y : VaxState) → x.r ≡ y.r → Follow pages c k g k g Equal (push_registers number mask x) (push_registers number mask y)
  unfolding push_registers
  follow_push_registers zero mask x y e = use_pure
  follow_push_registers {k = k} {g = g} (suc number) mask x y e =
      follow_bind
      (subst (λ value. Follow pages c k g k g Equal (choose (is_in_mask number mask) (push_checked (register number x)) (pure tt)) (choose (is_in_mask number mask) (push_checked value) (pure tt)))
      (ap (λ r. slice_index r number) e) (use_either (use_push_checked (register number x)) use_pure))
      (λ _ _ _. follow_push_registers number mask x y e)

  use_pop_checked : {k : Flags} {g : Bool} → Uses pages c k g k g pop_checked
  unfolding pop_checked
  use_pop_checked = use_bind (use_get_register 14) (λ top. use_bind (use_read top 4) (λ value. use_then (use_set_register 14 ((top + 4) % 2 ^ 32)) use_pure))

  use_pop : {k : Flags} {g : Bool} → Uses pages c k g k g pop
  unfolding pop
  use_pop = use_bind (use_get_register 14) (λ top. use_then use_check use_pop_checked)

  use_pop_register : {k : Flags} {g : Bool} (number : ℕ) → Uses pages c k g k g (pop_register number)
  unfolding pop_register
  use_pop_register number = use_bind use_pop (λ value. use_set_register number value)

  use_pop_registers : {k : Flags} {g : Bool} (count number mask : ℕ) → Uses pages c k g k g (pop_registers count number mask)
  unfolding pop_registers
  use_pop_registers zero number mask = use_pure
  use_pop_registers (suc count) number mask = use_then (use_either (use_pop_register number) use_pure) (use_pop_registers count (number + 1) mask)

  seen : {k : Flags} {g : Bool} (s t : VaxState) → Stand c k g s t → Seen s t
  seen s t stand = (stand.same.registers, stand.same.upper)

  pub use_push_by_mask : {k : Flags} (instr : Instr) (values : List Evaluated) → instr.after ≡ c.after → c.used.writes ≡ none → Uses pages c k false c.used.writes true (push_by_mask instr values)
  unfolding push_by_mask
  use_push_by_mask {k = k} instr values here e =
      let mask = value_of_place values 0 sizes.Word in
      use_none e (follow_bind {P = Seen} (follow_get (λ s t stand. seen s t stand)) (λ x y same.
      follow_bind
      (subst (λ top. Follow pages c k false k false Equal (check_registers 15 mask (register 14 x)) (check_registers 15 mask top)) (ap (λ r. slice_index r 14) same.0) (use_check_registers 15 mask (register 14 x)))
      (λ _ _ _. follow_bind (follow_push_registers 15 mask x y same.0) (λ _ _ _. use_go_to instr.after (λ _. here)))))

  pub use_pop_by_mask : {k : Flags} (instr : Instr) (values : List Evaluated) → instr.after ≡ c.after → c.used.writes ≡ none → Uses pages c k false c.used.writes true (pop_by_mask instr values)
  unfolding pop_by_mask
  use_pop_by_mask instr values here e = use_none e (use_then (use_pop_registers 15 0 (value_of_place values 0 sizes.Word)) (use_go_to instr.after (λ _. here)))

  pub use_index : {k : Flags} (instr : Instr) (values : List Evaluated) → instr.after ≡ c.after → c.used.writes ≡ all → Uses pages c k false c.used.writes true (index instr values)
  unfolding index
  use_index instr values here e =
      let result = index_of (value_of_place values 4 sizes.Long) (value_of_place values 0 sizes.Long) (value_of_place values 3 sizes.Long) in
      use_then (use_store (location_of_place values 5) sizes.Long result)
      (use_then (use_all (sign_of sizes.Long result) (result == 0) false false e)
      (use_then (use_pc instr.after (λ _. here)) (use_either use_pure use_pure)))

  -- ---- calls
  use_entry_mask : {k : Flags} {g : Bool} (destination : ℕ) → Uses pages c k g k g (entry_mask destination)
  unfolding entry_mask
  use_entry_mask destination = use_bind (use_code_word destination) (λ mask. use_either use_pure use_fail)

  use_check_frame : {k : Flags} {g : Bool} (mask top : ℕ) → Uses pages c k g k g (check_frame mask top)
  unfolding check_frame
  use_check_frame mask top =
      use_bind (use_check_registers 12 mask top) (λ saved. use_bind (use_check_push saved) (λ pc. use_bind (use_check_push pc) (λ fp. use_bind (use_check_push fp) (λ ap'.
      use_bind (use_check_push ap') (λ status. use_bind (use_check_push status) (λ handler. use_pure))))))

  -- one step whose number is that of either state
  by_number : {k : Flags} {g : Bool} (m : ℕ → Script (Unit {0})) (x y : ℕ) → x ≡ y → ((n : ℕ) → Uses pages c k g k g (m n)) → Follow pages c k g k g Equal (m x) (m y)
  by_number {k = k} {g = g} m x y e each = subst (λ n. Follow pages c k g k g Equal (m x) (m n)) e (each x)

  status_same : (low : ℕ) (stack : Bool) (mask x y : ℕ) → x / 16 ≡ y / 16 → frame_status low stack mask x ≡ frame_status low stack mask y
  status_same low stack mask x y e = ap (λ n. low * 2 ^ 30 + bit stack * 2 ^ 29 + mask % 4096 * 2 ^ 16 + n) (above x ∙ (ap (λ n. n / 2 * 32) e ∙ sym (above y)))
    where
      above : (n : ℕ) → n / 32 * 32 ≡ n / 16 / 2 * 32
      above n = omega arith

  use_push_frame : {k : Flags} {g : Bool} (pc : ℕ) (stack : Bool) (mask : ℕ) → Uses pages c k g k g (push_frame pc stack mask)
  unfolding push_frame
  use_push_frame {k = k} {g = g} pc stack mask =
      follow_bind {P = Seen} (follow_get (λ s t stand. seen s t stand)) (λ x y same.
      let at : (n : ℕ) → register n x ≡ register n y = λ n. ap (λ r. slice_index r n) same.0 in
      follow_bind (by_number (λ n. change (λ state. record state { r = slice_set state.r 14 n })) (aligned (register 14 x)) (aligned (register 14 y)) (ap aligned (at 14)) (λ n. use_set_register 14 n)) (λ _ _ _.
      follow_bind (follow_push_registers 12 mask x y same.0) (λ _ _ _.
      follow_bind (use_push_checked pc) (λ _ _ _.
      follow_bind (by_number push_checked (register 13 x) (register 13 y) (at 13) use_push_checked) (λ _ _ _.
      follow_bind (by_number push_checked (register 12 x) (register 12 y) (at 12) use_push_checked) (λ _ _ _.
      follow_bind (by_number push_checked (frame_status (register 14 x % 4) stack mask x.psw) (frame_status (register 14 y % 4) stack mask y.psw)
      (ap (λ n. frame_status (n % 4) stack mask x.psw) (at 14) ∙ status_same (register 14 y % 4) stack mask x.psw y.psw same.1) use_push_checked) (λ _ _ _.
      use_push_checked 0)))))))

  entry_same : (mask x y : ℕ) → x / 16 ≡ y / 16 → entry_psw mask x ≡ entry_psw mask y
  entry_same mask x y e = above x ∙ (ap (λ n. n / 16 * 256 + mask / 2 ^ 15 % 2 * 128 + mask / 2 ^ 14 % 2 * 32 + n % 2 * 16) e ∙ sym (above y))
    where
      above : (n : ℕ) → entry_psw mask n ≡ n / 16 / 16 * 256 + mask / 2 ^ 15 % 2 * 128 + mask / 2 ^ 14 % 2 * 32 + n / 16 % 2 * 16
      above n = ap (λ u. u * 256 + mask / 2 ^ 15 % 2 * 128 + mask / 2 ^ 14 % 2 * 32 + n / 16 % 2 * 16) (page n)
        where
          page : (m : ℕ) → m / 256 ≡ m / 16 / 16
          page m = omega arith

  -- a whole status word
  use_status : {k : Flags} {g : Bool} (f : ℕ → ℕ) → c.used.writes ≡ all → ((x y : ℕ) → x / 16 ≡ y / 16 → f x ≡ f y) → Uses pages c k g c.used.writes g (change (λ state. with_psw (f state.psw) state))
  use_status f e alike = follow_change (λ s t stand.
      let same = alike s.psw t.psw stand.same.upper in
      record {
        same = record { registers = stand.same.registers; pc = stand.same.pc; upper = ap (λ psw. psw / 16) same; handler = stand.same.handler; pending = stand.same.pending };
        common = λ which _. ap (λ psw. holds which (codes_in psw)) same;
        first = λ which h. none_out c.used.writes which e h;
        second = λ which h. none_out c.used.writes which e h;
        on = stand.on;
      })

  use_enter : {k : Flags} (destination mask list : ℕ) → c.used.ends ≡ true → c.used.writes ≡ all → Uses pages c k false c.used.writes true (enter destination mask list)
  unfolding enter
  use_enter destination mask list e e' =
      use_bind (use_get_register 14) (λ frame. use_then (use_set_register 13 frame) (use_then (use_set_register 12 list)
      (use_then (use_status (entry_psw mask) e' (entry_same mask)) (use_go_to ((destination + 2) % 2 ^ 32) (anywhere c e)))))

  pub use_call_general : {k : Flags} (instr : Instr) (values : List Evaluated) → c.used.ends ≡ true → c.used.writes ≡ all → Uses pages c k false c.used.writes true (call_general instr values)
  unfolding call_general
  use_call_general instr values e e' =
      let destination = value_of_place values 1 sizes.Long in
      use_bind (use_entry_mask destination) (λ mask. use_bind (use_get_register 14) (λ top.
      use_then (use_check_frame mask (aligned top)) (use_then (use_push_frame instr.after false mask) (use_enter destination mask (value_of_place values 0 sizes.Long) e e'))))

  pub use_call_stack : {k : Flags} (instr : Instr) (values : List Evaluated) → c.used.ends ≡ true → c.used.writes ≡ all → Uses pages c k false c.used.writes true (call_stack instr values)
  unfolding call_stack
  use_call_stack instr values e e' =
      let destination = value_of_place values 1 sizes.Long in
      use_bind (use_entry_mask destination) (λ mask. use_bind (use_get_register 14) (λ top. use_bind (use_check_push top) (λ list.
      use_then (use_check_frame mask (aligned list)) (use_then (use_push_checked (value_of_place values 0 sizes.Long))
      (use_then (use_push_frame instr.after true mask) (use_enter destination mask list e e'))))))

  use_released : {k : Flags} {g : Bool} (bytes : ℕ) → Uses pages c k g k g (change (with_released bytes))
  use_released bytes = use_registers (λ r. slice_set r 14 ((slice_index r 14 + bytes) % 2 ^ 32))

  use_release_arguments : {k : Flags} {g : Bool} (stack : Bool) → Uses pages c k g k g (release_arguments stack)
  unfolding release_arguments
  use_release_arguments stack = use_either (use_bind use_pop (λ count. use_released (count % 256 * 4))) use_pure

  use_leave : {k : Flags} (frame status : ℕ) → c.used.ends ≡ true → c.used.writes ≡ all → Uses pages c k false c.used.writes true (leave frame status)
  unfolding leave
  use_leave frame status e e' =
      use_then (use_set_register 14 ((frame + 8) % 2 ^ 32)) (use_then (use_pop_register 12) (use_then (use_pop_register 13) (use_bind use_pop (λ pc.
      use_then (use_pop_registers 12 0 (status / 2 ^ 16)) (use_then (use_released (status / 2 ^ 30)) (use_then (use_release_arguments (is_in_mask 29 status))
      (use_then (use_status (λ _. status % 2 ^ 16) e' (λ x y _. refl)) (use_go_to pc (anywhere c e)))))))))

  pub use_return_from_procedure : {k : Flags} → c.used.ends ≡ true → c.used.writes ≡ all → Uses pages c k false c.used.writes true return_from_procedure
  unfolding return_from_procedure
  use_return_from_procedure e e' =
      use_bind (use_get_register 13) (λ frame. use_bind (use_fetch ((frame + 4) % 2 ^ 32) 4) (λ longword. use_either (use_leave frame (low_bytes 4 longword) e e') use_fail))

  -- ---- strings
  use_move_bytes : {k : Flags} {g : Bool} (down : Bool) (count from to : ℕ) → Uses pages c k g k g (move_bytes down count from to)
  unfolding move_bytes
  use_move_bytes down zero from to = use_pure
  use_move_bytes down (suc count) from to =
      use_bind (use_bind use_ask (λ reply. use_pure)) (λ byte. use_then (use_bind use_ask (λ reply. use_pure)) (use_move_bytes down count (beside down from) (beside down to)))

  use_move_string : {k : Flags} {g : Bool} (count source destination : ℕ) → Uses pages c k g k g (move_string count source destination)
  unfolding move_string
  use_move_string count source destination = use_move_bytes _ count _ _

  use_fill_bytes : {k : Flags} {g : Bool} (count to byte : ℕ) → Uses pages c k g k g (fill_bytes count to byte)
  unfolding fill_bytes
  use_fill_bytes zero to byte = use_pure
  use_fill_bytes (suc count) to byte = use_then (use_bind use_ask (λ reply. use_pure)) (use_fill_bytes count (beside false to) byte)

  use_moved : {k : Flags} {g : Bool} (left source destination : ℕ) → Uses pages c k g k g (change (with_moved left source destination))
  use_moved left source destination =
      use_registers (λ r. slice_set (slice_set (slice_set (slice_set (slice_set (slice_set r 0 left) 1 source) 2 0) 3 destination) 4 0) 5 0)

  use_comparison : {k : Flags} {g : Bool} (width : Width) (a b : ℕ) → c.used.writes ≡ all → Uses pages c k g c.used.writes g (change (with_comparison width a b))
  use_comparison width a b e = use_all (int_lt (signed_value (bytes_of (size_of width)) a) (signed_value (bytes_of (size_of width)) b)) (a == b) false (nat_lt a b) e

  pub use_move_characters : {k : Flags} (instr : Instr) (values : List Evaluated) → instr.after ≡ c.after → c.used.writes ≡ all → Uses pages c k false c.used.writes true (move_characters instr values)
  unfolding move_characters
  use_move_characters instr values here e =
      let count = value_of_place values 0 sizes.Word in
      let source = value_of_place values 1 sizes.Long in
      let destination = value_of_place values 2 sizes.Long in
      use_then use_check (use_then use_check (use_then (use_move_string count source destination) (use_then (use_moved 0 (beyond source count) (beyond destination count))
      (use_then (use_all false true false false e) (use_go_to instr.after (λ _. here))))))

  pub use_move_characters_filled : {k : Flags} (instr : Instr) (values : List Evaluated) → instr.after ≡ c.after → c.used.writes ≡ all → Uses pages c k false c.used.writes true (move_characters_filled instr values)
  unfolding move_characters_filled
  use_move_characters_filled instr values here e =
      let length = value_of_place values 0 sizes.Word in
      let source = value_of_place values 1 sizes.Long in
      let fill = value_of_place values 2 sizes.Byte in
      let room = value_of_place values 3 sizes.Word in
      let destination = value_of_place values 4 sizes.Long in
      let count = min length room in
      use_then use_check (use_then use_check (use_then (use_move_string count source destination) (use_then (use_fill_bytes (room - count) (beyond destination count) fill)
      (use_then (use_moved (length - count) (beyond source count) (beyond destination room)) (use_then (use_comparison widths.Word length room e) (use_go_to instr.after (λ _. here)))))))

  use_fetch_byte : {k : Flags} {g : Bool} (address : ℕ) → Uses pages c k g k g (fetch_byte address)
  unfolding fetch_byte
  use_fetch_byte address = use_then use_check (use_bind use_ask (λ reply. use_pure))

  use_compare_bytes : {k : Flags} {g : Bool} (count first second : ℕ) → c.used.writes ≡ all → Uses pages c k g c.used.writes g (compare_bytes count first second)
  unfolding compare_bytes
  use_compare_bytes zero first second e = use_then (use_all false true false false e) use_pure
  use_compare_bytes (suc count) first second e =
      use_bind (use_fetch_byte first) (λ a. use_bind (use_fetch_byte second) (λ b.
      use_either (use_compare_bytes count (beside false first) (beside false second) e) (use_then (use_comparison widths.Byte a b e) use_pure)))

  pub use_compare_characters : {k : Flags} (instr : Instr) (values : List Evaluated) → instr.after ≡ c.after → c.used.writes ≡ all → Uses pages c k false c.used.writes true (compare_characters instr values)
  unfolding compare_characters
  use_compare_characters instr values here e =
      let count = value_of_place values 0 sizes.Word in
      let first = value_of_place values 1 sizes.Long in
      let second = value_of_place values 2 sizes.Long in
      use_bind (use_compare_bytes count first second e) (λ left.
      use_then (use_set_register 0 left) (use_then (use_set_register 1 (beyond first (count - left))) (use_then (use_set_register 2 left)
      (use_then (use_set_register 3 (beyond second (count - left))) (use_go_to instr.after (λ _. here))))))

  use_scan_bytes : {k : Flags} {g : Bool} (locates : Bool) (character count address : ℕ) → Uses pages c k g k g (scan_bytes locates character count address)
  unfolding scan_bytes
  use_scan_bytes locates character zero address = use_pure
  use_scan_bytes locates character (suc count) address = use_bind (use_fetch_byte address) (λ byte. use_either use_pure (use_scan_bytes locates character count (beside false address)))

  pub use_scan_characters : {k : Flags} (instr : Instr) (locates : Bool) (values : List Evaluated) → instr.after ≡ c.after → c.used.writes ≡ all → Uses pages c k false c.used.writes true (scan_characters instr locates values)
  unfolding scan_characters
  use_scan_characters instr locates values here e =
      let count = value_of_place values 1 sizes.Word in
      let address = value_of_place values 2 sizes.Long in
      use_bind (use_scan_bytes locates (value_of_place values 0 sizes.Byte) count address) (λ left.
      use_then (use_set_register 0 left) (use_then (use_set_register 1 (beyond address (count - left)))
      (use_then (use_all false (left == 0) false false e) (use_go_to instr.after (λ _. here)))))
