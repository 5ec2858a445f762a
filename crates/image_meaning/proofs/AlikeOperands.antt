-- Operands are evaluated, read and written alike whatever the condition codes are.
use Rattle.std.proofs.Common.{◌≡◌, ℕ, zero, suc, ◌+◌, ◌-◌, ◌*◌, ◌/◌, ◌%◌, ◌^◌, Bool, true, false, List, Option, Some, None, ap}
use Rattle.std.specs.Prelude.{min, nat_lt, slice_index, slice_set, slice_index_or, if◌then◌else◌}
use Rattle.vax_form.specs.Size.{bytes_of}
use Rattle.vax_form.specs.Script.{change}
use Rattle.vax_form.specs.declared.instr.Access.{Access}
use Rattle.vax_form.specs.declared.instr.Access.TheVariants.{Read, Write, Modify, Address, Field, Branch}
use Rattle.vax_form.specs.declared.instr.Base.{Base}
use Rattle.vax_form.specs.declared.instr.Base.TheVariants.{Deferred, Decrement, Increment, IncrementDeferred, Offset, Fixed}
use Rattle.vax_form.specs.declared.instr.Instr.{Instr}
use Rattle.vax_form.specs.declared.instr.Operand.{Operand}
use Rattle.vax_form.specs.declared.instr.Operand.TheVariants.{Unused, Value, Register, Place, Target}
use Rattle.vax_form.specs.declared.instr.Size.{Size}
use Rattle.vax_form.specs.declared.instr.Size.TheVariants.{Byte, Word, Long, Quad}
use Rattle.vax_form.specs.declared.pages.Pages.{Pages}
use Rattle.vax_form.specs.declared.row.Row.{Row}
use Rattle.vax_form.specs.declared.state.Flags.{Flags}
use Rattle.vax_form.specs.declared.state.RefKind.{RefKind}
use Rattle.vax_form.specs.declared.state.VaxState.{VaxState}
use Rattle.vax_meaning.specs.declared.evaluation.Evaluated.{Evaluated}
use Rattle.vax_meaning.specs.declared.operands.Location.{Location}
use Rattle.vax_meaning.specs.declared.operands.Location.TheVariants.{InRegister, InMemory}
use Rattle.vax_meaning.specs.Memory.{low_bytes, read, write, fetch, lock, code_word}
use Rattle.vax_meaning.specs.Operands.{through, base_address, place_address, register_value, locate, modify_at, with_low, put_register, put, store}
use Rattle.vax_meaning.specs.Evaluation.{operand, find, read_found, field_registers, obtain, evaluate, operands_from}
use Rattle.image_meaning.proofs.Alike.{Case, Stand, Uses, use_pure, use_bind, use_then, use_either, use_ask, use_check, use_code, use_get}
use Rattle.image_meaning.proofs.AlikeStates.{use_registers, use_get_register, use_set_register}

-- ---- memory
pub use_read : {pages : Pages} {c : Case} {k : Flags} {g : Bool} (address count : ℕ) → Uses pages c k g k g (read address count)
unfolding read
use_read address count =
    use_bind (use_bind use_ask (λ reply. use_pure)) (λ low. use_either (use_bind (use_bind use_ask (λ reply. use_pure)) (λ high. use_pure)) use_pure)

pub use_write : {pages : Pages} {c : Case} {k : Flags} {g : Bool} (address count value : ℕ) → Uses pages c k g k g (write address count value)
unfolding write
use_write address count value = use_bind (use_bind use_ask (λ reply. use_pure)) (λ _. use_either (use_bind use_ask (λ reply. use_pure)) use_pure)

pub use_fetch : {pages : Pages} {c : Case} {k : Flags} {g : Bool} (address count : ℕ) → Uses pages c k g k g (fetch address count)
use_fetch address count = use_then use_check (use_read address count)

pub use_lock : {pages : Pages} {c : Case} {k : Flags} {g : Bool} (address count : ℕ) (kind : RefKind) → Uses pages c k g k g (lock address count kind)
use_lock address count kind = use_bind use_ask (λ reply. use_pure)

pub use_code_word : {pages : Pages} {c : Case} {k : Flags} {g : Bool} (address : ℕ) → Uses pages c k g k g (code_word address)
unfolding code_word
use_code_word address = use_bind use_code (λ low. use_bind use_code (λ high. use_pure))

-- ---- where operands are
use_through : {pages : Pages} {c : Case} {k : Flags} {g : Bool} (address : ℕ) (deferred : Bool) → Uses pages c k g k g (through address deferred)
use_through address true = use_bind (use_fetch address 4) (λ longword. use_pure)
use_through address false = use_pure

use_base_address : {pages : Pages} {c : Case} {k : Flags} {g : Bool} (base : Base) (size : ℕ) → Uses pages c k g k g (base_address base size)
unfolding base_address
use_base_address (Deferred n) size = use_get_register n
use_base_address (Decrement n) size = use_bind (use_get_register n) (λ old. use_then (use_set_register n ((old + (2 ^ 32 - size)) % 2 ^ 32)) use_pure)
use_base_address (Increment n) size = use_bind (use_get_register n) (λ old. use_then (use_set_register n ((old + size) % 2 ^ 32)) use_pure)
use_base_address (IncrementDeferred n) size = use_bind (use_get_register n) (λ old. use_then (use_set_register n ((old + 4) % 2 ^ 32)) (use_through old true))
use_base_address (Offset n offset deferred) size = use_bind (use_get_register n) (λ old. use_through ((old + offset) % 2 ^ 32) deferred)
use_base_address (Fixed address deferred) size = use_through address deferred

use_place_address : {pages : Pages} {c : Case} {k : Flags} {g : Bool} (base : Base) (index : Option ℕ) (size : ℕ) → Uses pages c k g k g (place_address base index size)
unfolding place_address
use_place_address base None size = use_base_address base size
use_place_address base (Some x) size = use_bind (use_base_address base size) (λ address. use_bind (use_get_register x) (λ steps. use_pure))

use_locate : {pages : Pages} {c : Case} {k : Flags} {g : Bool} (from : Operand) (size : Size) → Uses pages c k g k g (locate from size)
unfolding locate
use_locate (Register n) size = use_pure
use_locate (Place base index) size = use_bind (use_place_address base index (bytes_of size)) (λ address. use_pure)
use_locate Unused size = use_pure
use_locate (Value value) size = use_pure
use_locate (Target address) size = use_pure

-- ---- what they have, and what is put there
pub same_value : {c : Case} {k : Flags} {g : Bool} (n size : ℕ) (s t : VaxState) → Stand c k g s t → register_value n size s ≡ register_value n size t
same_value n size s t stand =
    ap (λ r. if nat_lt size 8 then low_bytes size (slice_index r n) else slice_index r n + slice_index r (min (n + 1) 255) * 2 ^ 32) stand.same.registers

use_modify_at : {pages : Pages} {c : Case} {k : Flags} {g : Bool} (at : Location) (size : Size) → Uses pages c k g k g (modify_at at size)
unfolding modify_at
use_modify_at (InRegister n) size = use_get (λ s t stand. ap (low_bytes (bytes_of size)) (same_value n (bytes_of size) s t stand))
use_modify_at (InMemory address) size = use_then use_check (use_bind (use_read address (bytes_of size)) (λ value. use_pure))

use_put_register : {pages : Pages} {c : Case} {k : Flags} {g : Bool} (n : ℕ) (size : Size) (value : ℕ) → Uses pages c k g k g (change (put_register n size value))
use_put_register n Byte value = use_registers (λ r. slice_set r n (with_low Byte (slice_index r n) value))
use_put_register n Word value = use_registers (λ r. slice_set r n (with_low Word (slice_index r n) value))
use_put_register n Long value = use_registers (λ r. slice_set r n (with_low Long (slice_index r n) value))
use_put_register n Quad value = use_registers (λ r. slice_set (slice_set r n (value % 2 ^ 32)) (min (n + 1) 255) (value / 2 ^ 32))

pub use_put : {pages : Pages} {c : Case} {k : Flags} {g : Bool} (at : Location) (size : Size) (value : ℕ) → Uses pages c k g k g (put at size value)
unfolding put
use_put (InRegister n) size value = use_put_register n size value
use_put (InMemory address) size value = use_write address (bytes_of size) value

pub use_store : {pages : Pages} {c : Case} {k : Flags} {g : Bool} (at : Location) (size : Size) (value : ℕ) → Uses pages c k g k g (store at size value)
unfolding store
use_store (InRegister n) size value = use_put (InRegister n) size value
use_store (InMemory address) size value = use_then use_check (use_put (InMemory address) size value)

-- ---- evaluation
use_find : {pages : Pages} {c : Case} {k : Flags} {g : Bool} (access : Access) (size : Size) (from : Operand) → Uses pages c k g k g (find access size from)
unfolding find
use_find Read size from = use_locate from size
use_find Write size from = use_locate from size
use_find Modify size from = use_locate from size
use_find Address size from = use_locate from size
use_find Field size from = use_locate from size
use_find Branch size from = use_pure

use_read_found : {pages : Pages} {c : Case} {k : Flags} {g : Bool} (from : Operand) (at : Location) (size : Size) → Uses pages c k g k g (read_found from at size)
unfolding read_found
use_read_found (Value value) at size = use_pure
use_read_found (Register n) at size = use_get (λ s t stand. ap (low_bytes (bytes_of size)) (same_value n (bytes_of size) s t stand))
use_read_found (Place base index) (InMemory address) size = use_bind (use_fetch address (bytes_of size)) (λ value. use_pure)
use_read_found (Place base index) (InRegister n) size = use_pure
use_read_found Unused at size = use_pure
use_read_found (Target address) at size = use_pure

use_field_registers : {pages : Pages} {c : Case} {k : Flags} {g : Bool} (at : Location) → Uses pages c k g k g (field_registers at)
use_field_registers (InRegister n) = use_get (same_value n 8)
use_field_registers (InMemory address) = use_pure

use_obtain : {pages : Pages} {c : Case} {k : Flags} {g : Bool} (access : Access) (size : Size) (from : Operand) (at : Location) → Uses pages c k g k g (obtain access size from at)
unfolding obtain
use_obtain Read size from at = use_bind (use_read_found from at size) (λ value. use_pure)
use_obtain Write size from at = use_pure
use_obtain Modify size from at = use_bind (use_modify_at at size) (λ value. use_pure)
use_obtain Address size from at = use_pure
use_obtain Field size from at = use_bind (use_field_registers at) (λ value. use_pure)
use_obtain Branch size from at = use_pure

use_evaluate : {pages : Pages} {c : Case} {k : Flags} {g : Bool} (access : Access) (size : Size) (from : Operand) → Uses pages c k g k g (evaluate access size from)
use_evaluate access size from = use_bind (use_find access size from) (λ at. use_obtain access size from at)

pub use_operands_from : {pages : Pages} {c : Case} {k : Flags} {g : Bool} (left : ℕ) (row : Row) (instr : Instr) (values : List Evaluated) → Uses pages c k g k g (operands_from left row instr values)
unfolding operands_from
use_operands_from zero row instr values = use_pure
use_operands_from (suc left) row instr values =
    use_bind (use_evaluate (slice_index_or row.access (5 - left) Read) (slice_index_or row.size (5 - left) Byte) (operand instr (5 - left)))
    (λ value. use_operands_from left row instr (slice_set values (5 - left) value))
