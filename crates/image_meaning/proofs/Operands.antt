-- Operands: where they are is an address, and evaluating them leaves a state.
use Rattle.std.proofs.Common.{ℕ, ◌+◌, ◌-◌, ◌*◌, ◌/◌, ◌%◌, ◌<◌, ◌≤◌, ◌^◌, min, Bool, true, false, Option, Some, None, arith, lit<}
use Rattle.vax_form.specs.Size.{bytes_of, size_of}
use Rattle.vax_form.proofs.GrammarLengths.{bytes_of-most}
use Rattle.vax_form.specs.State.{IsState, register, with_register}
use Rattle.vax_form.specs.declared.instr.Size.{Size}
use Rattle.vax_form.specs.declared.instr.Size.TheVariants.{Byte, Word, Long, Quad}
use Rattle.vax_form.specs.declared.instr.Width.{Width}
use Rattle.vax_form.specs.declared.instr.Width.TheVariants as widths
use Rattle.vax_form.specs.declared.instr.Base.{Base}
use Rattle.vax_form.specs.declared.instr.Base.TheVariants.{Deferred, Decrement, Increment, IncrementDeferred, Offset, Fixed}
use Rattle.vax_form.specs.declared.instr.Operand.{Operand}
use Rattle.vax_form.specs.declared.instr.Operand.TheVariants.{Unused, Value, Register, Place, Target}
use Rattle.vax_form.specs.declared.state.VaxState.{VaxState}
use Rattle.vax_meaning.specs.declared.operands.Location.{Location}
use Rattle.vax_meaning.specs.declared.operands.Location.TheVariants.{InRegister, InMemory}
use Rattle.vax_meaning.specs.Memory.{low_bytes}
use Rattle.vax_meaning.specs.Operands.{get_register, set_register, through, base_address, place_address, locate, modify_at, with_low, put_register, put, store}
use Rattle.vax_form.specs.declared.pages.Pages.{Pages}
use Rattle.image_meaning.proofs.Keeping.{Keeps, Any, kept, keep_pure, keep_bind, keep_then, keep_get, keep_change, keep_written, stay_check_write}
use Rattle.image_meaning.proofs.Allowed.{Allows, read_allowed}
use Rattle.image_meaning.proofs.States.{IsLongword, low_longword, register_is, with_register_is}
use Rattle.image_meaning.proofs.Memory.{keep_read, keep_write, keep_fetch}

abbrev pub FitsBase : Base → Type 0
FitsBase (Deferred n) = Unit {0}
FitsBase (Decrement n) = Unit {0}
FitsBase (Increment n) = Unit {0}
FitsBase (IncrementDeferred n) = Unit {0}
FitsBase (Offset n offset deferred) = Unit {0}
FitsBase (Fixed address deferred) = IsLongword address

-- an address that the code fixes is a longword
abbrev pub FitsOperand : Operand → Type 0
FitsOperand Unused = Unit {0}
FitsOperand (Value value) = Unit {0}
FitsOperand (Register n) = Unit {0}
FitsOperand (Place base index) = FitsBase base
FitsOperand (Target address) = IsLongword address

abbrev pub FitsLocation : Location → Type 0
FitsLocation (InRegister n) = Unit {0}
FitsLocation (InMemory address) = IsLongword address

-- what is put into two registers is a quadword; of other sizes the low bytes are put
abbrev pub FitsSize : Size → ℕ → Type 0
FitsSize Byte value = Unit {0}
FitsSize Word value = Unit {0}
FitsSize Long value = Unit {0}
FitsSize Quad value = value < 2 ^ 64

pub bytes_least : (size : Size) → 1 ≤ bytes_of size
bytes_least Byte = omega arith
bytes_least Word = omega arith
bytes_least Long = omega arith
bytes_least Quad = omega arith

low_quadword : (value : ℕ) → value % 2 ^ 64 < 2 ^ 64
low_quadword value = omega arith

pub low_fits : (size : Size) (value : ℕ) → FitsSize size (low_bytes (bytes_of size) value)
low_fits Byte value = tt
low_fits Word value = tt
low_fits Long value = tt
low_fits Quad value = low_quadword value

pub zero_fits : (size : Size) → FitsSize size 0
zero_fits Byte = tt
zero_fits Word = tt
zero_fits Long = tt
zero_fits Quad = lit< tt

pub width_fits : (width : Width) (value : ℕ) → FitsSize (size_of width) value
width_fits widths.Byte value = tt
width_fits widths.Word value = tt
width_fits widths.Long value = tt

pub keep_get_register : {pages : Pages} {w : Bool} (n : ℕ) → Keeps pages w w IsLongword (get_register n)
keep_get_register n = keep_get (register_is n)

pub keep_set_register : {pages : Pages} {w : Bool} (n value : ℕ) → IsLongword value → Keeps pages w w Any (set_register n value)
keep_set_register n value small = keep_change (λ state is. with_register_is n value state small is)

pub keep_through : {pages : Pages} {w : Bool} (address : ℕ) (deferred : Bool) → IsLongword address → Keeps pages w w IsLongword (through address deferred)
keep_through address true small = keep_bind (keep_fetch address 4 small (omega arith) (omega arith)) (λ longword _. keep_pure (low_longword longword))
keep_through address false small = keep_pure small

pub keep_base_address : {pages : Pages} {w : Bool} (base : Base) (size : ℕ) → FitsBase base → Keeps pages w w IsLongword (base_address base size)
unfolding base_address
keep_base_address (Deferred n) size fits = keep_get_register n
keep_base_address (Decrement n) size fits =
    keep_bind (keep_get_register n) (λ old is. keep_then (keep_set_register n _ (low_longword (old + (2 ^ 32 - size)))) (keep_pure (low_longword (old + (2 ^ 32 - size)))))
keep_base_address (Increment n) size fits =
    keep_bind (keep_get_register n) (λ old is. keep_then (keep_set_register n _ (low_longword (old + size))) (keep_pure is))
keep_base_address (IncrementDeferred n) size fits =
    keep_bind (keep_get_register n) (λ old is. keep_then (keep_set_register n _ (low_longword (old + 4))) (keep_through old true is))
keep_base_address (Offset n offset deferred) size fits =
    keep_bind (keep_get_register n) (λ old is. keep_through ((old + offset) % 2 ^ 32) deferred (low_longword (old + offset)))
keep_base_address (Fixed address deferred) size fits = keep_through address deferred fits

pub keep_place_address : {pages : Pages} {w : Bool} (base : Base) (index : Option ℕ) (size : ℕ) → FitsBase base → Keeps pages w w IsLongword (place_address base index size)
unfolding place_address
keep_place_address base None size fits = keep_base_address base size fits
keep_place_address base (Some x) size fits =
    keep_bind (keep_base_address base size fits) (λ address _. keep_bind (keep_get_register x) (λ steps _. keep_pure (low_longword (address + (steps * size) % 2 ^ 32))))

pub keep_locate : {pages : Pages} {w : Bool} (operand : Operand) (size : Size) → FitsOperand operand → Keeps pages w w FitsLocation (locate operand size)
unfolding locate
keep_locate (Register n) size fits = keep_pure tt
keep_locate (Place base index) size fits = keep_bind (keep_place_address base index (bytes_of size) fits) (λ address small. keep_pure small)
keep_locate Unused size fits = keep_pure (lit< tt)
keep_locate (Value value) size fits = keep_pure (lit< tt)
keep_locate (Target address) size fits = keep_pure (lit< tt)

-- an operand may be written where it is: in memory its bytes were checked
abbrev pub Writable : Pages → Location → Size → Type 0
Writable pages (InRegister n) size = Unit {0}
Writable pages (InMemory address) size = Allows pages true address (bytes_of size)

pub keep_modify_at : {pages : Pages} (location : Location) (size : Size) → FitsLocation location
    → Keeps pages false false (λ _. Writable pages location size) (modify_at location size)
unfolding modify_at
keep_modify_at (InRegister n) size fits = keep_get (λ state is. tt)
keep_modify_at {pages = pages} (InMemory address) size fits =
    keep_bind (kept (stay_check_write address (bytes_of size) fits)) (λ _ all.
    keep_bind {P = Any} (keep_read address (bytes_of size) fits (bytes_least size) (bytes_of-most size) (read_allowed pages address (bytes_of size) all)) (λ value _. keep_pure all))

with_low_is : (size : Size) (old value : ℕ) → IsLongword old → IsLongword (with_low size old value)
with_low_is Byte old value small = omega arith
with_low_is Word old value small = omega arith
with_low_is Long old value small = omega arith
with_low_is Quad old value small = omega arith

high_longword : (value : ℕ) → value < 2 ^ 64 → IsLongword (value / 2 ^ 32)
high_longword value small = omega arith

put_register_is : (n : ℕ) (size : Size) (value : ℕ) (state : VaxState) → FitsSize size value → IsState state → IsState (put_register n size value state)
put_register_is n Byte value state fits is = with_register_is n _ state (with_low_is Byte (register n state) value (register_is n state is)) is
put_register_is n Word value state fits is = with_register_is n _ state (with_low_is Word (register n state) value (register_is n state is)) is
put_register_is n Long value state fits is = with_register_is n _ state (low_longword value) is
put_register_is n Quad value state fits is =
    with_register_is (min (n + 1) 255) (value / 2 ^ 32) (with_register n (value % 2 ^ 32) state) (high_longword value fits) (with_register_is n (value % 2 ^ 32) state (low_longword value) is)

pub keep_put : {pages : Pages} {w : Bool} (location : Location) (size : Size) (value : ℕ) → FitsLocation location → FitsSize size value → Writable pages location size
    → Keeps pages w true Any (put location size value)
unfolding put
keep_put (InRegister n) size value fits sized may = keep_written (keep_change (λ state is. put_register_is n size value state sized is))
keep_put (InMemory address) size value fits sized may = keep_write address (bytes_of size) value fits (bytes_least size) (bytes_of-most size) may

pub keep_store : {pages : Pages} (location : Location) (size : Size) (value : ℕ) → FitsLocation location → FitsSize size value → Keeps pages false true Any (store location size value)
unfolding store
keep_store (InRegister n) size value fits sized = keep_put (InRegister n) size value fits sized tt
keep_store (InMemory address) size value fits sized =
    keep_bind (kept (stay_check_write address (bytes_of size) fits)) (λ _ all. keep_put (InMemory address) size value fits sized all)
