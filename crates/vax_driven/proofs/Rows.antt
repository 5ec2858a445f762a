-- The definitions at worked rows.
use Rattle.std.proofs.Common.{◌≡◌, ℕ, ◌+◌, ◌==◌, true, false, slice_index, if◌then◌else◌, List, [], ◌∷◌, Some, None, refl, replicate}
use Rattle.vax_form.specs.Tree.{Tree, Ask, Fault, Ends, Finish, Exit}
use Rattle.vax_form.specs.declared.state.Pending.TheVariants.{Nothing}
use Rattle.vax_form.specs.declared.state.VaxState.{VaxState}
use Rattle.vax_form.specs.declared.state.Pick.{Pick}
use Rattle.vax_form.specs.declared.state.Reference.{Reference}
use Rattle.vax_form.specs.declared.state.Exception.TheVariants.{Breakpoint}
use Rattle.vax_form.specs.declared.state.RefKind.{RefKind}
use Rattle.vax_form.specs.declared.state.RefKind.TheVariants.{Read, Write, Add, SetBit, ClearBit, Put, Get}
use Rattle.vax_form.specs.References.{reply_of, changed, value_at}
use Rattle.vax_form.specs.Made.{Made, output_after, gets_after, replies_to}
use Rattle.vax_driven.specs.Threads.{thread_run}
use Rattle.vax_driven.specs.Driven.{World, walk, driven}

-- the bytes 10, 11, 12 and so on from address 0 on
abbrev pub rising : ℕ → ℕ
rising at = at + 16

abbrev pub at : RefKind → (address count : ℕ) → Reference
at kind address count = record { address = address; count = count; kind = kind }

-- a read is little-endian and zero-extended, and goes round at 2^32
little_endian : reply_of (at Read 2 4) rising 7 ≡ 0x15141312
little_endian = refl

round : value_at (λ a. if a == 0 then 0x22 else 0x11) 0xFFFFFFFF 2 ≡ 0x2211
round = refl

-- a write of two bytes, and its neighbours
written_low : changed (at (Write 0xABCD) 4 2) rising 4 ≡ 0xCD
written_low = refl

written_high : changed (at (Write 0xABCD) 4 2) rising 5 ≡ 0xAB
written_high = refl

before_write : changed (at (Write 0xABCD) 4 2) rising 3 ≡ 0x13
before_write = refl

behind_write : changed (at (Write 0xABCD) 4 2) rising 6 ≡ 0x16
behind_write = refl

write_replies : reply_of (at (Write 0xABCD) 4 2) rising 7 ≡ 0
write_replies = refl

-- an interlocked sum: 1514 + FFFF is 1513 modulo 2^16
sum_low : changed (at (Add 0xFFFF) 4 2) rising 4 ≡ 0x13
sum_low = refl

sum_high : changed (at (Add 0xFFFF) 4 2) rising 5 ≡ 0x15
sum_high = refl

sum_replies : reply_of (at (Add 0xFFFF) 4 2) rising 7 ≡ 0x1514
sum_replies = refl

-- bits 7 and 4 of 14
set_bit : changed (at (SetBit 7) 4 1) rising 4 ≡ 0x94
set_bit = refl

clear_bit : changed (at (ClearBit 4) 4 1) rising 4 ≡ 0x04
clear_bit = refl

bit_replies : reply_of (at (SetBit 7) 4 1) rising 7 ≡ 0x14
bit_replies = refl

-- one instruction each: at 0 a thread takes an input byte, writes it and goes on; at 1 it puts it and exits; at 2 it
-- reads and faults
abbrev pub state : (pc value : ℕ) → VaxState
state pc value = record { r = value ∷ replicate 14 0; pc = pc; psw = 0; handler = 0; pending = Nothing }

abbrev pub instruction : (pc value : ℕ) → Tree
instruction pc value =
    if pc == 0
    then Ask (at Get 0 0) (λ byte. Ask (at (Write byte) 8 1) (λ reply. Ends (Finish (state 1 byte))))
    else if pc == 1 then Ask (at (Put value) 0 0) (λ reply. Ends (Exit (state 2 value))) else Ask (at Read 8 1) (λ reply. Fault Breakpoint)

abbrev pub world : World
world = record {
  threads = record {
    pages = record { ranges = []; code = [] };
    start = λ thread. if thread == 0 then Some (state 0 0) else if thread == 1 then Some (state 2 0) else None;
    tree = λ thread state. instruction state.pc (slice_index state.r 0);
  };
  byte = rising;
  input = 0x41 ∷ [];
}

abbrev pub pick : (thread retired : ℕ) → Pick
pick thread retired = record { thread = thread; retired = retired }

-- oldest last: thread 0 takes and writes, thread 1 reads what was written, thread 0 puts
abbrev pub order : List Pick
order = pick 0 1 ∷ pick 1 0 ∷ pick 0 0 ∷ pick 0 0 ∷ []

abbrev pub references : List Made
references =
    record { thread = 0; reference = at (Put 0x41) 0 0; reply = 0 }
    ∷ record { thread = 1; reference = at Read 8 1; reply = 0x41 }
    ∷ record { thread = 0; reference = at (Write 0x41) 8 1; reply = 0 }
    ∷ record { thread = 0; reference = at Get 0 0; reply = 0x41 }
    ∷ []

walked : walk world order ≡ Some references
walked = refl

put : output_after references ≡ 0x41 ∷ []
put = refl

got : gets_after references ≡ 1
got = refl

-- thread 0 exits behind two instructions, and thread 1 raises a fault behind none
both : driven world order (2 ∷ 0 ∷ []) ≡ Some (record {
  made = references;
  runs = record { state = state 2 0x41; exited = true; raised = None } ∷ record { state = state 2 0; exited = false; raised = Some Breakpoint } ∷ [];
})
both = refl

-- a count may be below what the picks have used
fewer : thread_run world.threads 0 1 (replies_to 0 references) ≡ Some (record { state = state 1 0x41; exited = false; raised = None })
fewer = refl

-- no thread 1 comes behind its fault, nobody picks a thread that is not there, an exited thread or an early instruction
too_far : driven world order (2 ∷ 1 ∷ []) ≡ None
too_far = refl

no_thread : walk world (pick 2 0 ∷ []) ≡ None
no_thread = refl

exited : walk world (pick 0 2 ∷ order) ≡ None
exited = refl

early : walk world (pick 0 0 ∷ order) ≡ None
early = refl

late : walk world (pick 0 1 ∷ pick 0 0 ∷ []) ≡ None
late = refl
