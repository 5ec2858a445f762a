-- The references of a tree as accesses to aligned quadwords of memory.
-- VAX Architecture Reference Manual, "Data Types", and the interlocked instructions ADAWI, BBSSI and BBCCI.
use Rattle.std.specs.Prelude.{ℕ, ◌+◌, ◌-◌, ◌*◌, ◌/◌, ◌%◌, ◌^◌, Bool, true, false, bit_and, bit_or}
use Rattle.vt_words.specs.Quad.{field_of, with_field_of}
use Rattle.vax_form.specs.Tree.{Tree, Check, Ask, Fault, Ends}
use Rattle.vax_form.specs.declared.state.Reference.{Reference}
use Rattle.vax_form.specs.declared.state.RefKind.{RefKind}
use Rattle.vax_form.specs.declared.state.RefKind.TheVariants.{Read, Write, Add, SetBit, ClearBit, Put, Get}
use Rattle.alpha_meaning.specs.Pieces.{Kinds, Wants, Wanted, Nothing}

-- the reply to a reference that begins at this byte of the quadword, by what the quadword held before
abbrev pub reply_by : RefKind → (at count before : ℕ) → ℕ
reply_by Read at count before = field_of before at count
reply_by (Write value) at count before = 0
reply_by (Add value) at count before = field_of before at 2
reply_by (SetBit n) at count before = field_of before at 1
reply_by (ClearBit n) at count before = field_of before at 1
reply_by (Put byte) at count before = 0
reply_by Get at count before = before

-- what it leaves of the quadword
abbrev pub left_by : RefKind → (at count before : ℕ) → ℕ
left_by Read at count before = before
left_by (Write value) at count before = with_field_of before at count value
left_by (Add value) at count before = with_field_of before at 2 ((field_of before at 2 + value) % 2 ^ 16)
left_by (SetBit n) at count before = with_field_of before at 1 (bit_or (field_of before at 1) (2 ^ n))
left_by (ClearBit n) at count before = with_field_of before at 1 (bit_and (field_of before at 1) (255 - 2 ^ n))
left_by (Put byte) at count before = before
left_by Get at count before = before

-- a byte of the output or the input is no reference to memory
abbrev pub is_of_memory : RefKind → Bool
is_of_memory Read = true
is_of_memory (Write value) = true
is_of_memory (Add value) = true
is_of_memory (SetBit n) = true
is_of_memory (ClearBit n) = true
is_of_memory (Put byte) = false
is_of_memory Get = false

-- the access to the reference's quadword, the kinds that may be made for it, and how the tree goes on for what it finds
-- there
abbrev pub wanted_by : Bool → (Reference → Kinds) → Reference → (ℕ → Tree) → Wants Tree
wanted_by true kinds r on =
    Wanted (r.address / 8 * 8) (left_by r.kind (r.address % 8) r.count) (kinds r)
    (λ before. on (reply_by r.kind (r.address % 8) r.count before))
wanted_by false kinds r on = Nothing

-- the access that a tree wants next, where these kinds may be made for each reference
abbrev pub wants : (Reference → Kinds) → Tree → Wants Tree
wants kinds (Check address count write tree) = Nothing
wants kinds (Ask r on) = wanted_by (is_of_memory r.kind) kinds r on
wants kinds (Fault exception) = Nothing
wants kinds (Ends e) = Nothing
