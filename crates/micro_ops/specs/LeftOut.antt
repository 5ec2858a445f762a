-- Computations that are left out of a block, since the words that make the codes stand in for them.
use Rattle.std.specs.Prelude.{◌≡◌, ℕ, ◌<◌, ◌==◌, ◌&&◌, ◌||◌, if◌then◌else◌, Bool, true, false, not, List, [], ◌∷◌, Option, nat_lt, slice_get, unwrap_or}
use Rattle.std.specs.List.{list_any}
use Rattle.micro_ops.specs.declared.codes.CodeSource.{CodeSource}
use Rattle.micro_ops.specs.declared.codes.CodeSource.TheVariants as sources
use Rattle.micro_ops.specs.declared.codes.CodeSources.{CodeSources}
use Rattle.micro_ops.specs.declared.program.Micro.{Micro}
use Rattle.micro_ops.specs.declared.program.Micro.TheVariants.{Compute, Codes}
use Rattle.micro_ops.specs.Uses.{reads, replaces, is_code}

-- the temporaries that have a register in a block
abbrev pub is_low : (temp : ℕ) → Bool
is_low temp = nat_lt temp 6

abbrev pub is_computed : CodeSource → Bool
is_computed (sources.Computed size) = true
is_computed source = false

-- what an operation computes has words in the block: it goes into a low temporary, or is used; `later` says which
-- temporaries are used behind the operation
abbrev pub is_needed : Micro → (later : ℕ → Bool) → Bool
is_needed (Compute to op size a b) later = is_low to || later to
is_needed operation later = true

-- the operation uses what a temporary holds, and not for codes that have a rule alone
abbrev pub uses_now : CodeSources → (needed : Bool) → Micro → (temp : ℕ) → Bool
uses_now codes needed (Codes n z v c) temp = (is_computed codes.nzv && (v == temp)) || (is_computed codes.c && is_code temp c)
uses_now codes needed operation temp = needed && reads temp operation

-- the same, or it leaves it for what comes behind
abbrev pub uses_from : CodeSources → (needed later : Bool) → Micro → (temp : ℕ) → Bool
uses_from codes needed later operation temp = uses_now codes needed operation temp || (not (replaces temp operation) && later)

-- the program uses what a temporary holds at its start for more than codes that have a rule, also through computations.
-- The trap on overflow is no use
abbrev pub is_used : CodeSources → List Micro → (temp : ℕ) → Bool
is_used codes [] temp = false
is_used codes (operation ∷ program) temp =
    uses_from codes (is_needed operation (is_used codes program)) (is_used codes program temp) operation temp

-- a computation into a temporary above 5 that is used for codes with a rule alone
abbrev pub is_left_out : CodeSources → Micro → (behind : List Micro) → Bool
is_left_out codes (Compute to op size a b) behind = not (is_low to) && not (is_used codes behind to)
is_left_out codes operation behind = false

-- the flag of a number; false behind the table
abbrev pub flag_at : List Bool → ℕ → Bool
flag_at flags number = unwrap_or (slice_get flags number) false

-- a table of flags has that of each number that a byte can hold
abbrev pub Tells : List Bool → (ℕ → Bool) → Type 0
Tells flags test = (number : ℕ) → number < 256 → flag_at flags number ≡ test number

-- the temporaries that a list names are those that pass
abbrev pub AreJust : List (Option ℕ) → (ℕ → Bool) → Type 0
AreJust temps test = (temp : ℕ) → list_any (is_code temp) temps ≡ test temp

-- the flags, but for that of the temporary
abbrev pub with_flag : Option ℕ → Bool → List Bool → (number : ℕ) → Bool
with_flag temp flag flags number = if is_code number temp then flag else flag_at flags number
