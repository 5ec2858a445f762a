-- What is known of each word before it runs, by the code alone: one operation on registers, or where it goes.
use Rattle.std.specs.Prelude.{◌≡◌, ℕ, ℤ, zero, suc, ◌+◌, ◌-◌, ◌%◌, ◌^◌, ◌==◌, ◌&&◌, Bool, true, false, not, min, max, nat_lt, if◌then◌else◌, List, length, slice_get, Option, Some, None, is_some, option_map}
use Rattle.std.specs.Int.{cast_unsigned, w64}
use Rattle.std.specs.Option.{unwrap_or}
use Rattle.vt_words.specs.Quad.{spread}
use Rattle.address_map.specs.Pairs.{address_at}
use Rattle.alpha_encode.specs.declared.instr.AlphaInstr.{AlphaInstr}
use Rattle.alpha_encode.specs.declared.instr.AlphaInstr.TheVariants.{Memory, Branch, Operate, Jump, Pal}
use Rattle.alpha_encode.specs.declared.instr.BranchOp.{BranchOp}
use Rattle.alpha_encode.specs.declared.instr.MemoryOp.{MemoryOp}
use Rattle.alpha_encode.specs.declared.instr.OperateOp.{OperateOp}
use Rattle.alpha_encode.specs.declared.instr.OperateOp.TheVariants as row
use Rattle.alpha_encode.specs.declared.instr.Second.{Second}
use Rattle.alpha_encode.specs.declared.instr.Second.TheVariants.{Register, Literal}
use Rattle.alpha_meaning.specs.Act.{links, target_of}
use Rattle.alpha_meaning.specs.Memory.{kind_of, scale_of}
use Rattle.alpha_meaning.specs.Result.{times}
use Rattle.block_law.specs.Translations.{Code, fetch_of}
use Rattle.prepared_code.specs.declared.flat.Flat.{Flat}
use Rattle.prepared_code.specs.declared.flat.Way.{Way}
use Rattle.prepared_code.specs.declared.flat.Way.TheVariants as way

-- a word of which nothing is told; one behind which no step stays inside its block; a straight one whose result no register keeps
abbrev pub other : Flat
other = record { op = row.Bis; a = 31; b = 31; c = 31; way = way.Other; number = 0; within = 0; literal = 0 }

abbrev pub stop : Flat
stop = record { op = row.Bis; a = 31; b = 31; c = 31; way = way.Stops; number = 0; within = 0; literal = 0 }

abbrev pub nothing : Flat
nothing = record { op = row.Bis; a = 31; b = 31; c = 31; way = way.Other; number = 1; within = 0; literal = 0 }

-- ---- operations
-- on two registers, or on one and what the code fixes
abbrev pub by_register : OperateOp → (a b c : ℕ) → Flat
by_register op a b c = record { op = op; a = a; b = b; c = c; way = way.Other; number = 1; within = 0; literal = 0 }

abbrev pub by_literal : OperateOp → (a literal c : ℕ) → Flat
by_literal op a literal c = record { op = op; a = a; b = 31; c = c; way = way.Other; number = 1; within = 0; literal = literal }

-- ZAPNOT and ZAP keep and clear the bytes that a mask names
abbrev pub with_literal : OperateOp → (a literal c : ℕ) → Flat
with_literal row.Zapnot a mask c = by_literal row.And a (spread mask) c
with_literal row.Zap a mask c = by_literal row.Bic a (spread mask) c
with_literal op a literal c = by_literal op a literal c

abbrev pub operation : OperateOp → (a : ℕ) → Second → (c : ℕ) → Flat
operation op a (Register b) c = by_register op a b c
operation op a (Literal literal) c = with_literal op a literal c

-- LDA and LDAH add a displacement
abbrev pub sum : MemoryOp → (a base : ℕ) → ℤ → Flat
sum op a base disp = by_literal row.Addq base (times (cast_unsigned w64 disp) (scale_of op)) a

-- what R31 doesn't keep isn't computed
abbrev pub in_form : Flat → Flat
in_form f = if f.c == 31 then nothing else f

-- ---- words of a code
-- a word at which no block begins, and one at which a block begins
abbrev pub is_inside : Code → (word : ℕ) → Bool
is_inside code word = nat_lt word (length code.words) && not (is_some (address_at code.map word))

abbrev pub is_begun : Code → (word : ℕ) → Bool
is_begun code word = nat_lt word (length code.words) && is_some (address_at code.map word)

-- an operation behind which a block begins
abbrev pub ending : Flat → Flat
ending f = record f { way = way.Ends; number = 0 }

-- an operation is straight where no block begins at the next word
abbrev pub straight_at : Code → (place : ℕ) → Flat → Flat
straight_at code place f =
    if is_inside code (place + 1) then in_form f else if is_begun code (place + 1) then ending (in_form f) else other

-- an access is none
abbrev pub memory_at : Code → (place : ℕ) → MemoryOp → (a base : ℕ) → ℤ → Flat
memory_at code place op a base disp = if is_some (kind_of op) then stop else straight_at code place (sum op a base disp)

-- BR or BSR with R31 goes to a block, and writes nothing
abbrev pub lands_at : Code → BranchOp → (a target : ℕ) → Bool
lands_at code op a target = links op && (a == 31 && is_begun code target)

-- a branch writes no register, and goes on inside its block where it isn't taken; and where it is
abbrev pub stays_behind : Code → (place : ℕ) → BranchOp → (a : ℕ) → Bool
stays_behind code place op a = if links op then a == 31 else is_inside code (place + 1)

abbrev pub stays_inside : Code → (place : ℕ) → BranchOp → (a target : ℕ) → Bool
stays_inside code place op a target = stays_behind code place op a && is_inside code target

abbrev pub landing : (target : ℕ) → Flat
landing target = record { op = row.Bis; a = 31; b = 31; c = 31; way = way.Lands; number = 0; within = 0; literal = target }

abbrev pub branching : BranchOp → (a target : ℕ) → Flat
branching op a target = record { op = row.Bis; a = a; b = 31; c = 31; way = way.Branches op; number = 0; within = 0; literal = target }

-- a conditional branch by which another block may be reached
abbrev pub forking : BranchOp → (a target : ℕ) → Flat
forking op a target = record { op = row.Bis; a = a; b = 31; c = 31; way = way.Forks op; number = 0; within = 0; literal = target }

abbrev pub leaving : BranchOp → (a target : ℕ) → Flat
leaving op a target = if links op then other else forking op a target

abbrev pub branch_to : Code → (place : ℕ) → BranchOp → (a target : ℕ) → Flat
branch_to code place op a target =
    if lands_at code op a target then landing target else if stays_inside code place op a target then branching op a target else leaving op a target

abbrev pub branch_at : Code → (place : ℕ) → BranchOp → (a : ℕ) → ℤ → Flat
branch_at code place op a disp = branch_to code place op a (target_of place disp)

-- the word there, by its instruction and for itself: 1 is its number where it is straight, else 0
abbrev pub flat_by : Code → (place : ℕ) → AlphaInstr → Flat
flat_by code place (Memory op ra rb disp) = memory_at code place op ra rb disp
flat_by code place (Branch op ra disp) = branch_at code place op ra disp
flat_by code place (Operate op ra rb rc) = straight_at code place (operation op ra rb rc)
flat_by code place (Jump ra rb) = other
flat_by code place (Pal number) = stop

abbrev pub flat_at : Code → (place : ℕ) → Flat
flat_at code place = unwrap_or (option_map (flat_by code place) (fetch_of code.words place)) other

-- an access or a PALcode call makes no local step
abbrev pub stops_by : Option AlphaInstr → Bool
stops_by (Some (Memory op ra rb disp)) = is_some (kind_of op)
stops_by (Some (Pal number)) = true
stops_by _ = false

abbrev pub stops_at : Code → (place : ℕ) → Bool
stops_at code place = stops_by (fetch_of code.words place)

-- ---- words in a row
-- how many words are straight from one on, at most so many
abbrev pub straight_words : Code → (place most : ℕ) → ℕ
straight_words code place zero = 0
straight_words code place (suc most) = if (flat_at code place).number == 0 then 0 else suc (straight_words code (place + 1) most)

-- what a byte counts
abbrev pub most_straight : ℕ
most_straight = 2 ^ 8 - 1

-- ---- guesses
-- A guess: within how many steps, all local, a word comes to another block; 0 where none is told, as at a branch back. It tells where a run need not look: nothing rests on it but speed.
-- one step more than the words behind are guessed to take; 0 behind 0, and where a byte doesn't count it
abbrev pub one_step_more : ℕ → ℕ
one_step_more behind = if behind == 0 then 0 else (behind + 1) % 2 ^ 8

-- of a word inside the block; 0 where another begins
abbrev pub guess_inside : Code → (later : ℕ → ℕ) → (word : ℕ) → ℕ
guess_inside code later word = if is_begun code word then 0 else later word

-- by the guesses of later words
abbrev pub guess_by : Code → (later : ℕ → ℕ) → (place : ℕ) → Flat → Way → ℕ
guess_by code later place f way.Other = if f.number == 0 then 0 else one_step_more (later (place + 1))
guess_by code later place f way.Stops = 0
guess_by code later place f way.Lands = 1
guess_by code later place f way.Ends = 1
guess_by code later place f (way.Forks op) = min (max (guess_inside code later f.literal) (guess_inside code later (place + 1)) + 1) most_straight
guess_by code later place f (way.Branches op) = one_step_more (max (later f.literal) (later (place + 1)))

abbrev pub guess_of : Code → (later : ℕ → ℕ) → (place : ℕ) → Flat → ℕ
guess_of code later place f = guess_by code later place f f.way

abbrev pub later_than : (place : ℕ) → (guesses : ℕ → ℕ) → (word : ℕ) → ℕ
later_than place guesses word = if nat_lt place word then guesses word else 0

-- by so many words from there on
unfoldable pub guess_within : Code → (words place : ℕ) → ℕ
guess_within code zero place = 0
guess_within code (suc words) place = guess_of code (later_than place (guess_within code words)) place (flat_at code place)

unfoldable pub guess : Code → (place : ℕ) → ℕ
guess code place = guess_within code (length code.words) place

-- ---- the flat words
-- what is guessed of one of these; 0 behind them
abbrev pub guess_told : Option Flat → ℕ
guess_told None = 0
guess_told (Some f) = f.within

abbrev pub guess_at : List Flat → (word : ℕ) → ℕ
guess_at flats word = guess_told (slice_get flats word)

-- the word there, with how many are straight from it on and with its guess
abbrev pub flat_of : Code → (place : ℕ) → Flat
flat_of code place = record (flat_at code place) { number = straight_words code place most_straight; within = guess code place }

pub record AreKnown (code : Code) (flats : List Flat) : Type 0 where
  pub counted : length flats ≡ length code.words
  pub each : (k : ℕ) (f : Flat) → slice_get flats k ≡ Some f → f ≡ flat_of code k
