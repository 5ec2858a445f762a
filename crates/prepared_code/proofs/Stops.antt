-- Which words are known to make no local step.
use Rattle.std.proofs.Common.{◌≡◌, ℕ, ◌+◌, ◌<◌, ◌≤◌, ◌==◌, if◌then◌else◌, Bool, true, false, nat_lt, ltb-true, List, length, get_or, Option, Some, None, refl, sym, ap, ◌∙◌, arith}
use Rattle.std.specs.Prelude.{is_some, option_map, slice_index}
use Rattle.std.specs.Option.{unwrap_or}
use Rattle.alpha_encode.specs.Words.{instr_at}
use Rattle.alpha_encode.specs.declared.instr.AlphaInstr.{AlphaInstr}
use Rattle.alpha_encode.specs.declared.instr.AlphaInstr.TheVariants.{Memory, Branch, Operate, Jump, Pal}
use Rattle.alpha_encode.specs.declared.instr.BranchOp.{BranchOp}
use Rattle.alpha_encode.specs.declared.instr.OperateOp.{OperateOp}
use Rattle.alpha_encode.specs.declared.instr.OperateOp.TheVariants as row
use Rattle.alpha_encode.specs.declared.instr.Second.{Second}
use Rattle.alpha_encode.specs.declared.instr.Second.TheVariants.{Register, Literal}
use Rattle.alpha_meaning.specs.Act.{links}
use Rattle.alpha_meaning.specs.Memory.{kind_of}
use Rattle.block_law.specs.Translations.{Code, fetch_of}
use Rattle.prepared_code.specs.Known.{AreKnown, branch_to, branching, ending, flat_by, forking, is_begun, is_inside, landing, lands_at, nothing, operation, other, stays_inside, stop, stops_at, stops_by, straight_at, sum, with_literal}
use Rattle.prepared_code.specs.declared.flat.Flat.{Flat}
use Rattle.prepared_code.specs.declared.flat.Way.{Way}
use Rattle.prepared_code.specs.declared.flat.Way.TheVariants as way
use Rattle.prepared_code.proofs.Strides.{known_there}

stops : Way → Bool
stops way.Stops = true
stops _ = false

-- ---- each word by its instruction
straight_on : (code : Code) (place : ℕ) (f : Flat) → f.way ≡ way.Other → stops (straight_at code place f).way ≡ false
unfolding stops
straight_on code place f plain = by (is_inside code (place + 1)) (is_begun code (place + 1)) (f.c == 31)
  where
    by : (inside begun none : Bool) → stops (if inside then (if none then nothing else f) else if begun then ending (if none then nothing else f) else other).way ≡ false
    by true begun true = refl
    by true begun false = ap stops plain
    by false true true = refl
    by false true false = refl
    by false false none = refl

literal_is : (op : OperateOp) (a literal c : ℕ) → (with_literal op a literal c).way ≡ way.Other
literal_is row.Zapnot a literal c = refl
literal_is row.Zap a literal c = refl
literal_is op a literal c = refl

operation_is : (op : OperateOp) (a : ℕ) (second : Second) (c : ℕ) → (operation op a second c).way ≡ way.Other
operation_is op a (Register b) c = refl
operation_is op a (Literal literal) c = literal_is op a literal c

branch_on : (code : Code) (place : ℕ) (op : BranchOp) (a target : ℕ) → stops (branch_to code place op a target).way ≡ false
unfolding stops
branch_on code place op a target = by (lands_at code op a target) (stays_inside code place op a target) (links op)
  where
    by : (lands stays link : Bool) → stops (if lands then landing target else if stays then branching op a target else if link then other else forking op a target).way ≡ false
    by true stays link = refl
    by false true link = refl
    by false false true = refl
    by false false false = refl

by_instr : (code : Code) (place : ℕ) (o : Option AlphaInstr) → stops (unwrap_or (option_map (flat_by code place) o) other).way ≡ stops_by o
unfolding stops
by_instr code place None = refl
by_instr code place (Some (Memory op ra rb disp)) = by (is_some (kind_of op))
  where
    by : (b : Bool) → stops (if b then stop else straight_at code place (sum op ra rb disp)).way ≡ b
    by true = refl
    by false = straight_on code place (sum op ra rb disp) refl
by_instr code place (Some (Branch op ra disp)) = branch_on code place op ra _
by_instr code place (Some (Operate op ra rb rc)) = straight_on code place (operation op ra rb rc) (operation_is op ra rb rc)
by_instr code place (Some (Jump ra rb)) = refl
by_instr code place (Some (Pal number)) = refl

-- ---- the word that is looked up
told : (code : Code) (flats : List Flat) (place : ℕ) (f : Flat) → AreKnown code flats → place < length flats → f ≡ get_or flats place f → stops f.way ≡ stops_at code place
told code flats place f known within found = ap (λ (g : Flat). stops g.way) (known_there code flats place f known within found) ∙ by_instr code place (fetch_of code.words place)

pub stops_there : (code : Code) (flats : List Flat) (place : ℕ) (f : Flat) → AreKnown code flats → place < length flats → f ≡ get_or flats place f → f.way ≡ way.Stops → true ≡ stops_at code place
unfolding stops
stops_there code flats place f known within found is = sym (ap stops is) ∙ told code flats place f known within found

pub goes_on_there : (code : Code) (flats : List Flat) (place : ℕ) (f : Flat) → AreKnown code flats → place < length flats → f ≡ get_or flats place f → (f.way ≡ way.Stops → ⊥) → false ≡ stops_at code place
unfolding stops
goes_on_there code flats place f known within found not = sym (none f.way not) ∙ told code flats place f known within found
  where
    none : (w : Way) → (w ≡ way.Stops → ⊥) → stops w ≡ false
    none way.Stops h = absurd (h refl)
    none _ h = refl

pub stops_nowhere : (code : Code) (place : ℕ) → length code.words ≤ place → false ≡ stops_at code place
stops_nowhere code place past = by (nat_lt place (length code.words)) refl
  where
    by : (b : Bool) → nat_lt place (length code.words) ≡ b → false ≡ stops_by (if b then instr_at (slice_index code.words place) else None)
    by true e = absurd (omega (arith, ltb-true place (length code.words) e, past))
    by false e = refl
