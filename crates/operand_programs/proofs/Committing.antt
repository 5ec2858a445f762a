-- Pushes fit alike, and commits and results fit behind whatever committed nothing.
use Rattle.std.proofs.Common.{◌≡◌, ℕ, zero, suc, ◌+◌, ◌<◌, ◌≤◌, eqb, Bool, true, false, List, [], ◌∷◌, ◌++◌, length, get_or, set, Some, None, refl, sym, ap, ◌∙◌, subst, arith, inl, inr, lit<, length-set}
use Rattle.std.specs.Prelude.{not, min, option_and_then, if◌then◌else◌}
use Rattle.std.proofs.lemmas.Bool.{and_parts, not-true, eqb-true, cases_eq, both_ways}
use Rattle.std.proofs.lemmas.Bool.Decides.{eqb_tells}
use Rattle.std.proofs.lemmas.List.{length-map, map-set, set-set, set_comm}
use Rattle.vax_form.specs.declared.instr.Operand.TheVariants.{Unused, Value, Register, Place, Target}
use Rattle.vax_form.specs.declared.instr.Size.TheVariants.{Byte, Word, Long, Quad}
use Rattle.micro_ops.specs.Fits.{step, walk}
use Rattle.micro_ops.specs.Known.{held, holds, has_flag, is_something, is_committed, behind_write, behind_commit}
use Rattle.micro_ops.specs.declared.codes.CodeSources.{CodeSources}
use Rattle.micro_ops.specs.declared.known.Holding.TheVariants.{Nothing, Wide, Longword}
use Rattle.micro_ops.specs.declared.known.Known.{Known}
use Rattle.micro_ops.specs.declared.program.Arg.TheVariants as args
use Rattle.micro_ops.specs.declared.program.Arg.TheVariants.{Temp, Const}
use Rattle.micro_ops.specs.declared.program.Micro.{Micro}
use Rattle.micro_ops.specs.declared.program.Micro.TheVariants.{Compute, Commit}
use Rattle.micro_ops.specs.declared.program.MicroOp.TheVariants as ops
use Rattle.micro_ops.proofs.Held.{flag_other, held_other}
use Rattle.operand_programs.specs.Specifiers.{sum_into, store_program, commit_program}
use Rattle.operand_programs.specs.InOrder.{no_steps}
use Rattle.operand_programs.specs.Results.{steps_behind_push, cleared_program, low_program, pair_program, finish_program}
use Rattle.operand_programs.specs.Knowing.{KnowsMore, FitsBetween}
use Rattle.operand_programs.specs.Behind.{are_clear, is_uncommitted, behind_commits, stepping, finishing, PushFits, CommitsFit, FinishFits}
use Rattle.operand_programs.proofs.More.{no_more, knows_itself, covers_write, fits_joined, knowing_less}
use Rattle.operand_programs.proofs.Walking.{clear_flag, nothing_fits, computes, register_fits, commits}

-- ---- the stack
sums_alike : (codes : CodeSources) (known : Known) (to n offset : ℕ) → step codes known (sum_into to (Some n) offset) ≡ step codes known (sum_into to (Some n) 0)
unfolding step
sums_alike codes known to n offset = elim (eqb_tells offset 0) [ inl is ↦ rw is.0 refl | inr not ↦ rw not.0 refl ]

pub push_fits : PushFits
push_fits codes steps place from known =
    ap (λ o. if known.ended then None else option_and_then (λ behind. walk codes behind (store_program Long place from)) o)
    (sums_alike codes known place 14 (get_or (steps_behind_push steps) 14 0) ∙ sym (sums_alike codes known place 14 (get_or (steps_behind_push no_steps) 14 0)))

-- ---- steps
flag_of_step : (steps : List ℕ) (number : ℕ) → has_flag (stepping steps) number ≡ not (eqb (get_or steps number 0) 0)
flag_of_step [] number = refl
flag_of_step (step ∷ steps) zero = refl
flag_of_step (step ∷ steps) (suc number) = flag_of_step steps number

-- fewer registers were committed
fewer_commits : (registers : List Bool) (known : Known) → length registers ≡ length known.committed → ((number : ℕ) → is_committed known number ≡ true → has_flag registers number ≡ true)
    → KnowsMore (behind_commits registers known) known
fewer_commits registers known same implies = record {
  temps = λ temp. elim (cases_eq temp 5) [ inl is ↦ rw is tt | inr not ↦ rw (held_other Nothing known 5 temp not) (no_more (held known temp)) ];
  high = refl;
  checked = tt;
  changed = λ e. refl;
  committed = implies;
  registers = same;
  codes = refl;
  psw = refl;
  ended = refl;
}

commit_fits : (codes : CodeSources) (number step : ℕ) (known : Known) → known.ended ≡ false → number < 15 → is_committed known number ≡ false
    → FitsBetween codes known (Compute 5 ops.Add Long (args.Register number) (Const step) ∷ Commit number 5 ∷ []) (behind_commit number (behind_write 5 Longword known))
commit_fits codes number step known on low uncommitted =
    fits_joined codes (Compute 5 ops.Add Long (args.Register number) (Const step) ∷ []) (Commit number 5 ∷ []) known (behind_write 5 Longword known) (behind_commit number (behind_write 5 Longword known))
    (computes codes known 5 ops.Add Long (args.Register number) (Const step) on (lit< tt) (register_fits known number low uncommitted) refl refl)
    (commits codes (behind_write 5 Longword known) number 5 on low refl uncommitted)

module _ (codes : CodeSources) (registers : List Bool) where
  steps_fit : (number : ℕ) (steps : List ℕ) (known : Known) → number + length steps ≤ 15 → known.ended ≡ false
      → length registers ≡ length known.committed → length known.committed ≡ 15
      → ((other : ℕ) → number ≤ other → is_committed known other ≡ false)
      → ((other : ℕ) → is_committed known other ≡ true → has_flag registers other ≡ true)
      → ((k : ℕ) → eqb (get_or steps k 0) 0 ≡ false → has_flag registers (number + k) ≡ true)
      → FitsBetween codes known (commit_program number steps) (behind_commits registers known)
  steps_fit number [] known room on same whole free before stepped =
      knowing_less codes [] known known (behind_commits registers known) (fewer_commits registers known same before) (nothing_fits codes known)
  steps_fit number (step ∷ steps) known room on same whole free before stepped = elim (eqb_tells step 0) [
    | inl is ↦ rw is.0 (steps_fit (number + 1) steps known (omega (arith, room)) on same whole (λ other le. free other (omega (arith, le))) before later)
    | inr not ↦ rw not.0 (fits_joined codes (Compute 5 ops.Add Long (args.Register number) (Const step) ∷ Commit number 5 ∷ []) (commit_program (number + 1) steps) known (behind_commit number (behind_write 5 Longword known)) (behind_commits registers known)
        (commit_fits codes number step known on (omega (arith, room)) (free number (omega arith)))
        (steps_fit (number + 1) steps (behind_commit number (behind_write 5 Longword known)) (omega (arith, room)) on
        (same ∙ sym (length-set known.committed number true)) (length-set known.committed number true ∙ whole)
        (λ other le. flag_other known.committed number other (λ e. omega (arith, e, le)) ∙ free other (omega (arith, le)))
        (still not.0) later))
  ]
    where
      later : (k : ℕ) → eqb (get_or steps k 0) 0 ≡ false → has_flag registers (number + 1 + k) ≡ true
      later k is = ap (has_flag registers) (omega arith) ∙ stepped (suc k) is

      still : eqb step 0 ≡ false → (other : ℕ) → has_flag (set known.committed number true) other ≡ true → has_flag registers other ≡ true
      still is other e = elim (cases_eq other number) [
        | inl here ↦ ap (has_flag registers) (omega (arith, here)) ∙ stepped 0 is
        | inr elsewhere ↦ before other (sym (flag_other known.committed number other elsewhere) ∙ e)
      ]

uncommitted_parts : (known : Known) → is_uncommitted known ≡ true → (known.ended ≡ false) × (are_clear 15 known.committed ≡ true)
uncommitted_parts known is = let parts = and_parts (not known.ended) (are_clear 15 known.committed) is in (not-true _ parts.0, parts.1)

clear_length : (flags : List Bool) → are_clear 15 flags ≡ true → length flags ≡ 15
clear_length flags clear = eqb-true _ _ (and_parts (eqb (length flags) 15) _ clear).0

pub commits_fit : CommitsFit
commits_fit codes steps known whole is =
    let parts = uncommitted_parts known is in
    let room = clear_length known.committed parts.1 in
    steps_fit codes (stepping steps) 0 steps known (omega (arith, whole)) parts.0 (length-map steps _ ∙ whole ∙ sym room) room
    (λ other le. clear_flag 15 known.committed other parts.1) (λ other e. absurd (both_ways _ (clear_flag 15 known.committed other parts.1) e))
    (λ k e. ap (has_flag (stepping steps)) (omega arith) ∙ flag_of_step steps k ∙ ap not e)

-- ---- results
-- temporary 5 need not be known
behind_fifth : (registers : List Bool) (known : Known) → KnowsMore (behind_commits registers known) (behind_write 5 Wide (behind_commits registers known))
behind_fifth registers known = covers_write (behind_commits registers known) (behind_commits registers known) (knows_itself _) 5 Wide (lit< tt) tt refl

holds_still : (registers : List Bool) (known : Known) (from : ℕ) → from < 4 → holds known from ≡ true → holds (behind_commits registers known) from ≡ true
holds_still registers known from low holding = ap is_something (held_other Nothing known 5 from (λ e. omega (arith, e, low))) ∙ holding

module _ (codes : CodeSources) (known : Known) (on : known.ended ≡ false) (registers : List Bool) where
  abbrev with_registers : List Bool → Known
  with_registers flags = behind_commits flags known

  cleared_fits : (n step mask : ℕ) → n < 15 → has_flag registers n ≡ false
      → FitsBetween codes (with_registers registers) (cleared_program n step mask) (behind_write 5 Longword (with_registers registers))
  cleared_fits n step mask low free =
      let k = with_registers registers in
      let fifth = behind_write 5 Longword k in
      let found = register_fits k n low free in
      elim (eqb_tells step 0) [
        | inl is ↦ rw is.0 (computes codes k 5 ops.AndNot Long (args.Register n) (Const mask) on (lit< tt) found refl refl)
        | inr not ↦ rw not.0 (fits_joined codes (Compute 5 ops.Add Long (args.Register n) (Const step) ∷ []) (Compute 5 ops.AndNot Long (Temp 5) (Const mask) ∷ []) k fifth fifth
            (computes codes k 5 ops.Add Long (args.Register n) (Const step) on (lit< tt) found refl refl)
            (computes codes fifth 5 ops.AndNot Long (Temp 5) (Const mask) on (lit< tt) refl refl refl))
      ]

  low_fits : (n : ℕ) (steps : List ℕ) (mask from : ℕ) → n < 15 → from < 4 → holds known from ≡ true → has_flag registers n ≡ false
      → FitsBetween codes (with_registers registers) (low_program n steps mask from) (with_registers (set registers n true))
  low_fits n steps mask from low f holding free =
      let k = with_registers registers in
      let fifth = behind_write 5 Longword k in
      let joined = behind_write 5 Wide k in
      let behind = behind_write 5 Wide (with_registers (set registers n true)) in
      knowing_less codes (low_program n steps mask from) k behind (with_registers (set registers n true)) (behind_fifth (set registers n true) known)
      (fits_joined codes (cleared_program n (get_or steps n 0) mask) (Compute 5 ops.Or Quad (Temp 5) (Temp from) ∷ Commit n 5 ∷ []) k fifth behind
      (cleared_fits n (get_or steps n 0) mask low free)
      (fits_joined codes (Compute 5 ops.Or Quad (Temp 5) (Temp from) ∷ []) (Commit n 5 ∷ []) fifth joined behind
      (computes codes fifth 5 ops.Or Quad (Temp 5) (Temp from) on (lit< tt) refl (ap is_something (held_other Longword k 5 from (λ e. omega (arith, e, f))) ∙ holds_still registers known from f holding) refl)
      (commits codes joined n 5 on low refl free)))

  pair_fits : (n from : ℕ) → n < 14 → from < 4 → holds known from ≡ true → has_flag registers n ≡ false → has_flag registers (min (n + 1) 255) ≡ false
      → FitsBetween codes (with_registers registers) (pair_program n from) (with_registers (set (set registers n true) (min (n + 1) 255) true))
  pair_fits n from low f holding free next_free =
      let next = min (n + 1) 255 in
      let first = set registers n true in
      let k = with_registers registers in
      let middle = with_registers first in
      let fifth = behind_write 5 Wide middle in
      let behind = behind_commit next fifth in
      knowing_less codes (pair_program n from) k behind (with_registers (set first next true))
      (covers_write (with_registers (set first next true)) (with_registers (set first next true)) (knows_itself _) 5 Wide (lit< tt) tt refl)
      (fits_joined codes (Commit n from ∷ []) (Compute 5 ops.ShiftRight Quad (Temp from) (Const 32) ∷ Commit next 5 ∷ []) k middle behind
      (commits codes k n from on (omega (arith, low)) (holds_still registers known from f holding) free)
      (fits_joined codes (Compute 5 ops.ShiftRight Quad (Temp from) (Const 32) ∷ []) (Commit next 5 ∷ []) middle fifth behind
      (computes codes middle 5 ops.ShiftRight Quad (Temp from) (Const 32) on (lit< tt) (holds_still first known from f holding) refl refl)
      (commits codes fifth next 5 on (omega (arith, low)) refl (flag_other registers n next (λ e. omega (arith, e, low)) ∙ next_free))))

-- a step that is taken back is none
taken_back : (steps : List ℕ) (n : ℕ) → stepping (set steps n 0) ≡ set (stepping steps) n false
taken_back steps n = map-set _ steps n 0

cleared : (flags : List Bool) (n : ℕ) → has_flag (set flags n false) n ≡ false
cleared [] n = refl
cleared (flag ∷ flags) zero = refl
cleared (flag ∷ flags) (suc n) = cleared flags n

cleared_still : (flags : List Bool) (n other : ℕ) → has_flag flags other ≡ false → has_flag (set flags n false) other ≡ false
cleared_still [] n other is = refl
cleared_still (flag ∷ flags) zero zero is = refl
cleared_still (flag ∷ flags) zero (suc other) is = is
cleared_still (flag ∷ flags) (suc n) zero is = is
cleared_still (flag ∷ flags) (suc n) (suc other) is = cleared_still flags n other is

one_result : (codes : CodeSources) (n : ℕ) (steps : List ℕ) (known : Known) (give : List Micro) → length steps ≡ 15 → is_uncommitted known ≡ true
    → ((registers : List Bool) → has_flag registers n ≡ false → FitsBetween codes (behind_commits registers known) give (behind_commits (set registers n true) known))
    → FitsBetween codes known (commit_program 0 (set steps n 0) ++ give) (behind_commits (set (stepping steps) n true) known)
one_result codes n steps known give whole is gives =
    let registers = stepping (set steps n 0) in
    subst (λ flags. FitsBetween codes known (commit_program 0 (set steps n 0) ++ give) (behind_commits flags known)) (ap (λ flags. set flags n true) (taken_back steps n) ∙ set-set (stepping steps) n false true)
    (fits_joined codes (commit_program 0 (set steps n 0)) give known (behind_commits registers known) (behind_commits (set registers n true) known)
    (commits_fit codes (set steps n 0) known (length-set steps n 0 ∙ whole) is)
    (gives registers (ap (λ flags. has_flag flags n) (taken_back steps n) ∙ cleared (stepping steps) n)))

two_registers : (flags : List Bool) (n next : ℕ) → (n ≡ next → ⊥) → set (set (set (set flags n false) next false) n true) next true ≡ set (set flags n true) next true
two_registers flags n next ne =
    ap (λ fs. set fs next true) (sym (set_comm (set flags n false) n next true false ne))
    ∙ set-set (set (set flags n false) n true) next false true
    ∙ ap (λ fs. set fs next true) (set-set flags n false true)

two_results : (codes : CodeSources) (n : ℕ) (steps : List ℕ) (from : ℕ) (known : Known) → n < 14 → length steps ≡ 15 → from < 4 → holds known from ≡ true → is_uncommitted known ≡ true
    → FitsBetween codes known (finish_program (Register n) Quad steps from) (behind_commits (finishing (Register n) Quad steps) known)
two_results codes n steps from known low whole f holding is =
    let next = min (n + 1) 255 in
    let left = set (set steps n 0) next 0 in
    let registers = stepping left in
    let e : registers ≡ set (set (stepping steps) n false) next false = taken_back (set steps n 0) next ∙ ap (λ flags. set flags next false) (taken_back steps n) in
    subst (λ flags. FitsBetween codes known (finish_program (Register n) Quad steps from) (behind_commits flags known))
    (ap (λ flags. set (set flags n true) next true) e ∙ two_registers (stepping steps) n next (λ same. omega (arith, same, low)))
    (fits_joined codes (commit_program 0 left) (pair_program n from) known (behind_commits registers known) (behind_commits (set (set registers n true) next true) known)
    (commits_fit codes left known (length-set (set steps n 0) next 0 ∙ length-set steps n 0 ∙ whole) is)
    (pair_fits codes known (uncommitted_parts known is).0 registers n from low f holding
    (ap (λ flags. has_flag flags n) e ∙ cleared_still (set (stepping steps) n false) next n (cleared (stepping steps) n))
    (ap (λ flags. has_flag flags next) e ∙ cleared (set (stepping steps) n false) next)))

no_result : (codes : CodeSources) (steps : List ℕ) (known : Known) → length steps ≡ 15 → is_uncommitted known ≡ true
    → FitsBetween codes known (commit_program 0 steps ++ []) (behind_commits (stepping steps) known)
no_result codes steps known whole is =
    fits_joined codes (commit_program 0 steps) [] known (behind_commits (stepping steps) known) (behind_commits (stepping steps) known) (commits_fit codes steps known whole is) (nothing_fits codes _)

pub finish_fits : FinishFits
finish_fits codes (Register n) Byte steps from known named whole f holding is =
    one_result codes n steps known (low_program n steps 0xFF from) whole is (λ registers free. low_fits codes known (uncommitted_parts known is).0 registers n steps 0xFF from named f holding free)
finish_fits codes (Register n) Word steps from known named whole f holding is =
    one_result codes n steps known (low_program n steps 0xFFFF from) whole is (λ registers free. low_fits codes known (uncommitted_parts known is).0 registers n steps 0xFFFF from named f holding free)
finish_fits codes (Register n) Long steps from known named whole f holding is =
    one_result codes n steps known (Commit n from ∷ []) whole is (λ registers free. commits codes (behind_commits registers known) n from (uncommitted_parts known is).0 named (holds_still registers known from f holding) free)
finish_fits codes (Register n) Quad steps from known named whole f holding is = two_results codes n steps from known named whole f holding is
finish_fits codes (Place base index) size steps from known named whole f holding is = no_result codes steps known whole is
finish_fits codes Unused size steps from known named whole f holding is = no_result codes steps known whole is
finish_fits codes (Value value) size steps from known named whole f holding is = no_result codes steps known whole is
finish_fits codes (Target address) size steps from known named whole f holding is = no_result codes steps known whole is
