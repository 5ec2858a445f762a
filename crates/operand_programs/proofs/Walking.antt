-- One operation behind what is known.
use Rattle.std.proofs.Common.{◌≡◌, ℕ, zero, suc, ◌<◌, ◌≤◌, eqb, Bool, true, false, List, [], ◌∷◌, length, Option, Some, None, refl, ap, ◌∙◌, arith, inl, inr}
use Rattle.std.specs.Prelude.{◌&&◌, ◌||◌, not, nat_le, option_and_then, if◌then◌else◌}
use Rattle.std.specs.List.{list_any}
use Rattle.std.proofs.lemmas.Bool.{lt-ltb, eq-eqb, cases_lt, and_from, and_parts, eqb-true, not-true}
use Rattle.std.proofs.lemmas.Bool.Decides.{eqb_tells}
use Rattle.vax_form.specs.Size.{bytes_of}
use Rattle.vax_form.specs.declared.instr.Size.{Size}
use Rattle.vax_form.specs.declared.instr.Size.TheVariants.{Byte, Word, Long, Quad}
use Rattle.micro_ops.specs.Fits.{argument_fits, computation_fits, commit_fits, is_count, are_apart, holding_of, when_fits, step, walk}
use Rattle.micro_ops.specs.Known.{held, holds, has_flag, is_longword, is_something, is_committed, behind_write, behind_access, behind_commit}
use Rattle.micro_ops.specs.Uses.{is_unary, is_select, leaves_longword}
use Rattle.micro_ops.specs.declared.codes.CodeSources.{CodeSources}
use Rattle.micro_ops.specs.declared.known.Checked.{Checked}
use Rattle.micro_ops.specs.declared.known.Checked.TheVariants.{Nowhere, At}
use Rattle.micro_ops.specs.declared.known.Holding.{Holding}
use Rattle.micro_ops.specs.declared.known.Holding.TheVariants.{Nothing, Longword}
use Rattle.micro_ops.specs.declared.known.Known.{Known}
use Rattle.micro_ops.specs.declared.program.Arg.{Arg}
use Rattle.micro_ops.specs.declared.program.Arg.TheVariants.{Register}
use Rattle.micro_ops.specs.declared.program.Micro.{Micro}
use Rattle.micro_ops.specs.declared.program.Micro.TheVariants.{Compute, Probe, Read, Commit}
use Rattle.micro_ops.specs.declared.program.MicroOp.{MicroOp}
use Rattle.micro_ops.proofs.Held.{held_other, held_behind, lost_behind, rest_kept}
use Rattle.operand_programs.specs.Specifiers.{sum_into}
use Rattle.operand_programs.specs.Registers.{IndexIsNamed}
use Rattle.operand_programs.specs.Knowing.{KnowsMore, FitsBetween}
use Rattle.operand_programs.specs.Behind.{are_clear, is_uncommitted, is_unchanged, lasting}
use Rattle.operand_programs.proofs.More.{no_more, same_check, fits_behind_more, knowing_less}

-- ---- what is open
-- nothing was changed
pub record IsOpen (known : Known) : Type 0 where
  pub goes_on : known.ended ≡ false
  pub unchanged : known.changed ≡ false
  pub uncommitted : (number : ℕ) → is_committed known number ≡ false
  pub high : length known.high ≡ 64

-- no temporary above 3 holds anything
pub record IsSettled (known : Known) : Type 0 where
  pub is_open : IsOpen known
  pub lost : (temp : ℕ) → 4 ≤ temp → held known temp ≡ Nothing

none_set : (flags : List Bool) (number : ℕ) → list_any (λ flag. flag) flags ≡ false → has_flag flags number ≡ false
none_set [] number e = refl
none_set (true ∷ flags) number e = cc
none_set (false ∷ flags) zero e = refl
none_set (false ∷ flags) (suc number) e = none_set flags number e

pub clear_flag : (count : ℕ) (flags : List Bool) (number : ℕ) → are_clear count flags ≡ true → has_flag flags number ≡ false
clear_flag count flags number clear = none_set flags number (not-true _ (and_parts (eqb (length flags) count) _ clear).1)

pub opens : (known : Known) → is_unchanged known ≡ true → IsOpen known
opens known is =
    let parts = and_parts (not known.changed && is_uncommitted known) (eqb (length known.high) 64) is in
    let first = and_parts (not known.changed) (is_uncommitted known) parts.0 in
    let second = and_parts (not known.ended) (are_clear 15 known.committed) first.1 in
    record {
      goes_on = not-true _ second.0;
      unchanged = not-true _ first.0;
      uncommitted = λ number. clear_flag 15 known.committed number second.1;
      high = eqb-true _ _ parts.1;
    }

pub open_write : (known : Known) (temp : ℕ) (holding : Holding) → IsOpen known → IsOpen (behind_write temp holding known)
open_write known temp holding o =
    let rest = rest_kept temp holding known in
    record {
      goes_on = rest.ended ∙ o.goes_on;
      unchanged = rest.changed ∙ o.unchanged;
      uncommitted = λ number. ap (λ flags. has_flag flags number) rest.committed ∙ o.uncommitted number;
      high = rest.high ∙ o.high;
    }

pub open_checked : (known : Known) (checked : Checked) → IsOpen known → IsOpen (record known { checked = checked })
open_checked known checked o = record { goes_on = o.goes_on; unchanged = o.unchanged; uncommitted = o.uncommitted; high = o.high }

pub settled_write : (known : Known) (temp : ℕ) (holding : Holding) → temp < 4 → IsSettled known → IsSettled (behind_write temp holding known)
settled_write known temp holding low s = record {
  is_open = open_write known temp holding s.is_open;
  lost = λ other high. held_other holding known temp other (λ e. omega (arith, e, low, high)) ∙ s.lost other high;
}

pub settled_checked : (known : Known) (checked : Checked) → IsSettled known → IsSettled (record known { checked = checked })
settled_checked known checked s = record { is_open = open_checked known checked s.is_open; lost = s.lost }

pub lasting_settled : (known : Known) → IsOpen known → IsSettled (lasting known)
lasting_settled known o = record {
  is_open = record { goes_on = o.goes_on; unchanged = o.unchanged; uncommitted = o.uncommitted; high = refl };
  lost = λ temp high. lost_behind (record known { checked = Nowhere }) temp high;
}

-- ---- one operation
pub nothing_fits : (codes : CodeSources) (known : Known) → FitsBetween codes known [] known
nothing_fits codes known more m = (more, refl, m)

on_one : (codes : CodeSources) (behind : Known) (ended : Bool) (o : Option Known) → ended ≡ false → o ≡ Some behind → (if ended then None else option_and_then (λ known. walk codes known []) o) ≡ Some behind
on_one codes behind true o on is = cc
on_one codes behind false None on is = cc
on_one codes behind false (Some known) on is = is

pub one : (codes : CodeSources) (known behind : Known) (operation : Micro) → known.ended ≡ false → step codes known operation ≡ Some behind → FitsBetween codes known (operation ∷ []) behind
one codes known behind operation on is = fits_behind_more codes (operation ∷ []) known behind (on_one codes behind known.ended (step codes known operation) on is)

when_true : (fits : Bool) (known : Known) → fits ≡ true → when_fits fits known ≡ Some known
when_true fits known is = rw is refl

pub computes : (codes : CodeSources) (known : Known) (to : ℕ) (op : MicroOp) (size : Size) (a b : Arg) → known.ended ≡ false → to < 6
    → argument_fits known a ≡ true → (is_unary op || argument_fits known b) ≡ true → is_select op ≡ false
    → FitsBetween codes known (Compute to op size a b ∷ []) (behind_write to (holding_of (leaves_longword (Compute to op size a b))) known)
unfolding step
computes codes known to op size a b on low first second whole =
    one codes known _ (Compute to op size a b) on
    (when_true (computation_fits known to op a b) _ (and_from _ _ (and_from _ _ (and_from _ _ (lt-ltb to 64 (omega (arith, low))) first) second) (rw whole refl)))

pub holds_it : (known : Known) (temp : ℕ) (holding : Holding) → held known temp ≡ holding → is_something holding ≡ true → holds known temp ≡ true
holds_it known temp holding is some = ap is_something is ∙ some

pub register_fits : (known : Known) (n : ℕ) → n < 15 → is_committed known n ≡ false → argument_fits known (Register n) ≡ true
register_fits known n low uncommitted = and_from _ _ (lt-ltb n 15 low) (rw uncommitted refl)

pub commits : (codes : CodeSources) (known : Known) (n from : ℕ) → known.ended ≡ false → n < 15 → holds known from ≡ true → is_committed known n ≡ false
    → FitsBetween codes known (Commit n from ∷ []) (behind_commit n known)
unfolding step
commits codes known n from on low holding uncommitted =
    one codes known _ (Commit n from) on (when_true (commit_fits known n from) _ (and_from _ _ (and_from _ _ (lt-ltb n 15 low) holding) (rw uncommitted refl)))

-- a register plus an offset
pub sums_register : (codes : CodeSources) (known : Known) (to n offset : ℕ) → known.ended ≡ false → to < 6 → argument_fits known (Register n) ≡ true
    → FitsBetween codes known (sum_into to (Some n) offset ∷ []) (behind_write to Longword known)
sums_register codes known to n offset on low fits = elim (eqb_tells offset 0) [
  | inl is ↦ rw is.0 (computes codes known to _ Long (Register n) _ on low fits refl refl)
  | inr not ↦ rw not.0 (computes codes known to _ Long (Register n) _ on low fits refl refl)
]

pub sums : (codes : CodeSources) (known : Known) (to : ℕ) (register : Option ℕ) (offset : ℕ) → IsOpen known → to < 6 → IndexIsNamed register
    → FitsBetween codes known (sum_into to register offset ∷ []) (behind_write to Longword known)
sums codes known to None offset o low named = computes codes known to _ Long _ _ o.goes_on low refl refl refl
sums codes known to (Some n) offset o low named = sums_register codes known to n offset o.goes_on low (register_fits known n named (o.uncommitted n))

-- ---- checks and reads
settled_access : (known : Known) → IsSettled known → KnowsMore known (behind_access known)
settled_access known s = record {
  temps = λ temp. elim (cases_lt temp 4) [ inl low ↦ rw (held_behind known temp low) (no_more (held known temp)) | inr high ↦ rw (s.lost temp high) tt ];
  high = s.is_open.high;
  checked = same_check known.checked;
  changed = λ e. e;
  committed = λ number e. e;
  registers = refl;
  codes = refl;
  psw = refl;
  ended = refl;
}

pub is_size_count : (size : Size) → is_count (bytes_of size) ≡ true
is_size_count Byte = refl
is_size_count Word = refl
is_size_count Long = refl
is_size_count Quad = refl

abbrev pub checked_at : (place count : ℕ) (write : Bool) → Known → Known
checked_at place count write known = record known { checked = At place count write }

pub checks : (codes : CodeSources) (known : Known) (place count : ℕ) (write : Bool) → IsSettled known → is_count count ≡ true → held known place ≡ Longword
    → FitsBetween codes known (Probe place count write ∷ []) (checked_at place count write known)
unfolding step
checks codes known place count write s is at =
    knowing_less codes (Probe place count write ∷ []) known _ (checked_at place count write known) (settled_access (checked_at place count write known) (settled_checked known _ s))
    (one codes known _ (Probe place count write) s.is_open.goes_on (when_true _ _ (and_from _ _ is (and_from _ _ (rw s.is_open.unchanged refl) (ap is_longword at)))))

pub apart : (a b : ℕ) → a < 4 → b < 4 → (eqb a b) ≡ false → are_apart a b ≡ true
apart a b x y z = and_from _ _ (and_from _ _ (lt-ltb a 4 x) (lt-ltb b 4 y)) (rw z refl)

pub reads : (codes : CodeSources) (known : Known) (to place count : ℕ) (write : Bool) → IsSettled known → is_count count ≡ true → held known place ≡ Longword
    → to < 4 → place < 4 → (eqb to place) ≡ false
    → FitsBetween codes (checked_at place count write known) (Read to place count ∷ []) (behind_write to (holding_of (nat_le count 4)) (checked_at place count write known))
unfolding step
reads codes known to place count write s is at t p ne =
    let checked = checked_at place count write known in
    knowing_less codes (Read to place count ∷ []) checked _ (behind_write to (holding_of (nat_le count 4)) checked) (settled_access _ (settled_write checked to _ t (settled_checked known _ s)))
    (one codes checked _ (Read to place count) s.is_open.goes_on (when_true _ _ (and_from _ _ (and_from _ _ is (apart to place t p ne))
    (and_from _ _ (and_from _ _ (rw s.is_open.unchanged refl) (ap is_longword at)) (rw (eq-eqb place place refl, eq-eqb count count refl) refl)))))
