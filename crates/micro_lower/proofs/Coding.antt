-- The codes that a program sets are the instruction's, and where it leaves to is where the instruction goes on.
use Rattle.std.proofs.Common.{◌≡◌, ℕ, ◌+◌, ◌*◌, ◌/◌, ◌%◌, ◌^◌, ◌<◌, Bool, true, false, [], ◌∷◌, Option, Some, None, refl, ap, arith}
use Rattle.std.specs.Prelude.{◌==◌, ◌&&◌, not, if◌then◌else◌}
use Rattle.vt_words.proofs.Tests.{bit_tells}
use Rattle.vax_form.specs.Script.{◌>>◌, change}
use Rattle.vax_form.specs.State.{with_pc}
use Rattle.vax_form.specs.Tree.{Tree, Finish, Trap, tree_of, ends_with}
use Rattle.vax_form.specs.declared.script.End.TheVariants.{Done, Traps}
use Rattle.vax_form.specs.declared.pages.Pages.{Pages}
use Rattle.vax_form.specs.declared.state.VaxState.{VaxState}
use Rattle.vax_meaning.specs.Codes as vax
use Rattle.vt_words.specs.Values.{bit}
use Rattle.micro_ops.specs.Leaving.{CodesComeFrom, SignsComeFrom, CarryComesFrom}
use Rattle.micro_ops.specs.Course.{Leaves}
use Rattle.micro_ops.specs.Meaning.{Temps, Found, Standing, Ended, flag_of, course_of, carry_from, with_codes, leaves_by, leaves_with, departure_to}
use Rattle.micro_ops.specs.declared.codes.CodeSources.{CodeSources}
use Rattle.micro_ops.specs.declared.program.Exit.{Exit}
use Rattle.micro_ops.specs.declared.program.Exit.TheVariants.{Next, Fixed, Computed, Choice, Service, Breakpoint}
use Rattle.micro_ops.specs.declared.program.Micro.TheVariants.{Codes, Leave}
use Rattle.operand_programs.specs.Pieces.{Agrees, leaving}

-- the status word with other codes
abbrev pub coded_psw : (psw : ℕ) (n z v c : Bool) → ℕ
coded_psw psw n z v c = psw / 16 * 16 + (bit n * 8 + bit z * 4 + bit v * 2 + bit c)

bit_below : (b : Bool) → bit b < 2
bit_below true = omega arith
bit_below false = omega arith

n_in : (q x y z w : ℕ) → x < 2 → y < 2 → z < 2 → w < 2 → (q * 16 + (x * 8 + y * 4 + z * 2 + w)) / 8 % 2 ≡ x
n_in q x y z w a b c d = omega arith

z_in : (q x y z w : ℕ) → x < 2 → y < 2 → z < 2 → w < 2 → (q * 16 + (x * 8 + y * 4 + z * 2 + w)) / 4 % 2 ≡ y
z_in q x y z w a b c d = omega arith

v_in : (q x y z w : ℕ) → x < 2 → y < 2 → z < 2 → w < 2 → (q * 16 + (x * 8 + y * 4 + z * 2 + w)) / 2 % 2 ≡ z
v_in q x y z w a b c d = omega arith

c_in : (q x y z w : ℕ) → x < 2 → y < 2 → z < 2 → w < 2 → (q * 16 + (x * 8 + y * 4 + z * 2 + w)) / 1 % 2 ≡ w
c_in q x y z w a b c d = omega arith

-- the flags of such a word
pub record HasFlags (psw : ℕ) (n z v c : Bool) : Type 0 where
  pub negative : flag_of 0 psw ≡ bit n
  pub zero : flag_of 1 psw ≡ bit z
  pub overflow : flag_of 2 psw ≡ bit v
  pub carry : flag_of 3 psw ≡ bit c

pub flags_of_coded : (psw : ℕ) (n z v c : Bool) → HasFlags (coded_psw psw n z v c) n z v c
flags_of_coded psw n z v c = record {
  negative = n_in (psw / 16) (bit n) (bit z) (bit v) (bit c) (bit_below n) (bit_below z) (bit_below v) (bit_below c);
  zero = z_in (psw / 16) (bit n) (bit z) (bit v) (bit c) (bit_below n) (bit_below z) (bit_below v) (bit_below c);
  overflow = v_in (psw / 16) (bit n) (bit z) (bit v) (bit c) (bit_below n) (bit_below z) (bit_below v) (bit_below c);
  carry = c_in (psw / 16) (bit n) (bit z) (bit v) (bit c) (bit_below n) (bit_below z) (bit_below v) (bit_below c);
}

set_of : (x : ℕ) (b : Bool) → x ≡ bit b → not (x == 0) ≡ b
set_of x true is = rw is refl
set_of x false is = rw is refl

-- C is made, or is as it was found
abbrev pub IsCarry : Option ℕ → (temps : Temps) → (psw : ℕ) → Bool → Type 0
IsCarry None temps psw c = psw % 2 ≡ bit c
IsCarry (Some temp) temps psw c = temps temp ≡ bit c

carry_is : (from : Option ℕ) (standing : Standing) (c : Bool) → IsCarry from standing.temps standing.state.psw c → carry_from from standing ≡ bit c
carry_is None standing c is = is
carry_is (Some temp) standing c is = ap bit (set_of _ c is)

-- the exit goes to that address
abbrev pub GoesTo : Exit → Found → Temps → (pc : ℕ) → Type 0
GoesTo Next found temps pc = found.after ≡ pc
GoesTo (Fixed address) found temps pc = address ≡ pc
GoesTo (Computed temp) found temps pc = temps temp % 2 ^ 32 ≡ pc
GoesTo (Choice when taken other) found temps pc = (if temps when == 0 then other else taken) ≡ pc
GoesTo (Service temp) found temps pc = ⊥
GoesTo Breakpoint found temps pc = ⊥

-- an instruction that sets its codes and goes on, or traps
abbrev pub coded_end : Pages → (n z v c : Bool) → (pc : ℕ) → VaxState → Tree
coded_end pages n z v c pc state = tree_of pages (change (vax.with_codes n z v c) >> vax.finish pc) state ends_with

-- so does one that can't overflow
pub plain_end : (pages : Pages) (n z c : Bool) (pc : ℕ) (state : VaxState)
    → coded_end pages n z false c pc state ≡ tree_of pages (change (vax.with_codes n z false c) >> vax.go_to pc) state ends_with
unfolding Rattle.vax_meaning.specs.Codes.finish
plain_end pages n z c pc state = rw (flags_of_coded state.psw n z false c).overflow refl

departs : (exit : Exit) (found : Found) (standing : Standing) (pc : ℕ) → GoesTo exit found standing.temps pc → leaves_by exit found standing ≡ leaves_with (departure_to pc standing) standing
departs Next found standing pc goes = rw goes refl
departs (Fixed address) found standing pc goes = rw goes refl
departs (Computed temp) found standing pc goes = rw goes refl
departs (Choice when taken other) found standing pc goes = rw goes refl
departs (Service temp) found standing pc goes = absurd goes
departs Breakpoint found standing pc goes = absurd goes

-- what the codes come from, once they are set
pub record ComeFrom (codes : CodeSources) (found left : ℕ) (temps : Temps) : Type 0 where
  pub signs : SignsComeFrom codes.nzv found left temps
  pub carry : CarryComesFrom codes.c found left temps

module _ (codes : CodeSources) (start : VaxState) (pages : Pages) (thread : ℕ) where
  -- done, or a trap
  ends_so : (trap : Bool) (state : VaxState) (temps : Temps) → ComeFrom codes start.psw state.psw temps
      → Agrees (CodesComeFrom codes start) (leaving pages thread) (Leaves (record { departure = if trap then Ended (Trap 1 state) else Ended (Finish state); temps = temps })) (ends_with (if trap then Traps 1 else Done) state)
  ends_so true state temps come = (record { signs = come.signs; carry = come.carry }, refl)
  ends_so false state temps come = (record { signs = come.signs; carry = come.carry }, refl)

  -- leaving without new codes
  pub plain_leaves : (found : Found) (standing : Standing) (exit : Exit) (pc : ℕ) → standing.overflowed ≡ false → GoesTo exit found standing.temps pc
      → ComeFrom codes start.psw standing.state.psw standing.temps
      → Agrees (CodesComeFrom codes start) (leaving pages thread) (course_of (Leave exit ∷ []) found standing) (tree_of pages (vax.go_to pc) standing.state ends_with)
  plain_leaves found standing exit pc none goes come =
      rw (departs exit found standing pc goes, none) (record { signs = come.signs; carry = come.carry }, refl)

  module _ (n z v c : Bool) where
    set_codes : (nt zt vt : ℕ) (ct : Option ℕ) (standing : Standing) → standing.temps nt ≡ bit n → standing.temps zt ≡ bit z → standing.temps vt ≡ bit v
        → IsCarry ct standing.temps standing.state.psw c
        → with_codes nt zt vt ct standing ≡ record standing { state = vax.with_codes n z v c standing.state; overflowed = v }
    set_codes nt zt vt ct standing ni zi vi ci = rw (set_of _ n ni, set_of _ z zi, set_of _ v vi, carry_is ct standing c ci) refl

    pub codes_leave : (nt zt vt : ℕ) (ct : Option ℕ) (found : Found) (standing : Standing) (exit : Exit) (pc : ℕ)
        → standing.temps nt ≡ bit n → standing.temps zt ≡ bit z → standing.temps vt ≡ bit v → IsCarry ct standing.temps standing.state.psw c
        → GoesTo exit found standing.temps pc
        → ((psw : ℕ) → HasFlags psw n z v c → ComeFrom codes start.psw psw standing.temps)
        → Agrees (CodesComeFrom codes start) (leaving pages thread) (course_of (Codes nt zt vt ct ∷ Leave exit ∷ []) found standing) (coded_end pages n z v c pc standing.state)
    unfolding Rattle.vax_meaning.specs.Codes.finish
    codes_leave nt zt vt ct found standing exit pc ni zi vi ci goes come =
        let psw = coded_psw standing.state.psw n z v c in
        let flags = flags_of_coded standing.state.psw n z v c in
        rw (set_codes nt zt vt ct standing ni zi vi ci, departs exit found (record standing { state = vax.with_codes n z v c standing.state; overflowed = v }) pc goes, flags.overflow, bit_tells v)
        (ends_so (v && (flag_of 5 psw == 1)) (with_pc pc (vax.with_codes n z v c standing.state)) standing.temps (come psw flags))
