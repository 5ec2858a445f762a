-- A program that fits behind what is known also fits where more is known.
use Rattle.std.proofs.Common.{◌≡◌, ℕ, ◌<◌, Bool, true, false, List, [], ◌∷◌, length, Option, Some, None, refl, sym, ap, ◌∙◌, subst, inl, inr, length-set}
use Rattle.std.specs.Prelude.{◌&&◌, ◌||◌, not, if◌then◌else◌, option_and_then}
use Rattle.std.proofs.lemmas.Bool.{cases_eq, cases_lt, both_ways}
use Rattle.micro_ops.specs.Fits.{argument_fits, place_fits, reference_fits, code_fits, exit_holds, exit_fits, signs_are_held, carry_is_held, sources_fit, is_from_values, is_from_psw, when_fits, step, walk, same}
use Rattle.micro_ops.specs.Known.{held, with_held, holds, holds_longword, has_flag, is_something, is_longword, is_checked, is_committed, forgotten, behind_write, behind_access, behind_commit}
use Rattle.micro_ops.specs.Meaning.{locked_count}
use Rattle.micro_ops.specs.Uses.{is_unary, is_select}
use Rattle.micro_ops.specs.declared.codes.CodeSource.{CodeSource}
use Rattle.micro_ops.specs.declared.codes.CodeSource.TheVariants as sources
use Rattle.micro_ops.specs.declared.codes.CodeSources.{CodeSources}
use Rattle.micro_ops.specs.declared.known.Checked.{Checked}
use Rattle.micro_ops.specs.declared.known.Checked.TheVariants.{Nowhere, At}
use Rattle.micro_ops.specs.declared.known.Holding.{Holding}
use Rattle.micro_ops.specs.declared.known.Holding.TheVariants.{Nothing, Wide, Longword}
use Rattle.micro_ops.specs.declared.known.Known.{Known}
use Rattle.micro_ops.specs.declared.program.Arg.{Arg}
use Rattle.micro_ops.specs.declared.program.Arg.TheVariants.{Temp, Register, Flag, Const}
use Rattle.micro_ops.specs.declared.program.Exit.{Exit}
use Rattle.micro_ops.specs.declared.program.Exit.TheVariants as exits
use Rattle.micro_ops.specs.declared.program.Micro.{Micro}
use Rattle.micro_ops.specs.declared.program.Micro.TheVariants.{Compute, Probe, Refuse, Read, Write, Locked, Commit, Codes, SetPsw, Leave}
use Rattle.micro_ops.proofs.Walks.{walks_joined}
use Rattle.micro_ops.proofs.Held.{SameRest, flag_more, high_held, held_set, held_same, held_other, held_behind, lost_behind, rest_kept}
use Rattle.operand_programs.specs.Knowing.{IsNoMore, IsSameCheck, KnowsMore, FitsBetween, FitsBehindMore, FitsJoined}

-- ---- tests
abbrev Implies : Bool → Bool → Type 0
Implies a b = a ≡ true → b ≡ true

both : (a b a' b' : Bool) → Implies a a' → Implies b b' → Implies (a && b) (a' && b')
both true b a' b' f g e = rw (f refl, g e) refl
both false b a' b' f g e = cc

either : (a b b' : Bool) → Implies b b' → Implies (a || b) (a || b')
either true b b' g e = refl
either false b b' g e = g e

the_same : (a b : Bool) → a ≡ b → Implies a b
the_same a b is e = sym is ∙ e

itself : (a : Bool) → Implies a a
itself a e = e

not_back : (a b : Bool) → Implies b a → Implies (not a) (not b)
not_back a true implies e = absurd (both_ways (not a) (rw (implies refl) refl) e)
not_back a false implies e = refl

-- ---- holdings
pub no_more : (holding : Holding) → IsNoMore holding holding
no_more Nothing = tt
no_more Wide = tt
no_more Longword = tt

pub most : (holding : Holding) → IsNoMore holding Longword
most Nothing = tt
most Wide = tt
most Longword = tt

still_no_more : (x y z : Holding) → IsNoMore x y → IsNoMore y z → IsNoMore x z
still_no_more Nothing y z p q = tt
still_no_more Wide Nothing z p q = absurd p
still_no_more Wide Wide z p q = q
still_no_more Wide Longword Nothing p q = absurd q
still_no_more Wide Longword Wide p q = tt
still_no_more Wide Longword Longword p q = tt
still_no_more Longword Nothing z p q = absurd p
still_no_more Longword Wide z p q = absurd p
still_no_more Longword Longword z p q = q

something : (x y : Holding) → IsNoMore x y → Implies (is_something x) (is_something y)
something Nothing y p e = cc
something Wide Nothing p e = absurd p
something Wide Wide p e = refl
something Wide Longword p e = refl
something Longword Nothing p e = absurd p
something Longword Wide p e = absurd p
something Longword Longword p e = refl

longword : (x y : Holding) → IsNoMore x y → Implies (is_longword x) (is_longword y)
longword Nothing y p e = cc
longword Wide y p e = cc
longword Longword Nothing p e = absurd p
longword Longword Wide p e = absurd p
longword Longword Longword p e = refl

-- a temporary above 5 is wide or nothing
abbrev wide : Bool → Holding
wide b = if b then Wide else Nothing

from_wide : (a b : Bool) → IsNoMore (wide a) (wide b) → Implies a b
from_wide true true p e = refl
from_wide true false p e = absurd p
from_wide false b p e = cc

to_wide : (a b : Bool) → Implies a b → IsNoMore (wide a) (wide b)
to_wide true b implies = rw (implies refl) tt
to_wide false b implies = tt

-- ---- checks
pub same_check : (checked : Checked) → IsSameCheck checked checked
same_check Nowhere = tt
same_check (At place count write) = refl

still_same : (x y z : Checked) → IsSameCheck x y → IsSameCheck y z → IsSameCheck x z
still_same Nowhere y z p q = tt
still_same (At place count write) y z p q = subst (λ c. IsSameCheck c z) (sym p) q

still_checked : (x y : Checked) (place count : ℕ) (write : Bool) → IsSameCheck x y → Implies (is_checked x place count write) (is_checked y place count write)
still_checked Nowhere y place count write p e = cc
still_checked (At at bytes intent) y place count write p e = ap (λ c. is_checked c place count write) (sym p) ∙ e

forgets : (temp : ℕ) (x y : Checked) → IsSameCheck x y → IsSameCheck (forgotten temp x) (forgotten temp y)
forgets temp Nowhere y p = tt
forgets temp (At place count write) y p =
    subst (λ c. IsSameCheck (forgotten temp (At place count write)) (forgotten temp c)) p (same_check (forgotten temp (At place count write)))

-- ---- the order
pub knows_itself : (known : Known) → KnowsMore known known
knows_itself known = record {
  temps = λ temp. no_more (held known temp);
  high = refl;
  checked = same_check known.checked;
  changed = λ e. e;
  committed = λ number e. e;
  registers = refl;
  codes = refl;
  psw = refl;
  ended = refl;
}

pub knows_still_more : (least known more : Known) → KnowsMore least known → KnowsMore known more → KnowsMore least more
knows_still_more least known more l m = record {
  temps = λ temp. still_no_more (held least temp) (held known temp) (held more temp) (l.temps temp) (m.temps temp);
  high = l.high ∙ m.high;
  checked = still_same least.checked known.checked more.checked l.checked m.checked;
  changed = λ e. l.changed (m.changed e);
  committed = λ number e. l.committed number (m.committed number e);
  registers = l.registers ∙ m.registers;
  codes = l.codes ∙ m.codes;
  psw = l.psw ∙ m.psw;
  ended = l.ended ∙ m.ended;
}

-- where the temporaries hold as much, and the rest is the same but for the check
knows_by_temps : (known more known' more' : Known) → KnowsMore known more → SameRest known' known → SameRest more' more
    → ((temp : ℕ) → IsNoMore (held known' temp) (held more' temp)) → (checked checked' : Checked) → IsSameCheck checked checked'
    → KnowsMore (record known' { checked = checked }) (record more' { checked = checked' })
knows_by_temps known more known' more' m rest rest' temps checked checked' p = record {
  temps = temps;
  high = rest.high ∙ m.high ∙ sym rest'.high;
  checked = p;
  changed = λ e. rest.changed ∙ m.changed (sym rest'.changed ∙ e);
  committed = λ number e. ap (λ flags. has_flag flags number) rest.committed ∙ m.committed number (ap (λ flags. has_flag flags number) (sym rest'.committed) ∙ e);
  registers = ap length rest.committed ∙ m.registers ∙ ap length (sym rest'.committed);
  codes = rest.codes ∙ m.codes ∙ sym rest'.codes;
  psw = rest.psw ∙ m.psw ∙ sym rest'.psw;
  ended = rest.ended ∙ m.ended ∙ sym rest'.ended;
}

module _ (known more : Known) (m : KnowsMore known more) where
  held_more : (temp : ℕ) (holding : Holding) (other : ℕ) → IsNoMore (held (with_held temp holding known) other) (held (with_held temp holding more) other)
  held_more temp holding other = elim (cases_eq other temp) [
    | inl e ↦ subst (λ n. IsNoMore (held (with_held temp holding known) n) (held (with_held temp holding more) n)) (sym e) (elim (cases_lt temp 6) [
      | inl low ↦ rw (held_same holding known temp low, held_same holding more temp low) (no_more holding)
      | inr high ↦ rw (held_set holding known temp high, held_set holding more temp high)
          (to_wide _ _ (flag_more known.high more.high temp temp m.high (from_wide _ _ (rw (sym (high_held known temp high), sym (high_held more temp high)) (m.temps temp)))))
    ])
    | inr ne ↦ rw (held_other holding known temp other ne, held_other holding more temp other ne) (m.temps other)
  ]

  pub more_write : (temp : ℕ) (holding : Holding) → KnowsMore (behind_write temp holding known) (behind_write temp holding more)
  more_write temp holding =
      knows_by_temps known more (with_held temp holding known) (with_held temp holding more) m (rest_kept temp holding known) (rest_kept temp holding more) (held_more temp holding)
      (forgotten temp known.checked) (forgotten temp more.checked) (forgets temp known.checked more.checked m.checked)

  held_covered : (temp : ℕ) (holding : Holding) → temp < 6 → IsNoMore (held known temp) holding → (other : ℕ) → IsNoMore (held known other) (held (with_held temp holding more) other)
  held_covered temp holding low p other = elim (cases_eq other temp) [
    | inl e ↦ subst (λ n. IsNoMore (held known n) (held (with_held temp holding more) n)) (sym e) (rw (held_same holding more temp low) p)
    | inr ne ↦ rw (held_other holding more temp other ne) (m.temps other)
  ]

  -- a write that leaves as much, where no check is counted on
  pub covers_write : (temp : ℕ) (holding : Holding) → temp < 6 → IsNoMore (held known temp) holding → known.checked ≡ Nowhere → KnowsMore known (behind_write temp holding more)
  covers_write temp holding low p nowhere =
      knows_by_temps known more known (with_held temp holding more) m (record { high = refl; changed = refl; committed = refl; codes = refl; psw = refl; ended = refl }) (rest_kept temp holding more)
      (held_covered temp holding low p) known.checked (forgotten temp more.checked) (rw nowhere tt)

  pub more_checked : (checked checked' : Checked) → IsSameCheck checked checked' → KnowsMore (record known { checked = checked }) (record more { checked = checked' })
  more_checked checked checked' p =
      knows_by_temps known more known more m (record { high = refl; changed = refl; committed = refl; codes = refl; psw = refl; ended = refl })
      (record { high = refl; changed = refl; committed = refl; codes = refl; psw = refl; ended = refl }) m.temps checked checked' p

  -- any check, where none is counted on
  pub covers_checked : (checked : Checked) → known.checked ≡ Nowhere → KnowsMore known (record more { checked = checked })
  covers_checked checked nowhere = more_checked known.checked checked (rw nowhere tt)

  held_by : (temp : ℕ) → IsNoMore (held (behind_access known) temp) (held (behind_access more) temp)
  held_by temp = elim (cases_lt temp 4) [
    | inl low ↦ rw (held_behind known temp low, held_behind more temp low) (m.temps temp)
    | inr high ↦ rw (lost_behind known temp high) tt
  ]

  pub more_access : KnowsMore (behind_access known) (behind_access more)
  more_access = record {
    temps = held_by;
    high = refl;
    checked = m.checked;
    changed = m.changed;
    committed = m.committed;
    registers = m.registers;
    codes = m.codes;
    psw = m.psw;
    ended = m.ended;
  }

  more_commit : (number : ℕ) → KnowsMore (behind_commit number known) (behind_commit number more)
  more_commit number = record {
    temps = m.temps;
    high = m.high;
    checked = m.checked;
    changed = λ e. refl;
    committed = λ other. flag_more more.committed known.committed number other (sym m.registers) (m.committed other);
    registers = length-set known.committed number true ∙ m.registers ∙ sym (length-set more.committed number true);
    codes = m.codes;
    psw = m.psw;
    ended = m.ended;
  }

  more_codes : KnowsMore (record known { codes = true; changed = true }) (record more { codes = true; changed = true })
  more_codes = record { temps = m.temps; high = m.high; checked = m.checked; changed = λ e. refl; committed = m.committed; registers = m.registers; codes = refl; psw = m.psw; ended = m.ended }

  more_psw : KnowsMore (record known { psw = true; changed = true }) (record more { psw = true; changed = true })
  more_psw = record { temps = m.temps; high = m.high; checked = m.checked; changed = λ e. refl; committed = m.committed; registers = m.registers; codes = m.codes; psw = refl; ended = m.ended }

  more_ended : KnowsMore (record known { ended = true }) (record more { ended = true })
  more_ended = record { temps = m.temps; high = m.high; checked = m.checked; changed = m.changed; committed = m.committed; registers = m.registers; codes = m.codes; psw = m.psw; ended = refl }

  still_holds : (temp : ℕ) → Implies (holds known temp) (holds more temp)
  still_holds temp = something (held known temp) (held more temp) (m.temps temp)

  still_longword : (temp : ℕ) → Implies (holds_longword known temp) (holds_longword more temp)
  still_longword temp = longword (held known temp) (held more temp) (m.temps temp)

  still_uncommitted : (number : ℕ) → Implies (not (is_committed known number)) (not (is_committed more number))
  still_uncommitted number = not_back _ _ (m.committed number)

  argument : (arg : Arg) → Implies (argument_fits known arg) (argument_fits more arg)
  argument (Temp temp) = still_holds temp
  argument (Register number) = both _ _ _ _ (itself _) (still_uncommitted number)
  argument (Flag flag) = both _ _ _ _ (both _ _ _ _ (itself _) (the_same _ _ (ap not m.codes))) (the_same _ _ (ap not m.psw))
  argument (Const value) = itself _

  unchanged : Implies (not known.changed) (not more.changed)
  unchanged = not_back _ _ m.changed

  place_still : (place : ℕ) → Implies (place_fits known place) (place_fits more place)
  place_still place = both _ _ _ _ unchanged (still_longword place)

  reference_still : (place count : ℕ) (write : Bool) → Implies (reference_fits known place count write) (reference_fits more place count write)
  reference_still place count write = both _ _ _ _ (place_still place) (still_checked known.checked more.checked place count write m.checked)

  code_still : (code : Option ℕ) → Implies (code_fits known code) (code_fits more code)
  code_still None = itself _
  code_still (Some temp) = still_holds temp

  codes_still : Implies (not known.codes) (not more.codes)
  codes_still = the_same _ _ (ap not m.codes)

  psw_still : Implies (not known.psw) (not more.psw)
  psw_still = the_same _ _ (ap not m.psw)

  exit_holds_still : (temp : ℕ) → Implies (exit_holds known temp) (exit_holds more temp)
  exit_holds_still temp = both _ _ _ _ (both _ _ _ _ (still_holds temp) (itself _)) (itself _)

  exit_still : (exit : Exit) → Implies (exit_fits known exit) (exit_fits more exit)
  exit_still exits.Next = itself _
  exit_still (exits.Fixed address) = itself _
  exit_still (exits.Computed temp) = exit_holds_still temp
  exit_still (exits.Choice when taken other) = exit_holds_still when
  exit_still (exits.Service temp) = both _ _ _ _ (both _ _ _ _ (exit_holds_still temp) codes_still) psw_still
  exit_still exits.Breakpoint = unchanged

  two : (a b : ℕ) → Implies (holds known a && holds known b) (holds more a && holds more b)
  two a b = both _ _ _ _ (still_holds a) (still_holds b)

  three : (a b c : ℕ) → Implies (holds known a && holds known b && holds known c) (holds more a && holds more b && holds more c)
  three a b c = both _ _ _ _ (two a b) (still_holds c)

  signs_still : (source : CodeSource) → Implies (signs_are_held known source) (signs_are_held more source)
  signs_still sources.Kept = itself _
  signs_still sources.Zero = itself _
  signs_still (sources.Result size) = still_holds 2
  signs_still (sources.Add size) = three 0 1 2
  signs_still (sources.Sub size) = three 0 1 2
  signs_still (sources.Compare size) = two 0 1
  signs_still (sources.Computed size) = two 2 3
  signs_still sources.Psw = still_holds 2

  carry_still : (source : CodeSource) → Implies (carry_is_held known source) (carry_is_held more source)
  carry_still sources.Kept = itself _
  carry_still sources.Zero = itself _
  carry_still (sources.Result size) = itself _
  carry_still (sources.Add size) = two 0 1
  carry_still (sources.Sub size) = two 0 1
  carry_still (sources.Compare size) = two 0 1
  carry_still (sources.Computed size) = still_holds 4
  carry_still sources.Psw = still_holds 2

  sources_still : (codes : CodeSources) → Implies (sources_fit codes known) (sources_fit codes more)
  sources_still codes =
      both _ _ _ _ (both _ _ _ _ (both _ _ _ _ (the_same _ _ (ap (λ b. same b (is_from_values codes.nzv)) m.codes)) (the_same _ _ (ap (λ b. same b (is_from_psw codes.nzv)) m.psw))) (signs_still codes.nzv)) (carry_still codes.c)

-- an answer that knows more
abbrev pub Behind : Option Known → Known → Type 0
Behind answer behind = (behind_more : Known) × (answer ≡ Some behind_more) × KnowsMore behind behind_more

some_same : (x y : Known) → Some x ≡ Some y → x ≡ y
some_same x y is = ap (λ (o : Option Known). elim o [ None ↦ x | Some z ↦ z ]) is

goes_on : (b b' : Bool) (k k' behind : Known) → Implies b b' → KnowsMore k k' → when_fits b k ≡ Some behind → Behind (when_fits b' k') behind
goes_on true b' k k' behind implies m is = (k', rw (implies refl) refl, subst (λ x. KnowsMore x k') (some_same k behind is) m)
goes_on false b' k k' behind implies m is = cc

step_more : (codes : CodeSources) (operation : Micro) (known more behind : Known) → KnowsMore known more → step codes known operation ≡ Some behind → Behind (step codes more operation) behind
unfolding step
step_more codes (Compute to op size a b) known more behind m is =
    goes_on _ _ _ _ behind (both _ _ _ _ (both _ _ _ _ (both _ _ _ _ (itself _) (argument known more m a)) (either (is_unary op) _ _ (argument known more m b))) (either (not (is_select op)) _ _ (still_holds known more m to)))
    (more_write known more m to _) is
step_more codes (Probe place count write) known more behind m is =
    goes_on _ _ _ _ behind (both _ _ _ _ (itself _) (place_still known more m place)) (more_access _ _ (more_checked known more m (At place count write) (At place count write) refl)) is
step_more codes (Refuse when) known more behind m is = goes_on _ _ _ _ behind (both _ _ _ _ (unchanged known more m) (still_holds known more m when)) m is
step_more codes (Read to place count) known more behind m is =
    goes_on _ _ _ _ behind (both _ _ _ _ (itself _) (reference_still known more m place count false)) (more_access _ _ (more_write known more m to _)) is
step_more codes (Write place count from) known more behind m is =
    goes_on _ _ _ _ behind (both _ _ _ _ (both _ _ _ _ (itself _) (still_holds known more m from)) (reference_still known more m place count true)) (more_access known more m) is
step_more codes (Locked to place kind from) known more behind m is =
    goes_on _ _ _ _ behind (both _ _ _ _ (both _ _ _ _ (itself _) (still_holds known more m from)) (reference_still known more m place (locked_count kind) true)) (more_access _ _ (more_write known more m to Wide)) is
step_more codes (Commit register from) known more behind m is =
    goes_on _ _ _ _ behind (both _ _ _ _ (both _ _ _ _ (itself _) (still_holds known more m from)) (still_uncommitted known more m register)) (more_commit known more m register) is
step_more codes (Codes n z v c) known more behind m is =
    goes_on _ _ _ _ behind (both _ _ _ _ (both _ _ _ _ (both _ _ _ _ (both _ _ _ _ (codes_still known more m) (still_holds known more m n)) (still_holds known more m z)) (still_holds known more m v)) (code_still known more m c)) (more_codes known more m) is
step_more codes (SetPsw from) known more behind m is = goes_on _ _ _ _ behind (both _ _ _ _ (psw_still known more m) (still_holds known more m from)) (more_psw known more m) is
step_more codes (Leave exit) known more behind m is = goes_on _ _ _ _ behind (both _ _ _ _ (exit_still known more m exit) (sources_still known more m codes)) (more_ended known more m) is

-- ---- the walk
module _ (codes : CodeSources) (program : List Micro) (behind : Known)
    (rest : (first second : Known) → KnowsMore first second → walk codes first program ≡ Some behind → Behind (walk codes second program) behind) where
  abbrev After : Option Known → Option Known
  After answer = option_and_then (λ k. walk codes k program) answer

  on : (first : Known) (answer : Option Known) → Behind answer first → walk codes first program ≡ Some behind → Behind (After answer) behind
  on first answer answers is = rw answers.1 (rest first answers.0 answers.2 is)

  by : (ended ended' : Bool) → ended ≡ ended' → (o o' : Option Known) → ((first : Known) → o ≡ Some first → Behind o' first)
      → (if ended then None else After o) ≡ Some behind → Behind (if ended' then None else After o') behind
  by true ended' e o o' steps is = cc
  by false true e o o' steps is = cc
  by false false e None o' steps is = cc
  by false false e (Some first) o' steps is = on first o' (steps first refl) is

walk_more : (codes : CodeSources) (program : List Micro) (known more behind : Known) → KnowsMore known more → walk codes known program ≡ Some behind → Behind (walk codes more program) behind
walk_more codes [] known more behind m is = (more, refl, subst (λ x. KnowsMore x more) (some_same known behind is) m)
walk_more codes (operation ∷ program) known more behind m is =
    by codes program behind (λ first second m' is'. walk_more codes program first second behind m' is') known.ended more.ended m.ended
    (step codes known operation) (step codes more operation) (λ first is'. step_more codes operation known more first m is') is

pub fits_behind_more : FitsBehindMore
fits_behind_more codes program known behind is more m = walk_more codes program known more behind m is

pub fits_joined : FitsJoined
fits_joined codes first second known between behind one other more m =
    let a = one more m in
    let b = other a.0 a.2 in
    (b.0, walks_joined codes more first second ∙ ap (option_and_then (λ k. walk codes k second)) a.1 ∙ b.1, b.2)

-- ---- with less known behind, and more before
pub knowing_less : (codes : CodeSources) (program : List Micro) (known behind less : Known) → KnowsMore less behind → FitsBetween codes known program behind → FitsBetween codes known program less
knowing_less codes program known behind less l fits more m = let a = fits more m in (a.0, a.1, knows_still_more less behind a.0 l a.2)

pub knowing_more : (codes : CodeSources) (program : List Micro) (known known' behind : Known) → KnowsMore known known' → FitsBetween codes known program behind → FitsBetween codes known' program behind
knowing_more codes program known known' behind l fits more m = fits more (knows_still_more known known' more l m)
