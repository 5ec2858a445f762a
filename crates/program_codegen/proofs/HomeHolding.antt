-- What the registers of a block hold between two operations of a program whose operands are used where they stand.
use Rattle.std.proofs.Common.{◌≡◌, ℕ, ◌+◌, ◌-◌, ◌%◌, ◌^◌, ◌<◌, refl, sym, ap, ◌∙◌, subst, arith, Option, Some, None, Bool, true, false, eqb-true, length-set}
use Rattle.std.specs.Prelude.{◌==◌, ◌&&◌, ◌||◌, nat_lt, not, if◌then◌else◌, is_none}
use Rattle.std.proofs.lemmas.Bool.Decides.{nat_tests}
use Rattle.std.proofs.lemmas.Bool.{and_parts, eqb-false, ltb-true}
use Rattle.std.proofs.lemmas.Option.{same_Some}
use Rattle.vt_words.proofs.Longwords.{extended_fits}
use Rattle.vax_form.specs.State.{register}
use Rattle.vax_form.specs.declared.instr.Size.{Size}
use Rattle.alpha_meaning.specs.State.{Regs}
use Rattle.exception_records.specs.Codes.{is_ready}
use Rattle.micro_ops.specs.declared.codes.CodeSources.{CodeSources}
use Rattle.micro_ops.specs.declared.known.Holding.{Holding}
use Rattle.micro_ops.specs.declared.known.Holding.TheVariants.{Nothing}
use Rattle.micro_ops.specs.declared.known.Known.{Known}
use Rattle.micro_ops.specs.declared.program.Arg.{Arg}
use Rattle.micro_ops.specs.declared.program.Arg.TheVariants.{Temp, Register, Flag, Const}
use Rattle.micro_ops.specs.declared.program.MicroOp.{MicroOp}
use Rattle.micro_ops.specs.Fits.{argument_fits}
use Rattle.micro_ops.specs.Known.{held, is_committed, is_something, behind_write, behind_commit}
use Rattle.micro_ops.specs.Meaning.{Standing, value_of_arg, with_temp, with_value}
use Rattle.micro_ops.specs.Uses.{is_flag}
use Rattle.micro_ops.proofs.Held.{flag_other, flag_set, held_other, held_same}
use Rattle.compute_sequences.specs.Registers.{IsArgument, register_at, value_at}
use Rattle.block_law.specs.Placements.{Placement}
use Rattle.block_law.specs.Tidy.{is_kept}
use Rattle.program_codegen.specs.declared.homes.Homes.{Homes}
use Rattle.program_codegen.specs.declared.points.Site.{Site}
use Rattle.program_codegen.specs.Homes.{AreHomes, AreLasting, IsHome, IsLasting, argument_in, copied, extended_register, home_of, is_copying, placed, standing_in, stands_in, with_home}
use Rattle.program_codegen.specs.Ends.{are_left, is_left_alone, is_made_there}
use Rattle.program_codegen.specs.Direct.{is_exact}
use Rattle.program_codegen.specs.Programs.{rule_of}
use Rattle.program_codegen.proofs.Computing.{argument_is, argument_quad, checks_written, held_still, unchanged}
use Rattle.program_codegen.proofs.HomeNumbers.{IsExtended}
use Rattle.program_codegen.proofs.Holding.{Holds, HoldsAs, found}
use Rattle.program_codegen.proofs.Knowing.{SameChanges, write_changes}

-- ---- homes
module _ (to : ℕ) (home : Option ℕ) (homes : Homes) where
  pub home_other : (temp : ℕ) → (temp == to) ≡ false → home_of (with_home to home homes) temp ≡ home_of homes temp
  home_other temp ne = first (to == 0) refl
    where
      differs : (k : ℕ) → (to == k) ≡ true → (temp == k) ≡ false
      differs k e = subst (λ n. (temp == n) ≡ false) (eqb-true to k e) ne

      fourth : (b : Bool) → (to == 3) ≡ b → (to == 0) ≡ false → (to == 1) ≡ false → (to == 2) ≡ false → home_of (with_home to home homes) temp ≡ home_of homes temp
      fourth true e f g h = let d = differs 3 e in rw (f, g, h, e, d) refl
      fourth false e f g h = rw (f, g, h, e) refl

      third : (b : Bool) → (to == 2) ≡ b → (to == 0) ≡ false → (to == 1) ≡ false → home_of (with_home to home homes) temp ≡ home_of homes temp
      third true e f g = let d = differs 2 e in rw (f, g, e, d) refl
      third false e f g = fourth (to == 3) refl f g e

      second : (b : Bool) → (to == 1) ≡ b → (to == 0) ≡ false → home_of (with_home to home homes) temp ≡ home_of homes temp
      second true e f = let d = differs 1 e in rw (f, e, d) refl
      second false e f = third (to == 2) refl f e

      first : (b : Bool) → (to == 0) ≡ b → home_of (with_home to home homes) temp ≡ home_of homes temp
      first true e = let d = differs 0 e in rw (e, d) refl
      first false e = second (to == 1) refl e

  pub home_self : nat_lt to 4 ≡ true → home_of (with_home to home homes) to ≡ home
  home_self lt = first (to == 0) refl
    where
      fourth : (b : Bool) → (to == 3) ≡ b → (to == 0) ≡ false → (to == 1) ≡ false → (to == 2) ≡ false → home_of (with_home to home homes) to ≡ home
      fourth true e f g h = rw (f, g, h, e) refl
      fourth false e f g h = let none : nat_lt to 4 ≡ false = grind (arith, nat_tests, e, f, g, h) in absurd (cc (sym none ∙ lt))

      third : (b : Bool) → (to == 2) ≡ b → (to == 0) ≡ false → (to == 1) ≡ false → home_of (with_home to home homes) to ≡ home
      third true e f g = rw (f, g, e) refl
      third false e f g = fourth (to == 3) refl f g e

      second : (b : Bool) → (to == 1) ≡ b → (to == 0) ≡ false → home_of (with_home to home homes) to ≡ home
      second true e f = rw (f, e) refl
      second false e f = third (to == 2) refl f e

      first : (b : Bool) → (to == 0) ≡ b → home_of (with_home to home homes) to ≡ home
      first true e = rw e refl
      first false e = second (to == 1) refl e

  pub home_found : (r : ℕ) → home_of (with_home to home homes) to ≡ Some r → home ≡ Some r
  home_found r is = first (to == 0) refl
    where
      fourth : (b : Bool) → (to == 3) ≡ b → (to == 0) ≡ false → (to == 1) ≡ false → (to == 2) ≡ false → home ≡ Some r
      fourth true e f g h = sym (let same : home_of (with_home to home homes) to ≡ home = rw (f, g, h, e) refl in same) ∙ is
      fourth false e f g h = let none : home_of (with_home to home homes) to ≡ None = rw (f, g, h, e) refl in absurd (cc (sym none ∙ is))

      third : (b : Bool) → (to == 2) ≡ b → (to == 0) ≡ false → (to == 1) ≡ false → home ≡ Some r
      third true e f g = sym (let same : home_of (with_home to home homes) to ≡ home = rw (f, g, e) refl in same) ∙ is
      third false e f g = fourth (to == 3) refl f g e

      second : (b : Bool) → (to == 1) ≡ b → (to == 0) ≡ false → home ≡ Some r
      second true e f = sym (let same : home_of (with_home to home homes) to ≡ home = rw (f, e) refl in same) ∙ is
      second false e f = third (to == 2) refl f e

      first : (b : Bool) → (to == 0) ≡ b → home ≡ Some r
      first true e = sym (let same : home_of (with_home to home homes) to ≡ home = rw e refl in same) ∙ is
      first false e = second (to == 1) refl e

  pub homes_are : IsHome home → AreHomes homes → AreHomes (with_home to home homes)
  homes_are is are = by (to == 0) (to == 1) (to == 2) (to == 3)
    where
      by : (a b c d : Bool) → AreHomes (if a then record homes { first = home } else if b then record homes { second = home } else if c then record homes { result = home } else if d then record homes { place = home } else homes)
      by true b c d = (is, are.1, are.2, are.3)
      by false true c d = (are.0, is, are.2, are.3)
      by false false true d = (are.0, are.1, is, are.3)
      by false false false true = (are.0, are.1, are.2, is)
      by false false false false = are

pub home_is : (homes : Homes) → AreHomes homes → (temp r : ℕ) → home_of homes temp ≡ Some r → IsHome (Some r)
home_is homes are temp r e = by (temp == 0) (temp == 1) (temp == 2) (temp == 3) e
  where
    by : (a b c d : Bool) → (if a then homes.first else if b then homes.second else if c then homes.result else if d then homes.place else None) ≡ Some r → IsHome (Some r)
    by true b c d e = subst IsHome e are.0
    by false true c d e = subst IsHome e are.1
    by false false true d e = subst IsHome e are.2
    by false false false true e = subst IsHome e are.3
    by false false false false e = absurd (cc e)

-- ---- homes that outlast the words for the codes
-- of temporaries that those leave alone
pub lasting_is : (homes : Homes) → AreLasting homes → (temp r : ℕ) → is_left_alone temp ≡ true → home_of homes temp ≡ Some r → IsLasting (Some r)
lasting_is homes are temp r left e = by (temp == 0) (temp == 1) (temp == 2) (temp == 3) refl e
  where
    never : (temp == 3) ≡ true → ⊥
    never is = let three : is_left_alone 3 ≡ true = subst (λ n. is_left_alone n ≡ true) (eqb-true temp 3 is) left in absurd (cc three)

    by : (a b c d : Bool) → (temp == 3) ≡ d → (if a then homes.first else if b then homes.second else if c then homes.result else if d then homes.place else None) ≡ Some r → IsLasting (Some r)
    by true b c d is e = subst IsLasting e are.0
    by false true c d is e = subst IsLasting e are.1
    by false false true d is e = subst IsLasting e are.2
    by false false false true is e = absurd (never is)
    by false false false false is e = absurd (cc e)

-- a home elsewhere than in the register of temporary 3
lasts : (home : Option ℕ) → IsHome home → stands_in home 24 ≡ false → IsLasting home
lasts None is other = tt
lasts (Some r) is other = let lt = is.0 in let apart : (r == 24) ≡ false = other in (grind (arith, nat_tests, apart, lt), is.1)

-- what the words for the codes need of homes
pub record LeftAlone (sources : CodeSources) (homes : Homes) : Type 0 where
  pub lasting : AreLasting homes
  pub third : (is_none homes.place || not (is_made_there sources.nzv)) ≡ true

pub left_alone_is : (sources : CodeSources) (homes : Homes) → AreHomes homes → are_left sources homes ≡ true → LeftAlone sources homes
left_alone_is sources homes are e =
    let x = and_parts (not (stands_in homes.first 24 || stands_in homes.second 24 || stands_in homes.result 24)) (is_none homes.place || not (is_made_there sources.nzv)) e in
    let y = none (stands_in homes.first 24) (stands_in homes.second 24) (stands_in homes.result 24) x.0 in
    record { lasting = (lasts homes.first are.0 y.0, lasts homes.second are.1 y.1, lasts homes.result are.2 y.2); third = x.1 }
  where
    none : (a b c : Bool) → not (a || b || c) ≡ true → (a ≡ false) × (b ≡ false) × (c ≡ false)
    none false false false e = (refl, refl, refl)
    none true b c e = absurd (cc e)
    none false true c e = absurd (cc e)
    none false false true e = absurd (cc e)

-- so they are where one has none
pub left_alone_without : (sources : CodeSources) (homes : Homes) (to : ℕ) → LeftAlone sources homes → LeftAlone sources (with_home to None homes)
left_alone_without sources homes to left = by (to == 0) (to == 1) (to == 2) (to == 3)
  where
    lasting : AreLasting homes
    lasting = left.lasting

    third : (is_none homes.place || not (is_made_there sources.nzv)) ≡ true
    third = left.third

    by : (a b c d : Bool) → LeftAlone sources (if a then record homes { first = None } else if b then record homes { second = None } else if c then record homes { result = None } else if d then record homes { place = None } else homes)
    by true b c d = record { lasting = (tt, lasting.1, lasting.2); third = third }
    by false true c d = record { lasting = (lasting.0, tt, lasting.2); third = third }
    by false false true d = record { lasting = (lasting.0, lasting.1, tt); third = third }
    by false false false true = record { lasting = lasting; third = refl }
    by false false false false = left

-- ---- arguments
pub register_is : (r : ℕ) → IsHome (Some r) → IsArgument (argument_in r)
register_is r is = by (nat_lt r 15) refl
  where
    by : (b : Bool) → nat_lt r 15 ≡ b → IsArgument (if b then Register r else Temp (r - 21))
    by true e = ltb-true r 15 e
    by false e = let lt = is.0 in let le = is.1 e in omega arith

pub placed_is : (homes : Homes) → AreHomes homes → (a : Arg) → IsArgument a → IsArgument (placed homes a)
placed_is homes are (Temp temp) is = by (home_of homes temp) refl
  where
    by : (o : Option ℕ) → home_of homes temp ≡ o → IsArgument (standing_in o temp)
    by None e = is
    by (Some r) e = register_is r (home_is homes are temp r e)
placed_is homes are (Register number) is = is
placed_is homes are (Flag flag) is = is
placed_is homes are (Const value) is = is

-- a register that is extended is a home
pub extended_home : (homes : Homes) → AreHomes homes → (a : Arg) (r : ℕ) → IsArgument a → extended_register homes a ≡ Some r → IsHome (Some r)
extended_home homes are (Temp temp) r is e = home_is homes are temp r e
extended_home homes are (Register number) r is e = subst (λ n. IsHome (Some n)) (same_Some number r e) (omega arith, λ not_so. let is_so : nat_lt number 15 ≡ true = grind (arith, nat_tests) in absurd (cc (sym is_so ∙ not_so)))
extended_home homes are (Flag flag) r is e = absurd (cc e)
extended_home homes are (Const value) r is e = absurd (cc e)

pub copied_home : (homes : Homes) → AreHomes homes → (to : ℕ) (op : MicroOp) (size : Size) (a : Arg) (r : ℕ) → IsArgument a → copied homes to op size a ≡ Some r → IsHome (Some r)
copied_home homes are to op size a r is e = by (nat_lt to 4 && is_copying op size) e
  where
    by : (c : Bool) → (if c then extended_register homes a else None) ≡ Some r → IsHome (Some r)
    by true e = extended_home homes are a r is e
    by false e = absurd (cc e)

-- ---- what is known of the temporaries that stand in their own registers
abbrev pub hide : Option ℕ → Holding → Holding
hide None holding = holding
hide (Some register) holding = Nothing

abbrev pub hidden : Homes → Known → Known
hidden homes known = record known {
  temp0 = hide homes.first known.temp0;
  temp1 = hide homes.second known.temp1;
  temp2 = hide homes.result known.temp2;
  temp3 = hide homes.place known.temp3;
}

pub held_hidden : (homes : Homes) (known : Known) (temp : ℕ) → held (hidden homes known) temp ≡ hide (home_of homes temp) (held known temp)
held_hidden homes known temp = first (temp == 0) refl
  where
    fourth : (b : Bool) → (temp == 3) ≡ b → (temp == 0) ≡ false → (temp == 1) ≡ false → (temp == 2) ≡ false → held (hidden homes known) temp ≡ hide (home_of homes temp) (held known temp)
    fourth true e f g h = rw (f, g, h, e) refl
    fourth false e f g h = rw (f, g, h, e) refl

    third : (b : Bool) → (temp == 2) ≡ b → (temp == 0) ≡ false → (temp == 1) ≡ false → held (hidden homes known) temp ≡ hide (home_of homes temp) (held known temp)
    third true e f g = rw (f, g, e) refl
    third false e f g = fourth (temp == 3) refl f g e

    second : (b : Bool) → (temp == 1) ≡ b → (temp == 0) ≡ false → held (hidden homes known) temp ≡ hide (home_of homes temp) (held known temp)
    second true e f = rw (f, e) refl
    second false e f = third (temp == 2) refl f e

    first : (b : Bool) → (temp == 0) ≡ b → held (hidden homes known) temp ≡ hide (home_of homes temp) (held known temp)
    first true e = rw e refl
    first false e = second (temp == 1) refl e

pub held_own : (homes : Homes) (known : Known) (temp : ℕ) → home_of homes temp ≡ None → held (hidden homes known) temp ≡ held known temp
held_own homes known temp e = held_hidden homes known temp ∙ ap (λ o. hide o (held known temp)) e

-- behind a write of another one
pub hidden_other : (homes homes' : Homes) (known : Known) (holding : Holding) (to temp : ℕ) → (temp == to) ≡ false → home_of homes' temp ≡ home_of homes temp
    → held (hidden homes' (behind_write to holding known)) temp ≡ held (hidden homes known) temp
hidden_other homes homes' known holding to temp ne same =
    held_hidden homes' (behind_write to holding known) temp
    ∙ (ap (hide (home_of homes' temp)) (held_other holding known to temp (eqb-false temp to ne))
    ∙ (ap (λ o. hide o (held known temp)) same ∙ sym (held_hidden homes known temp)))

pub hidden_changes : (homes homes' : Homes) (to : ℕ) (holding : Holding) (known : Known) → SameChanges (hidden homes known) (hidden homes' (behind_write to holding known))
hidden_changes homes homes' to holding known =
    let changes = write_changes to holding known in
    record { changed = changes.changed; committed = changes.committed; codes = changes.codes; psw = changes.psw; ended = changes.ended }

-- ---- where a program stands
pub record Direct (p : Placement) (site : Site) (known : Known) (homes : Homes) (standing : Standing) (regs : Regs) : Type 0 where
  pub holds : Holds p site (hidden homes known) standing regs
  pub are : AreHomes homes
  pub values : (temp r : ℕ) → home_of homes temp ≡ Some r → (standing.temps temp ≡ regs r % 2 ^ 32) × IsExtended (regs r)

module _ (p : Placement) (site : Site) where
  -- a temporary is written; it stands in its own register or in a home, and those that held something outlast it
  pub written_held : (known : Known) (homes : Homes) (home : Option ℕ) (holding : Holding) (to value : ℕ) (standing : Standing) (old new : Regs)
      → ((n : ℕ) → is_kept n ≡ true → new n ≡ old n) → new 31 ≡ old 31
      → ((temp : ℕ) → temp < 6 → (temp == to) ≡ false → is_something (held (hidden homes known) temp) ≡ true → new (21 + temp) ≡ old (21 + temp))
      → (home_of (with_home to home homes) to ≡ None → to < 6 → HoldsAs holding value (new (21 + to)))
      → IsHome home → ((r : ℕ) → home ≡ Some r → (value ≡ new r % 2 ^ 32) × IsExtended (new r))
      → ((temp r : ℕ) → (temp == to) ≡ false → home_of homes temp ≡ Some r → new r ≡ old r)
      → Direct p site known homes standing old → Direct p site (behind_write to holding known) (with_home to home homes) (with_value to value standing) new
  written_held known homes home holding to value standing old new same zero_same others own is there homes_same d =
      record {
        holds = unchanged p site (hidden homes known) (hidden (with_home to home homes) (behind_write to holding known)) standing (with_temp to value standing.temps) old new
            (hidden_changes homes (with_home to home homes) to holding known) same zero_same (λ temp lt. holds_value temp lt (temp == to) refl)
            (checks_written p.pages to value known.checked standing.temps d.holds.checked) d.holds;
        are = homes_are to home homes is d.are;
        values = λ temp r e. home_value temp r e (temp == to) refl;
      }
    where
      stands : (temp : ℕ) → (temp == to) ≡ true → with_temp to value standing.temps temp ≡ value
      stands temp e = rw e refl

      stays : (temp : ℕ) → (temp == to) ≡ false → with_temp to value standing.temps temp ≡ standing.temps temp
      stays temp e = rw e refl

      written_value : (o : Option ℕ) → home_of (with_home to home homes) to ≡ o → to < 6 → HoldsAs (held (hidden (with_home to home homes) (behind_write to holding known)) to) value (new (21 + to))
      written_value None e lt =
          subst (λ h. HoldsAs h value (new (21 + to))) (sym (held_own (with_home to home homes) (behind_write to holding known) to e ∙ held_same holding known to lt)) (own e lt)
      written_value (Some r) e lt =
          subst (λ h. HoldsAs h value (new (21 + to))) (sym (held_hidden (with_home to home homes) (behind_write to holding known) to ∙ ap (λ o. hide o (held (behind_write to holding known) to)) e)) tt

      holds_value : (temp : ℕ) → temp < 6 → (b : Bool) → (temp == to) ≡ b → HoldsAs (held (hidden (with_home to home homes) (behind_write to holding known)) temp) (with_temp to value standing.temps temp) (new (21 + temp))
      holds_value temp lt true e =
          let is = eqb-true temp to e in
          subst (λ v. HoldsAs (held (hidden (with_home to home homes) (behind_write to holding known)) temp) v (new (21 + temp))) (sym (stands temp e))
          (subst (λ n. HoldsAs (held (hidden (with_home to home homes) (behind_write to holding known)) n) value (new (21 + n))) (sym is) (written_value (home_of (with_home to home homes) to) refl (subst (λ n. n < 6) is lt)))
      holds_value temp lt false e =
          subst (λ v. HoldsAs (held (hidden (with_home to home homes) (behind_write to holding known)) temp) v (new (21 + temp))) (sym (stays temp e))
          (subst (λ h. HoldsAs h (standing.temps temp) (new (21 + temp))) (sym (hidden_other homes (with_home to home homes) known holding to temp e (home_other to home homes temp e)))
          (held_still (held (hidden homes known) temp) (standing.temps temp) (old (21 + temp)) (new (21 + temp)) (λ some. others temp lt e some) (d.holds.temps temp lt)))

      home_value : (temp r : ℕ) → home_of (with_home to home homes) temp ≡ Some r → (b : Bool) → (temp == to) ≡ b → (with_temp to value standing.temps temp ≡ new r % 2 ^ 32) × IsExtended (new r)
      home_value temp r e true same =
          let found = there r (home_found to home homes r (subst (λ n. home_of (with_home to home homes) n ≡ Some r) (eqb-true temp to same) e)) in (
            stands temp same ∙ found.0,
            found.1,
          )
      home_value temp r e false other =
          let before = sym (home_other to home homes temp other) ∙ e in
          let found = d.values temp r before in
          let kept = homes_same temp r other before in (
            stays temp other ∙ (found.0 ∙ ap (λ v. v % 2 ^ 32) (sym kept)),
            subst IsExtended (sym kept) found.1,
          )

  -- the same where all outlast it
  pub written : (known : Known) (homes : Homes) (home : Option ℕ) (holding : Holding) (to value : ℕ) (standing : Standing) (old new : Regs)
      → ((n : ℕ) → is_kept n ≡ true → new n ≡ old n) → new 31 ≡ old 31
      → ((temp : ℕ) → temp < 6 → (temp == to) ≡ false → new (21 + temp) ≡ old (21 + temp))
      → (home_of (with_home to home homes) to ≡ None → to < 6 → HoldsAs holding value (new (21 + to)))
      → IsHome home → ((r : ℕ) → home ≡ Some r → (value ≡ new r % 2 ^ 32) × IsExtended (new r))
      → ((temp r : ℕ) → (temp == to) ≡ false → home_of homes temp ≡ Some r → new r ≡ old r)
      → Direct p site known homes standing old → Direct p site (behind_write to holding known) (with_home to home homes) (with_value to value standing) new
  written known homes home holding to value standing old new same zero_same others own is there homes_same d =
      written_held known homes home holding to value standing old new same zero_same (λ temp lt other some. others temp lt other) own is there homes_same d

  -- ---- arguments
  module _ (known : Known) (homes : Homes) (standing : Standing) (regs : Regs) (d : Direct p site known homes standing regs) where
    register_value : (r : ℕ) → IsHome (Some r) → value_at regs (argument_in r) % 2 ^ 32 ≡ regs r % 2 ^ 32
    register_value r is = by (nat_lt r 15) refl
      where
        twice : (n : ℕ) → n % 2 ^ 32 % 2 ^ 32 ≡ n % 2 ^ 32
        twice n = omega arith

        by : (b : Bool) → nat_lt r 15 ≡ b → value_at regs (if b then Register r else Temp (r - 21)) % 2 ^ 32 ≡ regs r % 2 ^ 32
        by true e = twice (regs r)
        by false e = let le = is.1 e in let same : 21 + (r - 21) ≡ r = omega arith in ap (λ n. regs n % 2 ^ 32) same

    register_fits : (r : ℕ) → IsHome (Some r) → IsExtended (regs r) → regs (register_at (argument_in r)) < 2 ^ 64
    register_fits r is extended = by (nat_lt r 15) refl
      where
        quad : regs r < 2 ^ 64
        quad = subst (λ n. n < 2 ^ 64) extended (extended_fits (regs r))

        by : (b : Bool) → nat_lt r 15 ≡ b → regs (register_at (if b then Register r else Temp (r - 21))) < 2 ^ 64
        by true e = quad
        by false e = let le = is.1 e in let same : 21 + (r - 21) ≡ r = omega arith in subst (λ n. regs n < 2 ^ 64) (sym same) quad

    abbrev Ready : Arg → Type 0
    Ready a = (flag : ℕ) → flag < 4 → is_flag flag a ≡ true → is_ready (rule_of flag site.before) ≡ true

    pub placed_value : (a : Arg) → IsArgument a → argument_fits known a ≡ true → Ready a → value_at regs (placed homes a) % 2 ^ 32 ≡ value_of_arg (found p site) standing.temps a % 2 ^ 32
    placed_value (Temp temp) is fits ready = by (home_of homes temp) refl
      where
        twice : (n : ℕ) → n % 2 ^ 32 % 2 ^ 32 ≡ n % 2 ^ 32
        twice n = omega arith

        by : (o : Option ℕ) → home_of homes temp ≡ o → value_at regs (standing_in o temp) % 2 ^ 32 ≡ standing.temps temp % 2 ^ 32
        by None e =
            ap (λ n. n % 2 ^ 32) (argument_is p site (hidden homes known) standing regs d.holds (Temp temp) is (ap is_something (held_own homes known temp e) ∙ fits) ready)
        by (Some r) e = register_value r (home_is homes d.are temp r e) ∙ (sym (twice (regs r)) ∙ ap (λ n. n % 2 ^ 32) (sym (d.values temp r e).0))
    placed_value (Register number) is fits ready = ap (λ n. n % 2 ^ 32) (argument_is p site (hidden homes known) standing regs d.holds (Register number) is fits ready)
    placed_value (Flag flag) is fits ready = ap (λ n. n % 2 ^ 32) (argument_is p site (hidden homes known) standing regs d.holds (Flag flag) is fits ready)
    placed_value (Const value) is fits ready = refl

    -- it is read as it stands
    pub placed_exact : (a : Arg) → IsArgument a → argument_fits known a ≡ true → Ready a → is_exact homes a ≡ true → value_at regs (placed homes a) ≡ value_of_arg (found p site) standing.temps a
    placed_exact (Temp temp) is fits ready exact = by (home_of homes temp) refl exact
      where
        by : (o : Option ℕ) → home_of homes temp ≡ o → is_none o ≡ true → value_at regs (standing_in o temp) ≡ standing.temps temp
        by None e exact = argument_is p site (hidden homes known) standing regs d.holds (Temp temp) is (ap is_something (held_own homes known temp e) ∙ fits) ready
        by (Some r) e exact = absurd (cc exact)
    placed_exact (Register number) is fits ready exact = argument_is p site (hidden homes known) standing regs d.holds (Register number) is fits ready
    placed_exact (Flag flag) is fits ready exact = argument_is p site (hidden homes known) standing regs d.holds (Flag flag) is fits ready
    placed_exact (Const value) is fits ready exact = refl

    pub placed_fits : (a : Arg) → IsArgument a → argument_fits known a ≡ true → regs (register_at (placed homes a)) < 2 ^ 64
    placed_fits (Temp temp) is fits = by (home_of homes temp) refl
      where
        by : (o : Option ℕ) → home_of homes temp ≡ o → regs (register_at (standing_in o temp)) < 2 ^ 64
        by None e = argument_quad p site (hidden homes known) standing regs d.holds (Temp temp) is (ap is_something (held_own homes known temp e) ∙ fits)
        by (Some r) e = register_fits r (home_is homes d.are temp r e) (d.values temp r e).1
    placed_fits (Register number) is fits = argument_quad p site (hidden homes known) standing regs d.holds (Register number) is fits
    placed_fits (Flag flag) is fits = argument_quad p site (hidden homes known) standing regs d.holds (Flag flag) is fits
    placed_fits (Const value) is fits = argument_quad p site (hidden homes known) standing regs d.holds (Const value) is fits

  -- ---- a register is to be written
  pub committing : (known : Known) (homes : Homes) (number : ℕ) (standing : Standing) (regs : Regs) → number < 15 → Direct p site known homes standing regs → Direct p site (behind_commit number known) homes standing regs
  committing known homes number standing regs lt d =
      let h = d.holds in
      record {
        holds = record {
          form = h.form;
          temps = h.temps;
          checked = h.checked;
          state = h.state;
          upper = h.upper;
          same_psw = h.same_psw;
          overflowed = h.overflowed;
          no_overflow = h.no_overflow;
          each_register = length-set known.committed number true ∙ h.each_register;
          quiet = λ e. absurd (cc e);
          registers = λ other other_lt free. h.registers other other_lt (uncommitted other (other == number) refl free);
          codes = h.codes;
        };
        are = d.are;
        values = d.values;
      }
    where
      uncommitted : (other : ℕ) → (b : Bool) → (other == number) ≡ b → is_committed (behind_commit number known) other ≡ false → is_committed known other ≡ false
      uncommitted other true e free =
          let all = d.holds.each_register in
          let set = flag_set known.committed number (omega arith) in
          let free' : is_committed (behind_commit number known) number ≡ false = subst (λ n. is_committed (behind_commit number known) n ≡ false) (eqb-true other number e) free in
          absurd (cc (sym set ∙ free'))
      uncommitted other false e free = sym (flag_other known.committed number other (eqb-false other number e)) ∙ free
