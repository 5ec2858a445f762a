-- Exits that go by a number that is compared with 0.
use Rattle.std.proofs.Common.{◌≡◌, ℕ, ◌+◌, ◌-◌, ◌^◌, ◌<◌, ◌≤◌, refl, sym, ap, ◌∙◌, subst, arith, eqb-true, inl, inr, Option, Some, None, Bool, true, false}
use Rattle.std.specs.Prelude.{◌==◌, ◌&&◌, ◌||◌, ◌⊎◌, not, nat_lt, nat_le, int_lt, if◌then◌else◌}
use Rattle.std.specs.List.{list_any}
use Rattle.std.proofs.lemmas.Bool.Decides.{nat_tests}
use Rattle.std.proofs.lemmas.Bool.{and_parts, ltb-true, not-true}
use Rattle.std.proofs.lemmas.Int.{ints}
use Rattle.std.proofs.lemmas.Option.{same_Some}
use Rattle.alpha_encode.specs.declared.instr.AlphaInstr.{AlphaInstr}
use Rattle.alpha_encode.specs.declared.instr.AlphaInstr.TheVariants.{Memory, Branch, Operate, Jump, Pal}
use Rattle.alpha_encode.specs.declared.instr.BranchOp.{BranchOp}
use Rattle.alpha_encode.specs.declared.instr.BranchOp.TheVariants.{Beq, Bge, Ble}
use Rattle.alpha_encode.specs.declared.instr.OperateOp.{OperateOp}
use Rattle.alpha_encode.specs.declared.instr.OperateOp.TheVariants as row
use Rattle.alpha_encode.specs.declared.instr.Second.{Second}
use Rattle.alpha_encode.specs.declared.instr.Second.TheVariants.{Register, Literal}
use Rattle.alpha_meaning.specs.Act.{links, taken}
use Rattle.alpha_meaning.specs.Loops.{effect, written}
use Rattle.alpha_meaning.specs.Result.{one_if, signed}
use Rattle.alpha_meaning.specs.State.{Regs}
use Rattle.alpha_meaning.proofs.Registers.{put_same}
use Rattle.block_law.specs.Tidy.{may_fault}
use Rattle.micro_ops.specs.Exits.{exit_addresses}
use Rattle.micro_ops.specs.declared.program.Exit.{Exit}
use Rattle.micro_ops.specs.declared.program.Exit.TheVariants as exits
use Rattle.program_codegen.specs.declared.homes.Homes.{Homes}
use Rattle.program_codegen.specs.declared.points.Site.{Site}
use Rattle.program_codegen.specs.Homes.{home_at, stands_in}
use Rattle.program_codegen.specs.Ends.{choice_at, choice_by, choice_of, exit_stays, is_number, zero_test}
use Rattle.program_codegen.specs.Programs.{IsExit}
use Rattle.program_codegen.specs.Words.{departing_by, words_of}
use Rattle.program_codegen.proofs.Numbers.{all_three}

-- ---- what a comparison with 0 tells
one_if_zero : (b : Bool) → (one_if b == 0) ≡ not b
one_if_zero true = refl
one_if_zero false = refl

above_zero : (x : ℕ) → x < 2 ^ 64 → not (int_lt (signed 0) (signed x)) ≡ (x == 0 || nat_le (2 ^ 63) x)
above_zero x fits = grind (arith, nat_tests, ints)

below_zero : (x : ℕ) → x < 2 ^ 64 → not (int_lt (signed x) (signed 0)) ≡ nat_lt x (2 ^ 63)
below_zero x fits = grind (arith, nat_tests, ints)

-- whether it gives 0
abbrev Told : AlphaInstr → BranchOp × ℕ → Type 0
Told word test = (f : Regs) → f 31 ≡ 0 → f test.1 < 2 ^ 64 → (written word == 31) ≡ false → (effect word f (written word) == 0) ≡ taken test.0 (f test.1)

-- the branch doesn't link, and tells it
abbrev Tests : AlphaInstr → BranchOp × ℕ → Type 0
Tests word test = (links test.0 ≡ false) × Told word test

tests_by : (op : OperateOp) (first : ℕ) (second : Second) (to : ℕ) (test : BranchOp × ℕ) → zero_test (Operate op first second to) ≡ Some test → Tests (Operate op first second to) test
tests_by row.Cmplt first (Register register) to test e = by (first == 31) refl e
  where
    told : first ≡ 31 → Told (Operate row.Cmplt first (Register register) to) (Ble, register)
    told same f zero fits other =
        ap (λ n. n == 0) (put_same f to (one_if (int_lt (signed (f first)) (signed (f register)))) other)
        ∙ (one_if_zero (int_lt (signed (f first)) (signed (f register)))
        ∙ (ap (λ n. not (int_lt (signed n) (signed (f register)))) (ap f same ∙ zero) ∙ above_zero (f register) fits))

    by : (b : Bool) → (first == 31) ≡ b → (if b then Some (Ble, register) else None) ≡ Some test → Tests (Operate row.Cmplt first (Register register) to) test
    by true is e = subst (Tests (Operate row.Cmplt first (Register register) to)) (same_Some (Ble, register) test e) (refl, told (eqb-true first 31 is))
    by false is e = absurd (cc e)
tests_by row.Cmplt first (Literal value) to test e = by (value == 0) refl e
  where
    told : value ≡ 0 → Told (Operate row.Cmplt first (Literal value) to) (Bge, first)
    told same f zero fits other =
        ap (λ n. n == 0) (put_same f to (one_if (int_lt (signed (f first)) (signed value))) other)
        ∙ (one_if_zero (int_lt (signed (f first)) (signed value))
        ∙ (ap (λ n. not (int_lt (signed (f first)) (signed n))) same ∙ below_zero (f first) fits))

    by : (b : Bool) → (value == 0) ≡ b → (if b then Some (Bge, first) else None) ≡ Some test → Tests (Operate row.Cmplt first (Literal value) to) test
    by true is e = subst (Tests (Operate row.Cmplt first (Literal value) to)) (same_Some (Bge, first) test e) (refl, told (eqb-true value 0 is))
    by false is e = absurd (cc e)
tests_by op first second to test e = absurd (cc e)

tests : (word : AlphaInstr) (test : BranchOp × ℕ) → zero_test word ≡ Some test → Tests word test
tests (Operate op first second to) test e = tests_by op first second to test e
tests (Memory op ra rb disp) test e = absurd (cc e)
tests (Branch op ra disp) test e = absurd (cc e)
tests (Jump ra rb) test e = absurd (cc e)
tests (Pal number) test e = absurd (cc e)

-- ---- a choice by a number
pub record ByNumber (homes : Homes) (when chosen other : ℕ) (choice : BranchOp × Exit) : Type 0 where
  pub word : AlphaInstr
  pub waits : homes.waiting ≡ Some word
  pub test : BranchOp × ℕ
  pub unlinked : links test.0 ≡ false
  pub told : (f : Regs) → f 31 ≡ 0 → f test.1 < 2 ^ 64 → (written word == 31) ≡ false → (effect word f (written word) == 0) ≡ taken test.0 (f test.1)
  pub writes : written word ≡ 21 + when
  pub low : test.1 < 24
  pub high : 21 ≤ test.1
  pub there : home_at homes test.1 ≡ Some test.1
  pub apart : (test.1 == written word) ≡ false
  pub whole : (test.0, exits.Choice (test.1 - 21) chosen other) ≡ choice

-- a register that is the home of a temporary, its own
home_there : (homes : Homes) (r : ℕ) → stands_in (home_at homes r) r ≡ true → home_at homes r ≡ Some r
home_there homes r e = by (home_at homes r) refl e
  where
    by : (o : Option ℕ) → home_at homes r ≡ o → stands_in o r ≡ true → home_at homes r ≡ Some r
    by None is e = absurd (cc e)
    by (Some home) is e = is ∙ ap (λ n. Some n) (eqb-true home r e)

home_high : (homes : Homes) (r : ℕ) → stands_in (home_at homes r) r ≡ true → 21 ≤ r
home_high homes r e = by (nat_lt r 21) refl
  where
    by : (b : Bool) → nat_lt r 21 ≡ b → 21 ≤ r
    by true is =
        let a : (r == 21) ≡ false = grind (arith, nat_tests, is) in
        let b : (r == 22) ≡ false = grind (arith, nat_tests, is) in
        let c : (r == 23) ≡ false = grind (arith, nat_tests, is) in
        let none : home_at homes r ≡ None = rw (a, b, c) refl in
        absurd (cc (sym (ap (λ (o : Option ℕ). stands_in o r) none) ∙ e))
    by false is = grind (arith, nat_tests, is)

abbrev choice_where : Bool → BranchOp × ℕ → (when chosen other : ℕ) → BranchOp × Exit
choice_where b test when chosen other = if b then (test.0, exits.Choice (test.1 - 21) chosen other) else (Beq, exits.Choice when chosen other)

pub choice_is : (homes : Homes) (when chosen other : ℕ) → (choice_of homes (exits.Choice when chosen other) ≡ (Beq, exits.Choice when chosen other)) ⊎ ByNumber homes when chosen other (choice_of homes (exits.Choice when chosen other))
choice_is homes when chosen other = at homes.waiting refl
  where
    at : (o : Option AlphaInstr) → homes.waiting ≡ o → (choice_at homes when chosen other o ≡ (Beq, exits.Choice when chosen other)) ⊎ ByNumber homes when chosen other (choice_at homes when chosen other o)
    at None waits = inl refl
    at (Some word) waits = found (zero_test word) refl
      where
        found : (t : Option (BranchOp × ℕ)) → zero_test word ≡ t
            → (choice_by homes (written word) when chosen other t ≡ (Beq, exits.Choice when chosen other)) ⊎ ByNumber homes when chosen other (choice_by homes (written word) when chosen other t)
        found None e = inl refl
        found (Some test) e = by (written word == (21 + when) && is_number homes test.1 (written word)) refl
          where
            by : (b : Bool) → (written word == (21 + when) && is_number homes test.1 (written word)) ≡ b
                → (choice_where b test when chosen other ≡ (Beq, exits.Choice when chosen other)) ⊎ ByNumber homes when chosen other (choice_where b test when chosen other)
            by true is =
                let x = and_parts (written word == (21 + when)) (is_number homes test.1 (written word)) is in
                let y = all_three (nat_lt test.1 24) (stands_in (home_at homes test.1) test.1) (not (test.1 == written word)) x.1 in
                let t = tests word test e in
                inr (record {
                  word = word;
                  waits = waits;
                  test = test;
                  unlinked = t.0;
                  told = t.1;
                  writes = eqb-true (written word) (21 + when) x.0;
                  low = ltb-true test.1 24 y.0;
                  high = home_high homes test.1 y.1;
                  there = home_there homes test.1 y.1;
                  apart = not-true (test.1 == written word) y.2;
                  whole = refl;
                })
            by false is = inl refl

-- ---- each choice
pub choice_links : (homes : Homes) (exit : Exit) → links (choice_of homes exit).0 ≡ false
choice_links homes exits.Next = refl
choice_links homes (exits.Fixed address) = refl
choice_links homes (exits.Computed temp) = refl
choice_links homes (exits.Service temp) = refl
choice_links homes exits.Breakpoint = refl
choice_links homes (exits.Choice when chosen other) = by (choice_is homes when chosen other)
  where
    by : (choice_of homes (exits.Choice when chosen other) ≡ (Beq, exits.Choice when chosen other)) ⊎ ByNumber homes when chosen other (choice_of homes (exits.Choice when chosen other)) → links (choice_of homes (exits.Choice when chosen other)).0 ≡ false
    by (inl e) = ap (λ (k : BranchOp × Exit). links k.0) e
    by (inr n) = subst (λ (k : BranchOp × Exit). links k.0 ≡ false) n.whole n.unlinked

pub choice_fits : (homes : Homes) (exit : Exit) → IsExit exit → IsExit (choice_of homes exit).1
choice_fits homes exits.Next is = is
choice_fits homes (exits.Fixed address) is = is
choice_fits homes (exits.Computed temp) is = is
choice_fits homes (exits.Service temp) is = is
choice_fits homes exits.Breakpoint is = is
choice_fits homes (exits.Choice when chosen other) is = by (choice_is homes when chosen other)
  where
    by : (choice_of homes (exits.Choice when chosen other) ≡ (Beq, exits.Choice when chosen other)) ⊎ ByNumber homes when chosen other (choice_of homes (exits.Choice when chosen other)) → IsExit (choice_of homes (exits.Choice when chosen other)).1
    by (inl e) = subst (λ (k : BranchOp × Exit). IsExit k.1) (sym e) is
    by (inr n) = let low = n.low in subst (λ (k : BranchOp × Exit). IsExit k.1) n.whole (omega arith, is.1, is.2)

-- they go to the same addresses
pub choice_goes : (homes : Homes) (after : ℕ) (exit : Exit) → exit_addresses after (choice_of homes exit).1 ≡ exit_addresses after exit
choice_goes homes after exits.Next = refl
choice_goes homes after (exits.Fixed address) = refl
choice_goes homes after (exits.Computed temp) = refl
choice_goes homes after (exits.Service temp) = refl
choice_goes homes after exits.Breakpoint = refl
choice_goes homes after (exits.Choice when chosen other) = by (choice_is homes when chosen other)
  where
    by : (choice_of homes (exits.Choice when chosen other) ≡ (Beq, exits.Choice when chosen other)) ⊎ ByNumber homes when chosen other (choice_of homes (exits.Choice when chosen other))
        → exit_addresses after (choice_of homes (exits.Choice when chosen other)).1 ≡ exit_addresses after (exits.Choice when chosen other)
    by (inl e) = ap (λ (k : BranchOp × Exit). exit_addresses after k.1) e
    by (inr n) = ap (λ (k : BranchOp × Exit). exit_addresses after k.1) (sym n.whole)

-- and raise nothing
pub choice_quiet : (site : Site) (op : BranchOp) (homes : Homes) (exit : Exit) → exit_stays homes exit ≡ true → list_any may_fault (words_of (departing_by op site (choice_of homes exit).1)) ≡ false
choice_quiet site op homes exits.Next stays = refl
choice_quiet site op homes (exits.Fixed address) stays = refl
choice_quiet site op homes (exits.Computed temp) stays = absurd (cc stays)
choice_quiet site op homes (exits.Service temp) stays = absurd (cc stays)
choice_quiet site op homes exits.Breakpoint stays = absurd (cc stays)
choice_quiet site op homes (exits.Choice when chosen other) stays = by (choice_is homes when chosen other)
  where
    by : (choice_of homes (exits.Choice when chosen other) ≡ (Beq, exits.Choice when chosen other)) ⊎ ByNumber homes when chosen other (choice_of homes (exits.Choice when chosen other))
        → list_any may_fault (words_of (departing_by op site (choice_of homes (exits.Choice when chosen other)).1)) ≡ false
    by (inl e) = ap (λ (k : BranchOp × Exit). list_any may_fault (words_of (departing_by op site k.1))) e
    by (inr n) = ap (λ (k : BranchOp × Exit). list_any may_fault (words_of (departing_by op site k.1))) (sym n.whole)
