-- Exits that are chosen by what stands in a register.
use Rattle.std.proofs.Common.{◌≡◌, ℕ, ◌+◌, ◌-◌, ◌%◌, ◌^◌, ◌<◌, ◌≤◌, refl, sym, ap, ◌∙◌, subst, arith, eqb-true, List, [], ◌∷◌, ◌++◌, length, map, Option, Some, None, Bool, true, false, lit≤}
use Rattle.std.specs.Prelude.{pos, ◌==◌, ◌&&◌, not, nat_lt, option_map, unwrap_or, if◌then◌else◌, is_none}
use Rattle.std.specs.List.{list_all}
use Rattle.std.proofs.Math.Nat.{mod-eq_of_lt}
use Rattle.std.proofs.lemmas.Bool.Decides.{nat_tests}
use Rattle.std.proofs.lemmas.Bool.{and_parts, ltb-true, not-true}
use Rattle.std.proofs.lemmas.Nat.{and_mask}
use Rattle.std.proofs.lemmas.Option.{same_Some}
use Rattle.vax_form.specs.State.{with_pc}
use Rattle.vax_form.specs.Tree.{Ends, Finish, Trap}
use Rattle.vax_form.specs.declared.instr.Size.{Size}
use Rattle.vax_form.specs.declared.instr.Size.TheVariants.{Byte, Word, Long, Quad}
use Rattle.alpha_encode.specs.declared.instr.AlphaInstr.{AlphaInstr}
use Rattle.alpha_encode.specs.declared.instr.AlphaInstr.TheVariants.{Branch}
use Rattle.alpha_encode.specs.declared.instr.BranchOp.{BranchOp}
use Rattle.alpha_encode.specs.declared.instr.BranchOp.TheVariants.{Beq, Blbc}
use Rattle.alpha_meaning.specs.Act.{links, taken, target_of}
use Rattle.alpha_meaning.specs.Loops.{effect, effects, is_operate, written}
use Rattle.alpha_meaning.specs.State.{Regs, at_place, put}
use Rattle.alpha_meaning.proofs.Registers.{put_other, put_same}
use Rattle.exception_records.specs.Codes.{is_ready}
use Rattle.micro_ops.specs.declared.known.Known.{Known}
use Rattle.micro_ops.specs.declared.program.Arg.{Arg}
use Rattle.micro_ops.specs.declared.program.Arg.TheVariants as arguments
use Rattle.micro_ops.specs.declared.program.Exit.{Exit}
use Rattle.micro_ops.specs.declared.program.Exit.TheVariants as exits
use Rattle.micro_ops.specs.declared.program.Micro.TheVariants.{Compute}
use Rattle.micro_ops.specs.declared.program.MicroOp.{MicroOp}
use Rattle.micro_ops.specs.declared.program.MicroOp.TheVariants.{Move, And}
use Rattle.micro_ops.specs.Course.{AtLeaves}
use Rattle.micro_ops.specs.Fits.{computation_fits, exit_fits, holding_of, sources_fit}
use Rattle.micro_ops.specs.Known.{behind_write, holds, is_something}
use Rattle.micro_ops.specs.Leaving.{CodesComeFrom, state_left}
use Rattle.micro_ops.specs.Meaning.{Departure, Ended, Standing, departed, flag_of, leaves_by, traps, value_of_arg, with_value}
use Rattle.micro_ops.specs.Uses.{is_flag, is_quad, is_select, is_unary, leaves_longword, takes}
use Rattle.micro_ops.specs.Values.{computed, value_from}
use Rattle.micro_ops.proofs.Held.{by_six}
use Rattle.compute_sequences.specs.Registers.{IsArgument, value_at}
use Rattle.block_law.specs.Placements.{Placement}
use Rattle.block_law.proofs.Rules.{Always, operates, passes, roomy, skips}
use Rattle.program_codegen.specs.declared.homes.Homes.{Homes}
use Rattle.program_codegen.specs.declared.lines.Line.{Line}
use Rattle.program_codegen.specs.declared.points.Site.{Site}
use Rattle.program_codegen.specs.Homes.{AreHomes, copied, home_of, made, new_home, placed, standing_in, waiting_words, with_home, home_by, is_short_constant}
use Rattle.program_codegen.specs.Ends.{are_left, are_short_rules, moved_words}
use Rattle.program_codegen.specs.Direct.{bit_register, bit_test, byte_test, choice_lines, code_test, is_direct, may_test, test_of, tested_exit, long_test, needed_words, tested_words}
use Rattle.program_codegen.specs.Programs.{rule_of}
use Rattle.program_codegen.specs.Words.{exit_lines, may_trap, plain}
use Rattle.program_codegen.proofs.Coded.{Coded}
use Rattle.program_codegen.proofs.Departures.{same_psw}
use Rattle.program_codegen.proofs.Exiting.{exit_value, exits_to}
use Rattle.program_codegen.proofs.Holding.{Setting, ends, found, tree}
use Rattle.program_codegen.proofs.HomeComputing.{given}
use Rattle.program_codegen.proofs.HomeEnding.{Waits, begins, effect_other, effects_append, coded_alike, emptied, leaves_codes, overflows}
use Rattle.program_codegen.proofs.HomeHolding.{Direct, LeftAlone, held_own, hidden, home_is, left_alone_is, left_alone_without}
use Rattle.program_codegen.proofs.HomeSomes.{mapped}
use Rattle.program_codegen.proofs.HomeSparing.{all_append}
use Rattle.program_codegen.proofs.Numbers.{all_three, all_five}
use Rattle.program_codegen.proofs.Testing.{trap_or}
use Rattle.program_codegen.proofs.Trapping.{pc_left, untrapped}
use Rattle.program_codegen.proofs.Walk.{Within, behind_exit, is_inside, next, row_length, row_rest, row_words, stands}

-- ---- the tests
module _ (homes : Homes) (P : MicroOp → Size → Arg → Arg → (BranchOp × ℕ) → Type 0)
    (bit : (a : Arg) (r : ℕ) → bit_register homes a ≡ Some r → P And Byte a (arguments.Const 1) (Blbc, r))
    (long : (a : Arg) (r : ℕ) → bit_register homes a ≡ Some r → P And Long a (arguments.Const 1) (Blbc, r))
    (code : (flag : ℕ) (b : Arg) → flag < 4 → P Move Byte (arguments.Flag flag) b (Beq, 16 + flag)) where
  by_bit : (size : Size) → ((a : Arg) (r : ℕ) → bit_register homes a ≡ Some r → P And size a (arguments.Const 1) (Blbc, r)) → (a b : Arg) (test : BranchOp × ℕ) → bit_test homes a b ≡ Some test → P And size a b test
  by_bit size there a (arguments.Const value) test e = by (value == 1) refl e
    where
      by : (c : Bool) → (value == 1) ≡ c → (if c then option_map {U = BranchOp × ℕ} (λ (r : ℕ). (Blbc, r)) (bit_register homes a) else None) ≡ Some test → P And size a (arguments.Const value) test
      by true is e =
          let m = mapped ℕ (BranchOp × ℕ) (λ (r : ℕ). (Blbc, r)) (bit_register homes a) test e in
          subst (λ n. P And size a (arguments.Const n) test) (sym (eqb-true value 1 is)) (subst (P And size a (arguments.Const 1)) m.whole (there a m.found m.is))
      by false is e = absurd (cc e)
  by_bit size there a (arguments.Temp temp) test e = absurd (cc e)
  by_bit size there a (arguments.Register number) test e = absurd (cc e)
  by_bit size there a (arguments.Flag flag) test e = absurd (cc e)

  by_code : (a b : Arg) (test : BranchOp × ℕ) → code_test a ≡ Some test → P Move Byte a b test
  by_code (arguments.Flag flag) b test e = by (nat_lt flag 4) refl e
    where
      by : (c : Bool) → nat_lt flag 4 ≡ c → (if c then Some (Beq, 16 + flag) else None) ≡ Some test → P Move Byte (arguments.Flag flag) b test
      by true is e = subst (P Move Byte (arguments.Flag flag) b) (same_Some (Beq, 16 + flag) test e) (code flag b (ltb-true flag 4 is))
      by false is e = absurd (cc e)
  by_code (arguments.Temp temp) b test e = absurd (cc e)
  by_code (arguments.Register number) b test e = absurd (cc e)
  by_code (arguments.Const value) b test e = absurd (cc e)

  by_byte : (op : MicroOp) (a b : Arg) (test : BranchOp × ℕ) → byte_test homes op a b ≡ Some test → P op Byte a b test
  by_byte And a b test e = by_bit Byte bit a b test e
  by_byte Move a b test e = by_code a b test e
  by_byte op a b test e = absurd (cc e)

  by_long : (op : MicroOp) (a b : Arg) (test : BranchOp × ℕ) → long_test homes op a b ≡ Some test → P op Long a b test
  by_long And a b test e = by_bit Long long a b test e
  by_long op a b test e = absurd (cc e)

  pub by_test : (op : MicroOp) (size : Size) (a b : Arg) (test : BranchOp × ℕ) → test_of homes op size a b ≡ Some test → P op size a b test
  by_test op Byte a b test e = by_byte op a b test e
  by_test op Word a b test e = absurd (cc e)
  by_test op Long a b test e = by_long op a b test e
  by_test op Quad a b test e = absurd (cc e)

-- what is known of one, whatever the registers
pub record Facts (homes : Homes) (to : ℕ) (op : MicroOp) (size : Size) (a b : Arg) (test : BranchOp × ℕ) : Type 0 where
  pub narrow : is_quad size ≡ false
  pub unselected : is_select op ≡ false
  pub uncopied : copied homes to op size a ≡ None
  pub homeless : made homes to op size a b ≡ None → home_of (with_home to (new_home homes to op size a b) homes) to ≡ None
  pub unhomed : made homes to op size a b ≡ None → new_home homes to op size a b ≡ None
  pub unlinked : links test.0 ≡ false
  pub small : IsArgument a → test.1 < 32
  pub value : (regs : Regs) (held : ℕ) → ((n : ℕ) → 16 ≤ n → n < 20 → regs n < 2) → (computed op size (value_at regs (placed homes a)) (value_at regs (placed homes b)) held == 0) ≡ taken test.0 (regs test.1)

module _ (homes : Homes) (are : AreHomes homes) where
  same_bit : (a : Arg) (r : ℕ) (regs : Regs) → bit_register homes a ≡ Some r → value_at regs (placed homes a) % 2 ≡ regs r % 2
  same_bit (arguments.Temp temp) r regs e = by (nat_lt temp 6) e
    where
      at : (o : Option ℕ) → home_of homes temp ≡ o → value_at regs (standing_in o temp) % 2 ≡ regs (unwrap_or o (21 + temp)) % 2
      at None f = refl
      at (Some h) f = of (nat_lt h 15) refl
        where
          low : (n : ℕ) → n % 2 ^ 32 % 2 ≡ n % 2
          low n = omega arith

          of : (c : Bool) → nat_lt h 15 ≡ c → value_at regs (if c then arguments.Register h else arguments.Temp (h - 21)) % 2 ≡ regs h % 2
          of true g = low (regs h)
          of false g = let le = (home_is homes are temp h f).1 g in let same : 21 + (h - 21) ≡ h = omega arith in ap (λ n. regs n % 2) same

      by : (c : Bool) → (if c then Some (unwrap_or (home_of homes temp) (21 + temp)) else None) ≡ Some r → value_at regs (standing_in (home_of homes temp) temp) % 2 ≡ regs r % 2
      by true e = at (home_of homes temp) refl ∙ ap (λ n. regs n % 2) (same_Some (unwrap_or (home_of homes temp) (21 + temp)) r e)
      by false e = absurd (cc e)
  same_bit (arguments.Register number) r regs e = low (regs number) ∙ ap (λ n. regs n % 2) (same_Some number r e)
    where
      low : (n : ℕ) → n % 2 ^ 32 % 2 ≡ n % 2
      low n = omega arith
  same_bit (arguments.Flag flag) r regs e = absurd (cc e)
  same_bit (arguments.Const value) r regs e = absurd (cc e)

  bit_small : (a : Arg) (r : ℕ) → bit_register homes a ≡ Some r → IsArgument a → r < 32
  bit_small (arguments.Temp temp) r e is = by (nat_lt temp 6) e
    where
      at : (o : Option ℕ) → home_of homes temp ≡ o → unwrap_or o (21 + temp) < 32
      at None f = omega arith
      at (Some h) f = let lt = (home_is homes are temp h f).0 in omega arith

      by : (c : Bool) → (if c then Some (unwrap_or (home_of homes temp) (21 + temp)) else None) ≡ Some r → r < 32
      by true e = subst (λ n. n < 32) (same_Some (unwrap_or (home_of homes temp) (21 + temp)) r e) (at (home_of homes temp) refl)
      by false e = absurd (cc e)
  bit_small (arguments.Register number) r e is = subst (λ n. n < 32) (same_Some number r e) (omega arith)
  bit_small (arguments.Flag flag) r e is = absurd (cc e)
  bit_small (arguments.Const value) r e is = absurd (cc e)

  long_value : (x held : ℕ) → computed And Long x 1 held ≡ x % 2
  unfolding value_from
  long_value x held = let low : x % 2 ^ 32 % 2 ≡ x % 2 = omega arith in and_mask (x % 2 ^ 32) 1 ∙ low

  bit_value : (x held : ℕ) → computed And Byte x 1 held ≡ x % 2
  unfolding value_from
  bit_value x held = let low : x % 256 % 2 ≡ x % 2 = omega arith in and_mask (x % 256) 1 ∙ low

  code_value : (x y held : ℕ) → x < 2 → computed Move Byte x y held ≡ x
  unfolding value_from
  code_value x y held lt = mod-eq_of_lt (omega (arith, lt))

  pub facts : (to : ℕ) → to < 6 → (op : MicroOp) (size : Size) (a b : Arg) (test : BranchOp × ℕ) → test_of homes op size a b ≡ Some test → Facts homes to op size a b test
  facts to lt = by_test homes (Facts homes to) bit long code
    where
      bit : (a : Arg) (r : ℕ) → bit_register homes a ≡ Some r → Facts homes to And Byte a (arguments.Const 1) (Blbc, r)
      bit a r e = record {
        narrow = refl;
        unselected = refl;
        uncopied = by_six (λ n. copied homes n And Byte a ≡ None) refl refl refl refl refl refl to lt;
        homeless = λ unmade.
            ap (λ (o : Option AlphaInstr). home_of (with_home to (home_by (copied homes to And Byte a) o (is_short_constant to And Byte a) to) homes) to) unmade
            ∙ by_six (λ n. home_of (with_home n (home_by (copied homes n And Byte a) None (is_short_constant n And Byte a) n) homes) n ≡ None) refl refl refl refl refl refl to lt;
        unhomed = λ unmade.
            ap (λ (o : Option AlphaInstr). home_by (copied homes to And Byte a) o (is_short_constant to And Byte a) to) unmade
            ∙ by_six (λ n. home_by (copied homes n And Byte a) None (is_short_constant n And Byte a) n ≡ None) refl refl refl refl refl refl to lt;
        unlinked = refl;
        small = bit_small a r e;
        value = λ regs held codes. ap (λ n. n == 0) (bit_value (value_at regs (placed homes a)) held ∙ same_bit a r regs e);
      }

      long : (a : Arg) (r : ℕ) → bit_register homes a ≡ Some r → Facts homes to And Long a (arguments.Const 1) (Blbc, r)
      long a r e = record {
        narrow = refl;
        unselected = refl;
        uncopied = by_six (λ n. copied homes n And Long a ≡ None) refl refl refl refl refl refl to lt;
        homeless = λ unmade.
            ap (λ (o : Option AlphaInstr). home_of (with_home to (home_by (copied homes to And Long a) o (is_short_constant to And Long a) to) homes) to) unmade
            ∙ by_six (λ n. home_of (with_home n (home_by (copied homes n And Long a) None (is_short_constant n And Long a) n) homes) n ≡ None) refl refl refl refl refl refl to lt;
        unhomed = λ unmade.
            ap (λ (o : Option AlphaInstr). home_by (copied homes to And Long a) o (is_short_constant to And Long a) to) unmade
            ∙ by_six (λ n. home_by (copied homes n And Long a) None (is_short_constant n And Long a) n ≡ None) refl refl refl refl refl refl to lt;
        unlinked = refl;
        small = bit_small a r e;
        value = λ regs held codes. ap (λ n. n == 0) (long_value (value_at regs (placed homes a)) held ∙ same_bit a r regs e);
      }

      code : (flag : ℕ) (b : Arg) → flag < 4 → Facts homes to Move Byte (arguments.Flag flag) b (Beq, 16 + flag)
      code flag b few = record {
        narrow = refl;
        unselected = refl;
        uncopied = by_six (λ n. copied homes n Move Byte (arguments.Flag flag) ≡ None) refl refl refl refl refl refl to lt;
        homeless = λ unmade. by_six (λ n. home_of (with_home n (new_home homes n Move Byte (arguments.Flag flag) b) homes) n ≡ None) refl refl refl refl refl refl to lt;
        unhomed = λ unmade. by_six (λ n. new_home homes n Move Byte (arguments.Flag flag) b ≡ None) refl refl refl refl refl refl to lt;
        unlinked = refl;
        small = λ is. omega arith;
        value = λ regs held codes. of regs held (codes (16 + flag) (omega arith) (omega arith));
      }
        where
          of : (regs : Regs) (held : ℕ) → regs (16 + flag) < 2 → (computed Move Byte (value_at regs (arguments.Flag flag)) (value_at regs (placed homes b)) held == 0) ≡ (regs (16 + flag) == 0)
          of regs held small =
              let is : nat_lt flag 4 ≡ true = grind (arith, nat_tests) in
              let read : value_at regs (arguments.Flag flag) ≡ regs (16 + flag) = rw is refl in
              ap (λ n. computed Move Byte n (value_at regs (placed homes b)) held == 0) read ∙ ap (λ n. n == 0) (code_value (regs (16 + flag)) (value_at regs (placed homes b)) held small)

-- ---- lines that end with a test
pub record Tested (site : Site) (codes : List AlphaInstr) (homes : Homes) (to : ℕ) (op : MicroOp) (size : Size) (a b : Arg) (exit : Exit) (lines : List Line) : Type 0 where
  pub chosen : ℕ
  pub other : ℕ
  pub is : exit ≡ exits.Choice to chosen other
  pub own : to < 6
  pub direct : is_direct homes to op size a b ≡ true
  pub unmade : made homes to op size a b ≡ None
  pub no_codes : codes ≡ []
  pub no_trap : may_trap site ≡ false
  pub short : are_short_rules site.behind ≡ true
  pub alone : are_left site.sources homes ≡ true
  pub test : BranchOp × ℕ
  pub found : test_of homes op size a b ≡ Some test
  pub whole : map plain (tested_words to test.1 homes) ++ choice_lines test chosen other ≡ lines

pub tested : (site : Site) (codes : List AlphaInstr) (homes : Homes) (to : ℕ) (op : MicroOp) (size : Size) (a b : Arg) (exit : Exit) (lines : List Line) → tested_exit site codes homes to op size a b exit ≡ Some lines → Tested site codes homes to op size a b exit lines
tested site codes homes to op size a b (exits.Choice when chosen other) lines e = by (when == to && may_test site codes homes to op size a b) refl e
  where
    nothing : (o : Option AlphaInstr) → is_none o ≡ true → o ≡ None
    nothing None e = refl
    nothing (Some word) e = absurd (cc e)

    none : (codes : List AlphaInstr) → (length codes == 0) ≡ true → codes ≡ []
    none [] e = refl
    none (word ∷ words) e = let zero = eqb-true (length (word ∷ words)) 0 e in absurd (omega arith)

    by : (c : Bool) → (when == to && may_test site codes homes to op size a b) ≡ c
        → (if c then option_map (λ (test : BranchOp × ℕ). map plain (tested_words to test.1 homes) ++ choice_lines test chosen other) (test_of homes op size a b) else None) ≡ Some lines → Tested site codes homes to op size a b (exits.Choice when chosen other) lines
    by true is e =
        let x = and_parts (when == to) (may_test site codes homes to op size a b) is in
        let y = all_five (nat_lt to 6 && is_direct homes to op size a b && is_none (made homes to op size a b)) (length codes == 0) (not (may_trap site)) (are_short_rules site.behind) (are_left site.sources homes) x.1 in
        let first = all_three (nat_lt to 6) (is_direct homes to op size a b) (is_none (made homes to op size a b)) y.0 in
        let m = mapped (BranchOp × ℕ) (List Line) (λ (test : BranchOp × ℕ). map plain (tested_words to test.1 homes) ++ choice_lines test chosen other) (test_of homes op size a b) lines e in
        record {
          chosen = chosen;
          other = other;
          is = ap (λ n. exits.Choice n chosen other) (eqb-true when to x.0);
          own = ltb-true to 6 first.0;
          direct = first.1;
          unmade = nothing (made homes to op size a b) first.2;
          no_codes = none codes y.1;
          no_trap = not-true (may_trap site) y.2;
          short = y.3;
          alone = y.4;
          test = m.found;
          found = m.is;
          whole = m.whole;
        }
    by false is e = absurd (cc e)
tested site codes homes to op size a b exits.Next lines e = absurd (cc e)
tested site codes homes to op size a b (exits.Fixed address) lines e = absurd (cc e)
tested site codes homes to op size a b (exits.Computed temp) lines e = absurd (cc e)
tested site codes homes to op size a b (exits.Service temp) lines e = absurd (cc e)
tested site codes homes to op size a b exits.Breakpoint lines e = absurd (cc e)

-- ---- the branch
pub chooses_by : (p : Placement) (site : Site) (known : Known) (standing : Standing) (regs : Regs) → Coded p site known standing regs
    → (test : BranchOp × ℕ) (b : Bool) (pc chosen other : ℕ) → links test.0 ≡ false → b ≡ taken test.0 (regs test.1) → Within p site.behind pc (choice_lines test chosen other)
    → Always p None 7 (at_place regs pc) (Ends (Finish (with_pc (if b then other else chosen) standing.state)))
chooses_by p site known standing regs c test true pc chosen other unlinked e w =
    let end = w.high in
    let near = w.near in
    let jump : target_of pc (pos 3) ≡ pc + 1 + 1 + 1 + 1 = omega arith in
    let w1 = next p site.behind pc (Branch test.0 test.1 (pos 3)) None (exit_lines chosen ++ exit_lines other) w in
    let w2 = behind_exit p site.behind (pc + 1) chosen (exit_lines other) w1 in
    roomy p None (3 + 1) 7 (at_place regs pc) _ (lit≤ tt)
    (skips p None 3 (at_place regs pc) test.0 test.1 (pos 3) (pc + 1 + 1 + 1 + 1) _ (stands p site.behind pc (Branch test.0 test.1 (pos 3)) None (exit_lines chosen ++ exit_lines other) w) unlinked (sym e) jump (omega arith)
    (is_inside p site.behind pc (pc + 1 + 1 + 1 + 1) _ w (omega arith) (omega arith)) (exits_to p site known standing regs c (pc + 1 + 1 + 1 + 1) other [] w2))
chooses_by p site known standing regs c test false pc chosen other unlinked e w =
    let end = w.high in
    let w1 = next p site.behind pc (Branch test.0 test.1 (pos 3)) None (exit_lines chosen ++ exit_lines other) w in
    roomy p None (3 + 1) 7 (at_place regs pc) _ (lit≤ tt)
    (passes p None 3 (at_place regs pc) test.0 test.1 (pos 3) _ (stands p site.behind pc (Branch test.0 test.1 (pos 3)) None (exit_lines chosen ++ exit_lines other) w) (sym e)
    (is_inside p site.behind pc (pc + 1) _ w (omega arith) (omega arith)) (exits_to p site known standing regs c (pc + 1) chosen (exit_lines other) w1))

-- ---- what waits
record Needed (to register : ℕ) (o : Option AlphaInstr) (regs : Regs) : Type 0 where
  pub same : (n : ℕ) → (n == (21 + to)) ≡ false → effects (needed_words to register o) regs n ≡ effects (waiting_words o) regs n
  pub read : effects (needed_words to register o) regs register ≡ effects (waiting_words o) regs register
  pub operate : list_all is_operate (needed_words to register o) ≡ true

needed : (to register : ℕ) (o : Option AlphaInstr) (regs : Regs) → list_all is_operate (waiting_words o) ≡ true → Needed to register o regs
needed to register None regs waits = record { same = λ n e. refl; read = refl; operate = refl }
needed to register (Some word) regs waits = by (written word == (21 + to) && not (register == (21 + to))) refl
  where
    Under : List AlphaInstr → Type 0
    Under words = ((n : ℕ) → (n == (21 + to)) ≡ false → effects words regs n ≡ effect word regs n) × (effects words regs register ≡ effect word regs register) × (list_all is_operate words ≡ true)

    under : (c : Bool) → (written word == (21 + to) && not (register == (21 + to))) ≡ c → Under (if c then [] else word ∷ [])
    under true e =
        let x = and_parts (written word == (21 + to)) (not (register == (21 + to))) e in
        let place = eqb-true (written word) (21 + to) x.0 in (
          λ n other. sym (effect_other word regs n (subst (λ k. (n == k) ≡ false) (sym place) other)),
          sym (effect_other word regs register (subst (λ k. (register == k) ≡ false) (sym place) (not-true (register == (21 + to)) x.1))),
          refl,
        )
    under false e = (λ n other. refl, refl, waits)

    by : (c : Bool) → (written word == (21 + to) && not (register == (21 + to))) ≡ c → Needed to register (Some word) regs
    by c e = let u = under (written word == (21 + to) && not (register == (21 + to))) refl in record { same = u.0; read = u.1; operate = u.2 }

-- ---- from the computation on
module _ (p : Placement) (site : Site) (codes : List AlphaInstr) (setting : Setting p site codes) where
  pub tested_follows : (known : Known) (homes : Homes) (standing : Standing) (regs : Regs) (pc to : ℕ) (op : MicroOp) (size : Size) (a b : Arg) (exit : Exit) (lines : List Line)
      → Waits homes → Direct p site known homes standing (begins homes regs)
      → Tested site codes homes to op size a b exit lines → Within p site.behind pc lines
      → computation_fits known to op a b ≡ true → IsArgument a → (is_unary op ≡ false → IsArgument b)
      → ((flag : ℕ) → flag < 4 → takes (is_flag flag) op a b ≡ true → is_ready (rule_of flag site.before) ≡ true)
      → exit_fits (behind_write to (holding_of (leaves_longword (Compute to op size a b))) known) exit ≡ true
      → sources_fit site.sources (behind_write to (holding_of (leaves_longword (Compute to op size a b))) known) ≡ true
      → AtLeaves (CodesComeFrom site.sources p.begun) (leaves_by exit (found p site) (with_value to (computed op size (value_of_arg (found p site) standing.temps a) (value_of_arg (found p site) standing.temps b) (standing.temps to)) standing))
      → Always p None (length lines) (at_place regs pc) (tree (ends p) (leaves_by exit (found p site) (with_value to (computed op size (value_of_arg (found p site) standing.temps a) (value_of_arg (found p site) standing.temps b) (standing.temps to)) standing)))
  tested_follows known homes standing regs pc to op size a b exit lines waits d s w ok a_is b_is ready exit_ok sources agree =
      let count : length (map plain (tested_words to s.test.1 homes) ++ choice_lines s.test s.chosen s.other) ≡ length (tested_words to s.test.1 homes) + 7 = row_length p site.behind (tested_words to s.test.1 homes) (choice_lines s.test s.chosen s.other) in
      let high = within.high in
      subst (λ (ls : List Line). Always p None (length ls) (at_place regs pc) (tree (ends p) (leaves_by exit (found p site) after))) s.whole
      (subst (λ exit. Always p None (length (map plain (tested_words to s.test.1 homes) ++ choice_lines s.test s.chosen s.other)) (at_place regs pc) (tree (ends p) (leaves_by exit (found p site) after))) (sym s.is)
      (roomy p None (length (tested_words to s.test.1 homes) + 7) (length (map plain (tested_words to s.test.1 homes) ++ choice_lines s.test s.chosen s.other)) (at_place regs pc) _ (omega arith)
      (operates p None 7 (tested_words to s.test.1 homes) regs pc _ (row_words p site.behind pc (tested_words to s.test.1 homes) (choice_lines s.test s.chosen s.other) within) operate within.low (omega arith)
      (λ q lt le. is_inside p site.behind pc q (map plain (tested_words to s.test.1 homes) ++ choice_lines s.test s.chosen s.other) within lt (omega arith))
      (subst (λ c. Always p None 7 (at_place now (pc + length (tested_words to s.test.1 homes))) (departed p.serve (if c then Ended (Trap 1 (with_pc (pc_left site after (exits.Choice to s.chosen s.other)) after.state)) else onward))) (sym calm)
      (subst (λ c. Always p None 7 (at_place now (pc + length (tested_words to s.test.1 homes))) (Ends (Finish (with_pc (if c then s.other else s.chosen) after.state)))) same
      (chooses_by p site (emptied (hidden homes_then behind)) after now coded_now s.test (taken s.test.0 (now s.test.1)) (pc + length (tested_words to s.test.1 homes)) s.chosen s.other f.unlinked refl (row_rest p site.behind pc (tested_words to s.test.1 homes) (choice_lines s.test s.chosen s.other) within)))))))
    where
      after : Standing
      after = with_value to (computed op size (value_of_arg (found p site) standing.temps a) (value_of_arg (found p site) standing.temps b) (standing.temps to)) standing

      behind : Known
      behind = behind_write to (holding_of (leaves_longword (Compute to op size a b))) known

      homes_then : Homes
      homes_then = with_home to (new_home homes to op size a b) homes

      begun : Regs
      begun = begins homes regs

      f : Facts homes to op size a b s.test
      f = facts homes d.are to s.own op size a b s.test s.found

      n : Needed to s.test.1 homes.waiting (effects (waiting_words homes.before) regs)
      n = needed to s.test.1 homes.waiting (effects (waiting_words homes.before) regs) waits.1

      now : Regs
      now = effects (tested_words to s.test.1 homes) regs

      same_now : (k : ℕ) → effects (tested_words to s.test.1 homes) regs k ≡ effects (needed_words to s.test.1 homes.waiting) (effects (waiting_words homes.before) regs) k
      same_now k = ap (λ (f : Regs). f k) (effects_append (waiting_words homes.before) (needed_words to s.test.1 homes.waiting) regs)

      operate : list_all is_operate (tested_words to s.test.1 homes) ≡ true
      operate = all_append (waiting_words homes.before) (needed_words to s.test.1 homes.waiting) waits.0 n.operate

      within : Within p site.behind pc (map plain (tested_words to s.test.1 homes) ++ choice_lines s.test s.chosen s.other)
      within = subst (Within p site.behind pc) (sym s.whole) w

      value : ℕ
      value = computed op size (value_at begun (placed homes a)) (value_at begun (placed homes b)) (begun (21 + to))

      whole : Regs
      whole = put begun (21 + to) (computed op size (value_at begun (placed homes a)) (value_at begun (placed homes b)) (begun (21 + to)))

      d' : Direct p site behind homes_then after whole
      d' = let own = s.own in given p site known homes standing begun d to op size a b ok (record { low = omega arith; high = omega arith }) a_is b_is ready s.direct f.narrow f.unselected f.uncopied s.unmade

      onward : Departure
      onward = Ended (Finish (with_pc (if after.temps to == 0 then s.other else s.chosen) after.state))

      come : CodesComeFrom site.sources p.begun (record { departure = trap_or site after (exits.Choice to s.chosen s.other) onward; temps = after.temps })
      come = subst (λ exit. AtLeaves (CodesComeFrom site.sources p.begun) (leaves_by exit (found p site) after)) s.is agree

      left : (state_left (trap_or site after (exits.Choice to s.chosen s.other) onward)).psw ≡ after.state.psw
      left = same_psw after _ onward (traps after) refl

      no_words : moved_words homes_then codes ≡ Some []
      no_words = ap (moved_words homes_then) s.no_codes

      alone : LeftAlone site.sources homes_then
      alone = subst (λ (o : Option ℕ). LeftAlone site.sources (with_home to o homes)) (sym (f.unhomed s.unmade)) (left_alone_without site.sources homes to (left_alone_is site.sources homes d.are s.alone))

      coded : Coded p site (hidden homes_then behind) after whole
      coded = leaves_codes p site codes setting behind homes_then after whole d' [] (trap_or site after (exits.Choice to s.chosen s.other) onward) alone no_words sources s.short left come

      coded_now : Coded p site (emptied (hidden homes_then behind)) after now
      coded_now = let own = s.own in
          coded_alike p site (hidden homes_then behind) after whole now (21 + to) (omega arith) (omega arith) (λ k other. same_now k ∙ n.same k other ∙ sym (put_other begun (21 + to) value k other)) coded

      calm : traps after ≡ false
      calm = ap (λ c. c && (flag_of 5 after.state.psw == 1))
          (untrapped p site (hidden homes_then behind) after p.begun.psw setting.written
          (overflows p site codes setting behind homes_then after whole d' None _ sources left come.signs) whole coded s.no_trap)

      held_there : whole (21 + to) ≡ after.temps to
      held_there = let x = all_three (holds behind to) (not (to == 3)) (not (to == 4)) (subst (λ exit. exit_fits behind exit ≡ true) s.is exit_ok) in
          exit_value p site (hidden homes_then behind) after whole to s.own (rw (ap is_something (held_own homes_then behind to (f.homeless s.unmade)) ∙ x.0, x.1, x.2) refl) coded

      same : taken s.test.0 (now s.test.1) ≡ (after.temps to == 0)
      same =
          let own = s.own in
          let last : ((21 + to) == 31) ≡ false = grind (arith, nat_tests) in
          ap (taken s.test.0) (same_now s.test.1 ∙ n.read)
          ∙ sym (f.value begun (begun (21 + to)) d.holds.form.codes) ∙ ap (λ n. n == 0) (sym (put_same begun (21 + to) value last) ∙ held_there)
