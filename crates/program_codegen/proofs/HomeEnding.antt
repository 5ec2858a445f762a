-- The end of a program whose operands are used where they stand: the codes, the register that is written, and what comes behind.
use Rattle.std.proofs.Common.{◌≡◌, ℕ, ◌+◌, ◌/◌, ◌%◌, ◌^◌, ◌<◌, ◌≤◌, refl, sym, ap, ◌∙◌, subst, arith, eqb-true, List, [], ◌∷◌, ◌++◌, length, map, Option, Some, None, Bool, true, false, lit<, lit≤, length-append, ◌-◌, inl, inr}
use Rattle.std.specs.Prelude.{◌==◌, ◌&&◌, ◌||◌, nat_lt, not, is_none, slice_set, unwrap_or, if◌then◌else◌, ◌⊎◌}
use Rattle.std.specs.List.{list_all}
use Rattle.std.proofs.lemmas.Bool.Decides.{nat_tests}
use Rattle.std.proofs.lemmas.Bool.{and_parts, ltb-true}
use Rattle.vt_words.specs.Quad.{left, sign_extended}
use Rattle.vt_words.proofs.Longwords.{extended_again, extended_fits, extended_low, same_extended}
use Rattle.vax_form.specs.State.{with_core, with_pc, with_register}
use Rattle.vax_form.specs.Tree.{Ends, Finish, Trap}
use Rattle.vax_form.specs.declared.instr.Size.{Size}
use Rattle.vax_form.specs.declared.instr.Size.TheVariants.{Byte, Word, Long, Quad}
use Rattle.vax_form.specs.declared.state.Flags.{Flags}
use Rattle.alpha_encode.specs.declared.instr.AlphaInstr.{AlphaInstr}
use Rattle.alpha_encode.specs.declared.instr.AlphaInstr.TheVariants.{Memory, Branch, Operate, Jump, Pal}
use Rattle.alpha_encode.specs.declared.instr.BranchOp.{BranchOp}
use Rattle.alpha_encode.specs.declared.instr.BranchOp.TheVariants.{Beq}
use Rattle.alpha_encode.specs.declared.instr.OperateOp.TheVariants as row
use Rattle.alpha_meaning.specs.Act.{links, second_value, taken}
use Rattle.alpha_meaning.specs.Loops.{effect, effects, fine, is_operate, written}
use Rattle.alpha_meaning.specs.Result.{result_of}
use Rattle.alpha_meaning.specs.State.{Regs, at_place, put}
use Rattle.alpha_meaning.proofs.Registers.{put_other}
use Rattle.alpha_meaning.proofs.Rules.{effects_only}
use Rattle.exception_records.specs.Codes.{codes_by, comparison_codes, difference_codes, low, result_codes, sum_codes}
use Rattle.exception_records.specs.Shown.{codes_shown, registers_shown, still_held}
use Rattle.exception_records.specs.declared.rules.CodeRule.{CodeRule}
use Rattle.exception_records.specs.declared.rules.CodeRule.TheVariants as rules
use Rattle.micro_ops.specs.declared.codes.CodeSource.{CodeSource}
use Rattle.micro_ops.specs.declared.codes.CodeSource.TheVariants as code_sources
use Rattle.micro_ops.specs.declared.known.Holding.{Holding}
use Rattle.micro_ops.specs.declared.known.Holding.TheVariants.{Nothing, Wide}
use Rattle.micro_ops.specs.declared.known.Known.{Known}
use Rattle.micro_ops.specs.declared.program.Exit.{Exit}
use Rattle.micro_ops.specs.declared.program.Exit.TheVariants as exits
use Rattle.micro_ops.specs.Fits.{carry_is_held, exit_fits, exit_holds, same, signs_are_held, sources_fit}
use Rattle.micro_ops.specs.Known.{held, holds, is_something}
use Rattle.micro_ops.specs.Leaving.{CodesComeFrom, SignsComeFrom, state_left}
use Rattle.micro_ops.specs.Meaning.{Departure, Ended, Standing, Temps, departed, leaves_by, traps}
use Rattle.micro_ops.specs.Course.{AtLeaves}
use Rattle.micro_ops.specs.Sources.{codes_written_by}
use Rattle.micro_ops.specs.Uses.{is_quad}
use Rattle.micro_ops.proofs.Held.{by_six}
use Rattle.block_law.specs.CodeWords.{codes_in, may_be_written, temps_in}
use Rattle.block_law.specs.Placements.{Placement}
use Rattle.block_law.proofs.Kept.{registers_put, form_kept}
use Rattle.block_law.proofs.Rules.{Always, operates, roomy}
use Rattle.program_codegen.specs.declared.direct.Raised.{Raised}
use Rattle.block_law.specs.Tidy.{is_kept}
use Rattle.program_codegen.specs.declared.homes.Homes.{Homes}
use Rattle.program_codegen.specs.declared.points.Site.{Site}
use Rattle.program_codegen.specs.Homes.{AreLasting, IsLasting, home_at, home_of, waiting_words, stands_in}
use Rattle.program_codegen.specs.Ends.{are_left, are_short_rules, is_made_there, commit_stays, is_left_alone, commit_words, end_lines, exit_stays, is_operand, is_short_rule, may_end, moved_words, none_raised, raised_at, end_words, goes_by, is_left, rewrites, with_waiting, choice_of, end_by}
use Rattle.program_codegen.specs.Programs.{IsExit}
use Rattle.program_codegen.specs.Words.{departing, departing_by, plain, trap_by}
use Rattle.program_codegen.proofs.Coded.{Coded, carry_by, coded_by, fine_operates, registers_same, signs_by, sources_parts}
use Rattle.program_codegen.proofs.Committing.{above, form_register}
use Rattle.program_codegen.proofs.Computing.{codes_kept, held_still, held_value}
use Rattle.program_codegen.proofs.Departures.{departs_some, same_psw}
use Rattle.program_codegen.proofs.Exiting.{chooses, exits_to, kept_apart}
use Rattle.program_codegen.proofs.HomeCodes.{Moved, home_stays, moved_effects}
use Rattle.program_codegen.proofs.HomeHolding.{Direct, LeftAlone, held_own, hidden, hide, lasting_is, left_alone_is}
use Rattle.program_codegen.proofs.HomeChoices.{ByNumber, choice_is}
use Rattle.program_codegen.proofs.HomeNumbers.{IsExtended}
use Rattle.program_codegen.proofs.HomeShapes.{moved_fine}
use Rattle.program_codegen.proofs.HomeSparing.{Extends, end_operates, flipped, not_false, put_zero, waiting_same}
use Rattle.program_codegen.proofs.Holding.{HoldsAs, Setting, ends, found, tree}
use Rattle.program_codegen.proofs.Numbers.{all_three, all_four, committed_is}
use Rattle.program_codegen.proofs.Testing.{trap_or, trap_or_by, traps_first}
use Rattle.program_codegen.proofs.Trapping.{ExitHolds, Overflows}
use Rattle.program_codegen.proofs.Walk.{Within, is_inside, row_length, row_rest, row_words}

-- ---- what rules tell by low longwords
low_same : (size : Size) (a b : ℕ) → not (is_quad size) ≡ true → a % 2 ^ 32 ≡ b % 2 ^ 32 → low size a ≡ low size b
low_same Byte a b short e = omega arith
low_same Word a b short e = omega arith
low_same Long a b short e = e
low_same Quad a b short e = absurd (cc short)

rule_same : (rule : CodeRule) (a b a' b' : ℕ) → is_short_rule rule ≡ true → a % 2 ^ 32 ≡ a' % 2 ^ 32 → b % 2 ^ 32 ≡ b' % 2 ^ 32 → codes_by rule a b ≡ codes_by rule a' b'
rule_same rules.Ready a b a' b' short e f = refl
rule_same rules.Zero a b a' b' short e f = refl
rule_same (rules.Result size) a b a' b' short e f = ap (result_codes size) (low_same size a a' short e)
rule_same (rules.Add size) a b a' b' short e f = ap (λ x. sum_codes size x (low size b)) (low_same size a a' short e) ∙ ap (sum_codes size (low size a')) (low_same size b b' short f)
rule_same (rules.Sub size) a b a' b' short e f = ap (λ x. difference_codes size x (low size b)) (low_same size a a' short e) ∙ ap (difference_codes size (low size a')) (low_same size b b' short f)
rule_same (rules.Compare size) a b a' b' short e f = ap (λ x. comparison_codes size x (low size b)) (low_same size a a' short e) ∙ ap (comparison_codes size (low size a')) (low_same size b b' short f)

four : (n n' z z' v v' c c' : Bool) → n ≡ n' → z ≡ z' → v ≡ v' → c ≡ c' → (let left : Flags = record { n = n; z = z; v = v; c = c } in left) ≡ record { n = n'; z = z'; v = v'; c = c' }
four n n' z z' v v' c c' en ez ev ec = rw (en, ez, ev, ec) refl

-- the registers in which the temporaries stand on their own
abbrev pub value_in : Option ℕ → Regs → (register : ℕ) → ℕ
value_in None regs register = regs register
value_in (Some home) regs register = regs home % 2 ^ 32

abbrev pub own_file : Homes → Regs → Regs
own_file homes regs = λ n. if n == 21 then value_in homes.first regs n else if n == 22 then value_in homes.second regs n else if n == 23 then value_in homes.result regs n else regs n

-- ---- temporary 3
-- what is known where it isn't, if it has a home
abbrev third_hidden : Homes → Known → Known
third_hidden homes known = record known { temp3 = hide homes.place known.temp3 }

-- what the codes come from is still held
signs_left : (homes : Homes) (known : Known) (source : CodeSource) → (is_none homes.place || not (is_made_there source)) ≡ true → signs_are_held known source ≡ true → signs_are_held (third_hidden homes known) source ≡ true
signs_left homes known code_sources.Kept third e = e
signs_left homes known code_sources.Zero third e = e
signs_left homes known (code_sources.Result size) third e = e
signs_left homes known (code_sources.Add size) third e = e
signs_left homes known (code_sources.Sub size) third e = e
signs_left homes known (code_sources.Compare size) third e = e
signs_left homes known (code_sources.Computed size) third e = by homes.place third
  where
    by : (o : Option ℕ) → (is_none o || false) ≡ true → (holds known 2 && is_something (hide o known.temp3)) ≡ true
    by None third = e
    by (Some r) third = absurd (cc third)
signs_left homes known code_sources.Psw third e = e

carry_left : (homes : Homes) (known : Known) (source : CodeSource) → carry_is_held known source ≡ true → carry_is_held (third_hidden homes known) source ≡ true
carry_left homes known code_sources.Kept e = e
carry_left homes known code_sources.Zero e = e
carry_left homes known (code_sources.Result size) e = e
carry_left homes known (code_sources.Add size) e = e
carry_left homes known (code_sources.Sub size) e = e
carry_left homes known (code_sources.Compare size) e = e
carry_left homes known (code_sources.Computed size) e = e
carry_left homes known code_sources.Psw e = e

module _ (p : Placement) (site : Site) (known : Known) (homes : Homes) (standing : Standing) (regs : Regs) (d : Direct p site known homes standing regs) where
  there : (n r : ℕ) → home_at homes n ≡ Some r → (own_file homes regs n ≡ regs r % 2 ^ 32) × IsExtended (regs r)
  there n r e = by (n == 21) refl (n == 22) refl (n == 23) refl e
    where
      of : (temp : ℕ) (o : Option ℕ) (place : ℕ) → o ≡ home_of homes temp → o ≡ Some r → (value_in o regs place ≡ regs r % 2 ^ 32) × IsExtended (regs r)
      of temp o place is e = (ap (λ o. value_in o regs place) e, (d.values temp r (sym is ∙ e)).1)

      by : (a : Bool) → (n == 21) ≡ a → (b : Bool) → (n == 22) ≡ b → (c : Bool) → (n == 23) ≡ c
          → (if a then homes.first else if b then homes.second else if c then homes.result else None) ≡ Some r → (own_file homes regs n ≡ regs r % 2 ^ 32) × IsExtended (regs r)
      by true e b f c g is = let x = of 0 homes.first n refl is in (let same : own_file homes regs n ≡ value_in homes.first regs n = rw e refl in same ∙ x.0, x.1)
      by false e true f c g is = let x = of 1 homes.second n refl is in (let same : own_file homes regs n ≡ value_in homes.second regs n = rw (e, f) refl in same ∙ x.0, x.1)
      by false e false f true g is = let x = of 2 homes.result n refl is in (let same : own_file homes regs n ≡ value_in homes.result regs n = rw (e, f, g) refl in same ∙ x.0, x.1)
      by false e false f false g is = absurd (cc is)

  own_same : (n : ℕ) → home_at homes n ≡ None → own_file homes regs n ≡ regs n
  own_same n e = by (n == 21) refl (n == 22) refl (n == 23) refl e
    where
      by : (a : Bool) → (n == 21) ≡ a → (b : Bool) → (n == 22) ≡ b → (c : Bool) → (n == 23) ≡ c
          → (if a then homes.first else if b then homes.second else if c then homes.result else None) ≡ None → own_file homes regs n ≡ regs n
      by true e b f c g is = let same : own_file homes regs n ≡ value_in homes.first regs n = rw e refl in same ∙ ap (λ o. value_in o regs n) is
      by false e true f c g is = let same : own_file homes regs n ≡ value_in homes.second regs n = rw (e, f) refl in same ∙ ap (λ o. value_in o regs n) is
      by false e false f true g is = let same : own_file homes regs n ≡ value_in homes.result regs n = rw (e, f, g) refl in same ∙ ap (λ o. value_in o regs n) is
      by false e false f false g is = rw (e, f, g) refl

  starts : Moved homes none_raised (own_file homes regs) regs
  starts = record {
    same = λ n not_so none down. own_same n none;
    loose = λ n is. ap (λ v. v % 2 ^ 32) (own_same n (no_home n is));
    there = there;
    lifted = λ n r e. nothing n r (n == 24) (n == 25) e;
  }
    where
      nothing : (n r : ℕ) (a b : Bool) → (if a then None else if b then None else None) ≡ Some r → (own_file homes regs n ≡ left (regs r) 32) × IsExtended (regs r) × IsLasting (Some r)
      nothing n r true b e = absurd (cc e)
      nothing n r false true e = absurd (cc e)
      nothing n r false false e = absurd (cc e)

      no_home : (n : ℕ) → is_operand n ≡ true → home_at homes n ≡ None
      no_home n is =
          let a : (n == 21) ≡ false = grind (arith, nat_tests, is) in
          let b : (n == 22) ≡ false = grind (arith, nat_tests, is) in
          let c : (n == 23) ≡ false = grind (arith, nat_tests, is) in
          rw (a, b, c) refl

  -- a temporary that holds something has its value there, but for temporary 3 where that has a home
  in_own : (temp : ℕ) → temp < 6 → holds (third_hidden homes known) temp ≡ true → own_file homes regs (21 + temp) ≡ standing.temps temp
  in_own temp lt some =
      by_six (λ n. (o : Option ℕ) → home_of homes n ≡ o → holds (third_hidden homes known) n ≡ true → own_file homes regs (21 + n) ≡ standing.temps n)
      (low 0 refl (lit< tt)) (low 1 refl (lit< tt)) (low 2 refl (lit< tt)) third (high 4 refl refl (lit< tt)) (high 5 refl refl (lit< tt)) temp lt (home_of homes temp) refl some
    where
      own : (n : ℕ) → n < 6 → home_of homes n ≡ None → holds known n ≡ true → regs (21 + n) ≡ standing.temps n
      own n lt none some = (held_value (held (hidden homes known) n) (standing.temps n) (regs (21 + n)) (ap is_something (held_own homes known n none) ∙ some) (d.holds.temps n lt)).0

      third : (o : Option ℕ) → homes.place ≡ o → is_something (hide homes.place known.temp3) ≡ true → regs 24 ≡ standing.temps 3
      third None e some = own 3 (lit< tt) e (sym (ap (λ o. is_something (hide o known.temp3)) e) ∙ some)
      third (Some r) e some = absurd (cc (sym some ∙ ap (λ o. is_something (hide o known.temp3)) e))

      high : (n : ℕ) → home_of homes n ≡ None → own_file homes regs (21 + n) ≡ regs (21 + n) → n < 6 → (o : Option ℕ) → home_of homes n ≡ o → holds known n ≡ true → own_file homes regs (21 + n) ≡ standing.temps n
      high n none same lt o e some = same ∙ own n lt none some

      low : (n : ℕ) → home_at homes (21 + n) ≡ home_of homes n → n < 6 → (o : Option ℕ) → home_of homes n ≡ o → holds known n ≡ true → own_file homes regs (21 + n) ≡ standing.temps n
      low n at lt None none some = own_same (21 + n) (at ∙ none) ∙ own n lt none some
      low n at lt (Some r) e some = (there (21 + n) r (at ∙ e)).0 ∙ sym (d.values n r e).0

module _ (p : Placement) (site : Site) (codes : List AlphaInstr) (setting : Setting p site codes) (known : Known) (homes : Homes) (standing : Standing) (regs : Regs) (d : Direct p site known homes standing regs) where
  -- ---- the codes
  shown : (words : List AlphaInstr) (held : Flags) (left : ℕ) (raised : Raised) (own placed : Regs) → are_short_rules site.behind ≡ true → Moved homes raised own placed → codes_shown own site.behind held ≡ codes_in left → codes_shown placed site.behind held ≡ codes_in left
  shown words held left raised own placed short m e =
      let x = all_four (is_short_rule site.behind.n) (is_short_rule site.behind.z) (is_short_rule site.behind.v) (is_short_rule site.behind.c) short in
      let first = sym (m.loose 28 refl) in
      let second = sym (m.loose 29 refl) in
      let rule_n = rule_same site.behind.n (placed 28) (placed 29) (own 28) (own 29) x.0 first second in
      let rule_z = rule_same site.behind.z (placed 28) (placed 29) (own 28) (own 29) x.1 first second in
      let rule_v = rule_same site.behind.v (placed 28) (placed 29) (own 28) (own 29) x.2 first second in
      let rule_c = rule_same site.behind.c (placed 15) (placed 30) (own 15) (own 30) x.3 (sym (m.loose 15 refl)) (sym (m.loose 30 refl)) in
      rw (rule_n, rule_z, rule_v, rule_c, sym (m.same 16 refl refl refl), sym (m.same 17 refl refl refl), sym (m.same 18 refl refl refl), sym (m.same 19 refl refl refl)) e

  pub leaves_codes : (words : List AlphaInstr) (departure : Departure) → LeftAlone site.sources homes → moved_words homes codes ≡ Some words → sources_fit site.sources known ≡ true → are_short_rules site.behind ≡ true → (state_left departure).psw ≡ standing.state.psw
      → CodesComeFrom site.sources p.begun (record { departure = departure; temps = standing.temps }) → Coded p site (hidden homes known) standing (effects words regs)
  leaves_codes words departure alone moved fits short left come =
      let h = d.holds in
      let parts = sources_parts site.sources known fits in
      let own = own_file homes regs in
      let values : (temp : ℕ) → temp < 6 → holds (third_hidden homes known) temp ≡ true → temps_in own temp ≡ standing.temps temp = λ temp lt some. in_own p site known homes standing regs d temp lt some in
      let signs = signs_left homes known site.sources.nzv alone.third parts.2 in
      let carry = carry_left homes known site.sources.c parts.3 in
      let shows = setting.leaves.leaves own p.held p.begun departure
      (record { zero = h.form.zero; hold = λ n from to. subst (λ v. v < 2) (sym (own_same p site known homes standing regs d n (no_home n from to))) (h.form.codes n from to); codes = h.codes })
      (record {
        signs = signs_by site.sources.nzv p.begun.psw (state_left departure).psw standing.temps (temps_in own) (third_hidden homes known) values signs come.signs;
        carry = carry_by site.sources.c p.begun.psw (state_left departure).psw standing.temps (temps_in own) (third_hidden homes known) values carry come.carry;
      }) in
      let behind = moved_effects site.sources homes alone.lasting codes words none_raised own regs setting.leaves.only moved (starts p site known homes standing regs d) in
      let m = behind.1 in
      coded_by p site codes setting words (hidden homes known) standing regs (state_left departure) (moved_fine homes alone.lasting (may_be_written site.sources) codes words moved setting.leaves.only) parts.0 parts.1 left
      (record {
        zero = sym (m.same 31 refl refl refl) ∙ shows.zero;
        hold = λ n from to. subst (λ v. v < 2) (m.same n (no_operand n from to) (no_home n from to) (no_raised behind.0 n from to)) (shows.hold n from to);
        codes = shown words (still_held p.held (codes_written_by site.sources)) (state_left departure).psw behind.0 (effects codes own) (effects words regs) short m shows.codes;
      }) h
    where
      no_home : (n : ℕ) → 16 ≤ n → n < 20 → home_at homes n ≡ None
      no_home n from to =
          let a : (n == 21) ≡ false = grind (arith, nat_tests) in
          let b : (n == 22) ≡ false = grind (arith, nat_tests) in
          let c : (n == 23) ≡ false = grind (arith, nat_tests) in
          rw (a, b, c) refl

      no_raised : (raised : Raised) (n : ℕ) → 16 ≤ n → n < 20 → raised_at raised n ≡ None
      no_raised raised n from to =
          let a : (n == 24) ≡ false = grind (arith, nat_tests) in
          let b : (n == 25) ≡ false = grind (arith, nat_tests) in
          rw (a, b) refl

      no_operand : (n : ℕ) → 16 ≤ n → n < 20 → is_operand n ≡ false
      no_operand n from to =
          let a : (n == 28) ≡ false = grind (arith, nat_tests) in
          let b : (n == 29) ≡ false = grind (arith, nat_tests) in
          let c : (n == 15) ≡ false = grind (arith, nat_tests) in
          let e : (n == 30) ≡ false = grind (arith, nat_tests) in
          rw (a, b, c, e) refl

-- ---- the register that is written
-- how a program stands behind that
abbrev pub committed : Option (ℕ × ℕ) → Standing → Standing
committed None standing = standing
committed (Some commit) standing = record standing { state = with_register commit.0 (standing.temps commit.1 % 2 ^ 32) standing.state }

-- what is known of it
abbrev pub CommitFits : Known → Option (ℕ × ℕ) → Type 0
CommitFits known None = Unit {0}
CommitFits known (Some commit) = (commit.0 < 15) × (holds known commit.1 ≡ true)

coded_commit : (p : Placement) (site : Site) (known : Known) (standing : Standing) (regs : Regs) (number value : ℕ) → number < 15 → Coded p site known standing regs
    → Coded p site known (record standing { state = with_register number (value % 2 ^ 32) standing.state }) (put regs number (sign_extended value 32))
coded_commit p site known standing regs number value lt c = record {
  form = form_register regs number (sign_extended value 32) lt (extended_again value) c.form;
  temps = λ temp temp_lt three four. held_still (held known temp) (standing.temps temp) (regs (21 + temp)) (put regs number (sign_extended value 32) (21 + temp)) (λ some. out (21 + temp) (omega arith)) (c.temps temp temp_lt three four);
  state =
      ap (with_register number (value % 2 ^ 32)) c.state
      ∙ ap (λ (rs : List ℕ). with_core p.begun rs p.begun.pc standing.state.psw) (ap (slice_set (registers_shown regs) number) (sym (extended_low value)) ∙ sym (registers_put regs number (sign_extended value 32) lt));
  upper = c.upper ∙ ap (λ n. n / 16) (sym (out 20 (lit≤ tt)));
  before = λ e f. same_before ∙ c.before e f;
  codes = same_codes ∙ c.codes;
}
  where
    out : (n : ℕ) → 15 ≤ n → put regs number (sign_extended value 32) n ≡ regs n
    out n le = put_other regs number (sign_extended value 32) n (above number n lt le)

    same_codes : codes_shown (put regs number (sign_extended value 32)) site.behind (still_held p.held p.written) ≡ codes_shown regs site.behind (still_held p.held p.written)
    same_codes = rw (out 15 (lit≤ tt), out 16 (lit≤ tt), out 17 (lit≤ tt), out 18 (lit≤ tt), out 19 (lit≤ tt), out 28 (lit≤ tt), out 29 (lit≤ tt), out 30 (lit≤ tt)) refl

    same_before : codes_shown (put regs number (sign_extended value 32)) site.before p.held ≡ codes_shown regs site.before p.held
    same_before = rw (out 15 (lit≤ tt), out 16 (lit≤ tt), out 17 (lit≤ tt), out 18 (lit≤ tt), out 19 (lit≤ tt), out 28 (lit≤ tt), out 29 (lit≤ tt), out 30 (lit≤ tt)) refl

module _ (p : Placement) (site : Site) (codes : List AlphaInstr) (setting : Setting p site codes) (known : Known) (homes : Homes) (standing : Standing) (regs : Regs) (d : Direct p site known homes standing regs) where
  committed_coded : (words : List AlphaInstr) (commit : Option (ℕ × ℕ)) → AreLasting homes → list_all (fine (may_be_written site.sources)) words ≡ true → commit_stays commit ≡ true → CommitFits known commit
      → Coded p site (hidden homes known) standing (effects words regs) → Coded p site (hidden homes known) (committed commit standing) (effects (commit_words homes commit) (effects words regs))
  committed_coded words None lasting only stays is c = c
  committed_coded words (Some commit) lasting only stays is c =
      subst (λ value. Coded p site (hidden homes known) (committed (Some commit) standing) (put (effects words regs) commit.0 value))
      (sym (committed_is (effects words regs (place (home_of homes commit.1))) ∙ same_extended (effects words regs (place (home_of homes commit.1))) (standing.temps commit.1) (is_low (home_of homes commit.1) refl)))
      (coded_commit p site (hidden homes known) standing (effects words regs) commit.0 (standing.temps commit.1) is.0 c)
    where
      place : Option ℕ → ℕ
      place home = unwrap_or home (21 + commit.1)

      low : (temp : ℕ) → is_left_alone temp ≡ true → temp < 6
      low temp e = grind (arith, nat_tests, e)

      apart : (temp : ℕ) → is_left_alone temp ≡ true → ((temp == 3) ≡ false) × ((temp == 4) ≡ false)
      apart temp e = (grind (arith, nat_tests, e), grind (arith, nat_tests, e))

      is_low : (o : Option ℕ) → home_of homes commit.1 ≡ o → effects words regs (unwrap_or o (21 + commit.1)) % 2 ^ 32 ≡ standing.temps commit.1 % 2 ^ 32
      is_low None none =
          let other = apart commit.1 stays in
          ap (λ n. n % 2 ^ 32) (held_value (held (hidden homes known) commit.1) (standing.temps commit.1) (effects words regs (21 + commit.1)) (ap is_something (held_own homes known commit.1 none) ∙ is.1) (c.temps commit.1 (low commit.1 stays) other.0 other.1)).0
      is_low (Some r) e =
          let v = d.values commit.1 r e in
          let stay = effects_only words (may_be_written site.sources) regs regs only (λ n out. refl) r (home_stays site.sources r (lasting_is homes lasting commit.1 r stays e)) in
          ap (λ n. n % 2 ^ 32) stay ∙ (twice (regs r) ∙ ap (λ n. n % 2 ^ 32) (sym v.0))
        where
          twice : (n : ℕ) → n % 2 ^ 32 ≡ n % 2 ^ 32 % 2 ^ 32
          twice n = omega arith

  -- ---- what is known at the end
  exit_known : (exit : Exit) → exit_stays homes exit ≡ true → exit_fits known exit ≡ true → ExitHolds (hidden homes known) exit
  exit_known exits.Next stays ok = tt
  exit_known (exits.Fixed address) stays ok = tt
  exit_known (exits.Choice when taken other) stays ok =
      let x = all_three (holds known when) (not (when == 3)) (not (when == 4)) ok in
      let own = held_own homes known when (none (home_of homes when) stays) in
      rw (ap is_something own ∙ x.0, x.1, x.2) refl
    where
      none : (o : Option ℕ) → is_none o ≡ true → o ≡ None
      none None e = refl
      none (Some r) e = absurd (cc e)
  exit_known (exits.Computed temp) stays ok = absurd (cc stays)
  exit_known (exits.Service temp) stays ok = absurd (cc stays)
  exit_known exits.Breakpoint stays ok = absurd (cc stays)

  pub overflows : (commit : Option (ℕ × ℕ)) (left : ℕ) → sources_fit site.sources known ≡ true → left ≡ (committed commit standing).state.psw → SignsComeFrom site.sources.nzv p.begun.psw left standing.temps
      → Overflows site (hidden homes known) (committed commit standing) p.begun.psw
  overflows None left ok same signs =
      let parts = sources_parts site.sources known ok in
      record { codes_fit = parts.0; psw_fits = parts.1; overflowed = d.holds.overflowed; no_overflow = d.holds.no_overflow; temps = standing.temps; signs = subst (λ psw. SignsComeFrom site.sources.nzv p.begun.psw psw standing.temps) same signs }
  overflows (Some commit) left ok same signs =
      let parts = sources_parts site.sources known ok in
      record { codes_fit = parts.0; psw_fits = parts.1; overflowed = d.holds.overflowed; no_overflow = d.holds.no_overflow; temps = standing.temps; signs = subst (λ psw. SignsComeFrom site.sources.nzv p.begun.psw psw standing.temps) same signs }

  same_temps : (commit : Option (ℕ × ℕ)) → (committed commit standing).temps ≡ standing.temps
  same_temps None = refl
  same_temps (Some commit) = refl

  same_psw_left : (commit : Option (ℕ × ℕ)) → (committed commit standing).state.psw ≡ standing.state.psw
  same_psw_left None = refl
  same_psw_left (Some commit) = refl

-- ---- the words up to the end
-- no temporary holds anything
abbrev pub emptied : Known → Known
emptied known = record known { temp0 = Nothing; temp1 = Nothing; temp2 = Nothing; temp3 = Nothing; temp4 = Nothing; temp5 = Nothing }

-- no temporary holds anything, but for the one that an exit goes by
abbrev pub held_for : Exit → (register : ℕ) → Holding → Holding
held_for exit register holding = if goes_by exit register then holding else Nothing

abbrev pub left_known : Exit → Known → Known
left_known exit known = record known {
  temp0 = held_for exit 21 known.temp0;
  temp1 = held_for exit 22 known.temp1;
  temp2 = held_for exit 23 known.temp2;
  temp3 = held_for exit 24 known.temp3;
  temp4 = held_for exit 25 known.temp4;
  temp5 = held_for exit 26 known.temp5;
}

-- registers that show the same
pub coded_alike : (p : Placement) (site : Site) (known : Known) (standing : Standing) (old new : Regs) (k : ℕ) → 21 ≤ k → k ≤ 27 → ((n : ℕ) → (n == k) ≡ false → new n ≡ old n) → Coded p site known standing old → Coded p site (emptied known) standing new
coded_alike p site known standing old new k from to same c = record {
  form = form_kept old new kept (same 31 (above 31 (lit≤ tt))) c.form;
  temps = λ temp lt three four. by_six (λ n. HoldsAs (held (emptied known) n) (standing.temps n) (new (21 + n))) tt tt tt tt tt tt temp lt;
  state = c.state ∙ ap (λ (rs : List ℕ). with_core p.begun rs p.begun.pc standing.state.psw) (sym (registers_same old new (λ n lt. same n (low n (omega arith)))));
  upper = c.upper ∙ ap (λ n. n / 16) (sym (same 20 (low 20 (lit< tt))));
  before = λ e f. codes_kept old new site.before p.held kept ∙ c.before e f;
  codes = codes_kept old new site.behind (still_held p.held p.written) kept ∙ c.codes;
}
  where
    kept : (n : ℕ) → is_kept n ≡ true → new n ≡ old n
    kept n e = same n (kept_apart k n from to e)

    low : (n : ℕ) → n < 21 → (n == k) ≡ false
    low n lt = grind (arith, nat_tests)

    above : (n : ℕ) → 28 ≤ n → (n == k) ≡ false
    above n le = grind (arith, nat_tests)

-- registers of which those that are left are any
module _ (p : Placement) (site : Site) (known : Known) (standing : Standing) (exit : Exit) (old new : Regs) (same : (n : ℕ) → is_left exit n ≡ false → new n ≡ old n) (c : Coded p site known standing old) where
  low_kept : (n : ℕ) → n < 21 → is_left exit n ≡ false
  low_kept n lt = let low : nat_lt 20 n ≡ false = grind (arith, nat_tests) in rw low refl

  high_kept : (n : ℕ) → 27 ≤ n → is_left exit n ≡ false
  high_kept n le = let high : nat_lt n 27 ≡ false = grind (arith, nat_tests) in rw high (nothing (nat_lt 20 n))
    where
      nothing : (c : Bool) → (c && false && not (goes_by exit n)) ≡ false
      nothing true = refl
      nothing false = refl

  all_kept : (n : ℕ) → is_kept n ≡ true → new n ≡ old n
  all_kept n e = by (nat_lt n 21) refl
    where
      by : (c : Bool) → nat_lt n 21 ≡ c → new n ≡ old n
      by true lt = same n (low_kept n (ltb-true n 21 lt))
      by false not_so = let le : 27 ≤ n = grind (arith, nat_tests, e, not_so) in same n (high_kept n le)

  stays_held : (register : ℕ) (holding : Holding) (value : ℕ) → HoldsAs holding value (old register) → HoldsAs (held_for exit register holding) value (new register)
  stays_held register holding value h = by (goes_by exit register) refl
    where
      by : (c : Bool) → goes_by exit register ≡ c → HoldsAs (if c then holding else Nothing) value (new register)
      by false e = tt
      by true e = subst (HoldsAs holding value) (sym (same register (rw e (nothing (nat_lt 20 register) (nat_lt register 27))))) h
        where
          nothing : (c d : Bool) → (c && d && false) ≡ false
          nothing true true = refl
          nothing true false = refl
          nothing false d = refl

  coded_left : Coded p site (left_known exit known) standing new
  coded_left = record {
    form = form_kept old new all_kept (same 31 (high_kept 31 (lit≤ tt))) c.form;
    temps = λ temp lt.
        by_six (λ n. (n == 3) ≡ false → (n == 4) ≡ false → HoldsAs (held (left_known exit known) n) (standing.temps n) (new (21 + n)))
        (λ three four. stays_held 21 known.temp0 (standing.temps 0) (c.temps 0 (lit< tt) three four))
        (λ three four. stays_held 22 known.temp1 (standing.temps 1) (c.temps 1 (lit< tt) three four))
        (λ three four. stays_held 23 known.temp2 (standing.temps 2) (c.temps 2 (lit< tt) three four))
        (λ three four. absurd (cc three)) (λ three four. absurd (cc four))
        (λ three four. stays_held 26 known.temp5 (standing.temps 5) (c.temps 5 (lit< tt) three four)) temp lt;
    state = c.state ∙ ap (λ (rs : List ℕ). with_core p.begun rs p.begun.pc standing.state.psw) (sym (registers_same old new (λ n lt. same n (low_kept n (omega arith)))));
    upper = c.upper ∙ ap (λ n. n / 16) (sym (same 20 (low_kept 20 (lit< tt))));
    before = λ e f. codes_kept old new site.before p.held all_kept ∙ c.before e f;
    codes = codes_kept old new site.behind (still_held p.held p.written) all_kept ∙ c.codes;
  }

-- the exit finds its temporary there
left_holds : (exit : Exit) (known : Known) → IsExit exit → ExitHolds known exit → ExitHolds (left_known exit known) exit
left_holds exits.Next known is there = tt
left_holds (exits.Fixed address) known is there = tt
left_holds (exits.Computed temp) known is there =
    by_six (λ n. exit_holds known n ≡ true → exit_holds (left_known (exits.Computed n) known) n ≡ true) (λ e. e) (λ e. e) (λ e. e) (λ e. e) (λ e. e) (λ e. e) temp is there
left_holds (exits.Choice when taken other) known is there =
    by_six (λ n. exit_holds known n ≡ true → exit_holds (left_known (exits.Choice n taken other) known) n ≡ true) (λ e. e) (λ e. e) (λ e. e) (λ e. e) (λ e. e) (λ e. e) when is.0 there
left_holds (exits.Service temp) known is there = tt
left_holds exits.Breakpoint known is there = tt

-- it is two words that operate, or fewer
abbrev pub Waits : Homes → Type 0
Waits homes = (list_all is_operate (waiting_words homes.before) ≡ true) × (list_all is_operate (waiting_words homes.waiting) ≡ true)

-- the registers behind what waits
abbrev pub begins : Homes → Regs → Regs
begins homes regs = effects (waiting_words homes.waiting) (effects (waiting_words homes.before) regs)

pub effect_other : (word : AlphaInstr) (f : Regs) (n : ℕ) → (n == written word) ≡ false → effect word f n ≡ f n
effect_other (Operate op ra rb rc) f n e = put_other f rc (result_of op (f ra) (second_value rb f) (f rc)) n e
effect_other (Memory op ra rb disp) f n e = refl
effect_other (Branch op ra disp) f n e = refl
effect_other (Jump ra rb) f n e = refl
effect_other (Pal number) f n e = refl

effect_zero : (word : AlphaInstr) (f : Regs) → effect word f 31 ≡ f 31
effect_zero (Operate op ra rb rc) f = put_zero f rc (result_of op (f ra) (second_value rb f) (f rc))
effect_zero (Memory op ra rb disp) f = refl
effect_zero (Branch op ra disp) f = refl
effect_zero (Jump ra rb) f = refl
effect_zero (Pal number) f = refl

pub effects_append : (is js : List AlphaInstr) (f : Regs) → effects (is ++ js) f ≡ effects js (effects is f)
effects_append [] js f = refl
effects_append (i ∷ is) js f = effects_append is js (effect i f)

-- known of a number in the register of a temporary, and of no other
abbrev held_at : (number register : ℕ) → Holding
held_at number register = if register == number then Wide else Nothing

abbrev numbered : (number : ℕ) → Known → Known
numbered number known = record known {
  temp0 = held_at number 21;
  temp1 = held_at number 22;
  temp2 = held_at number 23;
  temp3 = Nothing;
  temp4 = Nothing;
  temp5 = Nothing;
}

coded_number : (p : Placement) (site : Site) (known : Known) (standing : Standing) (regs : Regs) (number : ℕ) → regs number < 2 ^ 64 → Coded p site known standing regs
    → Coded p site (numbered number known) (record standing { temps = λ n. regs number }) regs
coded_number p site known standing regs number fits c = record {
  form = c.form;
  temps = λ temp lt three four. by_six (λ n. HoldsAs (held (numbered number known) n) (regs number) (regs (21 + n))) (at 21) (at 22) (at 23) tt tt tt temp lt;
  state = c.state;
  upper = c.upper;
  before = c.before;
  codes = c.codes;
}
  where
    at : (register : ℕ) → HoldsAs (held_at number register) (regs number) (regs register)
    at register = by (register == number) refl
      where
        by : (b : Bool) → (register == number) ≡ b → HoldsAs (if b then Wide else Nothing) (regs number) (regs register)
        by true e = (ap regs (eqb-true register number e), fits)
        by false e = tt

-- an exit that goes by it finds it
number_holds : (number : ℕ) (known : Known) → 21 ≤ number → number < 24 → exit_holds (numbered number known) (number - 21) ≡ true
number_holds number known high low =
    let same : 21 + (number - 21) ≡ number = omega arith in
    subst (λ n. exit_holds (numbered n known) (number - 21) ≡ true) same
    (by_six (λ n. n < 3 → exit_holds (numbered (21 + n) known) n ≡ true) (λ lt. refl) (λ lt. refl) (λ lt. refl)
    (λ lt. absurd (omega arith)) (λ lt. absurd (omega arith)) (λ lt. absurd (omega arith)) (number - 21) (omega arith) (omega arith))

module _ (p : Placement) (site : Site) (codes : List AlphaInstr) (setting : Setting p site codes) (known : Known) (homes : Homes) (standing : Standing) (regs : Regs) (d : Direct p site known homes standing (begins homes regs)) where
  abbrev direct_regs : Regs
  direct_regs = begins homes regs

  zero_still : (o : Option AlphaInstr) (f : Regs) → effects (waiting_words o) f 31 ≡ f 31
  zero_still None f = refl
  zero_still (Some word) f = effect_zero word f

  -- what waits makes homes
  home_extends : (word : AlphaInstr) (f : Regs) → f ≡ begins homes regs → stands_in (home_at homes (written word)) (written word) ≡ true → IsExtended (f (written word))
  home_extends word f is stands = subst (λ (f : Regs). IsExtended (f (written word))) (sym is) (of (home_at homes (written word)) refl stands)
    where
      of : (o : Option ℕ) → home_at homes (written word) ≡ o → stands_in o (written word) ≡ true → IsExtended (begins homes regs (written word))
      of None e stands = absurd (cc stands)
      of (Some r) e stands =
          let same = eqb-true r (written word) stands in
          (there p site known homes standing (begins homes regs) d (written word) (written word) (e ∙ ap (λ n. Some n) same)).1

  last_extends : (o : Option AlphaInstr) → homes.waiting ≡ o → Extends homes None o (effects (waiting_words homes.before) regs)
  last_extends None e = tt
  last_extends (Some word) e = λ makes.
      home_extends word (effect word (effects (waiting_words homes.before) regs)) (ap (λ (o : Option AlphaInstr). effects (waiting_words o) (effects (waiting_words homes.before) regs)) (sym e))
      (and_parts (stands_in (home_at homes (written word)) (written word)) true makes).0

  first_extends : (o : Option AlphaInstr) → homes.before ≡ o → Extends homes homes.waiting o regs
  first_extends None e = tt
  first_extends (Some word) e = λ makes.
      let x = and_parts (stands_in (home_at homes (written word)) (written word)) (not (rewrites (written word) homes.waiting)) makes in
      let whole : begins homes regs ≡ effects (waiting_words homes.waiting) (effect word regs) = ap (λ (o : Option AlphaInstr). effects (waiting_words homes.waiting) (effects (waiting_words o) regs)) e in
      subst IsExtended (ap (λ (f : Regs). f (written word)) whole ∙ not_rewritten homes.waiting x.1)
      (home_extends word (begins homes regs) refl x.0)
    where
      not_rewritten : (o : Option AlphaInstr) → not (rewrites (written word) o) ≡ true → effects (waiting_words o) (effect word regs) (written word) ≡ effect word regs (written word)
      not_rewritten None e = refl
      not_rewritten (Some next) e = effect_other next (effect word regs) (written word) (flipped (written next) (written word) (not_false (written next == written word) e))

  row_same : (commit : Option (ℕ × ℕ)) (exit : Exit) (words : List AlphaInstr) (n : ℕ) → is_left exit n ≡ false
      → effects (end_words homes commit exit words) regs n ≡ effects (commit_words homes commit) (effects words (begins homes regs)) n
  row_same commit exit words n kept =
      let all = words ++ commit_words homes commit in
      waiting_same exit homes homes.waiting homes.before (with_waiting exit homes homes.waiting None (words ++ commit_words homes commit)) regs (first_extends homes.before refl) (sym (zero_still homes.waiting (effects (waiting_words homes.before) regs)) ∙ d.holds.form.zero) n kept
      ∙ (waiting_same exit homes None homes.waiting (words ++ commit_words homes commit) (effects (waiting_words homes.before) regs) (last_extends homes.waiting refl) d.holds.form.zero n kept
      ∙ ap (λ (f : Regs). f n) (effects_append words (commit_words homes commit) (begins homes regs)))

  -- ---- the whole end
  -- how the program leaves where it goes on by a departure
  abbrev LeftBy : (commit : Option (ℕ × ℕ)) → Exit → (onward : Departure) → Departure
  LeftBy commit exit onward = trap_or site (committed commit standing) exit onward

  -- what stands behind the words up to the exit, of what stands behind those for the codes and the register that is written
  abbrev Behind : (commit : Option (ℕ × ℕ)) (exit : Exit) (words : List AlphaInstr) (now : Known) (last : Standing) → Type 0
  Behind commit exit words now last =
      Coded p site (hidden homes known) (committed commit standing) (effects (commit_words homes commit) (effects words (begins homes regs)))
      → Overflows site (hidden homes known) (committed commit standing) p.begun.psw
      → Coded p site now last (effects (end_words homes commit exit words) regs) × Overflows site now last p.begun.psw

  ends_by : (choice : BranchOp × Exit) (exit : Exit) (onward : Departure) (commit : Option (ℕ × ℕ)) (words : List AlphaInstr) (pc : ℕ) (now : Known) (last : Standing)
      → links choice.0 ≡ false → IsExit choice.1 → ExitHolds now choice.1 → trap_or_by choice.0 site last choice.1 onward ≡ LeftBy commit exit onward
      → Waits homes → LeftAlone site.sources homes → moved_words homes codes ≡ Some words
      → Within p site.behind pc (end_by site homes commit choice words) → commit_stays commit ≡ true → are_short_rules site.behind ≡ true → CommitFits known commit → sources_fit site.sources known ≡ true
      → CodesComeFrom site.sources p.begun (record { departure = LeftBy commit exit onward; temps = (committed commit standing).temps }) → (state_left onward).psw ≡ (committed commit standing).state.psw
      → Behind commit choice.1 words now last
      → ((g : Regs) (pc' : ℕ) → Coded p site now last g → Within p site.behind pc' (departing_by choice.0 site choice.1) → Always p None (length (departing_by choice.0 site choice.1)) (at_place g pc') (departed p.serve onward))
      → Always p None (length (end_by site homes commit choice words)) (at_place regs pc) (departed p.serve (LeftBy commit exit onward))
  ends_by choice exit onward commit words pc now last unlinked is holds same waits alone moved w stays short fits sources come left behind departs =
      let some = departs_some p site codes setting choice.0 choice.1 in
      let only = moved_fine homes alone.lasting (may_be_written site.sources) codes words moved setting.leaves.only in
      let rest = trap_by choice.0 site choice.1 ++ departing_by choice.0 site choice.1 in
      let row = end_words homes commit choice.1 words in
      let first = row_length p site.behind (end_words homes commit choice.1 words) rest in
      let third = length-append (trap_by choice.0 site choice.1) (departing_by choice.0 site choice.1) in
      let whole = same_psw (committed commit standing) _ onward (traps (committed commit standing)) left in
      let high = w.high in
      let t = departed p.serve (LeftBy commit exit onward) in
      let c = leaves_codes p site codes setting known homes standing direct_regs d words (LeftBy commit exit onward) alone moved sources short (whole ∙ same_psw_left p site codes setting known homes standing direct_regs d commit)
      (subst (λ temps. CodesComeFrom site.sources p.begun (record { departure = LeftBy commit exit onward; temps = temps })) (same_temps p site codes setting known homes standing direct_regs d commit) come) in
      let signs = subst (λ temps. SignsComeFrom site.sources.nzv p.begun.psw (state_left (LeftBy commit exit onward)).psw temps) (same_temps p site codes setting known homes standing direct_regs d commit) come.signs in
      let o = overflows p site codes setting known homes standing direct_regs d commit _ sources whole signs in
      let e = behind (committed_coded p site codes setting known homes standing direct_regs d words commit alone.lasting only stays fits c) o in
      let w1 = row_rest p site.behind pc (end_words homes commit choice.1 words) rest w in
      roomy p None (length (end_words homes commit choice.1 words) + (length (trap_by choice.0 site choice.1) + length (departing_by choice.0 site choice.1))) (length (end_by site homes commit choice words)) (at_place regs pc) t (omega arith)
      (operates p None (length (trap_by choice.0 site choice.1) + length (departing_by choice.0 site choice.1)) (end_words homes commit choice.1 words) regs pc t (row_words p site.behind pc (end_words homes commit choice.1 words) rest w)
      (end_operates homes commit choice.1 words waits.0 waits.1 (fine_operates (may_be_written site.sources) words only)) w.low (omega arith)
      (λ q lt le. is_inside p site.behind pc q (map plain (end_words homes commit choice.1 words) ++ (trap_by choice.0 site choice.1 ++ departing_by choice.0 site choice.1)) w lt (omega arith))
      (subst (λ (u : Departure). Always p None (length (trap_by choice.0 site choice.1) + length (departing_by choice.0 site choice.1)) (at_place (effects (end_words homes commit choice.1 words) regs) (pc + length (end_words homes commit choice.1 words))) (departed p.serve u)) same
      (traps_first p site now last setting.after choice.0 unlinked p.begun.psw setting.written e.1 setting.narrow
      (length (departing_by choice.0 site choice.1)) (pc + length (end_words homes commit choice.1 words)) choice.1 (departing_by choice.0 site choice.1) (effects (end_words homes commit choice.1 words) regs) onward e.0 is holds w1 some
      (λ g' pc' untrapped c' w'. departs g' pc' c' w'))))

  -- ---- an exit by its own temporary
  by_temporary : (exit : Exit) (onward : Departure) (commit : Option (ℕ × ℕ)) (words : List AlphaInstr) (pc : ℕ) → Waits homes → moved_words homes codes ≡ Some words
      → Within p site.behind pc (end_by site homes commit (Beq, exit) words) → may_end site homes commit exit ≡ true → CommitFits known commit
      → IsExit exit → exit_fits known exit ≡ true → sources_fit site.sources known ≡ true
      → CodesComeFrom site.sources p.begun (record { departure = LeftBy commit exit onward; temps = (committed commit standing).temps }) → (state_left onward).psw ≡ (committed commit standing).state.psw
      → ((now : Known) (g : Regs) (pc' : ℕ) → Coded p site now (committed commit standing) g → ExitHolds now exit → Within p site.behind pc' (departing site exit) → Always p None (length (departing site exit)) (at_place g pc') (departed p.serve onward))
      → Always p None (length (end_by site homes commit (Beq, exit) words)) (at_place regs pc) (departed p.serve (LeftBy commit exit onward))
  by_temporary exit onward commit words pc waits moved w may fits is ok sources come left departs =
      let x = all_four (are_left site.sources homes) (commit_stays commit) (exit_stays homes exit) (are_short_rules site.behind) may in
      let holds = left_holds exit (hidden homes known) is (exit_known p site codes setting known homes standing direct_regs d exit x.2 ok) in
      ends_by (Beq, exit) exit onward commit words pc (left_known exit (hidden homes known)) (committed commit standing) refl is holds refl waits (left_alone_is site.sources homes d.are x.0) moved w x.1 x.3 fits sources come left
      (λ c o. (
        coded_left p site (hidden homes known) (committed commit standing) exit (effects (commit_words homes commit) (effects words (begins homes regs))) (effects (end_words homes commit exit words) regs) (row_same commit exit words) c,
        record { codes_fit = o.codes_fit; psw_fits = o.psw_fits; overflowed = o.overflowed; no_overflow = o.no_overflow; temps = o.temps; signs = o.signs },
      ))
      (λ g pc' c w'. departs (left_known exit (hidden homes known)) g pc' c holds w')

  -- ---- a choice by the number that is compared
  module _ (when chosen other : ℕ) (choice : BranchOp × Exit) (n : ByNumber homes when chosen other choice) (commit : Option (ℕ × ℕ)) (words : List AlphaInstr) (alone : LeftAlone site.sources homes) (moved : moved_words homes codes ≡ Some words)
      (fits : CommitFits known commit) (is : IsExit (exits.Choice when chosen other)) (own : home_of homes when ≡ None) (holds : exit_holds known when ≡ true) where
    abbrev Chosen : Exit
    Chosen = exits.Choice (n.test.1 - 21) chosen other

    abbrev left_regs : Regs
    left_regs = effects (end_words homes commit (exits.Choice (n.test.1 - 21) chosen other) words) regs

    -- it is still there
    is_kept_there : is_left (exits.Choice (n.test.1 - 21) chosen other) n.test.1 ≡ false
    is_kept_there =
        let high = n.high in
        let there_again : ((21 + (n.test.1 - 21)) == n.test.1) ≡ true = grind (arith, nat_tests) in
        rw there_again (nothing (nat_lt 20 n.test.1) (nat_lt n.test.1 27))
      where
        nothing : (c e : Bool) → (c && e && false) ≡ false
        nothing true true = refl
        nothing true false = refl
        nothing false e = refl

    uncommitted : (commit : Option (ℕ × ℕ)) (f : Regs) → CommitFits known commit → effects (commit_words homes commit) f n.test.1 ≡ f n.test.1
    uncommitted None f fits = refl
    uncommitted (Some commit) f fits =
        let high = n.high in
        put_other f commit.0 (result_of row.Addl (f (unwrap_or (home_of homes commit.1) (21 + commit.1))) 0 (f commit.0)) n.test.1 (above commit.0 n.test.1 fits.0 (omega arith))

    number_stays : left_regs n.test.1 ≡ begins homes regs n.test.1
    number_stays =
        let low = n.low in
        let high = n.high in
        let only = moved_fine homes alone.lasting (may_be_written site.sources) codes words moved setting.leaves.only in
        row_same commit (exits.Choice (n.test.1 - 21) chosen other) words n.test.1 is_kept_there
        ∙ (uncommitted commit (effects words (begins homes regs)) fits
        ∙ effects_only words (may_be_written site.sources) (begins homes regs) (begins homes regs) only (λ k out. refl) n.test.1 (home_stays site.sources n.test.1 (n.low, λ not_so. n.high)))

    number_fits : begins homes regs n.test.1 < 2 ^ 64
    number_fits = subst (λ v. v < 2 ^ 64) (there p site known homes standing (begins homes regs) d n.test.1 n.test.1 n.there).1 (extended_fits (begins homes regs n.test.1))

    begins_is : (k : ℕ) → begins homes regs k ≡ effect n.word (effects (waiting_words homes.before) regs) k
    begins_is k = ap (λ (o : Option AlphaInstr). effects (waiting_words o) (effects (waiting_words homes.before) regs) k) n.waits

    compared_there : begins homes regs n.test.1 ≡ effects (waiting_words homes.before) regs n.test.1
    compared_there = begins_is n.test.1 ∙ effect_other n.word (effects (waiting_words homes.before) regs) n.test.1 n.apart

    temporary_there : begins homes regs (21 + when) ≡ standing.temps when
    temporary_there =
        let x = all_three (is_something (held known when)) (not (when == 3)) (not (when == 4)) holds in
        (held_value (held (hidden homes known) when) (standing.temps when) (begins homes regs (21 + when)) (ap is_something (held_own homes known when own) ∙ x.0) (d.holds.temps when is.0)).0

    -- so the branch chooses as the temporary does
    chooses_same : taken n.test.0 (left_regs n.test.1) ≡ ((committed commit standing).temps when == 0)
    chooses_same =
        let lt = is.0 in
        let place = n.writes in
        let last : (written n.word == 31) ≡ false = grind (arith, nat_tests) in
        let zero = sym (zero_still homes.waiting (effects (waiting_words homes.before) regs)) ∙ d.holds.form.zero in
        ap (taken n.test.0) (number_stays ∙ compared_there)
        ∙ (sym (n.told (effects (waiting_words homes.before) regs) zero (subst (λ v. v < 2 ^ 64) compared_there number_fits) last)
        ∙ (ap (λ k. effect n.word (effects (waiting_words homes.before) regs) k == 0) n.writes
        ∙ (ap (λ v. v == 0) (sym (begins_is (21 + when)) ∙ temporary_there)
        ∙ ap (λ (temps : Temps). temps when == 0) (sym (same_temps p site codes setting known homes standing direct_regs d commit)))))

    abbrev last_standing : Standing
    last_standing = record (committed commit standing) { temps = λ k. left_regs n.test.1 }

    pub by_number : (pc : ℕ) → Waits homes → Within p site.behind pc (end_by site homes commit (n.test.0, exits.Choice (n.test.1 - 21) chosen other) words) → commit_stays commit ≡ true → are_short_rules site.behind ≡ true
        → sources_fit site.sources known ≡ true
        → AtLeaves (CodesComeFrom site.sources p.begun) (leaves_by (exits.Choice when chosen other) (found p site) (committed commit standing))
        → Always p None (length (end_by site homes commit (n.test.0, exits.Choice (n.test.1 - 21) chosen other) words)) (at_place regs pc) (tree (ends p) (leaves_by (exits.Choice when chosen other) (found p site) (committed commit standing)))
    by_number pc waits w stays short sources come =
        let low = n.low in
        let now = numbered n.test.1 (left_known Chosen (hidden homes known)) in
        let exit_is : IsExit Chosen = (omega arith, is.1, is.2) in
        let found_there = number_holds n.test.1 (left_known Chosen (hidden homes known)) n.high n.low in
        let onward = Ended (Finish (with_pc (if (committed commit standing).temps when == 0 then other else chosen) (committed commit standing).state)) in
        ends_by (n.test.0, Chosen) (exits.Choice when chosen other) onward commit words pc now last_standing n.unlinked exit_is found_there
        (ap (λ c. if traps (committed commit standing) then Ended (Trap 1 (with_pc (if c then other else chosen) (committed commit standing).state)) else onward) chooses_same)
        waits alone moved w stays short fits sources come refl
        (λ c o. (
          coded_number p site (left_known Chosen (hidden homes known)) (committed commit standing) left_regs n.test.1 (subst (λ v. v < 2 ^ 64) (sym number_stays) number_fits)
              (coded_left p site (hidden homes known) (committed commit standing) Chosen (effects (commit_words homes commit) (effects words (begins homes regs))) left_regs (row_same commit Chosen words) c),
          record { codes_fit = o.codes_fit; psw_fits = o.psw_fits; overflowed = o.overflowed; no_overflow = o.no_overflow; temps = o.temps; signs = o.signs },
        ))
        (λ g pc' c w'. subst (λ b. Always p None 7 (at_place g pc') (Ends (Finish (with_pc (if b then other else chosen) (committed commit standing).state)))) chooses_same
        (chooses p site now last_standing g c n.test.0 n.unlinked pc' (n.test.1 - 21) chosen other w' exit_is.0 found_there))

  -- ---- each exit
  pub end_follows : (exit : Exit) (commit : Option (ℕ × ℕ)) (words : List AlphaInstr) (pc : ℕ) → Waits homes → moved_words homes codes ≡ Some words
      → Within p site.behind pc (end_lines site homes commit exit words) → may_end site homes commit exit ≡ true → CommitFits known commit
      → IsExit exit → exit_fits known exit ≡ true → sources_fit site.sources known ≡ true
      → AtLeaves (CodesComeFrom site.sources p.begun) (leaves_by exit (found p site) (committed commit standing))
      → Always p None (length (end_lines site homes commit exit words)) (at_place regs pc) (tree (ends p) (leaves_by exit (found p site) (committed commit standing)))
  end_follows exits.Next commit words pc waits moved w may fits is ok sources agree =
      by_temporary exits.Next (Ended (Finish (with_pc site.after (committed commit standing).state))) commit words pc waits moved w may fits is ok sources agree refl
      (λ now g pc' c holds w'. exits_to p site now (committed commit standing) g c pc' site.after [] w')
  end_follows (exits.Fixed address) commit words pc waits moved w may fits is ok sources agree =
      by_temporary (exits.Fixed address) (Ended (Finish (with_pc address (committed commit standing).state))) commit words pc waits moved w may fits is ok sources agree refl
      (λ now g pc' c holds w'. exits_to p site now (committed commit standing) g c pc' address [] w')
  end_follows (exits.Choice when chosen other) commit words pc waits moved w may fits is ok sources agree = by (choice_is homes when chosen other) w
    where
      Ending : BranchOp × Exit → Type 0
      Ending choice =
          Within p site.behind pc (end_by site homes commit choice words)
          → Always p None (length (end_by site homes commit choice words)) (at_place regs pc) (tree (ends p) (leaves_by (exits.Choice when chosen other) (found p site) (committed commit standing)))

      stays : (are_left site.sources homes ≡ true) × (commit_stays commit ≡ true) × (exit_stays homes (exits.Choice when chosen other) ≡ true) × (are_short_rules site.behind ≡ true)
      stays = all_four (are_left site.sources homes) (commit_stays commit) (exit_stays homes (exits.Choice when chosen other)) (are_short_rules site.behind) may

      none : (o : Option ℕ) → is_none o ≡ true → o ≡ None
      none None e = refl
      none (Some r) e = absurd (cc e)

      by : (choice_of homes (exits.Choice when chosen other) ≡ (Beq, exits.Choice when chosen other)) ⊎ ByNumber homes when chosen other (choice_of homes (exits.Choice when chosen other)) → Ending (choice_of homes (exits.Choice when chosen other))
      by (inl e) =
          subst Ending (sym e)
          (λ w. by_temporary (exits.Choice when chosen other) (Ended (Finish (with_pc (if (committed commit standing).temps when == 0 then other else chosen) (committed commit standing).state))) commit words pc waits moved w may fits is ok sources agree refl
          (λ now g pc' c holds w'. chooses p site now (committed commit standing) g c Beq refl pc' when chosen other w' is.0 holds))
      by (inr n) = subst Ending n.whole (λ w. by_number when chosen other (choice_of homes (exits.Choice when chosen other)) n commit words (left_alone_is site.sources homes d.are stays.0) moved fits is (none (home_of homes when) stays.2) ok pc waits w stays.1 stays.3 sources agree)
  end_follows (exits.Computed temp) commit words pc waits moved w may fits is ok sources agree = let x = all_four (are_left site.sources homes) (commit_stays commit) (exit_stays homes (exits.Computed temp)) (are_short_rules site.behind) may in absurd (cc x.2)
  end_follows (exits.Service temp) commit words pc waits moved w may fits is ok sources agree = let x = all_four (are_left site.sources homes) (commit_stays commit) (exit_stays homes (exits.Service temp)) (are_short_rules site.behind) may in absurd (cc x.2)
  end_follows exits.Breakpoint commit words pc waits moved w may fits is ok sources agree = let x = all_four (are_left site.sources homes) (commit_stays commit) (exit_stays homes exits.Breakpoint) (are_short_rules site.behind) may in absurd (cc x.2)
