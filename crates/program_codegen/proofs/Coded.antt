-- The words that leave the codes, and what the registers hold behind them.
use Rattle.std.proofs.Common.{◌≡◌, ℕ, ◌+◌, ◌*◌, ◌/◌, ◌%◌, ◌<◌, ◌≤◌, refl, sym, ap, ◌∙◌, subst, arith, List, [], ◌∷◌, ◌++◌, length, map, None, Bool, true, false, lit<, lit≤}
use Rattle.std.specs.Prelude.{◌==◌, ◌&&◌, ◌||◌, not}
use Rattle.std.specs.List.{list_all}
use Rattle.std.proofs.lemmas.Bool.Decides.{nat_tests}
use Rattle.std.proofs.lemmas.Bool.{and_parts}
use Rattle.vt_words.specs.Quad.{sign_extended}
use Rattle.vt_words.specs.Values.{bit}
use Rattle.vax_form.specs.State.{with_core, with_pc}
use Rattle.vax_form.specs.Tree.{Tree}
use Rattle.vax_form.specs.declared.state.Flags.{Flags}
use Rattle.vax_form.specs.declared.state.VaxState.{VaxState}
use Rattle.alpha_encode.specs.declared.instr.AlphaInstr.{AlphaInstr}
use Rattle.alpha_meaning.specs.Loops.{is_operate, fine, written, effects}
use Rattle.alpha_meaning.specs.Pieces.{Only}
use Rattle.alpha_meaning.specs.State.{Regs, at_place}
use Rattle.alpha_meaning.proofs.Rules.{effects_only}
use Rattle.exception_records.specs.Shown.{registers_shown, codes_shown, psw_shown, psw_with, still_held}
use Rattle.micro_ops.specs.declared.codes.CodeSource.{CodeSource}
use Rattle.micro_ops.specs.declared.codes.CodeSource.TheVariants.{Kept, Zero, Result, Add, Sub, Compare, Computed, Psw}
use Rattle.micro_ops.specs.declared.codes.CodeSources.{CodeSources}
use Rattle.micro_ops.specs.declared.known.Known.{Known}
use Rattle.micro_ops.specs.Fits.{same, sources_fit, signs_are_held, carry_is_held, is_from_values, is_from_psw}
use Rattle.micro_ops.specs.Known.{held, holds}
use Rattle.micro_ops.specs.Leaving.{SignsComeFrom, CarryComesFrom, CodesComeFrom, state_left}
use Rattle.micro_ops.specs.Meaning.{Temps, Standing, Departure}
use Rattle.block_law.specs.CodeWords.{temps_in, codes_in, may_be_written, ShowCodes}
use Rattle.micro_ops.specs.Sources.{is_written, codes_written_by}
use Rattle.block_law.specs.Placements.{Placement, InForm, state_behind}
use Rattle.block_law.specs.Tidy.{is_kept}
use Rattle.block_law.proofs.Rules.{Always, operates}
use Rattle.program_codegen.specs.declared.lines.Line.{Line}
use Rattle.program_codegen.specs.declared.points.Site.{Site}
use Rattle.program_codegen.specs.Words.{plain}
use Rattle.program_codegen.proofs.Numbers.{all_three, all_four}
use Rattle.program_codegen.proofs.Walk.{Within, row_words, row_rest, row_length, is_inside}
use Rattle.program_codegen.proofs.Holding.{Setting, Holds, HoldsAs}
use Rattle.program_codegen.proofs.Computing.{held_value, held_still, codes_kept}
use Rattle.program_codegen.proofs.Endings.{same_false, kept_source, free_when_kept}

-- Behind the words the registers show the state that is left, by the rules behind the instruction. R24 and R25 may hold
-- no temporaries any more.
pub record Coded (p : Placement) (site : Site) (known : Known) (standing : Standing) (regs : Regs) : Type 0 where
  pub form : InForm regs
  pub temps : (temp : ℕ) → temp < 6 → (temp == 3) ≡ false → (temp == 4) ≡ false → HoldsAs (held known temp) (standing.temps temp) (regs (21 + temp))
  pub state : standing.state ≡ with_core p.begun (registers_shown regs) p.begun.pc standing.state.psw
  pub upper : standing.state.psw / 16 ≡ regs 20 / 16
  pub codes : codes_shown regs site.behind (still_held p.held p.written) ≡ codes_in standing.state.psw
  -- a service finds the codes as the instruction did
  pub before : known.codes ≡ false → known.psw ≡ false → codes_shown regs site.before p.held ≡ codes_in standing.state.psw

-- ---- the status word
pub bit_of : (x : ℕ) → x < 2 → bit (x == 1) ≡ x
bit_of x lt = by (x == 1) refl
  where
    by : (b : Bool) → (x == 1) ≡ b → bit b ≡ x
    by true e = grind (arith, nat_tests, e)
    by false e = grind (arith, nat_tests, e)

joined : (psw upper : ℕ) → psw / 16 ≡ upper / 16 → upper < 256 → upper / 16 % 16 * 16 + (psw / 8 % 2 * 8 + psw / 4 % 2 * 4 + psw / 2 % 2 * 2 + psw / 1 % 2) ≡ psw
joined psw upper e lt = omega arith

pub psw_back : (psw upper : ℕ) → psw / 16 ≡ upper / 16 → upper < 256 → psw_with upper (codes_in psw) ≡ psw
psw_back psw upper e lt =
    rw (bit_of (psw / 8 % 2) (omega arith), bit_of (psw / 4 % 2) (omega arith), bit_of (psw / 2 % 2) (omega arith), bit_of (psw / 1 % 2) (omega arith)) (joined psw upper e lt)

-- ---- codes by the temporaries that hold something
pub signs_by : (source : CodeSource) (psw psw' : ℕ) (temps other : Temps) (known : Known) → ((temp : ℕ) → temp < 6 → holds known temp ≡ true → other temp ≡ temps temp) → signs_are_held known source ≡ true
    → SignsComeFrom source psw psw' temps → SignsComeFrom source psw psw' other
signs_by Kept psw psw' temps other known same e h = h
signs_by Zero psw psw' temps other known same e h = h
signs_by (Result size) psw psw' temps other known same e h = rw (same 2 (lit< tt) e) h
signs_by (Add size) psw psw' temps other known same e h =
    let x = all_three (holds known 0) (holds known 1) (holds known 2) e in
    rw (same 0 (lit< tt) x.0, same 1 (lit< tt) x.1, same 2 (lit< tt) x.2) h
signs_by (Sub size) psw psw' temps other known same e h =
    let x = all_three (holds known 0) (holds known 1) (holds known 2) e in
    rw (same 0 (lit< tt) x.0, same 1 (lit< tt) x.1, same 2 (lit< tt) x.2) h
signs_by (Compare size) psw psw' temps other known same e h =
    let x = and_parts (holds known 0) (holds known 1) e in
    rw (same 0 (lit< tt) x.0, same 1 (lit< tt) x.1) h
signs_by (Computed size) psw psw' temps other known same e h =
    let x = and_parts (holds known 2) (holds known 3) e in
    rw (same 2 (lit< tt) x.0, same 3 (lit< tt) x.1) h
signs_by Psw psw psw' temps other known same e h = rw (same 2 (lit< tt) e) h

pub carry_by : (source : CodeSource) (psw psw' : ℕ) (temps other : Temps) (known : Known) → ((temp : ℕ) → temp < 6 → holds known temp ≡ true → other temp ≡ temps temp) → carry_is_held known source ≡ true
    → CarryComesFrom source psw psw' temps → CarryComesFrom source psw psw' other
carry_by Kept psw psw' temps other known same e h = h
carry_by Zero psw psw' temps other known same e h = h
carry_by (Result size) psw psw' temps other known same e h = h
carry_by (Add size) psw psw' temps other known same e h =
    let x = and_parts (holds known 0) (holds known 1) e in
    rw (same 0 (lit< tt) x.0, same 1 (lit< tt) x.1) h
carry_by (Sub size) psw psw' temps other known same e h =
    let x = and_parts (holds known 0) (holds known 1) e in
    rw (same 0 (lit< tt) x.0, same 1 (lit< tt) x.1) h
carry_by (Compare size) psw psw' temps other known same e h =
    let x = and_parts (holds known 0) (holds known 1) e in
    rw (same 0 (lit< tt) x.0, same 1 (lit< tt) x.1) h
carry_by (Computed size) psw psw' temps other known same e h = rw (same 4 (lit< tt) e) h
carry_by Psw psw psw' temps other known same e h = rw (same 2 (lit< tt) e) h

pub sources_parts : (sources : CodeSources) (known : Known) → sources_fit sources known ≡ true
    → (same known.codes (is_from_values sources.nzv) ≡ true) × (same known.psw (is_from_psw sources.nzv) ≡ true) × (signs_are_held known sources.nzv ≡ true) × (carry_is_held known sources.c ≡ true)
sources_parts sources known e = all_four (same known.codes (is_from_values sources.nzv)) (same known.psw (is_from_psw sources.nzv)) (signs_are_held known sources.nzv) (carry_is_held known sources.c) e

-- ---- registers that no word for the codes writes
none_written : (a b : Bool) → (false || (a && false) || (b && false)) ≡ false
none_written true true = refl
none_written true false = refl
none_written false true = refl
none_written false false = refl

-- but for these it writes none
pub others_stay : (sources : CodeSources) (n : ℕ) → (n == 24) ≡ false → (n == 25) ≡ false → (n == 16) ≡ false → (n == 17) ≡ false → (n == 18) ≡ false → (n == 28) ≡ false → (n == 29) ≡ false → (n == 19) ≡ false → (n == 15) ≡ false → (n == 30) ≡ false
    → may_be_written sources n ≡ false
others_stay sources n a b c d e f g h i j = rw (a, b, c, d, e, f, g, h, i, j) (none_written (is_written sources.nzv) (is_written sources.c))

pub low_stays : (sources : CodeSources) (n : ℕ) → n < 15 → may_be_written sources n ≡ false
low_stays sources n lt = others_stay sources n (no 24 (lit≤ tt)) (no 25 (lit≤ tt)) (no 16 (lit≤ tt)) (no 17 (lit≤ tt)) (no 18 (lit≤ tt)) (no 28 (lit≤ tt)) (no 29 (lit≤ tt)) (no 19 (lit≤ tt)) (no 15 (lit≤ tt)) (no 30 (lit≤ tt))
  where
    no : (k : ℕ) → 15 ≤ k → (n == k) ≡ false
    no k le = grind (arith, nat_tests)

pub status_stays : (sources : CodeSources) → may_be_written sources 20 ≡ false
status_stays sources = others_stay sources 20 refl refl refl refl refl refl refl refl refl refl

pub temp_stays : (sources : CodeSources) (temp : ℕ) → temp < 6 → (temp == 3) ≡ false → (temp == 4) ≡ false → may_be_written sources (21 + temp) ≡ false
temp_stays sources temp lt three four =
    others_stay sources (21 + temp) (shifted 3 three) (shifted 4 four) (low 16 (lit≤ tt)) (low 17 (lit≤ tt)) (low 18 (lit≤ tt)) (high 28 (lit≤ tt)) (high 29 (lit≤ tt)) (low 19 (lit≤ tt)) (low 15 (lit≤ tt)) (high 30 (lit≤ tt))
  where
    shifted : (k : ℕ) → (temp == k) ≡ false → ((21 + temp) == (21 + k)) ≡ false
    shifted k e = grind (arith, nat_tests, e)

    low : (k : ℕ) → k ≤ 20 → ((21 + temp) == k) ≡ false
    low k le = grind (arith, nat_tests)

    high : (k : ℕ) → 27 ≤ k → ((21 + temp) == k) ≡ false
    high k le = grind (arith, nat_tests)

pub registers_same : (old new : Regs) → ((n : ℕ) → n < 15 → new n ≡ old n) → registers_shown new ≡ registers_shown old
registers_same old new same =
    rw (same 0 (lit< tt), same 1 (lit< tt), same 2 (lit< tt), same 3 (lit< tt), same 4 (lit< tt), same 5 (lit< tt), same 6 (lit< tt), same 7 (lit< tt), same 8 (lit< tt), same 9 (lit< tt), same 10 (lit< tt), same 11 (lit< tt), same 12 (lit< tt), same 13 (lit< tt), same 14 (lit< tt)) refl

pub fine_operates : (may : ℕ → Bool) (is : List AlphaInstr) → list_all (fine may) is ≡ true → list_all is_operate is ≡ true
fine_operates may [] e = refl
fine_operates may (i ∷ is) e = by (is_operate i) (may (written i)) (list_all (fine may) is) refl e (fine_operates may is)
  where
    by : (a b c : Bool) → is_operate i ≡ a → (a && b && c) ≡ true → (c ≡ true → list_all is_operate is ≡ true) → (is_operate i && list_all is_operate is) ≡ true
    by true true true f e rest = rw (f, rest refl) refl
    by true true false f e rest = absurd (cc e)
    by true false c f e rest = absurd (cc e)
    by false b c f e rest = absurd (cc e)

-- what a boundary shows is not written where the codes are kept
pub unwritten : (sources : CodeSources) (n : ℕ) → is_written sources.nzv ≡ false → is_written sources.c ≡ false → is_kept n ≡ true → may_be_written sources n ≡ false
unwritten sources n signs carry kept = by (may_be_written sources n) refl
  where
    by : (b : Bool) → may_be_written sources n ≡ b → b ≡ false
    by true e = let free : not (is_kept n) ≡ true = free_when_kept sources signs carry n e in let no_more : false ≡ true = sym (ap not kept) ∙ free in absurd (cc no_more)
    by false e = refl

module _ (p : Placement) (site : Site) (codes : List AlphaInstr) (setting : Setting p site codes) where
  -- ---- words for the codes
  -- those that write only what may be written, and leave the codes by the rules behind
  pub coded_by : (words : List AlphaInstr) (known : Known) (standing : Standing) (regs : Regs) (left : VaxState) → list_all (fine (may_be_written site.sources)) words ≡ true
      → same known.codes (is_from_values site.sources.nzv) ≡ true → same known.psw (is_from_psw site.sources.nzv) ≡ true → left.psw ≡ standing.state.psw
      → ShowCodes (effects words regs) site.behind (still_held p.held (codes_written_by site.sources)) left → Holds p site known standing regs → Coded p site known standing (effects words regs)
  coded_by words known standing regs left only by_values by_psw is shows h =
      let stay = effects_only words (may_be_written site.sources) regs regs only (λ n out. refl) in
      record {
        form = record {
          longwords = λ n lt. let e = stay n (low_stays site.sources n lt) in subst (λ x. sign_extended x 32 ≡ x) (sym e) (h.form.longwords n lt);
          codes = shows.hold;
          status = let e = stay 20 (status_stays site.sources) in subst (λ x. x < 256) (sym e) h.form.status;
          status_only = let e = stay 20 (status_stays site.sources) in subst (λ x. x % 16 ≡ 0) (sym e) h.form.status_only;
          zero = shows.zero;
        };
        temps = λ temp lt three four. held_still (held known temp) (standing.temps temp) (regs (21 + temp)) (effects words regs (21 + temp)) (λ some. stay (21 + temp) (temp_stays site.sources temp lt three four)) (h.temps temp lt);
        state = h.state ∙ ap (λ (rs : List ℕ). with_core p.begun rs p.begun.pc standing.state.psw) (sym (registers_same regs (effects words regs) (λ n lt. stay n (low_stays site.sources n lt))));
        upper = h.upper ∙ ap (λ x. x / 16) (sym (stay 20 (status_stays site.sources)));
        before = λ no_codes no_psw.
            let values = same_false (is_from_values site.sources.nzv) (subst (λ b. same b (is_from_values site.sources.nzv) ≡ true) no_codes by_values) in
            let from_psw = same_false (is_from_psw site.sources.nzv) (subst (λ b. same b (is_from_psw site.sources.nzv) ≡ true) no_psw by_psw) in
            let kept = (kept_source site.sources.nzv values from_psw).0 in
            codes_kept regs (effects words regs) site.before p.held (λ n is. stay n (unwritten site.sources n kept (setting.together kept) is)) ∙ (h.codes ∙ ap codes_in (sym (h.same_psw no_codes no_psw)));
        codes = ap (λ (now : Flags). codes_shown (effects words regs) site.behind (still_held p.held now)) setting.written ∙ (shows.codes ∙ ap codes_in is);
      }

  pub coded : (known : Known) (standing : Standing) (regs : Regs) (departure : Departure) → sources_fit site.sources known ≡ true → (state_left departure).psw ≡ standing.state.psw
      → CodesComeFrom site.sources p.begun (record { departure = departure; temps = standing.temps }) → Holds p site known standing regs → Coded p site known standing (effects codes regs)
  coded known standing regs departure fits left come h =
      let parts = sources_parts site.sources known fits in
      let in_registers : (temp : ℕ) → temp < 6 → holds known temp ≡ true → regs (21 + temp) ≡ standing.temps temp = λ temp lt some. (held_value (held known temp) (standing.temps temp) (regs (21 + temp)) some (h.temps temp lt)).0 in
      coded_by codes known standing regs (state_left departure) setting.leaves.only parts.0 parts.1 left
      (setting.leaves.leaves regs p.held p.begun departure (record { zero = h.form.zero; hold = h.form.codes; codes = h.codes }) (record {
        signs = signs_by site.sources.nzv p.begun.psw (state_left departure).psw standing.temps (temps_in regs) known in_registers parts.2 come.signs;
        carry = carry_by site.sources.c p.begun.psw (state_left departure).psw standing.temps (temps_in regs) known in_registers parts.3 come.carry;
      })) h

  pub codes_run : (need pc : ℕ) (rest : List Line) (regs : Regs) (t : Tree) → Within p site.behind pc (map plain codes ++ rest) → 1 ≤ length rest
      → (Within p site.behind (pc + length codes) rest → Always p None need (at_place (effects codes regs) (pc + length codes)) t) → Always p None (length codes + need) (at_place regs pc) t
  codes_run need pc rest regs t w some behind =
      let count = row_length p site.behind codes rest in
      let high = w.high in
      operates p None need codes regs pc t (row_words p site.behind pc codes rest w) (fine_operates (may_be_written site.sources) codes setting.leaves.only) w.low (omega arith)
      (λ q lt le. is_inside p site.behind pc q (map plain codes ++ rest) w lt (omega arith)) (behind (row_rest p site.behind pc codes rest w))

-- ---- the state behind
module _ (p : Placement) (site : Site) (known : Known) (standing : Standing) (regs : Regs) (c : Coded p site known standing regs) where
  pub shown_psw : psw_shown regs site.behind (still_held p.held p.written) ≡ standing.state.psw
  shown_psw = ap (psw_with (regs 20)) c.codes ∙ psw_back standing.state.psw (regs 20) c.upper c.form.status

  pub left_is : (pc : ℕ) → with_pc pc standing.state ≡ state_behind p regs pc site.behind
  left_is pc =
      ap (with_pc pc) c.state ∙ ap (with_core p.begun (registers_shown regs) pc) (sym shown_psw)

-- what a boundary does not show may change, but for the temporaries that exits use
pub coded_still : (p : Placement) (site : Site) (known : Known) (standing : Standing) (old new : Regs) → Only (λ n. n == 24 || n == 27) old new → Coded p site known standing old → Coded p site known standing new
coded_still p site known standing old new only c = record {
  form = record {
    longwords = λ n lt. let e = only n (low n (omega arith)) in subst (λ x. sign_extended x 32 ≡ x) (sym e) (c.form.longwords n lt);
    codes = λ n from to. let e = only n (low n (omega arith)) in subst (λ x. x < 2) (sym e) (c.form.codes n from to);
    status = let e = only 20 refl in subst (λ x. x < 256) (sym e) c.form.status;
    status_only = let e = only 20 refl in subst (λ x. x % 16 ≡ 0) (sym e) c.form.status_only;
    zero = only 31 refl ∙ c.form.zero;
  };
  temps = λ temp lt three four. held_still (held known temp) (standing.temps temp) (old (21 + temp)) (new (21 + temp)) (λ some. only (21 + temp) (other temp lt three)) (c.temps temp lt three four);
  state = c.state ∙ ap (λ (rs : List ℕ). with_core p.begun rs p.begun.pc standing.state.psw) (sym (registers_same old new (λ n lt. only n (low n (omega arith)))));
  upper = c.upper ∙ ap (λ x. x / 16) (sym (only 20 refl));
  before = λ e f. same_before ∙ c.before e f;
  codes = same_codes ∙ c.codes;
}
  where
    low : (n : ℕ) → n < 24 → (n == 24 || n == 27) ≡ false
    low n lt = grind (arith, nat_tests)

    other : (temp : ℕ) → temp < 6 → (temp == 3) ≡ false → ((21 + temp) == 24 || (21 + temp) == 27) ≡ false
    other temp lt e = grind (arith, nat_tests, e)

    same_codes : codes_shown new site.behind (still_held p.held p.written) ≡ codes_shown old site.behind (still_held p.held p.written)
    same_codes = rw (only 15 refl, only 16 refl, only 17 refl, only 18 refl, only 19 refl, only 28 refl, only 29 refl, only 30 refl) refl

    same_before : codes_shown new site.before p.held ≡ codes_shown old site.before p.held
    same_before = rw (only 15 refl, only 16 refl, only 17 refl, only 18 refl, only 19 refl, only 28 refl, only 29 refl, only 30 refl) refl
