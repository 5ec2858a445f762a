-- Computations of a program in its block.
use Rattle.std.proofs.Common.{◌≡◌, ℕ, ◌+◌, ◌/◌, ◌%◌, ◌^◌, ◌<◌, ◌≤◌, refl, sym, ap, ◌∙◌, subst, arith, List, ◌++◌, length, map, None, Bool, true, false, lit<, lit≤, eqb-true}
use Rattle.std.specs.Prelude.{◌==◌, ◌&&◌, ◌||◌, not, nat_lt, if◌then◌else◌}
use Rattle.std.proofs.lemmas.Bool.Decides.{nat_tests}
use Rattle.std.proofs.lemmas.Bool.{and_parts, not-true, eqb-false, ltb-true}
use Rattle.vt_words.proofs.Spreads.{below_8}
use Rattle.vt_words.proofs.Longwords.{extended_fits}
use Rattle.vax_form.specs.State.{with_core}
use Rattle.vax_form.specs.Tree.{Tree}
use Rattle.vax_form.specs.declared.instr.Size.{Size}
use Rattle.vax_form.specs.declared.instr.Size.TheVariants.{Byte, Word, Long, Quad}
use Rattle.vax_form.specs.declared.pages.Pages.{Pages}
use Rattle.vax_form.specs.declared.state.Flags.{Flags}
use Rattle.alpha_meaning.specs.State.{Regs, at_place}
use Rattle.alpha_meaning.specs.Pieces.{Kinds, Over}
use Rattle.exception_records.specs.Codes.{is_ready}
use Rattle.exception_records.specs.Shown.{codes_shown, code_shown}
use Rattle.exception_records.specs.declared.rules.CodeRule.{CodeRule}
use Rattle.exception_records.specs.declared.rules.Rules.{Rules}
use Rattle.micro_ops.specs.declared.known.Checked.{Checked}
use Rattle.micro_ops.specs.declared.known.Checked.TheVariants.{Nowhere, At}
use Rattle.micro_ops.specs.declared.known.Holding.{Holding}
use Rattle.micro_ops.specs.declared.known.Holding.TheVariants.{Nothing, Wide, Longword}
use Rattle.micro_ops.specs.declared.known.Known.{Known}
use Rattle.micro_ops.specs.declared.program.Arg.{Arg}
use Rattle.micro_ops.specs.declared.program.Arg.TheVariants.{Temp, Register, Flag, Const}
use Rattle.micro_ops.specs.declared.program.Micro.TheVariants.{Compute}
use Rattle.micro_ops.specs.declared.program.MicroOp.{MicroOp}
use Rattle.micro_ops.specs.declared.program.MicroOp.TheVariants.{Move, SignExtend, ZeroExtend, SelectNonzero}
use Rattle.micro_ops.specs.Fits.{argument_fits, computation_fits, holding_of}
use Rattle.micro_ops.specs.Known.{held, holds, is_something, is_committed, has_flag, forgotten, behind_write}
use Rattle.micro_ops.specs.Meaning.{Temps, Standing, with_temp, with_value, value_of_arg, flag_of}
use Rattle.micro_ops.specs.Uses.{is_unary, is_select, leaves_longword, takes, is_flag}
use Rattle.micro_ops.specs.Values.{low, computed, value_from}
use Rattle.micro_ops.proofs.Held.{held_same, held_other}
use Rattle.compute_sequences.specs.Promises.{Leaves, IsComputed, MayCompute}
use Rattle.compute_sequences.specs.Registers.{IsArgument, IsTarget, register_at, value_at, may_change}
use Rattle.compute_sequences.specs.Words.{compute_code}
use Rattle.compute_sequences.proofs.Bounded.{computed_fits}
use Rattle.compute_sequences.proofs.WholeLaws.{leaves_computed}
use Rattle.block_law.specs.Placements.{Placement}
use Rattle.block_law.specs.Tidy.{is_kept}
use Rattle.block_law.proofs.Kept.{registers_kept, form_kept, kept_below}
use Rattle.block_law.proofs.Rules.{Always, runs}
use Rattle.program_codegen.specs.declared.lines.Line.{Line}
use Rattle.program_codegen.specs.declared.points.Site.{Site}
use Rattle.program_codegen.specs.Words.{plain, holder}
use Rattle.program_codegen.specs.Programs.{rule_of}
use Rattle.program_codegen.proofs.Numbers.{all_four, same_bits}
use Rattle.program_codegen.proofs.Knowing.{SameChanges, write_changes}
use Rattle.program_codegen.proofs.Walk.{Within, row_words, row_length, is_inside}
use Rattle.program_codegen.proofs.Holding.{Holds, HoldsAs, IsChecked, found}

-- ---- registers that a boundary shows
pub codes_kept : (old new : Regs) (rules : Rules) (codes_held : Flags) → ((n : ℕ) → is_kept n ≡ true → new n ≡ old n) → codes_shown new rules codes_held ≡ codes_shown old rules codes_held
codes_kept old new rules codes_held same = rw (same 15 refl, same 16 refl, same 17 refl, same 18 refl, same 19 refl, same 28 refl, same 29 refl, same 30 refl) refl

-- what a temporary holds, and what it held as another
pub held_value : (h : Holding) (v r : ℕ) → is_something h ≡ true → HoldsAs h v r → (r ≡ v) × (v < 2 ^ 64)
held_value Nothing v r e h = absurd (cc e)
held_value Wide v r e h = h
held_value Longword v r e h = (h.0, (let lt = h.1 in omega arith))

pub held_still : (h : Holding) (v r r' : ℕ) → (is_something h ≡ true → r' ≡ r) → HoldsAs h v r → HoldsAs h v r'
held_still Nothing v r r' e h = tt
held_still Wide v r r' e h = (e refl ∙ h.0, h.1)
held_still Longword v r r' e h = (e refl ∙ h.0, h.1)

module _ (p : Placement) (site : Site) where
  -- what a boundary shows is as before, and so are the changes
  pub unchanged : (known behind : Known) (standing : Standing) (temps' : Temps) (old new : Regs) → SameChanges known behind
      → ((n : ℕ) → is_kept n ≡ true → new n ≡ old n) → new 31 ≡ old 31
      → ((temp : ℕ) → temp < 6 → HoldsAs (held behind temp) (temps' temp) (new (21 + temp))) → IsChecked p.pages behind.checked temps'
      → Holds p site known standing old → Holds p site behind (record standing { temps = temps' }) new
  unchanged known behind standing temps' old new changes same zero_same values checks h = record {
    form = form_kept old new same zero_same h.form;
    temps = values;
    checked = checks;
    state = h.state ∙ ap (λ (rs : List ℕ). with_core p.begun rs p.begun.pc standing.state.psw) (sym (registers_kept old new same));
    upper = h.upper ∙ ap (λ x. x / 16) (sym (same 20 refl));
    same_psw = λ c s. h.same_psw (sym changes.codes ∙ c) (sym changes.psw ∙ s);
    overflowed = λ c s. h.overflowed (sym changes.codes ∙ c) (sym changes.psw ∙ s);
    no_overflow = λ c. h.no_overflow (sym changes.codes ∙ c);
    each_register = ap (λ (flags : List Bool). length flags) changes.committed ∙ h.each_register;
    quiet = λ e. let x = h.quiet (sym changes.changed ∙ e) in (changes.codes ∙ x.0, changes.psw ∙ x.1);
    registers = λ number lt no. h.registers number lt (ap (λ (flags : List Bool). has_flag flags number) (sym changes.committed) ∙ no) ∙ ap (λ x. x % 2 ^ 32) (sym (same number (kept_below number (omega arith))));
    codes = codes_kept old new site.before p.held same ∙ h.codes;
  }

  -- ---- arguments
  module _ (known : Known) (standing : Standing) (regs : Regs) (h : Holds p site known standing regs) where
    upper_found : known.codes ≡ false → known.psw ≡ false → p.begun.psw / 16 ≡ regs 20 / 16
    upper_found c s = ap (λ x. x / 16) (sym (h.same_psw c s)) ∙ h.upper

    ready_code : (rule : CodeRule) (code_held a b : Bool) → is_ready rule ≡ true → code_shown rule code_held a b ≡ a
    ready_code rule code_held a b e = rw e refl

    abbrev FlagIs : ℕ → Type 0
    FlagIs flag = known.codes ≡ false → known.psw ≡ false → (flag < 4 → is_ready (rule_of flag site.before) ≡ true) → value_at regs (Flag flag) ≡ flag_of flag p.begun.psw

    bit_is : (n : ℕ) (x : ℕ) → x ≡ 8 → p.begun.psw / x % 2 < 2
    bit_is n x e = omega arith

    flag_is : (flag : ℕ) → flag < 8 → FlagIs flag
    flag_is flag lt =
        below_8 FlagIs
        (λ c s ready. same_bits (regs 16) (p.begun.psw / 8 % 2) (h.form.codes 16 (lit≤ tt) (lit< tt)) (omega arith) (sym (ready_code site.before.n p.held.n _ _ (ready (lit< tt))) ∙ ap (λ (f : Flags). f.n) h.codes))
        (λ c s ready. same_bits (regs 17) (p.begun.psw / 4 % 2) (h.form.codes 17 (lit≤ tt) (lit< tt)) (omega arith) (sym (ready_code site.before.z p.held.z _ _ (ready (lit< tt))) ∙ ap (λ (f : Flags). f.z) h.codes))
        (λ c s ready. same_bits (regs 18) (p.begun.psw / 2 % 2) (h.form.codes 18 (lit≤ tt) (lit< tt)) (omega arith) (sym (ready_code site.before.v p.held.v _ _ (ready (lit< tt))) ∙ ap (λ (f : Flags). f.v) h.codes))
        (λ c s ready. same_bits (regs 19) (p.begun.psw / 1 % 2) (h.form.codes 19 (lit≤ tt) (lit< tt)) (omega arith) (sym (ready_code site.before.c p.held.c _ _ (ready (lit< tt))) ∙ ap (λ (f : Flags). f.c) h.codes))
        (λ c s ready. let e = upper_found c s in high_4 (regs 20) p.begun.psw e)
        (λ c s ready. let e = upper_found c s in high_5 (regs 20) p.begun.psw e)
        (λ c s ready. let e = upper_found c s in high_6 (regs 20) p.begun.psw e)
        (λ c s ready. let e = upper_found c s in high_7 (regs 20) p.begun.psw e)
        flag lt
      where
        high_4 : (r psw : ℕ) → psw / 16 ≡ r / 16 → r / 16 % 2 ≡ psw / 16 % 2
        high_4 r psw e = omega arith

        high_5 : (r psw : ℕ) → psw / 16 ≡ r / 16 → r / 32 % 2 ≡ psw / 32 % 2
        high_5 r psw e = omega arith

        high_6 : (r psw : ℕ) → psw / 16 ≡ r / 16 → r / 64 % 2 ≡ psw / 64 % 2
        high_6 r psw e = omega arith

        high_7 : (r psw : ℕ) → psw / 16 ≡ r / 16 → r / 128 % 2 ≡ psw / 128 % 2
        high_7 r psw e = omega arith

    -- an argument is what its register says
    pub argument_is : (a : Arg) → IsArgument a → argument_fits known a ≡ true → ((flag : ℕ) → flag < 4 → is_flag flag a ≡ true → is_ready (rule_of flag site.before) ≡ true)
        → value_at regs a ≡ value_of_arg (found p site) standing.temps a
    argument_is (Temp temp) is fits ready = (held_value (held known temp) (standing.temps temp) (regs (21 + temp)) fits (h.temps temp is)).0
    argument_is (Register number) is fits ready =
        let x = and_parts (nat_lt number 15) (not (is_committed known number)) fits in
        sym (h.registers number is (not-true (is_committed known number) x.1))
    argument_is (Flag flag) is fits ready =
        let x = and_parts (nat_lt flag 8 && not known.codes) (not known.psw) fits in
        let y = and_parts (nat_lt flag 8) (not known.codes) x.0 in
        flag_is flag is (not-true known.codes y.1) (not-true known.psw x.1) (λ lt. ready flag lt (same_flag flag))
      where
        same_flag : (n : ℕ) → (n == n) ≡ true
        same_flag n = grind (arith, nat_tests)
    argument_is (Const value) is fits ready = refl

    pub argument_quad : (a : Arg) → IsArgument a → argument_fits known a ≡ true → regs (register_at a) < 2 ^ 64
    argument_quad (Temp temp) is fits = let x = held_value (held known temp) (standing.temps temp) (regs (21 + temp)) fits (h.temps temp is) in subst (λ n. n < 2 ^ 64) (sym x.0) x.1
    argument_quad (Register number) is fits = subst (λ n. n < 2 ^ 64) (h.form.longwords number is) (extended_fits (regs number))
    argument_quad (Flag flag) is fits = by (nat_lt flag 4) refl
      where
        by : (b : Bool) → nat_lt flag 4 ≡ b → regs (if b then 16 + flag else 20) < 2 ^ 64
        by true e = let lt = ltb-true flag 4 e in let small = h.form.codes (16 + flag) (omega arith) (omega arith) in omega arith
        by false e = let small = h.form.status in omega arith
    argument_quad (Const value) is fits = rw h.form.zero (lit< tt)

-- ---- results
computed_same : (op : MicroOp) (size : Size) (a a' b b' held held' : ℕ) → a ≡ a' → (is_unary op ≡ false → b ≡ b') → (is_select op ≡ true → held ≡ held') → computed op size a b held ≡ computed op size a' b' held'
unfolding value_from
computed_same Move size a a' b b' held held' ea eb eh = ap (low size) ea
computed_same ZeroExtend size a a' b b' held held' ea eb eh = ap (low size) ea
computed_same SignExtend size a a' b b' held held' ea eb eh = rw ea refl
computed_same SelectNonzero size a a' b b' held held' ea eb eh = rw (ea, eb refl, eh refl) refl
computed_same op size a a' b b' held held' ea eb eh = rw (ea, eb refl) refl

-- what is computed is held as is known
pub computed_holds : (op : MicroOp) (to : ℕ) (size : Size) (a b : Arg) (x y held r : ℕ) → r ≡ computed op size x y held → HoldsAs (holding_of (leaves_longword (Compute to op size a b))) (computed op size x y held) r
computed_holds SignExtend to Byte a b x y held r e = (e, computed_fits SignExtend Byte x y held)
computed_holds SignExtend to Word a b x y held r e = (e, computed_fits SignExtend Word x y held)
computed_holds SignExtend to Long a b x y held r e = (e, computed_fits SignExtend Long x y held)
computed_holds SignExtend to Quad a b x y held r e = (e, computed_fits SignExtend Quad x y held)
computed_holds op to Byte a b x y held r e = (e, wider _ (2 ^ 8) (computed_fits op Byte x y held) (lit≤ tt))
  where
    wider : (n k : ℕ) → n < k → k ≤ 2 ^ 32 → n < 2 ^ 32
    wider n k lt le = omega arith
computed_holds op to Word a b x y held r e = (e, wider _ (2 ^ 16) (computed_fits op Word x y held) (lit≤ tt))
  where
    wider : (n k : ℕ) → n < k → k ≤ 2 ^ 32 → n < 2 ^ 32
    wider n k lt le = omega arith
computed_holds op to Long a b x y held r e = (e, computed_fits op Long x y held)
computed_holds op to Quad a b x y held r e = (e, computed_fits op Quad x y held)

-- ---- a temporary is written
-- a check of its place counts no more
pub checks_written : (pages : Pages) (to value : ℕ) (checked : Checked) (temps : Temps) → IsChecked pages checked temps → IsChecked pages (forgotten to checked) (with_temp to value temps)
checks_written pages to value Nowhere temps is = tt
checks_written pages to value (At place count write) temps is = by (place == to) refl
  where
    by : (b : Bool) → (place == to) ≡ b → IsChecked pages (if b then Nowhere else At place count write) (with_temp to value temps)
    by true e = tt
    by false e = rw e is

-- the one that is written, or another
pub value_written : (known : Known) (to value : ℕ) (holding : Holding) (temps : Temps) (old new : Regs) → to < 6 → HoldsAs holding value (new (21 + to))
    → (temp : ℕ) → HoldsAs (held known temp) (temps temp) (old (21 + temp)) → ((temp == to) ≡ false → new (21 + temp) ≡ old (21 + temp))
    → HoldsAs (held (behind_write to holding known) temp) (with_temp to value temps temp) (new (21 + temp))
value_written known to value holding temps old new lt here temp was other = by (temp == to) refl
  where
    by : (b : Bool) → (temp == to) ≡ b → HoldsAs (held (behind_write to holding known) temp) (if b then value else temps temp) (new (21 + temp))
    by true e =
        subst (λ n. HoldsAs (held (behind_write to holding known) n) value (new (21 + n))) (sym (eqb-true temp to e))
        (subst (λ h. HoldsAs h value (new (21 + to))) (sym (held_same holding known to lt)) here)
    by false e =
        subst (λ h. HoldsAs h (temps temp) (new (21 + temp))) (sym (held_other holding known to temp (eqb-false temp to e)))
        (held_still (held known temp) (temps temp) (old (21 + temp)) (new (21 + temp)) (λ some. other e) was)

abbrev pub any_kind : Kinds
any_kind = λ kind bytes. true

pub kept_apart : (to n : ℕ) → 21 ≤ to → to ≤ 26 → is_kept n ≡ true → may_change to n ≡ false
kept_apart to n low high e = grind (arith, nat_tests, e)

pub zero_apart : (to : ℕ) → 21 ≤ to → to ≤ 26 → may_change to 31 ≡ false
zero_apart to low high = grind (arith, nat_tests)

pub temp_apart : (to temp : ℕ) → temp < 6 → (temp == to) ≡ false → may_change (21 + to) (21 + temp) ≡ false
temp_apart to temp lt e = grind (arith, nat_tests, e)

module _ (p : Placement) (site : Site) where
  -- its words, wherever they stand
  pub computation_runs : (need pc to : ℕ) (op : MicroOp) (size : Size) (a b : Arg) (rest : List Line) (regs : Regs) (t : Tree)
      → Within p site.behind pc (map plain (compute_code op size a b (holder to)) ++ rest) → 1 ≤ length rest
      → IsTarget (holder to) → IsArgument a → (is_unary op ≡ false → IsArgument b) → MayCompute op a b (holder to) regs
      → ((done : Unit {0}) (g : Regs) → Leaves (IsComputed op size a b (holder to) regs) (holder to) regs done g → Always p None need (at_place g (pc + length (compute_code op size a b (holder to)))) t)
      → Always p None (length (compute_code op size a b (holder to)) + need) (at_place regs pc) t
  computation_runs need pc to op size a b rest regs t w some target a_is b_is may behind =
      let count = row_length p site.behind (compute_code op size a b (21 + to)) rest in
      let end = w.high in
      let near = w.near in
      runs p None need pc (length (compute_code op size a b (21 + to))) (Leaves (IsComputed op size a b (21 + to) regs) (21 + to) regs) any_kind (λ done. t) None regs (Over tt) t
      w.low (omega arith) (λ q gt le. is_inside p site.behind pc q (map plain (compute_code op size a b (21 + to)) ++ rest) w gt (omega arith)) (refl, refl)
      (λ n. leaves_computed a b (21 + to) a_is target op size b_is regs may p.fetch _ pc n (omega arith) (row_words p site.behind pc (compute_code op size a b (21 + to)) rest w))
      (λ done g l. behind done g l)

  pub computes : (need pc to : ℕ) (op : MicroOp) (size : Size) (a b : Arg) (rest : List Line) (known : Known) (standing : Standing) (regs : Regs) (t : Tree)
      → Within p site.behind pc (map plain (compute_code op size a b (holder to)) ++ rest) → 1 ≤ length rest
      → computation_fits known to op a b ≡ true → IsTarget (holder to) → IsArgument a → (is_unary op ≡ false → IsArgument b)
      → ((flag : ℕ) → flag < 4 → takes (is_flag flag) op a b ≡ true → is_ready (rule_of flag site.before) ≡ true)
      → Holds p site known standing regs
      → ((g : Regs) → Holds p site (behind_write to (holding_of (leaves_longword (Compute to op size a b))) known)
      (with_value to (computed op size (value_of_arg (found p site) standing.temps a) (value_of_arg (found p site) standing.temps b) (standing.temps to)) standing) g
      → Always p None need (at_place g (pc + length (compute_code op size a b (holder to)))) t)
      → Always p None (length (compute_code op size a b (holder to)) + need) (at_place regs pc) t
  computes need pc to op size a b rest known standing regs t w some fits target a_is b_is ready h behind =
      let x = all_four (nat_lt to 64) (argument_fits known a) (is_unary op || argument_fits known b) (not (is_select op) || holds known to) fits in
      let low = target.low in
      let high = target.high in
      let to_lt : to < 6 = omega arith in
      let b_fits : is_unary op ≡ false → argument_fits known b ≡ true = λ e. or_left (is_unary op) (argument_fits known b) e x.2 in
      let to_held : is_select op ≡ true → holds known to ≡ true = λ e. or_not (is_select op) (holds known to) e x.3 in
      let held_to : is_select op ≡ true → (regs (21 + to) ≡ standing.temps to) × (standing.temps to < 2 ^ 64) = λ e. held_value (held known to) (standing.temps to) (regs (21 + to)) (to_held e) (h.temps to to_lt) in
      let may : MayCompute op a b (21 + to) regs = record {
        zero = h.form.zero;
        first = argument_quad p site known standing regs h a a_is x.1;
        second = λ e. argument_quad p site known standing regs h b (b_is e) (b_fits e);
        held = λ e. subst (λ n. n < 2 ^ 64) (sym (held_to e).0) (held_to e).1;
      } in
      computation_runs need pc to op size a b rest regs t w some target a_is b_is may
      (λ done g l. behind g
      (unchanged p site known (behind_write to (holding_of (leaves_longword (Compute to op size a b))) known) standing _ regs g
      (write_changes to _ known)
      (λ n kept. l.only n (kept_apart (21 + to) n low high kept)) (l.only 31 (zero_apart (21 + to) low high))
      (λ temp lt. value_written known to _ _ standing.temps regs g to_lt
      (computed_holds op to size a b _ _ _ (g (21 + to)) (l.holds ∙ computed_same op size _ _ _ _ _ _
      (argument_is p site known standing regs h a a_is x.1 (λ flag lt e. ready flag lt (takes_first flag e)))
      (λ e. argument_is p site known standing regs h b (b_is e) (b_fits e) (λ flag lt is. ready flag lt (takes_second flag e is)))
      (λ e. (held_to e).0)))
      temp (h.temps temp lt) (λ e. l.only (21 + temp) (temp_apart to temp lt e)))
      (checks_written p.pages to _ known.checked standing.temps h.checked) h))
    where
      or_left : (u f : Bool) → u ≡ false → (u || f) ≡ true → f ≡ true
      or_left true f e h = absurd (cc e)
      or_left false f e h = h

      or_not : (u f : Bool) → u ≡ true → (not u || f) ≡ true → f ≡ true
      or_not true f e h = h
      or_not false f e h = absurd (cc e)

      takes_by : (first second unary : Bool) → first ≡ true → (first || (not unary && second)) ≡ true
      takes_by true second unary e = refl
      takes_by false second unary e = absurd (cc e)

      takes_first : (flag : ℕ) → is_flag flag a ≡ true → takes (is_flag flag) op a b ≡ true
      takes_first flag e = takes_by (is_flag flag a) (is_flag flag b) (is_unary op) e

      takes_other : (first second unary : Bool) → unary ≡ false → second ≡ true → (first || (not unary && second)) ≡ true
      takes_other true second unary u e = refl
      takes_other false true false u e = refl
      takes_other false false unary u e = absurd (cc e)
      takes_other false true true u e = absurd (cc u)

      takes_second : (flag : ℕ) → is_unary op ≡ false → is_flag flag b ≡ true → takes (is_flag flag) op a b ≡ true
      takes_second flag u e = takes_other (is_flag flag a) (is_flag flag b) (is_unary op) u e
