-- The trap on overflow in its place.
use Rattle.std.proofs.Common.{◌≡◌, ℕ, ◌+◌, ◌/◌, ◌%◌, ◌^◌, ◌<◌, ◌≤◌, refl, sym, ap, ◌∙◌, subst, arith, List, ◌∷◌, ◌++◌, length, map, None, Bool, true, false, lit<, lit≤}
use Rattle.std.specs.Prelude.{pos, ◌==◌, ◌&&◌, ◌||◌, not, bit_or, if◌then◌else◌}
use Rattle.std.proofs.lemmas.Bool.Decides.{nat_tests}
use Rattle.std.proofs.lemmas.Bool.{not-true}
use Rattle.vt_words.specs.Values.{bit}
use Rattle.vax_form.specs.Size.{size_of}
use Rattle.vax_form.specs.Tree.{Tree}
use Rattle.vax_form.specs.declared.instr.Size.{Size}
use Rattle.vax_form.specs.declared.instr.Size.TheVariants.{Byte, Word, Long, Quad}
use Rattle.vax_form.specs.declared.state.Flags.{Flags}
use Rattle.vax_form.specs.declared.instr.Width.{Width}
use Rattle.alpha_encode.specs.declared.instr.AlphaInstr.TheVariants.{Branch}
use Rattle.alpha_encode.specs.declared.instr.BranchOp.{BranchOp}
use Rattle.alpha_encode.specs.declared.instr.BranchOp.TheVariants.{Br, Beq}
use Rattle.alpha_meaning.specs.Act.{Goes, links, taken, target_of}
use Rattle.alpha_meaning.specs.Pieces.{Only, Over}
use Rattle.alpha_meaning.specs.State.{Regs, put, at_place}
use Rattle.alpha_meaning.proofs.Registers.{put_other}
use Rattle.exception_records.specs.Codes.{codes_by, is_ready}
use Rattle.exception_records.specs.Shown.{code_shown, still_held}
use Rattle.exception_records.specs.declared.rules.CodeRule.{CodeRule}
use Rattle.exception_records.specs.declared.rules.CodeRule.TheVariants as code_rules
use Rattle.micro_ops.specs.declared.codes.CodeSource.{CodeSource}
use Rattle.micro_ops.specs.declared.codes.CodeSource.TheVariants.{Kept, Zero, Result, Add, Sub, Compare, Computed, Psw}
use Rattle.micro_ops.specs.declared.known.Known.{Known}
use Rattle.micro_ops.specs.declared.program.Exit.{Exit}
use Rattle.micro_ops.specs.declared.program.Exit.TheVariants as exits
use Rattle.micro_ops.specs.Fits.{same, exit_holds, is_from_values, is_from_psw}
use Rattle.micro_ops.specs.Leaving.{SignsComeFrom}
use Rattle.micro_ops.specs.Uses.{is_quad}
use Rattle.micro_ops.specs.Meaning.{Standing, Temps, flag_of}
use Rattle.micro_ops.specs.Values.{low}
use Rattle.compute_sequences.specs.Overflow.{IsOverflow, overflows, overflow_code}
use Rattle.compute_sequences.specs.Promises.{Leaves}
use Rattle.compute_sequences.specs.Registers.{may_change}
use Rattle.compute_sequences.specs.declared.overflow.Arithmetic.TheVariants.{Sum, Difference}
use Rattle.compute_sequences.specs.declared.overflow.Arithmetic.{Arithmetic}
use Rattle.compute_sequences.proofs.OverflowLaws.{leaves_overflow}
use Rattle.micro_ops.specs.Sources.{is_written, codes_written_by}
use Rattle.block_law.specs.Placements.{Placement}
use Rattle.block_law.proofs.Rules.{Always, roomy, goes, passes, skips, runs}
use Rattle.program_codegen.specs.declared.lines.Line.{Line}
use Rattle.program_codegen.specs.declared.points.Site.{Site}
use Rattle.alpha_encode.specs.Halves.{load_longword}
use Rattle.program_codegen.specs.Words.{plain, holder, copy, width_of, overflow_made, overflow_register, tells_overflow, may_overflow, load_by, may_trap}
use Rattle.program_codegen.specs.Programs.{IsExit, is_narrow}
use Rattle.program_codegen.proofs.Numbers.{same_bits, copied}
use Rattle.program_codegen.proofs.Walk.{Within, next, stands, is_inside, row_words, row_rest, row_length}
use Rattle.program_codegen.proofs.Computing.{any_kind}
use Rattle.program_codegen.proofs.Coded.{Coded, bit_of}
use Rattle.program_codegen.proofs.Exiting.{exit_value, loads}

-- ---- whether it overflowed
-- V of the state that is left
abbrev pub left_overflow : Standing → ℕ
left_overflow standing = flag_of 2 standing.state.psw

pub flag_small : (psw : ℕ) → psw / 2 % 2 < 2
flag_small psw = omega arith

pub not_set : (b : Bool) (n : ℕ) → bit b ≡ n → n ≡ 0 → b ≡ false
not_set true n e f = absurd (no_one n e f)
  where
    no_one : (n : ℕ) → 1 ≡ n → n ≡ 0 → ⊥
    no_one n e f = omega arith
not_set false n e f = refl

same_true : (a : Bool) → same a true ≡ true → a ≡ true
same_true true e = refl
same_true false e = absurd (cc e)

same_false : (a : Bool) → same a false ≡ true → a ≡ false
same_false true e = absurd (cc e)
same_false false e = refl

from_bit : (n : ℕ) → n < 2 → false ≡ (n == 1) → n ≡ 0
from_bit n lt e = grind (arith, nat_tests, e)

-- where the rule says that V is 0
told_zero : (rule : CodeRule) (x y : ℕ) → tells_overflow rule ≡ false → (is_ready rule ≡ false) × ((codes_by rule x y).v ≡ false)
told_zero code_rules.Zero x y e = (refl, refl)
told_zero (code_rules.Result size) x y e = (refl, refl)
told_zero (code_rules.Compare size) x y e = (refl, refl)
told_zero rule x y e = absurd (cc e)

may_is_values : (source : CodeSource) → may_overflow source ≡ true → (is_from_values source ≡ true) × (is_from_psw source ≡ false) × (is_written source ≡ true)
may_is_values (Add size) e = (refl, refl, refl)
may_is_values (Sub size) e = (refl, refl, refl)
may_is_values (Computed size) e = (refl, refl, refl)
may_is_values source e = absurd (cc e)

-- what is known where a program leaves
pub record Overflows (site : Site) (known : Known) (standing : Standing) (found : ℕ) : Type 0 where
  pub codes_fit : same known.codes (is_from_values site.sources.nzv) ≡ true
  pub psw_fits : same known.psw (is_from_psw site.sources.nzv) ≡ true
  pub overflowed : known.codes ≡ true → known.psw ≡ false → bit standing.overflowed ≡ flag_of 2 standing.state.psw
  pub no_overflow : known.codes ≡ false → standing.overflowed ≡ false
  pub temps : Temps
  pub signs : SignsComeFrom site.sources.nzv found standing.state.psw temps

-- no source but that of a sum, a difference or a computed result lets V be 1
kept_zero : (source : CodeSource) (known : Known) (standing : Standing) (temps : Temps) (found : ℕ) → may_overflow source ≡ false → same known.codes (is_from_values source) ≡ true → same known.psw (is_from_psw source) ≡ true
    → (known.codes ≡ true → known.psw ≡ false → bit standing.overflowed ≡ flag_of 2 standing.state.psw) → (known.codes ≡ false → standing.overflowed ≡ false)
    → SignsComeFrom source found standing.state.psw temps → standing.overflowed ≡ false
kept_zero Kept known standing temps found e codes psw over none signs = none (same_false known.codes codes)
kept_zero Zero known standing temps found e codes psw over none signs = not_set standing.overflowed (flag_of 2 standing.state.psw) (over (same_true known.codes codes) (same_false known.psw psw)) signs.2
kept_zero (Result size) known standing temps found e codes psw over none signs = not_set standing.overflowed (flag_of 2 standing.state.psw) (over (same_true known.codes codes) (same_false known.psw psw)) signs.1.2
kept_zero (Add size) known standing temps found e codes psw over none signs = absurd (cc e)
kept_zero (Sub size) known standing temps found e codes psw over none signs = absurd (cc e)
kept_zero (Compare size) known standing temps found e codes psw over none signs = not_set standing.overflowed (flag_of 2 standing.state.psw) (over (same_true known.codes codes) (same_false known.psw psw)) signs.1.2
kept_zero (Computed size) known standing temps found e codes psw over none signs = absurd (cc e)
kept_zero Psw known standing temps found e codes psw over none signs = none (same_false known.codes codes)

-- the registers that are changed before the trap
abbrev pub changed_for_trap : ℕ → Bool
changed_for_trap n = n == 24 || n == 27

module _ (p : Placement) (site : Site) (known : Known) (standing : Standing) (found : ℕ) (written : p.written ≡ codes_written_by site.sources) (o : Overflows site known standing found) where
  -- V is told by its rule where it was written
  not_held : may_overflow site.sources.nzv ≡ true → (still_held p.held p.written).v ≡ false
  not_held e = ap (λ (now : Flags). p.held.v && not now.v) written ∙ by p.held.v (is_written site.sources.nzv) (may_is_values site.sources.nzv e).2
    where
      by : (a b : Bool) → b ≡ true → (a && not b) ≡ false
      by true true e = refl
      by true false e = absurd (cc e)
      by false b e = refl

  pub is_overflow : may_overflow site.sources.nzv ≡ true → bit standing.overflowed ≡ left_overflow standing
  is_overflow e =
      let x = may_is_values site.sources.nzv e in
      o.overflowed (same_true known.codes (subst (λ b. same known.codes b ≡ true) x.0 o.codes_fit)) (same_false known.psw (subst (λ b. same known.psw b ≡ true) x.1 o.psw_fits))

  pub untrapped : (regs : Regs) → Coded p site known standing regs → may_trap site ≡ false → standing.overflowed ≡ false
  untrapped regs c e = by (may_overflow site.sources.nzv) refl e
    where
      by : (may : Bool) → may_overflow site.sources.nzv ≡ may → (if may then tells_overflow site.behind.v else false) ≡ false → standing.overflowed ≡ false
      by false is e = kept_zero site.sources.nzv known standing o.temps found is o.codes_fit o.psw_fits o.overflowed o.no_overflow o.signs
      by true is e =
          let told = told_zero site.behind.v (regs 28) (regs 29) e in
          let v = ap (λ (f : Flags). f.v) c.codes in
          let shown : code_shown site.behind.v (still_held p.held p.written).v (regs 18 % 2 == 1) (codes_by site.behind.v (regs 28) (regs 29)).v ≡ false = rw (told.0, not_held is) told.1 in
          not_set standing.overflowed (left_overflow standing) (is_overflow is) (from_bit (left_overflow standing) (flag_small standing.state.psw) (sym shown ∙ v))

  -- ---- V in a register
  from_target : (n : ℕ) → changed_for_trap n ≡ false → may_change 24 n ≡ false
  from_target n e = e

  size_same : (size : Size) → is_quad size ≡ false → size_of (width_of size) ≡ size
  size_same Byte e = refl
  size_same Word e = refl
  size_same Long e = refl
  size_same Quad e = absurd (cc e)

  module _ (regs : Regs) (c : Coded p site known standing regs) (may : may_overflow site.sources.nzv ≡ true) where
    told_is : (rule : CodeRule) → site.behind.v ≡ rule → is_ready rule ≡ false → bit (codes_by rule (regs 28) (regs 29)).v ≡ left_overflow standing
    told_is rule is ready =
        let v = ap (λ (f : Flags). f.v) c.codes in
        let shown : code_shown site.behind.v (still_held p.held p.written).v (regs 18 % 2 == 1) (codes_by site.behind.v (regs 28) (regs 29)).v ≡ (codes_by rule (regs 28) (regs 29)).v = rw (is, ready, not_held may) refl in
        ap bit (sym shown ∙ v) ∙ bit_of (left_overflow standing) (flag_small standing.state.psw)

    pub ready_is : site.behind.v ≡ code_rules.Ready → regs 18 ≡ left_overflow standing
    ready_is is =
        let v = ap (λ (f : Flags). f.v) c.codes in
        let shown : code_shown site.behind.v (still_held p.held p.written).v (regs 18 % 2 == 1) (codes_by site.behind.v (regs 28) (regs 29)).v ≡ (regs 18 % 2 == 1) = rw is refl in
        same_bits (regs 18) (left_overflow standing) (c.form.codes 18 (lit≤ tt) (lit< tt)) (flag_small standing.state.psw) (sym shown ∙ v)

    by_words : (arithmetic : Arithmetic) (width : Width) (need pc : ℕ) (rest : List Line) (t : Tree)
        → bit (overflows arithmetic width (low (size_of width) (regs 28)) (low (size_of width) (regs 29))) ≡ left_overflow standing
        → Within p site.behind pc (map plain (overflow_code arithmetic width 28 29 24) ++ rest) → 1 ≤ length rest
        → ((g : Regs) → Only changed_for_trap regs g → g 24 ≡ left_overflow standing → Always p None need (at_place g (pc + length (overflow_code arithmetic width 28 29 24))) t)
        → Always p None (length (overflow_code arithmetic width 28 29 24) + need) (at_place regs pc) t
    by_words arithmetic width need pc rest t told w some behind =
        let words = overflow_code arithmetic width 28 29 24 in
        let count = row_length p site.behind words rest in
        let end = w.high in
        let near = w.near in
        runs p None need pc (length words) (Leaves (IsOverflow arithmetic width 28 29 regs) 24 regs) any_kind (λ done. t) None regs (Over tt) t w.low (omega arith)
        (λ q gt le. is_inside p site.behind pc q (map plain words ++ rest) w gt (omega arith)) (refl, refl)
        (λ n. leaves_overflow arithmetic width 28 29 24 (record { low = lit≤ tt; high = lit≤ tt }) (lit< tt) (lit< tt) (λ e. absurd (omega arith)) regs p.fetch _ pc n (omega arith) (row_words p site.behind pc words rest w))
        (λ done g l. behind g (λ n out. l.only n out) (l.holds ∙ told))

    pub makes : (need pc : ℕ) (rest : List Line) (t : Tree) (rule : CodeRule) → site.behind.v ≡ rule → tells_overflow rule ≡ true → is_narrow rule ≡ true
        → Within p site.behind pc (map plain (overflow_made rule) ++ rest) → 1 ≤ length rest
        → ((g : Regs) → Only changed_for_trap regs g → g (overflow_register rule) ≡ left_overflow standing → Always p None need (at_place g (pc + length (overflow_made rule))) t)
        → Always p None (length (overflow_made rule) + need) (at_place regs pc) t
    makes need pc rest t code_rules.Ready is tells narrow w some behind =
        let here : pc ≡ pc + 0 = omega arith in
        subst (λ q. Always p None (0 + need) (at_place regs q) t) (sym here)
        (roomy p None need (0 + need) (at_place regs (pc + 0)) t (omega arith) (behind regs (λ n out. refl) (ready_is is)))
    makes need pc rest t (code_rules.Add size) is tells narrow w some behind =
        by_words Sum (width_of size) need pc rest t (sum_same size (not-true (is_quad size) narrow) ∙ told_is (code_rules.Add size) is refl) w some behind
      where
        sum_same : (size : Size) → is_quad size ≡ false → bit (overflows Sum (width_of size) (low (size_of (width_of size)) (regs 28)) (low (size_of (width_of size)) (regs 29))) ≡ bit (codes_by (code_rules.Add size) (regs 28) (regs 29)).v
        sum_same Byte e = refl
        sum_same Word e = refl
        sum_same Long e = refl
        sum_same Quad e = absurd (cc e)
    makes need pc rest t (code_rules.Sub size) is tells narrow w some behind =
        by_words Difference (width_of size) need pc rest t (difference_same size (not-true (is_quad size) narrow) ∙ told_is (code_rules.Sub size) is refl) w some behind
      where
        difference_same : (size : Size) → is_quad size ≡ false → bit (overflows Difference (width_of size) (low (size_of (width_of size)) (regs 28)) (low (size_of (width_of size)) (regs 29))) ≡ bit (codes_by (code_rules.Sub size) (regs 28) (regs 29)).v
        difference_same Byte e = refl
        difference_same Word e = refl
        difference_same Long e = refl
        difference_same Quad e = absurd (cc e)
    makes need pc rest t rule is tells narrow w some behind = absurd (cc tells)

-- ---- the PC behind the instruction
abbrev pub pc_left_by : BranchOp → Site → Standing → Exit → ℕ
pc_left_by op site standing exits.Next = site.after
pc_left_by op site standing (exits.Fixed address) = address
pc_left_by op site standing (exits.Computed temp) = standing.temps temp % 2 ^ 32
pc_left_by op site standing (exits.Choice when chosen other) = if taken op (standing.temps when) then other else chosen
pc_left_by op site standing (exits.Service temp) = site.after
pc_left_by op site standing exits.Breakpoint = site.after

abbrev pub pc_left : Site → Standing → Exit → ℕ
pc_left site standing exit = pc_left_by Beq site standing exit

-- the temporary that an exit goes by is held
abbrev pub ExitHolds : Known → Exit → Type 0
ExitHolds known (exits.Computed temp) = exit_holds known temp ≡ true
ExitHolds known (exits.Choice when chosen other) = exit_holds known when ≡ true
ExitHolds known exit = Unit {0}

module _ (p : Placement) (site : Site) (known : Known) (standing : Standing) (after_fits : site.after < 2 ^ 32) (op : BranchOp) (unlinked : links op ≡ false) where
  -- two words that load an address
  loads_address : (need pc address : ℕ) (rest : List Line) (regs : Regs) (t : Tree) → Within p site.behind pc (map plain (load_longword 26 address) ++ rest) → 1 ≤ length rest → regs 31 ≡ 0 → address < 2 ^ 32
      → ((g : Regs) → Only (λ n. n == 26) regs g → g 26 % 2 ^ 32 ≡ address → Always p None need (at_place g (pc + 2)) t) → Always p None (2 + need) (at_place regs pc) t
  loads_address need pc address rest regs t w some zero_reads lt behind =
      let two : pc + 1 + 1 ≡ pc + 2 = omega arith in
      roomy p None (need + 1 + 1) (2 + need) (at_place regs pc) t (omega arith)
      (loads p site need pc address rest regs t w some zero_reads lt (λ g only low w'. subst (λ q. Always p None need (at_place g q) t) (sym two) (behind g only low)))

  pub loads_pc : (need pc : ℕ) (exit : Exit) (rest : List Line) (regs : Regs) (t : Tree) → Coded p site known standing regs → IsExit exit → ExitHolds known exit
      → Within p site.behind pc (map plain (load_by op site.after exit) ++ rest) → 1 ≤ length rest
      → ((g : Regs) → Only (λ n. n == 26) regs g → g 26 % 2 ^ 32 ≡ pc_left_by op site standing exit → Always p None need (at_place g (pc + length (load_by op site.after exit))) t)
      → Always p None (length (load_by op site.after exit) + need) (at_place regs pc) t
  loads_pc need pc exits.Next rest regs t c is holds w some behind = loads_address need pc site.after rest regs t w some c.form.zero after_fits behind
  loads_pc need pc (exits.Fixed address) rest regs t c is holds w some behind = loads_address need pc address rest regs t w some c.form.zero is behind
  loads_pc need pc (exits.Computed temp) rest regs t c is holds w some behind =
      let end = w.high in
      let value = exit_value p site known standing regs temp is holds c in
      let x = bit_or (regs (21 + temp)) 0 in
      roomy p None (need + 1) (1 + need) (at_place regs pc) t (omega arith)
      (goes p None need (at_place regs pc) (at_place (put regs 26 x) (pc + 1)) (copy (holder temp) 26) t (stands p site.behind pc (copy (holder temp) 26) None rest w) refl (omega arith) (is_inside p site.behind pc (pc + 1) _ w (omega arith) (omega arith))
      (behind (put regs 26 x) (λ n out. put_other regs 26 x n out) (ap (λ n. n % 2 ^ 32) (copied (regs (21 + temp)) ∙ value))))
  loads_pc need pc (exits.Choice when chosen other) rest regs t c is holds w some behind = by (taken op (standing.temps when)) refl behind
    where
      by : (b : Bool) → taken op (standing.temps when) ≡ b → ((g : Regs) → Only (λ n. n == 26) regs g → g 26 % 2 ^ 32 ≡ (if b then other else chosen) → Always p None need (at_place g (pc + 6)) t) → Always p None (6 + need) (at_place regs pc) t
      by true e behind =
          let end = w.high in
          let near = w.near in
          let value = exit_value p site known standing regs when is.0 holds c in
          let last = map plain (load_longword 26 other) ++ rest in
          let w1 = next p site.behind pc (Branch op (holder when) (pos 3)) None (map plain (load_longword 26 chosen) ++ (plain (Branch Br 31 (pos 2)) ∷ last)) w in
          let w2 = row_rest p site.behind (pc + 1) (load_longword 26 chosen) (plain (Branch Br 31 (pos 2)) ∷ last) w1 in
          let w3 = next p site.behind (pc + 1 + 2) (Branch Br 31 (pos 2)) None last w2 in
          let jump : target_of pc (pos 3) ≡ pc + 1 + 2 + 1 = omega arith in
          let six : pc + 1 + 2 + 1 + 2 ≡ pc + 6 = omega arith in
          roomy p None (2 + need + 1) (6 + need) (at_place regs pc) t (omega arith)
          (skips p None (2 + need) (at_place regs pc) op (holder when) (pos 3) (pc + 1 + 2 + 1) t (stands p site.behind pc (Branch op (holder when) (pos 3)) None _ w) unlinked (ap (taken op) value ∙ e) jump (omega arith)
          (is_inside p site.behind pc (pc + 1 + 2 + 1) _ w (omega arith) (omega arith))
          (loads_address need (pc + 1 + 2 + 1) other rest regs t w3 some c.form.zero is.2 (λ g only low. subst (λ q. Always p None need (at_place g q) t) (sym six) (behind g only low))))
      by false e behind =
          let end = w.high in
          let near = w.near in
          let value = exit_value p site known standing regs when is.0 holds c in
          let last = map plain (load_longword 26 other) ++ rest in
          let w1 = next p site.behind pc (Branch op (holder when) (pos 3)) None (map plain (load_longword 26 chosen) ++ (plain (Branch Br 31 (pos 2)) ∷ last)) w in
          let w2 = row_rest p site.behind (pc + 1) (load_longword 26 chosen) (plain (Branch Br 31 (pos 2)) ∷ last) w1 in
          let jump : target_of (pc + 1 + 2) (pos 2) ≡ pc + 6 = omega arith in
          let low_end = w2.high in
          roomy p None (2 + (need + 1) + 1) (6 + need) (at_place regs pc) t (omega arith)
          (passes p None (2 + (need + 1)) (at_place regs pc) op (holder when) (pos 3) t (stands p site.behind pc (Branch op (holder when) (pos 3)) None _ w) (ap (taken op) value ∙ e)
          (is_inside p site.behind pc (pc + 1) _ w (omega arith) (omega arith))
          (loads_address (need + 1) (pc + 1) chosen (plain (Branch Br 31 (pos 2)) ∷ last) regs t w1 (omega arith) c.form.zero is.1
          (λ g only low. goes p None need (at_place g (pc + 1 + 2)) (at_place g (pc + 6)) (Branch Br 31 (pos 2)) t (stands p site.behind (pc + 1 + 2) (Branch Br 31 (pos 2)) None last w2) (ap (λ q. Goes (at_place g q)) jump) (omega arith)
          (is_inside p site.behind (pc + 1 + 2) (pc + 6) _ w2 (omega arith) (omega arith)) (behind g only low))))
  loads_pc need pc (exits.Service temp) rest regs t c is holds w some behind = loads_address need pc site.after rest regs t w some c.form.zero after_fits behind
  loads_pc need pc exits.Breakpoint rest regs t c is holds w some behind = loads_address need pc site.after rest regs t w some c.form.zero after_fits behind
