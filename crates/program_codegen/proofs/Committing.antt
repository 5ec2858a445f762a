-- Changes of the state that a program is to leave, in its block.
use Rattle.std.proofs.Common.{◌≡◌, ℕ, ◌+◌, ◌*◌, ◌/◌, ◌%◌, ◌^◌, ◌<◌, ◌≤◌, refl, sym, ap, ◌∙◌, subst, arith, List, ◌∷◌, length, Option, Some, None, Bool, true, false, lit≤, length-set}
use Rattle.std.specs.Prelude.{◌==◌, not, nat_lt, bit_and, slice_set}
use Rattle.std.proofs.lemmas.Bool.Decides.{nat_tests}
use Rattle.std.proofs.lemmas.Bool.{eqb-false}
use Rattle.vt_words.proofs.Tests.{less_differs, greater_differs}
use Rattle.vt_words.specs.Quad.{sign_extended}
use Rattle.vt_words.specs.Values.{bit}
use Rattle.vt_words.proofs.Longwords.{extended_low, extended_again}
use Rattle.vax_form.specs.State.{register, with_core, with_register, with_psw}
use Rattle.vax_form.specs.Tree.{Tree}
use Rattle.alpha_encode.specs.declared.instr.AlphaInstr.TheVariants.{Operate}
use Rattle.alpha_encode.specs.declared.instr.OperateOp.TheVariants.{Addl, And}
use Rattle.alpha_encode.specs.declared.instr.Second.TheVariants.{Literal}
use Rattle.alpha_meaning.specs.Result.{plus, long}
use Rattle.alpha_meaning.specs.State.{Regs, put, at_place}
use Rattle.alpha_meaning.proofs.Registers.{put_same, put_other}
use Rattle.exception_records.specs.Shown.{registers_shown, codes_shown}
use Rattle.micro_ops.specs.declared.known.Known.{Known}
use Rattle.micro_ops.specs.Fits.{commit_fits}
use Rattle.micro_ops.specs.Known.{held, holds, is_committed, behind_commit}
use Rattle.micro_ops.specs.Meaning.{Standing, with_codes, codes_from, carry_from, is_set}
use Rattle.micro_ops.proofs.Held.{flag_set, flag_other}
use Rattle.block_law.specs.Placements.{Placement, InForm}
use Rattle.block_law.proofs.Kept.{registers_put}
use Rattle.block_law.proofs.Rules.{Always, roomy, goes}
use Rattle.program_codegen.specs.declared.lines.Line.{Line}
use Rattle.program_codegen.specs.declared.points.Site.{Site}
use Rattle.program_codegen.specs.Words.{plain, holder}
use Rattle.program_codegen.proofs.Numbers.{all_three, status_bits, committed_is, bit_small}
use Rattle.program_codegen.proofs.Walk.{Within, stands, is_inside}
use Rattle.program_codegen.proofs.Holding.{Holds}
use Rattle.program_codegen.proofs.Computing.{held_value, held_still}

pub above : (r n : ℕ) → r < 15 → 15 ≤ n → (n == r) ≡ false
above r n lt le = greater_differs n r (omega arith)

-- ---- a register
-- R0 to R14 hold sign-extended longwords
pub form_register : (regs : Regs) (r x : ℕ) → r < 15 → sign_extended x 32 ≡ x → InForm regs → InForm (put regs r x)
form_register regs r x low extended form = record {
  longwords = λ n lt. by n (n == r) refl lt;
  codes = λ n from to. let e = put_other regs r x n (above r n low (omega arith)) in subst (λ v. v < 2) (sym e) (form.codes n from to);
  status = let e = put_other regs r x 20 (above r 20 low (lit≤ tt)) in subst (λ v. v < 256) (sym e) form.status;
  status_only = let e = put_other regs r x 20 (above r 20 low (lit≤ tt)) in subst (λ v. v % 16 ≡ 0) (sym e) form.status_only;
  zero = put_other regs r x 31 (above r 31 low (lit≤ tt)) ∙ form.zero;
}
  where
    by : (n : ℕ) (b : Bool) → (n == r) ≡ b → n < 15 → sign_extended (put regs r x n) 32 ≡ put regs r x n
    by n true e lt =
        let same : r ≡ n = grind (arith, nat_tests, e) in
        let is : put regs r x n ≡ x = subst (λ m. put regs r x m ≡ x) same (put_same regs r x (less_differs r 31 (omega arith))) in
        subst (λ v. sign_extended v 32 ≡ v) (sym is) extended
    by n false e lt = let is = put_other regs r x n e in subst (λ v. sign_extended v 32 ≡ v) (sym is) (form.longwords n lt)

module _ (p : Placement) (site : Site) where
  pub commits : (need pc number source : ℕ) (rest : List Line) (known : Known) (standing : Standing) (regs : Regs) (t : Tree)
      → Within p site.behind pc (plain (Operate Addl (holder source) (Literal 0) number) ∷ rest) → 1 ≤ length rest
      → commit_fits known number source ≡ true → number < 15 → source < 6 → Holds p site known standing regs
      → ((g : Regs) → Holds p site (behind_commit number known) (record standing { state = with_register number (standing.temps source % 2 ^ 32) standing.state }) g → Always p None need (at_place g (pc + 1)) t)
      → Always p None (1 + need) (at_place regs pc) t
  commits need pc number source rest known standing regs t w some fits lt source_lt h behind =
      let x = all_three (nat_lt number 15) (holds known source) (not (is_committed known number)) fits in
      let v = held_value (held known source) (standing.temps source) (regs (21 + source)) x.1 (h.temps source source_lt) in
      let end = w.high in
      roomy p None (need + 1) (1 + need) (at_place regs pc) t (omega arith)
      (goes p None need (at_place regs pc) (at_place (put regs number (long (plus (regs (21 + source)) 0))) (pc + 1)) (Operate Addl (holder source) (Literal 0) number) t
      (stands p site.behind pc (Operate Addl (holder source) (Literal 0) number) None rest w) refl (omega arith) (is_inside p site.behind pc (pc + 1) _ w (omega arith) (omega arith))
      (behind (put regs number (long (plus (regs (21 + source)) 0)))
      (subst (λ value. Holds p site (behind_commit number known) (record standing { state = with_register number (standing.temps source % 2 ^ 32) standing.state }) (put regs number value))
      (sym (committed_is (regs (21 + source)) ∙ ap (λ n. sign_extended n 32) v.0)) (committed (standing.temps source)))))
    where
      committed : (value : ℕ) → Holds p site (behind_commit number known) (record standing { state = with_register number (value % 2 ^ 32) standing.state }) (put regs number (sign_extended value 32))
      committed value = record {
        form = form_register regs number (sign_extended value 32) lt (extended_again value) h.form;
        temps = λ temp temp_lt. held_still (held known temp) (standing.temps temp) (regs (21 + temp)) (put regs number (sign_extended value 32) (21 + temp)) (λ some. put_other regs number (sign_extended value 32) (21 + temp) (above number (21 + temp) lt (omega arith))) (h.temps temp temp_lt);
        checked = h.checked;
        state =
            ap (with_register number (value % 2 ^ 32)) h.state
            ∙ ap (λ (rs : List ℕ). with_core p.begun rs p.begun.pc standing.state.psw) (ap (slice_set (registers_shown regs) number) (sym (extended_low value)) ∙ sym (registers_put regs number (sign_extended value 32) lt));
        upper = h.upper ∙ ap (λ n. n / 16) (sym (put_other regs number (sign_extended value 32) 20 (above number 20 lt (lit≤ tt))));
        same_psw = h.same_psw;
        overflowed = h.overflowed;
        no_overflow = h.no_overflow;
        each_register = length-set known.committed number true ∙ h.each_register;
        quiet = λ e. absurd (cc e);
        registers = λ other other_lt free. others other other_lt (other == number) refl free;
        codes = same_codes ∙ h.codes;
      }
        where
          out : (n : ℕ) → 15 ≤ n → put regs number (sign_extended value 32) n ≡ regs n
          out n le = put_other regs number (sign_extended value 32) n (above number n lt le)

          same_codes : codes_shown (put regs number (sign_extended value 32)) site.before p.held ≡ codes_shown regs site.before p.held
          same_codes =
              rw (out 15 (lit≤ tt), out 16 (lit≤ tt), out 17 (lit≤ tt), out 18 (lit≤ tt), out 19 (lit≤ tt), out 28 (lit≤ tt), out 29 (lit≤ tt), out 30 (lit≤ tt)) refl

          others : (other : ℕ) → other < 15 → (b : Bool) → (other == number) ≡ b → is_committed (behind_commit number known) other ≡ false → register other p.begun ≡ put regs number (sign_extended value 32) other % 2 ^ 32
          others other other_lt true e free =
              let same : number ≡ other = grind (arith, nat_tests, e) in
              let all = h.each_register in
              let set = flag_set known.committed number (omega arith) in
              let free' : is_committed (behind_commit number known) number ≡ false = subst (λ n. is_committed (behind_commit number known) n ≡ false) (sym same) free in
              absurd (cc (sym set ∙ free'))
          others other other_lt false e free =
              h.registers other other_lt (sym (flag_other known.committed number other (eqb-false other number e)) ∙ free) ∙ ap (λ n. n % 2 ^ 32) (sym (put_other regs number (sign_extended value 32) other e))

  -- ---- the codes, which have no words here
  pub sets_codes : (n z v : ℕ) (c : Option ℕ) (known : Known) (standing : Standing) (regs : Regs) → Holds p site known standing regs
      → Holds p site (record known { codes = true; changed = true }) (with_codes n z v c standing) regs
  sets_codes n z v c known standing regs h =
      let ln = bit_small (is_set n standing) in
      let lz = bit_small (is_set z standing) in
      let lv = bit_small (is_set v standing) in
      let lc = carry_small c in
      record {
        form = h.form;
        temps = h.temps;
        checked = h.checked;
        state = ap (with_psw (standing.state.psw / 16 * 16 + codes_from n z v c standing)) h.state;
        upper = high standing.state.psw (bit (is_set n standing)) (bit (is_set z standing)) (bit (is_set v standing)) (carry_from c standing) ln lz lv lc ∙ h.upper;
        same_psw = λ e. absurd (cc e);
        overflowed = λ e f. sym (overflow standing.state.psw (bit (is_set n standing)) (bit (is_set z standing)) (bit (is_set v standing)) (carry_from c standing) ln lz lv lc);
        no_overflow = λ e. absurd (cc e);
        each_register = h.each_register;
        quiet = λ e. absurd (cc e);
        registers = h.registers;
        codes = h.codes;
      }
    where
      carry_small : (c : Option ℕ) → carry_from c standing ≤ 1
      carry_small None = omega arith
      carry_small (Some temp) = bit_small (is_set temp standing)

      high : (psw n z v c : ℕ) → n ≤ 1 → z ≤ 1 → v ≤ 1 → c ≤ 1 → (psw / 16 * 16 + (n * 8 + z * 4 + v * 2 + c)) / 16 ≡ psw / 16
      high psw n z v c ln lz lv lc = omega arith

      overflow : (psw n z v c : ℕ) → n ≤ 1 → z ≤ 1 → v ≤ 1 → c ≤ 1 → (psw / 16 * 16 + (n * 8 + z * 4 + v * 2 + c)) / 2 % 2 ≡ v
      overflow psw n z v c ln lz lv lc = omega arith

  -- ---- the status word
  pub sets_psw : (need pc source : ℕ) (rest : List Line) (known : Known) (standing : Standing) (regs : Regs) (t : Tree)
      → Within p site.behind pc (plain (Operate And (holder source) (Literal 0xF0) 20) ∷ rest) → 1 ≤ length rest
      → holds known source ≡ true → source < 6 → Holds p site known standing regs
      → ((g : Regs) → Holds p site (record known { psw = true; changed = true }) (record standing { state = with_psw (standing.temps source % 256) standing.state }) g → Always p None need (at_place g (pc + 1)) t)
      → Always p None (1 + need) (at_place regs pc) t
  sets_psw need pc source rest known standing regs t w some fits source_lt h behind =
      let v = held_value (held known source) (standing.temps source) (regs (21 + source)) fits (h.temps source source_lt) in
      let end = w.high in
      roomy p None (need + 1) (1 + need) (at_place regs pc) t (omega arith)
      (goes p None need (at_place regs pc) (at_place (put regs 20 (bit_and (regs (21 + source)) 0xF0)) (pc + 1)) (Operate And (holder source) (Literal 0xF0) 20) t
      (stands p site.behind pc (Operate And (holder source) (Literal 0xF0) 20) None rest w) refl (omega arith) (is_inside p site.behind pc (pc + 1) _ w (omega arith) (omega arith))
      (behind (put regs 20 (bit_and (regs (21 + source)) 0xF0))
      (subst (λ value. Holds p site (record known { psw = true; changed = true }) (record standing { state = with_psw (standing.temps source % 256) standing.state }) (put regs 20 value))
      (sym (status_bits (regs (21 + source)) ∙ ap (λ n. n % 256 / 16 * 16) v.0)) (set (standing.temps source)))))
    where
      set : (value : ℕ) → Holds p site (record known { psw = true; changed = true }) (record standing { state = with_psw (value % 256) standing.state }) (put regs 20 (value % 256 / 16 * 16))
      set value = record {
        form = record {
          longwords = λ n lt. let e = out n (less_differs n 20 (omega arith)) in subst (λ x. sign_extended x 32 ≡ x) (sym e) (h.form.longwords n lt);
          codes = λ n from to. let e = out n (less_differs n 20 to) in subst (λ x. x < 2) (sym e) (h.form.codes n from to);
          status = subst (λ x. x < 256) (sym here) (omega arith);
          status_only = subst (λ x. x % 16 ≡ 0) (sym here) (omega arith);
          zero = out 31 refl ∙ h.form.zero;
        };
        temps = λ temp temp_lt. held_still (held known temp) (standing.temps temp) (regs (21 + temp)) (put regs 20 (value % 256 / 16 * 16) (21 + temp)) (λ some. out (21 + temp) (greater_differs (21 + temp) 20 (omega arith))) (h.temps temp temp_lt);
        checked = h.checked;
        state = ap (with_psw (value % 256)) h.state ∙ ap (λ (rs : List ℕ). with_core p.begun rs p.begun.pc (value % 256)) same_registers;
        upper = sym (ap (λ x. x / 16) here ∙ (let e : value % 256 / 16 * 16 / 16 ≡ value % 256 / 16 = omega arith in e));
        same_psw = λ e f. absurd (cc f);
        overflowed = λ e f. absurd (cc f);
        no_overflow = h.no_overflow;
        each_register = h.each_register;
        quiet = λ e. absurd (cc e);
        registers = λ other lt free. h.registers other lt free ∙ ap (λ n. n % 2 ^ 32) (sym (out other (less_differs other 20 (omega arith))));
        codes = same_codes ∙ h.codes;
      }
        where
          out : (n : ℕ) → (n == 20) ≡ false → put regs 20 (value % 256 / 16 * 16) n ≡ regs n
          out n e = put_other regs 20 (value % 256 / 16 * 16) n e

          here : put regs 20 (value % 256 / 16 * 16) 20 ≡ value % 256 / 16 * 16
          here = refl

          same_registers : registers_shown regs ≡ registers_shown (put regs 20 (value % 256 / 16 * 16))
          same_registers = refl

          same_codes : codes_shown (put regs 20 (value % 256 / 16 * 16)) site.before p.held ≡ codes_shown regs site.before p.held
          same_codes = refl
