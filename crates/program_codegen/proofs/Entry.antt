-- Behind the pushes of a call its procedure is entered.
use Rattle.std.proofs.Common.{◌≡◌, ℕ, ◌+◌, ◌*◌, ◌/◌, ◌%◌, ◌^◌, ◌<◌, ◌≤◌, refl, sym, ap, ◌∙◌, subst, arith, [], ◌++◌, map, None, Bool, true, false, lit<, lit≤}
use Rattle.std.specs.Prelude.{◌==◌, ◌&&◌, bit_and, bit_or, nat_le}
use Rattle.std.proofs.lemmas.Bool.Decides.{nat_tests}
use Rattle.std.proofs.lemmas.Nat.{and_assoc, and_mask, or_comm, or_shifted}
use Rattle.std.proofs.lemmas.Nat.Bits.{and_high_mask}
use Rattle.vt_words.specs.Quad.{sign_extended}
use Rattle.vax_form.specs.State.{with_core}
use Rattle.vax_form.specs.Tree.{Ends, Finish}
use Rattle.vax_form.specs.declared.state.VaxState.{VaxState}
use Rattle.vax_long.specs.Calls.{entry_psw}
use Rattle.alpha_meaning.specs.Loops.{effects}
use Rattle.alpha_meaning.specs.Pieces.{Only, Plain}
use Rattle.alpha_meaning.specs.State.{Regs, at_place}
use Rattle.alpha_meaning.proofs.Rules.{effects_only}
use Rattle.exception_records.specs.Codes.{all_ready}
use Rattle.exception_records.specs.Shown.{registers_shown, psw_shown, still_held}
use Rattle.micro_ops.specs.declared.known.Known.{Known}
use Rattle.micro_ops.specs.Meaning.{Standing}
use Rattle.block_law.specs.Follows.{Follows}
use Rattle.block_law.specs.Placements.{Placement, InForm, state_behind}
use Rattle.block_law.proofs.Rounds.{fits_spare}
use Rattle.block_law.proofs.Rules.{Always, operates}
use Rattle.program_codegen.specs.declared.points.Site.{Site}
use Rattle.program_codegen.specs.Words.{plain, exit_lines}
use Rattle.program_codegen.specs.Calls.{entry_traps, entry_words}
use Rattle.program_codegen.proofs.Numbers.{copied}
use Rattle.program_codegen.proofs.Walk.{Within, is_inside, row_words, row_rest, row_length, exit_leads}
use Rattle.program_codegen.proofs.Holding.{Holds}
use Rattle.program_codegen.proofs.Coded.{registers_same}

-- T alone
trace_bit : (n : ℕ) → bit_and n 0x10 ≡ n / 16 % 2 * 16
trace_bit n =
    let low : n % 2 ^ 5 < 2 ^ 5 = omega arith in
    sym (and_assoc 16 n 31) ∙ (ap (λ x. bit_and x 16) (and_mask n 5) ∙ (and_high_mask 5 4 (lit≤ tt) (n % 2 ^ 5) low ∙ omega arith))

-- with DV and IV of a mask
traps_joined : (n mask : ℕ) → bit_or (bit_and n 0x10) (entry_traps mask) ≡ entry_traps mask + n / 16 % 2 * 16
traps_joined n mask =
    let traps : (mask / 2 ^ 15 % 2 * 4 + mask / 2 ^ 14 % 2) * 2 ^ 5 ≡ entry_traps mask = omega arith in
    let low : n / 16 % 2 * 16 < 2 ^ 5 = omega arith in
    ap (λ x. bit_or x (entry_traps mask)) (trace_bit n)
    ∙ (or_comm (n / 16 % 2 * 16) (entry_traps mask)
    ∙ (ap (λ x. bit_or x (n / 16 % 2 * 16)) (sym traps) ∙ (or_shifted (mask / 2 ^ 15 % 2 * 4 + mask / 2 ^ 14 % 2) 5 (n / 16 % 2 * 16) low ∙ ap (λ x. x + n / 16 % 2 * 16) traps)))

-- R16 to R20
abbrev pub is_status : (register : ℕ) → Bool
is_status register = nat_le 16 register && nat_le register 20

below_status : (n : ℕ) → n < 15 → is_status n ≡ false
below_status n lt = grind (arith, nat_tests)

-- a code's register
pub of_code : (P : ℕ → Type 0) (n : ℕ) → 16 ≤ n → n < 20 → P 16 → P 17 → P 18 → P 19 → P n
of_code P n le lt a b c d = by (n == 16) (n == 17) (n == 18) refl refl refl
  where
    by : (x y z : Bool) → (n == 16) ≡ x → (n == 17) ≡ y → (n == 18) ≡ z → P n
    by true y z e f g = let is : 16 ≡ n = grind (arith, nat_tests, e) in subst P is a
    by false true z e f g = let is : 17 ≡ n = grind (arith, nat_tests, f) in subst P is b
    by false false true e f g = let is : 18 ≡ n = grind (arith, nat_tests, g) in subst P is c
    by false false false e f g = let is : 19 ≡ n = grind (arith, nat_tests, e, f, g) in subst P is d

module _ (regs : Regs) (mask : ℕ) where
  abbrev behind_entry : Regs
  behind_entry = effects (entry_words mask) regs

  entry_only : Only is_status regs behind_entry
  entry_only = effects_only (entry_words mask) is_status regs regs refl (λ n out. refl)

  cleared : regs 31 ≡ 0 → (n : ℕ) → 16 ≤ n → n < 20 → behind_entry n ≡ 0
  cleared zero_reads n le lt = let none = copied (regs 31) ∙ zero_reads in of_code (λ n. behind_entry n ≡ 0) n le lt none none none none

  entry_status : behind_entry 20 ≡ entry_traps mask + regs 20 / 16 % 2 * 16
  entry_status = traps_joined (regs 20) mask

  traps_small : (entry_traps mask + regs 20 / 16 % 2 * 16 < 256) × ((entry_traps mask + regs 20 / 16 % 2 * 16) % 16 ≡ 0)
  traps_small = (omega arith, omega arith)

  pub entry_form : InForm regs → InForm behind_entry
  entry_form form = record {
    longwords = λ n lt. let e = entry_only n (below_status n lt) in subst (λ x. sign_extended x 32 ≡ x) (sym e) (form.longwords n lt);
    codes = λ n from to. let e = cleared form.zero n from to in subst (λ x. x < 2) (sym e) (lit< tt);
    status = subst (λ x. x < 256) (sym entry_status) traps_small.0;
    status_only = subst (λ x. x % 16 ≡ 0) (sym entry_status) traps_small.1;
    zero = entry_only 31 refl ∙ form.zero;
  }

module _ (p : Placement) (site : Site) (ready : site.behind ≡ all_ready) (entry mask : ℕ) where
  -- the state in the procedure
  abbrev pub entered : VaxState → VaxState
  entered state = with_core state state.r entry (entry_psw mask p.begun.psw)

  pub enters : (pc : ℕ) (known : Known) (standing : Standing) (regs : Regs) → Within p site.behind pc (map plain (entry_words mask) ++ exit_lines entry)
      → known.codes ≡ false → known.psw ≡ false → Holds p site known standing regs
      → Always p None 9 (at_place regs pc) (Ends (Finish (entered standing.state)))
  enters pc known standing regs w no_codes no_psw h =
      let end = w.high in
      let count = row_length p site.behind (entry_words mask) (exit_lines entry) in
      operates p None 3 (entry_words mask) regs pc _ (row_words p site.behind pc (entry_words mask) (exit_lines entry) w) refl w.low (omega arith) (λ q lt le. is_inside p site.behind pc q _ w lt (omega arith)) exits
    where
      g : Regs
      g = effects (entry_words mask) regs

      -- no code is held in a register that is not 0
      codes_none : psw_shown (effects (entry_words mask) regs) all_ready (still_held p.held p.written) ≡ effects (entry_words mask) regs 20 / 16 % 16 * 16
      codes_none = from_none (cleared regs mask h.form.zero 16 (lit≤ tt) (lit< tt))
        where
          -- the words of all four are alike
          from_none : effects (entry_words mask) regs 16 ≡ 0 → psw_shown (effects (entry_words mask) regs) all_ready (still_held p.held p.written) ≡ effects (entry_words mask) regs 20 / 16 % 16 * 16
          from_none none = rw none (omega arith)

      status : psw_shown (effects (entry_words mask) regs) all_ready (still_held p.held p.written) ≡ entry_psw mask p.begun.psw
      status =
          let same = h.same_psw no_codes no_psw in
          let upper : p.begun.psw / 16 ≡ regs 20 / 16 = ap (λ x. x / 16) (sym same) ∙ h.upper in
          let small = h.form.status in
          codes_none ∙ (ap (λ x. x / 16 % 16 * 16) (entry_status regs mask) ∙ by_bits p.begun.psw (regs 20) upper small)
        where
          by_bits : (psw r : ℕ) → psw / 16 ≡ r / 16 → r < 256 → (entry_traps mask + r / 16 % 2 * 16) / 16 % 16 * 16 ≡ entry_psw mask psw
          by_bits psw r e lt = omega arith

      left : entered standing.state ≡ state_behind p (effects (entry_words mask) regs) entry site.behind
      left =
          ap entered h.state
          ∙ (ap (λ rs. with_core p.begun rs entry (entry_psw mask p.begun.psw)) (sym (registers_same regs (effects (entry_words mask) regs) (λ n lt. entry_only regs mask n (below_status n lt))))
          ∙ (ap (λ psw. with_core p.begun (registers_shown (effects (entry_words mask) regs)) entry psw) (sym status)
          ∙ ap (λ rules. state_behind p (effects (entry_words mask) regs) entry rules) (sym ready)))

      exits : Always p None 3 (at_place (effects (entry_words mask) regs) (pc + 6)) (Ends (Finish (entered standing.state)))
      exits n spare round fits =
          subst (λ (s : VaxState). Follows p n Plain spare round (at_place (effects (entry_words mask) regs) (pc + 6)) (Ends (Finish s))) (sym left)
          (exit_leads p site.behind (pc + 6) entry [] (row_rest p site.behind pc (entry_words mask) (exit_lines entry) w) n spare round (effects (entry_words mask) regs) (fits_spare p.bonus None 3 spare round fits) (entry_form regs mask h.form))
