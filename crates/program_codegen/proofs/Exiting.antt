-- The exits of a block, behind its codes.
use Rattle.std.proofs.Common.{◌≡◌, ℕ, ◌+◌, ◌%◌, ◌^◌, ◌<◌, ◌≤◌, refl, sym, ap, ◌∙◌, subst, arith, List, [], ◌∷◌, ◌++◌, length, map, Some, None, Bool, true, false, lit<, lit≤, eqb-true}
use Rattle.std.specs.Prelude.{pos, ◌==◌, not, bit_or, slice_set, if◌then◌else◌}
use Rattle.std.specs.Int.{cast_unsigned, w64}
use Rattle.std.proofs.Math.Nat.{mod-eq_of_lt}
use Rattle.std.proofs.lemmas.Bool.Decides.{nat_tests}
use Rattle.std.proofs.lemmas.Bool.{not-true}
use Rattle.vt_words.specs.Quad.{sign_extended}
use Rattle.vt_words.proofs.Longwords.{extended_low, extended_again}
use Rattle.vax_form.specs.State.{with_core, with_pc, with_register}
use Rattle.vax_form.specs.Tree.{Tree, Fault, Ends, Finish, Same}
use Rattle.vax_form.specs.declared.state.Exception.TheVariants.{Breakpoint}
use Rattle.vax_form.specs.declared.state.VaxState.{VaxState}
use Rattle.alpha_encode.specs.Halves.{high_half, low_half, load_high, load_low, load_longword}
use Rattle.alpha_encode.specs.declared.instr.AlphaInstr.TheVariants.{Branch, Pal}
use Rattle.alpha_encode.specs.declared.instr.BranchOp.{BranchOp}
use Rattle.alpha_meaning.specs.Act.{links, taken, target_of}
use Rattle.alpha_meaning.specs.Pieces.{Only, Plain}
use Rattle.alpha_meaning.specs.Result.{plus, times}
use Rattle.alpha_meaning.specs.State.{Regs, put, at_place}
use Rattle.alpha_meaning.proofs.Registers.{put_other}
use Rattle.exception_records.specs.Codes.{all_ready}
use Rattle.exception_records.specs.Shown.{registers_shown, psw_shown, psw_with, still_held}
use Rattle.micro_ops.specs.declared.known.Known.{Known}
use Rattle.micro_ops.specs.declared.program.Exit.TheVariants as exits
use Rattle.micro_ops.specs.declared.program.Micro.TheVariants.{Leave}
use Rattle.micro_ops.specs.Fits.{exit_holds}
use Rattle.micro_ops.specs.Known.{held, holds}
use Rattle.micro_ops.specs.Meaning.{Standing}
use Rattle.compute_sequences.proofs.Halves.{long_low}
use Rattle.block_law.specs.Follows.{Follows}
use Rattle.block_law.specs.Placements.{Placement, state_shown, state_behind, state_ready, target}
use Rattle.block_law.specs.Tidy.{is_kept}
use Rattle.block_law.proofs.Blocks.{same_refl}
use Rattle.block_law.proofs.Kept.{psw_kept, form_kept, state_kept, registers_put, psw_put}
use Rattle.block_law.proofs.Rounds.{fits_spare}
use Rattle.block_law.proofs.Rules.{Always, roomy, goes, passes, skips, looks_up, serves, raises}
use Rattle.program_codegen.specs.declared.lines.Line.{Line}
use Rattle.program_codegen.specs.declared.points.Site.{Site}
use Rattle.program_codegen.specs.Words.{plain, marked, holder, copy, code_copied, serving, point_of, raising, exit_lines, departing, departing_by}
use Rattle.program_codegen.specs.Programs.{LeavesReady}
use Rattle.program_codegen.proofs.Numbers.{all_three, copied}
use Rattle.program_codegen.proofs.Walk.{Within, next, stands, is_inside, exit_leads, behind_exit}
use Rattle.program_codegen.proofs.Computing.{held_value}
use Rattle.program_codegen.proofs.Committing.{form_register}
use Rattle.program_codegen.proofs.Coded.{Coded, left_is, shown_psw, psw_back}

-- the temporary that an exit goes by
pub exit_value : (p : Placement) (site : Site) (known : Known) (standing : Standing) (regs : Regs) (temp : ℕ) → temp < 6 → exit_holds known temp ≡ true → Coded p site known standing regs → regs (21 + temp) ≡ standing.temps temp
exit_value p site known standing regs temp lt fits c =
    let x = all_three (holds known temp) (not (temp == 3)) (not (temp == 4)) fits in
    (held_value (held known temp) (standing.temps temp) (regs (21 + temp)) x.0 (c.temps temp lt (not-true (temp == 3) x.1) (not-true (temp == 4) x.2))).0

-- R21 to R27 are not shown
pub kept_apart : (k n : ℕ) → 21 ≤ k → k ≤ 27 → is_kept n ≡ true → (n == k) ≡ false
kept_apart k n low high e = grind (arith, nat_tests, e)

pub kept_by_put : (regs : Regs) (k value : ℕ) → 21 ≤ k → k ≤ 27 → (n : ℕ) → is_kept n ≡ true → put regs k value n ≡ regs n
kept_by_put regs k value low high n kept = put_other regs k value n (kept_apart k n low high kept)

-- ---- an address in R26
module _ (p : Placement) (site : Site) where
  pub loads : (need pc v : ℕ) (rest : List Line) (regs : Regs) (t : Tree) → Within p site.behind pc (map plain (load_longword 26 v) ++ rest) → 1 ≤ length rest → regs 31 ≡ 0 → v < 2 ^ 32
      → ((g : Regs) → Only (λ n. n == 26) regs g → g 26 % 2 ^ 32 ≡ v → Within p site.behind (pc + 1 + 1) rest → Always p None need (at_place g (pc + 1 + 1)) t)
      → Always p None (need + 1 + 1) (at_place regs pc) t
  loads need pc v rest regs t w some zero_reads lt behind =
      let end = w.high in
      let w1 = next p site.behind pc (load_high 26 v) None (plain (load_low 26 v) ∷ rest) w in
      let first = plus (regs 31) (times (cast_unsigned w64 (high_half v)) 65536) in
      let second = plus first (times (cast_unsigned w64 (low_half v)) 1) in
      goes p None (need + 1) (at_place regs pc) (at_place (put regs 26 first) (pc + 1)) (load_high 26 v) t (stands p site.behind pc (load_high 26 v) None (plain (load_low 26 v) ∷ rest) w) refl (omega arith) (is_inside p site.behind pc (pc + 1) _ w (omega arith) (omega arith))
      (goes p None need (at_place (put regs 26 first) (pc + 1)) (at_place (put (put regs 26 first) 26 second) (pc + 1 + 1)) (load_low 26 v) t (stands p site.behind (pc + 1) (load_low 26 v) None rest w1) refl (omega arith) (is_inside p site.behind pc (pc + 1 + 1) _ w (omega arith) (omega arith))
      (behind (put (put regs 26 first) 26 second) (λ n out. put_other (put regs 26 first) 26 second n out ∙ put_other regs 26 first n out)
      (ap (λ x. plus (plus x (times (cast_unsigned w64 (high_half v)) 65536)) (times (cast_unsigned w64 (low_half v)) 1) % 2 ^ 32) zero_reads ∙ long_low v lt)
      (next p site.behind (pc + 1) (load_low 26 v) None rest w1)))

module _ (p : Placement) (site : Site) (known : Known) (standing : Standing) (regs : Regs) (c : Coded p site known standing regs) where
  -- ---- an exit to an address
  pub exits_to : (pc address : ℕ) (rest : List Line) → Within p site.behind pc (exit_lines address ++ rest) → Always p None 3 (at_place regs pc) (Ends (Finish (with_pc address standing.state)))
  exits_to pc address rest w n spare round fits =
      subst (λ (s : VaxState). Follows p n Plain spare round (at_place regs pc) (Ends (Finish s))) (sym (left_is p site known standing regs c address))
      (exit_leads p site.behind pc address rest w n spare round regs (fits_spare p.bonus None 3 spare round fits) c.form)

  -- ---- one of two
  pub chooses : (op : BranchOp) → links op ≡ false → (pc when chosen other : ℕ) → Within p site.behind pc (departing_by op site (exits.Choice when chosen other)) → when < 6 → exit_holds known when ≡ true
      → Always p None 7 (at_place regs pc) (Ends (Finish (with_pc (if taken op (standing.temps when) then other else chosen) standing.state)))
  chooses op unlinked pc when chosen other w lt fits = by (taken op (standing.temps when)) refl
    where
      by : (b : Bool) → taken op (standing.temps when) ≡ b → Always p None 7 (at_place regs pc) (Ends (Finish (with_pc (if b then other else chosen) standing.state)))
      by true e =
          let end = w.high in
          let near = w.near in
          let value = exit_value p site known standing regs when lt fits c in
          let jump : target_of pc (pos 3) ≡ pc + 1 + 1 + 1 + 1 = omega arith in
          let w1 = next p site.behind pc (Branch op (holder when) (pos 3)) None (exit_lines chosen ++ exit_lines other) w in
          let w2 = behind_exit p site.behind (pc + 1) chosen (exit_lines other) w1 in
          roomy p None (3 + 1) 7 (at_place regs pc) _ (lit≤ tt)
          (skips p None 3 (at_place regs pc) op (holder when) (pos 3) (pc + 1 + 1 + 1 + 1) _ (stands p site.behind pc (Branch op (holder when) (pos 3)) None (exit_lines chosen ++ exit_lines other) w) unlinked (ap (taken op) value ∙ e) jump (omega arith)
          (is_inside p site.behind pc (pc + 1 + 1 + 1 + 1) _ w (omega arith) (omega arith)) (exits_to (pc + 1 + 1 + 1 + 1) other [] w2))
      by false e =
          let end = w.high in
          let value = exit_value p site known standing regs when lt fits c in
          let w1 = next p site.behind pc (Branch op (holder when) (pos 3)) None (exit_lines chosen ++ exit_lines other) w in
          roomy p None (3 + 1) 7 (at_place regs pc) _ (lit≤ tt)
          (passes p None 3 (at_place regs pc) op (holder when) (pos 3) _ (stands p site.behind pc (Branch op (holder when) (pos 3)) None (exit_lines chosen ++ exit_lines other) w) (ap (taken op) value ∙ e)
          (is_inside p site.behind pc (pc + 1) _ w (omega arith) (omega arith)) (exits_to (pc + 1) chosen (exit_lines other) w1))

  -- ---- one that is computed
  pub looks : (pc temp : ℕ) → Within p site.behind pc (departing site (exits.Computed temp)) → temp < 6 → exit_holds known temp ≡ true → LeavesReady site.behind (Leave (exits.Computed temp) ∷ [])
      → Always p None 2 (at_place regs pc) (Ends (Finish (with_pc (standing.temps temp % 2 ^ 32) standing.state)))
  looks pc temp w lt fits ready =
      let end = w.high in
      let value = exit_value p site known standing regs temp lt fits c in
      let x = bit_or (regs (21 + temp)) 0 in
      let is : bit_or (regs (21 + temp)) 0 ≡ standing.temps temp = copied (regs (21 + temp)) ∙ value in
      let w1 = next p site.behind pc (copy (holder temp) 26) None (plain (Pal 0x81) ∷ []) w in
      let same = kept_by_put regs 26 (bit_or (regs (21 + temp)) 0) (lit≤ tt) (lit≤ tt) in
      let state : with_pc (standing.temps temp % 2 ^ 32) standing.state ≡ state_ready p (put regs 26 (bit_or (regs (21 + temp)) 0)) (standing.temps temp % 2 ^ 32) =
      left_is p site known standing regs c (standing.temps temp % 2 ^ 32)
      ∙ (ap (state_behind p regs (standing.temps temp % 2 ^ 32)) (ready refl) ∙ sym (state_kept regs (put regs 26 (bit_or (regs (21 + temp)) 0)) same p (standing.temps temp % 2 ^ 32) all_ready (still_held p.held p.written))) in
      goes p None 1 (at_place regs pc) (at_place (put regs 26 (bit_or (regs (21 + temp)) 0)) (pc + 1)) (copy (holder temp) 26) _ (stands p site.behind pc (copy (holder temp) 26) None (plain (Pal 0x81) ∷ []) w) refl (omega arith) (is_inside p site.behind pc (pc + 1) _ w (omega arith) (omega arith))
      (looks_up p None (with_pc (standing.temps temp % 2 ^ 32) standing.state) (at_place (put regs 26 (bit_or (regs (21 + temp)) 0)) (pc + 1)) (stands p site.behind (pc + 1) (Pal 0x81) None [] w1)
      (form_kept regs (put regs 26 (bit_or (regs (21 + temp)) 0)) same (put_other regs 26 (bit_or (regs (21 + temp)) 0) 31 refl) c.form)
      (state ∙ ap (λ n. state_ready p (put regs 26 (bit_or (regs (21 + temp)) 0)) (n % 2 ^ 32)) (sym is)))

-- ---- the breakpoint fault
pub breaks : (p : Placement) (site : Site) (regs : Regs) (pc : ℕ) → Within p site.behind pc (departing site exits.Breakpoint) → Always p None 1 (at_place regs pc) (Fault Breakpoint)
breaks p site regs pc w = raises p None Breakpoint (at_place regs pc) (raising site 0x2C) (stands p site.behind pc (Pal 0x83) (Some (raising site 0x2C)) [] w) w.has.0.1 refl

-- ---- a service
module _ (p : Placement) (site : Site) (known : Known) (standing : Standing) (regs : Regs) (c : Coded p site known standing regs) (no_codes : known.codes ≡ false) (no_psw : known.psw ≡ false) (after_fits : site.after < 2 ^ 32) where
  -- the state that the service finds
  found_is : with_pc site.after standing.state ≡ state_shown p regs site.after site.before p.held
  found_is =
      let psw : psw_shown regs site.before p.held ≡ standing.state.psw = ap (psw_with (regs 20)) (c.before no_codes no_psw) ∙ psw_back standing.state.psw (regs 20) c.upper c.form.status in
      ap (with_pc site.after) c.state ∙ ap (with_core p.begun (registers_shown regs) site.after) (sym psw)

  behind_service : (g : Regs) (value : ℕ) → value < 2 ^ 32 → ((n : ℕ) → is_kept n ≡ true → g n ≡ regs n)
      → with_register 0 value (state_shown p g site.after site.before p.held) ≡ state_behind p (put g 0 (sign_extended value 32)) site.after site.behind
  behind_service g value lt same =
      let low : value ≡ sign_extended value 32 % 2 ^ 32 = sym (extended_low value ∙ mod-eq_of_lt lt) in
      let r : slice_set (registers_shown g) 0 value ≡ registers_shown (put g 0 (sign_extended value 32)) = ap (slice_set (registers_shown g) 0) low ∙ sym (registers_put g 0 (sign_extended value 32) (lit< tt)) in
      let before : psw_shown g site.before p.held ≡ standing.state.psw = psw_kept regs g same site.before p.held ∙ (ap (psw_with (regs 20)) (c.before no_codes no_psw) ∙ psw_back standing.state.psw (regs 20) c.upper c.form.status) in
      let behind : psw_shown (put g 0 (sign_extended value 32)) site.behind (still_held p.held p.written) ≡ standing.state.psw = psw_put g 0 (sign_extended value 32) site.behind (still_held p.held p.written) (lit< tt) ∙ (psw_kept regs g same site.behind (still_held p.held p.written) ∙ shown_psw p site known standing regs c) in
      ap (λ (rs : List ℕ). with_core p.begun rs site.after (psw_shown g site.before p.held)) r
      ∙ ap (with_core p.begun (registers_shown (put g 0 (sign_extended value 32))) site.after) (before ∙ sym behind)

  -- from where its code stands in R21
  served : (pc temp : ℕ) (g1 : Regs) → Within p site.behind pc (serving site) → ((n : ℕ) → is_kept n ≡ true → g1 n ≡ regs n)
      → g1 31 ≡ regs 31 → g1 21 ≡ standing.temps temp → Always p None 6 (at_place g1 pc) (p.serve (standing.temps temp % 2 ^ 16) (with_pc site.after standing.state))
  served pc temp g1 w kept zero is =
      let end = w.high in
      let t = p.serve (standing.temps temp % 2 ^ 16) (with_pc site.after standing.state) in
      let tail = marked (Pal 0x82) (point_of site) ∷ exit_lines site.after in
      loads p site 4 pc site.after tail g1 t w (lit≤ tt) (zero ∙ c.form.zero) after_fits
      (λ g only low w2.
      let same : (n : ℕ) → is_kept n ≡ true → g n ≡ regs n = λ n k. only n (kept_apart 26 n (lit≤ tt) (lit≤ tt) k) ∙ kept n k in
      let form = form_kept regs g same (only 31 refl ∙ zero) c.form in
      let code : g 21 % 2 ^ 16 ≡ standing.temps temp % 2 ^ 16 = ap (λ x. x % 2 ^ 16) (only 21 refl ∙ is) in
      let found : with_pc site.after standing.state ≡ state_shown p g (target g) site.before p.held =
      found_is ∙ (sym (state_kept regs g same p site.after site.before p.held) ∙ ap (λ pc. state_shown p g pc site.before p.held) (sym low)) in
      let there = end in
      let w3 = next p site.behind (pc + 1 + 1) (Pal 0x82) (Some (point_of site)) (exit_lines site.after) w2 in
      serves p None None 3 (at_place g (pc + 1 + 1)) t (point_of site) (stands p site.behind (pc + 1 + 1) (Pal 0x82) (Some (point_of site)) (exit_lines site.after) w2) w2.has.0.1
      (is_inside p site.behind (pc + 1 + 1) (pc + 1 + 1 + 1) _ w2 (omega arith) (omega arith)) form
      (subst (λ (u : Tree). Same t u) (ap (λ code. p.serve code (with_pc site.after standing.state)) (sym code) ∙ ap (p.serve (g 21 % 2 ^ 16)) found) (same_refl t)) (λ spare round fits. fits)
      (λ value value_lt n spare round fits.
      subst (λ (s : VaxState). Follows p n Plain spare round (at_place (put g 0 (sign_extended value 32)) (pc + 1 + 1 + 1)) (Ends (Finish s)))
      (sym (ap (λ pc. with_register 0 value (state_shown p g pc site.before p.held)) low ∙ behind_service g value value_lt same))
      (exit_leads p site.behind (pc + 1 + 1 + 1) site.after [] w3 n spare round (put g 0 (sign_extended value 32)) (fits_spare p.bonus None 3 spare round fits)
      (form_register g 0 (sign_extended value 32) (lit< tt) (extended_again value) form))))

  pub serves_then : (pc temp : ℕ) → Within p site.behind pc (departing site (exits.Service temp)) → temp < 6 → exit_holds known temp ≡ true
      → Always p None (length (departing site (exits.Service temp))) (at_place regs pc) (p.serve (standing.temps temp % 2 ^ 16) (with_pc site.after standing.state))
  serves_then pc temp w lt fits = by (temp == 0) refl w
    where
      t : Tree
      t = p.serve (standing.temps temp % 2 ^ 16) (with_pc site.after standing.state)

      value : regs (21 + temp) ≡ standing.temps temp
      value = exit_value p site known standing regs temp lt fits c

      by : (b : Bool) → (temp == 0) ≡ b → Within p site.behind pc (code_copied b temp ++ serving site) → Always p None (length (code_copied b temp ++ serving site)) (at_place regs pc) t
      by true e w = served pc temp regs w (λ n kept. refl) refl (ap (λ n. regs (21 + n)) (sym (eqb-true temp 0 e)) ∙ value)
      by false e w =
          let end = w.high in
          let g1 = put regs 21 (bit_or (regs (21 + temp)) 0) in
          goes p None 6 (at_place regs pc) (at_place g1 (pc + 1)) (copy (holder temp) 21) t (stands p site.behind pc (copy (holder temp) 21) None (serving site) w) refl (omega arith) (is_inside p site.behind pc (pc + 1) _ w (omega arith) (omega arith))
          (served (pc + 1) temp g1 (next p site.behind pc (copy (holder temp) 21) None (serving site) w) (kept_by_put regs 21 (bit_or (regs (21 + temp)) 0) (lit≤ tt) (lit≤ tt))
          (put_other regs 21 (bit_or (regs (21 + temp)) 0) 31 refl) (copied (regs (21 + temp)) ∙ value))
