-- The tests before the trap on overflow, the trap, and what comes behind where it is not made.
use Rattle.std.proofs.Common.{◌≡◌, ℕ, ◌+◌, ◌*◌, ◌/◌, ◌%◌, ◌^◌, ◌<◌, ◌≤◌, refl, sym, ap, ◌∙◌, subst, arith, List, [], ◌∷◌, ◌++◌, length, map, append_assoc, Some, None, Bool, true, false, lit≤, length-append}
use Rattle.std.specs.Prelude.{pos, ◌==◌, ◌&&◌, ◌||◌, bit_and, if◌then◌else◌}
use Rattle.std.proofs.lemmas.Bool.Decides.{nat_tests}
use Rattle.std.proofs.lemmas.Nat.Bits.{and_pow}
use Rattle.vt_words.specs.Values.{bit}
use Rattle.vax_form.specs.State.{with_pc}
use Rattle.vax_form.specs.Tree.{Tree, Ends, Trap}
use Rattle.alpha_encode.specs.declared.instr.AlphaInstr.TheVariants.{Memory, Branch, Operate, Pal}
use Rattle.alpha_encode.specs.declared.instr.BranchOp.{BranchOp}
use Rattle.alpha_encode.specs.declared.instr.BranchOp.TheVariants.{Beq}
use Rattle.alpha_encode.specs.declared.instr.MemoryOp.TheVariants.{Lda}
use Rattle.alpha_encode.specs.declared.instr.OperateOp.TheVariants.{And}
use Rattle.alpha_encode.specs.declared.instr.Second.TheVariants.{Literal}
use Rattle.alpha_meaning.specs.Act.{links, target_of}
use Rattle.alpha_meaning.specs.Result.{plus, times}
use Rattle.alpha_meaning.specs.State.{Regs, put, at_place}
use Rattle.alpha_meaning.proofs.Registers.{put_other}
use Rattle.exception_records.specs.Shown.{still_held}
use Rattle.exception_records.specs.declared.rules.CodeRule.{CodeRule}
use Rattle.exception_records.specs.declared.rules.CodeRule.TheVariants as code_rules
use Rattle.micro_ops.specs.declared.known.Known.{Known}
use Rattle.micro_ops.specs.declared.program.Exit.{Exit}
use Rattle.micro_ops.specs.Meaning.{Standing, Departure, Ended, departed, flag_of, traps as is_trapping}
use Rattle.micro_ops.specs.Sources.{codes_written_by}
use Rattle.block_law.specs.Placements.{Placement, state_behind}
use Rattle.block_law.specs.Tidy.{is_kept}
use Rattle.block_law.proofs.Kept.{state_kept}
use Rattle.block_law.proofs.Rules.{Always, roomy, goes, passes, skips, traps}
use Rattle.program_codegen.specs.declared.lines.Line.{Line}
use Rattle.program_codegen.specs.declared.points.Site.{Site}
use Rattle.program_codegen.specs.Words.{plain, marked, trapping, overflow_made, overflow_register, tells_overflow, may_overflow, load_by, overflow_by, ready_lines, made_lines, tested_lines, may_trap, trap_by}
use Rattle.program_codegen.specs.Programs.{IsExit, is_narrow}
use Rattle.program_codegen.proofs.Walk.{Within, next, stands, is_inside, row_rest, plain_length}
use Rattle.program_codegen.proofs.Coded.{Coded, left_is, coded_still}
use Rattle.program_codegen.proofs.Exiting.{kept_by_put, kept_apart}
use Rattle.program_codegen.proofs.Trapping.{Overflows, left_overflow, not_set, is_overflow, untrapped, makes, ready_is, pc_left_by, ExitHolds, loads_pc}
use Rattle.program_codegen.proofs.Rows.{made_short}
use Rattle.program_codegen.proofs.Endings.{pc_short}

-- IV, bit 5 of the status word
overflow_traps : (psw upper : ℕ) → psw / 16 ≡ upper / 16 → bit_and upper 32 ≡ psw / 32 % 2 * 32
overflow_traps psw upper e = and_pow upper 5 ∙ ap (λ x. x * 32) (same_bit psw upper e)
  where
    same_bit : (psw upper : ℕ) → psw / 16 ≡ upper / 16 → upper / 32 % 2 ≡ psw / 32 % 2
    same_bit psw upper e = omega arith

clear_is : (psw x : ℕ) → x ≡ psw / 32 % 2 * 32 → (psw / 32 % 2 == 1) ≡ false → (x == 0) ≡ true
clear_is psw x e f =
    let low : psw / 32 % 2 < 2 = omega arith in
    let zero_is : psw / 32 % 2 ≡ 0 = grind (arith, nat_tests, f) in
    let none : x ≡ 0 = omega arith in
    grind (arith, nat_tests)

set_is : (psw x : ℕ) → x ≡ psw / 32 % 2 * 32 → (psw / 32 % 2 == 1) ≡ true → (x == 0) ≡ false
set_is psw x e f =
    let one_is : psw / 32 % 2 ≡ 1 = grind (arith, nat_tests, f) in
    let some : x ≡ 32 = omega arith in
    grind (arith, nat_tests)

zero_of : (n : ℕ) → (n == 0) ≡ true → n ≡ 0
zero_of n e = grind (arith, nat_tests, e)

set_of : (b : Bool) (n : ℕ) → bit b ≡ n → (n == 0) ≡ false → b ≡ true
set_of true n e f = refl
set_of false n e f = let none : (n == 0) ≡ true = grind (arith, nat_tests) in absurd (cc (sym none ∙ f))

module _ (p : Placement) (site : Site) (known : Known) (standing : Standing) (after_fits : site.after < 2 ^ 32) (op : BranchOp) (unlinked : links op ≡ false) where
  -- ---- the trap
  traps_there : (pc : ℕ) (exit : Exit) (rest : List Line) (regs : Regs) → Coded p site known standing regs → IsExit exit → ExitHolds known exit
      → Within p site.behind pc (map plain (load_by op site.after exit) ++ (plain (Memory Lda 21 31 (pos 1)) ∷ marked (Pal 0x84) (trapping site) ∷ rest))
      → Always p None (length (load_by op site.after exit) + 2) (at_place regs pc) (Ends (Trap 1 (with_pc (pc_left_by op site standing exit) standing.state)))
  traps_there pc exit rest regs c is holds w =
      let q = pc + length (load_by op site.after exit) in
      let w1 = row_rest p site.behind pc (load_by op site.after exit) (plain (Memory Lda 21 31 (pos 1)) ∷ marked (Pal 0x84) (trapping site) ∷ rest) w in
      let w2 = next p site.behind q (Memory Lda 21 31 (pos 1)) None (marked (Pal 0x84) (trapping site) ∷ rest) w1 in
      let end = w1.high in
      loads_pc p site known standing after_fits op unlinked 2 pc exit (plain (Memory Lda 21 31 (pos 1)) ∷ marked (Pal 0x84) (trapping site) ∷ rest) regs _ c is holds w (omega arith)
      (λ g only low.
      let kind = plus (g 31) (times 1 1) in
      let zero_reads : g 31 ≡ 0 = only 31 refl ∙ c.form.zero in
      let same : (n : ℕ) → is_kept n ≡ true → put g 21 kind n ≡ regs n = λ n kept. kept_by_put g 21 kind (lit≤ tt) (lit≤ tt) n kept ∙ only n (kept_apart 26 n (lit≤ tt) (lit≤ tt) kept) in
      goes p None 1 (at_place g q) (at_place (put g 21 kind) (q + 1)) (Memory Lda 21 31 (pos 1)) _ (stands p site.behind q (Memory Lda 21 31 (pos 1)) None (marked (Pal 0x84) (trapping site) ∷ rest) w1) refl (omega arith)
      (is_inside p site.behind q (q + 1) _ w1 (omega arith) (omega arith))
      (traps p None 1 (with_pc (pc_left_by op site standing exit) standing.state) (at_place (put g 21 kind) (q + 1)) (trapping site) (stands p site.behind (q + 1) (Pal 0x84) (Some (trapping site)) rest w2) w2.has.0.1
      (rw zero_reads refl)
      (left_is p site known standing regs c (pc_left_by op site standing exit)
      ∙ (sym (state_kept regs (put g 21 kind) same p (pc_left_by op site standing exit) site.behind (still_held p.held p.written)) ∙ ap (λ pc. state_behind p (put g 21 kind) pc site.behind) (sym low)))))

  module _ (found : ℕ) (written : p.written ≡ codes_written_by site.sources) (o : Overflows site known standing found) (narrow : is_narrow site.behind.v ≡ true) (exit : Exit) (is : IsExit exit) (holds : ExitHolds known exit) (rest : List Line) (some : 1 ≤ length rest) (need : ℕ) (t : Tree)
      (clear : (g : Regs) (q : ℕ) → is_trapping standing ≡ false → Coded p site known standing g → Within p site.behind q rest → Always p None need (at_place g q) t) where
    abbrev Either : Bool → Tree
    Either b = if b then Ends (Trap 1 (with_pc (pc_left_by op site standing exit) standing.state)) else t

    abbrev trap : List Line
    trap = overflow_by op site exit

    trap_length : length trap ≡ length (load_by op site.after exit) + 2
    trap_length = length-append (map plain (load_by op site.after exit)) (plain (Memory Lda 21 31 (pos 1)) ∷ marked (Pal 0x84) (trapping site) ∷ []) ∙ ap (λ n. n + 2) (plain_length (load_by op site.after exit))

    not_trapping : standing.overflowed ≡ false → is_trapping standing ≡ false
    not_trapping e = ap (λ b. b && (flag_of 5 standing.state.psw == 1)) e

    no_trap_when : (flag_of 5 standing.state.psw == 1) ≡ false → is_trapping standing ≡ false
    no_trap_when e = ap (λ b. standing.overflowed && b) e ∙ by standing.overflowed
      where
        by : (b : Bool) → (b && false) ≡ false
        by true = refl
        by false = refl

    trap_assoc : trap ++ rest ≡ map plain (load_by op site.after exit) ++ (plain (Memory Lda 21 31 (pos 1)) ∷ marked (Pal 0x84) (trapping site) ∷ rest)
    trap_assoc = append_assoc (map plain (load_by op site.after exit)) (plain (Memory Lda 21 31 (pos 1)) ∷ marked (Pal 0x84) (trapping site) ∷ []) rest

    -- behind the trap
    abbrev over : ℕ → ℕ
    over pc = pc + length (load_by op site.after exit) + 1 + 1

    behind_trap : (pc : ℕ) → Within p site.behind pc (trap ++ rest) → Within p site.behind (over pc) rest
    behind_trap pc w =
        let q = pc + length (load_by op site.after exit) in
        let w1 = row_rest p site.behind pc (load_by op site.after exit) (plain (Memory Lda 21 31 (pos 1)) ∷ marked (Pal 0x84) (trapping site) ∷ rest) (subst (Within p site.behind pc) trap_assoc w) in
        next p site.behind (q + 1) (Pal 0x84) (Some (trapping site)) rest (next p site.behind q (Memory Lda 21 31 (pos 1)) None (marked (Pal 0x84) (trapping site) ∷ rest) w1)

    -- a register is tested that tells whether it is trapped
    tests : (pc : ℕ) (register : ℕ) (regs : Regs) → ((regs register == 0) ≡ true → is_trapping standing ≡ false) → ((regs register == 0) ≡ false → is_trapping standing ≡ true) → Coded p site known standing regs
        → Within p site.behind pc (plain (Branch Beq register (pos (length trap))) ∷ (trap ++ rest))
        → Always p None (1 + length trap + need) (at_place regs pc) (Either (is_trapping standing))
    tests pc register regs not_set_is set_is c w = by (regs register == 0) refl
      where
        w1 : Within p site.behind (pc + 1) (trap ++ rest)
        w1 = next p site.behind pc (Branch Beq register (pos (length trap))) None (trap ++ rest) w

        by : (b : Bool) → (regs register == 0) ≡ b → Always p None (1 + length trap + need) (at_place regs pc) (Either (is_trapping standing))
        by true e =
            let none = not_set_is e in
            let size = trap_length in
            let short = pc_short op site.after exit in
            let all = length-append trap rest in
            let end = w.high in
            let near = w.near in
            let low = w.low in
            let jump : target_of pc (pos (length trap)) ≡ over (pc + 1) = omega arith in
            subst (λ b. Always p None (1 + length trap + need) (at_place regs pc) (Either b)) (sym none)
            (roomy p None (need + 1) (1 + length trap + need) (at_place regs pc) t (omega arith)
            (skips p None need (at_place regs pc) Beq register (pos (length trap)) (over (pc + 1)) t (stands p site.behind pc (Branch Beq register (pos (length trap))) None (trap ++ rest) w) refl e jump (omega arith)
            (is_inside p site.behind pc (over (pc + 1)) _ w (omega arith) (omega arith)) (clear regs (over (pc + 1)) none c (behind_trap (pc + 1) w1))))
        by false e =
            let size = trap_length in
            let all = length-append trap rest in
            let end = w.high in
            subst (λ b. Always p None (1 + length trap + need) (at_place regs pc) (Either b)) (sym (set_is e))
            (roomy p None (length (load_by op site.after exit) + 2 + 1) (1 + length trap + need) (at_place regs pc) _ (omega arith)
            (passes p None (length (load_by op site.after exit) + 2) (at_place regs pc) Beq register (pos (length trap)) _ (stands p site.behind pc (Branch Beq register (pos (length trap))) None (trap ++ rest) w) e
            (is_inside p site.behind pc (pc + 1) _ w (omega arith) (omega arith)) (traps_there (pc + 1) exit rest regs c is holds (subst (Within p site.behind (pc + 1)) trap_assoc w1))))

    -- ---- IV
    -- R27 has IV
    abbrev enabled : Regs → Regs
    enabled regs = put regs 27 (bit_and (regs 20) 32)

    still : (regs : Regs) → Coded p site known standing regs → Coded p site known standing (enabled regs)
    still regs c = coded_still p site known standing regs (enabled regs) (λ n out. put_other regs 27 (bit_and (regs 20) 32) n (not_27 n out)) c
      where
        not_27 : (n : ℕ) → (n == 24 || n == 27) ≡ false → (n == 27) ≡ false
        not_27 n e = grind (arith, nat_tests, e)

    begins : (pc n : ℕ) (regs : Regs) (u : Tree) (lines : List Line) → Within p site.behind pc (plain (Operate And 20 (Literal 32) 27) ∷ lines) → 1 ≤ length lines → Always p None n (at_place (enabled regs) (pc + 1)) u → Always p None (n + 1) (at_place regs pc) u
    begins pc n regs u lines w some h =
        goes p None n (at_place regs pc) (at_place (enabled regs) (pc + 1)) (Operate And 20 (Literal 32) 27) u (stands p site.behind pc (Operate And 20 (Literal 32) 27) None lines w) refl (omega arith) (is_inside p site.behind pc (pc + 1) _ w (omega arith) (omega arith)) h

    iv_clear : (regs : Regs) → Coded p site known standing regs → (flag_of 5 standing.state.psw == 1) ≡ false → (bit_and (regs 20) 32 == 0) ≡ true
    iv_clear regs c e = clear_is standing.state.psw (bit_and (regs 20) 32) (overflow_traps standing.state.psw (regs 20) c.upper) e

    iv_set : (regs : Regs) → Coded p site known standing regs → (flag_of 5 standing.state.psw == 1) ≡ true → (bit_and (regs 20) 32 == 0) ≡ false
    iv_set regs c e = set_is standing.state.psw (bit_and (regs 20) 32) (overflow_traps standing.state.psw (regs 20) c.upper) e

    -- V tells it where IV is set, and IV where V is set
    by_overflow : (v : ℕ) → v ≡ left_overflow standing → bit standing.overflowed ≡ left_overflow standing → (v == 0) ≡ true → is_trapping standing ≡ false
    by_overflow v is overflow e = not_trapping (not_set standing.overflowed (left_overflow standing) overflow (sym is ∙ zero_of v e))

    overflowed_is : (v : ℕ) → v ≡ left_overflow standing → bit standing.overflowed ≡ left_overflow standing → (v == 0) ≡ false → standing.overflowed ≡ true
    overflowed_is v is overflow e = set_of standing.overflowed (left_overflow standing) overflow (subst (λ n. (n == 0) ≡ false) is e)

    traps_both : standing.overflowed ≡ true → (flag_of 5 standing.state.psw == 1) ≡ true → is_trapping standing ≡ true
    traps_both set e = ap (λ b. b && (flag_of 5 standing.state.psw == 1)) set ∙ e

    -- ---- V is ready
    ready : (pc : ℕ) (regs : Regs) → may_overflow site.sources.nzv ≡ true → site.behind.v ≡ code_rules.Ready → Coded p site known standing regs
        → Within p site.behind pc (ready_lines trap ++ rest) → Always p None (3 + length trap + need) (at_place regs pc) (Either (is_trapping standing))
    ready pc regs may rule c w = by (regs 18 == 0) refl
      where
        test : Line
        test = plain (Branch Beq 27 (pos (length trap)))

        in_register : regs 18 ≡ left_overflow standing
        in_register = ready_is p site known standing found written o regs c may rule

        overflow : bit standing.overflowed ≡ left_overflow standing
        overflow = is_overflow p site known standing found written o may

        w1 : Within p site.behind (pc + 1) (plain (Operate And 20 (Literal 32) 27) ∷ plain (Branch Beq 27 (pos (length trap))) ∷ (trap ++ rest))
        w1 = next p site.behind pc (Branch Beq 18 (pos (2 + length trap))) None (plain (Operate And 20 (Literal 32) 27) ∷ plain (Branch Beq 27 (pos (length trap))) ∷ (trap ++ rest)) w

        w2 : Within p site.behind (pc + 1 + 1) (plain (Branch Beq 27 (pos (length trap))) ∷ (trap ++ rest))
        w2 = next p site.behind (pc + 1) (Operate And 20 (Literal 32) 27) None (plain (Branch Beq 27 (pos (length trap))) ∷ (trap ++ rest)) w1

        w3 : Within p site.behind (pc + 1 + 1 + 1) (trap ++ rest)
        w3 = next p site.behind (pc + 1 + 1) (Branch Beq 27 (pos (length trap))) None (trap ++ rest) w2

        flags : standing.overflowed ≡ true → (b : Bool) → (flag_of 5 standing.state.psw == 1) ≡ b → ((bit_and (regs 20) 32 == 0) ≡ true → is_trapping standing ≡ false) × ((bit_and (regs 20) 32 == 0) ≡ false → is_trapping standing ≡ true)
        flags set true e = ((λ f. absurd (cc (sym f ∙ iv_set regs c e))), (λ f. traps_both set e))
        flags set false e = ((λ f. no_trap_when e), (λ f. absurd (cc (sym f ∙ iv_clear regs c e))))

        by : (b : Bool) → (regs 18 == 0) ≡ b → Always p None (3 + length trap + need) (at_place regs pc) (Either (is_trapping standing))
        by true e =
            let none = by_overflow (regs 18) in_register overflow e in
            let size = trap_length in
            let short = pc_short op site.after exit in
            let all = length-append trap rest in
            let end = w.high in
            let near = w.near in
            let low = w.low in
            let to = over (pc + 1 + 1 + 1) in
            let jump : target_of pc (pos (2 + length trap)) ≡ over (pc + 1 + 1 + 1) = omega arith in
            subst (λ b. Always p None (3 + length trap + need) (at_place regs pc) (Either b)) (sym none)
            (roomy p None (need + 1) (3 + length trap + need) (at_place regs pc) t (omega arith)
            (skips p None need (at_place regs pc) Beq 18 (pos (2 + length trap)) to t (stands p site.behind pc (Branch Beq 18 (pos (2 + length trap))) None _ w) refl e jump (omega arith)
            (is_inside p site.behind pc to _ w (omega arith) (omega arith)) (clear regs to none c (behind_trap (pc + 1 + 1 + 1) w3))))
        by false e =
            let set = overflowed_is (regs 18) in_register overflow e in
            let told = flags set (flag_of 5 standing.state.psw == 1) refl in
            let end = w.high in
            roomy p None (1 + length trap + need + 1 + 1) (3 + length trap + need) (at_place regs pc) _ (omega arith)
            (passes p None (1 + length trap + need + 1) (at_place regs pc) Beq 18 (pos (2 + length trap)) _ (stands p site.behind pc (Branch Beq 18 (pos (2 + length trap))) None _ w) e
            (is_inside p site.behind pc (pc + 1) _ w (omega arith) (omega arith))
            (begins (pc + 1) (1 + length trap + need) regs (Either (is_trapping standing)) (plain (Branch Beq 27 (pos (length trap))) ∷ (trap ++ rest)) w1 (omega arith)
            (tests (pc + 1 + 1) 27 (enabled regs) told.0 told.1 (still regs c) w2)))

    -- ---- V is made where IV is set
    made : (rule : CodeRule) → site.behind.v ≡ rule → (pc : ℕ) (regs : Regs) → may_overflow site.sources.nzv ≡ true → tells_overflow rule ≡ true → Coded p site known standing regs
        → Within p site.behind pc (made_lines rule (overflow_made rule) trap ++ rest)
        → Always p None (length (made_lines rule (overflow_made rule) trap) + need) (at_place regs pc) (Either (is_trapping standing))
    made rule rule_is pc regs may tells c w = by (flag_of 5 standing.state.psw == 1) refl
      where
        narrow_rule : is_narrow rule ≡ true
        narrow_rule = subst (λ rule. is_narrow rule ≡ true) rule_is narrow

        assoc : (map plain (overflow_made rule) ++ (plain (Branch Beq (overflow_register rule) (pos (length trap))) ∷ trap)) ++ rest ≡ map plain (overflow_made rule) ++ (plain (Branch Beq (overflow_register rule) (pos (length trap))) ∷ (trap ++ rest))
        assoc = append_assoc (map plain (overflow_made rule)) (plain (Branch Beq (overflow_register rule) (pos (length trap))) ∷ trap) rest

        size : length (made_lines rule (overflow_made rule) trap) ≡ 2 + (length (overflow_made rule) + (1 + length trap))
        size =
            let a = length-append (map plain (overflow_made rule)) (plain (Branch Beq (overflow_register rule) (pos (length trap))) ∷ trap) in
            let b = plain_length (overflow_made rule) in
            omega arith

        all : length (made_lines rule (overflow_made rule) trap ++ rest) ≡ length (made_lines rule (overflow_made rule) trap) + length rest
        all = length-append (made_lines rule (overflow_made rule) trap) rest

        w1 : Within p site.behind (pc + 1) (plain (Branch Beq 27 (pos (length (overflow_made rule) + 1 + length trap))) ∷ ((map plain (overflow_made rule) ++ (plain (Branch Beq (overflow_register rule) (pos (length trap))) ∷ trap)) ++ rest))
        w1 = next p site.behind pc (Operate And 20 (Literal 32) 27) None (plain (Branch Beq 27 (pos (length (overflow_made rule) + 1 + length trap))) ∷ ((map plain (overflow_made rule) ++ (plain (Branch Beq (overflow_register rule) (pos (length trap))) ∷ trap)) ++ rest)) w

        w2 : Within p site.behind (pc + 1 + 1) (map plain (overflow_made rule) ++ (plain (Branch Beq (overflow_register rule) (pos (length trap))) ∷ (trap ++ rest)))
        w2 = subst (Within p site.behind (pc + 1 + 1)) assoc (next p site.behind (pc + 1) (Branch Beq 27 (pos (length (overflow_made rule) + 1 + length trap))) None ((map plain (overflow_made rule) ++ (plain (Branch Beq (overflow_register rule) (pos (length trap))) ∷ trap)) ++ rest) w1)

        w3 : Within p site.behind (pc + 1 + 1 + length (overflow_made rule)) (plain (Branch Beq (overflow_register rule) (pos (length trap))) ∷ (trap ++ rest))
        w3 = row_rest p site.behind (pc + 1 + 1) (overflow_made rule) (plain (Branch Beq (overflow_register rule) (pos (length trap))) ∷ (trap ++ rest)) w2

        w4 : Within p site.behind (over (pc + 1 + 1 + length (overflow_made rule) + 1)) rest
        w4 = behind_trap (pc + 1 + 1 + length (overflow_made rule) + 1) (next p site.behind (pc + 1 + 1 + length (overflow_made rule)) (Branch Beq (overflow_register rule) (pos (length trap))) None (trap ++ rest) w3)

        by : (b : Bool) → (flag_of 5 standing.state.psw == 1) ≡ b → Always p None (length (made_lines rule (overflow_made rule) trap) + need) (at_place regs pc) (Either (is_trapping standing))
        by false e =
            let s = size in
            let a = all in
            let k = trap_length in
            let m = made_short rule in
            let l = pc_short op site.after exit in
            let end = w.high in
            let near = w.near in
            let to = over (pc + 1 + 1 + length (overflow_made rule) + 1) in
            let jump : target_of (pc + 1) (pos (length (overflow_made rule) + 1 + length trap)) ≡ over (pc + 1 + 1 + length (overflow_made rule) + 1) = omega arith in
            subst (λ b. Always p None (length (made_lines rule (overflow_made rule) trap) + need) (at_place regs pc) (Either b)) (sym (no_trap_when e))
            (roomy p None (need + 1 + 1) (length (made_lines rule (overflow_made rule) trap) + need) (at_place regs pc) t (omega arith)
            (begins pc (need + 1) regs t _ w (omega arith)
            (skips p None need (at_place (enabled regs) (pc + 1)) Beq 27 (pos (length (overflow_made rule) + 1 + length trap)) to t
            (stands p site.behind (pc + 1) (Branch Beq 27 (pos (length (overflow_made rule) + 1 + length trap))) None _ w1) refl
            (iv_clear regs c e) jump (omega arith)
            (is_inside p site.behind pc to _ w (omega arith) (omega arith)) (clear (enabled regs) to (no_trap_when e) (still regs c) w4))))
        by true e =
            let s = size in
            let a = all in
            let k = trap_length in
            let end = w.high in
            let overflow = is_overflow p site known standing found written o may in
            roomy p None (length (overflow_made rule) + (1 + length trap + need) + 1 + 1) (length (made_lines rule (overflow_made rule) trap) + need) (at_place regs pc) _ (omega arith)
            (begins pc (length (overflow_made rule) + (1 + length trap + need) + 1) regs (Either (is_trapping standing)) _ w (omega arith)
            (passes p None (length (overflow_made rule) + (1 + length trap + need)) (at_place (enabled regs) (pc + 1)) Beq 27 (pos (length (overflow_made rule) + 1 + length trap)) _
            (stands p site.behind (pc + 1) (Branch Beq 27 (pos (length (overflow_made rule) + 1 + length trap))) None _ w1)
            (iv_set regs c e)
            (is_inside p site.behind pc (pc + 1 + 1) _ w (omega arith) (omega arith))
            (makes p site known standing found written o (enabled regs) (still regs c) may (1 + length trap + need) (pc + 1 + 1) (plain (Branch Beq (overflow_register rule) (pos (length trap))) ∷ (trap ++ rest)) _ rule rule_is tells narrow_rule w2 (omega arith)
            (λ g only in_register. tests (pc + 1 + 1 + length (overflow_made rule)) (overflow_register rule) g
            (by_overflow (g (overflow_register rule)) in_register overflow) (λ f. traps_both (overflowed_is (g (overflow_register rule)) in_register overflow f) e)
            (coded_still p site known standing (enabled regs) g only (still regs c)) w3))))

    tested : (rule : CodeRule) → site.behind.v ≡ rule → (pc : ℕ) (regs : Regs) → may_overflow site.sources.nzv ≡ true → tells_overflow rule ≡ true → Coded p site known standing regs
        → Within p site.behind pc (tested_lines rule (overflow_made rule) trap ++ rest)
        → Always p None (length (tested_lines rule (overflow_made rule) trap) + need) (at_place regs pc) (Either (is_trapping standing))
    tested code_rules.Ready rule_is pc regs may tells c w =
        roomy p None (3 + length trap + need) (length (ready_lines trap) + need) (at_place regs pc) _ (omega arith) (ready pc regs may rule_is c w)
    tested rule rule_is pc regs may tells c w = made rule rule_is pc regs may tells c w

    -- the trap, or what comes behind
    pub trap_follows : (pc : ℕ) (regs : Regs) → Coded p site known standing regs → Within p site.behind pc (trap_by op site exit ++ rest) → Always p None (length (trap_by op site exit) + need) (at_place regs pc) (Either (is_trapping standing))
    trap_follows pc regs c w = by (may_trap site) refl w
      where
        split : (a b : Bool) → (if a then b else false) ≡ true → (a ≡ true) × (b ≡ true)
        split true b e = (refl, e)
        split false b e = absurd (cc e)

        by : (b : Bool) → may_trap site ≡ b → Within p site.behind pc ((if b then tested_lines site.behind.v (overflow_made site.behind.v) trap else []) ++ rest)
            → Always p None (length (if b then tested_lines site.behind.v (overflow_made site.behind.v) trap else []) + need) (at_place regs pc) (Either (is_trapping standing))
        by true e w = let x = split (may_overflow site.sources.nzv) (tells_overflow site.behind.v) e in tested site.behind.v refl pc regs x.0 x.1 c w
        by false e w =
            let none = untrapped p site known standing found written o regs c e in
            subst (λ b. Always p None (0 + need) (at_place regs pc) (Either b)) (sym (not_trapping none)) (roomy p None need (0 + need) (at_place regs pc) t (omega arith) (clear regs pc (not_trapping none) c w))

-- the same where a program goes on by a departure
abbrev pub trap_or_by : BranchOp → Site → Standing → Exit → Departure → Departure
trap_or_by op site standing exit onward = if is_trapping standing then Ended (Trap 1 (with_pc (pc_left_by op site standing exit) standing.state)) else onward

abbrev pub trap_or : Site → Standing → Exit → Departure → Departure
trap_or site standing exit onward = trap_or_by Beq site standing exit onward

module _ (p : Placement) (site : Site) (known : Known) (standing : Standing) (after_fits : site.after < 2 ^ 32) (op : BranchOp) (unlinked : links op ≡ false) (found : ℕ) (written : p.written ≡ codes_written_by site.sources) (o : Overflows site known standing found) (narrow : is_narrow site.behind.v ≡ true) where
  pub traps_first : (need pc : ℕ) (exit : Exit) (rest : List Line) (regs : Regs) (onward : Departure) → Coded p site known standing regs → IsExit exit → ExitHolds known exit
      → Within p site.behind pc (trap_by op site exit ++ rest) → 1 ≤ length rest
      → ((g : Regs) (q : ℕ) → is_trapping standing ≡ false → Coded p site known standing g → Within p site.behind q rest → Always p None need (at_place g q) (departed p.serve onward))
      → Always p None (length (trap_by op site exit) + need) (at_place regs pc) (departed p.serve (trap_or_by op site standing exit onward))
  traps_first need pc exit rest regs onward c is holds w some behind =
      subst (Always p None (length (trap_by op site exit) + need) (at_place regs pc)) (by (is_trapping standing))
      (trap_follows p site known standing after_fits op unlinked found written o narrow exit is holds rest some need (departed p.serve onward) behind pc regs c w)
    where
      by : (b : Bool) → (if b then Ends (Trap 1 (with_pc (pc_left_by op site standing exit) standing.state)) else departed p.serve onward) ≡ departed p.serve (if b then Ended (Trap 1 (with_pc (pc_left_by op site standing exit) standing.state)) else onward)
      by true = refl
      by false = refl
