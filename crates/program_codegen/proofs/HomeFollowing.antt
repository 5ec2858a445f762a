-- The words of a program whose operands are used where they stand follow its tree.
use Rattle.std.proofs.Common.{◌≡◌, ℕ, ◌+◌, ◌%◌, ◌^◌, ◌<◌, ◌≤◌, refl, sym, ap, ◌∙◌, subst, arith, List, [], ◌∷◌, ◌++◌, length, map, Option, Some, None, Bool, true, false, append_assoc, length-append, inl, inr}
use Rattle.std.specs.Prelude.{◌⊎◌, ◌==◌, ◌&&◌, not, nat_lt, option_map, option_and_then, if◌then◌else◌, nat_le}
use Rattle.std.specs.List.{list_all, list_any}
use Rattle.std.proofs.lemmas.Bool.Decides.{nat_tests}
use Rattle.std.proofs.lemmas.Bool.{and_parts, or_left, or_right, eqb-true}
use Rattle.std.proofs.lemmas.Option.{same_Some}
use Rattle.vax_form.specs.State.{with_register, Answers}
use Rattle.vax_form.specs.Tree.{Tree}
use Rattle.vax_form.specs.declared.instr.Size.{Size}
use Rattle.alpha_encode.specs.declared.instr.AlphaInstr.{AlphaInstr}
use Rattle.alpha_meaning.specs.Loops.{effect, effects, is_operate}
use Rattle.alpha_meaning.specs.State.{Regs, at_place}
use Rattle.micro_ops.specs.declared.known.Known.{Known}
use Rattle.micro_ops.specs.declared.program.Arg.{Arg}
use Rattle.micro_ops.specs.declared.program.Exit.{Exit}
use Rattle.micro_ops.specs.declared.program.Micro.{Micro}
use Rattle.micro_ops.specs.declared.program.Micro.TheVariants.{Compute, Probe, Refuse, Read, Write, Locked, Commit, Codes, SetPsw, Leave}
use Rattle.micro_ops.specs.declared.program.MicroOp.{MicroOp}
use Rattle.micro_ops.specs.Course.{Course, AtLeaves, Ask}
use Rattle.micro_ops.specs.Fits.{codes_fit, commit_fits, computation_fits, exit_fits, holding_of, is_ended, sources_fit, step, walk, check_fits, read_fits, write_fits}
use Rattle.micro_ops.specs.Known.{behind_commit, behind_write, holds, is_committed, is_something, behind_access}
use Rattle.micro_ops.specs.LeftOut.{is_left_out, is_low, is_used}
use Rattle.micro_ops.specs.Leaving.{CodesComeFrom}
use Rattle.micro_ops.specs.Meaning.{Left, Standing, course_of, leaves_by, value_of_arg, with_codes, with_temp, with_value}
use Rattle.micro_ops.specs.Uses.{leaves_longword, reads_flag, has_bytes}
use Rattle.micro_ops.specs.Values.{computed}
use Rattle.micro_ops.proofs.Held.{held_other}
use Rattle.block_law.specs.Placements.{Placement}
use Rattle.block_law.proofs.Rules.{Always, operates, roomy}
use Rattle.vax_form.specs.Parts.{parts}
use Rattle.vax_form.specs.Ranges.{IsInRange}
use Rattle.vax_form.specs.declared.state.Reference.{Reference}
use Rattle.alpha_encode.specs.declared.instr.AlphaInstr.TheVariants.{Operate, Pal}
use Rattle.alpha_encode.specs.declared.instr.OperateOp.TheVariants as row
use Rattle.alpha_encode.specs.declared.instr.Second.TheVariants as seconds
use Rattle.compute_sequences.specs.Words.{compute_code}
use Rattle.micro_ops.specs.declared.known.Checked.TheVariants.{At}
use Rattle.program_codegen.proofs.HomeSparing.{all_append}
use Rattle.program_codegen.proofs.Operands.{count_some, read_value, write_done}
use Rattle.program_codegen.proofs.HomeReaching.{direct_checks, direct_reads, direct_writes}
use Rattle.program_codegen.specs.declared.homes.Homes.{Homes}
use Rattle.program_codegen.specs.declared.lines.Line.{Line}
use Rattle.program_codegen.specs.declared.points.Site.{Site}
use Rattle.program_codegen.specs.Homes.{copied, direct_by, direct_code, made, new_home, step_by, waiting_words, with_home, is_shared, compared, all_waiting, code_by, only_word, one_waits, passed, words_wait, placed}
use Rattle.program_codegen.specs.Ends.{are_left, are_short_rules, commit_stays, direct_end, end_at, end_lines, end_words, exit_behind, exit_stays, may_end, moved_words, choice_of}
use Rattle.program_codegen.specs.Direct.{choice_lines, direct_lines, direct_step, is_direct, next_exit, tested_at, tested_exit, may_write, reach, reached, read_home, reading, settled, stands, tested_words, behind_waiting}
use Rattle.program_codegen.specs.Programs.{AllHaveWords, ReadsReady}
use Rattle.program_codegen.specs.Words.{departing_by, plain, trap_by, copy, marked, probing, write_by}
use Rattle.program_codegen.proofs.Committing.{sets_codes}
use Rattle.program_codegen.proofs.Following.{departs, opened}
use Rattle.program_codegen.proofs.HomeComputing.{compared_operates, compares_then, computes, copies_then, made_operates, makes_then, one_computes}
use Rattle.program_codegen.proofs.HomeNumbers.{IsExtended}
use Rattle.program_codegen.proofs.HomeWaiting.{Passed, only_is, outlasts, passed_is, passes}
use Rattle.program_codegen.proofs.HomeEnding.{CommitFits, Waits, begins, committed, end_follows, effects_append}
use Rattle.program_codegen.proofs.HomeHolding.{Direct, committing, hidden, written}
use Rattle.program_codegen.proofs.HomeSomes.{chained, first_is, mapped}
use Rattle.program_codegen.proofs.HomeTesting.{Tested, tested, tested_follows}
use Rattle.program_codegen.proofs.Holding.{Setting, ends, found, tree}
use Rattle.program_codegen.proofs.Knowing.{walk_fits, write_changes}
use Rattle.program_codegen.proofs.Numbers.{all_three, all_four}
use Rattle.program_codegen.proofs.Walk.{Within, is_inside, row_length, row_rest, row_words, next}

-- ---- a step
pub record Stepped (site : Site) (homes : Homes) (to : ℕ) (op : MicroOp) (size : Size) (a b : Arg) (program : List Micro) (step : Homes × List AlphaInstr) (out : Bool) : Type 0 where
  pub direct : out ≡ false → is_direct homes to op size a b ≡ true
  pub is : step ≡ (if out then (homes, []) else direct_by homes to op size a b)

pub stepped : (site : Site) (homes : Homes) (to : ℕ) (op : MicroOp) (size : Size) (a b : Arg) (program : List Micro) (step : Homes × List AlphaInstr) → (out : Bool) → is_left_out site.sources (Compute to op size a b) program ≡ out
    → direct_step site.sources homes to op size a b program ≡ Some step → Stepped site homes to op size a b program step out
stepped site homes to op size a b program step out is e = by out (is_direct homes to op size a b) refl (ap (λ (c : Bool). if c then Some (homes, []) else if is_direct homes to op size a b then Some (direct_by homes to op size a b) else None) (sym is) ∙ e)
  where
    by : (out direct : Bool) → is_direct homes to op size a b ≡ direct
        → (if out then Some (homes, []) else if direct then Some (direct_by homes to op size a b) else None) ≡ Some step
        → Stepped site homes to op size a b program step out
    by true direct is e = record { direct = λ not_so. absurd (cc not_so); is = sym (same_Some (homes, []) step e) }
    by false true is e = record { direct = λ not_so. is; is = sym (same_Some (direct_by homes to op size a b) step e) }
    by false false is e = absurd (cc e)

-- what waits does so behind a write
pub waits_same : (to : ℕ) (home : Option ℕ) (homes : Homes) → ((with_home to home homes).before ≡ homes.before) × ((with_home to home homes).waiting ≡ homes.waiting)
waits_same to home homes = by (to == 0) refl (to == 1) refl (to == 2) refl (to == 3) refl
  where
    by : (a : Bool) → (to == 0) ≡ a → (b : Bool) → (to == 1) ≡ b → (c : Bool) → (to == 2) ≡ c → (k : Bool) → (to == 3) ≡ k → ((with_home to home homes).before ≡ homes.before) × ((with_home to home homes).waiting ≡ homes.waiting)
    by true e b f c g k h = (rw e refl, rw e refl)
    by false e true f c g k h = (rw (e, f) refl, rw (e, f) refl)
    by false e false f true g k h = (rw (e, f, g) refl, rw (e, f, g) refl)
    by false e false f false g true h = (rw (e, f, g, h) refl, rw (e, f, g, h) refl)
    by false e false f false g false h = (rw (e, f, g, h) refl, rw (e, f, g, h) refl)

pub row_apart : (xs ys : List AlphaInstr) (rest : List Line) → map plain (xs ++ ys) ++ rest ≡ map plain xs ++ (map plain ys ++ rest)
row_apart [] ys rest = refl
row_apart (x ∷ xs) ys rest = ap (λ (lines : List Line). plain x ∷ lines) (row_apart xs ys rest)

-- ---- the end
pub record Ended (site : Site) (codes : List AlphaInstr) (homes : Homes) (commit : Option (ℕ × ℕ)) (exit : Exit) (lines : List Line) : Type 0 where
  pub words : List AlphaInstr
  pub may : may_end site homes commit exit ≡ true
  pub moved : moved_words homes codes ≡ Some words
  pub whole : end_lines site homes commit exit words ≡ lines

pub ended : (site : Site) (codes : List AlphaInstr) (homes : Homes) (commit : Option (ℕ × ℕ)) (exit : Exit) (lines : List Line) → direct_end site codes homes commit exit ≡ Some lines → Ended site codes homes commit exit lines
ended site codes homes commit exit lines e = by (may_end site homes commit exit) refl e
  where
    by : (b : Bool) → may_end site homes commit exit ≡ b → (if b then option_map (end_lines site homes commit exit) (moved_words homes codes) else None) ≡ Some lines → Ended site codes homes commit exit lines
    by true may e =
        let m = mapped (List AlphaInstr) (List Line) (end_lines site homes commit exit) (moved_words homes codes) lines e in
        record { words = m.found; may = may; moved = m.is; whole = m.whole }
    by false may e = absurd (cc e)

-- ---- a reference
-- what comes behind it, and its lines
pub record Reaching (site : Site) (codes : List AlphaInstr) (homes : Homes) (operation : Micro) (program : List Micro) (lines : List Line) : Type 0 where
  pub step : Homes × List Line
  pub is : reached site homes operation ≡ Some step
  pub rest : List Line
  pub onward : direct_lines site codes step.0 program ≡ Some rest
  pub whole : (map plain (all_waiting homes) ++ step.1) ++ rest ≡ lines

pub reaching : (site : Site) (codes : List AlphaInstr) (homes : Homes) (operation : Micro) (program : List Micro) (lines : List Line)
    → option_and_then (λ (step : Homes × List Line). option_map (λ (lines : List Line). step.1 ++ lines) (direct_lines site codes step.0 program)) (reach site homes operation) ≡ Some lines
    → Reaching site codes homes operation program lines
reaching site codes homes operation program lines e =
    let c = chained (Homes × List Line) (List Line) (λ (step : Homes × List Line). option_map (λ (lines : List Line). step.1 ++ lines) (direct_lines site codes step.0 program)) (reach site homes operation) lines e in
    let m = mapped (List Line) (List Line) (λ (lines : List Line). c.found.1 ++ lines) (direct_lines site codes c.found.0 program) lines c.onward in
    let r = mapped (Homes × List Line) (Homes × List Line) (behind_waiting homes) (reached site homes operation) c.found c.is in
    record {
      step = r.found;
      is = r.is;
      rest = m.found;
      onward = subst (λ (step : Homes × List Line). direct_lines site codes step.0 program ≡ Some m.found) (sym r.whole) m.is;
      whole = ap (λ (step : Homes × List Line). step.1 ++ m.found) r.whole ∙ m.whole;
    }

-- one that is made where a test fails, or holds
pub where_false : {A : Type 0} (b : Bool) (made step : A) → (if b then None else Some made) ≡ Some step → (b ≡ false) × (made ≡ step)
where_false true made step e = absurd (cc e)
where_false false made step e = (refl, same_Some made step e)

pub where_true : {A : Type 0} (b : Bool) (made step : A) → (if b then Some made else None) ≡ Some step → (b ≡ true) × (made ≡ step)
where_true true made step e = (refl, same_Some made step e)
where_true false made step e = absurd (cc e)

-- ---- lines that end
module _ (site : Site) (codes : List AlphaInstr) where
  end_some : (operation : Micro) (program : List Micro) (homes : Homes) (lines : List Line)
      → option_and_then (λ (end : Option (ℕ × ℕ) × Exit). direct_end site codes homes end.0 end.1) (end_at site.sources operation program) ≡ Some lines → 1 ≤ length lines
  end_some operation program homes lines e =
      let c = chained (Option (ℕ × ℕ) × Exit) (List Line) (λ (end : Option (ℕ × ℕ) × Exit). direct_end site codes homes end.0 end.1) (end_at site.sources operation program) lines e in
      let x = ended site codes homes c.found.0 c.found.1 lines c.onward in
      let choice = choice_of homes c.found.1 in
      let some = departs choice.0 site choice.1 in
      subst (λ (ls : List Line). 1 ≤ length ls) x.whole (last (map plain (end_words homes c.found.0 choice.1 x.words)) (trap_by choice.0 site choice.1) (departing_by choice.0 site choice.1) some)
    where
      last : (xs cs ds : List Line) → 1 ≤ length ds → 1 ≤ length (xs ++ (cs ++ ds))
      last xs cs ds some =
          let x = length-append xs (cs ++ ds) in
          let z = length-append cs ds in
          omega arith

  reach_some : (operation : Micro) (program : List Micro) (homes : Homes) (lines : List Line) → ((homes' : Homes) (rest : List Line) → direct_lines site codes homes' program ≡ Some rest → 1 ≤ length rest)
      → option_and_then (λ (step : Homes × List Line). option_map (λ (lines : List Line). step.1 ++ lines) (direct_lines site codes step.0 program)) (reach site homes operation) ≡ Some lines → 1 ≤ length lines
  reach_some operation program homes lines later e =
      let r = reaching site codes homes operation program lines e in
      let some = later r.step.0 r.rest r.onward in
      let count = length-append (map plain (all_waiting homes) ++ r.step.1) r.rest in
      subst (λ (ls : List Line). 1 ≤ length ls) r.whole (omega arith)

  -- lines of a program end with an exit
  pub direct_some : (program : List Micro) (homes : Homes) (lines : List Line) → direct_lines site codes homes program ≡ Some lines → 1 ≤ length lines
  direct_some [] homes lines e = absurd (cc e)
  direct_some (Compute to op size a b ∷ program) homes lines e = by (λ homes' rest is. direct_some program homes' rest is) (first_is (tested_at site codes homes (Compute to op size a b) program) (option_and_then (λ (step : Homes × List AlphaInstr). option_map (λ (lines : List Line). map plain step.1 ++ lines) (direct_lines site codes step.0 program)) (direct_step site.sources homes to op size a b program)) lines e)
    where
      by : ((homes' : Homes) (rest : List Line) → direct_lines site codes homes' program ≡ Some rest → 1 ≤ length rest)
          → ((tested_at site codes homes (Compute to op size a b) program) ≡ Some lines) ⊎ (((tested_at site codes homes (Compute to op size a b) program) ≡ None) × ((option_and_then (λ (step : Homes × List AlphaInstr). option_map (λ (lines : List Line). map plain step.1 ++ lines) (direct_lines site codes step.0 program)) (direct_step site.sources homes to op size a b program)) ≡ Some lines)) → 1 ≤ length lines
      by onward (inl tests) =
          let c = chained Exit (List Line) (tested_exit site codes homes to op size a b) (next_exit program) lines tests in
          let s = tested site codes homes to op size a b c.found lines c.onward in
          let count = length-append (map plain (tested_words to s.test.1 homes)) (choice_lines s.test s.chosen s.other) in
          subst (λ (ls : List Line). 1 ≤ length ls) s.whole (omega arith)
      by onward (inr x) =
          let e = x.1 in
          let c = chained (Homes × List AlphaInstr) (List Line) (λ (step : Homes × List AlphaInstr). option_map (λ (lines : List Line). map plain step.1 ++ lines) (direct_lines site codes step.0 program)) (direct_step site.sources homes to op size a b program) lines e in
          let m = mapped (List Line) (List Line) (λ (lines : List Line). map plain c.found.1 ++ lines) (direct_lines site codes c.found.0 program) lines c.onward in
          let some = onward c.found.0 m.found m.is in
          let count = length-append (map plain c.found.1) m.found in
          subst (λ (ls : List Line). 1 ≤ length ls) m.whole (omega arith)
  direct_some (Commit number source ∷ program) homes lines e = end_some (Commit number source) program homes lines e
  direct_some (Codes n z v c ∷ program) homes lines e = end_some (Codes n z v c) program homes lines e
  direct_some (Leave exit ∷ program) homes lines e = end_some (Leave exit) program homes lines e
  direct_some (Probe place count write ∷ program) homes lines e = reach_some (Probe place count write) program homes lines (λ homes' rest is. direct_some program homes' rest is) e
  direct_some (Refuse when ∷ program) homes lines e = absurd (cc e)
  direct_some (Read to place count ∷ program) homes lines e = reach_some (Read to place count) program homes lines (λ homes' rest is. direct_some program homes' rest is) e
  direct_some (Write place count source ∷ program) homes lines e = reach_some (Write place count source) program homes lines (λ homes' rest is. direct_some program homes' rest is) e
  direct_some (Locked to place kind source ∷ program) homes lines e = absurd (cc e)
  direct_some (SetPsw source ∷ program) homes lines e = absurd (cc e)

  -- a program that comes to its end with an operation
  pub ends_with : (operation : Micro) (program : List Micro) (homes : Homes) (lines : List Line) (commit : Option (ℕ × ℕ)) (exit : Exit) → end_at site.sources operation program ≡ Some (commit, exit)
      → option_and_then (λ (end : Option (ℕ × ℕ) × Exit). direct_end site codes homes end.0 end.1) (end_at site.sources operation program) ≡ Some lines → Ended site codes homes commit exit lines
  ends_with operation program homes lines commit exit is e =
      ended site codes homes commit exit lines (ap (option_and_then (λ (end : Option (ℕ × ℕ) × Exit). direct_end site codes homes end.0 end.1)) (sym is) ∙ e)

  -- what comes behind some operation with an exit
  pub with_exit : (commit : Option (ℕ × ℕ)) (operation : Micro) (program : List Micro) (homes : Homes) (lines : List Line) → end_at site.sources operation program ≡ option_map (λ (exit : Exit). (commit, exit)) (exit_behind site.sources program)
      → option_and_then (λ (end : Option (ℕ × ℕ) × Exit). direct_end site codes homes end.0 end.1) (end_at site.sources operation program) ≡ Some lines
      → (exit : Exit) × (exit_behind site.sources program ≡ Some exit) × Ended site codes homes commit exit lines
  with_exit commit operation program homes lines is e =
      let c = chained (Option (ℕ × ℕ) × Exit) (List Line) (λ (end : Option (ℕ × ℕ) × Exit). direct_end site codes homes end.0 end.1) (end_at site.sources operation program) lines e in
      let m = mapped Exit (Option (ℕ × ℕ) × Exit) (λ (exit : Exit). (commit, exit)) (exit_behind site.sources program) c.found (sym is ∙ c.is) in
      (m.found, m.is, ended site codes homes commit m.found lines (subst (λ (end : Option (ℕ × ℕ) × Exit). direct_end site codes homes end.0 end.1 ≡ Some lines) (sym m.whole) c.onward))

-- a temporary above 5 has no home
no_home : (to : ℕ) (homes : Homes) → not (is_low to) ≡ true → with_home to None homes ≡ homes
no_home to homes e =
    let a : (to == 0) ≡ false = grind (arith, nat_tests, e) in
    let b : (to == 1) ≡ false = grind (arith, nat_tests, e) in
    let c : (to == 2) ≡ false = grind (arith, nat_tests, e) in
    let d : (to == 3) ≡ false = grind (arith, nat_tests, e) in
    rw (a, b, c, d) refl

module _ (p : Placement) (site : Site) (codes : List AlphaInstr) (setting : Setting p site codes) where
  abbrev Course_of : List Micro → Standing → Course Left
  Course_of program standing = course_of program (found p site) standing

  -- a computation that is left out
  left_out : (known : Known) (homes : Homes) (standing : Standing) (regs : Regs) (to : ℕ) (op : MicroOp) (size : Size) (a b : Arg) (program : List Micro) (value : ℕ) → is_left_out site.sources (Compute to op size a b) program ≡ true
      → Direct p site known homes standing regs → Direct p site (behind_write to (holding_of (leaves_longword (Compute to op size a b))) known) homes (with_value to value standing) regs
  left_out known homes standing regs to op size a b program value out d =
      let high = (and_parts (not (is_low to)) (not (is_used site.sources program to)) out).0 in
      subst (λ homes'. Direct p site (behind_write to (holding_of (leaves_longword (Compute to op size a b))) known) homes' (with_value to value standing) regs) (no_home to homes high)
      (written p site known homes None (holding_of (leaves_longword (Compute to op size a b))) to value standing regs regs (λ n kept. refl) refl (λ temp lt other. refl)
      (λ none lt. absurd (never lt high)) tt (λ r some. absurd (cc some)) (λ temp r other home. refl) d)
    where
      never : to < 6 → not (is_low to) ≡ true → ⊥
      never lt e = let is_so : nat_lt to 6 ≡ true = grind (arith, nat_tests) in absurd (cc (sym (ap not is_so) ∙ e))

  set_codes : (n z v : ℕ) (c : Option ℕ) (known : Known) (homes : Homes) (standing : Standing) (regs : Regs) → Direct p site known homes standing regs → Direct p site (record known { codes = true; changed = true }) homes (with_codes n z v c standing) regs
  set_codes n z v c known homes standing regs d = record { holds = sets_codes p site n z v c (hidden homes known) standing regs d.holds; are = d.are; values = d.values }

  -- ---- operations that have no words
  value_committed : (commit : Option (ℕ × ℕ)) (to value : ℕ) (standing : Standing) → commit_stays commit ≡ true → not (is_low to) ≡ true → with_value to value (committed commit standing) ≡ committed commit (with_value to value standing)
  value_committed None to value standing stays high = refl
  value_committed (Some commit) to value standing stays high =
      let other : (commit.1 == to) ≡ false = grind (arith, nat_tests, stays, high) in
      let same : with_temp to value standing.temps commit.1 ≡ standing.temps commit.1 = rw other refl in
      ap (λ n. record standing { temps = with_temp to value standing.temps; state = with_register commit.0 (n % 2 ^ 32) standing.state }) (sym same)

  codes_committed : (commit : Option (ℕ × ℕ)) (n z v : ℕ) (c : Option ℕ) (standing : Standing) → with_codes n z v c (committed commit standing) ≡ committed commit (with_codes n z v c standing)
  codes_committed None n z v c standing = refl
  codes_committed (Some commit) n z v None standing = refl
  codes_committed (Some commit) n z v (Some c) standing = refl

  fits_behind : (commit : Option (ℕ × ℕ)) (known : Known) (to : ℕ) (op : MicroOp) (size : Size) (a b : Arg) → commit_stays commit ≡ true → not (is_low to) ≡ true → CommitFits known commit
      → CommitFits (behind_write to (holding_of (leaves_longword (Compute to op size a b))) known) commit
  fits_behind None known to op size a b stays high fits = tt
  fits_behind (Some commit) known to op size a b stays high fits =
      let other : (commit.1 == to) ≡ false = grind (arith, nat_tests, stays, high) in
      (fits.0, ap is_something (held_other (holding_of (leaves_longword (Compute to op size a b))) known to commit.1 (λ same. differs commit.1 to other same)) ∙ fits.1)
    where
      differs : (m n : ℕ) → (m == n) ≡ false → m ≡ n → ⊥
      differs m n e same = let is_so : (m == n) ≡ true = grind (arith, nat_tests) in absurd (cc (sym is_so ∙ e))

  fits_coded : (commit : Option (ℕ × ℕ)) (known : Known) → CommitFits known commit → CommitFits (record known { codes = true; changed = true }) commit
  fits_coded None known fits = tt
  fits_coded (Some commit) known fits = fits

  out_of : (out : Bool) (exit : Exit) (o : Option Exit) → (if out then o else None) ≡ Some exit → (out ≡ true) × (o ≡ Some exit)
  out_of true exit o e = (refl, e)
  out_of false exit o e = absurd (cc e)

  -- from where a program comes to its end
  ending : (program : List Micro) (exit : Exit) (commit : Option (ℕ × ℕ)) (homes : Homes) (words : List AlphaInstr) (known : Known) (standing : Standing) (regs : Regs) (pc : ℕ)
      → exit_behind site.sources program ≡ Some exit → may_end site homes commit exit ≡ true → moved_words homes codes ≡ Some words
      → Within p site.behind pc (end_lines site homes commit exit words) → AllHaveWords site.sources program
      → known.ended ≡ false → is_ended (walk site.sources known program) ≡ true → CommitFits known commit
      → Waits homes → Direct p site known homes standing (begins homes regs) → AtLeaves (CodesComeFrom site.sources p.begun) (Course_of program (committed commit standing))
      → Always p None (length (end_lines site homes commit exit words)) (at_place regs pc) (tree (ends p) (Course_of program (committed commit standing)))
  unfolding step
  ending [] exit commit homes words known standing regs pc e may moved w have off walked fits waits d agree = absurd (cc e)
  ending (Compute to op size a b ∷ program) exit commit homes words known standing regs pc e may moved w have off walked fits waits d agree =
      let behind = behind_write to (holding_of (leaves_longword (Compute to op size a b))) known in
      let x = walk_fits (computation_fits known to op a b) behind (λ behind. walk site.sources behind program) (opened site.sources known (Compute to op size a b) program off walked) in
      let y = out_of (is_left_out site.sources (Compute to op size a b) program) exit (exit_behind site.sources program) e in
      let high = (and_parts (not (is_low to)) (not (is_used site.sources program to)) y.0).0 in
      let stays = (all_four (are_left site.sources homes) (commit_stays commit) (exit_stays homes exit) (are_short_rules site.behind) may).1 in
      let value = computed op size (value_of_arg (found p site) (committed commit standing).temps a) (value_of_arg (found p site) (committed commit standing).temps b) ((committed commit standing).temps to) in
      let same = value_committed commit to (computed op size (value_of_arg (found p site) (committed commit standing).temps a) (value_of_arg (found p site) (committed commit standing).temps b) ((committed commit standing).temps to)) standing stays high in
      subst (λ (s : Standing). Always p None (length (end_lines site homes commit exit words)) (at_place regs pc) (tree (ends p) (Course_of program s))) (sym same)
      (ending program exit commit homes words behind (with_value to value standing) regs pc y.1 may moved w have.1
      ((write_changes to (holding_of (leaves_longword (Compute to op size a b))) known).ended ∙ off) x.1 (fits_behind commit known to op size a b stays high fits) waits
      (left_out known homes standing (begins homes regs) to op size a b program value y.0 d)
      (subst (λ (s : Standing). AtLeaves (CodesComeFrom site.sources p.begun) (Course_of program s)) same agree))
  ending (Codes n z v c ∷ program) exit commit homes words known standing regs pc e may moved w have off walked fits waits d agree =
      let x = walk_fits (codes_fit known n z v c) (record known { codes = true; changed = true }) (λ behind. walk site.sources behind program) (opened site.sources known (Codes n z v c) program off walked) in
      let same = codes_committed commit n z v c standing in
      subst (λ (s : Standing). Always p None (length (end_lines site homes commit exit words)) (at_place regs pc) (tree (ends p) (Course_of program s))) (sym same)
      (ending program exit commit homes words (record known { codes = true; changed = true }) (with_codes n z v c standing) regs pc e may moved w have.1 off x.1 (fits_coded commit known fits) waits
      (set_codes n z v c known homes standing (begins homes regs) d)
      (subst (λ (s : Standing). AtLeaves (CodesComeFrom site.sources p.begun) (Course_of program s)) same agree))
  ending (Leave leave ∷ program) exit commit homes words known standing regs pc e may moved w have off walked fits waits d agree =
      let x = walk_fits (exit_fits known leave && sources_fit site.sources known) (record known { ended = true }) (λ behind. walk site.sources behind program) (opened site.sources known (Leave leave) program off walked) in
      let y = and_parts (exit_fits known leave) (sources_fit site.sources known) x.0 in
      let same = same_Some leave exit e in
      subst (λ exit'. Always p None (length (end_lines site homes commit exit' words)) (at_place regs pc) (tree (ends p) (leaves_by leave (found p site) (committed commit standing)))) same
      (end_follows p site codes setting known homes standing regs d leave commit words pc waits moved
      (subst (λ exit'. Within p site.behind pc (end_lines site homes commit exit' words)) (sym same) w) (subst (λ exit'. may_end site homes commit exit' ≡ true) (sym same) may) fits have.0 y.0 y.1 agree)
  ending (Probe place count write ∷ program) exit commit homes words known standing regs pc e may moved w have off walked fits waits d agree = absurd (cc e)
  ending (Refuse when ∷ program) exit commit homes words known standing regs pc e may moved w have off walked fits waits d agree = absurd (cc e)
  ending (Read to place count ∷ program) exit commit homes words known standing regs pc e may moved w have off walked fits waits d agree = absurd (cc e)
  ending (Write place count source ∷ program) exit commit homes words known standing regs pc e may moved w have off walked fits waits d agree = absurd (cc e)
  ending (Locked to place kind source ∷ program) exit commit homes words known standing regs pc e may moved w have off walked fits waits d agree = absurd (cc e)
  ending (Commit number source ∷ program) exit commit homes words known standing regs pc e may moved w have off walked fits waits d agree = absurd (cc e)
  ending (SetPsw source ∷ program) exit commit homes words known standing regs pc e may moved w have off walked fits waits d agree = absurd (cc e)

  -- ---- the program
  later_flags : (operation : Micro) (program : List Micro) → ReadsReady site.before (operation ∷ program) → ReadsReady site.before program
  later_flags operation program reads flag lt is = reads flag lt (or_right (reads_flag flag operation) (list_any (reads_flag flag) program) is)

  -- a course stays in range, and its codes come from the sources
  abbrev pub Good : Course Left → Type 0
  Good course = IsInRange p.pages (tree (ends p) course) × AtLeaves (CodesComeFrom site.sources p.begun) course

  opens : (reference : Reference) (on : ℕ → Course Left) (reply : ℕ) → Good (Ask reference on) → Answers reference reply → Good (on reply)
  opens reference on reply good ok = (good.0.1 reply ok, good.1 reply ok)

  -- the words that wait come before the lines of a reference
  reach_front : (homes : Homes) (front rest lines : List Line) (regs : Regs) (pc : ℕ) (t : Tree) → (map plain (all_waiting homes) ++ front) ++ rest ≡ lines → Waits homes → 1 ≤ length rest → Within p site.behind pc lines
      → (Within p site.behind (pc + length (all_waiting homes)) (front ++ rest) → Always p None (length (front ++ rest)) (at_place (begins homes regs) (pc + length (all_waiting homes))) t)
      → Always p None (length lines) (at_place regs pc) t
  reach_front homes front rest lines regs pc t whole waits some w behind =
      let split : map plain (all_waiting homes) ++ (front ++ rest) ≡ lines = sym (append_assoc (map plain (all_waiting homes)) front rest) ∙ whole in
      let w' = subst (Within p site.behind pc) (sym split) w in
      let more = length-append front rest in
      let count = row_length p site.behind (all_waiting homes) (front ++ rest) in
      let high = w'.high in
      subst (λ (ls : List Line). Always p None (length ls) (at_place regs pc) t) split
      (roomy p None (length (all_waiting homes) + length (front ++ rest)) (length (map plain (all_waiting homes) ++ (front ++ rest))) (at_place regs pc) t (omega arith)
      (operates p None (length (front ++ rest)) (all_waiting homes) regs pc t (row_words p site.behind pc (all_waiting homes) (front ++ rest) w') (all_append (waiting_words homes.before) (waiting_words homes.waiting) waits.0 waits.1) w'.low (omega arith)
      (λ q lt le. is_inside p site.behind pc q (map plain (all_waiting homes) ++ (front ++ rest)) w' lt (omega arith))
      (subst (λ (f : Regs). Always p None (length (front ++ rest)) (at_place f (pc + length (all_waiting homes))) t) (sym (effects_append (waiting_words homes.before) (waiting_words homes.waiting) regs))
      (behind (row_rest p site.behind pc (all_waiting homes) (front ++ rest) w')))))

  later_sized : (operation : Micro) (program : List Micro) → list_all (has_bytes setting.bytes) (operation ∷ program) ≡ true → list_all (has_bytes setting.bytes) program ≡ true
  later_sized operation program sized = (and_parts (has_bytes setting.bytes operation) (list_all (has_bytes setting.bytes) program) sized).1

  two_words : (pc : ℕ) → pc + 1 + 1 ≡ pc + 2
  two_words pc = omega arith

  abbrev Follows : List Micro → List Line → Standing → Regs → ℕ → Type 0
  Follows program lines standing regs pc = Always p None (length lines) (at_place regs pc) (tree (ends p) (Course_of program standing))

  pub direct_follows : (program : List Micro) (homes : Homes) (lines : List Line) (known : Known) (standing : Standing) (regs : Regs) (pc : ℕ)
      → direct_lines site codes homes program ≡ Some lines → Within p site.behind pc lines → AllHaveWords site.sources program → ReadsReady site.before program
      → known.ended ≡ false → is_ended (walk site.sources known program) ≡ true
      → Waits homes → Direct p site known homes standing (begins homes regs) → list_all (has_bytes setting.bytes) program ≡ true → Good (Course_of program standing)
      → Always p None (length lines) (at_place regs pc) (tree (ends p) (Course_of program standing))
  unfolding step
  direct_follows [] homes lines known standing regs pc e w have reads off walked waits d sized good = absurd (cc e)
  direct_follows (Compute to op size a b ∷ program) homes lines known standing regs pc e w have reads off walked waits d sized good =
      let behind = behind_write to (holding_of (leaves_longword (Compute to op size a b))) known in
      let x = walk_fits (computation_fits known to op a b) behind (λ behind. walk site.sources behind program) (opened site.sources known (Compute to op size a b) program off walked) in
      let off' = (write_changes to (holding_of (leaves_longword (Compute to op size a b))) known).ended ∙ off in
      of x.0 x.1 off' (λ standing' g pc' homes' rest is' w' waits' d' good'. direct_follows program homes' rest behind standing' g pc' is' w' have.1 (later_flags (Compute to op size a b) program reads) off' x.1 waits' d' (later_sized (Compute to op size a b) program sized) good') (first_is (tested_at site codes homes (Compute to op size a b) program) (option_and_then (λ (step : Homes × List AlphaInstr). option_map (λ (lines : List Line). map plain step.1 ++ lines) (direct_lines site codes step.0 program)) (direct_step site.sources homes to op size a b program)) lines e)
    where
      value : ℕ
      value = computed op size (value_of_arg (found p site) standing.temps a) (value_of_arg (found p site) standing.temps b) (standing.temps to)

      after : Known
      after = behind_write to (holding_of (leaves_longword (Compute to op size a b))) known

      begun : Regs
      begun = begins homes regs

      homes_then : Homes
      homes_then = with_home to (new_home homes to op size a b) homes

      Onward : List Line → Type 0
      Onward rest = (standing' : Standing) (g : Regs) (pc' : ℕ) (homes' : Homes) → direct_lines site codes homes' program ≡ Some rest → Within p site.behind pc' rest → Waits homes'
          → Direct p site (behind_write to (holding_of (leaves_longword (Compute to op size a b))) known) homes' standing' (begins homes' g)
          → Good (Course_of program standing') → Follows program rest standing' g pc'

      -- the words that wait come first
      first : (o : Option AlphaInstr) (f : Regs) (pc' need : ℕ) (rest : List Line) (t : Tree) → list_all is_operate (waiting_words o) ≡ true → 1 ≤ length rest → Within p site.behind pc' (map plain (waiting_words o) ++ rest)
          → Always p None need (at_place (effects (waiting_words o) f) (pc' + length (waiting_words o))) t
          → Always p None (length (waiting_words o) + need) (at_place f pc') t
      first o f pc' need rest t operate some w behind =
          let count = row_length p site.behind (waiting_words o) rest in
          let high = w.high in
          operates p None need (waiting_words o) f pc' t (row_words p site.behind pc' (waiting_words o) rest w) operate w.low (omega arith)
          (λ q lt le. is_inside p site.behind pc' q (map plain (waiting_words o) ++ rest) w lt (omega arith)) behind

      -- a word that waits, behind the one before it
      waits_on : (rest : List Line) (word : AlphaInstr) → is_operate word ≡ true → Onward rest
          → Direct p site after homes_then (with_value to value standing) (effect word begun)
          → direct_lines site codes (record homes_then { before = homes.waiting; waiting = Some word }) program ≡ Some rest
          → Within p site.behind pc (map plain (waiting_words homes.before) ++ rest)
          → Always p None (length (map plain (waiting_words homes.before) ++ rest)) (at_place regs pc) (tree (ends p) (Course_of (Compute to op size a b ∷ program) standing))
      waits_on rest word operate onward d' is w =
          let some = direct_some site codes program (record homes_then { before = homes.waiting; waiting = Some word }) rest is in
          let count = row_length p site.behind (waiting_words homes.before) rest in
          roomy p None (length (waiting_words homes.before) + length rest) (length (map plain (waiting_words homes.before) ++ rest)) (at_place regs pc) _ (omega arith)
          (first homes.before regs pc (length rest) rest _ waits.0 some w
          (onward (with_value to value standing) (effects (waiting_words homes.before) regs) (pc + length (waiting_words homes.before)) (record homes_then { before = homes.waiting; waiting = Some word }) is (row_rest p site.behind pc (waiting_words homes.before) rest w)
          (waits.1, ap (λ c. c && true) operate)
          (record { holds = d'.holds; are = d'.are; values = d'.values }) good))

      tested_then : (exit : Exit) (program : List Micro) → next_exit program ≡ Some exit → Tested site codes homes to op size a b exit lines → computation_fits known to op a b ≡ true → is_ended (walk site.sources after program) ≡ true → after.ended ≡ false
          → AllHaveWords site.sources (Compute to op size a b ∷ program) → ReadsReady site.before (Compute to op size a b ∷ program)
          → AtLeaves (CodesComeFrom site.sources p.begun) (Course_of program (with_value to value standing)) → Always p None (length lines) (at_place regs pc) (tree (ends p) (Course_of program (with_value to value standing)))
      tested_then exit (Leave leave ∷ program) is s fits walked off have reads agree =
          let x = walk_fits (exit_fits after leave && sources_fit site.sources after) (record after { ended = true }) (λ behind. walk site.sources behind program) (opened site.sources after (Leave leave) program off walked) in
          let y = and_parts (exit_fits after leave) (sources_fit site.sources after) x.0 in
          let s' = subst (λ exit. Tested site codes homes to op size a b exit lines) (sym (same_Some leave exit is)) s in
          let own = s.own in
          let low : is_low to ≡ true = grind (arith, nat_tests) in
          let out : is_left_out site.sources (Compute to op size a b) (Leave leave ∷ program) ≡ false = ap (λ b. not b && not (is_used site.sources (Leave leave ∷ program) to)) low in
          let has = have.0 out in
          tested_follows p site codes setting known homes standing regs pc to op size a b leave lines waits d s' w fits has.1 has.2
          (λ flag lt is. reads flag lt (or_left (reads_flag flag (Compute to op size a b)) (list_any (reads_flag flag) (Leave leave ∷ program)) is)) y.0 y.1 agree
      tested_then exit [] is s fits walked off have reads agree = absurd (cc is)
      tested_then exit (operation ∷ program) is s fits walked off have reads agree = absurd (cc is)

      by_words : (rest : List Line) → computation_fits known to op a b ≡ true → Onward rest → is_left_out site.sources (Compute to op size a b) program ≡ false → is_direct homes to op size a b ≡ true
          → (o : Option ℕ) → copied homes to op size a ≡ o → (q : Option AlphaInstr) → made homes to op size a b ≡ q → (u : Option AlphaInstr) → compared homes to op size a b ≡ u
          → direct_lines site codes (step_by o q u homes.before homes.waiting homes_then (direct_code homes to op size a b)).0 program ≡ Some rest
          → Within p site.behind pc (map plain (step_by o q u homes.before homes.waiting homes_then (direct_code homes to op size a b)).1 ++ rest)
          → Always p None (length (map plain (step_by o q u homes.before homes.waiting homes_then (direct_code homes to op size a b)).1 ++ rest)) (at_place regs pc) (tree (ends p) (Course_of (Compute to op size a b ∷ program) standing))
      by_words rest fits onward out direct (Some r) e q f u h is w =
          let has = have.0 out in
          let d' = copies_then p site known homes standing begun d to op size a b r fits has.1 e in
          let same = waits_same to (new_home homes to op size a b) homes in
          onward (with_value to value standing) regs pc homes_then is w
          (subst (λ (o : Option AlphaInstr). list_all is_operate (waiting_words o) ≡ true) (sym same.0) waits.0, subst (λ (o : Option AlphaInstr). list_all is_operate (waiting_words o) ≡ true) (sym same.1) waits.1)
          (subst (λ (o : Option AlphaInstr). Direct p site after homes_then (with_value to value standing) (effects (waiting_words homes_then.waiting) (effects (waiting_words o) regs))) (sym same.0)
          (subst (λ (o : Option AlphaInstr). Direct p site after homes_then (with_value to value standing) (effects (waiting_words o) (effects (waiting_words homes.before) regs))) (sym same.1) d')) good
      by_words rest fits onward out direct None e (Some word) f u h is w =
          let has = have.0 out in
          waits_on rest word (made_operates homes to op size a b word f) onward (makes_then p site known homes standing begun d to op size a b word fits has.1 has.2 direct e f) is w
      by_words rest fits onward out direct None e None f (Some word) h is w =
          let has = have.0 out in
          waits_on rest word (compared_operates homes to op size a b word h) onward (compares_then p site known homes standing begun d to op size a b word fits has.0 has.1 has.2 direct e f h) is w
      by_words rest fits onward out direct None e None f None h is w = by_only (only_word (direct_code homes to op size a b)) refl is w
        where
          code : direct_code homes to op size a b ≡ compute_code op size (placed homes a) (placed homes b) (21 + to)
          code =
              ap (λ (o : Option ℕ). code_by o (made homes to op size a b) (compared homes to op size a b) (compute_code op size (placed homes a) (placed homes b) (21 + to))) e
              ∙ (ap (λ (o : Option AlphaInstr). code_by None o (compared homes to op size a b) (compute_code op size (placed homes a) (placed homes b) (21 + to))) f
              ∙ ap (λ (o : Option AlphaInstr). code_by None None o (compute_code op size (placed homes a) (placed homes b) (21 + to))) h)

          -- what stands behind one word
          one : (word : AlphaInstr) → only_word (direct_code homes to op size a b) ≡ Some word → (g : Regs) → ((n : ℕ) → g n ≡ effect word begun n) → Direct p site after homes_then (with_value to value standing) g
          one word only g same =
              let has = have.0 out in
              let o = only_is (direct_code homes to op size a b) word only in
              one_computes p site known homes standing begun d to op size a b word g fits has.0 has.1 has.2
              (λ flag lt is. reads flag lt (or_left (reads_flag flag (Compute to op size a b)) (list_any (reads_flag flag) program) is)) direct e f (sym code ∙ o.0) o.1 same

          -- it needs no copy before it
          passes_on : (word shorter : AlphaInstr) → only_word (direct_code homes to op size a b) ≡ Some word → Passed homes.waiting word shorter
              → direct_lines site codes (record homes_then { before = homes.before; waiting = Some shorter }) program ≡ Some rest → Within p site.behind pc rest
              → Always p None (length rest) (at_place regs pc) (tree (ends p) (Course_of (Compute to op size a b ∷ program) standing))
          passes_on word shorter only q is w =
              let copy : AlphaInstr = Operate row.Addl q.from (seconds.Literal 0) q.to in
              let behind : begun ≡ effect copy (effects (waiting_words homes.before) regs) = ap (λ (o : Option AlphaInstr). effects (waiting_words o) (effects (waiting_words homes.before) regs)) q.is_copy in
              let extended : IsExtended (effects (waiting_words homes.before) regs q.from) =
              subst IsExtended (ap (λ (f : Regs). f q.from) behind ∙ outlasts q.from q.to q.high q.register (effects (waiting_words homes.before) regs)) (d.holds.form.longwords q.from q.register) in
              let same : (n : ℕ) → effect shorter (effects (waiting_words homes.before) regs) n ≡ effect word begun n = λ n.
              ap (λ (i : AlphaInstr). effect i (effects (waiting_words homes.before) regs) n) q.is
              ∙ (passes q.operation q.from q.second q.to q.low q.unread q.unheld (effects (waiting_words homes.before) regs) extended n
              ∙ (ap (λ (f : Regs). effect (Operate q.operation q.to q.second q.to) f n) (sym behind) ∙ ap (λ (i : AlphaInstr). effect i begun n) (sym q.is_word))) in
              let d' = one word only (effect shorter (effects (waiting_words homes.before) regs)) same in
              onward (with_value to value standing) regs pc (record homes_then { before = homes.before; waiting = Some shorter }) is w
              (waits.0, subst (λ (i : AlphaInstr). list_all is_operate (i ∷ []) ≡ true) (sym q.is) refl)
              (record { holds = d'.holds; are = d'.are; values = d'.values }) good

          by_passed : (word : AlphaInstr) → only_word (direct_code homes to op size a b) ≡ Some word → (s : Option AlphaInstr) → passed homes.waiting word ≡ s
              → direct_lines site codes (one_waits s homes.before homes.waiting homes_then word).0 program ≡ Some rest
              → Within p site.behind pc (map plain (one_waits s homes.before homes.waiting homes_then word).1 ++ rest)
              → Always p None (length (map plain (one_waits s homes.before homes.waiting homes_then word).1 ++ rest)) (at_place regs pc) (tree (ends p) (Course_of (Compute to op size a b ∷ program) standing))
          by_passed word only None s is w = waits_on rest word (only_is (direct_code homes to op size a b) word only).1 onward (one word only (effect word begun) (λ n. refl)) is w
          by_passed word only (Some shorter) s is w = passes_on word shorter only (passed_is homes.waiting word shorter s) is w

          by_only : (m : Option AlphaInstr) → only_word (direct_code homes to op size a b) ≡ m → direct_lines site codes (words_wait m homes.before homes.waiting homes_then (direct_code homes to op size a b)).0 program ≡ Some rest
              → Within p site.behind pc (map plain (words_wait m homes.before homes.waiting homes_then (direct_code homes to op size a b)).1 ++ rest)
              → Always p None (length (map plain (words_wait m homes.before homes.waiting homes_then (direct_code homes to op size a b)).1 ++ rest)) (at_place regs pc) (tree (ends p) (Course_of (Compute to op size a b ∷ program) standing))
          by_only (Some word) only is w = by_passed word only (passed homes.waiting word) refl is w
          by_only None only is w =
              let has = have.0 out in
              let some = direct_some site codes program (record homes_then { before = None; waiting = None }) rest is in
              let split = row_apart (waiting_words homes.before) (waiting_words homes.waiting ++ direct_code homes to op size a b) rest ∙ ap (λ (lines : List Line). map plain (waiting_words homes.before) ++ lines) (row_apart (waiting_words homes.waiting) (direct_code homes to op size a b) rest) in
              let w' = subst (Within p site.behind pc) split w in
              let w1 = row_rest p site.behind pc (waiting_words homes.before) (map plain (waiting_words homes.waiting) ++ (map plain (direct_code homes to op size a b) ++ rest)) w' in
              let w2 = row_rest p site.behind (pc + length (waiting_words homes.before)) (waiting_words homes.waiting) (map plain (direct_code homes to op size a b) ++ rest) w1 in
              let count = row_length p site.behind (waiting_words homes.before) (map plain (waiting_words homes.waiting) ++ (map plain (direct_code homes to op size a b) ++ rest)) in
              let counts = row_length p site.behind (waiting_words homes.waiting) (map plain (direct_code homes to op size a b) ++ rest) in
              let more = row_length p site.behind (direct_code homes to op size a b) rest in
              let same = ap (λ (lines : List Line). length lines) split in
              roomy p None (length (waiting_words homes.before) + (length (waiting_words homes.waiting) + (length (direct_code homes to op size a b) + length rest))) (length (map plain (waiting_words homes.before ++ (waiting_words homes.waiting ++ direct_code homes to op size a b)) ++ rest)) (at_place regs pc) _ (omega arith)
              (first homes.before regs pc (length (waiting_words homes.waiting) + (length (direct_code homes to op size a b) + length rest)) (map plain (waiting_words homes.waiting) ++ (map plain (direct_code homes to op size a b) ++ rest)) _ waits.0 (omega arith) w'
              (first homes.waiting (effects (waiting_words homes.before) regs) (pc + length (waiting_words homes.before)) (length (direct_code homes to op size a b) + length rest) (map plain (direct_code homes to op size a b) ++ rest) _ waits.1 (omega arith) w1
              (computes p site known homes standing begun d (length rest) (pc + length (waiting_words homes.before) + length (waiting_words homes.waiting)) to op size a b rest _ w2 some fits has.0 has.1 has.2
              (λ flag lt is. reads flag lt (or_left (reads_flag flag (Compute to op size a b)) (list_any (reads_flag flag) program) is)) direct
              (λ g d'. onward (with_value to value standing) g (pc + length (waiting_words homes.before) + length (waiting_words homes.waiting) + length (direct_code homes to op size a b)) (record homes_then { before = None; waiting = None }) is
              (row_rest p site.behind (pc + length (waiting_words homes.before) + length (waiting_words homes.waiting)) (direct_code homes to op size a b) rest w2) (refl, refl) (record { holds = d'.holds; are = d'.are; values = d'.values }) good))))

      by : (step : Homes × List AlphaInstr) (rest : List Line) → direct_lines site codes step.0 program ≡ Some rest → map plain step.1 ++ rest ≡ lines → computation_fits known to op a b ≡ true → Onward rest
          → (out : Bool) → is_left_out site.sources (Compute to op size a b) program ≡ out → Stepped site homes to op size a b program step out
          → Always p None (length lines) (at_place regs pc) (tree (ends p) (Course_of (Compute to op size a b ∷ program) standing))
      by step rest is whole fits onward true out s =
          let same : rest ≡ lines = ap (λ (step : Homes × List AlphaInstr). map plain step.1 ++ rest) (sym s.is) ∙ whole in
          subst (λ (ls : List Line). Always p None (length ls) (at_place regs pc) (tree (ends p) (Course_of program (with_value to value standing)))) same
          (onward (with_value to value standing) regs pc homes (subst (λ (step : Homes × List AlphaInstr). direct_lines site codes step.0 program ≡ Some rest) s.is is) (subst (Within p site.behind pc) (sym same) w) waits
          (left_out known homes standing begun to op size a b program value out d) good)
      by step rest is whole fits onward false out s =
          let same : map plain (direct_by homes to op size a b).1 ++ rest ≡ lines = ap (λ (step : Homes × List AlphaInstr). map plain step.1 ++ rest) (sym s.is) ∙ whole in
          subst (λ (ls : List Line). Always p None (length ls) (at_place regs pc) (tree (ends p) (Course_of (Compute to op size a b ∷ program) standing))) same
          (by_words rest fits onward out (s.direct refl) (copied homes to op size a) refl (made homes to op size a b) refl (compared homes to op size a b) refl
          (subst (λ (step : Homes × List AlphaInstr). direct_lines site codes step.0 program ≡ Some rest) s.is is) (subst (Within p site.behind pc) (sym same) w))

      of : computation_fits known to op a b ≡ true → is_ended (walk site.sources after program) ≡ true → after.ended ≡ false
          → ((standing' : Standing) (g : Regs) (pc' : ℕ) (homes' : Homes) (rest : List Line) → direct_lines site codes homes' program ≡ Some rest → Within p site.behind pc' rest → Waits homes' → Direct p site (behind_write to (holding_of (leaves_longword (Compute to op size a b))) known) homes' standing' (begins homes' g) → Good (Course_of program standing') → Follows program rest standing' g pc')
          → ((tested_at site codes homes (Compute to op size a b) program) ≡ Some lines) ⊎ (((tested_at site codes homes (Compute to op size a b) program) ≡ None) × ((option_and_then (λ (step : Homes × List AlphaInstr). option_map (λ (lines : List Line). map plain step.1 ++ lines) (direct_lines site codes step.0 program)) (direct_step site.sources homes to op size a b program)) ≡ Some lines)) → Always p None (length lines) (at_place regs pc) (tree (ends p) (Course_of (Compute to op size a b ∷ program) standing))
      of fits walked' off' onward (inl tests) =
          let c = chained Exit (List Line) (tested_exit site codes homes to op size a b) (next_exit program) lines tests in
          tested_then c.found program c.is (tested site codes homes to op size a b c.found lines c.onward) fits walked' off' have reads good.1
      of fits walked' off' onward (inr y) =
          let c = chained (Homes × List AlphaInstr) (List Line) (λ (step : Homes × List AlphaInstr). option_map (λ (lines : List Line). map plain step.1 ++ lines) (direct_lines site codes step.0 program)) (direct_step site.sources homes to op size a b program) lines y.1 in
          let m = mapped (List Line) (List Line) (λ (lines : List Line). map plain c.found.1 ++ lines) (direct_lines site codes c.found.0 program) lines c.onward in
          by c.found m.found m.is m.whole fits (λ standing' g pc' homes' is' w' waits' d' good'. onward standing' g pc' homes' m.found is' w' waits' d' good')
          (is_left_out site.sources (Compute to op size a b) program) refl (stepped site homes to op size a b program c.found (is_left_out site.sources (Compute to op size a b) program) refl c.is)
  direct_follows (Commit number source ∷ program) homes lines known standing regs pc e w have reads off walked waits d sized good =
      let x = walk_fits (commit_fits known number source) (behind_commit number known) (λ behind. walk site.sources behind program) (opened site.sources known (Commit number source) program off walked) in
      let y = all_three (nat_lt number 15) (holds known source) (not (is_committed known number)) x.0 in
      let z = with_exit site codes (Some (number, source)) (Commit number source) program homes lines refl e in
      let end = z.2 in
      subst (λ (ls : List Line). Follows (Commit number source ∷ program) ls standing regs pc) end.whole
      (ending program z.0 (Some (number, source)) homes end.words (behind_commit number known) standing regs pc z.1 end.may end.moved (subst (Within p site.behind pc) (sym end.whole) w) have.1 off x.1 (have.0.0, y.1)
      waits (committing p site known homes number standing (begins homes regs) have.0.0 d) good.1)
  direct_follows (Codes n z v c ∷ program) homes lines known standing regs pc e w have reads off walked waits d sized good =
      let x = walk_fits (codes_fit known n z v c) (record known { codes = true; changed = true }) (λ behind. walk site.sources behind program) (opened site.sources known (Codes n z v c) program off walked) in
      let y = with_exit site codes None (Codes n z v c) program homes lines refl e in
      let end = y.2 in
      subst (λ (ls : List Line). Follows (Codes n z v c ∷ program) ls standing regs pc) end.whole
      (ending program y.0 None homes end.words (record known { codes = true; changed = true }) (with_codes n z v c standing) regs pc y.1 end.may end.moved (subst (Within p site.behind pc) (sym end.whole) w) have.1 off x.1 tt
      waits (set_codes n z v c known homes standing (begins homes regs) d) good.1)
  direct_follows (Leave exit ∷ program) homes lines known standing regs pc e w have reads off walked waits d sized good =
      let end = ends_with site codes (Leave exit) program homes lines None exit refl e in
      subst (λ (ls : List Line). Follows (Leave exit ∷ program) ls standing regs pc) end.whole
      (ending (Leave exit ∷ program) exit None homes end.words known standing regs pc refl end.may end.moved (subst (Within p site.behind pc) (sym end.whole) w) have off walked tt waits d good.1)
  direct_follows (Probe place count write ∷ program) homes lines known standing regs pc e w have reads off walked waits d sized good =
      let behind = behind_access (record known { checked = At place count write }) in
      let x = walk_fits (check_fits known place count) behind (λ behind. walk site.sources behind program) (opened site.sources known (Probe place count write) program off walked) in
      let r = reaching site codes homes (Probe place count write) program lines e in
      let front = plain (copy (stands homes place) 27) ∷ marked (Pal 0x80) (probing site count write) ∷ [] in
      let made : Homes × List Line = (settled homes, plain (copy (stands homes place) 27) ∷ marked (Pal 0x80) (probing site count write) ∷ []) in
      let same = same_Some made r.step r.is in
      let onward = subst (λ (step : Homes × List Line). direct_lines site codes step.0 program ≡ Some r.rest) (sym same) r.onward in
      let some = direct_some site codes program (settled homes) r.rest onward in
      reach_front homes front r.rest lines regs pc (tree (ends p) (Course_of (Probe place count write ∷ program) standing)) (ap (λ (step : Homes × List Line). (map plain (all_waiting homes) ++ step.1) ++ r.rest) same ∙ r.whole) waits some w
      (λ w'.
      let at = pc + length (all_waiting homes) in
      let w1 = next p site.behind at (copy (stands homes place) 27) None (marked (Pal 0x80) (probing site count write) ∷ r.rest) w' in
      let w2 = subst (λ q. Within p site.behind q r.rest) (two_words at) (next p site.behind (at + 1) (Pal 0x80) (Some (probing site count write)) r.rest w1) in
      roomy p None (2 + length r.rest) (length (front ++ r.rest)) _ _ (omega arith)
      (direct_checks p site (ends p) (length r.rest) (pc + length (all_waiting homes)) place count write r.rest known homes standing (begins homes regs) (Course_of program standing) w' some x.0 have.0.0 have.0.1 d
      (λ g ok d'. direct_follows program (settled homes) r.rest behind standing g (pc + length (all_waiting homes) + 2) onward w2 have.1 (later_flags (Probe place count write) program reads) off x.1 (refl, refl) d' (later_sized (Probe place count write) program sized) (good.0 ok, good.1))))
  direct_follows (Refuse when ∷ program) homes lines known standing regs pc e w have reads off walked waits d sized good = absurd (cc e)
  direct_follows (Read to place count ∷ program) homes lines known standing regs pc e w have reads off walked waits d sized good =
      let behind = behind_access (behind_write to (holding_of (nat_le count 4)) known) in
      let x = walk_fits (read_fits known to place count) behind (λ behind. walk site.sources behind program) (opened site.sources known (Read to place count) program off walked) in
      let off' = (write_changes to (holding_of (nat_le count 4)) known).ended ∙ off in
      let r = reaching site codes homes (Read to place count) program lines e in
      let homes' = with_home to (read_home to count) (settled homes) in
      let words = reading site.byte_word homes to place count in
      let made : Homes × List Line = (with_home to (read_home to count) (settled homes), map plain (reading site.byte_word homes to place count)) in
      let found = where_false (is_shared homes to) made r.step r.is in
      let onward = subst (λ (step : Homes × List Line). direct_lines site codes step.0 program ≡ Some r.rest) (sym found.1) r.onward in
      let some = direct_some site codes program homes' r.rest onward in
      let size = count_some have.0.2 in
      let quiet = waits_same to (read_home to count) (settled homes) in
      reach_front homes (map plain words) r.rest lines regs pc (tree (ends p) (Course_of (Read to place count ∷ program) standing)) (ap (λ (step : Homes × List Line). (map plain (all_waiting homes) ++ step.1) ++ r.rest) found.1 ∙ r.whole) waits some w
      (λ w'.
      let at = pc + length (all_waiting homes) in
      let length_is = row_length p site.behind (reading site.byte_word homes to place count) r.rest in
      roomy p None (length (reading site.byte_word homes to place count) + length r.rest) (length (map plain (reading site.byte_word homes to place count) ++ r.rest)) _ _ (omega arith)
      (direct_reads p site setting.pages setting.bytes setting.kinds (ends p) (length r.rest) (pc + length (all_waiting homes)) to place count r.rest known homes standing (begins homes regs) (λ value. Course_of program (with_value to value standing)) w' some x.0 have.0.0 have.0.1 have.0.2 found.0 d
      (λ value g fits d'.
      let good' = read_value Good opens (standing.temps place) count value (λ value. Course_of program (with_value to value standing)) size.0 size.1 fits good in
      direct_follows program homes' r.rest behind (with_value to value standing) g (pc + length (all_waiting homes) + length (reading site.byte_word homes to place count)) onward (row_rest p site.behind at words r.rest w') have.1 (later_flags (Read to place count) program reads) off' x.1
      (subst (λ (o : Option AlphaInstr). list_all is_operate (waiting_words o) ≡ true) (sym quiet.0) refl, subst (λ (o : Option AlphaInstr). list_all is_operate (waiting_words o) ≡ true) (sym quiet.1) refl)
      (subst (λ (o : Option AlphaInstr). Direct p site behind homes' (with_value to value standing) (effects (waiting_words homes'.waiting) (effects (waiting_words o) g))) (sym quiet.0)
      (subst (λ (o : Option AlphaInstr). Direct p site behind homes' (with_value to value standing) (effects (waiting_words o) g)) (sym quiet.1) d')) (later_sized (Read to place count) program sized) good')))
  direct_follows (Write place count source ∷ program) homes lines known standing regs pc e w have reads off walked waits d sized good =
      let x = walk_fits (write_fits known place count source) (behind_access known) (λ behind. walk site.sources behind program) (opened site.sources known (Write place count source) program off walked) in
      let r = reaching site codes homes (Write place count source) program lines e in
      let words = write_by site.byte_word (stands homes place) count (stands homes source) in
      let made : Homes × List Line = (settled homes, map plain (write_by site.byte_word (stands homes place) count (stands homes source))) in
      let found = where_true (may_write homes count source) made r.step r.is in
      let onward = subst (λ (step : Homes × List Line). direct_lines site codes step.0 program ≡ Some r.rest) (sym found.1) r.onward in
      let some = direct_some site codes program (settled homes) r.rest onward in
      let good' = write_done Good opens (parts (standing.temps place) count) (standing.temps source) (Course_of program standing) good in
      reach_front homes (map plain words) r.rest lines regs pc (tree (ends p) (Course_of (Write place count source ∷ program) standing)) (ap (λ (step : Homes × List Line). (map plain (all_waiting homes) ++ step.1) ++ r.rest) found.1 ∙ r.whole) waits some w
      (λ w'.
      let at = pc + length (all_waiting homes) in
      let length_is = row_length p site.behind (write_by site.byte_word (stands homes place) count (stands homes source)) r.rest in
      roomy p None (length (write_by site.byte_word (stands homes place) count (stands homes source)) + length r.rest) (length (map plain (write_by site.byte_word (stands homes place) count (stands homes source)) ++ r.rest)) _ _ (omega arith)
      (direct_writes p site setting.pages setting.bytes setting.kinds (ends p) (length r.rest) (pc + length (all_waiting homes)) place count source r.rest known homes standing (begins homes regs) (Course_of program standing) w' some x.0 have.0.0 have.0.1 have.0.2
      (eqb-true count setting.bytes (and_parts (count == setting.bytes) (list_all (has_bytes setting.bytes) program) sized).0) found.0 d
      (λ g d'.
      direct_follows program (settled homes) r.rest (behind_access known) standing g (pc + length (all_waiting homes) + length (write_by site.byte_word (stands homes place) count (stands homes source))) onward (row_rest p site.behind at words r.rest w') have.1 (later_flags (Write place count source) program reads) off x.1
      (refl, refl) d' (later_sized (Write place count source) program sized) good')))
  direct_follows (Locked to place kind source ∷ program) homes lines known standing regs pc e w have reads off walked waits d sized good = absurd (cc e)
  direct_follows (SetPsw source ∷ program) homes lines known standing regs pc e w have reads off walked waits d sized good = absurd (cc e)
