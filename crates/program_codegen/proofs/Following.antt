-- The words of a program follow its tree.
use Rattle.std.proofs.Common.{◌≡◌, ℕ, ◌+◌, ◌<◌, ◌≤◌, refl, sym, ◌∙◌, subst, arith, List, [], ◌∷◌, ◌++◌, length, map, Option, Some, None, Bool, true, false, lit≤, length-append}
use Rattle.std.specs.Prelude.{pos, ◌==◌, ◌&&◌, not, nat_le, option_and_then, if◌then◌else◌}
use Rattle.std.specs.List.{list_any, list_all}
use Rattle.std.proofs.lemmas.Bool.Decides.{nat_tests}
use Rattle.std.proofs.lemmas.Bool.{and_parts, or_left, or_right, eqb-false, eqb-true}
use Rattle.std.proofs.lemmas.List.{append-nil}
use Rattle.vax_form.specs.Parts.{parts}
use Rattle.vax_form.specs.Ranges.{IsInRange}
use Rattle.vax_form.specs.State.{Answers}
use Rattle.vax_form.specs.Tree.{Tree}
use Rattle.vax_form.specs.declared.instr.Size.{Size}
use Rattle.vax_form.specs.declared.state.Exception.TheVariants.{ReservedOperand}
use Rattle.vax_form.specs.declared.state.Reference.{Reference}
use Rattle.alpha_encode.specs.declared.instr.AlphaInstr.{AlphaInstr}
use Rattle.alpha_encode.specs.declared.instr.AlphaInstr.TheVariants.{Branch, Operate, Pal}
use Rattle.alpha_encode.specs.declared.instr.BranchOp.{BranchOp}
use Rattle.alpha_encode.specs.declared.instr.BranchOp.TheVariants.{Beq}
use Rattle.alpha_encode.specs.declared.instr.OperateOp.TheVariants as row
use Rattle.alpha_encode.specs.declared.instr.Second.TheVariants.{Literal}
use Rattle.alpha_meaning.specs.State.{Regs, at_place}
use Rattle.exception_records.specs.Codes.{is_ready}
use Rattle.micro_ops.specs.declared.codes.CodeSources.{CodeSources}
use Rattle.micro_ops.specs.declared.known.Checked.TheVariants.{At}
use Rattle.micro_ops.specs.declared.known.Holding.TheVariants.{Wide}
use Rattle.micro_ops.specs.declared.known.Known.{Known}
use Rattle.micro_ops.specs.declared.program.Arg.{Arg}
use Rattle.micro_ops.specs.declared.program.Exit.{Exit}
use Rattle.micro_ops.specs.declared.program.Exit.TheVariants.{Next, Fixed, Computed, Choice, Service, Breakpoint}
use Rattle.micro_ops.specs.declared.program.Micro.{Micro}
use Rattle.micro_ops.specs.declared.program.Micro.TheVariants.{Compute, Probe, Refuse, Read, Write, Locked, Commit, Codes, SetPsw, Leave}
use Rattle.micro_ops.specs.declared.program.MicroOp.{MicroOp}
use Rattle.micro_ops.specs.Course.{Course, Ask, Fault, AtLeaves}
use Rattle.micro_ops.specs.Fits.{step, walk, is_ended, check_fits, computation_fits, read_fits, write_fits, locked_fits, commit_fits, codes_fit, exit_fits, sources_fit, holding_of}
use Rattle.micro_ops.specs.Known.{holds, held, behind_write, behind_access, behind_commit}
use Rattle.micro_ops.specs.LeftOut.{is_left_out, is_low, is_used}
use Rattle.micro_ops.specs.Leaving.{CodesComeFrom}
use Rattle.micro_ops.specs.Meaning.{Standing, Left, with_temp, with_value, with_codes, value_of_arg, locked_count, course_of, leaves_by}
use Rattle.micro_ops.specs.Uses.{has_bytes, leaves_longword, takes, reads_flag, is_flag}
use Rattle.micro_ops.specs.Values.{computed}
use Rattle.micro_ops.proofs.Held.{held_other}
use Rattle.byte_sequences.specs.Words.{locked_code}
use Rattle.compute_sequences.specs.Words.{compute_code}
use Rattle.block_law.specs.Placements.{Placement}
use Rattle.block_law.proofs.Rules.{Always, roomy}
use Rattle.program_codegen.specs.declared.lines.Line.{Line}
use Rattle.program_codegen.specs.declared.points.Site.{Site}
use Rattle.program_codegen.specs.Words.{plain, marked, holder, copy, code_copied, serving, probing, raising, leaving, departing, trap_lines, lines_of, program_lines, read_by, write_by, departing_by}
use Rattle.program_codegen.specs.Programs.{HasWords, IsExit, ReadsReady, LeavesReady, rule_of}
use Rattle.program_codegen.proofs.Knowing.{walk_fits, nothing_behind, write_changes}
use Rattle.program_codegen.proofs.Walk.{Within, next, row_rest, row_length}
use Rattle.program_codegen.proofs.Holding.{Setting, Holds, HoldsAs, LeavingFollows, ProgramFollows, ends, found, tree}
use Rattle.program_codegen.proofs.Computing.{unchanged, computes, checks_written}
use Rattle.program_codegen.proofs.Operands.{count_some, read_value, write_done, locked_value}
use Rattle.program_codegen.proofs.Accessing.{checks, refuses, reads_operand, writes_operand, locks_operand}
use Rattle.program_codegen.proofs.Committing.{commits, sets_codes, sets_psw}

-- ---- lists
longer : (xs ys : List Line) → 1 ≤ length ys → 1 ≤ length (xs ++ ys)
longer xs ys some = let e = length-append xs ys in omega arith

-- ---- the walk
unless : (b : Bool) (o : Option Known) → b ≡ false → is_ended (if b then None else o) ≡ true → is_ended o ≡ true
unless true o off e = absurd (cc off)
unless false o off e = e

pub opened : (sources : CodeSources) (known : Known) (operation : Micro) (program : List Micro) → known.ended ≡ false → is_ended (walk sources known (operation ∷ program)) ≡ true
    → is_ended (option_and_then (λ behind. walk sources behind program) (step sources known operation)) ≡ true
opened sources known operation program off e = unless known.ended (option_and_then (λ behind. walk sources behind program) (step sources known operation)) off e

pub departs : (op : BranchOp) (site : Site) (exit : Exit) → 1 ≤ length (departing_by op site exit)
departs op site Next = lit≤ tt
departs op site (Fixed address) = lit≤ tt
departs op site (Computed temp) = lit≤ tt
departs op site (Choice when taken other) = lit≤ tt
departs op site (Service temp) = by (temp == 0)
  where
    by : (b : Bool) → 1 ≤ length (code_copied b temp ++ serving site)
    by true = lit≤ tt
    by false = lit≤ tt
departs op site Breakpoint = lit≤ tt

-- a program that leaves has words
module _ (site : Site) (codes : List AlphaInstr) where
  pub lines_some : (program : List Micro) (known : Known) → known.ended ≡ false → is_ended (walk site.sources known program) ≡ true → 1 ≤ length (program_lines site codes program)
  unfolding step
  lines_some [] known off e = absurd (cc (sym off ∙ e))
  lines_some (Compute to op size a b ∷ program) known off e =
      let behind = behind_write to (holding_of (leaves_longword (Compute to op size a b))) known in
      let x = walk_fits (computation_fits known to op a b) behind (λ behind. walk site.sources behind program) (opened site.sources known (Compute to op size a b) program off e) in
      longer (lines_of site codes (Compute to op size a b) program) (program_lines site codes program) (lines_some program behind ((write_changes to (holding_of (leaves_longword (Compute to op size a b))) known).ended ∙ off) x.1)
  lines_some (Probe place count write ∷ program) known off e =
      let behind = behind_access (record known { checked = At place count write }) in
      let x = walk_fits (check_fits known place count) behind (λ behind. walk site.sources behind program) (opened site.sources known (Probe place count write) program off e) in
      longer (lines_of site codes (Probe place count write) program) (program_lines site codes program) (lines_some program behind off x.1)
  lines_some (Refuse when ∷ program) known off e =
      let x = walk_fits (not known.changed && holds known when) known (λ behind. walk site.sources behind program) (opened site.sources known (Refuse when) program off e) in
      longer (lines_of site codes (Refuse when) program) (program_lines site codes program) (lines_some program known off x.1)
  lines_some (Read to place count ∷ program) known off e =
      let behind = behind_access (behind_write to (holding_of (nat_le count 4)) known) in
      let x = walk_fits (read_fits known to place count) behind (λ behind. walk site.sources behind program) (opened site.sources known (Read to place count) program off e) in
      longer (lines_of site codes (Read to place count) program) (program_lines site codes program) (lines_some program behind ((write_changes to (holding_of (nat_le count 4)) known).ended ∙ off) x.1)
  lines_some (Write place count source ∷ program) known off e =
      let x = walk_fits (write_fits known place count source) (behind_access known) (λ behind. walk site.sources behind program) (opened site.sources known (Write place count source) program off e) in
      longer (lines_of site codes (Write place count source) program) (program_lines site codes program) (lines_some program (behind_access known) off x.1)
  lines_some (Locked to place kind source ∷ program) known off e =
      let behind = behind_access (behind_write to Wide known) in
      let x = walk_fits (locked_fits known to place (locked_count kind) source) behind (λ behind. walk site.sources behind program) (opened site.sources known (Locked to place kind source) program off e) in
      longer (lines_of site codes (Locked to place kind source) program) (program_lines site codes program) (lines_some program behind ((write_changes to Wide known).ended ∙ off) x.1)
  lines_some (Commit number source ∷ program) known off e =
      let x = walk_fits (commit_fits known number source) (behind_commit number known) (λ behind. walk site.sources behind program) (opened site.sources known (Commit number source) program off e) in
      longer (lines_of site codes (Commit number source) program) (program_lines site codes program) (lines_some program (behind_commit number known) off x.1)
  lines_some (Codes n z v c ∷ program) known off e =
      let x = walk_fits (codes_fit known n z v c) (record known { codes = true; changed = true }) (λ behind. walk site.sources behind program) (opened site.sources known (Codes n z v c) program off e) in
      lines_some program (record known { codes = true; changed = true }) off x.1
  lines_some (SetPsw source ∷ program) known off e =
      let x = walk_fits (not known.psw && holds known source) (record known { psw = true; changed = true }) (λ behind. walk site.sources behind program) (opened site.sources known (SetPsw source) program off e) in
      longer (lines_of site codes (SetPsw source) program) (program_lines site codes program) (lines_some program (record known { psw = true; changed = true }) off x.1)
  lines_some (Leave exit ∷ program) known off e =
      let some = departs Beq site exit in
      let a = length-append (leaving site codes exit) (program_lines site codes program) in
      let b = length-append (map plain codes) (trap_lines site exit ++ departing site exit) in
      let c = length-append (trap_lines site exit) (departing site exit) in
      omega arith

-- ---- the program
module _ (p : Placement) (site : Site) (codes : List AlphaInstr) (setting : Setting p site codes) (leaves : LeavingFollows p site codes) where
  abbrev Course_of : List Micro → Standing → Course Left
  Course_of program standing = course_of program (found p site) standing

  -- the rest of a course stays in range, and its codes come from the sources
  abbrev Good : Course Left → Type 0
  Good course = IsInRange p.pages (tree (ends p) course) × AtLeaves (CodesComeFrom site.sources p.begun) course

  opens : (reference : Reference) (on : ℕ → Course Left) (reply : ℕ) → Good (Ask reference on) → Answers reference reply → Good (on reply)
  opens reference on reply good ok = (good.0.1 reply ok, good.1 reply ok)

  -- behind a refusal that passes
  passed : (b : Bool) (P : Course Left → Type 0) (course fault : Course Left) → b ≡ true → P (if b then course else fault) → P course
  passed true P course fault e h = h
  passed false P course fault e h = absurd (cc e)

  passed_range : (standing : Standing) (when : ℕ) (program : List Micro) → (standing.temps when == 0) ≡ true → IsInRange p.pages (tree (ends p) (Course_of (Refuse when ∷ program) standing)) → IsInRange p.pages (tree (ends p) (Course_of program standing))
  passed_range standing when program e h = passed (standing.temps when == 0) (λ course. IsInRange p.pages (tree (ends p) course)) (Course_of program standing) (Fault ReservedOperand) e h

  passed_agree : (standing : Standing) (when : ℕ) (program : List Micro) → (standing.temps when == 0) ≡ true → AtLeaves (CodesComeFrom site.sources p.begun) (Course_of (Refuse when ∷ program) standing) → AtLeaves (CodesComeFrom site.sources p.begun) (Course_of program standing)
  passed_agree standing when program e h = passed (standing.temps when == 0) (AtLeaves (CodesComeFrom site.sources p.begun)) (Course_of program standing) (Fault ReservedOperand) e h

  -- a computation that is left out goes into a temporary above 5
  left_out : (known : Known) (standing : Standing) (regs : Regs) (to : ℕ) (op : MicroOp) (size : Size) (a b : Arg) (program : List Micro) (value : ℕ) → is_left_out site.sources (Compute to op size a b) program ≡ true
      → Holds p site known standing regs → Holds p site (behind_write to (holding_of (leaves_longword (Compute to op size a b))) known) (with_value to value standing) regs
  left_out known standing regs to op size a b program value out h =
      unchanged p site known (behind_write to (holding_of (leaves_longword (Compute to op size a b))) known) standing (with_temp to value standing.temps) regs regs
      (write_changes to (holding_of (leaves_longword (Compute to op size a b))) known) (λ n kept. refl) refl
      (λ temp lt.
      let e = another temp lt (and_parts (not (is_low to)) (not (is_used site.sources program to)) out).0 in
      subst (λ h. HoldsAs h (with_temp to value standing.temps temp) (regs (21 + temp))) (sym (held_other (holding_of (leaves_longword (Compute to op size a b))) known to temp (eqb-false temp to e)))
      (subst (λ v. HoldsAs (held known temp) v (regs (21 + temp))) (sym (kept_value temp e)) (h.temps temp lt)))
      (checks_written p.pages to value known.checked standing.temps h.checked) h
    where
      another : (temp : ℕ) → temp < 6 → not (is_low to) ≡ true → (temp == to) ≡ false
      another temp lt e = grind (arith, nat_tests, e)

      kept_value : (temp : ℕ) → (temp == to) ≡ false → with_temp to value standing.temps temp ≡ standing.temps temp
      kept_value temp e = rw e refl

  -- the words of a computation, or none, and then the rest
  computing_follows : (to : ℕ) (op : MicroOp) (size : Size) (a b : Arg) (program : List Micro) (known : Known) (standing : Standing) (regs : Regs) (pc : ℕ) (t : Tree)
      → Within p site.behind pc (lines_of site codes (Compute to op size a b) program ++ program_lines site codes program) → 1 ≤ length (program_lines site codes program)
      → computation_fits known to op a b ≡ true → HasWords site.sources (Compute to op size a b) program
      → ((flag : ℕ) → flag < 4 → takes (is_flag flag) op a b ≡ true → is_ready (rule_of flag site.before) ≡ true)
      → Holds p site known standing regs
      → ((regs' : Regs) (pc' : ℕ) → Within p site.behind pc' (program_lines site codes program)
      → Holds p site (behind_write to (holding_of (leaves_longword (Compute to op size a b))) known)
      (with_value to (computed op size (value_of_arg (found p site) standing.temps a) (value_of_arg (found p site) standing.temps b) (standing.temps to)) standing) regs'
      → Always p None (length (program_lines site codes program)) (at_place regs' pc') t)
      → Always p None (length (lines_of site codes (Compute to op size a b) program ++ program_lines site codes program)) (at_place regs pc) t
  computing_follows to op size a b program known standing regs pc t w some fits has ready h later = by (is_left_out site.sources (Compute to op size a b) program) refl w
    where
      by : (out : Bool) → is_left_out site.sources (Compute to op size a b) program ≡ out
          → Within p site.behind pc ((if out then [] else map plain (compute_code op size a b (holder to))) ++ program_lines site codes program)
          → Always p None (length ((if out then [] else map plain (compute_code op size a b (holder to))) ++ program_lines site codes program)) (at_place regs pc) t
      by true e w = later regs pc w (left_out known standing regs to op size a b program _ e h)
      by false e w =
          let x = has e in
          let count = row_length p site.behind (compute_code op size a b (21 + to)) (program_lines site codes program) in
          roomy p None (length (compute_code op size a b (21 + to)) + length (program_lines site codes program)) (length (map plain (compute_code op size a b (21 + to)) ++ program_lines site codes program)) (at_place regs pc) t (omega arith)
          (computes p site (length (program_lines site codes program)) pc to op size a b (program_lines site codes program) known standing regs t w some fits x.0 x.1 x.2 ready h
          (λ g h'. later g (pc + length (compute_code op size a b (21 + to))) (row_rest p site.behind pc (compute_code op size a b (21 + to)) (program_lines site codes program) w) h'))

  ending_follows : (exit : Exit) (program : List Micro) (known : Known) (standing : Standing) (regs : Regs) (pc : ℕ) → program ≡ []
      → Within p site.behind pc (leaving site codes exit ++ program_lines site codes program)
      → IsExit exit → exit_fits known exit ≡ true → sources_fit site.sources known ≡ true → LeavesReady site.behind (Leave exit ∷ program) → Holds p site known standing regs
      → AtLeaves (CodesComeFrom site.sources p.begun) (leaves_by exit (found p site) standing)
      → Always p None (length (leaving site codes exit ++ program_lines site codes program)) (at_place regs pc) (tree (ends p) (leaves_by exit (found p site) standing))
  ending_follows exit [] known standing regs pc e w is fits come ready h agree =
      subst (λ xs. Always p None (length xs) (at_place regs pc) (tree (ends p) (leaves_by exit (found p site) standing))) (sym (append-nil (leaving site codes exit)))
      (leaves exit known standing regs pc (subst (Within p site.behind pc) (append-nil (leaving site codes exit)) w) is fits come ready h agree)
  ending_follows exit (operation ∷ program) known standing regs pc e w is fits come ready h agree = absurd (cc e)

  two_words : (pc : ℕ) → pc + 1 + 1 ≡ pc + 2
  two_words pc = omega arith

  later_sized : (operation : Micro) (program : List Micro) → list_all (has_bytes setting.bytes) (operation ∷ program) ≡ true → list_all (has_bytes setting.bytes) program ≡ true
  later_sized operation program sized = (and_parts (has_bytes setting.bytes operation) (list_all (has_bytes setting.bytes) program) sized).1

  later_flags : (operation : Micro) (program : List Micro) → ReadsReady site.before (operation ∷ program) → ReadsReady site.before program
  later_flags operation program reads flag lt is = reads flag lt (or_right (reads_flag flag operation) (list_any (reads_flag flag) program) is)

  pub follows : ProgramFollows p site codes setting.bytes
  unfolding step
  follows [] known standing regs pc w sized words reads ready off e h range agree = absurd (cc (sym off ∙ e))
  follows (Compute to op size a b ∷ program) known standing regs pc w sized words reads ready off e h range agree =
      let behind = behind_write to (holding_of (leaves_longword (Compute to op size a b))) known in
      let x = walk_fits (computation_fits known to op a b) behind (λ behind. walk site.sources behind program) (opened site.sources known (Compute to op size a b) program off e) in
      let off' = (write_changes to (holding_of (leaves_longword (Compute to op size a b))) known).ended ∙ off in
      computing_follows to op size a b program known standing regs pc (tree (ends p) (Course_of (Compute to op size a b ∷ program) standing)) w (lines_some site codes program behind off' x.1) x.0 words.0
      (λ flag lt is. reads flag lt (or_left (reads_flag flag (Compute to op size a b)) (list_any (reads_flag flag) program) is)) h
      (λ regs' pc' w' h'. follows program behind _ regs' pc' w' (later_sized (Compute to op size a b) program sized) words.1 (later_flags (Compute to op size a b) program reads) ready off' x.1 h' range agree)
  follows (Probe place count write ∷ program) known standing regs pc w sized words reads ready off e h range agree =
      let behind = behind_access (record known { checked = At place count write }) in
      let x = walk_fits (check_fits known place count) behind (λ behind. walk site.sources behind program) (opened site.sources known (Probe place count write) program off e) in
      let lines = program_lines site codes program in
      let w1 = next p site.behind pc (copy (holder place) 27) None (marked (Pal 0x80) (probing site count write) ∷ lines) w in
      let w2 = subst (λ q. Within p site.behind q lines) (two_words pc) (next p site.behind (pc + 1) (Pal 0x80) (Some (probing site count write)) lines w1) in
      roomy p None (2 + length lines) (length (lines_of site codes (Probe place count write) program ++ lines)) (at_place regs pc) _ (omega arith)
      (checks p site (ends p) (length lines) pc place count write lines known standing regs (Course_of program standing) w (lines_some site codes program behind off x.1) x.0 words.0.0 words.0.1 h
      (λ g ok h'. follows program behind standing g (pc + 2) w2 (later_sized (Probe place count write) program sized) words.1 (later_flags (Probe place count write) program reads) ready off x.1 h' (range ok) agree))
  follows (Refuse when ∷ program) known standing regs pc w sized words reads ready off e h range agree =
      let x = walk_fits (not known.changed && holds known when) known (λ behind. walk site.sources behind program) (opened site.sources known (Refuse when) program off e) in
      let lines = program_lines site codes program in
      let w1 = next p site.behind pc (Branch Beq (holder when) (pos 1)) None (marked (Pal 0x83) (raising site 0x18) ∷ lines) w in
      let w2 = subst (λ q. Within p site.behind q lines) (two_words pc) (next p site.behind (pc + 1) (Pal 0x83) (Some (raising site 0x18)) lines w1) in
      roomy p None (2 + length lines) (length (lines_of site codes (Refuse when) program ++ lines)) (at_place regs pc) _ (omega arith)
      (refuses p site (ends p) (length lines) pc when lines known standing regs (Course_of program standing) w (lines_some site codes program known off x.1) x.0 words.0 h
      (λ zero_is. follows program known standing regs (pc + 2) w2 (later_sized (Refuse when) program sized) words.1 (later_flags (Refuse when) program reads) ready off x.1 h
      (passed_range standing when program zero_is range) (passed_agree standing when program zero_is agree)))
  follows (Read to place count ∷ program) known standing regs pc w sized words reads ready off e h range agree =
      let behind = behind_access (behind_write to (holding_of (nat_le count 4)) known) in
      let x = walk_fits (read_fits known to place count) behind (λ behind. walk site.sources behind program) (opened site.sources known (Read to place count) program off e) in
      let off' = (write_changes to (holding_of (nat_le count 4)) known).ended ∙ off in
      let lines = program_lines site codes program in
      let size = count_some words.0.2 in
      let length_is = row_length p site.behind (read_by site.byte_word (21 + place) count (21 + to)) lines in
      roomy p None (length (read_by site.byte_word (21 + place) count (21 + to)) + length lines) (length (map plain (read_by site.byte_word (21 + place) count (21 + to)) ++ lines)) (at_place regs pc) _ (omega arith)
      (reads_operand p site setting.pages setting.bytes setting.kinds (ends p) (length lines) pc to place count lines known standing regs (λ value. Course_of program (with_value to value standing)) w (lines_some site codes program behind off' x.1) x.0 words.0.0 words.0.1 words.0.2 h
      (λ value g fits h'.
      let good = read_value Good opens (standing.temps place) count value (λ value. Course_of program (with_value to value standing)) size.0 size.1 fits (range, agree) in
      follows program behind (with_value to value standing) g (pc + length (read_by site.byte_word (21 + place) count (21 + to))) (row_rest p site.behind pc (read_by site.byte_word (21 + place) count (21 + to)) lines w) (later_sized (Read to place count) program sized) words.1 (later_flags (Read to place count) program reads) ready off' x.1 h' good.0 good.1))
  follows (Write place count source ∷ program) known standing regs pc w sized words reads ready off e h range agree =
      let x = walk_fits (write_fits known place count source) (behind_access known) (λ behind. walk site.sources behind program) (opened site.sources known (Write place count source) program off e) in
      let lines = program_lines site codes program in
      let length_is = row_length p site.behind (write_by site.byte_word (21 + place) count (21 + source)) lines in
      let good = write_done Good opens (parts (standing.temps place) count) (standing.temps source) (Course_of program standing) (range, agree) in
      roomy p None (length (write_by site.byte_word (21 + place) count (21 + source)) + length lines) (length (map plain (write_by site.byte_word (21 + place) count (21 + source)) ++ lines)) (at_place regs pc) _ (omega arith)
      (writes_operand p site setting.pages setting.bytes setting.kinds (ends p) (length lines) pc place count source lines known standing regs (Course_of program standing) w (lines_some site codes program (behind_access known) off x.1) x.0 words.0.0 words.0.1 words.0.2 (eqb-true count setting.bytes (and_parts (count == setting.bytes) (list_all (has_bytes setting.bytes) program) sized).0) h
      (λ g h'. follows program (behind_access known) standing g (pc + length (write_by site.byte_word (21 + place) count (21 + source))) (row_rest p site.behind pc (write_by site.byte_word (21 + place) count (21 + source)) lines w) (later_sized (Write place count source) program sized) words.1 (later_flags (Write place count source) program reads) ready off x.1 h' good.0 good.1))
  follows (Locked to place kind source ∷ program) known standing regs pc w sized words reads ready off e h range agree =
      let behind = behind_access (behind_write to Wide known) in
      let x = walk_fits (locked_fits known to place (locked_count kind) source) behind (λ behind. walk site.sources behind program) (opened site.sources known (Locked to place kind source) program off e) in
      let off' = (write_changes to Wide known).ended ∙ off in
      let lines = program_lines site codes program in
      let length_is = row_length p site.behind (locked_code kind (21 + place) (21 + source) (21 + to)) lines in
      roomy p None (length (locked_code kind (21 + place) (21 + source) (21 + to)) + length lines) (length (map plain (locked_code kind (21 + place) (21 + source) (21 + to)) ++ lines)) (at_place regs pc) _ (omega arith)
      (locks_operand p site setting.pages setting.bytes setting.kinds (ends p) (length lines) pc to place kind source lines known standing regs (λ value. Course_of program (with_value to value standing)) w (lines_some site codes program behind off' x.1) x.0
      words.0.0 words.0.1 words.0.2 words.0.3 words.0.4 range.0 h
      (λ value g fits h'.
      let good = locked_value Good opens kind (standing.temps place) (standing.temps source) value (λ value. Course_of program (with_value to value standing)) fits (range, agree) in
      follows program behind (with_value to value standing) g (pc + length (locked_code kind (21 + place) (21 + source) (21 + to))) (row_rest p site.behind pc (locked_code kind (21 + place) (21 + source) (21 + to)) lines w) (later_sized (Locked to place kind source) program sized) words.1 (later_flags (Locked to place kind source) program reads) ready off' x.1 h' good.0 good.1))
  follows (Commit number source ∷ program) known standing regs pc w sized words reads ready off e h range agree =
      let x = walk_fits (commit_fits known number source) (behind_commit number known) (λ behind. walk site.sources behind program) (opened site.sources known (Commit number source) program off e) in
      let lines = program_lines site codes program in
      roomy p None (1 + length lines) (length (lines_of site codes (Commit number source) program ++ lines)) (at_place regs pc) _ (omega arith)
      (commits p site (length lines) pc number source lines known standing regs (tree (ends p) (Course_of (Commit number source ∷ program) standing)) w (lines_some site codes program (behind_commit number known) off x.1) x.0 words.0.0 words.0.1 h
      (λ g h'. follows program (behind_commit number known) _ g (pc + 1) (next p site.behind pc (Operate row.Addl (holder source) (Literal 0) number) None lines w) (later_sized (Commit number source) program sized) words.1 (later_flags (Commit number source) program reads) ready off x.1 h' range agree))
  follows (Codes n z v c ∷ program) known standing regs pc w sized words reads ready off e h range agree =
      let x = walk_fits (codes_fit known n z v c) (record known { codes = true; changed = true }) (λ behind. walk site.sources behind program) (opened site.sources known (Codes n z v c) program off e) in
      follows program (record known { codes = true; changed = true }) (with_codes n z v c standing) regs pc w (later_sized (Codes n z v c) program sized) words.1 (later_flags (Codes n z v c) program reads) ready off x.1 (sets_codes p site n z v c known standing regs h) range agree
  follows (SetPsw source ∷ program) known standing regs pc w sized words reads ready off e h range agree =
      let x = walk_fits (not known.psw && holds known source) (record known { psw = true; changed = true }) (λ behind. walk site.sources behind program) (opened site.sources known (SetPsw source) program off e) in
      let lines = program_lines site codes program in
      roomy p None (1 + length lines) (length (lines_of site codes (SetPsw source) program ++ lines)) (at_place regs pc) _ (omega arith)
      (sets_psw p site (length lines) pc source lines known standing regs (tree (ends p) (Course_of (SetPsw source ∷ program) standing)) w (lines_some site codes program (record known { psw = true; changed = true }) off x.1) (and_parts (not known.psw) (holds known source) x.0).1 words.0 h
      (λ g h'. follows program (record known { psw = true; changed = true }) _ g (pc + 1) (next p site.behind pc (Operate row.And (holder source) (Literal 0xF0) 20) None lines w) (later_sized (SetPsw source) program sized) words.1 (later_flags (SetPsw source) program reads) ready off x.1 h' range agree))
  follows (Leave exit ∷ program) known standing regs pc w sized words reads ready off e h range agree =
      let x = walk_fits (exit_fits known exit && sources_fit site.sources known) (record known { ended = true }) (λ behind. walk site.sources behind program) (opened site.sources known (Leave exit) program off e) in
      let fits = and_parts (exit_fits known exit) (sources_fit site.sources known) x.0 in
      ending_follows exit program known standing regs pc (nothing_behind site.sources (record known { ended = true }) program refl x.1) w words.0 fits.0 fits.1 ready h agree
