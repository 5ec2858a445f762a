-- The lines of a program by themselves.
use Rattle.std.proofs.Common.{◌≡◌, ℕ, ◌+◌, ◌^◌, ◌<◌, ◌≤◌, refl, sym, ap, ◌∙◌, subst, arith, List, [], ◌∷◌, ◌++◌, length, map, Bool, true, false, lit<, lit≤}
use Rattle.std.proofs.lemmas.Bool.{and_parts, not-true}
use Rattle.std.proofs.lemmas.List.{append-nil}
use Rattle.std.specs.Prelude.{pos, ◌&&◌, not, nat_le, All, if◌then◌else◌}
use Rattle.std.specs.List.{list_all, list_any}
use Rattle.vax_form.specs.declared.instr.Size.{Size}
use Rattle.alpha_encode.specs.Words.{IsEncodable}
use Rattle.alpha_encode.specs.declared.instr.AlphaInstr.{AlphaInstr}
use Rattle.alpha_encode.specs.declared.instr.AlphaInstr.TheVariants.{Branch, Operate, Pal}
use Rattle.alpha_encode.specs.declared.instr.BranchOp.TheVariants.{Beq}
use Rattle.alpha_encode.specs.declared.instr.OperateOp.TheVariants as row
use Rattle.alpha_encode.specs.declared.instr.Second.TheVariants.{Literal}
use Rattle.alpha_meaning.specs.Loops.{fine}
use Rattle.micro_ops.specs.declared.known.Checked.TheVariants.{At}
use Rattle.micro_ops.specs.declared.known.Holding.TheVariants.{Wide}
use Rattle.micro_ops.specs.declared.known.Known.{Known}
use Rattle.micro_ops.specs.declared.program.Arg.{Arg}
use Rattle.micro_ops.specs.declared.program.Exit.{Exit}
use Rattle.micro_ops.specs.declared.program.Micro.{Micro}
use Rattle.micro_ops.specs.declared.program.Micro.TheVariants.{Compute, Probe, Refuse, Read, Write, Locked, Commit, Codes, SetPsw, Leave}
use Rattle.micro_ops.specs.declared.program.MicroOp.{MicroOp}
use Rattle.micro_ops.specs.Fits.{step, walk, is_ended, check_fits, computation_fits, read_fits, write_fits, locked_fits, commit_fits, codes_fit, exit_fits, sources_fit, place_fits, reference_fits, are_apart, is_count, holding_of}
use Rattle.micro_ops.specs.Known.{holds, holds_longword, is_checked, behind_write, behind_access, behind_commit}
use Rattle.micro_ops.specs.LeftOut.{is_left_out}
use Rattle.micro_ops.specs.Meaning.{locked_count}
use Rattle.micro_ops.specs.Uses.{leaves_longword}
use Rattle.micro_ops.specs.WordCounts.{words_of as count_of, program_words}
use Rattle.byte_sequences.specs.Words.{locked_code}
use Rattle.compute_sequences.specs.Words.{compute_code}
use Rattle.compute_sequences.specs.Promises.{changes_only}
use Rattle.compute_sequences.specs.Registers.{may_change}
use Rattle.compute_sequences.proofs.WholeLaws.{computed_length, computed_encodable, computed_writes}
use Rattle.block_law.specs.CodeWords.{may_be_written}
use Rattle.block_law.specs.Tidy.{may_fault}
use Rattle.micro_ops.specs.Exits.{addresses_of, exit_addresses}
use Rattle.program_codegen.specs.declared.lines.Line.{Line}
use Rattle.program_codegen.specs.declared.points.Site.{Site}
use Rattle.program_codegen.specs.Words.{plain, marked, holder, copy, probing, raising, leaving, program_lines, words_of, read_by, write_by}
use Rattle.program_codegen.specs.Programs.{HasWords, AllHaveWords, KeepsTogether, IsExit}
use Rattle.program_codegen.proofs.Numbers.{all_three, all_four, all_five}
use Rattle.program_codegen.proofs.Knowing.{walk_fits, nothing_behind, write_changes}
use Rattle.program_codegen.proofs.Walk.{plain_length}
use Rattle.program_codegen.proofs.Shapes.{plain_fits, call_fits}
use Rattle.program_codegen.proofs.Following.{opened}
use Rattle.program_codegen.proofs.Rows.{is_free, is_own, is_silent, list_all_of, own_free, changes_silent, read_encodable, write_encodable, locked_encodable, read_own, write_own, locked_own, read_short, write_short, locked_short, branch_encodable}
use Rattle.program_codegen.proofs.Fronts.{row_words_are, Front, row_front, line_front, front_append, Shape, silent_front, free_front, change_front}
use Rattle.program_codegen.proofs.Endings.{leave_shape, above_codes, below_codes}

module _ (site : Site) where
  -- ---- the lines of operations that may fault
  abbrev pub Faulting : ℕ → List Line → Type 0
  Faulting most lines = Front site lines × (list_all is_free (words_of lines) ≡ true) × (length lines ≤ most)

  pub faulting_row : (most : ℕ) (is : List AlphaInstr) → All IsEncodable is → list_all is_own is ≡ true → length is ≤ most → Faulting most (map plain is)
  faulting_row most is encodable own few = (
    row_front site is encodable own,
    ap (list_all is_free) (row_words_are is) ∙ list_all_of is_own is_free own_free is own,
    let count = plain_length is in omega arith,
  )

  pub probe_lines : (place count : ℕ) (write : Bool) → place < 6 → Faulting 2 (plain (copy (holder place) 27) ∷ marked (Pal 0x80) (probing site count write) ∷ [])
  probe_lines place count write lt = (
    front_append site (plain (copy (holder place) 27) ∷ []) (marked (Pal 0x80) (probing site count write) ∷ [])
        (line_front site (plain (copy (holder place) 27)) refl (plain_fits site (copy (holder place) 27) (omega arith, lit< tt, lit< tt) refl) (λ r low high. above_codes 27 r (lit≤ tt) high))
        (line_front site (marked (Pal 0x80) (probing site count write)) refl (call_fits site 0x80 (probing site count write) (lit≤ tt) (lit≤ tt) refl refl refl refl) (λ r low high. above_codes 31 r (lit≤ tt) high)),
    refl,
    lit≤ tt,
  )

  refuse_lines : (when : ℕ) → when < 6 → Faulting 2 (plain (Branch Beq (holder when) (pos 1)) ∷ marked (Pal 0x83) (raising site 0x18) ∷ [])
  refuse_lines when lt = (
    front_append site (plain (Branch Beq (holder when) (pos 1)) ∷ []) (marked (Pal 0x83) (raising site 0x18) ∷ [])
        (line_front site (plain (Branch Beq (holder when) (pos 1))) refl (plain_fits site (Branch Beq (holder when) (pos 1)) (branch_encodable Beq (21 + when) 1 (omega arith) (lit< tt)) refl) (λ r low high. above_codes 31 r (lit≤ tt) high))
        (line_front site (marked (Pal 0x83) (raising site 0x18)) refl (call_fits site 0x83 (raising site 0x18) (lit≤ tt) (lit≤ tt) refl refl refl refl) (λ r low high. above_codes 31 r (lit≤ tt) high)),
    refl,
    lit≤ tt,
  )

  -- ---- those of changes
  abbrev pub Changing : ℕ → List Line → Type 0
  Changing most lines = Front site lines × (list_any may_fault (words_of lines) ≡ false) × (length lines ≤ most)

  pub commit_lines : (number source : ℕ) → number < 15 → source < 6 → Changing 1 (plain (Operate row.Addl (holder source) (Literal 0) number) ∷ [])
  commit_lines number source lt source_lt = (
    line_front site (plain (Operate row.Addl (holder source) (Literal 0) number)) refl (plain_fits site (Operate row.Addl (holder source) (Literal 0) number) (omega arith, lit< tt, omega arith) refl) (λ r low high. below_codes number r (omega arith) low),
    refl,
    lit≤ tt,
  )

  psw_lines : (source : ℕ) → source < 6 → Changing 1 (plain (Operate row.And (holder source) (Literal 0xF0) 20) ∷ [])
  psw_lines source lt = (
    line_front site (plain (Operate row.And (holder source) (Literal 0xF0) 20)) refl (plain_fits site (Operate row.And (holder source) (Literal 0xF0) 20) (omega arith, lit< tt, lit< tt) refl) (λ r low high. above_codes 20 r (lit≤ tt) high),
    refl,
    lit≤ tt,
  )

module _ (site : Site) (codes : List AlphaInstr) (after_fits : site.after < 2 ^ 32) (encodable : All IsEncodable codes) (few : length codes ≤ 32) (only : list_all (fine (may_be_written site.sources)) codes ≡ true) (together : KeepsTogether site.sources) where
  abbrev IsQuiet : Known → Type 0
  IsQuiet known = known.changed ≡ false → (known.codes ≡ false) × (known.psw ≡ false)

  abbrev ShapeOf : Bool → List Micro → Type 0
  ShapeOf changed program = Shape site changed codes (addresses_of site.after program) (program_words site.sources program + 59) (program_lines site codes program)

  computed_shape : (to : ℕ) (op : MicroOp) (size : Size) (a b : Arg) (program : List Micro) (changed : Bool) → HasWords site.sources (Compute to op size a b) program → ShapeOf changed program → ShapeOf changed (Compute to op size a b ∷ program)
  computed_shape to op size a b program changed has shape = by (is_left_out site.sources (Compute to op size a b) program) refl
    where
      by : (out : Bool) → is_left_out site.sources (Compute to op size a b) program ≡ out
          → Shape site changed codes (addresses_of site.after program) ((if out then 0 else count_of (Compute to op size a b)) + program_words site.sources program + 59)
          ((if out then [] else map plain (compute_code op size a b (holder to))) ++ program_lines site codes program)
      by true e = let short = shape.short in record { each = shape.each; kept = shape.kept; goes = shape.goes; writes = shape.writes; short = omega arith }
      by false e =
          let x = has e in
          let count = plain_length (compute_code op size a b (21 + to)) in
          let most = computed_length op size a b (21 + to) in
          silent_front site codes (addresses_of site.after program) changed (count_of (Compute to op size a b)) (program_words site.sources program + 59) _ (compute_code op size a b (21 + to)) (program_lines site codes program)
          (computed_encodable a b (21 + to) x.1 x.0 op size x.2)
          (list_all_of (changes_only (may_change (21 + to))) is_silent (changes_silent (21 + to) x.0) (compute_code op size a b (21 + to)) (computed_writes a b (21 + to) x.1 x.0 op size x.2))
          (omega arith) (omega arith) shape

  ending_shape : (exit : Exit) (program : List Micro) (known : Known) → program ≡ [] → IsExit exit → exit_fits known exit ≡ true → sources_fit site.sources known ≡ true → IsQuiet known → ShapeOf known.changed (Leave exit ∷ program)
  ending_shape exit [] known e is fits come quiet =
      subst (λ lines. Shape site known.changed codes (exit_addresses site.after exit ++ []) 59 lines) (sym (append-nil (leaving site codes exit)))
      (subst (λ addresses. Shape site known.changed codes addresses 59 (leaving site codes exit)) (sym (append-nil (exit_addresses site.after exit))) (leave_shape site codes after_fits encodable few only together exit known is fits come quiet))
  ending_shape exit (operation ∷ program) known e is fits come quiet = absurd (cc e)

  pub program_shape : (program : List Micro) (known : Known) → known.ended ≡ false → is_ended (walk site.sources known program) ≡ true → AllHaveWords site.sources program → IsQuiet known → ShapeOf known.changed program
  unfolding step
  program_shape [] known off e words quiet = absurd (cc (sym off ∙ e))
  program_shape (Compute to op size a b ∷ program) known off e words quiet =
      let behind = behind_write to (holding_of (leaves_longword (Compute to op size a b))) known in
      let same = write_changes to (holding_of (leaves_longword (Compute to op size a b))) known in
      let x = walk_fits (computation_fits known to op a b) behind (λ behind. walk site.sources behind program) (opened site.sources known (Compute to op size a b) program off e) in
      computed_shape to op size a b program known.changed words.0
      (subst (λ changed. ShapeOf changed program) same.changed (program_shape program behind (same.ended ∙ off) x.1 words.1 (λ c. let y = quiet (sym same.changed ∙ c) in (same.codes ∙ y.0, same.psw ∙ y.1))))
  program_shape (Probe place count write ∷ program) known off e words quiet =
      let behind = behind_access (record known { checked = At place count write }) in
      let x = walk_fits (check_fits known place count) behind (λ behind. walk site.sources behind program) (opened site.sources known (Probe place count write) program off e) in
      let y = and_parts (not known.changed) (holds_longword known place) (and_parts (is_count count) (place_fits known place) x.0).1 in
      let front = probe_lines site place count write words.0.0 in
      free_front site codes (addresses_of site.after program) known.changed 2 (program_words site.sources program + 59) _ _ (program_lines site codes program) (not-true known.changed y.0) front.0 front.1 front.2 (omega arith)
      (program_shape program behind off x.1 words.1 quiet)
  program_shape (Refuse when ∷ program) known off e words quiet =
      let x = walk_fits (not known.changed && holds known when) known (λ behind. walk site.sources behind program) (opened site.sources known (Refuse when) program off e) in
      let y = and_parts (not known.changed) (holds known when) x.0 in
      let front = refuse_lines site when words.0 in
      free_front site codes (addresses_of site.after program) known.changed 2 (program_words site.sources program + 59) _ _ (program_lines site codes program) (not-true known.changed y.0) front.0 front.1 front.2 (omega arith)
      (program_shape program known off x.1 words.1 quiet)
  program_shape (Read to place count ∷ program) known off e words quiet =
      let behind = behind_access (behind_write to (holding_of (nat_le count 4)) known) in
      let same = write_changes to (holding_of (nat_le count 4)) known in
      let x = walk_fits (read_fits known to place count) behind (λ behind. walk site.sources behind program) (opened site.sources known (Read to place count) program off e) in
      let y = all_three (is_count count) (are_apart to place) (reference_fits known place count false) x.0 in
      let z = and_parts (not known.changed) (holds_longword known place) (and_parts (place_fits known place) (is_checked known.checked place count false) y.2).0 in
      let place_high = words.0.0.high in
      let to_high = words.0.1.high in
      let to_below : 21 + to ≤ 24 = omega arith in
      let front = faulting_row site (count_of (Read to place count)) (read_by site.byte_word (21 + place) count (21 + to)) (read_encodable site.byte_word (21 + place) count (21 + to) words.0.2 (omega arith) (omega arith)) (read_own (21 + to) (omega arith) to_below site.byte_word (21 + place) count words.0.2) (read_short site.byte_word (21 + place) count (21 + to) words.0.2) in
      free_front site codes (addresses_of site.after program) known.changed (count_of (Read to place count)) (program_words site.sources program + 59) _ _ (program_lines site codes program) (not-true known.changed z.0) front.0 front.1 front.2 (omega arith)
      (subst (λ changed. ShapeOf changed program) same.changed (program_shape program behind (same.ended ∙ off) x.1 words.1 (λ c. let y = quiet (sym same.changed ∙ c) in (same.codes ∙ y.0, same.psw ∙ y.1))))
  program_shape (Write place count source ∷ program) known off e words quiet =
      let x = walk_fits (write_fits known place count source) (behind_access known) (λ behind. walk site.sources behind program) (opened site.sources known (Write place count source) program off e) in
      let y = all_four (is_count count) (are_apart place source) (holds known source) (reference_fits known place count true) x.0 in
      let z = and_parts (not known.changed) (holds_longword known place) (and_parts (place_fits known place) (is_checked known.checked place count true) y.3).0 in
      let front = faulting_row site (count_of (Write place count source)) (write_by site.byte_word (21 + place) count (21 + source)) (write_encodable site.byte_word (21 + place) count (21 + source) words.0.2 words.0.0 words.0.1) (write_own site.byte_word (21 + place) count (21 + source) words.0.2) (write_short site.byte_word (21 + place) count (21 + source) words.0.2) in
      free_front site codes (addresses_of site.after program) known.changed (count_of (Write place count source)) (program_words site.sources program + 59) _ _ (program_lines site codes program) (not-true known.changed z.0) front.0 front.1 front.2 (omega arith)
      (program_shape program (behind_access known) off x.1 words.1 quiet)
  program_shape (Locked to place kind source ∷ program) known off e words quiet =
      let behind = behind_access (behind_write to Wide known) in
      let same = write_changes to Wide known in
      let x = walk_fits (locked_fits known to place (locked_count kind) source) behind (λ behind. walk site.sources behind program) (opened site.sources known (Locked to place kind source) program off e) in
      let y = all_five (are_apart to place) (are_apart place source) (are_apart source to) (holds known source) (reference_fits known place (locked_count kind) true) x.0 in
      let z = and_parts (not known.changed) (holds_longword known place) (and_parts (place_fits known place) (is_checked known.checked place (locked_count kind) true) y.4).0 in
      let place_high = words.0.0.high in
      let source_high = words.0.1.high in
      let to_high = words.0.2.high in
      let to_below : 21 + to ≤ 24 = omega arith in
      let front = faulting_row site 12 (locked_code kind (21 + place) (21 + source) (21 + to)) (locked_encodable kind (21 + place) (21 + source) (21 + to) (omega arith) (omega arith) (omega arith)) (locked_own (21 + to) (omega arith) to_below (21 + place) (21 + source) kind) (locked_short kind (21 + place) (21 + source) (21 + to)) in
      free_front site codes (addresses_of site.after program) known.changed 12 (program_words site.sources program + 59) _ _ (program_lines site codes program) (not-true known.changed z.0) front.0 front.1 front.2 (omega arith)
      (subst (λ changed. ShapeOf changed program) same.changed (program_shape program behind (same.ended ∙ off) x.1 words.1 (λ c. let y = quiet (sym same.changed ∙ c) in (same.codes ∙ y.0, same.psw ∙ y.1))))
  program_shape (Commit number source ∷ program) known off e words quiet =
      let x = walk_fits (commit_fits known number source) (behind_commit number known) (λ behind. walk site.sources behind program) (opened site.sources known (Commit number source) program off e) in
      let front = commit_lines site number source words.0.0 words.0.1 in
      change_front site codes (addresses_of site.after program) known.changed 1 (program_words site.sources program + 59) _ _ (program_lines site codes program) front.0 front.1 front.2 (omega arith)
      (program_shape program (behind_commit number known) off x.1 words.1 (λ c. absurd (cc c)))
  program_shape (Codes n z v c ∷ program) known off e words quiet =
      let x = walk_fits (codes_fit known n z v c) (record known { codes = true; changed = true }) (λ behind. walk site.sources behind program) (opened site.sources known (Codes n z v c) program off e) in
      change_front site codes (addresses_of site.after program) known.changed 0 (program_words site.sources program + 59) _ [] (program_lines site codes program) (record { each = refl; stays = refl; spares = λ r low high. refl }) refl (lit≤ tt) (omega arith)
      (program_shape program (record known { codes = true; changed = true }) off x.1 words.1 (λ c. absurd (cc c)))
  program_shape (SetPsw source ∷ program) known off e words quiet =
      let x = walk_fits (not known.psw && holds known source) (record known { psw = true; changed = true }) (λ behind. walk site.sources behind program) (opened site.sources known (SetPsw source) program off e) in
      let front = psw_lines site source words.0 in
      change_front site codes (addresses_of site.after program) known.changed 1 (program_words site.sources program + 59) _ _ (program_lines site codes program) front.0 front.1 front.2 (omega arith)
      (program_shape program (record known { psw = true; changed = true }) off x.1 words.1 (λ c. absurd (cc c)))
  program_shape (Leave exit ∷ program) known off e words quiet =
      let x = walk_fits (exit_fits known exit && sources_fit site.sources known) (record known { ended = true }) (λ behind. walk site.sources behind program) (opened site.sources known (Leave exit) program off e) in
      let fits = and_parts (exit_fits known exit) (sources_fit site.sources known) x.0 in
      ending_shape exit program known (nothing_behind site.sources (record known { ended = true }) program refl x.1) words.0 fits.0 fits.1 quiet
