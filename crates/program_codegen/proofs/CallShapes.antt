-- The lines of a call by themselves: their encodings, their points, where they go, and how many they are.
use Rattle.std.proofs.Common.{◌≡◌, ℕ, zero, suc, ◌+◌, ◌-◌, ◌*◌, ◌/◌, ◌%◌, ◌^◌, ◌<◌, ◌≤◌, refl, sym, ap, ◌∙◌, subst, arith, List, [], ◌∷◌, ◌++◌, length, length-append, map, Bool, true, false, lit<, lit≤}
use Rattle.std.specs.Prelude.{◌==◌, ◌&&◌, All, FitsSigned, if◌then◌else◌, slice_index}
use Rattle.std.specs.Int.{w16}
use Rattle.std.specs.List.{list_all, list_any}
use Rattle.std.proofs.lemmas.Bool.{and_parts}
use Rattle.std.proofs.lemmas.List.Folds.{list_all-append}
use Rattle.vax_form.specs.State.{AP, FP}
use Rattle.vax_long.specs.Registers.{is_in_mask}
use Rattle.alpha_encode.specs.Halves.{low_half}
use Rattle.alpha_encode.specs.Words.{IsEncodable}
use Rattle.alpha_encode.proofs.SignedHalves.{half_fits}
use Rattle.alpha_encode.specs.declared.instr.AlphaInstr.{AlphaInstr}
use Rattle.alpha_encode.specs.declared.instr.AlphaInstr.TheVariants.{Memory, Operate, Pal}
use Rattle.alpha_encode.specs.declared.instr.MemoryOp.TheVariants.{Lda, Stl}
use Rattle.alpha_encode.specs.declared.instr.OperateOp.TheVariants as row
use Rattle.alpha_encode.specs.declared.instr.Second.TheVariants.{Literal}
use Rattle.micro_ops.specs.Laws.{piece_words}
use Rattle.micro_ops.specs.LeftOut.{is_low, is_used}
use Rattle.micro_ops.proofs.Walks.{words_joined}
use Rattle.micro_ops.specs.WordCounts.{words_of as count_of}
use Rattle.micro_ops.specs.declared.program.Arg.{Arg}
use Rattle.micro_ops.specs.declared.program.Micro.{Micro}
use Rattle.micro_ops.specs.declared.program.Micro.TheVariants.{Compute, Probe, Refuse, Read, Write, Locked, Commit, Codes, SetPsw, Leave}
use Rattle.micro_ops.specs.declared.program.MicroOp.{MicroOp}
use Rattle.vax_form.specs.declared.instr.Size.{Size}
use Rattle.vt_words.specs.Quad.{four as c4}
use Rattle.byte_sequences.proofs.Encoded.{EachEncodable, all_encodable}
use Rattle.compute_sequences.specs.Words.{compute_code}
use Rattle.compute_sequences.specs.Promises.{changes_only}
use Rattle.compute_sequences.specs.Registers.{may_change}
use Rattle.compute_sequences.proofs.WholeLaws.{computed_length, computed_encodable, computed_writes}
use Rattle.block_law.specs.Tidy.{may_fault}
use Rattle.program_codegen.specs.declared.calls.Call.{Call}
use Rattle.program_codegen.specs.declared.frames.Pushed.{Pushed}
use Rattle.program_codegen.specs.declared.frames.Pushed.TheVariants as pushes
use Rattle.program_codegen.specs.declared.lines.Line.{Line}
use Rattle.program_codegen.specs.declared.points.Site.{Site}
use Rattle.program_codegen.specs.Words.{plain, marked, holder, probing, exit_lines, lines_of, program_lines, words_of, read_by, write_by}
use Rattle.program_codegen.specs.Programs.{HasWords, AllHaveWords}
use Rattle.program_codegen.specs.Calls.{align_frame, call_lines, check_lines, checks_from, count_lines, displacement, end_of, entry_traps, entry_words, frame_of, frame_program, front_program, list_program, longword_words, pushes_from, saved_below, status_high, steps_of}
use Rattle.program_codegen.proofs.Walk.{plain_length}
use Rattle.program_codegen.proofs.Shapes.{each_append, exit_each, plain_fits, call_fits, row_fits}
use Rattle.program_codegen.proofs.Rows.{is_free, is_own, is_silent, list_all_of, changes_silent, load_each, read_encodable, read_own, read_short, silent_own, silent_quiet, write_encodable, write_own, write_short}
use Rattle.program_codegen.proofs.Fronts.{any_neither, change_front, Front, free_front, front_append, line_front, no_front, row_front, row_words_are, Shape, words_append}
use Rattle.program_codegen.proofs.Endings.{above_codes}
use Rattle.program_codegen.proofs.Going.{kept_in}
use Rattle.program_codegen.proofs.Shaping.{Changing, commit_lines, Faulting, faulting_row, probe_lines}
use Rattle.program_codegen.proofs.CallOperations.{front_is, is_commitment, is_evaluation, is_flagless, is_low_sum, list_commits}

fits_half : (value : ℕ) → FitsSigned w16 (low_half value)
fits_half value = half_fits (value % 2 ^ 16) (omega arith)

module _ (site : Site) where
  -- ---- parts one behind the other
  faulting_append : (n m : ℕ) (xs ys : List Line) → Faulting site n xs → Faulting site m ys → Faulting site (n + m) (xs ++ ys)
  faulting_append n m xs ys a b =
      let count = length-append xs ys in
      let first = a.2 in
      let second = b.2 in (
        front_append site xs ys a.0 b.0,
        ap (list_all is_free) (words_append xs ys) ∙ (list_all-append is_free (words_of xs) (words_of ys) ∙ rw (a.1, b.1) refl),
        omega arith,
      )

  changing_append : (n m : ℕ) (xs ys : List Line) → Changing site n xs → Changing site m ys → Changing site (n + m) (xs ++ ys)
  changing_append n m xs ys a b =
      let count = length-append xs ys in
      let first = a.2 in
      let second = b.2 in
      (front_append site xs ys a.0 b.0, any_neither may_fault xs ys a.1 b.1, omega arith)

  -- ---- programs
  module _ (to : ℕ) (op : MicroOp) (size : Size) (a b : Arg) (program : List Micro) (low : is_low to ≡ true) (has : HasWords site.sources (Compute to op size a b) program) where
    abbrev code : List AlphaInstr
    code = compute_code op size a b (holder to)

    stays : (is_low to ≡ true) → lines_of site [] (Compute to op size a b) program ≡ map plain code
    stays low = ap (λ (out : Bool). if out then [] else map plain code) (kept_in (is_low to) (is_used site.sources program to) low)

    silent : list_all is_silent code ≡ true
    silent =
        let x = has (kept_in (is_low to) (is_used site.sources program to) low) in
        list_all_of (changes_only (may_change (21 + to))) is_silent (changes_silent (21 + to) x.0) code (computed_writes a b (21 + to) x.1 x.0 op size x.2)

    encodable : All IsEncodable code
    encodable = let x = has (kept_in (is_low to) (is_used site.sources program to) low) in computed_encodable a b (21 + to) x.1 x.0 op size x.2

    computed_faults : Faulting site (count_of (Compute to op size a b)) (lines_of site [] (Compute to op size a b) program)
    computed_faults =
        subst (Faulting site (count_of (Compute to op size a b))) (sym (stays low))
        (faulting_row site (count_of (Compute to op size a b)) code encodable (list_all_of is_silent is_own silent_own code silent) (computed_length op size a b (21 + to)))

    computed_changes : Changing site (count_of (Compute to op size a b)) (lines_of site [] (Compute to op size a b) program)
    computed_changes =
        let count = plain_length code in
        let most = computed_length op size a b (21 + to) in
        subst (Changing site (count_of (Compute to op size a b))) (sym (stays low))
        (row_front site code encodable (list_all_of is_silent is_own silent_own code silent), ap (list_any may_fault) (row_words_are code) ∙ silent_quiet code silent, omega arith)

  low_target : (to : ℕ) (a b : Arg) → is_low_sum to a b ≡ true → is_low to ≡ true
  low_target to a b e = (and_parts (is_low to) (is_flagless a) (and_parts (is_low to && is_flagless a) (is_flagless b) e).0).0

  words_more : (operation : Micro) (program : List Micro) → count_of operation + piece_words program ≡ piece_words (operation ∷ program)
  words_more operation program =
      let both = words_joined (operation ∷ []) program in
      let one : piece_words (operation ∷ []) ≡ 0 + count_of operation = refl in
      omega arith

  -- what evaluates operands
  pub evaluation_lines : (program : List Micro) → list_all is_evaluation program ≡ true → AllHaveWords site.sources program → Faulting site (piece_words program) (program_lines site [] program)
  evaluation_lines [] all words = (no_front site, refl, lit≤ tt)
  evaluation_lines (operation ∷ program) all words =
      let x = and_parts (is_evaluation operation) (list_all is_evaluation program) all in
      subst (λ (most : ℕ). Faulting site most (program_lines site [] (operation ∷ program))) (words_more operation program)
      (faulting_append (count_of operation) (piece_words program) (lines_of site [] operation program) (program_lines site [] program) (one operation x.0 words.0) (evaluation_lines program x.1 words.1))
    where
      one : (operation : Micro) → is_evaluation operation ≡ true → HasWords site.sources operation program → Faulting site (count_of operation) (lines_of site [] operation program)
      one (Compute to op size a b) is has = computed_faults to op size a b program (low_target to a b is) has
      one (Probe place count write) is has = probe_lines site place count write has.0
      one (Read to place count) is has =
          let place_high = has.0.high in
          let to_high = has.1.high in
          let to_below : 21 + to ≤ 24 = omega arith in
          faulting_row site (count_of (Read to place count)) (read_by site.byte_word (21 + place) count (21 + to)) (read_encodable site.byte_word (21 + place) count (21 + to) has.2 (omega arith) (omega arith)) (read_own (21 + to) (omega arith) to_below site.byte_word (21 + place) count has.2) (read_short site.byte_word (21 + place) count (21 + to) has.2)
      one (Commit register source) is has = absurd (cc is)
      one (Refuse when) is has = absurd (cc is)
      one (Write place count source) is has = absurd (cc is)
      one (Locked to place kind source) is has = absurd (cc is)
      one (Codes n z v c) is has = absurd (cc is)
      one (SetPsw source) is has = absurd (cc is)
      one (Leave exit) is has = absurd (cc is)

  -- what commits
  pub commitment_lines : (program : List Micro) → list_all is_commitment program ≡ true → AllHaveWords site.sources program → Changing site (piece_words program) (program_lines site [] program)
  commitment_lines [] all words = (no_front site, refl, lit≤ tt)
  commitment_lines (operation ∷ program) all words =
      let x = and_parts (is_commitment operation) (list_all is_commitment program) all in
      subst (λ (most : ℕ). Changing site most (program_lines site [] (operation ∷ program))) (words_more operation program)
      (changing_append (count_of operation) (piece_words program) (lines_of site [] operation program) (program_lines site [] program) (one operation x.0 words.0) (commitment_lines program x.1 words.1))
    where
      one : (operation : Micro) → is_commitment operation ≡ true → HasWords site.sources operation program → Changing site (count_of operation) (lines_of site [] operation program)
      one (Compute to op size a b) is has = computed_changes to op size a b program (low_target to a b is) has
      one (Commit register source) is has = commit_lines site register source has.0 has.1
      one (Probe place count write) is has = absurd (cc is)
      one (Read to place count) is has = absurd (cc is)
      one (Refuse when) is has = absurd (cc is)
      one (Write place count source) is has = absurd (cc is)
      one (Locked to place kind source) is has = absurd (cc is)
      one (Codes n z v c) is has = absurd (cc is)
      one (SetPsw source) is has = absurd (cc is)
      one (Leave exit) is has = absurd (cc is)

  -- ---- the checks and the count
  address_line : (disp : ℕ) → Front site (plain (Memory Lda 27 24 (low_half disp)) ∷ [])
  address_line disp = line_front site (plain (Memory Lda 27 24 (low_half disp))) refl (plain_fits site (Memory Lda 27 24 (low_half disp)) (lit< tt, lit< tt, fits_half disp) refl) (λ r low high. above_codes 27 r (lit≤ tt) high)

  probe_line : Front site (marked (Pal 0x80) (probing site 4 true) ∷ [])
  probe_line = line_front site (marked (Pal 0x80) (probing site 4 true)) refl (call_fits site 0x80 (probing site 4 true) (lit≤ tt) (lit≤ tt) refl refl refl refl) (λ r low high. above_codes 31 r (lit≤ tt) high)

  one_check : (number : ℕ) → Faulting site 2 (check_lines site number)
  one_check number =
      (front_append site (plain (Memory Lda 27 24 (displacement number)) ∷ []) (marked (Pal 0x80) (probing site 4 true) ∷ []) (address_line (2 ^ 32 - 4 * number)) probe_line, refl, lit≤ tt)

  checked_lines : (number count : ℕ) → Faulting site (2 * count) (checks_from site number count)
  checked_lines number zero = (no_front site, refl, lit≤ tt)
  checked_lines number (suc count) =
      let both = faulting_append 2 (2 * count) (check_lines site number) (checks_from site (number + 1) count) (one_check number) (checked_lines (number + 1) count) in
      let most = both.2 in
      (both.0, both.1, omega arith)

  counted_lines : (stack : Bool) → Faulting site 24 (count_lines site stack)
  counted_lines true =
      faulting_row site 24 (write_by site.byte_word 23 4 21)
      (write_encodable site.byte_word 23 4 21 c4 (record { high = lit≤ tt }) (record { high = lit≤ tt })) (write_own site.byte_word 23 4 21 c4) (write_short site.byte_word 23 4 21 c4)
  counted_lines false = (no_front site, refl, lit≤ tt)

  aligned_line : Faulting site 1 (plain align_frame ∷ [])
  aligned_line = (line_front site (plain align_frame) refl (plain_fits site align_frame (lit< tt, lit< tt, lit< tt) refl) (λ r low high. above_codes 24 r (lit≤ tt) high), refl, lit≤ tt)

  -- ---- the pushes
  module _ (after : ℕ) (call : Call) (steps : List ℕ) where
    -- the most words of a push
    abbrev most_of : Pushed → ℕ
    most_of (pushes.Register number) = 2
    most_of pushes.After = 3
    most_of pushes.Status = 7
    most_of pushes.NoHandler = 1

    abbrev most_of_all : List Pushed → ℕ
    most_of_all [] = 0
    most_of_all (pushed ∷ frame) = most_of pushed + most_of_all frame

    abbrev IsRegister : Pushed → Type 0
    IsRegister (pushes.Register number) = number < 15
    IsRegister pushed = Unit {0}

    abbrev AreRegisters : List Pushed → Type 0
    AreRegisters [] = Unit {0}
    AreRegisters (pushed ∷ frame) = IsRegister pushed × AreRegisters frame

    stored : (register number : ℕ) → register < 32 → IsEncodable (Memory Stl register 24 (displacement number))
    stored register number lt = (lt, lit< tt, fits_half (2 ^ 32 - 4 * number))

    one_push : (number : ℕ) (pushed : Pushed) → IsRegister pushed → Faulting site (most_of pushed) (map plain (longword_words after call steps number pushed))
    one_push number (pushes.Register register) lt = by (slice_index steps register == 0)
      where
        small : register < 32
        small = omega arith

        by : (b : Bool)
            → Faulting site 2
            (map plain ((if b then [] else Memory Lda 22 register (low_half (slice_index steps register)) ∷ []) ++ (Memory Stl (if b then register else 22) 24 (displacement number) ∷ [])))
        by true = faulting_row site 2 (Memory Stl register 24 (displacement number) ∷ []) (all_encodable (Memory Stl register 24 (displacement number) ∷ []) (stored register number small, tt)) refl (lit≤ tt)
        by false =
            faulting_row site 2 (Memory Lda 22 register (low_half (slice_index steps register)) ∷ Memory Stl 22 24 (displacement number) ∷ [])
            (all_encodable (Memory Lda 22 register (low_half (slice_index steps register)) ∷ Memory Stl 22 24 (displacement number) ∷ []) ((lit< tt, small, fits_half (slice_index steps register)), (stored 22 number (lit< tt), tt))) refl (lit≤ tt)
    one_push number pushes.After lt =
        let load = load_each 22 after (lit< tt) in
        faulting_row site 3 (longword_words after call steps number pushes.After) (all_encodable (longword_words after call steps number pushes.After) (load.0, (load.1.0, (stored 22 number (lit< tt), tt)))) refl (lit≤ tt)
    one_push number pushes.Status lt =
        faulting_row site 7 (longword_words after call steps number pushes.Status)
        (all_encodable (longword_words after call steps number pushes.Status)
        ((lit< tt, lit< tt, lit< tt), ((lit< tt, lit< tt, half_fits ((status_high call + 2 ^ 15) / 2 ^ 16 % 2 ^ 16) (omega arith)), ((lit< tt, lit< tt, lit< tt), ((lit< tt, lit< tt, lit< tt), ((lit< tt, lit< tt, lit< tt), ((lit< tt, lit< tt, lit< tt), (stored 22 number (lit< tt), tt)))))))) refl (lit≤ tt)
    one_push number pushes.NoHandler lt = faulting_row site 1 (Memory Stl 31 24 (displacement number) ∷ []) (all_encodable (Memory Stl 31 24 (displacement number) ∷ []) (stored 31 number (lit< tt), tt)) refl (lit≤ tt)

    pushed_lines : (number : ℕ) (frame : List Pushed) → AreRegisters frame → Faulting site (most_of_all frame) (pushes_from after call steps number frame)
    pushed_lines number [] are = (no_front site, refl, lit≤ tt)
    pushed_lines number (pushed ∷ frame) are =
        faulting_append (most_of pushed) (most_of_all frame) (map plain (longword_words after call steps number pushed)) (pushes_from after call steps (number + 1) frame) (one_push number pushed are.0) (pushed_lines (number + 1) frame are.1)

    -- a whole frame
    saved_are : (count mask : ℕ) → count ≤ 12 → (later : List Pushed) → AreRegisters later → AreRegisters (saved_below count mask ++ later) × (most_of_all (saved_below count mask ++ later) ≤ 2 * count + most_of_all later)
    unfolding saved_below
    saved_are zero mask le later are = (are, omega arith)
    saved_are (suc count) mask le later are = by (saved_are count mask (omega arith) later are) (is_in_mask count mask)
      where
        by : AreRegisters (saved_below count mask ++ later) × (most_of_all (saved_below count mask ++ later) ≤ 2 * count + most_of_all later) → (b : Bool)
            → AreRegisters ((if b then pushes.Register count ∷ saved_below count mask else saved_below count mask) ++ later)
            × (most_of_all ((if b then pushes.Register count ∷ saved_below count mask else saved_below count mask) ++ later) ≤ 2 * suc count + most_of_all later)
        by rest true = let most = rest.1 in ((omega arith, rest.0), omega arith)
        by rest false = let most = rest.1 in (rest.0, omega arith)

    frame_lines : (mask : ℕ) → Faulting site 39 (pushes_from after call steps 1 (frame_of mask))
    frame_lines mask =
        let saved = saved_are 12 mask (lit≤ tt) (pushes.After ∷ pushes.Register FP ∷ pushes.Register AP ∷ pushes.Status ∷ pushes.NoHandler ∷ []) (tt, (lit< tt, (lit< tt, (tt, (tt, tt))))) in
        let lines = pushed_lines 1 (frame_of mask) saved.0 in
        let most = saved.1 in
        let few = lines.2 in
        (lines.0, lines.1, omega arith)

  -- ---- the end
  module _ (mask entry : ℕ) (fits : entry < 2 ^ 32) where
    abbrev ShapeOf : Bool → ℕ → List Line → Type 0
    ShapeOf changed most lines = Shape site changed (entry_words mask) (entry ∷ []) most lines

    traps_small : entry_traps mask < 256
    traps_small = omega arith

    entry_each : EachEncodable (entry_words mask)
    entry_each =
        ((lit< tt, lit< tt, lit< tt), ((lit< tt, lit< tt, lit< tt), ((lit< tt, lit< tt, lit< tt), ((lit< tt, lit< tt, lit< tt), ((lit< tt, lit< tt, lit< tt), ((lit< tt, traps_small, lit< tt), tt))))))

    entry_shape : ShapeOf true 9 (map plain (entry_words mask) ++ exit_lines entry)
    entry_shape = record {
      each = each_append site 0 (map plain (entry_words mask)) (exit_lines entry) (row_fits site (entry_words mask) (all_encodable (entry_words mask) entry_each) refl) (exit_each site entry fits);
      kept = refl;
      goes = refl;
      writes = λ r low high. let other = above_codes 31 r (lit≤ tt) high in rw other refl;
      short = lit≤ tt;
    }

    frame_shape : ShapeOf true 11 (program_lines site [] frame_program ++ (map plain (entry_words mask) ++ exit_lines entry))
    frame_shape =
        let fp = commit_lines site 13 3 (lit< tt) (lit< tt) in
        let sp = commit_lines site 14 3 (lit< tt) (lit< tt) in
        let tail = map plain (entry_words mask) ++ exit_lines entry in
        change_front site (entry_words mask) (entry ∷ []) true 1 10 11 (plain (Operate row.Addl (holder 3) (Literal 0) 13) ∷ []) (plain (Operate row.Addl (holder 3) (Literal 0) 14) ∷ tail) fp.0 fp.1 fp.2 (lit≤ tt)
        (change_front site (entry_words mask) (entry ∷ []) true 1 9 10 (plain (Operate row.Addl (holder 3) (Literal 0) 14) ∷ []) tail sp.0 sp.1 sp.2 (lit≤ tt) entry_shape)

    lowered_shape : (pushed : ℕ) → ShapeOf true 12 (plain (Memory Lda 24 24 (displacement pushed)) ∷ (program_lines site [] frame_program ++ (map plain (entry_words mask) ++ exit_lines entry)))
    lowered_shape pushed =
        change_front site (entry_words mask) (entry ∷ []) true 1 11 12 (plain (Memory Lda 24 24 (displacement pushed)) ∷ []) _
        (line_front site (plain (Memory Lda 24 24 (displacement pushed))) refl (plain_fits site (Memory Lda 24 24 (displacement pushed)) (lit< tt, lit< tt, fits_half (2 ^ 32 - 4 * pushed)) refl) (λ r low high. above_codes 24 r (lit≤ tt) high))
        refl (lit≤ tt) (lit≤ tt) frame_shape

-- ---- the whole
module _ (site : Site) (call : Call) (fits : call.entry < 2 ^ 32) (front_words : AllHaveWords site.sources (front_program call)) (list_words : AllHaveWords site.sources (list_program call.stack (steps_of call)))
    (front_few : piece_words (front_program call) ≤ 49) (list_few : piece_words (list_program call.stack (steps_of call)) ≤ 76) (few : length (frame_of call.mask) ≤ 17) where
  abbrev codes : List AlphaInstr
  codes = entry_words call.mask

  abbrev to : List ℕ
  to = call.entry ∷ []

  end_shape : Shape site false codes to 88 (end_of site call (steps_of call) (length (frame_of call.mask)))
  end_shape =
      let commits = commitment_lines site (list_program call.stack (steps_of call)) (list_commits call.stack (steps_of call)) list_words in
      change_front site codes to false (piece_words (list_program call.stack (steps_of call))) 12 88 (program_lines site [] (list_program call.stack (steps_of call))) _ commits.0 commits.1 commits.2 (omega arith) (lowered_shape site call.mask call.entry fits (length (frame_of call.mask)))

  pub call_shape : Shape site false codes to 235 (call_lines site call)
  call_shape =
      let front = evaluation_lines site (front_program call) (front_is call) front_words in
      let aligned = aligned_line site in
      let checks = checked_lines site 1 (length (frame_of call.mask)) in
      let counts = counted_lines site call.stack in
      let pushed = frame_lines site site.after call (steps_of call) call.mask in
      free_front site codes to false (piece_words (front_program call)) 186 235 (program_lines site [] (front_program call)) _ refl front.0 front.1 front.2 (omega arith)
      (free_front site codes to false 1 185 186 (plain align_frame ∷ []) _ refl aligned.0 aligned.1 aligned.2 (lit≤ tt)
      (free_front site codes to false (2 * length (frame_of call.mask)) 151 185 (checks_from site 1 (length (frame_of call.mask))) _ refl checks.0 checks.1 checks.2 (omega arith)
      (free_front site codes to false 24 127 151 (count_lines site call.stack) _ refl counts.0 counts.1 counts.2 (lit≤ tt)
      (free_front site codes to false 39 88 127 (pushes_from site.after call (steps_of call) 1 (frame_of call.mask)) _ refl pushed.0 pushed.1 pushed.2 (lit≤ tt) end_shape))))
