-- The points of a block are the same with the byte-word extension and without it, but for the words at which they stand.
use Rattle.std.proofs.Common.{◌≡◌, ℕ, zero, suc, ◌+◌, length, refl, sym, ap, ◌∙◌, subst, List, [], ◌∷◌, ◌++◌, map, Bool, true, false, Option, Some, None, cond}
use Rattle.std.specs.Prelude.{◌==◌, option_and_then, option_map, unwrap_or, if◌then◌else◌}
use Rattle.vax_form.specs.declared.instr.Instr.{Instr}
use Rattle.vax_form.specs.declared.operation.LongOperation.TheVariants.{CallStack, MoveCharacters}
use Rattle.vax_form.specs.declared.pages.Pages.{Pages}
use Rattle.alpha_encode.specs.declared.instr.AlphaInstr.{AlphaInstr}
use Rattle.alpha_encode.specs.declared.instr.AlphaInstr.TheVariants.{Memory, Pal}
use Rattle.alpha_encode.specs.declared.instr.MemoryOp.TheVariants.{Lda}
use Rattle.exception_records.specs.Codes.{all_ready}
use Rattle.exception_records.specs.declared.points.Point.{Point}
use Rattle.exception_records.specs.declared.rules.Rules.{Rules}
use Rattle.micro_ops.specs.Sources.{sources_of_long}
use Rattle.micro_ops.specs.declared.codes.CodeSources.{CodeSources}
use Rattle.vax_form.specs.declared.instr.Size.{Size}
use Rattle.micro_ops.specs.declared.program.Arg.{Arg}
use Rattle.micro_ops.specs.declared.program.Exit.{Exit}
use Rattle.micro_ops.specs.declared.program.MicroOp.{MicroOp}
use Rattle.micro_ops.specs.declared.program.Exit.TheVariants.{Next, Fixed, Computed, Choice, Service, Breakpoint}
use Rattle.micro_ops.specs.declared.program.Micro.{Micro}
use Rattle.micro_ops.specs.declared.program.Micro.TheVariants.{Compute, Probe, Refuse, Read, Write, Locked, Commit, Codes, SetPsw, Leave}
use Rattle.byte_sequences.specs.Words.{read_code, bw_word_read, bw_read_code, write_code, bw_write_code, extended_read}
use Rattle.program_codegen.specs.declared.calls.Call.{Call}
use Rattle.program_codegen.specs.declared.homes.Homes.{Homes}
use Rattle.program_codegen.specs.declared.lines.Line.{Line}
use Rattle.program_codegen.specs.declared.points.Site.{Site}
use Rattle.program_codegen.specs.Strings.{behind_words, move_words, operands_of, steps_of as steps_of_move, string_block, string_check, string_lines, string_site}
use Rattle.program_codegen.specs.Blocks.{chosen_lines, program_block}
use Rattle.program_codegen.specs.Homes.{no_homes, is_shared, with_home, all_waiting}
use Rattle.program_codegen.specs.Ends.{direct_end, end_at}
use Rattle.program_codegen.specs.Direct.{direct_lines, direct_step, either_of, next_exit, tested_at, tested_exit, is_extended, may_write, read_home, reading, settled, stands, behind_waiting}
use Rattle.program_codegen.specs.Calls.{align_frame, call_at, call_block, call_lines, call_site, check_lines, checks_from, count_lines, displacement, entry_words, frame_of, frame_program, front_program, list_program, pushes_from, steps_of}
use Rattle.program_codegen.specs.Words.{block_of, exit_lines, holder, lines_of, plain, point_of, points_alone, points_from, program_lines, read_by, site_of, with_entry, with_first, write_by, copy, marked, probing}

-- ---- the points of lines
abbrev with_point : Option Point → List Point → List Point
with_point None points = points
with_point (Some point) points = point ∷ points

abbrev points_in : List Line → List Point
points_in [] = []
points_in (line ∷ lines) = with_point line.point (points_in lines)

alone_from : (word : ℕ) (lines : List Line) → points_alone (points_from word lines) ≡ points_in lines
alone_from word [] = refl
alone_from word (line ∷ lines) = by line.point ∙ ap (with_point line.point) (alone_from (word + 1) lines)
  where
    by : (o : Option Point) → points_alone (with_entry o word (points_from (word + 1) lines)) ≡ with_point o (points_alone (points_from (word + 1) lines))
    by None = refl
    by (Some point) = refl

in_both : (lines more : List Line) → points_in (lines ++ more) ≡ points_in lines ++ points_in more
in_both [] more = refl
in_both (line ∷ lines) more = ap (with_point line.point) (in_both lines more) ∙ by line.point
  where
    by : (o : Option Point) → with_point o (points_in lines ++ points_in more) ≡ with_point o (points_in lines) ++ points_in more
    by None = refl
    by (Some point) = refl

in_plain : (words : List AlphaInstr) → points_in (map plain words) ≡ []
in_plain [] = refl
in_plain (word ∷ words) = in_plain words

-- ---- the point of the first line, where there is one
abbrev first_of : List Line → Option (Option Point)
first_of [] = None
first_of (line ∷ lines) = Some line.point

abbrev or_first : Option (Option Point) → Option (Option Point) → Option (Option Point)
or_first None later = later
or_first (Some point) later = Some point

first_of_both : (lines more : List Line) → first_of (lines ++ more) ≡ or_first (first_of lines) (first_of more)
first_of_both [] more = refl
first_of_both (line ∷ lines) more = refl

-- lines that differ in words alone
record Alike (lines more : List Line) : Type 0 where
  first : first_of lines ≡ first_of more
  points : points_in lines ≡ points_in more

are_same : (lines : List Line) → Alike lines lines
are_same lines = record { first = refl; points = refl }

both_alike : (a b c d : List Line) → Alike a b → Alike c d → Alike (a ++ c) (b ++ d)
both_alike a b c d front rest = record {
  first = first_of_both a c ∙ (ap (λ o. or_first o (first_of c)) front.first ∙ (ap (or_first (first_of b)) rest.first ∙ sym (first_of_both b d)));
  points = in_both a c ∙ (ap (λ ps. ps ++ points_in c) front.points ∙ (ap (λ ps. points_in b ++ ps) rest.points ∙ sym (in_both b d)));
}

-- words without a point, of which there is a first
plain_alike : (words more : List AlphaInstr) → first_of (map plain words) ≡ Some None → first_of (map plain more) ≡ Some None → Alike (map plain words) (map plain more)
plain_alike words more some some' = record { first = some ∙ sym some'; points = in_plain words ∙ sym (in_plain more) }

-- ---- operations
read_some : (place count to : ℕ) → first_of (map plain (read_code place count to)) ≡ Some None
read_some place count to = by (count == 1) (count == 2) (count == 4)
  where
    by : (one two four : Bool) → first_of (map plain (cond one (read_code place 1 to) (cond two (read_code place 2 to) (cond four (read_code place 4 to) (read_code place 8 to))))) ≡ Some None
    by true two four = refl
    by false true four = refl
    by false false true = refl
    by false false false = refl

reads_some : (byte_word : Bool) (place count to : ℕ) → first_of (map plain (read_by byte_word place count to)) ≡ Some None
reads_some false place count to = read_some place count to
reads_some true place count to = by (count == 1) (count == 2)
  where
    by : (one two : Bool) → first_of (map plain (cond one (bw_read_code place 1 to) (cond two (bw_word_read place to) (read_code place count to)))) ≡ Some None
    by true two = refl
    by false true = refl
    by false false = read_some place count to

write_some : (place count from : ℕ) → first_of (map plain (write_code place count from)) ≡ Some None
write_some place count from = by (count == 1) (count == 2) (count == 4)
  where
    by : (one two four : Bool) → first_of (map plain (cond one (write_code place 1 from) (cond two (write_code place 2 from) (cond four (write_code place 4 from) (write_code place 8 from))))) ≡ Some None
    by true two four = refl
    by false true four = refl
    by false false true = refl
    by false false false = refl

writes_some : (byte_word : Bool) (place count from : ℕ) → first_of (map plain (write_by byte_word place count from)) ≡ Some None
writes_some false place count from = write_some place count from
writes_some true place count from = by (count == 1) (count == 2)
  where
    by : (one two : Bool) → first_of (map plain (cond one (bw_write_code place 1 from) (cond two (bw_write_code place 2 from) (write_code place count from)))) ≡ Some None
    by true two = refl
    by false true = refl
    by false false = write_some place count from

-- the first line has a point of its own, or that of the instruction
abbrev by_first : Point → Option (Option Point) → List Point → List Point
by_first point None points = points
by_first point (Some None) points = point ∷ points
by_first point (Some (Some own)) points = points

module _ (instr : Instr) (sources : CodeSources) (before behind : Rules) (byte_word other : Bool) (codes : List AlphaInstr) where
  abbrev here : Site
  here = site_of instr sources before behind byte_word

  abbrev there : Site
  there = site_of instr sources before behind other

  operation_alike : (operation : Micro) (rest : List Micro) → Alike (lines_of here codes operation rest) (lines_of there codes operation rest)
  operation_alike (Compute to op size a b) rest = are_same (lines_of here codes (Compute to op size a b) rest)
  operation_alike (Probe place count write) rest = are_same (lines_of here codes (Probe place count write) rest)
  operation_alike (Refuse when) rest = are_same (lines_of here codes (Refuse when) rest)
  operation_alike (Read to place count) rest =
      plain_alike (read_by byte_word (holder place) count (holder to)) (read_by other (holder place) count (holder to))
      (reads_some byte_word (holder place) count (holder to)) (reads_some other (holder place) count (holder to))
  operation_alike (Write place count from) rest =
      plain_alike (write_by byte_word (holder place) count (holder from)) (write_by other (holder place) count (holder from))
      (writes_some byte_word (holder place) count (holder from)) (writes_some other (holder place) count (holder from))
  operation_alike (Locked to place kind from) rest = are_same (lines_of here codes (Locked to place kind from) rest)
  operation_alike (Commit register from) rest = are_same (lines_of here codes (Commit register from) rest)
  operation_alike (Codes n z v c) rest = are_same (lines_of here codes (Codes n z v c) rest)
  operation_alike (SetPsw from) rest = are_same (lines_of here codes (SetPsw from) rest)
  operation_alike (Leave exit) rest = are_same (lines_of here codes (Leave exit) rest)

  program_alike : (program : List Micro) → Alike (program_lines here codes program) (program_lines there codes program)
  program_alike [] = are_same []
  program_alike (operation ∷ program) =
      both_alike (lines_of here codes operation program) (lines_of there codes operation program) (program_lines here codes program) (program_lines there codes program)
      (operation_alike operation program) (program_alike program)

  with_first_in : (point : Point) (lines : List Line) → points_in (with_first point lines) ≡ by_first point (first_of lines) (points_in lines)
  with_first_in point [] = refl
  with_first_in point (line ∷ lines) = by line.point
    where
      by : (o : Option Point) → with_point (Some (unwrap_or o point)) (points_in lines) ≡ by_first point (Some o) (with_point o (points_in lines))
      by None = refl
      by (Some own) = refl

  points_alike : (lines more : List Line) → Alike lines more
      → points_alone (block_of (with_first (point_of here) lines)).points ≡ points_alone (block_of (with_first (point_of there) more)).points
  points_alike lines more alike =
      alone_from 0 (with_first (point_of here) lines)
      ∙ (with_first_in (point_of here) lines
      ∙ (ap (λ o. by_first (point_of here) o (points_in lines)) alike.first
      ∙ (ap (by_first (point_of here) (first_of more)) alike.points
      ∙ (sym (with_first_in (point_of there) more)
      ∙ sym (alone_from 0 (with_first (point_of there) more))))))

  -- where operands are used where they stand, the lines are the same
  end_same : (homes : Homes) (commit : Option (ℕ × ℕ)) (exit : Exit) → direct_end here codes homes commit exit ≡ direct_end there codes homes commit exit
  end_same homes commit Next = refl
  end_same homes commit (Fixed address) = refl
  end_same homes commit (Computed temp) = refl
  end_same homes commit (Choice when taken other) = refl
  end_same homes commit (Service temp) = refl
  end_same homes commit Breakpoint = refl

  ends_same : (homes : Homes) (o : Option (Option (ℕ × ℕ) × Exit))
      → option_and_then (λ (end : Option (ℕ × ℕ) × Exit). direct_end here codes homes end.0 end.1) o ≡ option_and_then (λ (end : Option (ℕ × ℕ) × Exit). direct_end there codes homes end.0 end.1) o
  ends_same homes None = refl
  ends_same homes (Some end) = end_same homes end.0 end.1

  tested_same : (homes : Homes) (to : ℕ) (op : MicroOp) (size : Size) (a b : Arg) (o : Option Exit) → option_and_then (tested_exit here codes homes to op size a b) o ≡ option_and_then (tested_exit there codes homes to op size a b) o
  tested_same homes to op size a b None = refl
  tested_same homes to op size a b (Some Next) = refl
  tested_same homes to op size a b (Some (Fixed address)) = refl
  tested_same homes to op size a b (Some (Computed temp)) = refl
  tested_same homes to op size a b (Some (Choice when taken other)) = refl
  tested_same homes to op size a b (Some (Service temp)) = refl
  tested_same homes to op size a b (Some Breakpoint) = refl

  -- lines of both, or of neither
  abbrev BothAlike : (o q : Option (List Line)) → Type 0
  BothAlike None None = Unit {0}
  BothAlike (Some lines) (Some more) = Alike lines more
  BothAlike None (Some more) = ⊥
  BothAlike (Some lines) None = ⊥

  same_both : (o q : Option (List Line)) → o ≡ q → BothAlike o q
  same_both o q e = subst (BothAlike o) e (by o)
    where
      by : (o : Option (List Line)) → BothAlike o o
      by None = tt
      by (Some lines) = are_same lines

  either_alike : (t u r s : Option (List Line)) → t ≡ u → BothAlike r s → BothAlike (either_of t r) (either_of u s)
  either_alike t u r s e h = subst (λ (u : Option (List Line)). BothAlike (either_of t r) (either_of u s)) e (by t)
    where
      by : (t : Option (List Line)) → BothAlike (either_of t r) (either_of t s)
      by None = h
      by (Some lines) = are_same lines

  mapped_alike : (front more : List Line) (o q : Option (List Line)) → Alike front more → BothAlike o q → BothAlike (option_map (λ (lines : List Line). front ++ lines) o) (option_map (λ (lines : List Line). more ++ lines) q)
  mapped_alike front more None None same h = tt
  mapped_alike front more (Some lines) (Some lines') same h = both_alike front more lines lines' same h
  mapped_alike front more None (Some lines') same h = h
  mapped_alike front more (Some lines) None same h = h

  reading_alike : (homes : Homes) (to place count : ℕ) → Alike (map plain (reading byte_word homes to place count)) (map plain (reading other homes to place count))
  reading_alike homes to place count = by (is_extended to count)
    where
      by : (b : Bool) → Alike (map plain (if b then extended_read (stands homes place) (holder to) else read_by byte_word (stands homes place) count (holder to))) (map plain (if b then extended_read (stands homes place) (holder to) else read_by other (stands homes place) count (holder to)))
      by true = are_same (map plain (extended_read (stands homes place) (holder to)))
      by false = plain_alike (read_by byte_word (stands homes place) count (holder to)) (read_by other (stands homes place) count (holder to)) (reads_some byte_word (stands homes place) count (holder to)) (reads_some other (stands homes place) count (holder to))

  direct_alike : (program : List Micro) (homes : Homes) → BothAlike (direct_lines here codes homes program) (direct_lines there codes homes program)
  direct_alike [] homes = tt
  direct_alike (Compute to op size a b ∷ program) homes =
      either_alike (tested_at here codes homes (Compute to op size a b) program) (tested_at there codes homes (Compute to op size a b) program) _ _
      (tested_same homes to op size a b (next_exit program)) (by (λ (h : Homes). direct_alike program h) (direct_step sources homes to op size a b program))
    where
      by : ((h : Homes) → BothAlike (direct_lines here codes h program) (direct_lines there codes h program)) → (o : Option (Homes × List AlphaInstr))
          → BothAlike (option_and_then (λ (step : Homes × List AlphaInstr). option_map (λ (lines : List Line). map plain step.1 ++ lines) (direct_lines here codes step.0 program)) o)
          (option_and_then (λ (step : Homes × List AlphaInstr). option_map (λ (lines : List Line). map plain step.1 ++ lines) (direct_lines there codes step.0 program)) o)
      by alike None = tt
      by alike (Some step) = mapped_alike (map plain step.1) (map plain step.1) (direct_lines here codes step.0 program) (direct_lines there codes step.0 program) (are_same (map plain step.1)) (alike step.0)
  direct_alike (Probe place count write ∷ program) homes =
      let front = map plain (all_waiting homes) ++ (plain (copy (stands homes place) 27) ∷ marked (Pal 0x80) (probing here count write) ∷ []) in
      mapped_alike front front (direct_lines here codes (settled homes) program) (direct_lines there codes (settled homes) program) (are_same front) (direct_alike program (settled homes))
  direct_alike (Read to place count ∷ program) homes = by (is_shared homes to) (direct_alike program homes')
    where
      homes' : Homes
      homes' = with_home to (read_home to count) (settled homes)

      by : (b : Bool) → BothAlike (direct_lines here codes homes' program) (direct_lines there codes homes' program)
          → BothAlike (option_and_then (λ (step : Homes × List Line). option_map (λ (lines : List Line). step.1 ++ lines) (direct_lines here codes step.0 program)) (option_map (behind_waiting homes) (if b then None else Some (homes', map plain (reading byte_word homes to place count)))))
          (option_and_then (λ (step : Homes × List Line). option_map (λ (lines : List Line). step.1 ++ lines) (direct_lines there codes step.0 program)) (option_map (behind_waiting homes) (if b then None else Some (homes', map plain (reading other homes to place count)))))
      by true h = tt
      by false h =
          mapped_alike (map plain (all_waiting homes) ++ map plain (reading byte_word homes to place count)) (map plain (all_waiting homes) ++ map plain (reading other homes to place count))
          (direct_lines here codes homes' program) (direct_lines there codes homes' program)
          (both_alike (map plain (all_waiting homes)) (map plain (all_waiting homes)) (map plain (reading byte_word homes to place count)) (map plain (reading other homes to place count)) (are_same (map plain (all_waiting homes))) (reading_alike homes to place count)) h
  direct_alike (Write place count source ∷ program) homes = by (may_write homes count source) (direct_alike program (settled homes))
    where
      words : Bool → List AlphaInstr
      words byte_word = write_by byte_word (stands homes place) count (stands homes source)

      by : (b : Bool) → BothAlike (direct_lines here codes (settled homes) program) (direct_lines there codes (settled homes) program)
          → BothAlike (option_and_then (λ (step : Homes × List Line). option_map (λ (lines : List Line). step.1 ++ lines) (direct_lines here codes step.0 program)) (option_map (behind_waiting homes) (if b then Some (settled homes, map plain (write_by byte_word (stands homes place) count (stands homes source))) else None)))
          (option_and_then (λ (step : Homes × List Line). option_map (λ (lines : List Line). step.1 ++ lines) (direct_lines there codes step.0 program)) (option_map (behind_waiting homes) (if b then Some (settled homes, map plain (write_by other (stands homes place) count (stands homes source))) else None)))
      by false h = tt
      by true h =
          mapped_alike (map plain (all_waiting homes) ++ map plain (write_by byte_word (stands homes place) count (stands homes source))) (map plain (all_waiting homes) ++ map plain (write_by other (stands homes place) count (stands homes source)))
          (direct_lines here codes (settled homes) program) (direct_lines there codes (settled homes) program)
          (both_alike (map plain (all_waiting homes)) (map plain (all_waiting homes)) (map plain (write_by byte_word (stands homes place) count (stands homes source))) (map plain (write_by other (stands homes place) count (stands homes source))) (are_same (map plain (all_waiting homes)))
          (plain_alike (write_by byte_word (stands homes place) count (stands homes source)) (write_by other (stands homes place) count (stands homes source)) (writes_some byte_word (stands homes place) count (stands homes source)) (writes_some other (stands homes place) count (stands homes source)))) h
  direct_alike (Commit number source ∷ program) homes = same_both _ _ (ends_same homes (end_at sources (Commit number source) program))
  direct_alike (Codes n z v c ∷ program) homes = same_both _ _ (ends_same homes (end_at sources (Codes n z v c) program))
  direct_alike (Leave exit ∷ program) homes = same_both _ _ (end_same homes None exit)
  direct_alike (Refuse when ∷ program) homes = tt
  direct_alike (Locked to place kind source ∷ program) homes = tt
  direct_alike (SetPsw source ∷ program) homes = tt

  chosen_alike : (program : List Micro) → Alike (chosen_lines here codes program) (chosen_lines there codes program)
  chosen_alike program = by (direct_lines here codes no_homes program) (direct_lines there codes no_homes program) (direct_alike program no_homes)
    where
      by : (o q : Option (List Line)) → BothAlike o q → Alike (unwrap_or o (program_lines here codes program)) (unwrap_or q (program_lines there codes program))
      by None None e = program_alike program
      by (Some lines) (Some more) alike = alike
      by None (Some more) none = absurd none
      by (Some lines) None none = absurd none

  pub block_points : (program : List Micro)
      → points_alone (program_block instr sources program codes before behind byte_word).points ≡ points_alone (program_block instr sources program codes before behind other).points
  block_points program = points_alike (chosen_lines here codes program) (chosen_lines there codes program) (chosen_alike program)

-- ---- calls
module _ (instr : Instr) (before : Rules) (byte_word other : Bool) where
  abbrev this_site : Site
  this_site = call_site instr before byte_word

  abbrev that_site : Site
  that_site = call_site instr before other

  checks_alike : (number count : ℕ) → Alike (checks_from this_site number count) (checks_from that_site number count)
  checks_alike number zero = are_same []
  checks_alike number (suc count) =
      both_alike (check_lines this_site number) (check_lines that_site number) (checks_from this_site (number + 1) count) (checks_from that_site (number + 1) count)
      (are_same (check_lines this_site number)) (checks_alike (number + 1) count)

  counts_alike : (stack : Bool) → Alike (count_lines this_site stack) (count_lines that_site stack)
  counts_alike true = plain_alike (write_by byte_word 23 4 21) (write_by other 23 4 21) (writes_some byte_word 23 4 21) (writes_some other 23 4 21)
  counts_alike false = are_same []

  programs_alike : (program : List Micro) → Alike (program_lines this_site [] program) (program_lines that_site [] program)
  programs_alike program = program_alike instr (sources_of_long CallStack) before all_ready byte_word other [] program

  call_alike : (call : Call) → Alike (call_lines this_site call) (call_lines that_site call)
  call_alike call =
      let pushes = pushes_from instr.after call (steps_of call) 1 (frame_of call.mask) in
      let ending = plain (Memory Lda 24 24 (displacement (length (frame_of call.mask)))) ∷ (program_lines this_site [] frame_program ++ (map plain (entry_words call.mask) ++ exit_lines call.entry)) in
      let commits = list_program call.stack (steps_of call) in
      let checks = checks_alike 1 (length (frame_of call.mask)) in
      both_alike (program_lines this_site [] (front_program call)) (program_lines that_site [] (front_program call)) _ _ (programs_alike (front_program call))
      (both_alike (plain align_frame ∷ []) (plain align_frame ∷ []) _ _ (are_same (plain align_frame ∷ []))
      (both_alike (checks_from this_site 1 (length (frame_of call.mask))) (checks_from that_site 1 (length (frame_of call.mask))) _ _ checks
      (both_alike (count_lines this_site call.stack) (count_lines that_site call.stack) _ _ (counts_alike call.stack)
      (both_alike pushes pushes _ _ (are_same pushes) (both_alike (program_lines this_site [] commits) (program_lines that_site [] commits) ending ending (programs_alike commits) (are_same ending))))))

  pub call_points : (pages : Pages) → points_alone (call_block instr pages before byte_word).points ≡ points_alone (call_block instr pages before other).points
  call_points pages = points_alike instr (sources_of_long CallStack) before all_ready byte_word other [] (call_lines this_site (call_at instr pages)) (call_lines that_site (call_at instr pages)) (call_alike (call_at instr pages))

-- ---- MOVC3
module _ (instr : Instr) (before : Rules) (byte_word other : Bool) where
  abbrev move_site : Site
  move_site = string_site instr before byte_word

  abbrev other_site : Site
  other_site = string_site instr before other

  abbrev state_lines : List Line
  state_lines = map plain (behind_words (steps_of_move instr))

  string_alike : Alike (string_lines move_site instr) (string_lines other_site instr)
  string_alike =
      let source = string_check move_site 1 false in
      let destination = string_check move_site 2 true in
      let moves = map plain (move_words byte_word) ++ exit_lines instr.after in
      let moves' = map plain (move_words other) ++ exit_lines instr.after in
      both_alike (program_lines move_site [] (operands_of instr)) (program_lines other_site [] (operands_of instr)) (source ++ (destination ++ (state_lines ++ moves))) (source ++ (destination ++ (state_lines ++ moves')))
      (program_alike instr (sources_of_long MoveCharacters) before all_ready byte_word other [] (operands_of instr))
      (both_alike source source (destination ++ (state_lines ++ moves)) (destination ++ (state_lines ++ moves')) (are_same source)
      (both_alike destination destination (state_lines ++ moves) (state_lines ++ moves') (are_same destination)
      (both_alike state_lines state_lines moves moves' (are_same state_lines)
      (both_alike (map plain (move_words byte_word)) (map plain (move_words other)) (exit_lines instr.after) (exit_lines instr.after)
      (plain_alike (move_words byte_word) (move_words other) refl refl) (are_same (exit_lines instr.after))))))

  pub string_points : points_alone (string_block instr before byte_word).points ≡ points_alone (string_block instr before other).points
  string_points = points_alike instr (sources_of_long MoveCharacters) before all_ready byte_word other [] (string_lines move_site instr) (string_lines other_site instr) string_alike
