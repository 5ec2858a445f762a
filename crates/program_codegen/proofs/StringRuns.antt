-- From behind its operands on MOVC3 follows its tree.
use Rattle.std.proofs.Common.{◌≡◌, ℕ, zero, suc, ◌+◌, ◌^◌, ◌<◌, ◌≤◌, refl, sym, ap, ◌∙◌, subst, arith, List, [], ◌∷◌, ◌++◌, length, map, Option, None, Some, Bool, true, false, lit≤}
use Rattle.std.specs.Prelude.{◌==◌, bit_or, negsuc, pos, slice_index}
use Rattle.vax_form.specs.PageTable.{IsPageTable}
use Rattle.vax_form.specs.State.{IsState}
use Rattle.vax_form.specs.Tree.{Tree, Check, Ends, Finish}
use Rattle.vax_form.specs.declared.state.VaxState.{VaxState}
use Rattle.alpha_encode.specs.declared.instr.AlphaInstr.TheVariants.{Branch}
use Rattle.alpha_encode.specs.declared.instr.BranchOp.TheVariants.{Beq, Bne}
use Rattle.alpha_meaning.specs.Act.{target_of}
use Rattle.alpha_meaning.specs.Loops.{effects}
use Rattle.alpha_meaning.specs.Pieces.{Only, Plain}
use Rattle.alpha_meaning.specs.State.{Regs, put, at_place}
use Rattle.exception_records.specs.Codes.{all_ready}
use Rattle.operand_programs.specs.Specifiers.{stepped}
use Rattle.block_law.specs.Follows.{Follows}
use Rattle.block_law.specs.Laws.{MoreKinds}
use Rattle.block_law.specs.Placements.{Placement}
use Rattle.block_law.specs.Rounds.{block_steps, Round}
use Rattle.block_law.proofs.Rounds.{fits_spare}
use Rattle.block_law.proofs.Rules.{Always, operates, passes, roomy, skips}
use Rattle.program_codegen.specs.declared.lines.Line.{Line}
use Rattle.program_codegen.specs.declared.points.Site.{Site}
use Rattle.program_codegen.specs.Accesses.{needed}
use Rattle.program_codegen.specs.Words.{exit_lines, plain, read_by, write_by}
use Rattle.program_codegen.specs.Strings.{behind_words, direction_words, loop_words, move_words, string_check, turn_words}
use Rattle.program_codegen.proofs.Walk.{Within, exit_leads, is_inside, next, row_length, row_rest, row_words, stands}
use Rattle.program_codegen.proofs.StringLoop.{Both_made, In, back_line, few_words, going_on, is_moving, not_none, turn_count}
use Rattle.program_codegen.proofs.StringMoves.{address_stays, behind_few, checks_string, directs, loop_count, move_lines, move_split}
use Rattle.program_codegen.proofs.StringPages.{Allows, checked_allows}
use Rattle.program_codegen.proofs.StringState.{IsChecked, Shown, end_state, form_behind, shown_still, shows_end, state_is, temporaries_stay}
use Rattle.program_codegen.proofs.StringSteps.{IsFewBytes, behind_is_operate, is_left}
use Rattle.program_codegen.proofs.StringTrees.{bytes_tree, strings_tree}

module _ (p : Placement) (site : Site) (table : IsPageTable p.pages) (kinds : MoreKinds (needed site.byte_word 1) p.kinds) (bonus : p.bonus ≡ block_steps) where
  abbrev read_count : ℕ
  read_count = length (read_by site.byte_word 22 1 24)

  abbrev write_count : ℕ
  write_count = length (write_by site.byte_word 23 1 24)

  -- of a turn, and of all that comes behind the state
  abbrev turn_need : ℕ
  turn_need = read_count + (write_count + (3 + 4))

  abbrev leave_at : (pc : ℕ) → ℕ
  leave_at pc = pc + 1 + 1 + 1 + 1 + 5 + read_count + write_count + 3 + 1

  -- a string of no bytes goes round the loop
  moves : (count source destination pc : ℕ) (rest : List Line) (f : Regs) (end : Tree) → Within p site.behind pc (move_lines site.byte_word rest) → 1 ≤ length rest → p.first < pc
      → source < 2 ^ 32 → destination < 2 ^ 32 → count < 2 ^ 16 → Allows p.pages false source count → Allows p.pages true destination count
      → f 21 ≡ count → f 22 ≡ source → f 23 ≡ destination → f 31 ≡ 0
      → ((made : Option Round) (g : Regs) → Only is_moving f g → Always p made 3 (at_place g (leave_at pc)) end)
      → Always p In (9 + turn_need) (at_place f pc) (bytes_tree count source destination end)
  moves zero source destination pc rest f end w some above small small' few reads writes in_21 in_22 in_23 in_31 leave =
      let near = w.near in
      let high = w.high in
      let count = loop_count site.byte_word in
      let size = lines_count in
      let jump : target_of pc (pos (8 + length (loop_words site.byte_word))) ≡ leave_at pc = omega arith in
      roomy p In (3 + 1) (9 + turn_need) (at_place f pc) end (omega arith)
      (skips p In 3 (at_place f pc) Beq 21 (pos (8 + length (loop_words site.byte_word))) (leave_at pc) end (stands p site.behind pc (Branch Beq 21 (pos (8 + length (loop_words site.byte_word)))) None _ w) refl (ap (λ n. n == 0) in_21) jump (omega arith)
      (is_inside p site.behind pc (leave_at pc) _ w (omega arith) (omega arith)) (leave In f (λ n out. refl)))
    where
      lines_count : length (move_lines site.byte_word rest) ≡ 1 + (8 + (read_count + (write_count + (4 + length rest))))
      lines_count = by site.byte_word
        where
          by : (byte_word : Bool) → length (move_lines byte_word rest) ≡ 1 + (8 + (length (read_by byte_word 22 1 24) + (length (write_by byte_word 23 1 24) + (4 + length rest))))
          by false = omega arith
          by true = omega arith
  moves (suc left) source destination pc rest f end w some above small small' few reads writes in_21 in_22 in_23 in_31 leave =
      let high = w.high in
      roomy p In (8 + turn_need + 1) (9 + turn_need) (at_place f pc) (bytes_tree (suc left) source destination end) (omega arith)
      (passes p In (8 + turn_need) (at_place f pc) Beq 21 (pos (8 + length (loop_words site.byte_word))) _ (stands p site.behind pc (Branch Beq 21 (pos (8 + length (loop_words site.byte_word)))) None _ w) (ap (λ n. n == 0) in_21 ∙ not_none left)
      (is_inside p site.behind pc (pc + 1) _ w (omega arith) (omega arith))
      (directs p site table kinds bonus (pc + 1) rest some (omega arith) (next p site.behind pc (Branch Beq 21 (pos (8 + length (loop_words site.byte_word)))) None _ w) source destination left small small' few reads writes f in_21 in_22 in_23 in_31 end
      (λ g only. leave (Some Both_made) g only)))

  -- ---- all of it
  module _ (behind_ready : site.behind ≡ all_ready) (ok : IsState p.begun) (count source destination : ℕ) (steps : List ℕ) (fifteen : length steps ≡ 15) (few_bytes : (number : ℕ) → IsFewBytes (slice_index steps number))
      (short : count < 2 ^ 16) (small : source < 2 ^ 32) (small' : destination < 2 ^ 32) where
    abbrev end : Tree
    end = Ends (Finish (end_state p site behind_ready ok count source destination steps fifteen few_bytes))

    abbrev Ended : Regs → Type 0
    Ended = Shown p site behind_ready ok count source destination steps fifteen few_bytes

    leaves : (pc : ℕ) → Within p site.behind pc (exit_lines site.after) → (made : Option Round) (g : Regs) → Ended g → Always p made 3 (at_place g pc) end
    leaves pc w made g shown n spare round fits =
        subst (λ (s : VaxState). Follows p n Plain spare round (at_place g pc) (Ends (Finish s))) (sym (state_is p site behind_ready ok count source destination steps fifteen few_bytes g shown))
        (exit_leads p site.behind pc site.after [] w n spare round g (fits_spare p.bonus made 3 spare round fits) (form_behind p site behind_ready ok count source destination steps fifteen few_bytes g shown))

    abbrev pub moving_lines : List Line
    moving_lines = map plain (move_words site.byte_word) ++ exit_lines site.after

    abbrev pub state_lines : List Line
    state_lines = map plain (behind_words steps) ++ moving_lines

    -- the state and the bytes
    ends_move : (pc : ℕ) (f : Regs) → Within p site.behind pc state_lines → p.first < pc → IsChecked p.begun count source destination f → Allows p.pages false source count → Allows p.pages true destination count
        → Always p In (length (behind_words steps) + (9 + turn_need)) (at_place f pc) (bytes_tree count source destination end)
    ends_move pc f w above checked reads writes =
        let high = w.high in
        let size = row_length p site.behind (behind_words steps) moving_lines in
        let g = effects (behind_words steps) f in
        let place = pc + length (behind_words steps) in
        let w1 = row_rest p site.behind pc (behind_words steps) moving_lines w in
        let w2 = subst (Within p site.behind (pc + length (behind_words steps))) (move_split site.byte_word (exit_lines site.after)) w1 in
        let moving_size = lines_some in
        operates p In (9 + turn_need) (behind_words steps) f pc _ (row_words p site.behind pc (behind_words steps) moving_lines w) (behind_is_operate steps) w.low (omega arith)
        (λ q gt le. is_inside p site.behind pc q _ w gt (omega arith))
        (moves count source destination (pc + length (behind_words steps)) (exit_lines site.after) (effects (behind_words steps) f) end w2 (lit≤ tt) (omega arith) small small' short reads writes
        (stays 21 (lit≤ tt) refl ∙ checked.count_in) (stays 22 (lit≤ tt) refl ∙ checked.source_in) (stays 23 (lit≤ tt) refl ∙ checked.destination_in) (stays 31 (lit≤ tt) refl ∙ checked.form.zero)
        (λ made h only. leaves (leave_at (pc + length (behind_words steps))) (at_exit w2) made h
        (shown_still p site behind_ready ok count source destination steps fifteen few_bytes (effects (behind_words steps) f) h only (shows_end p site behind_ready ok count source destination steps fifteen few_bytes f checked))))
      where
        stays : (number : ℕ) → 20 ≤ number → is_left number ≡ true → effects (behind_words steps) f number ≡ f number
        stays = temporaries_stay p site behind_ready ok count source destination steps fifteen few_bytes f checked

        lines_some : 1 ≤ length moving_lines
        lines_some = by site.byte_word
          where
            by : (byte_word : Bool) → 1 ≤ length (map plain (move_words byte_word) ++ exit_lines site.after)
            by false = lit≤ tt
            by true = lit≤ tt

        at_exit : Within p site.behind (pc + length (behind_words steps)) (move_lines site.byte_word (exit_lines site.after)) → Within p site.behind (leave_at (pc + length (behind_words steps))) (exit_lines site.after)
        at_exit w =
            let w1 = next p site.behind (pc + length (behind_words steps)) (Branch Beq 21 (pos (8 + length (loop_words site.byte_word)))) None _ w in
            let w2 = row_rest p site.behind (pc + length (behind_words steps) + 1) direction_words _ w1 in
            let w3 = row_rest p site.behind (pc + length (behind_words steps) + 1 + 8) (read_by site.byte_word 22 1 24) _ w2 in
            let w4 = row_rest p site.behind (pc + length (behind_words steps) + 1 + 8 + read_count) (write_by site.byte_word 23 1 24) _ w3 in
            let w5 = row_rest p site.behind (pc + length (behind_words steps) + 1 + 8 + read_count + write_count) going_on (back_line site.byte_word ∷ exit_lines site.after) w4 in
            let w6 = next p site.behind (pc + length (behind_words steps) + 1 + 8 + read_count + write_count + 3) (Branch Bne 21 (negsuc (length (turn_words site.byte_word)))) None (exit_lines site.after) w5 in
            let here : pc + length (behind_words steps) + 1 + 8 + read_count + write_count + 3 + 1 ≡ leave_at (pc + length (behind_words steps)) = omega arith in
            subst (λ q. Within p site.behind q (exit_lines site.after)) here w6

    abbrev pub checked_lines : List Line
    checked_lines = string_check site 2 true ++ state_lines

    abbrev pub tail_lines : List Line
    tail_lines = string_check site 1 false ++ checked_lines

    abbrev pub tail_need : ℕ
    tail_need = length (behind_words steps) + (9 + turn_need) + 1 + 1 + 1 + 1

    pub follows_strings : (pc : ℕ) (f : Regs) → Within p site.behind pc tail_lines → IsChecked p.begun count source destination f
        → Always p None tail_need (at_place f pc) (strings_tree site.after count source destination (stepped steps p.begun))
    follows_strings pc f w checked =
        let few = behind_few steps in
        let turn = few_words site.byte_word in
        let turn_is = turn_count site.byte_word in
        let size = row_length p site.behind (behind_words steps) moving_lines in
        let v = bit_or (f 22) 0 in
        let f1 = put f 27 (bit_or (f 22) 0) in
        let v1 = bit_or (f 23) 0 in
        let checked1 = address_stays p.begun count source destination (bit_or (f 22) 0) f checked in
        let checked2 = address_stays p.begun count source destination (bit_or (f 23) 0) (put f 27 (bit_or (f 22) 0)) checked1 in
        let w1 = next p site.behind pc _ None _ w in
        let w2 = next p site.behind (pc + 1) _ _ checked_lines w1 in
        let w3 = next p site.behind (pc + 1 + 1) _ None _ w2 in
        let w4 = next p site.behind (pc + 1 + 1 + 1) _ _ state_lines w3 in
        let low = w.low in
        checks_string p site None (length (behind_words steps) + (9 + turn_need) + 1 + 1) pc 1 source count false checked_lines f (Check destination count true (bytes_tree count source destination end)) w (omega arith) (omega arith)
        checked.source_in small checked.count_in short
        (λ reads.
        checks_string p site In (length (behind_words steps) + (9 + turn_need)) (pc + 1 + 1) 2 destination count true state_lines (put f 27 (bit_or (f 22) 0)) (bytes_tree count source destination end) w2 (some_state size) (omega arith)
        checked.destination_in small' checked.count_in short
        (λ writes.
        ends_move (pc + 1 + 1 + 1 + 1) (put (put f 27 (bit_or (f 22) 0)) 27 (bit_or (f 23) 0)) w4 (omega arith) checked2
        (checked_allows p.pages false source count small reads) (checked_allows p.pages true destination count small' writes)))
      where
        some_state : length state_lines ≡ length (behind_words steps) + length moving_lines → 1 ≤ length state_lines
        some_state e = let some = moving_some site.byte_word in omega arith
          where
            moving_some : (byte_word : Bool) → 1 ≤ length (map plain (move_words byte_word) ++ exit_lines site.after)
            moving_some false = lit≤ tt
            moving_some true = lit≤ tt
