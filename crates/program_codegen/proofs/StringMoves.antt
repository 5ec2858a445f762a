-- Behind its operands MOVC3 follows its tree: the checks of both strings, the state behind it, and the loop in its direction.
use Rattle.std.proofs.Common.{◌≡◌, ℕ, zero, suc, ◌+◌, ◌-◌, ◌%◌, ◌^◌, ◌<◌, ◌≤◌, refl, sym, ap, ◌∙◌, subst, arith, List, [], ◌∷◌, ◌++◌, length, length-append, map, Option, None, Some, Bool, true, false, not, lit≤}
use Rattle.std.specs.Prelude.{◌==◌, bit_or, nat_le, pos, slice_index, if◌then◌else◌}
use Rattle.std.proofs.Math.Nat.{mod-eq_of_lt}
use Rattle.std.proofs.lemmas.Bool.Decides.{nat_tests}
use Rattle.vt_words.specs.Quad.{sign_extended}
use Rattle.vax_form.specs.PageTable.{IsPageTable}
use Rattle.vax_form.specs.Pages.{first_bad}
use Rattle.vax_form.specs.Tree.{Tree, Check}
use Rattle.vax_form.specs.declared.state.VaxState.{VaxState}
use Rattle.vax_long.specs.Strings.{beginning}
use Rattle.alpha_encode.specs.declared.instr.AlphaInstr.TheVariants.{Branch, Operate, Pal}
use Rattle.alpha_encode.specs.declared.instr.BranchOp.TheVariants.{Beq, Bne}
use Rattle.alpha_encode.specs.declared.instr.OperateOp.TheVariants.{Cmpule}
use Rattle.alpha_encode.specs.declared.instr.Second.TheVariants.{Register}
use Rattle.alpha_meaning.specs.Act.{target_of}
use Rattle.alpha_meaning.specs.Loops.{effects}
use Rattle.alpha_meaning.specs.Pieces.{Only}
use Rattle.alpha_meaning.specs.Result.{one_if}
use Rattle.alpha_meaning.specs.State.{Regs, put, at_place}
use Rattle.block_law.specs.Laws.{MoreKinds}
use Rattle.block_law.specs.Placements.{Placement}
use Rattle.block_law.specs.Rounds.{block_steps, Round}
use Rattle.block_law.proofs.Rounds.{fits_anew}
use Rattle.block_law.proofs.Rules.{Always, goes, operates, passes, probes, roomy, skips}
use Rattle.program_codegen.specs.declared.lines.Line.{Line}
use Rattle.program_codegen.specs.declared.points.Site.{Site}
use Rattle.program_codegen.specs.Accesses.{needed}
use Rattle.program_codegen.specs.Words.{copy, holder, marked, plain, probing, read_by, write_by}
use Rattle.program_codegen.specs.Strings.{behind_words, direction_words, downward_words, loop_words, move_words, moved_words, set, step_word, step_words, steps_from, string_check}
use Rattle.program_codegen.proofs.Numbers.{copied}
use Rattle.program_codegen.proofs.Walk.{Within, is_inside, next, row_rest, row_words, stands}
use Rattle.program_codegen.proofs.StringLoop.{Both_made, In, Turn, few_words, is_moving, loop_lines, loops, moving_put, turn_count}
use Rattle.program_codegen.proofs.StringLoop as turning
use Rattle.program_codegen.proofs.StringPages.{Allows, last_address, walk_string}
use Rattle.program_codegen.proofs.StringState.{IsChecked}
use Rattle.program_codegen.proofs.StringSteps.{one_more}
use Rattle.program_codegen.proofs.StringTrees.{bytes_tree}

-- ---- words
abbrev pub move_lines : (byte_word : Bool) → List Line → List Line
move_lines byte_word rest =
    plain (Branch Beq 21 (pos (8 + length (loop_words byte_word)))) ∷ (map plain direction_words ++ loop_lines byte_word rest)

pub move_split : (byte_word : Bool) (rest : List Line) → map plain (move_words byte_word) ++ rest ≡ move_lines byte_word rest
move_split false rest = refl
move_split true rest = refl

pub loop_count : (byte_word : Bool) → length (loop_words byte_word) ≡ length (read_by byte_word 22 1 24) + (length (write_by byte_word 23 1 24) + 4)
loop_count false = refl
loop_count true = refl

loop_some : (byte_word : Bool) (rest : List Line) → 1 ≤ length (loop_lines byte_word rest)
loop_some false rest = omega arith
loop_some true rest = omega arith

step_few : (number step : ℕ) → length (step_words number step) ≤ 1
step_few number step = by (step == 0)
  where
    by : (b : Bool) → length (if b then [] else step_word number step ∷ []) ≤ 1
    by true = lit≤ tt
    by false = lit≤ tt

steps_few : (number count : ℕ) (steps : List ℕ) → length (steps_from number count steps) ≤ count
steps_few number zero steps = lit≤ tt
steps_few number (suc count) steps =
    let here = step_few number (slice_index steps number) in
    let rest = steps_few (number + 1) count steps in
    let both = length-append (step_words number (slice_index steps number)) (steps_from (number + 1) count steps) in
    omega arith

pub behind_few : (steps : List ℕ) → length (behind_words steps) ≤ 19
behind_few steps =
    let steps_le = steps_few 6 9 steps in
    let both = length-append (steps_from 6 9 steps) moved_words in
    omega arith

-- ---- a check
pub address_stays : (begun : VaxState) (count source destination v : ℕ) (f : Regs) → IsChecked begun count source destination f → IsChecked begun count source destination (put f 27 v)
address_stays begun count source destination v f checked = record {
  form = record {
    longwords = λ n lt. (let e = other n lt in subst (λ x. sign_extended x 32 ≡ x) (sym e) (checked.form.longwords n lt));
    codes = λ n from to. subst (λ x. x < 2) (sym (code n to)) (checked.form.codes n from to);
    status = checked.form.status;
    status_only = checked.form.status_only;
    zero = checked.form.zero;
  };
  registers = λ n lt. checked.registers n lt ∙ ap (λ x. x % 2 ^ 32) (sym (other n lt));
  upper = checked.upper;
  count_in = checked.count_in;
  source_in = checked.source_in;
  destination_in = checked.destination_in;
}
  where
    other : (n : ℕ) → n < 15 → put f 27 v n ≡ f n
    other n lt = let e : (n == 27) ≡ false = grind (arith, nat_tests) in rw e refl

    code : (n : ℕ) → n < 20 → put f 27 v n ≡ f n
    code n lt = let e : (n == 27) ≡ false = grind (arith, nat_tests) in rw e refl

module _ (p : Placement) (site : Site) where
  -- a string of as many bytes as R21 says
  pub checks_string : (made : Option Round) (need pc temp address count : ℕ) (write : Bool) (rest : List Line) (f : Regs) (t : Tree) → Within p site.behind pc (string_check site temp write ++ rest) → 1 ≤ length rest → need ≤ 256
      → f (21 + temp) ≡ address → address < 2 ^ 32 → f 21 ≡ count → count < 2 ^ 16
      → (first_bad p.pages write address count ≡ None → Always p In need (at_place (put f 27 (bit_or (f (21 + temp)) 0)) (pc + 1 + 1)) t)
      → Always p made (need + 1 + 1) (at_place f pc) (Check address count write t)
  checks_string made need pc temp address count write rest f t w some few in_temp small in_21 short behind =
      let g = put f 27 (bit_or (f (21 + temp)) 0) in
      let w1 = next p site.behind pc (copy (holder temp) 27) None (marked (Pal 0x80) (probing site 0 write) ∷ rest) w in
      let in_27 : bit_or (f (21 + temp)) 0 ≡ address = copied (f (21 + temp)) ∙ in_temp in
      let address_is : address ≡ bit_or (f (21 + temp)) 0 % 2 ^ 32 = sym (ap (λ n. n % 2 ^ 32) in_27 ∙ mod-eq_of_lt small) in
      let count_is : count ≡ f 21 % 2 ^ 16 = sym (ap (λ n. n % 2 ^ 16) in_21 ∙ mod-eq_of_lt short) in
      goes p made (need + 1) (at_place f pc) (at_place (put f 27 (bit_or (f (21 + temp)) 0)) (pc + 1)) (copy (holder temp) 27) (Check address count write t) (stands p site.behind pc (copy (holder temp) 27) None _ w) refl (omega arith)
      (is_inside p site.behind pc (pc + 1) _ w (omega arith) (omega arith))
      (probes p made In need address count write (at_place (put f 27 (bit_or (f (21 + temp)) 0)) (pc + 1)) t (probing site 0 write) (stands p site.behind (pc + 1) (Pal 0x80) (Some (probing site 0 write)) rest w1) w1.has.0.1
      (is_inside p site.behind pc (pc + 1 + 1) _ w (omega arith) (omega arith)) address_is count_is refl (λ spare round fits. fits_anew p.bonus made need spare round few fits) behind)

-- ---- the loop in its direction
module _ (p : Placement) (site : Site) (table : IsPageTable p.pages) (kinds : MoreKinds (needed site.byte_word 1) p.kinds) (bonus : p.bonus ≡ block_steps) where
  abbrev turn_need : ℕ
  turn_need = length (read_by site.byte_word 22 1 24) + (length (write_by site.byte_word 23 1 24) + (3 + 4))

  module _ (pc : ℕ) (rest : List Line) (some : 1 ≤ length rest) (above : p.first < pc) (w : Within p site.behind pc (map plain direction_words ++ loop_lines site.byte_word rest)) (source destination left : ℕ) (small : source < 2 ^ 32) (small' : destination < 2 ^ 32) (few : suc left < 2 ^ 16)
      (reads : Allows p.pages false source (suc left)) (writes : Allows p.pages true destination (suc left)) (f : Regs) (in_21 : f 21 ≡ suc left) (in_22 : f 22 ≡ source) (in_23 : f 23 ≡ destination) (in_31 : f 31 ≡ 0) (end : Tree) where
    abbrev start_at : ℕ
    start_at = pc + 1 + 1 + 1 + 5

    within_1 : Within p site.behind (pc + 1) (plain (Operate Cmpule 23 (Register 22) 24) ∷ plain (Branch Bne 24 (pos 5)) ∷ (map plain downward_words ++ loop_lines site.byte_word rest))
    within_1 = next p site.behind pc (set 28 1) None _ w

    within_2 : Within p site.behind (pc + 1 + 1) (plain (Branch Bne 24 (pos 5)) ∷ (map plain downward_words ++ loop_lines site.byte_word rest))
    within_2 = next p site.behind (pc + 1) (Operate Cmpule 23 (Register 22) 24) None _ within_1

    within_3 : Within p site.behind (pc + 1 + 1 + 1) (map plain downward_words ++ loop_lines site.byte_word rest)
    within_3 = next p site.behind (pc + 1 + 1) (Branch Bne 24 (pos 5)) None _ within_2

    within_loop : Within p site.behind start_at (loop_lines site.byte_word rest)
    within_loop = row_rest p site.behind (pc + 1 + 1 + 1) downward_words (loop_lines site.byte_word rest) within_3

    abbrev leave_at : ℕ
    leave_at = start_at + length (read_by site.byte_word 22 1 24) + length (write_by site.byte_word 23 1 24) + 3 + 1

    module _ (leave : (g : Regs) → Only is_moving f g → Always p (Some Both_made) 3 (at_place g leave_at) end) where
      abbrev compared : (b : Bool) → Regs
      compared b = put (put f 28 (bit_or (f 31) 1)) 24 (one_if b)

      compared_only : (b : Bool) → Only is_moving f (compared b)
      compared_only b n out = moving_put (put f 28 (bit_or (f 31) 1)) 24 (one_if b) refl n out ∙ moving_put f 28 (bit_or (f 31) 1) refl n out

      abbrev runs_loop : (down : Bool) (g : Regs) → Type 0
      runs_loop down g = Turn p site table kinds start_at rest within_loop down f end (suc left) (beginning down source (suc left)) (beginning down destination (suc left)) g

      loop_follows : (down : Bool) (g : Regs) → runs_loop down g
          → Always p In turn_need (at_place g start_at) (turning.moving down (suc left) (beginning down source (suc left)) (beginning down destination (suc left)) end)
      loop_follows down g turn =
          loops p site table kinds start_at rest within_loop down f end bonus (omega arith) some leave left (beginning down source (suc left)) (beginning down destination (suc left)) g few (begins down source small) (begins down destination small')
          (walk_string p.pages false source (suc left) reads down small) (walk_string p.pages true destination (suc left) writes down small') turn
        where
          begins : (down : Bool) (address : ℕ) → address < 2 ^ 32 → beginning down address (suc left) < 2 ^ 32
          begins true address lt = omega arith
          begins false address lt = lt

      -- upward
      upward : Always p In turn_need (at_place (compared true) start_at) (turning.moving false (suc left) source destination end)
      upward = loop_follows false (compared true) (record { left_in = in_21; source_in = in_22; destination_in = in_23; stride_in = one_more (f 31) in_31; only = compared_only true })

      -- downward
      lowered : runs_loop true (effects downward_words (compared false))
      lowered = record {
        left_in = in_21;
        source_in = ap (λ x. ((x + f 21) % 2 ^ 64 + (2 ^ 64 - 1)) % 2 ^ 64) in_22 ∙ (ap (λ x. ((source + x) % 2 ^ 64 + (2 ^ 64 - 1)) % 2 ^ 64) in_21 ∙ last_address p.pages false source left table reads small few);
        destination_in = ap (λ x. ((x + f 21) % 2 ^ 64 + (2 ^ 64 - 1)) % 2 ^ 64) in_23 ∙ (ap (λ x. ((destination + x) % 2 ^ 64 + (2 ^ 64 - 1)) % 2 ^ 64) in_21 ∙ last_address p.pages true destination left table writes small' few);
        stride_in = ap (λ x. (x + (2 ^ 64 - 1)) % 2 ^ 64) in_31;
        only = λ n out. lowered_only n out ∙ compared_only false n out;
      }
        where
          lowered_only : Only is_moving (compared false) (effects downward_words (compared false))
          lowered_only n out =
              let a : (n == 28) ≡ false = grind (arith, nat_tests, out) in
              let b : (n == 22) ≡ false = grind (arith, nat_tests, out) in
              let c : (n == 23) ≡ false = grind (arith, nat_tests, out) in
              rw (a, b, c) refl

      downward : Always p In (5 + turn_need) (at_place (compared false) (pc + 1 + 1 + 1)) (turning.moving true (suc left) (beginning true source (suc left)) (beginning true destination (suc left)) end)
      downward =
          let high = within_3.high in
          let more = loop_some site.byte_word rest in
          operates p In turn_need downward_words (compared false) (pc + 1 + 1 + 1) _ (row_words p site.behind (pc + 1 + 1 + 1) downward_words (loop_lines site.byte_word rest) within_3) refl within_3.low (omega arith)
          (λ q gt le. is_inside p site.behind (pc + 1 + 1 + 1) q _ within_3 gt (omega arith)) (loop_follows true (effects downward_words (compared false)) lowered)

      turns_by : (b : Bool) → Always p In (6 + turn_need) (at_place (compared b) (pc + 1 + 1))
          (turning.moving (not b) (suc left) (beginning (not b) source (suc left)) (beginning (not b) destination (suc left)) end)
      turns_by true =
          let near = within_2.near in
          let high = within_2.high in
          let more = loop_some site.byte_word rest in
          let jump : target_of (pc + 1 + 1) (pos 5) ≡ start_at = omega arith in
          roomy p In (turn_need + 1) (6 + turn_need) (at_place (compared true) (pc + 1 + 1)) _ (omega arith)
          (skips p In turn_need (at_place (compared true) (pc + 1 + 1)) Bne 24 (pos 5) start_at _ (stands p site.behind (pc + 1 + 1) (Branch Bne 24 (pos 5)) None _ within_2) refl refl jump (omega arith)
          (is_inside p site.behind (pc + 1 + 1) start_at _ within_2 (omega arith) (omega arith)) upward)
      turns_by false =
          roomy p In (5 + turn_need + 1) (6 + turn_need) (at_place (compared false) (pc + 1 + 1)) _ (omega arith)
          (passes p In (5 + turn_need) (at_place (compared false) (pc + 1 + 1)) Bne 24 (pos 5) _ (stands p site.behind (pc + 1 + 1) (Branch Bne 24 (pos 5)) None _ within_2) refl
          (is_inside p site.behind (pc + 1 + 1) (pc + 1 + 1 + 1) _ within_2 (omega arith) (omega arith)) downward)

      compares : put (put f 28 (bit_or (f 31) 1)) 24 (one_if (nat_le (f 23) (f 22))) ≡ compared (nat_le destination source)
      compares = ap (λ b. compared b) (ap (λ d. nat_le d (f 22)) in_23 ∙ ap (λ s. nat_le destination s) in_22)

      pub directs : Always p In (8 + turn_need) (at_place f pc) (bytes_tree (suc left) source destination end)
      directs =
          roomy p In (6 + turn_need + 1 + 1) (8 + turn_need) (at_place f pc) _ (omega arith)
          (goes p In (6 + turn_need + 1) (at_place f pc) (at_place (put f 28 (bit_or (f 31) 1)) (pc + 1)) (set 28 1) _ (stands p site.behind pc (set 28 1) None _ w) refl (omega arith) (is_inside p site.behind pc (pc + 1) _ w (omega arith) (omega arith))
          (goes p In (6 + turn_need) (at_place (put f 28 (bit_or (f 31) 1)) (pc + 1)) (at_place (put (put f 28 (bit_or (f 31) 1)) 24 (one_if (nat_le (f 23) (f 22)))) (pc + 1 + 1)) (Operate Cmpule 23 (Register 22) 24) _
          (stands p site.behind (pc + 1) (Operate Cmpule 23 (Register 22) 24) None _ within_1) refl (omega arith) (is_inside p site.behind (pc + 1) (pc + 1 + 1) _ within_1 (omega arith) (omega arith))
          (subst (λ (g : Regs). Always p In (6 + turn_need) (at_place g (pc + 1 + 1)) (bytes_tree (suc left) source destination end)) (sym compares) (turns_by (nat_le destination source)))))
