-- The operands of MOVC3, and all that comes behind them, are its tree.
use Rattle.std.proofs.Common.{◌≡◌, ℕ, ◌^◌, ◌<◌, refl, sym, ap, ◌∙◌, subst, List, [], ◌++◌, length}
use Rattle.vax_form.specs.State.{IsState}
use Rattle.vax_form.specs.Targets.{operand_of}
use Rattle.vax_form.specs.Tree.{Tree, Same, tree_of, ends_with}
use Rattle.vax_form.specs.declared.instr.Access.TheVariants.{Read, Address}
use Rattle.vax_form.specs.declared.instr.Instr.{Instr}
use Rattle.vax_form.specs.declared.instr.Size.TheVariants.{Byte, Word}
use Rattle.vax_form.specs.declared.state.VaxState.{VaxState}
use Rattle.vax_meaning.specs.Evaluation.{evaluate}
use Rattle.vax_meaning.specs.declared.evaluation.Evaluated.{Evaluated}
use Rattle.vax_long.specs.Instructions.{long_tree_for}
use Rattle.vax_long.specs.Strings.{move_characters}
use Rattle.micro_ops.specs.Meaning.{Left, Temps, course_of, started}
use Rattle.micro_ops.specs.declared.program.Micro.{Micro}
use Rattle.operand_programs.specs.InOrder.{no_steps}
use Rattle.operand_programs.specs.Operands.{IsFor, IsLeftAs, operand_program, steps_behind_specifier}
use Rattle.operand_programs.specs.Pieces.{Agrees, Kept, with_temps}
use Rattle.operand_programs.specs.Specifiers.{stepped}
use Rattle.operand_programs.proofs.Evaluating.{does}
use Rattle.operand_programs.proofs.Ordered.{access_steps_length}
use Rattle.operand_programs.proofs.Stepped.{nothing_added}
use Rattle.block_law.specs.Placements.{Placement}
use Rattle.block_law.proofs.Blocks.{same_refl}
use Rattle.program_codegen.specs.declared.points.Site.{Site}
use Rattle.program_codegen.specs.Strings.{destination_specifier, length_specifier, operands_of, source_specifier, steps_of}
use Rattle.program_codegen.proofs.Holding.{found}
use Rattle.program_codegen.proofs.StringTrees.{IsMoveOf, located_at, read_as, string_body, string_tree, strings_tree, values_with}

-- what the words behind the operands follow, by what the operands left
abbrev pub onward : Instr → VaxState → Left → Tree
onward instr begun left = strings_tree instr.after (left.temps 0) (left.temps 1) (left.temps 2) (stepped (steps_of instr) begun)

-- the length is a word
abbrev pub IsShortLeft : Left → Type 0
IsShortLeft left = left.temps 0 < 2 ^ 16

module _ (p : Placement) (site : Site) (instr : Instr) (ok : IsState p.begun) where
  abbrev end : Left → Tree
  end = onward instr p.begun

  abbrev first_steps : List ℕ
  first_steps = steps_behind_specifier (length_specifier (operand_of instr 0)) no_steps

  abbrev second_steps : List ℕ
  second_steps = steps_behind_specifier (source_specifier (operand_of instr 1)) first_steps

  first_fifteen : length first_steps ≡ length p.begun.r
  first_fifteen = access_steps_length Read (operand_of instr 0) Word no_steps ∙ sym ok.registers

  second_fifteen : length second_steps ≡ length p.begun.r
  second_fifteen = access_steps_length Address (operand_of instr 1) Byte first_steps ∙ first_fifteen

  abbrev later : List Micro
  later = operand_program (destination_specifier (operand_of instr 2)) second_steps ++ []

  abbrev behind_first : List Micro
  behind_first = operand_program (source_specifier (operand_of instr 1)) first_steps ++ later

  abbrev moves : (a b c : Evaluated) → VaxState → Tree
  moves a b c state = tree_of p.pages (move_characters instr (values_with a b c)) state ends_with

  abbrev third_tree : (a b : Evaluated) → VaxState → Tree
  third_tree a b state = tree_of p.pages (evaluate Address Byte (operand_of instr 2)) state (moves a b)

  abbrev second_tree : (a : Evaluated) → VaxState → Tree
  second_tree a state = tree_of p.pages (evaluate Address Byte (operand_of instr 1)) state (third_tree a)

  abbrev last : VaxState
  last = stepped (steps_of instr) p.begun

  -- behind the last operand
  module _ (a b c : Evaluated) (temps temps' temps'' : Temps) (first : IsLeftAs Read (operand_of instr 0) Word a (temps 0) (temps 1)) (second : IsLeftAs Address (operand_of instr 1) Byte b (temps' 1) (temps' 2))
      (third : IsLeftAs Address (operand_of instr 2) Byte c (temps'' 2) (temps'' 3)) (kept : Kept 2 1 temps temps') (kept' : Kept 3 2 temps' temps'') where
    in_0 : temps'' 0 ≡ temps 0
    in_0 = kept' 0 refl refl refl ∙ kept 0 refl refl refl

    in_1 : temps'' 1 ≡ temps' 1
    in_1 = kept' 1 refl refl refl

    is_short : temps'' 0 < 2 ^ 16
    is_short = subst (λ (n : ℕ). n < 2 ^ 16) (sym in_0) first.1

    moves_are : moves a b c last ≡ strings_tree instr.after (temps'' 0) (temps'' 1) (temps'' 2) last
    moves_are =
        ap (λ (x : Evaluated). moves x b c last) (first.0 ∙ ap read_as (sym in_0))
        ∙ (ap (λ (x : Evaluated). moves (read_as (temps'' 0)) x c last) (second.0 ∙ ap located_at (sym in_1))
        ∙ (ap (λ (x : Evaluated). moves (read_as (temps'' 0)) (located_at (temps'' 1)) x last) third.0
        ∙ string_body p.pages instr (temps'' 0) (temps'' 1) (temps'' 2) last is_short (subst (λ (n : ℕ). n < 2 ^ 32) (sym in_1) second.1) third.1))

    goes_there : (temps'' 0 < 2 ^ 16) × Same (strings_tree instr.after (temps'' 0) (temps'' 1) (temps'' 2) last) (moves a b c last)
    goes_there = (is_short, subst (λ (t : Tree). Same (strings_tree instr.after (temps'' 0) (temps'' 1) (temps'' 2) last) t) (sym moves_are) (same_refl (strings_tree instr.after (temps'' 0) (temps'' 1) (temps'' 2) last)))

  pub string_agrees : IsMoveOf instr (operand_of instr 0) (operand_of instr 1) (operand_of instr 2) → IsFor Read (operand_of instr 0) → IsFor Address (operand_of instr 1) → IsFor Address (operand_of instr 2)
      → Agrees IsShortLeft end (course_of (operands_of instr) (found p site) (started p.begun)) (long_tree_for p.begun instr p.pages)
  string_agrees is readable in_memory in_memory' =
      subst (λ (t : Tree). Agrees IsShortLeft end (course_of (operands_of instr) (found p site) (started p.begun)) t) (sym (string_tree p.pages instr (operand_of instr 0) (operand_of instr 1) (operand_of instr 2) p.begun is))
      (subst (λ (s : VaxState). Agrees IsShortLeft end (course_of (operands_of instr) (found p site) (started p.begun)) (tree_of p.pages (evaluate Read Word (operand_of instr 0)) s second_tree)) (nothing_added p.begun ok)
      (does IsShortLeft end p.pages behind_first (found p site) (started p.begun) 0 1 Word no_steps second_tree (sym ok.registers) refl refl refl Read (operand_of instr 0) readable
      (λ a temps first kept.
      does IsShortLeft end p.pages later (found p site) (with_temps temps (started p.begun)) 1 2 Byte first_steps (third_tree a) first_fifteen refl refl refl Address (operand_of instr 1) in_memory
      (λ b temps' second kept'.
      does IsShortLeft end p.pages [] (found p site) (with_temps temps' (with_temps temps (started p.begun))) 2 3 Byte second_steps (moves a b) second_fifteen refl refl refl Address (operand_of instr 2) in_memory'
      (λ c temps'' third kept''. goes_there a b c temps temps' temps'' first second third kept' kept'')))))
