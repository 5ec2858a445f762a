-- The operands of a call, and all that comes behind them, are its tree.
use Rattle.std.proofs.Common.{◌≡◌, ℕ, zero, suc, ◌+◌, ◌-◌, ◌*◌, ◌/◌, ◌%◌, ◌^◌, ◌<◌, inl, inr, refl, sym, ap, ◌∙◌, subst, arith, List, [], ◌∷◌, ◌++◌, length, append_assoc, Some, Bool, true, false, lit<}
use Rattle.std.specs.Prelude.{slice_index}
use Rattle.std.proofs.Math.Nat.{mod-eq_of_lt}
use Rattle.std.proofs.lemmas.List.{get_or-set_same, get_or-set_other, length-set, set-set, append-nil}
use Rattle.std.proofs.lemmas.Nat.{mod_below}
use Rattle.std.proofs.lemmas.Bool.{cases_eq}
use Rattle.vax_form.specs.PageTable.{IsPageTable}
use Rattle.vax_form.specs.State.{IsState, register, with_pc, with_register}
use Rattle.vax_form.specs.Tree.{Tree, Same, Finish, tree_of, ends_with}
use Rattle.vax_form.specs.declared.instr.Access.TheVariants.{Read, Address}
use Rattle.vax_form.specs.declared.instr.Instr.{Instr}
use Rattle.vax_form.specs.declared.instr.Operand.{Operand}
use Rattle.vax_form.specs.declared.instr.Size.TheVariants.{Byte, Long}
use Rattle.vax_form.specs.declared.state.VaxState.{VaxState}
use Rattle.vax_meaning.specs.Evaluation.{evaluate}
use Rattle.vax_meaning.specs.Memory.{write}
use Rattle.vax_meaning.specs.declared.evaluation.Evaluated.{Evaluated}
use Rattle.vax_long.specs.Calls.{aligned, call_general, call_stack, enter, push_frame}
use Rattle.vax_long.specs.Instructions.{long_tree_for}
use Rattle.vax_long.specs.LongForms.{has_entry_mask}
use Rattle.vax_long.specs.Registers.{below, push_checked}
use Rattle.vax_form.specs.Parts.{parts}
use Rattle.exception_records.specs.Codes.{all_ready}
use Rattle.micro_ops.specs.Course.{Course, Leaves, write_parts}
use Rattle.micro_ops.specs.Meaning.{Left, Temps, Ended, course_of, started, with_temp, with_value}
use Rattle.micro_ops.specs.declared.known.Known.{Known}
use Rattle.micro_ops.specs.declared.program.Micro.{Micro}
use Rattle.micro_ops.specs.declared.program.Micro.TheVariants.{Probe}
use Rattle.operand_programs.specs.Behind.{IsFit}
use Rattle.operand_programs.specs.InOrder.{no_steps}
use Rattle.operand_programs.specs.Operands.{IsFor, IsLeftAs, access_program}
use Rattle.operand_programs.specs.Pieces.{Agrees, Kept, with_temps}
use Rattle.operand_programs.specs.Specifiers.{stepped, stepped_registers, sum_into}
use Rattle.operand_programs.proofs.Accesses.{writes_agree}
use Rattle.operand_programs.proofs.Agrees.{agreed}
use Rattle.operand_programs.proofs.Evaluating.{does}
use Rattle.operand_programs.proofs.Ordered.{access_steps_length}
use Rattle.operand_programs.proofs.Places.{sum_course}
use Rattle.operand_programs.proofs.Stepped.{nothing_added, register_stepped, twice}
use Rattle.block_law.specs.Laws.{MoreKinds}
use Rattle.block_law.specs.Placements.{Placement}
use Rattle.program_codegen.specs.declared.calls.Call.{Call}
use Rattle.program_codegen.specs.declared.points.Site.{Site}
use Rattle.program_codegen.specs.Accesses.{needed}
use Rattle.program_codegen.specs.Calls.{argument_temp, first_specifier, frame_of, front_program, list_program, steps_of}
use Rattle.program_codegen.proofs.Holding.{found}
use Rattle.program_codegen.proofs.Frame.{checked_from, pushed_from}
use Rattle.program_codegen.proofs.Going.{left_at}
use Rattle.program_codegen.proofs.Middle.{IsReadyToPush, middle_tree}
use Rattle.program_codegen.proofs.Middle as middle
use Rattle.program_codegen.proofs.CallScripts.{IsBehind, left_by}
use Rattle.program_codegen.proofs.CallScripts as scripts
use Rattle.program_codegen.proofs.CallEnds.{IsStacked, standing_of, ends_same}
use Rattle.program_codegen.proofs.CallBodies.{IsCallTo, mask_at, stack_body, stack_tree, stacked_tree, general_body, general_tree, listed_tree, values_with}

-- ---- trees
checked_same : (frame number count : ℕ) (t u : Tree) → Same t u → Same (checked_from frame number count t) (checked_from frame number count u)
checked_same frame number zero t u same = same
checked_same frame number (suc count) t u same = (refl, refl, refl, checked_same frame (number + 1) count t u same)

pushed_same : (frame number : ℕ) (values : List ℕ) (t u : Tree) → Same t u → Same (pushed_from frame number values t) (pushed_from frame number values u)
pushed_same frame number [] t u same = same
pushed_same frame number (value ∷ values) t u same = (refl, λ reply answers. pushed_same frame (number + 1) values t u same)

-- ---- registers
stepped_length : (r steps : List ℕ) → length (stepped_registers r steps) ≡ length r
stepped_length [] steps = refl
stepped_length (value ∷ r) [] = refl
stepped_length (value ∷ r) (step ∷ steps) = ap suc (stepped_length r steps)

apart : (a b : ℕ) → a < b → a ≡ b → ⊥
apart a b lt e = omega arith

module _ (begun : VaxState) (steps : List ℕ) (ok : IsState begun) (fifteen : length steps ≡ 15) where
  same_length : length steps ≡ length begun.r
  same_length = fifteen ∙ sym ok.registers

  -- behind the operands
  abbrev pub behind : VaxState
  behind = stepped steps begun

  behind_at : (number : ℕ) → register number behind ≡ (register number begun + slice_index steps number) % 2 ^ 32
  behind_at number = register_stepped begun steps number same_length

  behind_fits : (number : ℕ) → register number behind < 2 ^ 32
  behind_fits number = subst (λ (v : ℕ). v < 2 ^ 32) (sym (behind_at number)) (mod_below (register number begun + slice_index steps number) (2 ^ 32) (lit< tt))

  behind_has : 14 < length behind.r
  behind_has = let size = stepped_length begun.r steps ∙ ok.registers in omega arith

  pub is_behind : IsBehind steps begun (register 14 behind) behind
  is_behind = record { registers = λ number lt. behind_at number; sp = refl; has = behind_has; fits = behind_fits; psw = refl }

  pub is_stacked : IsStacked steps begun behind
  is_stacked = record { core = refl; stacked = λ value. refl }

  -- and behind the push of the count
  abbrev pub counted : (list : ℕ) → VaxState
  counted list = with_register 14 list behind

  pub counted_behind : (list : ℕ) → list < 2 ^ 32 → IsBehind steps begun list (counted list)
  counted_behind list small = record {
    registers = λ number lt. get_or-set_other behind.r 14 number list 0 (apart number 14 lt) ∙ behind_at number;
    sp = get_or-set_same behind.r 14 list 0 behind_has;
    has = let size = length-set behind.r 14 list in let some = behind_has in omega arith;
    fits = each;
    psw = refl;
  }
    where
      each : (number : ℕ) → register number (counted list) < 2 ^ 32
      each number = elim (cases_eq number 14) [
        | inl is ↦ subst (λ (n : ℕ). register n (counted list) < 2 ^ 32) (sym is) (subst (λ (v : ℕ). v < 2 ^ 32) (sym (get_or-set_same behind.r 14 list 0 behind_has)) small)
        | inr not ↦ subst (λ (v : ℕ). v < 2 ^ 32) (sym (get_or-set_other behind.r 14 number list 0 not)) (behind_fits number)
      ]

  pub counted_stacked : (list : ℕ) → IsStacked steps begun (counted list)
  counted_stacked list = record { core = refl; stacked = λ value. set-set behind.r 14 list value }

-- ---- behind the operands
module _ (p : Placement) (site : Site) (table : IsPageTable p.pages) (kinds : MoreKinds (needed site.byte_word 4) p.kinds) (behind_ready : site.behind ≡ all_ready) (after : site.after < 2 ^ 32)
    (call : Call) (steps : List ℕ) (known : Known) (ready : IsReadyToPush known) where
  -- what the words behind the operands follow, by what the operands left
  abbrev pub onward : Left → Tree
  onward left = middle_tree p site table kinds behind_ready after call steps known (standing_of p.begun left.temps) ready (frame_of call.mask) (list_program call.stack steps)

  abbrev last_tree : Temps → Tree
  last_tree temps = middle.end_tree p site table kinds behind_ready after call steps known (standing_of p.begun temps) ready (length (frame_of call.mask)) (list_program call.stack steps)

  abbrev framed_tree : Temps → Tree
  framed_tree temps = middle.frame_tree p site table kinds behind_ready after call steps known (standing_of p.begun temps) ready (frame_of call.mask) (last_tree temps)

  framed_same : (temps : Temps) (state : VaxState) (destination argument : ℕ) → IsState p.begun → length steps ≡ 15 → temps 2 < 2 ^ 32 → IsBehind steps p.begun (temps 2) state → IsStacked steps p.begun state
      → call.entry ≡ (destination + 2) % 2 ^ 32 → temps (argument_temp call.stack) % 2 ^ 32 ≡ argument
      → Same (framed_tree temps) (tree_of p.pages (push_frame site.after call.stack call.mask) state (λ done s. tree_of p.pages (enter destination call.mask argument) s ends_with))
  framed_same temps state destination argument ok fifteen small is stacked entry_is argument_is =
      subst (λ (t : Tree). Same (framed_tree temps) t) (sym (scripts.frame_tree p.pages site.after call steps p.begun (temps 2) state is destination argument after ok.psw small))
      (pushed_same (temps 2 / 4 * 4) 1 _ _ _ (ends_same p site table kinds behind_ready call steps temps state destination argument (length (frame_of call.mask)) ok fifteen stacked entry_is argument_is))

  count_same : (temps : Temps) (t : Tree) (count : ℕ) (state : VaxState) (rest : Unit {0} → VaxState → Tree) → below (register 14 state) ≡ temps 2 → temps 0 ≡ count
      → Same t (rest tt (with_register 14 (temps 2) state))
      → Same (middle.count_tree p site table kinds behind_ready after call steps known (standing_of p.begun temps) ready true t) (tree_of p.pages (push_checked count) state rest)
  unfolding push_checked
  count_same temps t count state rest at is same =
      subst (λ (place : ℕ). Same (counting) (tree_of p.pages (write place 4 count) state (λ done s. rest tt (with_register 14 place s)))) (sym at)
      (subst (λ (v : ℕ). Same counting (tree_of p.pages (write (temps 2) 4 v) state (λ done s. rest tt (with_register 14 (temps 2) s)))) is
      (agreed (λ (left : Left). Unit {0}) (λ (left : Left). t) (write_parts (parts (temps 2) 4) (temps 0) (Leaves (left_at site (standing_of p.begun temps)))) _
      (writes_agree (λ (left : Left). Unit {0}) (λ (left : Left). t) p.pages (temps 2) 4 (temps 0) state (Leaves (left_at site (standing_of p.begun temps))) (λ done s. rest tt (with_register 14 (temps 2) s)) (lit< tt) (tt, same))))
    where
      counting : Tree
      counting = middle.count_tree p site table kinds behind_ready after call steps known (standing_of p.begun temps) ready true t

-- ---- the operands
abbrev pub call_of : (first : Operand) → (stack : Bool) → (mask destination : ℕ) → Call
call_of first stack mask destination = record { first = first; stack = stack; mask = mask; entry = (destination + 2) % 2 ^ 32 }

module _ (p : Placement) (site : Site) (table : IsPageTable p.pages) (kinds : MoreKinds (needed site.byte_word 4) p.kinds) (behind_ready : site.behind ≡ all_ready) (after : site.after < 2 ^ 32)
    (instr : Instr) (same_after : instr.after ≡ site.after) (first : Operand) (destination : ℕ) (fits : destination < 2 ^ 32) (has : has_entry_mask p.pages destination ≡ true)
    (ok : IsState p.begun) (known : Known) (ready : IsReadyToPush known) where
  abbrev mask : ℕ
  mask = mask_at p.pages instr destination fits has

  abbrev none : List ℕ
  none = no_steps

  no_steps_added : stepped none p.begun ≡ p.begun
  no_steps_added = nothing_added p.begun ok

  -- CALLS
  abbrev stack_call : Call
  stack_call = call_of first true mask destination

  abbrev stack_steps : List ℕ
  stack_steps = steps_of stack_call

  stack_fifteen : length stack_steps ≡ 15
  stack_fifteen = access_steps_length Read first Long none

  pub stack_agrees : IsCallTo true instr first destination → IsFor Read first
      → Agrees (λ (left : Left). Unit {0}) (onward p site table kinds behind_ready after stack_call stack_steps known ready) (course_of (front_program stack_call) (found p site) (started p.begun))
      (long_tree_for p.begun instr p.pages)
  stack_agrees is readable =
      subst (λ (t : Tree). Agrees P end (course_of (front_program stack_call) (found p site) (started p.begun)) t) (sym (stack_tree p.pages instr first destination p.begun is))
      (subst (λ (program : List Micro). Agrees P end (course_of program (found p site) (started p.begun)) (tree_of p.pages (evaluate Read Long first) p.begun body)) (sym (append_assoc operand (sum ∷ []) (Probe 2 4 true ∷ [])))
      (subst (λ (s : VaxState). Agrees P end (course_of (operand ++ rest_program) (found p site) (started p.begun)) (tree_of p.pages (evaluate Read Long first) s body)) no_steps_added
      (does P end p.pages rest_program (found p site) (started p.begun) 0 1 Long none body (sym ok.registers) refl refl refl Read first readable goes)))
    where
      P : Left → Type 0
      P left = Unit {0}

      end : Left → Tree
      end = onward p site table kinds behind_ready after stack_call stack_steps known ready

      offset : ℕ
      offset = (slice_index stack_steps 14 + (2 ^ 32 - 4)) % 2 ^ 32

      sum : Micro
      sum = sum_into 2 (Some 14) offset

      operand : List Micro
      operand = access_program Read first Long none 0 1

      rest_program : List Micro
      rest_program = sum ∷ Probe 2 4 true ∷ []

      body : Evaluated → VaxState → Tree
      body value s = tree_of p.pages (call_stack instr (values_with value destination)) s ends_with

      state : VaxState
      state = behind p.begun stack_steps ok stack_fifteen

      list : ℕ
      list = (register 14 p.begun + offset) % 2 ^ 32

      list_is : list ≡ below (register 14 state)
      list_is =
          sym (ap (λ (v : ℕ). (v + (2 ^ 32 - 4)) % 2 ^ 32) (register_stepped p.begun stack_steps 14 (stack_fifteen ∙ sym ok.registers)) ∙ twice (register 14 p.begun) (slice_index stack_steps 14) (2 ^ 32 - 4))

      small : list < 2 ^ 32
      small = mod_below (register 14 p.begun + offset) (2 ^ 32) (lit< tt)

      goes : (value : Evaluated) (temps : Temps) → IsLeftAs Read first Long value (temps 0) (temps 1) → Kept 1 0 (started p.begun).temps temps
          → Agrees P end (course_of rest_program (found p site) (with_temps temps (started p.begun))) (body value state)
      goes value temps left kept =
          subst (λ (course : Course Left). Agrees P end course (body value state)) (sym (sum_course 2 (Some 14) offset (Probe 2 4 true ∷ []) (found p site) (with_temps temps (started p.begun))))
          (subst (λ (t : Tree). Agrees P end (course_of (Probe 2 4 true ∷ []) (found p site) (with_value 2 list (with_temps temps (started p.begun)))) t) (sym (stack_body p.pages instr destination fits has value state))
          (list_is, refl, refl, (tt, follows)))
        where
          temps' : Temps
          temps' = with_temp 2 list temps

          count_is : temps 0 ≡ value.value % 2 ^ 32
          count_is = sym (ap (λ (e : Evaluated). e.value % 2 ^ 32) left.0 ∙ mod-eq_of_lt left.1)

          stacks : (place : ℕ) → Tree
          stacks place = stacked_tree p.pages instr destination fits has (value.value % 2 ^ 32) place state

          framed : Same (framed_tree p site table kinds behind_ready after stack_call stack_steps known ready temps')
              (tree_of p.pages (push_frame instr.after true mask) (counted p.begun stack_steps ok stack_fifteen list) (λ done s. tree_of p.pages (enter destination mask list) s ends_with))
          framed =
              subst (λ (n : ℕ). Same (framed_tree p site table kinds behind_ready after stack_call stack_steps known ready temps')
              (tree_of p.pages (push_frame n true mask) (counted p.begun stack_steps ok stack_fifteen list) (λ done s. tree_of p.pages (enter destination mask list) s ends_with))) (sym same_after)
              (framed_same p site table kinds behind_ready after stack_call stack_steps known ready temps' (counted p.begun stack_steps ok stack_fifteen list) destination list ok stack_fifteen small
              (counted_behind p.begun stack_steps ok stack_fifteen list small) (counted_stacked p.begun stack_steps ok stack_fifteen list) refl (mod-eq_of_lt small))

          follows : Same (checked_from (list / 4 * 4) 1 (length (frame_of mask)) (middle.count_tree p site table kinds behind_ready after stack_call stack_steps known (standing_of p.begun temps') ready true (framed_tree p site table kinds behind_ready after stack_call stack_steps known ready temps')))
              (checked_from (aligned (below (register 14 state))) 1 (length (frame_of mask)) (stacks (below (register 14 state))))
          follows =
              subst (λ (l : ℕ). Same (checked_from (list / 4 * 4) 1 (length (frame_of mask)) (middle.count_tree p site table kinds behind_ready after stack_call stack_steps known (standing_of p.begun temps') ready true (framed_tree p site table kinds behind_ready after stack_call stack_steps known ready temps')))
              (checked_from (aligned l) 1 (length (frame_of mask)) (stacks l))) list_is
              (checked_same (list / 4 * 4) 1 (length (frame_of mask)) _ _
              (count_same p site table kinds behind_ready after stack_call stack_steps known ready temps' _ (value.value % 2 ^ 32) state _ (sym list_is) count_is framed))

  -- CALLG
  abbrev general_call : Call
  general_call = call_of first false mask destination

  abbrev general_steps : List ℕ
  general_steps = steps_of general_call

  general_fifteen : length general_steps ≡ 15
  general_fifteen = access_steps_length Address first Byte none

  pub general_agrees : IsCallTo false instr first destination → IsFor Address first
      → Agrees (λ (left : Left). Unit {0}) (onward p site table kinds behind_ready after general_call general_steps known ready) (course_of (front_program general_call) (found p site) (started p.begun))
      (long_tree_for p.begun instr p.pages)
  general_agrees is in_memory =
      subst (λ (t : Tree). Agrees P end (course_of (front_program general_call) (found p site) (started p.begun)) t) (sym (general_tree p.pages instr first destination p.begun is))
      (subst (λ (program : List Micro). Agrees P end (course_of program (found p site) (started p.begun)) (tree_of p.pages (evaluate Address Byte first) p.begun body)) (sym (append-nil (operand ++ (sum ∷ []))))
      (subst (λ (s : VaxState). Agrees P end (course_of (operand ++ (sum ∷ [])) (found p site) (started p.begun)) (tree_of p.pages (evaluate Address Byte first) s body)) no_steps_added
      (does P end p.pages (sum ∷ []) (found p site) (started p.begun) 0 1 Byte none body (sym ok.registers) refl refl refl Address first in_memory goes)))
    where
      P : Left → Type 0
      P left = Unit {0}

      end : Left → Tree
      end = onward p site table kinds behind_ready after general_call general_steps known ready

      sum : Micro
      sum = sum_into 2 (Some 14) (slice_index general_steps 14)

      operand : List Micro
      operand = access_program Address first Byte none 0 1

      body : Evaluated → VaxState → Tree
      body value s = tree_of p.pages (call_general instr (values_with value destination)) s ends_with

      state : VaxState
      state = behind p.begun general_steps ok general_fifteen

      list : ℕ
      list = (register 14 p.begun + slice_index general_steps 14) % 2 ^ 32

      list_is : register 14 state ≡ list
      list_is = register_stepped p.begun general_steps 14 (general_fifteen ∙ sym ok.registers)

      small : list < 2 ^ 32
      small = mod_below (register 14 p.begun + slice_index general_steps 14) (2 ^ 32) (lit< tt)

      goes : (value : Evaluated) (temps : Temps) → IsLeftAs Address first Byte value (temps 0) (temps 1) → Kept 1 0 (started p.begun).temps temps
          → Agrees P end (course_of (sum ∷ []) (found p site) (with_temps temps (started p.begun))) (body value state)
      goes value temps left kept =
          subst (λ (course : Course Left). Agrees P end course (body value state)) (sym (sum_course 2 (Some 14) (slice_index general_steps 14) [] (found p site) (with_temps temps (started p.begun))))
          (subst (λ (t : Tree). Unit {0} × Same (end (record { departure = Ended (Finish (with_pc site.after p.begun)); temps = temps' })) t) (sym (general_body p.pages instr destination fits has value state (subst (λ (v : ℕ). v < 2 ^ 32) (sym list_is) small)))
          (tt, follows))
        where
          temps' : Temps
          temps' = with_temp 2 list temps

          argument_is : temps 0 % 2 ^ 32 ≡ value.value % 2 ^ 32
          argument_is = sym (ap (λ (e : Evaluated). e.value % 2 ^ 32) left.0)

          framed : Same (framed_tree p site table kinds behind_ready after general_call general_steps known ready temps') (listed_tree p.pages instr destination fits has (value.value % 2 ^ 32) state)
          framed =
              subst (λ (n : ℕ). Same (framed_tree p site table kinds behind_ready after general_call general_steps known ready temps')
              (tree_of p.pages (push_frame n false mask) state (λ done s. tree_of p.pages (enter destination mask (value.value % 2 ^ 32)) s ends_with))) (sym same_after)
              (framed_same p site table kinds behind_ready after general_call general_steps known ready temps' state destination (value.value % 2 ^ 32) ok general_fifteen small
              (subst (λ (l : ℕ). IsBehind general_steps p.begun l state) list_is (is_behind p.begun general_steps ok general_fifteen)) (is_stacked p.begun general_steps ok general_fifteen) refl argument_is)

          follows : Same (checked_from (list / 4 * 4) 1 (length (frame_of mask)) (framed_tree p site table kinds behind_ready after general_call general_steps known ready temps'))
              (checked_from (aligned (register 14 state)) 1 (length (frame_of mask)) (listed_tree p.pages instr destination fits has (value.value % 2 ^ 32) state))
          follows =
              subst (λ (l : ℕ). Same (checked_from (list / 4 * 4) 1 (length (frame_of mask)) (framed_tree p site table kinds behind_ready after general_call general_steps known ready temps'))
              (checked_from (aligned l) 1 (length (frame_of mask)) (listed_tree p.pages instr destination fits has (value.value % 2 ^ 32) state))) (sym list_is)
              (checked_same (list / 4 * 4) 1 (length (frame_of mask)) _ _ framed)

  -- either
  pub call_agrees : (stack : Bool) → IsCallTo stack instr first destination → IsFit (first_specifier stack first)
      → Agrees (λ (left : Left). Unit {0}) (onward p site table kinds behind_ready after (call_of first stack mask destination) (steps_of (call_of first stack mask destination)) known ready)
      (course_of (front_program (call_of first stack mask destination)) (found p site) (started p.begun)) (long_tree_for p.begun instr p.pages)
  call_agrees true is fit = stack_agrees is fit.placed.operand
  call_agrees false is fit = general_agrees is fit.placed.operand
