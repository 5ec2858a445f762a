-- What an instruction without strings comes to, gone through from its begin.
use Rattle.std.proofs.Common.{◌≡◌, ℕ, ◌+◌, ◌<◌, List, [], ◌∷◌, ◌++◌, length, true, false, Option, Some, None, refl, sym, ap, ◌∙◌, subst, arith}
use Rattle.std.specs.Option.{option_map_or}
use Rattle.std.specs.Prelude.{IfSome}
use Rattle.std.proofs.lemmas.List.{append-nil, length-append}
use Rattle.vax_form.specs.Grammar.{Found, instruction, reserved_instruction, reserved_mode, past}
use Rattle.vax_form.specs.GrammarFound.{found}
use Rattle.vax_form.specs.Operation.{control_opcodes, operation_at}
use Rattle.vax_form.specs.Row.{is_long_operation}
use Rattle.vax_form.specs.Tree.{Answer, Wants, answer, instruction_tree, outcome}
use Rattle.vax_form.specs.declared.instr.Instr.{Instr}
use Rattle.vax_form.specs.declared.operation.LongOperation.{LongOperation}
use Rattle.vax_form.specs.declared.operation.LongOperation.TheVariants as long
use Rattle.vax_form.specs.declared.operation.Operation.{Operation}
use Rattle.vax_form.specs.declared.operation.Operation.TheVariants as operations
use Rattle.vax_form.specs.declared.pages.Pages.{Pages}
use Rattle.vax_form.specs.declared.state.Pending.TheVariants.{Nothing}
use Rattle.vax_form.specs.declared.state.Reference.{Reference}
use Rattle.vax_form.specs.declared.state.VaxState.{VaxState}
use Rattle.vax_long.specs.Instructions.{either_script, long_at, long_operation, long_script, script_found}
use Rattle.vax_long.specs.Pending.{moment_at}
use Rattle.tie_operands.specs.Replies.{list_of}
use Rattle.tie_operands.specs.Steps as made
use Rattle.tie_operands.specs.Steps.{FailsByFault, IfWant}
use Rattle.tie_operands.specs.declared.step.TieStep.{TieStep}
use Rattle.tie_operands.proofs.Whole.{if_want}
use Rattle.tie_interpreter.specs.Found.{IsShort, short_tree}
use Rattle.tie_strings.specs.Bodies.{long_of, plain_of}
use Rattle.tie_strings.specs.Whole.{IsLong}
use Rattle.tie_strings.specs.declared.body.Plain.{Plain}
use Rattle.tie_strings.specs.declared.body.Plain.TheVariants as plains
use Rattle.tie_switch.specs.Interpreted.{ComesTo, HasStrings, HasStringsBy, IfWants, IsBefore, IsPlayed, IsWant, Stands, StepsBy, handled_answer, kept_of, step_of}
use Rattle.tie_switch.specs.declared.interpreted.Interpreted.{Interpreted}
use Rattle.tie_switch.specs.declared.interpreted.Step.{Step}
use Rattle.tie_switch.specs.declared.interpreted.Step.TheVariants as steps
use Rattle.tie_switch.specs.declared.played.Played.{Played}
use Rattle.tie_switch.proofs.Found.{short_is}
use Rattle.tie_switch.proofs.Handled.{if_wants, moment_step, wants_map}

-- ---- which instructions have strings
strings_by : (o : Option Operation) → HasStringsBy (long_operation o) → option_map_or is_long_operation o false ≡ true
unfolding is_long_operation long_operation
strings_by None strings = absurd strings
strings_by (Some (operations.Long operation)) strings = refl
strings_by (Some _) strings = absurd strings

pub strings_are_long : (there : Found) → HasStrings there → IsLong there
strings_are_long (instruction instr) strings = strings_by (operation_at instr.opcode) strings
strings_are_long reserved_instruction strings = absurd strings
strings_are_long reserved_mode strings = absurd strings
strings_are_long (past address) strings = absurd strings

short_by : (o : Option Operation) → long_operation o ≡ None → option_map_or is_long_operation o false ≡ false
unfolding is_long_operation long_operation
short_by None none = refl
short_by (Some (operations.Long operation)) none = absurd (cc none)
short_by (Some _) none = refl

pub none_is_short : (instr : Instr) → long_at instr.opcode ≡ None → IsShort (instruction instr)
none_is_short instr none = short_by (operation_at instr.opcode) none

no_strings_by : (o : Option LongOperation) → o ≡ None → HasStringsBy o → ⊥
no_strings_by None none strings = strings
no_strings_by (Some operation) none strings = absurd (cc none)

short_by_test : (o : Option Operation) → option_map_or is_long_operation o false ≡ false → long_operation o ≡ None
unfolding is_long_operation long_operation
short_by_test None is = refl
short_by_test (Some (operations.Long operation)) is = absurd (cc is)
short_by_test (Some _) is = refl

short_has_none : (there : Found) → IsShort there → HasStrings there → ⊥
short_has_none (instruction instr) short strings = no_strings_by (long_at instr.opcode) (short_by_test (operation_at instr.opcode) short) strings
short_has_none reserved_instruction short strings = strings
short_has_none reserved_mode short strings = strings
short_has_none (past address) short strings = strings

same_plain : (x y : Plain) → Some x ≡ Some y → long_of y ≡ long_of x
same_plain x y e = let same : x ≡ y = cc e in ap long_of (sym same)

plain_is : (operation : LongOperation) (plain : Plain) → plain_of operation ≡ Some plain → long_of plain ≡ operation
plain_is long.Index plain e = same_plain plains.Index plain e
plain_is long.CallGeneral plain e = same_plain plains.CallGeneral plain e
plain_is long.CallStack plain e = same_plain plains.CallStack plain e
plain_is long.Return plain e = same_plain plains.Return plain e
plain_is long.PushRegisters plain e = same_plain plains.PushRegisters plain e
plain_is long.PopRegisters plain e = same_plain plains.PopRegisters plain e
plain_is long.MoveCharacters plain e = absurd (cc e)
plain_is long.MoveCharactersFilled plain e = absurd (cc e)
plain_is long.CompareCharacters plain e = absurd (cc e)
plain_is long.LocateCharacter plain e = absurd (cc e)
plain_is long.SkipCharacter plain e = absurd (cc e)

some_plain : (o : Option LongOperation) (operation : LongOperation) (plain : Plain) → o ≡ Some operation → plain_of operation ≡ Some plain → HasStringsBy o → ⊥
some_plain None operation plain is some strings = strings
some_plain (Some other) operation plain is some strings =
    let same : other ≡ operation = cc is in
    let none : Some plain ≡ None = sym some ∙ ap plain_of (sym same) ∙ strings in
    absurd (cc none)

pub strings_there : (instr : Instr) (operation : LongOperation) → long_at instr.opcode ≡ Some operation → plain_of operation ≡ None → HasStrings (instruction instr)
strings_there instr operation is none = subst HasStringsBy (sym is) none

-- ---- what a RET wants
return_there : long_at 4 ≡ Some long.Return
unfolding operation_at control_opcodes long_operation
return_there = refl

pub return_steps : (pages : Pages) (thread : ℕ) (before : VaxState) (instr : Instr) (replies : List ℕ) (told : Option Reference) → instr.opcode ≡ 4
    → IfSome told (λ reference. answer pages (instruction_tree pages (long_script (long_of plains.Return) instr) before) replies ≡ Wants reference)
    → IfSome told (λ reference. length replies < 34) → IfSome told (λ reference. StepsBy pages thread before (instruction instr) replies (steps.Wants reference))
return_steps pages thread before instr replies None opcode wanted few = tt
return_steps pages thread before instr replies (Some reference) opcode wanted few =
    let is : long_at instr.opcode ≡ Some long.Return = ap long_at opcode ∙ return_there in
    let tree : instruction_tree pages (script_found (instruction instr) thread) before ≡ instruction_tree pages (long_script (long_of plains.Return) instr) before =
    ap (λ o. instruction_tree pages (either_script o instr thread) before) is in
    let short : length replies < 34 = few in
    record {
      answers = sym (ap (λ (a : Answer). step_of (handled_answer before a)) (ap (λ t. answer pages t replies) tree ∙ wanted));
      few = omega (arith, short);
      whole = some_plain (long_at instr.opcode) long.Return plains.Return is refl;
    }

-- ---- what it comes to
pub short_comes : (pages : Pages) (thread : ℕ) (before : VaxState) (there : Found) (replies given : List ℕ) (step : TieStep) → IsShort there → given ≡ replies
    → step ≡ made.step_of (outcome before (answer pages (short_tree pages thread there before) given)) → FailsByFault (answer pages (short_tree pages thread there before) given)
    → IfWant step (length given < 28) → ComesTo pages thread before there replies step
short_comes pages thread before there replies given step short same answers faults few =
    let is = short_is pages thread there before short in
    subst (λ (r : List ℕ). ComesTo pages thread before there r step) same
    (record {
      answers = answers ∙ ap (λ t. made.step_of (outcome before (answer pages t given))) is;
      faults = subst (λ t. FailsByFault (answer pages t given)) is faults;
      few = if_want step (λ (h : length given < 28). omega (arith, h)) few;
      whole = short_has_none there short;
    })

pub plain_comes : (pages : Pages) (thread : ℕ) (before : VaxState) (instr : Instr) (operation : LongOperation) (plain : Plain) (replies given : List ℕ) (step : TieStep)
    → long_at instr.opcode ≡ Some operation → plain_of operation ≡ Some plain → given ≡ replies
    → step ≡ made.step_of (outcome before (answer pages (instruction_tree pages (long_script (long_of plain) instr) before) given))
    → FailsByFault (answer pages (instruction_tree pages (long_script (long_of plain) instr) before) given)
    → IfWant step (length given < 60) → ComesTo pages thread before (instruction instr) replies step
plain_comes pages thread before instr operation plain replies given step is some same answers faults few =
    let tree : instruction_tree pages (long_script (long_of plain) instr) before ≡ instruction_tree pages (script_found (instruction instr) thread) before =
    ap (λ o. instruction_tree pages (long_script o instr) before) (plain_is operation plain some) ∙ ap (λ o. instruction_tree pages (either_script o instr thread) before) (sym is) in
    subst (λ (r : List ℕ). ComesTo pages thread before (instruction instr) r step) same
    (record {
      answers = answers ∙ ap (λ t. made.step_of (outcome before (answer pages t given))) tree;
      faults = subst (λ t. FailsByFault (answer pages t given)) tree faults;
      few = few;
      whole = some_plain (long_at instr.opcode) operation plain is some;
    })

-- and its step, where the handler takes its exceptions
pub handled_comes : (pages : Pages) (thread : ℕ) (before : VaxState) (there : Found) (replies : List ℕ) (step : TieStep) (result : Step) → ComesTo pages thread before there replies step
    → ((a : Answer) → step ≡ made.step_of (outcome before a) → FailsByFault a → result ≡ step_of (handled_answer before a)) → IfWants result (IsWant step)
    → StepsBy pages thread before there replies result
handled_comes pages thread before there replies step result comes handled wants = record {
  answers = handled (answer pages (instruction_tree pages (script_found there thread) before) replies) comes.answers comes.faults;
  few = if_wants result step wants (λ (few : length replies < 60). few) comes.few;
  whole = comes.whole;
}

-- a step of an instruction with nothing pending and no reply is that of the thread
pub at_once_answers : (pages : Pages) (thread : ℕ) (boundary : VaxState) (instr : Instr) (step : Step) → StepsBy pages thread boundary (instruction instr) [] step
    → (state : VaxState) (replies : List ℕ) → IsBefore pages boundary instr state replies → step ≡ step_of (answer pages (moment_at pages thread state) replies)
at_once_answers pages thread boundary instr step comes state replies before =
    let there = subst (λ f. StepsBy pages thread boundary f [] step) (sym before.there) comes in
    there.answers ∙ moment_step pages thread boundary [] before.nothing
    ∙ ap (λ (s : VaxState). step_of (answer pages (moment_at pages thread s) [])) (sym before.same)
    ∙ ap (λ r. step_of (answer pages (moment_at pages thread state) r)) (sym before.none)

-- a fact of what there is follows from another
pub some_map : {A : Type 0} {P Q : A → Type 0} (o : Option A) → ((x : A) → P x → Q x) → IfSome o P → IfSome o Q
some_map None f given = tt
some_map (Some x) f given = f x given

-- ---- the next reply
module _ (pages : Pages) (old new : Played) (reply : Option ℕ) (given : List ℕ) (step : Step) (before : new.before ≡ old.before) (thread_kept : new.thread ≡ old.thread)
    (kept : length (kept_of old) < 60 → kept_of new ≡ kept_of old ++ list_of reply) (gives : length (kept_of new) < 61 → given ≡ kept_of new)
    (comes : StepsBy pages new.thread new.before (found pages new.before.pc) given step) (thread : ℕ) (state : VaxState) (replies : List ℕ) (p : IsPlayed pages thread old state replies) where
  same_state : new.before ≡ state
  same_state = before ∙ p.before

  all_kept : kept_of new ≡ replies ++ list_of reply
  all_kept = kept (subst (λ (r : List ℕ). length r < 60) (sym p.kept) p.room) ∙ ap (λ r. r ++ list_of reply) p.kept

  few_more : (r : List ℕ) (o : Option ℕ) → length r < 60 → length (r ++ list_of o) < 61
  few_more r None few = let same : length (r ++ []) ≡ length r = ap length (append-nil r) in omega (arith, same, few)
  few_more r (Some x) few = let one : length (r ++ x ∷ []) ≡ length r + 1 = length-append r (x ∷ []) in omega (arith, one, few)

  all_given : given ≡ replies ++ list_of reply
  all_given = gives (subst (λ (r : List ℕ). length r < 61) (sym all_kept) (few_more replies reply p.room)) ∙ all_kept

  comes_there : StepsBy pages thread state (found pages state.pc) (replies ++ list_of reply) step
  comes_there =
      subst (λ (r : List ℕ). StepsBy pages thread state (found pages state.pc) r step) all_given
      (subst (λ (s : VaxState). StepsBy pages thread s (found pages s.pc) given step) same_state
      (subst (λ (t : ℕ). StepsBy pages t new.before (found pages new.before.pc) given step) (thread_kept ∙ p.of_thread) comes))

  still_played : length (replies ++ list_of reply) < 60 → IsPlayed pages thread new state (replies ++ list_of reply)
  still_played room = record {
    nothing = p.nothing;
    before = same_state;
    of_thread = thread_kept ∙ p.of_thread;
    kept = all_kept;
    room = room;
    whole = λ strings. absurd (comes_there.whole strings);
  }

  pub played_answers : step ≡ step_of (answer pages (moment_at pages thread state) (replies ++ list_of reply))
  played_answers = comes_there.answers ∙ moment_step pages thread state (replies ++ list_of reply) p.nothing

  pub played_stands : IfWants step (IsPlayed pages thread new state (replies ++ list_of reply))
  played_stands = wants_map step still_played comes_there.few

-- ---- strings, which are begun with no replies
module _ (pages : Pages) (old new : Played) (reply : Option ℕ) (before : new.before ≡ old.before) (thread_kept : new.thread ≡ old.thread) (strings : HasStrings (found pages old.before.pc))
    (thread : ℕ) (state : VaxState) (replies : List ℕ) (p : IsPlayed pages thread old state replies) where
  none : replies ++ list_of reply ≡ list_of reply
  none = ap (λ r. r ++ list_of reply) (p.whole (subst (λ (s : VaxState). HasStrings (found pages s.pc)) p.before strings))

  nothing_there : new.before.pending ≡ Nothing
  nothing_there = ap (λ (s : VaxState). s.pending) (before ∙ p.before) ∙ p.nothing

  pub strings_answer : (result : Step) → (new.before.pending ≡ Nothing → result ≡ step_of (answer pages (moment_at pages new.thread new.before) (list_of reply)))
      → result ≡ step_of (answer pages (moment_at pages thread state) (replies ++ list_of reply))
  strings_answer result answers =
      answers nothing_there
      ∙ ap (λ t. step_of (answer pages (moment_at pages t new.before) (list_of reply))) (thread_kept ∙ p.of_thread)
      ∙ ap (λ (s : VaxState). step_of (answer pages (moment_at pages thread s) (list_of reply))) (before ∙ p.before)
      ∙ ap (λ r. step_of (answer pages (moment_at pages thread state) r)) (sym none)

  pub strings_stand : (result : Step) (after : Interpreted) → (new.before.pending ≡ Nothing → IfWants result (Stands pages new.thread after new.before (list_of reply)))
      → IfWants result (Stands pages thread after state (replies ++ list_of reply))
  strings_stand result after stands =
      subst (λ r. IfWants result (Stands pages thread after state r)) (sym none)
      (subst (λ (s : VaxState). IfWants result (Stands pages thread after s (list_of reply))) (before ∙ p.before)
      (subst (λ t. IfWants result (Stands pages t after new.before (list_of reply))) (thread_kept ∙ p.of_thread) (stands nothing_there)))
