-- What instructions do with condition codes: which they read, which they write, and where they go on.
-- VAX Architecture Reference Manual, "Instruction Descriptions": the line of condition codes of each instruction.
use Rattle.std.specs.Prelude.{◌≡◌, ℕ, ◌/◌, true, false, List, [], Some}
use Rattle.vax_form.specs.Operation.{operation_at}
use Rattle.vax_form.specs.PageTable.{IsPageTable}
use Rattle.vax_form.specs.State.{IsState}
use Rattle.vax_form.specs.Tree.{Tree, Check, Ask, Fault, Ends, Ending, Finish, Exit, Trap, AnswersTree, Comes, answer, instruction_tree}
use Rattle.vax_form.specs.declared.instr.Instr.{Instr}
use Rattle.vax_form.specs.declared.operation.Operation.{Operation}
use Rattle.vax_form.specs.declared.pages.Pages.{Pages}
use Rattle.vax_form.specs.declared.state.Flags.{Flags}
use Rattle.vax_form.specs.declared.state.VaxState.{VaxState}
use Rattle.vax_long.specs.Instructions.{any_script_of}
use Rattle.cc_liveness.specs.declared.uses.CodeUse.{CodeUse}
use Rattle.vax_form.specs.Codes.{Code, holds}
use Rattle.cc_liveness.specs.Uses.{code_use_of}
use Rattle.block_law.specs.CodeWords.{codes_in}

-- two states that differ in condition codes alone
pub record SameButCodes (one other : VaxState) : Type 0 where
  pub registers : one.r ≡ other.r
  pub pc : one.pc ≡ other.pc
  pub upper : one.psw / 16 ≡ other.psw / 16
  pub handler : one.handler ≡ other.handler
  pub pending : one.pending ≡ other.pending

-- the codes of a set are the same in both
abbrev pub AgreeOn : (set : Flags) → (one other : VaxState) → Type 0
AgreeOn set one other = (code : Code) → holds code set ≡ true → holds code (codes_in one.psw) ≡ holds code (codes_in other.psw)

-- the codes outside a set are as they were
abbrev pub KeepsOthers : (set : Flags) → (before after : VaxState) → Type 0
KeepsOthers set before after = (code : Code) → holds code set ≡ false → holds code (codes_in after.psw) ≡ holds code (codes_in before.psw)

-- What two states leave: they differ in codes alone, the codes that are written are the same, the others are as each
-- found them, and where the instruction does not end it goes on behind it.
pub record LeftAlike (used : CodeUse) (after : ℕ) (one other left left' : VaxState) : Type 0 where
  pub same : SameButCodes left left'
  pub written : AgreeOn used.writes left left'
  pub first : KeepsOthers used.writes one left
  pub second : KeepsOthers used.writes other left'
  pub on : used.ends ≡ false → left.pc ≡ after

-- both end in the same way
abbrev pub EndAlike : (used : CodeUse) (after : ℕ) (one other : VaxState) → Ending → Ending → Type 0
EndAlike used after one other (Finish left) (Finish left') = LeftAlike used after one other left left'
EndAlike used after one other (Exit left) (Exit left') = LeftAlike used after one other left left'
EndAlike used after one other (Trap kind left) (Trap kind' left') = (kind ≡ kind') × LeftAlike used after one other left left'
EndAlike used after one other _ _ = ⊥

-- the same checks, references and faults, for all replies, and ends that are alike
abbrev pub Alike : (Ending → Ending → Type 0) → Tree → Tree → Type 0
Alike AreAlike (Check address count write tree) (Check address' count' write' tree') = (address ≡ address') × (count ≡ count') × (write ≡ write') × Alike AreAlike tree tree'
Alike AreAlike (Ask reference on) (Ask reference' on') = (reference ≡ reference') × ((reply : ℕ) → Alike AreAlike (on reply) (on' reply))
Alike AreAlike (Fault exception) (Fault exception') = exception ≡ exception'
Alike AreAlike (Ends e) (Ends e') = AreAlike e e'
Alike AreAlike _ _ = ⊥

-- From two states that differ in codes alone, and have those that the instruction is said to read in common, its trees are
-- alike: so the codes that it isn't said to read have no effect, those that it isn't said to write stay, and where it isn't
-- said to end it goes on behind it.
abbrev pub AreUsedAs : (said : Operation → CodeUse) → Type 0
AreUsedAs said = (pages : Pages) (thread : ℕ) (instr : Instr) (operation : Operation) (one other : VaxState)
    → operation_at instr.opcode ≡ Some operation → SameButCodes one other → AgreeOn (said operation).reads one other
    → Alike (EndAlike (said operation) instr.after one other)
    (instruction_tree pages (any_script_of instr thread) one) (instruction_tree pages (any_script_of instr thread) other)

abbrev pub CodesAreUsed : Type 0
CodesAreUsed = AreUsedAs code_use_of

-- ---- and it is said to do no more than it does

-- An instruction of the opcode, and two states that differ in the one code alone, from which its trees aren't alike.
pub record TellsApart (used : CodeUse) (opcode : ℕ) (code : Code) : Type 0 where
  pub pages : Pages
  pub is_table : IsPageTable pages
  pub thread : ℕ
  pub instr : Instr
  pub has_opcode : instr.opcode ≡ opcode
  pub one : VaxState
  pub other : VaxState
  pub is_state : IsState one × IsState other
  pub same : SameButCodes one other
  pub others : (o : Code) → ¬ (o ≡ code) → holds o (codes_in one.psw) ≡ holds o (codes_in other.psw)
  pub apart : ¬ Alike (EndAlike used instr.after one other)
      (instruction_tree pages (any_script_of instr thread) one) (instruction_tree pages (any_script_of instr thread) other)

-- each code that an operation is said to read has an effect
abbrev pub HaveEffect : (said : Operation → CodeUse) → Type 0
HaveEffect said = (opcode : ℕ) (operation : Operation) (code : Code)
    → operation_at opcode ≡ Some operation → holds code (said operation).reads ≡ true → TellsApart (said operation) opcode code

abbrev pub CodesReadHaveEffect : Type 0
CodesReadHaveEffect = HaveEffect code_use_of

-- An instruction of the opcode, a state, and replies with which it finishes elsewhere than behind itself.
pub record GoesElsewhere (opcode : ℕ) : Type 0 where
  pub pages : Pages
  pub is_table : IsPageTable pages
  pub thread : ℕ
  pub instr : Instr
  pub has_opcode : instr.opcode ≡ opcode
  pub before : VaxState
  pub is_state : IsState before
  pub replies : List ℕ
  pub answers : AnswersTree (instruction_tree pages (any_script_of instr thread) before) replies
  pub left : VaxState
  pub finishes : answer pages (instruction_tree pages (any_script_of instr thread) before) replies ≡ Comes (Finish left) []
  pub elsewhere : ¬ (left.pc ≡ instr.after)

-- each operation that is said to end may go on elsewhere
abbrev pub MayGoElsewhere : (said : Operation → CodeUse) → Type 0
MayGoElsewhere said = (opcode : ℕ) (operation : Operation) → operation_at opcode ≡ Some operation → (said operation).ends ≡ true → GoesElsewhere opcode

abbrev pub EndsGoElsewhere : Type 0
EndsGoElsewhere = MayGoElsewhere code_use_of
