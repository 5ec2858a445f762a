-- An instruction ends where its program leaves.
use Rattle.std.proofs.Common.{◌≡◌, ℕ, ◌+◌, ◌*◌, ◌/◌, ◌%◌, ◌^◌, ◌==◌, Bool, true, false, List, [], ◌∷◌, refl, sym, subst, inl}
use Rattle.std.specs.Prelude.{All, if◌then◌else◌}
use Rattle.std.specs.List.{list_any}
use Rattle.std.proofs.lemmas.List.Elements.{All-head, All-tail}
use Rattle.vax_form.specs.Parts.{parts}
use Rattle.vax_form.specs.State.{Answers, with_pc}
use Rattle.vax_form.specs.Tree.{Tree, Ending, Finish, Exit, Trap, Same}
use Rattle.vax_form.specs.Tree as trees
use Rattle.vax_form.specs.declared.instr.Instr.{Instr}
use Rattle.vax_form.specs.declared.state.Reference.{Reference}
use Rattle.vax_form.specs.declared.state.VaxState.{VaxState}
use Rattle.vax_form.specs.declared.state.Exception.TheVariants.{ReservedOperand}
use Rattle.micro_ops.specs.Course.{Course, Check, Ask, Fault, Leaves, continued, AtLeaves, read_parts, write_parts}
use Rattle.micro_ops.specs.Exits.{addresses_of, leaves_computed}
use Rattle.micro_ops.specs.Meaning.{Departure, Ended, Serves, Left, Standing, with_value, departed, departure_to, leaves_with, course_of, started, traps}
use Rattle.micro_ops.specs.declared.program.Exit.TheVariants as exits
use Rattle.micro_ops.specs.declared.program.Micro.{Micro}
use Rattle.micro_ops.specs.declared.program.Micro.TheVariants.{Compute, Probe, Refuse, Read, Write, Locked, Commit, Codes, SetPsw, Leave}
use Rattle.operand_programs.specs.Pieces.{service}
use Rattle.micro_lower.specs.Ends.{EndsAt, leaves_for_service, EndsWhereItGoes}
use Rattle.micro_lower.specs.Lowering.{GoesTo}
use Rattle.micro_lower.proofs.Endings.{found_at}

-- ---- references in parts
module _ {A : Type 0} (P : A → Type 0) where
  reads_at : (list : List (ℕ × ℕ)) (on : ℕ → Course A) → ((value : ℕ) → AtLeaves P (on value)) → AtLeaves P (read_parts list on)
  reads_at [] on at = at 0
  reads_at (part ∷ []) on at = λ reply answers. at (reply % 2 ^ (8 * part.1))
  reads_at (part ∷ second ∷ more) on at =
      λ reply answers. reads_at (second ∷ more) (λ rest. on (reply % 2 ^ (8 * part.1) + rest * 2 ^ (8 * part.1))) (λ rest. at (reply % 2 ^ (8 * part.1) + rest * 2 ^ (8 * part.1)))

  writes_at : (list : List (ℕ × ℕ)) (value : ℕ) (on : Course A) → AtLeaves P on → AtLeaves P (write_parts list value on)
  writes_at [] value on at = at
  writes_at (part ∷ more) value on at = λ reply answers. writes_at more (value / 2 ^ (8 * part.1)) on at

  refuses_at : (none : Bool) (course : Course A) → AtLeaves P course → AtLeaves P (if none then course else Fault ReservedOperand)
  refuses_at true course at = at
  refuses_at false course at = tt

-- ---- departures
module _ (instr : Instr) where
  -- it goes on at such an address
  abbrev DepartsTo : Departure → Type 0
  DepartsTo (Ended (Finish state)) = GoesTo instr state.pc
  DepartsTo (Ended (Trap kind state)) = GoesTo instr state.pc
  DepartsTo (Ended (Exit state)) = Unit {0}
  DepartsTo (Serves code state) = ⊥

  abbrev LeavesTo : Left → Type 0
  LeavesTo left = DepartsTo left.departure

  departs : (pc : ℕ) (standing : Standing) → GoesTo instr pc → AtLeaves LeavesTo (leaves_with (departure_to pc standing) standing)
  departs pc standing goes = so (traps standing)
    where
      so : (trap : Bool) → DepartsTo (if trap then Ended (Trap 1 (with_pc pc standing.state)) else Ended (Finish (with_pc pc standing.state)))
      so true = goes
      so false = goes

  chosen : (none : Bool) (taken other : ℕ) (standing : Standing) → GoesTo instr taken → GoesTo instr other
      → AtLeaves LeavesTo (leaves_with (departure_to (if none then other else taken) standing) standing)
  chosen true taken other standing goes goes' = departs other standing goes'
  chosen false taken other standing goes goes' = departs taken standing goes

  course_goes : (start : VaxState) (program : List Micro) (standing : Standing) → All (GoesTo instr) (addresses_of instr.after program) → list_any leaves_computed program ≡ false → list_any leaves_for_service program ≡ false
      → AtLeaves LeavesTo (course_of program (found_at start instr.after) standing)
  course_goes start [] standing all none none' = departs instr.after standing (inl refl)
  course_goes start (Compute to op size a b ∷ program) standing all none none' = course_goes start program _ all none none'
  course_goes start (Probe place count write ∷ program) standing all none none' = course_goes start program standing all none none'
  course_goes start (Refuse when ∷ program) standing all none none' =
      refuses_at LeavesTo (standing.temps when == 0) (course_of program (found_at start instr.after) standing) (course_goes start program standing all none none')
  course_goes start (Read to place count ∷ program) standing all none none' =
      reads_at LeavesTo (parts (standing.temps place) count) (λ value. course_of program (found_at start instr.after) (with_value to value standing)) (λ value. course_goes start program (with_value to value standing) all none none')
  course_goes start (Write place count from ∷ program) standing all none none' =
      writes_at LeavesTo (parts (standing.temps place) count) (standing.temps from) (course_of program (found_at start instr.after) standing) (course_goes start program standing all none none')
  course_goes start (Locked to place kind from ∷ program) standing all none none' = λ reply answers. course_goes start program _ all none none'
  course_goes start (Commit register from ∷ program) standing all none none' = course_goes start program _ all none none'
  course_goes start (Codes n z v c ∷ program) standing all none none' = course_goes start program _ all none none'
  course_goes start (SetPsw from ∷ program) standing all none none' = course_goes start program _ all none none'
  course_goes start (Leave exits.Next ∷ program) standing all none none' = departs instr.after standing (inl refl)
  course_goes start (Leave (exits.Fixed address) ∷ program) standing all none none' = departs address standing (All-head (GoesTo instr) address (addresses_of instr.after program) all)
  course_goes start (Leave (exits.Computed temp) ∷ program) standing all none none' = cc
  course_goes start (Leave (exits.Choice when taken other) ∷ program) standing all none none' =
      chosen (standing.temps when == 0) taken other standing (All-head (GoesTo instr) taken (other ∷ addresses_of instr.after program) all)
      (All-head (GoesTo instr) other (addresses_of instr.after program) (All-tail (GoesTo instr) taken (other ∷ addresses_of instr.after program) all))
  course_goes start (Leave (exits.Service temp) ∷ program) standing all none none' = cc
  course_goes start (Leave exits.Breakpoint ∷ program) standing all none none' = tt

  -- ---- trees
  departed_ends : (serve : ℕ → VaxState → Tree) (departure : Departure) → DepartsTo departure → EndsAt (GoesTo instr) (departed serve departure)
  departed_ends serve (Ended (Finish state)) goes = goes
  departed_ends serve (Ended (Trap kind state)) goes = goes
  departed_ends serve (Ended (Exit state)) goes = tt
  departed_ends serve (Serves code state) goes = absurd goes

  continued_ends : (serve : ℕ → VaxState → Tree) (course : Course Left) → AtLeaves LeavesTo course → EndsAt (GoesTo instr) (continued course (λ left. departed serve left.departure))
  continued_ends serve (Check address count write course) at = continued_ends serve course at
  continued_ends serve (Ask reference on) at = λ reply answers. continued_ends serve (on reply) (at reply answers)
  continued_ends serve (Fault exception) at = tt
  continued_ends serve (Leaves left) at = departed_ends serve left.departure at

  same_ends : (tree other : Tree) → Same tree other → EndsAt (GoesTo instr) tree → EndsAt (GoesTo instr) other
  same_ends (trees.Check address count write tree) (trees.Check address' count' write' tree') same ends = same_ends tree tree' same.3 ends
  same_ends (trees.Ask reference on) (trees.Ask reference' on') same ends =
      λ reply answers. let answers' = subst (λ (r : Reference). Answers r reply) (sym same.0) answers in same_ends (on reply) (on' reply) (same.1 reply answers') (ends reply answers')
  same_ends (trees.Fault exception) (trees.Fault exception') same ends = tt
  same_ends (trees.Ends ending) (trees.Ends ending') same ends = subst (λ (e : Ending). EndsAt (GoesTo instr) (trees.Ends e)) same ends
  same_ends _ _ same ends = absurd same

pub ends_where_it_goes : EndsWhereItGoes
ends_where_it_goes instr operation program is lowered none none' state pages thread ok =
    same_ends instr _ _ ((lowered.lowers operation is).means state pages thread ok)
    (continued_ends instr (service pages thread) (course_of program (found_at state instr.after) (started state)) (course_goes instr state program (started state) lowered.keeps.exits none none'))
