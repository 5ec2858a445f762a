-- A program of pieces that read no other codes than some and do not leave, with its exit behind them, keeps to its instruction.
use Rattle.std.proofs.Common.{◌≡◌, ℕ, zero, suc, ◌<◌, Bool, true, false, List, [], ◌∷◌, ◌++◌, Some, None, refl, sym, ap, ◌∙◌, subst, arith, inl, inr, append-nil, append_assoc, leb-true}
use Rattle.std.specs.Prelude.{◌&&◌, ◌||◌, nat_eq, nat_le, All, is_none, slice_index_or, filter_map, option_to_list}
use Rattle.std.specs.List.{list_any}
use Rattle.std.specs.Option.{option_map_or}
use Rattle.std.proofs.lemmas.Bool.Decides.{eqb_tells}
use Rattle.std.proofs.lemmas.List.Elements.{All-nil, All-cons}
use Rattle.std.proofs.lemmas.List.Folds.{list_all-append, list_any-append}
use Rattle.std.proofs.lemmas.Bool.{and_parts, or_right, eq-eqb}
use Rattle.std.proofs.lemmas.Option.{same_Some}
use Rattle.vax_form.specs.Operation.{operation_at}
use Rattle.vax_form.specs.Targets.{branch_target, fixed_address, jump_target, jump_of, call_of, fixed_targets}
use Rattle.vax_form.specs.declared.instr.Base.TheVariants as bases
use Rattle.vax_form.specs.declared.instr.Instr.{Instr}
use Rattle.vax_form.specs.declared.instr.Operand.{Operand}
use Rattle.vax_form.specs.declared.instr.Operand.TheVariants as operands
use Rattle.vax_form.specs.declared.operation.Operation.{Operation}
use Rattle.vax_form.specs.declared.state.Flags.{Flags}
use Rattle.vax_meaning.specs.Branches.{target}
use Rattle.vax_meaning.specs.Evaluation.{operand}
use Rattle.vax_form.specs.Codes.{none}
use Rattle.cc_liveness.specs.Uses.{use_of, code_use_of, goes_on}
use Rattle.micro_ops.specs.Exits.{exit_addresses, addresses_of, leaves_computed}
use Rattle.micro_ops.specs.Sources.{sources_of}
use Rattle.micro_ops.specs.Uses.{is_flag, reads_flag}
use Rattle.micro_ops.specs.declared.program.Arg.{Arg}
use Rattle.micro_ops.specs.declared.program.Arg.TheVariants as args
use Rattle.micro_ops.specs.declared.program.Exit.{Exit}
use Rattle.micro_ops.specs.declared.program.Exit.TheVariants as exits
use Rattle.micro_ops.specs.declared.program.Micro.{Micro}
use Rattle.micro_ops.specs.declared.program.Micro.TheVariants.{Compute, Probe, Refuse, Read, Write, Locked, Commit, Codes, SetPsw, Leave}
use Rattle.operand_programs.specs.InOrder.{operands_program, no_steps}
use Rattle.operand_programs.specs.Operands.{IsTarget}
use Rattle.micro_lower.specs.Lowering.{GoesTo, KeepsTo, computes_address, holds_flag}
use Rattle.micro_lower.specs.Plans.{Plan, specifiers_from, steps_of, steps_behind_target, write_program, end_program, codes_program, program_of}
use Rattle.micro_lower.specs.Rows.{jump_exit}
use Rattle.micro_lower.proofs.Inner.{is_allowed, is_inner, IsInner, joined, operands_inner, target_inner, end_inner, codes_inner}

-- ---- codes that are read
or_not : (a b : Bool) (X : Type 0) → (a || b) ≡ true → (a ≡ true → X) → (b ≡ true → X) → X
or_not true b X is first second = first refl
or_not false b X is first second = second is

and_second : (a b : Bool) → (a && b) ≡ true → b ≡ true
and_second true b is = is
and_second false b is = cc

allowed_is : (set : Flags) (flag number : ℕ) → flag < 4 → number ≡ flag → (nat_le 4 number || holds_flag number set) ≡ true → holds_flag flag set ≡ true
allowed_is set flag number low same is =
    or_not (nat_le 4 flag) (holds_flag flag set) (holds_flag flag set ≡ true) (subst (λ n. (nat_le 4 n || holds_flag n set) ≡ true) same is) (λ high. absurd (omega (arith, leb-true 4 flag high, low))) (λ held. held)

reads_of : (set : Flags) (flag : ℕ) (arg : Arg) → flag < 4 → is_allowed set arg ≡ true → is_flag flag arg ≡ true → holds_flag flag set ≡ true
reads_of set flag (args.Flag number) low allowed reads =
    elim (eqb_tells number flag) [ inl is ↦ allowed_is set flag number low is.1 allowed | inr other ↦ cc (other.0, reads) ]
reads_of set flag (args.Temp temp) low allowed reads = cc
reads_of set flag (args.Register number) low allowed reads = cc
reads_of set flag (args.Const value) low allowed reads = cc

reads_inner : (set : Flags) (flag : ℕ) (operation : Micro) → flag < 4 → is_inner set operation ≡ true → reads_flag flag operation ≡ true → holds_flag flag set ≡ true
reads_inner set flag (Compute to op size a b) low inner reads =
    let allowed = and_parts _ _ inner in
    or_not _ _ _ reads (reads_of set flag a low allowed.0) (λ second. reads_of set flag b low allowed.1 (and_second _ _ second))
reads_inner set flag (Probe place count write) low inner reads = cc
reads_inner set flag (Refuse when) low inner reads = cc
reads_inner set flag (Read to place count) low inner reads = cc
reads_inner set flag (Write place count from) low inner reads = cc
reads_inner set flag (Locked to place kind from) low inner reads = cc
reads_inner set flag (Commit register from) low inner reads = cc
reads_inner set flag (Codes n z v c) low inner reads = cc
reads_inner set flag (SetPsw from) low inner reads = cc
reads_inner set flag (Leave exit) low inner reads = cc

-- ---- a program
-- pieces, and the exit behind them
abbrev pub Ends : Flags → Exit → List Micro → Type 0
Ends set exit program = (piece : List Micro) × (program ≡ piece ++ Leave exit ∷ []) × IsInner set piece

pub ends_here : (set : Flags) (exit : Exit) (piece : List Micro) → IsInner set piece → Ends set exit (piece ++ Leave exit ∷ [])
ends_here set exit piece inner = (piece, refl, inner)

pub ends_behind : (set : Flags) (exit : Exit) (first rest : List Micro) → IsInner set first → Ends set exit rest → Ends set exit (first ++ rest)
ends_behind set exit first rest inner ends =
    (first ++ ends.0, ap (λ program. first ++ program) ends.1 ∙ sym (append_assoc first ends.0 (Leave exit ∷ [])), joined set first ends.0 inner ends.2)

pub ends_all : (set : Flags) (exit : Exit) (a b c d e f : List Micro) → IsInner set a → IsInner set b → IsInner set c → IsInner set d → IsInner set e → IsInner set f
    → Ends set exit (a ++ (b ++ (c ++ (d ++ (e ++ (f ++ Leave exit ∷ []))))))
ends_all set exit a b c d e f p q r s t u =
    ends_behind set exit a (b ++ (c ++ (d ++ (e ++ (f ++ Leave exit ∷ []))))) p
    (ends_behind set exit b (c ++ (d ++ (e ++ (f ++ Leave exit ∷ [])))) q
    (ends_behind set exit c (d ++ (e ++ (f ++ Leave exit ∷ []))) r
    (ends_behind set exit d (e ++ (f ++ Leave exit ∷ [])) s
    (ends_behind set exit e (f ++ Leave exit ∷ []) t (ends_here set exit f u)))))

-- one step of each
reads_all : (set : Flags) (flag : ℕ) (exit : Exit) (piece : List Micro) → flag < 4 → IsInner set piece
    → list_any (reads_flag flag) (piece ++ Leave exit ∷ []) ≡ true → holds_flag flag set ≡ true
reads_all set flag exit [] low inner reads = cc
reads_all set flag exit (operation ∷ piece) low inner reads =
    let i = and_parts _ _ inner in
    or_not _ _ _ reads (reads_inner set flag operation low i.0) (reads_all set flag exit piece low i.1)

goes_of : (set : Flags) (after : ℕ) (exit : Exit) (operation : Micro) (rest : List Micro) → is_inner set operation ≡ true → addresses_of after (operation ∷ rest) ≡ addresses_of after rest
goes_of set after exit (Compute to op size a b) rest inner = refl
goes_of set after exit (Probe place count write) rest inner = refl
goes_of set after exit (Refuse when) rest inner = refl
goes_of set after exit (Read to place count) rest inner = refl
goes_of set after exit (Write place count from) rest inner = refl
goes_of set after exit (Locked to place kind from) rest inner = refl
goes_of set after exit (Commit register from) rest inner = refl
goes_of set after exit (Codes n z v c) rest inner = refl
goes_of set after exit (SetPsw from) rest inner = refl
goes_of set after exit (Leave left) rest inner = cc

goes_all : (set : Flags) (after : ℕ) (exit : Exit) (piece : List Micro) → IsInner set piece → addresses_of after (piece ++ Leave exit ∷ []) ≡ exit_addresses after exit
goes_all set after exit [] inner = append-nil (exit_addresses after exit)
goes_all set after exit (operation ∷ piece) inner =
    let i = and_parts _ _ inner in
    goes_of set after exit operation (piece ++ Leave exit ∷ []) i.0 ∙ goes_all set after exit piece i.1

computes_of : (set : Flags) (operation : Micro) → is_inner set operation ≡ true → leaves_computed operation ≡ false
computes_of set (Compute to op size a b) inner = refl
computes_of set (Probe place count write) inner = refl
computes_of set (Refuse when) inner = refl
computes_of set (Read to place count) inner = refl
computes_of set (Write place count from) inner = refl
computes_of set (Locked to place kind from) inner = refl
computes_of set (Commit register from) inner = refl
computes_of set (Codes n z v c) inner = refl
computes_of set (SetPsw from) inner = refl
computes_of set (Leave left) inner = cc

-- ---- the exit
-- it leads to where the instruction goes on
pub record ExitKeeps (instr : Instr) (exit : Exit) : Type 0 where
  pub goes : All (GoesTo instr) (exit_addresses instr.after exit)
  pub computed : leaves_computed (Leave exit) ≡ true → (use_of instr).ends ≡ true

-- the pieces compute no address
computes_last : (set : Flags) (exit : Exit) (piece : List Micro) → IsInner set piece → list_any leaves_computed (piece ++ Leave exit ∷ []) ≡ leaves_computed (Leave exit)
computes_last set exit [] inner = elim (leaves_computed (Leave exit)) as (λ (x : Bool). (x || false) ≡ x) [ true ↦ refl | false ↦ refl ]
computes_last set exit (operation ∷ piece) inner =
    let i = and_parts _ _ inner in
    rw (computes_of set operation i.0) (computes_last set exit piece i.1)

pub keeps : (operation : Operation) (instr : Instr) (exit : Exit) (program : List Micro) → operation_at instr.opcode ≡ Some operation
    → Ends (code_use_of operation).reads exit program → leaves_computed (Leave exit) ≡ computes_address operation instr → ExitKeeps instr exit → KeepsTo instr program
unfolding use_of
keeps operation instr exit program is ends just exits =
    let set = (code_use_of operation).reads in
    let used : use_of instr ≡ code_use_of operation = ap (λ o. option_map_or code_use_of o (goes_on none none)) is in
    subst (KeepsTo instr) (sym ends.1) (record {
      reads = λ flag low reads. rw used (reads_all set flag exit ends.0 low ends.2 reads);
      exits = rw (goes_all set instr.after exit ends.0 ends.2) exits.goes;
      computed = λ some. exits.computed (sym (computes_last set exit ends.0 ends.2) ∙ some);
      computes = λ other found. subst (λ (o : Operation). list_any leaves_computed (ends.0 ++ Leave exit ∷ []) ≡ computes_address o instr) (same_Some _ _ (sym is ∙ found))
          (computes_last set exit ends.0 ends.2 ∙ just);
    })

-- ---- exits
pub next_keeps : (instr : Instr) (exit : Exit) → exit_addresses instr.after exit ≡ instr.after ∷ [] → leaves_computed (Leave exit) ≡ false → ExitKeeps instr exit
next_keeps instr exit next none = record {
  goes = rw next (All-cons (GoesTo instr) instr.after [] (inl refl) (All-nil (GoesTo instr)));
  computed = λ is. cc (is, none);
}

pub breakpoint_keeps : (instr : Instr) → ExitKeeps instr exits.Breakpoint
breakpoint_keeps instr = record { goes = All-nil (GoesTo instr); computed = λ none. cc }

branch_among : (list : List Operand) (number : ℕ) → IsTarget (slice_index_or list number operands.Unused)
    → list_any (nat_eq (target (slice_index_or list number operands.Unused))) (filter_map branch_target list) ≡ true
branch_among [] number is = absurd is
branch_among (operands.Target address ∷ others) zero is = rw (eq-eqb address address refl) refl
branch_among (operands.Unused ∷ others) zero is = absurd is
branch_among (operands.Value value ∷ others) zero is = absurd is
branch_among (operands.Register n ∷ others) zero is = absurd is
branch_among (operands.Place base index ∷ others) zero is = absurd is
branch_among (operands.Target address ∷ others) (suc number) is = or_right _ _ (branch_among others number is)
branch_among (operands.Unused ∷ others) (suc number) is = branch_among others number is
branch_among (operands.Value value ∷ others) (suc number) is = branch_among others number is
branch_among (operands.Register n ∷ others) (suc number) is = branch_among others number is
branch_among (operands.Place base index ∷ others) (suc number) is = branch_among others number is

-- an address of the code that an exit may go to
abbrev pub IsFixed : Instr → (address : ℕ) → Type 0
IsFixed instr address = list_any (nat_eq address) (fixed_targets instr) ≡ true

module _ (address : ℕ) (xs ys zs : List ℕ) where
  among_first : list_any (nat_eq address) xs ≡ true → list_any (nat_eq address) (xs ++ ys ++ zs) ≡ true
  among_first is = list_any-append (nat_eq address) (xs ++ ys) zs ∙ rw (list_any-append (nat_eq address) xs ys, is) refl

  among_second : list_any (nat_eq address) ys ≡ true → list_any (nat_eq address) (xs ++ ys ++ zs) ≡ true
  among_second is =
      let both = list_any-append (nat_eq address) xs ys ∙ or_right (list_any (nat_eq address) xs) (list_any (nat_eq address) ys) is in
      list_any-append (nat_eq address) (xs ++ ys) zs ∙ rw both refl

pub branch_fixed : (instr : Instr) (number : ℕ) → IsTarget (operand instr number) → IsFixed instr (target (operand instr number))
unfolding fixed_targets
branch_fixed instr number is =
    among_first (target (operand instr number)) (filter_map branch_target instr.operands) (option_to_list (jump_of instr)) (option_to_list (call_of instr)) (branch_among instr.operands number is)

pub jump_fixed : (instr : Instr) (address : ℕ) → jump_of instr ≡ Some address → IsFixed instr address
unfolding fixed_targets
jump_fixed instr address is =
    among_second address (filter_map branch_target instr.operands) (option_to_list (jump_of instr)) (option_to_list (call_of instr)) (rw (is, eq-eqb address address refl) refl)

module _ (operation : Operation) (instr : Instr) (is : operation_at instr.opcode ≡ Some operation) (ends : (code_use_of operation).ends ≡ true) where
  may_jump : (use_of instr).ends ≡ true
  unfolding use_of
  may_jump = rw is ends

  goes_fixed : (address : ℕ) → IsFixed instr address → GoesTo instr address
  goes_fixed address fixed = inr (may_jump, fixed)

  pub fixed_keeps : (address : ℕ) → IsFixed instr address → ExitKeeps instr (exits.Fixed address)
  fixed_keeps address fixed = record {
    goes = All-cons (GoesTo instr) address [] (goes_fixed address fixed) (All-nil (GoesTo instr));
    computed = λ none. cc;
  }

  pub choice_keeps : (when address : ℕ) → IsFixed instr address → ExitKeeps instr (exits.Choice when address instr.after)
  choice_keeps when address fixed = record {
    goes = All-cons (GoesTo instr) address (instr.after ∷ []) (goes_fixed address fixed) (All-cons (GoesTo instr) instr.after [] (inl refl) (All-nil (GoesTo instr)));
    computed = λ none. cc;
  }

  -- the other way round
  pub choice_kept : (when address : ℕ) → IsFixed instr address → ExitKeeps instr (exits.Choice when instr.after address)
  choice_kept when address fixed = record {
    goes = All-cons (GoesTo instr) instr.after (address ∷ []) (inl refl) (All-cons (GoesTo instr) address [] (goes_fixed address fixed) (All-nil (GoesTo instr)));
    computed = λ none. cc;
  }

  pub computed_keeps : (temp : ℕ) → ExitKeeps instr (exits.Computed temp)
  computed_keeps temp = record { goes = All-nil (GoesTo instr); computed = λ computed. may_jump }

  -- an operand whose address the code fixes
  jump_keeps_at : (to : Operand) → jump_of instr ≡ fixed_address to → ExitKeeps instr (jump_exit to)
  jump_keeps_at (operands.Place (bases.Fixed address false) None) fixed = fixed_keeps address (jump_fixed instr address fixed)
  jump_keeps_at _ fixed = computed_keeps 0

  pub jump_keeps : jump_target instr operation ≡ fixed_address (operand instr 0) → ExitKeeps instr (jump_exit (operand instr 0))
  unfolding jump_of
  jump_keeps fixed = jump_keeps_at (operand instr 0) (rw is fixed)

-- a jump computes its address just where the code doesn't fix it
jump_computes : (to : Operand) → leaves_computed (Leave (jump_exit to)) ≡ is_none (fixed_address to)
jump_computes (operands.Place (bases.Fixed address false) None) = refl
jump_computes _ = refl

pub jump_computes_for : (instr : Instr) → leaves_computed (Leave (jump_exit (operand instr 0))) ≡ is_none (fixed_address (operand instr 0))
jump_computes_for instr = jump_computes (operand instr 0)

-- ---- plans
pub plan_keeps : (operation : Operation) (instr : Instr) (plan : Plan) (program : List Micro) → operation_at instr.opcode ≡ Some operation
    → IsInner (code_use_of operation).reads (plan.before ++ plan.behind) → leaves_computed (Leave plan.exit) ≡ computes_address operation instr → ExitKeeps instr plan.exit
    → program ≡ program_of (sources_of operation) plan instr → KeepsTo instr program
plan_keeps operation instr plan program is inner just exits made =
    let set = (code_use_of operation).reads in
    let parts = and_parts _ _ (sym (list_all-append (is_inner set) plan.before plan.behind) ∙ inner) in
    let codes = sources_of operation in
    let steps = steps_of plan.slots instr in
    let behind = steps_behind_target plan.target steps in
    let specifiers = specifiers_from 0 plan.slots instr in
    keeps operation instr plan.exit program is (subst (Ends set plan.exit) (sym made)
    (ends_all set plan.exit (operands_program specifiers no_steps) plan.before (write_program plan.target steps) plan.behind (end_program plan.target behind) (codes_program codes)
    (operands_inner set specifiers no_steps) parts.0 (target_inner set plan.target steps) parts.1 (end_inner set plan.target behind) (codes_inner set codes.nzv codes.c))) just exits
