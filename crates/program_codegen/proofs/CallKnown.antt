-- What is known behind the operands of a call, and behind its commits.
use Rattle.std.proofs.Common.{◌≡◌, ℕ, zero, suc, ◌<◌, refl, sym, ap, ◌∙◌, arith, List, [], ◌∷◌, ◌++◌, length, Some, Bool, true, false, lit<}
use Rattle.std.specs.Prelude.{◌==◌, not, slice_index, slice_set}
use Rattle.std.specs.List.{list_any}
use Rattle.std.proofs.lemmas.List.{append-nil, get_or-set_same, get_or-set_other, length-set}
use Rattle.vax_form.specs.declared.instr.Operand.{Operand}
use Rattle.micro_ops.specs.Fits.{step, walk}
use Rattle.micro_ops.specs.Known.{at_start, behind_access, behind_commit, has_flag, held, holds, is_committed, no_commits}
use Rattle.micro_ops.specs.declared.codes.CodeSources.{CodeSources}
use Rattle.micro_ops.specs.declared.known.Checked.TheVariants.{At}
use Rattle.micro_ops.specs.declared.known.Holding.{Holding}
use Rattle.micro_ops.specs.declared.known.Holding.TheVariants.{Nothing, Wide, Longword}
use Rattle.micro_ops.specs.declared.known.Known.{Known}
use Rattle.micro_ops.specs.declared.program.Micro.{Micro}
use Rattle.micro_ops.specs.declared.program.Micro.TheVariants.{Commit, Probe}
use Rattle.micro_ops.proofs.Held.{flag_other}
use Rattle.operand_programs.specs.Behind.{AreFit, behind_commits, behind_operands, is_uncommitted, stepping}
use Rattle.operand_programs.specs.InOrder.{no_steps, operands_program}
use Rattle.operand_programs.specs.Knowing.{FitsBetween, IsNoMore, KnowsMore}
use Rattle.operand_programs.specs.Specifiers.{commit_program}
use Rattle.operand_programs.specs.declared.operands.Specifier.{Specifier}
use Rattle.operand_programs.proofs.Committing.{commits_fit}
use Rattle.operand_programs.proofs.More.{fits_joined, knows_itself}
use Rattle.operand_programs.proofs.OperandWalks.{operands_fit}
use Rattle.operand_programs.proofs.Walking.{clear_flag, commits, one}
use Rattle.program_codegen.specs.declared.calls.Call.{Call}
use Rattle.program_codegen.specs.Calls.{argument_temp, first_specifier, front_program, list_program, list_specifier, specifiers_of, steps_left}
use Rattle.program_codegen.proofs.Middle.{IsReadyToPush, pushing}

-- ---- from what is known at least
pub is_longword : (holding : Holding) → IsNoMore Longword holding → holding ≡ Longword
is_longword Nothing no_more = absurd no_more
is_longword Wide no_more = absurd no_more
is_longword Longword no_more = refl

pub never : (b : Bool) → (b ≡ true → false ≡ true) → b ≡ false
never true implies = absurd (cc (implies refl))
never false implies = refl

-- ---- behind the operands
pub record KnowsFront (sources : CodeSources) (call : Call) : Type 0 where
  pub known : Known
  pub walks : walk sources at_start (front_program call) ≡ Some known
  pub ready : IsReadyToPush known
  pub goes_on : known.ended ≡ false
  pub registers : length known.committed ≡ 15
  pub checked : call.stack ≡ true → known.checked ≡ At 2 4 true

module _ (sources : CodeSources) where
  module _ (first : Operand) (fit : AreFit (first_specifier true first ∷ list_specifier true ∷ [])) where
    abbrev stack_operands : List Specifier
    stack_operands = first_specifier true first ∷ list_specifier true ∷ []

    abbrev between : Known
    between = behind_operands stack_operands at_start

    abbrev stack_least : Known
    stack_least = behind_access (record between { checked = At 2 4 true })

    stack_walk : (known : Known) × (walk sources at_start (operands_program stack_operands no_steps ++ Probe 2 4 true ∷ []) ≡ Some known) × KnowsMore stack_least known
    unfolding step
    stack_walk =
        fits_joined sources (operands_program stack_operands no_steps) (Probe 2 4 true ∷ []) at_start between stack_least
        (operands_fit sources stack_operands no_steps at_start fit refl) (one sources between stack_least (Probe 2 4 true) refl refl) at_start (knows_itself at_start)

    stack_front : (mask entry : ℕ) → KnowsFront sources (record { first = first; stack = true; mask = mask; entry = entry })
    stack_front mask entry =
        let w = stack_walk in
        let more = w.2 in
        record {
          known = w.0;
          walks = w.1;
          ready = record {
            first = is_longword w.0.temp0 (more.temps 0);
            list = is_longword w.0.temp2 (more.temps 2);
            unchanged = never w.0.changed more.changed;
            no_codes = sym more.codes;
            no_psw = sym more.psw;
            uncommitted = λ number. never (is_committed w.0 number) (λ e. sym (clear_flag 15 no_commits number refl) ∙ more.committed number e);
          };
          goes_on = sym more.ended;
          registers = sym more.registers;
          checked = λ e. sym more.checked;
        }

  module _ (first : Operand) (fit : AreFit (first_specifier false first ∷ list_specifier false ∷ [])) where
    abbrev general_operands : List Specifier
    general_operands = first_specifier false first ∷ list_specifier false ∷ []

    abbrev general_least : Known
    general_least = behind_operands general_operands at_start

    general_walk : (known : Known) × (walk sources at_start (operands_program general_operands no_steps ++ []) ≡ Some known) × KnowsMore general_least known
    general_walk =
        let w = operands_fit sources general_operands no_steps at_start fit refl at_start (knows_itself at_start) in
        (w.0, ap (walk sources at_start) (append-nil (operands_program general_operands no_steps)) ∙ w.1, w.2)

    general_front : (mask entry : ℕ) → KnowsFront sources (record { first = first; stack = false; mask = mask; entry = entry })
    general_front mask entry =
        let w = general_walk in
        let more = w.2 in
        record {
          known = w.0;
          walks = w.1;
          ready = record {
            first = is_longword w.0.temp0 (more.temps 0);
            list = is_longword w.0.temp2 (more.temps 2);
            unchanged = never w.0.changed more.changed;
            no_codes = sym more.codes;
            no_psw = sym more.psw;
            uncommitted = λ number. never (is_committed w.0 number) (λ e. sym (clear_flag 15 no_commits number refl) ∙ more.committed number e);
          };
          goes_on = sym more.ended;
          registers = sym more.registers;
          checked = λ e. absurd (cc e);
        }

  pub front_known : (call : Call) → AreFit (specifiers_of call) → KnowsFront sources call
  front_known call fit = by call.stack call.first fit
    where
      by : (stack : Bool) (first : Operand) → AreFit (first_specifier stack first ∷ list_specifier stack ∷ []) → KnowsFront sources (record { first = first; stack = stack; mask = call.mask; entry = call.entry })
      by true first fit = stack_front first fit call.mask call.entry
      by false first fit = general_front first fit call.mask call.entry

-- ---- behind the commits
flag_of_step : (steps : List ℕ) (number : ℕ) → has_flag (stepping steps) number ≡ not (slice_index steps number == 0)
flag_of_step [] number = refl
flag_of_step (step ∷ steps) zero = refl
flag_of_step (step ∷ steps) (suc number) = flag_of_step steps number

none_set : (flags : List Bool) → ((number : ℕ) → has_flag flags number ≡ false) → list_any (λ (flag : Bool). flag) flags ≡ false
none_set [] clear = refl
none_set (true ∷ flags) clear = absurd (cc (clear 0))
none_set (false ∷ flags) clear = none_set flags (λ number. clear (suc number))

apart : (a b : ℕ) → b < a → a ≡ b → ⊥
apart a b lt e = omega arith

-- AP, FP and SP are not stepped
module _ (steps : List ℕ) (fifteen : length steps ≡ 15) where
  left_none : (number : ℕ) → slice_index (steps_left steps) number ≡ 0 → has_flag (stepping (steps_left steps)) number ≡ false
  left_none number none = flag_of_step (steps_left steps) number ∙ ap (λ (n : ℕ). not (n == 0)) none

  ap_left : slice_index (steps_left steps) 12 ≡ 0
  ap_left =
      get_or-set_other (slice_set (slice_set steps 12 0) 13 0) 14 12 0 0 (λ e. apart 14 12 (lit< tt) (sym e))
      ∙ (get_or-set_other (slice_set steps 12 0) 13 12 0 0 (λ e. apart 13 12 (lit< tt) (sym e)) ∙ get_or-set_same steps 12 0 0 (let size = fifteen in omega arith))

  fp_left : slice_index (steps_left steps) 13 ≡ 0
  fp_left =
      get_or-set_other (slice_set (slice_set steps 12 0) 13 0) 14 13 0 0 (λ e. apart 14 13 (lit< tt) (sym e))
      ∙ get_or-set_same (slice_set steps 12 0) 13 0 0 (let size = length-set steps 12 0 in let all = fifteen in omega arith)

  sp_left : slice_index (steps_left steps) 14 ≡ 0
  sp_left =
      get_or-set_same (slice_set (slice_set steps 12 0) 13 0) 14 0 0
      (let first = length-set steps 12 0 in let second = length-set (slice_set steps 12 0) 13 0 in let all = fifteen in omega arith)

  pub left_fifteen : length (steps_left steps) ≡ 15
  left_fifteen = length-set (slice_set (slice_set steps 12 0) 13 0) 14 0 ∙ (length-set (slice_set steps 12 0) 13 0 ∙ (length-set steps 12 0 ∙ fifteen))

pub record KnowsEnd (sources : CodeSources) (program : List Micro) (known : Known) : Type 0 where
  pub behind : Known
  pub walks : walk sources known program ≡ Some behind
  pub no_codes : behind.codes ≡ false
  pub no_psw : behind.psw ≡ false
  pub no_fp : is_committed behind 13 ≡ false
  pub no_sp : is_committed behind 14 ≡ false
  pub has_frame : held behind 3 ≡ Longword

argument_holds : (stack : Bool) (known : Known) → known.temp0 ≡ Longword → known.temp2 ≡ Longword → holds known (argument_temp stack) ≡ true
argument_holds true known first list = rw list refl
argument_holds false known first list = rw first refl

module _ (sources : CodeSources) (stack : Bool) (steps : List ℕ) (fifteen : length steps ≡ 15) (known : Known) (ready : IsReadyToPush known) (on : known.ended ≡ false) (registers : length known.committed ≡ 15) where
  uncommitted : is_uncommitted (pushing known) ≡ true
  uncommitted = rw (on, registers, none_set known.committed ready.uncommitted) refl

  abbrev committed : Known
  committed = behind_commits (stepping (steps_left steps)) (pushing known)

  abbrev last : Known
  last = behind_commit 12 committed

  end_fits : FitsBetween sources (pushing known) (list_program stack steps) last
  end_fits =
      fits_joined sources (commit_program 0 (steps_left steps)) (Commit 12 (argument_temp stack) ∷ []) (pushing known) committed last
      (commits_fit sources (steps_left steps) (pushing known) (left_fifteen steps fifteen) uncommitted)
      (commits sources committed 12 (argument_temp stack) on (lit< tt) (argument_holds stack committed ready.first ready.list) (left_none steps fifteen 12 (ap_left steps fifteen)))

  pub end_known : KnowsEnd sources (list_program stack steps) (pushing known)
  end_known =
      let w = end_fits (pushing known) (knows_itself (pushing known)) in
      let more = w.2 in
      let flags = stepping (steps_left steps) in
      record {
        behind = w.0;
        walks = w.1;
        no_codes = sym more.codes ∙ ready.no_codes;
        no_psw = sym more.psw ∙ ready.no_psw;
        no_fp = never (is_committed w.0 13) (λ e. sym (flag_other flags 12 13 (apart 13 12 (lit< tt)) ∙ left_none steps fifteen 13 (fp_left steps fifteen)) ∙ more.committed 13 e);
        no_sp = never (is_committed w.0 14) (λ e. sym (flag_other flags 12 14 (apart 14 12 (lit< tt)) ∙ left_none steps fifteen 14 (sp_left steps fifteen)) ∙ more.committed 14 e);
        has_frame = is_longword w.0.temp3 (more.temps 3);
      }
