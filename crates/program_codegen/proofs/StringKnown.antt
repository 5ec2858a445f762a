-- What is known behind the operands of MOVC3, and that the words of their program are right.
use Rattle.std.proofs.Common.{◌≡◌, ℕ, refl, sym, ◌∙◌, Some, false}
use Rattle.vax_form.specs.declared.instr.Instr.{Instr}
use Rattle.micro_ops.specs.Fits.{walk}
use Rattle.micro_ops.specs.Known.{at_start, is_committed, no_commits}
use Rattle.micro_ops.specs.declared.codes.CodeSources.{CodeSources}
use Rattle.micro_ops.specs.declared.known.Holding.TheVariants.{Longword}
use Rattle.micro_ops.specs.declared.known.Known.{Known}
use Rattle.operand_programs.specs.Behind.{AreFit, behind_operands}
use Rattle.operand_programs.specs.InOrder.{no_steps}
use Rattle.operand_programs.proofs.More.{knows_itself}
use Rattle.operand_programs.proofs.OperandWalks.{operands_fit}
use Rattle.operand_programs.proofs.Walking.{clear_flag}
use Rattle.program_codegen.specs.Strings.{operands_of, specifiers_of}
use Rattle.program_codegen.proofs.CallKnown.{is_longword, never}

-- behind the operands nothing was changed yet, and the length and both addresses are longwords
pub record IsReadyToMove (known : Known) : Type 0 where
  pub count : known.temp0 ≡ Longword
  pub source : known.temp1 ≡ Longword
  pub destination : known.temp2 ≡ Longword
  pub no_codes : known.codes ≡ false
  pub no_psw : known.psw ≡ false
  pub uncommitted : (number : ℕ) → is_committed known number ≡ false

pub record KnowsMove (sources : CodeSources) (instr : Instr) : Type 0 where
  pub known : Known
  pub walks : walk sources at_start (operands_of instr) ≡ Some known
  pub ready : IsReadyToMove known

module _ (sources : CodeSources) (instr : Instr) (fit : AreFit (specifiers_of instr)) where
  abbrev least : Known
  least = behind_operands (specifiers_of instr) at_start

  pub move_known : KnowsMove sources instr
  move_known =
      let w = operands_fit sources (specifiers_of instr) no_steps at_start fit refl at_start (knows_itself at_start) in
      let more = w.2 in
      record {
        known = w.0;
        walks = w.1;
        ready = record {
          count = is_longword w.0.temp0 (more.temps 0);
          source = is_longword w.0.temp1 (more.temps 1);
          destination = is_longword w.0.temp2 (more.temps 2);
          no_codes = sym more.codes;
          no_psw = sym more.psw;
          uncommitted = λ number. never (is_committed w.0 number) (λ e. sym (clear_flag 15 no_commits number refl) ∙ more.committed number e);
        };
      }
