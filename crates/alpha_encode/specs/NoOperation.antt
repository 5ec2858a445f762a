-- The instruction that does nothing.
-- Alpha Architecture Reference Manual, appendix A, "Stylized Code Forms".
use Rattle.alpha_encode.specs.declared.instr.AlphaInstr.{AlphaInstr}
use Rattle.alpha_encode.specs.declared.instr.AlphaInstr.TheVariants.{Operate}
use Rattle.alpha_encode.specs.declared.instr.OperateOp.TheVariants.{Bis}
use Rattle.alpha_encode.specs.declared.instr.Second.TheVariants.{Register}
use Rattle.alpha_encode.specs.Registers.{ZERO}

abbrev pub nop : AlphaInstr
nop = Operate Bis ZERO (Register ZERO) ZERO
