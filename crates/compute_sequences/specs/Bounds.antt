-- How large a computed number can be.
use Rattle.std.specs.Prelude.{ℕ, ◌^◌, ◌<◌}
use Rattle.vax_form.specs.declared.instr.Size.{Size}
use Rattle.micro_ops.specs.declared.program.MicroOp.{MicroOp}
use Rattle.micro_ops.specs.declared.program.MicroOp.TheVariants.{SignExtend}
use Rattle.micro_ops.specs.Values.{limit_of, computed}

-- the sign fills 64 bits
abbrev pub computed_limit : MicroOp → Size → ℕ
computed_limit SignExtend size = 2 ^ 64
computed_limit op size = limit_of size

abbrev pub ComputedFits : Type 0
ComputedFits = (op : MicroOp) (size : Size) (a b held : ℕ) → computed op size a b held < computed_limit op size
