-- No instruction is known at first.
use Rattle.std.proofs.Common.{ℕ, zero, suc, replicate, None}
use Rattle.vax_form.specs.declared.pages.Pages.{Pages}
use Rattle.tie_switch.specs.Known.{AreFound}

pub none_known : (pages : Pages) (n : ℕ) → AreFound pages (replicate n None)
none_known pages zero place instr is = absurd (cc is)
none_known pages (suc n) zero instr is = absurd (cc is)
none_known pages (suc n) (suc place) instr is = none_known pages n place instr is
