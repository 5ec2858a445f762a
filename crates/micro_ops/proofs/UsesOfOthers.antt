-- What operations use that set no codes.
use Rattle.std.proofs.Common.{◌≡◌, ℕ, refl, Bool, true, Option}
use Rattle.micro_ops.specs.LeftOut.{uses_now}
use Rattle.micro_ops.specs.Uses.{reads}
use Rattle.micro_ops.specs.declared.codes.CodeSources.{CodeSources}
use Rattle.micro_ops.specs.declared.program.Micro.{Micro}
use Rattle.micro_ops.specs.declared.program.Micro.TheVariants.{Compute, Probe, Refuse, Read, Write, Locked, Commit, Codes, SetPsw, Leave}

pub others_use : (codes : CodeSources) (needed : Bool) (operation : Micro) (temp : ℕ) → ((n z v : ℕ) (c : Option ℕ) → operation ≡ Codes n z v c → ⊥) → needed ≡ true
    → uses_now codes needed operation temp ≡ reads temp operation
others_use codes needed (Codes n z v c) temp others is = absurd (others n z v c refl)
others_use codes needed (Compute to op size a b) temp others is = rw is refl
others_use codes needed (Probe place count write) temp others is = rw is refl
others_use codes needed (Refuse when) temp others is = rw is refl
others_use codes needed (Read to place count) temp others is = rw is refl
others_use codes needed (Write place count from) temp others is = rw is refl
others_use codes needed (Locked to place kind from) temp others is = rw is refl
others_use codes needed (Commit register from) temp others is = rw is refl
others_use codes needed (SetPsw from) temp others is = rw is refl
others_use codes needed (Leave exit) temp others is = rw is refl
