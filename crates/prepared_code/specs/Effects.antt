-- What a local instruction leaves: at most one register is written, and one word comes next.
use Rattle.std.specs.Prelude.{Option, Some, None}
use Rattle.alpha_meaning.specs.Act.{Does, Goes, Asks, Calls}
use Rattle.alpha_meaning.specs.State.{Alpha, put}
use Rattle.prepared_code.specs.declared.effect.Effect.{Effect}

-- the processor that a local instruction leaves; None for an access and a PALcode call
abbrev pub local : Does → Option Alpha
local (Goes c) = Some c
local (Asks access) = None
local (Calls number) = None

-- the processor behind an effect
abbrev pub behind : Alpha → Effect → Alpha
behind c e = record { regs = put c.regs e.register e.value; pc = e.next }
