-- The instruction of the word.
use Rattle.std.proofs.Common.{Option, sym, ap, ◌∙◌}
use Rattle.std.specs.Prelude.{option_map}
use Rattle.std.specs.Option.{unwrap_or}
use Rattle.alpha_encode.specs.declared.instr.AlphaInstr.{AlphaInstr}
use Rattle.prepared_code.specs.Known.{flat_by, other}
use Rattle.prepared_code.proofs.flat.flat_at.Goals as goal

pub returns-in-Some : goal.returns-in-Some
returns-in-Some c = λ code are.
    c.flat_by.ensures code are ∙ ap (λ (o : Option AlphaInstr). unwrap_or (option_map (flat_by code c.args.place) o) other) (sym (c.in-Some.ensures.fetched code are))

pub returns-in-None : goal.returns-in-None
returns-in-None c = λ code are. ap (λ (o : Option AlphaInstr). unwrap_or (option_map (flat_by code c.args.place) o) other) (sym (c.in-None.ensures.fetched code are))
