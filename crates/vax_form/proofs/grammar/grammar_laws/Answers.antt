use Rattle.vax_form.proofs.GrammarLaws.{decides_once, instruction_found, read_instruction-decides}
use Rattle.vax_form.proofs.grammar.grammar_laws.Goals as goal

pub returns : goal.returns
returns c = record { read = read_instruction-decides; decided = instruction_found; once = decides_once }
