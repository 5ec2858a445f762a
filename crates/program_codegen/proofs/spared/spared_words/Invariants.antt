use Rattle.std.proofs.Common.{◌≡◌, ◌++◌, ◌≤◌, length, List}
use Rattle.std.specs.Prelude.{drop, option_map}
use Rattle.alpha_encode.specs.declared.instr.AlphaInstr.{AlphaInstr}
use Rattle.program_codegen.specs.Ends.{spared_words}
use Rattle.program_codegen.proofs.spared.spared_words.Given as goal

abbrev pub invariant-loop-i : goal.invariant-loop-i
invariant-loop-i l = record {
  within : l.i ≤ length l.words;
  pushed : spared_words l.fn.place l.fn.extended l.fn.made l.fn.words ≡ option_map (λ (rest : List AlphaInstr). l.spared.items ++ rest) (spared_words l.place l.extended l.made (drop l.i l.words));
}
