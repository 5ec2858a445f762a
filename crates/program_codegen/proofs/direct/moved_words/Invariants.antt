use Rattle.std.proofs.Common.{◌≡◌, ◌++◌, ◌≤◌, length, List}
use Rattle.std.specs.Prelude.{drop, option_map}
use Rattle.alpha_encode.specs.declared.instr.AlphaInstr.{AlphaInstr}
use Rattle.program_codegen.specs.Ends.{moved_from, moved_words}
use Rattle.program_codegen.proofs.direct.moved_words.Given as goal

abbrev pub invariant-loop-i : goal.invariant-loop-i
invariant-loop-i l = record {
  within : l.i ≤ length l.words;
  pushed : moved_words l.fn.homes l.fn.words ≡ option_map (λ (rest : List AlphaInstr). l.moved.items ++ rest) (moved_from l.homes l.raised (drop l.i l.words));
}
