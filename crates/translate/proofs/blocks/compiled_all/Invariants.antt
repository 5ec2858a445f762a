use Rattle.translate.specs.Compiled.{AreCompiledTo}
use Rattle.translate.proofs.blocks.compiled_all.Given as goal

abbrev pub invariant-loop-place : goal.invariant-loop-place
invariant-loop-place l = AreCompiledTo l.target l.pages l.instrs l.place l.blocks.items
