use Rattle.std.proofs.Common.{◌≡◌, ◌<◌, ◌^◌, drop}
use Rattle.std.specs.Prelude.{fold}
use Rattle.dis_text.specs.Listing.{covered_before, covered_with}
use Rattle.dis_text.specs.Made.{covered_value}
use Rattle.dis_text.proofs.covered.covered_before.Given as goal

abbrev pub invariant-loop-instr : goal.invariant-loop-instr
invariant-loop-instr l = record {
  value : fold (covered_with l.start) (covered_value l.covered) (drop l.instr-index l.instrs) ≡ covered_before l.start l.instrs;
  low : l.covered.end < 2 ^ 33;
}
