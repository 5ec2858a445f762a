use Rattle.std.proofs.Common.{◌≡◌, ◌++◌, ℕ, drop}
use Rattle.std.specs.List.{enumerate_from, flat_map}
use Rattle.dis_text.specs.Before.{text_before}
use Rattle.dis_text.specs.Labels.{numbered_label, numbered_labels}
use Rattle.dis_text.proofs.labels.add_numbered.Given as goal

abbrev pub invariant-loop-number : goal.invariant-loop-number
invariant-loop-number l = (a : ℕ) → text_before l.before a ++ flat_map (numbered_label l.kind a) (enumerate_from l.number (drop l.number l.addresses)) ≡ text_before l.fn.before a ++ numbered_labels l.kind l.addresses a
