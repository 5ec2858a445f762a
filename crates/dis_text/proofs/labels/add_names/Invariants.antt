use Rattle.std.proofs.Common.{◌≡◌, ◌++◌, ℕ, drop, map}
use Rattle.std.specs.List.{flat_map}
use Rattle.dis_text.specs.Before.{text_before}
use Rattle.dis_text.specs.Labels.{name_label}
use Rattle.dis_text.specs.Made.{name_value}
use Rattle.dis_text.proofs.labels.add_names.Given as goal

abbrev pub invariant-loop-name : goal.invariant-loop-name
invariant-loop-name l = (a : ℕ) → text_before l.before a ++ flat_map (name_label a) (map name_value (drop l.name-index l.names)) ≡ text_before l.fn.before a ++ flat_map (name_label a) (map name_value l.names)
