use Rattle.std.proofs.Common.{◌≡◌, ◌++◌, take}
use Rattle.std.specs.List.{flat_map, AllByRecursion}
use Rattle.image_file.specs.Spelling.{start_bytes}
use Rattle.image_file.specs.Whole.{StartFits}
use Rattle.image_parts.proofs.spelled.put_threads.Given as goal

abbrev pub invariant-loop-start : goal.invariant-loop-start
invariant-loop-start l = record { bytes : l.out.items ≡ l.fn.out.items ++ flat_map (start_bytes l.version) (take l.start-index l.threads); fit : AllByRecursion StartFits (take l.start-index l.threads) }
