use Rattle.std.proofs.Common.{◌≡◌, ◌++◌, take}
use Rattle.std.specs.List.{flat_map}
use Rattle.image_file.specs.Spelling.{start_bytes}
use Rattle.image_file.proofs.writing.put_threads.Given as goal

abbrev pub invariant-loop-start : goal.invariant-loop-start
invariant-loop-start l = l.out.items ≡ l.fn.out.items ++ flat_map (start_bytes l.version) (take l.start-index l.threads)
