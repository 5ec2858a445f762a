use Rattle.std.proofs.Common.{◌≡◌, ◌++◌, take}
use Rattle.std.specs.List.{flat_map}
use Rattle.image_text.specs.Lines.{stop_line}
use Rattle.image_text.proofs.instructions.put_stops_at.Given as goal

abbrev pub invariant-loop-address : goal.invariant-loop-address
invariant-loop-address l = l.out.items ≡ l.fn.out.items ++ flat_map (stop_line l.pages l.from) (take l.address-index l.addresses)
