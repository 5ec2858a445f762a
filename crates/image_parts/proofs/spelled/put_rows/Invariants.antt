use Rattle.std.proofs.Common.{◌≡◌, ◌++◌, map, take}
use Rattle.std.specs.List.{flat_map, AllByRecursion}
use Rattle.image_file.specs.Spelling.{row_bytes, row_of}
use Rattle.image_parts.specs.Parts.{RowFits, sized}
use Rattle.image_parts.proofs.spelled.put_rows.Given as goal

abbrev pub invariant-loop-section : goal.invariant-loop-section
invariant-loop-section l =
    record {
      bytes : l.out.items ≡ l.fn.out.items ++ flat_map row_bytes (map row_of (map sized (take l.section-index l.sections)));
      fit : AllByRecursion RowFits (map row_of (map sized (take l.section-index l.sections)));
    }
