-- What a sound row of the section table keeps to.
use Rattle.std.proofs.Common.{◌≡◌, ◌+◌, ◌%◌, ◌≤◌, true}
use Rattle.std.proofs.lemmas.Bool.{and_parts, eqb-true, leb-true, ltb-true}
use Rattle.image_file.specs.declared.rows.Row.{Row}
use Rattle.image_file.specs.Rows.{is_sound}

pub record IsSound (r : Row) : Type 0 where
  pub at_page : r.start % 512 ≡ 0
  pub some : 1 ≤ r.size
  pub stored : r.stored ≤ r.size
  pub end : r.start + r.size ≤ 2147483648
  pub flags : r.flags ≤ 1

pub sound_row : (r : Row) → is_sound r ≡ true → IsSound r
sound_row r sound =
    let a = and_parts _ _ sound in
    let b = and_parts _ _ a.0 in
    let c = and_parts _ _ b.0 in
    let d = and_parts _ _ c.0 in
    record { at_page = eqb-true _ _ d.0; some = ltb-true _ _ d.1; stored = leb-true _ _ c.1; end = leb-true _ _ b.1; flags = leb-true _ _ a.1 }
