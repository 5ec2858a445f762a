use Rattle.std.proofs.Common.{zero, suc, ◌<◌, arith, List, [], ◌∷◌, false}
use Rattle.std.specs.Prelude.{All}
use Rattle.branch_layout.specs.Layouts.{Placed, IsPlaced}
use Rattle.block_rows.proofs.layouts.laid_out.Goals as goal

-- of each in turn
none : All IsPlaced []
none k d lt = absurd (omega arith)

one_more : (b : Placed) (bs : List Placed) → IsPlaced b → All IsPlaced bs → All IsPlaced (b ∷ bs)
one_more b bs own all zero d lt = own
one_more b bs own all (suc k) d lt = all k d (omega arith)

pub lay_out-requires-clause-blocks : goal.lay_out-requires-clause-blocks
lay_out-requires-clause-blocks c =
    let from_9 : List Placed = (600, c.in_ok-going-3.field-0) ∷ [] in
    let from_8 : List Placed = (592, c.in_ok-serving.field-0) ∷ from_9 in
    let from_7 : List Placed = (576, c.in_ok-choosing-5.field-0) ∷ from_8 in
    let from_6 : List Placed = (560, c.in_ok-choosing-4.field-0) ∷ from_7 in
    let from_5 : List Placed = (544, c.in_ok-choosing-3.field-0) ∷ from_6 in
    let from_4 : List Placed = (538, c.in_ok-choosing-2.field-0) ∷ from_5 in
    let from_3 : List Placed = (530, c.in_ok-choosing.field-0) ∷ from_4 in
    let from_2 : List Placed = (525, c.in_ok-going-2.field-0) ∷ from_3 in
    let from_1 : List Placed = (519, c.in_ok-block_at.field-0) ∷ from_2 in
    one_more (512, c.in_ok-going.field-0) from_1 (false, c.in_ok-going.ensures)
    (one_more (519, c.in_ok-block_at.field-0) from_2 (false, c.in_ok-block_at.ensures)
    (one_more (525, c.in_ok-going-2.field-0) from_3 (false, c.in_ok-going-2.ensures)
    (one_more (530, c.in_ok-choosing.field-0) from_4 (false, c.in_ok-choosing.ensures)
    (one_more (538, c.in_ok-choosing-2.field-0) from_5 (false, c.in_ok-choosing-2.ensures)
    (one_more (544, c.in_ok-choosing-3.field-0) from_6 (false, c.in_ok-choosing-3.ensures)
    (one_more (560, c.in_ok-choosing-4.field-0) from_7 (false, c.in_ok-choosing-4.ensures)
    (one_more (576, c.in_ok-choosing-5.field-0) from_8 (false, c.in_ok-choosing-5.ensures)
    (one_more (592, c.in_ok-serving.field-0) from_9 (false, c.in_ok-serving.ensures)
    (one_more (600, c.in_ok-going-3.field-0) [] (false, c.in_ok-going-3.ensures)
    none)))))))))
