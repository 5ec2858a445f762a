-- What stood in a list stands at the front of what operations were added to.
use Rattle.std.proofs.Common.{◌≡◌, ◌∙◌, ◌++◌, List, length, take, drop, append_assoc, ap, sym}
use Rattle.std.proofs.Math.Seq.{take-append_seam, take-length}
use Rattle.std.proofs.lemmas.List.{take-append-drop}
use Rattle.micro_ops.specs.declared.program.Micro.{Micro}
use Rattle.operand_programs.specs.Fronts.{IsFrontOf}

pub front_of_same : (xs ys : List Micro) → ys ≡ xs → IsFrontOf xs ys
front_of_same xs ys e = ap (take (length xs)) e ∙ take-length xs

pub front_of_more : (xs more ys : List Micro) → ys ≡ xs ++ more → IsFrontOf xs ys
front_of_more xs more ys e = ap (take (length xs)) e ∙ take-append_seam xs more

pub front_of_front : (xs more ys zs : List Micro) → ys ≡ xs ++ more → IsFrontOf ys zs → IsFrontOf xs zs
front_of_front xs more ys zs e front =
    let d = drop (length ys) zs in
    let whole : zs ≡ xs ++ (more ++ d) = sym (take-append-drop (length ys) zs) ∙ ap (λ l. l ++ d) (front ∙ e) ∙ append_assoc xs more d in
    front_of_more xs (more ++ d) zs whole

pub front_through : (xs ys zs : List Micro) → IsFrontOf xs ys → IsFrontOf ys zs → IsFrontOf xs zs
front_through xs ys zs first second =
    let behind = drop (length xs) ys in
    front_of_front xs behind ys zs (sym (take-append-drop (length xs) ys) ∙ ap (λ l. l ++ behind) first) second

pub ruleset fronts = (front_of_same, front_of_more, front_of_front, front_through)
