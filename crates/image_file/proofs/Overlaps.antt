-- Looking for a pair of rows that share a page, one row after the other.
use Rattle.std.proofs.Common.{◌≡◌, ℕ, ◌+◌, ◌-◌, ◌<◌, List, ◌∷◌, Option, Some, None, length, get_or, drop, take, sym, ap, ◌∙◌, arith, add-one}
use Rattle.std.specs.Prelude.{position, option_map}
use Rattle.std.specs.Option.{option_or}
use Rattle.std.proofs.Math.Seq.{drop-cons}
use Rattle.std.proofs.lemmas.List.{take_all, length-drop}
use Rattle.image_file.specs.declared.rows.Row.{Row}
use Rattle.image_file.specs.Rows.{page_bytes, shares_page, first_overlap, total_bytes}

abbrev no_row : Row
no_row = record { start = 0; size = 0; stored = 0; flags = 0 }

rows_from : (rows : List Row) (k : ℕ) → k < length rows → drop k rows ≡ get_or rows k no_row ∷ drop (k + 1) rows
rows_from rows k within = drop-cons rows k no_row within ∙ ap (λ n. get_or rows k no_row ∷ drop n rows) (sym (add-one k))

abbrev next_pair : ℕ → Option ℕ → Option (ℕ × ℕ) → Option (ℕ × ℕ)
next_pair k next others = option_or (option_map (λ n. (k, k + 1 + n)) next) others

step : (rows : List Row) (k : ℕ) → k < length rows
    → first_overlap k (drop k rows)
    ≡ next_pair k (position (shares_page (get_or rows k no_row)) (take (length rows - (k + 1)) (drop (k + 1) rows))) (first_overlap (k + 1) (drop (k + 1) rows))
step rows k within =
    let whole : take (length rows - (k + 1)) (drop (k + 1) rows) ≡ drop (k + 1) rows = take_all (length rows - (k + 1)) (drop (k + 1) rows) (omega (arith, length-drop (k + 1) rows)) in
    ap (first_overlap k) (rows_from rows k within)
    ∙ ap (λ others. next_pair k (position (shares_page (get_or rows k no_row)) others) (first_overlap (k + 1) (drop (k + 1) rows))) (sym whole)

pub overlap_found : (rows : List Row) (k next : ℕ) → k < length rows → first_overlap k (drop k rows) ≡ first_overlap 0 rows
    → Some next ≡ position (shares_page (get_or rows k no_row)) (take (length rows - (k + 1)) (drop (k + 1) rows))
    → Some (k, k + 1 + next) ≡ first_overlap 0 rows
overlap_found rows k next within before found =
    ap (λ n. next_pair k n (first_overlap (k + 1) (drop (k + 1) rows))) found ∙ sym (step rows k within) ∙ before

pub overlap_later : (rows : List Row) (k : ℕ) → k < length rows → first_overlap k (drop k rows) ≡ first_overlap 0 rows
    → None ≡ position (shares_page (get_or rows k no_row)) (take (length rows - (k + 1)) (drop (k + 1) rows))
    → first_overlap (k + 1) (drop (k + 1) rows) ≡ first_overlap 0 rows
overlap_later rows k within before none =
    ap (λ n. next_pair k n (first_overlap (k + 1) (drop (k + 1) rows))) none ∙ sym (step rows k within) ∙ before

pub total_more : (rows : List Row) (k total : ℕ) → k < length rows → total + total_bytes (drop k rows) ≡ total_bytes rows
    → total + page_bytes (get_or rows k no_row).size + total_bytes (drop (k + 1) rows) ≡ total_bytes rows
total_more rows k total within so_far =
    let here : total_bytes (drop k rows) ≡ page_bytes (get_or rows k no_row).size + total_bytes (drop (k + 1) rows) = ap total_bytes (rows_from rows k within) in
    omega (arith, here, so_far)
