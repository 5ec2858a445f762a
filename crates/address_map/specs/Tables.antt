-- Tables by pages of 512 numbers: a word for each page from the lowest number's to the highest's, and a table of 512
-- places for each page that has a number.
use Rattle.std.specs.Prelude.{◌≡◌, ◌<◌, ◌≤◌, ◌+◌, ◌-◌, ◌*◌, ◌/◌, ◌%◌, ◌==◌, ℕ, zero, suc, Bool, true, List, [], ◌∷◌, ◌++◌, Option, None, length, replicate, slice_index, slice_index_or, slice_set, if◌then◌else◌}
use Rattle.std.specs.List.{list_any}
use Rattle.address_map.specs.Pairs.{Pair, word_at}

-- the numbers of a page
abbrev pub page_size : ℕ
page_size = 512

-- a number of the page has a pair
abbrev pub has_page : List Pair → ℕ → Bool
has_page pairs page = list_any (λ (p : Pair). p.0 / page_size == page) pairs

-- how many of the pages below it
abbrev pub count_below : (ℕ → Bool) → ℕ → ℕ
count_below has zero = 0
count_below has (suc page) = if has page then suc (count_below has page) else count_below has page

-- the number of the page's lower table: they stand in the order of their pages
abbrev pub table_number : List Pair → ℕ → ℕ
table_number pairs page = count_below (has_page pairs) page

-- 0 where the page has no number, else one more than the number of its lower table
abbrev pub upper_word : List Pair → ℕ → ℕ
upper_word pairs page = if has_page pairs page then suc (table_number pairs page) else 0

-- the place of a number in the lower tables
abbrev pub lower_place : List Pair → ℕ → ℕ
lower_place pairs number = page_size * table_number pairs (number / page_size) + number % page_size

-- the page of the first pair, which has the lowest number
abbrev pub first_page : List Pair → ℕ
first_page [] = 0
first_page (p ∷ ps) = p.0 / page_size

-- the page behind that of the last pair, which has the highest number
abbrev pub end_page : List Pair → ℕ
end_page [] = 0
end_page (p ∷ []) = p.0 / page_size + 1
end_page (p ∷ q ∷ ps) = end_page (q ∷ ps)

-- how many pages there are from one to the other
abbrev pub page_span : List Pair → ℕ
page_span pairs = end_page pairs - first_page pairs

pub record TablesValue : Type 0 where
  pub first : ℕ
  pub upper : List ℕ
  pub lower : List (Option ℕ)

abbrev pub tables : ℕ → List ℕ → List (Option ℕ) → TablesValue
tables first upper lower = record { first = first; upper = upper; lower = lower }

-- upper words and lower tables, with a lower table for that upper word, which is added behind the others where it is 0
abbrev pub opened : ℕ → List ℕ → List (Option ℕ) → List ℕ × List (Option ℕ)
opened page upper lower =
    if slice_index upper page == 0
    then (slice_set upper page (length lower / page_size + 1), lower ++ replicate page_size None)
    else (upper, lower)

-- the page has an upper word
abbrev pub IsInside : TablesValue → ℕ → Type 0
IsInside t page = (t.first ≤ page) × (page < t.first + length t.upper)

-- tables of pages, and of what stands beside numbers
pub record Holds (t : TablesValue) (has : ℕ → Bool) (word : ℕ → Option ℕ) : Type 0 where
  pub inside : (page : ℕ) → has page ≡ true → IsInside t page
  pub upper : (page : ℕ) → IsInside t page → slice_index t.upper (page - t.first) ≡ (if has page then suc (count_below has page) else 0)
  pub tables : length t.lower ≡ page_size * count_below has (t.first + length t.upper)
  pub lower : (number : ℕ) → has (number / page_size) ≡ true → slice_index_or t.lower (page_size * count_below has (number / page_size) + number % page_size) None ≡ word number

-- of these pairs
abbrev pub HasTables : TablesValue → List Pair → Type 0
HasTables t pairs = Holds t (has_page pairs) (word_at pairs)

-- and of no other pages
pub record AreTablesOf (t : TablesValue) (pairs : List Pair) : Type 0 where
  pub first : t.first ≡ first_page pairs
  pub span : length t.upper ≡ page_span pairs
  pub tables : HasTables t pairs
