-- The page table of an image: which pages it has, which of them may be written, and the bytes of the others.
-- VAX Architecture Reference Manual, "Memory Management": a page has 512 bytes, and its number is the address
-- divided by 512.
use Rattle.std.specs.Prelude.{◌≡◌, ◌≤◌, ◌+◌, ◌*◌, ◌&&◌, ℕ, Bool, List, [], ◌∷◌, length, nat_le, nat_lt, if◌then◌else◌}
use Rattle.vax_form.specs.declared.pages.PageRange.{PageRange}

abbrev pub page_size : ℕ
page_size = 512

pub record PageTable : Type 0 where
  pub ranges : List PageRange
  pub code : List ℕ

abbrev pub has_page : ℕ → PageRange → Bool
has_page page r = nat_le r.first page && nat_lt page (r.first + r.count)

-- how many bytes of a range stand in the code
abbrev pub code_bytes : PageRange → ℕ
code_bytes r = if r.writable then 0 else page_size * r.count

abbrev pub code_length : List PageRange → ℕ
code_length [] = 0
code_length (r ∷ rs) = code_bytes r + code_length rs

-- ranges of at least one page, in rising order and without overlap, from that page on and below address 80000000
abbrev pub AreRising : ℕ → List PageRange → Type 0
AreRising lowest [] = Unit {0}
AreRising lowest (r ∷ rs) = (lowest ≤ r.first) × (1 ≤ r.count) × (r.first + r.count ≤ 4194304) × AreRising (r.first + r.count) rs

-- each read-only range has the place behind the read-only ranges before it, and a writable one has place 0
abbrev pub ArePlaced : ℕ → List PageRange → Type 0
ArePlaced place [] = Unit {0}
ArePlaced place (r ∷ rs) = (r.place ≡ (if r.writable then 0 else place)) × ArePlaced (place + code_bytes r) rs

-- what holds of every page table
pub record IsPageTable (table : PageTable) : Type 0 where
  pub rising : AreRising 0 table.ranges
  pub placed : ArePlaced 0 table.ranges
  pub filled : length table.code ≡ code_length table.ranges
