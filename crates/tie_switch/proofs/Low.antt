-- Addresses in pages are below 80000000.
use Rattle.std.proofs.Common.{◌≡◌, ℕ, ◌+◌, ◌*◌, ◌/◌, ◌<◌, ◌≤◌, ◌&&◌, ◌||◌, Bool, true, false, List, [], ◌∷◌, refl, arith}
use Rattle.std.specs.Prelude.{nat_le, nat_lt}
use Rattle.std.specs.List.{list_any}
use Rattle.std.proofs.lemmas.Bool.Decides.{nat_tests}
use Rattle.memory_core.proofs.Choices.{second_true}
use Rattle.vax_form.specs.PageTable.{AreRising}
use Rattle.vax_form.specs.Pages.{allows}
use Rattle.vax_form.specs.declared.pages.PageRange.{PageRange}

step : (first count page : ℕ) (w rest : Bool) → first + count ≤ 4194304 → (rest ≡ true → page < 4194304) → (((nat_le first page && nat_lt page (first + count)) && w) || rest) ≡ true → page < 4194304
step first count page true true few later h = later refl
step first count page false true few later h = later refl
step first count page w false few later h = grind (arith, nat_tests)

page_low : (ranges : List PageRange) (lowest address : ℕ) (write : Bool) → AreRising lowest ranges → list_any (allows address write) ranges ≡ true → address / 512 < 4194304
page_low [] lowest address write rising h = absurd (cc h)
page_low (r ∷ rs) lowest address write rising h = step r.first r.count (address / 512) _ _ rising.2 (page_low rs (r.first + r.count) address write rising.3) h

-- a quadword that may be used has an address of 32 bits
pub quad_fits : (ranges : List PageRange) (address : ℕ) (aligned write : Bool) → AreRising 0 ranges → (aligned && list_any (allows (address / 8 * 8) write) ranges) ≡ true → address / 8 * 8 < 4294967296
quad_fits ranges address aligned write rising h = omega (arith, page_low ranges 0 (address / 8 * 8) write rising (second_true aligned _ h))
