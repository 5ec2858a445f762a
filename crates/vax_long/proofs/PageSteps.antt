-- The bytes of a page may be used alike.
use Rattle.std.proofs.Common.{◌≡◌, ℕ, zero, suc, ◌+◌, ◌/◌, ◌%◌, ◌^◌, ◌<◌, ◌≤◌, Bool, true, refl, ap, sym, ◌∙◌, arith, nat_le, nat_lt, not, ◌&&◌, ◌||◌}
use Rattle.std.specs.List.{list_any}
use Rattle.vax_form.specs.Pages.{is_allowed, first_bad}
use Rattle.vax_form.specs.declared.pages.Pages.{Pages}

same_page : (pages : Pages) (a b : ℕ) (write : Bool) → a / 512 ≡ b / 512 → is_allowed pages a write ≡ is_allowed pages b write
same_page pages a b write same = ap (λ page. list_any (λ r. nat_le r.first page && nat_lt page (r.first + r.count) && (not write || r.writable)) pages.ranges) same

-- where the first of some bytes of a page may be used, those behind them decide
pub page_step : (here rest whole place : ℕ) (pages : Pages) (write : Bool) → whole ≡ here + rest → place < 2 ^ 32 → place % 512 + here ≤ 512 → is_allowed pages place write ≡ true → 0 < here
    → first_bad pages write ((place + here) % 2 ^ 32) rest ≡ first_bad pages write place whole
page_step zero rest whole place pages write is small fits allowed some = absurd (omega (arith, some))
page_step (suc zero) rest whole place pages write is small fits allowed some =
    let one : whole ≡ suc rest = omega (arith, is) in
    rw one (rw allowed refl)
page_step (suc (suc here)) rest whole place pages write is small fits allowed some =
    let one : whole ≡ suc (suc here + rest) = omega (arith, is) in
    let next : (place + 1) % 2 ^ 32 ≡ place + 1 = omega (arith, small, fits) in
    let page : (place + 1) / 512 ≡ place / 512 = omega (arith, fits) in
    let there : place + 1 + suc here ≡ place + suc (suc here) = omega arith in
    rw one (rw allowed (rw next
    (ap (λ a. first_bad pages write (a % 2 ^ 32) rest) (sym there)
    ∙ page_step (suc here) rest (suc here + rest) (place + 1) pages write refl (omega (arith, small, fits)) (omega (arith, fits)) (same_page pages (place + 1) place write page ∙ allowed) (omega arith))))
