-- The bytes of an aligned quadword stand in one page.
use Rattle.std.proofs.Common.{◌≡◌, ℕ, zero, suc, ◌+◌, ◌-◌, ◌/◌, ◌%◌, ◌^◌, ◌<◌, ◌≤◌, Bool, true, false, Some, None, refl, ap, sym, ◌∙◌, arith, nat_le, nat_lt, not, ◌&&◌, ◌||◌}
use Rattle.std.specs.List.{list_any}
use Rattle.vax_form.specs.Pages.{is_allowed, first_bad}
use Rattle.vax_form.specs.declared.pages.Pages.{Pages}

allowed_same : (pages : Pages) (a b : ℕ) (write : Bool) → a / 512 ≡ b / 512 → is_allowed pages a write ≡ is_allowed pages b write
allowed_same pages a b write same = ap (λ page. list_any (λ r. nat_le r.first page && nat_lt page (r.first + r.count) && (not write || r.writable)) pages.ranges) same

within : (count address : ℕ) (pages : Pages) (write : Bool) → address < 2 ^ 32 → address % 8 + count ≤ 8 → is_allowed pages address write ≡ true
    → first_bad pages write address count ≡ None
within zero address pages write small fits allowed = refl
within (suc zero) address pages write small fits allowed = rw allowed refl
within (suc (suc count)) address pages write small fits allowed =
    let next : (address + 1) % 2 ^ 32 ≡ address + 1 = omega (arith, small, fits) in
    let page : (address + 1) / 512 ≡ address / 512 = omega (arith, fits) in
    rw allowed (rw next (within (suc count) (address + 1) pages write (omega (arith, small, fits)) (omega (arith, fits)) (allowed_same pages (address + 1) address write page ∙ allowed)))

refused : (count address : ℕ) (pages : Pages) (write : Bool) → 0 < count → is_allowed pages address write ≡ false → first_bad pages write address count ≡ Some address
refused zero address pages write some bad = absurd (omega (arith, some))
refused (suc count) address pages write some bad = rw bad refl

-- the bytes behind those of the quadword
behind : (front rest whole address : ℕ) (pages : Pages) (write : Bool) → whole ≡ front + rest → address < 2 ^ 32 → address % 8 + front ≤ 8 → is_allowed pages address write ≡ true → 0 < front
    → first_bad pages write address whole ≡ first_bad pages write ((address + front) % 2 ^ 32) rest
behind zero rest whole address pages write is small fits allowed some = absurd (omega (arith, some))
behind (suc zero) rest whole address pages write is small fits allowed some =
    let one : whole ≡ suc rest = omega (arith, is) in
    rw one (rw allowed refl)
behind (suc (suc front)) rest whole address pages write is small fits allowed some =
    let one : whole ≡ suc (suc front + rest) = omega (arith, is) in
    let next : (address + 1) % 2 ^ 32 ≡ address + 1 = omega (arith, small, fits) in
    let page : (address + 1) / 512 ≡ address / 512 = omega (arith, fits) in
    let there : address + 1 + suc front ≡ address + suc (suc front) = omega arith in
    rw one (rw allowed (rw next
    (behind (suc front) rest (suc front + rest) (address + 1) pages write refl (omega (arith, small, fits)) (omega (arith, fits)) (allowed_same pages (address + 1) address write page ∙ allowed) (omega arith)
    ∙ ap (λ a. first_bad pages write (a % 2 ^ 32) rest) there)))

pub all_within : (count address : ℕ) (pages : Pages) (write : Bool) → address < 2 ^ 32 → count ≤ 8 - address % 8 → is_allowed pages address write ≡ true → None ≡ first_bad pages write address count
all_within count address pages write small fits allowed = sym (within count address pages write small (omega (arith, fits)) allowed)

-- the first byte of the second part
second_part : (count address next : ℕ) (pages : Pages) (write : Bool) → address < 2 ^ 32 → 8 - address % 8 < count → is_allowed pages address write ≡ true
    → next ≡ (address + (8 - address % 8)) % 2 ^ 32
    → first_bad pages write address count ≡ first_bad pages write next (count - (8 - address % 8))
second_part count address next pages write small fits allowed is = rw is (behind (8 - address % 8) (count - (8 - address % 8)) count address pages write (omega (arith, fits)) small (omega arith) allowed (omega arith))

pub second_refused : (count address next : ℕ) (pages : Pages) (write : Bool) → address < 2 ^ 32 → 8 - address % 8 < count → is_allowed pages address write ≡ true
    → next ≡ (address + (8 - address % 8)) % 2 ^ 32 → is_allowed pages next write ≡ false → Some next ≡ first_bad pages write address count
second_refused count address next pages write small fits allowed is bad =
    sym (second_part count address next pages write small fits allowed is ∙ refused (count - (8 - address % 8)) next pages write (omega (arith, fits)) bad)

pub both_within : (count address next : ℕ) (pages : Pages) (write : Bool) → address < 2 ^ 32 → count ≤ 8 → 8 - address % 8 < count → is_allowed pages address write ≡ true
    → next ≡ (address + (8 - address % 8)) % 2 ^ 32 → is_allowed pages next write ≡ true → None ≡ first_bad pages write address count
both_within count address next pages write small most fits allowed is good =
    let low : next < 2 ^ 32 = omega (arith, is) in
    let room : next % 8 + (count - (8 - address % 8)) ≤ 8 = omega (arith, is, small, most) in
    sym (second_part count address next pages write small fits allowed is ∙ within (count - (8 - address % 8)) next pages write low room good)
