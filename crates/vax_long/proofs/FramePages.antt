-- Bytes that may be used, part by part.
use Rattle.std.proofs.Common.{◌≡◌, ℕ, zero, suc, ◌+◌, ◌%◌, ◌^◌, ◌<◌, Bool, true, false, Some, None, refl, ap, sym, ◌∙◌, subst, arith}
use Rattle.std.specs.Prelude.{if◌then◌else◌}
use Rattle.vax_form.specs.Pages.{is_allowed, first_bad}
use Rattle.vax_form.specs.declared.pages.Pages.{Pages}

-- where so many bytes may be used, so may the first of them and those behind
pub parts_allowed : (front rest address : ℕ) (pages : Pages) (write : Bool) → address < 2 ^ 32 → first_bad pages write address (front + rest) ≡ None
    → (first_bad pages write address front ≡ None) × (first_bad pages write ((address + front) % 2 ^ 32) rest ≡ None)
parts_allowed zero rest address pages write small may =
    let same : (address + 0) % 2 ^ 32 ≡ address = omega (arith, small) in
    let none : 0 + rest ≡ rest = omega arith in
    (refl, ap (λ (a : ℕ). first_bad pages write a rest) same ∙ subst (λ (n : ℕ). first_bad pages write address n ≡ None) none may)
parts_allowed (suc front) rest address pages write small may = by (λ goes. parts_allowed front rest ((address + 1) % 2 ^ 32) pages write (omega arith) goes) (is_allowed pages address write)
    (subst (λ (n : ℕ). first_bad pages write address n ≡ None) one may)
  where
    next : ℕ
    next = (address + 1) % 2 ^ 32

    one : suc front + rest ≡ suc (front + rest)
    one = omega arith

    there : (next + front) % 2 ^ 32 ≡ (address + suc front) % 2 ^ 32
    there = omega arith

    by : (first_bad pages write next (front + rest) ≡ None → (first_bad pages write next front ≡ None) × (first_bad pages write ((next + front) % 2 ^ 32) rest ≡ None))
        → (b : Bool) → (if b then first_bad pages write next (front + rest) else Some address) ≡ None
        → ((if b then first_bad pages write next front else Some address) ≡ None) × (first_bad pages write ((address + suc front) % 2 ^ 32) rest ≡ None)
    by again true goes =
        let parts = again goes in
        (parts.0, ap (λ (a : ℕ). first_bad pages write a rest) (sym there) ∙ parts.1)
    by again false goes = absurd (cc goes)
