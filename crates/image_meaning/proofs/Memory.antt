-- References to operands in memory: each part of what was checked.
use Rattle.std.proofs.Common.{◌≡◌, ℕ, ◌+◌, ◌-◌, ◌*◌, ◌%◌, ◌^◌, ◌<◌, ◌≤◌, Bool, true, false, arith}
use Rattle.std.specs.Prelude.{nat_lt, ◌||◌}
use Rattle.std.proofs.lemmas.Bool.{ltb-true}
use Rattle.std.proofs.lemmas.Nat.{pow_pos}
use Rattle.std.proofs.Math.Nat.{mod-lt}
use Rattle.vax_form.specs.Pages.{is_allowed}
use Rattle.vax_form.specs.Ranges.{is_write, FitsPage}
use Rattle.vax_form.specs.declared.pages.Pages.{Pages}
use Rattle.vax_form.specs.declared.state.RefKind.{RefKind}
use Rattle.vax_meaning.specs.Memory.{low_bytes, front_count, next_part, read_part, read, write_part, write, fetch, lock, code_word}
use Rattle.image_meaning.proofs.Keeping.{Keeps, Stays, Any, kept, stay_pure, stay_bind, stay_choice, stay_ask, stay_check_read, stay_code}
use Rattle.image_meaning.proofs.Allowed.{Allows, first_allowed}
use Rattle.image_meaning.proofs.States.{IsLongword, low_longword}

-- a byte stands in one quadword
pub byte_fits : (address : ℕ) → address % 8 + 1 ≤ 8
byte_fits address = omega arith

pub stay_read_part : {pages : Pages} {w : Bool} (address count : ℕ) → IsLongword address → address % 8 + count ≤ 8 → is_allowed pages address false ≡ true
    → Stays pages w w Any (read_part address count)
stay_read_part address count small within may =
    stay_bind {P = Any} (stay_ask (record { quadword = record { longword = small; within = within; bit = tt }; allowed = may; value = tt }) (λ reply _. tt))
    (λ reply _. stay_pure tt)

low_below : (count value : ℕ) → low_bytes count value < 2 ^ (8 * count)
low_below count value = mod-lt value (pow_pos (8 * count))

pub stay_write_part : {pages : Pages} {w : Bool} (address count value : ℕ) → IsLongword address → address % 8 + count ≤ 8 → is_allowed pages address true ≡ true
    → Stays pages w true Any (write_part address count value)
stay_write_part address count value small within may =
    stay_bind {P = Any}
    (stay_ask (record { quadword = record { longword = small; within = within; bit = tt }; allowed = may; value = low_below count value }) (λ reply _. tt))
    (λ reply _. stay_pure tt)

-- the part in the address's quadword, and the part in the next one
front_fits : (address count : ℕ) → address % 8 + front_count address count ≤ 8
front_fits address count = omega arith

next_fits : (address count : ℕ) → count ≤ 8 → nat_lt (front_count address count) count ≡ true
    → next_part address count % 8 + (count - front_count address count) ≤ 8
next_fits address count few more = let less = ltb-true (front_count address count) count more in omega arith

pub stay_read : {pages : Pages} {w : Bool} (address count : ℕ) → IsLongword address → 1 ≤ count → count ≤ 8 → Allows pages false address count
    → Stays pages w w Any (read address count)
unfolding read
stay_read {pages = pages} address count small some few all =
    stay_bind (stay_read_part address (front_count address count) small (front_fits address count) (first_allowed pages false address count small some all))
    (λ low _. stay_choice
    (λ more. stay_bind
    (stay_read_part (next_part address count) (count - front_count address count) (low_longword (address + front_count address count)) (next_fits address count few more)
    (all (front_count address count) (ltb-true (front_count address count) count more))) (λ high _. stay_pure tt))
    (λ _. stay_pure tt))

pub stay_write : {pages : Pages} {w : Bool} (address count value : ℕ) → IsLongword address → 1 ≤ count → count ≤ 8 → Allows pages true address count
    → Stays pages w true Any (write address count value)
unfolding write
stay_write {pages = pages} address count value small some few all =
    stay_bind (stay_write_part address (front_count address count) value small (front_fits address count) (first_allowed pages true address count small some all))
    (λ _ _. stay_choice
    (λ more. stay_write_part (next_part address count) (count - front_count address count) _ (low_longword (address + front_count address count))
    (next_fits address count few more) (all (front_count address count) (ltb-true (front_count address count) count more)))
    (λ _. stay_pure tt))

pub keep_read : {pages : Pages} {w : Bool} (address count : ℕ) → IsLongword address → 1 ≤ count → count ≤ 8 → Allows pages false address count
    → Keeps pages w w Any (read address count)
keep_read address count small some few all = kept (stay_read address count small some few all)

pub keep_write : {pages : Pages} {w : Bool} (address count value : ℕ) → IsLongword address → 1 ≤ count → count ≤ 8 → Allows pages true address count
    → Keeps pages w true Any (write address count value)
keep_write address count value small some few all = kept (stay_write address count value small some few all)

pub keep_fetch : {pages : Pages} {w : Bool} (address count : ℕ) → IsLongword address → 1 ≤ count → count ≤ 8 → Keeps pages w w Any (fetch address count)
keep_fetch address count small some few = kept (stay_bind (stay_check_read address count small) (λ _ all. stay_read address count small some few all))

pub keep_lock : {pages : Pages} {w : Bool} (address count : ℕ) (kind : RefKind) → FitsPage pages (record { address = address; count = count; kind = kind })
    → Keeps pages w (is_write kind || w) Any (lock address count kind)
keep_lock address count kind fits = kept (stay_bind {P = Any} (stay_ask fits (λ reply _. tt)) (λ reply _. stay_pure tt))

pub keep_code_word : {pages : Pages} {w : Bool} (address : ℕ) → Keeps pages w w Any (code_word address)
unfolding code_word
keep_code_word address = kept (stay_bind stay_code (λ low _. stay_bind stay_code (λ high _. stay_pure tt)))
