-- The values of saved registers, one by one.
use Rattle.std.proofs.Common.{◌≡◌, ℕ, suc, ◌-◌, ◌<◌, true, false, refl, ap, ◌∙◌, arith}
use Rattle.std.specs.Prelude.{slice_index}
use Rattle.vax_form.specs.State.{register}
use Rattle.vax_form.specs.declared.state.VaxState.{VaxState}
use Rattle.vax_long.specs.Calls.{saved_values}
use Rattle.vax_long.specs.Registers.{is_in_mask}

pub first_saved : (count rest mask left : ℕ) (state : VaxState) → count ≡ suc rest → is_in_mask rest mask ≡ true → left ≡ 0 → slice_index (saved_values count mask state) left ≡ register rest state
first_saved count rest mask left state is bit none = rw (is, bit, none) refl

next_by : (count rest mask before : ℕ) (state : VaxState) → count ≡ suc rest → is_in_mask rest mask ≡ true
    → slice_index (saved_values count mask state) (suc before) ≡ slice_index (saved_values rest mask state) before
next_by count rest mask before state is bit = rw (is, bit) refl

pub next_saved : (count rest mask left : ℕ) (state : VaxState) → count ≡ suc rest → is_in_mask rest mask ≡ true → 0 < left
    → slice_index (saved_values count mask state) left ≡ slice_index (saved_values rest mask state) (left - 1)
next_saved count rest mask left state is bit some =
    let one : left ≡ suc (left - 1) = omega (arith, some) in
    ap (λ (n : ℕ). slice_index (saved_values count mask state) n) one ∙ next_by count rest mask (left - 1) state is bit

pub not_saved : (count rest mask left : ℕ) (state : VaxState) → count ≡ suc rest → is_in_mask rest mask ≡ false
    → slice_index (saved_values count mask state) left ≡ slice_index (saved_values rest mask state) left
not_saved count rest mask left state is bit = rw (is, bit) refl
