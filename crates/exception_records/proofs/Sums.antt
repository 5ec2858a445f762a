-- Sums and differences without a carry.
use Rattle.std.proofs.Common.{◌≡◌, ℕ, ◌+◌, ◌-◌, ◌%◌, Bool, false, refl, ap, add-zero}
use Rattle.std.proofs.Math.IntN.{+ℤ_idr}
use Rattle.std.specs.Prelude.{◌+ℤ◌, ◌-ℤ◌, nat_le, nat_lt, not}
use Rattle.vt_words.specs.Values.{modulus, signed_value, fits}
use Rattle.vt_words.specs.Arithmetic.{coded_value, sum_of, difference_of}
use Rattle.vax_form.specs.Size.{bytes_of}
use Rattle.vax_form.specs.declared.instr.Size.{Size}
use Rattle.exception_records.specs.Codes.{codes_of, sum_codes, difference_codes}

sum_without_carry : (bytes a b : ℕ)
    → coded_value bytes ((a + b) % modulus bytes) (not (fits bytes (signed_value bytes a +ℤ signed_value bytes b))) (nat_le (modulus bytes) (a + b)) ≡ sum_of bytes a b false
unfolding sum_of
sum_without_carry bytes a b = rw (add-zero, +ℤ_idr) refl

difference_without_borrow : (bytes a b : ℕ)
    → coded_value bytes ((a + modulus bytes - b) % modulus bytes) (not (fits bytes (signed_value bytes a -ℤ signed_value bytes b))) (nat_lt a b) ≡ difference_of bytes a b false
unfolding difference_of
difference_without_borrow bytes a b = rw (add-zero, +ℤ_idr) refl

module _ (size : Size) (a b limit limit' : ℕ) (v : Bool) (is : limit ≡ modulus (bytes_of size)) (is' : limit' ≡ modulus (bytes_of size)) where
  pub sum_has_codes : v ≡ not (fits (bytes_of size) (signed_value (bytes_of size) a +ℤ signed_value (bytes_of size) b)) → codes_of (coded_value (bytes_of size) ((a + b) % limit) v (nat_le limit' (a + b))) ≡ sum_codes size a b
  sum_has_codes v_is = rw (is, is', v_is) (ap codes_of (sum_without_carry (bytes_of size) a b))

  pub difference_has_codes : v ≡ not (fits (bytes_of size) (signed_value (bytes_of size) a -ℤ signed_value (bytes_of size) b)) → codes_of (coded_value (bytes_of size) ((a + limit - b) % limit') v (nat_lt a b)) ≡ difference_codes size a b
  difference_has_codes v_is = rw (is, is', v_is) (ap codes_of (difference_without_borrow (bytes_of size) a b))
