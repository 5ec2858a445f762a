-- The three words of an exit, by what each of them is.
use Rattle.std.proofs.Common.{◌≡◌, ℕ, zero, suc, ◌-◌, ◌^◌, refl, subst, arith, [], ◌∷◌, length, Bool, true, false, Option, Some, None, lit<, lit≤}
use Rattle.std.specs.Prelude.{slice_get, pos, negsuc, ◌<ℤ◌, ◌≤ℤ◌}
use Rattle.std.proofs.lemmas.Int.{ints}
use Rattle.std.proofs.lemmas.Bool.Decides.{nat_tests}
use Rattle.alpha_encode.proofs.SignedHalves.{half_fits}
use Rattle.alpha_encode.specs.Words.{IsEncodable}
use Rattle.alpha_encode.specs.declared.instr.AlphaInstr.{AlphaInstr}
use Rattle.block_law.specs.Blocks.{is_quiet, exit_words}
use Rattle.branch_layout.specs.Exits.{displacement, is_near, code_to, exit_code}

pub near_low : (word target : ℕ) → is_near word target ≡ true → negsuc (2 ^ 20 - 1) ≤ℤ displacement word target
near_low word target near = grind (arith, ints, nat_tests)

pub near_high : (word target : ℕ) → is_near word target ≡ true → displacement word target <ℤ pos (2 ^ 20)
near_high word target near = grind (arith, ints, nat_tests)

pub exit_length : (o : Option ℕ) (word address : ℕ) → length (exit_code o word address) ≡ exit_words
exit_length None word address = refl
exit_length (Some target) word address = by (is_near word target)
  where
    by : (near : Bool) → length (code_to near word target) ≡ exit_words
    by true = refl
    by false = refl

-- what holds of each of three words
each : (P : AlphaInstr → Type 0) (a b c : AlphaInstr) → P a → P b → P c → (j : ℕ) (i : AlphaInstr) → slice_get (a ∷ b ∷ c ∷ []) j ≡ Some i → P i
each P a b c pa pb pc zero i e = let same : a ≡ i = cc in subst P same pa
each P a b c pa pb pc (suc zero) i e = let same : b ≡ i = cc in subst P same pb
each P a b c pa pb pc (suc (suc zero)) i e = let same : c ≡ i = cc in subst P same pc
each P a b c pa pb pc (suc (suc (suc j))) i e = cc

pub exit_quiet : (o : Option ℕ) (word address j : ℕ) (i : AlphaInstr) → slice_get (exit_code o word address) j ≡ Some i → is_quiet i ≡ true
exit_quiet None word address j i e = each (λ i. is_quiet i ≡ true) _ _ _ refl refl refl j i e
exit_quiet (Some target) word address j i e = by (is_near word target) e
  where
    by : (near : Bool) → slice_get (code_to near word target) j ≡ Some i → is_quiet i ≡ true
    by true e = each (λ i. is_quiet i ≡ true) _ _ _ refl refl refl j i e
    by false e = each (λ i. is_quiet i ≡ true) _ _ _ refl refl refl j i e

pub exit_encodable : (o : Option ℕ) (word address j : ℕ) (i : AlphaInstr) → slice_get (exit_code o word address) j ≡ Some i → IsEncodable i
exit_encodable None word address j i e =
    each IsEncodable _ _ _ (lit< tt, lit< tt, half_fits _ (omega arith)) (lit< tt, lit< tt, half_fits _ (omega arith)) (lit≤ tt, lit≤ tt) j i e
exit_encodable (Some target) word address j i e = by (is_near word target) refl e
  where
    by : (near : Bool) → is_near word target ≡ near → slice_get (code_to near word target) j ≡ Some i → IsEncodable i
    by true near e =
        each IsEncodable _ _ _ (lit< tt, near_low word target near, near_high word target near) (lit< tt, lit< tt, lit< tt) (lit< tt, lit< tt, lit< tt) j i e
    by false near e =
        each IsEncodable _ _ _ (lit< tt, lit< tt, half_fits _ (omega arith)) (lit< tt, lit< tt, half_fits _ (omega arith)) (lit< tt, lit< tt) j i e
