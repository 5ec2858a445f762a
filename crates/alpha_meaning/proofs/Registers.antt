-- Registers that are given a value.
use Rattle.std.proofs.Common.{◌≡◌, ℕ, refl, true, false, eqb, cond, eq-eqb}
use Rattle.alpha_meaning.specs.State.{Regs, put}

pub eqb_self : (n : ℕ) → eqb n n ≡ true
eqb_self n = eq-eqb n n refl

pub put_same : (f : Regs) (n v : ℕ) → eqb n 31 ≡ false → put f n v n ≡ v
put_same f n v e = rw (e, eqb_self n) refl

pub put_other : (f : Regs) (n v m : ℕ) → eqb m n ≡ false → put f n v m ≡ f m
put_other f n v m e = elim (eqb n 31) as (λ b. cond b (f m) (cond (eqb m n) v (f m)) ≡ f m) [ true ↦ refl | false ↦ rw e refl ]
