-- The registers one by one.
use Rattle.std.proofs.Common.{◌≡◌, ℕ, zero, suc, ◌+◌, ◌*◌, ◌/◌, ◌%◌, ◌<◌, ◌==◌, if◌then◌else◌, List, length, refl, sym, ap, ◌∙◌, arith}
use Rattle.std.specs.Prelude.{nat_lt, slice_index, slice_set, replicate}
use Rattle.std.proofs.lemmas.Bool.Decides.{nat_tests}
use Rattle.std.proofs.lemmas.Grind.{elements}
use Rattle.std.proofs.Math.ListN.{length-set}
use Rattle.alpha_meaning.specs.State.{regs_of}
use Rattle.vax_form.specs.declared.state.VaxState.{VaxState}
use Rattle.vt_words.specs.Quad.{sign_extended}
use Rattle.system_model.specs.Processors.{registers_of}
use Rattle.tie_switch.proofs.registers.registers_of.Goals as goal

zeros : (n k : ℕ) → slice_index (replicate n 0) k ≡ 0
zeros zero k = refl
zeros (suc n) zero = refl
zeros (suc n) (suc k) = zeros n k

begun : (k x : ℕ) → slice_index (replicate 32 0) k ≡ (if nat_lt k 0 then x else 0)
begun k x = zeros 32 k ∙ none
  where
    none : 0 ≡ (if nat_lt k 0 then x else 0)
    none = grind (arith, nat_tests)

read : (r : List ℕ) (i v k : ℕ) → i < length r → slice_index (slice_set r i v) k ≡ (if k == i then v else slice_index r k)
read r i v k h = grind (arith, elements, nat_tests)

further : (k n v x y : ℕ) → (k ≡ n → v ≡ x) → y ≡ (if nat_lt k n then x else 0) → (if k == n then v else y) ≡ (if nat_lt k (n + 1) then x else 0)
further k n v x y h e = grind (arith, nat_tests)

-- the order of tests
sorted : (k s y n z v c w : ℕ) → y ≡ (if nat_lt k 15 then s else 0)
    → (if k == 31 then 0 else if k == 20 then w else if k == 19 then c else if k == 18 then v else if k == 17 then z else if k == 16 then n else y)
    ≡ (if nat_lt k 15 then s else if k == 16 then n else if k == 17 then z else if k == 18 then v else if k == 19 then c else if k == 20 then w else 0)
sorted k s y n z v c w e = grind (arith, nat_tests)

pub loop-n-init : goal.loop-n-init
loop-n-init c = record { count = refl; values = λ k. begun k (sign_extended (slice_index c.args.state.now.r k) 32) }

pub loop-n-preserved : goal.loop-n-preserved
loop-n-preserved c = record {
  count = length-set c.loop-n.r c.loop-n.n c.sign_extend.result ∙ c.loop-n.invariant.count;
  values = λ k.
      read c.loop-n.r c.loop-n.n c.sign_extend.result k (omega (arith, c.loop-n.invariant.count))
      ∙ further k c.loop-n.n c.sign_extend.result (sign_extended (slice_index c.args.state.now.r k) 32) (slice_index c.loop-n.r k)
      (λ e. c.sign_extend.ensures ∙ ap (λ x. sign_extended x 32) (c.from.ensures ∙ ap (slice_index c.args.state.now.r) (sym e)))
      (c.loop-n.invariant.values k);
}

sets : (r : List ℕ) (n z v c w : ℕ) → length r ≡ 32 → (k : ℕ) → slice_index (slice_set (slice_set (slice_set (slice_set (slice_set r 16 n) 17 z) 18 v) 19 c) 20 w) k
    ≡ (if k == 20 then w else if k == 19 then c else if k == 18 then v else if k == 17 then z else if k == 16 then n else slice_index r k)
sets r n z v c w h k =
    read (slice_set (slice_set (slice_set (slice_set r 16 n) 17 z) 18 v) 19 c) 20 w k (omega (arith, h, length-set {A = ℕ}))
    ∙ ap (λ x. if k == 20 then w else x) (read (slice_set (slice_set (slice_set r 16 n) 17 z) 18 v) 19 c k (omega (arith, h, length-set {A = ℕ}))
    ∙ ap (λ x. if k == 19 then c else x) (read (slice_set (slice_set r 16 n) 17 z) 18 v k (omega (arith, h, length-set {A = ℕ}))
    ∙ ap (λ x. if k == 18 then v else x) (read (slice_set r 16 n) 17 z k (omega (arith, h, length-set {A = ℕ}))
    ∙ ap (λ x. if k == 17 then z else x) (read r 16 n k (omega (arith, h))))))

shows : (r : List ℕ) (state : VaxState) (psw : ℕ) → psw ≡ state.psw → length r ≡ 32 → ((k : ℕ) → slice_index r k ≡ (if nat_lt k 15 then sign_extended (slice_index state.r k) 32 else 0)) → (k : ℕ)
    → regs_of (slice_set (slice_set (slice_set (slice_set (slice_set r 16 (psw / 8 % 2)) 17 (psw / 4 % 2)) 18 (psw / 2 % 2)) 19 (psw % 2)) 20 (psw / 16 % 16 * 16)) k ≡ registers_of state k
unfolding regs_of registers_of
shows r state psw same count values k =
    ap (λ x. if k == 31 then 0 else x) (sets r (psw / 8 % 2) (psw / 4 % 2) (psw / 2 % 2) (psw % 2) (psw / 16 % 16 * 16) count k)
    ∙ sorted k (sign_extended (slice_index state.r k) 32) (slice_index r k) (psw / 8 % 2) (psw / 4 % 2) (psw / 2 % 2) (psw % 2) (psw / 16 % 16 * 16) (values k)
    ∙ ap (λ p. if nat_lt k 15 then sign_extended (slice_index state.r k) 32 else if k == 16 then p / 8 % 2 else if k == 17 then p / 4 % 2 else if k == 18 then p / 2 % 2 else if k == 19 then p % 2 else if k == 20 then p / 16 % 16 * 16 else 0) same

pub returns : goal.returns
returns c =
    let all : c.loop-n.n ≡ 15 = omega arith in
    let values : (k : ℕ) → slice_index c.loop-n.r k ≡ (if nat_lt k 15 then sign_extended (slice_index c.args.state.now.r k) 32 else 0) =
    λ k. c.loop-n.invariant.values k ∙ ap (λ n. if nat_lt k n then sign_extended (slice_index c.args.state.now.r k) 32 else 0) all in
    λ i k. shows c.loop-n.r c.args.state.now c.from-psw.result c.from-psw.ensures c.loop-n.invariant.count values k i
