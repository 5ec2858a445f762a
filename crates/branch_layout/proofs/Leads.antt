-- The words of an exit lead to its address.
use Rattle.std.proofs.Common.{◌≡◌, ℕ, ◌+◌, ◌-◌, ◌*◌, ◌/◌, ◌%◌, ◌^◌, ◌<◌, ◌≤◌, refl, ap, arith, eqb, nat_lt, ltb-true, ltb-false, Bool, true, false, Some, None}
use Rattle.std.specs.Prelude.{if◌then◌else◌}
use Rattle.std.specs.Int.{cast_unsigned, cast_signed, w16, w64}
use Rattle.std.proofs.lemmas.Int.{ints}
use Rattle.std.proofs.lemmas.Bool.{ne_eqb}
use Rattle.std.proofs.lemmas.Bool.Decides.{nat_tests}
use Rattle.vax_form.specs.Tree.{Ends, Finish}
use Rattle.alpha_encode.specs.declared.instr.BranchOp.TheVariants.{Br}
use Rattle.alpha_encode.specs.declared.instr.MemoryOp.TheVariants.{Lda, Ldah}
use Rattle.alpha_encode.specs.declared.instr.AlphaInstr.TheVariants.{Branch, Jump}
use Rattle.alpha_meaning.specs.Act.{Goes, target_of}
use Rattle.alpha_meaning.specs.Memory.{address_of}
use Rattle.alpha_meaning.specs.Pieces.{HasAt}
use Rattle.alpha_meaning.specs.State.{Regs, put, at_place}
use Rattle.exception_records.specs.Codes.{all_ready}
use Rattle.exception_records.specs.declared.points.Point.{Point}
use Rattle.exception_records.specs.declared.rules.Rules.{Rules}
use Rattle.block_law.specs.Placements.{Placement, InForm, state_behind}
use Rattle.block_law.specs.Follows.{LeadsTo}
use Rattle.block_law.proofs.Rules.{goes, lands, switches}
use Rattle.alpha_encode.specs.Halves.{low_half, high_half, load_high, load_low}
use Rattle.branch_layout.specs.Exits.{displacement, code_to, exit_code}

-- ---- numbers
branch_target : (word target : ℕ) → word < 2 ^ 31 → target < 2 ^ 31 → target_of word (displacement word target) ≡ target
branch_target word target low low' = omega (arith, ints)

-- a half as a quadword
abbrev extended : (half : ℕ) → ℕ
extended half = if nat_lt half (2 ^ 15) then half else half + (2 ^ 64 - 2 ^ 16)

half_is : (half : ℕ) → half < 2 ^ 16 → cast_unsigned w64 (cast_signed w16 half) ≡ extended half
half_is half lt = grind (arith, ints, nat_tests)

-- what LDAH and LDA leave in the register
abbrev loaded : (base value : ℕ) → ℕ
loaded base value = address_of Lda (address_of Ldah base (high_half value)) (low_half value)

-- the sum of the halves
sum_of_halves : (b c : Bool) (value : ℕ) → nat_lt (value % 2 ^ 16) (2 ^ 15) ≡ b → nat_lt ((value + 2 ^ 15) / 2 ^ 16 % 2 ^ 16) (2 ^ 15) ≡ c → value < 2 ^ 32
    → let sum = ((0 + (if c then (value + 2 ^ 15) / 2 ^ 16 % 2 ^ 16 else (value + 2 ^ 15) / 2 ^ 16 % 2 ^ 16 + (2 ^ 64 - 2 ^ 16)) * 65536 % 2 ^ 64) % 2 ^ 64 + (if b then value % 2 ^ 16 else value % 2 ^ 16 + (2 ^ 64 - 2 ^ 16)) * 1 % 2 ^ 64) % 2 ^ 64 in
    (sum % 2 ^ 32 ≡ value) × (value < 2 ^ 30 → sum ≡ value)
sum_of_halves true true value e f lt = let lo = ltb-true (value % 2 ^ 16) (2 ^ 15) e in let hi = ltb-true ((value + 2 ^ 15) / 2 ^ 16 % 2 ^ 16) (2 ^ 15) f in (omega arith, λ small. omega arith)
sum_of_halves true false value e f lt = let lo = ltb-true (value % 2 ^ 16) (2 ^ 15) e in let hi = ltb-false ((value + 2 ^ 15) / 2 ^ 16 % 2 ^ 16) (2 ^ 15) f in (omega arith, λ small. omega arith)
sum_of_halves false true value e f lt = let lo = ltb-false (value % 2 ^ 16) (2 ^ 15) e in let hi = ltb-true ((value + 2 ^ 15) / 2 ^ 16 % 2 ^ 16) (2 ^ 15) f in (omega arith, λ small. omega arith)
sum_of_halves false false value e f lt = let lo = ltb-false (value % 2 ^ 16) (2 ^ 15) e in let hi = ltb-false ((value + 2 ^ 15) / 2 ^ 16 % 2 ^ 16) (2 ^ 15) f in (omega arith, λ small. omega arith)

loaded_is : (base value : ℕ) → base ≡ 0 → value < 2 ^ 32 → (loaded base value % 2 ^ 32 ≡ value) × (value < 2 ^ 30 → loaded base value ≡ value)
loaded_is base value zero_base lt =
    rw (zero_base, half_is (value % 2 ^ 16) (omega arith), half_is ((value + 2 ^ 15) / 2 ^ 16 % 2 ^ 16) (omega arith))
    (sum_of_halves (nat_lt (value % 2 ^ 16) (2 ^ 15)) (nat_lt ((value + 2 ^ 15) / 2 ^ 16 % 2 ^ 16) (2 ^ 15)) value refl refl lt)

-- ---- registers
-- R26 and R27 are shown at no boundary
put_in_form : (regs : Regs) (n value : ℕ) → 21 ≤ n → n < 31 → InForm regs → InForm (put regs n value)
put_in_form regs n value low high form =
    let ordinary : eqb n 31 ≡ false = ne_eqb n 31 (λ same. absurd (omega arith)) in
    record {
      longwords = λ m lt. let other : eqb m n ≡ false = ne_eqb m n (λ same. absurd (omega arith)) in rw (ordinary, other) (form.longwords m lt);
      codes = λ m ge lt. let other : eqb m n ≡ false = ne_eqb m n (λ same. absurd (omega arith)) in rw (ordinary, other) (form.codes m ge lt);
      status = let other : eqb 20 n ≡ false = ne_eqb 20 n (λ same. absurd (omega arith)) in rw (ordinary, other) form.status;
      status_only = let other : eqb 20 n ≡ false = ne_eqb 20 n (λ same. absurd (omega arith)) in rw (ordinary, other) form.status_only;
      zero = let other : eqb 31 n ≡ false = ne_eqb 31 n (λ same. absurd (omega arith)) in rw (ordinary, other) form.zero;
    }

-- ---- the three forms of an exit
module _ (p : Placement) (word address : ℕ) (rules : Rules) (low : p.first ≤ word) (high : word + 3 ≤ p.end) (alone : (k : ℕ) → word < k → k < word + 3 → p.stops k ≡ None) where
  module _ (target : ℕ) (point : Point) (word_small : word < 2 ^ 23) (target_small : target < 2 ^ 23) (stops : p.stops target ≡ Some address) (has : p.points target ≡ Some point) (same : point.rules ≡ rules) where
    pub near_leads : HasAt p.fetch word (code_to true word target) → LeadsTo p word address rules 3
    near_leads at n spare round regs room form =
        lands p None (at_place regs word) (at_place regs target) (Branch Br 31 (displacement word target)) (state_behind p regs address rules) address point
        (record { is = at.0; low = low; high = omega arith })
        (rw (branch_target word target (omega arith) (omega arith)) refl) stops has form (rw same refl) n spare round (omega arith)

    pub far_leads : HasAt p.fetch word (code_to false word target) → LeadsTo p word address rules 3
    far_leads at n spare round regs room form =
        let high_part = address_of Ldah (regs 31) (high_half (4 * target)) in
        let one = put regs 27 high_part in
        let both = put one 27 (loaded (regs 31) (4 * target)) in
        let is : loaded (regs 31) (4 * target) ≡ 4 * target = (loaded_is (regs 31) (4 * target) form.zero (omega arith)).1 (omega arith) in
        let jump : loaded (regs 31) (4 * target) / 4 % 2 ^ 32 ≡ target = omega arith in
        goes p None 2 (at_place regs word) (at_place one (word + 1)) (load_high 27 (4 * target)) (Ends (Finish (state_behind p regs address rules)))
        (record { is = at.0; low = low; high = omega arith }) refl (omega arith) (alone (word + 1) (omega arith) (omega arith))
        (goes p None 1 (at_place one (word + 1)) (at_place both (word + 1 + 1)) (load_low 27 (4 * target)) (Ends (Finish (state_behind p regs address rules)))
        (record { is = at.1.0; low = omega arith; high = omega arith }) refl (omega arith) (alone (word + 1 + 1) (omega arith) (omega arith))
        (lands p None (at_place both (word + 1 + 1)) (at_place both target) (Jump 31 27) (state_behind p regs address rules) address point
        (record { is = at.1.1.0; low = omega arith; high = omega arith })
        (ap (λ pc. Goes (at_place both pc)) jump) stops has
        (put_in_form one 27 (loaded (regs 31) (4 * target)) (omega arith) (omega arith) (put_in_form regs 27 high_part (omega arith) (omega arith) form)) (rw same refl)))
        n spare round room

  pub none_leads : rules ≡ all_ready → address < 2 ^ 32 → p.maps address ≡ None → HasAt p.fetch word (exit_code None word address) → LeadsTo p word address rules 3
  none_leads ready small unmapped at n spare round regs room form =
      let high_part = address_of Ldah (regs 31) (high_half address) in
      let one = put regs 26 high_part in
      let both = put one 26 (loaded (regs 31) address) in
      let is : loaded (regs 31) address % 2 ^ 32 ≡ address = (loaded_is (regs 31) address form.zero small).0 in
      goes p None 2 (at_place regs word) (at_place one (word + 1)) (load_high 26 address) (Ends (Finish (state_behind p regs address rules)))
      (record { is = at.0; low = low; high = omega arith }) refl (omega arith) (alone (word + 1) (omega arith) (omega arith))
      (goes p None 1 (at_place one (word + 1)) (at_place both (word + 1 + 1)) (load_low 26 address) (Ends (Finish (state_behind p regs address rules)))
      (record { is = at.1.0; low = omega arith; high = omega arith }) refl (omega arith) (alone (word + 1 + 1) (omega arith) (omega arith))
      (switches p None (state_behind p regs address rules) (at_place both (word + 1 + 1)) (record { is = at.1.1.0; low = omega arith; high = omega arith })
      (put_in_form one 26 (loaded (regs 31) address) (omega arith) (omega arith) (put_in_form regs 26 high_part (omega arith) (omega arith) form)) (rw (ready, is) refl) (rw is unmapped)))
      n spare round room
