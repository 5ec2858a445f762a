-- What changes of a state leave alike: registers, the PC, and condition codes.
use Rattle.std.proofs.Common.{◌≡◌, ℕ, ◌+◌, ◌*◌, ◌/◌, ◌%◌, ◌≤◌, ◌<◌, Bool, true, false, List, refl, sym, ap, ◌∙◌, arith}
use Rattle.std.specs.Prelude.{◌==◌, ◌&&◌, slice_index, slice_set, if◌then◌else◌}
use Rattle.vt_words.proofs.Tests.{bit_tells, bit_most}
use Rattle.vt_words.specs.Values.{bit}
use Rattle.vax_form.specs.State.{with_core, with_pc, with_handler, with_pending, register}
use Rattle.vax_form.specs.Script.{change}
use Rattle.vax_form.specs.declared.pages.Pages.{Pages}
use Rattle.vax_form.specs.declared.script.End.TheVariants.{Done, Traps}
use Rattle.vax_form.specs.declared.state.Flags.{Flags}
use Rattle.vax_form.specs.declared.state.Pending.{Pending}
use Rattle.vax_form.specs.declared.state.VaxState.{VaxState}
use Rattle.vax_meaning.specs.Codes.{with_codes, carry_of, overflow_of, zero_of, negative_of, trap_enabled, go_to, finish}
use Rattle.vax_meaning.specs.Operands.{get_register, set_register}
use Rattle.vax_form.specs.Codes.{Code, holds, codes, all, all_but_carry}
use Rattle.vax_form.specs.Codes as code
use Rattle.cc_liveness.proofs.Lives.{holds_all}
use Rattle.block_law.specs.CodeWords.{codes_in}
use Rattle.image_meaning.proofs.Alike.{Case, Stand, Uses, use_pure, use_then, use_get, follow_change}

-- ---- registers, the PC and the rest
pub stand_core : {c : Case} {k : Flags} {g : Bool} (h : List ℕ → List ℕ) (s t : VaxState) → Stand c k g s t → Stand c k g (with_core s (h s.r) s.pc s.psw) (with_core t (h t.r) t.pc t.psw)
stand_core h s t stand = record {
  same = record { registers = ap h stand.same.registers; pc = stand.same.pc; upper = stand.same.upper; handler = stand.same.handler; pending = stand.same.pending };
  common = stand.common;
  first = stand.first;
  second = stand.second;
  on = stand.on;
}

pub use_registers : {pages : Pages} {c : Case} {k : Flags} {g : Bool} (h : List ℕ → List ℕ) → Uses pages c k g k g (change (λ state. with_core state (h state.r) state.pc state.psw))
use_registers h = follow_change (stand_core h)

pub same_register : {c : Case} {k : Flags} {g : Bool} (n : ℕ) (s t : VaxState) → Stand c k g s t → register n s ≡ register n t
same_register n s t stand = ap (λ r. slice_index r n) stand.same.registers

pub use_get_register : {pages : Pages} {c : Case} {k : Flags} {g : Bool} (n : ℕ) → Uses pages c k g k g (get_register n)
use_get_register n = use_get (same_register n)

pub use_set_register : {pages : Pages} {c : Case} {k : Flags} {g : Bool} (n value : ℕ) → Uses pages c k g k g (set_register n value)
use_set_register n value = use_registers (λ r. slice_set r n value)

stand_pc : {c : Case} {k : Flags} {g : Bool} (pc : ℕ) (s t : VaxState) → (c.used.ends ≡ false → pc ≡ c.after) → Stand c k g s t → Stand c k true (with_pc pc s) (with_pc pc t)
stand_pc pc s t there stand = record {
  same = record { registers = stand.same.registers; pc = refl; upper = stand.same.upper; handler = stand.same.handler; pending = stand.same.pending };
  common = stand.common;
  first = stand.first;
  second = stand.second;
  on = λ gone. there;
}

pub use_pc : {pages : Pages} {c : Case} {k : Flags} {g : Bool} (pc : ℕ) → (c.used.ends ≡ false → pc ≡ c.after) → Uses pages c k g k true (change (with_pc pc))
use_pc pc there = follow_change (λ s t stand. stand_pc pc s t there stand)

pub use_go_to : {pages : Pages} {c : Case} {k : Flags} {g : Bool} (pc : ℕ) → (c.used.ends ≡ false → pc ≡ c.after) → Uses pages c k g k true (go_to pc)
use_go_to pc there = use_then (use_pc pc there) use_pure

pub use_handler : {pages : Pages} {c : Case} {k : Flags} {g : Bool} (handler : ℕ) → Uses pages c k g k g (change (with_handler handler))
use_handler handler = follow_change (λ s t stand. record {
  same = record { registers = stand.same.registers; pc = stand.same.pc; upper = stand.same.upper; handler = refl; pending = stand.same.pending };
  common = stand.common;
  first = stand.first;
  second = stand.second;
  on = stand.on;
})

pub use_pending : {pages : Pages} {c : Case} {k : Flags} {g : Bool} (pending : Pending) → Uses pages c k g k g (change (with_pending pending))
use_pending pending = follow_change (λ s t stand. record {
  same = record { registers = stand.same.registers; pc = stand.same.pc; upper = stand.same.upper; handler = stand.same.handler; pending = refl };
  common = stand.common;
  first = stand.first;
  second = stand.second;
  on = stand.on;
})

-- ---- the codes of a state
by_one : (psw : ℕ) → psw / 1 % 2 ≡ psw % 2
by_one psw = omega arith

pub carry_in : (s : VaxState) → holds code.carry (codes_in s.psw) ≡ carry_of s
carry_in s = ap (λ n. n == 1) (by_one s.psw)

pub same_carry : {c : Case} {k : Flags} {g : Bool} (s t : VaxState) → holds code.carry k ≡ true → Stand c k g s t → carry_of s ≡ carry_of t
same_carry s t e stand = sym (carry_in s) ∙ (stand.common code.carry e ∙ carry_in t)

pub same_overflow : {c : Case} {k : Flags} {g : Bool} (s t : VaxState) → holds code.overflow k ≡ true → Stand c k g s t → overflow_of s ≡ overflow_of t
same_overflow s t e stand = stand.common code.overflow e

pub same_zero : {c : Case} {k : Flags} {g : Bool} (s t : VaxState) → holds code.zero_code k ≡ true → Stand c k g s t → zero_of s ≡ zero_of t
same_zero s t e stand = stand.common code.zero_code e

pub same_negative : {c : Case} {k : Flags} {g : Bool} (s t : VaxState) → holds code.negative k ≡ true → Stand c k g s t → negative_of s ≡ negative_of t
same_negative s t e stand = stand.common code.negative e

same_trap_enabled : {c : Case} {k : Flags} {g : Bool} (s t : VaxState) → Stand c k g s t → trap_enabled s ≡ trap_enabled t
same_trap_enabled s t stand = ap (λ n. n == 1) (above s.psw ∙ (ap (λ n. n / 2 % 2) stand.same.upper ∙ sym (above t.psw)))
  where
    above : (psw : ℕ) → psw / 32 % 2 ≡ psw / 16 / 2 % 2
    above psw = omega arith

pub use_finish : {pages : Pages} {c : Case} {k : Flags} {g : Bool} (pc : ℕ) → holds code.overflow k ≡ true → (c.used.ends ≡ false → pc ≡ c.after) → Uses pages c k g k true (finish pc)
unfolding finish
use_finish pc e there =
    use_then (use_pc pc there)
    (use_get (λ s t stand.
    ap (λ b. if b && trap_enabled s then Traps 1 else Done) (same_overflow s t e stand)
    ∙ ap (λ b. if overflow_of t && b then Traps 1 else Done) (same_trap_enabled s t stand)))

-- an instruction that ends a run goes on anywhere
pub anywhere : (c : Case) {pc : ℕ} → c.used.ends ≡ true → c.used.ends ≡ false → pc ≡ c.after
anywhere c e f = absurd (cc (e, f))

-- ---- codes that are written
abbrev pub packed : (n z v c : Bool) → ℕ
packed n z v c = bit n * 8 + bit z * 4 + bit v * 2 + bit c

packed_less : (n z v c : Bool) → packed n z v c < 16
packed_less n z v c = let a = bit_most n in let b = bit_most z in let d = bit_most v in let e = bit_most c in omega arith

codes_packed : (u : ℕ) (n z v c : Bool) (which : Code) → holds which (codes_in (u * 16 + packed n z v c)) ≡ holds which (codes n z v c)
codes_packed u n z v c code.negative = ap (λ x. x == 1) (by (bit n) (bit z) (bit v) (bit c) (bit_most n) (bit_most z) (bit_most v) (bit_most c)) ∙ bit_tells n
  where
    by : (a b d e : ℕ) → a ≤ 1 → b ≤ 1 → d ≤ 1 → e ≤ 1 → (u * 16 + (a * 8 + b * 4 + d * 2 + e)) / 8 % 2 ≡ a
    by a b d e p q r s = omega arith
codes_packed u n z v c code.zero_code = ap (λ x. x == 1) (by (bit n) (bit z) (bit v) (bit c) (bit_most n) (bit_most z) (bit_most v) (bit_most c)) ∙ bit_tells z
  where
    by : (a b d e : ℕ) → a ≤ 1 → b ≤ 1 → d ≤ 1 → e ≤ 1 → (u * 16 + (a * 8 + b * 4 + d * 2 + e)) / 4 % 2 ≡ b
    by a b d e p q r s = omega arith
codes_packed u n z v c code.overflow = ap (λ x. x == 1) (by (bit n) (bit z) (bit v) (bit c) (bit_most n) (bit_most z) (bit_most v) (bit_most c)) ∙ bit_tells v
  where
    by : (a b d e : ℕ) → a ≤ 1 → b ≤ 1 → d ≤ 1 → e ≤ 1 → (u * 16 + (a * 8 + b * 4 + d * 2 + e)) / 2 % 2 ≡ d
    by a b d e p q r s = omega arith
codes_packed u n z v c code.carry = ap (λ x. x == 1) (by (bit n) (bit z) (bit v) (bit c) (bit_most n) (bit_most z) (bit_most v) (bit_most c)) ∙ bit_tells c
  where
    by : (a b d e : ℕ) → a ≤ 1 → b ≤ 1 → d ≤ 1 → e ≤ 1 → (u * 16 + (a * 8 + b * 4 + d * 2 + e)) / 1 % 2 ≡ e
    by a b d e p q r s = omega arith

upper_packed : (u x : ℕ) → x < 16 → (u * 16 + x) / 16 ≡ u
upper_packed u x lt = omega arith

-- what is written is the same, and the others are as they were
pub stand_codes : {c : Case} {k : Flags} {g : Bool} (n z v d n' z' v' d' : Bool) (s t : VaxState)
    → ((which : Code) → holds which c.used.writes ≡ true → holds which (codes n z v d) ≡ holds which (codes n' z' v' d'))
    → ((which : Code) → holds which c.used.writes ≡ false → holds which (codes n z v d) ≡ holds which (codes_in c.one.psw))
    → ((which : Code) → holds which c.used.writes ≡ false → holds which (codes n' z' v' d') ≡ holds which (codes_in c.other.psw))
    → Stand c k g s t → Stand c c.used.writes g (with_codes n z v d s) (with_codes n' z' v' d' t)
stand_codes n z v d n' z' v' d' s t alike one other stand = record {
  same = record {
    registers = stand.same.registers;
    pc = stand.same.pc;
    upper = upper_packed (s.psw / 16) (packed n z v d) (packed_less n z v d) ∙ (stand.same.upper ∙ sym (upper_packed (t.psw / 16) (packed n' z' v' d') (packed_less n' z' v' d')));
    handler = stand.same.handler;
    pending = stand.same.pending;
  };
  common = λ which e. codes_packed (s.psw / 16) n z v d which ∙ (alike which e ∙ sym (codes_packed (t.psw / 16) n' z' v' d' which));
  first = λ which e. codes_packed (s.psw / 16) n z v d which ∙ one which e;
  second = λ which e. codes_packed (t.psw / 16) n' z' v' d' which ∙ other which e;
  on = stand.on;
}

pub none_out : {P : Type 0} (writes : Flags) (which : Code) → writes ≡ all → holds which writes ≡ false → P
none_out writes which e h = let is = holds_all which in absurd (cc (ap (holds which) e, is, h))

-- all four codes
pub use_all : {pages : Pages} {c : Case} {k : Flags} {g : Bool} (n z v d : Bool) → c.used.writes ≡ all → Uses pages c k g c.used.writes g (change (with_codes n z v d))
use_all {c = c} n z v d e =
    follow_change (λ s t. stand_codes n z v d n z v d s t (λ which _. refl) (λ which h. none_out c.used.writes which e h) (λ which h. none_out c.used.writes which e h))

-- N, Z and V; C stays
three_alike : (writes : Flags) (n z v d d' : Bool) (which : Code) → writes ≡ all_but_carry → holds which writes ≡ true → holds which (codes n z v d) ≡ holds which (codes n z v d')
three_alike writes n z v d d' code.negative e h = refl
three_alike writes n z v d d' code.zero_code e h = refl
three_alike writes n z v d d' code.overflow e h = refl
three_alike writes n z v d d' code.carry e h = absurd (cc (ap (holds code.carry) e, h))

carry_kept : (writes : Flags) (n z v d : Bool) (psw : ℕ) (which : Code) → writes ≡ all_but_carry → d ≡ holds code.carry (codes_in psw) → holds which writes ≡ false
    → holds which (codes n z v d) ≡ holds which (codes_in psw)
carry_kept writes n z v d psw code.negative e is h = absurd (cc (ap (holds code.negative) e, h))
carry_kept writes n z v d psw code.zero_code e is h = absurd (cc (ap (holds code.zero_code) e, h))
carry_kept writes n z v d psw code.overflow e is h = absurd (cc (ap (holds code.overflow) e, h))
carry_kept writes n z v d psw code.carry e is h = is

pub carry_first : {c : Case} {k : Flags} {g : Bool} (s t : VaxState) → c.used.writes ≡ all_but_carry → Stand c k g s t → carry_of s ≡ holds code.carry (codes_in c.one.psw)
carry_first s t e stand = sym (carry_in s) ∙ stand.first code.carry (ap (holds code.carry) e)

pub carry_second : {c : Case} {k : Flags} {g : Bool} (s t : VaxState) → c.used.writes ≡ all_but_carry → Stand c k g s t → carry_of t ≡ holds code.carry (codes_in c.other.psw)
carry_second s t e stand = sym (carry_in t) ∙ stand.second code.carry (ap (holds code.carry) e)

-- C as it was given before, which is that of the states that the instruction starts from
pub stand_three : {c : Case} {k : Flags} {g : Bool} (n z v d d' : Bool) (s t : VaxState) → c.used.writes ≡ all_but_carry
    → d ≡ holds code.carry (codes_in c.one.psw) → d' ≡ holds code.carry (codes_in c.other.psw)
    → Stand c k g s t → Stand c c.used.writes g (with_codes n z v d s) (with_codes n z v d' t)
stand_three {c = c} n z v d d' s t e is is' =
    stand_codes n z v d n z v d' s t (λ which. three_alike c.used.writes n z v d d' which e)
    (λ which. carry_kept c.used.writes n z v d c.one.psw which e is) (λ which. carry_kept c.used.writes n z v d' c.other.psw which e is')

pub use_three : {pages : Pages} {c : Case} {k : Flags} {g : Bool} (n z v : Bool) → c.used.writes ≡ all_but_carry → Uses pages c k g c.used.writes g (change (λ state. with_codes n z v (carry_of state) state))
use_three n z v e =
    follow_change (λ s t stand. stand_three n z v (carry_of s) (carry_of t) s t e (carry_first s t e stand) (carry_second s t e stand) stand)
