-- What the registers show where others of them change, and where one is written.
use Rattle.std.proofs.Common.{◌≡◌, ℕ, zero, suc, ◌%◌, ◌^◌, ◌<◌, refl, ◌∙◌, arith, List, [], ◌∷◌, Option, Some, None, Bool, true, false}
use Rattle.std.specs.Prelude.{ℤ, ◌==◌, if◌then◌else◌, slice_set}
use Rattle.std.proofs.lemmas.Bool.{and_parts, or_parts}
use Rattle.std.proofs.lemmas.Bool.Decides.{nat_tests}
use Rattle.vax_form.specs.declared.state.Flags.{Flags}
use Rattle.std.specs.List.{list_all}
use Rattle.alpha_encode.specs.declared.instr.MemoryOp.{MemoryOp}
use Rattle.alpha_encode.specs.declared.instr.AlphaInstr.{AlphaInstr}
use Rattle.alpha_encode.specs.declared.instr.AlphaInstr.TheVariants.{Memory, Branch, Operate, Jump, Pal}
use Rattle.alpha_meaning.specs.declared.access.AlphaKind.{AlphaKind}
use Rattle.alpha_meaning.specs.declared.access.AlphaKind.TheVariants.{Load, LoadLocked, Store, StoreConditional}
use Rattle.alpha_meaning.specs.State.{Alpha, Regs, put}
use Rattle.alpha_meaning.specs.Act.{links, link_of, memory_act_by, memory_finish_by}
use Rattle.alpha_meaning.specs.Memory.{kind_of}
use Rattle.alpha_meaning.specs.Loops.{is_operate, effect, effects}
use Rattle.exception_records.specs.Shown.{registers_shown, psw_shown}
use Rattle.exception_records.specs.declared.rules.Rules.{Rules}
use Rattle.block_law.specs.Placements.{Placement, InForm, state_shown}
use Rattle.block_law.specs.Tidy.{is_kept, memory_writes, register_written, writes_register}
use Rattle.block_law.specs.Laws.{StaysBy, UnwrittenStay, SameStatus}

-- what a boundary shows stands in the registers below R21
pub kept_below : (n : ℕ) → n < 21 → is_kept n ≡ true
kept_below n lt = grind (arith, nat_tests)

-- ---- other registers change
module _ (old new : Regs) (same : (n : ℕ) → is_kept n ≡ true → new n ≡ old n) where
  pub registers_kept : registers_shown new ≡ registers_shown old
  registers_kept =
      rw (same 0 refl, same 1 refl, same 2 refl, same 3 refl, same 4 refl, same 5 refl, same 6 refl, same 7 refl, same 8 refl, same 9 refl, same 10 refl, same 11 refl, same 12 refl, same 13 refl, same 14 refl) refl

  pub psw_kept : (rules : Rules) (held : Flags) → psw_shown new rules held ≡ psw_shown old rules held
  psw_kept rules held = rw (same 15 refl, same 16 refl, same 17 refl, same 18 refl, same 19 refl, same 20 refl, same 28 refl, same 29 refl, same 30 refl) refl

  pub form_kept : new 31 ≡ old 31 → InForm old → InForm new
  form_kept zero_kept form = record {
    longwords = λ n lt. rw (same n (kept_below n (omega arith))) (form.longwords n lt);
    codes = λ n low high. rw (same n (kept_below n (omega arith))) (form.codes n low high);
    status = rw (same 20 refl) form.status;
    status_only = rw (same 20 refl) form.status_only;
    zero = zero_kept ∙ form.zero;
  }

  pub state_kept : (p : Placement) (pc : ℕ) (rules : Rules) (held : Flags) → state_shown p new pc rules held ≡ state_shown p old pc rules held
  state_kept p pc rules held = rw (registers_kept, psw_kept rules held) refl

-- ---- one of R0 to R14 is written
by_register : (P : ℕ → Type 0) → P 0 → P 1 → P 2 → P 3 → P 4 → P 5 → P 6 → P 7 → P 8 → P 9 → P 10 → P 11 → P 12 → P 13 → P 14 → (n : ℕ) → n < 15 → P n
by_register P p0 p1 p2 p3 p4 p5 p6 p7 p8 p9 p10 p11 p12 p13 p14 zero lt = p0
by_register P p0 p1 p2 p3 p4 p5 p6 p7 p8 p9 p10 p11 p12 p13 p14 (suc zero) lt = p1
by_register P p0 p1 p2 p3 p4 p5 p6 p7 p8 p9 p10 p11 p12 p13 p14 (suc (suc zero)) lt = p2
by_register P p0 p1 p2 p3 p4 p5 p6 p7 p8 p9 p10 p11 p12 p13 p14 (suc (suc (suc zero))) lt = p3
by_register P p0 p1 p2 p3 p4 p5 p6 p7 p8 p9 p10 p11 p12 p13 p14 (suc (suc (suc (suc zero)))) lt = p4
by_register P p0 p1 p2 p3 p4 p5 p6 p7 p8 p9 p10 p11 p12 p13 p14 (suc (suc (suc (suc (suc n))))) lt = from_5 n (omega arith)
  where
    from_10 : (n : ℕ) → n < 5 → P (suc (suc (suc (suc (suc (suc (suc (suc (suc (suc n))))))))))
    from_10 zero lt = p10
    from_10 (suc zero) lt = p11
    from_10 (suc (suc zero)) lt = p12
    from_10 (suc (suc (suc zero))) lt = p13
    from_10 (suc (suc (suc (suc zero)))) lt = p14
    from_10 (suc (suc (suc (suc (suc n))))) lt = absurd (omega arith)

    from_5 : (n : ℕ) → n < 10 → P (suc (suc (suc (suc (suc n)))))
    from_5 zero lt = p5
    from_5 (suc zero) lt = p6
    from_5 (suc (suc zero)) lt = p7
    from_5 (suc (suc (suc zero))) lt = p8
    from_5 (suc (suc (suc (suc zero)))) lt = p9
    from_5 (suc (suc (suc (suc (suc n))))) lt = from_10 n (omega arith)

-- R0 to R14 show the value there
pub registers_put : (regs : Regs) (n value : ℕ) → n < 15 → registers_shown (put regs n value) ≡ slice_set (registers_shown regs) n (value % 2 ^ 32)
registers_put regs n value lt =
    by_register (λ n. registers_shown (put regs n value) ≡ slice_set (registers_shown regs) n (value % 2 ^ 32)) refl refl refl refl refl refl refl refl refl refl refl refl refl refl refl n lt

pub psw_put : (regs : Regs) (n value : ℕ) (rules : Rules) (held : Flags) → n < 15 → psw_shown (put regs n value) rules held ≡ psw_shown regs rules held
psw_put regs n value rules held lt =
    by_register (λ n. psw_shown (put regs n value) rules held ≡ psw_shown regs rules held) refl refl refl refl refl refl refl refl refl refl refl refl refl refl refl n lt

-- ---- registers that no word writes
put_stays : (f : Regs) (register value n : ℕ) → (register == n) ≡ false → put f register value n ≡ f n
put_stays f register value n e = by (register == 31) (n == register) (turned register n e)
  where
    turned : (a b : ℕ) → (a == b) ≡ false → (b == a) ≡ false
    turned a b e = grind (arith, nat_tests)

    by : (zero same : Bool) → same ≡ false → (if zero then f n else (if same then value else f n)) ≡ f n
    by true same e = refl
    by false true e = absurd (cc e)
    by false false e = refl

link_stays : (links : Bool) (f : Regs) (ra link n : ℕ) → ((if links then ra else 31) == n) ≡ false → (if links then put f ra link else f) n ≡ f n
link_stays true f ra link n e = put_stays f ra link n e
link_stays false f ra link n e = refl

memory_stays : (kind : Option AlphaKind) (op : MemoryOp) (ra rb : ℕ) (disp : ℤ) (c : Alpha) (n : ℕ) → (memory_writes kind ra == n) ≡ false
    → StaysBy (memory_act_by kind op ra rb disp c) (λ value success. memory_finish_by kind op ra value success c) c n
memory_stays None op ra rb disp c n e = put_stays c.regs ra _ n e
memory_stays (Some Load) op ra rb disp c n e = λ value success. put_stays c.regs ra _ n e
memory_stays (Some LoadLocked) op ra rb disp c n e = λ value success. put_stays c.regs ra _ n e
memory_stays (Some Store) op ra rb disp c n e = λ value success. refl
memory_stays (Some StoreConditional) op ra rb disp c n e = λ value success. put_stays c.regs ra _ n e

pub unwritten_stay : UnwrittenStay
unwritten_stay (Memory op ra rb disp) c n e = memory_stays (kind_of op) op ra rb disp c n e
unwritten_stay (Branch op ra disp) c n e = link_stays (links op) c.regs ra (link_of c.pc) n e
unwritten_stay (Operate op ra rb rc) c n e = put_stays c.regs rc _ n e
unwritten_stay (Jump ra rb) c n e = put_stays c.regs ra _ n e
unwritten_stay (Pal number) c n e = tt

-- behind operate words in a row
pub effects_stay : (is : List AlphaInstr) (f : Regs) (n : ℕ) → list_all is_operate is ≡ true → writes_register n is ≡ false → effects is f n ≡ f n
effects_stay [] f n ok e = refl
effects_stay (i ∷ is) f n ok e =
    let parts = and_parts (is_operate i) (list_all is_operate is) ok in
    let rest = or_parts (register_written i == n) (writes_register n is) e in
    effects_stay is (effect i f) n parts.1 rest.1 ∙ effect_stays i parts.0 rest.0
  where
    effect_stays : (i : AlphaInstr) → is_operate i ≡ true → (register_written i == n) ≡ false → effect i f n ≡ f n
    effect_stays (Operate op ra rb rc) h e = put_stays f rc _ n e
    effect_stays (Memory op ra rb disp) h e = absurd (cc h)
    effect_stays (Branch op ra disp) h e = absurd (cc h)
    effect_stays (Jump ra rb) h e = absurd (cc h)
    effect_stays (Pal number) h e = absurd (cc h)

-- the processor status word shows the same where R15 to R20 and R28 to R30 stay
pub same_status : SameStatus
same_status old new rules held stay =
    rw (stay 15 refl, stay 16 refl, stay 17 refl, stay 18 refl, stay 19 refl, stay 20 refl, stay 28 refl, stay 29 refl, stay 30 refl) refl
