-- What the word at which a processor stands does, by what the processor's step answers.
use Rattle.std.proofs.Common.{◌≡◌, ◌≢◌, ℕ, ◌+◌, ◌*◌, ◌%◌, ◌^◌, ◌<◌, ◌≤◌, ℤ, Bool, true, false, if◌then◌else◌, List, length, Option, Some, None, refl, sym, ap, ◌∙◌, subst, arith, lit<}
use Rattle.std.proofs.Math.Nat.{mod-eq_of_lt, mod-lt}
use Rattle.std.proofs.lemmas.Nat.{pow_pos}
use Rattle.std.proofs.lemmas.Bool.{ltb-true}
use Rattle.std.specs.Prelude.{nat_lt, slice_index, IsSome, IfSome}
use Rattle.alpha_encode.specs.Words.{instr_at}
use Rattle.alpha_encode.specs.declared.instr.AlphaInstr.{AlphaInstr}
use Rattle.alpha_encode.specs.declared.instr.AlphaInstr.TheVariants.{Memory, Branch, Operate, Jump, Pal}
use Rattle.alpha_encode.specs.declared.instr.MemoryOp.{MemoryOp}
use Rattle.alpha_machine.specs.Step.{IsStep, state_of, wrapped, current}
use Rattle.alpha_machine.specs.declared.cpu.AlphaStep.{AlphaStep}
use Rattle.alpha_machine.specs.declared.cpu.Cpu.{Cpu}
use Rattle.alpha_meaning.specs.Act.{Does, Goes, Asks, Calls, act, taken, target_of, finished, memory_act_by, memory_finish_by}
use Rattle.alpha_meaning.specs.Memory.{kind_of, bytes_of, access_of, stores}
use Rattle.alpha_meaning.proofs.Rows.{bytes_count}
use Rattle.alpha_meaning.specs.Pieces.{loaded, most_words}
use Rattle.alpha_meaning.specs.State.{Alpha, at_place}
use Rattle.alpha_meaning.specs.declared.access.AlphaAccess.{AlphaAccess}
use Rattle.alpha_meaning.specs.declared.access.AlphaKind.{AlphaKind}
use Rattle.alpha_meaning.specs.declared.access.AlphaKind.TheVariants.{Load, LoadLocked, Store, StoreConditional}
use Rattle.block_law.specs.Translations.{fetch_of}
use Rattle.system_model.specs.Settings.{Setting}
use Rattle.system_model.specs.Steps.{Moves, Wants, Stuck, Moment, place_of, is_defined, request_for, accesses, does, next_by, next}
use Rattle.tie_switch.specs.Accesses.{IsAccess, IsFetched, IsNextBy}
use Rattle.tie_switch.specs.Seen.{finished_by}

-- ---- the word
decodes : (setting : Setting) (m : Moment) (c : Alpha) (o : Option AlphaInstr) → next_by setting m o c ≢ Stuck → IsSome o
decodes setting m c None h = absurd (h refl)
decodes setting m c (Some i) h = refl

fetched_by : (setting : Setting) (m : Moment) (c : Alpha) (words : List ℕ) (b : Bool) → nat_lt c.pc (length words) ≡ b
    → next_by setting m (if b then instr_at (slice_index words c.pc) else None) c ≢ Stuck → IsFetched words c.pc
fetched_by setting m c words true e h = record { within = ltb-true c.pc (length words) e; decodes = decodes setting m c (instr_at (slice_index words c.pc)) h }
fetched_by setting m c words false e h = absurd (h refl)

pub fetched : (setting : Setting) (m : Moment) (c : Alpha) → next setting m c ≢ Stuck → IsFetched setting.code.words c.pc
unfolding next
fetched setting m c h = fetched_by setting m c setting.code.words (nat_lt c.pc (length setting.code.words)) refl h

pub in_code : (words : List ℕ) (pc : ℕ) → pc < length words → (b : Bool) → nat_lt pc (length words) ≡ b → (if b then instr_at (slice_index words pc) else None) ≡ instr_at (slice_index words pc)
in_code words pc h true e = refl
in_code words pc h false e = grind (arith, ltb-true)

-- ---- its number and its access
abbrev IsSmall : Does → Type 0
IsSmall (Goes s) = s.pc < 2 ^ 32
IsSmall (Asks a) = IsAccess a
IsSmall (Calls n) = Unit {0}

branched : (b : Bool) (pc target : ℕ) → pc + 1 < 2 ^ 32 → target < 2 ^ 32 → (if b then target else pc + 1) < 2 ^ 32
branched true pc target h k = k
branched false pc target h k = h

valued : (b : Bool) (register n : ℕ) → 0 < n → (if b then register % n else 0) < n
valued true register n h = mod-lt register h
valued false register n h = h

pub access_small : (op : MemoryOp) (kind : AlphaKind) (address register : ℕ) → IsAccess (access_of op kind address register)
access_small op kind address register = record { bytes = bytes_count op; value = valued (stores kind) register (2 ^ (8 * bytes_of op)) (pow_pos (8 * bytes_of op)) }

memory_small : (o : Option AlphaKind) (op : MemoryOp) (ra rb : ℕ) (disp : ℤ) (s : Alpha) → s.pc + 1 < 2 ^ 32 → IsSmall (memory_act_by o op ra rb disp s)
memory_small None op ra rb disp s h = h
memory_small (Some kind) op ra rb disp s h = access_small op kind _ _

small : (i : AlphaInstr) (s : Alpha) → s.pc + 1 < 2 ^ 32 → IsSmall (act i s)
small (Memory op ra rb disp) s h = memory_small (kind_of op) op ra rb disp s h
small (Branch op ra disp) s h = branched (taken op (s.regs ra)) s.pc (target_of s.pc disp) h (mod-lt _ (lit< tt))
small (Operate op ra rb rc) s h = h
small (Jump ra rb) s h = mod-lt _ (lit< tt)
small (Pal n) s h = tt

unwrapped : (s : Alpha) → s.pc < 2 ^ 32 → wrapped s ≡ s
unwrapped s h = ap (at_place s.regs) (mod-eq_of_lt h)

-- ---- the step
defined : (b : Bool) (setting : Setting) (m : Moment) (i : AlphaInstr) (a : AlphaAccess) (c : Alpha) → accesses b setting m i a c ≢ Stuck → b ≡ true
defined true setting m i a c h = refl
defined false setting m i a c h = absurd (h refl)

by_does : (setting : Setting) (m : Moment) (i : AlphaInstr) (d : Does) (answer : AlphaStep) (old new : Cpu) → fetch_of setting.code.words old.pc ≡ Some i → IsSmall d
    → does setting m i d (state_of old) ≢ Stuck → IsStep d answer old new → IsNextBy answer setting m old new (does setting m i d (state_of old))
by_does setting m i (Goes s) answer old new f k h e =
    subst (λ (a : AlphaStep). IsNextBy a setting m old new (Moves (place_of setting m s))) (sym e.0)
    (ap (λ (x : Alpha). Moves (place_of setting m x)) (sym (e.1 ∙ unwrapped s k)))
by_does setting m i (Asks a) answer old new f k h e =
    let ok = defined (is_defined setting a) setting m i a (state_of old) h in
    subst (λ (x : AlphaStep). IsNextBy x setting m old new (does setting m i (Asks a) (state_of old))) (sym e.0) (record {
      same = e.1;
      defined = ok;
      access = k;
      is = ap (λ b. accesses b setting m i a (state_of old)) ok ∙ ap (λ o. Wants (request_for m a) (λ before success. place_of setting m (finished_by o (loaded a before) success (state_of old)))) (sym f);
    })
by_does setting m i (Calls n) answer old new f k h e =
    subst (λ (x : AlphaStep). IsNextBy x setting m old new (does setting m i (Calls n) (state_of old))) (sym e.0) (e.1, refl)

by_fetch : (setting : Setting) (m : Moment) (o : Option AlphaInstr) (answer : AlphaStep) (old new : Cpu) → fetch_of setting.code.words old.pc ≡ o → old.pc + 1 < 2 ^ 32
    → next_by setting m o (state_of old) ≢ Stuck → IfSome o (λ i. IsStep (act i (state_of old)) answer old new) → IsNextBy answer setting m old new (next_by setting m o (state_of old))
by_fetch setting m None answer old new f few h e = absurd (h refl)
by_fetch setting m (Some i) answer old new f few h e = by_does setting m i (act i (state_of old)) answer old new f (small i (state_of old) few) h e

pub is_next_by : (setting : Setting) (m : Moment) (answer : AlphaStep) (old new : Cpu) → length setting.code.words ≤ most_words → next setting m (state_of old) ≢ Stuck
    → IfSome (current setting.code.words old) (λ i. IsStep (act i (state_of old)) answer old new) → IsNextBy answer setting m old new (next setting m (state_of old))
unfolding next
is_next_by setting m answer old new few h e =
    let w = (fetched setting m (state_of old) h).within in
    let f : fetch_of setting.code.words old.pc ≡ instr_at (slice_index setting.code.words old.pc) = in_code setting.code.words old.pc w (nat_lt old.pc (length setting.code.words)) refl in
    by_fetch setting m (fetch_of setting.code.words old.pc) answer old new refl (omega (arith, w, few)) h
    (subst (λ (o : Option AlphaInstr). IfSome o (λ i. IsStep (act i (state_of old)) answer old new)) (sym f) e)

-- ---- a finished access
finished_small : (i : AlphaInstr) (value : ℕ) (success : Bool) (s : Alpha) → s.pc + 1 < 2 ^ 32 → (finished i value success s).pc < 2 ^ 32
finished_small (Memory op ra rb disp) value success s h = by (kind_of op)
  where
    by : (o : Option AlphaKind) → (memory_finish_by o op ra value success s).pc < 2 ^ 32
    by None = omega arith
    by (Some Load) = h
    by (Some LoadLocked) = h
    by (Some Store) = h
    by (Some StoreConditional) = h
finished_small (Branch op ra disp) value success s h = omega arith
finished_small (Operate op ra rb rc) value success s h = omega arith
finished_small (Jump ra rb) value success s h = omega arith
finished_small (Pal n) value success s h = omega arith

finished_at : (o : Option AlphaInstr) (old new : Cpu) (value : ℕ) (success : Bool) → old.pc + 1 < 2 ^ 32 → IsSome o → IfSome o (λ i. state_of new ≡ wrapped (finished i value success (state_of old)))
    → state_of new ≡ finished_by o value success (state_of old)
finished_at None old new value success few some h = absurd (cc some)
finished_at (Some i) old new value success few some h = h ∙ unwrapped (finished i value success (state_of old)) (finished_small i value success (state_of old) few)

pub is_finished : (words : List ℕ) (old new : Cpu) (value : ℕ) (success : Bool) → length words ≤ most_words → IsFetched words old.pc → IfSome (current words old) (λ i. state_of new ≡ wrapped (finished i value success (state_of old)))
    → state_of new ≡ finished_by (fetch_of words old.pc) value success (state_of old)
is_finished words old new value success few f h =
    finished_at (current words old) old new value success (omega (arith, few, f.within)) f.decodes h
    ∙ ap (λ o. finished_by o value success (state_of old)) (sym (in_code words old.pc f.within (nat_lt old.pc (length words)) refl))
