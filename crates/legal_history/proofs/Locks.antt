-- What the order of accesses tells each processor of its own entries.
use Rattle.std.proofs.Common.{◌≡◌, ℕ, zero, suc, ◌<◌, ◌^◌, ◌==◌, ◌⊎◌, inl, inr, Bool, true, false, if◌then◌else◌, List, [], ◌∷◌, Option, Some, None, refl, sym, ap, ◌∙◌, subst, arith, All}
use Rattle.std.proofs.lemmas.Bool.{eqb-true}
use Rattle.memory_core.specs.declared.entry.Kind.{Kind}
use Rattle.memory_core.specs.declared.entry.Kind.TheVariants.{LoadLocked, StoreConditional, Put, Get}
use Rattle.memory_core.specs.declared.entry.Entry.{Entry}
use Rattle.memory_core.specs.declared.entry.SetUp.{SetUp}
use Rattle.memory_core.specs.Kinds.{is_conditional}
use Rattle.memory_core.specs.Order.{own, gets, input_at, found, Meets}
use Rattle.memory_core.proofs.Choices.{if_false}
use Rattle.memory_core.proofs.LookingBack.{pairs_agree}
use Rattle.legal_history.specs.Entries.{Lock, lock_by, lock_of}
use Rattle.legal_history.specs.Law.{HasBytes}
use Rattle.legal_history.proofs.Fair.{FindsLocked, IsFair, AllFair}
use Rattle.legal_history.proofs.Quads.{left-lt}

input-within : (input : List ℕ) (n : ℕ) → All (λ byte. byte < 256) input → (input_at input n < 256) ⊎ (input_at input n ≡ 0xFFFFFFFF)
input-within [] n h = inr refl
input-within (b ∷ bs) zero h = inl (h 0 0 (omega arith))
input-within (b ∷ bs) (suc n) h = input-within bs n (λ k d l. h (suc k) d (omega arith))

fair_if : (b : Bool) (e : Entry) (mine : List Entry) → AllFair mine → (b ≡ true → IsFair e.kind (lock_of mine) e.quad e.before e.success) → AllFair (if b then e ∷ mine else mine)
fair_if true e mine a f = (a, f refl)
fair_if false e mine a f = a

-- the entry of a lock
pub locked_entry : (kind : Kind) (quad before : ℕ) (lock : Lock) → lock_by kind quad before ≡ Some lock → (kind ≡ LoadLocked) × (quad ≡ lock.quad) × (before ≡ lock.found)
locked_entry LoadLocked quad before lock h =
    let same : record { quad = quad; found = before } ≡ lock = cc h in
    (refl, ap (λ (x : Lock). x.quad) same, ap (λ (x : Lock). x.found) same)
locked_entry _ quad before lock h = absurd (cc h)

either : {n : ℕ} → (n < 256) ⊎ (n ≡ 0xFFFFFFFF) → n < 2 ^ 64
either (inl h) = omega (arith, h)
either (inr h) = omega (arith, h)

module _ (set_up : SetUp) (bytes : HasBytes set_up) where
  found-lt : (past : List Entry) → Meets set_up past → (kind : Kind) (quad : ℕ) → found set_up past kind quad < 2 ^ 64
  found-lt past m Put quad = omega arith
  found-lt past m Get quad = either (input-within set_up.input (gets past) bytes.input)
  found-lt past m _ quad = left-lt set_up bytes.image past m quad

  finds : (past : List Entry) (e : Entry) → Meets set_up (e ∷ past) → e.kind ≡ StoreConditional → e.success ≡ true → (mine : List Entry) → own e.processor past ≡ mine → (lock : Option Lock) → lock_of mine ≡ lock → FindsLocked lock e.quad e.before
  finds past e m k s mine o None l = tt
  finds past e m k s [] o (Some lock) l = absurd (cc l)
  finds past e m k s (locked ∷ older) o (Some lock) l =
      λ at.
      let is = locked_entry locked.kind locked.quad locked.before lock l in
      pairs_agree set_up past older locked e m k s o is.0 (is.1 ∙ sym at) ∙ is.2

  conditional : (kind : Kind) → is_conditional kind ≡ true → kind ≡ StoreConditional
  conditional StoreConditional h = refl
  conditional _ h = absurd (cc h)

  fair_entry : (past : List Entry) (e : Entry) → Meets set_up (e ∷ past) → IsFair e.kind (lock_of (own e.processor past)) e.quad e.before e.success
  fair_entry past e m = let f = m.1 in record {
    small = subst (λ n. n < 2 ^ 64) (sym f.before) (found-lt past m.0 e.kind e.quad);
    others = λ k. f.success ∙ if_false (is_conditional e.kind) _ true k;
    locked = λ k s. finds past e m (conditional e.kind k) s (own e.processor past) refl (lock_of (own e.processor past)) refl;
    input = λ k. subst (λ n. (n < 256) ⊎ (n ≡ 0xFFFFFFFF)) (sym (f.before ∙ ap (λ (k : Kind). found set_up past k e.quad) k)) (input-within set_up.input (gets past) bytes.input);
    output = λ k. f.before ∙ ap (λ (k : Kind). found set_up past k e.quad) k;
  }

  pub all_fair : (h : List Entry) → Meets set_up h → (t : ℕ) → AllFair (own t h)
  all_fair [] m t = tt
  all_fair (e ∷ past) m t =
      fair_if (e.processor == t) e (own t past) (all_fair past m.0 t)
      (λ b. subst (λ n. IsFair e.kind (lock_of (own n past)) e.quad e.before e.success) (eqb-true e.processor t b) (fair_entry past e m))
