-- A store conditional behind its own load-locked access fails for a cause.
use Rattle.std.proofs.Common.{◌≡◌, ℕ, suc, ◌==◌, ◌&&◌, ◌||◌, ◌⊎◌, inl, inr, Bool, true, false, not, if◌then◌else◌, List, [], ◌∷◌, Option, Some, None, refl, sym, ap, ◌∙◌, subst, eq-eqb}
use Rattle.memory_core.specs.declared.entry.Entry.{Entry}
use Rattle.memory_core.specs.declared.entry.Kind.{Kind}
use Rattle.memory_core.specs.declared.entry.Kind.TheVariants.{StoreConditional}
use Rattle.memory_core.specs.declared.entry.SetUp.{SetUp}
use Rattle.memory_core.specs.Kinds.{writes}
use Rattle.memory_core.specs.Order.{own, block_of, reserved_by, reserved, strikes, succeeds, tries, Fits, Meets}
use Rattle.legal_history.specs.Entries.{Lock, lock_of, Paired, AllPaired, fails}
use Rattle.legal_history.specs.Failures.{is_written_since, FailForCause}
use Rattle.legal_history.proofs.Locks.{locked_entry}

-- a lock reserves its block until another processor writes there
reserves : (past : List Entry) (p quad : ℕ) (lock : Lock) → lock_of (own p past) ≡ Some lock → quad ≡ lock.quad → is_written_since past p (block_of quad) ≡ false → reserved past p (block_of quad) ≡ true
reserves [] p quad lock l at free = absurd (cc l)
reserves (e ∷ past) p quad lock l at free = by (reserves past p quad lock) (e.processor == p) l free
  where
    wrote : Bool
    wrote = writes e.kind e.success && (block_of e.quad == block_of quad)

    onward : (c since was : Bool) → (c || since) ≡ false → (since ≡ false → was ≡ true) → (if c then false else was) ≡ true
    onward true since was free on = absurd (cc free)
    onward false since was free on = on free

    by : (lock_of (own p past) ≡ Some lock → quad ≡ lock.quad → is_written_since past p (block_of quad) ≡ false → reserved past p (block_of quad) ≡ true)
        → (b : Bool) → lock_of (if b then e ∷ own p past else own p past) ≡ Some lock → (if b then false else wrote || is_written_since past p (block_of quad)) ≡ false
        → (if b then reserved_by e.kind (block_of e.quad == block_of quad) (reserved past p (block_of quad)) else if wrote then false else reserved past p (block_of quad)) ≡ true
    by later true l free =
        let is = locked_entry e.kind e.quad e.before lock l in
        let same : quad ≡ e.quad = at ∙ sym is.1 in
        ap (λ k. reserved_by k (block_of e.quad == block_of quad) (reserved past p (block_of quad))) is.0 ∙ ap (λ q. block_of e.quad == block_of q) same ∙ eq-eqb (block_of e.quad) (block_of e.quad) refl
    by later false l free = onward wrote (is_written_since past p (block_of quad)) (reserved past p (block_of quad)) free (later l at)

failed_is : (kind : Kind) (success : Bool) → fails kind success ≡ true → (kind ≡ StoreConditional) × (success ≡ false)
failed_is StoreConditional false h = (refl, refl)
failed_is StoreConditional true h = absurd (cc h)
failed_is _ success h = absurd (cc h)

module _ (set_up : SetUp) where
  cause : (past : List Entry) (e : Entry) → Fits set_up past e → e.kind ≡ StoreConditional → e.success ≡ false → (lock : Option Lock) → lock_of (own e.processor past) ≡ lock → Paired StoreConditional lock e.quad
      → (is_written_since past e.processor (block_of e.quad) ≡ true) ⊎ (strikes set_up.miss (suc (tries past e.processor)) ≡ true)
  cause past e f k s None l pair = absurd pair
  cause past e f k s (Some lock) l pair = by (strikes set_up.miss (suc (tries past e.processor))) refl (is_written_since past e.processor (block_of e.quad)) refl
    where
      struck : Bool
      struck = strikes set_up.miss (suc (tries past e.processor))

      fell : (reserved past e.processor (block_of e.quad) && not struck) ≡ false
      fell = sym (ap (λ kind. succeeds set_up past e.processor kind e.quad) k) ∙ sym f.success ∙ s

      by : (m : Bool) → struck ≡ m → (w : Bool) → is_written_since past e.processor (block_of e.quad) ≡ w → (is_written_since past e.processor (block_of e.quad) ≡ true) ⊎ (struck ≡ true)
      by true m w h = inr m
      by false m true h = inl h
      by false m false h =
          let held : reserved past e.processor (block_of e.quad) ≡ true = reserves past e.processor e.quad lock l pair h in
          let both : true ≡ false = sym (ap (λ r. r && not struck) held ∙ ap not m) ∙ fell in
          absurd (cc both)

  paired_at : (past : List Entry) (e : Entry) → AllPaired (own e.processor (e ∷ past)) → Paired e.kind (lock_of (own e.processor past)) e.quad
  paired_at past e pairs = (subst (λ (b : Bool). AllPaired (if b then e ∷ own e.processor past else own e.processor past)) (eq-eqb e.processor e.processor refl) pairs).1

  paired_before : (past : List Entry) (e : Entry) (p : ℕ) (b : Bool) → AllPaired (if b then e ∷ own p past else own p past) → AllPaired (own p past)
  paired_before past e p true pairs = pairs.0
  paired_before past e p false pairs = pairs

  pub fail_for_cause : (entries : List Entry) → Meets set_up entries → ((p : ℕ) → AllPaired (own p entries)) → FailForCause set_up entries
  fail_for_cause [] meets pairs = tt
  fail_for_cause (e ∷ past) meets pairs = (
    fail_for_cause past meets.0 (λ p. paired_before past e p (e.processor == p) (pairs p)),
    λ h.
        let is = failed_is e.kind e.success h in
        cause past e meets.1 is.0 is.1 (lock_of (own e.processor past)) refl
        (subst (λ kind. Paired kind (lock_of (own e.processor past)) e.quad) is.0 (paired_at past e (pairs e.processor))),
  )
