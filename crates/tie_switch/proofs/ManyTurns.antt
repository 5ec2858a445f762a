-- Turns that ask nothing, within the budget, are turns over any memory.
use Rattle.std.proofs.Common.{◌≡◌, ◌≢◌, ℕ, zero, suc, ◌+◌, ◌≤◌, ◌&&◌, Bool, true, false, List, reverse, Option, Some, None, refl, sym, ap, ◌∙◌, subst, arith}
use Rattle.std.specs.Prelude.{MatchBool, option_and_then}
use Rattle.std.proofs.lemmas.Bool.{ne_eqb}
use Rattle.memory_core.specs.declared.entry.Entry.{Entry}
use Rattle.memory_core.specs.declared.entry.SetUp.{SetUp}
use Rattle.system_model.proofs.Requests.{IsStep, Makes, makes}
use Rattle.system_model.specs.Legal.{spent, IsReached}
use Rattle.system_model.specs.Processors.{Processor, Turn, Went, Asks, Over, Stuck, turn}
use Rattle.system_model.specs.Settings.{Setting}
use Rattle.tie_switch.specs.Inside.{went, went_by}
use Rattle.vax_form.specs.declared.state.VaxState.{VaxState}
use Rattle.tie_switch.specs.Laws.{LocalTurnsKeepReached, ManyTurnsKeepReached, TurnsKeepReached}
use Rattle.tie_switch.specs.ManyTurns.{IsTurns, NoTurn, Turns}
use Rattle.tie_switch.specs.Turns.{IsStill, goes_on, is_out, IsTurn}
use Rattle.tie_switch.specs.Turns as turns

-- whatever entries of others come
abbrev any : List Entry → Type 0
any entries = Unit {0}

same_processor : (p q : Processor) → Some p ≡ Some q → p ≡ q
same_processor p q e = cc e

went_there : (t : Turn) (q : Processor) → went_by t ≡ Some q → t ≡ Went q
went_there (Went p) q e = ap Went (same_processor p q e)
went_there (Asks request on) q e = absurd (cc e)
went_there Over q e = absurd (cc e)
went_there Stuck q e = absurd (cc e)

-- each turn is a step
one_step : (s : Setting) (p q : Processor) → turn s p ≡ Went q → q.steps ≡ suc p.steps
one_step s p q e = let step : IsStep p q = subst (Makes p) e (makes s p) in step.steps

steps_behind : (s : Setting) (p q : Processor) (n : ℕ) → went s p n ≡ Some q → q.steps ≡ p.steps + n
steps_behind s p q zero e = let same = ap (λ (x : Processor). x.steps) (same_processor p q e) in omega (arith, same)
steps_behind s p q (suc n) e = last (went s p n) (λ x k. steps_behind s p x n k) e
  where
    last : (o : Option Processor) → ((x : Processor) → o ≡ Some x → x.steps ≡ p.steps + n) → option_and_then (λ x. went_by (turn s x)) o ≡ Some q → q.steps ≡ p.steps + suc n
    last None f k = absurd (cc k)
    last (Some x) f k = let one = one_step s x q (went_there (turn s x) q k) in let before = f x refl in omega (arith, one, before)

not_out : (budget : ℕ) (p : Processor) → p.steps ≢ budget → is_out budget p ≡ false
not_out budget p h = ap (λ b. goes_on p.mode && b) (ne_eqb p.steps budget h) ∙ never (goes_on p.mode)
  where
    never : (b : Bool) → (b && false) ≡ false
    never true = refl
    never false = refl

one_turn : (s : Setting) (u : SetUp) (m : List Entry → Type 0) (budget : ℕ) (h : List Entry) (p q : Processor) → turn s p ≡ Went q → p.steps ≢ budget → IsTurn s u m budget p q h h
one_turn s u m budget h p q e k =
    subst (λ b. MatchBool b (IsStill (spent p) q h h) (turns.Makes (turn s p) u m p q h h)) (sym (not_out budget p k))
    (subst (λ (t : Turn). turns.Makes t u m p q h h) (sym e) (record { processor = refl; seen = refl }))

pub went_are_turns : (s : Setting) (u : SetUp) (m : List Entry → Type 0) (budget : ℕ) (h : List Entry) (p q : Processor) (n : ℕ)
    → went s p n ≡ Some q → p.steps + n ≤ budget → IsTurns s u m budget p h n q h
went_are_turns s u m budget h p q zero e le = subst (λ (x : Processor). IsTurns s u m budget p h zero x h) (same_processor p q e) NoTurn
went_are_turns s u m budget h p q (suc n) e le = last (went s p n) refl (λ x k. went_are_turns s u m budget h p x n k (omega (arith, le))) e
  where
    last : (o : Option Processor) → went s p n ≡ o → ((x : Processor) → o ≡ Some x → IsTurns s u m budget p h n x h) → option_and_then (λ x. went_by (turn s x)) o ≡ Some q
        → IsTurns s u m budget p h (suc n) q h
    last None same f k = absurd (cc k)
    last (Some x) same f k =
        let steps = steps_behind s p x n same in
        Turns (f x refl) (one_turn s u m budget h x q (went_there (turn s x) q k) (λ out. omega (arith, steps, out, le)))

-- ---- what they keep
kept : TurnsKeepReached → (s : Setting) (u : SetUp) (budget : ℕ) (thread : ℕ) (start : VaxState) (p : Processor) (old : List Entry)
    → IsReached s budget u.limit (reverse old) thread start p
    → {n : ℕ} {q : Processor} {new : List Entry} → IsTurns s u any budget p old n q new → IsReached s budget u.limit (reverse new) thread start q
kept law s u budget thread start p old reached NoTurn = reached
kept law s u budget thread start p old reached (Turns {p = x} {q = y} {old = mid} {new = after} more last) =
    law s u budget mid after thread start x y (kept law s u budget thread start p old reached more) last

pub many_keep : TurnsKeepReached → ManyTurnsKeepReached
many_keep law s u budget n old new thread start p q reached turns = kept law s u budget thread start p old reached turns

pub local_keep : TurnsKeepReached → LocalTurnsKeepReached
local_keep law s u budget n seen thread start p q reached there within = kept law s u budget thread start p seen reached (went_are_turns s u any budget seen p q n there within)
