-- What a processor has told, turn by turn.
use Rattle.std.proofs.Common.{◌≡◌, ℕ, suc, ◌+◌, ◌<◌, ◌≤◌, ◌⊎◌, inl, inr, ◌&&◌, not, if◌then◌else◌, Bool, true, false, List, [], ◌∷◌, ◌++◌, Option, Some, refl, sym, ap, ◌∙◌, subst, arith}
use Rattle.std.specs.Prelude.{MatchBool, nat_lt, reverse}
use Rattle.std.proofs.lemmas.Bool.Decides.{nat_tests}
use Rattle.std.proofs.lemmas.List.{append-nil}
use Rattle.memory_core.specs.Contents.{entry_for}
use Rattle.memory_core.specs.declared.entry.Entry.{Entry}
use Rattle.memory_core.specs.declared.entry.Request.{Request}
use Rattle.memory_core.specs.declared.entry.SetUp.{SetUp}
use Rattle.system_model.specs.Legal.{spent, starts}
use Rattle.system_model.specs.Processors.{Processor, Turn, Went, Asks, Over, Stuck, Reaches, Begins, Steps, Takes, entry_by, turn}
use Rattle.system_model.specs.Settings.{Setting}
use Rattle.system_model.proofs.Requests.{IsStep, makes}
use Rattle.system_model.proofs.Requests as requests
use Rattle.vax_driven.specs.declared.thread.End.TheVariants as ends
use Rattle.tie_switch.specs.Live.{AreNone}
use Rattle.tie_switch.specs.ManyTurns.{IsTurns, NoTurn, Turns}
use Rattle.tie_switch.specs.Turns.{IsMade, IsStill, IsTurn, Makes, is_out}
use Rattle.tie_switch.proofs.Turns.{newest, same_entry}
use Rattle.vax_form.specs.declared.state.VaxState.{VaxState}
use Rattle.vest_core.specs.LiveWorlds.{IsLegalLive, LiveWorldValue}
use Rattle.vest_core.specs.Progress.{Told, is_due, line_of, lines_of, progress, told_behind}
use Rattle.vest_core.specs.Talks.{Tells as TellsAt}
use Rattle.vest_core.specs.declared.talking.TalkEnd.{TalkEnd}
use Rattle.vest_core.proofs.LiveTurns.{ended_still}
use Rattle.vt_outside.specs.Sink.{SinkMeaning}

-- ---- where nothing is retired, or fewer steps were made than are due, nothing is told
never_less : (n : ℕ) → nat_lt n n ≡ false
never_less n = grind (arith, nat_tests)

less_by : (n m : ℕ) → n < m → nat_lt n m ≡ true
less_by n m h = grind (arith, nat_tests)

none_by : (a b : Bool) → b ≡ false → (a && b) ≡ false
none_by true b e = e
none_by false b e = refl

none_due : (due retired : ℕ) (p : Processor) → p.retired ≡ retired → is_due due retired p ≡ false
none_due due retired p same = none_by (not (nat_lt p.steps due)) (nat_lt retired p.retired) (ap (nat_lt retired) same ∙ never_less retired)

none_before : (due retired : ℕ) (p : Processor) → p.steps < due → is_due due retired p ≡ false
none_before due retired p few = ap (λ (b : Bool). not b && nat_lt retired p.retired) (less_by p.steps due few)

abbrev pub told_if : Bool → (every : ℕ) → (q : Processor) → Told → Told
told_if b every q told = if b then record { due = q.steps + every; lines = told.lines ++ line_of q } else told

undue : (every : ℕ) (p q : Processor) (told : Told) → is_due told.due p.retired q ≡ false → told_behind every p q told ≡ told
undue every p q told e = ap (λ (b : Bool). told_if b every q told) e

-- ---- the steps of turns
still_steps : (r q : Processor) (old new : List Entry) → IsStill r q old new → q.steps ≡ r.steps
still_steps r q old new s = ap (λ (x : Processor). x.steps) s.processor

abbrev AreFew : (p q : Processor) → (n : ℕ) → Type 0
AreFew p q n = (p.steps ≤ q.steps) × (q.steps ≤ p.steps + n)

makes_few : (t : Turn) (u : SetUp) (p q : Processor) (old new : List Entry) → requests.Makes p t → Makes t u AreNone p q old new → AreFew p q 1
makes_few (Went r) u p q old new step m =
    let is = step.steps in
    let same = still_steps r q old new m in
    (omega (arith, is, same), omega (arith, is, same))
makes_few (Asks request on) u p q old new step (inl m) =
    let is = (step.1 m.before m.success).steps in
    let same = ap (λ (x : Processor). x.steps) m.goes in
    (omega (arith, is, same), omega (arith, is, same))
makes_few (Asks request on) u p q old new step (inr r) =
    let same = ap (λ (x : Processor). x.steps) r.goes in
    (omega (arith, same), omega (arith, same))
makes_few Over u p q old new step m =
    let same = still_steps p q old new m in
    (omega (arith, same), omega (arith, same))
makes_few Stuck u p q old new step m = absurd m

few_by : (s : Setting) (u : SetUp) (p q : Processor) (old new : List Entry) (out : Bool) → MatchBool out (IsStill (spent p) q old new) (Makes (turn s p) u AreNone p q old new) → AreFew p q 1
few_by s u p q old new true m =
    let same = still_steps (spent p) q old new m in
    (omega (arith, same), omega (arith, same))
few_by s u p q old new false m = makes_few (turn s p) u p q old new (makes s p) m

one_few : (s : Setting) (u : SetUp) (budget : ℕ) (p q : Processor) (old new : List Entry) → IsTurn s u AreNone budget p q old new → AreFew p q 1
one_few s u budget p q old new turned = few_by s u p q old new (is_out budget p) turned

pub many_few : (s : Setting) (u : SetUp) (budget : ℕ) (p : Processor) (old : List Entry) → {n : ℕ} {q : Processor} {new : List Entry} → IsTurns s u AreNone budget p old n q new → AreFew p q n
many_few s u budget p old NoTurn = (omega arith, omega arith)
many_few s u budget p old (Turns {n = n} {p = x} {q = y} {old = mid} {new = after} before last) =
    let first = many_few s u budget p old before in
    let one = one_few s u budget x y mid after last in
    (omega (arith, first.0, first.1, one.0, one.1), omega (arith, first.0, first.1, one.0, one.1))

-- ---- what was told
-- steps from there lead to a history and its processor, and so much was told on the way. It makes no more where it is spent
pub record HasTold (setting : Setting) (first : Processor) (every : ℕ) (history : List Entry) (p : Processor) (told : Told) : Type 0 where
  pub count : ℕ
  pub mine : List Entry
  pub was : Processor
  pub reached : Reaches setting first count mine was
  pub counted : count ≡ p.steps
  pub its : mine ≡ reverse history
  pub now : (p ≡ was) ⊎ (p ≡ spent was)
  pub lines : progress every reached ≡ told

moved : (setting : Setting) (first : Processor) (every : ℕ) (old new : List Entry) (p q : Processor) (told told' : Told) → new ≡ old → q ≡ p → told' ≡ told
    → HasTold setting first every old p told → HasTold setting first every new q told'
moved setting first every old new p q told told' e f h t =
    subst (λ (l : List Entry). HasTold setting first every l q told') (sym e)
    (subst (λ (x : Processor). HasTold setting first every old x told') (sym f)
    (subst (λ (x : Told). HasTold setting first every old p x) (sym h) t))

-- ---- by one turn
module _ (setting : Setting) (first : Processor) (every : ℕ) (u : SetUp) (budget : ℕ) (p q : Processor) (old new : List Entry) (told : Told) where
  abbrev IsTold : Type 0
  IsTold = HasTold setting first every new q (told_behind every p q told)

  stays : HasTold setting first every old p told → IsStill p q old new → IsTold
  stays t s =
      moved setting first every old new p q told (told_behind every p q told) s.seen s.processor
      (undue every p q told (none_due told.due p.retired q (ap (λ (x : Processor). x.retired) s.processor))) t

  module _ (count : ℕ) (mine : List Entry) (reached : Reaches setting first count mine p) (counted : count ≡ p.steps) (its : mine ≡ reverse old) (lines : progress every reached ≡ told) where
    spends : IsStill (spent p) q old new → IsTold
    spends s = record {
      count = count;
      mine = mine;
      was = p;
      reached = reached;
      counted = counted ∙ sym (still_steps (spent p) q old new s);
      its = its ∙ ap reverse (sym s.seen);
      now = inr s.processor;
      lines = lines ∙ sym (undue every p q told (none_due told.due p.retired q (ap (λ (x : Processor). x.retired) s.processor)));
    }

    step_told : (r : Processor) → q ≡ r → told_behind every p r (progress every reached) ≡ told_behind every p q told
    step_told r same = ap (λ (x : Processor). told_behind every p x (progress every reached)) (sym same) ∙ ap (told_behind every p q) lines

    goes : (r : Processor) → turn setting p ≡ Went r → IsStep p r → IsStill r q old new → IsTold
    goes r e step s = record {
      count = suc count;
      mine = mine;
      was = r;
      reached = Steps reached e;
      counted = ap suc counted ∙ sym step.steps ∙ sym (still_steps r q old new s);
      its = its ∙ ap reverse (sym s.seen);
      now = inl s.processor;
      lines = step_told r s.processor;
    }

    takes : (request : Request) (on : ℕ → Bool → Processor) → turn setting p ≡ Asks request on → ((before : ℕ) (success : Bool) → IsStep p (on before success))
        → IsMade u AreNone request on q old new → IsTold
    takes request on e step m =
        let n = m.entry in
        let past = old ++ n.between in
        let found = entry_by request m.before m.success in
        let past_is : past ≡ old = ap (λ (b : List Entry). old ++ b) n.come ∙ append-nil old in
        let entry : entry_for u past request ≡ found = same_entry u past request m.before m.success n.found n.succeeded in
        let is : new ≡ old ++ found ∷ [] = n.seen ∙ ap (λ (x : Entry). past ++ x ∷ []) entry ∙ ap (λ (h : List Entry). h ++ found ∷ []) past_is in
        record {
          count = suc count;
          mine = found ∷ mine;
          was = on m.before m.success;
          reached = Takes reached e m.before m.success;
          counted = ap suc counted ∙ sym (step m.before m.success).steps ∙ sym (ap (λ (x : Processor). x.steps) m.goes);
          its = ap (λ (l : List Entry). found ∷ l) its ∙ sym (ap reverse is ∙ newest old found);
          now = inl m.goes;
          lines = step_told (on m.before m.success) m.goes;
        }

    makes_told : (t : Turn) → turn setting p ≡ t → requests.Makes p t → Makes t u AreNone p q old new → HasTold setting first every old p told → IsTold
    makes_told (Went r) e step m t = goes r e step m
    makes_told (Asks request on) e step (inl m) t = takes request on e step.1 m
    makes_told (Asks request on) e step (inr r) t =
        let over = r.over in
        spends (record { processor = r.goes; seen = over.seen ∙ ap (λ (b : List Entry). old ++ b) over.come ∙ append-nil old })
    makes_told Over e step m t = stays t m
    makes_told Stuck e step m t = absurd m

    turn_told : (out : Bool) → MatchBool out (IsStill (spent p) q old new) (Makes (turn setting p) u AreNone p q old new) → HasTold setting first every old p told → IsTold
    turn_told true m t = spends m
    turn_told false m t = makes_told (turn setting p) refl (makes setting p) m t

  -- whatever it has told so far
  one_told : HasTold setting first every old p told → IsTurn setting u AreNone budget p q old new → IsTold
  one_told t turned = by t.now
    where
      by : (p ≡ t.was) ⊎ (p ≡ spent t.was) → IsTold
      by (inl same) = subst (λ (x : Processor). (r : Reaches setting first t.count t.mine x) → progress every r ≡ told → IsTold) same (λ r lines. turn_told t.count t.mine r t.counted t.its lines (is_out budget p) turned t) t.reached t.lines
      by (inr same) = stays t (ended_still setting u budget p q old new ends.Spent (ap (λ (x : Processor). x.mode) same) turned)

-- ---- by many turns
module _ (setting : Setting) (first : Processor) (every : ℕ) (u : SetUp) (budget : ℕ) (p : Processor) (old : List Entry) (told : Told) (t : HasTold setting first every old p told) where
  -- where fewer steps were made than are due
  below : {n : ℕ} {q : Processor} {new : List Entry} → IsTurns setting u AreNone budget p old n q new → q.steps < told.due → HasTold setting first every new q told
  below NoTurn few = t
  below (Turns {p = x} {q = y} {old = mid} {new = after} before last) few =
      let one = one_few setting u budget x y mid after last in
      let here = below before (omega (arith, one.0, few)) in
      subst (HasTold setting first every after y) (undue every x y told (none_before told.due x.retired y few)) (one_told setting first every u budget x y mid after told here last)

  at_once : {n : ℕ} {q : Processor} {new : List Entry} → IsTurns setting u AreNone budget p old n q new → n ≤ 1 → HasTold setting first every new q (told_behind every p q told)
  at_once NoTurn few = stays setting first every u budget p p old old told t (record { processor = refl; seen = refl })
  at_once (Turns {q = y} {new = after} NoTurn last) few = one_told setting first every u budget p y old after told t last
  at_once (Turns (Turns before more) last) few = absurd (omega (arith, few))

  pub turns_told : (n : ℕ) (q : Processor) (new : List Entry) → IsTurns setting u AreNone budget p old n q new → (n ≤ 1) ⊎ (q.steps < told.due)
      → HasTold setting first every new q (told_behind every p q told)
  turns_told n q new turns (inl few) = at_once turns few
  turns_told n q new turns (inr few) =
      subst (HasTold setting first every new q) (sym (undue every p q told (none_before told.due p.retired q few))) (below turns few)

-- ---- where no line is ever due
pub steps_are : (setting : Setting) (first p : Processor) (n : ℕ) (mine : List Entry) → Reaches setting first n mine p → p.steps ≡ first.steps + n
steps_are setting first p n mine Begins = omega arith
steps_are setting first p n mine (Steps {n = m} {p = x} r e) =
    let step : IsStep x p = subst (requests.Makes x) e (makes setting x) in
    let is = step.steps in
    let h = steps_are setting first x m mine r in
    omega (arith, is, h)
steps_are setting first p n mine (Takes {n = m} {mine = past} {p = x} {request = request} {on = on} r e before success) =
    let makes_it : requests.Makes x (Asks request on) = subst (requests.Makes x) e (makes setting x) in
    let is = (makes_it.1 before success).steps in
    let h = steps_are setting first x m past r in
    omega (arith, is, h)

pub none_told : (setting : Setting) (first p : Processor) (n every : ℕ) (mine : List Entry) → (r : Reaches setting first n mine p) → first.steps + n < every → progress every r ≡ record { due = every; lines = [] }
none_told setting first p n every mine Begins few = refl
none_told setting first p n every mine (Steps {n = m} {p = x} r e) few =
    let h = none_told setting first x m every mine r (omega (arith, few)) in
    let is = steps_are setting first p n mine (Steps r e) in
    ap (told_behind every x p) h ∙ undue every x p (record { due = every; lines = [] }) (none_before every x.retired p (omega (arith, is, few)))
none_told setting first p n every mine (Takes {n = m} {mine = past} {p = x} {request = request} {on = on} r e before success) few =
    let h = none_told setting first x m every past r (omega (arith, few)) in
    let is = steps_are setting first p n mine (Takes r e before success) in
    ap (told_behind every x p) h ∙ undue every x p (record { due = every; lines = [] }) (none_before every x.retired p (omega (arith, is, few)))

-- ---- at the end of a talk
-- the report took the lines of the steps of that legal run
pub record IsReported (end : TalkEnd) (setting : Setting) (every : Option ℕ) (w : LiveWorldValue) (l : IsLegalLive setting w) (report report' : SinkMeaning) : Type 0 where
  pub start : VaxState
  pub first : starts w.memory.contents.set_up.image 0 ≡ Some start
  pub told : TellsAt end l.processor (lines_of every (l.legal.each 0 start l.processor first refl).reaches) report report'
