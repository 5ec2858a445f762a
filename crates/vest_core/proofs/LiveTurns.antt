-- Turns of the only processor of a live world.
use Rattle.std.proofs.Common.{◌≡◌, ℕ, suc, ◌≤◌, ◌==◌, ◌&&◌, ◌⊎◌, inl, inr, if◌then◌else◌, Bool, false, true, not, List, [], ◌∷◌, ◌++◌, length, refl, sym, ap, ◌∙◌, subst, arith}
use Rattle.std.specs.Prelude.{MatchBool, reverse, take}
use Rattle.std.proofs.lemmas.List.{append-nil, append_assoc, length-append, reverse-append, take-append-le}
use Rattle.memory_core.specs.Contents.{bytes_put, entry_for, output_of}
use Rattle.memory_core.specs.Kinds.{is_get}
use Rattle.memory_core.specs.Limits.{CountsPuts, counts}
use Rattle.memory_core.specs.Live.{LiveContents}
use Rattle.memory_core.specs.Order.{gets}
use Rattle.memory_core.specs.declared.entry.Entry.{Entry}
use Rattle.memory_core.specs.declared.entry.Kind.{Kind}
use Rattle.memory_core.specs.declared.entry.Kind.TheVariants.{Load, LoadLocked, Store, StoreConditional, TieRead, TieWrite, TieLocked, Put, Get}
use Rattle.memory_core.specs.declared.entry.Limit.{Limit}
use Rattle.memory_core.specs.declared.entry.Limit.TheVariants.{Entries, Puts}
use Rattle.memory_core.specs.declared.entry.SetUp.{SetUp}
use Rattle.memory_core.proofs.Limits.{output_of-append}
use Rattle.system_model.specs.Legal.{IsLegal, spent}
use Rattle.system_model.specs.Processors.{Mode, New, Runs, Interprets, Ended, Processor, Turn, Went, Asks, Over, Stuck, mode_of, turn, turn_in}
use Rattle.system_model.specs.Settings.{Setting}
use Rattle.vax_driven.specs.declared.thread.End.{End}
use Rattle.vax_driven.specs.declared.thread.End.TheVariants as ends
use Rattle.tie_switch.specs.Laws.{TurnsStayLegal}
use Rattle.tie_switch.specs.Live.{AreNone, HasPaused, IsSameMemory, asks_get, is_spent, next_asks_get}
use Rattle.tie_switch.specs.ManyTurns.{IsTurns, NoTurn, Turns}
use Rattle.tie_switch.specs.Processors.{HasAdvanced, ProcessorValue, StandsFor, processor_of}
use Rattle.tie_switch.specs.Turns.{IsStill, IsTurn, Makes, goes_on, is_out}
use Rattle.tie_switch.proofs.Unspent.{spent_is}
use Rattle.vest_core.specs.LiveWorlds.{IsAskedFor, IsLegalLive, IsMannedLive, LiveWorldValue, NextAsks, all, next, sent_of}
use Rattle.vest_core.specs.Worlds.{IsLegalWorld, WorldValue}
use Rattle.vest_core.proofs.ManyTurns.{many_stay_legal}

-- ---- as a world of one processor
abbrev pub as_world : LiveWorldValue → WorldValue
as_world w = record { memory = w.memory.contents; processors = w.processor ∷ []; budget = w.budget }

pub as_legal : (setting : Setting) (w : LiveWorldValue) → IsLegalLive setting w → IsLegalWorld setting (as_world w)
as_legal setting w l = record { processors = l.processor ∷ []; stand = (l.stands, tt); legal = l.legal }

-- ---- what turns add to a history
-- entries behind it
abbrev pub Adds : (old new : List Entry) → Type 0
Adds old new = (more : List Entry) × (new ≡ old ++ more)

adds_none : (old new : List Entry) → new ≡ old → Adds old new
adds_none old new same = ([], same ∙ sym (append-nil old))

adds_both : (old mid new : List Entry) → Adds old mid → Adds mid new → Adds old new
adds_both old mid new first last = (first.0 ++ last.0, last.1 ∙ ap (λ (h : List Entry). h ++ last.0) first.1 ∙ append_assoc old first.0 last.0)

makes_add : (t : Turn) (u : SetUp) (p q : Processor) (old new : List Entry) → Makes t u AreNone p q old new → Adds old new
makes_add (Went r) u p q old new m = adds_none old new m.seen
makes_add (Asks request on) u p q old new (inl m) =
    let n = m.entry in
    let e = entry_for u (old ++ n.between) request in
    (n.between ++ e ∷ [], n.seen ∙ append_assoc old n.between (e ∷ []))
makes_add (Asks request on) u p q old new (inr r) = let over = r.over in (over.between, over.seen)
makes_add Over u p q old new m = adds_none old new m.seen
makes_add Stuck u p q old new m = absurd m

turn_by_adds : (s : Setting) (u : SetUp) (p q : Processor) (old new : List Entry) (out : Bool) → MatchBool out (IsStill (spent p) q old new) (Makes (turn s p) u AreNone p q old new) → Adds old new
turn_by_adds s u p q old new true m = adds_none old new m.seen
turn_by_adds s u p q old new false m = makes_add (turn s p) u p q old new m

turn_adds : (s : Setting) (u : SetUp) (budget : ℕ) (p q : Processor) (old new : List Entry) → IsTurn s u AreNone budget p q old new → Adds old new
turn_adds s u budget p q old new turned = turn_by_adds s u p q old new (is_out budget p) turned

turns_add : (s : Setting) (u : SetUp) (budget : ℕ) (p : Processor) (old : List Entry) → {n : ℕ} {q : Processor} {new : List Entry} → IsTurns s u AreNone budget p old n q new → Adds old new
turns_add s u budget p old NoTurn = ([], sym (append-nil old))
turns_add s u budget p old (Turns {p = x} {q = y} {old = mid} {new = after} before last) =
    adds_both old mid after (turns_add s u budget p old before) (turn_adds s u budget x y mid after last)

-- as many GETs at least
gets_behind : (xs ys : List Entry) → gets ys ≤ gets (xs ++ ys)
gets_behind [] ys = omega arith
gets_behind (e ∷ xs) ys = by (is_get e.kind) (gets_behind xs ys)
  where
    by : (b : Bool) → gets ys ≤ gets (xs ++ ys) → gets ys ≤ (if b then suc (gets (xs ++ ys)) else gets (xs ++ ys))
    by true h = omega (arith, h)
    by false h = h

gets_grow : (old new : List Entry) → Adds old new → gets (reverse old) ≤ gets (reverse new)
gets_grow old new adds =
    let turned : reverse new ≡ reverse adds.0 ++ reverse old = ap reverse adds.1 ∙ reverse-append old adds.0 in
    subst (λ (h : List Entry). gets (reverse old) ≤ gets h) (sym turned) (gets_behind (reverse adds.0) (reverse old))

-- as many bytes at least, the first of which are the same
puts_grow : (old new : List Entry) → Adds old new → bytes_put old ≤ bytes_put new
puts_grow old new adds =
    let split : output_of new ≡ output_of old ++ output_of adds.0 = ap output_of adds.1 ∙ output_of-append old adds.0 in
    omega (arith, ap length split, length-append (output_of old) (output_of adds.0))

sent_stays : (sent : ℕ) (old new : List Entry) → Adds old new → sent ≤ bytes_put old → take sent (output_of new) ≡ take sent (output_of old)
sent_stays sent old new adds few =
    let split : output_of new ≡ output_of old ++ output_of adds.0 = ap output_of adds.1 ∙ output_of-append old adds.0 in
    ap (take sent) split ∙ take-append-le sent (output_of old) (output_of adds.0) few

-- ---- a turn that asks for a GET, over a memory that counts bytes that are put
no_get_counts : (limit : Limit) (kind : Kind) → CountsPuts limit → is_get kind ≡ true → counts limit kind ≡ true → ⊥
no_get_counts (Entries n) kind puts get counted = absurd puts
no_get_counts (Puts n) Load puts get counted = cc get
no_get_counts (Puts n) LoadLocked puts get counted = cc get
no_get_counts (Puts n) Store puts get counted = cc get
no_get_counts (Puts n) StoreConditional puts get counted = cc get
no_get_counts (Puts n) TieRead puts get counted = cc get
no_get_counts (Puts n) TieWrite puts get counted = cc get
no_get_counts (Puts n) TieLocked puts get counted = cc get
no_get_counts (Puts n) Put puts get counted = cc get
no_get_counts (Puts n) Get puts get counted = cc counted

get_is_made : (t : Turn) (u : SetUp) (p q : Processor) (old new : List Entry) → CountsPuts u.limit → asks_get t ≡ true → Makes t u AreNone p q old new → suc (gets (reverse old)) ≤ gets (reverse new)
get_is_made (Went r) u p q old new puts asks m = absurd (cc asks)
get_is_made (Asks request on) u p q old new puts asks (inl m) =
    let n = m.entry in
    let e = entry_for u (old ++ n.between) request in
    let is : new ≡ old ++ e ∷ [] = n.seen ∙ ap (λ (h : List Entry). h ++ e ∷ []) (ap (λ (b : List Entry). old ++ b) n.come ∙ append-nil old) in
    let turned : reverse new ≡ e ∷ reverse old = ap reverse is ∙ reverse-append old (e ∷ []) in
    let count : gets (e ∷ reverse old) ≡ suc (gets (reverse old)) = ap (λ b. if b then suc (gets (reverse old)) else gets (reverse old)) asks in
    omega (arith, ap gets turned, count)
get_is_made (Asks request on) u p q old new puts asks (inr r) = absurd (no_get_counts u.limit request.kind puts asks (r.over).counts)
get_is_made Over u p q old new puts asks m = absurd (cc asks)
get_is_made Stuck u p q old new puts asks m = absurd m

next_get : (s : Setting) (u : SetUp) (p q : Processor) (old new : List Entry) (out : Bool) → CountsPuts u.limit → (not out && asks_get (turn s p)) ≡ true
    → MatchBool out (IsStill (spent p) q old new) (Makes (turn s p) u AreNone p q old new) → suc (gets (reverse old)) ≤ gets (reverse new)
next_get s u p q old new true puts asks m = absurd (cc asks)
next_get s u p q old new false puts asks m = get_is_made (turn s p) u p q old new puts asks m

-- turns from one whose next asks for a GET make it, if any
none_or_asked : (s : Setting) (u : SetUp) (budget : ℕ) (p : Processor) (old : List Entry) → CountsPuts u.limit → next_asks_get s budget p ≡ true
    → {n : ℕ} {q : Processor} {new : List Entry} → IsTurns s u AreNone budget p old n q new → ((q ≡ p) × (new ≡ old)) ⊎ (suc (gets (reverse old)) ≤ gets (reverse new))
none_or_asked s u budget p old puts asks NoTurn = inl (refl, refl)
none_or_asked s u budget p old puts asks (Turns {p = x} {q = y} {old = mid} {new = after} before last) = inr (behind (none_or_asked s u budget p old puts asks before))
  where
    grown : gets (reverse mid) ≤ gets (reverse after)
    grown = gets_grow mid after (turn_adds s u budget x y mid after last)

    behind : ((x ≡ p) × (mid ≡ old)) ⊎ (suc (gets (reverse old)) ≤ gets (reverse mid)) → suc (gets (reverse old)) ≤ gets (reverse after)
    behind (inl none) =
        let first = next_get s u x y mid after (is_out budget x) puts (ap (next_asks_get s budget) none.0 ∙ asks) last in
        omega (arith, first, ap (λ (h : List Entry). gets (reverse h)) none.1)
    behind (inr more) = omega (arith, more, grown)

-- no turn changes nothing
none_made : (s : Setting) (u : SetUp) (budget : ℕ) (p : Processor) (old : List Entry) → {n : ℕ} {q : Processor} {new : List Entry} → IsTurns s u AreNone budget p old n q new → n ≡ 0 → new ≡ old
none_made s u budget p old NoTurn none = refl
none_made s u budget p old (Turns before last) none = absurd (cc none)

-- ---- one that has ended stays
pub ended_still : (s : Setting) (u : SetUp) (budget : ℕ) (p q : Processor) (old new : List Entry) (end : End) → p.mode ≡ Ended end → IsTurn s u AreNone budget p q old new → IsStill p q old new
ended_still s u budget p q old new end is turned =
    let out : is_out budget p ≡ false = ap (λ (m : Mode). goes_on m && (p.steps == budget)) is in
    let over : turn s p ≡ Over = ap (λ (m : Mode). turn_in s p (mode_of s p m)) is in
    let makes : Makes (turn s p) u AreNone p q old new = subst (λ b. MatchBool b (IsStill (spent p) q old new) (Makes (turn s p) u AreNone p q old new)) out turned in
    subst (λ (t : Turn). Makes t u AreNone p q old new) over makes

ended_stays : (s : Setting) (u : SetUp) (budget : ℕ) (p : Processor) (old : List Entry) (end : End) → p.mode ≡ Ended end
    → {n : ℕ} {q : Processor} {new : List Entry} → IsTurns s u AreNone budget p old n q new → q ≡ p
ended_stays s u budget p old end is NoTurn = refl
ended_stays s u budget p old end is (Turns {p = x} {q = y} {old = mid} {new = after} before last) =
    let same : x ≡ p = ended_stays s u budget p old end is before in
    (ended_still s u budget x y mid after end (ap (λ (z : Processor). z.mode) same ∙ is) last).processor ∙ same

pub spent_mode : (mode : Mode) → is_spent mode ≡ true → mode ≡ Ended ends.Spent
spent_mode New is = absurd (cc is)
spent_mode (Runs alpha) is = absurd (cc is)
spent_mode (Interprets state replies) is = absurd (cc is)
spent_mode (Ended (ends.Exit code)) is = absurd (cc is)
spent_mode (Ended (ends.Raised exception)) is = absurd (cc is)
spent_mode (Ended ends.Spent) is = refl

-- ---- behind turns
abbrev with_fields : SetUp → (processors : ℕ) → List Entry → (buffer sent : ℕ) → LiveContents
with_fields set_up processors history buffer sent = record { contents = record { set_up = set_up; processors = processors; history = history }; buffer = buffer; sent = sent }

module _ (setting : Setting) (old : LiveWorldValue) (manned : IsMannedLive old) (memory : LiveContents) (j : ProcessorValue) (n : ℕ) (same : IsSameMemory old.memory memory)
    (advanced : (p : Processor) → StandsFor setting.meaning.pages old.processor p
    → HasAdvanced setting old.memory.contents.set_up AreNone old.processor.budget p n j old.memory.contents.history memory.contents.history) where
  abbrev pub behind : LiveWorldValue
  behind = record { memory = memory; processor = j; budget = old.budget }

  within : (p q : Processor) → IsTurns setting old.memory.contents.set_up AreNone old.processor.budget p old.memory.contents.history n q memory.contents.history
      → IsTurns setting old.memory.contents.set_up AreNone old.budget p old.memory.contents.history n q memory.contents.history
  within p q turns = subst (λ (b : ℕ). IsTurns setting old.memory.contents.set_up AreNone b p old.memory.contents.history n q memory.contents.history) manned.own.budget turns

  legal_by : TurnsStayLegal → (legal : IsLegalLive setting old) (q : Processor) → StandsFor setting.meaning.pages j q
      → IsTurns setting old.memory.contents.set_up AreNone old.processor.budget legal.processor old.memory.contents.history n q memory.contents.history → IsLegalLive setting behind
  legal_by law legal q stands turns = record {
    processor = q;
    stands = stands;
    legal =
        subst (λ (u : SetUp). IsLegal setting u old.budget (reverse memory.contents.history) (q ∷ [])) (sym same.set_up)
        (many_stay_legal law setting old.memory.contents.set_up old.budget 0 legal.processor old.memory.contents.history (legal.processor ∷ []) legal.legal refl (within legal.processor q turns));
  }

  pub legal_behind : TurnsStayLegal → IsLegalLive setting old → IsLegalLive setting behind
  legal_behind law legal =
      let made = advanced legal.processor legal.stands in
      legal_by law legal made.processor made.stands made.turned

  -- it waits where it asks
  pub asks_behind : TurnsStayLegal → (legal : IsLegalLive setting old)
      → HasPaused setting old.memory.contents.set_up old.processor.budget legal.processor n j old.memory.contents.history memory.contents.history → NextAsks setting behind
  unfolding legal_by
  asks_behind law legal paused = record {
    legal = legal_by law legal paused.processor paused.stands paused.turned;
    asks = subst (λ (b : ℕ). next_asks_get setting b paused.processor ≡ true) manned.own.budget paused.asks;
  }

  grows : (p q : Processor) → IsTurns setting old.memory.contents.set_up AreNone old.processor.budget p old.memory.contents.history n q memory.contents.history
      → Adds old.memory.contents.history memory.contents.history
  grows p q turns = turns_add setting old.memory.contents.set_up old.processor.budget p old.memory.contents.history turns

  -- the history goes on
  pub history_grows : IsLegalLive setting old → Adds old.memory.contents.history memory.contents.history
  history_grows legal = let made = advanced legal.processor legal.stands in grows legal.processor made.processor made.turned

  pub asked_behind : TurnsStayLegal → IsLegalLive setting old → IsAskedFor setting old → IsAskedFor setting behind
  unfolding legal_by
  asked_behind law legal (all few) =
      all (omega (arith, few, ap (λ (u : SetUp). length u.input) same.set_up, gets_grow old.memory.contents.history memory.contents.history (history_grows legal)))
  asked_behind law legal (next count asks) =
      let was = asks.legal in
      let made = advanced was.processor was.stands in
      let input : length memory.contents.set_up.input ≡ length old.memory.contents.set_up.input = ap (λ (u : SetUp). length u.input) same.set_up in
      elim (none_or_asked setting old.memory.contents.set_up old.budget was.processor old.memory.contents.history manned.limit asks.asks (within was.processor made.processor made.turned)) [
        | inl none ↦ next (omega (arith, input, count, ap (λ (h : List Entry). gets (reverse h)) none.1)) (record {
          legal = legal_by law was made.processor made.stands made.turned;
          asks = ap (next_asks_get setting old.budget) none.0 ∙ asks.asks;
        })
        | inr more ↦ all (omega (arith, input, count, more))
      ]

  pub sent_behind : IsLegalLive setting old → sent_of memory ≡ sent_of old.memory
  sent_behind legal =
      ap (λ sent. take sent (output_of memory.contents.history)) same.sent
      ∙ sent_stays old.memory.sent old.memory.contents.history memory.contents.history (history_grows legal) manned.sent

  pub few_sent : IsLegalLive setting old → memory.sent ≤ bytes_put memory.contents.history
  few_sent legal = omega (arith, same.sent, manned.sent, puts_grow old.memory.contents.history memory.contents.history (history_grows legal))

  -- where no turn was made
  pub unmade_behind : IsLegalLive setting old → n ≡ 0 → memory ≡ old.memory
  unmade_behind legal none =
      let made = advanced legal.processor legal.stands in
      let history = none_made setting old.memory.contents.set_up old.processor.budget legal.processor old.memory.contents.history made.turned none in
      ap (λ (u : SetUp). with_fields u memory.contents.processors memory.contents.history memory.buffer memory.sent) same.set_up
      ∙ ap (λ (m : ℕ). with_fields old.memory.contents.set_up m memory.contents.history memory.buffer memory.sent) same.processors
      ∙ ap (λ (h : List Entry). with_fields old.memory.contents.set_up old.memory.contents.processors h memory.buffer memory.sent) history
      ∙ ap (λ (b : ℕ). with_fields old.memory.contents.set_up old.memory.contents.processors old.memory.contents.history b memory.sent) same.buffer
      ∙ ap (λ (m : ℕ). with_fields old.memory.contents.set_up old.memory.contents.processors old.memory.contents.history old.memory.buffer m) same.sent

  -- it is spent only where it has no step left
  pub spent_behind : IsLegalLive setting old → j.budget ≡ old.processor.budget
      → (is_spent (processor_of old.processor).mode ≡ false → is_spent (processor_of j).mode ≡ true → j.steps ≡ j.budget)
      → is_spent (processor_of j).mode ≡ true → j.steps ≡ old.budget
  spent_behind legal budget anew spends = by (is_spent (processor_of old.processor).mode) refl
    where
      by : (b : Bool) → is_spent (processor_of old.processor).mode ≡ b → j.steps ≡ old.budget
      by false is = anew is spends ∙ budget ∙ manned.own.budget
      by true is =
          let made = advanced legal.processor legal.stands in
          let mode = spent_mode legal.processor.mode (spent_is setting.meaning.pages old.processor legal.processor legal.stands ∙ is) in
          let stays : made.processor ≡ legal.processor =
          ended_stays setting old.memory.contents.set_up old.processor.budget legal.processor old.memory.contents.history ends.Spent mode made.turned in
          ap (λ (x : Processor). x.steps) (sym made.stands.same ∙ stays ∙ legal.stands.same) ∙ manned.spent is
