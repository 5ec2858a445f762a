-- What turns read of the input, where a GET waits for a byte.
use Rattle.std.proofs.Common.{◌≡◌, ℕ, suc, ◌≤◌, ◌==◌, ◌&&◌, ◌⊎◌, inl, inr, Bool, true, false, not, if◌then◌else◌, List, [], ◌∷◌, ◌++◌, length, refl, sym, ap, ◌∙◌, subst, arith}
use Rattle.std.specs.Prelude.{MatchBool, reverse}
use Rattle.std.proofs.lemmas.Bool.Decides.{nat_tests}
use Rattle.std.proofs.lemmas.List.{append-nil, reverse-append}
use Rattle.std.proofs.lemmas.Bool.{and_parts}
use Rattle.memory_core.specs.Contents.{entry_for}
use Rattle.memory_core.specs.Kinds.{is_get}
use Rattle.memory_core.specs.Live.{LiveContents, wants_input}
use Rattle.memory_core.specs.Order.{gets}
use Rattle.memory_core.specs.declared.entry.Entry.{Entry}
use Rattle.memory_core.specs.declared.entry.SetUp.{SetUp}
use Rattle.system_model.specs.Legal.{spent}
use Rattle.system_model.specs.Processors.{Processor, Turn, Went, Asks, Over, Stuck, turn}
use Rattle.system_model.specs.Settings.{Setting}
use Rattle.tie_switch.specs.Live.{AreNone, HasPaused, HasRead, IsSameMemory, asks_get, next_asks_get}
use Rattle.tie_switch.specs.ManyTurns.{IsBehind, IsTurns}
use Rattle.tie_switch.specs.Processors.{HasAdvanced, HasStep, HasTurned, ProcessorValue, StandsFor}
use Rattle.tie_switch.specs.Turns.{IsStill, IsTurn, Makes, is_out}
use Rattle.tie_switch.proofs.Advances.{behind_keeps}

-- as many GETs as before, or one more, for which it asked
abbrev Reads : (asks : Bool) → (old new : List Entry) → Type 0
Reads asks old new = (gets (reverse new) ≡ gets (reverse old)) ⊎ ((asks ≡ true) × (gets (reverse new) ≡ suc (gets (reverse old))))

same_reads : (asks : Bool) (old new : List Entry) → new ≡ old → Reads asks old new
same_reads asks old new e = inl (ap (λ (h : List Entry). gets (reverse h)) e)

one_more : (b : Bool) (count : ℕ) → ((if b then suc count else count) ≡ count) ⊎ ((b ≡ true) × ((if b then suc count else count) ≡ suc count))
one_more true count = inr (refl, refl)
one_more false count = inl refl

makes_read : (t : Turn) (u : SetUp) (p q : Processor) (old new : List Entry) → Makes t u AreNone p q old new → Reads (asks_get t) old new
makes_read (Went r) u p q old new m = same_reads false old new m.seen
makes_read (Asks request on) u p q old new (inl m) =
    let n = m.entry in
    let e = entry_for u (old ++ n.between) request in
    let is : new ≡ old ++ e ∷ [] = n.seen ∙ ap (λ (h : List Entry). h ++ e ∷ []) (ap (λ (b : List Entry). old ++ b) n.come ∙ append-nil old) in
    let turned : reverse new ≡ e ∷ reverse old = ap reverse is ∙ reverse-append old (e ∷ []) in
    subst (λ (h : List Entry). (gets h ≡ gets (reverse old)) ⊎ ((is_get request.kind ≡ true) × (gets h ≡ suc (gets (reverse old))))) (sym turned)
    (one_more (is_get request.kind) (gets (reverse old)))
makes_read (Asks request on) u p q old new (inr r) =
    same_reads (is_get request.kind) old new ((r.over).seen ∙ ap (λ (b : List Entry). old ++ b) (r.over).come ∙ append-nil old)
makes_read Over u p q old new m = same_reads false old new m.seen
makes_read Stuck u p q old new m = absurd m

turn_reads : (s : Setting) (u : SetUp) (p q : Processor) (old new : List Entry) (out : Bool) → MatchBool out (IsStill (spent p) q old new) (Makes (turn s p) u AreNone p q old new)
    → Reads (not out && asks_get (turn s p)) old new
turn_reads s u p q old new true m = same_reads false old new m.seen
turn_reads s u p q old new false m = makes_read (turn s p) u p q old new m

-- where a GET for which no byte is there waits, each finds a byte
read_by : (asks waits ended : Bool) (old new count : ℕ) → (new ≡ old) ⊎ ((asks ≡ true) × (new ≡ suc old)) → (waits && asks) ≡ false → waits ≡ (not ended && (old == count)) → ended ≡ false → old ≤ count
    → new ≤ count
read_by asks waits ended old new count (inl same) none is lasts few = omega (arith, same, few)
read_by asks waits ended old new count (inr more) none is lasts few =
    let test : (waits && true) ≡ false = ap (λ b. waits && b) (sym more.0) ∙ none in
    let left : waits ≡ false = first waits test in
    let other : (old == count) ≡ false = ap (λ b. not b && (old == count)) (sym lasts) ∙ sym is ∙ left in
    less old count new few other more.1
  where
    first : (w : Bool) → (w && true) ≡ false → w ≡ false
    first true e = e
    first false e = refl

    less : (n m k : ℕ) → n ≤ m → (n == m) ≡ false → k ≡ suc n → k ≤ m
    less n m k h e f = grind (arith, nat_tests)

pub reads_on : (s : Setting) (u : SetUp) (budget : ℕ) (p q : Processor) (old new : List Entry) (waits ended : Bool) (count : ℕ) → IsTurn s u AreNone budget p q old new
    → (waits && next_asks_get s budget p) ≡ false → waits ≡ (not ended && (gets (reverse old) == count)) → ended ≡ false → gets (reverse old) ≤ count → gets (reverse new) ≤ count
reads_on s u budget p q old new waits ended count turned none is lasts few =
    read_by (next_asks_get s budget p) waits ended (gets (reverse old)) (gets (reverse new)) count (turn_reads s u p q old new (is_out budget p) turned) none is lasts few

-- ---- over a live memory
pub same_behind : (first m n : LiveContents) → IsSameMemory first m → IsSameMemory m n → IsSameMemory first n
same_behind first m n before last = record {
  set_up = last.set_up ∙ before.set_up;
  processors = last.processors ∙ before.processors;
  buffer = last.buffer ∙ before.buffer;
  sent = last.sent ∙ before.sent;
}

pub same_there : (m n : LiveContents)
    → (n ≡ m) ⊎ ((n.contents.set_up ≡ m.contents.set_up) × (n.contents.processors ≡ m.contents.processors) × (n.buffer ≡ m.buffer) × (n.sent ≡ m.sent)) → IsSameMemory m n
same_there m n (inl still) = subst (IsSameMemory m) (sym still) (record { set_up = refl; processors = refl; buffer = refl; sent = refl })
same_there m n (inr (set_up, processors, buffer, sent)) = record { set_up = set_up; processors = processors; buffer = buffer; sent = sent }

abbrev pub IsSame : LiveContents → LiveContents → Type 0
IsSame m n = (n.contents.set_up ≡ m.contents.set_up) × (n.contents.processors ≡ m.contents.processors) × (n.buffer ≡ m.buffer) × (n.sent ≡ m.sent)

abbrev pub AreNoneIn : LiveContents → List Entry → Type 0
AreNoneIn m entries = entries ≡ []

-- behind accesses, none or more
pub same_many : (m n : LiveContents) → IsBehind IsSame m n → IsSameMemory m n
same_many m n behind = record {
  set_up = behind_keeps IsSame (λ (x : LiveContents). x.contents.set_up) (λ x y same. same.0) m behind;
  processors = behind_keeps IsSame (λ (x : LiveContents). x.contents.processors) (λ x y same. same.1) m behind;
  buffer = behind_keeps IsSame (λ (x : LiveContents). x.buffer) (λ x y same. same.2) m behind;
  sent = behind_keeps IsSame (λ (x : LiveContents). x.sent) (λ x y same. same.3) m behind;
}

-- with as many GETs
pub read_still : (m n : LiveContents) → n.contents.set_up ≡ m.contents.set_up → gets (reverse n.contents.history) ≡ gets (reverse m.contents.history) → HasRead m.contents → HasRead n.contents
read_still m n same count read = omega (arith, count, read, ap (λ (u : SetUp). length u.input) same)

pub reads_behind : (s : Setting) (budget : ℕ) (k j : ProcessorValue) (m n : LiveContents) (waits ended : Bool) (u : SetUp) → HasStep s u k → n.contents.set_up ≡ m.contents.set_up
    → ((p : Processor) → StandsFor s.meaning.pages k p → HasTurned s m.contents.set_up AreNone budget p j m.contents.history n.contents.history)
    → ((p : Processor) → StandsFor s.meaning.pages k p → (waits && next_asks_get s budget p) ≡ false)
    → waits ≡ (not ended && wants_input m.contents) → ended ≡ false → HasRead m.contents → HasRead n.contents
reads_behind s budget k j m n waits ended u there same turned none is lasts read =
    let next = turned there.processor there.stands in
    let count = length m.contents.set_up.input in
    let few : gets (reverse n.contents.history) ≤ count =
    reads_on s m.contents.set_up budget there.processor next.processor m.contents.history n.contents.history waits ended count next.turned (none there.processor there.stands) is lasts read in
    subst (λ (u : SetUp). gets (reverse n.contents.history) ≤ length u.input) (sym same) few

-- it has paused before a turn that asks
pub paused : (s : Setting) (u : SetUp) (budget n : ℕ) (p : Processor) (k j : ProcessorValue) (old new new' : List Entry) (waits : Bool) → HasAdvanced s u AreNone budget p n k old new → new' ≡ new
    → ((q : Processor) → StandsFor s.meaning.pages k q → StandsFor s.meaning.pages j q) → ((q : Processor) → StandsFor s.meaning.pages k q → (waits && next_asks_get s budget q) ≡ true)
    → HasPaused s u budget p n j old new'
paused s u budget n p k j old new new' waits made same still asks = record {
  processor = made.processor;
  stands = still made.processor made.stands;
  turned = subst (λ (h : List Entry). IsTurns s u AreNone budget p old n made.processor h) (sym same) made.turned;
  asks = (and_parts waits (next_asks_get s budget made.processor) (asks made.processor made.stands)).1;
}

pub still_advanced : (s : Setting) (u : SetUp) (budget n : ℕ) (p : Processor) (k j : ProcessorValue) (old new new' : List Entry) → HasAdvanced s u AreNone budget p n k old new → new' ≡ new
    → ((q : Processor) → StandsFor s.meaning.pages k q → StandsFor s.meaning.pages j q) → HasAdvanced s u AreNone budget p n j old new'
still_advanced s u budget n p k j old new new' made same still = record {
  processor = made.processor;
  stands = still made.processor made.stands;
  turned = subst (λ (h : List Entry). IsTurns s u AreNone budget p old n made.processor h) (sym same) made.turned;
}
