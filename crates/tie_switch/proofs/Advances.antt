-- Turns one after the other, local ones and others, over memories that accesses lead to.
use Rattle.std.proofs.Common.{◌≡◌, ℕ, suc, ◌+◌, ◌-◌, ◌<◌, ◌↔◌, ◌⊎◌, inl, inr, Bool, true, false, List, refl, sym, ◌∙◌, subst, arith}
use Rattle.std.specs.Prelude.{MatchBool}
use Rattle.memory_core.specs.Seen.{IsNext}
use Rattle.memory_core.specs.declared.entry.Entry.{Entry}
use Rattle.memory_core.specs.declared.entry.Request.{Request}
use Rattle.memory_core.specs.declared.entry.SetUp.{SetUp}
use Rattle.system_model.specs.Legal.{spent}
use Rattle.system_model.specs.Processors.{Processor, Turn, Went, Asks, Over, Stuck, turn}
use Rattle.system_model.specs.Settings.{Setting}
use Rattle.tie_switch.specs.ManyTurns.{Accesses, IsBehind, IsTurns, NoAccess, NoTurn, Turns}
use Rattle.tie_switch.specs.Processors.{CanStep, HasAdvanced, HasStep, HasSteps, HasTurned, ProcessorValue, StandsFor}
use Rattle.tie_switch.specs.Turns.{IsStill, IsTurn, Makes, is_out}

-- ---- what accesses lead to
pub both : {A B C : Type 0} → A ↔ B → B ↔ C → A ↔ C
both first second = (λ a. second.0 (first.0 a), λ c. first.1 (second.1 c))

-- what each access keeps, all keep
pub behind_keeps : {A B : Type 0} (same : A → A → Type 0) (of : A → B) → ((m n : A) → same m n → of n ≡ of m) → (first : A) {last : A} → IsBehind same first last → of last ≡ of first
behind_keeps same of each first NoAccess = refl
behind_keeps same of each first (Accesses {before = m} {after = n} more last) = each m n last ∙ behind_keeps same of each first more

-- and the accesses of a turn, at most one
pub behind_turn : {A : Type 0} (same : A → A → Type 0) (first m n : A) → IsBehind same first m → (n ≡ m) ⊎ same m n → IsBehind same first n
behind_turn same first m n behind (inl still) = subst (IsBehind same first) (sym still) behind
behind_turn same first m n behind (inr access) = Accesses behind access

-- accesses behind accesses
pub behind_both : {A : Type 0} (same : A → A → Type 0) (first m : A) {last : A} → IsBehind same first m → IsBehind same m last → IsBehind same first last
behind_both same first m behind NoAccess = behind
behind_both same first m behind (Accesses more last) = Accesses (behind_both same first m behind more) last

-- ---- where some entries may come that are among others, those may
module _ (s : Setting) (u : SetUp) (some all : List Entry → Type 0) (among : (entries : List Entry) → some entries → all entries) where
  more_next : (request : Request) (before : ℕ) (success : Bool) (old new : List Entry) → IsNext u some request before success old new → IsNext u all request before success old new
  more_next request before success old new n = record {
    between = n.between;
    others = n.others;
    come = among n.between n.come;
    seen = n.seen;
    found = n.found;
    succeeded = n.succeeded;
    order = n.order;
    room = n.room;
  }

  pub more_makes : (t : Turn) (p q : Processor) (old new : List Entry) → Makes t u some p q old new → Makes t u all p q old new
  more_makes (Went r) p q old new m = m
  more_makes (Asks request on) p q old new (inl m) =
      inl (record { before = m.before; success = m.success; entry = more_next request m.before m.success old new m.entry; goes = m.goes })
  more_makes (Asks request on) p q old new (inr m) =
      let over = m.over in
      inr (record { over = record { between = over.between; others = over.others; come = among over.between over.come; seen = over.seen; counts = over.counts; full = over.full; order = over.order }; goes = m.goes })
  more_makes Over p q old new m = m
  more_makes Stuck p q old new m = absurd m

  more_by : (b : Bool) (p q : Processor) (old new : List Entry) → MatchBool b (IsStill (spent p) q old new) (Makes (turn s p) u some p q old new)
      → MatchBool b (IsStill (spent p) q old new) (Makes (turn s p) u all p q old new)
  more_by true p q old new still = still
  more_by false p q old new m = more_makes (turn s p) p q old new m

  pub more_turn : (budget : ℕ) (p q : Processor) (old new : List Entry) → IsTurn s u some budget p q old new → IsTurn s u all budget p q old new
  more_turn budget p q old new t = more_by (is_out budget p) p q old new t

  pub more_turns : (budget : ℕ) (p : Processor) (old : List Entry) → {n : ℕ} {q : Processor} {new : List Entry} → IsTurns s u some budget p old n q new → IsTurns s u all budget p old n q new
  more_turns budget p old NoTurn = NoTurn
  more_turns budget p old (Turns {p = x} {q = y} {old = mid} {new = after} before last) = Turns (more_turns budget p old before) (more_turn budget x y mid after last)

-- ---- one after the other
module _ (s : Setting) (u : SetUp) (may_come : List Entry → Type 0) (budget : ℕ) where
  pub joined : (p : Processor) (old : List Entry) (m : ℕ) (x : Processor) (mid : List Entry) → IsTurns s u may_come budget p old m x mid
      → {n : ℕ} {q : Processor} {new : List Entry} → IsTurns s u may_come budget x mid n q new → IsTurns s u may_come budget p old (m + n) q new
  joined p old m x mid first NoTurn = let none : m ≡ m + 0 = omega arith in subst (λ k. IsTurns s u may_come budget p old k x mid) none first
  joined p old m x mid first (Turns {n = n} {p = y} {q = q} {old = near} {new = new} more last) =
      let one : suc (m + n) ≡ m + suc n = omega arith in
      subst (λ k. IsTurns s u may_come budget p old k q new) one (Turns (joined p old m x mid first more) last)

-- behind turns that it made, a processor makes others
pub goes_further : (s : Setting) (u v : SetUp) (may_come some : List Entry → Type 0) (budget most : ℕ) (p : Processor) (m n : ℕ) (k j : ProcessorValue) (old mid new : List Entry)
    → HasAdvanced s u may_come budget p m k old mid → ((entries : List Entry) → some entries → may_come entries) → v ≡ u → most ≡ budget
    → ((q : Processor) → StandsFor s.meaning.pages k q → HasAdvanced s v some most q n j mid new)
    → HasAdvanced s u may_come budget p (m + n) j old new
goes_further s u v may_come some budget most p m n k j old mid new made among same as_many more =
    let next = more made.processor made.stands in
    let turns : IsTurns s u some budget made.processor mid n next.processor new =
    subst (λ (x : SetUp). IsTurns s x some budget made.processor mid n next.processor new) same
    (subst (λ (b : ℕ). IsTurns s v some b made.processor mid n next.processor new) as_many next.turned) in
    record {
      processor = next.processor;
      stands = next.stands;
      turned = joined s u may_come budget p old m made.processor mid made.turned (more_turns s u some may_come among budget made.processor mid turns);
    }

-- or one turn more
pub next_turn : (s : Setting) (u v : SetUp) (may_come : List Entry → Type 0) (budget most : ℕ) (p : Processor) (m : ℕ) (k j : ProcessorValue) (old mid new : List Entry)
    → HasAdvanced s u may_come budget p m k old mid → (some : List Entry → Type 0) → ((entries : List Entry) → some entries → may_come entries) → v ≡ u → most ≡ budget
    → ((q : Processor) → StandsFor s.meaning.pages k q → HasTurned s v some most q j mid new)
    → HasAdvanced s u may_come budget p (m + 1) j old new
next_turn s u v may_come budget most p m k j old mid new made some among same as_many turned =
    let next = turned made.processor made.stands in
    let last : IsTurn s u some budget made.processor next.processor mid new =
    subst (λ (x : SetUp). IsTurn s x some budget made.processor next.processor mid new) same
    (subst (λ (b : ℕ). IsTurn s v some b made.processor next.processor mid new) as_many next.turned) in
    let one : suc m ≡ m + 1 = omega arith in
    record {
      processor = next.processor;
      stands = next.stands;
      turned =
          subst (λ n. IsTurns s u may_come budget p old n next.processor new) one
          (Turns made.turned (more_turn s u some may_come among budget made.processor next.processor mid new last));
    }

-- behind fewer turns than it may make it has a step
pub has_next : (s : Setting) (u : SetUp) (may_come : List Entry → Type 0) (most m : ℕ) (k j : ProcessorValue) (old mid : List Entry) → HasSteps s u may_come most k old
    → ((p : Processor) → StandsFor s.meaning.pages k p → HasAdvanced s u may_come k.budget p m j old mid) → m < most → HasStep s u j
has_next s u may_come most m k j old mid steps made fewer =
    let there = made steps.processor steps.stands in
    record { processor = there.processor; stands = there.stands; can = steps.can m there.processor mid fewer there.turned }

-- and behind any turns that it makes then, as many in all
pub has_more : (s : Setting) (u v : SetUp) (may_come some : List Entry → Type 0) (most m : ℕ) (k j : ProcessorValue) (old mid : List Entry) → HasSteps s u may_come most k old
    → ((p : Processor) → StandsFor s.meaning.pages k p → HasAdvanced s u may_come k.budget p m j old mid) → ((entries : List Entry) → some entries → may_come entries) → v ≡ u → j.budget ≡ k.budget
    → HasSteps s v some (most - m) j mid
has_more s u v may_come some most m k j old mid steps made among same as_many =
    let there = made steps.processor steps.stands in
    record {
      processor = there.processor;
      stands = there.stands;
      can = λ n q new fewer turns.
          let more : IsTurns s u some k.budget there.processor mid n q new =
          subst (λ (x : SetUp). IsTurns s x some k.budget there.processor mid n q new) same
          (subst (λ (b : ℕ). IsTurns s v some b there.processor mid n q new) as_many turns) in
          let within : m + n < most = omega (arith, fewer) in
          subst (λ (x : SetUp). CanStep s x q) (sym same)
          (steps.can (m + n) q new within
          (joined s u may_come k.budget steps.processor old m there.processor mid there.turned (more_turns s u some may_come among k.budget there.processor mid more)));
    }
