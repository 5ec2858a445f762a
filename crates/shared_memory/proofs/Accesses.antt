-- What one access says of its pass.
use Rattle.std.proofs.Common.{◌≡◌, ◌<◌, ℕ, Bool, true, false, is_some, List, [], ◌∷◌, ◌++◌, length, reverse, refl, sym, ap, ◌∙◌, subst, arith, append_assoc, length-append, Option, Some, None}
use Rattle.memory_core.specs.declared.entry.Entry.{Entry}
use Rattle.memory_core.specs.declared.entry.Request.{Request}
use Rattle.memory_core.specs.declared.entry.SetUp.{SetUp}
use Rattle.memory_core.specs.Contents.{Contents, entry_for, Appends}
use Rattle.memory_core.specs.Limits.{counts, IsAtLimit, IsWithin}
use Rattle.memory_core.specs.Order.{own, Meets}
use Rattle.shared_memory.specs.declared.view.View.{View}
use Rattle.shared_memory.specs.Rule.{behind, IsLegal}
use Rattle.memory_core.specs.declared.entry.Reply.{Reply}
use Rattle.memory_core.specs.declared.entry.Reply.TheVariants.{Made, Full}
use Rattle.memory_core.specs.declared.state.MemState.{MemState}
use Rattle.memory_core.specs.Requests.{CanMake, MatchReply}
use Rattle.memory_core.specs.Seen.{IsNext, IsOver}
use Rattle.shared_memory.specs.Steps.{Sat, Won, winning, entered, given_back}
use Rattle.shared_memory.specs.Views.{Any, IsNone, IsPass}
use Rattle.shared_memory.specs.Ways.{HasCome, IsHome, IsLease, IsWay, IsWayOf, number_by, seen_with}
use Rattle.shared_memory.specs.Passes.{start_of}
use Rattle.shared_memory.specs.declared.shared.SharedMemory.{SharedMemory}
use Rattle.shared_memory.specs.declared.way.Way.{Way}
use Rattle.shared_memory.proofs.Own.{append_nil, own-push, own-append}

abbrev pub in_option : Contents → Option Contents → Contents
in_option d (Some a) = a
in_option d None = d

abbrev in_hand : Contents → List (ℕ × Option Contents) → Contents
in_hand d [] = d
in_hand d (x ∷ xs) = in_option d x.1

same_state : (m : List (ℕ × Option Contents)) (a b : Contents) → m ≡ (0, Some a) ∷ [] → m ≡ (0, Some b) ∷ [] → b ≡ a
same_state m a b p q = ap (in_hand a) (sym q ∙ p)

-- an access from the winning of the turn to the memory out of the slot
pub record Out (k : Contents) (p : ℕ) (m w x : Sat) (state : Contents) : Type 0 where
  pub is : IsPass k p m.0
  pub free : m.1 ≡ []
  pub mine : own m.0.number m.0.seen ≡ m.0.own
  pub won : Won m w
  pub hand : w.1 ≡ (0, Some state) ∷ []
  pub out : x ≡ (w.0, (0, None) ∷ [])

module _ (k : Contents) (p : ℕ) (m w x : Sat) (state : Contents) (o : Out k p m w x state) where
  -- the memory that was taken out is the one that was won
  pub taken : state ≡ behind k o.won.history
  taken = same_state w.1 (behind m.0.start o.won.history) state (ap (λ (s : Sat). s.1) o.won.is ∙ ap (λ l. (0, Some (behind m.0.start o.won.history)) ∷ l) o.free) o.hand
      ∙ ap (λ (c : Contents). behind c o.won.history) o.is.about

  -- the view with which the memory is out
  pub out_view : x.0 ≡ winning m.0 o.won.history
  out_view = ap (λ (s : Sat). s.0) o.out ∙ ap (λ (s : Sat). s.0) o.won.is

  -- entries of others alone have come
  abbrev between : List Entry
  between = o.won.later.0

  cancel : (xs ys : List Entry) → xs ++ ys ≡ xs → ys ≡ []
  cancel xs ys e = none_left ys (omega (arith, ap length e, length-append xs ys))
    where
      none_left : (zs : List Entry) → length zs ≡ 0 → zs ≡ []
      none_left [] h = refl
      none_left (z ∷ zs) h = absurd (omega arith)

  others : own p between ≡ []
  others = subst (λ (n : ℕ). own n between ≡ []) o.is.number_is
      (cancel (own m.0.number m.0.seen) (own m.0.number between)
      (sym (own-append m.0.number m.0.seen between) ∙ (ap (own m.0.number) o.won.later.1 ∙ (o.won.own ∙ sym o.mine))))

  whole : state.history ≡ m.0.seen ++ between
  whole = ap (λ (c : Contents). c.history) taken ∙ sym o.won.later.1

  -- so the processor has the memory, to which it has added nothing
  pub has : IsLease k p x state
  has = record {
    about = ap (λ (v : View). v.start) out_view ∙ o.is.about;
    lives = ap (λ (v : View). v.lives) out_view ∙ o.is.lives;
    number_is = ap (λ (v : View). v.number) out_view ∙ o.is.number_is;
    within = o.is.within;
    turn = (ap (λ (v : View). v.turn) out_view, ap (λ (v : View). v.keeps) out_view ∙ o.is.keeps, ap (λ (s : Sat). s.1) o.out);
    news = [];
    its = refl;
    is = taken ∙ ap (behind k) (sym (ap (λ (v : View). v.found) out_view) ∙ sym (append_nil x.0.found));
    legal = subst (λ (c : Contents). IsLegal k.set_up c.history) (sym taken) (subst (λ (c : Contents). IsLegal c.set_up o.won.history) o.is.about o.won.legal);
  }

  pub come : HasCome p m.0.seen state.history
  come = record { between = between; others = others; seen = whole }

-- ---- at home
pub at_home : (k : Contents) (p : ℕ) (m : Sat) (whole : Option MemState) → is_some whole ≡ false → IsWay k p m whole → IsHome k p m
at_home k p m None none home = home
at_home k p m (Some state) none lease = absurd (cc none)

pub seen_at_home : (m : Sat) (whole : Option MemState) → is_some whole ≡ false → seen_with m whole ≡ m.0.seen
seen_at_home m None none = refl
seen_at_home m (Some state) none = absurd (cc none)

-- ---- either way
number_at : (k : Contents) (p : ℕ) (m : Sat) (whole : Option MemState) → IsWay k p m whole → m.0.number ≡ p
number_at k p m None home = home.pass.number_is
number_at k p m (Some state) lease = lease.number_is

-- a way has one processor's number
pub number_of_way : (memory : SharedMemory) (p : ℕ) (way : Way) → IsWayOf memory p way → number_by way ≡ p
number_of_way memory p way of = number_at (start_of memory) p way.seat.me way.whole of.is

-- ---- with the memory
module _ (k : Contents) (p : ℕ) (m : Sat) (state : Contents) (l : IsLease k p m state) where
  set_up_is : state.set_up ≡ k.set_up
  set_up_is = ap (λ (c : Contents). c.set_up) l.is

  pub processors_is : state.processors ≡ k.processors
  processors_is = ap (λ (c : Contents). c.processors) l.is

  -- what is asked of an access
  pub can_make : (request : Request) → request.processor ≡ p → CanMake k.set_up request → (request.processor < state.processors) × CanMake state.set_up request
  can_make request mine can = let in_it = l.within in let same = processors_is in (
    omega (arith, mine, in_it, same),
    subst (λ (set_up : SetUp). CanMake set_up request) (sym set_up_is) can,
  )

  -- an entry of the processor's own goes behind
  pub has_on : (after : Contents) (request : Request) (before : ℕ) (success : Bool) → request.processor ≡ p → Appends state after request before success
      → Meets after.set_up (reverse after.history) → IsWithin after.set_up.limit after.history → IsLease k p m after
  has_on after request before success mine a order room =
      let e = entry_for state.set_up state.history request in
      let is : after ≡ behind k (m.0.found ++ (l.news ++ e ∷ [])) = a.entry ∙ (ap (λ (c : Contents). behind c (c.history ++ e ∷ [])) l.is ∙ ap (behind k) (append_assoc m.0.found l.news (e ∷ []))) in record {
        about = l.about;
        lives = l.lives;
        number_is = l.number_is;
        within = l.within;
        turn = l.turn;
        news = l.news ++ e ∷ [];
        its = own-push p l.news e mine ∙ ap (λ (es : List Entry). es ++ e ∷ []) l.its;
        is = is;
        legal = subst (λ (c : Contents). IsLegal c.set_up after.history) is (record { order = order; room = room });
      }

  -- whatever the reply
  pub has_behind : (after : Contents) (request : Request) (reply : Reply) → request.processor ≡ p → MatchReply reply (Appends state after request) (after ≡ state)
      → Meets after.set_up (reverse after.history) → IsWithin after.set_up.limit after.history → IsLease k p m after
  has_behind after request (Made before success) mine a order room = has_on after request before success mine a order room
  has_behind after request Full mine same order room = subst (IsLease k p m) (sym same) l

  pub next_on : (after : Contents) (request : Request) (before : ℕ) (success : Bool) → Appends state after request before success
      → Meets after.set_up (reverse after.history) → IsWithin after.set_up.limit after.history → IsNext k.set_up IsNone request before success state.history after.history
  next_on after request before success a order room =
      let same : entry_for state.set_up state.history request ≡ entry_for k.set_up (state.history ++ []) request
      = ap (λ (set_up : SetUp). entry_for set_up state.history request) set_up_is ∙ ap (λ (h : List Entry). entry_for k.set_up h request) (sym (append_nil state.history)) in
      let set_up_on : after.set_up ≡ k.set_up = ap (λ (c : Contents). c.set_up) a.entry ∙ set_up_is in record {
        between = [];
        others = refl;
        come = refl;
        seen = ap (λ (c : Contents). c.history) a.entry ∙ (ap (λ (h : List Entry). h ++ entry_for state.set_up state.history request ∷ []) (sym (append_nil state.history)) ∙ ap (λ (e : Entry). (state.history ++ []) ++ e ∷ []) same);
        found = a.found ∙ ap (λ (e : Entry). e.before) same;
        succeeded = a.succeeded ∙ ap (λ (e : Entry). e.success) same;
        order = subst (λ (set_up : SetUp). Meets set_up (reverse after.history)) set_up_on order;
        room = subst (λ (set_up : SetUp). IsWithin set_up.limit after.history) set_up_on room;
      }

  pub over_on : (request : Request) → (counts state.set_up.limit request.kind ≡ true) × IsAtLimit state.set_up.limit state.history
      → IsOver k.set_up IsNone request state.history state.history
  over_on request limit = record {
    between = [];
    others = refl;
    come = refl;
    seen = sym (append_nil state.history);
    counts = subst (λ (set_up : SetUp). counts set_up.limit request.kind ≡ true) set_up_is limit.0;
    full = subst (λ (set_up : SetUp). IsAtLimit set_up.limit state.history) set_up_is limit.1;
    order = l.legal.order;
  }

  -- given back
  pub home_again : (y : Sat) → y ≡ (given_back (entered m.0 state.history), []) → IsHome k p y
  home_again y end = subst (IsHome k p) (sym end) (record {
    pass = record { about = l.about; lives = l.lives; number_is = l.number_is; within = l.within; keeps = l.turn.1; turn = refl };
    slots = refl;
    mine = refl;
  })

-- ---- what came before, and the access behind it
module _ (set_up : SetUp) (p : ℕ) (old mid new : List Entry) (c : HasCome p old mid) where
  pub next_behind : (request : Request) (before : ℕ) (success : Bool) → request.processor ≡ p → IsNext set_up IsNone request before success mid new
      → IsNext set_up Any request before success old new
  next_behind request before success mine n =
      let same : mid ++ n.between ≡ old ++ c.between = ap (λ (l : List Entry). mid ++ l) n.come ∙ (append_nil mid ∙ c.seen) in
      let entry : entry_for set_up (mid ++ n.between) request ≡ entry_for set_up (old ++ c.between) request = ap (λ (h : List Entry). entry_for set_up h request) same in record {
        between = c.between;
        others = subst (λ (q : ℕ). own q c.between ≡ []) (sym mine) c.others;
        come = tt;
        seen = n.seen ∙ ap (λ (h : List Entry). h ++ entry_for set_up h request ∷ []) same;
        found = n.found ∙ ap (λ (e : Entry). e.before) entry;
        succeeded = n.succeeded ∙ ap (λ (e : Entry). e.success) entry;
        order = n.order;
        room = n.room;
      }

  pub over_behind : (request : Request) → request.processor ≡ p → IsOver set_up IsNone request mid new → IsOver set_up Any request old new
  over_behind request mine n = record {
    between = c.between;
    others = subst (λ (q : ℕ). own q c.between ≡ []) (sym mine) c.others;
    come = tt;
    seen = n.seen ∙ (ap (λ (l : List Entry). mid ++ l) n.come ∙ (append_nil mid ∙ c.seen));
    counts = n.counts;
    full = n.full;
    order = n.order;
  }
