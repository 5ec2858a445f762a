-- A memory behind a byte that is given, and behind output that is sent.
use Rattle.std.proofs.Common.{◌≡◌, ◌≢◌, ℕ, suc, ◌<◌, ◌≤◌, ◌+◌, ◌-◌, ◌^◌, ◌%◌, ◌&&◌, Bool, true, false, if◌then◌else◌, List, [], ◌∷◌, ◌++◌, length, drop, min, Vec, reverse, vec_capacity, refl, sym, ap, ◌∙◌, arith, append-nil, length-append}
use Rattle.std.specs.Prelude.{not}
use Rattle.std.specs.declared.alloc.Global.{Global}
use Rattle.std.proofs.lemmas.List.{get_or_append_left}
use lib.Seq.{drop-length}
use Rattle.image_file.specs.Values.{ImageValue}
use Rattle.memory_core.specs.declared.entry.Entry.{Entry}
use Rattle.memory_core.specs.declared.entry.Limit.{Limit}
use Rattle.memory_core.specs.declared.entry.Limit.TheVariants.{Entries, Puts}
use Rattle.memory_core.specs.declared.entry.SetUp.{SetUp}
use Rattle.memory_core.specs.declared.told.ToldBytes.{ToldBytes}
use Rattle.memory_core.specs.declared.held.Held.TheInside.{Inside}
use Rattle.memory_core.specs.Contents.{output_of, bytes_put}
use Rattle.memory_core.specs.Fields.{AreCurrent, kept_of}
use Rattle.memory_core.specs.Kinds.{is_memory, is_conditional, is_get}
use Rattle.memory_core.specs.Laws.{MeetsGoOn}
use Rattle.memory_core.specs.Limits.{CountsPuts}
use Rattle.memory_core.specs.Opening.{opening}
use Rattle.memory_core.specs.Order.{stands_on, left_by, block_of, reserved, tries, strikes, gets, found, input_at, Fits, Meets}
use Rattle.memory_core.specs.Places.{quad_place}
use Rattle.memory_core.specs.Sound.{set_up_of, IsSound}

-- ---- a set-up in the place of another

found_step : (memory get : Bool) (left left' input input' : ℕ) → left ≡ left' → (get ≡ true → input ≡ input')
    → (if memory then left else if get then input else 0) ≡ (if memory then left' else if get then input' else 0)
found_step true get left left' input input' l i = l
found_step false true left left' input input' l i = i refl
found_step false false left left' input input' l i = refl

more_gets : (get : Bool) (n count : ℕ) → n < count → n < (if get then suc count else count)
more_gets true n count h = omega (arith, h)
more_gets false n count h = h

this_get : (get : Bool) (count : ℕ) → get ≡ true → count < (if get then suc count else count)
this_get true count h = omega arith
this_get false count h = absurd (cc h)

module _ (old new : SetUp) (image : new.image ≡ old.image) where
  left_same : (entries : List Entry) (quad : ℕ) → left_by new entries quad ≡ left_by old entries quad
  left_same [] quad = ap (λ (i : ImageValue). opening i quad) image
  left_same (e ∷ past) quad = ap (λ (v : ℕ). if stands_on e quad then e.after else v) (left_same past quad)

  current_same : (past : List Entry) (quads : List ℕ) → AreCurrent old past quads → AreCurrent new past quads
  current_same past quads c address place h =
      let at = c address place (ap (λ (i : ImageValue). quad_place i.pages.ranges address) (sym image) ∙ h) in
      record { within = at.within; is = at.is ∙ sym (left_same past (address - address % 8)) }

  module _ (miss : new.miss ≡ old.miss) where
    fits_same : (past : List Entry) (e : Entry) → (is_get e.kind ≡ true → input_at new.input (gets past) ≡ input_at old.input (gets past)) → Fits old past e → Fits new past e
    fits_same past e input f = record {
      before = f.before ∙ sym (found_step (is_memory e.kind) (is_get e.kind) (left_by new past e.quad) (left_by old past e.quad) (input_at new.input (gets past)) (input_at old.input (gets past)) (left_same past e.quad) input);
      success = f.success ∙ ap (λ (m : ℕ). if is_conditional e.kind then reserved past e.processor (block_of e.quad) && not (strikes m (suc (tries past e.processor))) else true) (sym miss);
      place = f.place;
      change = f.change;
      allowed = f.allowed;
      after = f.after;
    }

    meets_same : (entries : List Entry) → ((n : ℕ) → n < gets entries → input_at new.input n ≡ input_at old.input n) → Meets old entries → Meets new entries
    meets_same [] input m = tt
    meets_same (e ∷ past) input m = (
      meets_same past (λ n h. input n (more_gets (is_get e.kind) n (gets past) h)) m.0,
      fits_same past e (λ get. input (gets past) (this_get (is_get e.kind) (gets past) get)) m.1,
    )

inputs_on : (old new more : List ℕ) (count n : ℕ) → new ≡ old ++ more → (more ≢ [] → count ≤ length old) → n < count → input_at new n ≡ input_at old n
inputs_on old new [] count n is found h = ap (λ (xs : List ℕ). input_at xs n) (is ∙ append-nil old)
inputs_on old new (x ∷ more) count n is found h =
    let few = found (λ e. absurd (cc e)) in
    ap (λ (xs : List ℕ). input_at xs n) is ∙ get_or_append_left old (x ∷ more) 0xFFFF_FFFF n (omega (arith, few, h))

pub meets_go_on : MeetsGoOn
meets_go_on old new entries g m = meets_same old new g.image g.miss entries (λ n h. inputs_on old.input new.input g.more (gets entries) n g.input g.found h) m

-- ---- a byte that is given

min_is : (a b c : ℕ) → a ≡ b → b ≤ c → a ≡ min b c
min_is a b c same h = grind arith

module _ (m : Inside) (s : IsSound m) (byte : ℕ) (behind : ToldBytes) (input : Vec ℕ Global) (gone : behind.bytes ≡ m.behind.bytes ++ m.input.items)
    (one : input.items ≡ byte ∷ []) (read : gets (reverse m.history.entries) ≡ length (set_up_of m).input) where
  abbrev pub with_byte : Inside
  with_byte = record m { behind = behind; input = input; taken = 0 }

  pub input_given : behind.bytes ++ input.items ≡ (m.behind.bytes ++ m.input.items) ++ byte ∷ []
  input_given = ap (λ (xs : List ℕ). xs ++ input.items) gone ∙ ap (λ (xs : List ℕ). (m.behind.bytes ++ m.input.items) ++ xs) one

  inputs_given : (n : ℕ) → n < gets (reverse m.history.entries) → input_at (behind.bytes ++ input.items) n ≡ input_at (m.behind.bytes ++ m.input.items) n
  inputs_given n h = inputs_on (m.behind.bytes ++ m.input.items) (behind.bytes ++ input.items) (byte ∷ []) (gets (reverse m.history.entries)) n input_given (λ _. omega (arith, read)) h

  pub given_sound : IsSound with_byte
  given_sound = record {
    order = meets_same (set_up_of m) (set_up_of with_byte) refl refl (reverse m.history.entries) inputs_given s.order;
    within = s.within;
    word = s.word;
    index = s.index;
    quads = current_same (set_up_of m) (set_up_of with_byte) refl (reverse m.history.entries) m.quads.items s.quads;
    kept = s.kept;
    taken =
        let all = ap length gone in
        min_is (length behind.bytes + 0) (gets (reverse m.history.entries)) (suc (length (behind.bytes ++ input.items))) (omega (arith, all, read)) (omega (arith, all, read, length-append behind.bytes input.items));
    sent = s.sent;
    output = s.output;
    output_room = s.output_room;
    entries = s.entries;
    entries_room = s.entries_room;
  }

-- ---- output that is sent

none_kept : (limit : Limit) (history : List Entry) → CountsPuts limit → kept_of limit history ≡ []
none_kept (Puts n) history puts = refl
none_kept (Entries n) history puts = absurd puts

min_above : (a b c : ℕ) → a ≤ b → a ≤ c → a ≤ min b c
min_above a b c h k = grind arith

min_first : (a b c : ℕ) → a ≤ c → min a b ≤ c
min_first a b c h = grind arith

min_below : (a b c : ℕ) → b < c → min a b < c
min_below a b c h = grind arith

module _ (m : Inside) (s : IsSound m) (puts : CountsPuts m.limit) (buffer : ℕ) (room : buffer ≤ vec_capacity m.output) (sent : ℕ) (output : Vec ℕ Global) (most : ℕ)
    (all : sent ≡ bytes_put m.history.entries) (word : sent < 2 ^ 64) (none : output.items ≡ []) (same_room : vec_capacity output ≡ vec_capacity m.output) (is : most ≡ min (sent + buffer) (2 ^ 64 - 1)) where
  abbrev pub once_sent : Inside
  once_sent = record m { sent = sent; output = output; limit = Puts most }

  pub sent_sound : IsSound once_sent
  sent_sound = record {
    order = meets_same (set_up_of m) (set_up_of once_sent) refl refl (reverse m.history.entries) (λ n h. refl) s.order;
    within = omega (arith, is, all, min_above sent (sent + buffer) (2 ^ 64 - 1) (omega arith) (omega (arith, word)));
    word = omega (arith, is, min_below (sent + buffer) (2 ^ 64 - 1) (2 ^ 64) (omega arith));
    index = s.index;
    quads = current_same (set_up_of m) (set_up_of once_sent) refl (reverse m.history.entries) m.quads.items s.quads;
    kept = s.kept;
    taken = s.taken;
    sent = omega (arith, all);
    output = none ∙ sym (drop-length (output_of m.history.entries)) ∙ ap (λ (n : ℕ). drop n (output_of m.history.entries)) (sym all);
    output_room = omega (arith, is, min_first (sent + buffer) (2 ^ 64 - 1) (sent + vec_capacity output) (omega (arith, room, same_room)));
    entries = s.entries ∙ none_kept m.limit m.history.entries puts;
    entries_room = omega arith;
  }
