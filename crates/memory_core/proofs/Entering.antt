-- A memory's fields behind an entry.
use Rattle.std.proofs.Common.{◌≡◌, ℕ, suc, ◌<◌, ◌≤◌, ◌+◌, ◌%◌, Bool, true, false, if◌then◌else◌, List, [], ◌∷◌, ◌++◌, length, drop, Option, Some, None, IfSome, Vec, min, slice_index_or, reverse, vec_capacity, vec_len, refl, sym, ap, ◌∙◌, subst, arith, length-append}
use Rattle.std.specs.declared.alloc.Global.{Global}
use Rattle.std.proofs.lemmas.List.{drop-append-le, length-drop}
use Rattle.vax_form.specs.declared.pages.PageRange.{PageRange}
use Rattle.vax_form.specs.Pages.{is_allowed}
use Rattle.memory_core.specs.declared.entry.Change.{Change}
use Rattle.memory_core.specs.declared.entry.Change.TheVariants.{Byte}
use Rattle.memory_core.specs.declared.entry.Kind.{Kind}
use Rattle.memory_core.specs.declared.entry.Kind.TheVariants.{StoreConditional, Put, Get}
use Rattle.memory_core.specs.declared.entry.Entry.{Entry}
use Rattle.memory_core.specs.declared.entry.Limit.{Limit}
use Rattle.memory_core.specs.declared.entry.Limit.TheVariants.{Entries, Puts}
use Rattle.memory_core.specs.declared.entry.Request.{Request}
use Rattle.memory_core.specs.declared.entry.SetUp.{SetUp}
use Rattle.memory_core.specs.declared.reservation.Reservation.{Reservation}
use Rattle.memory_core.specs.declared.told.Told.{Told}
use Rattle.memory_core.specs.declared.told.ToldBytes.{ToldBytes}
use Rattle.memory_core.specs.declared.held.Held.TheInside.{Inside}
use Rattle.memory_core.specs.Changes.{IsInRange, Allows, is_change_of, leaves}
use Rattle.memory_core.specs.Contents.{output_of, entry_for}
use Rattle.memory_core.specs.Fields.{IsKept, AreCurrent, next_taken, stored_at, kept_of, most_kept}
use Rattle.memory_core.specs.Kinds.{is_memory, is_put, is_get}
use Rattle.memory_core.specs.Limits.{counts, counted, greatest, IsWithin, KeepsEntries}
use Rattle.memory_core.specs.Order.{left_by, input_at, gets, succeeds, Fits, Meets}
use Rattle.memory_core.specs.Places.{quad_place}
use Rattle.memory_core.specs.Requests.{CanMake}
use Rattle.memory_core.specs.Reservations.{none, next_reservation}
use Rattle.memory_core.specs.Sound.{set_up_of, IsSound}
use Rattle.memory_core.proofs.Choices.{if_true, if_false}
use Rattle.memory_core.proofs.Counting.{taken_more}
use Rattle.memory_core.proofs.Keeping.{kept_more as reservation_more, after_entry, current_more, reverse-push, output_of-push}
use Rattle.memory_core.proofs.Limits.{puts_count, puts_counted, within-push}
use Rattle.memory_core.proofs.Reading.{memory_kind, readable}

-- the byte of a PUT
byte_of_change : (change : Change) (success : Bool) (before : ℕ) → is_change_of Put change ≡ true → IsInRange change → leaves Put success change before % 256 ≡ leaves Put success change before
byte_of_change (Byte b) success before k r = omega (arith, r)
byte_of_change _ success before k r = absurd (cc k)

byte_put_at : (k : Kind) → k ≡ Put → (change : Change) (success : Bool) (before after : ℕ) → Allows k change → after ≡ leaves k success change before → after % 256 ≡ after
byte_put_at k is change success before after a e =
    let a' : Allows Put change = subst (λ (k : Kind). Allows k change) is a in
    let e' : after ≡ leaves Put success change before = e ∙ ap (λ (k : Kind). leaves k success change before) is in
    rw e' (byte_of_change change success before a'.fits a'.range)

pub byte_put : (set_up : SetUp) (past : List Entry) (e : Entry) → Fits set_up past e → e.kind ≡ Put → e.after % 256 ≡ e.after
byte_put set_up past e f is = byte_put_at e.kind is f.change e.success e.before e.after f.allowed f.after

-- ---- room

room_to_keep : (limit : Limit) (kind : Kind) (history : List Entry) (count room : ℕ) → count ≡ length (kept_of limit history) → most_kept limit ≤ room
    → (counts limit kind ≡ true → counted limit history < greatest limit) → KeepsEntries limit → count < room
room_to_keep (Entries most) kind history count room is least below keeps = omega (arith, is, least, below refl)
room_to_keep (Puts most) kind history count room is least below keeps = absurd keeps

module _ (m : Inside) (s : IsSound m) (kind : Kind) (room : counts m.limit kind ≡ true → counted m.limit m.history.entries < greatest m.limit) where
  pub room_for_byte : kind ≡ Put → vec_len m.output < vec_capacity m.output
  room_for_byte is =
      let below = room (ap (counts m.limit) is ∙ puts_count m.limit) in
      omega (arith, s.output_room, s.sent, below, puts_counted m.limit m.history.entries, ap length s.output, length-drop m.sent (output_of m.history.entries), m.output.ok.0)

  pub room_for_entry : KeepsEntries m.limit → vec_len m.kept < vec_capacity m.kept
  room_for_entry = room_to_keep m.limit kind m.history.entries (vec_len m.kept) (vec_capacity m.kept) (omega (arith, ap length s.entries, m.kept.ok.0)) s.entries_room room

-- ---- places

within_at : (m : Inside) → IsSound m → (address : ℕ) (o : Option ℕ) → quad_place m.index address ≡ o → IfSome o (λ i. i < length m.quads.items)
within_at m s address None h = tt
within_at m s address (Some i) h = (s.quads address i (ap (λ (rs : List PageRange). quad_place rs address) (sym s.index) ∙ h)).within

pub place_within : (m : Inside) → IsSound m → (address : ℕ) → IfSome (quad_place m.index address) (λ i. i < length m.quads.items)
place_within m s address = within_at m s address (quad_place m.index address) refl

-- ---- the fields once the entry's quadword, byte or place in the input is noted

pub record IsEntered (m n : Inside) (e : Entry) : Type 0 where
  pub set_up : set_up_of n ≡ set_up_of m
  pub behind : n.behind ≡ m.behind
  pub sent : n.sent ≡ m.sent
  pub index : n.index ≡ m.index
  pub reservations : n.reservations ≡ m.reservations
  pub history : n.history ≡ m.history
  pub quads : n.quads.items ≡ after_entry m.index m.quads.items e
  pub taken : n.taken ≡ (if is_get e.kind then next_taken (length m.input.items) m.taken else m.taken)
  pub output : n.output.items ≡ m.output.items ++ (if is_put e.kind then e.after ∷ [] else [])
  pub output_room : greatest m.limit ≤ m.sent + vec_capacity n.output
  pub entries : n.kept ≡ m.kept

no_get : (kind : Kind) → (kind ≡ Get → ⊥) → is_get kind ≡ false
no_get Get g = absurd (g refl)
no_get _ g = refl

no_put : (kind : Kind) → (kind ≡ Put → ⊥) → is_put kind ≡ false
no_put Put p = absurd (p refl)
no_put _ p = refl

append_nil : (xs : List ℕ) → xs ≡ xs ++ []
append_nil [] = refl
append_nil (x ∷ xs) = ap (λ (ys : List ℕ). x ∷ ys) (append_nil xs)

module _ (m : Inside) (e : Entry) (least : greatest m.limit ≤ m.sent + vec_capacity m.output) where
  pub entered_put : (out : Vec ℕ Global) → e.kind ≡ Put → out.items ≡ m.output.items ++ e.after ∷ [] → vec_capacity out ≡ vec_capacity m.output → IsEntered m (record m { output = out }) e
  entered_put out is items room = record {
    set_up = refl;
    behind = refl;
    sent = refl;
    index = refl;
    reservations = refl;
    history = refl;
    quads = rw is refl;
    taken = rw is refl;
    output = rw is items;
    output_room = omega (arith, room, least);
    entries = refl;
  }

  pub entered_get : (taken : ℕ) → e.kind ≡ Get → taken ≡ next_taken (length m.input.items) m.taken → IsEntered m (record m { taken = taken }) e
  entered_get taken is one = record {
    set_up = refl;
    behind = refl;
    sent = refl;
    index = refl;
    reservations = refl;
    history = refl;
    quads = rw is refl;
    taken = rw is one;
    output = rw is (append_nil m.output.items);
    output_room = least;
    entries = refl;
  }

  pub entered_memory : (quads : Vec ℕ Global) → (e.kind ≡ Put → ⊥) → (e.kind ≡ Get → ⊥) → quads.items ≡ stored_at (quad_place m.index e.quad) e.after m.quads.items → IsEntered m (record m { quads = quads }) e
  entered_memory quads p g items = record {
    set_up = refl;
    behind = refl;
    sent = refl;
    index = refl;
    reservations = refl;
    history = refl;
    quads = items ∙ ap (λ (b : Bool). if b then stored_at (quad_place m.index e.quad) e.after m.quads.items else m.quads.items) (sym (memory_kind e.kind p g));
    taken = ap (λ (b : Bool). if b then next_taken (length m.input.items) m.taken else m.taken) (sym (no_get e.kind g));
    output = append_nil m.output.items ∙ ap (λ (b : Bool). m.output.items ++ (if b then e.after ∷ [] else [])) (sym (no_put e.kind p));
    output_room = least;
    entries = refl;
  }

-- and once the entry is noted in reservations and history
pub record IsNoted (n o : Inside) (e : Entry) : Type 0 where
  pub set_up : set_up_of o ≡ set_up_of n
  pub behind : o.behind ≡ n.behind
  pub sent : o.sent ≡ n.sent
  pub index : o.index ≡ n.index
  pub quads : o.quads.items ≡ n.quads.items
  pub taken : o.taken ≡ n.taken
  pub output : o.output ≡ n.output
  pub count : length o.reservations.items ≡ length n.reservations.items
  pub kept : (p : ℕ) → p < length n.reservations.items → slice_index_or o.reservations.items p none ≡ next_reservation n.miss e p (slice_index_or n.reservations.items p none)
  pub entries : o.kept ≡ n.kept
  pub history : o.history.entries ≡ n.history.entries ++ e ∷ []

kept_more : (limit : Limit) (history : List Entry) (e : Entry) → kept_of limit history ++ kept_of limit (e ∷ []) ≡ kept_of limit (history ++ e ∷ [])
kept_more (Entries n) history e = refl
kept_more (Puts n) history e = refl

module _ (m n o : Inside) (e : Entry) (s : IsSound m) (f : Fits (set_up_of m) (reverse m.history.entries) e) (aligned : is_memory e.kind ≡ true → e.quad % 8 ≡ 0)
    (room : counts m.limit e.kind ≡ true → counted m.limit m.history.entries < greatest m.limit)
    (kept : Vec Entry Global) (more : kept.items ≡ m.kept.items ++ kept_of m.limit (e ∷ [])) (same_room : vec_capacity kept ≡ vec_capacity m.kept)
    (i : IsEntered (record m { kept = kept }) n e) (j : IsNoted n o e) where
  same_set_up : set_up_of o ≡ set_up_of m
  same_set_up = j.set_up ∙ i.set_up

  grown : o.history.entries ≡ m.history.entries ++ e ∷ []
  grown = j.history ∙ ap (λ (h : Told). h.entries ++ e ∷ []) i.history

  past : reverse o.history.entries ≡ e ∷ reverse m.history.entries
  past = ap reverse grown ∙ reverse-push m.history.entries e

  order_more : Meets (set_up_of o) (reverse o.history.entries)
  order_more = subst (λ (h : List Entry). Meets (set_up_of o) h) (sym past) (subst (λ (k : SetUp). Meets k (e ∷ reverse m.history.entries)) (sym same_set_up) (s.order, f))

  current : AreCurrent (set_up_of m) (e ∷ reverse m.history.entries) (after_entry m.index m.quads.items e)
  current =
      subst (λ (rs : List PageRange). AreCurrent (set_up_of m) (e ∷ reverse m.history.entries) (after_entry rs m.quads.items e)) (sym s.index)
      (current_more (set_up_of m) (reverse m.history.entries) m.quads.items e aligned s.quads)

  quads_more : AreCurrent (set_up_of o) (reverse o.history.entries) o.quads.items
  quads_more =
      subst (λ (q : List ℕ). AreCurrent (set_up_of o) (reverse o.history.entries) q) (sym (j.quads ∙ i.quads))
      (subst (λ (h : List Entry). AreCurrent (set_up_of o) h (after_entry m.index m.quads.items e)) (sym past)
      (subst (λ (k : SetUp). AreCurrent k (e ∷ reverse m.history.entries) (after_entry m.index m.quads.items e)) (sym same_set_up) current))

  same_miss : o.miss ≡ m.miss
  same_miss = ap (λ (k : SetUp). k.miss) same_set_up

  kept_all : (p : ℕ) → p < length o.reservations.items → IsKept o.miss (reverse o.history.entries) p (slice_index_or o.reservations.items p none)
  kept_all p lt =
      let same = i.reservations in
      let before : p < length m.reservations.items = omega (arith, lt, j.count, ap (λ (v : Vec Reservation Global). length v.items) same) in
      let here : p < length n.reservations.items = omega (arith, lt, j.count) in
      let is : slice_index_or o.reservations.items p none ≡ next_reservation m.miss e p (slice_index_or m.reservations.items p none) =
      j.kept p here
      ∙ ap (λ (v : Vec Reservation Global). next_reservation n.miss e p (slice_index_or v.items p none)) same
      ∙ ap (λ (k : SetUp). next_reservation k.miss e p (slice_index_or m.reservations.items p none)) i.set_up in
      subst (λ (miss : ℕ). IsKept miss (reverse o.history.entries) p (slice_index_or o.reservations.items p none)) (sym same_miss)
      (subst (λ (h : List Entry). IsKept m.miss h p (slice_index_or o.reservations.items p none)) (sym past)
      (subst (IsKept m.miss (e ∷ reverse m.history.entries) p) (sym is) (reservation_more m.miss (reverse m.history.entries) e p (slice_index_or m.reservations.items p none) (s.kept p before))))

  gets_more : (b : Bool) → length m.behind.bytes + (if b then next_taken (length m.input.items) m.taken else m.taken)
      ≡ min (if b then suc (gets (reverse m.history.entries)) else gets (reverse m.history.entries)) (suc (length (set_up_of m).input))
  gets_more true = taken_more (length m.behind.bytes) (length m.input.items) (length (set_up_of m).input) (gets (reverse m.history.entries)) m.taken (length-append m.behind.bytes m.input.items) s.taken
  gets_more false = s.taken

  taken_now : length o.behind.bytes + o.taken ≡ min (gets (reverse o.history.entries)) (suc (length (set_up_of o).input))
  taken_now =
      ap (λ (b : ToldBytes). length b.bytes + o.taken) (j.behind ∙ i.behind)
      ∙ ap (λ (t : ℕ). length m.behind.bytes + t) (j.taken ∙ i.taken)
      ∙ gets_more (is_get e.kind)
      ∙ ap (λ (h : List Entry). min (gets h) (suc (length (set_up_of m).input))) (sym past)
      ∙ ap (λ (k : SetUp). min (gets (reverse o.history.entries)) (suc (length k.input))) (sym same_set_up)

  abbrev put_now : List ℕ
  put_now = if is_put e.kind then e.after ∷ [] else []

  output_now : output_of o.history.entries ≡ output_of m.history.entries ++ put_now
  output_now = ap output_of grown ∙ output_of-push m.history.entries e

  same_sent : o.sent ≡ m.sent
  same_sent = j.sent ∙ i.sent

  output_more : o.output.items ≡ drop o.sent (output_of o.history.entries)
  output_more =
      ap (λ (v : Vec ℕ Global). v.items) j.output
      ∙ i.output
      ∙ ap (λ (xs : List ℕ). xs ++ put_now) s.output
      ∙ sym (drop-append-le m.sent (output_of m.history.entries) put_now s.sent)
      ∙ ap (drop m.sent) (sym output_now)
      ∙ ap (λ (n : ℕ). drop n (output_of o.history.entries)) (sym same_sent)

  same_limit : o.limit ≡ m.limit
  same_limit = ap (λ (k : SetUp). k.limit) same_set_up

  within_more : IsWithin o.limit o.history.entries
  within_more =
      subst (λ (l : Limit). IsWithin l o.history.entries) (sym same_limit)
      (subst (IsWithin m.limit) (sym grown) (within-push m.limit m.history.entries e room s.within))

  kept_is : o.kept ≡ kept
  kept_is = j.entries ∙ i.entries

  entries_more : o.kept.items ≡ kept_of o.limit o.history.entries
  entries_more =
      ap (λ (v : Vec Entry Global). v.items) kept_is
      ∙ more
      ∙ ap (λ (xs : List Entry). xs ++ kept_of m.limit (e ∷ [])) s.entries
      ∙ kept_more m.limit m.history.entries e
      ∙ ap (kept_of m.limit) (sym grown)
      ∙ ap (λ (l : Limit). kept_of l o.history.entries) (sym same_limit)

  pub sound_more : IsSound o
  sound_more = record {
    order = order_more;
    within = within_more;
    index = j.index ∙ i.index ∙ s.index ∙ ap (λ (k : SetUp). k.image.pages.ranges) (sym same_set_up);
    quads = quads_more;
    kept = kept_all;
    word = omega (arith, s.word, ap greatest same_limit);
    taken = taken_now;
    sent = omega (arith, s.sent, same_sent, ap length output_now, length-append (output_of m.history.entries) put_now);
    output = output_more;
    output_room = omega (arith, i.output_room, same_sent, ap (λ (v : Vec ℕ Global). vec_capacity v) j.output, ap greatest same_limit);
    entries = entries_more;
    entries_room = omega (arith, s.entries_room, same_room, ap (λ (v : Vec Entry Global). vec_capacity v) kept_is, ap most_kept same_limit);
  }

-- ---- the request's entry

pub entry_readable : (set_up : SetUp) (history : List Entry) (request : Request) → CanMake set_up request → is_memory request.kind ≡ true
    → is_allowed set_up.image.pages (entry_for set_up history request).quad false ≡ true
entry_readable set_up history request can memory =
    ap (λ (q : ℕ). is_allowed set_up.image.pages q false) (if_true (is_memory request.kind) request.quad 0 memory) ∙ readable set_up request can memory

pub meets-push : (set_up : SetUp) (history new : List Entry) (e : Entry) → Meets set_up (reverse history) → Fits set_up (reverse history) e → new ≡ history ++ e ∷ [] → Meets set_up (reverse new)
meets-push set_up history new e m f is = subst (λ (h : List Entry). Meets set_up h) (sym (ap reverse is ∙ reverse-push history e)) (m, f)

found_same : (b : Bool) (at : ℕ → ℕ) (quad other : ℕ) → (if b then at quad else other) ≡ (if b then at (if b then quad else 0) else other)
found_same true at quad other = refl
found_same false at quad other = refl

succeeds_same : (kind : Kind) (set_up : SetUp) (past : List Entry) (p quad : ℕ) → succeeds set_up past p kind quad ≡ succeeds set_up past p kind (if is_memory kind then quad else 0)
succeeds_same StoreConditional _ _ _ _ = refl
succeeds_same _ _ _ _ _ = refl

-- the entry that the order gives for a request fits
pub fits_entry : (set_up : SetUp) (history : List Entry) (request : Request) → CanMake set_up request → Fits set_up (reverse history) (entry_for set_up history request)
fits_entry set_up history request can = record {
  before = found_same (is_memory request.kind) (left_by set_up (reverse history)) request.quad (if is_get request.kind then input_at set_up.input (gets (reverse history)) else 0);
  success = succeeds_same request.kind set_up (reverse history) request.processor request.quad;
  place = if_false (is_memory request.kind) request.quad 0;
  change = request.change;
  allowed = can.change;
  after = refl;
}
