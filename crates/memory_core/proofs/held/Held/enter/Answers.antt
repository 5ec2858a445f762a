use Rattle.std.proofs.Common.{◌≡◌, ◌<◌, ◌∙◌, true, ℕ, [], ◌∷◌, ◌++◌, ap, sym, refl, subst, arith, length, reverse, slice_index_or, List}
use Rattle.std.proofs.lemmas.List.{with_items_is}
use Rattle.memory_core.specs.declared.reservation.Reservation.{Reservation}
use Rattle.memory_core.specs.declared.held.Held.TheInside.{Inside}
use Rattle.std.specs.Vec.{with_items}
use Rattle.memory_core.specs.declared.entry.Kind.{Kind}
use Rattle.memory_core.specs.Held.{Holding}
use Rattle.memory_core.specs.Limits.{counts, counted, greatest}
use Rattle.memory_core.specs.Fields.{next_taken}
use Rattle.memory_core.specs.Order.{Fits}
use Rattle.memory_core.specs.Sound.{set_up_of, holding_of}
use Rattle.memory_core.specs.Reservations.{none}
use Rattle.memory_core.proofs.Entering.{room_for_byte, room_for_entry, place_within, byte_put, IsEntered, entered_put, entered_get, entered_memory, IsNoted, sound_more}
use Rattle.memory_core.proofs.held.Held.enter.Goals as goal
use Rattle.memory_core.proofs.held.Held.enter.Goals.{in-Put, in-Get, in_default}

below : (m : Inside) (holding : Holding) (kind : Kind) → holding_of m ≡ holding
    → (counts holding.contents.set_up.limit kind ≡ true → counted holding.contents.set_up.limit holding.contents.history < greatest holding.contents.set_up.limit)
    → counts m.limit kind ≡ true → counted m.limit m.history.entries < greatest m.limit
below m holding kind is room = subst (λ (v : Holding). counts v.contents.set_up.limit kind ≡ true → counted v.contents.set_up.limit v.contents.history < greatest v.contents.set_up.limit) (sym is) room

pub keep-requires : goal.keep-requires
keep-requires c = room_for_entry c.self.inside c.self.invariant c.args.entry.now.kind (below c.self.inside c.args.self.now c.args.entry.now.kind c.self.view_is c.requires.room)

pub push_reserved-requires : goal.push_reserved-requires
push_reserved-requires c =
    room_for_byte c.self.inside c.self.invariant c.args.entry.now.kind (below c.self.inside c.args.self.now c.args.entry.now.kind c.self.view_is c.requires.room) c.in-Put.is

pub store-requires : goal.store-requires
store-requires c = rw c.deref_mut.ensures.value (place_within c.self.inside c.self.invariant c.args.entry.now.quad)

pub invariant_of-self : goal.invariant_of-self
invariant_of-self c =
    let m = c.self.inside in
    let kept = c.keep.new.kept in
    let m' : Inside = record m { kept = kept } in
    let n = c.match-entry.self-inside in
    let e = c.args.entry.now in
    let s = c.self.invariant in
    let view = c.self.view_is in
    let fits : Fits (set_up_of m) (reverse m.history.entries) e = subst (λ (v : Holding). Fits v.contents.set_up (reverse v.contents.history) e) (sym view) c.requires.fits in
    let entered : IsEntered m' n e =
    elim c.match-entry.branch [
      | in-Put w ↦
          let byte = byte_put (set_up_of m) (reverse m.history.entries) e fits w.in-Put.is in
          let items = w.push_reserved.ensures.items ∙ rw w.to_le_bytes.ensures (ap (λ (b : ℕ). m.output.items ++ b ∷ []) byte) in
          subst (λ (x : Inside). IsEntered m' x e) (sym w.self-inside-is) (entered_put m' e s.output_room w.push_reserved.new.self w.in-Put.is items w.push_reserved.ensures.capacity)
      | in-Get w ↦
          let count : w.len.result ≡ length m.input.items = omega (arith, w.len.ensures, m.input.ok.0) in
          let one = w.next_taken-self-inside.ensures ∙ ap (λ (n : ℕ). next_taken n m.taken) count in
          subst (λ (x : Inside). IsEntered m' x e) (sym w.self-inside-is) (entered_get m' e s.output_room w.next_taken-self-inside.result w.in-Get.is one)
      | in_default w ↦
          subst (λ (x : Inside). IsEntered m' x e) (sym w.self-inside-is)
          (entered_memory m' e s.output_room (with_items m.quads w.store.new.quads) w.in_default.not-Put w.in_default.not-Get
          (with_items_is m.quads w.store.new.quads (omega (arith, w.store.auto.quads, w.deref_mut.ensures.len)) ∙ w.store.ensures ∙ rw w.deref_mut.ensures.value refl))
    ] in
    let reservations = with_items_is n.reservations c.note.new.reservations (omega (arith, c.note.auto.reservations, c.deref_mut-2.ensures.len)) in
    let o : Inside = record n { reservations = with_items n.reservations c.note.new.reservations; history = c.and-self-inside.result } in
    let noted : IsNoted n o e = record {
      set_up = refl;
      behind = refl;
      sent = refl;
      index = refl;
      quads = refl;
      taken = refl;
      output = refl;
      entries = refl;
      count = ap length reservations ∙ c.note.auto.reservations ∙ ap length c.deref_mut-2.ensures.value;
      kept = λ p lt. ap (λ (rs : List Reservation). slice_index_or rs p none) reservations ∙ (rw c.deref_mut-2.ensures.value at c.note.ensures) p lt;
      history = c.and-self-inside.ensures;
    } in
    let room = below m c.args.self.now e.kind view c.requires.room in
    sound_more m n o e s fits c.requires.aligned room kept c.keep.ensures.entries c.keep.ensures.room entered noted
