use Rattle.std.proofs.Common.{◌++◌, ◌∷◌, ◌∙◌, [], sym, subst, refl, reverse}
use Rattle.memory_core.specs.Held.{Holding}
use Rattle.memory_core.specs.Limits.{counts, counted, greatest, IsWithin}
use Rattle.memory_core.specs.Order.{Meets}
use Rattle.memory_core.proofs.Entering.{entry_readable, fits_entry, meets-push}
use Rattle.memory_core.proofs.Limits.{room_below, within-push}
use Rattle.memory_core.proofs.held.Held.access.Goals as goal

pub enter-requires-clause-page : goal.enter-requires-clause-page
enter-requires-clause-page c = rw c.next_entry-entry.ensures (λ memory. entry_readable c.args.self.now.contents.set_up c.args.self.now.contents.history c.args.request.now c.requires.request memory)

pub enter-requires-clause-room : goal.enter-requires-clause-room
enter-requires-clause-room c =
    let old = c.args.self.now in
    let full = c.has_no_room.ensures in
    rw c.next_entry-entry.ensures (room_below (counts old.contents.set_up.limit c.args.request.now.kind) (counted old.contents.set_up.limit old.contents.history) (greatest old.contents.set_up.limit) (sym full.full ∙ c.if-has_no_room.false) full.within)

pub returns-clause-order : goal.returns-clause-order
returns-clause-order c =
    let old = c.args.self.now in
    let fits = fits_entry old.contents.set_up old.contents.history c.args.request.now c.requires.request in
    subst (λ (v : Holding). Meets v.contents.set_up (reverse v.contents.history)) (sym c.enter.ensures)
    (meets-push old.contents.set_up old.contents.history (old.contents.history ++ c.next_entry-entry.result ∷ []) c.next_entry-entry.result c.has_no_room.ensures.order (rw c.next_entry-entry.ensures fits) refl)

pub returns-clause-room : goal.returns-clause-room
returns-clause-room c =
    let old = c.args.self.now in
    let full = c.has_no_room.ensures in
    let room = room_below (counts old.contents.set_up.limit c.args.request.now.kind) (counted old.contents.set_up.limit old.contents.history) (greatest old.contents.set_up.limit) (sym full.full ∙ c.if-has_no_room.false) full.within in
    subst (λ (v : Holding). IsWithin v.contents.set_up.limit v.contents.history) (sym c.enter.ensures)
    (within-push old.contents.set_up.limit old.contents.history c.next_entry-entry.result (rw c.next_entry-entry.ensures room) full.within)
