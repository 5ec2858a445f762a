use Rattle.std.proofs.Common.{◌∙◌, ap, sym, refl, arith, slice_index_or, List}
use Rattle.std.proofs.lemmas.List.{get_or-replicate}
use Rattle.image_file.specs.Values.{ImageValue}
use Rattle.memory_core.specs.Places.{quads_of}
use Rattle.memory_core.specs.Reservations.{none}
use Rattle.memory_core.specs.declared.reservation.Reservation.{Reservation}
use Rattle.memory_core.proofs.Making.{fresh_sound}
use Rattle.memory_core.proofs.held.Held.new.Goals as goal

pub invariant_of-result : goal.invariant_of-result
invariant_of-result c =
    let ranges = λ (i : ImageValue). i.pages.ranges in
    let none_all = c.in_ok-reservations.ensures.items_if_clones_equal (λ _ e. e) in
    let count = c.in_ok-reservations.ensures.len in
    fresh_sound _ (record {
      index = c.in_ok-index.ensures ∙ ap ranges c.image.view_is ∙ ap ranges (sym c.of.ensures);
      quads = c.in_ok-quads.ensures ∙ ap (λ (i : ImageValue). quads_of i i.pages.ranges) (sym c.of.ensures);
      kept = λ p l. ap (λ (rs : List Reservation). slice_index_or rs p none) none_all ∙ get_or-replicate c.args.processors p none none (omega (arith, count));
      word = omega (arith, c.greatest.ensures);
      behind = c.nothing.ensures;
      taken = refl;
      sent = refl;
      output = c.in_ok-output.ensures.items;
      output_room = omega (arith, c.in_ok-output.ensures.exact, c.greatest.ensures);
      entries = c.in_ok-kept.ensures.items;
      entries_room = omega (arith, c.in_ok-kept.ensures.exact, c.most_kept.ensures);
      history = c.nothing-2.ensures;
    })
