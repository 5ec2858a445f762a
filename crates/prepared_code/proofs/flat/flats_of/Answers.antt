-- One more word, in front of those that are known.
use Rattle.std.proofs.Common.{◌≡◌, ◌+◌, ◌-◌, ◌<◌, List, length, sym, ap, ◌∙◌, subst, arith}
use Rattle.std.proofs.Math.ListN.{set}
use Rattle.std.proofs.lemmas.List.{length-set}
use Rattle.std.proofs.lemmas.Option.{slice_get_within}
use Rattle.prepared_code.specs.Known.{guess_at, guess_of, most_straight, straight_words}
use Rattle.prepared_code.specs.declared.flat.Flat.{Flat}
use Rattle.prepared_code.proofs.Guesses.{AreUntold, one_more_guess, still_untold, untold_at_first}
use Rattle.prepared_code.proofs.Known.{AreKnownFrom, none_behind, one_more_known, one_more_number}
use Rattle.prepared_code.proofs.flat.flats_of.Goals as goal

pub loop-back-init : goal.loop-back-init
loop-back-init c =
    let counted : length c.in_ok-flats.flats.items ≡ length c.args.ready.now = omega (arith, c.in_ok-flats.ensures.len, c.in_ok-flats.flats.ok.0) in
    record {
      counted = counted;
      untold = untold_at_first (length c.args.ready.now) c.in_ok-flats.flats.items (length c.args.ready.now - 0) (c.in_ok-flats.ensures.items_if_clones_equal (λ _ e. e)) counted;
      straight = λ code are. sym (none_behind code (length c.args.ready.now - 0) (omega (arith, are.counted)));
      known = λ code are k f l found. absurd (omega (arith, l, counted, slice_get_within c.in_ok-flats.flats.items k f found));
    }

pub loop-back-preserved : goal.loop-back-preserved
loop-back-preserved c =
    let n = length c.args.ready.now in
    let flats = c.loop-back.flats.items in
    let place = n - 1 - c.loop-back.back in
    let flat = c.flat_at-flat.result in
    let number = c.straight_from-straight.result in
    let guess = c.guess_of.result in
    let before : n - c.loop-back.back ≡ place + 1 = omega (arith, c.loop-back-test.true) in
    let behind : place ≡ n - (c.loop-back.back + 1) = omega (arith, c.loop-back-test.true) in
    record {
      counted = length-set flats place _ ∙ c.loop-back.invariant.counted;
      untold = subst (AreUntold (set flats place (record flat { number = number; within = guess }))) behind
          (still_untold flats place (record flat { number = number; within = guess }) (subst (AreUntold flats) before c.loop-back.invariant.untold));
      straight = λ code are.
          one_more_number code place flat.number c.loop-back.straight number (ap (λ (f : Flat). f.number) (c.flat_at-flat.ensures code are))
          (c.loop-back.invariant.straight code are ∙ ap (λ k. straight_words code k most_straight) before) c.straight_from-straight.ensures.none c.straight_from-straight.ensures.more
          ∙ ap (λ k. straight_words code k most_straight) behind;
      known = λ code are.
          let here : place < length flats = omega (arith, c.loop-back.invariant.counted, c.loop-back-test.true) in
          let is = c.flat_at-flat.ensures code are in
          let later = subst (AreKnownFrom code flats) before (c.loop-back.invariant.known code are) in
          subst (λ k. AreKnownFrom code (set flats place (record flat { number = number; within = guess })) k) behind
          (one_more_known code flats place number guess flat here is
          (one_more_number code place flat.number c.loop-back.straight number (ap (λ (f : Flat). f.number) is)
          (c.loop-back.invariant.straight code are ∙ ap (λ k. straight_words code k most_straight) before) c.straight_from-straight.ensures.none c.straight_from-straight.ensures.more)
          (one_more_guess code flats place guess flat (c.loop-back.invariant.counted ∙ are.counted) here is later (subst (AreUntold flats) before c.loop-back.invariant.untold) (subst (λ (fs : List Flat). guess ≡ guess_of code (guess_at fs) place flat) c.deref.ensures.value (c.guess_of.ensures code are)))
          later);
    }

pub returns-clause-known : goal.returns-clause-known
returns-clause-known c = λ code are. record {
  counted = c.loop-back.invariant.counted ∙ are.counted;
  each = λ k f found. c.loop-back.invariant.known code are k f (omega (arith, c.loop-back-test.false)) found;
}
