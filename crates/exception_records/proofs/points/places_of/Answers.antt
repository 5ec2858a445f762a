use Rattle.std.proofs.Common.{arith, subst, ◌≡◌, length}
use Rattle.exception_records.proofs.Places.{AreEntered, all_entered, few_words, no_entry, one_past, one_told}
use Rattle.exception_records.proofs.points.places_of.Goals as goal
use Rattle.exception_records.proofs.points.places_of.Goals.{then-word-len, else-word-len}

pub overflow_cast-place : goal.overflow_cast-place
overflow_cast-place c = omega (arith, few_words c.args.points.now c.loop-place.place no_entry c.requires c.loop-place-test.true)

pub loop-place-preserved : goal.loop-place-preserved
loop-place-preserved c =
    elim c.if-word-len.branch [
      | then-word-len w ↦
          rw w.places-is (one_told c.loop-place.places.items c.args.points.now c.loop-place.place c.loop-place.invariant c.loop-place-test.true (omega (arith, w.if-word-len.true, c.len.ensures, c.loop-place.places.ok)))
      | else-word-len w ↦
          rw w.places-is (one_past c.loop-place.places.items c.args.points.now c.loop-place.place c.loop-place.invariant c.loop-place-test.true (omega (arith, w.if-word-len.false, c.len.ensures, c.loop-place.places.ok)))
    ]

pub returns : goal.returns
returns c = all_entered c.loop-place.places.items c.args.points.now c.requires (subst (AreEntered c.loop-place.places.items c.args.points.now) (let e : c.loop-place.place ≡ length c.args.points.now = omega (arith, c.loop-place-test.false) in e) c.loop-place.invariant)
