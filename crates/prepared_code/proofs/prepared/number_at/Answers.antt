-- The next pair has the place as its word, or none has.
use Rattle.std.proofs.Common.{◌≡◌, ◌≢◌, ◌<◌, ◌+◌, suc, length, get_or, arith}
use Rattle.std.proofs.lemmas.Bool.{ne_eqb}
use Rattle.prepared_code.proofs.Words.{no_number, no_next, one_number, one_next}
use Rattle.prepared_code.proofs.prepared.number_at.Goals.{else-next-pairs-via-then-next-pairs+else-pairs-next, else-next-pairs-via-else-next-pairs}
use Rattle.prepared_code.proofs.prepared.number_at.Goals as goal

pub returns-then-pairs-next-clause-number : goal.returns-then-pairs-next-clause-number
returns-then-pairs-next-clause-number c =
    let after : suc c.args.next ≡ c.args.next + 1 = omega arith in
    rw (← after) (one_number c.args.pairs.now c.args.next c.args.place c.requires.rise c.if-next-pairs.true c.if-pairs-next.true)

pub returns-then-pairs-next-clause-next : goal.returns-then-pairs-next-clause-next
returns-then-pairs-next-clause-next c =
    rw (ne_eqb (c.args.next + 1) 0 (λ e. omega (arith, e))) (one_next c.args.pairs.now c.args.next c.args.place c.requires.rise c.requires.next c.if-next-pairs.true c.if-pairs-next.true)

other : (c : goal.Joined-else-next-pairs) → c.args.next < length c.args.pairs.now → (get_or c.args.pairs.now c.args.next (0, 0)).1 ≢ c.args.place
other c h =
    elim c.else-next-pairs.branch [
      | else-next-pairs-via-then-next-pairs+else-pairs-next w ↦ w.if-pairs-next.false
      | else-next-pairs-via-else-next-pairs w ↦ absurd (omega (arith, h, w.if-next-pairs.false))
    ]

pub returns-else-next-pairs-clause-number : goal.returns-else-next-pairs-clause-number
returns-else-next-pairs-clause-number c = no_number c.args.pairs.now c.args.next c.args.place c.requires.rise c.requires.next (other c)

pub returns-else-next-pairs-clause-next : goal.returns-else-next-pairs-clause-next
returns-else-next-pairs-clause-next c = no_next c.args.pairs.now c.args.next c.args.place c.requires.rise c.requires.next (other c)
