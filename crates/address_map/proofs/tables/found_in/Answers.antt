use Rattle.std.proofs.Common.{◌/◌, ◌∙◌, None, sym, arith}
use Rattle.address_map.specs.Tables.{tables, IsInside}
use Rattle.address_map.proofs.Entering.{found_outside, found_empty, found_within, found_there}
use Rattle.address_map.proofs.tables.found_in.Goals as goal
use Rattle.address_map.proofs.tables.found_in.Goals.{then-place-upper-via-then-place-upper, then-place-upper-via-else-place-upper+then-upper-place-eq0}

pub returns-then-page-first : goal.returns-then-page-first
returns-then-page-first c = λ pairs are. sym (found_outside (tables c.args.first c.args.upper.now c.args.lower.now) pairs c.args.number are (λ inside. let low = inside.0 in omega (arith, c.if-page-first.true)))

pub returns-then-place-upper : goal.returns-then-place-upper
returns-then-place-upper c = λ pairs are.
    let t = tables c.args.first c.args.upper.now c.args.lower.now in
    elim c.then-place-upper.branch [
      | then-place-upper-via-then-place-upper w ↦ sym (found_outside t pairs c.args.number are (λ inside. let high = inside.1 in omega (arith, w.if-place-upper.true)))
      | then-place-upper-via-else-place-upper+then-upper-place-eq0 w ↦
          let low = c.if-page-first.false in
          let inside : IsInside t (c.args.number / 512) = (low, omega (arith, w.if-place-upper.false)) in
          sym (found_empty t pairs c.args.number are inside w.if-upper-place-eq0.true)
    ]

pub returns-in-Some : goal.returns-in-Some
returns-in-Some c = λ pairs are.
    let t = tables c.args.first c.args.upper.now c.args.lower.now in
    let inside : IsInside t (c.args.number / 512) = (c.if-page-first.false, omega (arith, c.if-page-first.false, c.if-place-upper.false)) in
    let there = found_there t pairs c.args.number are inside c.if-upper-place-eq0.false in
    c.in-Some.ensures.lookup.3.1 None ∙ there

pub returns-in-None : goal.returns-in-None
returns-in-None c = λ pairs are.
    let t = tables c.args.first c.args.upper.now c.args.lower.now in
    let inside : IsInside t (c.args.number / 512) = (c.if-page-first.false, omega (arith, c.if-page-first.false, c.if-place-upper.false)) in
    let within = found_within t pairs c.args.number are inside c.if-upper-place-eq0.false in
    absurd (omega (arith, within, c.in-None.ensures.lookup.3))
