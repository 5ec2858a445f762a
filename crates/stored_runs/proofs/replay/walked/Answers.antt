use Rattle.std.proofs.Common.{rules, Vec, ◌≡◌, ℕ, List, Some, Ok, option_map, true, false, length, sym, ap, ◌∙◌, subst, arith}
use Rattle.std.specs.declared.alloc.Global.{Global}
use Rattle.std.proofs.lemmas.Result.{err_from_is_err_and}
use Rattle.image_file.proofs.Versions.{few_threads}
use Rattle.image_file.specs.Values.{ImageValue}
use Rattle.run_files.specs.Values.{OrderValue}
use Rattle.tie_switch.specs.Known.{AreFound as AreKnown}
use Rattle.vax_form.specs.Made.{Made}
use Rattle.stored_runs.specs.Marks.{AreUnmarked, mark_of}
use Rattle.stored_runs.specs.Replay.{EndValue, ReplayedValue, ends_from, with_ends}
use Rattle.stored_runs.specs.Stood.{AreAllMarks}
use Rattle.stored_runs.specs.World.{AreLeft}
use Rattle.stored_runs.proofs.Giving.{as_many, at_some, err_gives, from_first, not_walked, runs_give, runs_many, walked_gives, walked_marks}
use Rattle.stored_runs.proofs.replay.walked.Goals as goal

pub walk-requires : goal.walk-requires
walk-requires c = record { known = subst (λ p. AreKnown p c.in_ok-course.course.known.items) (ap (λ (i : ImageValue). i.pages) c.image.view_is) c.in_ok-course.ensures.known }

pub returns-then-not-branch-clause-gives : goal.returns-then-not-branch-clause-gives
returns-then-not-branch-clause-gives c =
    let pages = ap (λ (i : ImageValue). i.pages) c.image.view_is in
    let no : c.in_ok-walk.field-0 ≡ false = search rules in
    let walked = from_first c.args.image.now c.args.order.now c.deref-2.result.now c.deref.result.now c.deref-3.result.now c.in_ok-walk.field-0 false c.in_ok-world.world c.walk.new.self c.in_ok-course.course.marks c.walk.new.course.marks
    (c.deref-2.ensures.value ∙ ap (λ (o : OrderValue). o.input) c.order.view_is) (c.deref.ensures.value ∙ ap (λ (o : OrderValue). o.counts) c.order.view_is)
    (c.deref-3.ensures.value ∙ ap (λ (o : OrderValue). o.picks) c.order.view_is) no
    (c.in_ok-world.ensures.left c.deref-2.result.now) (subst (λ p. AreUnmarked p c.in_ok-course.course.marks) pages c.in_ok-course.ensures.marks) c.in_ok-world.ensures.fresh c.in_ok-walk.ensures.walked in
    not_walked c.args.image.now c.args.order.now c.walk.new.self c.walk.new.course.marks walked

pub runs-requires : goal.runs-requires
runs-requires c =
    let pages = ap (λ (i : ImageValue). i.pages) c.image.view_is in
    let yes : c.in_ok-walk.field-0 ≡ true = search rules in
    let walked = from_first c.args.image.now c.args.order.now c.deref-2.result.now c.deref.result.now c.deref-3.result.now c.in_ok-walk.field-0 true c.in_ok-world.world c.walk.new.self c.in_ok-course.course.marks c.walk.new.course.marks
    (c.deref-2.ensures.value ∙ ap (λ (o : OrderValue). o.input) c.order.view_is) (c.deref.ensures.value ∙ ap (λ (o : OrderValue). o.counts) c.order.view_is)
    (c.deref-3.ensures.value ∙ ap (λ (o : OrderValue). o.picks) c.order.view_is) yes
    (c.in_ok-world.ensures.left c.deref-2.result.now) (subst (λ p. AreUnmarked p c.in_ok-course.course.marks) pages c.in_ok-course.ensures.marks) c.in_ok-world.ensures.fresh c.in_ok-walk.ensures.walked in
    let many = as_many c.args.image.now c.args.order.now c.walk.new.self c.walk.new.course.marks walked in
    record { threads = omega (arith, many, few_threads c.args.image.now c.requires.whole); known = c.in_ok-walk.ensures.known }

pub returns-in_default-clause-gives : goal.returns-in_default-clause-gives
returns-in_default-clause-gives c =
    let pages = ap (λ (i : ImageValue). i.pages) c.image.view_is in
    let yes : c.in_ok-walk.field-0 ≡ true = search rules in
    let walked = from_first c.args.image.now c.args.order.now c.deref-2.result.now c.deref.result.now c.deref-3.result.now c.in_ok-walk.field-0 true c.in_ok-world.world c.walk.new.self c.in_ok-course.course.marks c.walk.new.course.marks
    (c.deref-2.ensures.value ∙ ap (λ (o : OrderValue). o.input) c.order.view_is) (c.deref.ensures.value ∙ ap (λ (o : OrderValue). o.counts) c.order.view_is)
    (c.deref-3.ensures.value ∙ ap (λ (o : OrderValue). o.picks) c.order.view_is) yes
    (c.in_ok-world.ensures.left c.deref-2.result.now) (subst (λ p. AreUnmarked p c.in_ok-course.course.marks) pages c.in_ok-course.ensures.marks) c.in_ok-world.ensures.fresh c.in_ok-walk.ensures.walked in
    walked_gives c.args.image.now c.args.order.now c.walk.new.self c.walk.new.course.marks _ walked c.in_ok-runs.ensures.runs c.requires.fits.counts
    ∙ ap (λ o. runs_give c.args.order.now c.walk.new.self.memory.output.items (option_map (λ r. r.items) o)) c.in_default.is

pub ends_of-requires-clause-few : goal.ends_of-requires-clause-few
ends_of-requires-clause-few c =
    let pages = ap (λ (i : ImageValue). i.pages) c.image.view_is in
    let yes : c.in_ok-walk.field-0 ≡ true = search rules in
    let walked = from_first c.args.image.now c.args.order.now c.deref-2.result.now c.deref.result.now c.deref-3.result.now c.in_ok-walk.field-0 true c.in_ok-world.world c.walk.new.self c.in_ok-course.course.marks c.walk.new.course.marks
    (c.deref-2.ensures.value ∙ ap (λ (o : OrderValue). o.input) c.order.view_is) (c.deref.ensures.value ∙ ap (λ (o : OrderValue). o.counts) c.order.view_is)
    (c.deref-3.ensures.value ∙ ap (λ (o : OrderValue). o.picks) c.order.view_is) yes
    (c.in_ok-world.ensures.left c.deref-2.result.now) (subst (λ p. AreUnmarked p c.in_ok-course.course.marks) pages c.in_ok-course.ensures.marks) c.in_ok-world.ensures.fresh c.in_ok-walk.ensures.walked in
    let long = runs_many c.args.image.now c.args.order.now c.walk.new.self c.walk.new.course.marks c.in-Some.runs.items walked
    (λ input counts made many left. ap (λ o. option_map (λ r. r.items) o) (sym c.in-Some.is) ∙ c.in_ok-runs.ensures.runs input counts made many left) c.requires.fits.counts in
    omega (arith, ap length c.deref-4.ensures.value, long, c.requires.fits.counts, few_threads c.args.image.now c.requires.whole)

pub ends_of-requires-clause-spent : goal.ends_of-requires-clause-spent
ends_of-requires-clause-spent c =
    let pages = ap (λ (i : ImageValue). i.pages) c.image.view_is in
    let yes : c.in_ok-walk.field-0 ≡ true = search rules in
    let walked = from_first c.args.image.now c.args.order.now c.deref-2.result.now c.deref.result.now c.deref-3.result.now c.in_ok-walk.field-0 true c.in_ok-world.world c.walk.new.self c.in_ok-course.course.marks c.walk.new.course.marks
    (c.deref-2.ensures.value ∙ ap (λ (o : OrderValue). o.input) c.order.view_is) (c.deref.ensures.value ∙ ap (λ (o : OrderValue). o.counts) c.order.view_is)
    (c.deref-3.ensures.value ∙ ap (λ (o : OrderValue). o.picks) c.order.view_is) yes
    (c.in_ok-world.ensures.left c.deref-2.result.now) (subst (λ p. AreUnmarked p c.in_ok-course.course.marks) pages c.in_ok-course.ensures.marks) c.in_ok-world.ensures.fresh c.in_ok-walk.ensures.walked in
    let long = runs_many c.args.image.now c.args.order.now c.walk.new.self c.walk.new.course.marks c.in-Some.runs.items walked
    (λ input counts made many left. ap (λ o. option_map (λ r. r.items) o) (sym c.in-Some.is) ∙ c.in_ok-runs.ensures.runs input counts made many left) c.requires.fits.counts in
    c.requires.fits.spent ∙ sym c.requires.fits.counts ∙ sym long ∙ ap length (sym c.deref-4.ensures.value)

pub ends_of-requires-clause-counts : goal.ends_of-requires-clause-counts
ends_of-requires-clause-counts c =
    let pages = ap (λ (i : ImageValue). i.pages) c.image.view_is in
    let yes : c.in_ok-walk.field-0 ≡ true = search rules in
    let walked = from_first c.args.image.now c.args.order.now c.deref-2.result.now c.deref.result.now c.deref-3.result.now c.in_ok-walk.field-0 true c.in_ok-world.world c.walk.new.self c.in_ok-course.course.marks c.walk.new.course.marks
    (c.deref-2.ensures.value ∙ ap (λ (o : OrderValue). o.input) c.order.view_is) (c.deref.ensures.value ∙ ap (λ (o : OrderValue). o.counts) c.order.view_is)
    (c.deref-3.ensures.value ∙ ap (λ (o : OrderValue). o.picks) c.order.view_is) yes
    (c.in_ok-world.ensures.left c.deref-2.result.now) (subst (λ p. AreUnmarked p c.in_ok-course.course.marks) pages c.in_ok-course.ensures.marks) c.in_ok-world.ensures.fresh c.in_ok-walk.ensures.walked in
    let long = runs_many c.args.image.now c.args.order.now c.walk.new.self c.walk.new.course.marks c.in-Some.runs.items walked
    (λ input counts made many left. ap (λ o. option_map (λ r. r.items) o) (sym c.in-Some.is) ∙ c.in_ok-runs.ensures.runs input counts made many left) c.requires.fits.counts in
    sym long ∙ ap length (sym c.deref-4.ensures.value)

pub returns-clause-gives : goal.returns-clause-gives
returns-clause-gives c =
    let pages = ap (λ (i : ImageValue). i.pages) c.image.view_is in
    let yes : c.in_ok-walk.field-0 ≡ true = search rules in
    let walked = from_first c.args.image.now c.args.order.now c.deref-2.result.now c.deref.result.now c.deref-3.result.now c.in_ok-walk.field-0 true c.in_ok-world.world c.walk.new.self c.in_ok-course.course.marks c.walk.new.course.marks
    (c.deref-2.ensures.value ∙ ap (λ (o : OrderValue). o.input) c.order.view_is) (c.deref.ensures.value ∙ ap (λ (o : OrderValue). o.counts) c.order.view_is)
    (c.deref-3.ensures.value ∙ ap (λ (o : OrderValue). o.picks) c.order.view_is) yes
    (c.in_ok-world.ensures.left c.deref-2.result.now) (subst (λ p. AreUnmarked p c.in_ok-course.course.marks) pages c.in_ok-course.ensures.marks) c.in_ok-world.ensures.fresh c.in_ok-walk.ensures.walked in
    walked_gives c.args.image.now c.args.order.now c.walk.new.self c.walk.new.course.marks (Some c.in-Some.runs.items) walked
    (λ input counts made many left. ap (λ o. option_map (λ r. r.items) o) (sym c.in-Some.is) ∙ c.in_ok-runs.ensures.runs input counts made many left) c.requires.fits.counts
    ∙ ap (λ r. with_ends c.walk.new.self.memory.output.items (ends_from 0 r c.args.order.now.spent c.args.order.now.counts)) (sym c.deref-4.ensures.value)
    ∙ ap (with_ends c.walk.new.self.memory.output.items) c.in_ok-ends.ensures
    ∙ ap (λ (l : List ℕ). Ok (record { output = l; ends = c.in_ok-ends.ends.items })) (sym c.output-output.ensures)

pub returns-clause-marks : goal.returns-clause-marks
returns-clause-marks c =
    let pages = ap (λ (i : ImageValue). i.pages) c.image.view_is in
    let yes : c.in_ok-walk.field-0 ≡ true = search rules in
    let walked = from_first c.args.image.now c.args.order.now c.deref-2.result.now c.deref.result.now c.deref-3.result.now c.in_ok-walk.field-0 true c.in_ok-world.world c.walk.new.self c.in_ok-course.course.marks c.walk.new.course.marks
    (c.deref-2.ensures.value ∙ ap (λ (o : OrderValue). o.input) c.order.view_is) (c.deref.ensures.value ∙ ap (λ (o : OrderValue). o.counts) c.order.view_is)
    (c.deref-3.ensures.value ∙ ap (λ (o : OrderValue). o.picks) c.order.view_is) yes
    (c.in_ok-world.ensures.left c.deref-2.result.now) (subst (λ p. AreUnmarked p c.in_ok-course.course.marks) pages c.in_ok-course.ensures.marks) c.in_ok-world.ensures.fresh c.in_ok-walk.ensures.walked in
    walked_marks c.args.image.now c.args.order.now c.walk.new.self c.walk.new.course.marks c.runs.new.course.marks c.in-Some.runs.items walked
    (λ input counts made many left. ap (λ o. option_map (λ r. r.items) o) (sym c.in-Some.is) ∙ c.in_ok-runs.ensures.runs input counts made many left)
    (at_some ((input counts : List ℕ) (made : List Made) → length counts ≡ length c.args.image.now.threads → AreLeft c.args.image.now input counts made c.walk.new.self c.walk.new.course.marks
    → AreAllMarks c.args.image.now counts made (mark_of c.runs.new.course.marks)) _ _ c.in-Some.is c.in_ok-runs.ensures.marks) c.requires.fits.counts

pub returns-in_err-ends-clause-gives : goal.returns-in_err-ends-clause-gives
returns-in_err-ends-clause-gives c =
    let pages = ap (λ (i : ImageValue). i.pages) c.image.view_is in
    let yes : c.in_ok-walk.field-0 ≡ true = search rules in
    let walked = from_first c.args.image.now c.args.order.now c.deref-2.result.now c.deref.result.now c.deref-3.result.now c.in_ok-walk.field-0 true c.in_ok-world.world c.walk.new.self c.in_ok-course.course.marks c.walk.new.course.marks
    (c.deref-2.ensures.value ∙ ap (λ (o : OrderValue). o.input) c.order.view_is) (c.deref.ensures.value ∙ ap (λ (o : OrderValue). o.counts) c.order.view_is)
    (c.deref-3.ensures.value ∙ ap (λ (o : OrderValue). o.picks) c.order.view_is) yes
    (c.in_ok-world.ensures.left c.deref-2.result.now) (subst (λ p. AreUnmarked p c.in_ok-course.course.marks) pages c.in_ok-course.ensures.marks) c.in_ok-world.ensures.fresh c.in_ok-walk.ensures.walked in
    let gives = walked_gives c.args.image.now c.args.order.now c.walk.new.self c.walk.new.course.marks (Some c.in-Some.runs.items) walked
    (λ input counts made many left. ap (λ o. option_map (λ r. r.items) o) (sym c.in-Some.is) ∙ c.in_ok-runs.ensures.runs input counts made many left) c.requires.fits.counts
    ∙ ap (λ r. with_ends c.walk.new.self.memory.output.items (ends_from 0 r c.args.order.now.spent c.args.order.now.counts)) (sym c.deref-4.ensures.value) in
    let p = err_from_is_err_and c.from_residual-in_err-ends.result c.from_residual-in_err-ends.ensures.1 in
    rw (p.1, p.2) (err_gives (λ (l : Vec EndValue Global). l.items) (λ (r : ReplayedValue). r) c.walk.new.self.memory.output.items _ c.in_err-ends.field-0.0 _ gives c.in_err-ends.ensures)
