-- The references of a script that are told by how many replies there are.
use Rattle.std.proofs.Common.{◌≡◌, ℕ, ◌+◌, ◌-◌, ◌<◌, ◌≤◌, ◌⊎◌, [], length, Result, Ok, Err, refl, ap, sym, ◌∙◌, subst, inl, inr, arith}
use Rattle.std.proofs.lemmas.Bool.{cases_lt}
use Rattle.vax_form.specs.Script.{Script, Moment, Halt, pure, bind, run, then_do}
use Rattle.vax_form.specs.State.{register, SP}
use Rattle.vax_form.specs.declared.pages.Pages.{Pages}
use Rattle.vax_form.specs.declared.script.Stop.TheVariants.{Wants}
use Rattle.vax_form.specs.declared.state.Reference.{Reference}

-- a moment whose SP is that address, over those pages
pub record IsAt (pages : Pages) (top : ℕ) (moment : Moment) : Type 0 where
  pub registers : length moment.state.r ≡ 15
  pub stack : register SP moment.state ≡ top
  pub over : moment.pages ≡ pages

-- a script came to its end, with SP at that address and so many replies left
abbrev pub Comes : {A : Type 0} → Pages → (top left : ℕ) → Result (A × Moment) Halt → Type 0
Comes pages top left (Ok (x, moment)) = IsAt pages top moment × (length moment.replies ≡ left)
Comes pages top left (Err halt) = ⊥

-- where SP stands behind so many references, each of them, and what is asked of each
pub record Course : Type 1 where
  pub pages : Pages
  pub at : ℕ → ℕ
  pub reference : ℕ → Reference
  pub allowed : ℕ → Type 0

-- a script makes so many references, behind the first of a course: where it has fewer replies, it wants the next one
abbrev pub Wanting : {A : Type 0} → Course → (from most : ℕ) → Script A → Type 0
Wanting course from most script = (moment : Moment) → IsAt course.pages (course.at from) moment → length moment.replies < most → ((n : ℕ) → n ≤ length moment.replies → course.allowed (from + n))
    → run script moment ≡ Err (Wants (course.reference (from + length moment.replies)), [])

-- and where it has as many, it comes to its end behind them
abbrev pub Coming : {A : Type 0} → Course → (from most : ℕ) → Script A → Type 0
Coming course from most script = (moment : Moment) → IsAt course.pages (course.at from) moment → most ≤ length moment.replies → ((n : ℕ) → n < most → course.allowed (from + n))
    → Comes course.pages (course.at (from + most)) (length moment.replies - most) (run script moment)

-- ---- one script behind another
pub first_wanting : {A B : Type 0} (course : Course) (from most : ℕ) (m : Script A) (f : A → Script B) → Wanting course from most m → Wanting course from most (bind m f)
first_wanting course from most m f first moment here few may = ap (λ r. then_do r (λ x. run (f x))) (first moment here few may)

onward : {A B : Type 0} (pages : Pages) (top left : ℕ) (r : Result (A × Moment) Halt) (g : A → Moment → Result (B × Moment) Halt) (goal : Result (B × Moment) Halt) → Comes pages top left r
    → ((x : A) (t : Moment) → IsAt pages top t → length t.replies ≡ left → g x t ≡ goal) → then_do r g ≡ goal
onward pages top left (Ok (x, t)) g goal comes each = each x t comes.0 comes.1
onward pages top left (Err halt) g goal comes each = absurd comes

moved : (from first n : ℕ) → from + (first + n) ≡ from + first + n
moved from first n = omega arith

pub then_wanting : {A B : Type 0} (course : Course) (from first rest : ℕ) (m : Script A) (f : A → Script B) → Wanting course from first m → Coming course from first m
    → ((x : A) → Wanting course (from + first) rest (f x)) → Wanting course from (first + rest) (bind m f)
then_wanting {A} {B} course from first rest m f wanting coming others moment here few may = by (cases_lt (length moment.replies) first)
  where
    there : first ≤ length moment.replies → (x : A) (t : Moment) → IsAt course.pages (course.at (from + first)) t → length t.replies ≡ length moment.replies - first
        → run (f x) t ≡ Err (Wants (course.reference (from + length moment.replies)), [])
    there enough x t now is =
        let fewer : length t.replies < rest = omega (arith, is, enough, few) in
        let sum : from + first + length t.replies ≡ from + length moment.replies = omega (arith, is, enough) in
        others x t now fewer (λ n below. subst course.allowed (moved from first n) (may (first + n) (omega (arith, below, is, enough))))
        ∙ ap (λ (n : ℕ). Err (Wants (course.reference n), [])) sum

    by : (length moment.replies < first) ⊎ (first ≤ length moment.replies) → run (bind m f) moment ≡ Err (Wants (course.reference (from + length moment.replies)), [])
    by (inl fewer) = first_wanting course from first m f wanting moment here fewer may
    by (inr enough) =
        onward course.pages (course.at (from + first)) (length moment.replies - first) (run m moment) (λ x. run (f x)) _
        (coming moment here enough (λ n below. may n (omega (arith, below, enough)))) (λ x t. there enough x t)

comes_onward : {A B : Type 0} (pages : Pages) (top left : ℕ) (r : Result (A × Moment) Halt) (g : A → Moment → Result (B × Moment) Halt) (last last_left : ℕ) → Comes pages top left r
    → ((x : A) (t : Moment) → IsAt pages top t → length t.replies ≡ left → Comes pages last last_left (g x t)) → Comes pages last last_left (then_do r g)
comes_onward pages top left (Ok (x, t)) g last last_left comes each = each x t comes.0 comes.1
comes_onward pages top left (Err halt) g last last_left comes each = absurd comes

pub then_coming : {A B : Type 0} (course : Course) (from first rest : ℕ) (m : Script A) (f : A → Script B) → Coming course from first m → ((x : A) → Coming course (from + first) rest (f x))
    → Coming course from (first + rest) (bind m f)
then_coming {A} {B} course from first rest m f coming others moment here enough may =
    comes_onward course.pages (course.at (from + first)) (length moment.replies - first) (run m moment) (λ x. run (f x)) _ _
    (coming moment here (omega (arith, enough)) (λ n below. may n (omega (arith, below)))) there
  where
    there : (x : A) (t : Moment) → IsAt course.pages (course.at (from + first)) t → length t.replies ≡ length moment.replies - first
        → Comes course.pages (course.at (from + (first + rest))) (length moment.replies - (first + rest)) (run (f x) t)
    there x t now is =
        let more : rest ≤ length t.replies = omega (arith, is, enough) in
        let left : length t.replies - rest ≡ length moment.replies - (first + rest) = omega (arith, is, enough) in
        subst (λ (n : ℕ). Comes course.pages (course.at (from + (first + rest))) n (run (f x) t)) left
        (subst (λ (n : ℕ). Comes course.pages (course.at n) (length t.replies - rest) (run (f x) t)) (sym (moved from first rest))
        (others x t now more (λ n below. subst course.allowed (moved from first n) (may (first + n) (omega (arith, below))))))

pub none_wanting : {A : Type 0} (course : Course) (from : ℕ) (script : Script A) → Wanting course from 0 script
none_wanting course from script moment here few may = absurd (omega (arith, few))

-- a script that comes to its end at once, with SP where it was
pub at_once : {A : Type 0} (course : Course) (from : ℕ) (script : Script A)
    → ((moment : Moment) → IsAt course.pages (course.at from) moment → Comes course.pages (course.at from) (length moment.replies) (run script moment)) → Coming course from 0 script
at_once course from script comes moment here enough may =
    let none : from ≡ from + 0 = omega arith in
    let left : length moment.replies ≡ length moment.replies - 0 = omega arith in
    subst (λ (n : ℕ). Comes course.pages (course.at (from + 0)) n (run script moment)) left
    (subst (λ (n : ℕ). Comes course.pages (course.at n) (length moment.replies) (run script moment)) none (comes moment here))

pub nothing_coming : (course : Course) (from : ℕ) → Coming course from 0 (pure (tt {0}))
nothing_coming course from = at_once course from (pure (tt {0})) (λ moment here. (here, refl))
