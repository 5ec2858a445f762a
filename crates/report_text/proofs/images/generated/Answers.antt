use Rattle.std.proofs.Common.{List, ℕ, length, ap, sym, subst, ◌∙◌, arith}
use Rattle.image_file.specs.Pages.{pages_of}
use Rattle.image_file.specs.Whole.{IsWhole}
use Rattle.report_text.specs.Generated.{generated_code, image_with, sections_with}
use Rattle.report_text.proofs.GeneratedLaws.{code_few, code_some, whole_with}
use Rattle.report_text.proofs.images.generated.Goals as goal

pub pages_of-requires-clause-few : goal.pages_of-requires-clause-few
pages_of-requires-clause-few c =
    let size = ap length (c.deref.ensures.value ∙ c.in_ok-code.ensures) in
    omega (arith, size, code_few c.args.number c.requires)

pub sections_of-requires : goal.sections_of-requires
sections_of-requires c =
    let size = ap length c.in_ok-code.ensures in
    omega (arith, size, code_few c.args.number c.requires)

pub returns-clause-exact : goal.returns-clause-exact
unfolding image_with
returns-clause-exact c =
    let sections = c.in_ok-sections_of.ensures ∙ ap sections_with c.in_ok-code.ensures in
    let pages = c.in_ok-pages.ensures ∙ ap (λ (code : List ℕ). pages_of (sections_with code)) (c.deref.ensures.value ∙ c.in_ok-code.ensures) in
    λ i. record { version = 1; threads = c.in_ok-threads_of.ensures i; sections = sections i; entries = c.new.ensures.items i; pages = pages i }

pub returns-clause-whole : goal.returns-clause-whole
unfolding image_with
returns-clause-whole c =
    let sections = c.in_ok-sections_of.ensures ∙ ap sections_with c.in_ok-code.ensures in
    let pages = c.in_ok-pages.ensures ∙ ap (λ (code : List ℕ). pages_of (sections_with code)) (c.deref.ensures.value ∙ c.in_ok-code.ensures) in
    subst IsWhole
    (λ i. record { version = 1; threads = sym c.in_ok-threads_of.ensures i; sections = sym sections i; entries = sym c.new.ensures.items i; pages = sym pages i })
    (whole_with (generated_code c.args.number) (code_some c.args.number) (code_few c.args.number c.requires))
