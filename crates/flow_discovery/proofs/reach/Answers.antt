use Rattle.std.proofs.Common.{◌≡◌, ◌∙◌, ℕ, List, ap, arith, refl, subst, length}
use Rattle.std.specs.List.{filter_map}
use Rattle.vax_form.specs.declared.pages.Pages.{Pages}
use Rattle.flow_discovery.specs.Reach.{AreReached, IsReach, instruction_at}
use Rattle.flow_discovery.specs.Starts.{starts}
use Rattle.flow_discovery.proofs.Instructions.{are_listed, are_reach, as_many}
use Rattle.flow_discovery.proofs.reach.Goals as goal

pub returns-clause-reached : goal.returns-clause-reached
returns-clause-reached c =
    let from = starts c.args.image.now c.args.hints.now in
    let pages = c.image.inside.pages in
    let keys = c.in_ok-found.found.keys in
    let given : c.as_slice.result.now ≡ from = c.as_slice.ensures.value ∙ c.in_ok-starts.ensures in
    let P : List ℕ → Type 0 = λ ss. AreReached pages ss keys in
    let Q : Pages → Type 0 = λ p. IsReach p from c.in_ok-instrs.instrs.items in
    let same : pages ≡ c.args.image.now.pages = rw (← c.image.view_is) refl in
    let read = c.in_ok-instrs.ensures.items ∙ ap (λ (ks : List ℕ). filter_map (instruction_at pages) ks) c.as_slice-2.ensures.keys in
    subst Q same (are_reach pages from keys c.in_ok-instrs.instrs.items (subst P given c.in_ok-found.ensures) read)

pub returns-clause-few : goal.returns-clause-few
returns-clause-few c =
    let pages = c.image.inside.pages in
    let keys = c.in_ok-found.found.keys in
    let read = c.in_ok-instrs.ensures.items ∙ ap (λ (ks : List ℕ). filter_map (instruction_at pages) ks) c.as_slice-2.ensures.keys in
    let many : length c.in_ok-instrs.instrs.items ≡ length keys = as_many pages c.as_slice.result.now keys c.in_ok-instrs.instrs.items c.in_ok-found.ensures read in
    omega (arith, c.len-count.ensures.len)

pub returns-clause-classes : goal.returns-clause-classes
returns-clause-classes c =
    let pages = c.image.inside.pages in
    let read = c.in_ok-instrs.ensures.items ∙ ap (λ (ks : List ℕ). filter_map (instruction_at pages) ks) c.as_slice-2.ensures.keys in
    are_listed pages c.in_ok-found.found.keys c.in_ok-instrs.instrs.items read
