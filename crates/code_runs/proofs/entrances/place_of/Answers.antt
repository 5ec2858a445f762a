use Rattle.std.proofs.Common.{subst, sym, rules, Option, ℕ}
use Rattle.std.specs.Prelude.{IfNone, IfSome}
use Rattle.std.proofs.lemmas.List.Sorted.{answers_always}
use Rattle.vax_form.specs.declared.instr.Instr.{Instr}
use Rattle.code_runs.specs.Entrances.{NoneStandsAt, StandsAt}
use Rattle.code_runs.proofs.Searched.{no_place_found, place_found}
use Rattle.code_runs.proofs.entrances.place_of.Goals as goal

pub returns-clause-found : goal.returns-clause-found
returns-clause-found c =
    let searched = c.binary_search_by_key.ensures in
    let result = searched.position (λ (i : Instr). i.at) (answers_always _ _ _ (λ f a r q k. search rules)) in
    subst (λ (o : Option ℕ). IfSome o (StandsAt c.args.instrs.now c.args.address)) (sym c.ok.ensures.value)
    (place_found c.args.instrs.now c.requires c.args.address c.binary_search_by_key.result searched.bound result)

pub returns-clause-none : goal.returns-clause-none
returns-clause-none c =
    let searched = c.binary_search_by_key.ensures in
    let result = searched.position (λ (i : Instr). i.at) (answers_always _ _ _ (λ f a r q k. search rules)) in
    subst (λ (o : Option ℕ). IfNone o (NoneStandsAt c.args.instrs.now c.args.address)) (sym c.ok.ensures.value)
    (no_place_found c.args.instrs.now c.requires c.args.address c.binary_search_by_key.result result)
