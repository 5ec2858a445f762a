-- An instruction with strings steps as its tree says, and the handler takes its exceptions.
use Rattle.std.proofs.Common.{◌≡◌, ℕ, List, [], ◌∷◌, ◌++◌, Bool, true, Option, Some, sym, ap, ◌∙◌, subst}
use Rattle.std.proofs.lemmas.List.{append-nil}
use Rattle.vax_form.specs.Tree.{Tree, answer}
use Rattle.vax_form.specs.declared.pages.Pages.{Pages}
use Rattle.vax_form.specs.declared.state.VaxState.{VaxState}
use Rattle.tie_operands.specs.Replies.{list_of}
use Rattle.tie_strings.specs.Whole.{Stands, goes_on_alone}
use Rattle.tie_strings.specs.declared.tie.LongTie.{LongTie}
use Rattle.tie_switch.specs.Interpreted.{handled_answer, step_of, step_with}
use Rattle.tie_switch.proofs.Handled.{if_wants}
use Rattle.tie_switch.proofs.interpreted.Interpreted.strings_step.Goals as goal

-- where its reference was told, the reply was taken
taken : (pages : Pages) (old new : LongTie) (reply : Option ℕ) (given : ℕ) (told : Bool) → reply ≡ Some given → told ≡ goes_on_alone pages old → told ≡ true
    → (goes_on_alone pages old ≡ true → (state : VaxState) (tree : Tree) (replies : List ℕ) → Stands pages old state tree replies → Stands pages new state tree (replies ++ given ∷ []))
    → (state : VaxState) (tree : Tree) (replies : List ℕ) → Stands pages old state tree replies → Stands pages new state tree (replies ++ list_of reply)
taken pages old new reply given told is just holds takes state tree replies stands =
    subst (λ (o : Option ℕ). Stands pages new state tree (replies ++ list_of o)) (sym is) (takes (sym just ∙ holds) state tree replies stands)

pub returns-in-Some-told-clause-stands : goal.returns-in-Some-told-clause-stands
returns-in-Some-told-clause-stands c = λ state tree replies stands.
    taken c.args.pages.now c.args.tie.now c.take.new.self c.args.reply c.in-Some.given _ c.in-Some.is c.told.ensures.just c.if-is_none.ensures (c.take.ensures c.args.pages.now) state tree replies stands

pub returns-in-None-clause-answers : goal.returns-in-None-clause-answers
returns-in-None-clause-answers c = λ state tree replies stands.
    let pages = c.args.pages.now in
    let all = replies ++ list_of c.args.reply in
    let there = taken pages c.args.tie.now c.take.new.self c.args.reply c.in-Some.given _ c.in-Some.is c.told.ensures.just c.if-is_none.ensures (c.take.ensures pages) state tree replies stands in
    c.handled-in-None.ensures.answers state (answer pages tree (all ++ [])) (c.step-in-None.ensures.answers state tree all there) (c.step-in-None.ensures.faults state tree all there)
    ∙ ap (λ (given : List ℕ). step_of (handled_answer state (answer pages tree given))) (append-nil all)

pub returns-in-None-clause-stands : goal.returns-in-None-clause-stands
returns-in-None-clause-stands c = λ state tree replies stands.
    let pages = c.args.pages.now in
    let all = replies ++ list_of c.args.reply in
    let there = taken pages c.args.tie.now c.take.new.self c.args.reply c.in-Some.given _ c.in-Some.is c.told.ensures.just c.if-is_none.ensures (c.take.ensures pages) state tree replies stands in
    if_wants (step_with c.handled-in-None.result c.handled-in-None.new.after) c.step-in-None.result c.handled-in-None.ensures.wants
    (λ (left : Stands pages c.step-in-None.new.self state tree (all ++ [])). subst (Stands pages c.step-in-None.new.self state tree) (append-nil all) left)
    (c.step-in-None.ensures.stands state tree all there)
