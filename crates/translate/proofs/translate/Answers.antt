use Rattle.std.proofs.Common.{◌≡◌, ℕ, Bool, List, sym, ap, ◌∙◌, subst}
use Rattle.std.specs.Prelude.{◌↔◌, All, IsTrue, true}
use Rattle.std.specs.List.{filter}
use Rattle.std.specs.Option.{is_some}
use Rattle.address_map.specs.Pairs.{word_at}
use Rattle.vax_form.specs.Targets.{has}
use Rattle.flow_discovery.specs.Mapped.{Mapped, has_block}
use Rattle.vax_form.specs.declared.instr.Instr.{Instr}
use Rattle.vax_form.specs.declared.pages.Pages.{Pages}
use Rattle.flow_discovery.specs.Starts.{starts}
use Rattle.block_law.specs.Translations.{Meets}
use Rattle.image_meaning.specs.Meant.{image_meaning}
use Rattle.image_meaning.specs.Permits.{permit_of}
use Rattle.image_meaning.proofs.Permits.{meets_any_permit}
use Rattle.translate.specs.Compiled.{AreFound, AreLaidOut, addresses}
use Rattle.translate.proofs.Reached.{reached_few, kept_few, kept_found, kept_longwords, kept_rise, kept_built, kept_mapped, is_mapped}
use Rattle.translate.proofs.translate.Goals as goal

pub translate_instrs-requires-clause-few : goal.translate_instrs-requires-clause-few
translate_instrs-requires-clause-few c =
    kept_few c.args.image.now.pages (starts c.args.image.now c.args.hints.now) c.in_ok-instrs.instrs.items c.deref.result.now c.in_ok-instrs.ensures.reached (c.deref.ensures.value ∙ (c.keep_built.ensures ∙ ap (λ i. filter (λ (instr : Instr). has_block instr i.pages) c.in_ok-instrs.instrs.items) c.image.view_is)) c.in_ok-instrs.ensures.few

pub translate_instrs-requires-clause-longwords : goal.translate_instrs-requires-clause-longwords
translate_instrs-requires-clause-longwords c =
    kept_longwords c.args.image.now.pages (starts c.args.image.now c.args.hints.now) c.in_ok-instrs.instrs.items c.deref.result.now c.in_ok-instrs.ensures.reached (c.deref.ensures.value ∙ (c.keep_built.ensures ∙ ap (λ i. filter (λ (instr : Instr). has_block instr i.pages) c.in_ok-instrs.instrs.items) c.image.view_is)) c.in_ok-instrs.ensures.longwords

pub translate_instrs-requires-clause-rising : goal.translate_instrs-requires-clause-rising
translate_instrs-requires-clause-rising c =
    kept_rise c.args.image.now.pages (starts c.args.image.now c.args.hints.now) c.in_ok-instrs.instrs.items c.deref.result.now c.in_ok-instrs.ensures.reached (c.deref.ensures.value ∙ (c.keep_built.ensures ∙ ap (λ i. filter (λ (instr : Instr). has_block instr i.pages) c.in_ok-instrs.instrs.items) c.image.view_is))

pub translate_instrs-requires-clause-found : goal.translate_instrs-requires-clause-found
translate_instrs-requires-clause-found c =
    subst (λ (p : Pages). AreFound p c.deref.result.now) (sym (ap (λ i. i.pages) c.image.view_is))
    (kept_found c.args.image.now.pages (starts c.args.image.now c.args.hints.now) c.in_ok-instrs.instrs.items c.deref.result.now c.in_ok-instrs.ensures.reached (c.deref.ensures.value ∙ (c.keep_built.ensures ∙ ap (λ i. filter (λ (instr : Instr). has_block instr i.pages) c.in_ok-instrs.instrs.items) c.image.view_is)))

pub translate_instrs-requires-clause-built : goal.translate_instrs-requires-clause-built
translate_instrs-requires-clause-built c =
    subst (λ (p : Pages). All (λ (instr : Instr). has_block instr p ≡ true) c.deref.result.now) (sym (ap (λ i. i.pages) c.image.view_is))
    (kept_built c.args.image.now.pages (starts c.args.image.now c.args.hints.now) c.in_ok-instrs.instrs.items c.deref.result.now c.in_ok-instrs.ensures.reached (c.deref.ensures.value ∙ (c.keep_built.ensures ∙ ap (λ i. filter (λ (instr : Instr). has_block instr i.pages) c.in_ok-instrs.instrs.items) c.image.view_is)))

pub returns-clause-mapped : goal.returns-clause-mapped
returns-clause-mapped c =
    kept_mapped c.args.image.now.pages (starts c.args.image.now c.args.hints.now) c.in_ok-instrs.instrs.items c.deref.result.now c.in_ok-instrs.ensures.reached (c.deref.ensures.value ∙ (c.keep_built.ensures ∙ ap (λ i. filter (λ (instr : Instr). has_block instr i.pages) c.in_ok-instrs.instrs.items) c.image.view_is))
    c.in_ok-translate_instrs.field-0 c.in_ok-translate_instrs.ensures.mapped

pub returns-clause-few : goal.returns-clause-few
returns-clause-few c =
    reached_few c.args.image.now.pages (starts c.args.image.now c.args.hints.now) c.in_ok-instrs.instrs.items c.deref.result.now c.in_ok-instrs.ensures.reached (c.deref.ensures.value ∙ (c.keep_built.ensures ∙ ap (λ i. filter (λ (instr : Instr). has_block instr i.pages) c.in_ok-instrs.instrs.items) c.image.view_is)) c.in_ok-instrs.ensures.few

pub returns-clause-blocks : goal.returns-clause-blocks
returns-clause-blocks c =
    let pages = c.args.image.now.pages in
    let from = starts c.args.image.now c.args.hints.now in
    let kept = c.deref.result.now in
    let code = c.in_ok-translate_instrs.field-0 in
    let is = c.deref.ensures.value ∙ (c.keep_built.ensures ∙ ap (λ i. filter (λ (instr : Instr). has_block instr i.pages) c.in_ok-instrs.instrs.items) c.image.view_is) in
    let made = subst (λ (p : Pages). AreLaidOut c.args.target p kept code) (ap (λ i. i.pages) c.image.view_is) c.in_ok-translate_instrs.ensures.blocks in
    let same : (address : ℕ) → is_some (word_at code.map address) ≡ has (addresses kept) address = λ address. is_mapped code.map address ∙ ap (λ (xs : List ℕ). has xs address) c.in_ok-translate_instrs.ensures.mapped in
    record {
      instrs = kept;
      found = kept_found pages from c.in_ok-instrs.instrs.items kept c.in_ok-instrs.ensures.reached is;
      mapped = λ address. subst (λ (b : Bool). IsTrue b ↔ Mapped pages from address) (same address)
          (kept_mapped pages from c.in_ok-instrs.instrs.items kept c.in_ok-instrs.ensures.reached is code c.in_ok-translate_instrs.ensures.mapped address);
      made = made;
    }

pub returns-clause-meets : goal.returns-clause-meets
returns-clause-meets c =
    subst (λ (p : Pages). Meets (image_meaning p) (permit_of c.args.target p) c.in_ok-translate_instrs.field-0) (ap (λ i. i.pages) c.image.view_is) c.in_ok-translate_instrs.ensures.meets

pub returns-clause-any : goal.returns-clause-any
returns-clause-any c =
    let pages = c.args.image.now.pages in
    let code = c.in_ok-translate_instrs.field-0 in
    meets_any_permit (image_meaning pages) c.args.target pages code
    (subst (λ (p : Pages). Meets (image_meaning p) (permit_of c.args.target p) code) (ap (λ i. i.pages) c.image.view_is) c.in_ok-translate_instrs.ensures.meets)
