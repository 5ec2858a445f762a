-- The access is finished as its instruction says.
use Rattle.std.proofs.Common.{◌≡◌, ℕ, ◌%◌, List, ap, ◌∙◌, subst}
use Rattle.std.specs.Prelude.{IfSome}
use Rattle.alpha_machine.specs.Step.{state_of, current, wrapped}
use Rattle.alpha_meaning.specs.Act.{finished}
use Rattle.alpha_meaning.proofs.Rows.{count_some, count_within}
use Rattle.block_law.specs.Translations.{Code, fetch_of}
use Rattle.vt_words.specs.Quad.{field_of}
use Rattle.tie_switch.specs.Seen.{finished_by}
use Rattle.tie_switch.proofs.Steps.{is_finished}
use Rattle.tie_switch.proofs.next.finish_access.Goals as goal

pub field-value-requires-clause-some : goal.field-value-requires-clause-some
field-value-requires-clause-some c = rw c.from.ensures (count_some c.requires.fits.0.bytes)

pub field-value-requires-clause-within : goal.field-value-requires-clause-within
field-value-requires-clause-within c = rw c.from.ensures (count_within c.requires.fits.0.bytes c.args.access.address c.requires.fits.1)

pub returns : goal.returns
returns c =
    let words = c.args.setting.code.now.words in
    let cpu = c.args.cpu.now in
    let is : c.deref.result.now ≡ c.args.setting.code.now.words = c.deref.ensures.value ∙ ap (λ (k : Code). k.words) c.code.view_is in
    let done = is_finished words cpu c.finish.new.cpu c.field-value.result c.args.success c.requires.few c.requires.fetched
    (subst (λ (ws : List ℕ). IfSome (current ws cpu) (λ i. state_of c.finish.new.cpu ≡ wrapped (finished i c.field-value.result c.args.success (state_of cpu)))) is c.finish.ensures.finished) in
    done ∙ ap (λ value. finished_by (fetch_of words cpu.pc) value c.args.success (state_of cpu)) (c.field-value.ensures ∙ ap (field_of c.args.before (c.args.access.address % 8)) c.from.ensures)
