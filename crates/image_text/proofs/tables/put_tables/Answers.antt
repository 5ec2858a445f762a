use Rattle.std.proofs.Common.{◌<◌, ◌+◌, ◌^◌, ◌++◌, ℕ, List, ap, subst, sym, ◌∙◌, arith}
use Rattle.std.specs.Prelude.{All}
use Rattle.std.proofs.lemmas.Result.{IfOk-weaker}
use Rattle.image_file.specs.Values.{SectionValue, ImageValue}
use Rattle.image_file.specs.Whole.{IsWhole}
use Rattle.image_file.proofs.PageLaws.{IsGood, all_at, all_good}
use Rattle.image_file.specs.declared.image.Start.{Start}
use Rattle.image_text.specs.Lines.{numbered, thread_line, section_line, entry_line, hint_line}
use Rattle.image_text.specs.Text.{image_line, tables_text}
use Rattle.image_text.proofs.Appended.{five}
use Rattle.image_text.proofs.tables.put_tables.Goals as goal

ends : (image : ImageValue) → IsWhole image → All (λ (s : SectionValue). s.start + s.size < 2 ^ 32) image.sections
ends image whole = λ k d within. let is_good = all_at IsGood image.sections k d (all_good image.sections whole.laid_out.sound) within in omega (arith, is_good.end)

pub put_sections-requires : goal.put_sections-requires
put_sections-requires c =
    let sections = c.deref-2.ensures.value ∙ ap (λ (i : ImageValue). i.sections) c.image.view_is in
    subst (All (λ (s : SectionValue). s.start + s.size < 2 ^ 32)) (sym sections) (ends c.args.image.now c.requires)

pub returns : goal.returns
unfolding tables_text
returns c =
    let image = c.args.image.now in
    let threads = c.deref.ensures.value ∙ ap (λ (i : ImageValue). i.threads) c.image.view_is in
    let sections = c.deref-2.ensures.value ∙ ap (λ (i : ImageValue). i.sections) c.image.view_is in
    let entries = c.deref-3.ensures.value ∙ ap (λ (i : ImageValue). i.entries) c.image.view_is in
    IfOk-weaker c.put_address_lines-2.result _ _
    (λ _ last. five c.args.out.now.items (image_line image) (numbered thread_line 0 image.threads) (numbered section_line 0 image.sections) (numbered entry_line 0 image.entries) (numbered hint_line 0 c.args.hints.now)
    c.put_image.new.out.items c.put_threads.new.out.items c.put_sections.new.out.items c.put_address_lines.new.out.items _
    c.in_ok-put_image.ensures
    (c.in_ok-put_threads.ensures ∙ ap (λ (ts : List Start). c.put_image.new.out.items ++ numbered thread_line 0 ts) threads)
    (c.in_ok-put_sections.ensures ∙ ap (λ (ss : List SectionValue). c.put_threads.new.out.items ++ numbered section_line 0 ss) sections)
    (c.in_ok-put_address_lines.ensures ∙ ap (λ (es : List ℕ). c.put_sections.new.out.items ++ numbered entry_line 0 es) entries)
    last)
    c.put_address_lines-2.ensures
