use Rattle.std.proofs.Common.{◌≡◌, ℕ, List, ap, ap₂, map, refl, ◌∙◌}
use Rattle.image_file.specs.Values.{ImageValue}
use Rattle.image_file.specs.declared.image.Start.{Start}
use Rattle.vax_form.specs.PageTable.{PageTable}
use Rattle.dis_text.specs.Before.{text_before}
use Rattle.dis_text.specs.Labels.{labels}
use Rattle.dis_text.specs.Listing.{Listed}
use Rattle.dis_text.specs.Made.{asked, name_value}
use Rattle.dis_text.proofs.Asked.{all_listed, funext}
use Rattle.dis_text.proofs.sections.listing_text.Goals as goal

pub returns : goal.returns
returns c =
    let image = c.args.image.now in
    let names = map name_value c.args.names.now in
    let code = c.args.code.now in
    let pages = ap (λ (i : ImageValue). i.pages) c.image.view_is in
    let threads = c.deref.ensures.value ∙ ap (λ (i : ImageValue). i.threads) c.image.view_is in
    let entries = c.deref-2.ensures.value ∙ ap (λ (i : ImageValue). i.entries) c.image.view_is in
    let said : ℕ → List ℕ = labels (map (λ (t : Start). t.pc) image.threads) image.entries c.args.hints.now names in
    let before : text_before c.in_ok-before.before ≡ said = funext (text_before c.in_ok-before.before) said (λ a.
    c.in_ok-before.ensures a ∙ ap₂ (λ (ts : List Start) (es : List ℕ). labels (map (λ (t : Start). t.pc) ts) es c.args.hints.now names a) threads entries) in
    let make : PageTable → (ℕ → List ℕ) → Listed = λ p f. record {
      pages = p;
      before = f;
      words = code.words.now;
      pairs = code.map.now;
      with_words = code.is_told;
      first = c.args.range.first;
      last = c.args.range.last;
    } in
    all_listed _ (asked image c.args.hints.now names code.words.now code.map.now code.is_told c.args.range) c.args.instrs.now image.sections image.pages.ranges
    c.new-out.result.items _ c.new-out.ensures.items c.in_ok-put_image.ensures (ap₂ make pages before) refl
