-- The file's line, and behind it what is shown.
use Rattle.std.proofs.Common.{◌≡◌, ◌∙◌, ℕ, List, ◌++◌, ap, arith, length, subst}
use Rattle.flow_discovery.specs.Reach.{IsReach}
use Rattle.flow_discovery.specs.Starts.{starts}
use Rattle.block_law.specs.Translations.{Code}
use Rattle.vest_files.specs.Loading.{hints_in}
use Rattle.image_text.specs.Text.{show_text}
use Rattle.vximage_cli.specs.Showing.{file_line}
use Rattle.vximage_cli.proofs.showing.shown.Goals as goal

pub returns-clause-ok : goal.returns-clause-ok
returns-clause-ok c =
    let image = c.args.loaded.now.image in
    let instrs = c.in_ok-instrs.instrs.items in
    let hints = c.deref.ensures.value ∙ c.requires.hints in
    let map = ap (λ (code : Code). code.map) c.translation.view_is in
    let words = ap (λ (code : Code). length code.words) c.translation.view_is in
    let count : c.len-words.result ≡ length c.translation.inside.words.items = omega (arith, c.translation.inside.words.ok.0, c.len-words.ensures) in
    let text : show_text image c.deref-2.result.now c.deref-3.result.now (length c.pairs.result.now) c.len-words.result
    ≡ show_text image (hints_in c.args.bytes.now) instrs (length c.args.loaded.now.translation.map) (length c.args.loaded.now.translation.words) =
    λ i. show_text image ((c.deref-2.ensures.value ∙ c.requires.hints) i) (c.deref-3.ensures.value i) (length ((c.pairs.ensures.pairs ∙ map) i)) ((count ∙ words) i) in
    let line = c.in_ok-put_file_line.ensures ∙ ap (λ (begun : List ℕ). begun ++ file_line c.args.bytes.now c.args.loaded.now.target) c.new-text.ensures.items in
    record {
      instrs = instrs;
      reached = subst (λ (addresses : List ℕ). IsReach image.pages (starts image addresses) instrs) hints c.in_ok-instrs.ensures;
      is = c.in_ok-show_text.ensures ∙ (λ i. line i ++ text i);
    }
