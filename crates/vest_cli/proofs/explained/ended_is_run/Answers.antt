-- A history and processors that are a legal run have the headline.
use Rattle.std.proofs.Common.{subst, reverse}
use Rattle.image_file.specs.Values.{ImageValue}
use Rattle.vax_form.specs.GrammarLaws.{AreBytes}
use Rattle.block_law.specs.Sound.{IsSound}
use Rattle.image_meaning.specs.Meant.{codes_written, image_meaning}
use Rattle.image_meaning.specs.Permits.{permit_of}
use Rattle.tie_switch.specs.Settings.{image_setting}
use Rattle.vest_runs.proofs.Outputs.{put_out}
use Rattle.vest_runs.proofs.Spent.{all_have_cause}
use Rattle.vest_cli.proofs.explained.ended_is_run.Goals as goal

pub returns : goal.returns
returns c = λ target meets of budget history processors same_image same_input legal ended.
    let image = c.args.image.now in
    let setting = image_setting image.pages c.args.translation.now c.args.ranges.now in
    let bytes = subst (λ (i : ImageValue). AreBytes i.pages.code) c.image.view_is c.page_table_has_bytes.ensures in
    let sound : IsSound (image_meaning image.pages) = c.vax_meaning_is_sound.ensures image.pages (codes_written image.pages) bytes in
    let permit = permit_of target image.pages in
    let headline = c.legal_has_headline.ensures setting permit of budget (reverse history) processors sound (c.permits.ensures.few target image.pages) meets
    (c.images_are_runs.ensures of same_image same_input) legal in
    record {
      in_range = c.images_are_runs.ensures of same_image same_input;
      legal = legal;
      ended = ended;
      spent = all_have_cause setting of budget (reverse history) permit processors legal headline;
      driven = record { headline = headline; output = put_out history headline.history.made headline.history.output };
    }
