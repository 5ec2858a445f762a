-- The command `generate`.
use Rattle.std.specs.Prelude.{ℕ, []}
use Rattle.command_words.specs.Commands.{DEFAULT_LIMITS}
use Rattle.image_meaning.specs.declared.target.Target.TheVariants.{Original}
use Rattle.vt_outside.specs.Sink.{SinkMeaning}
use Rattle.image_file.specs.Whole.{IsWhole}
use Rattle.block_law.specs.Translations.{Code}
use Rattle.report_text.specs.Generated.{generated_image}
use Rattle.translate.specs.Translated.{IsTranslated}
use Rattle.vest_stops.specs.declared.status.Done.{Done}
use Rattle.vest_runs.specs.Delivery.{DeliversRun}
use Rattle.vest_runs.specs.Generate.{lines_of}
use Rattle.vest_runs.specs.Keeping.{HasKept, processors_of, set_up_of}
use Rattle.vest_runs.specs.Kept.{KeptValue}

-- a run was made of the number's image and its translation for the first Alpha processors without hints, on no input, by the default limits, in which
-- threads interpret no addresses but those that are not mapped; and those lines were delivered in the place of an output
pub record Generates (result : Done) (number : ℕ) (out out' report report' : SinkMeaning) (kept : KeptValue) : Type 0 where
  pub code : Code
  pub whole : IsWhole (generated_image number)
  pub translated : IsTranslated Original (generated_image number) [] code
  pub has_kept : HasKept (generated_image number) Original code [] DEFAULT_LIMITS [] kept
  pub delivered : DeliversRun result (lines_of number code (set_up_of (generated_image number) kept) kept.history) (processors_of kept)
      out out' report report'
