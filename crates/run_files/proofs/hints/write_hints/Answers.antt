use Rattle.std.proofs.Common.{◌∙◌, ◌++◌, ◌∷◌, [], ap, length}
use Rattle.translated_file.specs.Spelling.{word_bytes}
use Rattle.run_files.specs.Limits.{HINT_MAGIC, VERSION}
use Rattle.run_files.specs.Hints.{hints_bytes}
use Rattle.run_files.proofs.hints.write_hints.Goals as goal

pub returns : goal.returns
unfolding hints_bytes
returns c = c.in_ok-put_words-2.ensures.bytes ∙ ap (λ front. front ++ word_bytes c.args.hints.now) (c.in_ok-put_words.ensures.bytes ∙ ap (λ none. none ++ word_bytes (HINT_MAGIC ∷ VERSION ∷ length c.args.hints.now ∷ [])) c.new-bytes.ensures.items)
