use Rattle.std.proofs.Common.{◌++◌, ℕ, List, length, ap, refl, ◌∙◌}
use Rattle.image_file.specs.Spelling.{header_bytes}
use Rattle.image_parts.specs.Parts.{parts_value}
use Rattle.image_parts.proofs.Sizes.{parts_fit, spelled_so}
use Rattle.image_parts.proofs.parts.spelled.Goals as goal

pub returns-clause-fit : goal.returns-clause-fit
returns-clause-fit c =
    parts_fit (parts_value c.args.parts) c.requires.few c.in_ok-put_threads.ensures.fit c.in_ok-put_rows.ensures.fit c.in_ok-put_words.ensures.fit

pub returns-clause-bytes : goal.returns-clause-bytes
returns-clause-bytes c =
    let parts = parts_value c.args.parts in
    let version = c.version_for-version.result in
    let threads = length parts.threads in
    let sections = length parts.sections in
    let entries = length parts.entries in
    let head = c.in_ok-put_header.ensures ∙ ap (λ (o : List ℕ). o ++ header_bytes version threads sections entries) c.new-out.ensures.items in
    spelled_so parts version threads sections entries parts.threads parts.sections parts.entries _ _ _ _ _
    c.version_for-version.ensures refl refl refl refl refl refl
    head c.in_ok-put_threads.ensures.bytes c.in_ok-put_rows.ensures.bytes c.in_ok-put_words.ensures.bytes c.in_ok-put_stored.ensures
