use Rattle.std.proofs.Common.{◌≡◌, ◌+◌, ◌*◌, sym, ap, ◌∙◌, arith, map, length}
use Rattle.image_file.specs.Limits.{start_width}
use Rattle.image_file.specs.Rows.{stored_bytes}
use Rattle.image_file.specs.Spelling.{row_of}
use Rattle.image_file.specs.Values.{ImageValue}
use Rattle.image_file.proofs.LengthLaws.{table_sum, whole_length, whole_small, whole_stored}
use Rattle.image_file.proofs.lengths.image_length.Goals as goal

pub stored_bytes-requires : goal.stored_bytes-requires
stored_bytes-requires c =
    let stored : stored_bytes (map row_of c.deref.result.now) ≡ stored_bytes (map row_of c.args.image.now.sections) = ap (λ ss. stored_bytes (map row_of ss)) (c.deref.ensures.value ∙ ap (λ (i : ImageValue). i.sections) c.image.view_is) in
    omega (arith, stored, whole_stored c.args.image.now c.requires)

pub overflow_add-result-4 : goal.overflow_add-result-4
overflow_add-result-4 c =
    let width : c.start_width.result ≡ start_width c.args.image.now.version = c.start_width.ensures.value ∙ ap (λ (i : ImageValue). start_width i.version) c.image.view_is in
    let threads : c.len.result ≡ length c.args.image.now.threads = c.len.ensures ∙ c.image.inside.threads.ok.0 ∙ ap (λ (i : ImageValue). length i.threads) c.image.view_is in
    let sections : c.len-2.result ≡ length c.args.image.now.sections = c.len-2.ensures ∙ c.image.inside.sections.ok.0 ∙ ap (λ (i : ImageValue). length i.sections) c.image.view_is in
    let entries : c.len-3.result ≡ length c.args.image.now.entries = c.len-3.ensures ∙ c.image.inside.entries.ok.0 ∙ ap (λ (i : ImageValue). length i.entries) c.image.view_is in
    let stored : c.stored_bytes.result ≡ stored_bytes (map row_of c.args.image.now.sections) = c.stored_bytes.ensures ∙ ap (λ ss. stored_bytes (map row_of ss)) (c.deref.ensures.value ∙ ap (λ (i : ImageValue). i.sections) c.image.view_is) in
    let sum : 12 + c.start_width.result * c.len.result + 16 * c.len-2.result + 4 * c.len-3.result + c.stored_bytes.result ≡ table_sum c.args.image.now = λ i. 12 + width i * threads i + 16 * sections i + 4 * entries i + stored i in
    omega (arith, sum, whole_small c.args.image.now c.requires)

pub returns-clause-value : goal.returns-clause-value
returns-clause-value c =
    let width : c.start_width.result ≡ start_width c.args.image.now.version = c.start_width.ensures.value ∙ ap (λ (i : ImageValue). start_width i.version) c.image.view_is in
    let threads : c.len.result ≡ length c.args.image.now.threads = c.len.ensures ∙ c.image.inside.threads.ok.0 ∙ ap (λ (i : ImageValue). length i.threads) c.image.view_is in
    let sections : c.len-2.result ≡ length c.args.image.now.sections = c.len-2.ensures ∙ c.image.inside.sections.ok.0 ∙ ap (λ (i : ImageValue). length i.sections) c.image.view_is in
    let entries : c.len-3.result ≡ length c.args.image.now.entries = c.len-3.ensures ∙ c.image.inside.entries.ok.0 ∙ ap (λ (i : ImageValue). length i.entries) c.image.view_is in
    let stored : c.stored_bytes.result ≡ stored_bytes (map row_of c.args.image.now.sections) = c.stored_bytes.ensures ∙ ap (λ ss. stored_bytes (map row_of ss)) (c.deref.ensures.value ∙ ap (λ (i : ImageValue). i.sections) c.image.view_is) in
    (λ i. 12 + width i * threads i + 16 * sections i + 4 * entries i + stored i) ∙ sym (whole_length c.args.image.now c.requires)

pub returns-clause-bound : goal.returns-clause-bound
returns-clause-bound c =
    let value = returns-clause-value c in
    omega (arith, value, whole_length c.args.image.now c.requires, whole_small c.args.image.now c.requires)
