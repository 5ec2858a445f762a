-- A file that is cut: its header, where that is there, and the refusal.
use Rattle.std.proofs.Common.{◌≡◌, ℕ, ◌≤◌, List, take, ap, ◌∙◌, arith, inl, inr, Err}
use Rattle.std.proofs.lemmas.Bool.{cases_lt}
use Rattle.image_file.specs.Reading.{word}
use Rattle.image_file.proofs.Prefixes.{word_front, front_at, cut_length}
use Rattle.run_files.specs.declared.header.Header.{Header}
use Rattle.run_files.specs.declared.refusal.OrderRefusal.TheVariants.{Truncated}
use Rattle.run_files.specs.Reading.{header_in}
use Rattle.run_files.specs.Laws.{PrefixesAreRefused}
use Rattle.run_files.proofs.PartsLaws.{order_ok, header_cut, parts_cut}

header_kept : (bytes : List ℕ) (header : Header) (kept : ℕ) → header_in bytes ≡ header → 20 ≤ kept → header_in (take kept bytes) ≡ header
header_kept bytes header kept is long = (λ i. record {
  version = front_at 4 word word_front 4 kept bytes (omega arith) i;
  threads = front_at 4 word word_front 8 kept bytes (omega arith) i;
  picks = front_at 4 word word_front 12 kept bytes (omega arith) i;
  input = front_at 4 word word_front 16 kept bytes (omega arith) i;
}) ∙ is

pub prefixes_are_refused : PrefixesAreRefused
prefixes_are_refused threads bytes file kept all short =
    let read = order_ok threads bytes file all in
    let header = read.header in
    let is = read.headed in
    let length_is = cut_length kept bytes short in
    (elim (cases_lt kept 20) [
      | inl inside ↦ header_cut threads (take kept bytes) (omega (arith, length_is))
      | inr behind ↦ parts_cut threads (take kept bytes) header (omega (arith, length_is)) (word_front kept bytes (omega arith) ∙ is.magic) is.allowed (header_kept bytes header kept is.is behind) (omega (arith, length_is, is.long))
    ]) ∙ ap (λ n. Err (Truncated n)) length_is
