use Rattle.std.proofs.Common.{◌≡◌, ◌^◌, ◌<◌, Bool, List, ℕ, [], ◌++◌, Option, ap, ap₂, subst, sym, ◌∙◌}
use Rattle.std.specs.Prelude.{if◌then◌else◌}
use Rattle.std.specs.Option.{is_some}
use Rattle.address_map.specs.Pairs.{word_at}
use Rattle.vax_form.specs.Grammar.{Spells}
use Rattle.dis_text.specs.Bytes.{bytes_at, count_of}
use Rattle.dis_text.specs.Lines.{instruction_line}
use Rattle.dis_text.specs.Words.{block_text}
use Rattle.dis_text.proofs.Appended.{two}
use Rattle.dis_text.proofs.Spelled.{spelled}
use Rattle.dis_text.proofs.pieces.put_instruction_piece.Goals as goal

pub put_instruction_line-requires : goal.put_instruction_line-requires
put_instruction_line-requires c =
    let instr = c.args.instr.now in
    let pages = c.args.listing.now.pages.now in
    let low : instr.at < 2 ^ 32 = subst (λ n. n < 2 ^ 32) c.address_of-at.ensures.value c.address_of-at.ensures.low in
    let is : c.deref.result.now ≡ bytes_at pages instr.at (count_of instr) =
    c.deref.ensures.value ∙ c.in_ok-bytes.ensures ∙ ap₂ (bytes_at pages) c.address_of-at.ensures.value (c.from-count.ensures ∙ c.count_of.ensures) in
    subst (λ (bs : List ℕ). Spells instr.at bs instr) (sym is) (spelled pages instr c.table_has_bytes.ensures low c.requires)

pub returns : goal.returns
returns c =
    let instr = c.args.instr.now in
    let pages = c.args.listing.now.pages.now in
    let code = c.args.listing.now.code in
    let first = word_at code.map.now instr.at in
    let is : c.deref.result.now ≡ bytes_at pages instr.at (count_of instr) =
    c.deref.ensures.value ∙ c.in_ok-bytes.ensures ∙ ap₂ (bytes_at pages) c.address_of-at.ensures.value (c.from-count.ensures ∙ c.count_of.ensures) in
    let has : c.is_some.result ≡ is_some first = c.is_some.ensures ∙ ap is_some c.look_up-first.ensures in
    let words : Option ℕ → List ℕ = λ f. if code.is_told then block_text code.words.now code.map.now f else [] in
    two c.args.out.now.items (instruction_line (bytes_at pages instr.at (count_of instr)) instr c.args.inside (is_some first)) (words first)
    c.put_instruction_line.new.out.items _
    (c.in_ok-put_instruction_line.ensures ∙ ap₂ (λ (bs : List ℕ) (h : Bool). c.args.out.now.items ++ instruction_line bs instr c.args.inside h) is has)
    (c.in_ok-put_code.ensures ∙ ap (λ (f : Option ℕ). c.put_instruction_line.new.out.items ++ words f) c.look_up-first.ensures)
