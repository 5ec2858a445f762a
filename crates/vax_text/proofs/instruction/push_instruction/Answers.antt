use Rattle.std.proofs.Common.{◌≡◌, ◌++◌, ◌+◌, sym, ap, ◌∙◌, append-nil, take}
use Rattle.std.specs.List.{zip}
use Rattle.vax_form.specs.Grammar.{wrapped}
use Rattle.vax_text.specs.Names.{name_of}
use Rattle.vax_text.specs.Text.{operands_text, walk}
use Rattle.vax_text.proofs.Rows.{no_types, row_of}
use Rattle.vax_text.proofs.instruction.push_instruction.Goals as goal

pub shared_ref_as_front-accesses : goal.shared_ref_as_front-accesses
shared_ref_as_front-accesses c = let row = row_of c.args.opcode c.in-Some.row c.in-Some.ensures.value in row.few

pub returns-clause-text : goal.returns-clause-text
unfolding walk
returns-clause-text c =
    let row = row_of c.args.opcode c.in-Some.row c.in-Some.ensures.value in
    let named : c.push_text.new.line.items ≡ name_of c.args.opcode = c.push_text.ensures.text ∙ ap (λ l. l ++ c.name_of.result.now) c.requires ∙ c.name_of.ensures.name in
    c.push_operands.ensures.text
    ∙ ap (λ l. l ++ (operands_text 32 (zip (take c.in-Some.row.count c.in-Some.row.access) (take c.in-Some.row.count c.in-Some.row.size)) (wrapped (c.args.at + 1)) c.args.rest.now).0) named
    ∙ ap (λ types. name_of c.args.opcode ++ (operands_text 32 types (wrapped (c.args.at + 1)) c.args.rest.now).0) row.are_types

pub returns-in_default-clause-text : goal.returns-in_default-clause-text
unfolding walk operands_text
returns-in_default-clause-text c =
    let named : c.push_text.new.line.items ≡ name_of c.args.opcode = c.push_text.ensures.text ∙ ap (λ l. l ++ c.name_of.result.now) c.requires ∙ c.name_of.ensures.name in
    let none = no_types c.args.opcode c.in_default.ensures.value in
    named ∙ sym (append-nil (name_of c.args.opcode))
    ∙ ap (λ types. name_of c.args.opcode ++ (operands_text 32 types (wrapped (c.args.at + 1)) c.args.rest.now).0) (sym none)
