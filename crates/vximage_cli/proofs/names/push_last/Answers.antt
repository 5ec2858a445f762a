-- What is behind the last line end is one line, or nothing.
use Rattle.std.proofs.Common.{◌≡◌, ◌∙◌, ℕ, List, [], Ok, IfErr, OnOk, map, subst, sym}
use Rattle.std.proofs.lemmas.Result.{IfErr-weaker, IfOk-weaker}
use Rattle.dis_text.specs.Made.{name_value}
use Rattle.vximage_cli.specs.Names.{IsBadLine, named_from}
use Rattle.vximage_cli.proofs.Lines.{one_line}
use Rattle.vximage_cli.proofs.names.push_last.Goals as goal

pub returns-else-is_empty-clause-ok : goal.returns-else-is_empty-clause-ok
returns-else-is_empty-clause-ok c =
    subst (λ (lines : List (List ℕ)). OnOk c.push_name.result (named_from (map name_value c.args.names.now.items) lines ≡ Ok (map name_value c.push_name.new.names.items)))
    (sym (one_line c.args.line.now (sym c.is_empty.ensures ∙ c.if-is_empty.false)))
    (IfOk-weaker c.push_name.result _ _ (λ _ listed. listed []) c.push_name.ensures.ok)

pub returns-else-is_empty-clause-err : goal.returns-else-is_empty-clause-err
returns-else-is_empty-clause-err c =
    subst (λ (lines : List (List ℕ)). IfErr c.push_name.result (λ fault. IsBadLine fault (named_from (map name_value c.args.names.now.items) lines)))
    (sym (one_line c.args.line.now (sym c.is_empty.ensures ∙ c.if-is_empty.false)))
    (IfErr-weaker c.push_name.result _ _ (λ _ fault. fault []) c.push_name.ensures.err)
