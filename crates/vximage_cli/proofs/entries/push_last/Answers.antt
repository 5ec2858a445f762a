-- What is behind the last line end is one line, or nothing.
use Rattle.std.proofs.Common.{◌≡◌, ◌∙◌, ℕ, List, [], Ok, IfErr, OnOk, subst, sym}
use Rattle.std.proofs.lemmas.Result.{IfErr-weaker, IfOk-weaker}
use Rattle.vximage_cli.specs.Entries.{IsFault, listed_from}
use Rattle.vximage_cli.proofs.Lines.{one_line}
use Rattle.vximage_cli.proofs.entries.push_last.Goals as goal

pub returns-else-is_empty-clause-ok : goal.returns-else-is_empty-clause-ok
returns-else-is_empty-clause-ok c =
    subst (λ (lines : List (List ℕ)). OnOk c.push_address.result (listed_from c.args.entries.now.items lines ≡ Ok c.push_address.new.entries.items))
    (sym (one_line c.args.line.now (sym c.is_empty.ensures ∙ c.if-is_empty.false)))
    (IfOk-weaker c.push_address.result _ _ (λ _ listed. listed []) c.push_address.ensures.ok)

pub returns-else-is_empty-clause-err : goal.returns-else-is_empty-clause-err
returns-else-is_empty-clause-err c =
    subst (λ (lines : List (List ℕ)). IfErr c.push_address.result (λ fault. IsFault fault (listed_from c.args.entries.now.items lines)))
    (sym (one_line c.args.line.now (sym c.is_empty.ensures ∙ c.if-is_empty.false)))
    (IfErr-weaker c.push_address.result _ _ (λ _ fault. fault []) c.push_address.ensures.err)
