-- The file is the one that was made.
use Rattle.std.proofs.Common.{ℕ, List, Option, Some, subst, sym}
use Rattle.vest_cli.specs.Hints.{StoresFile}
use Rattle.vest_cli.specs.Storing.{Stores}
use Rattle.vest_cli.specs.declared.hinting.HintFile.{HintFile}
use Rattle.vest_cli.proofs.hinting.store_hints.Goals as goal

pub returns-in-Some : goal.returns-in-Some
returns-in-Some g c =
    let stored = subst (λ (bytes : List ℕ). Stores c.write_behind.result c.args.sent (Some c.deref.result.now) bytes (g.D.Desk.meaning c.args.desk.now) (g.D.Desk.meaning c.write_behind.new.desk)) c.deref-in-Some.ensures.value c.write_behind.ensures in
    let named = subst (λ (name : List ℕ). Stores c.write_behind.result c.args.sent (Some name) c.in-Some.file.bytes.items (g.D.Desk.meaning c.args.desk.now) (g.D.Desk.meaning c.write_behind.new.desk)) c.deref.ensures stored in
    subst (λ (file : Option HintFile). StoresFile file c.write_behind.result c.args.sent (g.D.Desk.meaning c.args.desk.now) (g.D.Desk.meaning c.write_behind.new.desk)) (sym c.in-Some.is) named
