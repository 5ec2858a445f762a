-- The word that is looked up is ready.
use Rattle.std.proofs.Common.{List, sym, subst, length}
use Rattle.prepared_code.specs.Prepared.{AreReady, IsReady}
use Rattle.prepared_code.specs.Sources.{Source}
use Rattle.prepared_code.specs.declared.prepared.Word.{Word}
use Rattle.prepared_code.proofs.Words.{ready_at}
use Rattle.prepared_code.proofs.prepared.Prepared.word.Goals as goal

pub returns-in-Some-clause-ready : goal.returns-in-Some-clause-ready
returns-in-Some-clause-ready c =
    let found = c.in-Some.ensures.lookup.3 in
    let p = c.self.inside in
    let are : AreReady p.words.now p.map.now c.deref.result.now (length p.words.now) =
    subst (λ (ws : List Word). AreReady p.words.now p.map.now ws (length p.words.now)) (sym c.deref.ensures.value) c.self.invariant.words in
    subst (λ (s : Source). IsReady s.code.words s.code.map c.args.word c.in-Some.word.now) c.self.view_is
    (ready_at p.words.now p.map.now c.deref.result.now c.args.word c.in-Some.word.now are found.0 (found.1 c.in-Some.word.now))
