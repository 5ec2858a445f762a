use Rattle.std.proofs.Common.{sym, ◌∙◌, ap, subst}
use Rattle.vax_form.specs.GrammarLaws.{AreBytes}
use Rattle.vax_form.specs.GrammarFound.{Stands, fetched, found, found_in}
use Rattle.vax_form.proofs.GrammarStands.{Stands-found, found-only}
use Rattle.vax_decode.proofs.Decoding.{spelled_from}
use Rattle.vax_decode.proofs.decode.decode_at.Goals as goal

pub returns : goal.returns
unfolding found
returns c =
    let pages = c.args.pages.now in
    let pc = c.args.pc in
    let fetch = c.fetch-count.ensures.bytes in
    let are : AreBytes (fetched pages pc 64) = subst AreBytes fetch c.decode.ensures.bytes in
    let exact = c.decode.ensures.exact ∙ ap (found_in pc) fetch in
    let stands = subst (Stands pages pc) (sym exact) (Stands-found pages pc are) in
    record {
      exact = exact;
      stands = stands;
      only = λ other h. found-only pages pc other are h ∙ sym exact;
      spelled = spelled_from pages pc c.decode.result stands;
    }
