-- Behind the files, the bytes say why.
use Rattle.std.proofs.Common.{rules, ◌≡◌, ℕ, List, None, inl, inr, subst, sym}
use Rattle.vest_files.specs.Stages.{IsFile}
use Rattle.vximage_words.specs.Commands.{listing_wanted}
use Rattle.vximage_cli.specs.Listing.{StopsListing}
use Rattle.vximage_cli.specs.Named.{name_told}
use Rattle.vximage_cli.specs.declared.halt.Halt.{Halt}
use Rattle.vximage_cli.proofs.listing.list.Goals as goal

pub returns-in-Err-clause-why : goal.returns-in-Err-clause-why
returns-in-Err-clause-why g c =
    let halt : Halt = record { stop = c.in-Err.stop; name = None } in
    let same : c.from.result ≡ halt = search rules in
    let file = subst (λ (bytes : List ℕ). IsFile (g.D.Desk.meaning c.args.desk.now).files c.args.name.now bytes) (sym c.deref.ensures.value) c.in_ok-bytes.ensures.ok in
    subst (λ (h : Halt). StopsListing h.stop (name_told h) c.args.name.now (listing_wanted c.args.asked.now) (g.D.Desk.meaning c.args.desk.now) (g.D.Desk.meaning c.names_in.new.desk))
    (sym same) (inr (inl (c.deref.result.now, file, c.in-Err.ensures.err)))
