use Rattle.std.proofs.Common.{◌≡◌, ap, sym, ◌∙◌, List, reverse, subst}
use Rattle.std.proofs.lemmas.List.{reverse-reverse}
use Rattle.vax_form.specs.declared.state.Flags.{Flags}
use Rattle.cc_liveness.specs.Liveness.{AreLive, live_codes}
use Rattle.cc_liveness.proofs.Lives.{recursion_is_liveness}
use Rattle.cc_liveness.proofs.liveness.live.Goals as goal

pub returns-clause-live : goal.returns-clause-live
returns-clause-live c =
    let run = c.args.run.now in
    let found : c.reverse.new.self.items ≡ live_codes run = c.reverse.ensures.items ∙ ap reverse c.in_ok-found.ensures ∙ reverse-reverse (live_codes run) in
    subst (λ (xs : List Flags). AreLive run xs) (sym found) (recursion_is_liveness run)
