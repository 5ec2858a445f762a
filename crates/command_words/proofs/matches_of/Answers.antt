use Rattle.std.proofs.Common.{◌≡◌, ◌∙◌, ap, inl, inr, subst, sym, map, List, Global}
use Rattle.std.specs.String.{string_bytes}
use Rattle.clap.specs.Words.{App, app_of, fault_of, is_simple, is_simple_and_free, kind_of, subcommand_of, IsAmong}
use Rattle.command_words.specs.App.{vest_app}
use Rattle.command_words.specs.Parts.{Text}
use Rattle.command_words.proofs.Parsed.{is_covered, is_simple_line, no_line, ok_line}
use Rattle.command_words.proofs.matches_of.Goals as goal

pub returns-in-Ok-try_get_matches_from-clause-ok : goal.returns-in-Ok-try_get_matches_from-clause-ok
returns-in-Ok-try_get_matches_from-clause-ok c =
    let words : List Text = map (string_bytes {Z = Global}) c.args.words.now in
    let app_is : app_of c.in-Ok.command ≡ vest_app = c.in-Ok.ensures in
    let none = c.in-Ok-try_get_matches_from.ensures.kinds (ap is_simple_and_free app_is ∙ is_covered) in
    let exact = c.in-Ok-try_get_matches_from.ensures.matches (ap is_simple app_is ∙ is_simple_line) in
    ok_line words c.in-Ok-try_get_matches_from.matches (sym (ap (λ (a : App). fault_of a words) app_is) ∙ none) (exact.1 ∙ ap (λ (a : App). subcommand_of a words) app_is)

pub returns : goal.returns
returns c =
    let words : List Text = map (string_bytes {Z = Global}) c.args.words.now in
    let app_is : app_of c.in-Ok.command ≡ vest_app = c.in-Ok.ensures in
    let kinds = c.in-Err.ensures.kinds (ap is_simple_and_free app_is ∙ is_covered) in
    record {
      ok = tt;
      usage = λ e. elim kinds [
        | inl memory ↦ absurd (c.in_default-kind.not-OutOfMemory (c.kind.ensures ∙ memory))
        | inr among ↦ no_line words (kind_of c.in-Err.error) (subst (λ (a : App). IsAmong (kind_of c.in-Err.error) (fault_of a words)) app_is among)
      ];
    }
