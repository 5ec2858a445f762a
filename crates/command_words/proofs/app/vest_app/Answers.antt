use Rattle.std.proofs.Common.{◌≡◌, ◌∙◌, rules, ap, ap₂}
use Rattle.std.proofs.lemmas.Result.{IfOk-weaker}
use Rattle.clap.specs.Words.{App, app_of, with_subcommand}
use Rattle.command_words.specs.App.{plain_app, replay_app, run_app, top_app, translate_app}
use Rattle.std.specs.Prelude.{codes}
use Rattle.command_words.proofs.app.vest_app.Goals as goal

pub returns : goal.returns
returns c =
    let run_is : app_of c.in_ok-run.run' ≡ run_app = search rules in
    let translate_is : app_of c.in_ok-translate.translate ≡ translate_app = search rules in
    let list_is : app_of c.in_ok-list.list ≡ plain_app (codes "list") = search rules in
    let generate_is : app_of c.in_ok-generate.generate ≡ plain_app (codes "generate") = search rules in
    let replay_is : app_of c.in_ok-replay.replay ≡ replay_app = search rules in
    let one : app_of c.in_ok-with_run.with_run ≡ with_subcommand top_app run_app.top =
    c.in_ok-with_run.ensures.shape (search rules) ∙ ap₂ with_subcommand c.top_app.ensures (ap (λ (a : App). a.top) run_is) in
    let two : app_of c.in_ok-with_translate.with_translate ≡ with_subcommand (with_subcommand top_app run_app.top) translate_app.top =
    c.in_ok-with_translate.ensures.shape (search rules) ∙ ap₂ with_subcommand one (ap (λ (a : App). a.top) translate_is) in
    let three : app_of c.in_ok-with_list.with_list
    ≡ with_subcommand (with_subcommand (with_subcommand top_app run_app.top) translate_app.top) (plain_app (codes "list")).top =
    c.in_ok-with_list.ensures.shape (search rules) ∙ ap₂ with_subcommand two (ap (λ (a : App). a.top) list_is) in
    let four : app_of c.in_ok-with_generate.with_generate
    ≡ with_subcommand (with_subcommand (with_subcommand (with_subcommand top_app run_app.top) translate_app.top) (plain_app (codes "list")).top) (plain_app (codes "generate")).top =
    c.in_ok-with_generate.ensures.shape (search rules) ∙ ap₂ with_subcommand three (ap (λ (a : App). a.top) generate_is) in
    IfOk-weaker c.subcommand-5.result _ _ (λ r added. added.shape (search rules) ∙ ap₂ with_subcommand four (ap (λ (a : App). a.top) replay_is)) c.subcommand-5.ensures
