-- The file was loaded, and its image has one thread or not.
use Rattle.std.proofs.Common.{◌≡◌, ◌∙◌, IfErr, IfOk, List, ap, inr, map, refl, rules, subst}
use Rattle.std.proofs.lemmas.Result.{IfErr-weaker}
use Rattle.command_words.specs.declared.numbers.Range.{Range}
use Rattle.image_meaning.specs.declared.target.Target.{Target}
use Rattle.vest_files.specs.Loading.{Loads}
use Rattle.vest_files.specs.Stages.{StopsWhere}
use Rattle.vest_stops.specs.Decided.{goes_on}
use Rattle.vest_cli.specs.Live.{RefusesThreads}
use Rattle.vest_cli.specs.Run.{range_of, target_of}
use Rattle.vest_cli.proofs.Lived.{alone_goes, live_decided}
use Rattle.vest_cli.proofs.living.live_task_of.Goals as goal

pub returns-in_err-only_thread-clause-why : goal.returns-in_err-only_thread-clause-why
returns-in_err-only_thread-clause-why g c =
    let loaded = c.in_ok-loaded.loaded in
    let loads = subst (λ (asked : Target). Loads asked (g.D.Desk.meaning c.args.desk.now).files c.args.name.now loaded.image loaded.target loaded.translation) c.target_of.ensures c.in_ok-loaded.ensures.does in
    let why : IfErr c.from_residual-in_err-only_thread.result (StopsWhere (RefusesThreads loaded.image)) = search rules in
    IfErr-weaker c.from_residual-in_err-only_thread.result _ _ (λ stop refuses. inr (loaded.image, loaded.target, loaded.translation, loads, refuses)) why

pub returns-in_err-only_thread-clause-decided : goal.returns-in_err-only_thread-clause-decided
returns-in_err-only_thread-clause-decided g c = λ d e.
    let none : IfOk c.from_residual-in_err-only_thread.result (λ _. d ≡ goes_on) = search rules in
    live_decided c.from_residual-in_err-only_thread.result d (target_of c.args.options.now.target) c.args.name.now (g.D.Desk.meaning c.args.desk.now) (g.D.Desk.meaning c.load.new.desk)
    (returns-in_err-only_thread-clause-why g c) none e

pub returns-clause-task : goal.returns-clause-task
returns-clause-task g c =
    let loaded = c.in_ok-loaded.loaded in
    record {
      loads = subst (λ (asked : Target). Loads asked (g.D.Desk.meaning c.args.desk.now).files c.args.name.now loaded.image loaded.target loaded.translation) c.target_of.ensures c.in_ok-loaded.ensures.does;
      whole = c.in_ok-loaded.ensures.whole;
      meets = c.in_ok-loaded.ensures.meets;
      alone = c.in_ok-only_thread.ensures.alone;
      same_budget = refl;
      same_miss = refl;
      same_ranges = c.in_ok-ranges.ensures ∙ ap (λ (rs : List Range). map range_of rs) c.deref.ensures.value;
      same_progress = refl;
    }

pub returns-clause-decided : goal.returns-clause-decided
returns-clause-decided g c = λ d e.
    let loaded = c.in_ok-loaded.loaded in
    let loads = subst (λ (asked : Target). Loads asked (g.D.Desk.meaning c.args.desk.now).files c.args.name.now loaded.image loaded.target loaded.translation) c.target_of.ensures c.in_ok-loaded.ensures.does in
    alone_goes (g.D.Desk.meaning c.args.desk.now).files (target_of c.args.options.now.target) c.args.name.now loaded.image loaded.target loaded.translation d
    loads c.in_ok-only_thread.ensures.alone e
