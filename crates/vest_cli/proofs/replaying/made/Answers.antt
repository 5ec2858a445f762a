-- Both files were read, and all that goes out was made.
use Rattle.std.proofs.Common.{◌≡◌, ◌∙◌, ℕ, length, IfErr, Ok, Option, ap, inl, inr, option_map, rules, subst, sym}
use Rattle.std.proofs.lemmas.Result.{IfErr-weaker, IfOk-weaker, err_from_is_err_and}
use Rattle.report_text.specs.Report.{report_text}
use Rattle.stored_runs.specs.Replay.{ReplayedValue, replay_of}
use Rattle.vest_stops.specs.declared.stop.Stop.{Stop}
use Rattle.vest_cli.specs.Hints.{HasHints}
use Rattle.vest_cli.specs.Replay.{HasOrder, StopsAtOrderFile, StopsReplay}
use Rattle.vest_cli.specs.declared.hinting.HintFile.{HintFile}
use Rattle.vest_cli.proofs.StoredOrders.{has_before, order_before, same_both}
use Rattle.vest_cli.proofs.replaying.made.Goals as goal

pub returns-in_err-order-clause-why : goal.returns-in_err-order-clause-why
returns-in_err-order-clause-why g c =
    let loaded = c.in_ok-loaded.loaded in
    let count : c.len.result ≡ length loaded.image.threads = search rules in
    let why : IfErr c.from_residual-in_err-order.result (λ stop. StopsAtOrderFile stop c.len.result c.args.file.now (g.D.Desk.meaning c.load.new.desk) (g.D.Desk.meaning c.order_in.new.desk)) = search rules in
    IfErr-weaker c.from_residual-in_err-order.result _ _
    (λ stop stops. inr (
      loaded.image,
      loaded.target,
      loaded.translation,
      c.in_ok-loaded.ensures.does,
      inl (order_before stop (length loaded.image.threads) c.args.file.now (g.D.Desk.meaning c.args.desk.now) (g.D.Desk.meaning c.load.new.desk) (g.D.Desk.meaning c.order_in.new.desk) c.load.ensures.stays
          (subst (λ (n : ℕ). StopsAtOrderFile stop n c.args.file.now (g.D.Desk.meaning c.load.new.desk) (g.D.Desk.meaning c.order_in.new.desk)) count stops)),
    )) why

pub returns-in_err-order-clause-stays : goal.returns-in_err-order-clause-stays
returns-in_err-order-clause-stays g c =
    same_both (g.D.Desk.meaning c.args.desk.now) (g.D.Desk.meaning c.load.new.desk) (g.D.Desk.meaning c.order_in.new.desk) c.load.ensures.stays c.order_in.ensures.stays

pub returns-in_err-given-clause-why : goal.returns-in_err-given-clause-why
returns-in_err-given-clause-why g c =
    let loaded = c.in_ok-loaded.loaded in
    let count : c.len.result ≡ length loaded.image.threads = search rules in
    let has : HasOrder (length loaded.image.threads) (g.D.Desk.meaning c.args.desk.now).files c.args.file.now c.in_ok-order.order =
    has_before (length loaded.image.threads) c.args.file.now c.in_ok-order.order (g.D.Desk.meaning c.args.desk.now) (g.D.Desk.meaning c.load.new.desk) c.load.ensures.stays
    (subst (λ (n : ℕ). HasOrder n (g.D.Desk.meaning c.load.new.desk).files c.args.file.now c.in_ok-order.order) count c.in_ok-order.ensures.ok) in
    let p = err_from_is_err_and c.from_residual-in_err-given.result c.from_residual-in_err-given.ensures.1 in
    rw (p.1, p.2) (inr (loaded.image, loaded.target, loaded.translation, c.in_ok-loaded.ensures.does, inr (c.in_ok-order.order, has, c.in_err-given.ensures.err)))

pub returns-in_err-given-clause-stays : goal.returns-in_err-given-clause-stays
returns-in_err-given-clause-stays g c =
    same_both (g.D.Desk.meaning c.args.desk.now) (g.D.Desk.meaning c.load.new.desk) (g.D.Desk.meaning c.order_in.new.desk) c.load.ensures.stays c.order_in.ensures.stays

pub returns-clause-why : goal.returns-clause-why
returns-clause-why g c =
    IfErr-weaker c.with_lines.result _ _
    (λ stop is. subst (λ (s : Stop). StopsReplay s c.args.name.now c.args.file.now (g.D.Desk.meaning c.args.desk.now) (g.D.Desk.meaning c.order_in.new.desk)) (sym is) (inl (inl tt)))
    c.with_lines.ensures.err

pub returns-clause-ok : goal.returns-clause-ok
returns-clause-ok g c =
    let loaded = c.in_ok-loaded.loaded in
    let order = c.in_ok-order.order in
    let count : c.len.result ≡ length loaded.image.threads = search rules in
    let stored : HasOrder (length loaded.image.threads) (g.D.Desk.meaning c.args.desk.now).files c.args.file.now order =
    has_before (length loaded.image.threads) c.args.file.now order (g.D.Desk.meaning c.args.desk.now) (g.D.Desk.meaning c.load.new.desk) c.load.ensures.stays
    (subst (λ (n : ℕ). HasOrder n (g.D.Desk.meaning c.load.new.desk).files c.args.file.now order) count c.in_ok-order.ensures.ok) in
    IfOk-weaker c.with_lines.result _ _
    (λ made is. record {
      gives = record {
        image = loaded.image;
        target = loaded.target;
        code = loaded.translation;
        loaded = c.in_ok-loaded.ensures.does;
        order = order;
        stored = stored;
        gives = subst (λ (r : ReplayedValue). replay_of loaded.image order ≡ Ok r) (sym is.gives) c.in_ok-given.ensures.ok;
      };
      lines = is.lines ∙ ap (λ (r : ReplayedValue). report_text r.ends) (sym is.gives);
      hinted = subst (λ (f : Option HintFile). HasHints loaded.image order loaded.translation.map (option_map (λ s. s.now) c.args.hints) f) (sym is.hinted) c.in_ok-given.ensures.hints;
    })
    c.with_lines.ensures.ok

pub returns-clause-stays : goal.returns-clause-stays
returns-clause-stays g c =
    same_both (g.D.Desk.meaning c.args.desk.now) (g.D.Desk.meaning c.load.new.desk) (g.D.Desk.meaning c.order_in.new.desk) c.load.ensures.stays c.order_in.ensures.stays
