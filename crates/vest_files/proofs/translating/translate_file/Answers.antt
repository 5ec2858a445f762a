-- What `translate` does and why it stops, by its stages.
use Rattle.std.proofs.Common.{◌≡◌, IfOk, ℕ, List, rules, subst, sym, inr}
use Rattle.std.specs.Prelude.{option_map}
use Rattle.std.proofs.lemmas.Result.{err_from_is_err_and}
use Rattle.vest_stops.specs.Decided.{goes_on}
use Rattle.vest_files.specs.Stages.{IsFile}
use Rattle.vest_files.specs.Translate.{StopsTranslate}
use Rattle.vest_files.proofs.Deciding.{translate_decided, translate_goes}
use Rattle.vest_files.proofs.Sooner.{made_sooner, translating_sooner}
use Rattle.vest_files.proofs.translating.translate_file.Goals as goal

stops_so : goal.returns-in_err-file-clause-why
stops_so g c =
    let old = g.D.Desk.meaning c.args.desk.now in
    let read = g.D.Desk.meaning c.read_file.new.desk in
    let new = g.D.Desk.meaning c.file_of.new.desk in
    let hinted = option_map (λ s. s.now) c.args.hinted in
    let stop = c.in_err-file.field-0.0 in
    let bytes = c.deref.result.now in
    let file : IsFile old.files c.args.name.now bytes = subst (λ (b : List ℕ). IsFile old.files c.args.name.now b) (sym c.deref.ensures.value) c.in_ok-bytes.ensures.ok in
    let stops : StopsTranslate stop c.args.name.now hinted old new = inr (bytes, file, translating_sooner old read c.in_ok-bytes.ensures.stays stop bytes hinted new c.in_err-file.ensures.err) in
    let p = err_from_is_err_and c.from_residual-in_err-file.result c.from_residual-in_err-file.ensures.1 in
    rw (p.1, p.2) stops

pub returns-in_err-file-clause-why : goal.returns-in_err-file-clause-why
returns-in_err-file-clause-why g c = stops_so g c

pub returns-in_err-file-clause-decided : goal.returns-in_err-file-clause-decided
returns-in_err-file-clause-decided g c = λ d e.
    let none : IfOk c.from_residual-in_err-file.result (λ _. d ≡ goes_on) = search rules in
    translate_decided c.from_residual-in_err-file.result d c.args.name.now (option_map (λ s. s.now) c.args.hinted) (g.D.Desk.meaning c.args.desk.now) (g.D.Desk.meaning c.file_of.new.desk) (stops_so g c) none e

pub returns-clause-decided : goal.returns-clause-decided
returns-clause-decided g c = λ d e.
    let old = g.D.Desk.meaning c.args.desk.now in
    let read = g.D.Desk.meaning c.read_file.new.desk in
    let hinted = option_map (λ s. s.now) c.args.hinted in
    translate_goes old.files c.args.name.now c.deref.result.now hinted c.args.target c.in_ok-file.file.items d
    (subst (λ (bytes : List ℕ). IsFile old.files c.args.name.now bytes) (sym c.deref.ensures.value) c.in_ok-bytes.ensures.ok)
    (made_sooner old read c.in_ok-bytes.ensures.stays c.args.target c.deref.result.now hinted c.in_ok-file.file.items c.in_ok-file.ensures.ok) e
