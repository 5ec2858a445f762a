-- The report of processors, one by one.
use Rattle.std.proofs.Common.{◌≡◌, ◌<◌, ◌≤◌, ◌+◌, ◌++◌, ◌||◌, ℕ, Bool, true, false, if◌then◌else◌, List, [], ◌∷◌, Result, Ok, Err, OnErr, length, take, drop, get_or, map, refl, sym, ap, ap₂, ◌∙◌, subst, append_assoc, append-nil}
use Rattle.std.specs.List.{list_any}
use Rattle.std.proofs.lemmas.List.{take_all, take_more, take-append-drop}
use Rattle.std.proofs.lemmas.List.Folds.{list_any_at}
use Rattle.system_model.specs.Processors.{Processor}
use Rattle.tie_switch.specs.Processors.{ProcessorValue, processor_of}
use Rattle.system_model.specs.Interpreted.{has_raised}
use Rattle.vest_stops.specs.declared.status.Done.{Done}
use Rattle.vest_stops.specs.declared.status.Done.TheVariants as done
use Rattle.vest_runs.specs.Report.{is_spent, lines_of, report_of, done_by_ends}
use Rattle.vt_outside.proofs.Taking.{took_both, took_some_first, took_some_second}
use Rattle.vt_outside.specs.Sink.{SinkMeaning}
use Rattle.vt_outside.specs.Taking.{TookAll, TookSome}

abbrev pub report : List ProcessorValue → List ℕ
report ps = report_of (map processor_of ps)

report_both : (ps qs : List ProcessorValue) → report (ps ++ qs) ≡ report ps ++ report qs
report_both [] qs = refl
report_both (p ∷ ps) qs =
    ap (λ (t : List ℕ). lines_of (processor_of p) ++ t) (report_both ps qs) ∙ sym (append_assoc (lines_of (processor_of p)) (report ps) (report qs))

report_more : (ps : List ProcessorValue) (i : ℕ) (d : ProcessorValue) → i < length ps → report (take (i + 1) ps) ≡ report (take i ps) ++ lines_of (processor_of (get_or ps i d))
report_more ps i d lt =
    ap report (take_more ps i d lt) ∙ report_both (take i ps) (get_or ps i d ∷ [])
    ∙ ap (λ (t : List ℕ). report (take i ps) ++ t) (append-nil (lines_of (processor_of (get_or ps i d))))

report_whole : (ps : List ProcessorValue) (i : ℕ) → report ps ≡ report (take i ps) ++ report (drop i ps)
report_whole ps i = ap report (sym (take-append-drop i ps)) ∙ report_both (take i ps) (drop i ps)

report_next : (ps : List ProcessorValue) (i : ℕ) (p : ProcessorValue) → i < length ps → p ≡ get_or ps i p → report (take i ps) ++ lines_of (processor_of p) ≡ report (take (i + 1) ps)
report_next ps i p lt at =
    ap (λ (q : ProcessorValue). report (take i ps) ++ lines_of (processor_of q)) at ∙ sym (report_more ps i p lt)

-- one more took its lines
pub took_lines : (ps : List ProcessorValue) (i : ℕ) (p : ProcessorValue) (old mid new : SinkMeaning) → i < length ps → p ≡ get_or ps i p
    → TookAll old mid (report (take i ps)) → TookAll mid new (lines_of (processor_of p)) → TookAll old new (report (take (i + 1) ps))
took_lines ps i p old mid new lt at before here =
    subst (λ (t : List ℕ). TookAll old new t) (report_next ps i p lt at) (took_both old mid new (report (take i ps)) (lines_of (processor_of p)) before here)

-- or failed in them
pub failed_lines : (ps : List ProcessorValue) (i : ℕ) (p : ProcessorValue) (old mid new : SinkMeaning) → i < length ps → p ≡ get_or ps i p
    → TookAll old mid (report (take i ps)) → TookSome mid new (lines_of (processor_of p)) → TookSome old new (report ps)
failed_lines ps i p old mid new lt at before here =
    subst (λ (t : List ℕ). TookSome old new t) (sym (report_whole ps (i + 1)))
    (took_some_first old new (report (take (i + 1) ps)) (report (drop (i + 1) ps))
    (subst (λ (t : List ℕ). TookSome old new t) (report_next ps i p lt at) (took_some_second old mid new (report (take i ps)) (lines_of (processor_of p)) before here)))

-- ---- how a run ends
abbrev pub raised : List ProcessorValue → Bool
raised ps = list_any (λ (p : ProcessorValue). has_raised (processor_of p).mode) ps

abbrev pub spent : List ProcessorValue → Bool
spent ps = list_any (λ (p : ProcessorValue). is_spent (processor_of p).mode) ps

any_of : (test : Processor → Bool) (ps : List ProcessorValue) → list_any test (map processor_of ps) ≡ list_any (λ (p : ProcessorValue). test (processor_of p)) ps
any_of test [] = refl
any_of test (p ∷ ps) = ap (λ (b : Bool). test (processor_of p) || b) (any_of test ps)

by_tests : Bool → Bool → Done
by_tests raised spent = if raised then done.Exception else if spent then done.Spent else done.Ok

tested : (ps : List ProcessorValue) (r s : Bool) → raised ps ≡ r → spent ps ≡ s → by_tests r s ≡ done_by_ends (map processor_of ps)
unfolding by_tests
tested ps r s e f = sym (ap₂ by_tests (any_of (λ (p : Processor). has_raised p.mode) ps ∙ e) (any_of (λ (p : Processor). is_spent p.mode) ps ∙ f))

-- one raised an exception
pub ends_raised : (ps : List ProcessorValue) (i : ℕ) (p : ProcessorValue) → i < length ps → p ≡ get_or ps i p → has_raised (processor_of p).mode ≡ true
    → done.Exception ≡ done_by_ends (map processor_of ps)
unfolding by_tests
ends_raised ps i p lt at is = tested ps true _ (list_any_at (λ (q : ProcessorValue). has_raised (processor_of q).mode) ps i p lt (subst (λ (q : ProcessorValue). has_raised (processor_of q).mode ≡ true) at is)) refl

-- none of them did
module _ (ps : List ProcessorValue) (n : ℕ) (all : length ps ≤ n) (none : raised (take n ps) ≡ false) where
  no_exception : raised ps ≡ false
  no_exception = ap raised (sym (take_all n ps all)) ∙ none

  pub ends_spent : true ≡ spent (take n ps) → done.Spent ≡ done_by_ends (map processor_of ps)
  unfolding by_tests
  ends_spent some = tested ps false true no_exception (ap spent (sym (take_all n ps all)) ∙ sym some)

  pub all_exit : false ≡ spent (take n ps) → done.Ok ≡ done_by_ends (map processor_of ps)
  unfolding by_tests
  all_exit none_spent = tested ps false false no_exception (ap spent (sym (take_all n ps all)) ∙ sym none_spent)
