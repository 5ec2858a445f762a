-- A world of one processor, turn by turn to its end.
use Rattle.std.proofs.Common.{◌≡◌, ℕ, ◌+◌, ◌-◌, ◌<◌, ◌≤◌, ◌⊎◌, inl, inr, if◌then◌else◌, Bool, true, false, List, [], ◌∷◌, Some, length, refl, sym, ap, ◌∙◌, subst, arith}
use Rattle.std.specs.Prelude.{map, option_map, slice_get}
use Rattle.std.specs.List.{AllByRecursion, AllZip}
use Rattle.std.proofs.lemmas.Option.{slice_get_within}
use Rattle.image_file.specs.Start.{start_state}
use Rattle.memory_core.specs.declared.entry.Entry.{Entry}
use Rattle.memory_core.specs.declared.entry.Limit.{Limit}
use Rattle.system_model.specs.Legal.{IsReached, IsSpent}
use Rattle.system_model.specs.Processors.{Processor}
use Rattle.system_model.specs.Processors as model
use Rattle.system_model.specs.Settings.{Setting}
use Rattle.system_model.proofs.Lists.{there_is}
use Rattle.tie_switch.specs.Processors.{IsMode, ProcessorValue, StandsFor, in_mode, processor_of}
use Rattle.tie_switch.specs.Seen.{mode_of}
use Rattle.tie_switch.specs.Turns.{has_ended}
use Rattle.tie_switch.specs.declared.processor.Mode.{Mode}
use Rattle.tie_switch.specs.declared.processor.Mode.TheVariants as modes
use Rattle.tie_switch.proofs.Turns.{get_same}
use Rattle.vax_form.specs.declared.pages.Pages.{Pages}
use Rattle.vax_form.specs.declared.state.VaxState.{VaxState}
use Rattle.vest_core.specs.Worlds.{IsAdvanced, IsLegalWorld, WorldValue, first_has_ended}
use Rattle.vest_core.proofs.Lists.{beside}

-- ---- the rounds that are left: none once it has ended
abbrev pub rounds_left : (budget : ℕ) → List ProcessorValue → ℕ
rounds_left budget [] = 0
rounds_left budget (k ∷ rest) = if has_ended (processor_of k).mode then 0 else budget - k.steps + 1

abbrev left_of : (budget : ℕ) → ProcessorValue → ℕ
left_of budget k = if has_ended (processor_of k).mode then 0 else budget - k.steps + 1

left_at : (budget : ℕ) (ks : List ProcessorValue) (k : ProcessorValue) → slice_get ks 0 ≡ Some k → rounds_left budget ks ≡ left_of budget k
left_at budget [] k at = absurd (cc at)
left_at budget (x ∷ rest) k at = let same : x ≡ k = cc at in ap (left_of budget) same

ended_at : (ks : List ProcessorValue) (k : ProcessorValue) → slice_get ks 0 ≡ Some k → first_has_ended ks ≡ has_ended (processor_of k).mode
ended_at [] k at = absurd (cc at)
ended_at (x ∷ rest) k at = let same : x ≡ k = cc at in ap (λ (y : ProcessorValue). has_ended (processor_of y).mode) same

-- its steps are at most the budget
pub steps_within : (setting : Setting) (budget : ℕ) (limit : Limit) (entries : List Entry) (thread : ℕ) (start : VaxState) (p : Processor) → IsReached setting budget limit entries thread start p → p.steps ≤ budget
steps_within setting budget limit entries thread start p reached = go reached.now
  where
    go : ((p ≡ reached.was) ⊎ IsSpent setting budget limit entries reached.was p) → p.steps ≤ budget
    go (inl same) = omega (arith, ap (λ (q : Processor). q.steps) same, reached.within)
    go (inr spent) = omega (arith, ap (λ (q : Processor). q.steps) spent.is, reached.within)

few_steps : (setting : Setting) (w : WorldValue) → IsLegalWorld setting w → (k : ProcessorValue) → slice_get w.processors 0 ≡ Some k → k.steps ≤ w.budget
few_steps setting w legal k at =
    let its = beside (StandsFor setting.meaning.pages) w.processors legal.processors 0 k legal.stand at in
    let there = there_is w.memory.set_up.image.threads 0 (omega (arith, slice_get_within legal.processors 0 its.0 its.1, legal.legal.count)) in
    let few = steps_within setting w.budget w.memory.set_up.limit _ 0 (start_state there.0) its.0 (legal.legal.each 0 (start_state there.0) its.0 (ap (option_map start_state) there.1) its.1) in
    omega (arith, few, ap (λ (q : Processor). q.steps) its.2.same)

-- a round ends it, or makes steps
fewer : (was is : Bool) (budget before after : ℕ) → was ≡ false → (is ≡ false → before < after) → after ≤ budget
    → (if is then 0 else budget - after + 1) < (if was then 0 else budget - before + 1)
fewer true is budget before after e more few = absurd (cc e)
fewer false true budget before after e more few = omega arith
fewer false false budget before after e more few = let grows = more refl in omega (arith, grows, few)

pub fewer_rounds : (setting : Setting) (most n : ℕ) (old new : WorldValue) → IsAdvanced setting 0 most n old new → 0 < n → IsLegalWorld setting new
    → new.budget ≡ old.budget → first_has_ended old.processors ≡ false → rounds_left new.budget new.processors < rounds_left old.budget old.processors
fewer_rounds setting most n old new a some legal budget going =
    let here : slice_get new.processors 0 ≡ Some a.is = ap (λ ks. slice_get ks 0) a.processors ∙ get_same old.processors 0 a.was a.is a.there in
    let few = few_steps setting new legal a.is here in
    let was = sym (ended_at old.processors a.was a.there) ∙ going in
    let less : left_of new.budget a.is < left_of new.budget a.was =
    fewer (has_ended (processor_of a.was).mode) (has_ended (processor_of a.is).mode) new.budget a.was.steps a.is.steps was (λ on. omega (arith, a.steps on, some)) few in
    subst (λ (m : ℕ). m < rounds_left old.budget old.processors) (sym (left_at new.budget new.processors a.is here))
    (subst (λ (m : ℕ). left_of new.budget a.is < m) (ap (λ b. left_of b a.was) budget ∙ sym (left_at old.budget old.processors a.was a.there)) less)

-- ---- ended, it stands for just one
ended_mode : (pages : Pages) (thread : ℕ) (boundary : VaxState) (kind : Mode) (m : model.Mode) → has_ended (mode_of kind boundary) ≡ true → IsMode pages thread boundary kind m → m ≡ mode_of kind boundary
ended_mode pages thread boundary modes.New m ended is = is
ended_mode pages thread boundary (modes.Runs cpu) m ended is = is
ended_mode pages thread boundary (modes.Interprets interpreted reply) m ended is = absurd (cc ended)
ended_mode pages thread boundary (modes.Ended end) m ended is = is

pub are_shown : (pages : Pages) (ks : List ProcessorValue) (ps : List Processor) → length ks ≡ 1 → first_has_ended ks ≡ true → AllZip (StandsFor pages) ks ps → ps ≡ map processor_of ks
are_shown pages [] ps one ended stand = absurd (omega (arith, one))
are_shown pages (k ∷ l ∷ rest) ps one ended stand = absurd (omega (arith, one))
are_shown pages (k ∷ []) [] one ended stand = absurd stand
are_shown pages (k ∷ []) (p ∷ q ∷ more) one ended stand = absurd stand.1
are_shown pages (k ∷ []) (p ∷ []) one ended stand =
    ap (λ (x : Processor). x ∷ []) (stand.0.same ∙ ap (in_mode k) (ended_mode pages k.thread k.boundary k.mode p.mode ended stand.0.mode))

pub all_ended : (ks : List ProcessorValue) → length ks ≡ 1 → first_has_ended ks ≡ true → AllByRecursion (λ (p : Processor). has_ended p.mode ≡ true) (map processor_of ks)
all_ended [] one ended = tt
all_ended (k ∷ []) one ended = (ended, tt)
all_ended (k ∷ l ∷ rest) one ended = absurd (omega (arith, one))
