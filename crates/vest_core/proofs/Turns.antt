-- Turns of one processor of a legal world.
use Rattle.std.proofs.Common.{◌≡◌, ℕ, ◌<◌, ◌+◌, ◌⊎◌, inl, inr, ◌↔◌, false, true, get_or, List, [], length, Some, refl, sym, ap, ◌∙◌, subst, arith}
use Rattle.std.specs.Prelude.{option_map, reverse, slice_get, slice_set}
use Rattle.std.proofs.lemmas.Option.{slice_get-get_or, slice_get_within}
use Rattle.block_law.specs.Sound.{AllowsFew, IsSound}
use Rattle.block_law.specs.Translations.{Meets, Permit}
use Rattle.image_file.specs.Start.{start_state}
use Rattle.image_file.specs.Values.{ImageValue}
use Rattle.image_meaning.specs.Laws.{VaxMeaningIsSound}
use Rattle.image_meaning.specs.Meant.{codes_written, image_meaning}
use Rattle.legal_history.specs.Headline.{HasFewSteps}
use Rattle.legal_history.specs.Law.{IsRun}
use Rattle.legal_history.specs.OneProcessor.{IsSteady, ReachedIsSteady}
use Rattle.system_model.proofs.Lists.{there_is}
use Rattle.memory_core.specs.Contents.{Contents}
use Rattle.memory_core.specs.Order.{own}
use Rattle.memory_core.specs.declared.entry.Entry.{Entry}
use Rattle.memory_core.specs.declared.entry.SetUp.{SetUp}
use Rattle.system_model.specs.Legal.{starts, IsLegal}
use Rattle.system_model.specs.Processors.{Processor}
use Rattle.system_model.specs.Settings.{Setting}
use Rattle.tie_switch.specs.Laws.{TurnsStayLegal}
use Rattle.tie_switch.specs.ManyTurns.{IsBehind, IsTurns}
use Rattle.tie_switch.specs.Processors.{HasAdvanced, HasStep, HasSteps, HasTurned, ProcessorValue, StandsFor, processor_of}
use Rattle.tie_switch.specs.Turns.{has_ended}
use Rattle.tie_switch.specs.declared.turn.Turn.{Turn}
use Rattle.tie_switch.specs.declared.turn.Turn.TheVariants.{Went, Ended}
use Rattle.tie_switch.proofs.Advances.{behind_keeps, more_turns}
use Rattle.tie_switch.proofs.Turns.{get_same}
use Rattle.vax_form.specs.GrammarLaws.{AreBytes}
use Rattle.vax_form.specs.declared.pages.Pages.{Pages}
use Rattle.vax_form.specs.declared.state.VaxState.{VaxState}
use Rattle.vest_core.specs.Worlds.{IsAdvanced, IsLegalWorld, IsOf, IsPicked, WorldValue}
use Rattle.vest_core.proofs.Lists.{beside, changed_beside, at_changed}
use Rattle.vest_core.proofs.ManyTurns.{many_stay_legal}

-- ---- few steps are behind the processor that stands for one of which that is so
few_of : (pages : Pages) (j : ProcessorValue) (q : Processor) (mine : List Entry) → StandsFor pages j q → HasFewSteps q mine → HasFewSteps (processor_of j) mine
few_of pages j q mine stands few = subst (λ (x : Processor). HasFewSteps x mine) stands.same few

-- ---- a memory of one owner
abbrev no_others : List Entry → Type 0
no_others between = between ≡ []

-- ---- a legal world
module _ (steady_law : ReachedIsSteady) (legal_law : TurnsStayLegal)
    (setting : Setting) (permit : Permit) (sound : IsSound setting.meaning) (few : AllowsFew permit) (meets : Meets setting.meaning permit setting.code) where
  -- where the thread of a processor starts
  start_of : (set_up : SetUp) (budget : ℕ) (entries : List Entry) (processors : List Processor) (thread : ℕ) (p : Processor)
      → IsLegal setting set_up budget entries processors → slice_get processors thread ≡ Some p → (start : VaxState) × (starts set_up.image thread ≡ Some start)
  start_of set_up budget entries processors thread p legal at =
      let there = there_is set_up.image.threads thread (omega (arith, slice_get_within processors thread p at, legal.count)) in
      (start_state there.0, ap (option_map start_state) there.1)

  -- a processor of a legal run has a step, and few are behind it
  is_steady : (set_up : SetUp) (budget : ℕ) (entries : List Entry) (processors : List Processor) (thread : ℕ) (p : Processor) → IsRun set_up
      → IsLegal setting set_up budget entries processors → slice_get processors thread ≡ Some p → IsSteady setting set_up entries thread p
  is_steady set_up budget entries processors thread p run legal at =
      let there = start_of set_up budget entries processors thread p legal at in
      steady_law setting permit set_up budget entries thread there.0 p sound few meets run legal.pages legal.order there.1 (legal.each thread there.0 p there.1 at)

  module _ (old : WorldValue) (run : IsRun old.memory.set_up) (legal : IsLegalWorld setting old) (thread : ℕ) (k : ProcessorValue) (at : slice_get old.processors thread ≡ Some k) where
    its_processor : (p : Processor) × (slice_get legal.processors thread ≡ Some p) × StandsFor setting.meaning.pages k p
    its_processor = beside (StandsFor setting.meaning.pages) old.processors legal.processors thread k legal.stand at

    pub has_step : HasStep setting old.memory.set_up k
    has_step =
        let its = its_processor in
        let steady = is_steady old.memory.set_up old.budget (reverse old.memory.history) legal.processors thread its.0 run legal.legal its.1 in
        record { processor = its.0; stands = its.2; can = record { goes_on = steady.goes_on; asks = steady.asks } }

    -- it has a step behind any turns, where no entries of others come
    pub has_steps : (may_come : List Entry → Type 0) → ((entries : List Entry) → may_come entries → no_others entries) → k.budget ≡ old.budget → (most : ℕ)
        → HasSteps setting old.memory.set_up may_come most k old.memory.history
    has_steps may_come none same_budget most =
        let its = its_processor in
        record {
          processor = its.0;
          stands = its.2;
          can = λ n q new fewer turns.
              let made : IsTurns setting old.memory.set_up no_others old.budget its.0 old.memory.history n q new =
              subst (λ (b : ℕ). IsTurns setting old.memory.set_up no_others b its.0 old.memory.history n q new) same_budget
              (more_turns setting old.memory.set_up may_come no_others none k.budget its.0 old.memory.history turns) in
              let behind = many_stay_legal legal_law setting old.memory.set_up old.budget thread its.0 old.memory.history legal.processors legal.legal its.1 made in
              let here = get_same legal.processors thread its.0 q its.1 in
              let steady = is_steady old.memory.set_up old.budget (reverse new) (slice_set legal.processors thread q) thread q run behind here in
              record { goes_on = steady.goes_on; asks = steady.asks };
        }

    -- the processor goes on as another, and the history with it
    module _ (new : Contents) (j : ProcessorValue) (q : Processor) (same : new.set_up ≡ old.memory.set_up) (stands : StandsFor setting.meaning.pages j q)
        (behind : IsLegal setting old.memory.set_up old.budget (reverse new.history) (slice_set legal.processors thread q)) where
      pub stays_legal : IsLegalWorld setting (record { memory = new; processors = slice_set old.processors thread j; budget = old.budget })
      stays_legal = record {
        processors = slice_set legal.processors thread q;
        stand = changed_beside (StandsFor setting.meaning.pages) old.processors legal.processors thread j q legal.stand stands;
        legal = subst (λ (s : SetUp). IsLegal setting s old.budget (reverse new.history) (slice_set legal.processors thread q)) (sym same) behind;
      }

      pub few_steps : HasFewSteps (processor_of j) (own thread (reverse new.history))
      unfolding stays_legal
      few_steps =
          let run_now : IsRun new.set_up = subst IsRun (sym same) run in
          let here : slice_get (slice_set legal.processors thread q) thread ≡ Some q = get_same legal.processors thread (its_processor).0 q (its_processor).1 in
          let steady = is_steady new.set_up old.budget (reverse new.history) (slice_set legal.processors thread q) thread q run_now (stays_legal).legal here in
          few_of setting.meaning.pages j q (own thread (reverse new.history)) stands steady.steps

    -- one turn
    module _ (new : Contents) (j : ProcessorValue) (same : new.set_up ≡ old.memory.set_up) (same_budget : k.budget ≡ old.budget)
        (turned : (p : Processor) → StandsFor setting.meaning.pages k p → HasTurned setting old.memory.set_up (λ between. between ≡ []) k.budget p j old.memory.history new.history) where
      turned_within : (p : Processor) → StandsFor setting.meaning.pages k p
          → HasTurned setting old.memory.set_up (λ between. between ≡ []) old.budget p j old.memory.history new.history
      turned_within p stands =
          subst (λ (b : ℕ). HasTurned setting old.memory.set_up (λ (between : List Entry). between ≡ []) b p j old.memory.history new.history) same_budget (turned p stands)

      next_of : HasTurned setting old.memory.set_up (λ between. between ≡ []) old.budget (its_processor).0 j old.memory.history new.history
      next_of = turned_within (its_processor).0 (its_processor).2

      behind_one : IsLegal setting old.memory.set_up old.budget (reverse new.history) (slice_set legal.processors thread (next_of).processor)
      behind_one = legal_law setting old.memory.set_up old.budget old.memory.history new.history legal.processors thread (its_processor).0 (next_of).processor legal.legal (its_processor).1 (next_of).turned

      pub turned_is_legal : IsLegalWorld setting (record { memory = new; processors = slice_set old.processors thread j; budget = old.budget })
      turned_is_legal = stays_legal new j (next_of).processor same (next_of).stands behind_one

      pub is_picked : (result : Turn) → ((result ≡ Ended) ↔ (has_ended (processor_of j).mode ≡ true)) → (result ≡ Went → j.steps ≡ k.steps + 1)
          → IsPicked setting thread result old (record { memory = new; processors = slice_set old.processors thread j; budget = old.budget })
      is_picked result ended steps = record {
        was = k;
        there = at;
        is = j;
        processors = refl;
        turned = turned_within;
        ended = ended;
        steps = steps;
        few_steps = few_steps new j (next_of).processor same (next_of).stands behind_one;
      }

    -- many turns
    module _ (new : Contents) (j : ProcessorValue) (n : ℕ) (same : new.set_up ≡ old.memory.set_up) (same_budget : k.budget ≡ old.budget)
        (may_come : List Entry → Type 0) (none : (entries : List Entry) → may_come entries → no_others entries)
        (advanced : (p : Processor) → StandsFor setting.meaning.pages k p
        → HasAdvanced setting old.memory.set_up may_come k.budget p n j old.memory.history new.history) where
      advanced_within : (p : Processor) → StandsFor setting.meaning.pages k p
          → HasAdvanced setting old.memory.set_up no_others old.budget p n j old.memory.history new.history
      advanced_within p stands =
          let made = advanced p stands in
          record {
            processor = made.processor;
            stands = made.stands;
            turned =
                subst (λ (b : ℕ). IsTurns setting old.memory.set_up no_others b p old.memory.history n made.processor new.history) same_budget
                (more_turns setting old.memory.set_up may_come no_others none k.budget p old.memory.history made.turned);
          }

      last_of : HasAdvanced setting old.memory.set_up no_others old.budget (its_processor).0 n j old.memory.history new.history
      last_of = advanced_within (its_processor).0 (its_processor).2

      behind_many : IsLegal setting old.memory.set_up old.budget (reverse new.history) (slice_set legal.processors thread (last_of).processor)
      behind_many = many_stay_legal legal_law setting old.memory.set_up old.budget thread (its_processor).0 old.memory.history legal.processors legal.legal (its_processor).1 (last_of).turned

      pub advanced_is_legal : IsLegalWorld setting (record { memory = new; processors = slice_set old.processors thread j; budget = old.budget })
      advanced_is_legal = stays_legal new j (last_of).processor same (last_of).stands behind_many

      pub is_advanced : (most : ℕ) → (n < most → has_ended (processor_of j).mode ≡ true) → (has_ended (processor_of j).mode ≡ false → j.steps ≡ k.steps + n)
          → IsAdvanced setting thread most n old (record { memory = new; processors = slice_set old.processors thread j; budget = old.budget })
      is_advanced most all steps = record {
        was = k;
        there = at;
        is = j;
        processors = refl;
        advanced = advanced_within;
        all = all;
        steps = steps;
        few_steps = few_steps new j (last_of).processor same (last_of).stands behind_many;
      }

-- the processors stay those of their threads
pub each_own : (ks : List ProcessorValue) (thread budget : ℕ) (k j : ProcessorValue) → ((n : ℕ) (x : ProcessorValue) → slice_get ks n ≡ Some x → IsOf n budget x) → slice_get ks thread ≡ Some k
    → j.thread ≡ k.thread → j.budget ≡ k.budget → (n : ℕ) (x : ProcessorValue) → slice_get (slice_set ks thread j) n ≡ Some x → IsOf n budget x
each_own ks thread budget k j each at same_thread same_budget n x there =
    let its = each thread k at in
    let own_j : IsOf thread budget j = record { thread = same_thread ∙ its.thread; budget = same_budget ∙ its.budget } in
    elim (at_changed ks thread n j x there) [
      | inl h ↦ subst (λ (y : ProcessorValue). IsOf n budget y) (sym h.1) (subst (λ (m : ℕ). IsOf m budget j) (sym h.0) own_j)
      | inr h ↦ each n x h
    ]

-- memory serves as many processors behind a turn
pub same_processors : (new old : Contents) → (new ≡ old) ⊎ ((new.set_up ≡ old.set_up) × (new.processors ≡ old.processors)) → old.processors ≡ new.processors
same_processors new old (inl same) = ap (λ (m : Contents). m.processors) (sym same)
same_processors new old (inr same) = sym same.1

-- and behind many
pub served_behind : (new old : Contents) → IsBehind (λ (m n : Contents). (n.set_up ≡ m.set_up) × (n.processors ≡ m.processors)) old new → old.processors ≡ new.processors
served_behind new old behind = sym (behind_keeps _ (λ (m : Contents). m.processors) (λ m n same. same.1) old behind)

-- ---- what `pick` and `advance` know
pub image_is_sound : VaxMeaningIsSound → (image : ImageValue) (pages : Pages) → pages ≡ image.pages → AreBytes pages.code → IsSound (image_meaning image.pages)
image_is_sound law image pages same bytes =
    law image.pages (codes_written image.pages) (subst (λ (p : Pages). AreBytes p.code) same bytes)

-- the picked processor stands at its place
pub stands_at : (w seen : WorldValue) (n processor : ℕ) (k : ProcessorValue) → w ≡ seen → n ≡ processor → processor < length seen.processors → k ≡ get_or w.processors n k
    → slice_get w.processors n ≡ Some k
stands_at w seen n processor k same is there value =
    slice_get-get_or w.processors n k (omega (arith, is, there, ap (λ (x : WorldValue). length x.processors) same)) ∙ ap Some (sym value)
