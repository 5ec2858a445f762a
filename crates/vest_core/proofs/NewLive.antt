-- A new live world is manned, and legal.
use Rattle.std.proofs.Common.{◌≡◌, ℕ, true, false, get_or, List, [], ◌∷◌, length, refl, sym, ap, ◌∙◌, subst, arith}
use Rattle.std.specs.Prelude.{reverse}
use Rattle.std.specs.List.{AllZip}
use Rattle.image_file.specs.Start.{start_state}
use Rattle.image_file.specs.Values.{ImageValue}
use Rattle.image_file.specs.declared.image.Start.{Start}
use Rattle.legal_history.specs.Law.{IsRun}
use Rattle.memory_core.specs.Live.{LiveContents}
use Rattle.memory_core.specs.Live as live
use Rattle.memory_core.specs.Limits.{CountsPuts}
use Rattle.memory_core.specs.declared.entry.Entry.{Entry}
use Rattle.memory_core.specs.declared.entry.SetUp.{SetUp}
use Rattle.system_model.specs.Laws.{BeginningsAreLegal, begun_from}
use Rattle.system_model.specs.Legal.{IsLegal}
use Rattle.system_model.specs.Processors.{Processor, begun}
use Rattle.system_model.specs.Settings.{Setting}
use Rattle.tie_switch.specs.Processors.{ProcessorValue, StandsFor}
use Rattle.tie_switch.proofs.Unspent.{spent_is}
use Rattle.vax_form.specs.declared.pages.Pages.{Pages}
use Rattle.vest_core.specs.LiveWorlds.{IsAskedFor, IsLegalLive, IsMannedLive, IsNewLive, LiveWorldValue, all}

only_one : (xs : List Start) (x none : Start) → length xs ≡ 1 → x ≡ get_or xs 0 none → xs ≡ x ∷ []
only_one [] x none one is = absurd (omega (arith, one))
only_one (y ∷ z ∷ rest) x none one is = absurd (omega (arith, one))
only_one (y ∷ []) x none one is = ap (λ (s : Start). s ∷ []) (sym is)

no_pages : Pages
no_pages = record { ranges = []; code = [] }

abbrev no_start : Start
no_start = record { pc = 0; sp = 0; first = [] }

-- the thread that starts it is the first of these
module _ (image : ImageValue) (budget buffer miss : ℕ) (one : length image.threads ≡ 1) (threads : List Start) (its : threads ≡ image.threads) (n : ℕ) (first : n ≡ 0)
    (memory : LiveContents) (is : memory ≡ live.begun image buffer miss) (k : ProcessorValue)
    (stands : (pages : Pages) → StandsFor pages k (begun 0 (start_state (get_or threads n no_start)))) (most : k.budget ≡ budget) where
  abbrev start : Start
  start = get_or threads n no_start

  there : start ≡ get_or image.threads 0 no_start
  there = ap (λ m. get_or threads m no_start) first ∙ ap (λ (xs : List Start). get_or xs 0 no_start) its

  abbrev world : LiveWorldValue
  world = record { memory = memory; processor = k; budget = budget }

  alone : begun_from 0 image.threads ≡ begun 0 (start_state start) ∷ []
  alone = ap (begun_from 0) (only_one image.threads start no_start one there)

  pub live_is_manned : ((set_up : SetUp) → set_up.image ≡ image → set_up.input ≡ [] → IsRun set_up) → IsMannedLive world
  live_is_manned run = record {
    run = run memory.contents.set_up (ap (λ (m : LiveContents). m.contents.set_up.image) is) (ap (λ (m : LiveContents). m.contents.set_up.input) is);
    serves = ap (λ (m : LiveContents). m.contents.processors) is;
    own = record { thread = ap (λ (p : Processor). p.thread) (sym (stands no_pages).same); budget = most };
    spent = λ spends. let both : false ≡ true = spent_is no_pages k (begun 0 (start_state start)) (stands no_pages) ∙ spends in absurd (cc both);
    limit = subst (λ (m : LiveContents). CountsPuts m.contents.set_up.limit) (sym is) tt;
    sent = omega (arith, ap (λ (m : LiveContents). m.sent) is);
  }

  pub live_is_new : IsNewLive image budget buffer miss world
  live_is_new = record {
    memory = is;
    processor = λ pages. subst (λ (ps : List Processor). AllZip (StandsFor pages) (k ∷ []) ps) (sym alone) (stands pages, tt);
    budget = refl;
  }

  pub live_begins : BeginningsAreLegal → (setting : Setting) → setting.meaning.pages ≡ image.pages → IsLegalLive setting world
  live_begins law setting pages =
      let image_is : memory.contents.set_up.image ≡ image = ap (λ (m : LiveContents). m.contents.set_up.image) is in
      record {
        processor = begun 0 (start_state start);
        stands = stands setting.meaning.pages;
        legal = subst (λ (ps : List Processor). IsLegal setting memory.contents.set_up budget (reverse memory.contents.history) ps)
            (ap (λ (i : ImageValue). begun_from 0 i.threads) image_is ∙ alone)
            (subst (λ (h : List Entry). IsLegal setting memory.contents.set_up budget (reverse h) (begun_from 0 memory.contents.set_up.image.threads)) (sym (ap (λ (m : LiveContents). m.contents.history) is))
            (law setting memory.contents.set_up budget (pages ∙ sym (ap (λ (i : ImageValue). i.pages) image_is))));
      }

  pub none_asked_for : (setting : Setting) → IsAskedFor setting world
  none_asked_for setting = all (omega (arith, ap (λ (m : LiveContents). length m.contents.set_up.input) is))
