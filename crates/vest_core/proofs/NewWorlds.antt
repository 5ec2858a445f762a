-- A new world is manned, and legal.
use Rattle.std.proofs.Common.{◌≡◌, ℕ, zero, suc, ◌+◌, ◌⊎◌, inl, inr, List, [], ◌∷◌, ◌++◌, length, Some, refl, sym, ap, ◌∙◌, subst, arith}
use Rattle.std.specs.Prelude.{reverse, slice_get}
use Rattle.std.specs.List.{AllZip}
use Rattle.std.proofs.lemmas.Option.{slice_get_within}
use Rattle.std.proofs.lemmas.Slice.Zip.{AllZip-long}
use Rattle.image_file.specs.Start.{start_state}
use Rattle.image_file.specs.Values.{ImageValue}
use Rattle.image_file.specs.declared.image.Start.{Start}
use Rattle.legal_history.specs.Law.{IsRun}
use Rattle.system_model.proofs.Lists.{there_is}
use Rattle.memory_core.specs.Contents.{Contents, fresh}
use Rattle.memory_core.specs.declared.entry.Entry.{Entry}
use Rattle.memory_core.specs.declared.entry.Limit.{Limit}
use Rattle.memory_core.specs.declared.entry.SetUp.{SetUp}
use Rattle.system_model.specs.Legal.{IsLegal}
use Rattle.system_model.specs.Laws.{BeginningsAreLegal, begun_from}
use Rattle.system_model.specs.Processors.{Processor, begun}
use Rattle.system_model.specs.Settings.{Setting}
use Rattle.system_model.proofs.Turns.{begun_length}
use Rattle.tie_switch.specs.Processors.{ProcessorValue, StandsFor}
use Rattle.vax_form.specs.declared.pages.Pages.{Pages}
use Rattle.vest_core.specs.Worlds.{IsLegalWorld, IsManned, IsOf}

-- what a loop over the threads makes
pub record IsBegun (thread budget : ℕ) (start : Start) (k : ProcessorValue) : Type 0 where
  pub stands : (pages : Pages) → StandsFor pages k (begun thread (start_state start))
  pub most : k.budget ≡ budget

abbrev pub AreBegun : (from budget : ℕ) → List Start → List ProcessorValue → Type 0
AreBegun from budget threads ks = (n : ℕ) (k : ProcessorValue) (start : Start) → slice_get ks n ≡ Some k → slice_get threads n ≡ Some start → IsBegun (from + n) budget start k

pub are_zipped : (pages : Pages) (from budget : ℕ) (threads : List Start) (ks : List ProcessorValue) → length ks ≡ length threads → AreBegun from budget threads ks
    → AllZip (StandsFor pages) ks (begun_from from threads)
are_zipped pages from budget [] [] same each = tt
are_zipped pages from budget [] (k ∷ ks) same each = absurd (omega (arith, same))
are_zipped pages from budget (t ∷ threads) [] same each = absurd (omega (arith, same))
are_zipped pages from budget (t ∷ threads) (k ∷ ks) same each = (
  subst (λ (n : ℕ). StandsFor pages k (begun n (start_state t))) (omega arith) ((each 0 k t refl refl).stands pages),
  are_zipped pages (from + 1) budget threads ks (omega (arith, same))
      (λ n x s at there. subst (λ (m : ℕ). IsBegun m budget s x) (omega arith) (each (suc n) x s at there)),
)

pub one_more : (threads : List Start) (budget : ℕ) (ks : List ProcessorValue) (j : ProcessorValue) (start : Start) → AreBegun 0 budget threads ks → slice_get threads (length ks) ≡ Some start
    → IsBegun (length ks) budget start j → AreBegun 0 budget threads (ks ++ j ∷ [])
one_more threads budget ks j start each there begun_j n k s at at_s = elim (last_or ks j n k at) [
  | inl h ↦ each n k s h at_s
  | inr h ↦ let same : start ≡ s = cc (sym there ∙ ap (slice_get threads) (sym h.0) ∙ at_s) in
      subst (λ (m : ℕ). IsBegun m budget s k) (sym h.0 ∙ omega arith) (subst (λ (x : ProcessorValue). IsBegun (length ks) budget s x) (sym h.1) (subst (λ (x : Start). IsBegun (length ks) budget x j) same begun_j))
]
  where
    last_or : (xs : List ProcessorValue) (j : ProcessorValue) (n : ℕ) (k : ProcessorValue) → slice_get (xs ++ j ∷ []) n ≡ Some k → (slice_get xs n ≡ Some k) ⊎ ((n ≡ length xs) × (k ≡ j))
    last_or [] j zero k at = inr (refl, let same : j ≡ k = cc at in sym same)
    last_or [] j (suc n) k at = absurd (cc at)
    last_or (x ∷ xs) j zero k at = inl at
    last_or (x ∷ xs) j (suc n) k at = elim (last_or xs j n k at) [ inl h ↦ inl h | inr h ↦ inr (ap suc h.0, h.1) ]

no_pages : Pages
no_pages = record { ranges = []; code = [] }

pub are_own : (threads : List Start) (budget : ℕ) (ks : List ProcessorValue) → length ks ≡ length threads → AreBegun 0 budget threads ks
    → (n : ℕ) (k : ProcessorValue) → slice_get ks n ≡ Some k → IsOf n budget k
are_own threads budget ks same each n k at =
    let there = there_is threads n (omega (arith, slice_get_within ks n k at, same)) in
    let b = each n k there.0 at there.1 in
    record { thread = sym (ap (λ (p : Processor). p.thread) (b.stands no_pages).same) ∙ omega arith; budget = b.most }

-- there is a processor for each thread
pub are_counted : (threads : List Start) (ks : List ProcessorValue) → ((pages : Pages) → AllZip (StandsFor pages) ks (begun_from 0 threads)) → length ks ≡ length threads
are_counted threads ks stand = sym (AllZip-long (StandsFor no_pages) ks (begun_from 0 threads) (stand no_pages)) ∙ begun_length 0 threads

module _ (image : ImageValue) (input : List ℕ) (budget : ℕ) (limit : Limit) (miss : ℕ) (threads : List Start) (its : threads ≡ image.threads)
    (memory : Contents) (is : memory ≡ fresh image input (length threads) limit miss) (ks : List ProcessorValue) where
  pub is_manned : ((pages : Pages) → AllZip (StandsFor pages) ks (begun_from 0 threads)) → ((n : ℕ) (k : ProcessorValue) → slice_get ks n ≡ Some k → IsOf n budget k)
      → ((set_up : SetUp) → set_up.image ≡ image → set_up.input ≡ input → IsRun set_up)
      → IsManned (record { memory = memory; processors = ks; budget = budget })
  is_manned stand each run = record {
    run = run memory.set_up (ap (λ (m : Contents). m.set_up.image) is) (ap (λ (m : Contents). m.set_up.input) is);
    serves = sym (AllZip-long (StandsFor no_pages) ks (begun_from 0 threads) (stand no_pages)) ∙ begun_length 0 threads ∙ sym (ap (λ (m : Contents). m.processors) is);
    each = each;
  }

  pub begins : BeginningsAreLegal → (setting : Setting) → setting.meaning.pages ≡ image.pages → AllZip (StandsFor setting.meaning.pages) ks (begun_from 0 threads)
      → IsLegalWorld setting (record { memory = memory; processors = ks; budget = budget })
  begins legal_law setting pages stand =
      let image_is : memory.set_up.image ≡ image = ap (λ (m : Contents). m.set_up.image) is in
      record {
        processors = begun_from 0 threads;
        stand = stand;
        legal = subst (λ (xs : List Start). IsLegal setting memory.set_up budget (reverse memory.history) (begun_from 0 xs))
            (ap (λ (i : ImageValue). i.threads) image_is ∙ sym its)
            (subst (λ (h : List Entry). IsLegal setting memory.set_up budget (reverse h) (begun_from 0 memory.set_up.image.threads)) (sym (ap (λ (m : Contents). m.history) is))
            (legal_law setting memory.set_up budget (pages ∙ sym (ap (λ (i : ImageValue). i.pages) image_is))));
      }
