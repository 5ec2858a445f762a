-- Threads after their counts, and before their first instructions.
use Rattle.std.proofs.Common.{◌≡◌, ◌⊎◌, inl, inr, ⊎_elim, ℕ, zero, suc, ◌<◌, ◌+◌, List, [], ◌∷◌, ◌++◌, append_assoc, append-nil, length, drop, Option, Some, None, get_or, option_map, slice_get, refl, sym, ap, ◌∙◌, subst, arith}
use Rattle.std.proofs.Math.Seq.{drop-cons}
use Rattle.std.proofs.lemmas.List.{length-append}
use Rattle.std.proofs.lemmas.Option.{get_or_from_slice_get, slice_get-get_or}
use Rattle.image_file.specs.Start.{start_state}
use Rattle.image_file.specs.Values.{ImageValue}
use Rattle.image_file.specs.declared.image.Start.{Start}
use Rattle.vax_form.specs.Made.{Made, replies_to}
use Rattle.vax_driven.specs.Driven.{run_before, runs_from}
use Rattle.vax_driven.specs.Threads.{thread_run}
use Rattle.vax_driven.specs.declared.thread.ThreadRun.{ThreadRun}
use Rattle.vax_run.specs.Values.{threads_of}
use Rattle.stored_runs.specs.Threads.{IsAt}
use Rattle.stored_runs.specs.World.{AreBegun, IsThread, IsLeft}
use Rattle.stored_runs.specs.declared.thread.Thread.{Thread}
use Rattle.stored_runs.specs.declared.world.World.{World}
use Rattle.stored_runs.proofs.Walked.{at_among}

-- some runs before the others
abbrev pub with_runs : List ThreadRun → Option (List ThreadRun) → Option (List ThreadRun)
with_runs runs later = option_map (λ (l : List ThreadRun). runs ++ l) later

no_runs : (later : Option (List ThreadRun)) → later ≡ with_runs [] later
no_runs None = refl
no_runs (Some later) = refl

one_run : (runs : List ThreadRun) (run : ThreadRun) (later : Option (List ThreadRun)) → with_runs runs (run_before (Some run) later) ≡ with_runs (runs ++ run ∷ []) later
one_run runs run None = refl
one_run runs run (Some later) = ap (λ (l : List ThreadRun). Some l) (sym (append_assoc runs (run ∷ []) later))

module _ (image : ImageValue) (input counts : List ℕ) (made : List Made) where
  pub runs_begin : runs_from (threads_of image) made 0 counts ≡ with_runs [] (runs_from (threads_of image) made 0 (drop 0 counts))
  runs_begin = no_runs (runs_from (threads_of image) made 0 counts)

  next_run : (world : World) (at : ℕ) (t : Thread) → IsLeft image input counts made world → at < length world.threads.items → t ≡ get_or world.threads.items at t → at < length counts
      → (run : Option ThreadRun) → ((replies : List ℕ) → IsAt image at replies t → run ≡ thread_run (threads_of image) at t.count replies)
      → runs_from (threads_of image) made at (drop at counts) ≡ run_before run (runs_from (threads_of image) made (at + 1) (drop (at + 1) counts))
  next_run world at t left among is below run shown =
      let here = at_among image input counts made world at t left among is in
      let e : suc at ≡ at + 1 = omega arith in
      let count : t.count ≡ get_or counts at 0 = sym (get_or_from_slice_get counts at t.count 0 here.count) in
      let same : thread_run (threads_of image) at (get_or counts at 0) (replies_to at made) ≡ run =
      ap (λ n. thread_run (threads_of image) at n (replies_to at made)) (sym count) ∙ sym (shown (replies_to at made) here.at) in
      ap (runs_from (threads_of image) made at) (drop-cons counts at 0 below)
      ∙ ap (λ o. run_before o (runs_from (threads_of image) made (at + 1) (drop (suc at) counts))) same
      ∙ ap (λ n. run_before run (runs_from (threads_of image) made (at + 1) (drop n counts))) e

  pub runs_more : (world : World) (at : ℕ) (t : Thread) → IsLeft image input counts made world → at < length world.threads.items → t ≡ get_or world.threads.items at t → at < length counts
      → (run : ThreadRun) → ((replies : List ℕ) → IsAt image at replies t → Some run ≡ thread_run (threads_of image) at t.count replies)
      → (runs : List ThreadRun) → runs_from (threads_of image) made 0 counts ≡ with_runs runs (runs_from (threads_of image) made at (drop at counts))
      → runs_from (threads_of image) made 0 counts ≡ with_runs (runs ++ run ∷ []) (runs_from (threads_of image) made (at + 1) (drop (at + 1) counts))
  runs_more world at t left among is below run shown runs so_far =
      so_far ∙ ap (with_runs runs) (next_run world at t left among is below (Some run) shown)
      ∙ one_run runs run (runs_from (threads_of image) made (at + 1) (drop (at + 1) counts))

  pub runs_stop : (world : World) (at : ℕ) (t : Thread) → IsLeft image input counts made world → at < length world.threads.items → t ≡ get_or world.threads.items at t → at < length counts
      → ((replies : List ℕ) → IsAt image at replies t → None ≡ thread_run (threads_of image) at t.count replies)
      → (runs : List ThreadRun) → runs_from (threads_of image) made 0 counts ≡ with_runs runs (runs_from (threads_of image) made at (drop at counts))
      → None ≡ runs_from (threads_of image) made 0 counts
  runs_stop world at t left among is below shown runs so_far =
      sym (so_far ∙ ap (with_runs runs) (next_run world at t left among is below None shown))

  drop_all : (l : List ℕ) → drop (length l) l ≡ []
  drop_all [] = refl
  drop_all (count ∷ l) = drop_all l

  pub runs_end : (at : ℕ) (runs : List ThreadRun) → at ≡ length counts → runs_from (threads_of image) made 0 counts ≡ with_runs runs (runs_from (threads_of image) made at (drop at counts))
      → Some runs ≡ runs_from (threads_of image) made 0 counts
  runs_end at runs all so_far =
      sym (so_far ∙ ap (λ n. with_runs runs (runs_from (threads_of image) made n (drop n counts))) all
      ∙ ap (λ l. with_runs runs (runs_from (threads_of image) made (length counts) l)) (drop_all counts) ∙ ap (λ (l : List ThreadRun). Some l) (append-nil runs))

-- ---- threads before their first instructions
got_pushed : (threads : List Thread) (new t : Thread) (k : ℕ) → slice_get (threads ++ new ∷ []) k ≡ Some t
    → (slice_get threads k ≡ Some t) ⊎ ((k ≡ length threads) × (new ≡ t))
got_pushed [] new t zero is = let same : new ≡ t = cc is in inr (refl, same)
got_pushed [] new t (suc k) is = absurd (cc is)
got_pushed (u ∷ threads) new t zero is = inl is
got_pushed (u ∷ threads) new t (suc k) is =
    ⊎_elim
    (λ (before : slice_get threads k ≡ Some t). inl before)
    (λ (last : (k ≡ length threads) × (new ≡ t)). inr (ap suc last.0, last.1))
    (got_pushed threads new t k is)

module _ (image : ImageValue) (counts : List ℕ) where
  pub none_begun : (threads : List Thread) → threads ≡ [] → AreBegun image counts 0 threads
  none_begun threads none = record {
    many = ap length none;
    each = λ k t is. absurd (gone k t is);
    fresh = λ k t is. absurd (gone k t is);
  }
    where
      gone : (k : ℕ) (t : Thread) → slice_get threads k ≡ Some t → ⊥
      gone k t is = let no : None ≡ Some t = sym (ap (λ l. slice_get l k) none) ∙ is in cc no

  pub begins : (at : ℕ) (from : Start) → at < length image.threads → from ≡ get_or image.threads at from → (threads_of image).start at ≡ Some (start_state from)
  begins at from below is = ap (option_map start_state) (slice_get-get_or image.threads at from below ∙ ap (λ (f : Start). Some f) (sym is))

  pub begun_more : (at : ℕ) (threads more : List Thread) (new : Thread) → AreBegun image counts at threads → more ≡ threads ++ new ∷ [] → IsAt image at [] new
      → slice_get counts at ≡ Some new.count → new.retired ≡ 0 → AreBegun image counts (at + 1) more
  begun_more at threads more new begun is first count fresh = record {
    many = ap length is ∙ length-append threads (new ∷ []) ∙ ap (λ n. n + 1) begun.many;
    each = λ k t found.
        ⊎_elim
        (λ (before : slice_get threads k ≡ Some t). begun.each k t before)
        (λ (last : (k ≡ length threads) × (new ≡ t)).
        let same : k ≡ at = last.0 ∙ begun.many in
        subst (λ k. IsThread image counts [] k t) (sym same) (subst (λ t. IsThread image counts [] at t) last.1 (record { at = first; count = count })))
        (got_pushed threads new t k (subst (λ l. slice_get l k ≡ Some t) is found));
    fresh = λ k t found.
        ⊎_elim
        (λ (before : slice_get threads k ≡ Some t). begun.fresh k t before)
        (λ (last : (k ≡ length threads) × (new ≡ t)). subst (λ (t : Thread). t.retired ≡ 0) last.1 fresh)
        (got_pushed threads new t k (subst (λ l. slice_get l k ≡ Some t) is found));
  }
