-- Threads after their counts, and all that is shown.
use Rattle.std.proofs.Common.{◌≡◌, ℕ, zero, suc, ◌<◌, ◌≤◌, ◌+◌, true, false, List, [], ◌∷◌, ◌++◌, append_assoc, length, drop, reverse, map, Option, Some, None, get_or, option_map, refl, sym, ap, ◌∙◌, arith}
use Rattle.std.proofs.Math.Seq.{drop-cons}
use Rattle.std.proofs.lemmas.List.{append-nil, map-append}
use Rattle.image_file.specs.Memory.{byte_in}
use Rattle.image_file.specs.Values.{ImageValue}
use Rattle.vax_form.specs.PageTable.{AreRising}
use Rattle.vax_form.specs.declared.pages.PageRange.{PageRange}
use Rattle.vax_form.specs.declared.state.Pick.{Pick}
use Rattle.vax_form.specs.declared.state.Reference.{Reference}
use Rattle.vax_driven.specs.Driven.{run_before, runs_from, ended, driven_on, walk}
use Rattle.vax_meaning.specs.Made.{Made, bytes_after, output_after, replies_to}
use Rattle.vax_driven.specs.Threads.{run_at, thread_run}
use Rattle.vax_driven.specs.declared.thread.ThreadRun.{ThreadRun}
use Rattle.vax_run.specs.Threads.{after_of}
use Rattle.vax_run.specs.Values.{RunValue, addresses_from, addresses_of, threads_of, world_of, value_of, driven_value}
use Rattle.vax_run.specs.World.{IsLeft, IsWalked, pair_at, bytes_of}
use Rattle.vax_run.specs.declared.memory.Memory.{Memory}
use Rattle.vax_run.specs.declared.thread.Thread.{Thread}
use Rattle.vax_run.specs.declared.world.World.{World}
use Rattle.vax_run.proofs.Standing.{thread_among, reached_is}
use Rattle.vax_run.proofs.Walked.{no_walk}

-- some runs before the others
abbrev pub with_runs : List ThreadRun → Option (List ThreadRun) → Option (List ThreadRun)
with_runs runs later = option_map (λ (l : List ThreadRun). runs ++ l) later

no_runs : (later : Option (List ThreadRun)) → later ≡ with_runs [] later
no_runs None = refl
no_runs (Some later) = refl

one_run : (runs : List ThreadRun) (run : ThreadRun) (later : Option (List ThreadRun)) → with_runs runs (run_before (Some run) later) ≡ with_runs (runs ++ run ∷ []) later
one_run runs run None = refl
one_run runs run (Some later) = ap (λ (l : List ThreadRun). Some l) (sym (append_assoc runs (run ∷ []) later))

module _ (image : ImageValue) (made : List Made) where
  pub runs_begin : (counts : List ℕ) → runs_from (threads_of image) made 0 counts ≡ with_runs [] (runs_from (threads_of image) made 0 (drop 0 counts))
  runs_begin counts = no_runs (runs_from (threads_of image) made 0 counts)

  module _ (world : World) (left : IsLeft image made world) (counts : List ℕ) (at : ℕ) (t : Thread) (among : at < length world.threads.items) (is : t ≡ get_or world.threads.items at t)
      (below : at < length counts) (run : Option ThreadRun) (shown : run ≡ run_at (threads_of image) at (after_of image at t (get_or counts at 0))) where
    next_run : runs_from (threads_of image) made at (drop at counts) ≡ run_before run (runs_from (threads_of image) made (at + 1) (drop (at + 1) counts))
    next_run =
        let a = thread_among image made 0 at image.threads world.threads.items t left.threads among is in
        let e : suc at ≡ at + 1 = omega arith in
        let same : thread_run (threads_of image) at (get_or counts at 0) (replies_to at made) ≡ run =
        ap (run_at (threads_of image) at) (reached_is image made at (get_or counts at 0) t a) ∙ sym shown in
        ap (runs_from (threads_of image) made at) (drop-cons counts at 0 below)
        ∙ ap (λ o. run_before o (runs_from (threads_of image) made (at + 1) (drop (suc at) counts))) same
        ∙ ap (λ n. run_before run (runs_from (threads_of image) made (at + 1) (drop n counts))) e

  pub runs_more : (world : World) → IsLeft image made world → (counts : List ℕ) (at : ℕ) (t : Thread) → at < length world.threads.items → t ≡ get_or world.threads.items at t
      → at < length counts → (run : ThreadRun) → Some run ≡ run_at (threads_of image) at (after_of image at t (get_or counts at 0))
      → (runs : List ThreadRun) → runs_from (threads_of image) made 0 counts ≡ with_runs runs (runs_from (threads_of image) made at (drop at counts))
      → runs_from (threads_of image) made 0 counts ≡ with_runs (runs ++ run ∷ []) (runs_from (threads_of image) made (at + 1) (drop (at + 1) counts))
  runs_more world left counts at t among is below run shown runs so_far =
      so_far ∙ ap (with_runs runs) (next_run world left counts at t among is below (Some run) shown)
      ∙ one_run runs run (runs_from (threads_of image) made (at + 1) (drop (at + 1) counts))

  pub runs_stop : (world : World) → IsLeft image made world → (counts : List ℕ) (at : ℕ) (t : Thread) → at < length world.threads.items → t ≡ get_or world.threads.items at t
      → at < length counts → None ≡ run_at (threads_of image) at (after_of image at t (get_or counts at 0))
      → (runs : List ThreadRun) → runs_from (threads_of image) made 0 counts ≡ with_runs runs (runs_from (threads_of image) made at (drop at counts))
      → None ≡ runs_from (threads_of image) made 0 counts
  runs_stop world left counts at t among is below shown runs so_far =
      sym (so_far ∙ ap (with_runs runs) (next_run world left counts at t among is below None shown))

  drop_all : (counts : List ℕ) → drop (length counts) counts ≡ []
  drop_all [] = refl
  drop_all (count ∷ counts) = drop_all counts

  pub runs_end : (counts : List ℕ) (runs : List ThreadRun) → runs_from (threads_of image) made 0 counts ≡ with_runs runs (runs_from (threads_of image) made (length counts) (drop (length counts) counts))
      → Some runs ≡ runs_from (threads_of image) made 0 counts
  runs_end counts runs so_far =
      sym (so_far ∙ ap (λ l. with_runs runs (runs_from (threads_of image) made (length counts) l)) (drop_all counts) ∙ ap (λ (l : List ThreadRun). Some l) (append-nil runs))

-- addresses
addresses_append : (address count : ℕ) → addresses_from address (suc count) ≡ addresses_from address count ++ (address + count) ∷ []
addresses_append address zero = let e : address ≡ address + 0 = omega arith in ap (λ (a : ℕ). a ∷ []) e
addresses_append address (suc count) =
    let e : address + 1 + count ≡ address + suc count = omega arith in
    ap (λ (l : List ℕ). address ∷ l) (addresses_append (address + 1) count) ∙ ap (λ (a : ℕ). address ∷ (addresses_from (address + 1) count ++ a ∷ [])) e

pub bytes_more : (image : ImageValue) (memory : Memory) (before bytes : List (ℕ × ℕ)) (address place byte : ℕ)
    → bytes ≡ before ++ map (pair_at image memory) (addresses_from address place) → (address + place, byte) ≡ pair_at image memory (address + place)
    → bytes ++ (address + place, byte) ∷ [] ≡ before ++ map (pair_at image memory) (addresses_from address (place + 1))
bytes_more image memory before bytes address place byte is same =
    let f = pair_at image memory in
    let e : suc place ≡ place + 1 = omega arith in
    ap (λ l. l ++ (address + place, byte) ∷ []) is
    ∙ append_assoc before (map f (addresses_from address place)) ((address + place, byte) ∷ [])
    ∙ ap (λ p. before ++ (map f (addresses_from address place) ++ p ∷ [])) same
    ∙ ap (λ l. before ++ l) (sym (map-append f (addresses_from address place) ((address + place) ∷ [])))
    ∙ ap (λ l. before ++ map f l) (sym (addresses_append address place))
    ∙ ap (λ n. before ++ map f (addresses_from address n)) e

pub rising_low : (lowest : ℕ) (ranges : List PageRange) (i : ℕ) (d : PageRange) → AreRising lowest ranges → i < length ranges
    → (get_or ranges i d).first + (get_or ranges i d).count ≤ 4194304
rising_low lowest [] i d are below = absurd (omega arith)
rising_low lowest (r ∷ ranges) zero d are below = are.2
rising_low lowest (r ∷ ranges) (suc i) d are below = rising_low (r.first + r.count) ranges i d are.3 (omega arith)

abbrev pub run_value : List Reference → List (ℕ × ℕ) → List ℕ → List ThreadRun → RunValue
run_value references memory output threads = record { references = references; memory = memory; output = output; threads = threads }

abbrev references_of : List Made → List Reference
references_of made = reverse (map (λ (m : Made). m.reference) made)

abbrev pairs_of : ImageValue → (ℕ → ℕ) → List (ℕ × ℕ)
pairs_of image byte = map (λ at. (at, byte at)) (addresses_of image.pages.ranges)

shown : (image : ImageValue) (made : List Made) (runs : Option (List ThreadRun))
    → option_map (run_value (references_of made) (pairs_of image (bytes_after (byte_in image) made)) (reverse (output_after made))) runs ≡ option_map (value_of image) (ended made runs)
shown image made None = refl
shown image made (Some runs) = refl

module _ (image : ImageValue) (input : List ℕ) (counts : List ℕ) where
  pub not_walked : (order : List Pick) (world : World) → IsWalked image (walk (world_of image input) (reverse order)) false world → None ≡ driven_value image input order counts
  not_walked order world is = ap (λ o. option_map (value_of image) (driven_on (world_of image input) counts o)) (sym (no_walk image input (reverse order) world is))

  shows : (o : Option (List Made)) (world : World) (runs : Option (List ThreadRun)) (memory : List (ℕ × ℕ)) → IsWalked image o true world
      → ((made : List Made) → IsLeft image made world → runs ≡ runs_from (threads_of image) made 0 counts) → memory ≡ bytes_of image world.memory image.pages.ranges
      → option_map (run_value world.references.items memory world.memory.output.items) runs ≡ option_map (value_of image) (driven_on (world_of image input) counts o)
  shows None world runs memory is run bytes = absurd (cc is)
  shows (Some made) world runs memory is run bytes =
      let left : IsLeft image made world = is.1 in
      let all : memory ≡ pairs_of image (bytes_after (byte_in image) made) = bytes ∙ ap (pairs_of image) left.bytes in
      ap (λ r. option_map (run_value r memory world.memory.output.items) runs) left.references
      ∙ ap (λ m. option_map (run_value (references_of made) m world.memory.output.items) runs) all
      ∙ ap (λ l. option_map (run_value (references_of made) (pairs_of image (bytes_after (byte_in image) made)) l) runs) left.output
      ∙ shown image made runs
      ∙ ap (λ r. option_map (value_of image) (ended made r)) (run made left)

  -- all that is shown of threads that were driven
  pub driven_is : (order : List Pick) (world : World) (runs : Option (List ThreadRun)) (memory : List (ℕ × ℕ)) → IsWalked image (walk (world_of image input) (reverse order)) true world
      → ((made : List Made) → IsLeft image made world → runs ≡ runs_from (threads_of image) made 0 counts) → memory ≡ bytes_of image world.memory image.pages.ranges
      → option_map (run_value world.references.items memory world.memory.output.items) runs ≡ driven_value image input order counts
  driven_is order world runs memory is run bytes = shows (walk (world_of image input) (reverse order)) world runs memory is run bytes
