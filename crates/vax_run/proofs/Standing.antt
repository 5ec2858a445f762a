-- Threads that stand where their replies took them.
use Rattle.std.proofs.Common.{◌≡◌, ℕ, zero, suc, ◌<◌, ◌≤◌, ◌+◌, ◌==◌, Bool, true, false, List, [], ◌∷◌, ◌++◌, length, take, drop, Option, Some, None, if◌then◌else◌, get_or, slice_set, option_map, slice_get, refl, sym, ap, ◌∙◌, subst, arith, eq-eqb}
use Rattle.std.proofs.Math.Seq.{take-suc}
use Rattle.std.proofs.lemmas.List.{length-append}
use Rattle.vt_words.proofs.Tests.{less_differs, greater_differs}
use Rattle.image_file.specs.declared.image.Start.{Start}
use Rattle.image_file.specs.Start.{start_state}
use Rattle.image_file.specs.Values.{ImageValue}
use Rattle.vax_form.specs.Tree.{Tree, Retired}
use Rattle.vax_form.specs.declared.pages.Pages.{Pages}
use Rattle.vax_form.specs.declared.state.VaxState.{VaxState}
use Rattle.vax_meaning.specs.After.{after, KeepsRetired}
use Rattle.vax_form.proofs.Afters.{after_with_more}
use Rattle.vax_meaning.specs.Made.{Made, replies_to}
use Rattle.vax_driven.specs.Threads.{after_start, reached, wanted_at, wanted}
use Rattle.vax_long.specs.Pending.{moment_at}
use Rattle.vax_run.specs.Answered.{life_of, reached_of}
use Rattle.vax_run.specs.Threads.{after_of, IsAt, IsPlaceOf, IsThread, AreThreads}
use Rattle.vax_run.specs.Values.{threads_of}
use Rattle.vax_run.specs.declared.advance.Life.TheVariants as lives
use Rattle.vax_run.specs.declared.advance.Place.{Place}
use Rattle.vax_run.specs.declared.thread.Thread.{Thread}

chosen : (b : Bool) (xs ys : List ℕ) → b ≡ true → (if b then xs else ys) ≡ xs
chosen true xs ys is = refl
chosen false xs ys is = absurd (cc is)

passed : (b : Bool) (xs ys : List ℕ) → b ≡ false → (if b then xs else ys) ≡ ys
passed true xs ys is = absurd (cc is)
passed false xs ys is = refl

drop_before : (n : ℕ) (xs ys : List ℕ) → n ≤ length xs → drop n (xs ++ ys) ≡ drop n xs ++ ys
drop_before zero xs ys within = refl
drop_before (suc n) [] ys within = absurd (omega arith)
drop_before (suc n) (x ∷ xs) ys within = drop_before n xs ys (omega arith)

abbrev at_place : Place → List ℕ → Option Retired
at_place place left = Some (record { life = life_of place.life; state = place.state; left = left })

-- one more reply changes nothing of where a thread came before it
reached_later : (tree : VaxState → Tree) (pages : Pages) (start : VaxState) (count : ℕ) (replies : List ℕ) (reply : ℕ) (place : Place) → place.taken ≤ length replies
    → after tree pages start count replies ≡ reached_of replies (Some place)
    → after tree pages start count (replies ++ reply ∷ []) ≡ reached_of (replies ++ reply ∷ []) (Some place)
reached_later tree pages start count replies reply place within is =
    let kept : after tree pages start count (replies ++ reply ∷ []) ≡ at_place place (drop place.taken replies ++ reply ∷ []) =
    subst (KeepsRetired (after tree pages start count (replies ++ reply ∷ [])) (reply ∷ [])) is (after_with_more tree pages start count replies (reply ∷ [])) in
    kept ∙ ap (at_place place) (sym (drop_before place.taken replies (reply ∷ []) within))

module _ (image : ImageValue) (made : List Made) (m : Made) where
  -- the thread that made the reference
  pub taken_on : (start : Start) (t new : Thread) (count : ℕ) (place : Place) → IsThread image m.thread made start t → IsPlaceOf image m.thread t count place
      → new.start ≡ t.start → new.replies.items ≡ t.replies.items ++ m.reply ∷ [] → new.place ≡ place → new.retired ≡ count
      → IsThread image m.thread (m ∷ made) start new
  taken_on start t new count place is stands same replies here retired =
      let T = moment_at image.pages m.thread in
      let P = image.pages in
      let xs = t.replies.items ++ m.reply ∷ [] in
      let at : new.place.taken ≡ place.taken = ap (λ (p : Place). p.taken) here in
      let long : length new.replies.items ≡ length xs = ap length replies in
      let longer : length xs ≡ length t.replies.items + 1 = length-append t.replies.items (m.reply ∷ []) in
      let before = stands.taken in
      record {
        at = record {
          taken = omega arith;
          reached = ap (λ s. after T P s new.retired new.replies.items) same
              ∙ ap (λ n. after T P t.start n new.replies.items) retired
              ∙ ap (λ l. after T P t.start count l) replies
              ∙ reached_later T P t.start count t.replies.items m.reply place before stands.reached
              ∙ ap (λ l. reached_of l (Some place)) (sym replies)
              ∙ ap (λ p. reached_of new.replies.items (Some p)) (sym here);
        };
        begins = same ∙ is.begins;
        replies = replies ∙ ap (λ (l : List ℕ). l ++ m.reply ∷ []) is.replies
            ∙ sym (chosen (m.thread == m.thread) (replies_to m.thread made ++ m.reply ∷ []) (replies_to m.thread made) (eq-eqb m.thread m.thread refl));
      }

  -- any other thread
  stays : (k : ℕ) (start : Start) (t : Thread) → (m.thread == k) ≡ false → IsThread image k made start t → IsThread image k (m ∷ made) start t
  stays k start t apart is = record {
    at = is.at;
    begins = is.begins;
    replies = is.replies ∙ sym (passed (m.thread == k) (replies_to k made ++ m.reply ∷ []) (replies_to k made) apart);
  }

  others_stay : (k : ℕ) (starts : List Start) (threads : List Thread) → m.thread < k → AreThreads image k made starts threads → AreThreads image k (m ∷ made) starts threads
  others_stay k [] [] below are = tt
  others_stay k [] (t ∷ threads) below are = absurd are
  others_stay k (start ∷ starts) [] below are = absurd are
  others_stay k (start ∷ starts) (t ∷ threads) below are =
      (stays k start t (less_differs m.thread k below) are.0, others_stay (suc k) starts threads (omega arith) are.1)

  pub threads_on : (k at : ℕ) (starts : List Start) (threads : List Thread) (t new : Thread) → m.thread ≡ k + at → at < length threads → t ≡ get_or threads at t
      → AreThreads image k made starts threads → ((start : Start) → IsThread image m.thread made start t → IsThread image m.thread (m ∷ made) start new)
      → AreThreads image k (m ∷ made) starts (slice_set threads at new)
  threads_on k at [] [] t new is below same are on = absurd (omega arith)
  threads_on k at [] (u ∷ threads) t new is below same are on = absurd are
  threads_on k at (start ∷ starts) [] t new is below same are on = absurd are
  threads_on k zero (start ∷ starts) (u ∷ threads) t new is below same are on =
      let e : m.thread ≡ k = omega arith in
      let here : IsThread image m.thread made start u = subst (λ n. IsThread image n made start u) (sym e) are.0 in
      let on_it : IsThread image m.thread made start t = subst (IsThread image m.thread made start) (sym same) here in
      (subst (λ n. IsThread image n (m ∷ made) start new) e (on start on_it), others_stay (suc k) starts threads (omega arith) are.1)
  threads_on k (suc at) (start ∷ starts) (u ∷ threads) t new is below same are on =
      let e : m.thread ≡ suc k + at = omega arith in
      let l : at < length threads = omega arith in
      let apart : k < m.thread = omega arith in
      (stays k start u (greater_differs m.thread k apart) are.0, threads_on (suc k) at starts threads t new e l same are.1 on)

module _ (image : ImageValue) (made : List Made) where
  -- the thread of a number, and where it starts
  pub record IsAmong (k at : ℕ) (starts : List Start) (t : Thread) : Type 0 where
    pub from : Start
    pub found : slice_get starts at ≡ Some from
    pub thread : IsThread image (k + at) made from t

  pub thread_among : (k at : ℕ) (starts : List Start) (threads : List Thread) (t : Thread) → AreThreads image k made starts threads → at < length threads
      → t ≡ get_or threads at t → IsAmong k at starts t
  thread_among k at [] [] t are below is = absurd (omega arith)
  thread_among k at [] (u ∷ threads) t are below is = absurd are
  thread_among k at (start ∷ starts) [] t are below is = absurd are
  thread_among k zero (start ∷ starts) (u ∷ threads) t are below is =
      let e : k ≡ k + 0 = omega arith in
      record { from = start; found = refl; thread = subst (λ n. IsThread image n made start t) e (subst (IsThread image k made start) (sym is) are.0) }
  thread_among k (suc at) (start ∷ starts) (u ∷ threads) t are below is =
      let l : at < length threads = omega arith in
      let a : IsAmong (suc k) at starts t = thread_among (suc k) at starts threads t are.1 l is in
      let e : suc k + at ≡ k + suc at = omega arith in
      record { from = a.from; found = a.found; thread = subst (λ n. IsThread image n made a.from t) e a.thread }

  pub none_beyond : (k at : ℕ) (starts : List Start) (threads : List Thread) → AreThreads image k made starts threads → length threads ≤ at → slice_get starts at ≡ None
  none_beyond k at [] [] are above = refl
  none_beyond k at [] (u ∷ threads) are above = absurd are
  none_beyond k at (start ∷ starts) [] are above = absurd are
  none_beyond k zero (start ∷ starts) (u ∷ threads) are above = absurd (omega arith)
  none_beyond k (suc at) (start ∷ starts) (u ∷ threads) are above = none_beyond (suc k) at starts threads are.1 (omega arith)

  pub as_many : (k : ℕ) (starts : List Start) (threads : List Thread) → AreThreads image k made starts threads → length starts ≡ length threads
  as_many k [] [] are = refl
  as_many k [] (t ∷ threads) are = absurd are
  as_many k (start ∷ starts) [] are = absurd are
  as_many k (start ∷ starts) (t ∷ threads) are = ap suc (as_many (suc k) starts threads are.1)

  -- where a thread of the image comes
  pub reached_is : (n count : ℕ) (t : Thread) → IsAmong 0 n image.threads t → reached (threads_of image) n count (replies_to n made) ≡ after_of image n t count
  reached_is n count t a =
      let T = moment_at image.pages n in
      let e : 0 + n ≡ n = omega arith in
      let is : IsThread image n made a.from t = subst (λ k. IsThread image k made a.from t) e a.thread in
      ap (λ (o : Option Start). after_start T image.pages (option_map start_state o) count (replies_to n made)) a.found
      ∙ ap (λ s. after T image.pages s count (replies_to n made)) (sym is.begins)
      ∙ ap (λ l. after T image.pages t.start count l) (sym is.replies)

  pub nothing_wanted : (n count : ℕ) → slice_get image.threads n ≡ None → wanted (threads_of image) n count (replies_to n made) ≡ None
  nothing_wanted n count none =
      ap (λ (o : Option Start). wanted_at (threads_of image) n (after_start (moment_at image.pages n) image.pages (option_map start_state o) count (replies_to n made))) none

  pub at_among : (n : ℕ) (t : Thread) → IsAmong 0 n image.threads t → IsAt image n t
  at_among n t a = let e : 0 + n ≡ n = omega arith in subst (λ k. IsAt image k t) e a.thread.at

-- a thread before its first instruction
pub fresh : (image : ImageValue) (n : ℕ) (start : Start) (state : VaxState) (t : Thread) → t.start ≡ state → t.replies.items ≡ []
    → t.place ≡ record { life = lives.Runs; state = state; taken = 0 } → t.retired ≡ 0 → state ≡ start_state start → IsThread image n [] start t
fresh image n start state t same none here unretired begins =
    let T = moment_at image.pages n in
    let P = image.pages in
    let e : t.place.taken ≡ 0 = ap (λ (p : Place). p.taken) here in
    record {
      at = record {
        taken = omega arith;
        reached = ap (λ s. after T P s t.retired t.replies.items) same
            ∙ ap (λ k. after T P state k t.replies.items) unretired
            ∙ ap (λ p. reached_of t.replies.items (Some p)) (sym here);
      };
      begins = same ∙ begins;
      replies = none;
    }

pub threads_more : (image : ImageValue) (k : ℕ) (starts : List Start) (threads : List Thread) (start : Start) (t : Thread) → AreThreads image k [] starts threads
    → ((n : ℕ) → IsThread image n [] start t) → AreThreads image k [] (starts ++ start ∷ []) (threads ++ t ∷ [])
threads_more image k [] [] start t are is = (is k, tt)
threads_more image k [] (u ∷ threads) start t are is = absurd are
threads_more image k (s ∷ starts) [] start t are is = absurd are
threads_more image k (s ∷ starts) (u ∷ threads) start t are is = (are.0, threads_more image (suc k) starts threads start t are.1 is)

pub threads_next : (image : ImageValue) (starts : List Start) (threads : List Thread) (i : ℕ) (d : Start) (t : Thread) → i < length starts → AreThreads image 0 [] (take i starts) threads
    → ((n : ℕ) → IsThread image n [] (get_or starts i d) t) → AreThreads image 0 [] (take (i + 1) starts) (threads ++ t ∷ [])
threads_next image starts threads i d t below are is =
    let e : i + 1 ≡ suc i = omega arith in
    subst (λ l. AreThreads image 0 [] l (threads ++ t ∷ [])) (sym (ap (λ n. take n starts) e ∙ take-suc starts i d below))
    (threads_more image 0 (take i starts) threads (get_or starts i d) t are is)

pub same_item : (threads : List Thread) (i : ℕ) (d e : Thread) → i < length threads → get_or threads i d ≡ get_or threads i e
same_item [] i d e below = absurd (omega arith)
same_item (t ∷ threads) zero d e below = refl
same_item (t ∷ threads) (suc i) d e below = same_item threads i d e (omega arith)
