-- What driven threads give.
use Rattle.std.proofs.Common.{◌≡◌, ℕ, suc, ◌+◌, Bool, true, false, List, [], ◌∷◌, length, reverse, Option, Some, None, IfSome, option_map, Result, Err, refl, sym, ap, ◌∙◌, subst}
use Rattle.image_file.specs.Values.{ImageValue}
use Rattle.run_files.specs.Values.{OrderValue}
use Rattle.vax_form.specs.Made.{Made, output_after}
use Rattle.vax_form.specs.declared.state.Pick.{Pick}
use Rattle.vax_driven.specs.Driven.{driven_on, ended, run_before, runs_from, walk}
use Rattle.vax_driven.specs.Threads.{Threads, thread_run}
use Rattle.vax_driven.specs.declared.thread.ThreadRun.{ThreadRun}
use Rattle.vax_form.specs.Made.{replies_to}
use Rattle.vax_run.specs.Values.{threads_of, value_of, world_of}
use Rattle.stored_runs.specs.Replay.{EndValue, Gives, ReplayedValue, ends_from, given_by, replay_of, with_ends}
use Rattle.stored_runs.specs.Marks.{AreUnmarked, mark_of}
use Rattle.stored_runs.specs.Stood.{AreAllMarks, AreMarksOf}
use Rattle.stored_runs.specs.World.{AreFresh, AreLeft, IsLeft, IsWalked}
use Rattle.stored_runs.specs.declared.marks.Marks.{Marks}
use Rattle.stored_runs.specs.declared.refusal.ReplayRefusal.{ReplayRefusal}
use Rattle.stored_runs.specs.declared.refusal.ReplayRefusal.TheVariants.{NotDriven, WrongEnd, WantOfMemory}
use Rattle.stored_runs.specs.declared.world.World.{World}
use Rattle.stored_runs.proofs.Marked.{marks_first}

-- what threads give that came to their counts, or didn't
abbrev pub runs_give : OrderValue → (output : List ℕ) → Option (List ThreadRun) → Result ReplayedValue ReplayRefusal
runs_give order output None = Err NotDriven
runs_give order output (Some runs) = with_ends output (ends_from 0 runs order.spent order.counts)

module _ (image : ImageValue) (order : OrderValue) where
  -- a pick that wanted nothing
  pub not_walked : (world : World) (marks : Marks) → IsWalked image order.input order.counts (walk (world_of image order.input) (reverse order.picks)) false world marks → replay_of image order ≡ Err NotDriven
  unfolding replay_of
  not_walked world marks is = by (walk (world_of image order.input) (reverse order.picks)) is
    where
      by : (o : Option (List Made)) → IsWalked image order.input order.counts o false world marks
          → given_by order (option_map (value_of image) (driven_on (world_of image order.input) order.counts o)) ≡ Err NotDriven
      by None gone = refl
      by (Some made) gone = absurd (cc (gone.0))

  -- all picks made their references
  pub walked_gives : (world : World) (marks : Marks) (runs : Option (List ThreadRun)) → IsWalked image order.input order.counts (walk (world_of image order.input) (reverse order.picks)) true world marks
      → ((input counts : List ℕ) (made : List Made) → length counts ≡ length image.threads → IsLeft image input counts made world → runs ≡ runs_from (threads_of image) made 0 counts)
      → length order.counts ≡ length image.threads → replay_of image order ≡ runs_give order world.memory.output.items runs
  unfolding replay_of
  walked_gives world marks runs is came many = by (walk (world_of image order.input) (reverse order.picks)) is
    where
      shows : (made : List Made) (o : Option (List ThreadRun)) → given_by order (option_map (value_of image) (ended made o)) ≡ runs_give order (reverse (output_after made)) o
      shows made None = refl
      shows made (Some r) = refl

      by : (o : Option (List Made)) → IsWalked image order.input order.counts o true world marks
          → given_by order (option_map (value_of image) (driven_on (world_of image order.input) order.counts o)) ≡ runs_give order world.memory.output.items runs
      by None gone = absurd (cc gone)
      by (Some made) goes =
          let left : IsLeft image order.input order.counts made world = goes.1.left in
          shows made (runs_from (threads_of image) made 0 order.counts)
          ∙ ap (runs_give order (reverse (output_after made))) (sym (came order.input order.counts made many left))
          ∙ ap (λ l. runs_give order l runs) (sym left.output)

  pub as_many : (world : World) (marks : Marks) → IsWalked image order.input order.counts (walk (world_of image order.input) (reverse order.picks)) true world marks → length world.threads.items ≡ length image.threads
  as_many world marks is = by (walk (world_of image order.input) (reverse order.picks)) is
    where
      by : (o : Option (List Made)) → IsWalked image order.input order.counts o true world marks → length world.threads.items ≡ length image.threads
      by None gone = absurd (cc gone)
      by (Some made) goes = goes.1.left.many

  -- the marks, where all threads came to their counts
  pub walked_marks : (world : World) (marks marks' : Marks) (runs : List ThreadRun) → IsWalked image order.input order.counts (walk (world_of image order.input) (reverse order.picks)) true world marks
      → ((input counts : List ℕ) (made : List Made) → length counts ≡ length image.threads → IsLeft image input counts made world → Some runs ≡ runs_from (threads_of image) made 0 counts)
      → ((input counts : List ℕ) (made : List Made) → length counts ≡ length image.threads → AreLeft image input counts made world marks → AreAllMarks image counts made (mark_of marks'))
      → length order.counts ≡ length image.threads → AreMarksOf image order (mark_of marks')
  walked_marks world marks marks' runs is came marked many = by (walk (world_of image order.input) (reverse order.picks)) refl is
    where
      by : (o : Option (List Made)) → walk (world_of image order.input) (reverse order.picks) ≡ o → IsWalked image order.input order.counts o true world marks → AreMarksOf image order (mark_of marks')
      by None goes gone = absurd (cc gone)
      by (Some made) goes left = record {
        went = record { made = made; runs = runs };
        goes = ap (driven_on (world_of image order.input) order.counts) goes ∙ ap (ended made) (sym (came order.input order.counts made many left.1.left));
        marks = marked order.input order.counts made many left.1;
      }

  -- ---- as many runs as counts
  before_many : (run : Option ThreadRun) (later : Option (List ThreadRun)) (count : ℕ) (runs : List ThreadRun) → Some runs ≡ run_before run later
      → ((rest : List ThreadRun) → Some rest ≡ later → length rest ≡ count) → length runs ≡ suc count
  before_many None later count runs is many = absurd (cc is)
  before_many (Some run) None count runs is many = absurd (cc is)
  before_many (Some run) (Some rest) count runs is many =
      let same : runs ≡ run ∷ rest = cc is in
      ap length same ∙ ap suc (many rest refl)

  from_many : (threads : Threads) (made : List Made) (thread : ℕ) (counts : List ℕ) (runs : List ThreadRun) → Some runs ≡ runs_from threads made thread counts → length runs ≡ length counts
  from_many threads made thread [] runs is = let none : runs ≡ [] = cc is in ap length none
  from_many threads made thread (count ∷ counts) runs is =
      before_many (thread_run threads thread count (replies_to thread made)) (runs_from threads made (thread + 1) counts) (length counts) runs is
      (λ rest e. from_many threads made (thread + 1) counts rest e)

  pub runs_many : (world : World) (marks : Marks) (runs : List ThreadRun) → IsWalked image order.input order.counts (walk (world_of image order.input) (reverse order.picks)) true world marks
      → ((input counts : List ℕ) (made : List Made) → length counts ≡ length image.threads → IsLeft image input counts made world → Some runs ≡ runs_from (threads_of image) made 0 counts)
      → length order.counts ≡ length image.threads → length runs ≡ length order.counts
  runs_many world marks runs is came many = by (walk (world_of image order.input) (reverse order.picks)) is
    where
      by : (o : Option (List Made)) → IsWalked image order.input order.counts o true world marks → length runs ≡ length order.counts
      by None gone = absurd (cc gone)
      by (Some made) goes = from_many (threads_of image) made 0 order.counts runs (came order.input order.counts made many goes.1.left)

  pub moved : (input counts : List ℕ) (picks : List Pick) (b c : Bool) (world : World) (marks : Marks) → input ≡ order.input → counts ≡ order.counts → picks ≡ order.picks → b ≡ c
      → IsWalked image input counts (walk (world_of image input) (reverse picks)) b world marks
      → IsWalked image order.input order.counts (walk (world_of image order.input) (reverse order.picks)) c world marks
  moved input counts picks b c world marks i k p same is =
      subst (λ c. IsWalked image order.input order.counts (walk (world_of image order.input) (reverse order.picks)) c world marks) same
      (subst (λ picks. IsWalked image order.input order.counts (walk (world_of image order.input) (reverse picks)) b world marks) p
      (subst (λ counts. IsWalked image order.input counts (walk (world_of image order.input) (reverse picks)) b world marks) k
      (subst (λ input. IsWalked image input counts (walk (world_of image input) (reverse picks)) b world marks) i is)))

  -- so it is from the beginning
  pub from_first : (input counts : List ℕ) (picks : List Pick) (b c : Bool) (old world : World) (first marks : Marks) → input ≡ order.input → counts ≡ order.counts → picks ≡ order.picks → b ≡ c
      → IsLeft image input counts [] old → AreUnmarked image.pages first → AreFresh old.threads.items
      → ((counts : List ℕ) → AreLeft image input counts [] old first → IsWalked image input counts (walk (world_of image input) (reverse picks)) b world marks)
      → IsWalked image order.input order.counts (walk (world_of image order.input) (reverse order.picks)) c world marks
  from_first input counts picks b c old world first marks i k p same left unmarked fresh walks =
      moved input counts picks b c world marks i k p same (walks counts (record { left = left; marked = marks_first image counts old.threads.items first unmarked fresh }))

pub at_some : {X : Type 0} (P : Type 0) (o : Option X) (x : X) → o ≡ Some x → IfSome o (λ _. P) → P
at_some P None x is p = absurd (cc is)
at_some P (Some y) x is p = p

-- a refusal of the ends is the replay's
pub err_gives : {X Z : Type 0} (view : X → List EndValue) (seen : Z → ReplayedValue) (output : List ℕ) (given : Result (List EndValue) ReplayRefusal) (e : ReplayRefusal)
    (replay : Result ReplayedValue ReplayRefusal) → replay ≡ with_ends output given → Gives view (Err e) given → Gives seen (Err e) replay
err_gives view seen output given NotDriven replay is gives = is ∙ ap (with_ends output) gives
err_gives view seen output given (WrongEnd thread) replay is gives = is ∙ ap (with_ends output) gives
err_gives view seen output given WantOfMemory replay is gives = tt
