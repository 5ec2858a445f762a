-- The ends of threads, one after the other.
use Rattle.std.proofs.Common.{◌≡◌, ℕ, suc, ◌<◌, ◌+◌, Bool, List, [], ◌∷◌, ◌++◌, length, drop, get_or, Some, None, Result, Ok, Err, refl, sym, ap, ◌∙◌, append_assoc, append-nil, arith}
use Rattle.std.proofs.Math.Seq.{drop-cons}
use Rattle.vax_driven.specs.declared.thread.End.{End}
use Rattle.vax_driven.specs.declared.thread.ThreadRun.{ThreadRun}
use Rattle.vax_form.specs.declared.state.VaxState.{VaxState}
use Rattle.stored_runs.specs.Replay.{EndValue, end_before, end_of, ends_from}
use Rattle.stored_runs.specs.declared.refusal.ReplayRefusal.{ReplayRefusal}
use Rattle.stored_runs.specs.declared.refusal.ReplayRefusal.TheVariants.{WrongEnd}

-- some ends before the others
abbrev pub with_first : List EndValue → Result (List EndValue) ReplayRefusal → Result (List EndValue) ReplayRefusal
with_first ends (Ok later) = Ok (ends ++ later)
with_first ends (Err refusal) = Err refusal

one_end : (ends : List EndValue) (end : End) (state : VaxState) (count thread : ℕ) (later : Result (List EndValue) ReplayRefusal)
    → with_first ends (end_before thread state count (Some end) later) ≡ with_first (ends ++ (end, state, count) ∷ []) later
one_end ends end state count thread (Ok later) = ap (λ (l : List EndValue). Ok l) (sym (append_assoc ends ((end, state, count) ∷ []) later))
one_end ends end state count thread (Err refusal) = refl

module _ (runs : List ThreadRun) (spent : List Bool) (counts : List ℕ) where
  abbrev pub from : ℕ → Result (List EndValue) ReplayRefusal
  from i = ends_from i (drop i runs) (drop i spent) (drop i counts)

  next : (i : ℕ) (run : ThreadRun) (b : Bool) (count : ℕ) → i < length runs → i < length spent → i < length counts
      → run ≡ get_or runs i run → b ≡ get_or spent i b → count ≡ get_or counts i count
      → from i ≡ end_before i run.state count (end_of b run) (from (i + 1))
  next i run b count in_runs in_spent in_counts r s k =
      let e : suc i ≡ i + 1 = omega arith in
      ap (λ l. ends_from i l (drop i spent) (drop i counts)) (drop-cons runs i run in_runs ∙ ap (λ x. x ∷ drop (suc i) runs) (sym r))
      ∙ ap (λ l. ends_from i (run ∷ drop (suc i) runs) l (drop i counts)) (drop-cons spent i b in_spent ∙ ap (λ x. x ∷ drop (suc i) spent) (sym s))
      ∙ ap (ends_from i (run ∷ drop (suc i) runs) (b ∷ drop (suc i) spent)) (drop-cons counts i count in_counts ∙ ap (λ x. x ∷ drop (suc i) counts) (sym k))
      ∙ ap (λ n. end_before i run.state count (end_of b run) (from n)) e

  pub more_ends : (i : ℕ) (run : ThreadRun) (b : Bool) (count : ℕ) (end : End) (ends : List EndValue) → i < length runs → i < length spent → i < length counts
      → run ≡ get_or runs i run → b ≡ get_or spent i b → count ≡ get_or counts i count → end_of b run ≡ Some end
      → ends_from 0 runs spent counts ≡ with_first ends (from i)
      → ends_from 0 runs spent counts ≡ with_first (ends ++ (end, run.state, count) ∷ []) (from (i + 1))
  more_ends i run b count end ends in_runs in_spent in_counts r s k is so_far =
      so_far ∙ ap (with_first ends) (next i run b count in_runs in_spent in_counts r s k ∙ ap (λ e. end_before i run.state count e (from (i + 1))) is)
      ∙ one_end ends end run.state count i (from (i + 1))

  pub wrong_end : (i : ℕ) (run : ThreadRun) (b : Bool) (count : ℕ) (ends : List EndValue) → i < length runs → i < length spent → i < length counts
      → run ≡ get_or runs i run → b ≡ get_or spent i b → count ≡ get_or counts i count → end_of b run ≡ None
      → ends_from 0 runs spent counts ≡ with_first ends (from i)
      → ends_from 0 runs spent counts ≡ Err (WrongEnd i)
  wrong_end i run b count ends in_runs in_spent in_counts r s k none so_far =
      so_far ∙ ap (with_first ends) (next i run b count in_runs in_spent in_counts r s k ∙ ap (λ e. end_before i run.state count e (from (i + 1))) none)

  drop_runs : (l : List ThreadRun) → drop (length l) l ≡ []
  drop_runs [] = refl
  drop_runs (x ∷ l) = drop_runs l

  pub all_ends : (ends : List EndValue) → ends_from 0 runs spent counts ≡ with_first ends (from (length runs)) → ends_from 0 runs spent counts ≡ Ok ends
  all_ends ends so_far =
      so_far ∙ ap (λ l. with_first ends (ends_from (length runs) l (drop (length runs) spent) (drop (length runs) counts))) (drop_runs runs)
      ∙ ap (λ (l : List EndValue). Ok l) (append-nil ends)

-- the same, by the item of the runs that any default gives
pub wrong_at : (runs : List ThreadRun) (spent : List Bool) (counts : List ℕ) (i : ℕ) (ends : List EndValue) (d : ThreadRun) (b : Bool) → i < length runs → i < length spent → i < length counts
    → b ≡ get_or spent i b → end_of b (get_or runs i d) ≡ None → ends_from 0 runs spent counts ≡ with_first ends (from runs spent counts i)
    → ends_from 0 runs spent counts ≡ Err (WrongEnd i)
wrong_at runs spent counts i ends d b in_runs in_spent in_counts s none so_far =
    so_far ∙ ap (with_first ends)
    (ap (λ l. ends_from i l (drop i spent) (drop i counts)) (drop-cons runs i d in_runs)
    ∙ ap (λ l. ends_from i (get_or runs i d ∷ drop (suc i) runs) l (drop i counts)) (drop-cons spent i b in_spent ∙ ap (λ x. x ∷ drop (suc i) spent) (sym s))
    ∙ ap (ends_from i (get_or runs i d ∷ drop (suc i) runs) (b ∷ drop (suc i) spent)) (drop-cons counts i 0 in_counts)
    ∙ ap (λ e. end_before i (get_or runs i d).state (get_or counts i 0) e (ends_from (suc i) (drop (suc i) runs) (drop (suc i) spent) (drop (suc i) counts))) none)
