-- The numbers of a whole image and of an input of bytes are in range.
use Rattle.std.proofs.Common.{◌≡◌, ℕ, zero, suc, ◌<◌, ◌≤◌, Bool, true, false, List, [], ◌∷◌, length, Some, slice_index, subst, arith}
use Rattle.std.specs.Prelude.{◌==◌, if◌then◌else◌, slice_get}
use Rattle.std.specs.List.{AllByRecursion}
use Rattle.std.proofs.lemmas.List.Elements.{All-from_get_or}
use Rattle.std.proofs.lemmas.Option.{slice_get_within}
use Rattle.image_file.specs.Memory.{byte_in}
use Rattle.image_file.specs.Limits.{most_threads}
use Rattle.image_file.specs.Whole.{StartFits, IsStart, IsWhole}
use Rattle.image_file.specs.declared.image.Start.{Start}
use Rattle.memory_core.specs.declared.entry.SetUp.{SetUp}
use Rattle.vax_form.specs.References.{AreBytes}
use Rattle.legal_history.specs.Law.{IsRun}

start_fits : (version : ℕ) (starts : List Start) (thread : ℕ) (start : Start) → AllByRecursion (IsStart version) starts → slice_get starts thread ≡ Some start → StartFits start
start_fits version [] thread start fit at = absurd (cc at)
start_fits version (s ∷ starts) zero start fit at = let same : s ≡ start = cc at in subst StartFits same (fit.0).fits
start_fits version (s ∷ starts) (suc thread) start fit at = start_fits version starts thread start fit.1 at

few_threads : (version : ℕ) → most_threads version ≤ 32
few_threads version = by (version == 1)
  where
    by : (b : Bool) → (if b then 16 else 32) ≤ 32
    by true = omega arith
    by false = omega arith

pub whole_is_run : (set_up : SetUp) → IsWhole set_up.image → AreBytes (byte_in set_up.image) → ((k : ℕ) → slice_index set_up.input k < 256) → IsRun set_up
whole_is_run set_up whole image input = record {
  bytes = record { image = image; input = All-from_get_or (λ byte. byte < 256) set_up.input 0 (λ k lt. input k) };
  starts = λ thread start at.
      let number : thread < length set_up.image.threads = slice_get_within set_up.image.threads thread start at in
      let fits = start_fits set_up.image.version set_up.image.threads thread start whole.room.starts_fit at in
      (omega (arith, number, whole.room.threads, few_threads set_up.image.version), fits);
}
