-- What an order file can hold.
use Rattle.std.specs.Prelude.{◌≡◌, ℕ, ◌≤◌, ◌<◌, ◌^◌, length}
use Rattle.std.specs.List.{AllByRecursion}
use Rattle.vax_form.specs.GrammarLaws.{AreBytes}
use Rattle.vax_form.specs.declared.state.Pick.{Pick}
use Rattle.run_files.specs.Limits.{MOST_THREADS, MOST_INPUT, MOST_PICKS, MOST_COUNT}
use Rattle.run_files.specs.Values.{OrderValue}

-- so many threads, bytes of input, and picks at most
pub record AreFew (threads input picks : ℕ) : Type 0 where
  pub few_threads : threads ≤ MOST_THREADS
  pub short_input : input ≤ MOST_INPUT
  pub few_picks : picks ≤ MOST_PICKS

abbrev pub IsCount : ℕ → Type 0
IsCount count = count ≤ MOST_COUNT

-- one of so many threads, after fewer than 2^64 instructions
abbrev pub IsPick : ℕ → Pick → Type 0
IsPick threads pick = (pick.thread < threads) × (pick.retired < 2 ^ 64)

-- a count and a flag of each of so many threads, bytes of input, and picks of these threads
pub record Fits (threads : ℕ) (file : OrderValue) : Type 0 where
  pub few : AreFew threads (length file.input) (length file.picks)
  pub counts : length file.counts ≡ threads
  pub spent : length file.spent ≡ threads
  pub small : AllByRecursion IsCount file.counts
  pub input : AreBytes file.input
  pub picks : AllByRecursion (IsPick threads) file.picks
