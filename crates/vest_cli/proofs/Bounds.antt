-- Words spell bounded limits of a run, and a number for which an image can be generated.
use Rattle.std.proofs.Common.{◌≡◌, ◌≤◌, ◌&&◌, ℕ, Bool, true, false, cond, if◌then◌else◌, codes, nat_le, List, Option, Some, None, refl, subst, sym, arith}
use Rattle.std.proofs.lemmas.Bool.Decides.{nat_tests}
use Rattle.std.specs.Prelude.{IfSome, option_and_then}
use Rattle.std.specs.Str.{bytes_eq}
use Rattle.command_words.specs.declared.commands.Keeping.{Keeping}
use Rattle.command_words.specs.declared.commands.Keeping.TheVariants.{History, Nothing}
use Rattle.command_words.specs.declared.commands.Limits.{Limits}
use Rattle.command_words.specs.declared.commands.Target.{Target}
use Rattle.command_words.specs.declared.numbers.Range.{Range}
use Rattle.command_words.specs.Parts.{Part, Text, first_of, names_in, only_name, two_names, values_in}
use Rattle.command_words.specs.Forms.{Form, line_of}
use Rattle.command_words.specs.Numbers.{few_ranges, number_in, within}
use Rattle.command_words.specs.Commands.{CommandValue, DEFAULT_LIMITS, command_of, forms, generate, generate_of, has_none_beside_live, has_option, is_miss, keeping_of, kept_of, limits_of, list, list_of, live, live_of, miss_of, number_of, order_by, progress_of, replay, replay_of, run, run_of, spells, target_of, translate, translate_of}
use Rattle.memory_core.specs.Limits.{KeepsEntries}
use Rattle.vest_runs.specs.Keeping.{limit_by}
use Rattle.vest_cli.specs.Words.{CanBeObeyed}

abbrev Obeyable : Option CommandValue → Type 0
Obeyable o = IfSome o CanBeObeyed

abbrev few_steps : ℕ → Bool
few_steps n = nat_le n 1000000000000

abbrev few_entries : ℕ → Bool
few_entries n = nat_le n 4194304

steps_bound : (n : ℕ) → few_steps n ≡ true → n ≤ 1000000000000
steps_bound n e = grind (arith, nat_tests)

entries_bound : (n : ℕ) → few_entries n ≡ true → n ≤ 4194304
entries_bound n e = grind (arith, nat_tests)

-- the limits of the words are so
record IsFew (limits : Limits) : Type 0 where
  steps : limits.budget ≤ 1000000000000
  entries : limits.events ≤ 4194304

module _ (keeping : Keeping) where
  abbrev limits_by : (budget events miss : Option ℕ) → Option Limits
  limits_by budget events miss = option_and_then (λ b. option_and_then (λ e. option_and_then (λ m. Some (record { budget = b; keeping = keeping; events = e; miss = m })) miss) (within few_entries events)) (within few_steps budget)

  limits_bounded : (budget events miss : Option ℕ) → IfSome (limits_by budget events miss) IsFew
  limits_bounded None events miss = tt
  limits_bounded (Some b) events miss = by_budget (few_steps b) refl
    where
      missed : (e : ℕ) (miss : Option ℕ) → b ≤ 1000000000000 → e ≤ 4194304
          → IfSome (option_and_then (λ m. Some (record { budget = b; keeping = keeping; events = e; miss = m })) miss) IsFew
      missed e None steps entries = tt
      missed e (Some m) steps entries = record { steps = steps; entries = entries }

      by_events : (e : ℕ) (t : Bool) → few_entries e ≡ t → b ≤ 1000000000000
          → IfSome (option_and_then (λ e. option_and_then (λ m. Some (record { budget = b; keeping = keeping; events = e; miss = m })) miss) (cond t (Some e) None)) IsFew
      by_events e true is steps = missed e miss steps (entries_bound e is)
      by_events e false is steps = tt

      entered : (events : Option ℕ) → b ≤ 1000000000000
          → IfSome (option_and_then (λ e. option_and_then (λ m. Some (record { budget = b; keeping = keeping; events = e; miss = m })) miss) (within few_entries events)) IsFew
      entered None steps = tt
      entered (Some e) steps = by_events e (few_entries e) refl steps

      by_budget : (t : Bool) → few_steps b ≡ t
          → IfSome (option_and_then (λ b. option_and_then (λ e. option_and_then (λ m. Some (record { budget = b; keeping = keeping; events = e; miss = m })) miss) (within few_entries events)) (cond t (Some b) None)) IsFew
      by_budget true is = entered events (steps_bound b is)
      by_budget false is = tt

-- whatever holds, holds where there is something
if_any : {X : Type 0} (o : Option X) {K : Type 0} → K → IfSome o (λ _. K)
if_any None k = tt
if_any (Some x) k = k

-- an order is asked for of a history that is kept
module _ (name : Text) (limits : Limits) (target : Target) (few : IsFew limits) where
  ordered : (progress : Bool) (keeping : Keeping) → limits.keeping ≡ keeping → (order : Option Text) (ranges : Option (List Range))
      → Obeyable (option_and_then (λ o. Some (run name o)) (option_and_then (λ to. option_and_then (λ r. if progress then None else Some (record { limits = limits; ranges = r; target = target; order = to })) ranges) (order_by keeping order)))
  ordered progress History is order None = tt
  ordered true History is order (Some r) = tt
  ordered false History is order (Some r) = record {
    budget = few.steps;
    events = few.entries;
    kept = if_any order (subst (λ (k : Keeping). KeepsEntries (limit_by k limits.events)) (sym is) tt);
  }
  ordered progress Nothing is None None = tt
  ordered true Nothing is None (Some r) = tt
  ordered false Nothing is None (Some r) = record { budget = few.steps; events = few.entries; kept = tt }
  ordered progress Nothing is (Some to) ranges = tt

kept_can : (parts : List Part) → Obeyable (kept_of parts)
kept_can parts =
    go (has_option (codes "progress") parts) (only_name (names_in parts)) (limits_of parts) (target_of parts) (few_ranges (values_in (codes "interpret") parts))
    (limits_bounded (keeping_of parts) (number_of (codes "budget") DEFAULT_LIMITS.budget parts) (number_of (codes "events") DEFAULT_LIMITS.events parts) (within is_miss (number_of (codes "miss") DEFAULT_LIMITS.miss parts)))
  where
    go : (progress : Bool) (name : Option Text) (limits : Option Limits) (target : Option Target) (ranges : Option (List Range)) → IfSome limits IsFew
        → Obeyable (option_and_then (λ n. option_and_then (λ o. Some (run n o)) (option_and_then (λ l. option_and_then (λ t. option_and_then (λ to. option_and_then (λ r. if progress then None else Some (record { limits = l; ranges = r; target = t; order = to })) ranges) (order_by l.keeping (first_of (values_in (codes "order") parts)))) target) limits)) name)
    go progress None limits target ranges few = tt
    go progress (Some n) None target ranges few = tt
    go progress (Some n) (Some l) None ranges few = tt
    go progress (Some n) (Some l) (Some t) ranges few = ordered n l t few progress l.keeping refl (first_of (values_in (codes "order") parts)) ranges

live_can : (parts : List Part) → Obeyable (live_of parts)
live_can parts =
    go (only_name (names_in parts)) (number_of (codes "budget") DEFAULT_LIMITS.budget parts) (miss_of parts) (target_of parts) (progress_of parts) (few_ranges (values_in (codes "interpret") parts)) (has_none_beside_live parts)
  where
    lived : (n : Text) (b m : ℕ) (t : Target) (e : Option ℕ) (r : List Range) (alone : Bool) → b ≤ 1000000000000
        → Obeyable (option_and_then (λ o. Some (live n o)) (if alone then Some (record { budget = b; miss = m; ranges = r; target = t; progress = e }) else None))
    lived n b m t e r true few = few
    lived n b m t e r false few = tt

    behind : (n : Text) (b : ℕ) (miss : Option ℕ) (target : Option Target) (progress : Option (Option ℕ)) (ranges : Option (List Range)) (alone : Bool) → b ≤ 1000000000000
        → Obeyable (option_and_then (λ o. Some (live n o)) (option_and_then (λ m. option_and_then (λ t. option_and_then (λ e. option_and_then (λ r. if alone then Some (record { budget = b; miss = m; ranges = r; target = t; progress = e }) else None) ranges) progress) target) miss))
    behind n b None target progress ranges alone few = tt
    behind n b (Some m) None progress ranges alone few = tt
    behind n b (Some m) (Some t) None ranges alone few = tt
    behind n b (Some m) (Some t) (Some e) None alone few = tt
    behind n b (Some m) (Some t) (Some e) (Some r) alone few = lived n b m t e r alone few

    within_budget : (n : Text) (b : ℕ) (fits : Bool) → few_steps b ≡ fits → (miss : Option ℕ) (target : Option Target) (progress : Option (Option ℕ)) (ranges : Option (List Range)) (alone : Bool)
        → Obeyable (option_and_then (λ o. Some (live n o)) (option_and_then (λ b. option_and_then (λ m. option_and_then (λ t. option_and_then (λ e. option_and_then (λ r. if alone then Some (record { budget = b; miss = m; ranges = r; target = t; progress = e }) else None) ranges) progress) target) miss) (if fits then Some b else None)))
    within_budget n b true is miss target progress ranges alone = behind n b miss target progress ranges alone (steps_bound b is)
    within_budget n b false is miss target progress ranges alone = tt

    go : (name : Option Text) (budget miss : Option ℕ) (target : Option Target) (progress : Option (Option ℕ)) (ranges : Option (List Range)) (alone : Bool)
        → Obeyable (option_and_then (λ n. option_and_then (λ o. Some (live n o)) (option_and_then (λ b. option_and_then (λ m. option_and_then (λ t. option_and_then (λ e. option_and_then (λ r. if alone then Some (record { budget = b; miss = m; ranges = r; target = t; progress = e }) else None) ranges) progress) target) miss) (within few_steps budget))) name)
    go None budget miss target progress ranges alone = tt
    go (Some n) None miss target progress ranges alone = tt
    go (Some n) (Some b) miss target progress ranges alone = within_budget n b (few_steps b) refl miss target progress ranges alone

translate_can : (parts : List Part) → Obeyable (translate_of parts)
translate_can parts = go (two_names (names_in parts)) (target_of parts)
  where
    go : (names : Option (Text × Text)) (target : Option Target)
        → Obeyable (option_and_then (λ p. option_and_then (λ t. Some (translate p.0 p.1 t (first_of (values_in (codes "hints") parts)))) target) names)
    go None target = tt
    go (Some p) None = tt
    go (Some p) (Some t) = tt

list_can : (parts : List Part) → Obeyable (list_of parts)
list_can parts = go (only_name (names_in parts))
  where
    go : (name : Option Text) → Obeyable (option_and_then (λ n. Some (list n)) name)
    go None = tt
    go (Some n) = tt

replay_can : (parts : List Part) → Obeyable (replay_of parts)
replay_can parts = go (two_names (names_in parts))
  where
    go : (names : Option (Text × Text)) → Obeyable (option_and_then (λ p. Some (replay p.0 p.1 (first_of (values_in (codes "hints") parts)))) names)
    go None = tt
    go (Some p) = tt

abbrev fits : ℕ → Bool
fits n = nat_le 1 n && nat_le n 32000

fits_few : (n : ℕ) → fits n ≡ true → n ≤ 32000
fits_few n e = grind (arith, nat_tests)

generate_can : (parts : List Part) → Obeyable (generate_of parts)
generate_can parts = go (only_name (names_in parts))
  where
    fitting : (n : ℕ) (b : Bool) → fits n ≡ b → Obeyable (option_and_then (λ m. Some (generate m)) (cond b (Some n) None))
    fitting n true e = fits_few n e
    fitting n false e = tt

    numbered : (o : Option ℕ) → Obeyable (option_and_then (λ n. Some (generate n)) (within fits o))
    numbered None = tt
    numbered (Some n) = fitting n (fits n) refl

    go : (name : Option Text) → Obeyable (option_and_then (λ t. option_and_then (λ n. Some (generate n)) (within fits (number_in t))) name)
    go None = tt
    go (Some t) = numbered (number_in t)

chosen : (b : Bool) (one other : Option CommandValue) → Obeyable one → Obeyable other → Obeyable (cond b one other)
chosen true one other h k = h
chosen false one other h k = k

run_can : (parts : List Part) → Obeyable (run_of parts)
run_can parts = chosen (has_option (codes "live") parts) (live_of parts) (kept_of parts) (live_can parts) (kept_can parts)

command_can : (f : Form) (parts : List Part) → Obeyable (command_of (f, parts))
command_can f parts =
    chosen (bytes_eq f.title (codes "run")) (run_of parts) _ (run_can parts)
    (chosen (bytes_eq f.title (codes "translate")) (translate_of parts) _ (translate_can parts)
    (chosen (bytes_eq f.title (codes "list")) (list_of parts) _ (list_can parts)
    (chosen (bytes_eq f.title (codes "generate")) (generate_of parts) _ (generate_can parts)
    (chosen (bytes_eq f.title (codes "replay")) (replay_of parts) None (replay_can parts) tt))))

spelled_can : (words : List Text) → Obeyable (spells forms words)
spelled_can words = go (line_of forms words)
  where
    go : (o : Option (Form × List Part)) → Obeyable (option_and_then command_of o)
    go None = tt
    go (Some (f, parts)) = command_can f parts

pub can_be_obeyed : (words : List Text) (command : CommandValue) → spells forms words ≡ Some command → CanBeObeyed command
can_be_obeyed words command e = subst Obeyable e (spelled_can words)
