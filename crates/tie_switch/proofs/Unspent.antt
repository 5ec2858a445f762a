-- A processor that is spent over a memory that is not full has no step left.
use Rattle.std.proofs.Common.{◌≡◌, ℕ, ◌==◌, inl, inr, Bool, true, false, List, ◌++◌, Option, Some, None, refl, sym, ap, ◌∙◌, subst}
use Rattle.std.specs.Prelude.{MatchBool}
use Rattle.std.proofs.lemmas.Bool.{and_parts, eqb-true, eq-eqb}
use Rattle.std.proofs.lemmas.List.{append-nil}
use Rattle.alpha_meaning.specs.State.{Regs}
use Rattle.memory_core.specs.Contents.{bytes_put}
use Rattle.memory_core.specs.Limits.{CountsPuts, IsAtLimit, greatest}
use Rattle.memory_core.specs.declared.entry.Entry.{Entry}
use Rattle.memory_core.specs.declared.entry.Limit.{Limit}
use Rattle.memory_core.specs.declared.entry.Limit.TheVariants.{Entries, Puts}
use Rattle.memory_core.specs.declared.entry.SetUp.{SetUp}
use Rattle.system_model.specs.Legal.{spent}
use Rattle.system_model.specs.Processors.{Mode, New, Runs, Interprets, Ended, Processor, Turn, Went, Asks, Over, Stuck, alpha_turn, left, mode_by, mode_of, moment_of, placed, registers_of, stepped, tie_turn, tied, turn, turn_in}
use Rattle.system_model.specs.Settings.{Setting}
use Rattle.system_model.specs.Settings as settings
use Rattle.system_model.specs.Steps.{Last, Comes, Fails, Place, Inside, Lands, Leaves, Next, Moves, Wants, next, settled_last}
use Rattle.system_model.specs.Steps as step
use Rattle.vax_form.specs.Tree.{Answer, Finish, Exit, Trap, answer}
use Rattle.vax_form.specs.Tree as trees
use Rattle.vax_form.specs.declared.pages.Pages.{Pages}
use Rattle.vax_form.specs.declared.state.VaxState.{VaxState}
use Rattle.tie_switch.specs.Live.{AreNone, is_spent}
use Rattle.tie_switch.specs.Processors.{HasStep, HasTurned, IsMode, IsPlain, ProcessorValue, StandsFor, processor_of}
use Rattle.tie_switch.specs.Seen as seen
use Rattle.tie_switch.specs.Turns.{IsStill, IsTurn, Makes, goes_on, has_ended, is_out}
use Rattle.tie_switch.specs.declared.processor.Mode.{Mode as Kind}
use Rattle.tie_switch.specs.declared.processor.Mode.TheVariants as modes

-- ---- no turn leads to a processor that is spent
abbrev Unspent : Turn → Type 0
Unspent (Went q) = is_spent q.mode ≡ false
Unspent (Asks request on) = (before : ℕ) (success : Bool) → is_spent (on before success).mode ≡ false
Unspent Over = Unit {0}
Unspent Stuck = Unit {0}

at_boundary : (word : Option ℕ) (state : VaxState) (regs : Regs) → is_spent (mode_by word state regs) ≡ false
at_boundary None state regs = refl
at_boundary (Some word) state regs = refl

behind_last : (s : Setting) (p : Processor) (last : Last) → is_spent (left s p last).mode ≡ false
behind_last s p (Comes (Finish state)) = at_boundary (settings.goes_on s p.thread state) state (registers_of state)
behind_last s p (Comes (Exit state)) = refl
behind_last s p (Comes (Trap kind state)) = refl
behind_last s p (Fails exception) = refl

behind_place : (s : Setting) (p : Processor) (place : Place) → is_spent (placed s p place).mode ≡ false
behind_place s p (Inside alpha) = refl
behind_place s p (Lands state held regs) = at_boundary (settings.goes_on s p.thread state) state regs
behind_place s p (Leaves last) = behind_last s p (settled_last p.boundary last)

in_code : (s : Setting) (p : Processor) (next : Next) → Unspent (alpha_turn s p next)
in_code s p (Moves place) = behind_place s (stepped p) place
in_code s p (Wants request on) = λ before success. behind_place s (stepped p) (on before success)
in_code s p step.Stuck = tt

interpreted : (s : Setting) (p : Processor) (state : VaxState) (replies : List ℕ) (a : Answer) → Unspent (tie_turn s p state replies a)
interpreted s p state replies (trees.Wants reference) = λ before success. refl
interpreted s p state replies (trees.Fails exception) = behind_last s (tied p) (Fails exception)
interpreted s p state replies (trees.Comes e rest) = behind_last s (tied p) (Comes e)

in_mode : (s : Setting) (p : Processor) (mode : Mode) → Unspent (turn_in s p mode)
in_mode s p New = tt
in_mode s p (Runs alpha) = in_code s p (next s (moment_of p) alpha)
in_mode s p (Interprets state replies) = interpreted s p state replies (answer s.meaning.pages (s.meaning.moment p.thread state) replies)
in_mode s p (Ended end) = tt

unspent : (s : Setting) (p : Processor) → Unspent (turn s p)
unspent s p = in_mode s p (mode_of s p p.mode)

-- ---- a turn over a memory that is not full
not_at : (limit : Limit) (entries : List Entry) → CountsPuts limit → (bytes_put entries == greatest limit) ≡ false → IsAtLimit limit entries → ⊥
not_at (Entries n) entries counts left at = absurd counts
not_at (Puts n) entries counts left at = cc (left, eq-eqb (bytes_put entries) n at)

makes_unspent : (t : Turn) (u : SetUp) (p q : Processor) (old new : List Entry) → Unspent t → CountsPuts u.limit → (bytes_put old == greatest u.limit) ≡ false → is_spent p.mode ≡ false
    → Makes t u AreNone p q old new → is_spent q.mode ≡ false
makes_unspent (Went r) u p q old new none counts left before m = subst (λ (x : Processor). is_spent x.mode ≡ false) (sym m.processor) none
makes_unspent (Asks request on) u p q old new none counts left before (inl m) = subst (λ (x : Processor). is_spent x.mode ≡ false) (sym m.goes) (none m.before m.success)
makes_unspent (Asks request on) u p q old new none counts left before (inr r) =
    let o = r.over in
    let all : new ≡ old = o.seen ∙ ap (λ (b : List Entry). old ++ b) o.come ∙ append-nil old in
    absurd (not_at u.limit old counts left (subst (IsAtLimit u.limit) all o.full))
makes_unspent Over u p q old new none counts left before m = subst (λ (x : Processor). is_spent x.mode ≡ false) (sym m.processor) before
makes_unspent Stuck u p q old new none counts left before m = absurd m

turn_spends : (s : Setting) (u : SetUp) (budget : ℕ) (p q : Processor) (old new : List Entry) → CountsPuts u.limit → (bytes_put old == greatest u.limit) ≡ false → is_spent p.mode ≡ false
    → IsTurn s u AreNone budget p q old new → is_spent q.mode ≡ true → q.steps ≡ budget
turn_spends s u budget p q old new counts left before turned spends = by (is_out budget p) refl turned
  where
    by : (b : Bool) → is_out budget p ≡ b → MatchBool b (IsStill (spent p) q old new) (Makes (turn s p) u AreNone p q old new) → q.steps ≡ budget
    by true e m = ap (λ (x : Processor). x.steps) m.processor ∙ eqb-true p.steps budget (and_parts (goes_on p.mode) (p.steps == budget) e).1
    by false e m = absurd (cc (spends, makes_unspent (turn s p) u p q old new (unspent s p) counts left before m))

-- ---- of the processors for which one stands
spent_by : (pages : Pages) (thread : ℕ) (boundary : VaxState) (kind : Kind) (mode : Mode) → IsMode pages thread boundary kind mode → is_spent mode ≡ is_spent (seen.mode_of kind boundary)
spent_by pages thread boundary modes.New mode is = ap is_spent is
spent_by pages thread boundary (modes.Runs cpu) mode is = ap is_spent is
spent_by pages thread boundary (modes.Interprets interpreted reply) mode u = ap is_spent u.is
spent_by pages thread boundary (modes.Ended end) mode is = ap is_spent is

pub spent_is : (pages : Pages) (k : ProcessorValue) (p : Processor) → StandsFor pages k p → is_spent p.mode ≡ is_spent (processor_of k).mode
spent_is pages k p stands = spent_by pages k.thread k.boundary k.mode p.mode stands.mode

-- nor is one in Alpha code, or before its first turn
plain_by : (kind : Kind) (boundary : VaxState) → IsPlain kind → is_spent (seen.mode_of kind boundary) ≡ false
plain_by modes.New boundary plain = refl
plain_by (modes.Runs cpu) boundary plain = refl
plain_by (modes.Interprets interpreted reply) boundary plain = absurd plain
plain_by (modes.Ended end) boundary plain = absurd plain

pub plain_unspent : (k : ProcessorValue) → IsPlain k.mode → is_spent (processor_of k).mode ≡ false
plain_unspent k plain = plain_by k.mode k.boundary plain

-- a turn spends it only where it has no step left
pub turn_spent : (s : Setting) (u v : SetUp) (budget : ℕ) (k j : ProcessorValue) (old new : List Entry) → HasStep s u k → CountsPuts v.limit → (bytes_put old == greatest v.limit) ≡ false
    → is_spent (processor_of k).mode ≡ false → ((q : Processor) → StandsFor s.meaning.pages k q → HasTurned s v AreNone budget q j old new)
    → is_spent (processor_of j).mode ≡ true → j.steps ≡ budget
turn_spent s u v budget k j old new there counts left before turned spends =
    let p = there.processor in
    let next = turned p there.stands in
    let steps : next.processor.steps ≡ j.steps = ap (λ (x : Processor). x.steps) next.stands.same in
    sym steps ∙ turn_spends s v budget p next.processor old new counts left (spent_is s.meaning.pages k p there.stands ∙ before) next.turned
    (spent_is s.meaning.pages j next.processor next.stands ∙ spends)

-- one that goes on is not spent
pub going_unspent : (mode : Mode) → (has_ended mode ≡ true → ⊥) → is_spent mode ≡ false
going_unspent New going = refl
going_unspent (Runs alpha) going = refl
going_unspent (Interprets state replies) going = refl
going_unspent (Ended end) going = absurd (going refl)
