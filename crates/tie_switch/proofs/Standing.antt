-- For which processors of the model a processor stands, step by step.
use Rattle.std.proofs.Common.{◌≡◌, ◌≢◌, ℕ, ◌+◌, ◌==◌, ◌&&◌, List, [], ◌∷◌, ◌++◌, true, Option, Some, None, ap, ◌∙◌, subst, refl, add-one}
use Rattle.std.proofs.lemmas.List.{append-nil}
use Rattle.alpha_meaning.specs.State.{Alpha}
use Rattle.memory_core.specs.Requests.{CanMake}
use Rattle.memory_core.specs.declared.entry.SetUp.{SetUp}
use Rattle.system_model.specs.Processors.{Mode, Runs, Interprets, Processor, Went, Stuck, alpha_turn, left, mode_of, moment_of, request_of, stepped, tie_turn, tied, turn, turn_in}
use Rattle.system_model.specs.Quadwords.{reply_found}
use Rattle.system_model.specs.Settings.{Setting}
use Rattle.system_model.specs.Steps.{next}
use Rattle.system_model.specs.Steps as step
use Rattle.vax_form.specs.Tree.{Answer, Wants, Fails, Comes, Finish, Exit, Trap, answer}
use Rattle.vax_form.specs.declared.pages.Pages.{Pages}
use Rattle.vax_form.specs.declared.state.Reference.{Reference}
use Rattle.vax_form.specs.declared.state.VaxState.{VaxState}
use Rattle.tie_switch.specs.Interpreted.{step_of}
use Rattle.tie_switch.specs.Processors.{ProcessorValue, CanStep, IsGiven, IsMode, IsPlain, StandsFor, end_of, in_mode, processor_of}
use Rattle.tie_switch.specs.Seen as seen
use Rattle.tie_switch.specs.Seen.{last_of}
use Rattle.tie_switch.specs.Turns.{goes_on, is_out}
use Rattle.tie_switch.specs.declared.interpreted.Interpreted.{Interpreted}
use Rattle.tie_switch.specs.declared.interpreted.Step.TheVariants as steps
use Rattle.tie_switch.specs.declared.place.Last.{Last}
use Rattle.tie_switch.specs.declared.processor.Mode.{Mode as Kind}
use Rattle.tie_switch.specs.declared.processor.Mode.TheVariants as modes

-- ---- one step more
pub one_step : (k : ProcessorValue) (mode : Mode) → in_mode (record k { steps = k.steps + 1 }) mode ≡ stepped (in_mode k mode)
one_step k mode = ap (λ (n : ℕ). record (in_mode k mode) { steps = n }) (add-one k.steps)

-- ---- replies
same_state : (s t : VaxState) (v w : List ℕ) → Interprets s v ≡ Interprets t w → s ≡ t
same_state s t v w e = cc e

same_replies : (s t : VaxState) (v w : List ℕ) → Interprets s v ≡ Interprets t w → v ≡ w
same_replies s t v w e = cc e

-- the reply comes behind those that the instruction was given
answered_by : (pages : Pages) (thread : ℕ) (boundary : VaxState) (interpreted : Interpreted) (last : Option ℕ) (reply : ℕ) (state : VaxState) (replies : List ℕ)
    → IsGiven (modes.Interprets interpreted last) → IsMode pages thread boundary (modes.Interprets interpreted last) (Interprets state replies)
    → IsMode pages thread boundary (modes.Interprets interpreted (Some reply)) (Interprets state (replies ++ reply ∷ []))
answered_by pages thread boundary interpreted None reply state replies given u = record {
  replies = u.replies;
  stands = u.stands;
  is =
      ap (λ s. Interprets s (replies ++ reply ∷ [])) (same_state state boundary replies (u.replies ++ []) u.is)
      ∙ ap (λ v. Interprets boundary (v ++ reply ∷ [])) (same_replies state boundary replies (u.replies ++ []) u.is ∙ append-nil u.replies);
}
answered_by pages thread boundary interpreted (Some other) reply state replies given u = absurd given

pub answered : (pages : Pages) (thread : ℕ) (boundary : VaxState) (mode : Kind) (interpreted : Interpreted) (last : Option ℕ) (reply : ℕ) (state : VaxState) (replies : List ℕ)
    → mode ≡ modes.Interprets interpreted last → IsGiven mode → IsMode pages thread boundary mode (Interprets state replies)
    → IsMode pages thread boundary (modes.Interprets interpreted (Some reply)) (Interprets state (replies ++ reply ∷ []))
answered pages thread boundary mode interpreted last reply state replies is given h =
    answered_by pages thread boundary interpreted last reply state replies (subst IsGiven is given)
    (subst (λ (m : Kind). IsMode pages thread boundary m (Interprets state replies)) is h)

-- ---- what an interpreted instruction comes to
pub wants_is : (a : Answer) (r : Reference) → step_of a ≡ steps.Wants r → a ≡ Wants r
wants_is (Wants other) r e = ap Wants (same other r e)
  where
    same : (x y : Reference) → steps.Wants x ≡ steps.Wants y → x ≡ y
    same x y e = cc e
wants_is (Fails exception) r e = absurd (cc e)
wants_is (Comes (Finish state) left) r e = absurd (cc e)
wants_is (Comes (Exit state) left) r e = absurd (cc e)
wants_is (Comes (Trap kind state) left) r e = absurd (cc e)

same_last : (x y : Last) → steps.Leaves x ≡ steps.Leaves y → x ≡ y
same_last x y e = cc e

pub leaves_is : (setting : Setting) (p : Processor) (state : VaxState) (replies : List ℕ) (a : Answer) (l : Last) → step_of a ≡ steps.Leaves l
    → tie_turn setting p state replies a ≡ Went (left setting (tied p) (last_of l))
leaves_is setting p state replies (Wants reference) l e = absurd (cc e)
leaves_is setting p state replies (Fails exception) l e = ap (λ (x : Last). Went (left setting (tied p) (last_of x))) (same_last _ l e)
leaves_is setting p state replies (Comes (Finish s) rest) l e = ap (λ (x : Last). Went (left setting (tied p) (last_of x))) (same_last _ l e)
leaves_is setting p state replies (Comes (Exit s) rest) l e = ap (λ (x : Last). Went (left setting (tied p) (last_of x))) (same_last _ l e)
leaves_is setting p state replies (Comes (Trap kind s) rest) l e = ap (λ (x : Last). Went (left setting (tied p) (last_of x))) (same_last _ l e)

-- ---- its step
-- in Alpha code
pub runs_turn : (setting : Setting) (k : ProcessorValue) (mode : Mode) (a : Alpha) → mode_of setting (in_mode k mode) mode ≡ Runs a
    → turn setting (in_mode k mode) ≡ alpha_turn setting (in_mode k mode) (next setting (moment_of (in_mode k mode)) a)
runs_turn setting k mode a e = ap (turn_in setting (in_mode k mode)) e

-- a processor that has a step is not stuck there
pub not_stuck : (setting : Setting) (set_up : SetUp) (k : ProcessorValue) (p : Processor) (a : Alpha) → p ≡ in_mode k p.mode → CanStep setting set_up p
    → mode_of setting (in_mode k p.mode) p.mode ≡ Runs a → next setting (moment_of (in_mode k p.mode)) a ≢ step.Stuck
not_stuck setting set_up k p a same can e stuck =
    let lost : turn setting (in_mode k p.mode) ≡ Stuck = runs_turn setting k p.mode a e ∙ ap (alpha_turn setting (in_mode k p.mode)) stuck in
    can.goes_on (ap (turn setting) same ∙ lost)

-- what an interpreted instruction wants, memory can make
pub can_ask : (setting : Setting) (set_up : SetUp) (k : ProcessorValue) (p : Processor) (state : VaxState) (replies : List ℕ) → p ≡ in_mode k p.mode → CanStep setting set_up p
    → mode_of setting (in_mode k p.mode) p.mode ≡ Interprets state replies
    → (reference : Reference) → answer setting.meaning.pages (setting.meaning.moment k.thread state) replies ≡ Wants reference
    → CanMake set_up (request_of k.thread k.retired reference)
can_ask setting set_up k p state replies same can e reference wants =
    let q = in_mode k p.mode in
    can.asks (request_of k.thread k.retired reference) (λ before success. record (tied q) { mode = Interprets state (replies ++ reply_found reference before ∷ []) })
    (ap (turn setting) same ∙ ap (turn_in setting q) e ∙ ap (tie_turn setting q state replies) wants)

-- ---- its budget
going : (pages : Pages) (thread : ℕ) (boundary : VaxState) (kind : Kind) (mode : Mode) → IsMode pages thread boundary kind mode → end_of (seen.mode_of kind boundary) ≡ None → goes_on mode ≡ true
going pages thread boundary modes.New mode is none = ap goes_on is
going pages thread boundary (modes.Runs cpu) mode is none = ap goes_on is
going pages thread boundary (modes.Interprets interpreted reply) mode u none = ap goes_on u.is
going pages thread boundary (modes.Ended end) mode is none = absurd (cc none)

-- a processor that goes on is out where its steps equal its budget
pub out_is : (pages : Pages) (k : ProcessorValue) (p : Processor) (budget : ℕ) → StandsFor pages k p → end_of (processor_of k).mode ≡ None → is_out budget p ≡ (k.steps == budget)
out_is pages k p budget stands none =
    ap (λ b. b && (p.steps == budget)) (going pages k.thread k.boundary k.mode p.mode stands.mode none)
    ∙ ap (λ (x : Processor). x.steps == budget) stands.same

-- ---- in Alpha code it stands for just one
plain_mode : (pages : Pages) (thread : ℕ) (boundary : VaxState) (kind : Kind) (mode : Mode) → IsPlain kind → IsMode pages thread boundary kind mode → mode ≡ seen.mode_of kind boundary
plain_mode pages thread boundary modes.New mode plain is = is
plain_mode pages thread boundary (modes.Runs cpu) mode plain is = is
plain_mode pages thread boundary (modes.Interprets interpreted reply) mode plain is = absurd plain
plain_mode pages thread boundary (modes.Ended end) mode plain is = absurd plain

pub plain_is : (pages : Pages) (k : ProcessorValue) (p : Processor) → IsPlain k.mode → StandsFor pages k p → p ≡ processor_of k
plain_is pages k p plain stands = stands.same ∙ ap (in_mode k) (plain_mode pages k.thread k.boundary k.mode p.mode plain stands.mode)

is_plain : (pages : Pages) (thread : ℕ) (boundary : VaxState) (kind : Kind) → IsPlain kind → IsMode pages thread boundary kind (seen.mode_of kind boundary)
is_plain pages thread boundary modes.New plain = refl
is_plain pages thread boundary (modes.Runs cpu) plain = refl
is_plain pages thread boundary (modes.Interprets interpreted reply) plain = absurd plain
is_plain pages thread boundary (modes.Ended end) plain = absurd plain

pub plain_stands : (pages : Pages) (k : ProcessorValue) → IsPlain k.mode → StandsFor pages k (processor_of k)
plain_stands pages k plain = record { same = refl; mode = is_plain pages k.thread k.boundary k.mode plain }
