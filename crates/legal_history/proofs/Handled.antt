-- Blocks follow the instruction alone; its thread does it with the handler.
use Rattle.std.proofs.Common.{◌≡◌, ℕ, ◌<◌, ◌≤◌, ◌-◌, ◌+◌, Bool, true, false, if◌then◌else◌, List, [], Option, Some, None, refl, sym, ap, ◌∙◌, subst}
use Rattle.legal_history.specs.Kinds.{IsAlpha}
use Rattle.alpha_meaning.specs.Pieces.{Kinds}
use Rattle.block_law.specs.Rounds.{block_steps}
use Rattle.std.specs.Prelude.{MatchBool}
use Rattle.alpha_meaning.specs.State.{Alpha, Regs}
use Rattle.memory_core.specs.declared.entry.Entry.{Entry}
use Rattle.memory_core.specs.declared.entry.Kind.{Kind}
use Rattle.vax_form.specs.Pages.{first_bad}
use Rattle.vax_form.specs.Moments.{delivering, has_handler, handled_ending, handled_fault, handled}
use Rattle.vax_form.specs.Tree.{Tree, Check, Ask, Fault, Ends, Ending, Finish, Answer, answer, unless_bad}
use Rattle.vax_form.specs.Tree as trees
use Rattle.vax_form.specs.declared.pages.Pages.{Pages}
use Rattle.vax_form.specs.declared.state.Exception.{Exception}
use Rattle.vax_form.specs.declared.state.Exception.TheVariants.{AccessViolation}
use Rattle.vax_form.specs.declared.state.Flags.{Flags}
use Rattle.vax_form.specs.declared.state.Reference.{Reference}
use Rattle.vax_form.specs.declared.state.VaxState.{VaxState}
use Rattle.system_model.specs.Steps.{Last, Comes, Fails, Place, Inside, Lands, Leaves, Next, Moves, Wants, Stuck, settled_last}
use Rattle.system_model.specs.Counted.{is_counted}
use Rattle.system_model.specs.Processors.{entry_by}
use Rattle.system_model.specs.Quadwords.{reply_from}
use Rattle.legal_history.specs.Entries.{Lock, lock_by}
use Rattle.legal_history.proofs.Judged.{MadeBy, head_of, for_nothing}
use Rattle.legal_history.proofs.Owed.{answer_by, more_by, OwedPlace, OwedBehind, OwedNext}
use Rattle.legal_history.proofs.Paths.{Path, Here, Passes, Takes}

-- ---- answers
settled_answer : (before : VaxState) → Answer → Answer
settled_answer before (trees.Wants r) = trees.Wants r
settled_answer before (trees.Fails x) = if has_handler before then trees.Comes (Finish (delivering x before)) [] else trees.Fails x
settled_answer before (trees.Comes e left) = trees.Comes (handled_ending e) left

module _ (pages : Pages) (b : VaxState) where
  fault_answers : (handler : Bool) (x : Exception) → answer pages (if handler then Ends (Finish (delivering x b)) else Fault x) []
      ≡ (if handler then trees.Comes (Finish (delivering x b)) [] else trees.Fails x)
  fault_answers true x = refl
  fault_answers false x = refl

  check_answers : (bad : Option ℕ) (write : Bool) (t : Tree) (a : Answer) → answer pages t [] ≡ settled_answer b a
      → answer pages (unless_bad bad (handled_fault b) write t) [] ≡ settled_answer b (unless_bad bad trees.Fails write a)
  unfolding settled_answer
  check_answers None write t a same = same
  check_answers (Some address) write t a same = fault_answers (has_handler b) (AccessViolation address write)

  handled_answers : (t : Tree) → answer pages (handled pages b t) [] ≡ settled_answer b (answer pages t [])
  unfolding settled_answer
  handled_answers (Check address count write t) = check_answers (first_bad pages write address count) write (handled pages b t) (answer pages t []) (handled_answers t)
  handled_answers (Ask r on) = refl
  handled_answers (Fault x) = fault_answers (has_handler b) x
  handled_answers (Ends e) = refl

  last_fails : (handler : Bool) (x : Exception) → (if handler then trees.Comes (Finish (delivering x b)) [] else trees.Fails x)
      ≡ answer_by (if handler then Comes (Finish (delivering x b)) else Fails x)
  last_fails true x = refl
  last_fails false x = refl

  last_settled : (last : Last) → settled_answer b (answer_by last) ≡ answer_by (settled_last b last)
  unfolding settled_answer
  last_settled (Comes e) = refl
  last_settled (Fails x) = last_fails (has_handler b) x

  -- ---- paths
  on_path : (t u : Tree) (v : List ℕ) → Path pages t v u → Path pages (handled pages b t) v (handled pages b u)
  on_path t u v Here = Here
  on_path t u v (Passes {address = a} {count = c} {write = w} {t = t'} {v = v'} ok p) =
      subst (λ o. Path pages (unless_bad o (handled_fault b) w (handled pages b t')) v' (handled pages b u)) (sym ok) (on_path t' u v' p)
  on_path t u v (Takes {on = on} {reply = reply} {v = v'} p) = Takes (on_path (on reply) u v' p)

  on_made : (t : Tree) (e : Entry) (Goes Goes' : Tree → Type 0) → ((u : Tree) → Goes u → Goes' (handled pages b u)) → MadeBy t e Goes → MadeBy (handled pages b t) e Goes'
  on_made (Ask r on) e Goes Goes' lift made = λ fits. let m = made fits in (m.0, lift (on (reply_from r e)) m.1)
  on_made (Check _ _ _ _) e Goes Goes' lift made = absurd made
  on_made (Fault _) e Goes Goes' lift made = absurd made
  on_made (Ends _) e Goes Goes' lift made = absurd made

  module _ (Owes : Option Lock → (spare : ℕ) → Alpha → Tree → Type 0) (Form : VaxState → (held : Flags) → Regs → Type 0) where
    -- what is owed of the instruction alone
    pub record Handled (lock : Option Lock) (spare : ℕ) (alpha : Alpha) (t : Tree) : Type 0 where
      pub alone : Tree
      pub is : t ≡ handled pages b alone
      pub owes : Owes lock spare alpha alone

    on_place : (lock : Option Lock) (spare : ℕ) (t : Tree) (place : Place) → OwedPlace pages Owes Form (λ l. l) lock spare t place
        → OwedPlace pages Handled Form (settled_last b) lock spare (handled pages b t) place
    on_place lock spare t (Inside alpha) o = record { alone = t; is = refl; owes = o }
    on_place lock spare t (Lands state held regs) o = (o.0, ap (handled pages b) o.1, o.2)
    on_place lock spare t (Leaves last) o = (o.0, handled_answers t ∙ ap (settled_answer b) o.1 ∙ last_settled last)

    either : (counted : Bool) (A B A' B' : Type 0) → (A → A') → (B → B') → MatchBool counted A B → MatchBool counted A' B'
    either true A B A' B' f g x = f x
    either false A B A' B' f g x = g x

    on_behind : (spare : ℕ) (t : Tree) (e : Entry) (place : Place) → OwedBehind pages Owes Form (λ l. l) spare t e place
        → OwedBehind pages Handled Form (settled_last b) spare (handled pages b t) e place
    on_behind spare t e place = either (is_counted e)
        ((more : ℕ) × (more ≤ block_steps) × MadeBy t e (λ u. OwedPlace pages Owes Form (λ l. l) (lock_by e.kind e.quad e.before) (spare + more) u place))
        (OwedPlace pages Owes Form (λ l. l) (lock_by e.kind e.quad e.before) (more_by e.kind e.success spare) t place)
        ((more : ℕ) × (more ≤ block_steps) × MadeBy (handled pages b t) e (λ u. OwedPlace pages Handled Form (settled_last b) (lock_by e.kind e.quad e.before) (spare + more) u place))
        (OwedPlace pages Handled Form (settled_last b) (lock_by e.kind e.quad e.before) (more_by e.kind e.success spare) (handled pages b t) place)
        (λ m. (
          m.0,
          m.1,
          on_made t e (λ u. OwedPlace pages Owes Form (λ l. l) (lock_by e.kind e.quad e.before) (spare + m.0) u place)
              (λ u. OwedPlace pages Handled Form (settled_last b) (lock_by e.kind e.quad e.before) (spare + m.0) u place)
              (λ u. on_place (lock_by e.kind e.quad e.before) (spare + m.0) u place) m.2,
        ))
        (on_place (lock_by e.kind e.quad e.before) (more_by e.kind e.success spare) t place)

    -- a handler changes no reference
    on_alpha : (kind : Kind) (each : Reference → Kinds) (t : Tree) → IsAlpha kind each (head_of t) → IsAlpha kind each (head_of (handled pages b t))
    on_alpha kind each (Ask r on) i = i
    on_alpha kind each (Check address count write t) i = for_nothing kind each (head_of (handled pages b (Check address count write t))) i
    on_alpha kind each (Fault x) i = for_nothing kind each (head_of (handled pages b (Fault x))) i
    on_alpha kind each (Ends e) i = for_nothing kind each (head_of (handled pages b (Ends e))) i

    on_next : (each : Reference → Kinds) (retired : ℕ) (lock : Option Lock) (spare : ℕ) (t : Tree) (to : Next) → OwedNext pages Owes Form (λ l. l) each retired lock spare t to
        → OwedNext pages Handled Form (settled_last b) each retired lock spare (handled pages b t) to
    on_next each retired lock spare t (Moves place) o = (handled pages b o.0, on_path t o.0 [] o.1, on_place lock spare o.0 place o.2)
    on_next each retired lock spare t (Wants request on) o = record {
      same = o.same;
      paired = o.paired;
      alpha = on_alpha request.kind each t o.alpha;
      behind = λ before success fair. on_behind spare t (entry_by request before success) (on before success) (o.behind before success fair);
    }
    on_next each retired lock spare t Stuck o = absurd o

    pub opens_handled : (each : Reference → Kinds) (retired : ℕ) (lock : Option Lock) (spare : ℕ) (alpha : Alpha) (t : Tree) (to : Next)
        → ((k : Tree) → Owes lock spare alpha k → (0 < spare) × OwedNext pages Owes Form (λ l. l) each retired lock (spare - 1) k to)
        → Handled lock spare alpha t → (0 < spare) × OwedNext pages Handled Form (settled_last b) each retired lock (spare - 1) t to
    opens_handled each retired lock spare alpha t to opens h =
        let o = opens h.alone h.owes in
        (o.0, subst (λ x. OwedNext pages Handled Form (settled_last b) each retired lock (spare - 1) x to) (sym h.is) (on_next each retired lock (spare - 1) h.alone to o.1))
