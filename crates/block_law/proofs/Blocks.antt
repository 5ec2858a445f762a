-- Laws of the judgement on blocks.
use Rattle.std.proofs.Common.{◌≡◌, ℕ, zero, suc, ◌+◌, ◌-◌, ◌*◌, ◌/◌, ◌%◌, ◌^◌, ◌<◌, ◌≤◌, refl, sym, ap, ◌∙◌, subst, add-zero, arith, Bool, true, false, Option, Some, None}
use Rattle.std.proofs.lemmas.Nat.{mod_below, pow_pos}
use Rattle.std.specs.Prelude.{option_map}
use Rattle.vax_form.specs.State.{AnswersKind, Answers, with_register}
use Rattle.vax_form.specs.Tree.{Tree, Check, Ask, Fault, Ends, Ending, Finish, Trap, Same}
use Rattle.vax_form.specs.declared.state.Reference.{Reference}
use Rattle.vax_form.specs.declared.state.RefKind.{RefKind}
use Rattle.vax_form.specs.declared.state.RefKind.TheVariants.{Read, Write, Add, SetBit, ClearBit, Put, Get}
use Rattle.alpha_meaning.specs.declared.access.AlphaKind.{AlphaKind}
use Rattle.alpha_meaning.specs.State.{Alpha, Regs, at_place}
use Rattle.alpha_meaning.specs.Pieces.{Kinds, Terms, Steps, Plan, Access, Over, Wants, Wanted, Nothing, wants as plan_wants, retry_steps, Phase, Plain, Held, Failed, Forth, phase_after, Runs, piece}
use Rattle.alpha_meaning.proofs.Laws.{steps_map, Covers, onto, steps_refine, steps_open}
use Rattle.exception_records.specs.declared.points.Point.{Point}
use Rattle.block_law.specs.References.{reply_by, is_of_memory, wanted_by, wants}
use Rattle.block_law.specs.Placements.{Placement, allowed_in, state_shown, target}
use Rattle.block_law.specs.Rounds.{new_round, Round, stepped, with_reference, with_next, round_behind, MayGo, round_after}
use Rattle.block_law.specs.Laws.{Ever, OneStepOpens, FewerStepsFollow, SameTreeFollows}
use Rattle.block_law.specs.Follows.{Call, Probe, LookUp, Serve, Raise, Arithmetic, Switch, call_of, Called, Landed, Lands, Onward, Clause, Follows}
use Rattle.block_law.proofs.Rounds.{Fits, fits_spare, fits_less, fits_step, fits_forth, may_forth, fits_counted, fits_failed}

pub no_steps : (p : Placement) (phase : Phase) (spare : ℕ) (round : Round) (c : Alpha) (t : Tree) → Follows p 0 phase spare round c t
unfolding Follows
no_steps p phase spare round c t = tt

pub begin : (p : Placement) (n : ℕ) (phase : Phase) (spare : ℕ) (round : Round) (c : Alpha) (t : Tree) → Clause p (Follows p n) phase spare round c t → Follows p (suc n) phase spare round c t
unfolding Follows
begin p n phase spare round c t h = h

pub clause_of : (p : Placement) (n : ℕ) (phase : Phase) (spare : ℕ) (round : Round) (c : Alpha) (t : Tree) → Follows p (suc n) phase spare round c t → Clause p (Follows p n) phase spare round c t
unfolding Follows
clause_of p n phase spare round c t h = h

-- ---- a tree that begins with a plan
-- a tree that is still to be followed, and the references that were made in its round, where that matters
abbrev pub Todo : Type 0
Todo = Tree × Option Round

-- with the tree's next reference made
abbrev with_made : Todo → Option Round
with_made x = option_map (with_next x.0) x.1

-- the wanted access is the plan's, and so on behind it
abbrev pub WantsFrom : (ℕ → Tree → Type 0) → Kinds → (quad : ℕ) → (leaves : ℕ → ℕ) → Wants Tree → Type 0
WantsFrom Rest kinds quad leaves (Wanted quad' leaves' kinds' rest') =
    (quad' ≡ quad)
    × ((kind : AlphaKind) (bytes : ℕ) → kinds kind bytes ≡ true → kinds' kind bytes ≡ true)
    × ((before : ℕ) → before < 2 ^ 64 → (leaves before ≡ leaves' before) × Rest before (rest' before))
WantsFrom Rest kinds quad leaves Nothing = ⊥

-- The tree makes the plan's accesses, for which these kinds may be made, and goes on by k; then these references were
-- made.
abbrev pub Begins : {A : Type 0} → Kinds → (Reference → Kinds) → (A → Tree) → (made : Option Round) → Plan A → Tree → Option Round → Type 0
Begins kinds each k made (Access quad leaves rest) u o =
    WantsFrom (λ before v. Begins kinds each k made (rest before) v (option_map (with_next u) o)) kinds quad leaves (wants each u)
Begins kinds each k made (Over a) u o = (u ≡ k a) × (o ≡ made)

-- what a tree wants, with the references that are made then
abbrev with_rounds : Wants Tree → Option Round → Wants Todo
with_rounds (Wanted quad leaves kinds rest) o = Wanted quad leaves kinds (λ before. (rest before, o))
with_rounds Nothing o = Nothing

abbrev head : (Reference → Kinds) → Todo → Wants Todo
head each x = with_rounds (wants each x.0) (with_made x)

covers : {A : Type 0} (kinds : Kinds) (each : Reference → Kinds) (k : A → Tree) (made : Option Round) (t : Plan A) (x : Todo) → Begins kinds each k made t x.0 x.1
    → Covers (λ (t : Plan A) (x : Todo). Begins kinds each k made t x.0 x.1) (plan_wants kinds t) (head each x)
covers {A} kinds each k made (Access quad leaves rest) x h = from (wants each x.0) h
  where
    from : (w : Wants Tree) → WantsFrom (λ before v. Begins kinds each k made (rest before) v (with_made x)) kinds quad leaves w
        → Covers (λ (t : Plan A) (x : Todo). Begins kinds each k made t x.0 x.1) (Wanted quad leaves kinds rest) (with_rounds w (with_made x))
    from (Wanted quad' leaves' kinds' rest') h = h
    from Nothing h = h
covers kinds each k made (Over a) x h = tt

-- what accesses of a piece are asked in a block
abbrev pub piece_terms : Placement → Kinds → Terms
piece_terms p kinds = record { allowed = allowed_in p.pages; kinds = kinds; bonus = 0 }

-- what is owed behind a piece's step
abbrev Ahead : Placement → (n : ℕ) → Phase → (left : ℕ) → Alpha → Todo → Type 0
Ahead p n phase left c x = (spare : ℕ) (round : Round) → Fits p.bonus x.1 left spare round → Follows p n phase spare round c x.0

-- one step of a piece is a step of the block
module _ (p : Placement) (from to n : ℕ) (low : p.first ≤ from) (high : to ≤ p.end) (inside : (pc : ℕ) → from < pc → pc ≤ to → p.stops pc ≡ None) where
  into_step : (phase : Phase) (left spare : ℕ) (round : Round) (c : Alpha) (x : Todo) → from ≤ c.pc → c.pc < to → 0 < left → Fits p.bonus x.1 left spare round
      → Steps (p.fetch c.pc) (allowed_in p.pages) 0 phase (left - 1) c (head p.kinds x) x (λ d. Forth phase from c.pc d.pc × (d.pc ≤ to) × Ahead p n (phase_after phase c.pc d.pc) (left - 1) d x) (λ _. ⊥) (Ahead p n)
      → Follows p (suc n) phase spare round c x.0
  into_step phase left spare round c x in_from in_to some fits steps =
      let roomy = fits_spare p.bonus x.1 left spare round fits in
      begin p n phase spare round c x.0 (
        omega arith,
        omega arith,
        omega arith,
        steps_map (λ (y : Todo) (v : Tree). y ≡ (v, with_made x)) (λ phase left d y. (p.stops d.pc ≡ None) × Ahead p n phase left d y) (λ phase' spare' d v. Onward p (Follows p n) phase' spare' (round_behind phase' x.0 round) d v)
            0 p.bonus (left - 1) (spare - 1) x x.0
            (λ d y v is h. (h.0, subst (λ (y : Todo). Ahead p n Plain (left - 1) d y → Follows p n Plain (spare - 1 + p.bonus) (round_behind Plain x.0 round) d v) (sym is) (λ (f : Ahead p n Plain (left - 1) d (v, with_made x)). f (spare - 1 + p.bonus) (round_behind Plain x.0 round) (fits_counted p.bonus x.1 left spare x.0 round some fits)) (rw add-zero at h.1)))
            (λ q found place d h. (h.0, h.1 (spare - 1) (stepped round) (fits_step p.bonus x.1 left spare round some fits)))
            (λ place d h. (h.0, h.1 (spare - 1 + retry_steps) (round_behind (Failed place) x.0 round) (fits_failed p.bonus x.1 left spare place x.0 round some fits)))
            (allowed_in p.pages) phase c (head p.kinds x) (wants p.kinds x.0) (back (wants p.kinds x.0)) _ _ _ _
            (λ d w.
            let way = may_forth p.bonus phase round from p.first c.pc d.pc low in_from w.0 in
            subst (λ o. Lands o (p.points d.pc) phase x.0 p d.regs (MayGo p.bonus p.first phase round c.pc d.pc × Follows p n (phase_after phase c.pc d.pc) (spare - 1) (round_after phase round c.pc d.pc) d x.0)) (sym (inside d.pc way.0 w.1))
            (way.1, w.2 (spare - 1) (round_after phase round c.pc d.pc) (fits_forth p.bonus x.1 left spare phase from c.pc d.pc round some w.0 fits)))
            (λ _ e. absurd e)
            (p.fetch c.pc)
            (steps_refine (allowed_in p.pages) 0 phase (left - 1) c x _ _ (λ _. ⊥) (λ _. ⊥) (Ahead p n) (λ phase left d y. (p.stops d.pc ≡ None) × Ahead p n phase left d y)
            (λ d w. w) (λ _ e. e) (λ phase left d y at h. (inside d.pc (omega arith) (omega arith), h)) (head p.kinds x) (p.fetch c.pc) steps),
      )
    where
      back : (w : Wants Tree) → Covers (λ (y : Todo) (v : Tree). y ≡ (v, with_made x)) (with_rounds w (with_made x)) w
      back (Wanted quad leaves kinds rest) = (refl, λ kind bytes may. may, λ before lt. (refl, refl))
      back Nothing = tt

-- A piece that runs its plan, and then words that follow the rest, follow the whole. In a loop so many steps of the
-- round are left.
pub into : {A : Type 0} (p : Placement) (from to more : ℕ) (Final : A → Regs → Type 0) (kinds : Kinds) (k : A → Tree) (made : Option Round) → p.first ≤ from → to ≤ p.end → ((pc : ℕ) → from < pc → pc ≤ to → p.stops pc ≡ None)
    → (n : ℕ) → ((m spare : ℕ) (round : Round) (a : A) (regs : Regs) → m ≤ n → Fits p.bonus made more spare round → Final a regs → Follows p m Plain spare round (at_place regs to) (k a))
    → (phase : Phase) (left spare : ℕ) (round : Round) (c : Alpha) (t : Plan A) (u : Tree) (o : Option Round) → Fits p.bonus o (left + more) spare round → Begins kinds p.kinds k made t u o
    → Runs (piece p.fetch (piece_terms p kinds) from to) Final n phase left c t → Follows p n phase spare round c u
into {A} p from to more Final kinds k made low high inside n rest phase left spare round c t u o fits begins h =
    onto (piece p.fetch (piece_terms p kinds) from to) Final (λ (t : Plan A) (x : Todo). Begins kinds p.kinds k made t x.0 x.1) (head p.kinds) (Ahead p) 0 more (omega arith) (covers kinds p.kinds k made)
    (λ phase left c x spare round fits. no_steps p phase spare round c x.0)
    (λ n phase left c x in_from in_to some steps spare round fits. into_step p from to n low high inside phase left spare round c x in_from in_to some fits steps)
    n n n (omega arith) (omega arith)
    (λ m left' a regs x le room e begun spare round fits.
    subst (Follows p m Plain spare round (at_place regs to)) (sym begun.0)
    (rest m spare round a regs le (fits_less p.bonus made left' more spare round room (subst (λ o. Fits p.bonus o left' spare round) begun.1 fits)) e))
    phase left (left + more) c t (u, o) (omega arith) begins h spare round fits

-- ---- one step taken out of what holds for every number of steps
called_open : (call : Call) (point : Option Point) (phase : Phase) (t : Tree) (p : Placement) (c : Alpha) (Next : ℕ → Alpha → Tree → Type 0) → ((n : ℕ) → Called call point phase t p c (Next n)) → Called call point phase t p c (λ d u. (n : ℕ) → Next n d u)
called_open Probe (Some point) Plain (Check address count write t) p c Next h = ((h 0).0, (h 0).1, (h 0).2, λ ok n. (h n).3 ok)
called_open Raise (Some point) Plain (Fault exception) p c Next h = h 0
called_open Arithmetic (Some point) Plain (Ends (Trap kind s)) p c Next h = h 0
called_open LookUp point Plain (Ends (Finish s)) p c Next h = h 0
called_open Switch point Plain (Ends (Finish s)) p c Next h = h 0
called_open Serve (Some point) Plain t p c Next h = ((h 0).0, (h 0).1, λ value lt n. (h n).2 value lt)
called_open call point phase t p c Next h = absurd (h 0)

called_refine : (call : Call) (point : Option Point) (phase : Phase) (t : Tree) (p : Placement) (c : Alpha) (Next Next' : Alpha → Tree → Type 0) → ((d : Alpha) (u : Tree) → Next d u → Next' d u) → Called call point phase t p c Next → Called call point phase t p c Next'
called_refine Probe (Some point) Plain (Check address count write t) p c Next Next' f h = (h.0, h.1, h.2, λ ok. f _ t (h.3 ok))
called_refine Raise (Some point) Plain (Fault exception) p c Next Next' f h = h
called_refine Arithmetic (Some point) Plain (Ends (Trap kind s)) p c Next Next' f h = h
called_refine LookUp point Plain (Ends (Finish s)) p c Next Next' f h = h
called_refine Switch point Plain (Ends (Finish s)) p c Next Next' f h = h
called_refine Serve (Some point) Plain t p c Next Next' f h = (h.0, h.1, λ value lt. f _ _ (h.2 value lt))
called_refine call point phase t p c Next Next' f h = absurd h

lands_open : (o : Option ℕ) (point : Option Point) (phase : Phase) (t : Tree) (p : Placement) (regs : Regs) (Way : Type 0) (Next : ℕ → Type 0) → ((n : ℕ) → Lands o point phase t p regs (Way × Next n)) → Lands o point phase t p regs (Way × ((n : ℕ) → Next n))
lands_open (Some address) point phase t p regs Way Next h = h 0
lands_open None point phase t p regs Way Next h = ((h 0).0, λ n. (h n).1)

onward_open : (p : Placement) (phase : Phase) (spare : ℕ) (round : Round) (d : Alpha) (u : Tree) → ((n : ℕ) → Onward p (Follows p n) phase spare round d u) → Onward p (Ever p) phase spare round d u
onward_open p phase spare round d u h = ((h 0).0, λ n. (h n).1)

pub open_follows : OneStepOpens
open_follows p phase spare round c t h =
    let one = clause_of p 0 phase spare round c t (h 1) in (
      one.0,
      one.1,
      one.2,
      steps_refine (allowed_in p.pages) p.bonus phase (spare - 1) c t _ _ _ _ (λ phase' spare' d u. (n : ℕ) → Onward p (Follows p n) phase' spare' (round_behind phase' t round) d u) (λ phase' spare' d u. Onward p (Ever p) phase' spare' (round_behind phase' t round) d u)
          (λ d x. lands_open (p.stops d.pc) (p.points d.pc) phase t p d.regs (MayGo p.bonus p.first phase round c.pc d.pc) (λ n. Follows p n (phase_after phase c.pc d.pc) (spare - 1) (round_after phase round c.pc d.pc) d t) x)
          (λ k x.
          called_refine (call_of k) (p.points c.pc) phase t p c (λ d u. (n : ℕ) → Onward p (Follows p n) Plain (spare - 1) new_round d u) (λ d u. Onward p (Ever p) Plain (spare - 1) new_round d u) (λ d u y. onward_open p Plain (spare - 1) new_round d u y)
          (called_open (call_of k) (p.points c.pc) phase t p c (λ n d u. Onward p (Follows p n) Plain (spare - 1) new_round d u) x))
          (λ phase' spare' d u at x. onward_open p phase' spare' (round_behind phase' t round) d u x)
          (wants p.kinds t) (p.fetch c.pc)
          (steps_open (λ n phase' spare' d u. Onward p (Follows p n) phase' spare' (round_behind phase' t round) d u) (allowed_in p.pages) p.bonus phase (spare - 1) c (wants p.kinds t) t
          (λ n d. Lands (p.stops d.pc) (p.points d.pc) phase t p d.regs (MayGo p.bonus p.first phase round c.pc d.pc × Follows p n (phase_after phase c.pc d.pc) (spare - 1) (round_after phase round c.pc d.pc) d t))
          (λ n k. Called (call_of k) (p.points c.pc) phase t p c (λ d u. Onward p (Follows p n) Plain (spare - 1) new_round d u))
          (p.fetch c.pc) (λ n. (clause_of p n phase spare round c t (h (suc n))).3)),
    )

-- ---- a tree may be replaced by one with the same checks, references and ends
pub same_refl : (t : Tree) → Same t t
same_refl (Check address count write t) = (refl, refl, refl, same_refl t)
same_refl (Ask r on) = (refl, λ reply ok. same_refl (on reply))
same_refl (Fault exception) = refl
same_refl (Ends e) = refl

pub same_trans : (s t u : Tree) → Same s t → Same t u → Same s u
same_trans (Check _ _ _ s) (Check _ _ _ t) (Check _ _ _ u) h k = (h.0 ∙ k.0, h.1 ∙ k.1, h.2 ∙ k.2, same_trans s t u h.3 k.3)
same_trans (Ask r f) (Ask r' f') (Ask r'' f'') h k = (h.0 ∙ k.0, λ reply ok. same_trans (f reply) (f' reply) (f'' reply) (h.1 reply ok) (k.1 reply (subst (λ (x : Reference). Answers x reply) h.0 ok)))
same_trans (Fault x) (Fault y) (Fault z) h k = h ∙ k
same_trans (Ends d) (Ends e) (Ends f) h k = h ∙ k
same_trans (Check _ _ _ s) (Check _ _ _ t) u h k = absurd k
same_trans (Ask r f) (Ask r' f') u h k = absurd k
same_trans (Fault x) (Fault y) u h k = absurd k
same_trans (Ends d) (Ends e) u h k = absurd k
same_trans s t u h k = absurd h

-- what a reference to memory gives can be replied to it
pub reply_answers : (kind : RefKind) (at count before : ℕ) → is_of_memory kind ≡ true → AnswersKind kind count (reply_by kind at count before)
reply_answers Read at count before e = mod_below (before / 2 ^ (8 * at)) (2 ^ (8 * count)) (pow_pos (8 * count))
reply_answers (Write value) at count before e = refl
reply_answers (Add value) at count before e = omega arith
reply_answers (SetBit n) at count before e = omega arith
reply_answers (ClearBit n) at count before e = omega arith
reply_answers (Put byte) at count before e = cc
reply_answers Get at count before e = cc

same_covers : (each : Reference → Kinds) (t u : Tree) → Same u t → Covers (λ (t : Tree) (u : Tree). Same u t) (wants each t) (wants each u)
same_covers each (Ask r on) (Ask r' on') h =
    subst (λ (x : Reference). Covers (λ (t : Tree) (u : Tree). Same u t) (wants each (Ask r on)) (wants each (Ask x on'))) (sym h.0) (by (is_of_memory r.kind) refl)
  where
    by : (m : Bool) → is_of_memory r.kind ≡ m → Covers (λ (t : Tree) (u : Tree). Same u t) (wanted_by m each r on) (wanted_by m each r on')
    by true e = (
      refl,
      λ kind bytes may. may,
      λ before lt. (
        refl,
        h.1 (reply_by r.kind (r.address % 8) r.count before) (subst (λ (x : Reference). Answers x (reply_by r.kind (r.address % 8) r.count before)) (sym h.0) (reply_answers r.kind (r.address % 8) r.count before e)),
      ),
    )
    by false e = tt
same_covers each (Check address count write t) u h = tt
same_covers each (Fault exception) u h = tt
same_covers each (Ends e) u h = tt
same_covers each (Ask r on) (Check address count write u) h = absurd h
same_covers each (Ask r on) (Fault exception) h = absurd h
same_covers each (Ask r on) (Ends e) h = absurd h

-- the same tree makes the same reference
same_next : (t u : Tree) (round : Round) → Same u t → with_next u round ≡ with_next t round
same_next (Ask r on) (Ask r' on') round h = ap (λ (x : Reference). with_reference x.kind round) h.0
same_next (Check _ _ _ t) (Check _ _ _ u) round h = refl
same_next (Fault x) (Fault y) round h = refl
same_next (Ends d) (Ends e) round h = refl
same_next (Ask r on) (Check _ _ _ u) round h = absurd h
same_next (Ask r on) (Fault y) round h = absurd h
same_next (Ask r on) (Ends e) round h = absurd h
same_next (Check _ _ _ t) (Ask _ _) round h = absurd h
same_next (Check _ _ _ t) (Fault _) round h = absurd h
same_next (Check _ _ _ t) (Ends _) round h = absurd h
same_next (Fault x) (Ask _ _) round h = absurd h
same_next (Fault x) (Check _ _ _ _) round h = absurd h
same_next (Fault x) (Ends _) round h = absurd h
same_next (Ends e) (Ask _ _) round h = absurd h
same_next (Ends e) (Check _ _ _ _) round h = absurd h
same_next (Ends e) (Fault _) round h = absurd h

landed_same : (phase : Phase) (t u : Tree) (p : Placement) (address : ℕ) (point : Option Point) (regs : Regs) → Same u t → Landed phase t p address point regs → Landed phase u p address point regs
landed_same Plain (Ends (Finish s)) (Ends e) p address (Some point) regs h l = subst (λ (x : Ending). Landed Plain (Ends x) p address (Some point) regs) (sym h) l
landed_same Plain (Ends (Finish s)) (Check _ _ _ _) p address (Some point) regs h l = absurd h
landed_same Plain (Ends (Finish s)) (Ask _ _) p address (Some point) regs h l = absurd h
landed_same Plain (Ends (Finish s)) (Fault _) p address (Some point) regs h l = absurd h
landed_same phase t u p address point regs h l = absurd l

lands_same : (o : Option ℕ) (point : Option Point) (phase : Phase) (t u : Tree) (p : Placement) (regs : Regs) (Inside Inside' : Type 0) → Same u t → (Inside → Inside') → Lands o point phase t p regs Inside → Lands o point phase u p regs Inside'
lands_same (Some address) point phase t u p regs Inside Inside' h f l = landed_same phase t u p address point regs h l
lands_same None point phase t u p regs Inside Inside' h f l = f l

probe_same : (point : Point) (a a' k k' : ℕ) (w w' : Bool) (t u : Tree) (p : Placement) (c : Alpha) (Next Next' : Alpha → Tree → Type 0) → a' ≡ a → k' ≡ k → w' ≡ w
    → (Next (at_place c.regs (c.pc + 1)) t → Next' (at_place c.regs (c.pc + 1)) u)
    → Called Probe (Some point) Plain (Check a k w t) p c Next → Called Probe (Some point) Plain (Check a' k' w' u) p c Next'
probe_same point a a' k k' w w' t u p c Next Next' ea ek ew f x =
    (ea ∙ x.0, ek ∙ x.1, ew ∙ x.2, λ ok. f (x.3 (rw (← ea, ← ek, ← ew) ok)))

called_same : (call : Call) (point : Option Point) (phase : Phase) (t u : Tree) (p : Placement) (c : Alpha) (Next Next' : Alpha → Tree → Type 0) → Same u t
    → ((d : Alpha) (t u : Tree) → Same u t → Next d t → Next' d u) → Called call point phase t p c Next → Called call point phase u p c Next'
called_same Probe (Some point) Plain (Check a k w t) (Check a' k' w' u) p c Next Next' h f x =
    probe_same point a a' k k' w w' t u p c Next Next' h.0 h.1 h.2 (f (at_place c.regs (c.pc + 1)) t u h.3) x
called_same Probe (Some point) Plain (Check a k w t) (Ask _ _) p c Next Next' h f x = absurd h
called_same Probe (Some point) Plain (Check a k w t) (Fault _) p c Next Next' h f x = absurd h
called_same Probe (Some point) Plain (Check a k w t) (Ends _) p c Next Next' h f x = absurd h
called_same Raise (Some point) Plain (Fault y) (Fault z) p c Next Next' h f x = rw h x
called_same Raise (Some point) Plain (Fault y) (Check _ _ _ _) p c Next Next' h f x = absurd h
called_same Raise (Some point) Plain (Fault y) (Ask _ _) p c Next Next' h f x = absurd h
called_same Raise (Some point) Plain (Fault y) (Ends _) p c Next Next' h f x = absurd h
called_same Arithmetic (Some point) Plain (Ends (Trap kind s)) (Ends e) p c Next Next' h f x = subst (λ (y : Ending). Called Arithmetic (Some point) Plain (Ends y) p c Next') (sym h) x
called_same Arithmetic (Some point) Plain (Ends (Trap kind s)) (Check _ _ _ _) p c Next Next' h f x = absurd h
called_same Arithmetic (Some point) Plain (Ends (Trap kind s)) (Ask _ _) p c Next Next' h f x = absurd h
called_same Arithmetic (Some point) Plain (Ends (Trap kind s)) (Fault _) p c Next Next' h f x = absurd h
called_same LookUp point Plain (Ends (Finish s)) (Ends e) p c Next Next' h f x = subst (λ (y : Ending). Called LookUp point Plain (Ends y) p c Next') (sym h) x
called_same LookUp point Plain (Ends (Finish s)) (Check _ _ _ _) p c Next Next' h f x = absurd h
called_same LookUp point Plain (Ends (Finish s)) (Ask _ _) p c Next Next' h f x = absurd h
called_same LookUp point Plain (Ends (Finish s)) (Fault _) p c Next Next' h f x = absurd h
called_same Switch point Plain (Ends (Finish s)) (Ends e) p c Next Next' h f x = subst (λ (y : Ending). Called Switch point Plain (Ends y) p c Next') (sym h) x
called_same Switch point Plain (Ends (Finish s)) (Check _ _ _ _) p c Next Next' h f x = absurd h
called_same Switch point Plain (Ends (Finish s)) (Ask _ _) p c Next Next' h f x = absurd h
called_same Switch point Plain (Ends (Finish s)) (Fault _) p c Next Next' h f x = absurd h
called_same Serve (Some point) Plain t u p c Next Next' h f x =
    let found = state_shown p c.regs (target c.regs) point.rules p.held in (
      x.0,
      same_trans u t (p.serve (c.regs 21 % 2 ^ 16) found) h x.1,
      λ value lt. f _ _ _ (same_refl (Ends (Finish (with_register 0 value found)))) (x.2 value lt),
    )
called_same call point phase t u p c Next Next' h f x = absurd x

-- what holds for some steps and some room holds for fewer steps and more room, and for a tree that is the same
pub follows_as : (p : Placement) (n m : ℕ) → n ≤ m → (phase : Phase) (spare spare' : ℕ) (round : Round) (c : Alpha) (t u : Tree) → spare ≤ spare' → Same u t → Follows p m phase spare round c t → Follows p n phase spare' round c u
follows_as p zero m le phase spare spare' round c t u room h f = no_steps p phase spare' round c u
follows_as p (suc n) zero le phase spare spare' round c t u room h f = absurd (omega arith)
follows_as p (suc n) (suc m) le phase spare spare' round c t u room h f =
    let x = clause_of p m phase spare round c t f in
    let again = follows_as p n m (omega arith) in
    let some : 0 < spare = x.2 in
    begin p n phase spare' round c u (
      x.0,
      x.1,
      omega arith,
      steps_map (λ (t : Tree) (u : Tree). Same u t) (λ phase' left d v. Onward p (Follows p m) phase' left (round_behind phase' t round) d v) (λ phase' left d v. Onward p (Follows p n) phase' left (round_behind phase' u round) d v)
          p.bonus p.bonus (spare - 1) (spare' - 1) t u
          (λ d v w r y. (y.0, subst (λ next. Follows p n Plain (spare' - 1 + p.bonus) next d w) (sym (same_next t u (stepped round) h)) (again Plain (spare - 1 + p.bonus) (spare' - 1 + p.bonus) (with_next t (stepped round)) d v w (omega arith) r y.1)))
          (λ q found place d y. (y.0, again (Held q found place) (spare - 1) (spare' - 1) (stepped round) d t u (omega arith) h y.1))
          (λ place d y. (y.0, again (Failed place) (spare - 1 + retry_steps) (spare' - 1 + retry_steps) (round_behind (Failed place) t round) d t u (omega arith) h y.1))
          (allowed_in p.pages) phase c (wants p.kinds t) (wants p.kinds u) (same_covers p.kinds t u h) _ _ _ _
          (λ d y.
          lands_same (p.stops d.pc) (p.points d.pc) phase t u p d.regs
          (MayGo p.bonus p.first phase round c.pc d.pc × Follows p m (phase_after phase c.pc d.pc) (spare - 1) (round_after phase round c.pc d.pc) d t)
          (MayGo p.bonus p.first phase round c.pc d.pc × Follows p n (phase_after phase c.pc d.pc) (spare' - 1) (round_after phase round c.pc d.pc) d u)
          h (λ z. (z.0, again (phase_after phase c.pc d.pc) (spare - 1) (spare' - 1) (round_after phase round c.pc d.pc) d t u (omega arith) h z.1)) y)
          (λ k y.
          called_same (call_of k) (p.points c.pc) phase t u p c (λ d v. Onward p (Follows p m) Plain (spare - 1) new_round d v) (λ d v. Onward p (Follows p n) Plain (spare' - 1) new_round d v) h
          (λ d t u r z. (z.0, again Plain (spare - 1) (spare' - 1) new_round d t u (omega arith) r z.1)) y)
          (p.fetch c.pc) x.3,
    )

pub fewer : FewerStepsFollow
fewer p n m more le phase spare round c t f = follows_as p n m le phase spare (spare + more) round c t t (omega arith) (same_refl t) f

pub follows_same : SameTreeFollows
follows_same p n phase spare round c t u h f = follows_as p n n (omega arith) phase spare spare round c t u (omega arith) h f
