-- Laws of the judgement on pieces of code.
use Rattle.std.proofs.Common.{◌≡◌, ℕ, zero, suc, ◌+◌, ◌-◌, ◌^◌, ◌<◌, ◌≤◌, refl, sym, ◌∙◌, subst, arith, Option, Some, None, Bool, true, false}
use Rattle.std.specs.Prelude.{◌==◌}
use Rattle.std.proofs.lemmas.Bool.Decides.{nat_tests}
use Rattle.std.proofs.lemmas.Bool.{eq-eqb, eqb-true}
use Rattle.vt_words.proofs.Tests.{less_differs}
use Rattle.alpha_encode.specs.declared.instr.AlphaInstr.{AlphaInstr}
use Rattle.alpha_encode.specs.declared.instr.AlphaInstr.TheVariants.{Memory, Branch, Operate, Jump, Pal}
use Rattle.alpha_meaning.specs.declared.access.AlphaKind.{AlphaKind}
use Rattle.alpha_meaning.specs.declared.access.AlphaKind.TheVariants.{Load, LoadLocked, Store, StoreConditional}
use Rattle.alpha_meaning.specs.declared.access.AlphaAccess.{AlphaAccess}
use Rattle.alpha_meaning.specs.State.{Alpha, Regs, at_place}
use Rattle.alpha_meaning.specs.Memory.{kind_of}
use Rattle.alpha_meaning.specs.Act.{Does, Goes, Asks, Calls, act, finished, memory_act_by, memory_finish_by}
use Rattle.alpha_meaning.specs.Pieces.{quad_of, loaded, changed, Allowed, Kinds, Plan, Access, Over, Wants, Wanted, Nothing, wants, Suits, retry_steps, Phase, Plain, Held, Failed, Made, Accesses, Acts, Steps, Forth, phase_after, Piece, Choose, Ended, Runs}

-- ---- one step, from one tree to another
-- the second tree wants the same access, for which the same kinds may be made, and related trees follow
abbrev pub Covers : {T U : Type 0} → (T → U → Type 0) → Wants T → Wants U → Type 0
Covers R (Wanted quad leaves kinds rest) (Wanted quad' leaves' kinds' rest') =
    (quad' ≡ quad)
    × ((kind : AlphaKind) (bytes : ℕ) → kinds kind bytes ≡ true → kinds' kind bytes ≡ true)
    × ((before : ℕ) → before < 2 ^ 64 → (leaves before ≡ leaves' before) × R (rest before) (rest' before))
Covers R (Wanted quad leaves kinds rest) Nothing = ⊥
Covers R Nothing x = Unit {0}

suits_map : {T U : Type 0} (R : T → U → Type 0) (w : Wants T) (x : Wants U) (kind : AlphaKind) (bytes : ℕ) → Covers R w x → Suits w kind bytes → Suits x kind bytes
suits_map R (Wanted q l s k) (Wanted q' l' s' k') kind bytes c h = c.1 kind bytes h
suits_map R (Wanted q l s k) Nothing kind bytes c h = absurd c
suits_map R Nothing x kind bytes c h = absurd h

-- another number of steps may be spare, and an access may allow another number of them
module _ {T U : Type 0} (R : T → U → Type 0) (Next : Phase → ℕ → Alpha → T → Type 0) (Next' : Phase → ℕ → Alpha → U → Type 0) (bonus bonus' spare spare' : ℕ) (t : T) (u : U)
    (counted : (d : Alpha) (v : T) (w : U) → R v w → Next Plain (spare + bonus) d v → Next' Plain (spare' + bonus') d w)
    (held : (quad found place : ℕ) (d : Alpha) → Next (Held quad found place) spare d t → Next' (Held quad found place) spare' d u)
    (failed : (place : ℕ) (d : Alpha) → Next (Failed place) (spare + retry_steps) d t → Next' (Failed place) (spare' + retry_steps) d u) where
  made_map : (w : Wants T) (x : Wants U) (quad : ℕ) (left : ℕ → ℕ) (Fits : ℕ → Type 0) (on : ℕ → Alpha) → Covers R w x
      → Made w quad left Fits (λ before v. Next Plain (spare + bonus) (on before) v) → Made x quad left Fits (λ before v. Next' Plain (spare' + bonus') (on before) v)
  made_map (Wanted q l s k) (Wanted q' l' s' k') quad left Fits on c h =
      (c.0 ∙ h.0, λ before lt fits. ((h.1 before lt fits).0 ∙ (c.2 before lt).0, counted (on before) (k before) (k' before) (c.2 before lt).1 (h.1 before lt fits).1))
  made_map (Wanted q l s k) Nothing quad left Fits on c h = absurd c
  made_map Nothing x quad left Fits on c h = absurd h

  accesses_map : (kind : AlphaKind) (phase : Phase) (place : ℕ) (w : Wants T) (x : Wants U) (quad : ℕ) (left : ℕ → ℕ) (on : ℕ → Bool → Alpha) → Covers R w x
      → Accesses kind phase place w quad left on bonus spare t Next → Accesses kind phase place x quad left on bonus' spare' u Next'
  accesses_map Load Plain place w x quad left on c h = made_map w x quad (λ b. b) (λ _. Unit {0}) (λ b. on b true) c h
  accesses_map Store Plain place w x quad left on c h = made_map w x quad left (λ _. Unit {0}) (λ b. on b true) c h
  accesses_map LoadLocked Plain place w x quad left on c h = λ b lt. held quad b place (on b true) (h b lt)
  accesses_map StoreConditional (Held q found first) place w x quad left on c h =
      (h.0, made_map w x quad left (λ b. b ≡ found) (λ b. on b true) c h.1, λ b lt. failed first (on b false) (h.2 b lt))
  accesses_map kind phase place w x quad left on c h = absurd h

  module _ (allowed : Allowed) (phase : Phase) (c : Alpha) (w : Wants T) (x : Wants U) (covers : Covers R w x) (Moves Moves' : Alpha → Type 0) (Pal Pal' : ℕ → Type 0) (moves : (d : Alpha) → Moves d → Moves' d) (pal : (n : ℕ) → Pal n → Pal' n) where
    acts_map : (does : Does) (i : AlphaInstr) → Acts does i allowed bonus phase spare c w t Moves Pal Next → Acts does i allowed bonus' phase spare' c x u Moves' Pal' Next'
    acts_map (Goes d) i h = moves d h
    acts_map (Asks a) i h = (h.0, h.1, suits_map R w x a.kind a.bytes covers h.2, accesses_map a.kind phase c.pc w x (quad_of a) (changed a) (λ b s. finished i (loaded a b) s c) covers h.3)
    acts_map (Calls n) i h = pal n h

    pub steps_map : (o : Option AlphaInstr) → Steps o allowed bonus phase spare c w t Moves Pal Next → Steps o allowed bonus' phase spare' c x u Moves' Pal' Next'
    steps_map None h = absurd h
    steps_map (Some i) h = acts_map (act i c) i h

-- ---- one step on the same tree, with other things owed behind it
-- an access ends at the next word
pub asks_next : (i : AlphaInstr) (c : Alpha) (a : AlphaAccess) → act i c ≡ Asks a → (value : ℕ) (success : Bool) → (finished i value success c).pc ≡ c.pc + 1
asks_next (Memory op ra rb disp) c a h value success = by_kind (kind_of op) h
  where
    by_kind : (o : Option AlphaKind) → memory_act_by o op ra rb disp c ≡ Asks a → (memory_finish_by o op ra value success c).pc ≡ c.pc + 1
    by_kind None e = cc
    by_kind (Some Load) e = refl
    by_kind (Some LoadLocked) e = refl
    by_kind (Some Store) e = refl
    by_kind (Some StoreConditional) e = refl
asks_next (Branch op ra disp) c a h value success = cc
asks_next (Operate op ra rb rc) c a h value success = cc
asks_next (Jump ra rb) c a h value success = cc
asks_next (Pal n) c a h value success = cc

module _ {T : Type 0} (allowed : Allowed) (bonus : ℕ) (phase : Phase) (spare : ℕ) (c : Alpha) (t : T) (Moves Moves' : Alpha → Type 0) (Pals Pals' : ℕ → Type 0) (Next Next' : Phase → ℕ → Alpha → T → Type 0)
    (moves : (d : Alpha) → Moves d → Moves' d) (pals : (n : ℕ) → Pals n → Pals' n) (next : (phase : Phase) (spare : ℕ) (d : Alpha) (u : T) → d.pc ≡ c.pc + 1 → Next phase spare d u → Next' phase spare d u) where
  made_refine : (w : Wants T) (quad : ℕ) (left : ℕ → ℕ) (Fits : ℕ → Type 0) (on : ℕ → Alpha) (spare : ℕ) → ((before : ℕ) → (on before).pc ≡ c.pc + 1)
      → Made w quad left Fits (λ before u. Next Plain spare (on before) u) → Made w quad left Fits (λ before u. Next' Plain spare (on before) u)
  made_refine (Wanted q l s k) quad left Fits on spare at h = (h.0, λ b lt fits. ((h.1 b lt fits).0, next Plain spare (on b) (k b) (at b) (h.1 b lt fits).1))
  made_refine Nothing quad left Fits on spare at h = absurd h

  accesses_refine : (kind : AlphaKind) (phase : Phase) (place : ℕ) (w : Wants T) (quad : ℕ) (left : ℕ → ℕ) (on : ℕ → Bool → Alpha) → ((before : ℕ) (success : Bool) → (on before success).pc ≡ c.pc + 1)
      → Accesses kind phase place w quad left on bonus spare t Next → Accesses kind phase place w quad left on bonus spare t Next'
  accesses_refine Load Plain place w quad left on at h = made_refine w quad (λ b. b) (λ _. Unit {0}) (λ b. on b true) (spare + bonus) (λ b. at b true) h
  accesses_refine Store Plain place w quad left on at h = made_refine w quad left (λ _. Unit {0}) (λ b. on b true) (spare + bonus) (λ b. at b true) h
  accesses_refine LoadLocked Plain place w quad left on at h = λ b lt. next (Held quad b place) spare (on b true) t (at b true) (h b lt)
  accesses_refine StoreConditional (Held q found first) place w quad left on at h =
      (h.0, made_refine w quad left (λ b. b ≡ found) (λ b. on b true) (spare + bonus) (λ b. at b true) h.1, λ b lt. next (Failed first) (spare + retry_steps) (on b false) t (at b false) (h.2 b lt))
  accesses_refine kind phase place w quad left on at h = absurd h

  acts_refine : (w : Wants T) (does : Does) (i : AlphaInstr) → act i c ≡ does → Acts does i allowed bonus phase spare c w t Moves Pals Next → Acts does i allowed bonus phase spare c w t Moves' Pals' Next'
  acts_refine w (Goes d) i is h = moves d h
  acts_refine w (Asks a) i is h = (h.0, h.1, h.2, accesses_refine a.kind phase c.pc w (quad_of a) (changed a) (λ b s. finished i (loaded a b) s c) (λ b s. asks_next i c a is (loaded a b) s) h.3)
  acts_refine w (Calls n) i is h = pals n h

  pub steps_refine : (w : Wants T) (o : Option AlphaInstr) → Steps o allowed bonus phase spare c w t Moves Pals Next → Steps o allowed bonus phase spare c w t Moves' Pals' Next'
  steps_refine w None h = absurd h
  steps_refine w (Some i) h = acts_refine w (act i c) i refl h

-- ---- the form of one step
-- the clause of one step, with what follows left open
abbrev pub Inside : {A : Type 0} → Piece → (Phase → ℕ → Alpha → Plan A → Type 0) → Phase → ℕ → Alpha → Plan A → Type 0
Inside p Next phase spare c t =
    (p.from ≤ c.pc) × (c.pc < p.to) × (0 < spare)
    × Steps (p.fetch c.pc) p.terms.allowed p.terms.bonus phase (spare - 1) c (wants p.terms.kinds t) t (λ d. Forth phase p.from c.pc d.pc × (d.pc ≤ p.to) × Next (phase_after phase c.pc d.pc) (spare - 1) d t) (λ _. ⊥) Next

pub no_steps : {A : Type 0} (p : Piece) (Ends : A → Regs → Type 0) (phase : Phase) (spare : ℕ) (c : Alpha) (t : Plan A) → Runs p Ends 0 phase spare c t
unfolding Runs
no_steps p Ends phase spare c t = tt

pub begin : {A : Type 0} (p : Piece) (Ends : A → Regs → Type 0) (n : ℕ) (phase : Phase) (spare : ℕ) (c : Alpha) (t : Plan A) → Inside p (Runs p Ends n) phase spare c t → Runs p Ends (suc n) phase spare c t
unfolding Runs
begin p Ends n phase spare c t h = subst (λ b. Choose b (Ended Ends phase t c.regs) (Inside p (Runs p Ends n) phase spare c t)) (sym (less_differs c.pc p.to h.1)) h

pub ends : {A : Type 0} (p : Piece) (Ends : A → Regs → Type 0) (n spare : ℕ) (c : Alpha) (a : A) → c.pc ≡ p.to → Ends a c.regs → Runs p Ends n Plain spare c (Over a)
unfolding Runs
ends p Ends zero spare c a at h = tt
ends p Ends (suc n) spare c a at h = subst (λ b. Choose b (Ends a c.regs) (Inside p (Runs p Ends n) Plain spare c (Over a))) (sym (eq-eqb c.pc p.to at)) h

-- what holds for one step more: the piece is at its end, or makes a step
pub data Runs_by {A : Type 0} (p : Piece) (Ends : A → Regs → Type 0) (n : ℕ) (phase : Phase) (spare : ℕ) (c : Alpha) (t : Plan A) : Type 0 where
  at_end : c.pc ≡ p.to → Ended Ends phase t c.regs → Runs_by p Ends n phase spare c t
  inside : Inside p (Runs p Ends n) phase spare c t → Runs_by p Ends n phase spare c t

pub runs_by : {A : Type 0} (p : Piece) (Ends : A → Regs → Type 0) (n : ℕ) (phase : Phase) (spare : ℕ) (c : Alpha) (t : Plan A) → Runs p Ends (suc n) phase spare c t → Runs_by p Ends n phase spare c t
unfolding Runs
runs_by p Ends n phase spare c t h = split (c.pc == p.to) refl h
  where
    split : (b : Bool) → (c.pc == p.to) ≡ b → Choose b (Ended Ends phase t c.regs) (Inside p (Runs p Ends n) phase spare c t) → Runs_by p Ends n phase spare c t
    split true e h = at_end (eqb-true c.pc p.to e) h
    split false e h = inside h

-- ---- from a piece to anything that is made of the same steps
module _ {A T : Type 0} (p : Piece) (Ends : A → Regs → Type 0) (R : Plan A → T → Type 0) (head : T → Wants T) (J : ℕ → Phase → ℕ → Alpha → T → Type 0) (bonus more : ℕ) (earns : p.terms.bonus ≤ bonus)
    (covers : (t : Plan A) (u : T) → R t u → Covers R (wants p.terms.kinds t) (head u))
    (none : (phase : Phase) (spare : ℕ) (c : Alpha) (u : T) → J 0 phase spare c u)
    (next : (n : ℕ) (phase : Phase) (spare : ℕ) (c : Alpha) (u : T) → p.from ≤ c.pc → c.pc < p.to → 0 < spare
    → Steps (p.fetch c.pc) p.terms.allowed bonus phase (spare - 1) c (head u) u (λ d. Forth phase p.from c.pc d.pc × (d.pc ≤ p.to) × J n (phase_after phase c.pc d.pc) (spare - 1) d u) (λ _. ⊥) (J n)
    → J (suc n) phase spare c u) where
  -- what the rest owes behind the piece, for so many steps and more room
  abbrev pub Behind : ℕ → Type 0
  Behind most = (n spare : ℕ) (a : A) (regs : Regs) (u : T) → n ≤ most → more ≤ spare → Ends a regs → R (Over a) u → J n Plain spare (at_place regs p.to) u

  behind_end : (most n spare : ℕ) (phase : Phase) (c : Alpha) (t : Plan A) (u : T) → Behind most → n ≤ most → more ≤ spare → c.pc ≡ p.to → Ended Ends phase t c.regs → R t u → J n phase spare c u
  behind_end most n spare Plain c (Over a) u k le room at h r = subst (λ pc. J n Plain spare (at_place c.regs pc) u) (sym at) (k n spare a c.regs u le room h r)
  behind_end most n spare Plain c (Access _ _ _) u k le room at h r = absurd h
  behind_end most n spare (Held _ _ _) c t u k le room at h r = absurd h
  behind_end most n spare (Failed _) c t u k le room at h r = absurd h

  -- the next step, where the rest is proved for fewer
  onward : (most n m : ℕ) → suc n ≤ most → Behind most → (phase : Phase) (spare spare' : ℕ) (c : Alpha) (t : Plan A) (u : T) → spare + more ≤ spare' → R t u
      → ((phase : Phase) (spare spare' : ℕ) (c : Alpha) (t : Plan A) (u : T) → spare + more ≤ spare' → R t u → Runs p Ends m phase spare c t → J n phase spare' c u)
      → Runs_by p Ends m phase spare c t → J (suc n) phase spare' c u
  onward most n m le k phase spare spare' c t u room r again (at_end at e) = behind_end most (suc n) spare' phase c t u k le (omega arith) at e r
  onward most n m le k phase spare spare' c t u room r again (inside i) =
      let some : 0 < spare = i.2 in
      next n phase spare' c u i.0 i.1 (omega arith)
      (steps_map R (Runs p Ends m) (J n) p.terms.bonus bonus (spare - 1) (spare' - 1) t u
      (λ d v w r'. again Plain (spare - 1 + p.terms.bonus) (spare' - 1 + bonus) d v w (omega arith) r')
      (λ q found place d. again (Held q found place) (spare - 1) (spare' - 1) d t u (omega arith) r)
      (λ place d. again (Failed place) (spare - 1 + retry_steps) (spare' - 1 + retry_steps) d t u (omega arith) r)
      p.terms.allowed phase c (wants p.terms.kinds t) (head u) (covers t u r) _ _ _ _
      (λ d w. (w.0, w.1, again (phase_after phase c.pc d.pc) (spare - 1) (spare' - 1) d t u (omega arith) r w.2)) (λ _ x. x) (p.fetch c.pc) i.3)

  pub onto : (most n m : ℕ) → n ≤ m → n ≤ most → Behind most → (phase : Phase) (spare spare' : ℕ) (c : Alpha) (t : Plan A) (u : T) → spare + more ≤ spare' → R t u → Runs p Ends m phase spare c t → J n phase spare' c u
  onto most zero m le le' k phase spare spare' c t u room r h = none phase spare' c u
  onto most (suc n) zero le le' k phase spare spare' c t u room r h = absurd (omega arith)
  onto most (suc n) (suc m) le le' k phase spare spare' c t u room r h =
      onward most n m le' k phase spare spare' c t u room r (onto most n m (omega arith) (omega arith) k) (runs_by p Ends m phase spare c t h)

-- ---- the same piece
same_covers : {A : Type 0} (kinds : Kinds) (t u : Plan A) → u ≡ t → Covers (λ (t : Plan A) (u : Plan A). u ≡ t) (wants kinds t) (wants kinds u)
same_covers {A} kinds t u e = subst (λ x. Covers (λ (t : Plan A) (u : Plan A). u ≡ t) (wants kinds t) (wants kinds x)) (sym e) (self t)
  where
    self : (t : Plan A) → Covers (λ (t : Plan A) (u : Plan A). u ≡ t) (wants kinds t) (wants kinds t)
    self (Access quad leaves rest) = (refl, λ kind bytes may. may, λ before lt. (refl, refl))
    self (Over a) = tt

-- what holds for some steps and some room holds for fewer steps and more room
pub fewer : {A : Type 0} (p : Piece) (Ends : A → Regs → Type 0) (n m more : ℕ) → n ≤ m → (phase : Phase) (spare : ℕ) (c : Alpha) (t : Plan A) → Runs p Ends m phase spare c t → Runs p Ends n phase (spare + more) c t
fewer {A} p Ends n m more le phase spare c t h =
    onto p Ends (λ (t : Plan A) (u : Plan A). u ≡ t) (wants p.terms.kinds) (Runs p Ends) p.terms.bonus more (omega arith) (same_covers p.terms.kinds) (no_steps p Ends)
    (λ n phase spare c u from to some steps. begin p Ends n phase spare c u (from, to, some, steps))
    n n m le (omega arith)
    (λ n spare a regs u le room h e. subst (Runs p Ends n Plain spare (at_place regs p.to)) (sym e) (ends p Ends n spare (at_place regs p.to) a refl h))
    phase spare (spare + more) c t t (omega arith) refl h

-- ---- one step taken out of what holds for every number of steps
module _ {T : Type 0} (Next : ℕ → Phase → ℕ → Alpha → T → Type 0) where
  abbrev pub Ever : Phase → ℕ → Alpha → T → Type 0
  Ever phase spare d u = (n : ℕ) → Next n phase spare d u

  made_open : (w : Wants T) (quad : ℕ) (left : ℕ → ℕ) (Fits : ℕ → Type 0) (on : ℕ → Alpha) (spare : ℕ)
      → ((n : ℕ) → Made w quad left Fits (λ before u. Next n Plain spare (on before) u)) → Made w quad left Fits (λ before u. Ever Plain spare (on before) u)
  made_open (Wanted q l s k) quad left Fits on spare h = ((h 0).0, λ before lt fits. (((h 0).1 before lt fits).0, λ n. ((h n).1 before lt fits).1))
  made_open Nothing quad left Fits on spare h = absurd (h 0)

  accesses_open : (kind : AlphaKind) (phase : Phase) (place : ℕ) (w : Wants T) (quad : ℕ) (left : ℕ → ℕ) (on : ℕ → Bool → Alpha) (bonus spare : ℕ) (t : T)
      → ((n : ℕ) → Accesses kind phase place w quad left on bonus spare t (Next n)) → Accesses kind phase place w quad left on bonus spare t Ever
  accesses_open Load Plain place w quad left on bonus spare t h = made_open w quad (λ b. b) (λ _. Unit {0}) (λ b. on b true) (spare + bonus) h
  accesses_open Store Plain place w quad left on bonus spare t h = made_open w quad left (λ _. Unit {0}) (λ b. on b true) (spare + bonus) h
  accesses_open LoadLocked Plain place w quad left on bonus spare t h = λ b lt n. h n b lt
  accesses_open StoreConditional (Held q found first) place w quad left on bonus spare t h =
      ((h 0).0, made_open w quad left (λ b. b ≡ found) (λ b. on b true) (spare + bonus) (λ n. (h n).1), λ b lt n. (h n).2 b lt)
  accesses_open kind phase place w quad left on bonus spare t h = absurd (h 0)

  module _ (allowed : Allowed) (bonus : ℕ) (phase : Phase) (spare : ℕ) (c : Alpha) (w : Wants T) (t : T) (Moves : ℕ → Alpha → Type 0) (Pal : ℕ → ℕ → Type 0) where
    acts_open : (does : Does) (i : AlphaInstr) → ((n : ℕ) → Acts does i allowed bonus phase spare c w t (Moves n) (Pal n) (Next n)) → Acts does i allowed bonus phase spare c w t (λ d. (n : ℕ) → Moves n d) (λ k. (n : ℕ) → Pal n k) Ever
    acts_open (Goes d) i h = h
    acts_open (Asks a) i h = ((h 0).0, (h 0).1, (h 0).2, accesses_open a.kind phase c.pc w (quad_of a) (changed a) (λ b s. finished i (loaded a b) s c) bonus spare t (λ n. (h n).3))
    acts_open (Calls k) i h = h

    pub steps_open : (o : Option AlphaInstr) → ((n : ℕ) → Steps o allowed bonus phase spare c w t (Moves n) (Pal n) (Next n)) → Steps o allowed bonus phase spare c w t (λ d. (n : ℕ) → Moves n d) (λ k. (n : ℕ) → Pal n k) Ever
    steps_open None h = absurd (h 0)
    steps_open (Some i) h = acts_open (act i c) i h
