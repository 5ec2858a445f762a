-- Where a block in the code comes to the words of its last exits, or to another block.
use Rattle.std.proofs.Common.{◌≡◌, ℕ, ◌+◌, ◌≤◌, refl, sym, ◌∙◌, ap, subst, arith, Bool, true, false, Option, Some, None}
use Rattle.std.specs.Prelude.{ℤ}
use Rattle.vax_form.specs.Tree.{Tree, Ends, Finish}
use Rattle.vax_form.specs.declared.state.VaxState.{VaxState}
use Rattle.alpha_encode.specs.declared.instr.AlphaInstr.TheVariants.{Branch}
use Rattle.alpha_encode.specs.declared.instr.BranchOp.{BranchOp}
use Rattle.alpha_meaning.specs.Act.{links, taken, target_of}
use Rattle.alpha_meaning.specs.Pieces.{Phase, Plain}
use Rattle.alpha_meaning.specs.State.{Regs, at_place}
use Rattle.exception_records.specs.declared.points.Point.{Point}
use Rattle.exception_records.specs.declared.rules.Rules.{Rules}
use Rattle.block_law.specs.Placements.{Placement, InForm, state_behind}
use Rattle.block_law.specs.Rounds.{Round}
use Rattle.block_law.specs.Follows.{Follows, Landed, LeadsTo}
use Rattle.block_law.proofs.Rules.{IsAt, goes, lands}

-- At that word the block of the address begins, with those rules, or words that lead there.
pub data Comes (p : Placement) (word address : ℕ) (rules : Rules) : Type 0 where
  lands_here : (point : Point) → p.stops word ≡ Some address → p.points word ≡ Some point → point.rules ≡ rules → Comes p word address rules
  leads_here : p.stops word ≡ None → LeadsTo p word address rules 3 → Comes p word address rules

-- The state is shown, and nothing is left to be followed but that.
pub data Shown (p : Placement) (address : ℕ) (rules : Rules) (regs : Regs) : Phase → Tree → Type 0 where
  shown : (s : VaxState) → InForm regs → s ≡ state_behind p regs address rules → Shown p address rules regs Plain (Ends (Finish s))

pub shown_of : (p : Placement) (address : ℕ) (point : Point) (regs : Regs) (phase : Phase) (t : Tree) → Landed phase t p address (Some point) regs → Shown p address point.rules regs phase t
shown_of p address point regs Plain (Ends (Finish s)) l = shown s l.0 l.1
shown_of p address point regs phase t l = absurd l

pub landed_by : (p : Placement) (address : ℕ) (rules : Rules) (point : Point) (regs : Regs) (phase : Phase) (t : Tree) (o : Option Point) → o ≡ Some point → point.rules ≡ rules → Shown p address rules regs phase t → Landed phase t p address o regs
landed_by p address rules point regs phase t o has same (shown s form is) =
    subst (λ o. Landed Plain (Ends (Finish s)) p address o regs) (sym has) (form, is ∙ ap (state_behind p regs address) (sym same))

-- words that lead to the address follow what is left
pub led : (p : Placement) (word address : ℕ) (rules : Rules) (regs : Regs) (n : ℕ) (phase : Phase) (spare : ℕ) (round : Round) (t : Tree) → LeadsTo p word address rules 3 → 3 ≤ spare → Shown p address rules regs phase t → Follows p n phase spare round (at_place regs word) t
led p word address rules regs n phase spare round t leads room (shown s form is) =
    subst (λ (s : VaxState). Follows p n Plain spare round (at_place regs word) (Ends (Finish s))) (sym is) (leads n spare round regs room form)

-- A branch to the block of one address stands at that word, and behind it the exit to another.
module _ (p : Placement) (word target : ℕ) (op : BranchOp) (ra : ℕ) (disp : ℤ) (to other : ℕ) (rules : Rules) (at : IsAt p word (Branch op ra disp)) (no_link : links op ≡ false) (goes_to : target_of word disp ≡ target) (point : Point) (stops : p.stops target ≡ Some to) (has : p.points target ≡ Some point) (same : point.rules ≡ rules)
    (comes : Comes p (word + 1) other rules) where
  forks : (b : Bool) (regs : Regs) → taken op (regs ra) ≡ b → (n : ℕ) (phase : Phase) (spare : ℕ) (round : Round) (t : Tree) → 4 ≤ spare → (b ≡ true → Shown p to rules regs phase t) → (b ≡ false → Shown p other rules regs phase t)
      → Follows p n phase spare round (at_place regs word) t
  forks true regs e n phase spare round t room if_taken if_not = by (if_taken refl)
    where
      by : {phase : Phase} {t : Tree} → Shown p to rules regs phase t → Follows p n phase spare round (at_place regs word) t
      by (shown s form is) =
          lands p None (at_place regs word) (at_place regs target) (Branch op ra disp) s to point at (rw (no_link, e, goes_to) refl) stops has form (is ∙ ap (state_behind p regs to) (sym same)) n spare round (omega arith)
  forks false regs e n phase spare round t room if_taken if_not = by (if_not refl) comes
    where
      by : {phase : Phase} {t : Tree} → Shown p other rules regs phase t → Comes p (word + 1) other rules → Follows p n phase spare round (at_place regs word) t
      by (shown s form is) (lands_here q begins q_has q_same) =
          lands p None (at_place regs word) (at_place regs (word + 1)) (Branch op ra disp) s other q at (rw (no_link, e) refl) begins q_has form (is ∙ ap (state_behind p regs other) (sym q_same)) n spare round (omega arith)
      by (shown s form is) (leads_here none leads) =
          goes p None 3 (at_place regs word) (at_place regs (word + 1)) (Branch op ra disp) (Ends (Finish s)) at (rw (no_link, e) refl) (omega arith) none
          (λ m left round' fits. subst (λ (s : VaxState). Follows p m Plain left round' (at_place regs (word + 1)) (Ends (Finish s))) (sym is) (leads m left round' regs fits form)) n spare round room

  -- it is taken where the state is shown at its address, and not where it is shown at the other
  pub fork_follows : (n : ℕ) (phase : Phase) (spare : ℕ) (round : Round) (regs : Regs) (t : Tree) → 4 ≤ spare → (taken op (regs ra) ≡ true → Shown p to rules regs phase t) → (taken op (regs ra) ≡ false → Shown p other rules regs phase t)
      → Follows p n phase spare round (at_place regs word) t
  fork_follows n phase spare round regs t room if_taken if_not = forks (taken op (regs ra)) regs refl n phase spare round t room if_taken if_not
