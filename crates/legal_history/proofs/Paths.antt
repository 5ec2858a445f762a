-- Paths in the tree of an instruction: the replies taken and the checks passed.
use Rattle.std.proofs.Common.{◌≡◌, ℕ, suc, Bool, List, [], ◌∷◌, ◌++◌, Option, Some, None, refl, sym, ap, ◌∙◌, subst}
use Rattle.std.proofs.lemmas.List.{append-nil}
use Rattle.vax_form.specs.Pages.{first_bad}
use Rattle.vax_form.specs.State.{IsState}
use Rattle.vax_form.specs.Tree.{Tree, Check, Ask, Fault, Ends, Ending, Wants, Fails, Comes, answer, unless_bad}
use Rattle.vax_form.specs.declared.pages.Pages.{Pages}
use Rattle.vax_form.specs.declared.state.Reference.{Reference}
use Rattle.system_model.specs.Interpreted.{made_in, unless}
use Rattle.vax_form.specs.Ranges.{IsInRange, ending_state}

-- from one place in a tree to another, by checks that hold and just these replies
pub data Path (pages : Pages) : Tree → List ℕ → Tree → Type 0 where
  Here : {t : Tree} → Path pages t [] t
  Passes : {address count : ℕ} {write : Bool} {t u : Tree} {v : List ℕ} → first_bad pages write address count ≡ None → Path pages t v u → Path pages (Check address count write t) v u
  Takes : {r : Reference} {on : ℕ → Tree} {reply : ℕ} {v : List ℕ} {u : Tree} → Path pages (on reply) v u → Path pages (Ask r on) (reply ∷ v) u

module _ (pages : Pages) where
  pub joined : (t u x : Tree) (v w : List ℕ) → Path pages t v u → Path pages u w x → Path pages t (v ++ w) x
  joined t u x v w Here q = q
  joined t u x v w (Passes {t = t'} ok p) q = Passes ok (joined t' u x v w p q)
  joined t u x v w (Takes {on = on} {reply = reply} {v = v'} p) q = Takes (joined (on reply) u x v' w p q)

  -- by checks alone
  pub joined_here : (t u x : Tree) (v : List ℕ) → Path pages t v u → Path pages u [] x → Path pages t v x
  joined_here t u x v p q = subst (λ w. Path pages t w x) (append-nil v) (joined t u x v [] p q)

  pub answered : (t u : Tree) (v : List ℕ) → Path pages t v u → answer pages t v ≡ answer pages u []
  answered t u v Here = refl
  answered t u v (Passes {address = a} {count = c} {write = w} {t = t'} ok p) = ap (λ o. unless_bad o Fails w (answer pages t' v)) ok ∙ answered t' u v p
  answered t u v (Takes {on = on} {reply = reply} {v = v'} p) = answered (on reply) u v' p

  -- the reference that is wanted, as a place in the tree
  pub to_ask : (t : Tree) (r : Reference) → answer pages t [] ≡ Wants r → (on : ℕ → Tree) × Path pages t [] (Ask r on)
  to_ask (Ask q on) r e = (on, subst (λ x. Path pages (Ask q on) [] (Ask x on)) (cc e) Here)
  to_ask (Fault x) r e = absurd (cc e)
  to_ask (Ends x) r e = absurd (cc e)
  to_ask (Check a c w t) r e = by (first_bad pages w a c) refl (to_ask t r) e
    where
      by : (o : Option ℕ) → first_bad pages w a c ≡ o → (answer pages t [] ≡ Wants r → (on : ℕ → Tree) × Path pages t [] (Ask r on)) → unless_bad o Fails w (answer pages t []) ≡ Wants r → (on : ℕ → Tree) × Path pages (Check a c w t) [] (Ask r on)
      by None ok again e = let rest = again e in (rest.0, Passes ok rest.1)
      by (Some bad) ok again e = absurd (cc e)

  -- a place to which replies led ends in states where the tree does
  pub silent_ends : (t u : Tree) (v : List ℕ) → v ≡ [] → Path pages t v u → IsInRange pages t → IsInRange pages u
  silent_ends t u v n Here h = h
  silent_ends t u v n (Passes {t = t'} {v = v'} ok p) h = silent_ends t' u v' n p (h ok)
  silent_ends t u v n (Takes p) h = absurd (cc n)

  pub comes_state : (t : Tree) (e : Ending) (left : List ℕ) → IsInRange pages t → answer pages t [] ≡ Comes e left → IsState (ending_state e) × (left ≡ [])
  comes_state (Ask q on) e left h a = absurd (cc a)
  comes_state (Fault x) e left h a = absurd (cc a)
  comes_state (Ends x) e left h a =
      let same : x ≡ e = cc a in
      (subst (λ (y : Ending). IsState (ending_state y)) same h, cc a)
  comes_state (Check ad c w t) e left h a = by (first_bad pages w ad c) (λ ok. comes_state t e left (h ok)) a
    where
      by : (o : Option ℕ) → (o ≡ None → answer pages t [] ≡ Comes e left → IsState (ending_state e) × (left ≡ [])) → unless_bad o Fails w (answer pages t []) ≡ Comes e left → IsState (ending_state e) × (left ≡ [])
      by None again a = again refl a
      by (Some bad) again a = absurd (cc a)

  -- ---- how many references were made
  pub made_none : (t : Tree) → made_in pages t [] ≡ 0
  made_none (Ask r on) = refl
  made_none (Fault x) = refl
  made_none (Ends e) = refl
  made_none (Check a c w t) = by (first_bad pages w a c) (made_none t)
    where
      by : (o : Option ℕ) → made_in pages t [] ≡ 0 → unless o (made_in pages t []) ≡ 0
      by None again = again
      by (Some bad) again = refl

  pub made_one : (t : Tree) (v : List ℕ) (r : Reference) (on : ℕ → Tree) (reply : ℕ) (u : Tree) → u ≡ Ask r on → Path pages t v u → made_in pages t (v ++ reply ∷ []) ≡ suc (made_in pages t v)
  made_one t v r on reply u is Here = subst (λ x. made_in pages x (reply ∷ []) ≡ suc (made_in pages x [])) (sym is) (ap suc (made_none (on reply)))
  made_one t v r on reply u is (Passes {address = a} {count = c} {write = w} {t = t'} ok p) =
      ap (λ o. unless o (made_in pages t' (v ++ reply ∷ []))) ok ∙ made_one t' v r on reply u is p ∙ ap suc (sym (ap (λ o. unless o (made_in pages t' v)) ok))
  made_one t v r on reply u is (Takes {on = on'} {reply = first} {v = v'} p) = ap suc (made_one (on' first) v' r on reply u is p)

  -- further replies change nothing of what was made before an end
  pub made_more : (t : Tree) (w more left : List ℕ) (e : Ending) → answer pages t w ≡ Comes e left → made_in pages t (w ++ more) ≡ made_in pages t w
  made_more (Ask r on) [] more left e a = absurd (cc a)
  made_more (Ask r on) (v ∷ w) more left e a = ap suc (made_more (on v) w more left e a)
  made_more (Fault x) w more left e a = refl
  made_more (Ends x) w more left e a = refl
  made_more (Check ad c wr t) w more left e a = by (first_bad pages wr ad c) (made_more t w more left e) a
    where
      by : (o : Option ℕ) → (answer pages t w ≡ Comes e left → made_in pages t (w ++ more) ≡ made_in pages t w) → unless_bad o Fails wr (answer pages t w) ≡ Comes e left → unless o (made_in pages t (w ++ more)) ≡ unless o (made_in pages t w)
      by None again a = again a
      by (Some bad) again a = refl
