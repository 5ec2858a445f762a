-- Each step of the keeper keeps the rule.
use Rattle.std.proofs.Common.{◌≡◌, ◌≢◌, ℕ, zero, suc, ◌+◌, Bool, true, false, true≢false, cond, eqb, List, [], ◌∷◌, ◌++◌, length, get_or, set, refl, sym, ap, ◌∙◌, subst, ⊎_elim, arith}
use Rattle.std.specs.Prelude.{Option, Some}
use mathlib.Core.Option.{some, none, some-injective, some-ne-none}
use mathlib.Core.List.{IsPrefix}
use mathlib.Core.Logic.{dite}
use native.Mathlib.Decide.{ℕ_discrete, dec_le}
use lib.ListN.{get_elem?}
use lib.Seq.{set-get_or}
use prog.Atomic.{either}
use Rattle.atomic_table.specs.Table.{step, keeps, opening, Allows, Splits, Joins, Final, Seen}
use Rattle.atomic_table.proofs.Lists.{at_set, set_here, set_else, at_longer, at_snoc, exchanged}
use Rattle.memory_core.specs.declared.entry.Entry.{Entry}
use Rattle.memory_core.specs.declared.state.MemState.{MemState}
use Rattle.memory_core.specs.Contents.{Contents}
use Rattle.memory_core.specs.Order.{own}
use Rattle.memory_core.proofs.Limits.{none_within}
use Rattle.shared_memory.proofs.Own.{own-append}
use Rattle.shared_memory.specs.declared.view.View.{View}
use Rattle.shared_memory.specs.declared.view.Ended.{Ended}
use Rattle.shared_memory.specs.Lists.{total, only}
use Rattle.shared_memory.specs.Rule.{behind, IsLegal, Fits, FitsEnded, Kept, living, keeper_of, spent, made_left, made_right, longer, ended_as, ended_both}
use Rattle.shared_memory.specs.Steps.{Sat, choosing, Chooses}
use Rattle.shared_memory.proofs.Sums.{total-append, total-set, term_le, total_le, total-one, short, only-same, only-other}
use Rattle.shared_memory.proofs.Beginnings.{prefix_whole}
use Rattle.shared_memory.specs.Views.{IsClosed}
use Rattle.std.proofs.Common.{leb, le-leb}
use borrow.Author.Tests.{lt-leb}
use Rattle.shared_memory.proofs.Beginnings.{prefix_length}
use Rattle.shared_memory.proofs.Keeps.{St, table, turn_of, still_longest}

-- what holds of the keeper holds of a seat that keeps
at_keeper : (k : Contents) (s : St) (o : Kept k s) (P : ℕ → View → Type 0) → P o.seat o.keeper → (id : ℕ) (v : View) → get_elem? s.views id ≡ some v → v.keeps ≡ true → P id v
at_keeper k s o P x id v me truly = let a : id ≡ o.seat = o.alone id v me truly in
    let e : o.keeper ≡ v = some-injective o.keeper v (sym o.sits ∙ (ap (λ (i : ℕ). get_elem? s.views i) (sym a) ∙ me)) in
    subst (λ (i : ℕ). P i v) (sym a) (subst (λ (u : View). P o.seat u) e x)

chosen_here : (k : Contents) (s : St) (o : Kept k s) (p : ℕ) → Kept k (table s.words s.homes (set s.views o.seat (choosing o.keeper p)))
chosen_here k s o p = let w = choosing o.keeper p in let f = o.fits o.seat o.keeper o.sits in record {
  history = o.history;
  seat = o.seat;
  keeper = w;
  wide = o.wide;
  turns = omega (arith, total-set turn_of s.views o.seat o.keeper w o.sits, o.turns);
  single = o.single;
  legal = o.legal;
  still = o.still;
  longest = still_longest k s o o.seat o.keeper w o.sits (λ e. e);
  fits = λ j u e. ⊎_elim (λ (t : (j ≡ o.seat) × (w ≡ u)). subst (Fits k o.history) t.1 (record { about = f.about; seen = f.seen; found = f.found; small = f.small; alive = f.alive; own = f.own; over = λ _ not. absurd (true≢false (sym o.keeps ∙ not)) }))
      (λ (t : (j ≢ o.seat) × (get_elem? s.views j ≡ some u)). o.fits j u t.1) (at_set s.views o.seat j w u e);
  home = o.home;
  sits = set_here s.views o.seat w (short s.views o.seat o.keeper o.sits);
  keeps = o.keeps;
  idle = o.idle;
  about = o.about;
  alone = λ j u e truly. ⊎_elim (λ (t : (j ≡ o.seat) × (w ≡ u)). t.0) (λ (t : (j ≢ o.seat) × (get_elem? s.views j ≡ some u)). o.alone j u t.1 truly) (at_set s.views o.seat j w u e);
  balance = λ f. omega (arith, total-set (living f) s.views o.seat o.keeper w o.sits, o.balance f);
  once = o.once;
  ended = o.ended;
  fresh = o.fresh;
}

same_word : (y p : ℕ) → either (eqb y p) p y ≡ y
same_word y p = exchanged y p p (λ (z : ℕ). z ≡ y) (λ e. sym e) (λ _. refl)

front_nil : (xs ys : List Entry) → xs ++ ys ≡ [] → xs ≡ []
front_nil [] ys e = refl
front_nil (x ∷ xs) ys e = absurd cc

none_before : (p : ℕ) (xs ys : List Entry) → IsPrefix xs ys → own p ys ≡ [] → own p xs ≡ []
none_before p xs ys pre e = front_nil (own p xs) (own p pre.0) (sym (own-append p xs pre.0) ∙ (ap (own p) pre.1 ∙ e))

pub chooses : (k : Contents) (n id : ℕ) (m : Sat) (p : ℕ) → m.0.keeps ≡ true → Allows (Kept k) n id m 0 (λ y. either (eqb y p) p y) (Chooses (step n 0 p p none) m)
chooses k n id m p truly s o slots me _ = (
  choosing m.0 p,
  keeps,
  tt,
  subst (λ (x : ℕ). Kept k (table (set s.words 0 x) s.homes (set s.views id (choosing m.0 p)))) (sym (same_word (get_or s.words 0 0) p))
      (subst (λ (ws : List ℕ). Kept k (table ws s.homes (set s.views id (choosing m.0 p)))) (sym (set-get_or s.words 0 0))
      (at_keeper k s o (λ i v. Kept k (table s.words s.homes (set s.views i (choosing v p)))) (chosen_here k s o p) id m.0 me truly)),
  (refl, at_keeper k s o (λ _ v. total (only p) v.given ≡ 0 → own p v.seen ≡ []) (λ z. none_before p o.keeper.seen o.history (o.fits o.seat o.keeper o.sits).seen (o.fresh p z)) id m.0 me truly),
)

made_here : (k : Contents) (s : St) (o : Kept k s) → total (only o.keeper.chosen) o.keeper.given ≡ 0 → Kept k (table s.words s.homes (set s.views o.seat (made_left o.keeper) ++ made_right o.keeper ∷ []))
made_here k s o none_yet = let v = o.keeper in let p = v.chosen in let w = made_left v in let new = made_right v in let f = o.fits o.seat v o.sits in
    let vs = set s.views o.seat w in let here = set_here s.views o.seat w (short s.views o.seat v o.sits) in record {
      history = o.history;
      seat = o.seat;
      keeper = w;
      wide = o.wide;
      turns = omega (arith, total-set turn_of s.views o.seat v w o.sits, o.turns, total-append turn_of vs (new ∷ []));
      single = o.single;
      legal = o.legal;
      still = o.still;
      longest = let t = still_longest k s o o.seat v w o.sits (λ e. e) in (t.0, t.1, at_longer vs (new ∷ []) t.0 t.1 t.2, t.3);
      fits = λ j u e. ⊎_elim
          (λ (q : get_elem? vs j ≡ some u). ⊎_elim (λ (t : (j ≡ o.seat) × (w ≡ u)). subst (Fits k o.history) t.1 (record { about = f.about; seen = f.seen; found = f.found; small = f.small; alive = f.alive; own = f.own; over = λ _ not. absurd (true≢false (sym o.keeps ∙ not)) }))
          (λ (t : (j ≢ o.seat) × (get_elem? s.views j ≡ some u)). o.fits j u t.1) (at_set s.views o.seat j w u q))
          (λ (q : new ≡ u). subst (Fits k o.history) q (record { about = λ _. o.about; seen = f.seen; found = λ (x : 0 ≡ 1). absurd (omega arith); small = omega arith; alive = λ (x : 0 ≡ 1). absurd (omega arith); own = λ _. o.fresh p none_yet; over = λ (dead : true ≡ false) _. absurd (true≢false dead) }))
          (at_snoc vs new u j e);
      home = o.home;
      sits = at_longer vs (new ∷ []) o.seat w here;
      keeps = o.keeps;
      idle = o.idle;
      about = o.about;
      alone = λ j u e truly. ⊎_elim
          (λ (q : get_elem? vs j ≡ some u). ⊎_elim (λ (t : (j ≡ o.seat) × (w ≡ u)). t.0) (λ (t : (j ≢ o.seat) × (get_elem? s.views j ≡ some u)). o.alone j u t.1 truly) (at_set s.views o.seat j w u q))
          (λ (q : new ≡ u). absurd (true≢false (sym truly ∙ ap (λ (x : View). x.keeps) (sym q))))
          (at_snoc vs new u j e);
      balance = λ g. omega (arith, total-set (living g) s.views o.seat v w o.sits, total-append (living g) vs (new ∷ []), o.balance g);
      once = λ q. dite (ℕ_discrete p q) (λ e. let z : total (only q) v.given ≡ 0 = subst (λ (r : ℕ). total (only r) v.given ≡ 0) e none_yet in omega (arith, only-same q p e)) (λ ne. omega (arith, only-other q p ne, o.once q));
      ended = o.ended;
      fresh = λ q z. o.fresh q (omega arith);
    }

pub makes : (k : Contents) (id : ℕ) (v : View) → v.keeps ≡ true → total (only v.chosen) v.given ≡ 0 → Splits (Kept k) id v (made_left v) (made_right v)
makes k id v truly none_yet s o me =
    at_keeper k s o (λ i u. total (only u.chosen) u.given ≡ 0 → Kept k (table s.words s.homes (set s.views i (made_left u) ++ made_right u ∷ []))) (made_here k s o) id v me truly none_yet

longer_is : (P : List Entry → Type 0) (xs ys : List Entry) → P xs → P ys → P (longer xs ys)
longer_is P xs ys p q = elim (leb (length xs) (length ys)) as (λ b. P (cond b ys xs)) [ true ↦ q | false ↦ p ]

longer_left : (xs ys h : List Entry) → IsPrefix ys h → xs ≡ h → longer xs ys ≡ h
longer_left xs ys h p e = dite (dec_le (length xs) (length ys))
    (λ le. ap (λ (b : Bool). cond b ys xs) (le-leb (length xs) (length ys) le) ∙ prefix_whole ys h p (omega (arith, ap length e)))
    (λ gt. ap (λ (b : Bool). cond b ys xs) (lt-leb (length xs) (length ys) (omega arith)) ∙ e)

longer_right : (xs ys h : List Entry) → IsPrefix xs h → ys ≡ h → longer xs ys ≡ h
longer_right xs ys h p e = ap (λ (b : Bool). cond b ys xs) (le-leb (length xs) (length ys) (omega (arith, prefix_length xs h p, ap length e))) ∙ e

ended_here : (k : Contents) (s : St) (o : Kept k s) (other : ℕ) (w : View) → w.keeps ≡ false → w.lives ≡ true → w.turn ≡ 0 → ¬ (other ≡ o.seat) → get_elem? s.views other ≡ some w
    → Kept k (table s.words s.homes (set (set s.views o.seat (ended_both o.keeper w)) other spent))
ended_here k s o other w keeps_not lives turn apart them = let v = o.keeper in let b = ended_both v w in let f = o.fits o.seat v o.sits in let g = o.fits other w them in
    let vs = set s.views o.seat b in let mine = set_here s.views o.seat b (short s.views o.seat v o.sits) in
    let them' : get_elem? vs other ≡ some w = set_else s.views o.seat other b apart ∙ them in
    let apart' : o.seat ≢ other = λ e. apart (sym e) in
    let mine' : get_elem? (set vs other spent) o.seat ≡ some b = set_else vs other o.seat spent apart' ∙ mine in
    let living_w : (h : ℕ → ℕ) → living h w ≡ h w.number = λ h. ap (λ (x : Bool). cond x (h w.number) 0) lives in
    let both : (h : View → ℕ) → total h (set vs other spent) + h w + h v ≡ total h s.views + h spent + h b = λ h. omega (arith, total-set h s.views o.seat v b o.sits, total-set h vs other w spent them') in
    let cases : (P : ℕ → View → Type 0) → P other spent → P o.seat b → ((j : ℕ) (u : View) → get_elem? s.views j ≡ some u → P j u) → (j : ℕ) (u : View) → get_elem? (set vs other spent) j ≡ some u → P j u
    = λ P x y z j u e. ⊎_elim (λ (t : (j ≡ other) × (spent ≡ u)). subst (λ (i : ℕ). P i u) (sym t.0) (subst (P other) t.1 x))
    (λ (t : (j ≢ other) × (get_elem? vs j ≡ some u)). ⊎_elim (λ (q : (j ≡ o.seat) × (b ≡ u)). subst (λ (i : ℕ). P i u) (sym q.0) (subst (P o.seat) q.1 y)) (λ (q : (j ≢ o.seat) × (get_elem? s.views j ≡ some u)). z j u q.1) (at_set s.views o.seat j b u t.1))
    (at_set vs other j spent u e) in record {
      history = o.history;
      seat = o.seat;
      keeper = b;
      wide = o.wide;
      turns = omega (arith, both turn_of, o.turns);
      single = o.single;
      legal = o.legal;
      still = o.still;
      longest = let t = o.longest in dite (ℕ_discrete t.0 o.seat)
          (λ e. let same : t.1 ≡ v = some-injective t.1 v (sym t.2 ∙ (ap (λ (x : ℕ). get_elem? s.views x) e ∙ o.sits)) in (o.seat, b, mine', longer_left v.seen w.seen o.history g.seen (ap (λ (x : View). x.seen) (sym same) ∙ t.3)))
          (λ ne. dite (ℕ_discrete t.0 other)
          (λ e. let same : t.1 ≡ w = some-injective t.1 w (sym t.2 ∙ (ap (λ (x : ℕ). get_elem? s.views x) e ∙ them)) in (o.seat, b, mine', longer_right v.seen w.seen o.history f.seen (ap (λ (x : View). x.seen) (sym same) ∙ t.3)))
          (λ ne'. (t.0, t.1, set_else vs other t.0 spent ne' ∙ (set_else s.views o.seat t.0 b ne ∙ t.2), t.3)));
      fits = cases (λ _ u. Fits k o.history u)
          (record { about = λ (x : false ≡ true). absurd (true≢false (sym x)); seen = (o.history, refl); found = λ (x : 0 ≡ 1). absurd (omega arith); small = omega arith; alive = λ (x : 0 ≡ 1). absurd (omega arith); own = λ (x : false ≡ true). absurd (true≢false (sym x)); over = λ _ _. refl })
          (record { about = f.about; seen = longer_is (λ (l : List Entry). IsPrefix l o.history) v.seen w.seen f.seen g.seen; found = f.found; small = f.small; alive = f.alive; own = f.own; over = λ _ not. absurd (true≢false (sym o.keeps ∙ not)) })
          (λ j u e. o.fits j u e);
      home = o.home;
      sits = mine';
      keeps = o.keeps;
      idle = o.idle;
      about = o.about;
      alone = cases (λ j u. u.keeps ≡ true → j ≡ o.seat) (λ (x : false ≡ true). absurd (true≢false (sym x))) (λ _. refl) (λ j u e truly. o.alone j u e truly);
      balance = λ h. omega (arith, both (living h), living_w h, o.balance h);
      once = o.once;
      ended = λ j x e. ended_at j x e;
      fresh = o.fresh;
    }
  where
    ended_at : (j : ℕ) (x : Ended) → get_elem? (ended_as w ∷ o.keeper.ended) j ≡ some x → FitsEnded o.history x
    ended_at zero x e = let g = o.fits other w them in subst (FitsEnded o.history) (some-injective (ended_as w) x e) (record { seen = g.seen; own = g.own lives })
    ended_at (suc j) x e = o.ended j x e

pub ends : (k : Contents) (id : ℕ) (v : View) (other : ℕ) (w : View) → v.keeps ≡ true → w.keeps ≡ false → w.lives ≡ true → w.turn ≡ 0 → Joins (Kept k) id v other w (ended_both v w) spent
ends k id v other w truly keeps_not lives turn s o me apart there =
    let them : get_elem? s.views other ≡ some w = sym (set_else s.views id other (ended_both v w) apart) ∙ there in
    at_keeper k s o (λ i u. ¬ (other ≡ i) → Kept k (table s.words s.homes (set (set s.views i (ended_both u w)) other spent))) (λ ne. ended_here k s o other w keeps_not lives turn ne them) id v me truly apart

-- a table with a memory that has no entry
pub starts : (k : Contents) (state : Contents) → state ≡ behind k [] → Kept k (opening (0 ∷ 0 ∷ []) (Some state ∷ []) (keeper_of k))
starts k state good = record {
  history = [];
  seat = 0;
  keeper = keeper_of k;
  wide = refl;
  turns = refl;
  single = omega arith;
  legal = record { order = tt; room = none_within k.set_up.limit };
  still = refl;
  longest = (0, keeper_of k, refl, refl);
  fits = λ j u e. subst (Fits k []) (only_one j u e) (record { about = λ (x : false ≡ true). absurd (true≢false (sym x)); seen = ([], refl); found = λ (x : 0 ≡ 1). absurd (omega arith); small = omega arith; alive = λ (x : 0 ≡ 1). absurd (omega arith); own = λ (x : false ≡ true). absurd (true≢false (sym x)); over = λ _ (not : true ≡ false). absurd (true≢false not) });
  home = λ _. ap (λ (x : Contents). some (some (Some x))) good;
  sits = refl;
  keeps = refl;
  idle = refl;
  about = refl;
  alone = λ j u e _. at_zero j u e;
  balance = λ _. refl;
  once = λ _. omega arith;
  ended = λ j x e. absurd (some-ne-none x (sym e));
  fresh = λ _ _. refl;
}
  where
    only_one : (j : ℕ) (u : View) → get_elem? (keeper_of k ∷ []) j ≡ some u → keeper_of k ≡ u
    only_one zero u e = some-injective (keeper_of k) u e
    only_one (suc j) u e = absurd (some-ne-none u (sym e))

    at_zero : (j : ℕ) (u : View) → get_elem? (keeper_of k ∷ []) j ≡ some u → j ≡ 0
    at_zero zero u e = refl
    at_zero (suc j) u e = absurd (some-ne-none u (sym e))

-- where every number that was given has ended, no pass has the turn
pub all_ended : (k : Contents) (s : St) (o : Kept k s) → length o.keeper.given ≡ length o.keeper.ended → get_or s.words 1 0 ≡ 0
all_ended k s o same = omega (
  arith,
  o.balance (λ _. 1),
  total-one o.keeper.given,
  total-one o.keeper.ended,
  o.turns,
  total_le turn_of (living (λ _. 1)) s.views (λ j u e. let f = o.fits j u e in dite (ℕ_discrete u.turn 1) (λ one. let l : living (λ _. 1) u ≡ 1 = ap (λ (b : Bool). cond b 1 0) (f.alive one) in omega arith) (λ ne. let s = f.small in omega arith)),
)

-- and the keeper has seen the whole history
nobody_lives : (k : Contents) (s : St) (o : Kept k s) → length o.keeper.given ≡ length o.keeper.ended → (j : ℕ) (u : View) → get_elem? s.views j ≡ some u → u.lives ≡ false
nobody_lives k s o same j u at = is_dead u.lives refl
  where
    is_dead : (b : Bool) → u.lives ≡ b → u.lives ≡ false
    is_dead false e = e
    is_dead true e = let one : living (λ _. 1) u ≡ 1 = ap (λ (b : Bool). cond b 1 0) e in
        absurd (omega (arith, o.balance (λ _. 1), total-one o.keeper.given, total-one o.keeper.ended, term_le (living (λ _. 1)) s.views j u at))

saw_all : (k : Contents) (s : St) (o : Kept k s) → length o.keeper.given ≡ length o.keeper.ended → o.keeper.seen ≡ o.history
saw_all k s o same = let t = o.longest in let f = o.fits o.seat o.keeper o.sits in keeps_or t.1.keeps refl
  where
    keeps_or : (b : Bool) → o.longest.1.keeps ≡ b → o.keeper.seen ≡ o.history
    keeps_or true e = let t = o.longest in let here = o.alone t.0 t.1 t.2 e in
        ap (λ (v : View). v.seen) (some-injective o.keeper t.1 (sym o.sits ∙ (ap (λ (i : ℕ). get_elem? s.views i) (sym here) ∙ t.2))) ∙ t.3
    keeps_or false e = let t = o.longest in let g = o.fits t.0 t.1 t.2 in let none_at_all : o.history ≡ [] = sym t.3 ∙ ap (λ (v : View). v.seen) (g.over (nobody_lives k s o same t.0 t.1 t.2) e) in
        prefix_whole o.keeper.seen o.history (o.fits o.seat o.keeper o.sits).seen (omega (arith, ap length none_at_all))

pub closes : (k : Contents) (id : ℕ) (v : View) (ws : List ℕ) (slots : List (Option MemState)) → v.keeps ≡ true → length v.given ≡ length v.ended → Final (Seen (Kept k) id v) ws slots
    → (m : Contents) × (get_elem? slots 0 ≡ some (Some m)) × IsClosed k v m
closes k id v ws slots truly same end = let s = end.0 in let o = end.1.0 in let me = end.1.1 in
    at_keeper k s o (λ _ u. length u.given ≡ length u.ended → (m : Contents) × (get_elem? slots 0 ≡ some (Some m)) × IsClosed k u m)
    (λ all. let at : o.keeper.seen ≡ o.history = saw_all k s o all in (
      behind k o.history,
      end.4 0 (Some (behind k o.history)) (o.home (all_ended k s o all)),
      record {
        is = ap (behind k) (sym at);
        legal = subst (IsLegal k.set_up) (sym at) o.legal;
        ended = λ j e x. subst (λ (l : List Entry). FitsEnded l e) (sym at) (o.ended j e x);
        others = λ p z. ap (own p) at ∙ o.fresh p z;
      },
    ))
    id v me truly same
