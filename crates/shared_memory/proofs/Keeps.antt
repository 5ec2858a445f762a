-- Each step keeps the rule.
use Rattle.std.proofs.Common.{◌≡◌, ◌≢◌, ℕ, ◌+◌, ◌<◌, ◌≤◌, Bool, true, false, true≢false, cond, eqb, List, [], ◌∷◌, ◌++◌, length, get_or, set, refl, sym, ap, ◌∙◌, subst, ⊎_elim, arith, length-set, get_or-set_same, get_or-set_other}
use Rattle.std.specs.Prelude.{Option, Some}
use mathlib.Core.Option.{some, none, some-injective, some-ne-none}
use mathlib.Core.Logic.{dite}
use native.Mathlib.Decide.{ℕ_discrete}
use lib.ListN.{get_elem?}
use lib.Seq.{set-get_or}
use prog.Atomic.{either}
use Rattle.atomic_table.specs.Table.{State, step, Act, keeps, takes, gives, Valid, carried_after, stepped, Allows}
use Rattle.atomic_table.proofs.Lists.{at_set, set_here, set_else, set_again, exchanged}
use Rattle.memory_core.specs.declared.entry.Entry.{Entry}
use Rattle.memory_core.specs.declared.state.MemState.{MemState}
use Rattle.memory_core.specs.Contents.{Contents}
use Rattle.memory_core.specs.Order.{own}
use Rattle.shared_memory.proofs.Own.{own-others}
use Rattle.shared_memory.specs.declared.view.View.{View}
use Rattle.shared_memory.specs.declared.view.Ended.{Ended}
use Rattle.shared_memory.specs.Lists.{total, only}
use Rattle.shared_memory.specs.Rule.{behind, IsLegal, Fits, FitsEnded, Kept, living}
use Rattle.shared_memory.specs.Steps.{Sat, winning, Wins, entered, Enters, given_back, GivesBack}
use Rattle.shared_memory.proofs.Sums.{total-set, term_le, terms_le, short, only-same}
use Rattle.shared_memory.proofs.Beginnings.{prefix_self, prefix_trans}

abbrev pub St : Type 0
St = State (Option MemState) View

abbrev pub Homes : Type 0
Homes = List (mathlib.Core.Option.Option (Option MemState))

abbrev pub table : List ℕ → Homes → List View → St
table ws hs vs = record { words = ws; homes = hs; views = vs }

abbrev pub turn_of : View → ℕ
turn_of v = v.turn

abbrev pub IsHome : Contents → List ℕ → Homes → List Entry → Type 0
IsHome k ws hs history = get_or ws 1 0 ≡ 0 → get_elem? hs 0 ≡ some (some (Some (behind k history)))

-- the keeper is another than a pass
apart : (k : Contents) (s : St) (o : Kept k s) (id : ℕ) (v : View) → get_elem? s.views id ≡ some v → v.keeps ≡ false → o.seat ≢ id
apart k s o id v me not e = true≢false (sym o.keeps ∙ ap (λ (x : View). x.keeps) (some-injective o.keeper v (sym o.sits ∙ (ap (λ (x : ℕ). get_elem? s.views x) e ∙ me))) ∙ not)

-- a step of a pass, whose number stays
moved : (k : Contents) (s : St) (o : Kept k s) (id : ℕ) (v w : View) (ws : List ℕ) (hs : Homes) (history : List Entry)
    → get_elem? s.views id ≡ some v → v.keeps ≡ false → w.keeps ≡ false → ((f : ℕ → ℕ) → living f w ≡ living f v)
    → length ws ≡ 2 → get_or ws 1 0 + v.turn ≡ get_or s.words 1 0 + w.turn → get_or ws 1 0 ≤ 1
    → IsLegal k.set_up history → get_or ws 0 0 ≡ 0
    → ((j : ℕ) × (u : View) × (get_elem? (set s.views id w) j ≡ some u) × (u.seen ≡ history))
    → Fits k history w → ((j : ℕ) (u : View) → j ≢ id → get_elem? s.views j ≡ some u → Fits k history u)
    → IsHome k ws hs history
    → ((j : ℕ) (e : Ended) → get_elem? o.keeper.ended j ≡ some e → FitsEnded history e)
    → ((p : ℕ) → total (only p) o.keeper.given ≡ 0 → own p history ≡ [])
    → Kept k (table ws hs (set s.views id w))
moved k s o id v w ws hs history me not_v not_w same wide turns single legal still longest fits others home ended fresh = record {
  history = history;
  seat = o.seat;
  keeper = o.keeper;
  wide = wide;
  turns = omega (arith, total-set turn_of s.views id v w me, o.turns);
  single = single;
  legal = legal;
  still = still;
  longest = longest;
  fits = λ j u e. ⊎_elim (λ (t : (j ≡ id) × (w ≡ u)). subst (Fits k history) t.1 fits) (λ (t : (j ≢ id) × (get_elem? s.views j ≡ some u)). others j u t.0 t.1) (at_set s.views id j w u e);
  home = home;
  sits = set_else s.views id o.seat w (apart k s o id v me not_v) ∙ o.sits;
  keeps = o.keeps;
  idle = o.idle;
  about = o.about;
  alone = λ j u e yes. ⊎_elim (λ (t : (j ≡ id) × (w ≡ u)). absurd (true≢false (sym yes ∙ (ap (λ (x : View). x.keeps) (sym t.1) ∙ not_w)))) (λ (t : (j ≢ id) × (get_elem? s.views j ≡ some u)). o.alone j u t.1 yes) (at_set s.views id j w u e);
  balance = λ f. omega (arith, total-set (living f) s.views id v w me, same f, o.balance f);
  once = o.once;
  ended = ended;
  fresh = fresh;
}

-- a view has seen it all, after a step in which a pass sees no less
pub still_longest : (k : Contents) (s : St) (o : Kept k s) (id : ℕ) (v w : View) → get_elem? s.views id ≡ some v → (v.seen ≡ o.history → w.seen ≡ o.history)
    → (j : ℕ) × (u : View) × (get_elem? (set s.views id w) j ≡ some u) × (u.seen ≡ o.history)
still_longest k s o id v w me more = let t = o.longest in
    dite (ℕ_discrete t.0 id)
    (λ e. let same : t.1 ≡ v = some-injective t.1 v (sym t.2 ∙ (ap (λ (x : ℕ). get_elem? s.views x) e ∙ me)) in (id, w, set_here s.views id w (short s.views id v me), more (ap (λ (x : View). x.seen) (sym same) ∙ t.3)))
    (λ ne. (t.0, t.1, set_else s.views id t.0 w ne ∙ t.2, t.3))

-- a step of a pass that adds no entry
stayed : (k : Contents) (s : St) (o : Kept k s) (id : ℕ) (v w : View) (ws : List ℕ) (hs : Homes)
    → get_elem? s.views id ≡ some v → v.keeps ≡ false → w.keeps ≡ false → ((f : ℕ → ℕ) → living f w ≡ living f v)
    → length ws ≡ 2 → get_or ws 0 0 ≡ get_or s.words 0 0 → get_or ws 1 0 + v.turn ≡ get_or s.words 1 0 + w.turn → get_or ws 1 0 ≤ 1
    → (v.seen ≡ o.history → w.seen ≡ o.history) → Fits k o.history w → IsHome k ws hs o.history
    → Kept k (table ws hs (set s.views id w))
stayed k s o id v w ws hs me not_v not_w same wide word turns single more fits home =
    moved k s o id v w ws hs o.history me not_v not_w same wide turns single o.legal (word ∙ o.still) (still_longest k s o id v w me more) fits (λ j u _ e. o.fits j u e) home o.ended o.fresh

-- a load after which nothing is changed
unmoved : (k : Contents) (s : St) (o : Kept k s) (i id : ℕ) (m : Sat) → get_elem? s.views id ≡ some m.0 → Kept k (stepped s i (get_or s.words i 0) id m.1 m.0 keeps)
unmoved k s o i id m me = subst (λ (ws : List ℕ). Kept k (table ws s.homes (set s.views id m.0))) (sym (set-get_or s.words i 0)) (subst (λ (vs : List View). Kept k (table s.words s.homes vs)) (sym (set_again s.views id m.0 me)) o)

abbrev pub Goes : Contents → St → ℕ → ℕ → Sat → (ℕ → Sat → Type 0) → ℕ → Type 0
Goes k s i id m then n = (w : View) × (a : Act (Option MemState)) × Valid s.homes m.1 a × Kept k (stepped s i n id m.1 w a) × then (get_or s.words i 0) (w, carried_after m.1 a)

pub wins : (k : Contents) (n id : ℕ) (m : Sat) → m.0.start ≡ k → m.0.lives ≡ true → m.0.keeps ≡ false → m.0.turn ≡ 0
    → Allows (Kept k) n id m 1 (λ y. either (eqb y 0) 1 y) (Wins (step n 1 0 1 none) m)
wins k n id m about lives keeps_not turn s o slots me _ =
    exchanged (get_or s.words 1 0) 0 1 (Goes k s 1 id m (Wins (step n 1 0 1 none) m))
    (λ free. let f = o.fits id m.0 me in let w = winning m.0 o.history in let long = o.wide in
    let one : get_or (set s.words 1 1) 1 0 ≡ 1 = get_or-set_same s.words 1 1 0 (omega arith) in (
      w,
      takes 0 (Some (behind k o.history)),
      o.home free,
      stayed k s o id m.0 w (set s.words 1 1) (set s.homes 0 none) me keeps_not keeps_not (λ _. refl) (length-set s.words 1 1 ∙ o.wide) (get_or-set_other s.words 1 0 1 0 (λ e. omega arith))
          (omega arith) (omega arith) (λ e. e)
          (record { about = f.about; seen = f.seen; found = λ _. refl; small = omega arith; alive = λ _. lives; own = f.own; over = λ dead _. absurd (true≢false (sym lives ∙ dead)) })
          (λ e. absurd (omega arith)),
      (
        (λ _. record {
          history = o.history;
          is = ap (λ (x : Contents). (w, (0, Some (behind x o.history)) ∷ m.1)) (sym about);
          later = f.seen;
          legal = subst (λ (x : Contents). IsLegal x.set_up o.history) (sym about) o.legal;
          own = f.own lives;
        }),
        λ ne. absurd (ne free),
      ),
    ))
    (λ held. (m.0, keeps, tt, unmoved k s o 1 id m me, ((λ free. absurd (held free)), λ _. refl)))

pub gives_back : (k : Contents) (n id : ℕ) (v : View) (state : Contents) → v.keeps ≡ false → v.turn ≡ 1 → state ≡ behind k v.found → 0 < n
    → Allows (Kept k) n id (v, (0, Some state) ∷ []) 1 (λ _. 0) (λ _. GivesBack (step n 1 0 0 none) (v, (0, Some state) ∷ []) 0)
gives_back k n id v state keeps_not turn good inside s o slots me _ = let f = o.fits id v me in let w = given_back v in
    let long = o.wide in let part = term_le turn_of s.views id v me in let all = o.turns in let single = o.single in
    let none_now : get_or (set s.words 1 0) 1 0 ≡ 0 = get_or-set_same s.words 1 0 0 (omega arith) in (
      w,
      gives,
      tt,
      stayed k s o id v w (set s.words 1 0) (set s.homes 0 (some (Some state))) me keeps_not keeps_not (λ _. refl) (length-set s.words 1 0 ∙ o.wide) (get_or-set_other s.words 1 0 0 0 (λ e. omega arith))
          (omega arith) (omega arith) (λ e. e)
          (record { about = f.about; seen = f.seen; found = λ (e : 0 ≡ 1). absurd (omega arith); small = omega arith; alive = λ (e : 0 ≡ 1). absurd (omega arith); own = f.own; over = λ dead _. absurd (true≢false (sym (f.alive turn) ∙ dead)) })
          (λ _. set_here s.homes 0 (some (Some state)) (omega arith) ∙ ap (λ (x : Contents). some (some (Some x))) (good ∙ ap (behind k) (f.found turn))),
      refl,
    )

pub alone_here : (p : ℕ) (u : View) → u.lives ≡ true → u.number ≡ p → living (only p) u ≡ 1
alone_here p u lives e = ap (λ (b : Bool). cond b (only p u.number) 0) lives ∙ only-same p u.number e

pub enters : (k : Contents) (n id : ℕ) (m : Sat) (news : List Entry) (state : Contents) → m.0.keeps ≡ false → m.0.turn ≡ 1 → own m.0.number news ≡ news
    → state.history ≡ m.0.found ++ news → IsLegal k.set_up state.history
    → Allows (Kept k) n id m 0 (λ y. either (eqb y 0) 0 y) (Enters (step n 0 0 0 (some (Some state))) m)
enters k n id m news state keeps_not turn mine adds legal s o slots me _ =
    let f = o.fits id m.0 me in let v = m.0 in let h' : List Entry = state.history in let w = entered v h' in let p = v.number in
    let was : v.found ≡ o.history = f.found turn in
    let is : h' ≡ o.history ++ news = adds ∙ ap (λ (l : List Entry). l ++ news) was in
    let wide = o.wide in let all = o.turns in let single = o.single in
    let lives = f.alive turn in
    let one : living (only p) v ≡ 1 = alone_here p v lives refl in
    let part = term_le turn_of s.views id v me in
    let other : get_or (set s.words 0 0) 1 0 ≡ get_or s.words 1 0 = get_or-set_other s.words 0 1 0 0 (λ x. omega arith) in
    let zeroth : get_or (set s.words 0 0) 0 0 ≡ 0 = get_or-set_same s.words 0 0 0 (omega arith) in
    let strange : (q : ℕ) → q ≢ p → own q h' ≡ own q o.history = λ q ne. ap (own q) is ∙ own-others p q o.history news ne mine in
    let once = o.once p in let balance = o.balance (only p) in let part_one = term_le (living (only p)) s.views id v me in
    exchanged (get_or s.words 0 0) 0 0 (Goes k s 0 id m (Enters (step n 0 0 0 (some (Some state))) m))
    (λ _. (
      w,
      keeps,
      tt,
      moved k s o id v w (set s.words 0 0) s.homes h' me keeps_not keeps_not (λ _. refl) (length-set s.words 0 0 ∙ o.wide) (omega arith) (omega arith) legal zeroth
          (id, w, set_here s.views id w (short s.views id v me), refl)
          (record { about = f.about; seen = prefix_self h'; found = λ _. refl; small = f.small; alive = f.alive; own = λ _. refl; over = λ dead _. absurd (true≢false (sym lives ∙ dead)) })
          (λ j u ne at. let g = o.fits j u at in let two = terms_le turn_of s.views id j v u ne me at in record {
            about = g.about;
            seen = prefix_trans u.seen o.history h' g.seen (news, sym is);
            found = λ has. absurd (omega arith);
            small = g.small;
            alive = g.alive;
            own = λ living_u. strange u.number (λ same. let both = terms_le (living (only p)) s.views id j v u ne me at in let two_of : living (only p) u ≡ 1 = alone_here p u living_u same in absurd (omega arith)) ∙ g.own living_u;
            over = g.over;
          })
          (λ none_now. absurd (omega arith))
          (λ j x at. let g = o.ended j x at in record {
            seen = prefix_trans x.seen o.history h' g.seen (news, sym is);
            own = strange x.number (λ same. let there : only p x.number ≡ 1 = only-same p x.number same in let term = term_le (λ (y : Ended). only p y.number) o.keeper.ended j x at in absurd (omega arith)) ∙ g.own;
          })
          (λ q none_given. strange q (λ same. let z : total (only p) o.keeper.given ≡ 0 = ap (λ (r : ℕ). total (only r) o.keeper.given) (sym same) ∙ none_given in absurd (omega arith)) ∙ o.fresh q none_given),
      refl,
    ))
    (λ miss. absurd (miss o.still))

pub gives_back_at : (k : Contents) (n id : ℕ) (m : Sat) (v : View) (state : Contents) → m ≡ (v, (0, Some state) ∷ []) → v.keeps ≡ false → v.turn ≡ 1 → state ≡ behind k v.found → 0 < n
    → Allows (Kept k) n id m 1 (λ _. 0) (λ _. GivesBack (step n 1 0 0 none) m 0)
gives_back_at k n id m v state e keeps_not turn good inside =
    subst (λ (x : Sat). Allows (Kept k) n id x 1 (λ _. 0) (λ _. GivesBack (step n 1 0 0 none) x 0)) (sym e) (gives_back k n id v state keeps_not turn good inside)
