-- Looking back over the entries.
use Rattle.std.proofs.Common.{◌≡◌, ℕ, ◌==◌, ◌&&◌, Bool, true, false, if◌then◌else◌, suc, List, [], ◌∷◌, ◌++◌, reverse, refl, sym, ap, ◌∙◌, subst}
use Rattle.std.specs.Prelude.{not}
use Rattle.std.proofs.lemmas.List.{reverse-append}
use Rattle.std.proofs.lemmas.Bool.{eqb-true, eq-eqb}
use Rattle.memory_core.specs.declared.entry.Change.{Change}
use Rattle.memory_core.specs.declared.entry.Kind.{Kind}
use Rattle.memory_core.specs.declared.entry.Kind.TheVariants.{Load, LoadLocked, Store, StoreConditional, TieRead, TieWrite, TieLocked, Put, Get}
use Rattle.memory_core.specs.declared.entry.Entry.{Entry}
use Rattle.memory_core.specs.declared.entry.SetUp.{SetUp}
use Rattle.memory_core.specs.Changes.{leaves}
use Rattle.memory_core.specs.Kinds.{is_memory, writes, is_conditional, is_get}
use Rattle.memory_core.specs.Laws.{PairsAgree, BeginningsMeet, OpeningIsFound, first_found}
use Rattle.memory_core.specs.Opening.{opening}
use Rattle.memory_core.specs.Order.{own, stands_on, left_by, block_of, reserved_by, reserved, tries, strikes, gets, input_at, Fits, Meets}
use Rattle.memory_core.proofs.Choices.{if_true, first_true, second_true}

-- what doesn't write leaves what it found
unwritten : (kind : Kind) (success : Bool) (change : Change) (before : ℕ) → writes kind success ≡ false → is_memory kind ≡ true → leaves kind success change before ≡ before
unwritten Load success change before w m = refl
unwritten LoadLocked success change before w m = refl
unwritten TieRead success change before w m = refl
unwritten StoreConditional success change before w m = ap (λ (b : Bool). leaves StoreConditional b change before) w
unwritten Store success change before w m = absurd (cc w)
unwritten TieWrite success change before w m = absurd (cc w)
unwritten TieLocked success change before w m = absurd (cc w)
unwritten Put success change before w m = absurd (cc m)
unwritten Get success change before w m = absurd (cc m)

module _ (set_up : SetUp) where
  -- an access to memory finds its quadword as the past left it
  pub found_left : (past : List Entry) (e : Entry) → Fits set_up past e → is_memory e.kind ≡ true → e.before ≡ left_by set_up past e.quad
  found_left past e f m = f.before ∙ if_true (is_memory e.kind) (left_by set_up past e.quad) (if is_get e.kind then input_at set_up.input (gets past) else 0) m

  reader_stands : (past : List Entry) (e : Entry) (quad : ℕ) → Fits set_up past e → writes e.kind e.success ≡ false → (b : Bool) → stands_on e quad ≡ b → (if b then e.after else left_by set_up past quad) ≡ left_by set_up past quad
  reader_stands past e quad f w true s =
      let memory = first_true (is_memory e.kind) (e.quad == quad) s in
      let at = eqb-true e.quad quad (second_true (is_memory e.kind) (e.quad == quad) s) in
      f.after ∙ unwritten e.kind e.success f.change e.before w memory ∙ found_left past e f memory ∙ ap (left_by set_up past) at
  reader_stands past e quad f w false s = refl

  pub reader_leaves : (past : List Entry) (e : Entry) (quad : ℕ) → Fits set_up past e → writes e.kind e.success ≡ false → left_by set_up (e ∷ past) quad ≡ left_by set_up past quad
  reader_leaves past e quad f w = reader_stands past e quad f w (stands_on e quad) refl

  -- ---- where a reservation stands and the processor's latest entry is a load-locked, its quadword is as that one found it

  after_locked : (past : List Entry) (e : Entry) (quad : ℕ) → Fits set_up past e → e.kind ≡ LoadLocked → e.quad ≡ quad → left_by set_up (e ∷ past) quad ≡ e.before
  after_locked past e quad f k at =
      let memory : is_memory e.kind ≡ true = ap is_memory k in
      let here : stands_on e quad ≡ true = rw (memory) (eq-eqb e.quad quad at) in
      if_true (stands_on e quad) e.after (left_by set_up past quad) here ∙ f.after ∙ unwritten e.kind e.success f.change e.before (ap (λ (k : Kind). writes k e.success) k) memory

  other_step : (w : Bool) (was : Bool) → (if w then false else was) ≡ true → (w ≡ false) × (was ≡ true)
  other_step true was h = absurd (cc h)
  other_step false was h = (refl, h)

  not_here : (w here : Bool) → (w && here) ≡ false → here ≡ true → w ≡ false
  not_here true here h t = absurd (cc (h, t))
  not_here false here h t = refl

  other_stands : (past : List Entry) (e : Entry) (quad : ℕ) → Fits set_up past e → (writes e.kind e.success && (block_of e.quad == block_of quad)) ≡ false
      → (b : Bool) → stands_on e quad ≡ b → (if b then e.after else left_by set_up past quad) ≡ left_by set_up past quad
  other_stands past e quad f w true s =
      let at = eqb-true e.quad quad (second_true (is_memory e.kind) (e.quad == quad) s) in
      let block : (block_of e.quad == block_of quad) ≡ true = eq-eqb (block_of e.quad) (block_of quad) (ap block_of at) in
      reader_stands past e quad f (not_here (writes e.kind e.success) (block_of e.quad == block_of quad) w block) true s
  other_stands past e quad f w false s = refl

  kept_step : (past : List Entry) (e : Entry) (p quad : ℕ) (locked : Entry) (older : List Entry) → Fits set_up past e
      → (reserved past p (block_of quad) ≡ true → own p past ≡ locked ∷ older → left_by set_up past quad ≡ locked.before)
      → (mine : Bool)
      → (if mine then reserved_by e.kind (block_of e.quad == block_of quad) (reserved past p (block_of quad)) else if writes e.kind e.success && (block_of e.quad == block_of quad) then false else reserved past p (block_of quad)) ≡ true
      → (if mine then e ∷ own p past else own p past) ≡ locked ∷ older → locked.kind ≡ LoadLocked → locked.quad ≡ quad
      → left_by set_up (e ∷ past) quad ≡ locked.before
  kept_step past e p quad locked older f later true r o k at =
      let same : e ≡ locked = cc o in
      after_locked past e quad f (ap (λ (x : Entry). x.kind) same ∙ k) (ap (λ (x : Entry). x.quad) same ∙ at) ∙ ap (λ (x : Entry). x.before) same
  kept_step past e p quad locked older f later false r o k at =
      let split = other_step (writes e.kind e.success && (block_of e.quad == block_of quad)) (reserved past p (block_of quad)) r in
      other_stands past e quad f split.0 (stands_on e quad) refl ∙ later split.1 o

  pub kept_reserved : (past : List Entry) (p quad : ℕ) (locked : Entry) (older : List Entry) → Meets set_up past → reserved past p (block_of quad) ≡ true → own p past ≡ locked ∷ older
      → locked.kind ≡ LoadLocked → locked.quad ≡ quad → left_by set_up past quad ≡ locked.before
  kept_reserved [] p quad locked older m r o k at = absurd (cc o)
  kept_reserved (e ∷ past) p quad locked older m r o k at =
      kept_step past e p quad locked older m.1 (λ r' o'. kept_reserved past p quad locked older m.0 r' o' k at) (e.processor == p) r o k at

  first_step : (past : List Entry) (e : Entry) (quad : ℕ) → Fits set_up past e → (b : Bool) → stands_on e quad ≡ b
      → (if b then e.before else if b then e.after else left_by set_up past quad) ≡ left_by set_up past quad
  first_step past e quad f true s =
      let memory = first_true (is_memory e.kind) (e.quad == quad) s in
      let at = eqb-true e.quad quad (second_true (is_memory e.kind) (e.quad == quad) s) in
      found_left past e f memory ∙ ap (left_by set_up past) at
  first_step past e quad f false s = refl

  opening_found : (entries : List Entry) (quad : ℕ) → Meets set_up entries → first_found entries quad (left_by set_up entries quad) ≡ opening set_up.image quad
  opening_found [] quad m = refl
  opening_found (e ∷ past) quad m = ap (first_found past quad) (first_step past e quad m.1 (stands_on e quad) refl) ∙ opening_found past quad m.0

  pub tail_meets : (later past : List Entry) → Meets set_up (later ++ past) → Meets set_up past
  tail_meets [] past m = m
  tail_meets (e ∷ later) past m = tail_meets later past m.0

pub opening_is_found : OpeningIsFound
opening_is_found set_up entries quad m = opening_found set_up entries quad m

pub beginnings_meet : BeginningsMeet
beginnings_meet set_up history later m = tail_meets set_up (reverse later) (reverse history) (subst (Meets set_up) (reverse-append history later) m)

succeeded : (kind : Kind) → kind ≡ StoreConditional → (stands miss : Bool) → (if is_conditional kind then stands && miss else true) ≡ true → stands ≡ true
succeeded kind k stands miss h = first_true stands miss (ap (λ (k : Kind). if is_conditional k then stands && miss else true) (sym k) ∙ h)

pub pairs_agree : PairsAgree
pairs_agree set_up past older locked conditional m k s o l at =
    let f = m.1 in
    let memory : is_memory conditional.kind ≡ true = ap is_memory k in
    let reserved_there = succeeded conditional.kind k (reserved past conditional.processor (block_of conditional.quad)) (not (strikes set_up.miss (suc (tries past conditional.processor)))) (sym f.success ∙ s) in
    found_left set_up past conditional f memory ∙ kept_reserved set_up past conditional.processor conditional.quad locked older m.0 reserved_there o l at
