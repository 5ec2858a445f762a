-- What an entry makes of what a memory keeps.
use Rattle.std.proofs.Common.{◌≡◌, ◌≢◌, ℕ, suc, ◌<◌, ◌-◌, ◌%◌, ◌==◌, ◌&&◌, Bool, true, false, if◌then◌else◌, List, [], ◌∷◌, ◌++◌, length, Option, Some, None, slice_index_or, slice_set, map, reverse, refl, sym, ap, ◌∙◌, arith}
use Rattle.std.proofs.lemmas.Bool.Decides.{nat_tests}
use Rattle.std.proofs.lemmas.Grind.{elements}
use Rattle.std.proofs.lemmas.List.{length-set, reverse-append}
use Rattle.std.proofs.lemmas.Bool.{eqb-true, eqb-false}
use Rattle.vax_form.specs.declared.pages.PageRange.{PageRange}
use Rattle.memory_core.specs.declared.entry.Kind.{Kind}
use Rattle.memory_core.specs.declared.entry.Kind.TheVariants.{LoadLocked, StoreConditional}
use Rattle.memory_core.specs.declared.entry.Entry.{Entry}
use Rattle.memory_core.specs.declared.entry.SetUp.{SetUp}
use Rattle.memory_core.specs.declared.reservation.Reservation.{Reservation}
use Rattle.memory_core.specs.Kinds.{is_memory, writes, is_conditional, is_put}
use Rattle.memory_core.specs.Contents.{output_of}
use Rattle.memory_core.specs.Order.{left_by, block_of, reserved_by, reserved, tries}
use Rattle.memory_core.specs.Places.{quad_place}
use Rattle.memory_core.specs.Reservations.{holds, next_tries, counted_tries, own_next, other_next, next_reservation}
use Rattle.memory_core.specs.Fields.{IsKept, IsAt, AreCurrent, stored_at}
use Rattle.memory_core.proofs.Limits.{output_of-append}
use Rattle.memory_core.proofs.Placing.{quad_of_place, place_of_quad}

-- ---- reservations

cleared : (w : Bool) (c block b n : ℕ) → holds (other_next w block (record { block = Some c; tries = n })).block b ≡ (if w && (block == b) then false else c == b)
cleared true c block b n = cleared_if (c == block) refl where
  cleared_if : (t : Bool) → (c == block) ≡ t → holds (if t then (let r : Reservation = record { block = None; tries = n } in r) else record { block = Some c; tries = n }).block b ≡ (if block == b then false else c == b)
  cleared_if true h = grind (arith, nat_tests)
  cleared_if false h = grind (arith, nat_tests)
cleared false c block b n = refl

uncleared : (w here : Bool) (n block b : ℕ) → holds (other_next w block (record { block = None; tries = n })).block b ≡ (if w && here then false else false)
uncleared true true n block b = refl
uncleared true false n block b = refl
uncleared false here n block b = refl

other_holds : (w : Bool) (block b n : ℕ) (o : Option ℕ) → holds (other_next w block (record { block = o; tries = n })).block b ≡ (if w && (block == b) then false else holds o b)
other_holds w block b n None = uncleared w (block == b) n block b
other_holds w block b n (Some c) = cleared w c block b n

own_holds : (miss : ℕ) (kind : Kind) (block b : ℕ) (r : Reservation) → holds (own_next miss kind block r).block b ≡ reserved_by kind (block == b) (holds r.block b)
own_holds miss LoadLocked block b r = refl
own_holds miss StoreConditional block b r = refl
own_holds miss _ block b r = refl

other_tries : (w : Bool) (block : ℕ) (r : Reservation) → (other_next w block r).tries ≡ r.tries
other_tries false block r = refl
other_tries true block r = if_tries (holds r.block block) where
  if_tries : (t : Bool) → (if t then (let c : Reservation = record { block = None; tries = r.tries } in c) else r).tries ≡ r.tries
  if_tries true = refl
  if_tries false = refl

own_tries : (miss : ℕ) (kind : Kind) (block : ℕ) (r : Reservation) → (own_next miss kind block r).tries ≡ (if is_conditional kind then next_tries miss r.tries else r.tries)
own_tries miss StoreConditional block r = refl
own_tries miss _ block r = refl

if_counted : (b : Bool) (miss n : ℕ) → counted_tries miss (if b then suc n else n) ≡ (if b then next_tries miss (counted_tries miss n) else counted_tries miss n)
if_counted true miss n = refl
if_counted false miss n = refl

module _ (miss : ℕ) (past : List Entry) (e : Entry) (p : ℕ) (r : Reservation) (k : IsKept miss past p r) where
  block_step : (own : Bool) (b : ℕ) → (if own then reserved_by e.kind (block_of e.quad == b) (reserved past p b) else if writes e.kind e.success && (block_of e.quad == b) then false else reserved past p b)
      ≡ holds (if own then own_next miss e.kind (block_of e.quad) r else other_next (writes e.kind e.success) (block_of e.quad) r).block b
  block_step true b = ap (reserved_by e.kind (block_of e.quad == b)) (k.block b) ∙ sym (own_holds miss e.kind (block_of e.quad) b r)
  block_step false b = ap (λ (was : Bool). if writes e.kind e.success && (block_of e.quad == b) then false else was) (k.block b) ∙ sym (other_holds (writes e.kind e.success) (block_of e.quad) b r.tries r.block)

  tries_step : (own : Bool) → counted_tries miss (if own && is_conditional e.kind then suc (tries past p) else tries past p) ≡ (if own then own_next miss e.kind (block_of e.quad) r else other_next (writes e.kind e.success) (block_of e.quad) r).tries
  tries_step true =
      if_counted (is_conditional e.kind) miss (tries past p)
      ∙ ap (λ (n : ℕ). if is_conditional e.kind then next_tries miss n else n) k.tries
      ∙ sym (own_tries miss e.kind (block_of e.quad) r)
  tries_step false = k.tries ∙ sym (other_tries (writes e.kind e.success) (block_of e.quad) r)

  -- the flag and the look back go the same way
  pub kept_more : IsKept miss (e ∷ past) p (next_reservation miss e p r)
  kept_more = record { block = block_step (e.processor == p); tries = tries_step (e.processor == p) }

-- ---- quadwords

set_other : (xs : List ℕ) (i j v : ℕ) → i ≢ j → slice_index_or (slice_set xs i v) j 0 ≡ slice_index_or xs j 0
set_other xs i j v h = grind (arith, elements, nat_tests)

set_here : (xs : List ℕ) (i v : ℕ) → i < length xs → slice_index_or (slice_set xs i v) i 0 ≡ v
set_here xs i v h = grind (arith, elements, nat_tests)

length-stored_at : (o : Option ℕ) (v : ℕ) (quads : List ℕ) → length (stored_at o v quads) ≡ length quads
length-stored_at None v quads = refl
length-stored_at (Some i) v quads = length-set quads i v

stored_other : (o : Option ℕ) (v : ℕ) (quads : List ℕ) (j : ℕ) → ((i : ℕ) → o ≡ Some i → i ≢ j) → slice_index_or (stored_at o v quads) j 0 ≡ slice_index_or quads j 0
stored_other None v quads j h = refl
stored_other (Some i) v quads j h = set_other quads i j v (h i refl)

-- the quadwords behind an entry
abbrev pub after_entry : List PageRange → List ℕ → Entry → List ℕ
after_entry ranges quads e = if is_memory e.kind then stored_at (quad_place ranges e.quad) e.after quads else quads

module _ (set_up : SetUp) (past : List Entry) (quads : List ℕ) (e : Entry) (aligned : is_memory e.kind ≡ true → e.quad % 8 ≡ 0) (c : AreCurrent set_up past quads) where
  ranges : List PageRange
  ranges = set_up.image.pages.ranges

  current_here : (address place : ℕ) → quad_place set_up.image.pages.ranges address ≡ Some place → e.quad ≡ address - address % 8
      → IsAt set_up past quads address place → slice_index_or (stored_at (quad_place set_up.image.pages.ranges e.quad) e.after quads) place 0 ≡ e.after
  current_here address place p here at =
      let there : quad_place set_up.image.pages.ranges e.quad ≡ Some place = ap (quad_place set_up.image.pages.ranges) here ∙ place_of_quad set_up.image.pages.ranges address ∙ p in
      let within = at.within in
      rw there (set_here quads place e.after within)

  current_there : (address place : ℕ) → quad_place set_up.image.pages.ranges address ≡ Some place → e.quad % 8 ≡ 0 → e.quad ≢ address - address % 8
      → slice_index_or (stored_at (quad_place set_up.image.pages.ranges e.quad) e.after quads) place 0 ≡ slice_index_or quads place 0
  current_there address place p al there =
      stored_other (quad_place set_up.image.pages.ranges e.quad) e.after quads place
      (λ i h same. there (let q = quad_of_place set_up.image.pages.ranges e.quad address place (h ∙ ap (λ (v : ℕ). Some v) same) p in omega (arith, q, al)))

  current_step : (memory : Bool) → (memory ≡ true → e.quad % 8 ≡ 0) → (address place : ℕ) → quad_place set_up.image.pages.ranges address ≡ Some place → IsAt set_up past quads address place
      → (same : Bool) → (e.quad == address - address % 8) ≡ same
      → slice_index_or (if memory then stored_at (quad_place set_up.image.pages.ranges e.quad) e.after quads else quads) place 0 ≡ (if memory && same then e.after else left_by set_up past (address - address % 8))
  current_step false al address place p at same h = at.is
  current_step true al address place p at true h = current_here address place p (eqb-true e.quad (address - address % 8) h) at
  current_step true al address place p at false h = current_there address place p (al refl) (eqb-false e.quad (address - address % 8) h) ∙ at.is

  length-after_entry : (memory : Bool) → length (if memory then stored_at (quad_place set_up.image.pages.ranges e.quad) e.after quads else quads) ≡ length quads
  length-after_entry true = length-stored_at (quad_place set_up.image.pages.ranges e.quad) e.after quads
  length-after_entry false = refl

  pub current_more : AreCurrent set_up (e ∷ past) (after_entry set_up.image.pages.ranges quads e)
  current_more address place p =
      let at = c address place p in
      let within = at.within in
      record {
        within = omega (arith, length-after_entry (is_memory e.kind), within);
        is = current_step (is_memory e.kind) aligned address place p at (e.quad == address - address % 8) refl;
      }

-- ---- input, output and counts

pub reverse-push : {A : Type 0} (xs : List A) (x : A) → reverse (xs ++ x ∷ []) ≡ x ∷ reverse xs
reverse-push xs x = reverse-append xs (x ∷ [])

filter_one : (b : Bool) (e : Entry) → map (λ (x : Entry). x.after) (if b then e ∷ [] else []) ≡ (if b then e.after ∷ [] else [])
filter_one true e = refl
filter_one false e = refl

pub output_of-push : (history : List Entry) (e : Entry) → output_of (history ++ e ∷ []) ≡ output_of history ++ (if is_put e.kind then e.after ∷ [] else [])
output_of-push history e =
    output_of-append history (e ∷ [])
    ∙ ap (λ (ys : List ℕ). output_of history ++ ys) (filter_one (is_put e.kind) e)
