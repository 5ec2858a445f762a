-- One history is the threads driven by its order.
use Rattle.std.proofs.Common.{◌≡◌, ◌≢◌, ℕ, suc, ◌+◌, ◌-◌, ◌%◌, ◌==◌, ◌&&◌, Bool, true, false, if◌then◌else◌, List, [], ◌∷◌, ◌++◌, Some, refl, sym, ap, ◌∙◌, subst, arith, lit<, eq-eqb}
use Rattle.std.specs.Int.{byte_at}
use Rattle.std.proofs.lemmas.Bool.Decides.{nat_tests}
use Rattle.std.proofs.lemmas.Nat.{mod_below}
use Rattle.std.proofs.lemmas.Bool.{eqb-true}
use Rattle.vax_form.specs.declared.state.Reference.{Reference}
use Rattle.vax_form.specs.declared.state.RefKind.{RefKind}
use Rattle.vax_form.specs.declared.state.RefKind.TheVariants.{Read, Write, Add, SetBit, ClearBit, Put, Get}
use Rattle.memory_core.specs.declared.entry.Kind.{Kind}
use Rattle.memory_core.specs.declared.entry.Kind.TheVariants as kinds
use Rattle.memory_core.specs.declared.entry.Entry.{Entry}
use Rattle.memory_core.specs.declared.entry.SetUp.{SetUp}
use Rattle.memory_core.specs.Changes as quadwords
use Rattle.memory_core.specs.Contents.{output_of}
use Rattle.memory_core.specs.Kinds.{is_memory, is_put, is_get, writes}
use Rattle.memory_core.specs.Opening.{opening}
use Rattle.memory_core.specs.Order.{own, stands_on, left_by, gets, found, Fits, Meets}
use Rattle.memory_core.proofs.Choices.{if_true, if_false, second_true}
use Rattle.memory_core.proofs.LookingBack.{found_left, reader_leaves}
use Rattle.vax_form.specs.References.{reply_by, changed_by, changed, AreBytes}
use Rattle.vax_form.specs.Made.{Made, bytes_after, output_by, output_after, gets_by, gets_after, input_at, replies_to, make}
use Rattle.vax_driven.specs.Threads.{Threads, wanted}
use Rattle.vax_driven.specs.Driven.{made_if, picked, walk}
use Rattle.vax_driven.proofs.Changing.{bytes_stay}
use Rattle.system_model.specs.Counted.{counts, is_counted, pick_of, order}
use Rattle.block_law.specs.References as block
use Rattle.block_law.specs.References.{is_of_memory}
use Rattle.system_model.specs.Quadwords.{quad_at, place_of, quad_address, change_of, reply_found, reply_from, IsAccess, IsOfKind}
use Rattle.legal_history.specs.Explained.{with_reply, replies_by, IsWanted, Explained}
use Rattle.system_model.specs.Matches.{InStep, IsSameAccess, IsSameKind, IsSame, KeepsOthers}
use Rattle.legal_history.specs.OneHistory.{image_bytes, world_of, IsDriven, OneHistory}
use Rattle.system_model.proofs.Quads.{byte_at-quad_at, quadword_changes, quadword_replies, other_quadwords_stay}
use Rattle.system_model.proofs.Neighbours.{neighbours_stay}

-- ---- choices

if_same : {A : Type 0} (b : Bool) (x y z : A) → (b ≡ true → x ≡ z) → (b ≡ false → y ≡ z) → (if b then x else y) ≡ z
if_same true x y z p q = p refl
if_same false x y z p q = q refl

other_place : (m : Bool) (a q : ℕ) → (m && (a == q)) ≡ false → m ≡ true → q ≢ a
other_place true a q h t = λ same. grind (arith, nat_tests)
other_place false a q h t = absurd (cc t)

-- ---- entries that aren't counted change nothing

silent_writes : (kind : Kind) (success : Bool) → counts kind success ≡ false → writes kind success ≡ false
silent_writes kinds.LoadLocked success c = refl
silent_writes kinds.StoreConditional success c = c
silent_writes kind success c = absurd (cc c)

silent_kind : (kind : Kind) (success : Bool) → counts kind success ≡ false → is_memory kind ≡ true
silent_kind kinds.Put success c = absurd (cc c)
silent_kind kinds.Get success c = absurd (cc c)
silent_kind kind success c = refl

no_put : (kind : Kind) → is_memory kind ≡ true → is_put kind ≡ false
no_put kinds.Put m = absurd (cc m)
no_put kind m = refl

no_get : (kind : Kind) → is_memory kind ≡ true → is_get kind ≡ false
no_get kinds.Get m = absurd (cc m)
no_get kind m = refl

memory_output : (past : List Entry) (e : Entry) → is_put e.kind ≡ false → output_of (e ∷ past) ≡ output_of past
memory_output past e h = rw h refl

put_output : (past : List Entry) (e : Entry) → is_put e.kind ≡ true → output_of (e ∷ past) ≡ e.after ∷ output_of past
put_output past e h = rw h refl

memory_gets : (past : List Entry) (e : Entry) → is_get e.kind ≡ false → gets (e ∷ past) ≡ gets past
memory_gets past e h = if_false (is_get e.kind) (suc (gets past)) (gets past) h

-- an entry of no quadword leaves each quadword
elsewhere_left : (set_up : SetUp) (past : List Entry) (e : Entry) (quad : ℕ) → is_memory e.kind ≡ false → left_by set_up (e ∷ past) quad ≡ left_by set_up past quad
elsewhere_left set_up past e quad h = rw h refl

-- what a thread's own entries are behind one more
own_of : (past : List Entry) (e : Entry) (thread : ℕ) → own thread (e ∷ past) ≡ (if e.processor == thread then e ∷ own thread past else own thread past)
own_of past e thread = refl

module _ (threads : Threads) (set_up : SetUp) where
  abbrev byte : ℕ → ℕ
  byte = image_bytes set_up

  -- the references made stand where the entries leave memory, output and input
  record StandsAs (made : List Made) (past : List Entry) : Type 0 where
    bytes : AreBytes (bytes_after byte made)
    quads : (quad : ℕ) → quad % 8 ≡ 0 → quad_at (bytes_after byte made) quad ≡ left_by set_up past quad
    output : output_after made ≡ output_of past
    gets : gets_after made ≡ gets past

  abbrev made_at : (made : List Made) (e : Entry) → Reference → Made
  made_at made e reference = make byte set_up.input made e.processor reference

  -- ---- an access

  names : (reference : Reference) (kind : RefKind) → reference.kind ≡ kind → is_of_memory kind ≡ true → is_of_memory reference.kind ≡ true
  names reference kind same n = ap is_of_memory same ∙ n

  access_output : (kind : RefKind) (output : List ℕ) → is_of_memory kind ≡ true → output_by kind output ≡ output
  access_output (Put value) output n = absurd (cc n)
  access_output Read output n = refl
  access_output (Write value) output n = refl
  access_output (Add value) output n = refl
  access_output (SetBit bit) output n = refl
  access_output (ClearBit bit) output n = refl
  access_output Get output n = refl

  access_gets : (kind : RefKind) (gets : ℕ) → is_of_memory kind ≡ true → gets_by kind gets ≡ gets
  access_gets Get gets n = absurd (cc n)
  access_gets (Put value) gets n = refl
  access_gets Read gets n = refl
  access_gets (Write value) gets n = refl
  access_gets (Add value) gets n = refl
  access_gets (SetBit bit) gets n = refl
  access_gets (ClearBit bit) gets n = refl

  aligned : (address : ℕ) → (address - address % 8) % 8 ≡ 0
  aligned address = omega arith

  module _ (made : List Made) (past : List Entry) (e : Entry) (reference : Reference) (fits : Fits set_up past e) (stands : StandsAs made past) where
    abbrev here : ℕ → ℕ
    here = bytes_after byte made

    -- what the access found is the quadword of the bytes
    was : IsAccess reference e → quad_at here (quad_address reference) ≡ e.before
    was is = stands.quads (quad_address reference) (aligned reference.address) ∙ ap (left_by set_up past) (sym is.quad) ∙ sym (found_left set_up past e fits is.memory)

    becomes : IsAccess reference e → is_of_memory reference.kind ≡ true → quad_at (changed reference here) (quad_address reference) ≡ e.after
    becomes is n = quadword_changes reference here is.fits stands.bytes n ∙ ap (quadwords.changed (change_of reference)) (was is) ∙ sym is.after

    access_step : IsAccess reference e → is_of_memory reference.kind ≡ true → StandsAs (made_at made e reference ∷ made) (e ∷ past)
    access_step is n = record {
      bytes = bytes_stay reference here is.fits stands.bytes;
      quads = λ quad al.
          sym (if_same (stands_on e quad) e.after (left_by set_up past quad) (quad_at (changed reference here) quad)
          (λ s.
          let at : quad_address reference ≡ quad = sym is.quad ∙ eqb-true e.quad quad (second_true (is_memory e.kind) (e.quad == quad) s) in
          sym (subst (λ q. quad_at (changed reference here) q ≡ e.after) at (becomes is n)))
          (λ s.
          let other : quad ≢ quad_address reference = subst (λ a. quad ≢ a) is.quad (other_place (is_memory e.kind) e.quad quad s is.memory) in
          sym (other_quadwords_stay reference here quad is.fits al other ∙ stands.quads quad al)));
      output = access_output reference.kind (output_after made) n ∙ stands.output ∙ sym (memory_output past e (no_put e.kind is.memory));
      gets = access_gets reference.kind (gets_after made) n ∙ stands.gets ∙ sym (memory_gets past e (no_get e.kind is.memory));
    }

    access_reply : IsAccess reference e → is_of_memory reference.kind ≡ true → (made_at made e reference).reply ≡ reply_from reference e
    access_reply is n =
        quadword_replies reference here (input_at set_up.input (gets_after made)) is.fits stands.bytes n ∙ ap (reply_found reference) (was is)

    access_same : IsAccess reference e → is_of_memory reference.kind ≡ true → IsSameAccess here reference e
    access_same is n = record {
      memory = is.memory;
      quad = is.quad;
      before = sym (was is) ∙ ap (quad_at here) (sym is.quad);
      after = sym (becomes is n) ∙ ap (quad_at (changed reference here)) (sym is.quad);
    }

    -- ---- a PUT and a GET

    plain_step : AreBytes (changed reference here) → ((quad : ℕ) → quad_at (changed reference here) quad ≡ quad_at here quad) → is_memory e.kind ≡ false
        → output_by reference.kind (output_after made) ≡ output_of (e ∷ past) → gets_by reference.kind (gets_after made) ≡ gets (e ∷ past)
        → StandsAs (made_at made e reference ∷ made) (e ∷ past)
    plain_step are same m o g = record {
      bytes = are;
      quads = λ quad al. same quad ∙ stands.quads quad al ∙ sym (elsewhere_left set_up past e quad m);
      output = o;
      gets = g;
    }

    unchanged : (kind : RefKind) → reference.kind ≡ kind → changed_by kind here reference.address reference.count ≡ here → changed reference here ≡ here
    unchanged kind same is = ap (λ k. changed_by k here reference.address reference.count) same ∙ is

    found_input : e.kind ≡ kinds.Get → e.before ≡ input_at set_up.input (gets past)
    found_input k = fits.before ∙ ap (λ k. found set_up past k e.quad) k

    left_input : e.kind ≡ kinds.Get → e.after ≡ e.before
    left_input k = fits.after ∙ ap (λ k. quadwords.leaves k e.success fits.change e.before) k

    step_by : (kind : RefKind) → reference.kind ≡ kind → IsOfKind kind reference e → StandsAs (made_at made e reference ∷ made) (e ∷ past)
    step_by Read same is = access_step is (names reference Read same refl)
    step_by (Write value) same is = access_step is (names reference (Write value) same refl)
    step_by (Add value) same is = access_step is (names reference (Add value) same refl)
    step_by (SetBit bit) same is = access_step is (names reference (SetBit bit) same refl)
    step_by (ClearBit bit) same is = access_step is (names reference (ClearBit bit) same refl)
    step_by (Put value) same is =
        let still = unchanged (Put value) same refl in
        plain_step (subst AreBytes (sym still) stands.bytes) (λ quad. ap (λ b. quad_at b quad) still) (ap is_memory is.0)
        (ap (λ k. output_by k (output_after made)) same ∙ ap (λ v. v ∷ output_after made) (sym is.1) ∙ ap (λ o. e.after ∷ o) stands.output ∙ sym (put_output past e (ap is_put is.0)))
        (ap (λ k. gets_by k (gets_after made)) same ∙ stands.gets ∙ sym (memory_gets past e (ap is_get is.0)))
    step_by Get same is =
        let still = unchanged Get same refl in
        plain_step (subst AreBytes (sym still) stands.bytes) (λ quad. ap (λ b. quad_at b quad) still) (ap is_memory is)
        (ap (λ k. output_by k (output_after made)) same ∙ stands.output ∙ sym (memory_output past e (ap is_put is)))
        (ap (λ k. gets_by k (gets_after made)) same ∙ ap suc stands.gets ∙ sym (if_true (is_get e.kind) (suc (gets past)) (gets past) (ap is_get is)))

    reply_as : (kind : RefKind) → reference.kind ≡ kind → IsOfKind kind reference e → (made_at made e reference).reply ≡ reply_from reference e
    reply_as Read same is = access_reply is (names reference Read same refl)
    reply_as (Write value) same is = access_reply is (names reference (Write value) same refl)
    reply_as (Add value) same is = access_reply is (names reference (Add value) same refl)
    reply_as (SetBit bit) same is = access_reply is (names reference (SetBit bit) same refl)
    reply_as (ClearBit bit) same is = access_reply is (names reference (ClearBit bit) same refl)
    reply_as (Put value) same is =
        ap (λ k. reply_by k here (input_at set_up.input (gets_after made)) reference.address reference.count) same
        ∙ sym (ap (λ k. block.reply_by k (place_of reference) reference.count e.before) same)
    reply_as Get same is =
        ap (λ k. reply_by k here (input_at set_up.input (gets_after made)) reference.address reference.count) same
        ∙ ap (input_at set_up.input) stands.gets ∙ sym (found_input is)
        ∙ sym (ap (λ k. block.reply_by k (place_of reference) reference.count e.before) same)

    same_as : (kind : RefKind) → reference.kind ≡ kind → IsOfKind kind reference e → IsSameKind kind here (made_at made e reference) e
    same_as Read same is = access_same is (names reference Read same refl)
    same_as (Write value) same is = access_same is (names reference (Write value) same refl)
    same_as (Add value) same is = access_same is (names reference (Add value) same refl)
    same_as (SetBit bit) same is = access_same is (names reference (SetBit bit) same refl)
    same_as (ClearBit bit) same is = access_same is (names reference (ClearBit bit) same refl)
    same_as (Put value) same is = is
    same_as Get same is =
        (is, left_input is ∙ sym (reply_as Get same is ∙ ap (λ k. block.reply_by k (place_of reference) reference.count e.before) same))

  -- ---- one more entry

  walk_more : (past : List Entry) (e : Entry) (made : List Made) (reference : Reference) → is_counted e ≡ true → walk (world_of threads set_up) (order past) ≡ Some made
      → wanted threads e.processor e.retired (replies_to e.processor made) ≡ Some reference → walk (world_of threads set_up) (order (e ∷ past)) ≡ Some (made_at made e reference ∷ made)
  walk_more past e made reference c walked want =
      rw c (ap (λ o. picked (world_of threads set_up) o (pick_of e)) walked ∙ ap (made_if (world_of threads set_up) made e.processor) want)

  walk_silent : (past : List Entry) (e : Entry) → is_counted e ≡ false → walk (world_of threads set_up) (order (e ∷ past)) ≡ walk (world_of threads set_up) (order past)
  walk_silent past e c = rw c refl

  -- the replies of one thread's own counted entry
  own_reply : (thread : ℕ) (mine : List Entry) (e : Entry) (reference : Reference) → is_counted e ≡ true → wanted threads thread e.retired (replies_by threads thread mine) ≡ Some reference
      → replies_by threads thread (e ∷ mine) ≡ replies_by threads thread mine ++ reply_from reference e ∷ []
  own_reply thread mine e reference c want =
      let old = replies_by threads thread mine in
      if_true (is_counted e) (with_reply old e (wanted threads thread e.retired old)) old c ∙ ap (with_reply old e) want

  own_silent : (thread : ℕ) (mine : List Entry) (e : Entry) → is_counted e ≡ false → replies_by threads thread (e ∷ mine) ≡ replies_by threads thread mine
  own_silent thread mine e c = if_false (is_counted e) (with_reply (replies_by threads thread mine) e (wanted threads thread e.retired (replies_by threads thread mine))) (replies_by threads thread mine) c

  replies_more : (past : List Entry) (e : Entry) (made : List Made) (reference : Reference) (reply : ℕ) → is_counted e ≡ true → reply ≡ reply_from reference e
      → ((t : ℕ) → replies_to t made ≡ replies_by threads t (own t past))
      → wanted threads e.processor e.retired (replies_by threads e.processor (own e.processor past)) ≡ Some reference
      → (t : ℕ) (b : Bool) → (e.processor == t) ≡ b
      → (if b then replies_to t made ++ reply ∷ [] else replies_to t made) ≡ replies_by threads t (if b then e ∷ own t past else own t past)
  replies_more past e made reference reply c is before want t true h =
      let at : e.processor ≡ t = eqb-true e.processor t h in
      let there : wanted threads t e.retired (replies_by threads t (own t past)) ≡ Some reference = subst (λ n. wanted threads n e.retired (replies_by threads n (own n past)) ≡ Some reference) at want in
      ap (λ r. r ++ reply ∷ []) (before t) ∙ ap (λ v. replies_by threads t (own t past) ++ v ∷ []) is ∙ sym (own_reply t (own t past) e reference c there)
  replies_more past e made reference reply c is before want t false h = before t

  replies_silent : (past : List Entry) (e : Entry) → is_counted e ≡ false → (t : ℕ) (b : Bool)
      → replies_by threads t (if b then e ∷ own t past else own t past) ≡ replies_by threads t (own t past)
  replies_silent past e c t true = own_silent t (own t past) e c
  replies_silent past e c t false = refl

  memory_of : (made : List Made) (past : List Entry) → StandsAs made past → (at : ℕ) → bytes_after byte made at ≡ byte_at (at % 8) (left_by set_up past (at - at % 8))
  memory_of made past stands at =
      let e : at - at % 8 + at % 8 ≡ at = omega arith in
      ap (bytes_after byte made) (sym e) ∙ sym (byte_at-quad_at (bytes_after byte made) (at - at % 8) (at % 8) stands.bytes (mod_below at 8 (lit< tt)))
      ∙ ap (byte_at (at % 8)) (stands.quads (at - at % 8) (aligned at))

  in_step : (Holds : Entry → Made → List Made → Type 0) (past : List Entry) (e : Entry) (m : Made) (before : List Made) → is_counted e ≡ true → Holds e m before → InStep Holds past before
      → InStep Holds (e ∷ past) (m ∷ before)
  in_step Holds past e m before c holds rest = rw c (m, before, refl, holds, rest)

  out_of_step : (Holds : Entry → Made → List Made → Type 0) (past : List Entry) (e : Entry) (made : List Made) → is_counted e ≡ false → InStep Holds past made → InStep Holds (e ∷ past) made
  out_of_step Holds past e made c rest = rw c rest

  standing : (past : List Entry) (d : IsDriven threads set_up past) → StandsAs d.made past
  standing past d = record { bytes = d.bytes; quads = d.quads; output = d.output; gets = d.gets }

  counted_step : (past : List Entry) (e : Entry) → is_counted e ≡ true → Fits set_up past e → IsDriven threads set_up past
      → IsWanted threads e.processor (replies_by threads e.processor (own e.processor past)) e → IsDriven threads set_up (e ∷ past)
  counted_step past e c fits d x =
      let r = x.reference in
      let m = made_at d.made e r in
      let stands = standing past d in
      let next : StandsAs (m ∷ d.made) (e ∷ past) = step_by d.made past e r fits stands r.kind refl x.of in
      let reply : m.reply ≡ reply_from r e = reply_as d.made past e r fits stands r.kind refl x.of in
      let want : wanted threads e.processor e.retired (replies_to e.processor d.made) ≡ Some r = ap (wanted threads e.processor e.retired) (d.replies e.processor) ∙ x.wants in
      record {
        made = m ∷ d.made;
        walked = walk_more past e d.made r c d.walked want;
        bytes = next.bytes;
        quads = next.quads;
        memory = memory_of (m ∷ d.made) (e ∷ past) next;
        output = next.output;
        gets = next.gets;
        replies = λ t. replies_more past e d.made r m.reply c reply d.replies x.wants t (e.processor == t) refl;
        matches = in_step (λ e m past. IsSame (bytes_after byte past) m e) past e m d.made c
            (record { thread = refl; kind = same_as d.made past e r fits stands r.kind refl x.of }) d.matches;
        neighbours = in_step (λ e m past. KeepsOthers e m.reference) past e m d.made c (neighbours_stay r e x.of) d.neighbours;
      }

  silent_step : (past : List Entry) (e : Entry) → is_counted e ≡ false → Fits set_up past e → IsDriven threads set_up past → IsDriven threads set_up (e ∷ past)
  silent_step past e c fits d =
      let memory = silent_kind e.kind e.success c in
      let left : (quad : ℕ) → left_by set_up (e ∷ past) quad ≡ left_by set_up past quad = λ quad. reader_leaves set_up past e quad fits (silent_writes e.kind e.success c) in
      record {
        made = d.made;
        walked = walk_silent past e c ∙ d.walked;
        bytes = d.bytes;
        quads = λ quad al. d.quads quad al ∙ sym (left quad);
        memory = λ at. d.memory at ∙ ap (byte_at (at % 8)) (sym (left (at - at % 8)));
        output = d.output ∙ sym (memory_output past e (no_put e.kind memory));
        gets = d.gets ∙ sym (memory_gets past e (no_get e.kind memory));
        replies = λ t. d.replies t ∙ sym (replies_silent past e c t (e.processor == t));
        matches = out_of_step (λ e m past. IsSame (bytes_after byte past) m e) past e d.made c d.matches;
        neighbours = out_of_step (λ e m past. KeepsOthers e m.reference) past e d.made c d.neighbours;
      }

  -- ---- what each thread is owed

  explained_at : (past : List Entry) (e : Entry) → ((t : ℕ) → Explained threads t (own t (e ∷ past))) → Explained threads e.processor (e ∷ own e.processor past)
  explained_at past e x =
      subst (λ (b : Bool). Explained threads e.processor (if b then e ∷ own e.processor past else own e.processor past)) (eq-eqb e.processor e.processor refl) (x e.processor)

  drop_newest : (t : ℕ) (e : Entry) (mine : List Entry) (b : Bool) → Explained threads t (if b then e ∷ mine else mine) → Explained threads t mine
  drop_newest t e mine true x = x.0
  drop_newest t e mine false x = x

  explained_past : (past : List Entry) (e : Entry) → ((t : ℕ) → Explained threads t (own t (e ∷ past))) → (t : ℕ) → Explained threads t (own t past)
  explained_past past e x t = drop_newest t e (own t past) (e.processor == t) (x t)

  step : (past : List Entry) (e : Entry) → Fits set_up past e → IsDriven threads set_up past → Explained threads e.processor (e ∷ own e.processor past)
      → (b : Bool) → is_counted e ≡ b → IsDriven threads set_up (e ∷ past)
  step past e fits d x true c = counted_step past e c fits d (x.1 c)
  step past e fits d x false c = silent_step past e c fits d

  opens : (quad : ℕ) → quad_at byte quad ≡ opening set_up.image quad
  unfolding opening
  opens quad = refl

  begun : AreBytes byte → IsDriven threads set_up []
  begun are =
      let stands : StandsAs [] [] = record { bytes = are; quads = λ quad _. opens quad; output = refl; gets = refl } in
      record {
        made = [];
        walked = refl;
        bytes = are;
        quads = stands.quads;
        memory = memory_of [] [] stands;
        output = refl;
        gets = refl;
        replies = λ t. refl;
        matches = tt;
        neighbours = tt;
      }

  all_entries : (entries : List Entry) → AreBytes byte → Meets set_up entries → ((t : ℕ) → Explained threads t (own t entries)) → IsDriven threads set_up entries
  all_entries [] are meets x = begun are
  all_entries (e ∷ past) are meets x =
      step past e meets.1 (all_entries past are meets.0 (explained_past past e x)) (explained_at past e x) (is_counted e) refl

pub one_history : OneHistory
one_history threads set_up entries are meets x = all_entries threads set_up entries are meets x
