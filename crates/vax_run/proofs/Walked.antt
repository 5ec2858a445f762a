-- The references made along an order.
use Rattle.std.proofs.Common.{◌≡◌, ℕ, suc, ◌<◌, ◌≤◌, ◌+◌, Bool, true, false, List, [], ◌∷◌, ◌++◌, length, take, drop, reverse, map, Option, Some, None, get_or, slice_set, refl, sym, ap, ◌∙◌, subst, arith}
use Rattle.std.proofs.Math.Seq.{take-suc, take-length}
use Rattle.std.proofs.lemmas.List.{length-map, length-reverse, reverse-append, take-append-drop}
use Rattle.std.proofs.lemmas.Grind.{reverse_onto}
use Rattle.image_file.specs.Memory.{byte_in}
use Rattle.image_file.specs.Values.{ImageValue}
use Rattle.vax_form.specs.declared.state.Pick.{Pick}
use Rattle.vax_form.specs.declared.state.Reference.{Reference}
use Rattle.vax_form.specs.declared.state.RefKind.{RefKind}
use Rattle.vax_form.specs.declared.state.RefKind.TheVariants.{Read, Write, Add, SetBit, ClearBit, Put, Get}
use Rattle.vax_driven.specs.Driven.{made_if, picked, walk}
use Rattle.vax_meaning.specs.Made.{Made, bytes_after, output_by, output_after, gets_by, gets_after, input_at, replies_to, make}
use Rattle.vax_meaning.specs.References.{reply_of, changed}
use Rattle.vax_driven.specs.Threads.{wanted_at, wanted}
use Rattle.vax_run.specs.Memory.{byte_of, put_by}
use Rattle.vax_run.specs.Threads.{after_of, IsPlaceOf, AreThreads}
use Rattle.vax_run.specs.Values.{threads_of, world_of}
use Rattle.vax_run.specs.World.{IsLeft, IsWalked}
use Rattle.vax_run.specs.declared.advance.Place.{Place}
use Rattle.vax_run.specs.declared.thread.Thread.{Thread}
use Rattle.vax_run.specs.declared.world.World.{World}
use Rattle.vax_run.proofs.Standing.{thread_among, none_beyond, reached_is, nothing_wanted, threads_on, taken_on}

reverse_more : (order : List Pick) (i : ℕ) (d : Pick) → i < length order → reverse (take (i + 1) order) ≡ get_or order i d ∷ reverse (take i order)
reverse_more order i d below =
    let e : i + 1 ≡ suc i = omega arith in
    ap (λ n. reverse (take n order)) e ∙ ap reverse (take-suc order i d below) ∙ reverse-append (take i order) (get_or order i d ∷ [])

put_turns : (kind : RefKind) (out : List ℕ) → put_by kind (reverse out) ≡ reverse (output_by kind out)
put_turns Read out = refl
put_turns (Write value) out = refl
put_turns (Add value) out = refl
put_turns (SetBit bit) out = refl
put_turns (ClearBit bit) out = refl
put_turns (Put value) out = sym (reverse_onto out value [])
put_turns Get out = refl

gets_one : (kind : RefKind) (gets : ℕ) → gets_by kind gets ≤ gets + 1
gets_one Read gets = omega arith
gets_one (Write value) gets = omega arith
gets_one (Add value) gets = omega arith
gets_one (SetBit bit) gets = omega arith
gets_one (ClearBit bit) gets = omega arith
gets_one (Put value) gets = omega arith
gets_one Get gets = omega arith

gets_few : (made : List Made) → gets_after made ≤ length made
gets_few [] = omega arith
gets_few (m ∷ made) = let few = gets_few made in omega (arith, gets_one m.reference.kind (gets_after made))

-- no more input bytes than references
pub gets_below : (image : ImageValue) (made : List Made) (world : World) → IsLeft image made world → world.memory.gets ≤ length world.references.items
gets_below image made world left =
    let few = gets_few made in
    let e : world.memory.gets ≡ gets_after made = left.gets in
    let all : length world.references.items ≡ length made =
    ap length left.references ∙ length-reverse (map (λ (m : Made). m.reference) made) ∙ length-map made (λ (m : Made). m.reference) in
    omega arith

module _ (image : ImageValue) (input : List ℕ) where
  nothing_picked : (made : List Made) (pick : Pick) (new : World) → wanted (threads_of image) pick.thread pick.retired (replies_to pick.thread made) ≡ None
      → IsWalked image (picked (world_of image input) (Some made) pick) false new
  nothing_picked made pick new none = subst (λ o. IsWalked image (made_if (world_of image input) made pick.thread o) false new) (sym none) refl

  -- a pick of no thread
  pub no_thread : (made : List Made) (pick : Pick) (old new : World) → IsLeft image made old → length old.threads.items ≤ pick.thread
      → IsWalked image (picked (world_of image input) (Some made) pick) false new
  no_thread made pick old new left above =
      nothing_picked made pick new (nothing_wanted image made pick.thread pick.retired (none_beyond image made 0 pick.thread image.threads old.threads.items left.threads above))

  -- a pick whose thread wants nothing
  pub no_reference : (made : List Made) (pick : Pick) (old new : World) (t : Thread) → IsLeft image made old → pick.thread < length old.threads.items
      → t ≡ get_or old.threads.items pick.thread t → wanted_at (threads_of image) pick.thread (after_of image pick.thread t pick.retired) ≡ None
      → IsWalked image (picked (world_of image input) (Some made) pick) false new
  no_reference made pick old new t left below is none =
      let among = thread_among image made 0 pick.thread image.threads old.threads.items t left.threads below is in
      nothing_picked made pick new (ap (wanted_at (threads_of image) pick.thread) (reached_is image made pick.thread pick.retired t among) ∙ none)

  -- a pick whose reference was made
  pub made_on : (made : List Made) (pick : Pick) (reference : Reference) (reply : ℕ) (place : Place) (old new : World) (t taken : Thread) → IsLeft image made old
      → pick.thread < length old.threads.items → t ≡ get_or old.threads.items pick.thread t
      → wanted_at (threads_of image) pick.thread (after_of image pick.thread t pick.retired) ≡ Some reference
      → IsPlaceOf image pick.thread t pick.retired place
      → reply ≡ reply_of reference (byte_of image old.memory) (input_at input old.memory.gets)
      → byte_of image new.memory ≡ changed reference (byte_of image old.memory)
      → new.memory.gets ≡ gets_by reference.kind old.memory.gets
      → new.memory.output.items ≡ put_by reference.kind old.memory.output.items
      → new.references.items ≡ old.references.items ++ reference ∷ []
      → new.threads.items ≡ slice_set old.threads.items pick.thread taken
      → taken.start ≡ t.start → taken.replies.items ≡ t.replies.items ++ reply ∷ [] → taken.place ≡ place → taken.retired ≡ pick.retired
      → IsWalked image (picked (world_of image input) (Some made) pick) true new
  made_on made pick reference reply place old new t taken left below is wants stands replied bytes gets output references threads start replies here retired =
      let among = thread_among image made 0 pick.thread image.threads old.threads.items t left.threads below is in
      let asked : wanted (threads_of image) pick.thread pick.retired (replies_to pick.thread made) ≡ Some reference =
      ap (wanted_at (threads_of image) pick.thread) (reached_is image made pick.thread pick.retired t among) ∙ wants in
      let m = make (byte_in image) input made pick.thread reference in
      let same : reply ≡ m.reply = replied ∙ ap (λ (b : ℕ → ℕ). reply_of reference b (input_at input old.memory.gets)) left.bytes
      ∙ ap (λ g. reply_of reference (bytes_after (byte_in image) made) (input_at input g)) left.gets in
      let at : m.thread ≡ 0 + pick.thread = omega arith in
      let after_it : IsLeft image (m ∷ made) new = record {
        threads = subst (AreThreads image 0 (m ∷ made) image.threads) (sym threads)
            (threads_on image made m 0 pick.thread image.threads old.threads.items t taken at below is left.threads
            (λ from thread. taken_on image made m from t taken pick.retired place thread stands start (replies ∙ ap (λ r. t.replies.items ++ r ∷ []) same) here retired));
        bytes = bytes ∙ ap (changed reference) left.bytes;
        gets = gets ∙ ap (gets_by reference.kind) left.gets;
        output = output ∙ ap (put_by reference.kind) left.output ∙ put_turns reference.kind (output_after made);
        references = references ∙ ap (λ l. l ++ reference ∷ []) left.references ∙ sym (reverse_onto (map (λ (m : Made). m.reference) made) reference []);
      } in
      subst (λ o. IsWalked image (made_if (world_of image input) made pick.thread o) true new) (sym asked) (refl, after_it)

  some_left : (o : Option (List Made)) (world : World) → IsWalked image o true world → (made : List Made) × IsLeft image made world
  some_left None world is = absurd (cc is)
  some_left (Some made) world is = (made, is.1)

  pub left_by : (order : List Pick) (world : World) → IsWalked image (walk (world_of image input) order) true world → (made : List Made) × IsLeft image made world
  left_by order world is = some_left (walk (world_of image input) order) world is

  one_more : (o : Option (List Made)) (pick : Pick) (goes : Bool) (old new : World) → IsWalked image o true old
      → ((made : List Made) → IsLeft image made old → IsWalked image (picked (world_of image input) (Some made) pick) goes new) → IsWalked image (picked (world_of image input) o pick) goes new
  one_more None pick goes old new is makes = absurd (cc is)
  one_more (Some made) pick goes old new is makes = makes made is.1

  -- one more pick of an order
  pub walked_more : (order : List Pick) (i : ℕ) (d : Pick) (goes : Bool) (old new : World) → i < length order → IsWalked image (walk (world_of image input) (reverse (take i order))) true old
      → ((made : List Made) → IsLeft image made old → IsWalked image (picked (world_of image input) (Some made) (get_or order i d)) goes new)
      → IsWalked image (walk (world_of image input) (reverse (take (i + 1) order))) goes new
  walked_more order i d goes old new below is makes =
      subst (λ picks. IsWalked image (walk (world_of image input) picks) goes new) (sym (reverse_more order i d below))
      (one_more (walk (world_of image input) (reverse (take i order))) (get_or order i d) goes old new is makes)

  none_of : (o : Option (List Made)) (world : World) → IsWalked image o false world → o ≡ None
  none_of None world is = refl
  none_of (Some made) world is = absurd (cc (is.0))

  pub no_walk : (order : List Pick) (world : World) → IsWalked image (walk (world_of image input) order) false world → walk (world_of image input) order ≡ None
  no_walk order world is = none_of (walk (world_of image input) order) world is

  stays_none : (picks later : List Pick) → walk (world_of image input) picks ≡ None → walk (world_of image input) (later ++ picks) ≡ None
  stays_none picks [] is = is
  stays_none picks (pick ∷ later) is = ap (λ o. picked (world_of image input) o pick) (stays_none picks later is)

  -- a pick that wanted nothing ends the walk
  pub stopped : (order : List Pick) (i : ℕ) (world : World) → IsWalked image (walk (world_of image input) (reverse (take i order))) false world
      → IsWalked image (walk (world_of image input) (reverse order)) false world
  stopped order i world is =
      let e : reverse (drop i order) ++ reverse (take i order) ≡ reverse order = sym (reverse-append (take i order) (drop i order)) ∙ ap reverse (take-append-drop i order) in
      let none : walk (world_of image input) (reverse order) ≡ None =
      subst (λ picks. walk (world_of image input) picks ≡ None) e (stays_none (reverse (take i order)) (reverse (drop i order)) (no_walk (reverse (take i order)) world is)) in
      subst (λ o. IsWalked image o false world) (sym none) refl

  pub walked_all : (order : List Pick) (world : World) → IsWalked image (walk (world_of image input) (reverse (take (length order) order))) true world
      → IsWalked image (walk (world_of image input) (reverse order)) true world
  walked_all order world is = subst (λ picks. IsWalked image (walk (world_of image input) (reverse picks)) true world) (take-length order) is
