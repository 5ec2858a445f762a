-- The references made along an order.
use Rattle.std.proofs.Common.{◌≡◌, ◌≢◌, ⊎_elim, ℕ, suc, ◌<◌, ◌≤◌, ◌+◌, ◌==◌, Bool, true, false, List, [], ◌∷◌, ◌++◌, length, take, drop, reverse, Option, Some, None, if◌then◌else◌, get_or, slice_set, slice_get, refl, sym, ap, ◌∙◌, subst, arith, eq-eqb}
use Rattle.std.specs.Prelude.{nat_lt, option_map}
use Rattle.std.proofs.Math.Seq.{take-suc, take-length}
use Rattle.std.proofs.lemmas.Bool.Decides.{nat_tests}
use Rattle.std.proofs.lemmas.List.{get_or_past, length-set, reverse-append, take-append-drop}
use Rattle.std.proofs.lemmas.Grind.{reverse_onto}
use Rattle.std.proofs.lemmas.Option.{slice_get-get_or, slice_get_past}
use Rattle.image_file.specs.Memory.{byte_in}
use Rattle.image_file.specs.Start.{start_state}
use Rattle.image_file.specs.Values.{ImageValue}
use Rattle.vax_form.specs.Made.{Made, bytes_after, output_by, output_after, gets_by, gets_after, input_at, replies_to, make}
use Rattle.vax_form.specs.References.{reply_of, changed}
use Rattle.vax_form.specs.declared.state.Pick.{Pick}
use Rattle.vax_form.specs.declared.state.Reference.{Reference}
use Rattle.vax_form.specs.declared.state.RefKind.{RefKind}
use Rattle.vax_form.specs.declared.state.RefKind.TheVariants.{Read, Write, Add, SetBit, ClearBit, Put, Get}
use Rattle.vax_driven.specs.Driven.{made_if, picked, walk}
use Rattle.vax_form.specs.Tree.{Retired, Runs}
use Rattle.vax_driven.specs.Threads.{after_start, reached, wanted, wanted_at}
use Rattle.vax_long.specs.Pending.{moment_at}
use Rattle.vax_run.specs.Values.{threads_of, world_of}
use Rattle.stored_runs.specs.Memory.{byte_of, put_by, taken_by, taken_of}
use Rattle.stored_runs.specs.Threads.{IsAt, IsAsking}
use Rattle.stored_runs.specs.Marks.{mark_of}
use Rattle.stored_runs.specs.Stood.{AreMarks, IsMarking}
use Rattle.stored_runs.specs.World.{IsThread, IsLeft, AreLeft, IsWalked}
use Rattle.stored_runs.specs.declared.marks.Marks.{Marks}
use Rattle.stored_runs.specs.declared.thread.Thread.{Thread}
use Rattle.stored_runs.specs.declared.world.World.{World}
use Rattle.stored_runs.proofs.Marked.{marks_on}
use Rattle.stored_runs.proofs.Standing.{got_set, stage_came}

-- ---- lists of threads
pub there : (threads : List Thread) (at : ℕ) (t : Thread) → at < length threads → t ≡ get_or threads at t → slice_get threads at ≡ Some t
there threads at t below is = slice_get-get_or threads at t below ∙ ap (λ (t : Thread). Some t) (sym is)

chosen : (b : Bool) (xs ys : List ℕ) → b ≡ true → (if b then xs else ys) ≡ xs
chosen true xs ys is = refl
chosen false xs ys is = absurd (cc is)

passed : (b : Bool) (xs ys : List ℕ) → b ≡ false → (if b then xs else ys) ≡ ys
passed true xs ys is = absurd (cc is)
passed false xs ys is = refl

-- ---- output and input
put_turns : (kind : RefKind) (out : List ℕ) → put_by kind (reverse out) ≡ reverse (output_by kind out)
put_turns Read out = refl
put_turns (Write value) out = refl
put_turns (Add value) out = refl
put_turns (SetBit bit) out = refl
put_turns (ClearBit bit) out = refl
put_turns (Put value) out = sym (reverse_onto out value [])
put_turns Get out = refl

took : (kind : RefKind) (input gets : ℕ) → taken_by input kind (taken_of input gets) ≡ taken_of input (gets_by kind gets)
took Read input gets = refl
took (Write value) input gets = refl
took (Add value) input gets = refl
took (SetBit bit) input gets = refl
took (ClearBit bit) input gets = refl
took (Put value) input gets = refl
took Get input gets = grind (arith, nat_tests)

input_is : (input : List ℕ) (gets : ℕ) → input_at input (taken_of (length input) gets) ≡ input_at input gets
input_is input gets = by (nat_lt gets (length input)) refl
  where
    by : (b : Bool) → nat_lt gets (length input) ≡ b → input_at input (if b then gets else length input) ≡ input_at input gets
    by true e = refl
    by false e =
        let past : length input ≤ gets = grind (arith, nat_tests, e) in
        let end : length input ≤ length input = omega arith in
        get_or_past input (length input) 0xFFFF_FFFF end ∙ sym (get_or_past input gets 0xFFFF_FFFF past)

-- ---- picks
reverse_more : (order : List Pick) (i : ℕ) (d : Pick) → i < length order → reverse (take (i + 1) order) ≡ get_or order i d ∷ reverse (take i order)
reverse_more order i d below =
    let e : i + 1 ≡ suc i = omega arith in
    ap (λ n. reverse (take n order)) e ∙ ap reverse (take-suc order i d below) ∙ reverse-append (take i order) (get_or order i d ∷ [])

module _ (image : ImageValue) (input counts : List ℕ) where
  nothing_picked : (made : List Made) (pick : Pick) (new : World) (marks : Marks) → wanted (threads_of image) pick.thread pick.retired (replies_to pick.thread made) ≡ None
      → IsWalked image input counts (picked (world_of image input) (Some made) pick) false new marks
  nothing_picked made pick new marks none = subst (λ o. IsWalked image input counts (made_if (world_of image input) made pick.thread o) false new marks) (sym none) refl

  no_start : (thread : ℕ) → length image.threads ≤ thread → (threads_of image).start thread ≡ None
  no_start thread above = ap (option_map start_state) (slice_get_past image.threads thread above)

  -- a pick of no thread
  pub no_thread : (made : List Made) (pick : Pick) (old new : World) (marks : Marks) → IsLeft image input counts made old → length old.threads.items ≤ pick.thread
      → IsWalked image input counts (picked (world_of image input) (Some made) pick) false new marks
  no_thread made pick old new marks left above =
      let beyond : length image.threads ≤ pick.thread = omega (arith, left.many, above) in
      nothing_picked made pick new marks
      (ap (λ s. wanted_at (threads_of image) pick.thread (after_start (moment_at image.pages pick.thread) image.pages s pick.retired (replies_to pick.thread made))) (no_start pick.thread beyond))

  pub at_among : (made : List Made) (world : World) (thread : ℕ) (t : Thread) → IsLeft image input counts made world → thread < length world.threads.items
      → t ≡ get_or world.threads.items thread t → IsThread image counts made thread t
  at_among made world thread t left below is = left.threads thread t (there world.threads.items thread t below is)

  -- a pick whose thread wants nothing
  pub no_reference : (made : List Made) (pick : Pick) (old new : World) (marks : Marks) (t : Thread) → IsLeft image input counts made old → pick.thread < length old.threads.items
      → t ≡ get_or old.threads.items pick.thread t
      → ((replies : List ℕ) → IsAt image pick.thread replies t → None ≡ wanted (threads_of image) pick.thread pick.retired replies)
      → IsWalked image input counts (picked (world_of image input) (Some made) pick) false new marks
  no_reference made pick old new marks t left below is none =
      nothing_picked made pick new marks (sym (none (replies_to pick.thread made) (at_among made old pick.thread t left below is).at))

  came : (made : List Made) (world : World) → IsLeft image input counts made world → (k : ℕ) (u : Thread) → slice_get world.threads.items k ≡ Some u
      → (r : Retired) × (reached (threads_of image) k u.retired (replies_to k made) ≡ Some r)
  came made world left k u found =
      let c = stage_came image k (replies_to k made) u.retired u.state u.stage (left.threads k u found).at.stage in
      (c.0, c.1)

  -- a pick whose reference was made
  pub made_on : (made : List Made) (pick : Pick) (reference : Reference) (reply : ℕ) (old new : World) (t asking taken : Thread) (marks marks' : Marks) → AreLeft image input counts made old marks
      → pick.thread < length old.threads.items → t ≡ get_or old.threads.items pick.thread t
      → ((replies : List ℕ) → IsAt image pick.thread replies t → Some reference ≡ wanted (threads_of image) pick.thread pick.retired replies)
      → ((replies : List ℕ) → IsAt image pick.thread replies t → IsAsking image pick.thread replies reference asking)
      → asking.count ≡ t.count
      → reply ≡ reply_of reference (byte_of old.memory) (input_at input old.memory.taken)
      → byte_of new.memory ≡ changed reference (byte_of old.memory)
      → new.memory.taken ≡ taken_by (length input) reference.kind old.memory.taken
      → new.memory.output.items ≡ put_by reference.kind old.memory.output.items
      → new.threads.items ≡ slice_set old.threads.items pick.thread taken
      → ((image : ImageValue) (thread : ℕ) (replies : List ℕ) (reference : Reference) → IsAsking image thread replies reference asking → IsAt image thread (replies ++ reply ∷ []) taken)
      → taken.count ≡ asking.count → taken.retired ≡ asking.retired
      → ((replies : List ℕ) → IsAt image pick.thread replies t → IsMarking image pick.thread replies t.retired asking.retired t.count (mark_of marks) (mark_of marks'))
      → IsWalked image input counts (picked (world_of image input) (Some made) pick) true new marks'
  made_on made pick reference reply old new t asking taken marks marks' both below is wants asks counted replied bytes got output threads takes counts_too retired marking =
      let left = both.left in
      let replies = replies_to pick.thread made in
      let was = at_among made old pick.thread t left below is in
      let wanted_it : wanted (threads_of image) pick.thread pick.retired replies ≡ Some reference = sym (wants replies was.at) in
      let m = make (byte_in image) input made pick.thread reference in
      let same : reply ≡ m.reply = replied
      ∙ ap (λ (b : ℕ → ℕ). reply_of reference b (input_at input old.memory.taken)) left.bytes
      ∙ ap (λ n. reply_of reference (bytes_after (byte_in image) made) (input_at input n)) left.taken
      ∙ ap (reply_of reference (bytes_after (byte_in image) made)) (input_is input (gets_after made)) in
      let at_now : IsAt image pick.thread (replies_to pick.thread (m ∷ made)) taken =
      subst (λ l. IsAt image pick.thread l taken)
      (ap (λ r. replies ++ r ∷ []) same ∙ sym (chosen (pick.thread == pick.thread) (replies ++ m.reply ∷ []) replies (eq-eqb pick.thread pick.thread refl)))
      (takes image pick.thread replies reference (asks replies was.at)) in
      let after_it : IsLeft image input counts (m ∷ made) new = record {
        many = ap length threads ∙ length-set old.threads.items pick.thread taken ∙ left.many;
        threads = λ k u found.
            ⊎_elim
            (λ (here : (k ≡ pick.thread) × (taken ≡ u)).
            subst (λ k. IsThread image counts (m ∷ made) k u) (sym here.0)
            (subst (λ u. IsThread image counts (m ∷ made) pick.thread u) here.1
            (record { at = at_now; count = was.count ∙ ap (λ n. Some n) (sym (counts_too ∙ counted)) })))
            (λ (there : (k ≢ pick.thread) × (slice_get old.threads.items k ≡ Some u)).
            let before = left.threads k u there.1 in
            record {
              at = subst (λ l. IsAt image k l u) (sym (passed (pick.thread == k) (replies_to k made ++ m.reply ∷ []) (replies_to k made) (apart k there.0))) before.at;
              count = before.count;
            })
            (got_set old.threads.items pick.thread taken u k (subst (λ l. slice_get l k ≡ Some u) threads found));
        bytes = bytes ∙ ap (changed reference) left.bytes;
        taken = got ∙ ap (taken_by (length input) reference.kind) left.taken ∙ took reference.kind (length input) (gets_after made);
        output = output ∙ ap (put_by reference.kind) left.output ∙ put_turns reference.kind (output_after made);
      } in
      let ask = asks replies was.at in
      let way = subst (λ n. IsMarking image pick.thread replies t.retired n t.count (mark_of marks) (mark_of marks')) (sym retired) (marking replies was.at) in
      let now = subst (λ n. reached (threads_of image) pick.thread n replies ≡ Some (record { life = Runs; state = asking.state; left = ask.given })) (sym retired) ask.came in
      let marked = marks_on image counts made m old.threads.items pick.thread t taken (mark_of marks) (mark_of marks') _ both.marked (came made old left)
      (there old.threads.items pick.thread t below is) was.count now way (counts_too ∙ counted) in
      let marks_it : AreMarks image counts (m ∷ made) new.threads.items (mark_of marks') = subst (λ l. AreMarks image counts (m ∷ made) l (mark_of marks')) (sym threads) marked in
      subst (λ o. IsWalked image input counts (made_if (world_of image input) made pick.thread o) true new marks') (sym wanted_it) (refl, record { left = after_it; marked = marks_it })
    where
      apart : (k : ℕ) → k ≢ pick.thread → (pick.thread == k) ≡ false
      apart k differs = by (pick.thread == k) refl
        where
          by : (b : Bool) → (pick.thread == k) ≡ b → b ≡ false
          by true e = let same : k ≡ pick.thread = grind (arith, nat_tests, e) in absurd (differs same)
          by false e = refl

  one_more : (o : Option (List Made)) (pick : Pick) (goes : Bool) (old new : World) (marks marks' : Marks) → IsWalked image input counts o true old marks
      → ((made : List Made) → AreLeft image input counts made old marks → IsWalked image input counts (picked (world_of image input) (Some made) pick) goes new marks')
      → IsWalked image input counts (picked (world_of image input) o pick) goes new marks'
  one_more None pick goes old new marks marks' is makes = absurd (cc is)
  one_more (Some made) pick goes old new marks marks' is makes = makes made is.1

  -- one more pick of an order
  pub walked_more : (order : List Pick) (i : ℕ) (d : Pick) (goes : Bool) (old new : World) (marks marks' : Marks) → i < length order
      → IsWalked image input counts (walk (world_of image input) (reverse (take i order))) true old marks
      → ((made : List Made) → AreLeft image input counts made old marks → IsWalked image input counts (picked (world_of image input) (Some made) (get_or order i d)) goes new marks')
      → IsWalked image input counts (walk (world_of image input) (reverse (take (i + 1) order))) goes new marks'
  walked_more order i d goes old new marks marks' below is makes =
      subst (λ picks. IsWalked image input counts (walk (world_of image input) picks) goes new marks') (sym (reverse_more order i d below))
      (one_more (walk (world_of image input) (reverse (take i order))) (get_or order i d) goes old new marks marks' is makes)

  none_of : (o : Option (List Made)) (world : World) (marks : Marks) → IsWalked image input counts o false world marks → o ≡ None
  none_of None world marks is = refl
  none_of (Some made) world marks is = absurd (cc (is.0))

  pub no_walk : (order : List Pick) (world : World) (marks : Marks) → IsWalked image input counts (walk (world_of image input) order) false world marks → walk (world_of image input) order ≡ None
  no_walk order world marks is = none_of (walk (world_of image input) order) world marks is

  stays_none : (picks later : List Pick) → walk (world_of image input) picks ≡ None → walk (world_of image input) (later ++ picks) ≡ None
  stays_none picks [] is = is
  stays_none picks (pick ∷ later) is = ap (λ o. picked (world_of image input) o pick) (stays_none picks later is)

  -- a pick that wanted nothing ends the walk
  pub stopped : (order : List Pick) (i : ℕ) (world : World) (marks : Marks) → IsWalked image input counts (walk (world_of image input) (reverse (take i order))) false world marks
      → IsWalked image input counts (walk (world_of image input) (reverse order)) false world marks
  stopped order i world marks is =
      let e : reverse (drop i order) ++ reverse (take i order) ≡ reverse order = sym (reverse-append (take i order) (drop i order)) ∙ ap reverse (take-append-drop i order) in
      let none : walk (world_of image input) (reverse order) ≡ None =
      subst (λ picks. walk (world_of image input) picks ≡ None) e (stays_none (reverse (take i order)) (reverse (drop i order)) (no_walk (reverse (take i order)) world marks is)) in
      subst (λ o. IsWalked image input counts o false world marks) (sym none) refl

  pub walked_all : (order : List Pick) (world : World) (marks : Marks) → IsWalked image input counts (walk (world_of image input) (reverse (take (length order) order))) true world marks
      → IsWalked image input counts (walk (world_of image input) (reverse order)) true world marks
  walked_all order world marks is = subst (λ picks. IsWalked image input counts (walk (world_of image input) (reverse picks)) true world marks) (take-length order) is
