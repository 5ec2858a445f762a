-- What a thread does at a state stays in range: frames of exceptions are pushed and popped where they were checked.
use Rattle.std.proofs.Common.{◌≡◌, ℕ, ◌+◌, ◌-◌, ◌%◌, ◌^◌, ◌<◌, ◌≤◌, Bool, true, false, Option, Some, None, refl, sym, ap, subst, lit<, arith}
use Rattle.std.proofs.Math.Nat.{mod-lt}
use Rattle.vax_form.specs.Exceptions.{vector_of, parameter_of, intent_of}
use Rattle.vax_form.specs.Moments.{handled}
use Rattle.vax_form.specs.Pages.{first_bad}
use Rattle.vax_form.specs.Ranges.{IsInRange}
use Rattle.vax_form.specs.State.{IsState, register, psl_of}
use Rattle.vax_form.specs.Tree.{Tree, Fault, unless_bad, tree_of, ends_with, instruction_tree}
use Rattle.vax_form.specs.GrammarLaws.{AreBytes}
use Rattle.vax_form.specs.declared.pages.Pages.{Pages}
use Rattle.vax_form.specs.declared.state.Exception.{Exception}
use Rattle.vax_form.specs.declared.state.Exception.TheVariants.{ReservedOperand}
use Rattle.vax_form.specs.declared.state.Pending.{Pending}
use Rattle.vax_form.specs.declared.state.Pending.TheVariants.{Nothing, Deliver, Resume}
use Rattle.vax_form.specs.declared.state.VaxState.{VaxState}
use Rattle.vax_form.proofs.Moments.{handled_stays_in_range}
use Rattle.vax_long.specs.Instructions.{tree_at}
use Rattle.vax_long.specs.Registers.{below, push_checked, pop_checked}
use Rattle.vax_long.specs.Pending.{frame_address, frame_bytes, go_on, push_exception, is_user_psl, resume, moment_of, moment_at}
use Rattle.vax_form.specs.Script.{fail, when◌then◌else◌}
use Rattle.image_meaning.specs.Laws.{MomentsStayInRange}
use Rattle.image_meaning.proofs.Ranged.{Ranged, is_in_range}
use Rattle.image_meaning.proofs.Allowed.{Allows, all_allowed, part_allowed}
use Rattle.image_meaning.proofs.Keeping.{Keeps, Any, keep_then, keep_either, keep_change, keep_fail, keeps_tree, stay_check_read}
use Rattle.image_meaning.proofs.States.{IsLongword, low_longword, register_is, with_psw_is, with_pending_is}
use Rattle.image_meaning.proofs.Codes.{keep_go_to}
use Rattle.image_meaning.proofs.Registers.{push_from, pop_from}
use Rattle.image_meaning.proofs.TreesAt.{tree_at_stays_in_range}

keep_go_on : {pages : Pages} {w : Bool} (pc psw : ℕ) → IsLongword pc → psw < 256 → Keeps pages w w Any (go_on pc psw)
unfolding go_on
keep_go_on pc psw longword small =
    keep_then (keep_change (λ state is. with_psw_is psw state small is))
    (keep_then (keep_change (λ state is. with_pending_is Nothing state is)) (keep_go_to pc longword))

-- ---- delivery

-- so many bytes below a top of the stack may be written
abbrev HasRoom : Pages → (top count : ℕ) → Type 0
HasRoom pages top count = Allows pages true ((top + (2 ^ 32 - count)) % 2 ^ 32) count

-- a longword is pushed, and there is room for the others
room_from : (pages : Pages) (w : Bool) (count value : ℕ) (state : VaxState) (rest : Unit {0} → VaxState → Tree) → IsState state → count ≤ 16
    → HasRoom pages (register 14 state) (count + 4) → ((after : VaxState) → IsState after → HasRoom pages (register 14 after) count → Ranged pages true (rest tt after))
    → Ranged pages w (tree_of pages (push_checked value) state rest)
room_from pages w count value state rest is few room onward =
    let top = register 14 state in
    let base = (top + (2 ^ 32 - (count + 4))) % 2 ^ 32 in
    let last : Allows pages true ((base + count) % 2 ^ 32) 4 = part_allowed pages true base (count + 4) room count 4 (omega arith) in
    let others : Allows pages true ((base + 0) % 2 ^ 32) count = part_allowed pages true base (count + 4) room 0 count (omega arith) in
    push_from pages w value state rest is (subst (λ (at : ℕ). Allows pages true at 4) (last_place top count few) last) (λ after still behind.
    onward after still
    (subst (λ (next : ℕ). HasRoom pages next count) (sym behind) (subst (λ (at : ℕ). Allows pages true at count) (others_place top count few) others)))
  where
    last_place : (top count : ℕ) → count ≤ 16 → ((top + (2 ^ 32 - (count + 4))) % 2 ^ 32 + count) % 2 ^ 32 ≡ below top
    last_place top count few = omega arith

    others_place : (top count : ℕ) → count ≤ 16 → ((top + (2 ^ 32 - (count + 4))) % 2 ^ 32 + 0) % 2 ^ 32 ≡ (below top + (2 ^ 32 - count)) % 2 ^ 32
    others_place top count few = omega arith

exception_pushed : (pages : Pages) (exception : Exception) (state : VaxState) → IsState state → HasRoom pages (register 14 state) frame_bytes
    → Ranged pages false (instruction_tree pages (push_exception exception) state)
unfolding push_exception
exception_pushed pages exception state is room =
    let going = λ (s : VaxState). tree_of pages (go_on state.handler 0) s ends_with in
    let fifth = λ (s : VaxState). tree_of pages (push_checked (vector_of exception)) s (λ _. going) in
    let fourth = λ (s : VaxState). tree_of pages (push_checked (parameter_of exception)) s (λ _. fifth) in
    let third = λ (s : VaxState). tree_of pages (push_checked (intent_of exception)) s (λ _. fourth) in
    let second = λ (s : VaxState). tree_of pages (push_checked state.pc) s (λ _. third) in
    room_from pages false 16 (psl_of state) state (λ _. second) is (omega arith) room (λ s1 is1 room1.
    room_from pages true 12 state.pc s1 (λ _. third) is1 (omega arith) room1 (λ s2 is2 room2.
    room_from pages true 8 (intent_of exception) s2 (λ _. fourth) is2 (omega arith) room2 (λ s3 is3 room3.
    room_from pages true 4 (parameter_of exception) s3 (λ _. fifth) is3 (omega arith) room3 (λ s4 is4 room4.
    room_from pages true 0 (vector_of exception) s4 (λ _. going) is4 (omega arith) room4 (λ s5 is5 _.
    keeps_tree pages true true (go_on state.handler 0) s5 (keep_go_on state.handler 0 is.handler (lit< tt)) is5)))))

delivered : (bad : Option ℕ) (pages : Pages) (exception : Exception) (t : Tree) → (bad ≡ None → IsInRange pages t) → IsInRange pages (unless_bad bad (λ _. Fault exception) true t)
delivered None pages exception t range = range refl
delivered (Some address) pages exception t range = tt

-- ---- resumption

-- a longword is popped, and the others may be read
frame_from : (pages : Pages) (count : ℕ) (state : VaxState) (rest : ℕ → VaxState → Tree) → IsState state → Allows pages false (register 14 state) (count + 4)
    → ((value : ℕ) (after : VaxState) → IsLongword value → IsState after → Allows pages false (register 14 after) count → Ranged pages false (rest value after))
    → Ranged pages false (tree_of pages pop_checked state rest)
frame_from pages count state rest is all onward =
    let top = register 14 state in
    let first : Allows pages false ((top + 0) % 2 ^ 32) 4 = part_allowed pages false top (count + 4) all 0 4 (omega arith) in
    let others : Allows pages false ((top + 4) % 2 ^ 32) count = part_allowed pages false top (count + 4) all 4 count (omega arith) in
    pop_from pages false state rest is (subst (λ (at : ℕ). Allows pages false at 4) (same_place top (register_is 14 state is)) first) (λ value after small still behind.
    onward value after small still (subst (λ (at : ℕ). Allows pages false at count) (sym behind) others))
  where
    same_place : (top : ℕ) → IsLongword top → (top + 0) % 2 ^ 32 ≡ top
    same_place top small = omega arith

resumed : (pages : Pages) (state : VaxState) → IsState state → Ranged pages false (instruction_tree pages resume state)
unfolding resume
resumed pages state is =
    let going = λ (pc psl : ℕ) (s : VaxState). tree_of pages (when is_user_psl psl then go_on pc (psl % 256) else fail ReservedOperand) s ends_with in
    let fifth = λ (pc : ℕ) (s : VaxState). tree_of pages pop_checked s (going pc) in
    let fourth = λ (s : VaxState). tree_of pages pop_checked s fifth in
    let third = λ (s : VaxState). tree_of pages pop_checked s (λ _. fourth) in
    let second = λ (s : VaxState). tree_of pages pop_checked s (λ _. third) in
    let first = λ (s : VaxState). tree_of pages pop_checked s (λ _. second) in
    (stay_check_read (register 14 state) frame_bytes (register_is 14 state is)).stays state (λ _. first) (λ _ all.
    frame_from pages 16 state (λ _. second) is all (λ vector s1 _ is1 all1.
    frame_from pages 12 s1 (λ _. third) is1 all1 (λ parameter s2 _ is2 all2.
    frame_from pages 8 s2 (λ _. fourth) is2 all2 (λ intent s3 _ is3 all3.
    frame_from pages 4 s3 fifth is3 all3 (λ pc s4 small is4 all4.
    frame_from pages 0 s4 (going pc) is4 all4 (λ psl s5 _ is5 _.
    keeps_tree pages false false (when is_user_psl psl then go_on pc (psl % 256) else fail ReservedOperand) s5
    (keep_either (keep_go_on pc (psl % 256) small (mod-lt psl (lit< tt))) (keep_fail tt)) is5))))))

-- ---- the moment

moment_ranged : (pages : Pages) (thread : ℕ) → AreBytes pages.code → thread < 256 → (state : VaxState) → IsState state → (pending : Pending)
    → IsInRange pages (moment_of pages thread state pending)
moment_ranged pages thread code few state is Nothing =
    handled_stays_in_range pages state (tree_at pages thread state) is (tree_at_stays_in_range pages thread code few state is)
moment_ranged pages thread code few state is (Deliver exception) =
    delivered (first_bad pages true (frame_address state) frame_bytes) pages exception (instruction_tree pages (push_exception exception) state) (λ none.
    is_in_range false pages (instruction_tree pages (push_exception exception) state)
    (exception_pushed pages exception state is (all_allowed pages true (frame_address state) frame_bytes (low_longword _) none)))
moment_ranged pages thread code few state is Resume =
    handled_stays_in_range pages state (instruction_tree pages resume state) is (is_in_range false pages (instruction_tree pages resume state) (resumed pages state is))

pub moments_stay_in_range : MomentsStayInRange
moments_stay_in_range pages thread code few state is = moment_ranged pages thread code few state is state.pending

-- with nothing pending it is the instruction, whose exceptions the handler takes
pub moment_alone : (pages : Pages) (thread : ℕ) (state : VaxState) → state.pending ≡ Nothing → moment_at pages thread state ≡ handled pages state (tree_at pages thread state)
moment_alone pages thread state none = ap (moment_of pages thread state) none
