-- Procedure calls.
use Rattle.std.proofs.Common.{◌≡◌, ℕ, ◌+◌, ◌*◌, ◌/◌, ◌%◌, ◌<◌, ◌^◌, Bool, true, false, arith, List, subst, sym}
use Rattle.std.proofs.lemmas.Bool.{eqb-true}
use Rattle.vax_form.specs.Script.{Script, bind, change}
use Rattle.vax_form.specs.State.{IsState, register, with_register}
use Rattle.vax_form.specs.Tree.{Tree, tree_of}
use Rattle.vax_form.specs.declared.script.End.{End}
use Rattle.vax_form.specs.declared.state.VaxState.{VaxState}
use Rattle.vax_form.specs.declared.instr.Size.TheVariants.{Long}
use Rattle.vax_form.specs.declared.instr.Instr.{Instr}
use Rattle.vax_meaning.specs.declared.evaluation.Evaluated.{Evaluated}
use Rattle.vax_meaning.specs.Memory.{low_bytes}
use Rattle.vax_meaning.specs.Evaluation.{value_of_place}
use Rattle.vax_long.specs.Registers.{is_in_mask, below, push_checked, push_registers}
use Rattle.vax_long.specs.Calls.{aligned, entry_mask, check_frame, frame_status, push_frame, entry_psw, enter, call_general, call_stack, with_released, release_arguments, leave, return_from_procedure}
use Rattle.vax_form.specs.declared.pages.Pages.{Pages}
use Rattle.image_meaning.proofs.Keeping.{Keeps, Any, keep_pure, keep_bind, keep_then, keep_choice, keep_either, keep_change, keep_fail}
use Rattle.image_meaning.proofs.States.{IsLongword, low_longword, register_is, with_register_is, with_psw_is}
use Rattle.image_meaning.proofs.Memory.{keep_fetch, keep_code_word}
use Rattle.image_meaning.proofs.Operands.{keep_get_register, keep_set_register}
use Rattle.image_meaning.proofs.Codes.{keep_go_to}
use Rattle.image_meaning.proofs.Ranged.{Ranged}
use Rattle.image_meaning.proofs.Registers.{below_is, CanPush, Checks, check_pure, check_then, check_push_checks, lowered, CanPushAll, check_registers_checks, Pushes, push_then, top_set, push_from, push_checked_pushes, push_registers_pushes, keep_pop, keep_pop_register, keep_pop_registers}

aligned_is : (address : ℕ) → IsLongword address → IsLongword (aligned address)
aligned_is address small = omega arith

keep_entry_mask : {pages : Pages} {w : Bool} (destination : ℕ) → Keeps pages w w Any (entry_mask destination)
unfolding entry_mask
keep_entry_mask destination = keep_bind (keep_code_word destination) (λ mask _. keep_either (keep_pure tt) (keep_fail tt))

-- the places of a call frame: the registers by the mask, and five longwords
CanPushFrame : Pages → (mask top : ℕ) → Type 0
CanPushFrame pages mask top =
    let saved = lowered 12 mask top in
    CanPushAll pages 12 mask top × (CanPush pages saved × (CanPush pages (below saved) × (CanPush pages (below (below saved))
    × (CanPush pages (below (below (below saved))) × (CanPush pages (below (below (below (below saved)))) × Unit {0})))))

check_frame_checks : {pages : Pages} (mask top : ℕ) → Checks pages (CanPushFrame pages mask top) tt (check_frame mask top)
unfolding check_frame CanPushFrame
check_frame_checks mask top =
    let saved = lowered 12 mask top in
    check_then (check_registers_checks 12 mask top) (check_then (check_push_checks saved) (check_then (check_push_checks (below saved))
    (check_then (check_push_checks (below (below saved))) (check_then (check_push_checks (below (below (below saved))))
    (check_then (check_push_checks (below (below (below (below saved))))) (check_pure tt))))))

-- the pushes of a call frame, from the aligned top on
frame_pushes : {pages : Pages} {w : Bool} (pc status mask top : ℕ) (values : VaxState) → CanPushFrame pages mask top
    → Pushes pages w top (below (below (below (below (below (lowered 12 mask top))))))
    (bind (push_registers 12 mask values) (λ _. bind (push_checked pc) (λ _. bind (push_checked (register 13 values)) (λ _.
    bind (push_checked (register 12 values)) (λ _. bind (push_checked status) (λ _. push_checked 0))))))
unfolding CanPushFrame
frame_pushes pc status mask top values can =
    let saved = lowered 12 mask top in
    push_then (push_registers_pushes 12 mask top values can.0) (push_then (push_checked_pushes pc saved can.1.0)
    (push_then (push_checked_pushes (register 13 values) (below saved) can.1.1.0) (push_then (push_checked_pushes (register 12 values) (below (below saved)) can.1.1.1.0)
    (push_then (push_checked_pushes status (below (below (below saved))) can.1.1.1.1.0) (push_checked_pushes 0 (below (below (below (below saved)))) can.1.1.1.1.1.0)))))

push_frame_from : (pages : Pages) (w : Bool) (pc : ℕ) (stack : Bool) (mask : ℕ) (state : VaxState) (rest : Unit {0} → VaxState → Tree) → IsState state
    → CanPushFrame pages mask (aligned (register 14 state)) → ((after : VaxState) → IsState after → Ranged pages true (rest tt after))
    → Ranged pages w (tree_of pages (push_frame pc stack mask) state rest)
unfolding push_frame
push_frame_from pages w pc stack mask state rest is can onward =
    let top = aligned (register 14 state) in
    let small : IsLongword top = aligned_is (register 14 state) (register_is 14 state is) in
    (frame_pushes pc (frame_status (register 14 state % 4) stack mask state.psw) mask top state can).pushes (with_register 14 top state) rest
    (with_register_is 14 top state small is) (top_set top state is) (λ after still _. onward after still)

entry_below : (mask psw : ℕ) → psw < 256 → entry_psw mask psw < 256
entry_below mask psw small = omega arith

keep_enter : {pages : Pages} {w : Bool} (destination mask list : ℕ) → IsLongword list → Keeps pages w w Any (enter destination mask list)
unfolding enter
keep_enter destination mask list small =
    keep_bind (keep_get_register 14) (λ frame is.
    keep_then (keep_set_register 13 frame is)
    (keep_then (keep_set_register 12 list small)
    (keep_then (keep_change (λ state still. with_psw_is (entry_psw mask state.psw) state (entry_below mask state.psw still.psw) still))
    (keep_go_to ((destination + 2) % 2 ^ 32) (low_longword (destination + 2))))))

-- checks a frame and pushes it, and goes on
frame_from : {A : Type 0} (pages : Pages) (pc : ℕ) (stack : Bool) (mask : ℕ) (behind : Script A) (state : VaxState) (rest : A → VaxState → Tree) → IsState state
    → Keeps pages true true Any behind → ((x : A) (after : VaxState) → Unit {0} → IsState after → Ranged pages true (rest x after))
    → Ranged pages false (tree_of pages (bind (check_frame mask (aligned (register 14 state))) (λ _. bind (push_frame pc stack mask) (λ _. behind))) state rest)
frame_from pages pc stack mask behind state rest is last onward =
    (check_frame_checks mask (aligned (register 14 state))).checks state (λ _ after. tree_of pages (bind (push_frame pc stack mask) (λ _. behind)) after rest) (λ can.
    push_frame_from pages false pc stack mask state (λ _ after. tree_of pages behind after rest) is can (λ after still. last.keeps after rest still onward))

pub keep_call_general : {pages : Pages} (instr : Instr) (values : List Evaluated) → Keeps pages false true Any (call_general instr values)
unfolding call_general
keep_call_general {pages = pages} instr values =
    let destination = value_of_place values 1 Long in
    let list = value_of_place values 0 Long in
    keep_bind (keep_entry_mask destination) (λ mask _. record {
      keeps = λ state rest is onward.
          frame_from pages instr.after false mask (enter destination mask list) state rest is (keep_enter destination mask list (low_longword _)) onward;
    })

-- what CALLS does behind its checks
stack_pushes : Pages → Instr → (destination count mask list : ℕ) → VaxState → (End → VaxState → Tree) → Tree
stack_pushes pages instr destination count mask list state rest =
    tree_of pages (bind (push_checked count) (λ _. bind (push_frame instr.after true mask) (λ _. enter destination mask list))) state rest

pub keep_call_stack : {pages : Pages} (instr : Instr) (values : List Evaluated) → Keeps pages false true Any (call_stack instr values)
unfolding call_stack stack_pushes
keep_call_stack {pages = pages} instr values =
    let destination = value_of_place values 1 Long in
    let count = value_of_place values 0 Long in
    keep_bind (keep_entry_mask destination) (λ mask _. record {
      keeps = λ state rest is onward.
          let list = below (register 14 state) in
          let entering = λ (behind : VaxState). tree_of pages (enter destination mask list) behind rest in
          let framing = λ (after : VaxState). tree_of pages (push_frame instr.after true mask) after (λ _ behind. entering behind) in
          let pushing = λ (after : VaxState). tree_of pages (push_checked count) after (λ _ behind. framing behind) in
          (check_push_checks (register 14 state)).checks state (λ top after. tree_of pages (check_frame mask (aligned top)) after (λ _ behind. stack_pushes pages instr destination count mask top behind rest)) (λ can.
          (check_frame_checks mask (aligned list)).checks state (λ _ after. pushing after) (λ frame.
          push_from pages false count state (λ _ after. framing after) is can (λ after still at.
          push_frame_from pages true instr.after true mask after (λ _ behind. entering behind) still (subst (λ (top : ℕ). CanPushFrame pages mask (aligned top)) (sym at) frame) (λ behind last.
          (keep_enter destination mask list (below_is (register 14 state))).keeps behind rest last onward))));
    })

keep_released : {pages : Pages} {w : Bool} (bytes : ℕ) → Keeps pages w w Any (change (with_released bytes))
keep_released bytes = keep_change (λ state is. with_register_is 14 ((register 14 state + bytes) % 2 ^ 32) state (low_longword (register 14 state + bytes)) is)

keep_release_arguments : {pages : Pages} {w : Bool} (stack : Bool) → Keeps pages w w Any (release_arguments stack)
unfolding release_arguments
keep_release_arguments stack = keep_either (keep_bind keep_pop (λ count _. keep_released (count % 256 * 4))) (keep_pure tt)

-- bits 15:8 of the status are 0
status_below : (status : ℕ) → status / 256 % 256 ≡ 0 → status % 2 ^ 16 < 256
status_below status none = omega arith

keep_leave : {pages : Pages} {w : Bool} (frame status : ℕ) → status / 256 % 256 ≡ 0 → Keeps pages w w Any (leave frame status)
unfolding leave
keep_leave frame status none =
    keep_then (keep_set_register 14 ((frame + 8) % 2 ^ 32) (low_longword (frame + 8)))
    (keep_then (keep_pop_register 12)
    (keep_then (keep_pop_register 13)
    (keep_bind keep_pop (λ pc small.
    keep_then (keep_pop_registers 12 0 (status / 2 ^ 16))
    (keep_then (keep_released (status / 2 ^ 30))
    (keep_then (keep_release_arguments (is_in_mask 29 status))
    (keep_then (keep_change (λ state is. with_psw_is (status % 2 ^ 16) state (status_below status none) is))
    (keep_go_to pc small))))))))

pub keep_return_from_procedure : {pages : Pages} {w : Bool} → Keeps pages w w Any return_from_procedure
unfolding return_from_procedure
keep_return_from_procedure =
    keep_bind (keep_get_register 13) (λ frame _.
    keep_bind (keep_fetch ((frame + 4) % 2 ^ 32) 4 (low_longword (frame + 4)) (omega arith) (omega arith)) (λ longword _.
    keep_choice (λ none. keep_leave frame (low_bytes 4 longword) (eqb-true (low_bytes 4 longword / 256 % 256) 0 none)) (λ _. keep_fail tt)))
