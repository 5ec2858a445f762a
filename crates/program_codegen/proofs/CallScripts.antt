-- The script of a call behind its operands: its mask, the values that it pushes, and how it enters the procedure.
use Rattle.std.proofs.Common.{◌≡◌, ℕ, zero, suc, ◌+◌, ◌*◌, ◌/◌, ◌%◌, ◌^◌, ◌<◌, ◌≤◌, refl, sym, ap, ◌∙◌, subst, arith, List, [], ◌∷◌, ◌++◌, length, length-append, map, Option, Some, None, Bool, true, false, lit<, lit≤}
use Rattle.std.specs.Prelude.{if◌then◌else◌, slice_index, unwrap_or, option_map, option_and_then}
use Rattle.std.specs.Option.{option_map_or}
use Rattle.std.proofs.lemmas.List.{get_or-set_same, length-map, map-append}
use Rattle.vt_words.specs.Values.{bit}
use Rattle.vax_form.specs.Grammar.{wrapped}
use Rattle.vax_form.specs.Pages.{code_byte_at}
use Rattle.vax_form.specs.State.{register, with_pc, with_psw, with_register}
use Rattle.vax_form.specs.Script.{fail, when◌then◌else◌}
use Rattle.vax_form.specs.Tree.{Tree, Ask, Ends, Finish, tree_of, code_or_fault, ends_with}
use Rattle.vax_form.specs.declared.pages.Pages.{Pages}
use Rattle.vax_form.specs.declared.state.Exception.TheVariants.{ReservedOperand}
use Rattle.vax_form.specs.declared.state.RefKind.TheVariants.{Write}
use Rattle.vax_form.specs.declared.state.VaxState.{VaxState}
use Rattle.vax_meaning.specs.Memory.{code_word}
use Rattle.vax_long.specs.Calls.{aligned, is_entry_mask, entry_mask, frame_status, push_frame, entry_psw, enter}
use Rattle.vax_long.specs.CodeWord.{code_word_at}
use Rattle.vax_long.specs.LongForms.{has_entry_mask}
use Rattle.vax_long.specs.Registers.{push_checked, push_registers, is_in_mask}
use Rattle.program_codegen.specs.declared.calls.Call.{Call}
use Rattle.program_codegen.specs.declared.frames.Pushed.{Pushed}
use Rattle.program_codegen.specs.declared.frames.Pushed.TheVariants as pushes
use Rattle.program_codegen.specs.Calls.{saved_below, frame_of}
use Rattle.program_codegen.proofs.Frame.{place_of, pushed_from}
use Rattle.program_codegen.proofs.CallTrees.{place_none, saved_values, saved_few, frame_pushed}
use Rattle.program_codegen.proofs.Middle.{value_of}

-- ---- the mask
-- a mask that can be fetched is read
pub mask_read : (pages : Pages) (destination : ℕ) (state : VaxState) (rest : ℕ → VaxState → Tree) → has_entry_mask pages destination ≡ true
    → tree_of pages (entry_mask destination) state rest ≡ rest (unwrap_or (code_word_at pages destination) 0) state
unfolding entry_mask code_word
mask_read pages destination state rest is = by (code_byte_at pages destination) (code_byte_at pages (wrapped (destination + 1))) is
  where
    by : (low high : Option ℕ) → option_map_or is_entry_mask (option_and_then (λ (l : ℕ). option_map (λ (h : ℕ). l + 256 * h) high) low) false ≡ true
        → code_or_fault low destination (λ l. code_or_fault high ((destination + 1) % 2 ^ 32) (λ h. if is_entry_mask (l + h * 256) then rest (l + h * 256) state else tree_of pages (fail {A = ℕ} ReservedOperand) state rest))
        ≡ rest (unwrap_or (option_and_then (λ (l : ℕ). option_map (λ (h : ℕ). l + 256 * h) high) low) 0) state
    by None high e = absurd (cc e)
    by (Some l) None e = absurd (cc e)
    by (Some l) (Some h) e =
        let same : l + h * 256 ≡ l + 256 * h = omega arith in
        rw (same, e) refl

-- ---- the values
-- pushes one behind the other
pub pushed_joined : (frame number : ℕ) (first second : List ℕ) (t : Tree) → pushed_from frame number first (pushed_from frame (length first + number) second t) ≡ pushed_from frame number (first ++ second) t
pushed_joined frame number [] second t = let none : 0 + number ≡ number = omega arith in ap (λ (n : ℕ). pushed_from frame n second t) none
pushed_joined frame number (value ∷ first) second t =
    let next : suc (length first) + number ≡ length first + (number + 1) = omega arith in
    ap (λ (u : Tree). Ask (record { address = place_of frame number; count = 4; kind = Write value }) (λ reply. u))
    (ap (λ (n : ℕ). pushed_from frame (number + 1) first (pushed_from frame n second t)) next ∙ pushed_joined frame (number + 1) first second t)

-- a state behind the operands, and behind the push of the count
pub record IsBehind (steps : List ℕ) (begun : VaxState) (list : ℕ) (state : VaxState) : Type 0 where
  pub registers : (number : ℕ) → number < 14 → register number state ≡ (register number begun + slice_index steps number) % 2 ^ 32
  pub sp : register 14 state ≡ list
  pub has : 14 < length state.r
  pub fits : (number : ℕ) → register number state < 2 ^ 32
  pub psw : state.psw ≡ begun.psw

status_sum : (b : Bool) (l m p : ℕ) → l * 2 ^ 30 + bit b * 2 ^ 29 + m * 2 ^ 16 + p ≡ l * 2 ^ 30 + ((if b then 2 ^ 29 else 0) + m * 2 ^ 16 + p)
status_sum true l m p = omega arith
status_sum false l m p = omega arith

status_below : (b : Bool) (l m p : ℕ) → l < 4 → m < 4096 → p < 256 → l * 2 ^ 30 + bit b * 2 ^ 29 + m * 2 ^ 16 + p / 32 * 32 < 2 ^ 32
status_below true l m p a b c = omega arith
status_below false l m p a b c = omega arith

-- the state that a call leaves behind so many pushes
abbrev pub left_by : (mask list : ℕ) → VaxState → (destination argument pushes : ℕ) → VaxState
left_by mask list state destination argument pushes =
    with_pc ((destination + 2) % 2 ^ 32)
    (with_psw (entry_psw mask state.psw)
    (with_register 12 argument (with_register 13 (place_of (list / 4 * 4) pushes) (with_register 14 (place_of (list / 4 * 4) pushes) state))))

module _ (pages : Pages) (after : ℕ) (call : Call) (steps : List ℕ) (begun : VaxState) (list : ℕ) (state : VaxState) (is : IsBehind steps begun list state) where
  abbrev value : Pushed → ℕ
  value pushed = value_of after call steps begun list pushed

  saved_same : (count mask : ℕ) → count ≤ 12 → saved_values count mask state ≡ map value (saved_below count mask)
  unfolding saved_below
  saved_same zero mask le = refl
  saved_same (suc count) mask le = by (saved_same count mask (omega arith)) (is_in_mask count mask)
    where
      by : saved_values count mask state ≡ map value (saved_below count mask) → (b : Bool)
          → (if b then register count state ∷ saved_values count mask state else saved_values count mask state)
          ≡ map value (if b then pushes.Register count ∷ saved_below count mask else saved_below count mask)
      by rest true = ap (λ (v : ℕ). v ∷ saved_values count mask state) (is.registers count (omega arith)) ∙ ap (λ (vs : List ℕ). value (pushes.Register count) ∷ vs) rest
      by rest false = rest

  abbrev status : ℕ
  status = frame_status (register 14 state % 4) call.stack call.mask state.psw

  status_is : status ≡ value pushes.Status
  status_is =
      ap (λ (l : ℕ). frame_status (l % 4) call.stack call.mask state.psw) is.sp
      ∙ (ap (λ (p : ℕ). frame_status (list % 4) call.stack call.mask p) is.psw ∙ status_sum call.stack (list % 4) (call.mask % 4096) (begun.psw / 32 * 32))

  abbrev others : List ℕ
  others = after ∷ register 13 state ∷ register 12 state ∷ status ∷ 0 ∷ []

  others_same : others ≡ map value (pushes.After ∷ pushes.Register 13 ∷ pushes.Register 12 ∷ pushes.Status ∷ pushes.NoHandler ∷ [])
  others_same =
      ap (λ (v : ℕ). after ∷ v ∷ register 12 state ∷ status ∷ 0 ∷ []) (is.registers 13 (lit< tt))
      ∙ (ap (λ (v : ℕ). after ∷ value (pushes.Register 13) ∷ v ∷ status ∷ 0 ∷ []) (is.registers 12 (lit< tt))
      ∙ ap (λ (v : ℕ). after ∷ value (pushes.Register 13) ∷ value (pushes.Register 12) ∷ v ∷ 0 ∷ []) status_is)

  -- all that is pushed
  values_same : saved_values 12 call.mask state ++ others ≡ map value (frame_of call.mask)
  values_same =
      ap (λ (vs : List ℕ). vs ++ others) (saved_same 12 call.mask (lit≤ tt))
      ∙ (ap (λ (vs : List ℕ). map value (saved_below 12 call.mask) ++ vs) others_same
      ∙ sym (map-append value (saved_below 12 call.mask) (pushes.After ∷ pushes.Register 13 ∷ pushes.Register 12 ∷ pushes.Status ∷ pushes.NoHandler ∷ [])))

  enters : (destination argument pushes : ℕ) → tree_of pages (enter destination call.mask argument) (with_register 14 (place_of (list / 4 * 4) pushes) state) ends_with ≡ Ends (Finish (left_by call.mask list state destination argument pushes))
  unfolding enter
  enters destination argument pushes =
      ap (λ (fp : ℕ). Ends (Finish (with_pc ((destination + 2) % 2 ^ 32) (with_psw (entry_psw call.mask state.psw) (with_register 12 argument (with_register 13 fp (with_register 14 (place_of (list / 4 * 4) pushes) state)))))))
      (get_or-set_same state.r 14 (place_of (list / 4 * 4) pushes) 0 is.has)

  saved_few_values : length (saved_values 12 call.mask state) ≤ 12
  saved_few_values =
      let few = saved_few pages 0 (lit< tt) 12 call.mask in
      let same = ap length (saved_same 12 call.mask (lit≤ tt)) ∙ length-map (saved_below 12 call.mask) value in
      omega arith

  counted : length (saved_values 12 call.mask state) + 5 ≡ length (frame_of call.mask)
  counted = sym (length-append (saved_values 12 call.mask state) others) ∙ (ap length values_same ∙ length-map (frame_of call.mask) value)

  -- the frame is pushed, and the procedure entered
  pub frame_tree : (destination argument : ℕ) → after < 2 ^ 32 → begun.psw < 256 → list < 2 ^ 32
      → tree_of pages (push_frame after call.stack call.mask) state (λ done s. tree_of pages (enter destination call.mask argument) s ends_with)
      ≡ pushed_from (list / 4 * 4) 1 (map value (frame_of call.mask)) (Ends (Finish (left_by call.mask list state destination argument (length (frame_of call.mask)))))
  unfolding push_frame
  frame_tree destination argument after_fits psw_fits small =
      let saved = saved_values 12 call.mask state in
      let top : (list / 4 * 4) < 2 ^ 32 = below_top list small in
      let at_top : aligned (register 14 state) ≡ place_of (list / 4 * 4) 0 = ap aligned is.sp ∙ sym (place_none (list / 4 * 4) top) in
      let low : status < 2 ^ 32 = status_below call.stack (register 14 state % 4) (call.mask % 4096) state.psw (omega arith) (omega arith) (subst (λ (n : ℕ). n < 256) (sym is.psw) psw_fits) in
      ap (λ (place : ℕ). chain (with_register 14 place state)) at_top
      ∙ (frame_pushed pages (list / 4 * 4) top call.mask after status state state rest (whole list) is.has is.fits after_fits low saved_few_values
      ∙ (pushed_joined (list / 4 * 4) 1 saved others (rest tt (with_register 14 (place_of (list / 4 * 4) (length saved + 5)) state))
      ∙ (ap (λ (n : ℕ). pushed_from (list / 4 * 4) 1 (saved ++ others) (rest tt (with_register 14 (place_of (list / 4 * 4) n) state))) counted
      ∙ (ap (λ (t : Tree). pushed_from (list / 4 * 4) 1 (saved ++ others) t) (enters destination argument (length (frame_of call.mask)))
      ∙ ap (λ (vs : List ℕ). pushed_from (list / 4 * 4) 1 vs (Ends (Finish (left_by call.mask list state destination argument (length (frame_of call.mask)))))) values_same))))
    where
      below_top : (n : ℕ) → n < 2 ^ 32 → n / 4 * 4 < 2 ^ 32
      below_top n lt = omega arith

      whole : (n : ℕ) → n / 4 * 4 % 4 ≡ 0
      whole n = omega arith

      rest : Unit {0} → VaxState → Tree
      rest done s = tree_of pages (enter destination call.mask argument) s ends_with

      chain : VaxState → Tree
      chain s = tree_of pages (push_registers 12 call.mask state) s
          (λ d0 s0. tree_of pages (push_checked after) s0 (λ d1 s1. tree_of pages (push_checked (register 13 state)) s1 (λ d2 s2. tree_of pages (push_checked (register 12 state)) s2 (λ d3 s3. tree_of pages (push_checked status) s3 (λ d4 s4. tree_of pages (push_checked 0) s4 rest)))))
