-- The trees of a call's script, as the checks and pushes of its frame.
use Rattle.std.proofs.Common.{◌≡◌, ℕ, zero, suc, ◌+◌, ◌-◌, ◌%◌, ◌^◌, ◌<◌, ◌≤◌, refl, sym, ap, ◌∙◌, arith, List, [], ◌∷◌, length, length-append, Bool, true, false, lit<, lit≤}
use Rattle.std.specs.Prelude.{if◌then◌else◌, min}
use Rattle.std.proofs.Math.Nat.{min-eq_left, mod-eq_of_lt}
use Rattle.std.proofs.lemmas.List.{get_or-set_same, set-set}
use Rattle.vax_form.specs.declared.state.RefKind.TheVariants.{Write}
use Rattle.vax_meaning.specs.Memory.{write}
use Rattle.vax_form.specs.State.{register, with_core, with_register, SP}
use Rattle.vax_form.specs.Tree.{Tree, Check, Ask, tree_of}
use Rattle.vax_form.specs.declared.pages.Pages.{Pages}
use Rattle.vax_form.specs.declared.state.VaxState.{VaxState}
use Rattle.vax_long.specs.Registers.{below, push_checked, push_registers, check_push, check_registers, is_in_mask}
use Rattle.vax_long.specs.Calls.{check_frame}
use Rattle.program_codegen.specs.declared.frames.Pushed.TheVariants as pushes
use Rattle.program_codegen.specs.Calls.{saved_below, frame_of}
use Rattle.program_codegen.proofs.Frame.{place_of, checked_from, pushed_from}

-- the place of the next push
pub place_next : (frame number : ℕ) → frame < 2 ^ 32 → number ≤ 16 → below (place_of frame number) ≡ place_of frame (number + 1)
place_next frame number small few = omega arith

pub place_none : (frame : ℕ) → frame < 2 ^ 32 → place_of frame 0 ≡ frame
place_none frame small = omega arith

-- ---- registers
-- the values of the saved registers, highest first
abbrev pub saved_values : (count mask : ℕ) → VaxState → List ℕ
saved_values zero mask values = []
saved_values (suc count) mask values = if is_in_mask count mask then register count values ∷ saved_values count mask values else saved_values count mask values

module _ (pages : Pages) (frame : ℕ) (small : frame < 2 ^ 32) where
  -- one check
  push_tree : (number : ℕ) (state : VaxState) (rest : ℕ → VaxState → Tree) → number ≤ 16
      → tree_of pages (check_push (place_of frame number)) state rest ≡ Check (place_of frame (number + 1)) 4 true (rest (place_of frame (number + 1)) state)
  unfolding check_push
  push_tree number state rest few = ap (λ (place : ℕ). Check place 4 true (rest place state)) (place_next frame number small few)

  -- the checks of the saved registers, behind so many others
  pub registers_tree : (count number mask : ℕ) (state : VaxState) (rest : ℕ → VaxState → Tree) → number + count ≤ 17
      → tree_of pages (check_registers count mask (place_of frame number)) state rest
      ≡ checked_from frame (number + 1) (length (saved_below count mask)) (rest (place_of frame (number + length (saved_below count mask))) state)
  unfolding check_registers check_push saved_below
  registers_tree zero number mask state rest few =
      let e : number ≡ number + 0 = omega arith in ap (λ n. rest (place_of frame n) state) e
  registers_tree (suc count) number mask state rest few = by (registers_tree count (number + 1) mask state rest (omega arith)) (registers_tree count number mask state rest (omega arith)) (is_in_mask count mask)
    where
      by : tree_of pages (check_registers count mask (place_of frame (number + 1))) state rest
          ≡ checked_from frame (number + 1 + 1) (length (saved_below count mask)) (rest (place_of frame (number + 1 + length (saved_below count mask))) state)
          → tree_of pages (check_registers count mask (place_of frame number)) state rest
          ≡ checked_from frame (number + 1) (length (saved_below count mask)) (rest (place_of frame (number + length (saved_below count mask))) state)
          → (b : Bool)
          → (if b then Check (below (place_of frame number)) 4 true (tree_of pages (check_registers count mask (below (place_of frame number))) state rest)
          else tree_of pages (check_registers count mask (place_of frame number)) state rest)
          ≡ checked_from frame (number + 1) (length (if b then pushes.Register count ∷ saved_below count mask else saved_below count mask))
          (rest (place_of frame (number + length (if b then pushes.Register count ∷ saved_below count mask else saved_below count mask))) state)
      by later here true =
          let next = place_next frame number small (omega arith) in
          let sum : number + 1 + length (saved_below count mask) ≡ number + suc (length (saved_below count mask)) = omega arith in
          ap (λ (place : ℕ). Check place 4 true (tree_of pages (check_registers count mask place) state rest)) next
          ∙ (ap (λ (t : Tree). Check (place_of frame (number + 1)) 4 true t) later
          ∙ ap (λ (n : ℕ). Check (place_of frame (number + 1)) 4 true (checked_from frame (number + 1 + 1) (length (saved_below count mask)) (rest (place_of frame n) state))) sum)
      by later here false = here

  -- checks one behind the other
  checks_joined : (first second number : ℕ) (t : Tree) → checked_from frame number first (checked_from frame (number + first) second t) ≡ checked_from frame number (first + second) t
  checks_joined zero second number t = let e : number + 0 ≡ number = omega arith in let f : second ≡ 0 + second = omega arith in ap (λ (n : ℕ). checked_from frame n second t) e ∙ ap (λ (n : ℕ). checked_from frame number n t) f
  checks_joined (suc first) second number t =
      let e : number + suc first ≡ number + 1 + first = omega arith in
      let f : suc first + second ≡ suc (first + second) = omega arith in
      ap (λ (n : ℕ). Check (place_of frame number) 4 true (checked_from frame (number + 1) first (checked_from frame n second t))) e
      ∙ (ap (λ (u : Tree). Check (place_of frame number) 4 true u) (checks_joined first second (number + 1) t) ∙ ap (λ (n : ℕ). checked_from frame number n t) (sym f))

  pub saved_few : (count mask : ℕ) → length (saved_below count mask) ≤ count
  unfolding saved_below
  saved_few zero mask = omega arith
  saved_few (suc count) mask = by (saved_few count mask) (is_in_mask count mask)
    where
      by : length (saved_below count mask) ≤ count → (b : Bool) → length (if b then pushes.Register count ∷ saved_below count mask else saved_below count mask) ≤ suc count
      by few true = omega arith
      by few false = omega arith

  -- the other five, behind so many
  others_tree : (number : ℕ) (state : VaxState) (rest : Unit {0} → VaxState → Tree) → number ≤ 12
      → tree_of pages (check_push (place_of frame number)) state (λ pc s1. tree_of pages (check_push pc) s1 (λ fp s2. tree_of pages (check_push fp) s2 (λ ap s3. tree_of pages (check_push ap) s3 (λ status s4. tree_of pages (check_push status) s4 (λ handler s5. rest tt s5)))))
      ≡ checked_from frame (number + 1) 5 (rest tt state)
  others_tree number state rest few =
      push_tree number state _ (omega arith)
      ∙ ap (λ (u : Tree). Check (place_of frame (number + 1)) 4 true u) (push_tree (number + 1) state _ (omega arith)
      ∙ ap (λ (u : Tree). Check (place_of frame (number + 1 + 1)) 4 true u) (push_tree (number + 1 + 1) state _ (omega arith)
      ∙ ap (λ (u : Tree). Check (place_of frame (number + 1 + 1 + 1)) 4 true u) (push_tree (number + 1 + 1 + 1) state _ (omega arith)
      ∙ ap (λ (u : Tree). Check (place_of frame (number + 1 + 1 + 1 + 1)) 4 true u) (push_tree (number + 1 + 1 + 1 + 1) state _ (omega arith)))))

  pub frame_checks : (mask : ℕ) (state : VaxState) (rest : Unit {0} → VaxState → Tree)
      → tree_of pages (check_frame mask frame) state rest ≡ checked_from frame 1 (length (frame_of mask)) (rest tt state)
  unfolding check_frame
  frame_checks mask state rest =
      let saved = length (saved_below 12 mask) in
      let few = saved_few 12 mask in
      let count = length-append (saved_below 12 mask) (pushes.After ∷ pushes.Register 13 ∷ pushes.Register 12 ∷ pushes.Status ∷ pushes.NoHandler ∷ []) in
      let one : 0 + 1 ≡ 1 = omega arith in
      let none : 0 + saved ≡ saved = omega arith in
      let next : saved + 1 ≡ 1 + saved = omega arith in
      ap (λ (place : ℕ). tree_of pages (check_registers 12 mask place) state behind) (sym (place_none frame small))
      ∙ (registers_tree 12 0 mask state behind (lit≤ tt)
      ∙ (ap (λ (n : ℕ). checked_from frame 1 saved (behind (place_of frame n) state)) none
      ∙ (ap (λ (u : Tree). checked_from frame 1 saved u) (others_tree saved state rest few)
      ∙ (ap (λ (n : ℕ). checked_from frame 1 saved (checked_from frame n 5 (rest tt state))) next
      ∙ (checks_joined saved 5 1 (rest tt state) ∙ ap (λ (n : ℕ). checked_from frame 1 n (rest tt state)) (sym count))))))
    where
      behind : ℕ → VaxState → Tree
      behind saved s0 = tree_of pages (check_push saved) s0 (λ pc s1. tree_of pages (check_push pc) s1 (λ fp s2. tree_of pages (check_push fp) s2 (λ ap s3. tree_of pages (check_push ap) s3 (λ status s4. tree_of pages (check_push status) s4 (λ handler s5. rest tt s5)))))

  -- ---- the pushes
  -- an aligned longword is written by one reference
  pub pushed_once : (number value : ℕ) (state : VaxState) (rest : Unit {0} → VaxState → Tree) → number ≤ 16 → frame % 4 ≡ 0 → value < 2 ^ 32 → register SP state ≡ place_of frame number
      → tree_of pages (push_checked value) state rest
      ≡ Ask (record { address = place_of frame (number + 1); count = 4; kind = Write value }) (λ reply. rest tt (with_register SP (place_of frame (number + 1)) state))
  unfolding push_checked write
  pushed_once number value state rest few aligned fits at =
      let e : below (register SP state) ≡ place_of frame (number + 1) = ap below at ∙ place_next frame number small few in
      let whole : min 4 (8 - place_of frame (number + 1) % 8) ≡ 4 = min-eq_left (four_within (place_of frame (number + 1)) (still_aligned number aligned few)) in
      let low : value % 2 ^ 32 ≡ value = mod-eq_of_lt fits in
      rw (e, whole, low) refl
    where
      four_within : (a : ℕ) → a % 4 ≡ 0 → 4 ≤ 8 - a % 8
      four_within a e = omega arith

      still_aligned : (number : ℕ) → frame % 4 ≡ 0 → number ≤ 16 → place_of frame (number + 1) % 4 ≡ 0
      still_aligned number aligned few = omega arith

  -- a state with SP at so many pushes below the frame's top
  abbrev pub at_push : VaxState → (number : ℕ) → VaxState
  at_push state number = with_register SP (place_of frame number) state

  again : (state : VaxState) (number next : ℕ) → with_register SP (place_of frame next) (at_push state number) ≡ at_push state next
  again state number next = ap (λ (r : List ℕ). with_core state r state.pc state.psw) (set-set state.r 14 (place_of frame number) (place_of frame next))

  -- the pushes of the saved registers, behind so many others
  pub registers_pushed : (count number mask : ℕ) (values state : VaxState) (rest : Unit {0} → VaxState → Tree) → number + count ≤ 17 → frame % 4 ≡ 0 → 14 < length state.r
      → ((k : ℕ) → register k values < 2 ^ 32)
      → tree_of pages (push_registers count mask values) (at_push state number) rest
      ≡ pushed_from frame (number + 1) (saved_values count mask values) (rest tt (at_push state (number + length (saved_values count mask values))))
  unfolding push_registers
  registers_pushed zero number mask values state rest few aligned has fits = let e : number ≡ number + 0 = omega arith in ap (λ (n : ℕ). rest tt (at_push state n)) e
  registers_pushed (suc count) number mask values state rest few aligned has fits =
      by (registers_pushed count (number + 1) mask values state rest (omega arith) aligned has fits) (registers_pushed count number mask values state rest (omega arith) aligned has fits)
      (pushed_once number (register count values) (at_push state number) (λ done after. tree_of pages (push_registers count mask values) after rest) (omega arith) aligned (fits count) (get_or-set_same state.r 14 (place_of frame number) 0 has))
      (is_in_mask count mask)
    where
      by : tree_of pages (push_registers count mask values) (at_push state (number + 1)) rest
          ≡ pushed_from frame (number + 1 + 1) (saved_values count mask values) (rest tt (at_push state (number + 1 + length (saved_values count mask values))))
          → tree_of pages (push_registers count mask values) (at_push state number) rest
          ≡ pushed_from frame (number + 1) (saved_values count mask values) (rest tt (at_push state (number + length (saved_values count mask values))))
          → tree_of pages (push_checked (register count values)) (at_push state number) (λ done after. tree_of pages (push_registers count mask values) after rest)
          ≡ Ask (record { address = place_of frame (number + 1); count = 4; kind = Write (register count values) })
          (λ reply. tree_of pages (push_registers count mask values) (with_register SP (place_of frame (number + 1)) (at_push state number)) rest)
          → (b : Bool)
          → (if b then tree_of pages (push_checked (register count values)) (at_push state number) (λ done after. tree_of pages (push_registers count mask values) after rest)
          else tree_of pages (push_registers count mask values) (at_push state number) rest)
          ≡ pushed_from frame (number + 1) (if b then register count values ∷ saved_values count mask values else saved_values count mask values)
          (rest tt (at_push state (number + length (if b then register count values ∷ saved_values count mask values else saved_values count mask values))))
      by later here once true =
          let sum : number + 1 + length (saved_values count mask values) ≡ number + suc (length (saved_values count mask values)) = omega arith in
          once
          ∙ (ap (λ (s : VaxState). Ask (record { address = place_of frame (number + 1); count = 4; kind = Write (register count values) }) (λ reply. tree_of pages (push_registers count mask values) s rest)) (again state number (number + 1))
          ∙ (ap (λ (t : Tree). Ask (record { address = place_of frame (number + 1); count = 4; kind = Write (register count values) }) (λ reply. t)) later
          ∙ ap (λ (n : ℕ). pushed_from frame (number + 1) (register count values ∷ saved_values count mask values) (rest tt (at_push state n))) sum))
      by later here once false = here

  -- the whole frame from a state on whose SP was aligned: registers, PC, FP, AP, status, no handler
  pub frame_pushed : (mask pc status : ℕ) (values state : VaxState) (rest : Unit {0} → VaxState → Tree) → frame % 4 ≡ 0 → 14 < length state.r
      → ((k : ℕ) → register k values < 2 ^ 32) → pc < 2 ^ 32 → status < 2 ^ 32 → length (saved_values 12 mask values) ≤ 12
      → tree_of pages (push_registers 12 mask values) (at_push state 0)
      (λ d0 s0. tree_of pages (push_checked pc) s0 (λ d1 s1. tree_of pages (push_checked (register 13 values)) s1 (λ d2 s2. tree_of pages (push_checked (register 12 values)) s2 (λ d3 s3. tree_of pages (push_checked status) s3 (λ d4 s4. tree_of pages (push_checked 0) s4 rest)))))
      ≡ pushed_from frame 1 (saved_values 12 mask values)
      (pushed_from frame (length (saved_values 12 mask values) + 1) (pc ∷ register 13 values ∷ register 12 values ∷ status ∷ 0 ∷ []) (rest tt (at_push state (length (saved_values 12 mask values) + 5))))
  frame_pushed mask pc status values state rest aligned has fits pc_fits status_fits few =
      registers_pushed 12 0 mask values state _ (lit≤ tt) aligned has fits
      ∙ ap (pushed_from frame 1 (saved_values 12 mask values))
      (ap (λ (n : ℕ). five (at_push state n)) none ∙ others_pushed (length (saved_values 12 mask values)) few)
    where
      none : 0 + length (saved_values 12 mask values) ≡ length (saved_values 12 mask values)
      none = omega arith

      five : VaxState → Tree
      five s0 = tree_of pages (push_checked pc) s0 (λ d1 s1. tree_of pages (push_checked (register 13 values)) s1 (λ d2 s2. tree_of pages (push_checked (register 12 values)) s2 (λ d3 s3. tree_of pages (push_checked status) s3 (λ d4 s4. tree_of pages (push_checked 0) s4 rest))))

      one : (n value : ℕ) (on : Unit {0} → VaxState → Tree) → n ≤ 16 → value < 2 ^ 32
          → tree_of pages (push_checked value) (at_push state n) on ≡ Ask (record { address = place_of frame (n + 1); count = 4; kind = Write value }) (λ reply. on tt (at_push state (n + 1)))
      one n value on le lt =
          pushed_once n value (at_push state n) on le aligned lt (get_or-set_same state.r 14 (place_of frame n) 0 has)
          ∙ ap (λ (s : VaxState). Ask (record { address = place_of frame (n + 1); count = 4; kind = Write value }) (λ reply. on tt s)) (again state n (n + 1))

      asks : (n value : ℕ) (t u : Tree) → t ≡ u → Ask (record { address = place_of frame n; count = 4; kind = Write value }) (λ reply. t) ≡ Ask (record { address = place_of frame n; count = 4; kind = Write value }) (λ reply. u)
      asks n value t u e = ap (λ (x : Tree). Ask (record { address = place_of frame n; count = 4; kind = Write value }) (λ reply. x)) e

      others_pushed : (n : ℕ) → n ≤ 12 → five (at_push state n) ≡ pushed_from frame (n + 1) (pc ∷ register 13 values ∷ register 12 values ∷ status ∷ 0 ∷ []) (rest tt (at_push state (n + 5)))
      others_pushed n le =
          let sum : n + 1 + 1 + 1 + 1 + 1 ≡ n + 5 = omega arith in
          one n pc _ (omega arith) pc_fits
          ∙ asks (n + 1) pc _ _ (one (n + 1) (register 13 values) _ (omega arith) (fits 13)
          ∙ asks (n + 1 + 1) (register 13 values) _ _ (one (n + 1 + 1) (register 12 values) _ (omega arith) (fits 12)
          ∙ asks (n + 1 + 1 + 1) (register 12 values) _ _ (one (n + 1 + 1 + 1) status _ (omega arith) status_fits
          ∙ asks (n + 1 + 1 + 1 + 1) status _ _ (one (n + 1 + 1 + 1 + 1) 0 rest (omega arith) (lit< tt)
          ∙ asks (n + 1 + 1 + 1 + 1 + 1) 0 _ _ (ap (λ (k : ℕ). rest tt (at_push state k)) sum)))))
