-- Behind the computations of a program: the result goes to its operand, the registers are committed and the codes set.
use Rattle.std.proofs.Common.{◌≡◌, ℕ, ◌+◌, ◌%◌, ◌^◌, ◌<◌, eqb, get_or, Bool, true, false, List, [], ◌∷◌, ◌++◌, length, refl, sym, ap, ◌∙◌, subst}
use Rattle.std.proofs.Common.{arith, inl, inr, lit<}
use Rattle.std.proofs.lemmas.Bool.Decides.{eqb_tells}
use Rattle.std.proofs.lemmas.List.{length-set, set-get_or}
use Rattle.std.proofs.lemmas.Nat.{mod_below}
use Rattle.vax_form.specs.declared.instr.Operand.TheVariants as operands
use Rattle.operand_programs.proofs.Stepped.{register_stepped}
use Rattle.std.specs.List.{list_all}
use Rattle.vax_form.specs.State.{IsState, register, with_core, with_register}
use Rattle.std.proofs.Math.Nat.{mod-eq_of_lt}
use Rattle.vax_form.specs.Tree.{Tree, tree_of, ends_with}
use Rattle.vax_form.specs.declared.instr.Operand.{Operand}
use Rattle.vax_form.specs.declared.instr.Size.{Size}
use Rattle.vax_form.specs.declared.instr.Size.TheVariants.{Byte, Word, Long, Quad}
use Rattle.vax_form.specs.declared.pages.Pages.{Pages}
use Rattle.vax_form.specs.declared.state.VaxState.{VaxState}
use Rattle.vax_meaning.specs.Operands.{store, put}
use Rattle.vax_meaning.specs.Codes.{go_to}
use Rattle.vax_meaning.specs.Moves.{push}
use Rattle.vax_meaning.specs.declared.operands.Location.{Location}
use Rattle.vax_meaning.specs.declared.operands.Location.TheVariants.{InMemory, InRegister}
use Rattle.vt_words.specs.declared.arithmetic.Coded.{Coded}
use Rattle.micro_ops.specs.Leaving.{CodesComeFrom}
use Rattle.micro_ops.specs.Meaning.{Temps, Found, Standing, course_of, started}
use Rattle.micro_ops.specs.Sources.{from}
use Rattle.micro_ops.specs.declared.codes.CodeSource.{CodeSource}
use Rattle.micro_ops.specs.declared.codes.CodeSources.{CodeSources}
use Rattle.micro_ops.specs.declared.codes.CodeSource.TheVariants as sources
use Rattle.micro_ops.specs.declared.program.Exit.{Exit}
use Rattle.micro_ops.specs.declared.program.Micro.{Micro}
use Rattle.micro_ops.specs.declared.program.Micro.TheVariants.{Compute, Leave}
use Rattle.operand_programs.specs.Operands.{IsAt, IsOfSize}
use Rattle.operand_programs.specs.Pieces.{Agrees, Kept, with_temps, leaving}
use Rattle.operand_programs.specs.Results.{given, result_program, replacement_program, push_program, finish_program, steps_behind_push, with_registers_of, KeptBut5, IsGivable}
use Rattle.operand_programs.specs.Specifiers.{stepped, commit_program}
use Rattle.operand_programs.proofs.Accesses.{register_below}
use Rattle.operand_programs.proofs.Finishing.{finishes, commits_steps}
use Rattle.operand_programs.proofs.Writing.{stores_result, replaces_operand, pushes}
use Rattle.micro_lower.specs.Plans.{codes_program}
use Rattle.micro_lower.proofs.Coding.{GoesTo, coded_end, plain_leaves}
use Rattle.micro_lower.proofs.Ready.{effect, IsLowExit, still_goes, ReadyFor, ends_coded}

steps_length_push : (steps : List ℕ) → length (steps_behind_push steps) ≡ length steps
steps_length_push steps = length-set steps 14 _

-- computations alone
abbrev pub is_computation : Micro → Bool
is_computation (Compute to op size a b) = true
is_computation operation = false

pub computes : (program rest : List Micro) (found : Found) (standing : Standing) → list_all is_computation program ≡ true
    → course_of (program ++ rest) found standing ≡ course_of rest found (with_temps (effect program found standing.temps) standing)
computes [] rest found standing all = refl
computes (Compute to op size a b ∷ program) rest found standing all = computes program rest found _ all
computes (_ ∷ program) rest found standing all = cc

-- a result changes registers alone
pub given_core : (location : Location) (size : Size) (value : ℕ) (steps : List ℕ) (start : VaxState)
    → with_core start (given location size value (stepped steps start)).r start.pc start.psw ≡ given location size value (stepped steps start)
given_core (InMemory address) size value steps start = refl
given_core (InRegister n) Byte value steps start = refl
given_core (InRegister n) Word value steps start = refl
given_core (InRegister n) Long value steps start = refl
given_core (InRegister n) Quad value steps start = refl

-- a register that takes what it has
kept_register : (state : VaxState) → register 14 state < 2 ^ 32 → given (InRegister 14) Long (register 14 state) state ≡ state
kept_register state fits =
    ap (λ n. with_register 14 n state) (mod-eq_of_lt fits) ∙ ap (λ (r : List ℕ). with_core state r state.pc state.psw) (set-get_or state.r 14 0)

-- the codes do not come from temporary 5
pub still_ready : (nzv c : CodeSource) (psw : ℕ) (before after : Temps) (coded : Coded) → KeptBut5 before after → ReadyFor nzv c psw before coded → ReadyFor nzv c psw after coded
still_ready (sources.Result size) sources.Kept psw before after coded kept ready = rw (kept 2 refl) ready
still_ready (sources.Result size) sources.Zero psw before after coded kept ready = rw (kept 2 refl) ready
still_ready (sources.Add size) (sources.Add other) psw before after coded kept ready = rw (kept 0 refl, kept 1 refl, kept 2 refl) ready
still_ready (sources.Sub size) (sources.Sub other) psw before after coded kept ready = rw (kept 0 refl, kept 1 refl, kept 2 refl) ready
still_ready (sources.Compare size) (sources.Compare other) psw before after coded kept ready = rw (kept 0 refl, kept 1 refl) ready
still_ready (sources.Computed size) sources.Zero psw before after coded kept ready = rw (kept 2 refl, kept 3 refl) ready
still_ready (sources.Computed size) (sources.Computed other) psw before after coded kept ready = rw (kept 2 refl, kept 3 refl, kept 4 refl) ready
still_ready (sources.Computed size) sources.Kept psw before after coded kept ready = rw (kept 2 refl, kept 3 refl) ready
still_ready nzv c psw before after coded kept ready = absurd ready

not_5 : (temp : ℕ) → temp < 5 → eqb temp 5 ≡ false
not_5 temp below = elim (eqb_tells temp 5) [ inl is ↦ absurd (omega (arith, below, is.1)) | inr not ↦ not.0 ]

-- what was found: the state, and the address behind the instruction
abbrev pub found_at : VaxState → (after : ℕ) → Found
found_at start after = record { state = start; after = after }

-- behind the operands
abbrev pub with : VaxState → Temps → Standing
with start temps = with_temps temps (started start)

-- the program does what the tree does
abbrev pub DoesSo : CodeSources → VaxState → Pages → (thread after : ℕ) → List Micro → Standing → Tree → Type 0
DoesSo codes start pages thread after program standing tree = Agrees (CodesComeFrom codes start) (leaving pages thread) (course_of program (found_at start after) standing) tree

-- the end of a program: it closes as the instruction ends, from each state with other registers, where the temporaries hold
-- what it takes
abbrev pub Closes : CodeSources → VaxState → Pages → (thread after : ℕ) → List Micro → (VaxState → Tree) → (Temps → Type 0) → Type 0
Closes codes start pages thread after close end Ready =
    (state : VaxState) (temps temps' : Temps) → with_core start state.r start.pc start.psw ≡ state → KeptBut5 temps temps' → Ready temps
    → DoesSo codes start pages thread after close (with_registers_of state temps' (with start temps)) (end state)

module _ (codes : CodeSources) (start : VaxState) (pages : Pages) (thread after : ℕ) (ok : IsState start) (close : List Micro) (end : VaxState → Tree) (Ready : Temps → Type 0)
    (closes : Closes codes start pages thread after close end Ready) where
  -- what the specifiers added is committed
  pub commits : (steps : List ℕ) (temps : Temps) → length steps ≡ length start.r → Ready temps
      → DoesSo codes start pages thread after (commit_program 0 steps ++ close) (with start temps) (end (stepped steps start))
  commits steps temps same ready =
      commits_steps steps codes start pages thread close (found_at start after) (with start temps) (end (stepped steps start)) same refl (register_below start ok)
      (λ temps' kept. closes (stepped steps start) temps temps' refl kept ready)

  -- so is a result in registers
  pub gives : (operand : Operand) (size : Size) (steps : List ℕ) (location : Location) (address value : ℕ) (temps : Temps) → length steps ≡ length start.r
      → IsAt operand location address → IsGivable operand size → temps 2 ≡ value → IsOfSize size value → Ready temps
      → DoesSo codes start pages thread after (finish_program operand size steps 2 ++ close) (with start temps) (end (given location size value (stepped steps start)))
  gives operand size steps location address value temps same at givable is fits ready =
      let state = given location size value (stepped steps start) in
      finishes operand size steps 2 (lit< tt) givable codes start pages thread close (found_at start after) (with start temps) location address (end state) same refl (register_below start ok) at (rw is fits)
      (λ temps' kept. rw is (closes state temps temps' (given_core location size value steps start) kept ready))

  module _ (behind : List Micro) (all : list_all is_computation behind ≡ true) where
    -- behind the computations behind the result
    pub nowhere : (steps : List ℕ) (temps : Temps) → length steps ≡ length start.r → Ready (effect behind (found_at start after) temps)
        → DoesSo codes start pages thread after (behind ++ (commit_program 0 steps ++ close)) (with start temps) (end (stepped steps start))
    nowhere steps temps same ready = rw (computes behind (commit_program 0 steps ++ close) (found_at start after) (with start temps) all) (commits steps (effect behind (found_at start after) temps) same ready)

    module _ (operand : Operand) (size : Size) (steps : List ℕ) (location : Location) (value : ℕ) (temps : Temps) (same : length steps ≡ length start.r)
        (at : IsAt operand location (temps 3)) (givable : IsGivable operand size) (is : temps 2 ≡ value) (fits : IsOfSize size value)
        (kept : effect behind (found_at start after) temps 2 ≡ temps 2) (ready : Ready (effect behind (found_at start after) temps)) where
      finished : DoesSo codes start pages thread after (behind ++ (finish_program operand size steps 2 ++ close)) (with start temps) (end (given location size value (stepped steps start)))
      finished =
          rw (computes behind (finish_program operand size steps 2 ++ close) (found_at start after) (with start temps) all)
          (gives operand size steps location (temps 3) value (effect behind (found_at start after) temps) same at givable (kept ∙ is) fits ready)

      pub results : DoesSo codes start pages thread after (result_program operand size 3 2 ++ (behind ++ (finish_program operand size steps 2 ++ close))) (with start temps)
          (tree_of pages (store location size value) (stepped steps start) (λ done state. end state))
      results =
          rw (← is) (stores_result operand size 3 2 codes start pages thread (behind ++ (finish_program operand size steps 2 ++ close)) (found_at start after) (with start temps) location (stepped steps start)
          (λ done state. end state) at (rw is finished))

      pub replaces : DoesSo codes start pages thread after (replacement_program operand size 3 2 ++ (behind ++ (finish_program operand size steps 2 ++ close))) (with start temps)
          (tree_of pages (put location size value) (stepped steps start) (λ done state. end state))
      replaces =
          rw (← is) (replaces_operand operand size 3 2 codes start pages thread (behind ++ (finish_program operand size steps 2 ++ close)) (found_at start after) (with start temps) location (stepped steps start)
          (λ done state. end state) at (rw is finished))

  -- the stack pointer, which is in 3, is committed
  comes_down : (steps : List ℕ) (temps : Temps) → length steps ≡ length start.r → temps 3 ≡ register 14 (stepped steps start) → Ready temps
      → DoesSo codes start pages thread after (finish_program (operands.Register 14) Long steps 3 ++ close) (with start temps) (end (stepped steps start))
  comes_down steps temps same top ready =
      let state = given (InRegister 14) Long (temps 3) (stepped steps start) in
      let value : temps 3 ≡ (register 14 start + get_or steps 14 0) % 2 ^ 32 = top ∙ register_stepped start steps 14 same in
      let fits : temps 3 < 2 ^ 32 = subst (λ n. n < 2 ^ 32) (sym value) (mod_below _ (2 ^ 32) (lit< tt)) in
      let is : state ≡ stepped steps start = ap (λ n. given (InRegister 14) Long n (stepped steps start)) top ∙ kept_register (stepped steps start) (subst (λ n. n < 2 ^ 32) top fits) in
      subst (λ (s : VaxState). DoesSo codes start pages thread after (finish_program (operands.Register 14) Long steps 3 ++ close) (with start temps) (end s)) is
      (finishes (operands.Register 14) Long steps 3 (lit< tt) tt codes start pages thread close (found_at start after) (with start temps) (InRegister 14) 0 (end state) same refl (register_below start ok) refl fits
      (λ temps' kept. closes state temps temps' (given_core (InRegister 14) Long (temps 3) steps start) kept ready))

  -- a longword is pushed
  pub pushed : (steps : List ℕ) (value : ℕ) (temps : Temps) → length steps ≡ length start.r → 14 < length steps → temps 2 ≡ value
      → ((temps' : Temps) → Kept 3 3 temps temps' → Ready temps')
      → DoesSo codes start pages thread after (push_program steps 3 2 ++ (finish_program (operands.Register 14) Long (steps_behind_push steps) 3 ++ close)) (with start temps)
      (tree_of pages (push value) (stepped steps start) (λ done state. end state))
  pushed steps value temps same room is ready =
      rw (← is) (pushes steps 3 2 refl codes start pages thread (finish_program (operands.Register 14) Long (steps_behind_push steps) 3 ++ close) (found_at start after) (with start temps) (λ done state. end state) same room
      (λ temps' kept top. comes_down (steps_behind_push steps) temps' (steps_length_push steps ∙ same) top (ready temps' kept)))

-- ---- codes that are set
-- the exit goes there, and the temporaries hold what the codes come from
pub record IsReady (nzv c : CodeSource) (start : VaxState) (after : ℕ) (coded : Coded) (exit : Exit) (pc : ℕ) (temps : Temps) : Type 0 where
  pub low : IsLowExit exit
  pub goes : GoesTo exit (found_at start after) temps pc
  pub ready : ReadyFor nzv c start.psw temps coded

pub closes_coded : (nzv c : CodeSource) (start : VaxState) (pages : Pages) (thread after : ℕ) (coded : Coded) (exit : Exit) (pc : ℕ) (end : VaxState → Tree)
    → ((state : VaxState) → state.psw ≡ start.psw → coded_end pages coded.n coded.z coded.v coded.c pc state ≡ end state)
    → Closes (from nzv c) start pages thread after (codes_program (from nzv c) ++ Leave exit ∷ []) end (IsReady nzv c start after coded exit pc)
closes_coded nzv c start pages thread after coded exit pc end ends state temps temps' is kept r =
    let close = codes_program (from nzv c) ++ Leave exit ∷ [] in
    let standing = with_registers_of state temps' (with start temps) in
    subst (λ (s : VaxState). DoesSo (from nzv c) start pages thread after close standing (end s)) is
    (subst (λ (tree : Tree). DoesSo (from nzv c) start pages thread after close standing tree) (ends (with_core start state.r start.pc start.psw) refl)
    (ends_coded start pages thread (found_at start after) standing coded exit pc nzv c (still_ready nzv c start.psw temps temps' coded kept r.ready)
    r.low (still_goes exit (found_at start after) temps temps' pc r.low (λ temp below. kept temp (not_5 temp below)) r.goes) refl))

-- ---- codes that are kept
pub record IsReadyToGo (start : VaxState) (after : ℕ) (exit : Exit) (pc : ℕ) (temps : Temps) : Type 0 where
  pub low : IsLowExit exit
  pub goes : GoesTo exit (found_at start after) temps pc

pub closes_kept : (start : VaxState) (pages : Pages) (thread after : ℕ) (exit : Exit) (pc : ℕ)
    → Closes (from sources.Kept sources.Kept) start pages thread after (Leave exit ∷ []) (λ state. tree_of pages (go_to pc) state ends_with) (IsReadyToGo start after exit pc)
closes_kept start pages thread after exit pc state temps temps' is kept r =
    let standing = with_registers_of state temps' (with start temps) in
    subst (λ (s : VaxState). DoesSo (from sources.Kept sources.Kept) start pages thread after (Leave exit ∷ []) standing (tree_of pages (go_to pc) s ends_with)) is
    (plain_leaves (from sources.Kept sources.Kept) start pages thread (found_at start after) standing exit pc refl
    (still_goes exit (found_at start after) temps temps' pc r.low (λ temp below. kept temp (not_5 temp below)) r.goes) (record { signs = (refl, refl, refl); carry = refl }))
