-- Local steps of a processor whose boundary is not worked out.
use Rattle.std.proofs.Common.{◌≡◌, ℕ, zero, suc, ◌<◌, ◌+◌, ◌⊎◌, inl, inr, ◌&&◌, Bool, true, false, [], Option, Some, None, refl, sym, subst, ap, ◌∙◌, arith}
use Rattle.std.specs.Prelude.{not, option_and_then, option_map}
use Rattle.std.specs.Option.{option_or}
use Rattle.alpha_machine.specs.Step.{state_of}
use Rattle.alpha_machine.specs.declared.cpu.Cpu.{Cpu}
use Rattle.alpha_meaning.specs.State.{Alpha, at_place}
use Rattle.exception_records.specs.Shown.{still_held}
use Rattle.vax_form.specs.declared.pages.Pages.{Pages}
use Rattle.vax_form.specs.declared.state.Flags.{Flags}
use Rattle.vax_form.specs.declared.state.Pending.{Pending}
use Rattle.vax_form.specs.declared.state.Pending.TheVariants.{Nothing}
use Rattle.vax_form.specs.declared.state.VaxState.{VaxState}
use Rattle.prepared_code.specs.Inside.{Crosses, steps_in, landing, landed}
use Rattle.prepared_code.specs.Sources.{Source, block_at, block_by}
use Rattle.prepared_code.specs.Probes.{Passes}
use Rattle.prepared_code.specs.declared.blocks.Block.{Block}
use Rattle.system_model.specs.Processors.{Mode, Runs, Processor, mode_at, mode_by, mode_of, moment_of, stepped, placed, left, alpha_turn, turn, turn_in}
use Rattle.system_model.specs.Ranges.{word_for}
use Rattle.system_model.specs.Settings.{Setting, unless_pending}
use Rattle.system_model.specs.Steps.{Last, Comes, Fails, Place, Inside, Lands, Leaves, Next, Moves, Wants, Stuck, next, settled_last}
use Rattle.vax_form.specs.Tree.{Finish, Exit, Trap}
use Rattle.tie_switch.specs.Courses.{Begins, boundary_by, course_of, Goes, HoldsNone, landed_there}
use Rattle.tie_switch.specs.Inside.{went, went_by, state_there, source_in, StepsAreTurns, LandingsAreTurns, ProbesAreTurns}
use Rattle.tie_switch.specs.declared.course.Course.{Course}
use Rattle.tie_switch.specs.declared.course.Landed.{Landed}

-- ---- one behind the other
went_more : (s : Setting) (p q r : Processor) (a b : ℕ) → went s p a ≡ Some q → went s q b ≡ Some r → went s p (a + b) ≡ Some r
went_more s p q r a zero e h = ap (went s p) (none a) ∙ e ∙ h
  where
    none : (n : ℕ) → n + 0 ≡ n
    none n = omega arith
went_more s p q r a (suc b) e h = last (went s q b) (λ x k. went_more s p q x a b e k) h
  where
    after : (m n : ℕ) → m + suc n ≡ suc (m + n)
    after m n = omega arith

    last : (o : Option Processor) → ((x : Processor) → o ≡ Some x → went s p (a + b) ≡ Some x) → option_and_then (λ x. went_by (turn s x)) o ≡ Some r → went s p (a + suc b) ≡ Some r
    last None f k = absurd (cc k)
    last (Some x) f k = ap (went s p) (after a b) ∙ ap (option_and_then (λ x. went_by (turn s x))) (f x refl) ∙ k

pub goes_more : (s : Setting) (thread : ℕ) (before : VaxState) (old mid new : Course) (m n : ℕ) → Goes s thread before old mid m → Goes s thread before mid new n
    → Goes s thread before old new (m + n)
goes_more s thread before old mid new m n g h = λ interpreted steps.
    went_more s (course_of thread before interpreted old steps) (course_of thread before interpreted mid (steps + m)) (course_of thread before interpreted new (steps + m + n)) m n (g interpreted steps) (h interpreted (steps + m))
    ∙ ap (λ k. Some (course_of thread before interpreted new k)) (joined steps m n)
  where
    joined : (k m n : ℕ) → k + m + n ≡ k + (m + n)
    joined k m n = omega arith

pub goes_nowhere : (s : Setting) (thread : ℕ) (before : VaxState) (course : Course) → Goes s thread before course course 0
goes_nowhere s thread before course = λ interpreted steps. ap (λ k. Some (course_of thread before interpreted course k)) (none steps)
  where
    none : (n : ℕ) → n ≡ n + 0
    none n = omega arith

-- the turns of the one are those of the other
pub begun_went : (s : Setting) (p q r : Processor) (n : ℕ) → Begins s p q → 0 < n → went s q n ≡ Some r → went s p n ≡ Some r
begun_went s p q r zero begins some goes = absurd (omega (arith, some))
begun_went s p q r (suc n) begins some goes = begins n ∙ goes

same_place : (p q : Processor) (c d : Alpha) → p.mode ≡ Runs c → q.mode ≡ Runs d → Some p ≡ Some q → c ≡ d
same_place p q c d at there same =
    let one : p ≡ q = cc same in
    let modes : Runs c ≡ Runs d = sym at ∙ ap (λ (x : Processor). x.mode) one ∙ there in
    cc modes

-- where it goes no step, it stands where it stood
pub stood : (s : Setting) (thread : ℕ) (before : VaxState) (old new : Course) → Goes s thread before old new 0 → state_of old.cpu ≡ state_of new.cpu
stood s thread before old new goes = same_place (course_of thread before 0 old 0) (course_of thread before 0 new 0) (state_of old.cpu) (state_of new.cpu) refl refl (goes 0 0)

-- ---- inside a block
pub goes_inside : (s : Setting) (thread : ℕ) (before : VaxState) (old : Course) (cpu : Cpu) (n : ℕ) → StepsAreTurns → steps_in s.code (state_of old.cpu) n ≡ Some (state_of cpu)
    → Goes s thread before old (record old { cpu = cpu }) n
goes_inside s thread before old cpu n law h = λ interpreted steps. law s (course_of thread before interpreted old steps) (state_of old.cpu) (state_of cpu) n refl h

pub goes_behind_probe : (s : Setting) (thread : ℕ) (before : VaxState) (old : Course) (cpu : Cpu) → ProbesAreTurns → Passes (source_in s s.meaning.pages) (state_of old.cpu)
    → state_of cpu ≡ at_place (state_of old.cpu).regs (old.cpu.pc + 1)
    → Goes s thread before old (record old { cpu = cpu }) 1
goes_behind_probe s thread before old cpu law passes there = λ interpreted steps.
    let p = course_of thread before interpreted old steps in
    let next : suc steps ≡ steps + 1 = omega arith in
    ap went_by (law s p (state_of old.cpu) refl passes)
    ∙ ap (λ (c : Alpha). Some (record (stepped p) { mode = Runs c })) (sym there)
    ∙ ap (λ (n : ℕ). Some (record p { mode = Runs (state_of cpu); steps = n })) next

-- ---- to the next block
-- the state there is the same, whatever was not worked out
over : (before : VaxState) (held : Flags) (l : Option Landed) (d : Alpha) (block : Block) (h : Flags) → state_there (boundary_by before held l) d block h ≡ state_there before d block h
over before held None d block h = refl
over before held (Some l) d block h = refl

made : (thread interpreted : ℕ) → Mode → VaxState → Flags → (retired steps : ℕ) → Processor
made thread interpreted mode boundary held retired steps = record { thread = thread; mode = mode; boundary = boundary; held = held; retired = retired; steps = steps; interpreted = interpreted }

pub goes_there : (s : Setting) (thread : ℕ) (before : VaxState) (old new : Course) (pages : Pages) (d : Alpha) (block : Block) (word : ℕ) → LandingsAreTurns
    → before.pending ≡ Nothing
    → landing (source_in s pages) (state_of old.cpu) ≡ Some (landed d block)
    → word_for s.code.map s.ranges thread block.address ≡ Some word
    → state_of new.cpu ≡ at_place d.regs word
    → new.landed ≡ Some (record { cpu = new.cpu; block = block })
    → new.held ≡ still_held old.held (s.meaning.written (boundary_by before old.held old.landed).pc)
    → new.retired ≡ old.retired + 1
    → Goes s thread before old new 1
unfolding made
goes_there s thread before old new pages d block word law nothing there goes cpu at held retired = λ interpreted steps.
    let kept = still_held old.held (s.meaning.written (boundary_by before old.held old.landed).pc) in
    let state = state_there before d block kept in
    let one_more : suc old.retired ≡ new.retired = omega (arith, retired) in
    let next : suc steps ≡ steps + 1 = omega arith in
    let mode : mode_at s thread state d.regs ≡ Runs (state_of new.cpu) =
    ap (λ (pending : Pending). mode_by (unless_pending pending (word_for s.code.map s.ranges thread block.address)) state d.regs) nothing
    ∙ ap (λ o. mode_by o state d.regs) goes
    ∙ ap Runs (sym cpu) in
    ap went_by (law s pages (course_of thread before interpreted old steps) (state_of old.cpu) d block refl there)
    ∙ ap Some
    (ap (λ (x : VaxState). made thread interpreted (mode_at s thread x d.regs) x kept (suc old.retired) (suc steps)) (over before old.held old.landed d block kept)
    ∙ ap (λ (m : Mode). made thread interpreted m state kept (suc old.retired) (suc steps)) mode
    ∙ ap (λ (x : Alpha). made thread interpreted (Runs (state_of new.cpu)) (state_there before x block kept) kept (suc old.retired) (suc steps)) (sym cpu)
    ∙ ap (λ (h : Flags). made thread interpreted (Runs (state_of new.cpu)) (state_there before (state_of new.cpu) block h) h (suc old.retired) (suc steps)) (sym held)
    ∙ ap (λ n. made thread interpreted (Runs (state_of new.cpu)) (state_there before (state_of new.cpu) block new.held) new.held n (suc steps)) one_more
    ∙ ap (λ n. made thread interpreted (Runs (state_of new.cpu)) (state_there before (state_of new.cpu) block new.held) new.held new.retired n) next
    ∙ ap (λ (l : Option Landed). made thread interpreted (Runs (state_of new.cpu)) (boundary_by before new.held l) new.held new.retired (steps + 1)) (sym at))

-- ---- through blocks of local steps
-- no code is held behind an instruction either
still_none : (held written : Bool) → held ≡ false → held ≡ (held && not written)
still_none false written e = refl
still_none true written e = absurd (cc e)

flags : (n z v c : Bool) → Flags
flags n z v c = record { n = n; z = z; v = v; c = c }

none_still : (held written : Flags) → HoldsNone held → held ≡ still_held held written
unfolding flags
none_still held written none =
    ap (λ n. flags n held.z held.v held.c) (still_none held.n written.n none.0)
    ∙ ap (λ z. flags (held.n && not written.n) z held.v held.c) (still_none held.z written.z none.1)
    ∙ ap (λ v. flags (held.n && not written.n) (held.z && not written.z) v held.c) (still_none held.v written.v none.2)
    ∙ ap (λ c. flags (held.n && not written.n) (held.z && not written.z) (held.v && not written.v) c) (still_none held.c written.c none.3)

-- the block that begins where it stands is where it landed, if it made a step
abbrev pub LandedThere : Source → Cpu → Option Landed → Type 0
LandedThere source cpu landed = (block : Block) × (block_at source cpu.pc ≡ Some block) × (landed ≡ Some (record { cpu = cpu; block = block }))

-- it goes so many steps through so many blocks
pub record Glides (s : Setting) (source : Source) (old : Course) (cpu : Cpu) (steps blocks : ℕ) : Type 0 where
  pub landed : Option Landed
  pub there : ((steps ≡ 0) × (landed ≡ old.landed)) ⊎ LandedThere source cpu landed
  pub goes : (thread : ℕ) (before : VaxState) → before.pending ≡ Nothing
      → Goes s thread before old (record old { cpu = cpu; landed = landed; retired = old.retired + blocks }) steps

pub glides_nowhere : (s : Setting) (source : Source) (old : Course) → Glides s source old old.cpu 0 0
glides_nowhere s source old = record {
  landed = old.landed;
  there = inl (refl, refl);
  goes = λ thread before nothing. subst (λ n. Goes s thread before old (record old { retired = n }) 0) (none old.retired) (goes_nowhere s thread before old);
}
  where
    none : (n : ℕ) → n ≡ n + 0
    none n = omega arith

pub glides_on : (s : Setting) (pages : Pages) (old : Course) (cpu new : Cpu) (steps blocks more : ℕ) → StepsAreTurns → LandingsAreTurns → s.ranges ≡ [] → HoldsNone old.held
    → Glides s (source_in s pages) old cpu steps blocks → Crosses s.code cpu new more → Glides s (source_in s pages) old new (steps + more) (blocks + 1)
glides_on s pages old cpu new steps blocks more inside_law landing_law none_ranges none was crosses =
    let source = source_in s pages in
    let lands = crosses.lands in
    let block = block_by s.code.points pages lands.address new.pc in
    let begins : block_at source new.pc ≡ Some block = ap (option_map (λ address. block_by s.code.points pages address new.pc)) lands.there in
    let mid : Course = record old { cpu = cpu; landed = was.landed; retired = old.retired + blocks } in
    let last : Course = record mid { cpu = crosses.last } in
    let came : Option Landed = Some (record { cpu = new; block = block }) in
    let there : Course = record old { cpu = new; landed = came; retired = old.retired + (blocks + 1) } in
    record {
      landed = came;
      there = inr (block, begins, refl);
      goes = λ thread before nothing.
          let word : word_for s.code.map s.ranges thread lands.address ≡ Some new.pc = ap (λ r. word_for s.code.map r thread lands.address) none_ranges ∙ lands.back in
          let inside = goes_inside s thread before mid crosses.last crosses.inside inside_law crosses.ran in
          let to : landing source (state_of crosses.last) ≡ Some (landed (state_of new) block) =
          ap (option_and_then (λ d. option_map (landed d) (block_at source d.pc))) lands.leads ∙ ap (option_map (landed (state_of new))) begins in
          let over = goes_there s thread before last there pages (state_of new) block new.pc landing_law nothing to word refl refl
          (none_still old.held (s.meaning.written (boundary_by before old.held was.landed).pc) none) (omega arith) in
          let count : steps + (crosses.inside + 1) ≡ steps + more = omega (arith, crosses.counted) in
          subst (Goes s thread before old there) count
          (goes_more s thread before old mid there steps (crosses.inside + 1) (was.goes thread before nothing) (goes_more s thread before mid last there crosses.inside 1 inside over));
    }

-- it goes through one block, and keeps where it landed
one_block : (s : Setting) (source : Source) (old : Course) (new : Cpu) (steps : ℕ) (one : Glides s source old new (0 + steps) (0 + 1)) → 0 < steps → (thread : ℕ) (before : VaxState) → before.pending ≡ Nothing
    → Goes s thread before old (record old { cpu = new; landed = landed_there source new old.landed; retired = old.retired + 1 }) steps
one_block s source old new steps one some thread before nothing = by one.there
  where
    by : (((0 + steps) ≡ 0) × (one.landed ≡ old.landed)) ⊎ LandedThere source new one.landed
        → Goes s thread before old (record old { cpu = new; landed = landed_there source new old.landed; retired = old.retired + 1 }) steps
    by (inl none) = absurd (omega (arith, none.0, some))
    by (inr there) =
        let came : one.landed ≡ landed_there source new old.landed =
        there.2 ∙ sym (ap (λ (o : Option Block). option_or (option_map (λ (b : Block). record { cpu = new; block = b }) o) old.landed) there.1) in
        let count : 0 + steps ≡ steps = omega arith in
        let more : old.retired + (0 + 1) ≡ old.retired + 1 = omega arith in
        subst (λ n. Goes s thread before old (record old { cpu = new; landed = landed_there source new old.landed; retired = old.retired + 1 }) n) count
        (subst (λ r. Goes s thread before old (record old { cpu = new; landed = landed_there source new old.landed; retired = r }) (0 + steps)) more
        (subst (λ (l : Option Landed). Goes s thread before old (record old { cpu = new; landed = l; retired = old.retired + (0 + 1) }) (0 + steps)) came (one.goes thread before nothing)))

pub goes_over : (s : Setting) (pages : Pages) (old : Course) (new : Cpu) (steps : ℕ) → StepsAreTurns → LandingsAreTurns → s.ranges ≡ [] → HoldsNone old.held → Crosses s.code old.cpu new steps
    → (thread : ℕ) (before : VaxState) → before.pending ≡ Nothing
    → Goes s thread before old (record old { cpu = new; landed = landed_there (source_in s pages) new old.landed; retired = old.retired + 1 }) steps
goes_over s pages old new steps inside_law landing_law none_ranges none crosses =
    one_block s (source_in s pages) old new steps
    (glides_on s pages old old.cpu new 0 0 steps inside_law landing_law none_ranges none (glides_nowhere s (source_in s pages) old) crosses) (omega (arith, crosses.counted))

-- ---- the first turn of a new processor
same_left : (s : Setting) (p : Processor) (m : Mode) (last : Last) → left s (record p { mode = m }) last ≡ left s p last
same_left s p m (Comes (Finish state)) = refl
same_left s p m (Comes (Exit state)) = refl
same_left s p m (Comes (Trap kind state)) = refl
same_left s p m (Fails exception) = refl

same_placed : (s : Setting) (p : Processor) (m : Mode) (place : Place) → placed s (record p { mode = m }) place ≡ placed s p place
same_placed s p m (Inside alpha) = refl
same_placed s p m (Lands state held regs) = refl
same_placed s p m (Leaves last) = same_left s p m (settled_last p.boundary last)

same_turn : (s : Setting) (p : Processor) (m : Mode) (n : Next) → went_by (alpha_turn s (record p { mode = m }) n) ≡ went_by (alpha_turn s p n)
same_turn s p m (Moves place) = ap Some (same_placed s (stepped p) m place)
same_turn s p m (Wants request on) = refl
same_turn s p m Stuck = refl

pub begins_there : (s : Setting) (p : Processor) (a : Alpha) → mode_of s p p.mode ≡ Runs a → Begins s p (record p { mode = Runs a })
begins_there s p a e zero =
    ap (λ (m : Mode). went_by (turn_in s p m)) e ∙ sym (same_turn s p (Runs a) (next s (moment_of p) a))
begins_there s p a e (suc n) = ap (option_and_then (λ q. went_by (turn s q))) (begins_there s p a e n)
