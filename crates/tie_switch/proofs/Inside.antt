-- Local steps by the code alone are turns.
use Rattle.std.proofs.Common.{◌≡◌, ℕ, zero, suc, ◌+◌, Option, Some, None, refl, ap, ◌∙◌, arith}
use Rattle.std.specs.Prelude.{option_and_then, option_map}
use Rattle.address_map.specs.Pairs.{address_at}
use Rattle.alpha_encode.specs.declared.instr.AlphaInstr.{AlphaInstr}
use Rattle.alpha_meaning.specs.Act.{Does, Goes, Asks, Calls, act}
use Rattle.alpha_meaning.specs.State.{Alpha, at_place}
use Rattle.block_law.specs.Follows.{Probe}
use Rattle.block_law.specs.Translations.{fetch_of}
use Rattle.exception_records.specs.Points.{point_at}
use Rattle.exception_records.specs.declared.points.Point.{Point}
use Rattle.vax_form.specs.declared.pages.Pages.{Pages}
use Rattle.prepared_code.specs.Effects.{local}
use Rattle.prepared_code.specs.Inside.{local_by, local_at, unless_begun, step_in, steps_in, landed}
use Rattle.prepared_code.specs.Probes.{Passes}
use Rattle.prepared_code.specs.Sources.{block_by, block_at}
use Rattle.prepared_code.specs.declared.blocks.Block.{Block}
use Rattle.system_model.specs.Processors.{Mode, Runs, Processor, alpha_turn, moment_of, stepped, arrived, turn, placed}
use Rattle.system_model.specs.Processors as model
use Rattle.system_model.specs.Settings.{Setting}
use Rattle.system_model.specs.Steps.{Next, Moves, Inside, Moment, place_by, place_of, does, next_by, next, called, probed, held_behind, rules_of, state_at}
use Rattle.tie_switch.specs.Inside.{went, went_by, ran, block_rules, state_there, source_in, StepsAreTurns, LandingsAreTurns, ProbesAreTurns}

same_alpha : (c d : Alpha) → Some c ≡ Some d → c ≡ d
same_alpha c d e = cc e

-- ---- a local step
by_does : (s : Setting) (m : Moment) (i : AlphaInstr) (a : Does) (c d : Alpha) → local a ≡ Some d → does s m i a c ≡ Moves (place_of s m d)
by_does s m i (Goes e) c d h = ap (λ x. Moves (place_of s m x)) (same_alpha e d h)
by_does s m i (Asks a) c d h = absurd (cc h)
by_does s m i (Calls n) c d h = absurd (cc h)

by_fetch : (s : Setting) (m : Moment) (o : Option AlphaInstr) (c d : Alpha) → local_by o c ≡ Some d → next_by s m o c ≡ Moves (place_of s m d)
by_fetch s m None c d h = absurd (cc h)
by_fetch s m (Some i) c d h = by_does s m i (act i c) c d h

local_next : (s : Setting) (m : Moment) (c d : Alpha) → local_at s.code c ≡ Some d → next s m c ≡ Moves (place_of s m d)
unfolding next
local_next s m c d h = by_fetch s m (fetch_of s.code.words c.pc) c d h

-- ---- inside a block
stays : (s : Setting) (m : Moment) (o : Option ℕ) (e d : Alpha) → unless_begun o e ≡ Some d → place_by s m o e ≡ Inside d
stays s m None e d h = ap Inside (same_alpha e d h)
stays s m (Some a) e d h = absurd (cc h)

inside_by : (s : Setting) (m : Moment) (o : Option Alpha) (c d : Alpha) → local_at s.code c ≡ o
    → option_and_then (λ e. unless_begun (address_at s.code.map e.pc) e) o ≡ Some d → next s m c ≡ Moves (Inside d)
inside_by s m None c d h k = absurd (cc k)
inside_by s m (Some e) c d h k = local_next s m c e h ∙ ap Moves (stays s m (address_at s.code.map e.pc) e d k)

inside_next : (s : Setting) (m : Moment) (c d : Alpha) → step_in s.code c ≡ Some d → next s m c ≡ Moves (Inside d)
inside_next s m c d h = inside_by s m (local_at s.code c) c d refl h

begins : (p : Processor) (c : Alpha) → p.mode ≡ Runs c → p ≡ ran p c 0
begins p c e = ap (λ (m : Mode). record p { mode = m }) e ∙ ap (λ (n : ℕ). record p { mode = Runs c; steps = n }) (plus p.steps)
  where
    plus : (n : ℕ) → n ≡ n + 0
    plus n = omega arith

more : (p : Processor) (x d : Alpha) (n : ℕ) → record (stepped (ran p x n)) { mode = Runs d } ≡ ran p d (suc n)
more p x d n = ap (λ (k : ℕ). record p { mode = Runs d; steps = k }) (plus p.steps n)
  where
    plus : (k n : ℕ) → suc (k + n) ≡ k + suc n
    plus k n = omega arith

turned : (s : Setting) (p : Processor) (n : ℕ) (d : Alpha) (o : Option Alpha) → ((x : Alpha) → o ≡ Some x → went s p n ≡ Some (ran p x n))
    → option_and_then (step_in s.code) o ≡ Some d → went s p (suc n) ≡ Some (ran p d (suc n))
turned s p n d None f h = absurd (cc h)
turned s p n d (Some x) f h =
    ap (option_and_then (λ (q : Processor). went_by (turn s q))) (f x refl)
    ∙ ap (λ (y : Next). went_by (alpha_turn s (ran p x n) y)) (inside_next s (moment_of p) x d h)
    ∙ ap Some (more p x d n)

pub steps_are_turns : StepsAreTurns
steps_are_turns s p c d zero e h = ap Some (begins p c e) ∙ ap (λ (x : Alpha). Some (ran p x 0)) (same_alpha c d h)
steps_are_turns s p c d (suc n) e h = turned s p n d (steps_in s.code c n) (λ x k. steps_are_turns s p c x n e k) h

-- ---- a step that lands
same_rules : (o : Option Point) → rules_of o ≡ block_rules (option_map (λ (p : Point). p.rules) o)
same_rules None = refl
same_rules (Some point) = refl

same_pair : (x y : Alpha × Block) → Some x ≡ Some y → x ≡ y
same_pair x y e = cc e

lands : (s : Setting) (pages : Pages) (p : Processor) (o : Option ℕ) (e d : Alpha) (block : Block)
    → option_map (landed e) (option_map (λ address. block_by s.code.points pages address e.pc) o) ≡ Some (landed d block)
    → alpha_turn s p (Moves (place_by s (moment_of p) o e))
    ≡ model.Went (arrived s (stepped p) (state_there p.boundary d block (held_behind s (moment_of p))) (held_behind s (moment_of p)) d.regs)
lands s pages p None e d block h = absurd (cc h)
lands s pages p (Some address) e d block h =
    let held = held_behind s (moment_of p) in
    let same = same_pair (landed e (block_by s.code.points pages address e.pc)) (landed d block) h in
    ap (λ rules. model.Went (arrived s (stepped p) (state_at p.boundary e.regs address rules held) held e.regs)) (same_rules (point_at s.code.points e.pc))
    ∙ ap (λ (b : Block). model.Went (arrived s (stepped p) (state_there p.boundary e b held) held e.regs)) (ap (λ (q : Alpha × Block). q.1) same)
    ∙ ap (λ (x : Alpha). model.Went (arrived s (stepped p) (state_there p.boundary x block held) held x.regs)) (ap (λ (q : Alpha × Block). q.0) same)

landing_by : (s : Setting) (pages : Pages) (p : Processor) (o : Option Alpha) (c d : Alpha) (block : Block) → local_at s.code c ≡ o
    → option_and_then (λ e. option_map (landed e) (block_at (source_in s pages) e.pc)) o ≡ Some (landed d block)
    → alpha_turn s p (next s (moment_of p) c)
    ≡ model.Went (arrived s (stepped p) (state_there p.boundary d block (held_behind s (moment_of p))) (held_behind s (moment_of p)) d.regs)
landing_by s pages p None c d block h k = absurd (cc k)
landing_by s pages p (Some e) c d block h k =
    ap (alpha_turn s p) (local_next s (moment_of p) c e h) ∙ lands s pages p (address_at s.code.map e.pc) e d block k

pub landings_are_turns : LandingsAreTurns
landings_are_turns s pages p c d block e h =
    ap (λ (m : Mode). model.turn_in s p (model.mode_of s p m)) e ∙ landing_by s pages p (local_at s.code c) c d block refl h

-- ---- a probe inside a block
probe_next : (s : Setting) (m : Moment) (c : Alpha) → Passes (source_in s s.meaning.pages) c → next s m c ≡ Moves (Inside (at_place c.regs (c.pc + 1)))
unfolding next
probe_next s m c w =
    let d = at_place c.regs (c.pc + 1) in
    ap (λ (o : Option AlphaInstr). next_by s m o c) w.calls
    ∙ ap (λ (o : Option Point). called s m Probe o c) w.known
    ∙ ap (λ (o : Option ℕ). Moves (probed s m c w.point.write o)) w.allowed
    ∙ ap (λ (o : Option ℕ). Moves (place_by s m o d)) w.inside

pub probes_are_turns : ProbesAreTurns
probes_are_turns s p c e w =
    ap (λ (m : Mode). model.turn_in s p (model.mode_of s p m)) e ∙ ap (alpha_turn s p) (probe_next s (moment_of p) c w)
