-- Turns in one course, and then each time one more and a course behind it, where no GET waits.
use Rattle.std.proofs.Common.{◌≡◌, ◌+◌, ◌-◌, ◌&&◌, true, false, refl, sym, ap, ◌∙◌, subst, arith}
use Rattle.memory_core.specs.Limits.{CountsPuts}
use Rattle.memory_core.specs.Live.{LiveContents}
use Rattle.memory_core.specs.declared.entry.SetUp.{SetUp}
use Rattle.tie_switch.specs.Live.{AreNone, next_asks_get}
use Rattle.tie_switch.specs.ManyTurns.{MayCome, NoTurn}
use Rattle.tie_switch.specs.Processors.{HasAdvanced, HasStep, HasSteps, processor_of}
use Rattle.tie_switch.specs.Seen.{setting_of}
use Rattle.tie_switch.proofs.Advances.{goes_further, has_more, has_next, next_turn}
use Rattle.tie_switch.proofs.Reading.{AreNoneIn, IsSame, paused, read_still, reads_behind, same_behind, same_many, same_there, still_advanced}
use Rattle.tie_switch.proofs.Unspent.{going_unspent, turn_spent}
use Rattle.tie_switch.proofs.processor.Processor.advance_waiting.Goals as goal

pub turn_or_wait-requires-clause-pages : goal.turn_or_wait-requires-clause-pages
turn_or_wait-requires-clause-pages c = ap (λ (u : SetUp). u.image.pages) c.loop-made.invariant.memory.set_up ∙ c.requires.pages

pub turn_or_wait-requires-clause-serves : goal.turn_or_wait-requires-clause-serves
turn_or_wait-requires-clause-serves c =
    let l = c.loop-made in
    omega (arith, l.invariant.thread, l.invariant.memory.processors, c.requires.serves)

pub turn_or_wait-requires-clause-has_step : goal.turn_or_wait-requires-clause-has_step
turn_or_wait-requires-clause-has_step c =
    let l = c.loop-made in
    let s = setting_of c.args.setting in
    let first = c.args.memory.now in
    subst (λ (u : SetUp). HasStep s u l.self) (sym l.invariant.memory.set_up)
    (has_next s first.contents.set_up AreNone c.args.most l.made c.args.self.now l.self first.contents.history l.memory.contents.history c.requires.has_steps l.invariant.turned (omega arith))

pub over_accesses-made-requires-clause-has_steps : goal.over_accesses-made-requires-clause-has_steps
over_accesses-made-requires-clause-has_steps c =
    let first = c.args.memory.now in
    let most : c.args.most - 0 ≡ c.args.most = omega arith in
    subst (λ n. HasSteps (setting_of c.args.setting) first.contents.set_up (MayCome IsSame AreNoneIn first) n c.args.self.now first.contents.history) most
    (has_more (setting_of c.args.setting) first.contents.set_up first.contents.set_up AreNone (MayCome IsSame AreNoneIn first) c.args.most 0 c.args.self.now c.args.self.now first.contents.history first.contents.history
    c.requires.has_steps (λ p stands. record { processor = p; stands = stands; turned = NoTurn }) (λ entries come. come.comes) refl refl)

pub loop-made-init : goal.loop-made-init
loop-made-init c =
    let first = c.args.memory.now in
    let old = c.args.self.now in
    let s = setting_of c.args.setting in
    let made = c.over_accesses-made in
    let e = made.ensures in
    let went = e.allowed c.is_full.ensures.puts in
    let none : 0 + made.result.0 ≡ made.result.0 = omega arith in
    record {
      known = c.requires.known;
      most = e.most;
      memory = same_many first made.new.memory e.place;
      budget = e.budget;
      thread = e.thread;
      steps = e.steps went;
      few_steps = e.few_steps;
      puts = subst (λ (u : SetUp). CountsPuts u.limit) (sym e.set_up) c.is_full.ensures.puts;
      read = λ lasts read. read_still first made.new.memory e.set_up (e.read (λ entries come. come.comes)) read;
      unspent = e.unspent went;
      turned = λ p stands.
          subst (λ n. HasAdvanced s first.contents.set_up AreNone old.budget p n made.new.self first.contents.history made.new.memory.contents.history) none
          (goes_further s first.contents.set_up first.contents.set_up AreNone (MayCome IsSame AreNoneIn first) old.budget old.budget p 0 made.result.0 old made.new.self first.contents.history
          first.contents.history made.new.memory.contents.history (record { processor = p; stands = stands; turned = NoTurn }) (λ entries come. come.comes) refl refl e.turned);
    }

pub over_accesses-steps-requires-clause-pages : goal.over_accesses-steps-requires-clause-pages
over_accesses-steps-requires-clause-pages c = ap (λ (u : SetUp). u.image.pages) (c.in-Some.ensures.set_up ∙ c.loop-made.invariant.memory.set_up) ∙ c.requires.pages

pub over_accesses-steps-requires-clause-serves : goal.over_accesses-steps-requires-clause-serves
over_accesses-steps-requires-clause-serves c =
    let l = c.loop-made in
    let memory = same_there l.memory c.turn_or_wait.new.memory c.in-Some.ensures.place in
    omega (arith, l.invariant.thread, c.in-Some.ensures.thread, l.invariant.memory.processors, memory.processors, c.requires.serves)

pub over_accesses-steps-requires-clause-has_steps : goal.over_accesses-steps-requires-clause-has_steps
over_accesses-steps-requires-clause-has_steps c =
    let first = c.args.memory.now in
    let old = c.args.self.now in
    let s = setting_of c.args.setting in
    let l = c.loop-made in
    let kept = l.invariant in
    let turn = c.in-Some.ensures in
    let after = c.turn_or_wait.new in
    has_more s first.contents.set_up after.memory.contents.set_up AreNone (MayCome IsSame AreNoneIn after.memory) c.args.most (l.made + 1) old after.self first.contents.history after.memory.contents.history
    c.requires.has_steps
    (λ p stands. next_turn s first.contents.set_up l.memory.contents.set_up AreNone old.budget l.self.budget p l.made l.self after.self first.contents.history l.memory.contents.history
    after.memory.contents.history (kept.turned p stands) AreNone (λ entries come. come) kept.memory.set_up kept.budget turn.turned)
    (λ entries come. come.comes) (turn.set_up ∙ kept.memory.set_up) (turn.budget ∙ kept.budget)

pub loop-made-preserved : goal.loop-made-preserved
loop-made-preserved c =
    let first = c.args.memory.now in
    let old = c.args.self.now in
    let s = setting_of c.args.setting in
    let u = first.contents.set_up in
    let seen = first.contents.history in
    let l = c.loop-made in
    let kept = l.invariant in
    let turn = c.in-Some.ensures in
    let after = c.turn_or_wait.new in
    let made = c.over_accesses-steps in
    let e = made.ensures in
    let puts : CountsPuts after.memory.contents.set_up.limit = subst (λ (u : SetUp). CountsPuts u.limit) (sym turn.set_up) kept.puts in
    let on = e.allowed puts in
    let went : after.self.steps ≡ l.self.steps + 1 = turn.steps c.in-Went.is in
    let there = has_next s u AreNone c.args.most l.made old l.self seen l.memory.contents.history c.requires.has_steps kept.turned (omega (arith, c.loop-made-test.true)) in
    let last = same_behind l.memory after.memory made.new.memory (same_there l.memory after.memory turn.place) (same_many after.memory made.new.memory e.place) in
    record {
      known = turn.known;
      most = omega (arith, e.most, c.loop-made-test.true);
      memory = same_behind first l.memory made.new.memory kept.memory last;
      budget = e.budget ∙ turn.budget ∙ kept.budget;
      thread = e.thread ∙ turn.thread ∙ kept.thread;
      steps = omega (arith, e.steps on, went, kept.steps);
      few_steps = e.few_steps;
      puts = subst (λ (u : SetUp). CountsPuts u.limit) (sym e.set_up) puts;
      read = λ lasts read.
          read_still after.memory made.new.memory e.set_up (e.read (λ entries come. come.comes))
          (reads_behind s l.self.budget l.self after.self l.memory after.memory c.must_wait-waits.result c.args.input_ended u there turn.set_up turn.turned turn.made
          c.must_wait-waits.ensures lasts (kept.read lasts read));
      unspent = λ before. e.unspent on (going_unspent (processor_of after.self).mode (λ ended. absurd (cc (c.in-Went.is, turn.ended.1 ended))));
      turned = λ p stands.
          goes_further s u after.memory.contents.set_up AreNone (MayCome IsSame AreNoneIn after.memory) old.budget after.self.budget p (l.made + 1) made.result.0 after.self made.new.self seen
          after.memory.contents.history made.new.memory.contents.history
          (next_turn s u l.memory.contents.set_up AreNone old.budget l.self.budget p l.made l.self after.self seen l.memory.contents.history after.memory.contents.history
          (kept.turned p stands) AreNone (λ entries come. come) kept.memory.set_up kept.budget turn.turned)
          (λ entries come. come.comes) (turn.set_up ∙ kept.memory.set_up) (turn.budget ∙ kept.budget) e.turned;
    }

pub returns-in-Ended-clause-memory : goal.returns-in-Ended-clause-memory
returns-in-Ended-clause-memory c = same_behind c.args.memory.now c.loop-made.memory c.turn_or_wait.new.memory c.loop-made.invariant.memory (same_there c.loop-made.memory c.turn_or_wait.new.memory c.in-Some.ensures.place)

pub returns-in-Ended-clause-turned : goal.returns-in-Ended-clause-turned
returns-in-Ended-clause-turned c p stands =
    let first = c.args.memory.now in
    let old = c.args.self.now in
    let s = setting_of c.args.setting in
    let l = c.loop-made in
    let kept = l.invariant in
    let after = c.turn_or_wait.new in
    next_turn s first.contents.set_up l.memory.contents.set_up AreNone old.budget l.self.budget p l.made l.self after.self first.contents.history l.memory.contents.history
    after.memory.contents.history (kept.turned p stands) AreNone (λ entries come. come) kept.memory.set_up kept.budget c.in-Some.ensures.turned

pub returns-in-Ended-clause-read : goal.returns-in-Ended-clause-read
returns-in-Ended-clause-read c lasts read =
    let first = c.args.memory.now in
    let s = setting_of c.args.setting in
    let l = c.loop-made in
    let kept = l.invariant in
    let turn = c.in-Some.ensures in
    let there = has_next s first.contents.set_up AreNone c.args.most l.made c.args.self.now l.self first.contents.history l.memory.contents.history c.requires.has_steps kept.turned (omega (arith, c.loop-made-test.true)) in
    reads_behind s l.self.budget l.self c.turn_or_wait.new.self l.memory c.turn_or_wait.new.memory c.must_wait-waits.result c.args.input_ended first.contents.set_up there turn.set_up turn.turned turn.made
    c.must_wait-waits.ensures lasts (kept.read lasts read)

pub returns-in-Ended-clause-spent : goal.returns-in-Ended-clause-spent
returns-in-Ended-clause-spent c before spends =
    let first = c.args.memory.now in
    let s = setting_of c.args.setting in
    let l = c.loop-made in
    let kept = l.invariant in
    let turn = c.in-Some.ensures in
    let there = has_next s first.contents.set_up AreNone c.args.most l.made c.args.self.now l.self first.contents.history l.memory.contents.history c.requires.has_steps kept.turned (omega (arith, c.loop-made-test.true)) in
    turn_spent s first.contents.set_up l.memory.contents.set_up l.self.budget l.self c.turn_or_wait.new.self l.memory.contents.history c.turn_or_wait.new.memory.contents.history there
    kept.puts (sym c.is_full-in-loop-made.ensures.full ∙ c.if-is_full.false) (kept.unspent before) turn.turned spends ∙ sym turn.budget

pub returns-in-Ended-clause-steps : goal.returns-in-Ended-clause-steps
returns-in-Ended-clause-steps c = λ going.
    let both : false ≡ true = sym going ∙ c.in-Some.ensures.ended.0 c.in-Ended.is in
    absurd (cc both)

pub returns-in-Ended-clause-ended : goal.returns-in-Ended-clause-ended
returns-in-Ended-clause-ended c = (λ is. c.in-Some.ensures.ended.0 c.in-Ended.is, λ ended. refl)

pub returns-then-is_full-clause-all : goal.returns-then-is_full-clause-all
returns-then-is_full-clause-all c is = absurd (cc (is, c.pause_or_end.ensures.pause (λ e. cc (is, e))))

pub returns-then-is_full-clause-wants : goal.returns-then-is_full-clause-wants
returns-then-is_full-clause-wants c is = absurd (cc (is, c.pause_or_end.ensures.pause (λ e. cc (is, e))))

pub returns-then-is_full-clause-asks : goal.returns-then-is_full-clause-asks
returns-then-is_full-clause-asks c is = absurd (cc (is, c.pause_or_end.ensures.pause (λ e. cc (is, e))))

pub returns-then-is_full-clause-spent : goal.returns-then-is_full-clause-spent
returns-then-is_full-clause-spent c before spends = absurd (cc (spends, c.loop-made.invariant.unspent before))

pub returns-clause-spent : goal.returns-clause-spent
returns-clause-spent c before spends = absurd (cc (spends, c.loop-made.invariant.unspent before))

pub returns-clause-full : goal.returns-clause-full
returns-clause-full c is = absurd (cc (is, c.pause_or_end-2.ensures.pause (λ e. cc (is, e))))

pub returns-clause-wants : goal.returns-clause-wants
returns-clause-wants c is = absurd (cc (is, c.pause_or_end-2.ensures.pause (λ e. cc (is, e))))

pub returns-clause-asks : goal.returns-clause-asks
returns-clause-asks c is = absurd (cc (is, c.pause_or_end-2.ensures.pause (λ e. cc (is, e))))

pub returns-in_default-clause-turned : goal.returns-in_default-clause-turned
returns-in_default-clause-turned c p stands =
    let first = c.args.memory.now in
    let l = c.loop-made in
    let turn = c.in_default.ensures in
    still_advanced (setting_of c.args.setting) first.contents.set_up c.args.self.now.budget l.made p l.self c.turn_or_wait.new.self first.contents.history l.memory.contents.history
    c.turn_or_wait.new.memory.contents.history (l.invariant.turned p stands) (ap (λ (m : LiveContents). m.contents.history) turn.stays) turn.still

pub returns-in_default-clause-asks : goal.returns-in_default-clause-asks
returns-in_default-clause-asks c is p stands =
    let first = c.args.memory.now in
    let s = setting_of c.args.setting in
    let old = c.args.self.now in
    let l = c.loop-made in
    let turn = c.in_default.ensures in
    let waits = c.must_wait-waits.result in
    paused s first.contents.set_up old.budget l.made p l.self c.turn_or_wait.new.self first.contents.history l.memory.contents.history
    c.turn_or_wait.new.memory.contents.history waits (l.invariant.turned p stands) (ap (λ (m : LiveContents). m.contents.history) turn.stays) turn.still
    (λ q there. subst (λ n. (waits && next_asks_get s n q) ≡ true) l.invariant.budget (turn.waits q there))
