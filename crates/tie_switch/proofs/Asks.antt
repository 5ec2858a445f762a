-- The access that a word asks for inside a block is its turn.
use Rattle.std.proofs.Common.{◌≡◌, ◌≢◌, ℕ, ◌+◌, ◌%◌, ◌==◌, ◌&&◌, Bool, true, false, Option, Some, None, refl, sym, ap, ◌∙◌, subst, arith}
use Rattle.std.proofs.lemmas.Bool.Decides.{nat_tests}
use Rattle.address_map.specs.Pairs.{address_at}
use Rattle.alpha_encode.specs.declared.instr.AlphaInstr.{AlphaInstr}
use Rattle.alpha_encode.specs.declared.instr.AlphaInstr.TheVariants.{Memory}
use Rattle.alpha_encode.specs.declared.instr.MemoryOp.{MemoryOp}
use Rattle.alpha_meaning.specs.Act.{Does, act, memory_act_by, memory_finish, memory_finish_by}
use Rattle.alpha_meaning.specs.Act as acts
use Rattle.alpha_meaning.specs.Memory.{address_of}
use Rattle.alpha_meaning.specs.Pieces.{loaded}
use Rattle.alpha_meaning.specs.State.{Alpha}
use Rattle.alpha_meaning.specs.declared.access.AlphaAccess.{AlphaAccess}
use Rattle.alpha_meaning.specs.declared.access.AlphaKind.{AlphaKind}
use Rattle.alpha_meaning.specs.declared.access.AlphaKind.TheVariants.{Load, LoadLocked, Store, StoreConditional}
use Rattle.block_law.specs.Translations.{Code, fetch_of}
use Rattle.prepared_code.specs.Asks.{AsksInside}
use Rattle.prepared_code.specs.Sources.{Source}
use Rattle.prepared_code.specs.declared.asked.Asked.{Asked}
use Rattle.system_model.specs.Processors.{Mode, Runs, Processor, Asks, Stuck, alpha_turn, mode_of, moment_of, placed, stepped, turn, turn_in}
use Rattle.system_model.specs.Settings.{Setting}
use Rattle.system_model.specs.Steps.{Moment, accesses, does, is_defined, next, next_by, place_by, place_of, request_for}
use Rattle.tie_switch.specs.Accesses.{IsAccess}
use Rattle.tie_switch.proofs.Steps.{access_small}

-- where a processor stands, which asks for that access
pub record Standing (source : Source) (a : Asked) (p : Processor) : Type 0 where
  pub alpha : Alpha
  pub runs : p.mode ≡ Runs alpha
  pub asks : AsksInside source alpha a

pub is_access : (source : Source) (c : Alpha) (a : Asked) → AsksInside source c a → IsAccess a.access
is_access source c a w = subst IsAccess (sym w.access) (access_small a.op a.access.kind (address_of a.op (c.regs w.base) w.disp) (c.regs a.register))

-- ---- its step

does_ask : (source : Source) (c : Alpha) (a : Asked) (w : AsksInside source c a) → act (Memory a.op a.register w.base w.disp) c ≡ acts.Asks a.access
does_ask source c a w = ap (λ (o : Option AlphaKind). memory_act_by o a.op a.register w.base w.disp c) w.kind ∙ ap acts.Asks (sym w.access)

next_asks : (setting : Setting) (m : Moment) (source : Source) (c : Alpha) (a : Asked) (w : AsksInside source c a) → source.code ≡ setting.code
    → next setting m c ≡ accesses (is_defined setting a.access) setting m (Memory a.op a.register w.base w.disp) a.access c
unfolding next
next_asks setting m source c a w e =
    let i = Memory a.op a.register w.base w.disp in
    let fetched : fetch_of setting.code.words c.pc ≡ Some i = ap (λ (k : Code). fetch_of k.words c.pc) (sym e) ∙ w.fetched in
    ap (λ (o : Option AlphaInstr). next_by setting m o c) fetched ∙ ap (λ (d : Does). does setting m i d c) (does_ask source c a w)

turn_by : (setting : Setting) (source : Source) (a : Asked) (p : Processor) (s : Standing source a p) → source.code ≡ setting.code
    → turn setting p ≡ alpha_turn setting p (accesses (is_defined setting a.access) setting (moment_of p) (Memory a.op a.register s.asks.base s.asks.disp) a.access s.alpha)
turn_by setting source a p s e =
    ap (λ (m : Mode). turn_in setting p (mode_of setting p m)) s.runs ∙ ap (alpha_turn setting p) (next_asks setting (moment_of p) source s.alpha a s.asks e)

-- a processor that has a step is at an access that is defined
pub is_defined_there : (setting : Setting) (source : Source) (a : Asked) (p : Processor) → Standing source a p → source.code ≡ setting.code → turn setting p ≢ Stuck → is_defined setting a.access ≡ true
is_defined_there setting source a p s e goes = by (is_defined setting a.access) (λ lost. goes (turn_by setting source a p s e ∙ lost))
  where
    by : (b : Bool) → alpha_turn setting p (accesses b setting (moment_of p) (Memory a.op a.register s.asks.base s.asks.disp) a.access s.alpha) ≢ Stuck → b ≡ true
    by true h = refl
    by false h = absurd (h refl)

pub is_aligned : (setting : Setting) (a : AlphaAccess) → is_defined setting a ≡ true → a.address % a.bytes ≡ 0
is_aligned setting a e = zero (a.address % a.bytes) (first (a.address % a.bytes == 0) _ e)
  where
    first : (x y : Bool) → (x && y) ≡ true → x ≡ true
    first true y h = refl
    first false y h = absurd (cc h)

    zero : (n : ℕ) → (n == 0) ≡ true → n ≡ 0
    zero n h = grind (arith, nat_tests)

-- ---- behind it
abbrev pub behind_access : Asked → Alpha → (before : ℕ) (success : Bool) → Alpha
behind_access a c before success = memory_finish a.op a.register (loaded a.access before) success c

abbrev pub goes_by : Setting → Asked → Processor → Alpha → (before : ℕ) (success : Bool) → Processor
goes_by setting a p c before success = placed setting (stepped p) (place_of setting (moment_of p) (behind_access a c before success))

pub turn_is : (setting : Setting) (source : Source) (a : Asked) (p : Processor) (s : Standing source a p) → source.code ≡ setting.code → is_defined setting a.access ≡ true
    → turn setting p ≡ Asks (request_for (moment_of p) a.access) (goes_by setting a p s.alpha)
turn_is setting source a p s e defined =
    turn_by setting source a p s e
    ∙ ap (λ b. alpha_turn setting p (accesses b setting (moment_of p) (Memory a.op a.register s.asks.base s.asks.disp) a.access s.alpha)) defined

one_further : (k : AlphaKind) (op : MemoryOp) (ra value : ℕ) (success : Bool) (c : Alpha) → (memory_finish_by (Some k) op ra value success c).pc ≡ c.pc + 1
one_further Load op ra value success c = refl
one_further LoadLocked op ra value success c = refl
one_further Store op ra value success c = refl
one_further StoreConditional op ra value success c = refl

pub goes_inside : (setting : Setting) (source : Source) (a : Asked) (p : Processor) (s : Standing source a p) → source.code ≡ setting.code → (before : ℕ) (success : Bool)
    → goes_by setting a p s.alpha before success ≡ record (stepped p) { mode = Runs (behind_access a s.alpha before success) }
goes_inside setting source a p s e before success =
    let d = behind_access a s.alpha before success in
    let further : d.pc ≡ s.alpha.pc + 1 =
    ap (λ (o : Option AlphaKind). (memory_finish_by o a.op a.register (loaded a.access before) success s.alpha).pc) s.asks.kind
    ∙ one_further a.access.kind a.op a.register (loaded a.access before) success s.alpha in
    let none : address_at setting.code.map d.pc ≡ None = ap (λ (k : Code). address_at k.map d.pc) (sym e) ∙ ap (address_at source.code.map) further ∙ s.asks.inside in
    ap (λ (o : Option ℕ). placed setting (stepped p) (place_by setting (moment_of p) o d)) none
