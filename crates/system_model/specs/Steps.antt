-- One step of Alpha code.
-- Alpha Architecture Reference Manual, "Instruction Descriptions"; the PALcode calls are this system's own.
use Rattle.std.specs.Prelude.{ℕ, ◌+◌, ◌%◌, ◌^◌, ◌==◌, ◌&&◌, Bool, true, false, Option, Some, None, if◌then◌else◌}
use Rattle.vt_words.specs.Quad.{sign_extended}
use Rattle.address_map.specs.Pairs.{address_at}
use Rattle.alpha_encode.specs.declared.instr.AlphaInstr.{AlphaInstr}
use Rattle.alpha_encode.specs.Registers.{TEMPORARIES}
use Rattle.service_codes.specs.Codes.{EXIT, PUT, GET, THREAD, HANDLER, RESUME}
use Rattle.alpha_meaning.specs.declared.access.AlphaAccess.{AlphaAccess}
use Rattle.alpha_meaning.specs.declared.access.AlphaKind.{AlphaKind}
use Rattle.alpha_meaning.specs.declared.access.AlphaKind.TheVariants as alpha
use Rattle.alpha_meaning.specs.Act.{Does, Goes, Asks, Calls, act, finished}
use Rattle.alpha_meaning.specs.Memory.{stores}
use Rattle.alpha_meaning.specs.Pieces.{quad_of, loaded}
use Rattle.alpha_meaning.specs.State.{Alpha, Regs, put, at_place}
use Rattle.block_law.specs.Follows.{Call, Probe, LookUp, Serve, Raise, Arithmetic, Switch, call_of, probe_count, probe_address}
use Rattle.block_law.specs.Placements.{target}
use Rattle.block_law.specs.Translations.{fetch_of}
use Rattle.exception_records.specs.Codes.{all_ready}
use Rattle.exception_records.specs.Points.{point_at, raised_at}
use Rattle.exception_records.specs.Shown.{registers_shown, psw_shown, still_held}
use Rattle.exception_records.specs.declared.points.Point.{Point}
use Rattle.exception_records.specs.declared.rules.Rules.{Rules}
use Rattle.memory_core.specs.declared.entry.Change.{Change}
use Rattle.memory_core.specs.declared.entry.Change.TheVariants.{Nothing, Byte}
use Rattle.memory_core.specs.declared.entry.Kind.{Kind}
use Rattle.memory_core.specs.declared.entry.Kind.TheVariants as kinds
use Rattle.memory_core.specs.declared.entry.Request.{Request}
use Rattle.vax_form.specs.Pages.{is_allowed, first_bad}
use Rattle.vax_form.specs.Moments.{delivering, has_handler, handled_ending}
use Rattle.vax_form.specs.State.{with_core, register, with_register, with_handler, with_pending}
use Rattle.vax_form.specs.declared.state.Pending.TheVariants.{Resume}
use Rattle.vax_form.specs.Tree.{Ending, Finish, Exit, Trap}
use Rattle.vax_form.specs.declared.state.Exception.{Exception}
use Rattle.vax_form.specs.declared.state.Exception.TheVariants.{AccessViolation}
use Rattle.vax_form.specs.declared.state.Flags.{Flags}
use Rattle.vax_form.specs.declared.state.VaxState.{VaxState}
use Rattle.system_model.specs.Quadwords.{stored}
use Rattle.system_model.specs.Settings.{Setting}

-- how an instruction ended: its end came, or it failed with a fault
pub data Last : Type 0 where
  Comes : Ending → Last
  Fails : Exception → Last

-- where a step leads: on inside a block; to a mapped word, where the registers show this state with these held codes;
-- or out of Alpha code
pub data Place : Type 0 where
  Inside : Alpha → Place
  Lands : VaxState → (held : Flags) → Regs → Place
  Leaves : Last → Place

-- where the thread has a handler, it takes the exception
abbrev pub settled_last : (before : VaxState) → Last → Last
settled_last before (Comes e) = Comes (handled_ending e)
settled_last before (Fails exception) = if has_handler before then Comes (Finish (delivering exception before)) else Fails exception

-- what a step does. An access gives what it found and whether it succeeded
pub data Next : Type 0 where
  Moves : Place → Next
  Wants : Request → ((before : ℕ) → (success : Bool) → Place) → Next
  Stuck : Next

-- the state that registers show, and all else as it was at the boundary
abbrev pub state_at : (boundary : VaxState) → Regs → (pc : ℕ) → Rules → (held : Flags) → VaxState
state_at boundary regs pc rules held = with_core boundary (registers_shown regs) pc (psw_shown regs rules held)

-- the rules of a word's point; without one, all codes stand in their registers
abbrev pub rules_of : Option Point → Rules
rules_of None = all_ready
rules_of (Some point) = point.rules

-- the thread, its count of retired instructions, its latest boundary and the codes that were held there
pub record Moment : Type 0 where
  pub thread : ℕ
  pub retired : ℕ
  pub boundary : VaxState
  pub held : Flags

-- the codes that are still held behind the instruction
abbrev pub held_behind : Setting → Moment → Flags
held_behind setting moment = still_held moment.held (setting.meaning.written moment.boundary.pc)

-- a step that arrives at the first word of an address lands there, else it goes on inside
abbrev pub place_by : Setting → Moment → Option ℕ → Alpha → Place
place_by setting moment None c = Inside c
place_by setting moment (Some address) c =
    Lands (state_at moment.boundary c.regs address (rules_of (point_at setting.code.points c.pc)) (held_behind setting moment)) (held_behind setting moment) c.regs

-- a step lands where it arrives at a mapped word
abbrev pub place_of : Setting → Moment → Alpha → Place
place_of setting moment c = place_by setting moment (address_at setting.code.map c.pc) c

-- ---- accesses
-- the kind of entry of an access
abbrev pub kind_of : AlphaKind → Kind
kind_of alpha.Load = kinds.Load
kind_of alpha.LoadLocked = kinds.LoadLocked
kind_of alpha.Store = kinds.Store
kind_of alpha.StoreConditional = kinds.StoreConditional

-- a store changes its bytes of the quadword
abbrev pub change_of : AlphaAccess → Change
change_of a = if stores a.kind then stored (a.address % 8) a.bytes a.value else Nothing

-- what an access asks of memory
abbrev pub request_for : Moment → AlphaAccess → Request
request_for moment a = record {
  processor = moment.thread;
  retired = moment.retired;
  kind = kind_of a.kind;
  quad = quad_of a;
  change = change_of a;
}

-- an access is naturally aligned, in a page that allows it
abbrev pub is_defined : Setting → AlphaAccess → Bool
is_defined setting a = (a.address % a.bytes == 0) && is_allowed setting.meaning.pages (quad_of a) (stores a.kind)

-- an access that is defined is wanted, and finished by what memory answers
abbrev pub accesses : Bool → Setting → Moment → AlphaInstr → AlphaAccess → Alpha → Next
accesses true setting moment i a c =
    Wants (request_for moment a) (λ before success. place_of setting moment (finished i (loaded a before) success c))
accesses false setting moment i a c = Stuck

-- ---- PALcode calls
-- the next word, with these registers
abbrev pub behind : Setting → Moment → Alpha → Regs → Place
behind setting moment c regs = place_of setting moment (at_place regs (c.pc + 1))

-- R0 as a sign-extended longword
abbrev pub with_r0 : Regs → (longword : ℕ) → Regs
with_r0 regs longword = put regs 0 (sign_extended longword 32)

-- a probe goes on where all its bytes are allowed, else it fails with an access violation at the first that is not
abbrev pub probed : Setting → Moment → Alpha → (write : Bool) → Option ℕ → Place
probed setting moment c write None = behind setting moment c c.regs
probed setting moment c write (Some bad) = Leaves (Fails (AccessViolation bad write))

-- the fault that a point names
abbrev pub raised : Option Exception → Next
raised None = Stuck
raised (Some exception) = Moves (Leaves (Fails exception))

-- state exchanges R0 and the handler
abbrev pub exchanged : VaxState → VaxState
exchanged state = with_register 0 state.handler (with_handler (register 0 state) state)

-- each service, by its code; any other code puts 0 into R0
abbrev pub served : Setting → Moment → (code : ℕ) → Rules → Alpha → Next
served setting moment code rules c =
    if code == EXIT then Moves (Leaves (Comes (Exit (state_at moment.boundary c.regs (target c.regs) rules moment.held))))
    else if code == PUT
    then Wants (record { processor = moment.thread; retired = moment.retired; kind = kinds.Put; quad = 0; change = Byte (c.regs 0 % 256) })
    (λ before success. behind setting moment c c.regs)
    else if code == GET
    then Wants (record { processor = moment.thread; retired = moment.retired; kind = kinds.Get; quad = 0; change = Nothing })
    (λ before success. behind setting moment c (with_r0 c.regs before))
    else if code == THREAD then Moves (behind setting moment c (with_r0 c.regs moment.thread))
    else if code == HANDLER then Moves (Leaves (Comes (Finish (exchanged (state_at moment.boundary c.regs (target c.regs) rules moment.held)))))
    else if code == RESUME then Moves (Leaves (Comes (Finish (with_pending Resume (state_at moment.boundary c.regs (target c.regs) rules moment.held)))))
    else Moves (behind setting moment c (with_r0 c.regs 0))

-- each call of the PALcode. 80, 82, 83 and 84 need a point. Looking up and switching arrive at the address in R26, with
-- all codes from their registers; a trap shows the codes by the rules behind its instruction
abbrev pub called : Setting → Moment → Call → Option Point → Alpha → Next
called setting moment Probe (Some point) c =
    Moves (probed setting moment c point.write (first_bad setting.meaning.pages point.write (probe_address c.regs) (probe_count point c.regs)))
called setting moment Serve (Some point) c = served setting moment (c.regs TEMPORARIES % 2 ^ 16) point.rules c
called setting moment Raise (Some point) c = raised (raised_at point.raises)
called setting moment Arithmetic (Some point) c =
    Moves (Leaves (Comes (Trap (c.regs TEMPORARIES % 2 ^ 8) (state_at moment.boundary c.regs (target c.regs) point.rules (held_behind setting moment)))))
called setting moment LookUp point c = Moves (Leaves (Comes (Finish (state_at moment.boundary c.regs (target c.regs) all_ready moment.held))))
called setting moment Switch point c = Moves (Leaves (Comes (Finish (state_at moment.boundary c.regs (target c.regs) all_ready moment.held))))
called setting moment call point c = Stuck

-- ---- steps
-- what an instruction does: it moves, makes an access, or calls the PALcode
abbrev pub does : Setting → Moment → AlphaInstr → Does → Alpha → Next
does setting moment i (Goes d) c = Moves (place_of setting moment d)
does setting moment i (Asks a) c = accesses (is_defined setting a) setting moment i a c
does setting moment i (Calls number) c = called setting moment (call_of number) (point_at setting.code.points c.pc) c

-- without an instruction there is no step
abbrev pub next_by : Setting → Moment → Option AlphaInstr → Alpha → Next
next_by setting moment None c = Stuck
next_by setting moment (Some i) c = does setting moment i (act i c) c

-- the step of the word at which the processor stands
unfoldable pub next : Setting → Moment → Alpha → Next
next setting moment c = next_by setting moment (fetch_of setting.code.words c.pc) c
