-- The judgement that a block of Alpha words follows the tree of its VAX instruction.
use Rattle.std.specs.Prelude.{◌≡◌, ℕ, zero, suc, ◌<◌, ◌≤◌, ◌+◌, ◌-◌, ◌%◌, ◌^◌, ◌==◌, Option, Some, None, if◌then◌else◌}
use Rattle.vt_words.specs.Quad.{sign_extended}
use Rattle.vax_form.specs.Pages.{first_bad}
use Rattle.vax_form.specs.State.{with_register}
use Rattle.vax_form.specs.Tree.{Tree, Check, Fault, Ends, Finish, Trap, Same}
use Rattle.alpha_encode.specs.Calls.{PROBE, LOOK_UP, SERVE, RAISE, TRAP, SWITCH}
use Rattle.alpha_encode.specs.Registers.{TEMPORARIES, ADDRESS}
use Rattle.alpha_meaning.specs.State.{Alpha, Regs, put, at_place}
use Rattle.alpha_meaning.specs.Pieces.{Phase, Plain, Steps, phase_after}
use Rattle.exception_records.specs.Points.{raised_at}
use Rattle.exception_records.specs.declared.points.Point.{Point}
use Rattle.exception_records.specs.declared.rules.Rules.{Rules}
use Rattle.block_law.specs.References.{wants}
use Rattle.block_law.specs.Rounds.{Round, new_round, round_behind, round_after, MayGo}
use Rattle.block_law.specs.Placements.{Placement, allowed_in, InForm, state_shown, state_behind, state_ready, target}

-- ---- PALcode calls
-- Alpha Architecture Reference Manual, "Call Privileged Architecture Library": the numbers are this system's own.
pub data Call : Type 0 where
  Probe : Call
  LookUp : Call
  Serve : Call
  Raise : Call
  Arithmetic : Call
  Switch : Call
  Other : Call

-- each call by its number
abbrev pub call_of : (number : ℕ) → Call
call_of number =
    if number == PROBE then Probe
    else if number == LOOK_UP then LookUp
    else if number == SERVE then Serve
    else if number == RAISE then Raise
    else if number == TRAP then Arithmetic
    else if number == SWITCH then Switch
    else Other

-- how many bytes a probe checks, from the address in R27 on: the point's count, or where it is 0 the low word of R21
abbrev pub probe_count : Point → Regs → ℕ
probe_count point regs = if point.count == 0 then regs TEMPORARIES % 2 ^ 16 else point.count

-- where a probe begins: the low longword of R27
abbrev pub probe_address : Regs → ℕ
probe_address regs = regs ADDRESS % 2 ^ 32

-- By the point of the word and the tree, where no load-locked access or failed store is behind; `Next` is owed at the
-- next word.
-- A probe is the tree's next check. An exception is its fault, and a trap its end, with the codes behind the
-- instruction. Looking up and switching to the interpreter are its end, with all codes from their registers; a switch
-- goes to an address that has no block. A service is what the tree does from there on, and R0 may be any longword
-- behind it.
abbrev pub Called : Call → Option Point → Phase → Tree → Placement → Alpha → (Alpha → Tree → Type 0) → Type 0
Called Probe (Some point) Plain (Check address count write tree) p c Next =
    (address ≡ probe_address c.regs) × (count ≡ probe_count point c.regs) × (write ≡ point.write)
    × (first_bad p.pages write address count ≡ None → Next (at_place c.regs (c.pc + 1)) tree)
Called Raise (Some point) Plain (Fault exception) p c Next = raised_at point.raises ≡ Some exception
Called Arithmetic (Some point) Plain (Ends (Trap kind s)) p c Next =
    (kind ≡ c.regs TEMPORARIES % 2 ^ 8) × (s ≡ state_behind p c.regs (target c.regs) point.rules)
Called LookUp point Plain (Ends (Finish s)) p c Next =
    InForm c.regs × (s ≡ state_ready p c.regs (target c.regs))
Called Switch point Plain (Ends (Finish s)) p c Next =
    InForm c.regs × (s ≡ state_ready p c.regs (target c.regs)) × (p.maps (target c.regs) ≡ None)
Called Serve (Some point) Plain tree p c Next =
    InForm c.regs
    × Same tree (p.serve (c.regs TEMPORARIES % 2 ^ 16) (state_shown p c.regs (target c.regs) point.rules p.held))
    × ((value : ℕ) → value < 2 ^ 32 → Next (at_place (put c.regs 0 (sign_extended value 32)) (c.pc + 1))
    (Ends (Finish (with_register 0 value (state_shown p c.regs (target c.regs) point.rules p.held)))))
Called call point phase tree p c Next = ⊥

-- ---- arrivals
-- the instruction is done, and the registers show its state at that address by the rules of the point there
abbrev pub Landed : Phase → Tree → Placement → (address : ℕ) → Option Point → Regs → Type 0
Landed Plain (Ends (Finish s)) p address (Some point) regs =
    InForm regs × (s ≡ state_behind p regs address point.rules)
Landed phase tree p address point regs = ⊥

-- a local step arrives at the first word of a block, or goes on inside
abbrev pub Lands : Option ℕ → Option Point → Phase → Tree → Placement → Regs → (Inside : Type 0) → Type 0
Lands (Some address) point phase tree p regs Inside = Landed phase tree p address point regs
Lands None point phase tree p regs Inside = Inside

-- no access and no call stands before the first word of a block
abbrev pub Onward : Placement → (Phase → (spare : ℕ) → Round → Alpha → Tree → Type 0) → Phase → (spare : ℕ) → Round → Alpha → Tree → Type 0
Onward p Next phase spare round d tree = (p.stops d.pc ≡ None) × Next phase spare round d tree

-- ---- steps
-- one step inside the block, with `Next` owed behind it
abbrev pub Clause : Placement → (Phase → (spare : ℕ) → Round → Alpha → Tree → Type 0) → Phase → (spare : ℕ) → Round → Alpha → Tree → Type 0
Clause p Next phase spare round c tree =
    (p.first ≤ c.pc) × (c.pc < p.end) × (0 < spare)
    × Steps (p.fetch c.pc) (allowed_in p.pages) p.bonus phase (spare - 1) c (wants p.kinds tree) tree
    (λ d. Lands (p.stops d.pc) (p.points d.pc) phase tree p d.regs
    (MayGo p.bonus p.first phase round c.pc d.pc × Next (phase_after phase c.pc d.pc) (spare - 1) (round_after phase round c.pc d.pc) d tree))
    (λ number. Called (call_of number) (p.points c.pc) phase tree p c (λ d u. Onward p Next Plain (spare - 1) new_round d u))
    (λ phase' spare' d u. Onward p Next phase' spare' (round_behind phase' tree round) d u)

-- For n steps, whatever memory answers, the words do what the tree says: they make its checks and references in their
-- order, and end as it ends. `spare` steps are left, to which each failed store adds those of a turn, and each access
-- that counts adds the block's bonus.
unfoldable pub Follows : Placement → (n : ℕ) → Phase → (spare : ℕ) → Round → Alpha → Tree → Type 0
Follows p zero phase spare round c tree = Unit {0}
Follows p (suc n) phase spare round c tree = Clause p (Follows p n) phase spare round c tree

-- From this word on, in so many steps, the words arrive at the address, whatever the registers are that show the state
-- there by these rules.
abbrev pub LeadsTo : Placement → (word address : ℕ) → Rules → (steps : ℕ) → Type 0
LeadsTo p word address rules steps =
    (n spare : ℕ) (round : Round) (regs : Regs) → steps ≤ spare → InForm regs
    → Follows p n Plain spare round (at_place regs word) (Ends (Finish (state_behind p regs address rules)))
