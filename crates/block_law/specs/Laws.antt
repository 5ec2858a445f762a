-- Laws of the judgement on blocks.
use Rattle.std.specs.Prelude.{◌≡◌, ℕ, ◌≤◌, ◌+◌, ◌==◌, ◌&&◌, ◌||◌, nat_lt, nat_le, Bool, true, false}
use Rattle.vax_form.specs.Tree.{Tree, Same}
use Rattle.vax_form.specs.declared.state.Flags.{Flags}
use Rattle.vax_form.specs.declared.state.Reference.{Reference}
use Rattle.alpha_encode.specs.declared.instr.AlphaInstr.{AlphaInstr}
use Rattle.alpha_encode.specs.Registers.{CARRY_FIRST, TEMPORARIES, RULE_FIRST, ZERO}
use Rattle.alpha_meaning.specs.State.{Alpha, Regs}
use Rattle.alpha_meaning.specs.Act.{Does, Goes, Asks, Calls, act, finished}
use Rattle.alpha_meaning.specs.Pieces.{Phase, Kinds}
use Rattle.alpha_meaning.specs.declared.access.AlphaKind.{AlphaKind}
use Rattle.exception_records.specs.Shown.{psw_shown}
use Rattle.exception_records.specs.declared.rules.Rules.{Rules}
use Rattle.block_law.specs.Placements.{Placement}
use Rattle.block_law.specs.Rounds.{Round}
use Rattle.block_law.specs.Follows.{Clause, Follows}
use Rattle.block_law.specs.Translations.{Meaning, Permit, Code, Meets}
use Rattle.block_law.specs.Tidy.{register_written}

-- what holds for every number of steps
abbrev pub Ever : Placement → Phase → (spare : ℕ) → Round → Alpha → Tree → Type 0
Ever p phase spare round c tree = (n : ℕ) → Follows p n phase spare round c tree

-- one step may be taken out of what holds for every number of steps
abbrev pub OneStepOpens : Type 0
OneStepOpens = (p : Placement) (phase : Phase) (spare : ℕ) (round : Round) (c : Alpha) (tree : Tree) → Ever p phase spare round c tree → Clause p (Ever p) phase spare round c tree

-- fewer steps may be made, and more may be spare
abbrev pub FewerStepsFollow : Type 0
FewerStepsFollow =
    (p : Placement) (n m more : ℕ) → n ≤ m → (phase : Phase) (spare : ℕ) (round : Round) (c : Alpha) (tree : Tree) → Follows p m phase spare round c tree → Follows p n phase (spare + more) round c tree

-- a tree may be replaced by one with the same checks, references and ends
abbrev pub SameTreeFollows : Type 0
SameTreeFollows =
    (p : Placement) (n : ℕ) (phase : Phase) (spare : ℕ) (round : Round) (c : Alpha) (tree other : Tree) → Same other tree → Follows p n phase spare round c tree → Follows p n phase spare round c other

-- ---- permits
-- each kind of access that may be made stays one
abbrev pub MoreKinds : (kinds more : Reference → Kinds) → Type 0
MoreKinds kinds more = (r : Reference) (kind : AlphaKind) (bytes : ℕ) → kinds r kind bytes ≡ true → more r kind bytes ≡ true

-- a permit with more kinds, and the same loops
pub record AllowsMore (permit more : Permit) : Type 0 where
  pub kinds : (address : ℕ) → MoreKinds (permit.kinds address) (more.kinds address)
  pub bonus : (address : ℕ) → more.bonus address ≡ permit.bonus address

-- code that meets a permit meets one with more kinds
abbrev pub MoreKindsMeet : Type 0
MoreKindsMeet = (meaning : Meaning) (permit more : Permit) (code : Code) → AllowsMore permit more → Meets meaning permit code → Meets meaning more code

-- ---- registers
-- the register is as before: behind a local step, and behind an access, whatever it found
abbrev pub StaysBy : Does → (finished : (value : ℕ) (success : Bool) → Alpha) → Alpha → (register : ℕ) → Type 0
StaysBy (Goes d) finished c register = d.regs register ≡ c.regs register
StaysBy (Asks access) finished c register = (value : ℕ) (success : Bool) → (finished value success).regs register ≡ c.regs register
StaysBy (Calls number) finished c register = Unit {0}

-- an instruction leaves each register that it does not write
abbrev pub UnwrittenStay : Type 0
UnwrittenStay = (i : AlphaInstr) (c : Alpha) (register : ℕ) → (register_written i == register) ≡ false → StaysBy (act i c) (λ value success. finished i value success c) c register

-- R15 to R20 and R28 to R30 tell the processor status word
abbrev pub shows_psw : (register : ℕ) → Bool
shows_psw register = (nat_le CARRY_FIRST register && nat_lt register TEMPORARIES) || (nat_le RULE_FIRST register && nat_lt register ZERO)

-- it shows the same where these registers stay
abbrev pub SameStatus : Type 0
SameStatus = (old new : Regs) (rules : Rules) (held : Flags) → ((register : ℕ) → shows_psw register ≡ true → new register ≡ old register) → psw_shown new rules held ≡ psw_shown old rules held
