-- A block of Alpha code in its place, and the registers at the boundaries between instructions.
use Rattle.std.specs.Prelude.{◌≡◌, ℕ, ◌<◌, ◌≤◌, ◌%◌, ◌^◌, Option}
use Rattle.vt_words.specs.Quad.{sign_extended}
use Rattle.vax_form.specs.Pages.{is_allowed}
use Rattle.vax_form.specs.State.{with_core}
use Rattle.vax_form.specs.Tree.{Tree}
use Rattle.vax_form.specs.declared.pages.Pages.{Pages}
use Rattle.vax_form.specs.declared.state.Flags.{Flags}
use Rattle.vax_form.specs.declared.state.Reference.{Reference}
use Rattle.vax_form.specs.declared.state.VaxState.{VaxState}
use Rattle.alpha_encode.specs.Registers.{NEGATIVE, STATUS, TARGET, ZERO}
use Rattle.alpha_meaning.specs.State.{Regs}
use Rattle.alpha_meaning.specs.Pieces.{Allowed, Fetch, Kinds}
use Rattle.exception_records.specs.Codes.{all_ready}
use Rattle.exception_records.specs.Shown.{registers_shown, psw_shown, still_held}
use Rattle.exception_records.specs.declared.points.Point.{Point}
use Rattle.exception_records.specs.declared.rules.Rules.{Rules}

-- the code that a block stands in, the words of the block, and the state in which its instruction begins
pub record Placement : Type 0 where
  pub pages : Pages
  -- the instruction and the point of each word of the code
  pub fetch : Fetch
  pub points : ℕ → Option Point
  -- the VAX address whose block begins at a word, and the first word of the block of a VAX address
  pub stops : (word : ℕ) → Option ℕ
  pub maps : (address : ℕ) → Option ℕ
  -- the words of the block: from `first` up to `end`
  pub first : ℕ
  pub end : ℕ
  -- the state in which the instruction begins
  pub begun : VaxState
  -- the codes that are held in their registers then, and those that the instruction writes
  pub held : Flags
  pub written : Flags
  -- what a service does at a state
  pub serve : (code : ℕ) → VaxState → Tree
  -- the kinds of accesses that may be made for a reference, and how many steps more each that counts allows
  pub kinds : Reference → Kinds
  pub bonus : ℕ

-- a quadword may be accessed where its page allows it
abbrev pub allowed_in : Pages → Allowed
allowed_in pages store quad = is_allowed pages quad store

-- At a boundary R0 to R14 hold sign-extended longwords, R16 to R19 codes, R20 bits 7:4 of the processor status word,
-- and R31 reads zero.
pub record InForm (regs : Regs) : Type 0 where
  pub longwords : (n : ℕ) → n < 15 → sign_extended (regs n) 32 ≡ regs n
  pub codes : (n : ℕ) → NEGATIVE ≤ n → n < STATUS → regs n < 2
  pub status : regs STATUS < 256
  pub status_only : regs STATUS % 16 ≡ 0
  pub zero : regs ZERO ≡ 0

-- the state that the registers show: R0 to R14, the PC and the processor status word, and all else as it was when the
-- instruction began
abbrev pub state_shown : Placement → Regs → (pc : ℕ) → Rules → (held : Flags) → VaxState
state_shown p regs pc rules held = with_core p.begun (registers_shown regs) pc (psw_shown regs rules held)

-- behind the instruction, where the codes that it wrote are no longer held
abbrev pub state_behind : Placement → Regs → (pc : ℕ) → Rules → VaxState
state_behind p regs pc rules = state_shown p regs pc rules (still_held p.held p.written)

-- with all four codes from their registers
abbrev pub state_ready : Placement → Regs → (pc : ℕ) → VaxState
state_ready p regs pc = state_shown p regs pc all_ready p.held

-- R26 holds a VAX address
abbrev pub target : Regs → ℕ
target regs = regs TARGET % 2 ^ 32
