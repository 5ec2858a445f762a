-- What the registers of a block hold between two operations of its program.
use Rattle.std.specs.List.{list_all}
use Rattle.std.proofs.Common.{◌≡◌, ℕ, ◌+◌, ◌/◌, ◌%◌, ◌^◌, ◌<◌, List, [], ◌∷◌, length, None, true, false}
use Rattle.vt_words.specs.Values.{bit}
use Rattle.vax_form.specs.PageTable.{IsPageTable}
use Rattle.vax_form.specs.Pages.{first_bad}
use Rattle.vax_form.specs.Ranges.{IsInRange}
use Rattle.vax_form.specs.State.{register, with_core}
use Rattle.vax_form.specs.Tree.{Tree}
use Rattle.vax_form.specs.declared.pages.Pages.{Pages}
use Rattle.alpha_encode.specs.declared.instr.AlphaInstr.{AlphaInstr}
use Rattle.alpha_meaning.specs.State.{Regs, at_place}
use Rattle.exception_records.specs.Shown.{registers_shown, codes_shown}
use Rattle.micro_ops.specs.declared.known.Holding.{Holding}
use Rattle.micro_ops.specs.declared.known.Holding.TheVariants.{Nothing, Wide, Longword}
use Rattle.micro_ops.specs.declared.known.Checked.{Checked}
use Rattle.micro_ops.specs.declared.known.Checked.TheVariants.{Nowhere, At}
use Rattle.micro_ops.specs.declared.known.Known.{Known}
use Rattle.micro_ops.specs.declared.program.Exit.{Exit}
use Rattle.micro_ops.specs.declared.program.Micro.{Micro}
use Rattle.micro_ops.specs.declared.program.Micro.TheVariants.{Leave}
use Rattle.micro_ops.specs.Course.{Course, AtLeaves, continued}
use Rattle.micro_ops.specs.Fits.{exit_fits, sources_fit, walk, is_ended}
use Rattle.micro_ops.specs.Uses.{has_bytes}
use Rattle.micro_ops.specs.Known.{held, is_committed}
use Rattle.micro_ops.specs.Leaving.{CodesComeFrom}
use Rattle.micro_ops.specs.Meaning.{Temps, Found, Standing, Left, departed, flag_of, leaves_by, course_of}
use Rattle.block_law.specs.CodeWords.{LeavesCodes, codes_in}
use Rattle.block_law.specs.Laws.{MoreKinds}
use Rattle.micro_ops.specs.Sources.{codes_written_by}
use Rattle.block_law.specs.Placements.{Placement, InForm}
use Rattle.block_law.proofs.Rules.{Always}
use Rattle.program_codegen.specs.declared.points.Site.{Site}
use Rattle.program_codegen.specs.Accesses.{needed}
use Rattle.program_codegen.specs.Words.{leaving, program_lines}
use Rattle.program_codegen.specs.Programs.{KeepsTogether, ReadsReady, LeavesReady, AllHaveWords, IsExit, is_narrow}
use Rattle.program_codegen.proofs.Walk.{Within}

-- ---- the block
-- what is known wherever it stands
pub record Setting (p : Placement) (site : Site) (codes : List AlphaInstr) : Type 0 where
  pub pages : IsPageTable p.pages
  pub written : p.written ≡ codes_written_by site.sources
  -- the operand that is written has so many bytes
  pub bytes : ℕ
  pub kinds : MoreKinds (needed site.byte_word bytes) p.kinds
  pub leaves : LeavesCodes site.sources site.before site.behind codes
  pub together : KeepsTogether site.sources
  pub narrow : is_narrow site.behind.v ≡ true
  pub after : site.after < 2 ^ 32

abbrev pub found : Placement → Site → Found
found p site = record { state = p.begun; after = site.after }

-- how the tree of an instruction goes on where its program leaves
abbrev pub ends : Placement → Left → Tree
ends p left = departed p.serve left.departure

-- the tree of a course, with what comes where it leaves
abbrev pub tree : (end : Left → Tree) → Course Left → Tree
tree end course = continued course end

-- ---- the registers
-- a temporary that holds something has its value in its register
abbrev pub HoldsAs : Holding → (value in_register : ℕ) → Type 0
HoldsAs Nothing value in_register = Unit {0}
HoldsAs Wide value in_register = (in_register ≡ value) × (value < 2 ^ 64)
HoldsAs Longword value in_register = (in_register ≡ value) × (value < 2 ^ 32)

-- the bytes that were checked may be used so
abbrev pub IsChecked : Pages → Checked → Temps → Type 0
IsChecked pages Nowhere temps = Unit {0}
IsChecked pages (At place count write) temps = first_bad pages write (temps place) count ≡ None

-- Where a program stands, as the registers show it: its temporaries, the registers that it committed, and bits 7:4 of the
-- status word. The codes are still those that the instruction found.
pub record Holds (p : Placement) (site : Site) (known : Known) (standing : Standing) (regs : Regs) : Type 0 where
  pub form : InForm regs
  pub temps : (temp : ℕ) → temp < 6 → HoldsAs (held known temp) (standing.temps temp) (regs (21 + temp))
  pub checked : IsChecked p.pages known.checked standing.temps
  -- the state that is to be left
  pub state : standing.state ≡ with_core p.begun (registers_shown regs) p.begun.pc standing.state.psw
  pub upper : standing.state.psw / 16 ≡ regs 20 / 16
  pub same_psw : known.codes ≡ false → known.psw ≡ false → standing.state.psw ≡ p.begun.psw
  pub overflowed : known.codes ≡ true → known.psw ≡ false → bit standing.overflowed ≡ flag_of 2 standing.state.psw
  pub no_overflow : known.codes ≡ false → standing.overflowed ≡ false
  pub each_register : length known.committed ≡ 15
  pub quiet : known.changed ≡ false → (known.codes ≡ false) × (known.psw ≡ false)
  -- the state that was found
  pub registers : (number : ℕ) → number < 15 → is_committed known number ≡ false → register number p.begun ≡ regs number % 2 ^ 32
  pub codes : codes_shown regs site.before p.held ≡ codes_in p.begun.psw

-- ---- what is to be proved
-- from the start of a program, or from one of its operations on, the words follow the tree of the rest
abbrev pub ProgramFollows : Placement → Site → List AlphaInstr → (bytes : ℕ) → Type 0
ProgramFollows p site codes bytes =
    (program : List Micro) (known : Known) (standing : Standing) (regs : Regs) (pc : ℕ)
    → Within p site.behind pc (program_lines site codes program)
    → list_all (has_bytes bytes) program ≡ true → AllHaveWords site.sources program → ReadsReady site.before program → LeavesReady site.behind program
    → known.ended ≡ false → is_ended (walk site.sources known program) ≡ true
    → Holds p site known standing regs
    → IsInRange p.pages (tree (ends p) (course_of program (found p site) standing))
    → AtLeaves (CodesComeFrom site.sources p.begun) (course_of program (found p site) standing)
    → Always p None (length (program_lines site codes program)) (at_place regs pc) (tree (ends p) (course_of program (found p site) standing))

-- from where a program leaves, the words behind follow the rest of its tree
abbrev pub LeavingFollows : Placement → Site → List AlphaInstr → Type 0
LeavingFollows p site codes =
    (exit : Exit) (known : Known) (standing : Standing) (regs : Regs) (pc : ℕ)
    → Within p site.behind pc (leaving site codes exit)
    → IsExit exit → exit_fits known exit ≡ true → sources_fit site.sources known ≡ true → LeavesReady site.behind (Leave exit ∷ [])
    → Holds p site known standing regs
    → AtLeaves (CodesComeFrom site.sources p.begun) (leaves_by exit (found p site) standing)
    → Always p None (length (leaving site codes exit)) (at_place regs pc) (tree (ends p) (leaves_by exit (found p site) standing))
