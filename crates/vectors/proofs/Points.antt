-- Points by their words, exceptions by their vectors, condition codes by rules, and the state that registers show.
use Rattle.std.proofs.Common.{◌≡◌, ℕ, List, [], ◌∷◌, true, false, Option, Some, None, refl}
use Rattle.std.specs.Prelude.{slice_index_or, option_map}
use Rattle.vax_form.specs.Codes.{codes}
use Rattle.vax_form.specs.declared.instr.Size.TheVariants.{Byte, Word, Long, Quad}
use Rattle.vax_form.specs.declared.state.Exception.TheVariants.{ReservedInstruction, ReservedOperand, ReservedMode, Breakpoint}
use Rattle.vax_form.specs.declared.state.Flags.{Flags}
use Rattle.vax_form.specs.declared.state.VaxState.{VaxState}
use Rattle.vax_form.specs.declared.state.Pending.TheVariants as pending
use Rattle.vt_words.specs.Arithmetic.{sum_of, difference_of}
use Rattle.exception_records.specs.Codes.{all_ready, codes_by, is_ready}
use Rattle.exception_records.specs.Points.{Entry, point_at, raised_at}
use Rattle.exception_records.specs.Shown.{Regs, codes_shown, shown}
use Rattle.exception_records.specs.declared.rules.CodeRule.TheVariants as rule
use Rattle.exception_records.specs.declared.rules.Rules.{Rules}

-- an instruction's address beside a word
abbrev point : (word pc : ℕ) → Entry
point word pc = (word, record { vax_pc = pc; done = 0; count = 4; write = true; raises = 0; rules = all_ready })

abbrev found : List Entry → (word : ℕ) → Option ℕ
found points word = option_map (λ p. p.vax_pc) (point_at points word)

-- the worked registers: N and C are in R16 and R19, and R15 and R30 are operands of the rules
abbrev registers : Regs
registers number = slice_index_or (0xFFFFFFFF80000001 ∷ 0x0 ∷ 0x0 ∷ 0x0 ∷ 0x0 ∷ 0x0 ∷ 0x0 ∷ 0x0 ∷ 0x0 ∷ 0x0 ∷ 0x0 ∷ 0x0 ∷ 0x0 ∷ 0x0 ∷ 0x1200 ∷ 0xFFFFFFFF ∷ 0x1 ∷ 0x0 ∷ 0x0 ∷ 0x1 ∷ 0x20 ∷ 0x0 ∷ 0x0 ∷ 0x0 ∷ 0x0 ∷ 0x0 ∷ 0x0 ∷ 0x0 ∷ 0x0 ∷ 0x0 ∷ 0x1 ∷ 0x0 ∷ []) number 0

abbrev worked : Rules
worked = record { n = rule.Result Long; z = rule.Result Long; v = rule.Zero; c = rule.Add Long }

-- the codes, and the state at 207
abbrev shows : Rules → (held : Flags) → Flags × VaxState
shows rules held = (codes_shown registers rules held, shown registers 0x207 rules held 0)

abbrev state : (psw : ℕ) → VaxState
state psw = record {
  r = 0x80000001 ∷ 0x0 ∷ 0x0 ∷ 0x0 ∷ 0x0 ∷ 0x0 ∷ 0x0 ∷ 0x0 ∷ 0x0 ∷ 0x0 ∷ 0x0 ∷ 0x0 ∷ 0x0 ∷ 0x0 ∷ 0x1200 ∷ [];
  pc = 0x207;
  psw = psw;
  handler = 0;
  pending = pending.Nothing;
}

-- ---- points by their words
row2 : found (point 0x0 0x200 ∷ point 0x3 0x200 ∷ point 0x9 0x207 ∷ point 0xFFFFFFFF 0x20D ∷ []) 0x0 ≡ Some 0x200
row2 = refl

row3 : found (point 0x0 0x200 ∷ point 0x3 0x200 ∷ point 0x9 0x207 ∷ point 0xFFFFFFFF 0x20D ∷ []) 0x1 ≡ None
row3 = refl

row4 : found (point 0x0 0x200 ∷ point 0x3 0x200 ∷ point 0x9 0x207 ∷ point 0xFFFFFFFF 0x20D ∷ []) 0x2 ≡ None
row4 = refl

row5 : found (point 0x0 0x200 ∷ point 0x3 0x200 ∷ point 0x9 0x207 ∷ point 0xFFFFFFFF 0x20D ∷ []) 0x3 ≡ Some 0x200
row5 = refl

row6 : found (point 0x0 0x200 ∷ point 0x3 0x200 ∷ point 0x9 0x207 ∷ point 0xFFFFFFFF 0x20D ∷ []) 0x8 ≡ None
row6 = refl

row7 : found (point 0x0 0x200 ∷ point 0x3 0x200 ∷ point 0x9 0x207 ∷ point 0xFFFFFFFF 0x20D ∷ []) 0x9 ≡ Some 0x207
row7 = refl

row8 : found (point 0x0 0x200 ∷ point 0x3 0x200 ∷ point 0x9 0x207 ∷ point 0xFFFFFFFF 0x20D ∷ []) 0xA ≡ None
row8 = refl

row9 : found (point 0x0 0x200 ∷ point 0x3 0x200 ∷ point 0x9 0x207 ∷ point 0xFFFFFFFF 0x20D ∷ []) 0xFFFFFFFE ≡ None
row9 = refl

row10 : found (point 0x0 0x200 ∷ point 0x3 0x200 ∷ point 0x9 0x207 ∷ point 0xFFFFFFFF 0x20D ∷ []) 0xFFFFFFFF ≡ Some 0x20D
row10 = refl

row11 : found (point 0x1 0x200 ∷ point 0x2 0x200 ∷ point 0x3 0x200 ∷ []) 0x1 ≡ Some 0x200
row11 = refl

row12 : found ([]) 0x0 ≡ None
row12 = refl

-- ---- exceptions of vector offsets
row14 : raised_at 0x0 ≡ None
row14 = refl

row15 : raised_at 0x10 ≡ Some ReservedInstruction
row15 = refl

row16 : raised_at 0x18 ≡ Some ReservedOperand
row16 = refl

row17 : raised_at 0x1C ≡ Some ReservedMode
row17 = refl

row18 : raised_at 0x20 ≡ None
row18 = refl

row19 : raised_at 0x2C ≡ Some Breakpoint
row19 = refl

row20 : raised_at 0x34 ≡ None
row20 = refl

-- ---- condition codes by rules
row22 : codes_by rule.Zero 0x1 0x1 ≡ (codes false false false false)
unfolding sum_of difference_of
row22 = refl

row23 : codes_by (rule.Result Byte) 0x100 0x0 ≡ (codes false true false false)
unfolding sum_of difference_of
row23 = refl

row24 : codes_by (rule.Result Quad) 0x8000000000000000 0x0 ≡ (codes true false false false)
unfolding sum_of difference_of
row24 = refl

row25 : codes_by (rule.Add Long) 0x7FFFFFFF 0x1 ≡ (codes true false true false)
unfolding sum_of difference_of
row25 = refl

row26 : codes_by (rule.Add Byte) 0x80 0x80 ≡ (codes false true true true)
unfolding sum_of difference_of
row26 = refl

row27 : codes_by (rule.Add Quad) 0xFFFFFFFFFFFFFFFF 0x1 ≡ (codes false true false true)
unfolding sum_of difference_of
row27 = refl

row28 : codes_by (rule.Sub Long) 0x0 0x80000000 ≡ (codes true false true true)
unfolding sum_of difference_of
row28 = refl

row29 : codes_by (rule.Sub Byte) 0x3 0x5 ≡ (codes true false false true)
unfolding sum_of difference_of
row29 = refl

row30 : codes_by (rule.Sub Word) 0x8000 0x1 ≡ (codes false false true false)
unfolding sum_of difference_of
row30 = refl

row31 : codes_by (rule.Compare Long) 0xFFFFFFFF 0x1 ≡ (codes true false false false)
unfolding sum_of difference_of
row31 = refl

row32 : codes_by (rule.Compare Long) 0x1 0xFFFFFFFF ≡ (codes false false false true)
unfolding sum_of difference_of
row32 = refl

row33 : codes_by (rule.Compare Byte) 0x180 0x7F ≡ (codes true false false false)
unfolding sum_of difference_of
row33 = refl

row34 : is_ready rule.Ready ≡ true
row34 = refl

row35 : is_ready rule.Zero ≡ false
row35 = refl

-- ---- the state that registers show
row37 : shows all_ready (codes false false false false) ≡ ((codes true false false true), state 0x29)
unfolding sum_of difference_of
row37 = refl

row38 : shows worked (codes false false false false) ≡ ((codes false true false true), state 0x25)
unfolding sum_of difference_of
row38 = refl

row39 : shows worked (codes true false false false) ≡ ((codes true true false true), state 0x2D)
unfolding sum_of difference_of
row39 = refl

row40 : shows worked (codes true true true true) ≡ ((codes true false false true), state 0x29)
unfolding sum_of difference_of
row40 = refl
