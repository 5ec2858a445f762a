-- A block whose loop is the same, and whose front reads the length of the string from memory.
use Rattle.std.specs.Prelude.{ℕ, ◌+◌, ◌-◌, ◌*◌, ◌%◌, ◌^◌, ◌≤◌, false, nat_le, List, [], ◌∷◌, ◌++◌, length, true, if◌then◌else◌}
use Rattle.vax_form.specs.PageTable.{IsPageTable}
use Rattle.vax_form.specs.State.{IsState, register}
use Rattle.vax_form.specs.Tree.{Tree, Check, Ask}
use Rattle.vax_form.specs.declared.pages.Pages.{Pages}
use Rattle.vax_form.specs.declared.state.Flags.{Flags}
use Rattle.vax_form.specs.declared.state.RefKind.TheVariants.{Read}
use Rattle.vax_form.specs.declared.state.VaxState.{VaxState}
use Rattle.alpha_encode.specs.declared.pal.TheConstants.{PROBE}
use Rattle.alpha_encode.specs.declared.registers.TheConstants.{ADDRESS, TEMPORARIES, ZERO}
use Rattle.alpha_encode.specs.declared.instr.AlphaInstr.{AlphaInstr}
use Rattle.alpha_encode.specs.declared.instr.AlphaInstr.TheVariants.{Operate, Pal}
use Rattle.alpha_encode.specs.declared.instr.OperateOp.TheVariants.{Addq, Extll}
use Rattle.alpha_encode.specs.declared.instr.Second.TheVariants.{Register, Literal}
use Rattle.alpha_meaning.specs.Pieces.{Plain, most_words}
use Rattle.alpha_meaning.specs.State.{Regs, at_place}
use Rattle.byte_sequences.specs.Words.{read_code}
use Rattle.exception_records.specs.Blocks.{BlockValue}
use Rattle.exception_records.specs.Codes.{all_ready}
use Rattle.exception_records.specs.Shown.{Shows}
use Rattle.exception_records.specs.declared.points.Point.{Point}
use Rattle.block_law.specs.Blocks.{Stands, ExitsLead, RulesMeet, IsLaid}
use Rattle.block_law.specs.Follows.{Follows}
use Rattle.block_law.specs.Placements.{InForm}
use Rattle.block_law.specs.Rounds.{block_steps, new_round}
use Rattle.block_law.specs.Translations.{Meaning, Code, IsBlock, placed}
use Rattle.loop_rows.specs.Copying.{copy_permit, loop_words, point_of, source_register, string_meaning, string_tree}

-- ---- what it means
-- a word within a quadword is read as one, and a word across two byte by byte
abbrev pub word_read : (address : ℕ) → (on : (word : ℕ) → Tree) → Tree
word_read address on =
    if nat_le 2 (8 - address % 8) then Ask (record { address = address; count = 2; kind = Read }) on
    else Ask (record { address = address; count = 1; kind = Read })
    (λ low. Ask (record { address = (address + 1) % 2 ^ 32; count = 1; kind = Read }) (λ high. on (low + high * 2 ^ 8)))

-- as many bytes as the word at the address in R2 says
abbrev pub measured_tree : (after : ℕ) → VaxState → Tree
measured_tree after state =
    Check (register 2 state) 2 false (word_read (register 2 state) (λ count. string_tree after count state))

abbrev pub measured_meaning : Pages → (after : ℕ) → Meaning
measured_meaning pages after = string_meaning pages (measured_tree after)

-- ---- its words
-- of a probe of a word
abbrev pub word_point : (address : ℕ) → Point
word_point address = record (point_of address false) { count = 2 }

-- the first temporary gets the word at the address in R2
abbrev pub length_words : List AlphaInstr
length_words =
    Operate Addq ZERO (Register 2) ADDRESS
    ∷ Pal PROBE
    ∷ Operate Extll 2 (Literal 0) source_register
    ∷ read_code source_register 2 TEMPORARIES

abbrev pub measured_words : List AlphaInstr
measured_words = length_words ++ loop_words

abbrev pub measured_value : (address after : ℕ) → BlockValue
measured_value address after = record {
  words = measured_words;
  exits = (33, after) ∷ [];
  points = (0, word_point address) ∷ (1, word_point address) ∷ (13, point_of address false) ∷ (15, point_of address true) ∷ [];
}

-- wherever the block stands in code over the pages of an image, it follows the tree, if its exit leads behind the instruction
abbrev pub Measures : (address after : ℕ) → BlockValue → Type 0
Measures address after block = (pages : Pages) → IsPageTable pages → (code : Code) (first thread n : ℕ) (state : VaxState) (held : Flags) (regs : Regs)
    → length code.words ≤ most_words → Stands code block first → IsState state → InForm regs → Shows regs address all_ready held state
    → ExitsLead (placed (measured_meaning pages after) copy_permit code thread state held first) block.exits first all_ready
    → Follows (placed (measured_meaning pages after) copy_permit code thread state held first) n Plain block_steps new_round (at_place regs first) (measured_tree after state)

-- wherever it is laid out, where all rules are ready at its exit, it is all that a block has to be
abbrev pub MeasuresAll : (address after : ℕ) → BlockValue → Type 0
MeasuresAll address after block = (pages : Pages) → IsPageTable pages → (code : Code) (laid : IsLaid code address block)
    → length code.words ≤ most_words → RulesMeet code block.exits all_ready → IsBlock (measured_meaning pages after) copy_permit code address laid.first
