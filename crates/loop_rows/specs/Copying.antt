-- A block with a loop: it copies a string upward, byte by byte, and leaves the codes.
-- VAX Architecture Reference Manual, "Character String Instructions": the registers are those of MOVC3.
use Rattle.std.specs.Prelude.{ℕ, Bool, zero, suc, pos, negsuc, ◌+◌, ◌%◌, ◌^◌, ◌≤◌, true, false, List, [], ◌∷◌, ◌++◌, length}
use Rattle.vax_form.specs.Codes.{none}
use Rattle.vax_form.specs.Moments.{handled}
use Rattle.vax_form.specs.State.{IsState, register, with_register, with_pc}
use Rattle.vax_form.specs.Tree.{Tree, Check, Ask, Ends, Finish}
use Rattle.vax_form.specs.declared.pages.Pages.{Pages}
use Rattle.vax_form.specs.declared.state.Flags.{Flags}
use Rattle.vax_form.specs.declared.state.RefKind.TheVariants.{Read, Write}
use Rattle.vax_form.specs.declared.state.VaxState.{VaxState}
use Rattle.alpha_encode.specs.NoOperation.{nop}
use Rattle.alpha_encode.specs.Calls.{PROBE}
use Rattle.alpha_encode.specs.Registers.{ADDRESS, TEMPORARIES, ZERO}
use Rattle.alpha_encode.specs.declared.registers.TheConstants.{BYTES, QUAD, QUAD_ADDRESS}
use Rattle.alpha_encode.specs.declared.instr.AlphaInstr.{AlphaInstr}
use Rattle.alpha_encode.specs.declared.instr.AlphaInstr.TheVariants.{Memory, Branch, Operate, Pal}
use Rattle.alpha_encode.specs.declared.instr.BranchOp.TheVariants.{Br, Beq}
use Rattle.alpha_encode.specs.declared.instr.MemoryOp.TheVariants.{LdqU, LdqL, StqC}
use Rattle.alpha_encode.specs.declared.instr.OperateOp.TheVariants.{Addq, Addl, Subl, Extwl, Extll, Extbl, Bic, Mskbl, Insbl, Bis}
use Rattle.alpha_encode.specs.declared.instr.Second.TheVariants.{Register, Literal}
use Rattle.alpha_meaning.specs.Pieces.{Plain, most_words}
use Rattle.alpha_meaning.specs.State.{Regs, at_place}
use Rattle.exception_records.specs.Blocks.{BlockValue}
use Rattle.exception_records.specs.Codes.{all_ready}
use Rattle.exception_records.specs.Shown.{Shows}
use Rattle.exception_records.specs.declared.points.Point.{Point}
use Rattle.block_law.specs.Blocks.{Stands, ExitsLead, RulesMeet, IsLaid}
use Rattle.block_law.specs.Follows.{Follows}
use Rattle.block_law.specs.Placements.{InForm}
use Rattle.block_law.specs.Rounds.{block_steps, new_round}
use Rattle.block_law.specs.Services.{service}
use Rattle.block_law.specs.Translations.{Meaning, Permit, Code, IsBlock, placed}
use Rattle.program_codegen.specs.Accesses.{needed}

-- ---- what it means
-- R0 has the bytes that are left, R1 and R3 the addresses behind those that were copied
abbrev pub behind : (left source target : ℕ) → VaxState → VaxState
behind left source target state = with_register 3 target (with_register 1 source (with_register 0 left state))

-- each byte is read and written before the next
abbrev pub copied : (left source target : ℕ) → VaxState → Tree
copied zero source target state = Ends (Finish (behind 0 source target state))
copied (suc left) source target state =
    Ask (record { address = source; count = 1; kind = Read })
    (λ byte. Ask (record { address = target; count = 1; kind = Write byte })
    (λ done. copied left ((source + 1) % 2 ^ 32) ((target + 1) % 2 ^ 32) state))

-- both strings of so many bytes are probed, that from the address in R1 on and that from the address in R3 on
abbrev pub string_tree : (after count : ℕ) → VaxState → Tree
string_tree after count state =
    Check (register 1 state) count false (Check (register 3 state) count true (copied count (register 1 state) (register 3 state) (with_pc after state)))

-- as many bytes as the low word of R0 says
abbrev pub copy_tree : (after : ℕ) → VaxState → Tree
copy_tree after state = string_tree after (register 0 state % 2 ^ 16) state

-- references are made as those of a program, and each access that counts allows as many steps more as a block may take
abbrev pub copy_permit : Permit
copy_permit = record {
  kinds = λ address. needed false 1;
  bonus = λ address. block_steps;
}

-- an instruction that writes no codes, by its tree
abbrev pub string_meaning : Pages → (VaxState → Tree) → Meaning
string_meaning pages tree = record {
  pages = pages;
  tree = λ thread state. tree state;
  moment = λ thread state. handled pages state (tree state);
  serve = service;
  written = λ address. none;
}

abbrev pub copy_meaning : Pages → (after : ℕ) → Meaning
copy_meaning pages after = string_meaning pages (copy_tree after)

-- ---- its words
-- of a probe that takes its count from R21
abbrev pub point_of : (address : ℕ) → (write : Bool) → Point
point_of address write = record { vax_pc = address; done = 0; count = 0; write = write; raises = 0; rules = all_ready }

-- where the first temporary has the count, both strings are probed; then R0 has the bytes that are left
abbrev pub probe_words : List AlphaInstr
probe_words =
    Operate Addq ZERO (Register 1) ADDRESS
    ∷ Pal PROBE
    ∷ Operate Addq ZERO (Register 3) ADDRESS
    ∷ Pal PROBE
    ∷ Operate Extwl TEMPORARIES (Literal 0) 0
    ∷ []

-- temporaries: both addresses as numbers below 2^32, and the byte
abbrev pub source_register : ℕ
source_register = TEMPORARIES + 1

abbrev pub byte_register : ℕ
byte_register = TEMPORARIES + 2

abbrev pub target_register : ℕ
target_register = TEMPORARIES + 3

abbrev pub turn_words : List AlphaInstr
turn_words =
    Branch Beq 0 (pos 15)
    ∷ Operate Extll 1 (Literal 0) source_register
    ∷ Memory LdqU QUAD source_register (pos 0)
    ∷ Operate Extbl QUAD (Register source_register) byte_register
    ∷ Operate Extll 3 (Literal 0) target_register
    ∷ Operate Bic target_register (Literal 7) QUAD_ADDRESS
    ∷ Memory LdqL QUAD QUAD_ADDRESS (pos 0)
    ∷ Operate Mskbl QUAD (Register target_register) QUAD
    ∷ Operate Insbl byte_register (Register target_register) BYTES
    ∷ Operate Bis QUAD (Register BYTES) QUAD
    ∷ Memory StqC QUAD QUAD_ADDRESS (pos 0)
    ∷ Branch Beq QUAD (negsuc 5)
    ∷ Operate Addl 1 (Literal 1) 1
    ∷ Operate Addl 3 (Literal 1) 3
    ∷ Operate Subl 0 (Literal 1) 0
    ∷ Branch Br ZERO (negsuc 15)
    ∷ []

-- the loop, with an exit behind it
abbrev pub loop_words : List AlphaInstr
loop_words = probe_words ++ turn_words ++ nop ∷ nop ∷ nop ∷ []

-- the first temporary gets the low word of R0
abbrev pub copy_words : List AlphaInstr
copy_words = Operate Addq ZERO (Register 0) TEMPORARIES ∷ loop_words

abbrev pub copy_value : (address after : ℕ) → BlockValue
copy_value address after = record {
  words = copy_words;
  exits = (22, after) ∷ [];
  points = (0, point_of address false) ∷ (2, point_of address false) ∷ (4, point_of address true) ∷ [];
}

-- wherever the block stands, it follows the tree, if its exit leads behind the instruction
abbrev pub Copies : (address after : ℕ) → BlockValue → Type 0
Copies address after block = (pages : Pages) (code : Code) (first thread n : ℕ) (state : VaxState) (held : Flags) (regs : Regs)
    → length code.words ≤ most_words → Stands code block first → IsState state → InForm regs → Shows regs address all_ready held state
    → ExitsLead (placed (copy_meaning pages after) copy_permit code thread state held first) block.exits first all_ready
    → Follows (placed (copy_meaning pages after) copy_permit code thread state held first) n Plain block_steps new_round (at_place regs first) (copy_tree after state)

-- wherever it is laid out, where all rules are ready at its exit, it is all that a block has to be
abbrev pub MeetsAll : (address after : ℕ) → BlockValue → Type 0
MeetsAll address after block = (pages : Pages) (code : Code) (laid : IsLaid code address block)
    → length code.words ≤ most_words → RulesMeet code block.exits all_ready → IsBlock (copy_meaning pages after) copy_permit code address laid.first
