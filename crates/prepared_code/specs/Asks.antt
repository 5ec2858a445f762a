-- Accesses that instructions ask for inside a block.
use Rattle.std.specs.Prelude.{◌≡◌, ◌+◌, ◌<◌, ◌&&◌, ℕ, ℤ, Bool, false, Option, Some, None, is_none, is_some}
use Rattle.address_map.specs.Pairs.{address_at}
use Rattle.alpha_encode.specs.declared.instr.AlphaInstr.{AlphaInstr}
use Rattle.alpha_encode.specs.declared.instr.AlphaInstr.TheVariants.{Memory}
use Rattle.alpha_meaning.specs.Memory.{kind_of, bytes_of, address_of, access_of}
use Rattle.alpha_meaning.specs.State.{Alpha}
use Rattle.alpha_meaning.specs.Pieces.{most_words}
use Rattle.block_law.specs.Translations.{fetch_of}
use Rattle.prepared_code.specs.Sources.{Source}
use Rattle.prepared_code.specs.declared.asked.Asked.{Asked}

-- an access as the instruction's row has it, with a register
pub record IsOfItsRow (a : Asked) : Type 0 where
  pub kind : kind_of a.op ≡ Some a.access.kind
  pub bytes : a.access.bytes ≡ bytes_of a.op
  pub register : a.register < 32

-- the word there asks for that access, and no block begins at the next
pub record AsksInside (source : Source) (c : Alpha) (a : Asked) : Type 0 where
  pub base : ℕ
  pub disp : ℤ
  pub fetched : fetch_of source.code.words c.pc ≡ Some (Memory a.op a.register base disp)
  pub kind : kind_of a.op ≡ Some a.access.kind
  pub access : a.access ≡ access_of a.op a.access.kind (address_of a.op (c.regs base) disp) (c.regs a.register)
  pub inside : address_at source.code.map (c.pc + 1) ≡ None
  pub few : c.pc < most_words

-- LDA and LDAH access nothing
abbrev pub asks_access : Option AlphaInstr → Bool
asks_access (Some (Memory op register base disp)) = is_some (kind_of op)
asks_access other = false

-- the word there asks for an access, and no block begins at the next
abbrev pub asks_inside : Source → Alpha → Bool
asks_inside source c = asks_access (fetch_of source.code.words c.pc) && is_none (address_at source.code.map (c.pc + 1))
