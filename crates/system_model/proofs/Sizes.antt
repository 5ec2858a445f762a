-- The request of an access of each size at each place of a quadword, worked by hand: the bits of its mask are its bytes.
use Rattle.std.proofs.Common.{◌≡◌, ℕ, refl}
use Rattle.alpha_meaning.specs.declared.access.AlphaKind.TheVariants.{Load, Store}
use Rattle.memory_core.specs.declared.entry.Change.{Change}
use Rattle.memory_core.specs.declared.entry.Change.TheVariants.{Bytes, Nothing}
use Rattle.system_model.specs.Steps.{change_of}

-- what a store asks, of so many bytes of a value to an address
abbrev stores : (address bytes value : ℕ) → Change
stores address bytes value = change_of (record { kind = Store; address = address; bytes = bytes; value = value })

pub byte_at_0 : stores 0x1000 1 0xab ≡ Bytes 0x1 0xab
byte_at_0 = refl

pub byte_at_1 : stores 0x1001 1 0xab ≡ Bytes 0x2 0xab00
byte_at_1 = refl

pub byte_at_2 : stores 0x1002 1 0xab ≡ Bytes 0x4 0xab0000
byte_at_2 = refl

pub byte_at_3 : stores 0x1003 1 0xab ≡ Bytes 0x8 0xab000000
byte_at_3 = refl

pub byte_at_4 : stores 0x1004 1 0xab ≡ Bytes 0x10 0xab00000000
byte_at_4 = refl

pub byte_at_5 : stores 0x1005 1 0xab ≡ Bytes 0x20 0xab0000000000
byte_at_5 = refl

pub byte_at_6 : stores 0x1006 1 0xab ≡ Bytes 0x40 0xab000000000000
byte_at_6 = refl

pub byte_at_7 : stores 0x1007 1 0xab ≡ Bytes 0x80 0xab00000000000000
byte_at_7 = refl

pub word_at_0 : stores 0x1000 2 0xabcd ≡ Bytes 0x3 0xabcd
word_at_0 = refl

pub word_at_2 : stores 0x1002 2 0xabcd ≡ Bytes 0xc 0xabcd0000
word_at_2 = refl

pub word_at_4 : stores 0x1004 2 0xabcd ≡ Bytes 0x30 0xabcd00000000
word_at_4 = refl

pub word_at_6 : stores 0x1006 2 0xabcd ≡ Bytes 0xc0 0xabcd000000000000
word_at_6 = refl

pub longword_at_0 : stores 0x1000 4 0x89abcdef ≡ Bytes 0xf 0x89abcdef
longword_at_0 = refl

pub longword_at_4 : stores 0x1004 4 0x89abcdef ≡ Bytes 0xf0 0x89abcdef00000000
longword_at_4 = refl

pub quadword_at_0 : stores 0x1000 8 0x123456789abcdef ≡ Bytes 0xff 0x123456789abcdef
quadword_at_0 = refl

pub load_changes_nothing : change_of (record { kind = Load; address = 0x1004; bytes = 4; value = 0 }) ≡ Nothing
load_changes_nothing = refl
