-- The number that the digits so far write.
use Rattle.std.proofs.Common.{◌≡◌, ◌<◌, ◌^◌, drop}
use Rattle.vximage_words.specs.Numbers.{digits_from}
use Rattle.vximage_words.proofs.numbers.hexadecimal.Given as goal

abbrev pub invariant-loop-byte : goal.invariant-loop-byte
invariant-loop-byte l = (l.value < 16 ^ l.byte-index) × (digits_from 0 l.text ≡ digits_from l.value (drop l.byte-index l.text))
