-- What `generate` writes.
use Rattle.std.specs.Prelude.{◌+◌, ◌%◌, ◌^◌, ℕ, zero, suc, List, length}
use Rattle.std.specs.Option.{unwrap_or}
use Rattle.image_file.specs.Spelling.{spelling}
use Rattle.memory_core.specs.Contents.{byte_left}
use Rattle.memory_core.specs.declared.entry.Entry.{Entry}
use Rattle.memory_core.specs.declared.entry.SetUp.{SetUp}
use Rattle.block_law.specs.Translations.{Code}
use Rattle.report_text.specs.Generated.{data_section, generated_image}
use Rattle.report_text.specs.Generating.{generated_text}

-- the sum of so many bytes from an address on, as a history left them
unfoldable pub bytes_left : SetUp → List Entry → (first count : ℕ) → ℕ
bytes_left of history first zero = 0
bytes_left of history first (suc count) = bytes_left of history first count + unwrap_or (byte_left of history (first + count)) 0

-- the sum of the bytes of a generated image's writable section
abbrev pub memory_sum : SetUp → List Entry → ℕ
memory_sum of history = bytes_left of history data_section.start data_section.size % 2 ^ 32

-- the length of the image's file, the number of mapped addresses, and what the run left in the memory
abbrev pub lines_of : (number : ℕ) → Code → SetUp → List Entry → List ℕ
lines_of number code of history =
    generated_text number (length (spelling (generated_image number))) (length code.map) (memory_sum of history)
