-- What stands at an address of an image: an instruction, a list that shows that there is none, or the end of the code.
use Rattle.std.specs.Prelude.{◌≡◌, ℕ, zero, suc, ◌+◌, List, [], ◌∷◌, length, take, slice_get}
use Rattle.std.specs.Prelude.{Option, Some, None, option_map, unwrap_or, EachIndex}
use Rattle.vax_form.specs.Grammar.{Decides, Found, instruction, past, reserved_instruction, reserved_mode, wrapped}
use Rattle.vax_form.specs.GrammarReading.{read_instruction}
use Rattle.vax_form.specs.Pages.{code_byte_at}
use Rattle.vax_form.specs.declared.pages.Pages.{Pages}

-- ---- as a relation

-- the bytes stand in the code from that address on
abbrev pub IsFetched : Pages → ℕ → List ℕ → Type 0
IsFetched pages pc bytes = EachIndex bytes (λ k. slice_get bytes k ≡ code_byte_at pages (wrapped (pc + k)))

-- the bytes from that address on decide what stands there
abbrev pub IsDecided : Pages → ℕ → Found → Type 0
IsDecided pages pc found = (bytes : List ℕ) × IsFetched pages pc bytes × Decides pc bytes found

-- The code from pc on ends before that address, and nothing is decided before.
pub record Ends (pages : Pages) (pc address : ℕ) : Type 0 where
  pub bytes : List ℕ
  pub are_fetched : IsFetched pages pc bytes
  pub is_last : code_byte_at pages (wrapped (pc + length bytes)) ≡ None
  pub is_address : address ≡ wrapped (pc + length bytes)
  pub undecided : (n : ℕ) (found : Found) → ¬ Decides pc (take n bytes) found

-- what stands at an address
abbrev pub Stands : Pages → ℕ → Found → Type 0
Stands pages pc (instruction instr) = IsDecided pages pc (instruction instr)
Stands pages pc reserved_instruction = IsDecided pages pc reserved_instruction
Stands pages pc reserved_mode = IsDecided pages pc reserved_mode
Stands pages pc (past address) = Ends pages pc address

-- ---- as a function

abbrev pub in_front_of : Option ℕ → List ℕ → List ℕ
in_front_of None bytes = []
in_front_of (Some b) bytes = b ∷ bytes

-- the bytes that stand in the code from that address on, without a gap, but at most so many
unfoldable pub fetched : Pages → ℕ → ℕ → List ℕ
fetched pages at zero = []
fetched pages at (suc n) = in_front_of (code_byte_at pages (wrapped at)) (fetched pages (at + 1) n)

-- what is read from bytes that stand at that address
unfoldable pub found_in : ℕ → List ℕ → Found
found_in pc bytes = unwrap_or (option_map (λ r. r.0) (read_instruction pc bytes)) (past (wrapped (pc + length bytes)))

-- No instruction has more than 64 bytes.
unfoldable pub found : Pages → ℕ → Found
found pages pc = found_in pc (fetched pages pc 64)
