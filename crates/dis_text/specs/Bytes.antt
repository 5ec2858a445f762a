-- The bytes of the read-only pages.
use Rattle.std.specs.Prelude.{ℕ, ◌+◌, ◌-◌, ◌%◌, ◌^◌, List, map, unwrap_or}
use Rattle.std.specs.List.{range_with_len}
use Rattle.vax_form.specs.Grammar.{wrapped}
use Rattle.vax_form.specs.Pages.{code_byte_at}
use Rattle.vax_form.specs.declared.instr.Instr.{Instr}
use Rattle.vax_form.specs.declared.pages.Pages.{Pages}

abbrev pub byte_at : Pages → ℕ → ℕ
byte_at pages address = unwrap_or (code_byte_at pages (wrapped address)) 0

-- how many bytes an instruction has
abbrev pub count_of : Instr → ℕ
count_of instr = (instr.after + 2 ^ 32 - instr.at) % 2 ^ 32

-- so many bytes from an address on
abbrev pub bytes_at : Pages → (at count : ℕ) → List ℕ
bytes_at pages at count = map (λ k. byte_at pages (at + k)) (range_with_len 0 count)
