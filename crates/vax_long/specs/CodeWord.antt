-- The words that stand in the code.
use Rattle.std.specs.Prelude.{ℕ, ◌+◌, ◌*◌, Option, option_map, option_and_then}
use Rattle.vax_form.specs.Grammar.{wrapped}
use Rattle.vax_form.specs.Pages.{code_byte_at}
use Rattle.vax_form.specs.declared.pages.Pages.{Pages}

-- the word at an address, where both its bytes can be fetched
abbrev pub code_word_at : Pages → ℕ → Option ℕ
code_word_at pages address =
    option_and_then (λ low. option_map (λ high. low + 256 * high) (code_byte_at pages (wrapped (address + 1)))) (code_byte_at pages address)
