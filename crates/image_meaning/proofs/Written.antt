-- An instruction's opcode is the byte at its address.
use Rattle.std.proofs.Common.{◌≡◌, ℕ, ◌+◌, ◌<◌, ◌^◌, List, ◌∷◌, Some, sym, ap, ◌∙◌, subst, arith}
use Rattle.vax_form.specs.Grammar.{instruction, wrapped}
use Rattle.vax_form.specs.GrammarFound.{IsFetched, Stands}
use Rattle.vax_form.specs.Pages.{code_byte_at}
use Rattle.vax_form.specs.declared.instr.Instr.{Instr}
use Rattle.vax_form.specs.declared.pages.Pages.{Pages}
use Rattle.vax_form.proofs.GrammarStands.{Stands-found}
use Rattle.image_meaning.specs.Laws.{CodesWrittenAreTheOperations}
use Rattle.image_meaning.specs.Meant.{codes_by}
use Rattle.image_meaning.proofs.Decoded.{fetched_bytes}

first_byte : (pages : Pages) (address opcode : ℕ) (bytes rest : List ℕ) → address < 2 ^ 32 → bytes ≡ opcode ∷ rest → IsFetched pages address bytes
    → code_byte_at pages address ≡ Some opcode
first_byte pages address opcode bytes rest low is are =
    let place : wrapped (address + 0) ≡ address = omega arith in
    let fetched : IsFetched pages address (opcode ∷ rest) = subst (IsFetched pages address) is are in
    ap (code_byte_at pages) (sym place) ∙ sym (fetched 0 (omega arith))

opcode_of : (pages : Pages) (address : ℕ) (instr : Instr) → address < 2 ^ 32 → Stands pages address (instruction instr) → code_byte_at pages address ≡ Some instr.opcode
opcode_of pages address instr low stands =
    let spells = stands.2 in
    first_byte pages address spells.opcode stands.0 spells.rest low spells.are_bytes stands.1
    ∙ ap (λ (i : Instr). Some i.opcode) (sym spells.is_instr)

pub codes_written_are_the_operations : CodesWrittenAreTheOperations
codes_written_are_the_operations pages address instr code low is =
    ap codes_by (opcode_of pages address instr low (subst (Stands pages address) is (Stands-found pages address (fetched_bytes pages address 64 code))))
