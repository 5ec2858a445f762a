-- An instruction as MACRO writes it.
use Rattle.std.specs.Prelude.{◌≡◌, ℕ, ◌+◌, List, [], ◌∷◌, ◌++◌, drop, length, Option, Some, None}
use Rattle.vax_form.specs.Grammar.{Spells, wrapped}
use Rattle.vax_form.specs.GrammarRows.{operand_types}
use Rattle.vax_form.specs.declared.instr.Size.{Size}
use Rattle.vax_form.specs.declared.instr.Access.{Access}
use Rattle.vax_form.specs.declared.instr.Instr.{Instr}
use Rattle.vax_text.specs.Names.{name_of}
use Rattle.vax_text.specs.Operands.{specifier}

-- a text, and behind it what the bytes behind its own say
abbrev pub followed : (separator : ℕ) → List ℕ × ℕ → (ℕ → List ℕ × ℕ) → List ℕ × ℕ
followed separator one others = (separator ∷ one.0 ++ (others one.1).0, one.1 + (others one.1).1)

-- the operands of these types, each behind a separator: the first behind that one, the others behind commas
unfoldable pub operands_text : (separator : ℕ) → List (Access × Size) → (at : ℕ) → List ℕ → List ℕ × ℕ
operands_text separator [] at bytes = ([], 0)
operands_text separator (t ∷ types) at bytes =
    followed separator (specifier t.0 t.1 at bytes) (λ n. operands_text 44 types (wrapped (at + n)) (drop n bytes))

-- the types of an opcode's operands; none of a reserved one
abbrev pub types_of : Option (List (Access × Size)) → List (Access × Size)
types_of None = []
types_of (Some types) = types

-- the opcode's name, and its operands behind a blank; with the number of bytes that it is read from
unfoldable pub walk : (address : ℕ) → List ℕ → List ℕ × ℕ
walk address [] = ([], 0)
walk address (opcode ∷ rest) =
    let operands = operands_text 32 (types_of (operand_types opcode)) (wrapped (address + 1)) rest in
    (name_of opcode ++ operands.0, 1 + operands.1)

-- the text of the instruction that the bytes at an address spell
abbrev pub text_of : (address : ℕ) → List ℕ → List ℕ
text_of address bytes = (walk address bytes).0

-- the text is read from the bytes of the instruction, once each, and from no byte behind them
abbrev pub WalksWhole : Type 0
WalksWhole = (at : ℕ) (bytes rest : List ℕ) (instr : Instr) → Spells at bytes instr → (walk at (bytes ++ rest)).1 ≡ length bytes
