-- The instructions of generated code: each goes on to the address behind it alone.
use Rattle.std.proofs.Common.{◌≡◌, ℕ, ◌+◌, ◌≤◌, List, [], ◌∷◌, length, refl, arith, lit<}
use Rattle.std.specs.Int.{w16, to_le_bytes}
use Rattle.vax_form.specs.Grammar.{Spells, number, padded, wrapped, immediate, literal, place, register, word_displacement, extended}
use Rattle.vax_form.specs.GrammarRows.{operand_types}
use Rattle.vax_form.specs.Operation.{operation_at, integer_opcodes, control_opcodes, mixed_opcodes, move_opcodes, bit_opcodes}
use Rattle.vax_form.specs.Row.{operands_of}
use Rattle.vax_form.specs.Targets.{call_of, call_target, fixed_targets, jump_of, jump_target}
use Rattle.vax_form.specs.declared.instr.Access.TheVariants.{Read, Write, Modify}
use Rattle.vax_form.specs.declared.instr.Base.TheVariants.{Offset}
use Rattle.vax_form.specs.declared.instr.Instr.{Instr}
use Rattle.vax_form.specs.declared.instr.Operand.{Operand}
use Rattle.vax_form.specs.declared.instr.Operand.TheVariants.{Value, Register, Place}
use Rattle.vax_form.specs.declared.instr.Size.TheVariants.{Byte, Word, Long}
use Rattle.std.specs.Prelude.{Some, None, false}
use Rattle.flow_discovery.specs.Flow.{falls_through, goes_on, table_of}
use Rattle.vax_form.specs.declared.pages.Pages.{Pages}
use Rattle.report_text.specs.Generated.{group_bytes, group_of}
use Rattle.report_text.proofs.GeneratedLaws.{each_kind}

-- the bytes spell an instruction at the address, which goes on behind itself
pub record Goes (at : ℕ) (bytes : List ℕ) : Type 0 where
  pub instr : Instr
  pub spells : Spells at bytes instr
  pub goes : (pages : Pages) → goes_on pages instr ≡ wrapped (at + length bytes) ∷ []

abbrev instr_of : (at opcode count size : ℕ) → List Operand → Instr
instr_of at opcode count size operands =
    record { at = at; opcode = opcode; count = count; operands = padded operands; after = wrapped (at + size) }

-- CHMK #code
pub service : (at code : ℕ) → code ≤ 63 → Goes at (0xBC ∷ code ∷ [])
unfolding operation_at integer_opcodes control_opcodes mixed_opcodes move_opcodes bit_opcodes operands_of goes_on falls_through fixed_targets jump_of jump_target call_of call_target table_of
service at code small =
    let one : List Operand = Value code ∷ [] in
    record {
      instr = instr_of at 0xBC 1 2 one;
      spells = record {
        opcode = 0xBC;
        types = (Read, Word) ∷ [];
        rest = code ∷ [];
        operands = one;
        is_opcode = refl;
        are_bytes = refl;
        are_operands = (code ∷ [], [], Value code, [], refl, refl, literal code (omega arith) refl refl refl, (refl, refl));
        is_instr = refl;
      };
      goes = λ pages. refl;
    }

-- MOVL Rm, Rn
pub move : (at m n : ℕ) → m ≤ 14 → n ≤ 14 → Goes at (0xD0 ∷ (0x50 + m) ∷ (0x50 + n) ∷ [])
unfolding operation_at integer_opcodes control_opcodes mixed_opcodes move_opcodes bit_opcodes operands_of goes_on falls_through fixed_targets jump_of jump_target call_of call_target table_of
move at m n small_m small_n =
    let two : List Operand = Register m ∷ Register n ∷ [] in
    record {
      instr = instr_of at 0xD0 2 3 two;
      spells = record {
        opcode = 0xD0;
        types = (Read, Long) ∷ (Write, Long) ∷ [];
        rest = (0x50 + m) ∷ (0x50 + n) ∷ [];
        operands = two;
        is_opcode = refl;
        are_bytes = refl;
        are_operands = (
          (0x50 + m) ∷ [],
          (0x50 + n) ∷ [],
          Register m,
          Register n ∷ [],
          refl,
          refl,
          register m (omega arith) (λ e. cc) refl refl,
          ((0x50 + n) ∷ [], [], Register n, [], refl, refl, register n (omega arith) (λ e. cc) refl refl, (refl, refl)),
        );
        is_instr = refl;
      };
      goes = λ pages. refl;
    }

-- an instruction with the operands #byte and R2
abbrev to_register : (at opcode byte : ℕ) → Instr
to_register at opcode byte = instr_of at opcode 2 4 (Value (number (byte ∷ [])) ∷ Register 2 ∷ [])

-- one that changes the second, and goes on behind itself
changes_register : (at opcode byte : ℕ) → operand_types opcode ≡ Some ((Read, Byte) ∷ (Modify, Byte) ∷ [])
    → ((pages : Pages) → goes_on pages (to_register at opcode byte) ≡ wrapped (at + 4) ∷ []) → Goes at (opcode ∷ 0x8F ∷ byte ∷ 0x52 ∷ [])
changes_register at opcode byte is goes = record {
  instr = to_register at opcode byte;
  spells = record {
    opcode = opcode;
    types = (Read, Byte) ∷ (Modify, Byte) ∷ [];
    rest = 0x8F ∷ byte ∷ 0x52 ∷ [];
    operands = Value (number (byte ∷ [])) ∷ Register 2 ∷ [];
    is_opcode = is;
    are_bytes = refl;
    are_operands = (
      0x8F ∷ byte ∷ [],
      0x52 ∷ [],
      Value (number (byte ∷ [])),
      Register 2 ∷ [],
      refl,
      refl,
      immediate (byte ∷ []) refl refl refl refl,
      (0x52 ∷ [], [], Register 2, [], refl, refl, register 2 (lit< tt) (λ e. cc) refl refl, (refl, refl)),
    );
    is_instr = refl;
  };
  goes = goes;
}

-- ADDB2 #byte, R2
add : (at byte : ℕ) → Goes at (0x80 ∷ 0x8F ∷ byte ∷ 0x52 ∷ [])
unfolding operation_at integer_opcodes control_opcodes mixed_opcodes move_opcodes bit_opcodes operands_of goes_on falls_through fixed_targets jump_of jump_target call_of call_target table_of
add at byte = changes_register at 0x80 byte refl (λ pages. refl)

-- XORB2 #byte, R2
exclusive_or : (at byte : ℕ) → Goes at (0x8C ∷ 0x8F ∷ byte ∷ 0x52 ∷ [])
unfolding operation_at integer_opcodes control_opcodes mixed_opcodes move_opcodes bit_opcodes operands_of goes_on falls_through fixed_targets jump_of jump_target call_of call_target table_of
exclusive_or at byte = changes_register at 0x8C byte refl (λ pages. refl)

-- ROTL #3, R2, R2
rotate : (at : ℕ) → Goes at (0x9C ∷ 0x03 ∷ 0x52 ∷ 0x52 ∷ [])
unfolding operation_at integer_opcodes control_opcodes mixed_opcodes move_opcodes bit_opcodes operands_of goes_on falls_through fixed_targets jump_of jump_target call_of call_target table_of
rotate at =
    let three : List Operand = Value 3 ∷ Register 2 ∷ Register 2 ∷ [] in
    record {
      instr = instr_of at 0x9C 3 4 three;
      spells = record {
        opcode = 0x9C;
        types = (Read, Byte) ∷ (Read, Long) ∷ (Write, Long) ∷ [];
        rest = 0x03 ∷ 0x52 ∷ 0x52 ∷ [];
        operands = three;
        is_opcode = refl;
        are_bytes = refl;
        are_operands = (
          0x03 ∷ [],
          0x52 ∷ 0x52 ∷ [],
          Value 3,
          Register 2 ∷ Register 2 ∷ [],
          refl,
          refl,
          literal 3 (lit< tt) refl refl refl,
          (
            0x52 ∷ [],
            0x52 ∷ [],
            Register 2,
            Register 2 ∷ [],
            refl,
            refl,
            register 2 (lit< tt) (λ e. cc) refl refl,
            (0x52 ∷ [], [], Register 2, [], refl, refl, register 2 (lit< tt) (λ e. cc) refl refl, (refl, refl)),
          ),
        );
        is_instr = refl;
      };
      goes = λ pages. refl;
    }

-- MOVB R2, place(R1)
store : (at address : ℕ) → Goes at (0x90 ∷ 0x52 ∷ 0xC1 ∷ to_le_bytes w16 address)
unfolding operation_at integer_opcodes control_opcodes mixed_opcodes move_opcodes bit_opcodes operands_of goes_on falls_through fixed_targets jump_of jump_target call_of call_target table_of
store at address =
    let word : List ℕ = to_le_bytes w16 address in
    let there : Operand = Place (Offset 1 (extended Word (number word)) false) None in
    let two : List Operand = Register 2 ∷ there ∷ [] in
    record {
      instr = instr_of at 0x90 2 5 two;
      spells = record {
        opcode = 0x90;
        types = (Read, Byte) ∷ (Write, Byte) ∷ [];
        rest = 0x52 ∷ 0xC1 ∷ word;
        operands = two;
        is_opcode = refl;
        are_bytes = refl;
        are_operands = (
          0x52 ∷ [],
          0xC1 ∷ word,
          Register 2,
          there ∷ [],
          refl,
          refl,
          register 2 (lit< tt) (λ e. cc) refl refl,
          (
            0xC1 ∷ word,
            [],
            there,
            [],
            refl,
            refl,
            place (Offset 1 (extended Word (number word)) false) (word_displacement 1 false word (lit< tt) refl refl refl) refl,
            (refl, refl),
          ),
        );
        is_instr = refl;
      };
      goes = λ pages. refl;
    }

pub group : (at x : ℕ) → Goes at (group_bytes (group_of x))
group at x = each_kind (Goes at) (add at) (exclusive_or at) (rotate at) (store at) x
