-- Ra of the instruction that an opcode and a function find.
use Rattle.std.proofs.Common.{◌≡◌, ℕ, ◌<◌, ◌/◌, ◌%◌, ◌^◌, arith, refl, sym, ◌∙◌, Option, Some, None, lt-ltb}
use Rattle.std.specs.Prelude.{◌≢◌}
use Rattle.alpha_encode.specs.declared.instr.OperateOp.{OperateOp}
use Rattle.alpha_encode.specs.declared.instr.OperateOp.TheVariants as row
use Rattle.alpha_encode.specs.Rows.{operate_code, operate_at}
use Rattle.alpha_encode.specs.Words.{if_first}
use Rattle.alpha_encode.proofs.Rows.{operate_of_found}

-- with two operands it is any register
any_first : (ra : ℕ) (o : Option OperateOp) → ra < 32 → ((op : OperateOp) → o ≡ Some op → (operate_code op).0 ≢ 0x1c) → if_first ra o ≡ o
any_first ra None lt two = refl
any_first ra (Some row.Sextb) lt two = absurd (two row.Sextb refl refl)
any_first ra (Some row.Sextw) lt two = absurd (two row.Sextw refl refl)
any_first ra (Some op) lt two = rw (lt-ltb ra 32 lt) refl

pub two_operands : (ra opcode function : ℕ) → ra < 32 → opcode ≢ 0x1c → if_first ra (operate_at opcode function) ≡ operate_at opcode function
two_operands ra opcode function lt other =
    any_first ra (operate_at opcode function) lt (λ op e same. other (sym (operate_of_found opcode function op e).0 ∙ same))

-- the same of a word
pub of_word : (word opcode : ℕ) (o : Option OperateOp) → word / 2 ^ 26 ≡ opcode → opcode ≢ 0x1c → o ≡ operate_at opcode (word / 2 ^ 5 % 2 ^ 7) → o ≡ if_first (word / 2 ^ 21 % 2 ^ 5) (operate_at (word / 2 ^ 26) (word / 2 ^ 5 % 2 ^ 7))
of_word word opcode o e other found =
    rw e (found ∙ sym (two_operands (word / 2 ^ 21 % 2 ^ 5) opcode (word / 2 ^ 5 % 2 ^ 7) (omega arith) other))
