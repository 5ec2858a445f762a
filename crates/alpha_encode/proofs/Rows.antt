-- What holds of each row.
use Rattle.std.proofs.Common.{◌≡◌, ℕ, ◌+◌, ◌*◌, ◌/◌, ◌%◌, ◌^◌, ◌<◌, refl, List, [], ◌∷◌, Option, Some, None, Bool, true, false, cond, eqb, eqb-true, lit<, inl, inr, ⊎_elim, arith}
use Rattle.std.specs.Prelude.{◌⊎◌, ◌&&◌}
use Rattle.std.specs.List.{list_all}
use Rattle.std.specs.Map.{lookup}
use Rattle.std.proofs.lemmas.Bool.{and_parts}
use Rattle.alpha_encode.specs.declared.instr.MemoryOp.{MemoryOp}
use Rattle.alpha_encode.specs.declared.instr.MemoryOp.TheVariants.{Lda}
use Rattle.alpha_encode.specs.declared.instr.BranchOp.{BranchOp}
use Rattle.alpha_encode.specs.declared.instr.BranchOp.TheVariants.{Br}
use Rattle.alpha_encode.specs.declared.instr.OperateOp.{OperateOp}
use Rattle.alpha_encode.specs.declared.instr.OperateOp.TheVariants.{Addl}
use Rattle.alpha_encode.specs.Table.{memory_rows, branch_rows, operate_rows}
use Rattle.alpha_encode.specs.contracts.instr.OperateOpPartialEq.TheImpl.{ghosts as operate_op}
use Rattle.alpha_encode.specs.Rows.{row_at, code_of, memory_opcode, branch_opcode, operate_code, memory_at, branch_at, operate_at}

-- each row is found by its own opcode, and by no other format
pub record MemoryRow (op : MemoryOp) : Type 0 where
  pub found : memory_at (memory_opcode op) ≡ Some op
  pub below : memory_opcode op < 64

pub memory_row : (op : MemoryOp) → MemoryRow op
memory_row Lda = record { found = refl; below = lit< tt }
memory_row op = record { found = refl; below = lit< tt }

pub record BranchRow (op : BranchOp) : Type 0 where
  pub not_memory : memory_at (branch_opcode op) ≡ None
  pub found : branch_at (branch_opcode op) ≡ Some op
  pub below : branch_opcode op < 64

pub branch_row : (op : BranchOp) → BranchRow op
branch_row Br = record { not_memory = refl; found = refl; below = lit< tt }
branch_row op = record { not_memory = refl; found = refl; below = lit< tt }

pub record OperateRow (op : OperateOp) : Type 0 where
  pub not_memory : memory_at (operate_code op).0 ≡ None
  pub not_branch : branch_at (operate_code op).0 ≡ None
  pub found : operate_at (operate_code op).0 (operate_code op).1 ≡ Some op
  pub opcode_below : (operate_code op).0 < 64
  pub function_below : (operate_code op).1 < 128

pub operate_row : (op : OperateOp) → OperateRow op
operate_row Addl = record { not_memory = refl; not_branch = refl; found = refl; opcode_below = lit< tt; function_below = lit< tt }
operate_row op = record { not_memory = refl; not_branch = refl; found = refl; opcode_below = lit< tt; function_below = lit< tt }

-- which way a choice went
pub chosen : {A : Type 0} (b : Bool) (x a : A) (r : Option A) → cond b (Some x) r ≡ Some a → ((b ≡ true) × (x ≡ a)) ⊎ ((b ≡ false) × (r ≡ Some a))
chosen true x a r e = inl (refl, cc)
chosen false x a r e = inr (refl, e)

-- each row has the code that its instruction finds
abbrev pub has_codes : {A : Type 0} → (A → ℕ) → List (ℕ × A) → Bool
has_codes code_of rows = list_all (λ row. eqb (code_of row.1) row.0) rows

-- so the instruction that a test finds has a code that passes it
found_has : {A : Type 0} (code_of : A → ℕ) (test : ℕ → Bool) (rows : List (ℕ × A)) (op : A) → has_codes code_of rows ≡ true → lookup test rows ≡ Some op → test (code_of op) ≡ true
found_has code_of test [] op all e = cc
found_has code_of test (row ∷ rows) op all e =
    let parts = and_parts (eqb (code_of row.1) row.0) (has_codes code_of rows) all in
    ⊎_elim
    (λ (h : (test row.0 ≡ true) × (row.1 ≡ op)). let code = eqb-true (code_of row.1) row.0 parts.0 in cc)
    (λ (h : (test row.0 ≡ false) × (lookup test rows ≡ Some op)). found_has code_of test rows op parts.1 h.1)
    (chosen (test row.0) row.1 op (lookup test rows) e)

pub memory_of_found : (opcode : ℕ) (op : MemoryOp) → memory_at opcode ≡ Some op → memory_opcode op ≡ opcode
memory_of_found opcode op e = eqb-true (memory_opcode op) opcode (found_has memory_opcode (λ code. eqb code opcode) memory_rows op refl e)

pub branch_of_found : (opcode : ℕ) (op : BranchOp) → branch_at opcode ≡ Some op → branch_opcode op ≡ opcode
branch_of_found opcode op e = eqb-true (branch_opcode op) opcode (found_has branch_opcode (λ code. eqb code opcode) branch_rows op refl e)

pub operate_of_found : (opcode function : ℕ) (op : OperateOp) → operate_at opcode function ≡ Some op → ((operate_code op).0 ≡ opcode) × ((operate_code op).1 ≡ function)
operate_of_found opcode function op e =
    let both = and_parts _ _ (found_has (code_of operate_op.eq operate_rows) (λ code. eqb (code / 2 ^ 8) opcode && eqb (code % 2 ^ 8) function) operate_rows op refl e) in
    (eqb-true (operate_code op).0 opcode both.0, eqb-true (operate_code op).1 function both.1)

-- an opcode and a function are one code
one_code : (code opcode function : ℕ) → function < 2 ^ 8 → eqb code (opcode * 2 ^ 8 + function) ≡ (eqb (code / 2 ^ 8) opcode && eqb (code % 2 ^ 8) function)
one_code code opcode function below = grind arith

by_code : {A : Type 0} (rows : List (ℕ × A)) (opcode function : ℕ) → function < 2 ^ 8 → row_at rows (opcode * 2 ^ 8 + function) ≡ lookup (λ code. eqb (code / 2 ^ 8) opcode && eqb (code % 2 ^ 8) function) rows
by_code [] opcode function below = refl
by_code (row ∷ rows) opcode function below = rw (one_code row.0 opcode function below, by_code rows opcode function below) refl

pub operate_by_code : (opcode function : ℕ) → function < 2 ^ 8 → row_at operate_rows (opcode * 2 ^ 8 + function) ≡ operate_at opcode function
operate_by_code = by_code operate_rows
