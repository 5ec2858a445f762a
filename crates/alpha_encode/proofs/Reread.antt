-- From an instruction to its word and back.
use Rattle.std.proofs.Common.{◌≡◌, ℕ, ◌+◌, ◌-◌, ◌*◌, ◌/◌, ◌%◌, ◌^◌, ◌<◌, ◌≤◌, refl, arith, Some, true, le-leb, lt-ltb}
use Rattle.std.specs.Prelude.{ℤ, pos, negsuc, ◌<ℤ◌, ◌≤ℤ◌, FitsSigned}
use Rattle.std.specs.Int.{cast_unsigned, cast_signed, w16, w32}
use Rattle.std.proofs.lemmas.Int.{to_z-of_z, ints}
use Rattle.alpha_encode.specs.declared.instr.MemoryOp.{MemoryOp}
use Rattle.alpha_encode.specs.declared.instr.BranchOp.{BranchOp}
use Rattle.alpha_encode.specs.declared.instr.OperateOp.{OperateOp}
use Rattle.alpha_encode.specs.declared.instr.Second.{Second}
use Rattle.alpha_encode.specs.declared.instr.Second.TheVariants.{Register, Literal}
use Rattle.alpha_encode.specs.declared.instr.AlphaInstr.{AlphaInstr}
use Rattle.alpha_encode.specs.declared.instr.AlphaInstr.TheVariants.{Memory, Branch, Operate, Jump, Pal}
use Rattle.alpha_encode.specs.Rows.{memory_opcode, branch_opcode, operate_code}
use Rattle.alpha_encode.specs.declared.instr.OperateOp.TheVariants as row
use Rattle.alpha_encode.specs.Words.{IsFirst, is_first, IsEncodable, IsSecond, word_of, instr_at, second_at, second_field, signed_21}
use Rattle.alpha_encode.proofs.Rows.{memory_row, branch_row, operate_row}

memory_again : (w : ℕ) (op : MemoryOp) (ra rb : ℕ) (d : ℤ) → w / 2 ^ 26 ≡ memory_opcode op → w / 2 ^ 21 % 32 ≡ ra → w / 2 ^ 16 % 32 ≡ rb → cast_signed w16 (w % 2 ^ 16) ≡ d → instr_at w ≡ Some (Memory op ra rb d)
memory_again w op ra rb d e1 e2 e3 e4 = rw (e1, (memory_row op).found, e2, e3, e4) refl

branch_again : (w : ℕ) (op : BranchOp) (ra : ℕ) (d : ℤ) → w / 2 ^ 26 ≡ branch_opcode op → w / 2 ^ 21 % 32 ≡ ra → signed_21 (w % 2 ^ 21) ≡ d → instr_at w ≡ Some (Branch op ra d)
branch_again w op ra d e1 e2 e3 = rw (e1, (branch_row op).not_memory, (branch_row op).found, e2, e3) refl

-- the same as a test
is_first_of : (op : OperateOp) (ra : ℕ) → IsFirst op ra → is_first op ra ≡ true
is_first_of row.Sextb ra h = rw h refl
is_first_of row.Sextw ra h = rw h refl
is_first_of op ra h = lt-ltb ra 32 h

-- a register
pub first_below : (op : OperateOp) (ra : ℕ) → IsFirst op ra → ra < 32
first_below row.Sextb ra h = omega arith
first_below row.Sextw ra h = omega arith
first_below op ra h = h

operate_again : (w : ℕ) (op : OperateOp) (ra : ℕ) (rb : Second) (rc : ℕ) → IsFirst op ra → w / 2 ^ 26 ≡ (operate_code op).0 → w / 2 ^ 21 % 32 ≡ ra → w / 2 ^ 5 % 128 ≡ (operate_code op).1 → second_at (w / 2 ^ 12 % 512) ≡ Some rb → w % 32 ≡ rc → instr_at w ≡ Some (Operate op ra rb rc)
operate_again w op ra rb rc first e1 e2 e3 e4 e5 =
    rw (e1, (operate_row op).not_memory, (operate_row op).not_branch, e3, (operate_row op).found, e2, is_first_of op ra first, e4, e5) refl

second_again : (rb : Second) → IsSecond rb → (second_at (second_field rb) ≡ Some rb) × (second_field rb < 512)
second_again (Register r) h =
    let odd : (r * 16) % 2 ≡ 0 = omega arith in
    let zeros : (r * 16) % 16 ≡ 0 = omega arith in
    let it : (r * 16) / 16 ≡ r = omega arith in
    (rw (odd, zeros, it) refl, omega arith)
second_again (Literal n) h =
    let odd : (n * 2 + 1) % 2 ≡ 1 = omega arith in
    let it : (n * 2 + 1) / 2 ≡ n = omega arith in
    (rw (odd, it) refl, omega arith)

u16_of : (d : ℤ) → FitsSigned w16 d → (cast_unsigned w16 d < 2 ^ 16) × (cast_signed w16 (cast_unsigned w16 d) ≡ d)
u16_of (pos n) h = let e = h.sfits in (omega arith, to_z-of_z w16 (pos n) h)
u16_of (negsuc n) h = let e = h.sfits in (omega arith, to_z-of_z w16 (negsuc n) h)

-- 21 bits hold a displacement of 21 signed bits
signed_21_of : (d : ℤ) → negsuc (2 ^ 20 - 1) ≤ℤ d → d <ℤ pos (2 ^ 20) → signed_21 (cast_unsigned w32 d % 2 ^ 21) ≡ d
signed_21_of (pos n) low high = grind (arith, ints)
signed_21_of (negsuc n) low high = grind (arith, ints)

jump_again : (w ra rb : ℕ) → w / 2 ^ 26 ≡ 0x1a → w % 2 ^ 16 ≡ 0 → w / 2 ^ 21 % 32 ≡ ra → w / 2 ^ 16 % 32 ≡ rb → instr_at w ≡ Some (Jump ra rb)
jump_again w ra rb e1 e2 e3 e4 = rw (e1, e2, e3, e4) refl

pal_again : (n : ℕ) → 0x80 ≤ n → n ≤ 0x86 → instr_at n ≡ Some (Pal n)
pal_again n low high =
    let opcode : n / 2 ^ 26 ≡ 0 = omega arith in
    rw (opcode, le-leb 0x80 n low, le-leb n 0x86 high) refl

pub again : (i : AlphaInstr) → IsEncodable i → instr_at (word_of i) ≡ Some i
again (Memory op ra rb d) h =
    let r = memory_row op in
    let u = u16_of d h.2 in
    let m = r.below in let u0 = u.0 in let ha = h.0 in let hb = h.1 in
    let low : word_of (Memory op ra rb d) % 2 ^ 16 ≡ cast_unsigned w16 d = omega arith in
    memory_again (word_of (Memory op ra rb d)) op ra rb d (omega arith) (omega arith) (omega arith) (rw low u.1)
again (Branch op ra d) h =
    let m = (branch_row op).below in let ha = h.0 in
    let low : word_of (Branch op ra d) % 2 ^ 21 ≡ cast_unsigned w32 d % 2 ^ 21 = omega arith in
    branch_again (word_of (Branch op ra d)) op ra d (omega arith) (omega arith) (rw low (signed_21_of d h.1 h.2))
again (Operate op ra rb rc) h =
    let r = operate_row op in
    let m = r.opcode_below in let f = r.function_below in let ha = first_below op ra h.0 in let hc = h.2 in
    let s = second_again rb h.1 in let s1 = s.1 in
    let w = word_of (Operate op ra rb rc) in
    let field : w / 2 ^ 12 % 512 ≡ second_field rb = omega arith in
    operate_again w op ra rb rc h.0 (omega arith) (omega arith) (omega arith) (rw field s.0) (omega arith)
again (Jump ra rb) h =
    let ha = h.0 in let hb = h.1 in
    jump_again (word_of (Jump ra rb)) ra rb (omega arith) (omega arith) (omega arith) (omega arith)
again (Pal n) h = pal_again n h.0 h.1
