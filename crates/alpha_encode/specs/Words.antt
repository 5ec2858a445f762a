-- The words of Alpha instructions.
-- Alpha Architecture Reference Manual, chapter "Instruction Formats": bit 31 is the highest.
use Rattle.std.specs.Prelude.{ℕ, ℤ, Bool, pos, negsuc, ◌≡◌, ◌+◌, ◌-◌, ◌*◌, ◌/◌, ◌%◌, ◌^◌, ◌<◌, ◌≤◌, ◌<ℤ◌, ◌≤ℤ◌, ◌==◌, nat_lt, nat_le, Option, Some, None, if◌then◌else◌, ◌&&◌, FitsSigned}
use Rattle.std.specs.Int.{cast_unsigned, cast_signed, w16, w32}
use Rattle.std.specs.Option.{option_or}
use Rattle.alpha_encode.specs.declared.instr.OperateOp.{OperateOp}
use Rattle.alpha_encode.specs.declared.instr.OperateOp.TheVariants as row
use Rattle.alpha_encode.specs.declared.instr.Second.{Second}
use Rattle.alpha_encode.specs.declared.instr.Second.TheVariants.{Register, Literal}
use Rattle.alpha_encode.specs.declared.instr.AlphaInstr.{AlphaInstr}
use Rattle.alpha_encode.specs.declared.instr.AlphaInstr.TheVariants.{Memory, Branch, Operate, Jump, Pal}
use Rattle.alpha_encode.specs.Calls.{PROBE, SWITCH}
use Rattle.alpha_encode.specs.Rows.{memory_opcode, memory_at, branch_opcode, branch_at, operate_code, operate_at}

-- ---- from an instruction to its word

-- Operate format, bits 20:12: register Rb, then three bits that should be zero and a 0; or the literal and a 1.
abbrev pub second_field : Second → ℕ
second_field (Register r) = r * 2 ^ 4
second_field (Literal n) = n * 2 + 1

-- The fields of each format, from the opcode in bits 31:26 down.
-- Memory format: Ra in 25:21, Rb in 20:16, displacement in 15:0.
-- Branch format: Ra, displacement in 20:0.
-- Operate format: Ra, Rb or a literal in 20:12, function in 11:5, Rc in 4:0.
-- Memory format jumps, here JMP alone with no hint: opcode 1A, Ra, Rb, zeros in 15:0.
-- PALcode format: opcode 00, the number in 25:0.
abbrev pub word_of : AlphaInstr → ℕ
word_of (Memory op ra rb disp) = memory_opcode op * 2 ^ 26 + ra * 2 ^ 21 + rb * 2 ^ 16 + cast_unsigned w16 disp
word_of (Branch op ra disp) = branch_opcode op * 2 ^ 26 + ra * 2 ^ 21 + cast_unsigned w32 disp % 2 ^ 21
word_of (Operate op ra rb rc) = (operate_code op).0 * 2 ^ 26 + ra * 2 ^ 21 + second_field rb * 2 ^ 12 + (operate_code op).1 * 2 ^ 5 + rc
word_of (Jump ra rb) = 0x1a * 2 ^ 26 + ra * 2 ^ 21 + rb * 2 ^ 16
word_of (Pal n) = n

-- A register's number has five bits, a literal eight.
abbrev pub IsSecond : Second → Type 0
IsSecond (Register r) = r < 32
IsSecond (Literal n) = n < 256

-- Ra of the operate format: a register, and R31 where the instruction has one operand, Rb.
abbrev pub is_first : OperateOp → ℕ → Bool
is_first row.Sextb ra = ra == 31
is_first row.Sextw ra = ra == 31
is_first op ra = nat_lt ra 32

abbrev pub IsFirst : OperateOp → ℕ → Type 0
IsFirst row.Sextb ra = ra ≡ 31
IsFirst row.Sextw ra = ra ≡ 31
IsFirst op ra = ra < 32

-- The instructions that have a word: numbers fit their fields, displacements are signed.
-- The PALcode entries in use are 80 to 86.
abbrev pub IsEncodable : AlphaInstr → Type 0
IsEncodable (Memory op ra rb disp) = (ra < 32) × (rb < 32) × FitsSigned w16 disp
IsEncodable (Branch op ra disp) = (ra < 32) × (negsuc (2 ^ 20 - 1) ≤ℤ disp) × (disp <ℤ pos (2 ^ 20))
IsEncodable (Operate op ra rb rc) = IsFirst op ra × IsSecond rb × (rc < 32)
IsEncodable (Jump ra rb) = (ra < 32) × (rb < 32)
IsEncodable (Pal n) = (PROBE ≤ n) × (n ≤ SWITCH)

-- A word spells an instruction: the instruction has a word, and it is this one.
abbrev pub Spells : ℕ → AlphaInstr → Type 0
Spells word i = IsEncodable i × (word_of i ≡ word)

-- ---- from a word to its instruction

-- bits 20:12 of the operate format
abbrev pub second_at : ℕ → Option Second
second_at field =
    if field % 2 == 1 then Some (Literal (field / 2)) else if field % 2 ^ 4 == 0 then Some (Register (field / 2 ^ 4)) else None

-- 21 bits as a signed number
abbrev pub signed_21 : ℕ → ℤ
signed_21 n = cast_signed w32 (if nat_lt n (2 ^ 20) then n else n + (2 ^ 32 - 2 ^ 21))

abbrev pub with_some : {A B : Type 0} → Option A → (A → B) → Option B
with_some None f = None
with_some (Some a) f = Some (f a)

abbrev pub with_both : {A B C : Type 0} → Option A → Option B → (A → B → C) → Option C
with_both None b f = None
with_both (Some a) None f = None
with_both (Some a) (Some b) f = Some (f a b)

-- where Ra is one that the instruction may have
abbrev pub if_first : (ra : ℕ) → Option OperateOp → Option OperateOp
if_first ra None = None
if_first ra (Some op) = if is_first op ra then Some op else None

-- JMP, and the PALcode entries
abbrev pub jump_at : ℕ → Option AlphaInstr
jump_at word = if word / 2 ^ 26 == 0x1a && word % 2 ^ 16 == 0 then Some (Jump (word / 2 ^ 21 % 2 ^ 5) (word / 2 ^ 16 % 2 ^ 5)) else None

abbrev pub pal_at : ℕ → Option AlphaInstr
pal_at word = if nat_le PROBE word && nat_le word SWITCH then Some (Pal word) else None

-- The instruction that a word spells: its fields, by the format that has its opcode.
abbrev pub instr_at : ℕ → Option AlphaInstr
instr_at word =
    let opcode = word / 2 ^ 26 in
    let ra = word / 2 ^ 21 % 2 ^ 5 in
    let rb = word / 2 ^ 16 % 2 ^ 5 in
    option_or (with_some (memory_at opcode) (λ op. Memory op ra rb (cast_signed w16 (word % 2 ^ 16))))
    (option_or (with_some (branch_at opcode) (λ op. Branch op ra (signed_21 (word % 2 ^ 21))))
    (option_or (with_both (if_first ra (operate_at opcode (word / 2 ^ 5 % 2 ^ 7))) (second_at (word / 2 ^ 12 % 2 ^ 9)) (λ op rb. Operate op ra rb (word % 2 ^ 5)))
    (option_or (jump_at word) (pal_at word))))
