-- The words that make condition codes, and those that keep the operands of a rule.
-- Alpha Architecture Reference Manual, 4.4 "Integer Arithmetic Instructions", 4.5 "Logical and Shift Instructions".
use Rattle.std.specs.Prelude.{ℕ, ◌+◌, ◌-◌, ◌&&◌, not, if◌then◌else◌, Bool, List, [], ◌∷◌, ◌++◌}
use Rattle.vax_form.specs.declared.instr.Size.{Size}
use Rattle.vax_form.specs.declared.state.Flags.{Flags}
use Rattle.micro_ops.specs.Values.{bits_of}
use Rattle.micro_ops.specs.declared.codes.CodeSource.{CodeSource}
use Rattle.micro_ops.specs.declared.codes.CodeSource.TheVariants.{Kept, Zero, Result, Add, Sub, Compare, Computed, Psw}
use Rattle.micro_ops.specs.declared.codes.CodeSources.{CodeSources}
use Rattle.alpha_encode.specs.declared.instr.OperateOp.TheVariants as row
use Rattle.alpha_encode.specs.declared.instr.Second.TheVariants.{Register, Literal}
use Rattle.alpha_encode.specs.declared.instr.AlphaInstr.{AlphaInstr}
use Rattle.alpha_encode.specs.declared.instr.AlphaInstr.TheVariants.{Operate}
use Rattle.alpha_encode.specs.Registers.{CARRY_FIRST, NEGATIVE, IS_ZERO, OVERFLOW, CARRY, TEMPORARIES, RULE_FIRST, RULE_SECOND, CARRY_SECOND, ZERO}
use Rattle.compute_sequences.specs.Words.{raise}
use Rattle.flag_codegen.specs.Made.{is_made}

-- ---- registers
-- R16 to R19 are the codes; R21 to R25 hold the temporaries 0 to 4
abbrev pub negative : ℕ
negative = NEGATIVE

abbrev pub zero_code : ℕ
zero_code = IS_ZERO

abbrev pub overflow : ℕ
overflow = OVERFLOW

abbrev pub carry : ℕ
carry = CARRY

abbrev pub first : ℕ
first = TEMPORARIES

abbrev pub second : ℕ
second = TEMPORARIES + 1

abbrev pub result : ℕ
result = TEMPORARIES + 2

-- what is computed where there is no rule, and else scratch
abbrev pub computed_overflow : ℕ
computed_overflow = TEMPORARIES + 3

abbrev pub computed_carry : ℕ
computed_carry = TEMPORARIES + 4

-- R31 reads zero
abbrev pub nothing : ℕ
nothing = ZERO

-- ---- instructions
abbrev pub move : (from to : ℕ) → AlphaInstr
move from to = Operate row.Bis nothing (Register from) to

abbrev pub clear : (to : ℕ) → AlphaInstr
clear to = move nothing to

-- the sign of a zero-extended number
abbrev pub sign : Size → (from to : ℕ) → AlphaInstr
sign size from to = Operate row.Srl from (Literal (bits_of size - 1)) to

abbrev pub bit_words : (place to : ℕ) → List AlphaInstr
bit_words place to = Operate row.Srl result (Literal place) to ∷ Operate row.And to (Literal 1) to ∷ []

-- whether one number is less than another, with their signs
abbrev pub less_words : Size → (a b to : ℕ) → List AlphaInstr
less_words size a b to = raise size a computed_overflow ∷ raise size b computed_carry ∷ Operate row.Cmplt computed_overflow (Register computed_carry) to ∷ []

-- A sum is less than its first operand exactly where the second is negative, unless it overflows; the first operand is less
-- than the second exactly where their difference is negative, unless that overflows.
abbrev pub unlike_words : Size → (a b negative to : ℕ) → List AlphaInstr
unlike_words size a b negative to =
    less_words size a b computed_overflow ++ (sign size negative computed_carry ∷ Operate row.Xor computed_overflow (Register computed_carry) to ∷ [])

-- ---- each code
abbrev pub negative_words : CodeSource → List AlphaInstr
negative_words Kept = []
negative_words Zero = clear negative ∷ []
negative_words (Result size) = sign size result negative ∷ []
negative_words (Add size) = sign size result negative ∷ []
negative_words (Sub size) = sign size result negative ∷ []
negative_words (Compare size) = less_words size first second negative
negative_words (Computed size) = sign size result negative ∷ []
negative_words Psw = bit_words 3 negative

abbrev pub zero_words : CodeSource → List AlphaInstr
zero_words Kept = []
zero_words Zero = clear zero_code ∷ []
zero_words (Result size) = Operate row.Cmpeq result (Literal 0) zero_code ∷ []
zero_words (Add size) = Operate row.Cmpeq result (Literal 0) zero_code ∷ []
zero_words (Sub size) = Operate row.Cmpeq result (Literal 0) zero_code ∷ []
zero_words (Compare size) = Operate row.Cmpeq first (Register second) zero_code ∷ []
zero_words (Computed size) = Operate row.Cmpeq result (Literal 0) zero_code ∷ []
zero_words Psw = bit_words 2 zero_code

abbrev pub overflow_words : CodeSource → List AlphaInstr
overflow_words Kept = []
overflow_words Zero = clear overflow ∷ []
overflow_words (Result size) = clear overflow ∷ []
overflow_words (Add size) = unlike_words size result first second overflow
overflow_words (Sub size) = unlike_words size first second result overflow
overflow_words (Compare size) = clear overflow ∷ []
overflow_words (Computed size) = move computed_overflow overflow ∷ []
overflow_words Psw = bit_words 1 overflow

-- a sum is below its first operand exactly where there is a carry out of it
abbrev pub carry_words : CodeSource → List AlphaInstr
carry_words Kept = []
carry_words Zero = clear carry ∷ []
carry_words (Result size) = clear carry ∷ []
carry_words (Add size) = Operate row.Cmpult result (Register first) carry ∷ []
carry_words (Sub size) = Operate row.Cmpult first (Register second) carry ∷ []
carry_words (Compare size) = Operate row.Cmpult first (Register second) carry ∷ []
carry_words (Computed size) = move computed_carry carry ∷ []
carry_words Psw = Operate row.And result (Literal 1) carry ∷ []

-- ---- operands
abbrev pub operand_words : CodeSource → (first_kept second_kept : ℕ) → List AlphaInstr
operand_words Kept a b = []
operand_words Zero a b = []
operand_words (Result size) a b = move result a ∷ []
operand_words (Add size) a b = move first a ∷ move second b ∷ []
operand_words (Sub size) a b = move first a ∷ move second b ∷ []
operand_words (Compare size) a b = move first a ∷ move second b ∷ []
operand_words (Computed size) a b = []
operand_words Psw a b = []

-- ---- the whole
abbrev pub when : Bool → List AlphaInstr → List AlphaInstr
when b words = if b then words else []

-- C: its rule's operands in R15 and R30 where it isn't live, else its register
abbrev pub carry_code : CodeSource → (live : Bool) → List AlphaInstr
carry_code source live = when (not live) (operand_words source CARRY_FIRST CARRY_SECOND) ++ when (is_made source live) (carry_words source)

abbrev pub all_live : Flags → Bool
all_live live = live.n && live.z && live.v

-- N, Z and V: their rule's operands in R28 and R29 where some isn't live, and the registers of those that are made
abbrev pub signs_code : CodeSource → (live : Flags) → List AlphaInstr
signs_code source live =
    when (not (all_live live)) (operand_words source RULE_FIRST RULE_SECOND)
    ++ (when (is_made source live.v) (overflow_words source)
    ++ (when (is_made source live.n) (negative_words source) ++ when (is_made source live.z) (zero_words source)))

abbrev pub code_words : CodeSources → (live : Flags) → List AlphaInstr
code_words sources live = carry_code sources.c live.c ++ signs_code sources.nzv live
