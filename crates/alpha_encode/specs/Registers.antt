-- What the Alpha registers hold in translated code, in figures. R0 to R14 are the VAX registers, as sign-extended
-- longwords.
use Rattle.std.specs.Prelude.{ℕ}

-- the first operand of the rule of C
abbrev pub CARRY_FIRST : ℕ
CARRY_FIRST = 15

-- the condition codes N, Z, V and C, as 0 or 1
abbrev pub NEGATIVE : ℕ
NEGATIVE = 16

abbrev pub IS_ZERO : ℕ
IS_ZERO = 17

abbrev pub OVERFLOW : ℕ
OVERFLOW = 18

abbrev pub CARRY : ℕ
CARRY = 19

-- bits 7:4 of the processor status word, in place
abbrev pub STATUS : ℕ
STATUS = 20

-- the first of the temporaries, which go up to TARGET
abbrev pub TEMPORARIES : ℕ
TEMPORARIES = 21

-- a VAX address to go on at; inside a block a temporary
abbrev pub TARGET : ℕ
TARGET = 26

-- a VAX address to be probed; else scratch
abbrev pub ADDRESS : ℕ
ADDRESS = 27

-- the operands of the rule of N, Z and V
abbrev pub RULE_FIRST : ℕ
RULE_FIRST = 28

abbrev pub RULE_SECOND : ℕ
RULE_SECOND = 29

-- the second operand of the rule of C
abbrev pub CARRY_SECOND : ℕ
CARRY_SECOND = 30

-- reads zero, and is not written
abbrev pub ZERO : ℕ
ZERO = 31
