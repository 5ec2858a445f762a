-- The PALcode calls of translated code by their numbers, in figures.
-- Alpha Architecture Reference Manual, "PALcode instruction format"; the numbers, from 80 on, are this system's own.
use Rattle.std.specs.Prelude.{ℕ}

-- checks the operand at the address in ADDRESS
abbrev pub PROBE : ℕ
PROBE = 0x80

-- retires, and goes on at the VAX address in TARGET
abbrev pub LOOK_UP : ℕ
LOOK_UP = 0x81

-- the service whose code is in the first temporary
abbrev pub SERVE : ℕ
SERVE = 0x82

-- raises the fault of its point
abbrev pub RAISE : ℕ
RAISE = 0x83

-- retires, and raises arithmetic of the type in the first temporary
abbrev pub TRAP : ℕ
TRAP = 0x84

-- leaves the block's instruction to the interpreter
abbrev pub INTERPRET : ℕ
INTERPRET = 0x85

-- retires, and goes on in the interpreter at the VAX address in TARGET
abbrev pub SWITCH : ℕ
SWITCH = 0x86
