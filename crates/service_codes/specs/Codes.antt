-- The services by their codes, in figures.
-- VAX Architecture Reference Manual, "Operating System Support": CHMK, whose codes are this system's own.
use Rattle.std.specs.Prelude.{ℕ}

-- ends the thread with R0
abbrev pub EXIT : ℕ
EXIT = 1

-- puts out the low byte of R0
abbrev pub PUT : ℕ
PUT = 2

-- gets a byte of the input into R0
abbrev pub GET : ℕ
GET = 3

-- tells the thread's number in R0
abbrev pub THREAD : ℕ
THREAD = 4

-- exchanges R0 and the address of the thread's handler of exceptions
abbrev pub HANDLER : ℕ
HANDLER = 5

-- goes on as the frame at SP says
abbrev pub RESUME : ℕ
RESUME = 6
