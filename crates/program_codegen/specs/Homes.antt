-- Where the temporaries of a program stand, and the words of its computations. An operand that is a VAX register has no copy.
use Rattle.std.specs.Prelude.{◌≡◌, ℕ, ◌-◌, ◌<◌, ◌≤◌, ◌==◌, ◌&&◌, ◌||◌, not, nat_lt, Bool, true, false, List, [], ◌∷◌, ◌++◌, Option, Some, None, option_map, if◌then◌else◌}
use Rattle.vax_form.specs.declared.instr.Size.{Size}
use Rattle.vax_form.specs.declared.instr.Size.TheVariants.{Long}
use Rattle.alpha_encode.specs.declared.instr.AlphaInstr.{AlphaInstr}
use Rattle.alpha_encode.specs.declared.instr.AlphaInstr.TheVariants.{Operate}
use Rattle.alpha_encode.specs.declared.instr.OperateOp.{OperateOp}
use Rattle.alpha_encode.specs.declared.instr.OperateOp.TheVariants as row
use Rattle.alpha_encode.specs.declared.instr.Second.{Second}
use Rattle.alpha_encode.specs.declared.instr.Second.TheVariants as seconds
use Rattle.alpha_encode.specs.Registers.{TEMPORARIES, ZERO}
use Rattle.micro_ops.specs.Uses.{is_quad}
use Rattle.micro_ops.specs.declared.program.Arg.{Arg}
use Rattle.micro_ops.specs.declared.program.Arg.TheVariants as arguments
use Rattle.micro_ops.specs.declared.program.MicroOp.{MicroOp}
use Rattle.micro_ops.specs.declared.program.MicroOp.TheVariants.{Add, Sub, And, Or, Xor, AndNot, Equal, Less, LessUnsigned}
use Rattle.compute_sequences.specs.Words.{compute_code, is_constant, is_moved, is_short}
use Rattle.program_codegen.specs.declared.homes.Homes.{Homes}
use Rattle.program_codegen.specs.Words.{holder}

-- ---- homes
-- Temporaries 0 to 3 may be the low longword of a register that is extended with its sign: of a VAX register, or of one of
-- their own. All others stand in their own registers, exactly. The last two words may wait.
abbrev pub no_homes : Homes
no_homes = record { first = None; second = None; result = None; place = None; before = None; waiting = None }

abbrev pub home_of : Homes → (temp : ℕ) → Option ℕ
home_of homes temp =
    if temp == 0 then homes.first else if temp == 1 then homes.second else if temp == 2 then homes.result
    else if temp == 3 then homes.place else None

abbrev pub with_home : (temp : ℕ) → Option ℕ → Homes → Homes
with_home temp home homes =
    if temp == 0 then record homes { first = home } else if temp == 1 then record homes { second = home }
    else if temp == 2 then record homes { result = home } else if temp == 3 then record homes { place = home } else homes

-- the home of the temporary, of those that the words for the codes read, that has this register
abbrev pub home_at : Homes → (register : ℕ) → Option ℕ
home_at homes register =
    if register == holder 0 then homes.first else if register == holder 1 then homes.second
    else if register == holder 2 then homes.result else None

abbrev pub stands_in : Option ℕ → (register : ℕ) → Bool
stands_in None register = false
stands_in (Some home) register = home == register

-- R0 to R14: the registers of the VAX
abbrev pub is_vax : (register : ℕ) → Bool
is_vax register = nat_lt register 15

-- R21 to R26: those of the temporaries
abbrev pub is_temporary : (register : ℕ) → Bool
is_temporary register = nat_lt 20 register && nat_lt register 27

-- a register of the VAX, or R21 to R24, one of temporaries 0 to 3
abbrev pub IsHome : Option ℕ → Type 0
IsHome None = Unit {0}
IsHome (Some register) = (register < 25) × (is_vax register ≡ false → 21 ≤ register)

abbrev pub AreHomes : Homes → Type 0
AreHomes homes = IsHome homes.first × IsHome homes.second × IsHome homes.result × IsHome homes.place

-- one that outlasts the words for the codes, which write R24 and R25, the registers of temporaries 3 and 4
abbrev pub IsLasting : Option ℕ → Type 0
IsLasting None = Unit {0}
IsLasting (Some register) = (register < 24) × (is_vax register ≡ false → 21 ≤ register)

abbrev pub AreLasting : Homes → Type 0
AreLasting homes = IsLasting homes.first × IsLasting homes.second × IsLasting homes.result

-- another temporary stands in this one's register
abbrev pub is_shared : Homes → (temp : ℕ) → Bool
is_shared homes temp =
    (not (temp == 0) && stands_in homes.first (holder temp))
    || (not (temp == 1) && stands_in homes.second (holder temp))
    || (not (temp == 2) && stands_in homes.result (holder temp))
    || (not (temp == 3) && stands_in homes.place (holder temp))

-- ---- computations
-- the argument that a register holds
abbrev pub argument_in : (register : ℕ) → Arg
argument_in register = if is_vax register then arguments.Register register else arguments.Temp (register - TEMPORARIES)

abbrev pub standing_in : Option ℕ → (temp : ℕ) → Arg
standing_in None temp = arguments.Temp temp
standing_in (Some register) temp = argument_in register

-- an argument, from where it stands
abbrev pub placed : Homes → Arg → Arg
placed homes (arguments.Temp temp) = standing_in (home_of homes temp) temp
placed homes arg = arg

-- the sign-extended register whose low longword the argument is
abbrev pub extended_register : Homes → Arg → Option ℕ
extended_register homes (arguments.Register number) = Some number
extended_register homes (arguments.Temp temp) = home_of homes temp
extended_register homes arg = None

-- the same as a second argument, or a constant that is a literal
abbrev pub extended_second : Homes → Arg → Option Second
extended_second homes (arguments.Const value) = if nat_lt value 256 then Some (seconds.Literal value) else None
extended_second homes arg = option_map seconds.Register (extended_register homes arg)

-- the same as a first argument, or 0, which R31 reads
abbrev pub extended_first : Homes → Arg → Option ℕ
extended_first homes (arguments.Const value) = if value == 0 then Some ZERO else None
extended_first homes arg = extended_register homes arg

-- an operation on sign-extended longwords that gives one
abbrev pub long_operation : MicroOp → Option OperateOp
long_operation Add = Some row.Addl
long_operation Sub = Some row.Subl
long_operation And = Some row.And
long_operation Or = Some row.Bis
long_operation Xor = Some row.Xor
long_operation AndNot = Some row.Bic
long_operation op = None

-- they compare as longwords do
abbrev pub comparison : MicroOp → Option OperateOp
comparison Equal = Some row.Cmpeq
comparison Less = Some row.Cmplt
comparison LessUnsigned = Some row.Cmpult
comparison op = None

abbrev pub joined_word : Option OperateOp → Option ℕ → Option Second → (to : ℕ) → Option AlphaInstr
joined_word (Some op) (Some first) (Some second) to = Some (Operate op first second to)
joined_word op first second to = None

abbrev pub one_word : Option OperateOp → Homes → Size → (a b : Arg) → (to : ℕ) → Option AlphaInstr
one_word op homes Long a b to = joined_word op (extended_first homes a) (extended_second homes b) to
one_word op homes size a b to = None

-- What a computation does: it copies, and has no words; it has one word, whose result is extended with its sign, or which
-- compares; it is a short constant; or else.
abbrev pub is_copying : MicroOp → Size → Bool
is_copying op Long = is_moved op
is_copying op size = false

abbrev pub copied : Homes → (to : ℕ) → MicroOp → Size → (a : Arg) → Option ℕ
copied homes to op size a = if nat_lt to 4 && is_copying op size then extended_register homes a else None

-- a logical operation on longwords gives the same as one on quadwords
abbrev pub is_logical : MicroOp → Bool
is_logical And = true
is_logical Or = true
is_logical Xor = true
is_logical AndNot = true
is_logical op = false

abbrev pub made_size : MicroOp → Size → Size
made_size op size = if is_quad size && is_logical op then Long else size

-- a constant that is a literal has one word, too, of whatever size
abbrev pub literal_word : (to : ℕ) → Arg → Option AlphaInstr
literal_word to (arguments.Const value) = if nat_lt value 256 then Some (Operate row.Bis ZERO (seconds.Literal value) to) else None
literal_word to arg = None

-- a sum or a difference, which may be an address
abbrev pub sum_operation : MicroOp → Option OperateOp
sum_operation Add = Some row.Addl
sum_operation Sub = Some row.Subl
sum_operation op = None

-- what one word makes in a temporary: each result in temporary 2, and in others sums
abbrev pub made_operation : (to : ℕ) → MicroOp → Option OperateOp
made_operation to op = if to == 2 then long_operation op else sum_operation op

abbrev pub made : Homes → (to : ℕ) → MicroOp → Size → (a b : Arg) → Option AlphaInstr
made homes to op size a b =
    if nat_lt to 3 && is_moved op then literal_word (holder to) a
    else if nat_lt to 4 then one_word (made_operation to op) homes (made_size op size) a b (holder to) else None

abbrev pub compared : Homes → (to : ℕ) → MicroOp → Size → (a b : Arg) → Option AlphaInstr
compared homes to op size a b = one_word (comparison op) homes size a b (holder to)

abbrev pub is_short_constant : (to : ℕ) → MicroOp → Size → (a : Arg) → Bool
is_short_constant to op size a = nat_lt to 3 && is_copying op size && is_constant (is_short Long) a

abbrev pub home_by : (copied : Option ℕ) → (made : Option AlphaInstr) → (constant : Bool) → (to : ℕ) → Option ℕ
home_by (Some register) made constant to = Some register
home_by None (Some word) constant to = Some (holder to)
home_by None None constant to = if constant then Some (holder to) else None

abbrev pub new_home : Homes → (to : ℕ) → MicroOp → Size → (a b : Arg) → Option ℕ
new_home homes to op size a b = home_by (copied homes to op size a) (made homes to op size a b) (is_short_constant to op size a) to

abbrev pub code_by : (copied : Option ℕ) → (made compared : Option AlphaInstr) → List AlphaInstr → List AlphaInstr
code_by (Some register) made compared words = []
code_by None (Some word) compared words = word ∷ []
code_by None None (Some word) words = word ∷ []
code_by None None None words = words

abbrev pub direct_code : Homes → (to : ℕ) → MicroOp → Size → (a b : Arg) → List AlphaInstr
direct_code homes to op size a b =
    code_by (copied homes to op size a) (made homes to op size a b) (compared homes to op size a b)
    (compute_code op size (placed homes a) (placed homes b) (holder to))

-- A word of a computation that has no other waits until two others do, or a computation has more words, or up to the end.
abbrev pub waiting_words : Option AlphaInstr → List AlphaInstr
waiting_words None = []
waiting_words (Some word) = word ∷ []

abbrev pub all_waiting : Homes → List AlphaInstr
all_waiting homes = waiting_words homes.before ++ waiting_words homes.waiting

-- a conditional move reads what it writes
abbrev pub is_choice : OperateOp → Bool
is_choice row.Cmoveq = true
is_choice row.Cmovne = true
is_choice op = false

abbrev pub second_reads : Second → (register : ℕ) → Bool
second_reads (seconds.Register number) register = number == register
second_reads (seconds.Literal value) register = false

-- the word, where it is the only one
abbrev pub only_word : List AlphaInstr → Option AlphaInstr
only_word (Operate op first second to ∷ []) = Some (Operate op first second to)
only_word words = None

-- the VAX register that what waits copies to that place
abbrev pub copied_to : (place : ℕ) → (waiting : Option AlphaInstr) → Option ℕ
copied_to place (Some (Operate row.Addl first (seconds.Literal value) to)) =
    if to == place && value == 0 && is_vax first then Some first else None
copied_to place waiting = None

-- a word reads the register of a temporary that it writes over
abbrev pub reads_over : OperateOp → (first : ℕ) → Second → (to : ℕ) → Bool
reads_over op first second to = first == to && not (second_reads second to) && not (is_choice op) && is_temporary to

-- The word that reads the VAX register itself, where the word that waits only copies it to what this one writes over.
abbrev pub passed : (waiting : Option AlphaInstr) → (word : AlphaInstr) → Option AlphaInstr
passed waiting (Operate op first second to) =
    if reads_over op first second to then option_map (λ from. Operate op from second to) (copied_to to waiting) else None
passed waiting word = None

-- it waits in place of the copy, which has no use then, or behind the word before it
abbrev pub one_waits : (passed before waiting : Option AlphaInstr) → Homes → (word : AlphaInstr) → Homes × List AlphaInstr
one_waits (Some shorter) before waiting homes word = (record homes { before = before; waiting = Some shorter }, [])
one_waits None before waiting homes word = (record homes { before = waiting; waiting = Some word }, waiting_words before)

abbrev pub words_wait : (only before waiting : Option AlphaInstr) → Homes → (words : List AlphaInstr) → Homes × List AlphaInstr
words_wait (Some word) before waiting homes words = one_waits (passed waiting word) before waiting homes word
words_wait None before waiting homes words =
    (record homes { before = None; waiting = None }, waiting_words before ++ (waiting_words waiting ++ words))

abbrev pub step_by : (copied : Option ℕ) → (made compared : Option AlphaInstr) → (before waiting : Option AlphaInstr) → Homes → (words : List AlphaInstr) → Homes × List AlphaInstr
step_by (Some register) made compared before waiting homes words = (homes, [])
step_by None (Some word) compared before waiting homes words = (record homes { before = waiting; waiting = Some word }, waiting_words before)
step_by None None (Some word) before waiting homes words = (record homes { before = waiting; waiting = Some word }, waiting_words before)
step_by None None None before waiting homes words = words_wait (only_word words) before waiting homes words

-- where the temporaries stand behind a computation, and the words that stand up to there
abbrev pub direct_by : Homes → (to : ℕ) → MicroOp → Size → (a b : Arg) → Homes × List AlphaInstr
direct_by homes to op size a b =
    step_by (copied homes to op size a) (made homes to op size a b) (compared homes to op size a b) homes.before homes.waiting
    (with_home to (new_home homes to op size a b) homes) (direct_code homes to op size a b)
