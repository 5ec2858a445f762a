-- The words with which a program ends whose operands are used where they stand: those that leave the codes come before the register
-- that is written, so that no operand is lost before they read it.
use Rattle.std.specs.Prelude.{ℕ, ◌-◌, ◌==◌, ◌&&◌, ◌||◌, not, nat_lt, Bool, true, false, List, [], ◌∷◌, ◌++◌, length, map, Option, Some, None, is_none, is_some, unwrap_or, option_map, option_and_then, if◌then◌else◌}
use Rattle.alpha_encode.specs.declared.instr.AlphaInstr.{AlphaInstr}
use Rattle.alpha_encode.specs.declared.instr.AlphaInstr.TheVariants.{Operate}
use Rattle.alpha_encode.specs.declared.instr.BranchOp.{BranchOp}
use Rattle.alpha_encode.specs.declared.instr.BranchOp.TheVariants.{Beq, Bge, Ble}
use Rattle.alpha_encode.specs.declared.instr.OperateOp.{OperateOp}
use Rattle.alpha_encode.specs.declared.instr.OperateOp.TheVariants as row
use Rattle.alpha_encode.specs.declared.instr.Second.{Second}
use Rattle.alpha_encode.specs.declared.instr.Second.TheVariants as seconds
use Rattle.alpha_encode.specs.Registers.{CARRY_FIRST, TEMPORARIES, RULE_FIRST, RULE_SECOND, CARRY_SECOND, ZERO}
use Rattle.exception_records.specs.declared.rules.CodeRule.{CodeRule}
use Rattle.exception_records.specs.declared.rules.CodeRule.TheVariants as rules
use Rattle.exception_records.specs.declared.rules.Rules.{Rules}
use Rattle.micro_ops.specs.LeftOut.{is_left_out}
use Rattle.micro_ops.specs.Uses.{is_quad}
use Rattle.micro_ops.specs.declared.codes.CodeSource.{CodeSource}
use Rattle.micro_ops.specs.declared.codes.CodeSource.TheVariants as code_sources
use Rattle.micro_ops.specs.declared.codes.CodeSources.{CodeSources}
use Rattle.micro_ops.specs.declared.program.Exit.{Exit}
use Rattle.micro_ops.specs.declared.program.Exit.TheVariants.{Next, Fixed, Computed, Choice, Service}
use Rattle.micro_ops.specs.declared.program.Micro.{Micro}
use Rattle.micro_ops.specs.declared.program.Micro.TheVariants.{Compute, Commit, Codes, Leave}
use Rattle.program_codegen.specs.declared.direct.Raised.{Raised}
use Rattle.alpha_meaning.specs.Loops.{written}
use Rattle.program_codegen.specs.declared.homes.Homes.{Homes}
use Rattle.program_codegen.specs.declared.lines.Line.{Line}
use Rattle.program_codegen.specs.declared.points.Site.{Site}
use Rattle.program_codegen.specs.Words.{plain, holder, trap_by, departing_by}
use Rattle.program_codegen.specs.Homes.{home_at, home_of, is_choice, is_temporary, made, second_reads, stands_in}

-- ---- the words that leave the codes
-- the registers whose low bytes are the operands of a rule
abbrev pub is_operand : (register : ℕ) → Bool
is_operand register = (register == RULE_FIRST) || (register == RULE_SECOND) || (register == CARRY_FIRST) || (register == CARRY_SECOND)

abbrev pub is_operand_second : Second → Bool
is_operand_second (seconds.Register register) = is_operand register
is_operand_second (seconds.Literal value) = false

abbrev pub second_home : Homes → Second → Option ℕ
second_home homes (seconds.Register register) = home_at homes register
second_home homes (seconds.Literal value) = None

abbrev pub when : Bool → AlphaInstr → Option AlphaInstr
when b word = if b then Some word else None

-- one that reads no home
abbrev pub unmoved : OperateOp → (first : ℕ) → Second → (to : ℕ) → Option AlphaInstr
unmoved op first second to = when (not (is_operand first || is_operand_second second || is_choice op)) (Operate op first second to)

-- an operand of a rule is moved to its register
abbrev pub moved_operand : OperateOp → (first home to : ℕ) → Option AlphaInstr
moved_operand row.Bis first home to = when (not (is_operand first) && is_operand to) (Operate row.Bis first (seconds.Register home) to)
moved_operand op first home to = None

-- sign-extended longwords compare as longwords do
abbrev pub moved_both : OperateOp → (first second to : ℕ) → Option AlphaInstr
moved_both row.Cmpeq first second to = Some (Operate row.Cmpeq first (seconds.Register second) to)
moved_both row.Cmpult first second to = Some (Operate row.Cmpult first (seconds.Register second) to)
moved_both op first second to = None

-- they are 0 as longwords are, their low longwords are raised alike, and their sign is bit 63
abbrev pub moved_first : OperateOp → (home : ℕ) → Second → (to : ℕ) → Option AlphaInstr
moved_first row.Cmpeq home (seconds.Literal value) to = when (value == 0) (Operate row.Cmpeq home (seconds.Literal 0) to)
moved_first row.Sll home (seconds.Literal value) to = when (value == 32) (Operate row.Sll home (seconds.Literal 32) to)
moved_first row.Srl home (seconds.Literal value) to = when (value == 31) (Operate row.Srl home (seconds.Literal 63) to)
moved_first op home second to = None

abbrev pub moved_by : (home other : Option ℕ) → OperateOp → (first : ℕ) → Second → (to : ℕ) → Option AlphaInstr
moved_by None None op first second to = unmoved op first second to
moved_by None (Some y) op first second to = moved_operand op first y to
moved_by (Some x) None op first second to = moved_first op x second to
moved_by (Some x) (Some y) op first second to = moved_both op x y to

-- ---- raised longwords
-- The words for the codes raise two longwords into R24 and R25 to compare them. Where both operands have homes they aren't raised,
-- and the comparison is that of the homes.
abbrev pub none_raised : Raised
none_raised = record { first = None; second = None }

abbrev pub first_raised : ℕ
first_raised = holder 3

abbrev pub second_raised : ℕ
second_raised = holder 4

abbrev pub is_raised : (register : ℕ) → Bool
is_raised register = (register == first_raised) || (register == second_raised)

-- the home that a register is to hold, raised
abbrev pub raised_at : Raised → (register : ℕ) → Option ℕ
raised_at raised register =
    if register == first_raised then raised.first else if register == second_raised then raised.second else None

abbrev pub raised_second : Raised → Second → Option ℕ
raised_second raised (seconds.Register register) = raised_at raised register
raised_second raised (seconds.Literal value) = None

abbrev pub with_raised : (register : ℕ) → Option ℕ → Raised → Raised
with_raised register home raised =
    if register == first_raised then record raised { first = home }
    else if register == second_raised then record raised { second = home } else raised

abbrev pub have_homes : Homes → Bool
have_homes homes = is_some homes.first && is_some homes.second

-- the home that a word raises
abbrev pub raised_home : Homes → OperateOp → (first : ℕ) → Second → (to : ℕ) → Option ℕ
raised_home homes row.Sll first (seconds.Literal value) to =
    if value == 32 && is_raised to && have_homes homes then home_at homes first else None
raised_home homes op first second to = None

-- homes compare as raised longwords do
abbrev pub compared_raised : OperateOp → (first second to : ℕ) → Option AlphaInstr
compared_raised row.Cmplt first second to = Some (Operate row.Cmplt first (seconds.Register second) to)
compared_raised op first second to = None

-- ---- each word
-- a word that reads the homes in place of the temporaries' own registers; none where it would do something else
abbrev pub moved_word : (raised other : Option ℕ) → Homes → OperateOp → (first : ℕ) → Second → (to : ℕ) → Option AlphaInstr
moved_word None None homes op first second to = moved_by (home_at homes first) (second_home homes second) op first second to
moved_word (Some x) (Some y) homes op first second to = compared_raised op x y to
moved_word raised other homes op first second to = None

abbrev pub lowered_word : Raised → (to : ℕ) → (moved : Option AlphaInstr) → Option (Raised × Option AlphaInstr)
lowered_word raised to moved = option_map (λ word. (with_raised to None raised, Some word)) moved

-- one that raises a home has no word
abbrev pub raised_step : (home : Option ℕ) → Raised → (to : ℕ) → (moved : Option AlphaInstr) → Option (Raised × Option AlphaInstr)
raised_step (Some home) raised to moved = Some (with_raised to (Some home) raised, None)
raised_step None raised to moved = lowered_word raised to moved

-- what is to be raised behind a word, and the word if any
abbrev pub moved_step : Homes → Raised → AlphaInstr → Option (Raised × Option AlphaInstr)
moved_step homes raised (Operate op first second to) =
    raised_step (raised_home homes op first second to) raised to
    (moved_word (raised_at raised first) (raised_second raised second) homes op first second to)
moved_step homes raised word = None

abbrev pub with_word : Option AlphaInstr → List AlphaInstr → List AlphaInstr
with_word None words = words
with_word (Some word) words = word ∷ words

abbrev pub moved_from : Homes → Raised → List AlphaInstr → Option (List AlphaInstr)
moved_from homes raised [] = Some []
moved_from homes raised (word ∷ words) =
    option_and_then
    (λ (step : Raised × Option AlphaInstr). option_map (λ (rest : List AlphaInstr). with_word step.1 rest) (moved_from homes step.0 words))
    (moved_step homes raised word)

abbrev pub moved_words : Homes → List AlphaInstr → Option (List AlphaInstr)
moved_words homes words = moved_from homes none_raised words

-- at most the low longwords of the operands tell the code
abbrev pub is_short_rule : CodeRule → Bool
is_short_rule (rules.Result size) = not (is_quad size)
is_short_rule (rules.Add size) = not (is_quad size)
is_short_rule (rules.Sub size) = not (is_quad size)
is_short_rule (rules.Compare size) = not (is_quad size)
is_short_rule rule = true

abbrev pub are_short_rules : Rules → Bool
are_short_rules behind = is_short_rule behind.n && is_short_rule behind.z && is_short_rule behind.v && is_short_rule behind.c

-- ---- the end
-- an operation without words: the words that leave the codes stand in for it
abbrev pub is_wordless : CodeSources → Micro → (behind : List Micro) → Bool
is_wordless sources (Compute to op size a b) behind = is_left_out sources (Compute to op size a b) behind
is_wordless sources (Codes n z v c) behind = true
is_wordless sources operation behind = false

abbrev pub exit_of : Micro → Option Exit
exit_of (Leave exit) = Some exit
exit_of operation = None

-- the exit behind operations without words
abbrev pub exit_behind : CodeSources → List Micro → Option Exit
exit_behind sources [] = None
exit_behind sources (operation ∷ program) = if is_wordless sources operation program then exit_behind sources program else exit_of operation

abbrev pub with_commit : Option (ℕ × ℕ) → Option Exit → Option (Option (ℕ × ℕ) × Exit)
with_commit commit exit = option_map (λ exit. (commit, exit)) exit

-- an operation with which a program comes to its end: the register that it writes, with the temporary from which, and the exit
abbrev pub end_at : CodeSources → Micro → (behind : List Micro) → Option (Option (ℕ × ℕ) × Exit)
end_at sources (Commit register from) behind = with_commit (Some (register, from)) (exit_behind sources behind)
end_at sources (Codes n z v c) behind = with_commit None (exit_behind sources behind)
end_at sources operation behind = with_commit None (exit_of operation)

-- it goes to an address, by a temporary in its own register if by one
abbrev pub exit_stays : Homes → Exit → Bool
exit_stays homes Next = true
exit_stays homes (Fixed address) = true
exit_stays homes (Choice when taken other) = is_none (home_of homes when)
exit_stays homes exit = false

-- a register is written from a temporary that the words for the codes leave as it is: they change temporaries 3 and 4
abbrev pub is_left_alone : (temp : ℕ) → Bool
is_left_alone temp = nat_lt temp 3 || temp == 5

abbrev pub commit_stays : Option (ℕ × ℕ) → Bool
commit_stays None = true
commit_stays (Some commit) = is_left_alone commit.1

abbrev pub commit_words : Homes → Option (ℕ × ℕ) → List AlphaInstr
commit_words homes None = []
commit_words homes (Some commit) =
    Operate row.Addl (unwrap_or (home_of homes commit.1) (holder commit.1)) (seconds.Literal 0) commit.0 ∷ []

-- ---- words that are spared
-- Where nothing but copies of what a word makes is wanted, each of them is made where it goes, and the word is spared.
abbrev pub word_reads : AlphaInstr → (register : ℕ) → Bool
word_reads (Operate op first second to) register = (first == register) || second_reads second register
word_reads word register = true

-- it goes by what stands in the register
abbrev pub goes_by : Exit → (register : ℕ) → Bool
goes_by (Computed temp) register = holder temp == register
goes_by (Choice when taken other) register = holder when == register
goes_by (Service temp) register = holder temp == register
goes_by exit register = false

-- the register of a temporary that nothing reads behind the block's words
abbrev pub is_left : Exit → (register : ℕ) → Bool
is_left exit register = is_temporary register && not (goes_by exit register)

-- what a word makes is left there, whatever that register held
abbrev pub is_spare : Exit → AlphaInstr → Bool
is_spare exit (Operate op first second to) = is_left exit to && not (is_choice op)
is_spare exit word = false

-- a copy as it stands, or of a number that is extended with its sign
abbrev pub copies_from : (place : ℕ) → (extended : Bool) → AlphaInstr → Bool
copies_from place extended (Operate row.Bis first (seconds.Register register) to) = first == ZERO && register == place
copies_from place extended (Operate row.Addl first (seconds.Literal value) to) = extended && first == place && value == 0
copies_from place extended word = false

-- the same word, but for the register that it writes
abbrev pub into : (to : ℕ) → AlphaInstr → AlphaInstr
into to (Operate op first second place) = Operate op first second to
into to word = word

-- a word leaves what is made as it is, and what makes it, unless it is the last
abbrev pub leaves_made : (place : ℕ) → (last : Bool) → (made word : AlphaInstr) → Bool
leaves_made place last made word = (last || not (word_reads made (written word))) && not (written word == place)

-- a word that copies it makes it, and no other may read it
abbrev pub spared_word : (place : ℕ) → (extended last : Bool) → (made word : AlphaInstr) → Option AlphaInstr
spared_word place extended last made word =
    if not (leaves_made place last made word) then None
    else if copies_from place extended word then Some (into (written word) made)
    else if word_reads word place then None else Some word

abbrev pub spared_words : (place : ℕ) → (extended : Bool) → (made : AlphaInstr) → List AlphaInstr → Option (List AlphaInstr)
spared_words place extended made [] = Some []
spared_words place extended made (word ∷ words) =
    option_and_then (λ spared. option_map (λ rest. spared ∷ rest) (spared_words place extended made words)) (spared_word place extended (length words == 0) made word)

abbrev pub rewrites : (place : ℕ) → Option AlphaInstr → Bool
rewrites place None = false
rewrites place (Some word) = written word == place

-- a word's number is the low longword of its register, extended with its sign, still behind the word that comes next
abbrev pub makes_home : Homes → (word : AlphaInstr) → (next : Option AlphaInstr) → Bool
makes_home homes word next = stands_in (home_at homes (written word)) (written word) && not (rewrites (written word) next)

abbrev pub with_spared : Exit → Homes → (word : AlphaInstr) → (next : Option AlphaInstr) → List AlphaInstr → List AlphaInstr
with_spared exit homes word next words =
    if is_spare exit word then unwrap_or (spared_words (written word) (makes_home homes word next) word words) (word ∷ words) else word ∷ words

abbrev pub with_waiting : Exit → Homes → (word next : Option AlphaInstr) → List AlphaInstr → List AlphaInstr
with_waiting exit homes None next words = words
with_waiting exit homes (Some word) next words = with_spared exit homes word next words

-- the words up to the one that writes the register
abbrev pub end_words : Homes → (commit : Option (ℕ × ℕ)) → Exit → (codes : List AlphaInstr) → List AlphaInstr
end_words homes commit exit codes =
    with_waiting exit homes homes.before homes.waiting (with_waiting exit homes homes.waiting None (codes ++ commit_words homes commit))

-- A comparison with 0: the branch that is taken just where it gives 0, and the register that is compared.
abbrev pub zero_test : AlphaInstr → Option (BranchOp × ℕ)
zero_test (Operate row.Cmplt first (seconds.Register register) to) = if first == ZERO then Some (Ble, register) else None
zero_test (Operate row.Cmplt first (seconds.Literal value) to) = if value == 0 then Some (Bge, first) else None
zero_test word = None

-- it is still there at the end: the home of temporary 0, 1 or 2 in its own register, R21 to R23, over which the comparison isn't written
abbrev pub is_number : Homes → (register to : ℕ) → Bool
is_number homes register to = nat_lt register 24 && stands_in (home_at homes register) register && not (register == to)

abbrev pub choice_by : Homes → (to when taken other : ℕ) → Option (BranchOp × ℕ) → BranchOp × Exit
choice_by homes to when taken other None = (Beq, Choice when taken other)
choice_by homes to when taken other (Some test) =
    if to == holder when && is_number homes test.1 to then (test.0, Choice (test.1 - TEMPORARIES) taken other) else (Beq, Choice when taken other)

abbrev pub choice_at : Homes → (when taken other : ℕ) → (waiting : Option AlphaInstr) → BranchOp × Exit
choice_at homes when taken other None = (Beq, Choice when taken other)
choice_at homes when taken other (Some word) = choice_by homes (written word) when taken other (zero_test word)

-- Where such a comparison waits for a choice, the choice goes by the number that is compared, and by the branch that is taken where
-- the comparison gives 0. So nothing but codes may want what it makes.
abbrev pub choice_of : Homes → Exit → BranchOp × Exit
choice_of homes (Choice when taken other) = choice_at homes when taken other homes.waiting
choice_of homes exit = (Beq, exit)

abbrev pub end_by : Site → Homes → (commit : Option (ℕ × ℕ)) → (choice : BranchOp × Exit) → (codes : List AlphaInstr) → List Line
end_by site homes commit choice codes =
    map plain (end_words homes commit choice.1 codes) ++ (trap_by choice.0 site choice.1 ++ departing_by choice.0 site choice.1)

abbrev pub end_lines : Site → Homes → (commit : Option (ℕ × ℕ)) → Exit → (codes : List AlphaInstr) → List Line
end_lines site homes commit exit codes = end_by site homes commit (choice_of homes exit) codes

-- V that an instruction makes by itself is read in the register of temporary 3
abbrev pub is_made_there : CodeSource → Bool
is_made_there (code_sources.Computed size) = true
is_made_there source = false

-- No operand stands in the register of temporary 3, which the words for the codes write, and what they read there does.
abbrev pub are_left : CodeSources → Homes → Bool
are_left sources homes =
    not (stands_in homes.first (holder 3) || stands_in homes.second (holder 3) || stands_in homes.result (holder 3))
    && (is_none homes.place || not (is_made_there sources.nzv))

abbrev pub may_end : Site → Homes → (commit : Option (ℕ × ℕ)) → Exit → Bool
may_end site homes commit exit = are_left site.sources homes && commit_stays commit && exit_stays homes exit && are_short_rules site.behind

abbrev pub direct_end : Site → (codes : List AlphaInstr) → Homes → (commit : Option (ℕ × ℕ)) → Exit → Option (List Line)
direct_end site codes homes commit exit =
    if may_end site homes commit exit then option_map (end_lines site homes commit exit) (moved_words homes codes) else None
