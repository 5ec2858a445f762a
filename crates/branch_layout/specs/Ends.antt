-- How a block ends in its place: which words of its exits are needed there.
use Rattle.std.specs.Prelude.{ℕ, ◌+◌, ◌-◌, ◌==◌, ◌&&◌, ◌||◌, not, nat_lt, nat_le, Bool, true, false, List, [], ◌∷◌, ◌++◌, length, take, slice_get, Option, Some, None, unwrap_or, if◌then◌else◌}
use Rattle.std.specs.List.{list_all}
use Rattle.std.specs.Option.{is_some}
use Rattle.alpha_encode.specs.Calls.{PROBE, SERVE, SWITCH}
use Rattle.alpha_encode.specs.Registers.{ZERO}
use Rattle.alpha_encode.specs.declared.instr.AlphaInstr.{AlphaInstr}
use Rattle.alpha_encode.specs.declared.instr.AlphaInstr.TheVariants.{Memory, Branch, Operate, Jump, Pal}
use Rattle.alpha_encode.specs.declared.instr.BranchOp.{BranchOp}
use Rattle.alpha_encode.specs.declared.instr.BranchOp.TheVariants as row
use Rattle.alpha_meaning.specs.Act.{links, target_of}
use Rattle.alpha_meaning.specs.Memory.{kind_of}
use Rattle.address_map.specs.Pairs.{Pair, word_at}
use Rattle.exception_records.specs.Blocks.{BlockValue}
use Rattle.exception_records.specs.Points.{Entry}
use Rattle.block_law.specs.Blocks.{Exit, exit_words}
use Rattle.branch_layout.specs.Exits.{displacement, exit_code}
use Rattle.branch_layout.specs.declared.ends.End.{End}
use Rattle.branch_layout.specs.declared.ends.Fork.{Fork}
use Rattle.branch_layout.specs.declared.ends.Form.{Form}
use Rattle.branch_layout.specs.declared.ends.Form.TheVariants.{Behind, Near, Whole}

-- ---- what stands before an exit
-- the word goes on at a word behind the block's first, up to that one, and to no address that has no block
abbrev pub stays : (last place : ℕ) → AlphaInstr → Bool
stays last place (Memory op ra rb disp) = true
stays last place (Branch op ra disp) = nat_lt 0 (target_of place disp) && nat_le (target_of place disp) last
stays last place (Operate op ra rb rc) = true
stays last place (Jump ra rb) = false
stays last place (Pal number) = not (number == SWITCH)

abbrev pub all_stay : (last place : ℕ) → List AlphaInstr → Bool
all_stay last place [] = true
all_stay last place (i ∷ is) = stays last place i && all_stay last (place + 1) is

-- no point stands behind that word
abbrev pub none_behind : (last : ℕ) → List Entry → Bool
none_behind last points = list_all (λ entry. nat_le entry.0 last) points

-- the words before that one stay so, and no point stands behind it
abbrev pub keeps : (start : ℕ) → BlockValue → Bool
keeps start block = all_stay start 0 (take start block.words) && none_behind start block.points

-- The word may be the last before another block: it makes no access, and calls nothing behind which the block goes on.
abbrev pub may_end : AlphaInstr → Bool
may_end (Memory op ra rb disp) = not (is_some (kind_of op))
may_end (Branch op ra disp) = true
may_end (Operate op ra rb rc) = true
may_end (Jump ra rb) = true
may_end (Pal number) = not (number == PROBE || number == SERVE)

abbrev pub may_end_at : Option AlphaInstr → Bool
may_end_at None = false
may_end_at (Some i) = may_end i

-- so is the one before a word at which no point stands
abbrev pub may_fall : (start : ℕ) → BlockValue → Bool
may_fall start block =
    nat_lt 0 start && may_end_at (slice_get block.words (start - 1)) && none_behind (start - 1) block.points

-- ---- the form of an exit
-- the address has a block, which a branch reaches
abbrev pub is_near_block : (small : Bool) → List Pair → (address : ℕ) → Bool
is_near_block small mapped address = small && is_some (word_at mapped address)

abbrev pub is_next : (next : Option ℕ) → (address : ℕ) → Bool
is_next None address = false
is_next (Some other) address = other == address

-- none behind which the block of the address stands, where the words before it may be the last; else one branch, where
-- that reaches it
abbrev pub form_of : (falls small : Bool) → List Pair → (next : Option ℕ) → (address : ℕ) → Form
form_of falls small mapped next address =
    if falls && is_next next address then Behind else if is_near_block small mapped address then Near else Whole

-- a branch that is taken just where the other is not
abbrev pub turned : BranchOp → BranchOp
turned row.Blbc = row.Blbs
turned row.Blbs = row.Blbc
turned row.Beq = row.Bne
turned row.Bne = row.Beq
turned row.Blt = row.Bge
turned row.Bge = row.Blt
turned row.Ble = row.Bgt
turned row.Bgt = row.Ble
turned op = op

-- ---- the end of a block
-- an exit stands at the end of a block
abbrev pub is_last : BlockValue → Exit → Bool
is_last block exit = exit.0 + exit_words == length block.words

abbrev pub exit_end : (small : Bool) → List Pair → (next : Option ℕ) → BlockValue → Exit → Option End
exit_end small mapped next block exit =
    if is_last block exit && keeps exit.0 block
    then Some (record { start = exit.0; fork = None; address = exit.1; form = form_of (may_fall exit.0 block) small mapped next exit.1 })
    else None

-- a branch, and an exit behind it to another address
abbrev pub fork_to : (start : ℕ) → BranchOp → (ra to address : ℕ) → Form → End
fork_to start op ra to address form = record { start = start; fork = Some (record { op = op; ra = ra; to = to }); address = address; form = form }

-- A branch goes over an exit to another. It goes to the second address itself; or, turned, to the first, so that the
-- exit to the second is left, where the first isn't the next block's.
abbrev pub fork_end : (small : Bool) → List Pair → (next : Option ℕ) → (start : ℕ) → BranchOp → (ra first second : ℕ) → Option End
fork_end small mapped next start op ra first second =
    if is_near_block small mapped second && (is_next next first || not (is_near_block small mapped first))
    then Some (fork_to start op ra second first (form_of true small mapped next first))
    else if is_near_block small mapped first
    then Some (fork_to start (turned op) ra first second (form_of true small mapped next second))
    else None

-- the word is a conditional branch to the second exit
abbrev pub branch_end : (small : Bool) → List Pair → (next : Option ℕ) → (start : ℕ) → Option AlphaInstr → (first second : Exit) → Option End
branch_end small mapped next start (Some (Branch op ra disp)) first second =
    if not (links op) && (target_of start disp == second.0) then fork_end small mapped next start op ra first.1 second.1 else None
branch_end small mapped next start word first second = None

abbrev pub choice_end : (small : Bool) → List Pair → (next : Option ℕ) → BlockValue → (first second : Exit) → Option End
choice_end small mapped next block first second =
    if is_last block second && (first.0 + exit_words == second.0) && nat_lt 0 first.0 && keeps (first.0 - 1) block
    then branch_end small mapped next (first.0 - 1) (slice_get block.words (first.0 - 1)) first second
    else None

-- how a block ends that has one exit, at its end, or two, behind a branch over the first to the second; none where its
-- exits keep their three words
abbrev pub end_by : (small : Bool) → List Pair → (next : Option ℕ) → BlockValue → List Exit → Option End
end_by small mapped next block (exit ∷ []) = exit_end small mapped next block exit
end_by small mapped next block (first ∷ second ∷ []) = choice_end small mapped next block first second
end_by small mapped next block exits = None

abbrev pub end_of : (small : Bool) → List Pair → (next : Option ℕ) → BlockValue → Option End
end_of small mapped next block = end_by small mapped next block block.exits

-- ---- its words
abbrev pub form_words : Form → ℕ
form_words Behind = 0
form_words Near = 1
form_words Whole = exit_words

abbrev pub fork_words : Option Fork → ℕ
fork_words None = 0
fork_words (Some fork) = 1

-- how many words a block has in its place
abbrev pub placed_size : Option End → BlockValue → ℕ
placed_size None block = length block.words
placed_size (Some end) block = end.start + (fork_words end.fork + form_words end.form)

-- the first word of the block of an address
abbrev pub word_to : List Pair → (address : ℕ) → ℕ
word_to pairs address = unwrap_or (word_at pairs address) 0

abbrev pub fork_code : List Pair → (word : ℕ) → Option Fork → List AlphaInstr
fork_code pairs word None = []
fork_code pairs word (Some fork) = Branch fork.op fork.ra (displacement word (word_to pairs fork.to)) ∷ []

abbrev pub form_code : List Pair → (word : ℕ) → Form → (address : ℕ) → List AlphaInstr
form_code pairs word Behind address = []
form_code pairs word Near address = Branch row.Br ZERO (displacement word (word_to pairs address)) ∷ []
form_code pairs word Whole address = exit_code (word_at pairs address) word address

-- the words of a block that begins at that word of the code, and ends so
abbrev pub ended_words : List Pair → (first : ℕ) → BlockValue → End → List AlphaInstr
ended_words pairs first block end =
    take end.start block.words
    ++ (fork_code pairs (first + end.start) end.fork ++ form_code pairs (first + end.start + fork_words end.fork) end.form end.address)
