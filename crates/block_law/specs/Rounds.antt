-- Loops in a block. A round is what was made since the last step back of a loop, the last call of PALcode, or since the
-- block began.
use Rattle.std.specs.Prelude.{◌≡◌, ℕ, suc, ◌<◌, ◌≤◌, ◌+◌, ◌*◌, nat_lt, if◌then◌else◌}
use Rattle.vax_form.specs.Tree.{Tree, Check, Ask, Fault, Ends}
use Rattle.vax_form.specs.declared.state.RefKind.{RefKind}
use Rattle.vax_form.specs.declared.state.RefKind.TheVariants.{Read, Write, Add, SetBit, ClearBit, Put, Get}
use Rattle.alpha_meaning.specs.Pieces.{Phase, Plain, Held, Failed, Forth, retry_steps}

-- how many steps a block may take, and each round of its loop, besides those behind failed stores
abbrev pub block_steps : ℕ
block_steps = 256

-- the references made by an access that counts, the stores that failed, and the steps
pub record Round : Type 0 where
  pub reads : ℕ
  pub writes : ℕ
  pub others : ℕ
  pub failed : ℕ
  pub steps : ℕ

abbrev pub new_round : Round
new_round = record { reads = 0; writes = 0; others = 0; failed = 0; steps = 0 }

-- one step more
abbrev pub stepped : Round → Round
stepped round = record round { steps = suc round.steps }

-- a reference of that kind more
abbrev pub with_reference : RefKind → Round → Round
with_reference Read round = record round { reads = suc round.reads }
with_reference (Write value) round = record round { writes = suc round.writes }
with_reference (Add value) round = record round { others = suc round.others }
with_reference (SetBit n) round = record round { others = suc round.others }
with_reference (ClearBit n) round = record round { others = suc round.others }
with_reference (Put byte) round = record round { others = suc round.others }
with_reference Get round = record round { others = suc round.others }

-- the next reference of a tree more
abbrev pub with_next : Tree → Round → Round
with_next (Ask r on) round = with_reference r.kind round
with_next (Check address count write tree) round = round
with_next (Fault exception) round = round
with_next (Ends e) round = round

-- behind an access: where no load-locked access and no failed store is behind, it counts
abbrev pub round_behind : Phase → Tree → Round → Round
round_behind Plain tree round = with_next tree (stepped round)
round_behind (Held quad found place) tree round = stepped round
round_behind (Failed place) tree round = record (stepped round) { failed = suc round.failed }

-- just one read and one write were made, in as many steps as a block may take
pub record IsWhole (round : Round) : Type 0 where
  pub reads : round.reads ≡ 1
  pub writes : round.writes ≡ 1
  pub others : round.others ≡ 0
  pub steps : round.steps ≤ block_steps + retry_steps * round.failed

-- A step back goes not to the block's first word. It goes behind a failed store, as in a piece; or it ends a round of a
-- loop, where accesses that count allow more steps.
abbrev pub MayGo : (bonus first : ℕ) → Phase → Round → (pc pc' : ℕ) → Type 0
MayGo bonus first Plain round pc pc' = (first < pc') × (pc' ≤ pc → (0 < bonus) × IsWhole (stepped round))
MayGo bonus first (Held quad found place) round pc pc' = Forth (Held quad found place) first pc pc'
MayGo bonus first (Failed place) round pc pc' = Forth (Failed place) first pc pc'

-- a loop's step back begins a round; so does a call of PALcode
abbrev pub round_after : Phase → Round → (pc pc' : ℕ) → Round
round_after Plain round pc pc' = if nat_lt pc pc' then stepped round else new_round
round_after (Held quad found place) round pc pc' = stepped round
round_after (Failed place) round pc pc' = stepped round
