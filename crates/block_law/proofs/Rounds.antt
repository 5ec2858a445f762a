-- What is known of a round at a place of a block, and what a step makes of it.
use Rattle.std.proofs.Common.{◌≡◌, ℕ, suc, ◌+◌, ◌-◌, ◌*◌, ◌<◌, ◌≤◌, refl, ap, arith, true, Option, Some, None}
use Rattle.std.specs.Prelude.{nat_lt, option_map}
use Rattle.std.proofs.lemmas.Bool.Decides.{nat_tests}
use Rattle.vax_form.specs.Tree.{Tree, Check, Ask, Fault, Ends}
use Rattle.vax_form.specs.declared.state.RefKind.{RefKind}
use Rattle.vax_form.specs.declared.state.RefKind.TheVariants.{Read, Write, Add, SetBit, ClearBit, Put, Get}
use Rattle.alpha_meaning.specs.Pieces.{Phase, Plain, Held, Failed, Forth, retry_steps}
use Rattle.block_law.specs.Rounds.{block_steps, Round, new_round, stepped, with_reference, with_next, round_behind, MayGo, round_after}

-- the references that were made
abbrev pub made_in : Round → ℕ
made_in round = round.reads + round.writes + round.others

-- just these references were made
pub record HasMade (made round : Round) : Type 0 where
  pub reads : round.reads ≡ made.reads
  pub writes : round.writes ≡ made.writes
  pub others : round.others ≡ made.others

-- so many steps of the round are left, of all that a block may take, and what its references allow is spare behind them
pub record IsRound (bonus left spare : ℕ) (made round : Round) : Type 0 where
  pub refs : HasMade made round
  pub within : round.steps + left ≤ block_steps + retry_steps * round.failed
  pub earned : left + bonus * made_in round ≤ spare

-- at least so many steps are spare in any round; or in one in which just these references were made
abbrev pub Fits : (bonus : ℕ) → Option Round → (left spare : ℕ) → Round → Type 0
Fits bonus None left spare round = left ≤ spare
Fits bonus (Some made) left spare round = IsRound bonus left spare made round

pub fits_spare : (bonus : ℕ) (o : Option Round) (left spare : ℕ) (round : Round) → Fits bonus o left spare round → left ≤ spare
fits_spare bonus None left spare round h = h
fits_spare bonus (Some made) left spare round h =
    let a = h.within in
    let b = h.earned in
    omega arith

-- a call of PALcode begins a round
pub fits_anew : (bonus : ℕ) (o : Option Round) (left spare : ℕ) (round : Round) → left ≤ block_steps → Fits bonus o left spare round → Fits bonus (Some new_round) left spare new_round
fits_anew bonus o left spare round few h =
    let roomy = fits_spare bonus o left spare round h in
    record { refs = record { reads = refl; writes = refl; others = refl }; within = omega arith; earned = omega arith }

pub fits_less : (bonus : ℕ) (o : Option Round) (left left' spare : ℕ) (round : Round) → left' ≤ left → Fits bonus o left spare round → Fits bonus o left' spare round
fits_less bonus None left left' spare round le h = omega arith
fits_less bonus (Some made) left left' spare round le h = record { refs = h.refs; within = (let a = h.within in omega arith); earned = (let a = h.earned in omega arith) }

-- ---- a step
pub fits_step : (bonus : ℕ) (o : Option Round) (left spare : ℕ) (round : Round) → 0 < left → Fits bonus o left spare round → Fits bonus o (left - 1) (spare - 1) (stepped round)
fits_step bonus None left spare round some h = omega arith
fits_step bonus (Some made) left spare round some h =
    let a = h.within in
    let b = h.earned in
    let roomy = fits_spare bonus (Some made) left spare round h in
    record { refs = record { reads = h.refs.reads; writes = h.refs.writes; others = h.refs.others }; within = omega arith; earned = omega arith }

pub forth_stepped : (phase : Phase) (from pc pc' : ℕ) (round : Round) → Forth phase from pc pc' → round_after phase round pc pc' ≡ stepped round
forth_stepped Plain from pc pc' round lt = rw (is_less pc pc' lt) refl
  where
    is_less : (a b : ℕ) → a < b → nat_lt a b ≡ true
    is_less a b lt = grind (arith, nat_tests)
forth_stepped (Held quad found place) from pc pc' round h = refl
forth_stepped (Failed place) from pc pc' round h = refl

-- a step as in a piece
pub fits_forth : (bonus : ℕ) (o : Option Round) (left spare : ℕ) (phase : Phase) (from pc pc' : ℕ) (round : Round) → 0 < left → Forth phase from pc pc' → Fits bonus o left spare round → Fits bonus o (left - 1) (spare - 1) (round_after phase round pc pc')
fits_forth bonus o left spare phase from pc pc' round some way h = rw (forth_stepped phase from pc pc' round way) (fits_step bonus o left spare round some h)

-- such a step a block may make too
pub may_forth : (bonus : ℕ) (phase : Phase) (round : Round) (from first pc pc' : ℕ) → first ≤ from → from ≤ pc → Forth phase from pc pc' → (from < pc') × MayGo bonus first phase round pc pc'
may_forth bonus Plain round from first pc pc' le le' h = (omega arith, (omega arith, λ back. absurd (omega arith)))
may_forth bonus (Held _ _ _) round from first pc pc' le le' h = (omega arith, h)
may_forth bonus (Failed _) round from first pc pc' le le' h = let way = h.0 in (h.0, (omega arith, h.1))

-- ---- accesses
module _ (bonus left spare : ℕ) (made round : Round) (some : 0 < left) (h : IsRound bonus left spare made round) where
  reference_fits : (kind : RefKind) → IsRound bonus (left - 1) (spare - 1 + bonus) (with_reference kind made) (with_reference kind (stepped round))
  reference_fits kind = by kind h.refs.reads h.refs.writes h.refs.others h.within h.earned (fits_spare bonus (Some made) left spare round h)
    where
      by : (kind : RefKind) → round.reads ≡ made.reads → round.writes ≡ made.writes → round.others ≡ made.others → round.steps + left ≤ block_steps + retry_steps * round.failed
          → left + bonus * made_in round ≤ spare → left ≤ spare
          → IsRound bonus (left - 1) (spare - 1 + bonus) (with_reference kind made) (with_reference kind (stepped round))
      by Read r w o a b roomy = record { refs = record { reads = ap suc r; writes = w; others = o }; within = omega arith; earned = omega arith }
      by (Write value) r w o a b roomy = record { refs = record { reads = r; writes = ap suc w; others = o }; within = omega arith; earned = omega arith }
      by (Add value) r w o a b roomy = record { refs = record { reads = r; writes = w; others = ap suc o }; within = omega arith; earned = omega arith }
      by (SetBit n) r w o a b roomy = record { refs = record { reads = r; writes = w; others = ap suc o }; within = omega arith; earned = omega arith }
      by (ClearBit n) r w o a b roomy = record { refs = record { reads = r; writes = w; others = ap suc o }; within = omega arith; earned = omega arith }
      by (Put byte) r w o a b roomy = record { refs = record { reads = r; writes = w; others = ap suc o }; within = omega arith; earned = omega arith }
      by Get r w o a b roomy = record { refs = record { reads = r; writes = w; others = ap suc o }; within = omega arith; earned = omega arith }

  -- a tree that wants no reference makes none
  idle_fits : IsRound bonus (left - 1) (spare - 1 + bonus) made (stepped round)
  idle_fits =
      let a = h.within in
      let b = h.earned in
      let roomy = fits_spare bonus (Some made) left spare round h in
      record { refs = record { reads = h.refs.reads; writes = h.refs.writes; others = h.refs.others }; within = omega arith; earned = omega arith }

  next_fits : (t : Tree) → IsRound bonus (left - 1) (spare - 1 + bonus) (with_next t made) (with_next t (stepped round))
  next_fits (Ask r on) = reference_fits r.kind
  next_fits (Check address count write t) = idle_fits
  next_fits (Fault exception) = idle_fits
  next_fits (Ends e) = idle_fits

-- behind an access that counts
pub fits_counted : (bonus : ℕ) (o : Option Round) (left spare : ℕ) (t : Tree) (round : Round) → 0 < left → Fits bonus o left spare round → Fits bonus (option_map (with_next t) o) (left - 1) (spare - 1 + bonus) (round_behind Plain t round)
fits_counted bonus None left spare t round some h = omega arith
fits_counted bonus (Some made) left spare t round some h = next_fits bonus left spare made round some h t

-- behind a store that failed
pub fits_failed : (bonus : ℕ) (o : Option Round) (left spare place : ℕ) (t : Tree) (round : Round) → 0 < left → Fits bonus o left spare round → Fits bonus o (left - 1 + retry_steps) (spare - 1 + retry_steps) (round_behind (Failed place) t round)
fits_failed bonus None left spare place t round some h = omega arith
fits_failed bonus (Some made) left spare place t round some h =
    let a = h.within in
    let b = h.earned in
    let roomy = fits_spare bonus (Some made) left spare round h in
    record { refs = record { reads = h.refs.reads; writes = h.refs.writes; others = h.refs.others }; within = omega arith; earned = omega arith }

-- ---- the same tree
