-- A block that follows its tree does so where more kinds of accesses may be made.
use Rattle.std.proofs.Common.{◌≡◌, ℕ, zero, suc, ◌+◌, ◌-◌, refl, sym, ap, subst, Option, Some, None, Bool, true, false}
use Rattle.vax_form.specs.Tree.{Tree, Check, Ask, Fault, Ends, Finish, Trap}
use Rattle.std.specs.Prelude.{nat_lt}
use Rattle.vax_form.specs.declared.state.Flags.{Flags}
use Rattle.vax_form.specs.declared.state.Reference.{Reference}
use Rattle.vax_form.specs.declared.state.VaxState.{VaxState}
use Rattle.alpha_meaning.specs.State.{Alpha, Regs, at_place}
use Rattle.alpha_meaning.specs.Pieces.{Kinds, Phase, Plain, Held, Failed, retry_steps, phase_after}
use Rattle.alpha_meaning.proofs.Laws.{Covers, steps_map}
use Rattle.exception_records.specs.declared.points.Point.{Point}
use Rattle.block_law.specs.References.{is_of_memory, wanted_by, wants}
use Rattle.block_law.specs.Placements.{Placement, allowed_in}
use Rattle.block_law.specs.Rounds.{Round, block_steps, new_round, stepped, round_behind, round_after, MayGo}
use Rattle.block_law.specs.Follows.{Call, Probe, Raise, Arithmetic, LookUp, Serve, Switch, call_of, Called, Landed, Lands, Onward, Follows}
use Rattle.block_law.specs.Tidy.{IsTidy}
use Rattle.block_law.specs.Translations.{Meaning, Permit, Code, IsBlock, Meets, placed, has_loop}
use Rattle.block_law.specs.Laws.{MoreKinds, AllowsMore, MoreKindsMeet}
use Rattle.block_law.proofs.Blocks.{no_steps, begin, clause_of}

abbrev with_kinds : Placement → (Reference → Kinds) → Placement
with_kinds p kinds = record p { kinds = kinds }

module _ (p : Placement) (kinds : Reference → Kinds) (more : MoreKinds p.kinds kinds) where
  covers : (t : Tree) → Covers (λ (t : Tree) (u : Tree). t ≡ u) (wants p.kinds t) (wants kinds t)
  covers (Ask r on) = by (is_of_memory r.kind)
    where
      by : (m : Bool) → Covers (λ (t : Tree) (u : Tree). t ≡ u) (wanted_by m p.kinds r on) (wanted_by m kinds r on)
      by true = (refl, more r, λ before lt. (refl, refl))
      by false = tt
  covers (Check address count write t) = tt
  covers (Fault exception) = tt
  covers (Ends e) = tt

  landed_more : (phase : Phase) (t : Tree) (address : ℕ) (point : Option Point) (regs : Regs) → Landed phase t p address point regs → Landed phase t (with_kinds p kinds) address point regs
  landed_more Plain (Ends (Finish s)) address (Some point) regs l = l
  landed_more phase t address point regs l = absurd l

  lands_more : (o : Option ℕ) (point : Option Point) (phase : Phase) (t : Tree) (regs : Regs) (Inside Inside' : Type 0) → (Inside → Inside') → Lands o point phase t p regs Inside → Lands o point phase t (with_kinds p kinds) regs Inside'
  lands_more (Some address) point phase t regs Inside Inside' f l = landed_more phase t address point regs l
  lands_more None point phase t regs Inside Inside' f l = f l

  called_more : (call : Call) (point : Option Point) (phase : Phase) (t : Tree) (c : Alpha) (Next Next' : Alpha → Tree → Type 0) → ((d : Alpha) (u : Tree) → Next d u → Next' d u) → Called call point phase t p c Next → Called call point phase t (with_kinds p kinds) c Next'
  called_more Probe (Some point) Plain (Check a k w t) c Next Next' f x = (x.0, x.1, x.2, λ ok. f _ t (x.3 ok))
  called_more Raise (Some point) Plain (Fault y) c Next Next' f x = x
  called_more Arithmetic (Some point) Plain (Ends (Trap kind s)) c Next Next' f x = x
  called_more LookUp point Plain (Ends (Finish s)) c Next Next' f x = x
  called_more Switch point Plain (Ends (Finish s)) c Next Next' f x = x
  called_more Serve (Some point) Plain t c Next Next' f x = (x.0, x.1, λ value lt. f _ _ (x.2 value lt))
  called_more call point phase t c Next Next' f x = absurd x

  pub more_follow : (n : ℕ) (phase : Phase) (spare : ℕ) (round : Round) (c : Alpha) (t : Tree) → Follows p n phase spare round c t → Follows (with_kinds p kinds) n phase spare round c t
  more_follow zero phase spare round c t f = no_steps (with_kinds p kinds) phase spare round c t
  more_follow (suc n) phase spare round c t f =
      let x = clause_of p n phase spare round c t f in
      begin (with_kinds p kinds) n phase spare round c t (
        x.0,
        x.1,
        x.2,
        steps_map (λ (t : Tree) (u : Tree). t ≡ u) (λ phase' left d v. Onward p (Follows p n) phase' left (round_behind phase' t round) d v) (λ phase' left d v. Onward (with_kinds p kinds) (Follows (with_kinds p kinds) n) phase' left (round_behind phase' t round) d v)
            p.bonus p.bonus (spare - 1) (spare - 1) t t
            (λ d v w r y. (y.0, subst (λ (u : Tree). Follows (with_kinds p kinds) n Plain (spare - 1 + p.bonus) (round_behind Plain t round) d u) r (more_follow n Plain (spare - 1 + p.bonus) (round_behind Plain t round) d v y.1)))
            (λ q found place d y. (y.0, more_follow n (Held q found place) (spare - 1) (stepped round) d t y.1))
            (λ place d y. (y.0, more_follow n (Failed place) (spare - 1 + retry_steps) (round_behind (Failed place) t round) d t y.1))
            (allowed_in p.pages) phase c (wants p.kinds t) (wants kinds t) (covers t) _ _ _ _
            (λ d y.
            lands_more (p.stops d.pc) (p.points d.pc) phase t d.regs
            (MayGo p.bonus p.first phase round c.pc d.pc × Follows p n (phase_after phase c.pc d.pc) (spare - 1) (round_after phase round c.pc d.pc) d t)
            (MayGo p.bonus p.first phase round c.pc d.pc × Follows (with_kinds p kinds) n (phase_after phase c.pc d.pc) (spare - 1) (round_after phase round c.pc d.pc) d t)
            (λ z. (z.0, more_follow n (phase_after phase c.pc d.pc) (spare - 1) (round_after phase round c.pc d.pc) d t z.1)) y)
            (λ k y.
            called_more (call_of k) (p.points c.pc) phase t c (λ d v. Onward p (Follows p n) Plain (spare - 1) new_round d v) (λ d v. Onward (with_kinds p kinds) (Follows (with_kinds p kinds) n) Plain (spare - 1) new_round d v)
            (λ d u z. (z.0, more_follow n Plain (spare - 1) new_round d u z.1)) y)
            (p.fetch c.pc) x.3,
      )

-- ---- so code that meets a permit meets one with more kinds
abbrev with_bonus : Placement → ℕ → Placement
with_bonus p bonus = record p { bonus = bonus }

module _ (meaning : Meaning) (permit permit' : Permit) (code : Code) (more : AllowsMore permit permit') where
  same_loops : (address : ℕ) → has_loop permit' address ≡ has_loop permit address
  same_loops address = ap (λ b. nat_lt 0 b) (more.bonus address)

  follows_more : (thread n : ℕ) (state : VaxState) (held : Flags) (first spare : ℕ) (round : Round) (c : Alpha) (t : Tree)
      → Follows (placed meaning permit code thread state held first) n Plain spare round c t → Follows (placed meaning permit' code thread state held first) n Plain spare round c t
  follows_more thread n state held first spare round c t f =
      let p = placed meaning permit code thread state held first in
      subst (λ b. Follows (with_bonus (with_kinds p (permit'.kinds state.pc)) b) n Plain spare round c t) (sym (more.bonus state.pc))
      (more_follow p (permit'.kinds state.pc) (more.kinds state.pc) n Plain spare round c t f)

  block_more : (address first : ℕ) → IsBlock meaning permit code address first → IsBlock meaning permit' code address first
  block_more address first b = record {
    point = b.point;
    has_point = b.has_point;
    its_points = b.its_points;
    words = b.words;
    ends = b.ends;
    within = b.within;
    stand = b.stand;
    tidy = subst (λ loops. IsTidy loops b.words) (sym (same_loops address)) b.tidy;
    follows = λ thread n state held regs lt ok at form shows. follows_more thread n state held first block_steps new_round (at_place regs first) (meaning.tree thread state) (b.follows thread n state held regs lt ok at form shows);
  }

  meets_more : Meets meaning permit code → Meets meaning permit' code
  meets_more m = record {
    few = m.few;
    map_rises = m.map_rises;
    points_rise = m.points_rise;
    blocks = λ address first is. block_more address first (m.blocks address first is);
  }

pub more_kinds_meet : MoreKindsMeet
more_kinds_meet meaning permit permit' code more m = meets_more meaning permit permit' code more m
