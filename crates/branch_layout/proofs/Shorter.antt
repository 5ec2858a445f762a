-- A block in code where its exits have fewer words does what it does in code where they have three.
use Rattle.std.proofs.Common.{◌≡◌, ℕ, zero, suc, ◌+◌, ◌-◌, ◌%◌, ◌^◌, ◌<◌, ◌≤◌, refl, sym, ◌∙◌, ap, subst, arith, Bool, true, false, Option, Some, None, ltb-true, ltb-false}
use Rattle.std.specs.Prelude.{ℤ, ◌==◌, ◌||◌, not, nat_lt, nat_le, if◌then◌else◌}
use Rattle.std.specs.Int.{cast_unsigned, w32}
use Rattle.std.specs.Option.{is_some}
use Rattle.std.proofs.lemmas.Bool.{and_parts}
use Rattle.std.proofs.lemmas.Bool.Decides.{nat_tests}
use Rattle.vax_form.specs.Tree.{Tree, Check, Fault, Ends, Finish, Trap}
use Rattle.vax_form.specs.declared.state.Flags.{Flags}
use Rattle.vax_form.specs.declared.state.VaxState.{VaxState}
use Rattle.alpha_encode.specs.Calls.{PROBE, LOOK_UP, SERVE, RAISE, TRAP, SWITCH}
use Rattle.alpha_encode.specs.declared.instr.AlphaInstr.{AlphaInstr}
use Rattle.alpha_encode.specs.declared.instr.AlphaInstr.TheVariants.{Memory, Branch, Operate, Jump, Pal}
use Rattle.alpha_meaning.specs.declared.access.AlphaAccess.{AlphaAccess}
use Rattle.alpha_meaning.specs.declared.access.AlphaKind.{AlphaKind}
use Rattle.alpha_meaning.specs.State.{Alpha, Regs, at_place}
use Rattle.alpha_meaning.specs.Act.{Does, Goes, Asks, Calls, act, memory_act_by, taken, target_of}
use Rattle.alpha_meaning.specs.Memory.{kind_of}
use Rattle.alpha_meaning.specs.Pieces.{Phase, Plain, Held, Failed, Acts, Steps, phase_after}
use Rattle.alpha_meaning.proofs.Laws.{steps_refine}
use Rattle.exception_records.specs.Points.{point_at}
use Rattle.exception_records.specs.declared.points.Point.{Point}
use Rattle.address_map.specs.Pairs.{address_at}
use Rattle.block_law.specs.References.{wants}
use Rattle.block_law.specs.Placements.{Placement, allowed_in}
use Rattle.block_law.specs.Rounds.{Round, new_round, round_behind, round_after, MayGo}
use Rattle.block_law.specs.Laws.{Ever}
use Rattle.block_law.specs.Follows.{Call, Probe, LookUp, Serve, Raise, Arithmetic, Switch, Other, call_of, Called, Landed, Lands, Onward, Follows}
use Rattle.block_law.specs.Translations.{Meaning, Permit, Code, fetch_of, end_of, placed}
use Rattle.block_law.proofs.Blocks.{no_steps, begin, open_follows}
use Rattle.branch_layout.specs.Ends.{stays, may_end}

-- ---- where a local step goes
-- a step to a later word keeps what was before
pub phase_kept : (phase : Phase) (pc pc' : ℕ) → pc < pc' → phase_after phase pc pc' ≡ phase
phase_kept Plain pc pc' lt = refl
phase_kept (Held quad found place) pc pc' lt = refl
phase_kept (Failed place) pc pc' lt = let yes : nat_lt pc pc' ≡ true = grind (arith, nat_tests) in rw yes refl

-- the target of a branch at a word of a block, in the code
pub target_moved : (first place : ℕ) (disp : ℤ) → first + target_of place disp < 2 ^ 32 → target_of (first + place) disp ≡ first + target_of place disp
target_moved first place disp small = moved (cast_unsigned w32 disp) small
  where
    moved : (d : ℕ) → first + (place + 1 + d) % 2 ^ 32 < 2 ^ 32 → (first + place + 1 + d) % 2 ^ 32 ≡ first + (place + 1 + d) % 2 ^ 32
    moved d small = omega arith

-- A word that stays goes to a word behind the block's first, up to that one.
pub stays_there : (first last place : ℕ) (i : AlphaInstr) (regs : Regs) (d : Alpha) → stays last place i ≡ true → place < last → first + last < 2 ^ 32 → act i (at_place regs (first + place)) ≡ Goes d
    → (first < d.pc) × (d.pc ≤ first + last)
stays_there first last place (Memory op ra rb disp) regs d ok lt small is = by (kind_of op) is
  where
    by : (o : Option AlphaKind) → memory_act_by o op ra rb disp (at_place regs (first + place)) ≡ Goes d → (first < d.pc) × (d.pc ≤ first + last)
    by None e = let at : d.pc ≡ first + place + 1 = goes_to e in (omega arith, omega arith)
      where
        goes_to : {a b : Alpha} → Goes a ≡ Goes b → b.pc ≡ a.pc
        goes_to e = cc
    by (Some kind) e = absurd (cc e)
stays_there first last place (Branch op ra disp) regs d ok lt small is = by (taken op (regs ra)) refl
  where
    goes_to : {a b : Alpha} → Goes a ≡ Goes b → b.pc ≡ a.pc
    goes_to e = cc

    at : d.pc ≡ (if taken op (regs ra) then target_of (first + place) disp else first + place + 1)
    at = goes_to is

    by : (b : Bool) → taken op (regs ra) ≡ b → (first < d.pc) × (d.pc ≤ first + last)
    by true e =
        let parts = and_parts (nat_lt 0 (target_of place disp)) (nat_le (target_of place disp) last) ok in
        let low : 0 < target_of place disp = ltb-true 0 (target_of place disp) parts.0 in
        let high : target_of place disp ≤ last = le_true (target_of place disp) last parts.1 in
        let there = target_moved first place disp (omega arith) in
        let to : d.pc ≡ target_of (first + place) disp = at ∙ rw e refl in
        (omega arith, omega arith)
      where
        le_true : (a b : ℕ) → nat_le a b ≡ true → a ≤ b
        le_true a b e = grind (arith, nat_tests, e)
    by false e = let to : d.pc ≡ first + place + 1 = at ∙ rw e refl in (omega arith, omega arith)
stays_there first last place (Operate op ra rb rc) regs d ok lt small is = let at : d.pc ≡ first + place + 1 = goes_to is in (omega arith, omega arith)
  where
    goes_to : {a b : Alpha} → Goes a ≡ Goes b → b.pc ≡ a.pc
    goes_to e = cc
stays_there first last place (Jump ra rb) regs d ok lt small is = absurd (cc ok)
stays_there first last place (Pal number) regs d ok lt small is = absurd (cc is)

-- ---- the last word before another block
-- it asks for no access
pub asks_nothing : (i : AlphaInstr) (c : Alpha) (a : AlphaAccess) → may_end i ≡ true → act i c ≡ Asks a → ⊥
asks_nothing (Memory op ra rb disp) c a ok is = by (kind_of op) ok is
  where
    by : (o : Option AlphaKind) → not (is_some o) ≡ true → memory_act_by o op ra rb disp c ≡ Asks a → ⊥
    by None ok e = absurd (cc e)
    by (Some kind) ok e = absurd (cc ok)
asks_nothing (Branch op ra disp) c a ok is = absurd (cc is)
asks_nothing (Operate op ra rb rc) c a ok is = absurd (cc is)
asks_nothing (Jump ra rb) c a ok is = absurd (cc is)
asks_nothing (Pal number) c a ok is = absurd (cc is)

-- the call switches to the interpreter; the block goes on behind the call
abbrev is_switch : Call → Bool
is_switch Switch = true
is_switch call = false

abbrev goes_on : Call → Bool
goes_on Probe = true
goes_on Serve = true
goes_on call = false

-- one of several calls
abbrev call_by : (probe look_up serve raise trap switch : Bool) → Call
call_by probe look_up serve raise trap switch =
    if probe then Probe
    else if look_up then LookUp
    else if serve then Serve
    else if raise then Raise
    else if trap then Arithmetic
    else if switch then Switch
    else Other

no_switch : (number : ℕ) → not (number == SWITCH) ≡ true → is_switch (call_of number) ≡ false
no_switch number ok = by (number == PROBE) (number == LOOK_UP) (number == SERVE) (number == RAISE) (number == TRAP) (number == SWITCH) ok
  where
    by : (a b c d f g : Bool) → not g ≡ true → is_switch (call_by a b c d f g) ≡ false
    by true b c d f g ok = refl
    by false true c d f g ok = refl
    by false false true d f g ok = refl
    by false false false true f g ok = refl
    by false false false false true g ok = refl
    by false false false false false true ok = absurd (cc ok)
    by false false false false false false ok = refl

no_going : (number : ℕ) → not (number == PROBE || number == SERVE) ≡ true → goes_on (call_of number) ≡ false
no_going number ok = by (number == PROBE) (number == LOOK_UP) (number == SERVE) (number == RAISE) (number == TRAP) (number == SWITCH) ok
  where
    by : (a b c d f g : Bool) → not (a || c) ≡ true → goes_on (call_by a b c d f g) ≡ false
    by true b c d f g ok = absurd (cc ok)
    by false true c d f g ok = refl
    by false false true d f g ok = absurd (cc ok)
    by false false false true f g ok = refl
    by false false false false true g ok = refl
    by false false false false false true ok = refl
    by false false false false false false ok = refl

-- ---- two codes that have the same words of a block up to one
module _ (meaning : Meaning) (permit : Permit) (thread : ℕ) (begun : VaxState) (held : Flags) (first : ℕ) (long short : Code) where
  -- the block in the code where its exits have three words, and where they may have fewer
  abbrev pub whole : Placement
  whole = placed meaning permit long thread begun held first

  abbrev pub real : Placement
  real = placed meaning permit short thread begun held first

  -- the state is shown there at the address of a block
  landed_real : (phase : Phase) (t : Tree) (address : ℕ) (point : Option Point) (regs : Regs) → Landed phase t whole address point regs → Landed phase t real address point regs
  landed_real Plain (Ends (Finish s)) address (Some point) regs l = l
  landed_real phase t address point regs l = absurd l

  -- the words before one are the same in both, and stay up to it
  pub record AreSame (last : ℕ) : Type 0 where
    pub few : first + last < 2 ^ 32
    pub within : first + last ≤ end_of short first
    pub word : (place : ℕ) → place < last → AlphaInstr
    pub stay : (place : ℕ) (lt : place < last) → stays last place (word place lt) ≡ true
    pub long_word : (place : ℕ) (lt : place < last) → fetch_of long.words (first + place) ≡ Some (word place lt)
    pub short_word : (place : ℕ) (lt : place < last) → fetch_of short.words (first + place) ≡ Some (word place lt)
    pub same_points : (place : ℕ) → place < last → point_at short.points (first + place) ≡ point_at long.points (first + place)
    pub inside : (w : ℕ) → first < w → w ≤ first + last → address_at long.map w ≡ None
    pub alone : (w : ℕ) → first < w → w < first + last → address_at short.map w ≡ None

  -- At that word another block begins, the state is shown there, and the word before may be the last; or the block goes on
  -- there, and follows what it follows in the other code.
  pub data AtCut (last : ℕ) (same : AreSame last) : Type 0 where
    lands_there : (address : ℕ) → address_at short.map (first + last) ≡ Some address
        → ((phase : Phase) (spare : ℕ) (round : Round) (regs : Regs) (t : Tree) → Ever whole phase spare round (at_place regs (first + last)) t → Landed phase t real address (point_at short.points (first + last)) regs)
        → ((place : ℕ) (lt : place < last) → place + 1 ≡ last → may_end (same.word place lt) ≡ true)
        → AtCut last same
    goes_there : address_at short.map (first + last) ≡ None
        → ((n : ℕ) (phase : Phase) (spare : ℕ) (round : Round) (regs : Regs) (t : Tree) → Ever whole phase spare round (at_place regs (first + last)) t → Follows real n phase spare round (at_place regs (first + last)) t)
        → AtCut last same

  module _ (last : ℕ) (same : AreSame last) (cut : AtCut last same) where
    -- what holds in the one code at a word before that one holds in the other for so many steps
    abbrev Carried : (n : ℕ) → Type 0
    Carried n = (place : ℕ) (phase : Phase) (spare : ℕ) (round : Round) (regs : Regs) (t : Tree) → place < last → Ever whole phase spare round (at_place regs (first + place)) t → Follows real n phase spare round (at_place regs (first + place)) t

    carry : (n : ℕ) → Carried n → (phase : Phase) (spare : ℕ) (round : Round) (d : Alpha) (t : Tree) → first < d.pc → d.pc < first + last → Ever whole phase spare round d t → Follows real n phase spare round d t
    carry n again phase spare round d t low high h =
        let there : first + (d.pc - first) ≡ d.pc = omega arith in
        subst (λ pc. Follows real n phase spare round (at_place d.regs pc) t) there
        (again (d.pc - first) phase spare round d.regs t (omega arith) (subst (λ pc. Ever whole phase spare round (at_place d.regs pc) t) (sym there) h))

    -- at that word, the other code lands only behind a word that may be the last
    no_end : (place : ℕ) (lt : place < last) → place + 1 ≡ last → (may_end (same.word place lt) ≡ true → ⊥) → (address : ℕ) → address_at short.map (first + last) ≡ Some address → ⊥
    no_end place lt e bad address at = by cut
      where
        by : AtCut last same → ⊥
        by (lands_there other there lands ends) = bad (ends place lt e)
        by (goes_there none follows) = absurd (cc (sym none ∙ at))

    -- a local step
    moves_on : (n : ℕ) → Carried n → (phase : Phase) (spare : ℕ) (round : Round) (pc : ℕ) (d : Alpha) (t : Tree) (G : Type 0) → pc < first + last → first < d.pc → d.pc ≤ first + last → G
        → Ever whole (phase_after phase pc d.pc) spare round d t → Lands (address_at short.map d.pc) (point_at short.points d.pc) phase t real d.regs (G × Follows real n (phase_after phase pc d.pc) spare round d t)
    moves_on n again phase spare round pc d t G from low high g h = by (nat_lt d.pc (first + last)) refl
      where
        Owed : Option ℕ → (pc' : ℕ) → Type 0
        Owed o pc' = Lands o (point_at short.points pc') phase t real d.regs (G × Follows real n (phase_after phase pc d.pc) spare round d t)

        ends : (at : d.pc ≡ first + last) → AtCut last same → Owed (address_at short.map (first + last)) (first + last)
        ends at (lands_there address there lands last_word) =
            let shown = lands (phase_after phase pc d.pc) spare round d.regs t (subst (λ pc'. Ever whole (phase_after phase pc d.pc) spare round (at_place d.regs pc') t) at h) in
            subst (λ o. Owed o (first + last)) (sym there)
            (subst (λ ph. Landed ph t real address (point_at short.points (first + last)) d.regs) (phase_kept phase pc d.pc (omega arith)) shown)
        ends at (goes_there none follows) =
            subst (λ o. Owed o (first + last)) (sym none) (
              g,
              subst (λ pc'. Follows real n (phase_after phase pc d.pc) spare round (at_place d.regs pc') t) (sym at)
                  (follows n (phase_after phase pc d.pc) spare round d.regs t (subst (λ pc'. Ever whole (phase_after phase pc d.pc) spare round (at_place d.regs pc') t) at h)),
            )

        by : (b : Bool) → nat_lt d.pc (first + last) ≡ b → Owed (address_at short.map d.pc) d.pc
        by true e =
            let lt = ltb-true d.pc (first + last) e in
            subst (λ o. Owed o d.pc) (sym (same.alone d.pc low lt)) (g, carry n again (phase_after phase pc d.pc) spare round d t low lt h)
        by false e =
            let late = ltb-false d.pc (first + last) e in
            let at : d.pc ≡ first + last = omega arith in
            subst (λ pc'. Owed (address_at short.map pc') pc') (sym at) (ends at cut)

    -- behind an access or a call
    goes_behind : (n : ℕ) → Carried n → (place : ℕ) (lt : place < last) → (may_end (same.word place lt) ≡ true → ⊥) → (phase : Phase) (spare : ℕ) (round : Round) (d : Alpha) (t : Tree) → d.pc ≡ first + place + 1
        → Onward whole (Ever whole) phase spare round d t → Onward real (Follows real n) phase spare round d t
    goes_behind n again place lt bad phase spare round d t at h = by (nat_lt d.pc (first + last)) refl
      where
        by : (b : Bool) → nat_lt d.pc (first + last) ≡ b → Onward real (Follows real n) phase spare round d t
        by true e = let below = ltb-true d.pc (first + last) e in (same.alone d.pc (omega arith) below, carry n again phase spare round d t (omega arith) below h.1)
        by false e = at_end cut
          where
            late : first + last ≤ d.pc
            late = ltb-false d.pc (first + last) e

            here : d.pc ≡ first + last
            here = let high = late in omega arith

            at_end : AtCut last same → Onward real (Follows real n) phase spare round d t
            at_end (lands_there address there lands ends) = absurd (bad (ends place lt (let e = here in omega arith)))
            at_end (goes_there none follows) = (
              ap (address_at short.map) here ∙ none,
              subst (λ pc'. Follows real n phase spare round (at_place d.regs pc') t) (sym here) (follows n phase spare round d.regs t (subst (λ pc'. Ever whole phase spare round (at_place d.regs pc') t) here h.1)),
            )

    -- a call, which does not switch
    called_real : (call : Call) (point : Option Point) (phase : Phase) (t : Tree) (c : Alpha) (Next Next' : Alpha → Tree → Type 0) → is_switch call ≡ false
        → (goes_on call ≡ true → (d : Alpha) (u : Tree) → d.pc ≡ c.pc + 1 → Next d u → Next' d u) → Called call point phase t whole c Next → Called call point phase t real c Next'
    called_real Probe (Some point) Plain (Check a k w t) c Next Next' ok f x = (x.0, x.1, x.2, λ fine. f refl _ t refl (x.3 fine))
    called_real Raise (Some point) Plain (Fault y) c Next Next' ok f x = x
    called_real Arithmetic (Some point) Plain (Ends (Trap kind s)) c Next Next' ok f x = x
    called_real LookUp point Plain (Ends (Finish s)) c Next Next' ok f x = x
    called_real Switch point Plain (Ends (Finish s)) c Next Next' ok f x = absurd (cc ok)
    called_real Serve (Some point) Plain t c Next Next' ok f x = (x.0, x.1, λ value lt. f refl _ _ refl (x.2 value lt))
    called_real call point phase t c Next Next' ok f x = absurd x

    -- the instruction that makes a call
    calls_number : (i : AlphaInstr) (c : Alpha) (number : ℕ) → act i c ≡ Calls number → i ≡ Pal number
    calls_number (Memory op ra rb disp) c number is = by (kind_of op) is
      where
        by : (o : Option AlphaKind) → memory_act_by o op ra rb disp c ≡ Calls number → Memory op ra rb disp ≡ Pal number
        by None e = absurd (cc e)
        by (Some kind) e = absurd (cc e)
    calls_number (Branch op ra disp) c number is = absurd (cc is)
    calls_number (Operate op ra rb rc) c number is = absurd (cc is)
    calls_number (Jump ra rb) c number is = absurd (cc is)
    calls_number (Pal n) c number is = let e : n ≡ number = cc in ap Pal e

    module _ (n : ℕ) (again : Carried n) (place : ℕ) (lt : place < last) (phase : Phase) (spare : ℕ) (round : Round) (regs : Regs) (t : Tree) where
      abbrev c : Alpha
      c = at_place regs (first + place)

      abbrev i : AlphaInstr
      i = same.word place lt

      -- what is owed behind the step in both codes
      abbrev MovesLong : Alpha → Type 0
      MovesLong d = Lands (whole.stops d.pc) (whole.points d.pc) phase t whole d.regs (MayGo whole.bonus first phase round c.pc d.pc × Ever whole (phase_after phase c.pc d.pc) (spare - 1) (round_after phase round c.pc d.pc) d t)

      abbrev MovesShort : Alpha → Type 0
      MovesShort d = Lands (real.stops d.pc) (real.points d.pc) phase t real d.regs (MayGo real.bonus first phase round c.pc d.pc × Follows real n (phase_after phase c.pc d.pc) (spare - 1) (round_after phase round c.pc d.pc) d t)

      abbrev PalsLong : ℕ → Type 0
      PalsLong number = Called (call_of number) (whole.points c.pc) phase t whole c (λ d u. Onward whole (Ever whole) Plain (spare - 1) new_round d u)

      abbrev PalsShort : ℕ → Type 0
      PalsShort number = Called (call_of number) (real.points c.pc) phase t real c (λ d u. Onward real (Follows real n) Plain (spare - 1) new_round d u)

      abbrev NextLong : Phase → ℕ → Alpha → Tree → Type 0
      NextLong phase' spare' d u = Onward whole (Ever whole) phase' spare' (round_behind phase' t round) d u

      abbrev NextShort : Phase → ℕ → Alpha → Tree → Type 0
      NextShort phase' spare' d u = Onward real (Follows real n) phase' spare' (round_behind phase' t round) d u

      acts_real : (does : Does) → act i c ≡ does → Acts does i (allowed_in whole.pages) whole.bonus phase (spare - 1) c (wants whole.kinds t) t MovesLong PalsLong NextLong
          → Acts does i (allowed_in real.pages) real.bonus phase (spare - 1) c (wants real.kinds t) t MovesShort PalsShort NextShort
      acts_real (Goes d) is h =
          let bounds = stays_there first last place i regs d (same.stay place lt) lt same.few is in
          let inside : MayGo whole.bonus first phase round c.pc d.pc × Ever whole (phase_after phase c.pc d.pc) (spare - 1) (round_after phase round c.pc d.pc) d t =
          subst (λ o. Lands o (whole.points d.pc) phase t whole d.regs (MayGo whole.bonus first phase round c.pc d.pc × Ever whole (phase_after phase c.pc d.pc) (spare - 1) (round_after phase round c.pc d.pc) d t)) (same.inside d.pc bounds.0 bounds.1) h
          in
          moves_on n again phase (spare - 1) (round_after phase round c.pc d.pc) c.pc d t (MayGo real.bonus first phase round c.pc d.pc) (omega arith) bounds.0 bounds.1 inside.0 inside.1
      acts_real (Asks a) is h =
          subst (λ does. Acts does i (allowed_in real.pages) real.bonus phase (spare - 1) c (wants real.kinds t) t (λ _. ⊥) (λ _. ⊥) NextShort) is
          (steps_refine (allowed_in whole.pages) whole.bonus phase (spare - 1) c t (λ _. ⊥) (λ _. ⊥) (λ _. ⊥) (λ _. ⊥) NextLong NextShort (λ d e. e) (λ k e. e)
          (λ phase' spare' d u at y. goes_behind n again place lt (λ ok. asks_nothing i c a ok is) phase' spare' (round_behind phase' t round) d u at y)
          (wants whole.kinds t) (Some i)
          (subst (λ does. Acts does i (allowed_in whole.pages) whole.bonus phase (spare - 1) c (wants whole.kinds t) t (λ _. ⊥) (λ _. ⊥) NextLong) (sym is) h))
      acts_real (Calls number) is h =
          let its : i ≡ Pal number = calls_number i c number is in
          let stay : not (number == SWITCH) ≡ true = subst (λ (w : AlphaInstr). stays last place w ≡ true) its (same.stay place lt) in
          let bad : goes_on (call_of number) ≡ true → may_end i ≡ true → ⊥ = λ goes ok. absurd (cc (sym goes ∙ no_going number (subst (λ (w : AlphaInstr). may_end w ≡ true) its ok))) in
          subst (λ o. Called (call_of number) o phase t real c (λ d u. Onward real (Follows real n) Plain (spare - 1) new_round d u)) (sym (same.same_points place lt))
          (called_real (call_of number) (whole.points c.pc) phase t c (λ d u. Onward whole (Ever whole) Plain (spare - 1) new_round d u) (λ d u. Onward real (Follows real n) Plain (spare - 1) new_round d u) (no_switch number stay)
          (λ goes d u at y. goes_behind n again place lt (bad goes) Plain (spare - 1) new_round d u at y) h)

      step_real : Ever whole phase spare round c t → Follows real (suc n) phase spare round c t
      step_real h =
          let x = open_follows whole phase spare round c t h in
          let room = same.within in
          begin real n phase spare round c t (
            x.0,
            omega arith,
            x.2,
            subst (λ o. Steps o (allowed_in real.pages) real.bonus phase (spare - 1) c (wants real.kinds t) t MovesShort PalsShort NextShort) (sym (same.short_word place lt))
                (acts_real (act i c) refl (subst (λ o. Steps o (allowed_in whole.pages) whole.bonus phase (spare - 1) c (wants whole.kinds t) t MovesLong PalsLong NextLong) (same.long_word place lt) x.3)),
          )

    -- What the block does from a word before that one in the code where its exits have three words, it does in the other.
    pub carried : (n : ℕ) → Carried n
    carried zero place phase spare round regs t lt h = no_steps real phase spare round (at_place regs (first + place)) t
    carried (suc n) place phase spare round regs t lt h = step_real n (carried n) place lt phase spare round regs t h
