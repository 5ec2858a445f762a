-- What no block may do that follows a tree.
use Rattle.std.proofs.Common.{◌≡◌, ◌≢◌, ℕ, suc, ◌+◌, ◌-◌, ◌*◌, ◌/◌, ◌%◌, ◌<◌, ◌≤◌, refl, sym, ◌∙◌, subst, ap, arith, List, [], ◌∷◌, Bool, true, false, Option, Some, None}
use Rattle.std.specs.Prelude.{not, ◌&&◌, ◌||◌}
use Rattle.std.specs.List.{list_any}
use Rattle.alpha_encode.specs.declared.instr.AlphaInstr.{AlphaInstr}
use Rattle.alpha_encode.specs.declared.instr.AlphaInstr.TheVariants.{Memory, Branch, Operate, Jump, Pal}
use Rattle.vax_form.specs.Tree.{Tree, Ask, Ends, Finish}
use Rattle.vax_form.specs.declared.state.Reference.{Reference}
use Rattle.vax_form.specs.declared.state.VaxState.{VaxState}
use Rattle.alpha_meaning.specs.State.{Alpha, Regs}
use Rattle.alpha_meaning.specs.declared.access.AlphaAccess.{AlphaAccess}
use Rattle.alpha_meaning.specs.Act.{Asks, act}
use Rattle.alpha_meaning.specs.Pieces.{Allowed, Phase, Plain, Held, Wants, Suits, Acts, Steps}
use Rattle.exception_records.specs.declared.points.Point.{Point}
use Rattle.exception_records.specs.declared.rules.CodeRule.TheVariants.{Zero}
use Rattle.block_law.specs.Placements.{Placement, target}
use Rattle.block_law.specs.Rounds.{Round, MayGo}
use Rattle.block_law.specs.References.{is_of_memory, wanted_by, wants}
use Rattle.block_law.specs.Tidy.{is_kept, register_written, may_raise, may_fault, keeps_until, keeps_to}
use Rattle.block_law.specs.Follows.{call_of, Called, Landed, Follows}
use Rattle.block_law.proofs.Blocks.{clause_of}
use Rattle.vt_words.specs.Values.{bit}
use Rattle.exception_records.specs.Shown.{psw_shown, codes_shown, still_held}

-- make a step where none is spare
pub no_spare : (p : Placement) (n : ℕ) (phase : Phase) (round : Round) (c : Alpha) (t : Tree) → Follows p (suc n) phase 0 round c t → ⊥
no_spare p n phase round c t h = let x = (clause_of p n phase 0 round c t h).2 in absurd (omega arith)

-- probe behind a load-locked access
pub held_call : (q found place : ℕ) (point : Option Point) (t : Tree) (p : Placement) (c : Alpha) (Next : Alpha → Tree → Type 0) → Called (call_of 0x80) point (Held q found place) t p c Next → ⊥
held_call q found place (Some point) t p c Next h = h
held_call q found place None t p c Next h = h

-- probe at a word without a point
pub no_point : (t : Tree) (p : Placement) (c : Alpha) (Next : Alpha → Tree → Type 0) → Called (call_of 0x80) None Plain t p c Next → ⊥
no_point t p c Next h = h

-- serve, raise or trap there
pub no_point_to_serve : (t : Tree) (p : Placement) (c : Alpha) (Next : Alpha → Tree → Type 0) → Called (call_of 0x82) None Plain t p c Next → ⊥
no_point_to_serve t p c Next h = h

pub no_point_to_raise : (t : Tree) (p : Placement) (c : Alpha) (Next : Alpha → Tree → Type 0) → Called (call_of 0x83) None Plain t p c Next → ⊥
no_point_to_raise t p c Next h = h

pub no_point_to_trap : (t : Tree) (p : Placement) (c : Alpha) (Next : Alpha → Tree → Type 0) → Called (call_of 0x84) None Plain t p c Next → ⊥
no_point_to_trap t p c Next h = h

-- call PAL 85
pub no_call_85 : (point : Option Point) (phase : Phase) (t : Tree) (p : Placement) (c : Alpha) (Next : Alpha → Tree → Type 0) → Called (call_of 0x85) point phase t p c Next → ⊥
no_call_85 point phase t p c Next h = h

-- switch to the interpreter at an address that has a block
pub mapped_switch : (s : VaxState) (p : Placement) (c : Alpha) (word : ℕ) (Next : Alpha → Tree → Type 0) → p.maps (target c.regs) ≡ Some word → Called (call_of 0x86) None Plain (Ends (Finish s)) p c Next → ⊥
mapped_switch s p c word Next at h = let none = h.2 in cc

-- land at another address than the state's
pub elsewhere : (s : VaxState) (p : Placement) (address other : ℕ) (point : Point) (regs : Regs) → address < other → s.pc ≡ other → Landed Plain (Ends (Finish s)) p address (Some point) regs → ⊥
elsewhere s p address other point regs lt is h = let at : s.pc ≡ address = ap (λ (s : VaxState). s.pc) h.1 in absurd (omega arith)

-- land with N as its register has it, where the instruction wrote N and its rule says 0
pub not_dropped : (s : VaxState) (p : Placement) (address : ℕ) (point : Point) (regs : Regs) → p.held.n ≡ true → p.written.n ≡ true → point.rules.n ≡ Zero → s.psw / 8 % 2 ≡ 1 → Landed Plain (Ends (Finish s)) p address (Some point) regs → ⊥
not_dropped s p address point regs held written rule is h =
    let e : s.psw ≡ psw_shown regs point.rules (still_held p.held p.written) = ap (λ (s : VaxState). s.psw) h.1 in
    clash (regs 20) (bit (codes_shown regs point.rules (still_held p.held p.written)).z) (bit (codes_shown regs point.rules (still_held p.held p.written)).v) (bit (codes_shown regs point.rules (still_held p.held p.written)).c) s.psw
    (bit_le _) (bit_le _) (bit_le _) (rw (rule, held, written) at e) is
  where
    bit_le : (b : Bool) → bit b ≤ 1
    bit_le true = omega arith
    bit_le false = omega arith

    clash : (u a b c psw : ℕ) → a ≤ 1 → b ≤ 1 → c ≤ 1 → psw ≡ u / 16 % 16 * 16 + (0 * 8 + a * 4 + b * 2 + c) → psw / 8 % 2 ≡ 1 → ⊥
    clash u a b c psw la lb lc e is = absurd (omega arith)

-- ---- loops
-- a step back where accesses allow nothing more
pub no_bonus : (first pc pc' : ℕ) (round : Round) → pc' ≤ pc → MayGo 0 first Plain round pc pc' → ⊥
no_bonus first pc pc' round back h = let some = (h.1 back).0 in absurd (omega arith)

-- a turn of a loop that makes no access, no read, or two
pub no_reads : (bonus first pc pc' : ℕ) (round : Round) → pc' ≤ pc → round.reads ≢ 1 → MayGo bonus first Plain round pc pc' → ⊥
no_reads bonus first pc pc' round back none h = none (h.1 back).1.reads

pub no_writes : (bonus first pc pc' : ℕ) (round : Round) → pc' ≤ pc → round.writes ≢ 1 → MayGo bonus first Plain round pc pc' → ⊥
no_writes bonus first pc pc' round back none h = none (h.1 back).1.writes

-- an interlocked access in a turn
pub interlocked_turn : (bonus first pc pc' : ℕ) (round : Round) → pc' ≤ pc → 0 < round.others → MayGo bonus first Plain round pc pc' → ⊥
interlocked_turn bonus first pc pc' round back some h = let none = (h.1 back).1.others in absurd (omega arith)

-- a turn of more steps than a block may take
pub long_turn : (bonus first pc pc' : ℕ) (round : Round) → pc' ≤ pc → round.failed ≡ 0 → 256 ≤ round.steps → MayGo bonus first Plain round pc pc' → ⊥
long_turn bonus first pc pc' round back none long h = let few = (h.1 back).1.steps in absurd (omega arith)

-- a step back to the block's first word
pub to_the_first : (bonus first pc : ℕ) (round : Round) → MayGo bonus first Plain round pc first → ⊥
to_the_first bonus first pc round h = let more = h.0 in absurd (omega arith)

-- a register of the VAX written before a later probe, in a block with a loop too
pub probe_behind_kept : (loops : Bool) (i : AlphaInstr) (is : List AlphaInstr) → is_kept (register_written i) ≡ true → list_any may_raise is ≡ true → keeps_until (keeps_to loops) (i ∷ is) ≡ true → ⊥
probe_behind_kept true i is kept probes h = refused (is_kept (register_written i)) (list_any may_raise is) _ kept probes h
  where
    refused : (a b c : Bool) → a ≡ true → b ≡ true → (not (a && b) && c) ≡ true → ⊥
    refused true true c ea eb e = absurd (cc e)
    refused true false c ea eb e = absurd (cc eb)
    refused false b c ea eb e = absurd (cc ea)
probe_behind_kept false i is kept probes h = refused (is_kept (register_written i)) (list_any may_fault is) _ kept (faults is probes) h
  where
    refused : (a b c : Bool) → a ≡ true → b ≡ true → (not (a && b) && c) ≡ true → ⊥
    refused true true c ea eb e = absurd (cc e)
    refused true false c ea eb e = absurd (cc eb)
    refused false b c ea eb e = absurd (cc ea)

    -- what may raise may fault
    faults_one : (i : AlphaInstr) → may_raise i ≡ true → may_fault i ≡ true
    faults_one (Memory op ra rb disp) e = absurd (cc e)
    faults_one (Branch op ra disp) e = absurd (cc e)
    faults_one (Operate op ra rb rc) e = absurd (cc e)
    faults_one (Jump ra rb) e = absurd (cc e)
    faults_one (Pal number) e = e

    either : (a b a' b' : Bool) → (a ≡ true → a' ≡ true) → (b ≡ true → b' ≡ true) → (a || b) ≡ true → (a' || b') ≡ true
    either true b true b' f g e = refl
    either true b false b' f g e = absurd (cc (f refl))
    either false b true b' f g e = refl
    either false b false b' f g e = g e

    faults : (is : List AlphaInstr) → list_any may_raise is ≡ true → list_any may_fault is ≡ true
    faults [] e = absurd (cc e)
    faults (i ∷ is) e = either (may_raise i) (list_any may_raise is) (may_fault i) (list_any may_fault is) (faults_one i) (faults is) e

-- ---- kinds
-- an access that does not suit what is wanted is no step
never : {T : Type 0} (o : Option AlphaInstr) (i : AlphaInstr) (a : AlphaAccess) (allowed : Allowed) (bonus : ℕ) (phase : Phase) (spare : ℕ) (c : Alpha) (w : Wants T) (t : T) (Moves : Alpha → Type 0) (Pals : ℕ → Type 0) (Next : Phase → ℕ → Alpha → T → Type 0)
    → o ≡ Some i → act i c ≡ Asks a → (Suits w a.kind a.bytes → ⊥) → Steps o allowed bonus phase spare c w t Moves Pals Next → ⊥
never o i a allowed bonus phase spare c w t Moves Pals Next at asks none h =
    none ((subst (λ does. Acts does i allowed bonus phase spare c w t Moves Pals Next) asks (subst (λ o. Steps o allowed bonus phase spare c w t Moves Pals Next) at h)).2)

-- a load-locked access for a reference that may only be stored
pub locked_for_a_store : (p : Placement) (n spare : ℕ) (phase : Phase) (round : Round) (c : Alpha) (i : AlphaInstr) (a : AlphaAccess) (r : Reference) (on : ℕ → Tree)
    → p.fetch c.pc ≡ Some i → act i c ≡ Asks a → p.kinds r a.kind a.bytes ≡ false → Follows p (suc n) phase spare round c (Ask r on) → ⊥
locked_for_a_store p n spare phase round c i a r on at asks only h =
    never (p.fetch c.pc) i a _ _ phase (spare - 1) c (wants p.kinds (Ask r on)) (Ask r on) _ _ _ at asks (suits (is_of_memory r.kind)) (clause_of p n phase spare round c (Ask r on) h).3
  where
    suits : (m : Bool) → Suits (wanted_by m p.kinds r on) a.kind a.bytes → ⊥
    suits true s = absurd (cc (sym s ∙ only))
    suits false s = s

-- an access where the tree wants none
pub access_for_nothing : (p : Placement) (n spare : ℕ) (phase : Phase) (round : Round) (c : Alpha) (i : AlphaInstr) (a : AlphaAccess) (s : VaxState)
    → p.fetch c.pc ≡ Some i → act i c ≡ Asks a → Follows p (suc n) phase spare round c (Ends (Finish s)) → ⊥
access_for_nothing p n spare phase round c i a s at asks h =
    never (p.fetch c.pc) i a _ _ phase (spare - 1) c (wants p.kinds (Ends (Finish s))) (Ends (Finish s)) _ _ _ at asks (λ none. none) (clause_of p n phase spare round c (Ends (Finish s)) h).3
