-- What a piece of code does, against a plan of the accesses to memory that count.
-- The rules on load-locked accesses and stores conditional are those of the Alpha Architecture Reference Manual,
-- 4.2 "Load Memory Data into Integer Register Locked" and "Store Integer Register Data into Memory Conditional".
use Rattle.std.specs.Prelude.{ℕ, zero, suc, ◌≡◌, ◌+◌, ◌-◌, ◌*◌, ◌/◌, ◌%◌, ◌^◌, ◌<◌, ◌≤◌, ◌==◌, nat_lt, if◌then◌else◌, Bool, true, false, List, [], ◌∷◌, Option, Some, None}
use Rattle.vt_words.specs.Quad.{field_of, with_field_of}
use Rattle.alpha_encode.specs.declared.instr.AlphaInstr.{AlphaInstr}
use Rattle.alpha_meaning.specs.declared.access.AlphaKind.{AlphaKind}
use Rattle.alpha_meaning.specs.declared.access.AlphaKind.TheVariants.{Load, LoadLocked, Store, StoreConditional}
use Rattle.alpha_meaning.specs.declared.access.AlphaAccess.{AlphaAccess}
use Rattle.alpha_meaning.specs.State.{Alpha, Regs}
use Rattle.alpha_meaning.specs.Memory.{stores}
use Rattle.alpha_meaning.specs.Act.{Does, Goes, Asks, Calls, act, finished}

-- the most words of code: those of 32,768 blocks of 256 words
abbrev pub most_words : ℕ
most_words = 2 ^ 23

-- ---- one access
-- the address of the quadword that it stands in
abbrev pub quad_of : AlphaAccess → ℕ
quad_of a = a.address / 8 * 8

-- its bytes of that quadword
abbrev pub loaded : AlphaAccess → (quad : ℕ) → ℕ
loaded a before = field_of before (a.address % 8) a.bytes

-- what it leaves of that quadword where it stores
abbrev pub changed : AlphaAccess → (quad : ℕ) → ℕ
changed a before = with_field_of before (a.address % 8) a.bytes a.value

-- may this quadword be loaded (false) or stored (true)?
abbrev pub Allowed : Type 0
Allowed = (store : Bool) (quad : ℕ) → Bool

-- may an access of this kind, of so many bytes, be made?
abbrev pub Kinds : Type 0
Kinds = AlphaKind → (bytes : ℕ) → Bool

-- what is asked of every access of a piece, and what it earns
pub record Terms : Type 0 where
  -- the quadwords that may be loaded and stored
  pub allowed : Allowed
  -- the kinds of accesses that may be made
  pub kinds : Kinds
  -- how many steps more each access that counts allows
  pub bonus : ℕ

-- every kind of access, and no steps more
abbrev pub plain_terms : Allowed → Terms
plain_terms allowed = record { allowed = allowed; kinds = λ kind bytes. true; bonus = 0 }

-- the instruction at each place
abbrev pub Fetch : Type 0
Fetch = ℕ → Option AlphaInstr

-- ---- plans
-- an access that counts: its quadword, what it leaves for what it finds, and how the plan goes on for that
pub data Plan (A : Type 0) : Type 0 where
  Access : (quad : ℕ) → (leaves : ℕ → ℕ) → (ℕ → Plan A) → Plan A
  Over : A → Plan A

-- one plan and then another
abbrev pub bind : {A B : Type 0} → Plan A → (A → Plan B) → Plan B
bind (Access quad leaves rest) f = Access quad leaves (λ before. bind (rest before) f)
bind (Over a) f = f a

-- the next access of any tree, and the kinds that may be made for it
pub data Wants (T : Type 0) : Type 0 where
  Wanted : (quad : ℕ) → (leaves : ℕ → ℕ) → Kinds → (ℕ → T) → Wants T
  Nothing : Wants T

-- a plan's accesses are all made by the same kinds
abbrev pub wants : {A : Type 0} → Kinds → Plan A → Wants (Plan A)
wants kinds (Access quad leaves rest) = Wanted quad leaves kinds rest
wants kinds (Over a) = Nothing

-- ---- one step
-- how many steps a failed store conditional allows more: those of one turn of its loop
abbrev pub retry_steps : ℕ
retry_steps = 16

-- what was before: nothing that matters; a load-locked access at this word, of this quadword, which found that;
-- or a store conditional that failed behind the load-locked access at this word
pub data Phase : Type 0 where
  Plain : Phase
  Held : (quad found place : ℕ) → Phase
  Failed : (place : ℕ) → Phase

-- the wanted access is made: of this quadword, with this left of it, for each value before that fits
abbrev pub Made : {T : Type 0} → Wants T → (quad : ℕ) → (left : ℕ → ℕ) → (Fits : ℕ → Type 0) → (ℕ → T → Type 0) → Type 0
Made (Wanted quad' leaves kinds rest) quad left Fits Next = (quad' ≡ quad) × ((before : ℕ) → before < 2 ^ 64 → Fits before → (left before ≡ leaves before) × Next before (rest before))
Made Nothing quad left Fits Next = ⊥

-- an access of that kind may be made for the one that is wanted
abbrev pub Suits : {T : Type 0} → Wants T → AlphaKind → (bytes : ℕ) → Type 0
Suits (Wanted quad leaves kinds rest) kind bytes = kinds kind bytes ≡ true
Suits Nothing kind bytes = ⊥

-- Loads and stores count. A store conditional comes behind a load-locked access of the same quadword with no other
-- access between, and nothing else comes behind one. Where it succeeds it counts, and it finds what that access found.
-- Where it fails there may be some steps more.
abbrev pub Accesses : {T : Type 0} → AlphaKind → Phase → (place : ℕ) → Wants T → (quad : ℕ) → (left : ℕ → ℕ) → (on : ℕ → Bool → Alpha) → (bonus spare : ℕ) → T → (Phase → ℕ → Alpha → T → Type 0) → Type 0
Accesses Load Plain place w quad left on bonus spare t Next = Made w quad (λ before. before) (λ _. Unit {0}) (λ before u. Next Plain (spare + bonus) (on before true) u)
Accesses Store Plain place w quad left on bonus spare t Next = Made w quad left (λ _. Unit {0}) (λ before u. Next Plain (spare + bonus) (on before true) u)
Accesses LoadLocked Plain place w quad left on bonus spare t Next = (before : ℕ) → before < 2 ^ 64 → Next (Held quad before place) spare (on before true) t
Accesses StoreConditional (Held quad' found first) place w quad left on bonus spare t Next =
    (quad ≡ quad')
    × Made w quad left (λ before. before ≡ found) (λ before u. Next Plain (spare + bonus) (on before true) u)
    × ((before : ℕ) → before < 2 ^ 64 → Next (Failed first) (spare + retry_steps) (on before false) t)
Accesses kind phase place w quad left on bonus spare t Next = ⊥

-- by what the instruction does: `Moves` of a local step, `Pals` of a call, `Next` behind an access, which is naturally
-- aligned, in a page that allows it, and of a kind that may be made for the wanted one
abbrev pub Acts : {T : Type 0} → Does → AlphaInstr → Allowed → (bonus : ℕ) → Phase → (spare : ℕ) → Alpha → Wants T → T → (Moves : Alpha → Type 0) → (Pals : ℕ → Type 0) → (Phase → ℕ → Alpha → T → Type 0) → Type 0
Acts (Goes d) i allowed bonus phase spare c w t Moves Pals Next = Moves d
Acts (Asks a) i allowed bonus phase spare c w t Moves Pals Next =
    (a.address % a.bytes ≡ 0)
    × (allowed (stores a.kind) (quad_of a) ≡ true)
    × Suits w a.kind a.bytes
    × Accesses a.kind phase c.pc w (quad_of a) (changed a) (λ before success. finished i (loaded a before) success c) bonus spare t Next
Acts (Calls n) i allowed bonus phase spare c w t Moves Pals Next = Pals n

-- there is an instruction, and it does that
abbrev pub Steps : {T : Type 0} → Option AlphaInstr → Allowed → (bonus : ℕ) → Phase → (spare : ℕ) → Alpha → Wants T → T → (Moves : Alpha → Type 0) → (Pals : ℕ → Type 0) → (Phase → ℕ → Alpha → T → Type 0) → Type 0
Steps None allowed bonus phase spare c w t Moves Pals Next = ⊥
Steps (Some i) allowed bonus phase spare c w t Moves Pals Next = Acts (act i c) i allowed bonus phase spare c w t Moves Pals Next

-- A step goes back only behind a failed store, from one of the words of a turn from the load-locked access on, by fewer
-- words than a turn has, and never to the first word.
abbrev pub Forth : Phase → (from pc pc' : ℕ) → Type 0
Forth Plain from pc pc' = pc < pc'
Forth (Held quad found place) from pc pc' = pc < pc'
Forth (Failed place) from pc pc' = (from < pc') × (pc' ≤ pc → (pc < place + retry_steps) × (pc < pc' + retry_steps))

-- a step back ends the turn
abbrev pub phase_after : Phase → (pc pc' : ℕ) → Phase
phase_after Plain pc pc' = Plain
phase_after (Held quad found place) pc pc' = Held quad found place
phase_after (Failed place) pc pc' = if nat_lt pc pc' then Failed place else Plain

-- ---- pieces of code
-- words from `from` up to `to`
pub record Piece : Type 0 where
  pub fetch : Fetch
  pub terms : Terms
  pub from : ℕ
  pub to : ℕ

abbrev pub Choose : Bool → Type 0 → Type 0 → Type 0
Choose true A B = A
Choose false A B = B

-- at its end the plan is over, and the registers are as stated
abbrev pub Ended : {A : Type 0} → (Ends : A → Regs → Type 0) → Phase → Plan A → Regs → Type 0
Ended Ends Plain (Over a) regs = Ends a regs
Ended Ends Plain (Access quad leaves rest) regs = ⊥
Ended Ends (Held quad found place) t regs = ⊥
Ended Ends (Failed place) t regs = ⊥

-- for n steps, whatever memory answers, the code makes just the accesses that the plan still has, and at its end the
-- registers are as `Ends` says; `spare` steps are left, to which each failed store adds those of a turn
unfoldable pub Runs : {A : Type 0} → Piece → (Ends : A → Regs → Type 0) → (n : ℕ) → Phase → (spare : ℕ) → Alpha → Plan A → Type 0
Runs p Ends zero phase spare c t = Unit {0}
Runs p Ends (suc n) phase spare c t =
    Choose (c.pc == p.to) (Ended Ends phase t c.regs)
    ((p.from ≤ c.pc) × (c.pc < p.to) × (0 < spare)
    × Steps (p.fetch c.pc) p.terms.allowed p.terms.bonus phase (spare - 1) c (wants p.terms.kinds t) t (λ d. Forth phase p.from c.pc d.pc × (d.pc ≤ p.to) × Runs p Ends n (phase_after phase c.pc d.pc) (spare - 1) d t) (λ _. ⊥) (Runs p Ends n))

-- ---- words at a place
abbrev pub HasAt : Fetch → (pc : ℕ) → List AlphaInstr → Type 0
HasAt fetch pc [] = Unit {0}
HasAt fetch pc (i ∷ is) = (fetch pc ≡ Some i) × HasAt fetch (pc + 1) is

abbrev pub piece : Fetch → Terms → (from to : ℕ) → Piece
piece fetch terms from to = record { fetch = fetch; terms = terms; from = from; to = to }

-- only registers that the test allows have changed
abbrev pub Only : (may : ℕ → Bool) → (old new : Regs) → Type 0
Only may old new = (n : ℕ) → may n ≡ false → new n ≡ old n
