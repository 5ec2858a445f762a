-- How to prove that a piece runs its plan, instruction by instruction.
use Rattle.std.proofs.Common.{◌≡◌, ℕ, zero, suc, ◌+◌, ◌-◌, ◌*◌, ◌/◌, ◌%◌, ◌^◌, ◌<◌, ◌≤◌, refl, sym, ap, ◌∙◌, subst, arith, List, [], ◌∷◌, ◌++◌, length, Some, Bool, true, false, eqb, eqb-true, cond, add-zero}
use Rattle.std.specs.Prelude.{ℤ, nat_lt}
use Rattle.std.specs.List.{list_all}
use Rattle.std.proofs.lemmas.Bool.{and_parts}
use Rattle.std.proofs.lemmas.Bool.Decides.{nat_tests}
use Rattle.std.proofs.Math.Nat.{mod-mod}
use Rattle.vt_words.specs.Quad.{field_of, with_field_of}
use Rattle.alpha_encode.specs.declared.instr.BranchOp.{BranchOp}
use Rattle.alpha_encode.specs.declared.instr.BranchOp.TheVariants.{Br, Bsr}
use Rattle.alpha_encode.specs.declared.instr.AlphaInstr.{AlphaInstr}
use Rattle.alpha_encode.specs.declared.instr.AlphaInstr.TheVariants.{Memory, Branch, Operate, Jump, Pal}
use Rattle.alpha_meaning.specs.declared.access.AlphaKind.TheVariants.{Load, LoadLocked, Store, StoreConditional}
use Rattle.alpha_meaning.specs.State.{Alpha, Regs, put, at_place}
use Rattle.alpha_meaning.specs.Act.{Does, Goes, Asks, act, finished, second_value, taken, links, target_of}
use Rattle.alpha_meaning.specs.Result.{result_of}
use Rattle.alpha_meaning.specs.Pieces.{Fetch, Plan, Access, Over, wants, retry_steps, Phase, Plain, Held, Failed, Acts, Steps, Forth, phase_after, Piece, Runs, HasAt, Only}
use Rattle.alpha_meaning.specs.Loops.{is_operate, written, effect, effects, fine}
use Rattle.alpha_meaning.proofs.Laws.{no_steps, begin, ends}

-- for up to `most` steps, where at least `need` steps are left
abbrev pub Always : {A : Type 0} → Piece → (A → Regs → Type 0) → ℕ → ℕ → Phase → Alpha → Plan A → Type 0
Always p Ends most need phase c t = (n spare : ℕ) → n ≤ most → need ≤ spare → Runs p Ends n phase spare c t

forth : (phase : Phase) (from pc pc' : ℕ) → from ≤ pc → pc < pc' → Forth phase from pc pc'
forth Plain from pc pc' h k = k
forth (Held _ _ _) from pc pc' h k = k
forth (Failed _) from pc pc' h k = (omega arith, λ le. absurd (omega arith))

ahead : (phase : Phase) (pc pc' : ℕ) → pc < pc' → phase_after phase pc pc' ≡ phase
ahead Plain pc pc' lt = refl
ahead (Held _ _ _) pc pc' lt = refl
ahead (Failed place) pc pc' lt = rw (is_less pc pc' lt) refl
  where
    is_less : (a b : ℕ) → a < b → nat_lt a b ≡ true
    is_less a b lt = grind (arith, nat_tests)

-- a branch that links is taken
pub not_linked : (op : BranchOp) (a : ℕ) → taken op a ≡ false → links op ≡ false
not_linked Br a e = cc
not_linked Bsr a e = cc
not_linked op a e = refl

module _ {A : Type 0} (p : Piece) (Ends : A → Regs → Type 0) where
  pub done : (most : ℕ) (c : Alpha) (a : A) → c.pc ≡ p.to → Ends a c.regs → Always p Ends most 0 Plain c (Over a)
  done most c a at h n spare le room = ends p Ends n spare c a at h

  -- room for more steps than are needed
  pub roomy : (most need need' : ℕ) (phase : Phase) (c : Alpha) (t : Plan A) → need ≤ need' → Always p Ends most need phase c t → Always p Ends most need' phase c t
  roomy most need need' phase c t le h n spare le' room = h n spare le' (omega arith)

  -- one step, from what its instruction does
  stepped : (n need spare : ℕ) (phase : Phase) (c : Alpha) (t : Plan A) (i : AlphaInstr) (does : Does) → p.fetch c.pc ≡ Some i → act i c ≡ does → p.from ≤ c.pc → c.pc < p.to → 0 < spare
      → Acts does i p.terms.allowed p.terms.bonus phase (spare - 1) c (wants p.terms.kinds t) t (λ d. Forth phase p.from c.pc d.pc × (d.pc ≤ p.to) × Runs p Ends n (phase_after phase c.pc d.pc) (spare - 1) d t) (λ _. ⊥) (Runs p Ends n)
      → Runs p Ends (suc n) phase spare c t
  stepped n need spare phase c t i does at is from to some h =
      begin p Ends n phase spare c t (
        from,
        to,
        some,
        subst (λ o. Steps o p.terms.allowed p.terms.bonus phase (spare - 1) c (wants p.terms.kinds t) t (λ d. Forth phase p.from c.pc d.pc × (d.pc ≤ p.to) × Runs p Ends n (phase_after phase c.pc d.pc) (spare - 1) d t) (λ _. ⊥) (Runs p Ends n)) (sym at)
            (subst (λ x. Acts x i p.terms.allowed p.terms.bonus phase (spare - 1) c (wants p.terms.kinds t) t (λ d. Forth phase p.from c.pc d.pc × (d.pc ≤ p.to) × Runs p Ends n (phase_after phase c.pc d.pc) (spare - 1) d t) (λ _. ⊥) (Runs p Ends n)) (sym is) h),
      )

  -- a local step, forward or back
  pub moves : (most need : ℕ) (phase : Phase) (c d : Alpha) (i : AlphaInstr) (t : Plan A) → p.fetch c.pc ≡ Some i → act i c ≡ Goes d → p.from ≤ c.pc → c.pc < p.to → Forth phase p.from c.pc d.pc → d.pc ≤ p.to
      → Always p Ends most need (phase_after phase c.pc d.pc) d t → Always p Ends most (need + 1) phase c t
  moves most need phase c d i t at is from to way within rest zero spare le room = no_steps p Ends phase spare c t
  moves most need phase c d i t at is from to way within rest (suc n) spare le room =
      stepped n need spare phase c t i (Goes d) at is from to (omega arith) (way, within, rest n (spare - 1) (omega arith) (omega arith))

  pub goes : (most need : ℕ) (phase : Phase) (c d : Alpha) (i : AlphaInstr) (t : Plan A) → p.fetch c.pc ≡ Some i → act i c ≡ Goes d → p.from ≤ c.pc → c.pc < d.pc → d.pc ≤ p.to
      → Always p Ends most need phase d t → Always p Ends most (need + 1) phase c t
  goes most need phase c d i t at is from way within rest = moves most need phase c d i t at is from (omega arith) (forth phase p.from c.pc d.pc from way) within (subst (λ x. Always p Ends most need x d t) (sym (ahead phase c.pc d.pc way)) rest)

  -- a branch that is not taken
  pub passes : (most need : ℕ) (phase : Phase) (c : Alpha) (op : BranchOp) (ra : ℕ) (disp : ℤ) (t : Plan A) → p.fetch c.pc ≡ Some (Branch op ra disp) → taken op (c.regs ra) ≡ false → p.from ≤ c.pc → c.pc < p.to
      → Always p Ends most need phase (at_place c.regs (c.pc + 1)) t → Always p Ends most (need + 1) phase c t
  passes most need phase c op ra disp t at not_taken from to rest = goes most need phase c (at_place c.regs (c.pc + 1)) (Branch op ra disp) t at (rw (not_linked op (c.regs ra) not_taken, not_taken) refl) from (omega arith) (omega arith) rest

  -- a conditional branch forward that is taken: the words between are skipped
  pub skips : (most need : ℕ) (phase : Phase) (c : Alpha) (op : BranchOp) (ra : ℕ) (disp : ℤ) (target : ℕ) (t : Plan A) → p.fetch c.pc ≡ Some (Branch op ra disp) → links op ≡ false → taken op (c.regs ra) ≡ true → target_of c.pc disp ≡ target
      → p.from ≤ c.pc → c.pc < target → target ≤ p.to → Always p Ends most need phase (at_place c.regs target) t → Always p Ends most (need + 1) phase c t
  skips most need phase c op ra disp target t at no_link is_taken is_target from way within rest = goes most need phase c (at_place c.regs target) (Branch op ra disp) t at (rw (no_link, is_taken, is_target) refl) from way within rest

  -- a load that counts
  pub load : (most need : ℕ) (c : Alpha) (i : AlphaInstr) (address bytes q : ℕ) (leaves : ℕ → ℕ) (k : ℕ → Plan A) → p.fetch c.pc ≡ Some i → act i c ≡ Asks (record { kind = Load; address = address; bytes = bytes; value = 0 }) → p.from ≤ c.pc → c.pc < p.to
      → address % bytes ≡ 0 → address / 8 * 8 ≡ q → p.terms.allowed false q ≡ true → p.terms.kinds Load bytes ≡ true → ((before : ℕ) → leaves before ≡ before)
      → ((before : ℕ) → before < 2 ^ 64 → Always p Ends most need Plain (finished i (field_of before (address % 8) bytes) true c) (k before))
      → Always p Ends most (need + 1) Plain c (Access q leaves k)
  load most need c i address bytes q leaves k at is from to aligned quad may kind same rest zero spare le room = no_steps p Ends Plain spare c (Access q leaves k)
  load most need c i address bytes q leaves k at is from to aligned quad may kind same rest (suc n) spare le room =
      stepped n need spare Plain c (Access q leaves k) i (Asks (record { kind = Load; address = address; bytes = bytes; value = 0 })) at is from to (omega arith)
      (aligned, ap (p.terms.allowed false) quad ∙ may, kind, (sym quad, λ b lt _. (sym (same b), rest b lt n (spare - 1 + p.terms.bonus) (omega arith) (omega arith))))

  -- a store that counts
  pub store : (most need : ℕ) (c : Alpha) (i : AlphaInstr) (address bytes value q : ℕ) (leaves : ℕ → ℕ) (k : ℕ → Plan A) → p.fetch c.pc ≡ Some i → act i c ≡ Asks (record { kind = Store; address = address; bytes = bytes; value = value }) → p.from ≤ c.pc → c.pc < p.to
      → address % bytes ≡ 0 → address / 8 * 8 ≡ q → p.terms.allowed true q ≡ true → p.terms.kinds Store bytes ≡ true → ((before : ℕ) → before < 2 ^ 64 → with_field_of before (address % 8) bytes value ≡ leaves before)
      → ((before : ℕ) → before < 2 ^ 64 → Always p Ends most need Plain (finished i (field_of before (address % 8) bytes) true c) (k before))
      → Always p Ends most (need + 1) Plain c (Access q leaves k)
  store most need c i address bytes value q leaves k at is from to aligned quad may kind same rest zero spare le room = no_steps p Ends Plain spare c (Access q leaves k)
  store most need c i address bytes value q leaves k at is from to aligned quad may kind same rest (suc n) spare le room =
      stepped n need spare Plain c (Access q leaves k) i (Asks (record { kind = Store; address = address; bytes = bytes; value = value })) at is from to (omega arith)
      (aligned, ap (p.terms.allowed true) quad ∙ may, kind, (sym quad, λ b lt _. (same b lt, rest b lt n (spare - 1 + p.terms.bonus) (omega arith) (omega arith))))

  -- a load-locked access: the rest has one step less
  pub locked : (most need : ℕ) (c : Alpha) (i : AlphaInstr) (address bytes q wanted : ℕ) (leaves : ℕ → ℕ) (k : ℕ → Plan A) → p.fetch c.pc ≡ Some i → act i c ≡ Asks (record { kind = LoadLocked; address = address; bytes = bytes; value = 0 }) → p.from ≤ c.pc → c.pc < p.to
      → address % bytes ≡ 0 → address / 8 * 8 ≡ q → p.terms.allowed false q ≡ true → p.terms.kinds LoadLocked bytes ≡ true
      → ((before : ℕ) → before < 2 ^ 64 → Always p Ends most need (Held q before c.pc) (finished i (field_of before (address % 8) bytes) true c) (Access wanted leaves k))
      → Always p Ends (suc most) (need + 1) Plain c (Access wanted leaves k)
  locked most need c i address bytes q wanted leaves k at is from to aligned quad may kind rest zero spare le room = no_steps p Ends Plain spare c (Access wanted leaves k)
  locked most need c i address bytes q wanted leaves k at is from to aligned quad may kind rest (suc n) spare le room =
      stepped n need spare Plain c (Access wanted leaves k) i (Asks (record { kind = LoadLocked; address = address; bytes = bytes; value = 0 })) at is from to (omega arith)
      (aligned, ap (p.terms.allowed false) quad ∙ may, kind, λ b lt. subst (λ x. Runs p Ends n (Held x b c.pc) (spare - 1) (finished i (field_of b (address % 8) bytes) true c) (Access wanted leaves k)) (sym quad) (rest b lt n (spare - 1) (omega arith) (omega arith)))

  -- a store conditional: where it fails there is room for a turn more
  pub conditional : (most need lost : ℕ) (c : Alpha) (i : AlphaInstr) (address bytes value q found first : ℕ) (leaves : ℕ → ℕ) (k : ℕ → Plan A) → p.fetch c.pc ≡ Some i → act i c ≡ Asks (record { kind = StoreConditional; address = address; bytes = bytes; value = value }) → p.from ≤ c.pc → c.pc < p.to
      → address % bytes ≡ 0 → address / 8 * 8 ≡ q → p.terms.allowed true q ≡ true → p.terms.kinds StoreConditional bytes ≡ true → found < 2 ^ 64 → with_field_of found (address % 8) bytes value ≡ leaves found → lost ≤ need + retry_steps
      → Always p Ends most need Plain (finished i (field_of found (address % 8) bytes) true c) (k found)
      → ((before : ℕ) → before < 2 ^ 64 → Always p Ends most lost (Failed first) (finished i (field_of before (address % 8) bytes) false c) (Access q leaves k))
      → Always p Ends most (need + 1) (Held q found first) c (Access q leaves k)
  conditional most need lost c i address bytes value q found first leaves k at is from to aligned quad may kind fits left enough won again zero spare le room = no_steps p Ends (Held q found first) spare c (Access q leaves k)
  conditional most need lost c i address bytes value q found first leaves k at is from to aligned quad may kind fits left enough won again (suc n) spare le room =
      stepped n need spare (Held q found first) c (Access q leaves k) i (Asks (record { kind = StoreConditional; address = address; bytes = bytes; value = value })) at is from to (omega arith) (
        aligned,
        ap (p.terms.allowed true) quad ∙ may,
        kind,
        (
          quad,
          (sym quad, λ b lt same. subst (λ x. (with_field_of x (address % 8) bytes value ≡ leaves x) × Runs p Ends n Plain (spare - 1 + p.terms.bonus) (finished i (field_of x (address % 8) bytes) true c) (k x)) (sym same) (left, won n (spare - 1 + p.terms.bonus) (omega arith) (omega arith))),
          λ b lt. again b lt n (spare - 1 + retry_steps) (omega arith) (omega arith),
        ),
      )

-- ---- operate instructions in a row
pub act_operate : (i : AlphaInstr) (f : Regs) (pc : ℕ) → is_operate i ≡ true → act i (at_place f pc) ≡ Goes (at_place (effect i f) (pc + 1))
act_operate (Operate op ra rb rc) f pc h = refl
act_operate (Memory op ra rb disp) f pc h = cc
act_operate (Branch op ra disp) f pc h = cc
act_operate (Jump ra rb) f pc h = cc
act_operate (Pal n) f pc h = cc

pub operates : {A : Type 0} (p : Piece) (Ends : A → Regs → Type 0) (most need : ℕ) (phase : Phase) (is : List AlphaInstr) (f : Regs) (pc : ℕ) (t : Plan A) → HasAt p.fetch pc is → list_all is_operate is ≡ true → p.from ≤ pc → pc + length is ≤ p.to
    → Always p Ends most need phase (at_place (effects is f) (pc + length is)) t → Always p Ends most (length is + need) phase (at_place f pc) t
operates p Ends most need phase [] f pc t has ok from to rest =
    let here : pc + 0 ≡ pc = omega arith in
    let same : need ≡ 0 + need = omega arith in
    subst (λ m. Always p Ends most m phase (at_place f pc) t) same (subst (λ x. Always p Ends most need phase (at_place f x) t) here rest)
operates p Ends most need phase (i ∷ is) f pc t has ok from to rest =
    let parts = and_parts (is_operate i) (list_all is_operate is) ok in
    let place : pc + suc (length is) ≡ pc + 1 + length is = omega arith in
    let count : length is + need + 1 ≡ suc (length is) + need = omega arith in
    subst (λ m. Always p Ends most m phase (at_place f pc) t) count
    (goes p Ends most (length is + need) phase (at_place f pc) (at_place (effect i f) (pc + 1)) i t has.0 (act_operate i f pc parts.0) from (omega arith) (omega arith)
    (operates p Ends most need phase is (effect i f) (pc + 1) t has.1 parts.1 (omega arith) (omega arith)
    (subst (λ x. Always p Ends most need phase (at_place (effects is (effect i f)) x) t) place rest)))

-- ---- what changes
pub put_only : (may : ℕ → Bool) (old f : Regs) (n v : ℕ) → may n ≡ true → Only may old f → Only may old (put f n v)
put_only may old f n v h o m out =
    elim (eqb n 31) as (λ b. cond b (f m) (cond (eqb m n) v (f m)) ≡ old m) [ true ↦ o m out | false ↦ other (eqb m n) refl ]
  where
    other : (b : Bool) → b ≡ eqb m n → cond b v (f m) ≡ old m
    other true e = let same = eqb-true m n (sym e) in let x = subst (λ k. may k ≡ true) (sym same) h in cc
    other false e = o m out

effect_only : (may : ℕ → Bool) (old f : Regs) (i : AlphaInstr) → is_operate i ≡ true → may (written i) ≡ true → Only may old f → Only may old (effect i f)
effect_only may old f (Operate op ra rb rc) h a o = put_only may old f rc (result_of op (f ra) (second_value rb f) (f rc)) a o
effect_only may old f (Memory op ra rb disp) h a o = o
effect_only may old f (Branch op ra disp) h a o = o
effect_only may old f (Jump ra rb) h a o = o
effect_only may old f (Pal n) h a o = o

pub effects_only : (is : List AlphaInstr) (may : ℕ → Bool) (old f : Regs) → list_all (fine may) is ≡ true → Only may old f → Only may old (effects is f)
effects_only [] may old f ok o = o
effects_only (i ∷ is) may old f ok o =
    let parts = and_parts (fine may i) (list_all (fine may) is) ok in
    let here = and_parts (is_operate i) (may (written i)) parts.0 in
    effects_only is may old (effect i f) parts.1 (effect_only may old f i here.0 here.1 o)

-- ---- where words stand
pub has_front : (fetch : Fetch) (pc : ℕ) (a b : List AlphaInstr) → HasAt fetch pc (a ++ b) → HasAt fetch pc a
has_front fetch pc [] b h = tt
has_front fetch pc (i ∷ a) b h = (h.0, has_front fetch (pc + 1) a b h.1)

pub has_back : (fetch : Fetch) (pc : ℕ) (a b : List AlphaInstr) → HasAt fetch pc (a ++ b) → HasAt fetch (pc + length a) b
has_back fetch pc [] b h = subst (λ p. HasAt fetch p b) (sym (add-zero pc)) h
has_back fetch pc (i ∷ a) b h = let e : pc + 1 + length a ≡ pc + suc (length a) = omega arith in subst (λ p. HasAt fetch p b) e (has_back fetch (pc + 1) a b h.1)

-- ---- whole quadwords
pub loaded_whole : (before address : ℕ) → before < 2 ^ 64 → address % 8 ≡ 0 → field_of before (address % 8) 8 ≡ before
loaded_whole before address fits e = rw e (omega arith)

pub changed_whole : (before address value : ℕ) → before < 2 ^ 64 → value < 2 ^ 64 → address % 8 ≡ 0 → with_field_of before (address % 8) 8 value ≡ value
changed_whole before address value fits fits' e = rw e (omega arith)

pub changed_low : (before at bytes register : ℕ) → with_field_of before at bytes (register % 2 ^ (8 * bytes)) ≡ with_field_of before at bytes register
changed_low before at bytes register = rw (mod-mod register (2 ^ (8 * bytes))) refl
