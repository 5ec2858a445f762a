-- Loops of a load-locked access and a store conditional, whatever stands between.
use Rattle.std.proofs.Common.{◌≡◌, ℕ, zero, suc, ◌+◌, ◌*◌, ◌/◌, ◌%◌, ◌^◌, ◌<◌, ◌≤◌, refl, ap, ◌∙◌, subst, arith, List, [], ◌∷◌, length, true, false}
use Rattle.std.specs.Prelude.{pos, negsuc, nat_lt}
use Rattle.std.specs.List.{list_all}
use Rattle.std.proofs.lemmas.Bool.Decides.{nat_tests}
use Rattle.std.proofs.Math.Nat.{mod-eq_of_lt}
use Rattle.vt_words.specs.Quad.{field_of}
use Rattle.alpha_meaning.specs.declared.access.AlphaKind.TheVariants.{LoadLocked, StoreConditional}
use Rattle.alpha_encode.specs.declared.instr.MemoryOp.TheVariants.{LdqL, StqC}
use Rattle.alpha_encode.specs.declared.instr.BranchOp.TheVariants.{Beq}
use Rattle.alpha_encode.specs.declared.instr.AlphaInstr.{AlphaInstr}
use Rattle.alpha_encode.specs.declared.instr.AlphaInstr.TheVariants.{Memory, Branch}
use Rattle.alpha_meaning.specs.State.{Alpha, Regs, put, at_place}
use Rattle.alpha_meaning.specs.Act.{target_of}
use Rattle.alpha_meaning.specs.Result.{plus}
use Rattle.alpha_meaning.specs.Pieces.{Plan, Access, Plain, Held, Failed, Piece, HasAt}
use Rattle.alpha_meaning.specs.Loops.{is_operate, effects, retry}
use Rattle.alpha_meaning.proofs.Laws.{no_steps}
use Rattle.alpha_meaning.proofs.Rules.{Always, moves, goes, locked, conditional, operates, has_front, has_back, loaded_whole, changed_whole}

-- what the words between have to do
pub record Changes (q : ℕ) (middle : List AlphaInstr) (change : ℕ → ℕ) (IsReady : Regs → Type 0) (After : ℕ → Regs → Type 0) : Type 0 where
  pub aligned : q % 8 ≡ 0
  pub below : q < 2 ^ 64
  pub operate : list_all is_operate middle ≡ true
  pub short : length middle ≤ 13
  pub address : (g : Regs) → IsReady g → g 27 ≡ q
  pub value : (g : Regs) (x : ℕ) → IsReady g → x < 2 ^ 64 → effects middle (put g 25 x) 25 ≡ change x
  pub fits : (x : ℕ) → x < 2 ^ 64 → change x < 2 ^ 64
  pub ready : (g : Regs) (x : ℕ) → IsReady g → IsReady (effects middle (put g 25 x))
  pub ready_25 : (g : Regs) (x : ℕ) → IsReady g → IsReady (put g 25 x)
  pub ends : (g : Regs) (x : ℕ) → IsReady g → x < 2 ^ 64 → After x (put (effects middle (put g 25 x)) 25 1)

module _ {A : Type 0} (p : Piece) (Ends : A → Regs → Type 0) (L q : ℕ) (middle : List AlphaInstr) (change : ℕ → ℕ) (IsReady : Regs → Type 0) (After : ℕ → Regs → Type 0) (c : Changes q middle change IsReady After) (need : ℕ) (k : ℕ → Plan A)
    (in_from : p.from < L) (in_to : L + (length middle + 3) ≤ p.to) (low : L < 2 ^ 23) (has : HasAt p.fetch L (retry middle)) (may_load : p.terms.allowed false q ≡ true) (may_store : p.terms.allowed true q ≡ true) (load_kind : p.terms.kinds LoadLocked 8 ≡ true) (store_kind : p.terms.kinds StoreConditional 8 ≡ true) where
  abbrev tail : List AlphaInstr
  tail = Memory StqC 25 27 (pos 0) ∷ Branch Beq 25 (negsuc (length middle + 2)) ∷ []

  has_tail : HasAt p.fetch (L + 1 + length middle) (Memory StqC 25 27 (pos 0) ∷ Branch Beq 25 (negsuc (length middle + 2)) ∷ [])
  has_tail = has_back p.fetch (L + 1) middle (Memory StqC 25 27 (pos 0) ∷ Branch Beq 25 (negsuc (length middle + 2)) ∷ []) has.1

  address : (g : Regs) → IsReady g → plus (g 27) 0 ≡ q
  address g r = let b = c.below in rw (c.address g r) (omega arith)

  quad : (g : Regs) → IsReady g → plus (g 27) 0 / 8 * 8 ≡ q
  quad g r = let al = c.aligned in rw (address g r) (omega arith)

  back : target_of (L + 1 + length middle + 1) (negsuc (length middle + 2)) ≡ L
  back = let short = c.short in omega arith

  -- what stands behind the loop
  abbrev pub Rest : ℕ → Type 0
  Rest most = (x : ℕ) (g : Regs) → x < 2 ^ 64 → After x g → Always p Ends most need Plain (at_place g (L + (length middle + 3))) (k x)

  -- and before it, where a turn failed
  abbrev Again : ℕ → Type 0
  Again most = (g : Regs) → IsReady g → Always p Ends most (length middle + 3 + need) Plain (at_place g L) (Access q change k)

  -- behind the store conditional
  won : (most : ℕ) → Rest most → (h : Regs) (x : ℕ) → x < 2 ^ 64 → After x (put h 25 1) → Always p Ends most (need + 1) Plain (at_place (put h 25 1) (L + 1 + length middle + 1)) (k x)
  won most rest h x lt post =
      let end : L + (length middle + 3) ≡ L + 1 + length middle + 1 + 1 = omega arith in
      goes p Ends most need Plain (at_place (put h 25 1) (L + 1 + length middle + 1)) (at_place (put h 25 1) (L + 1 + length middle + 1 + 1)) (Branch Beq 25 (negsuc (length middle + 2))) (k x) has_tail.1.0 refl (omega arith) (omega arith) (omega arith)
      (subst (λ pc. Always p Ends most need Plain (at_place (put h 25 1) pc) (k x)) end (rest x (put h 25 1) lt post))

  at_back : nat_lt (L + 1 + length middle + 1) L ≡ false
  at_back = not_less (L + 1 + length middle + 1) L (omega arith)
    where
      not_less : (a b : ℕ) → b ≤ a → nat_lt a b ≡ false
      not_less a b le = grind (arith, nat_tests)

  lost : (most : ℕ) → Again most → (h : Regs) → IsReady h → Always p Ends most (length middle + 3 + need + 1) (Failed L) (at_place (put h 25 0) (L + 1 + length middle + 1)) (Access q change k)
  lost most again h r =
      moves p Ends most (length middle + 3 + need) (Failed L) (at_place (put h 25 0) (L + 1 + length middle + 1)) (at_place (put h 25 0) (target_of (L + 1 + length middle + 1) (negsuc (length middle + 2)))) (Branch Beq 25 (negsuc (length middle + 2))) (Access q change k) has_tail.1.0 refl (omega arith) (omega arith)
      (rw back in_from, λ _. (let short = c.short in omega arith, let short = c.short in rw back (omega arith))) (rw back (omega arith))
      (rw (back, at_back) (again (put h 25 0) (c.ready_25 h 0 r)))

  -- the registers behind the words between
  abbrev between : Regs → ℕ → Regs
  between g y = effects middle (put g 25 y)

  -- behind the load-locked access
  behind : (most : ℕ) → Rest most → Again most → (g : Regs) → IsReady g → (x y : ℕ) → x < 2 ^ 64 → y ≡ x → Always p Ends most (length middle + (need + 1 + 1)) (Held q x L) (at_place (put g 25 y) (L + 1)) (Access q change k)
  behind most rest again g r x y lt same =
      operates p Ends most (need + 1 + 1) (Held q x L) middle (put g 25 y) (L + 1) (Access q change k) (has_front p.fetch (L + 1) middle tail has.1) c.operate (omega arith) (omega arith)
      (conditional p Ends most (need + 1) (length middle + 3 + need + 1) (at_place (between g y) (L + 1 + length middle)) (Memory StqC 25 27 (pos 0)) (plus (between g y 27) 0) 8 (between g y 25 % 2 ^ 64) q x L change k has_tail.0 refl (omega arith) (omega arith)
      (let al = c.aligned in rw here al) (quad (between g y) ready) may_store store_kind lt
      (let al = c.aligned in changed_whole x (plus (between g y 27) 0) (between g y 25 % 2 ^ 64) lt (omega arith) (rw here al) ∙ value)
      (let short = c.short in omega arith)
      (won most rest (between g y) x lt (subst (λ z. After z (put (between g y) 25 1)) same (c.ends g y r (rw same lt))))
      (λ before lt'. lost most again (between g y) ready))
    where
      ready : IsReady (between g y)
      ready = c.ready g y r

      here : plus (between g y 27) 0 ≡ q
      here = address (between g y) ready

      value : between g y 25 % 2 ^ 64 ≡ change x
      value = ap (λ v. v % 2 ^ 64) (c.value g y r (rw same lt) ∙ ap change same) ∙ mod-eq_of_lt (c.fits x lt)

  none_left : (t : Alpha) → Always p Ends 0 (length middle + 3 + need) Plain t (Access q change k)
  none_left t zero spare le room = no_steps p Ends Plain spare t (Access q change k)
  none_left t (suc n) spare le room = absurd (omega arith)

  -- any number of turns
  pub turns : (most : ℕ) → Rest most → (g : Regs) → IsReady g → Always p Ends most (length middle + 3 + need) Plain (at_place g L) (Access q change k)
  turns zero rest g r = none_left (at_place g L)
  turns (suc most) rest g r =
      let al = c.aligned in
      let count : length middle + (need + 1 + 1) + 1 ≡ length middle + 3 + need = omega arith in
      let rest' : Rest most = λ x g lt after n spare le room. rest x g lt after n spare (omega arith) room in
      subst (λ m. Always p Ends (suc most) m Plain (at_place g L) (Access q change k)) count
      (locked p Ends most (length middle + (need + 1 + 1)) (at_place g L) (Memory LdqL 25 27 (pos 0)) (plus (g 27) 0) 8 q q change k has.0 refl (omega arith) (omega arith) (rw (address g r) al) (quad g r) may_load load_kind
      (λ x lt. behind most rest' (turns most rest') g r x (field_of x (plus (g 27) 0 % 8) 8) lt (loaded_whole x (plus (g 27) 0) lt (rw (address g r) al))))
