-- Words that run one after another: instructions of the operate format, LDA and LDAH.
use Rattle.std.proofs.Common.{◌≡◌, ℕ, suc, ◌+◌, ◌≤◌, refl, subst, arith, List, [], ◌∷◌, ◌++◌, length, Bool, true, false}
use Rattle.std.specs.Prelude.{All}
use Rattle.std.specs.List.{list_all}
use Rattle.std.proofs.lemmas.List.Elements.{All-cons, All-nil}
use Rattle.alpha_encode.specs.declared.instr.MemoryOp.TheVariants as row
use Rattle.alpha_encode.specs.declared.instr.MemoryOp.TheVariants.{Lda, Ldah}
use Rattle.alpha_encode.specs.declared.instr.AlphaInstr.{AlphaInstr}
use Rattle.alpha_encode.specs.declared.instr.AlphaInstr.TheVariants.{Memory, Branch, Operate, Jump, Pal}
use Rattle.alpha_encode.specs.Words.{IsEncodable}
use Rattle.alpha_meaning.specs.State.{Regs, put, at_place}
use Rattle.alpha_meaning.specs.Act.{Goes, act, second_value}
use Rattle.alpha_meaning.specs.Memory.{address_of}
use Rattle.alpha_meaning.specs.Result.{result_of}
use Rattle.alpha_meaning.specs.Pieces.{Plan, Over, Plain, Piece, HasAt, piece, Only}
use Rattle.alpha_meaning.proofs.Rules.{Always, done, goes, put_only}
use Rattle.compute_sequences.specs.Registers.{may_change}
use Rattle.compute_sequences.specs.Promises.{Leaves, LeavesAt, changes_only}

-- ---- one instruction
abbrev pub is_local : AlphaInstr → Bool
is_local (Operate op ra rb rc) = true
is_local (Memory row.Lda ra rb disp) = true
is_local (Memory row.Ldah ra rb disp) = true
is_local i = false

abbrev pub target_of : AlphaInstr → ℕ
target_of (Operate op ra rb rc) = rc
target_of (Memory op ra rb disp) = ra
target_of i = 31

abbrev pub after : AlphaInstr → Regs → Regs
after (Operate op ra rb rc) f = put f rc (result_of op (f ra) (second_value rb f) (f rc))
after (Memory op ra rb disp) f = put f ra (address_of op (f rb) disp)
after i f = f

abbrev pub afters : List AlphaInstr → Regs → Regs
afters [] f = f
afters (i ∷ is) f = afters is (after i f)

act_local : (i : AlphaInstr) (f : Regs) (pc : ℕ) → is_local i ≡ true → act i (at_place f pc) ≡ Goes (at_place (after i f) (pc + 1))
act_local (Operate op ra rb rc) f pc h = refl
act_local (Memory row.Lda ra rb disp) f pc h = refl
act_local (Memory row.Ldah ra rb disp) f pc h = refl
act_local (Memory op ra rb disp) f pc h = cc
act_local (Branch op ra disp) f pc h = cc
act_local (Jump ra rb) f pc h = cc
act_local (Pal n) f pc h = cc

-- it goes to the next word, writes what it may, and has an encoding
pub record Fine (may : ℕ → Bool) (i : AlphaInstr) : Type 0 where
  pub local : is_local i ≡ true
  pub target : may (target_of i) ≡ true
  pub encodable : IsEncodable i

abbrev pub Each : (P : AlphaInstr → Type 0) → List AlphaInstr → Type 0
Each P [] = Unit {0}
Each P (i ∷ is) = P i × Each P is

pub each_append : (P : AlphaInstr → Type 0) (is js : List AlphaInstr) → Each P is → Each P js → Each P (is ++ js)
each_append P [] js h k = k
each_append P (i ∷ is) js h k = (h.0, each_append P is js h.1 k)

pub all_of : (P : AlphaInstr → Type 0) (is : List AlphaInstr) → Each P is → All P is
all_of P [] h = All-nil P
all_of P (i ∷ is) h = All-cons P i is h.0 (all_of P is h.1)

pub each_map : (P Q : AlphaInstr → Type 0) → ((i : AlphaInstr) → P i → Q i) → (is : List AlphaInstr) → Each P is → Each Q is
each_map P Q f [] h = tt
each_map P Q f (i ∷ is) h = (f i h.0, each_map P Q f is h.1)

pub each_encodable : (may : ℕ → Bool) (is : List AlphaInstr) → Each (Fine may) is → Each IsEncodable is
each_encodable may is h = each_map (Fine may) IsEncodable (λ i fine. fine.encodable) is h

pub fine_writes : (may : ℕ → Bool) (i : AlphaInstr) → is_local i ≡ true → may (target_of i) ≡ true → changes_only may i ≡ true
fine_writes may (Operate op ra rb rc) h t = t
fine_writes may (Memory row.Lda ra rb disp) h t = t
fine_writes may (Memory row.Ldah ra rb disp) h t = t
fine_writes may (Memory op ra rb disp) h t = cc
fine_writes may (Branch op ra disp) h t = cc
fine_writes may (Jump ra rb) h t = cc
fine_writes may (Pal n) h t = cc

pub each_writes : (may : ℕ → Bool) (is : List AlphaInstr) → Each (Fine may) is → Each (λ i. changes_only may i ≡ true) is
each_writes may is h = each_map (Fine may) (λ i. changes_only may i ≡ true) (λ i fine. fine_writes may i fine.local fine.target) is h

pub all_writes : (may : ℕ → Bool) (is : List AlphaInstr) → Each (λ i. changes_only may i ≡ true) is → list_all (changes_only may) is ≡ true
all_writes may [] h = refl
all_writes may (i ∷ is) h = let head = h.0 in rw head (all_writes may is h.1)

-- ---- what changes
after_only : (may : ℕ → Bool) (old f : Regs) (i : AlphaInstr) → Fine may i → Only may old f → Only may old (after i f)
after_only may old f (Operate op ra rb rc) fine o = put_only may old f rc (result_of op (f ra) (second_value rb f) (f rc)) fine.target o
after_only may old f (Memory op ra rb disp) fine o = put_only may old f ra (address_of op (f rb) disp) fine.target o
after_only may old f (Branch op ra disp) fine o = o
after_only may old f (Jump ra rb) fine o = o
after_only may old f (Pal n) fine o = o

pub afters_only : (may : ℕ → Bool) (old f : Regs) (is : List AlphaInstr) → Each (Fine may) is → Only may old f → Only may old (afters is f)
afters_only may old f [] h o = o
afters_only may old f (i ∷ is) h o = afters_only may old (after i f) is h.1 (after_only may old f i h.0 o)

pub same : (f : Regs) (may : ℕ → Bool) → Only may f f
same f may n out = refl

pub afters_append : (is js : List AlphaInstr) (f : Regs) → afters (is ++ js) f ≡ afters js (afters is f)
afters_append [] js f = refl
afters_append (i ∷ is) js f = afters_append is js (after i f)

-- ---- words in a row
pub locals : {A : Type 0} (p : Piece) (Ends : A → Regs → Type 0) (most need : ℕ) (may : ℕ → Bool) (is : List AlphaInstr) (f : Regs) (pc : ℕ) (t : Plan A) → HasAt p.fetch pc is → Each (Fine may) is → p.from ≤ pc → pc + length is ≤ p.to
    → Always p Ends most need Plain (at_place (afters is f) (pc + length is)) t → Always p Ends most (length is + need) Plain (at_place f pc) t
locals p Ends most need may [] f pc t has fine from to rest =
    let here : pc + 0 ≡ pc = omega arith in
    let same : need ≡ 0 + need = omega arith in
    subst (λ m. Always p Ends most m Plain (at_place f pc) t) same (subst (λ x. Always p Ends most need Plain (at_place f x) t) here rest)
locals p Ends most need may (i ∷ is) f pc t has fine from to rest =
    let place : pc + suc (length is) ≡ pc + 1 + length is = omega arith in
    let count : length is + need + 1 ≡ suc (length is) + need = omega arith in
    let head = fine.0 in
    subst (λ m. Always p Ends most m Plain (at_place f pc) t) count
    (goes p Ends most (length is + need) Plain (at_place f pc) (at_place (after i f) (pc + 1)) i t has.0 (act_local i f pc head.local) from (omega arith) (omega arith)
    (locals p Ends most need may is (after i f) (pc + 1) t has.1 fine.1 (omega arith) (omega arith)
    (subst (λ x. Always p Ends most need Plain (at_place (afters is (after i f)) x) t) place rest)))

-- a whole that has no branch
pub straight : (Is : ℕ → Type 0) (to : ℕ) (words : List AlphaInstr) (f : Regs) → Each (Fine (may_change to)) words → Is (afters words f to) → LeavesAt Is to words f
straight Is to words f fine holds fetch terms first n low has =
    let p = piece fetch terms first (first + length words) in
    locals p (Leaves Is to f) n 0 (may_change to) words f first (Over tt) has fine (omega arith) (omega arith)
    (done p (Leaves Is to f) n (at_place (afters words f) (first + length words)) tt refl (record { holds = holds; only = afters_only (may_change to) f f words fine (same f (may_change to)) }))
    n (length words) (omega arith) (omega arith)
