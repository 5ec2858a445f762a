-- A text tells its word.
use Rattle.std.proofs.Common.{◌≡◌, ℕ, suc, ◌<◌, ◌^◌, List, [], ◌∷◌, ◌++◌, Bool, true, false, cond, Option, Some, None, refl, sym, ap, subst, ◌∙◌, append_assoc, arith}
use Rattle.std.specs.Prelude.{ℤ, pos, negsuc, ◌<ℤ◌, ◌≤ℤ◌, ◌-◌, FitsSigned, codes}
use Rattle.std.specs.Fmt.{decimal, signed_decimal}
use Rattle.std.specs.Int.{w16}
use Rattle.std.specs.Int.Signed.{mag}
use Rattle.std.proofs.lemmas.Int.{ints}
use Rattle.std.proofs.lemmas.Fmt.{decimal_injective, signed_decimal_injective}
use Rattle.array_text.specs.Hexadecimal.{hexadecimal}
use Rattle.array_text.proofs.Hexadecimal.{hexadecimal_injective}
use Rattle.alpha_encode.specs.declared.instr.MemoryOp.{MemoryOp}
use Rattle.alpha_encode.specs.declared.instr.BranchOp.{BranchOp}
use Rattle.alpha_encode.specs.declared.instr.OperateOp.{OperateOp}
use Rattle.alpha_encode.specs.declared.instr.OperateOp.TheVariants as row
use Rattle.alpha_encode.specs.declared.instr.Second.{Second}
use Rattle.alpha_encode.specs.declared.instr.Second.TheVariants.{Register, Literal}
use Rattle.alpha_encode.specs.declared.instr.AlphaInstr.{AlphaInstr}
use Rattle.alpha_encode.specs.declared.instr.AlphaInstr.TheVariants.{Memory, Branch, Operate, Jump, Pal}
use Rattle.alpha_encode.specs.Words.{IsFirst, IsSecond, Spells, instr_at, word_of}
use Rattle.alpha_encode.proofs.Reread.{first_below}
use Rattle.alpha_encode.proofs.Spelled.{spelled}
use Rattle.alpha_text.specs.Text.{OneWordEach, distance_of, distance_text, first_text, is_single, register_text, second_text, text_where, word_text}
use Rattle.alpha_text.proofs.Pieces.{Clean, Ends, clean_decimal, clean_signed, no_sign, same_heads, same_piece, same_tails}
use Rattle.alpha_text.proofs.Heads.{Head, branch, call, clean_head, head_name, jump, long, memory, operate, same_head}

-- ---- pieces tell their values

same_register : (m n : ℕ) → m < 2 ^ 64 → n < 2 ^ 64 → register_text m ≡ register_text n → m ≡ n
same_register m n p q e = decimal_injective m n p q (same_tails 36 36 (decimal m) (decimal n) e)

clean_register : (n : ℕ) → n < 2 ^ 64 → Clean (register_text n)
clean_register n h = clean_decimal n h

second_fits : (s : Second) → IsSecond s → Clean (second_text s)
second_fits (Register n) h = clean_decimal n (omega arith)
second_fits (Literal n) h = clean_decimal n (omega arith)

same_second : (s t : Second) → IsSecond s → IsSecond t → second_text s ≡ second_text t → s ≡ t
same_second (Register m) (Register n) p q e = ap Register (same_register m n (omega arith) (omega arith) e)
same_second (Literal m) (Literal n) p q e = ap Literal (decimal_injective m n (omega arith) (omega arith) e)
same_second (Register m) (Literal n) p q e = absurd (no_sign 36 n (decimal m) (omega arith) (omega arith) e)
same_second (Literal m) (Register n) p q e = absurd (no_sign 36 m (decimal n) (omega arith) (omega arith) (sym e))

-- behind the point and its sign
behind : List ℕ → List ℕ
behind (a ∷ b ∷ cs) = cs
behind cs = []

signs_differ : (c d : ℕ) → c ≡ 43 → d ≡ 45 → c ≡ d → ⊥
signs_differ c d p q e = omega arith

same_distance : (y z : ℤ) → mag y < 2 ^ 63 → mag z < 2 ^ 63 → distance_text y ≡ distance_text z → y ≡ z
unfolding behind
same_distance (pos m) (pos n) p q e = ap pos (decimal_injective m n (omega arith) (omega arith) (ap behind e))
same_distance (negsuc m) (negsuc n) p q e =
    let same = decimal_injective (suc m) (suc n) (omega arith) (omega arith) (ap behind e) in ap negsuc (omega (arith, same))
same_distance (pos m) (negsuc n) p q e = absurd (signs_differ 43 45 refl refl (same_heads 43 45 _ _ (same_tails 46 46 _ _ e)))
same_distance (negsuc m) (pos n) p q e = absurd (signs_differ 43 45 refl refl (same_heads 43 45 _ _ (same_tails 46 46 _ _ (sym e))))

distance_fits : (d : ℤ) → negsuc (2 ^ 20 - 1) ≤ℤ d → d <ℤ pos (2 ^ 20) → mag (distance_of d) < 2 ^ 63
distance_fits d low high = grind (arith, ints)

same_words : (c d : ℤ) → distance_of c ≡ distance_of d → c ≡ d
same_words c d e = omega (arith, ints)

word_fits : (z : ℤ) → FitsSigned w16 z → mag z < 2 ^ 63
word_fits z h = let fits = h.sfits in grind (arith, ints)

-- ---- what stands behind the first blank

abbrev head_at : Option AlphaInstr → Head
head_at None = long
head_at (Some (Memory op ra rb displacement)) = memory op
head_at (Some (Branch op ra words)) = branch op
head_at (Some (Operate op ra rb rc)) = operate op
head_at (Some (Jump ra rb)) = jump
head_at (Some (Pal number)) = call

abbrev from_second : Second → ℕ → List ℕ
from_second s c = second_text s ++ 44 ∷ register_text c

abbrev rest_at : ℕ → Option AlphaInstr → List ℕ
rest_at word None = 48 ∷ 120 ∷ hexadecimal word
rest_at word (Some (Memory op ra rb displacement)) =
    register_text ra ++ 44 ∷ (signed_decimal displacement ++ 40 ∷ (register_text rb ++ 41 ∷ []))
rest_at word (Some (Branch op ra words)) = register_text ra ++ 44 ∷ distance_text (distance_of words)
rest_at word (Some (Operate op ra rb rc)) = first_text op ra ++ from_second rb rc
rest_at word (Some (Jump ra rb)) = register_text ra ++ 44 ∷ 40 ∷ (register_text rb ++ codes "),0")
rest_at word (Some (Pal number)) = 48 ∷ 120 ∷ hexadecimal number

four : (a b c d e : List ℕ) → a ++ b ++ c ++ d ++ e ≡ a ++ (b ++ (c ++ (d ++ e)))
four a b c d e = simp append_assoc refl

parted : (word : ℕ) (o : Option AlphaInstr) → text_where word o ≡ head_name (head_at o) ++ (32 ∷ rest_at word o)
unfolding head_name
parted word None = refl
parted word (Some (Memory op ra rb displacement)) = simp append_assoc refl
parted word (Some (Branch op ra words)) = simp append_assoc refl
parted word (Some (Operate op ra rb rc)) = simp append_assoc refl
parted word (Some (Jump ra rb)) = four (codes "jmp ") (register_text ra) (codes ",(") (register_text rb) (codes "),0")
parted word (Some (Pal number)) = refl

-- ---- formats

-- a register, and what stands behind it
register_first : (m n : ℕ) (xs ys : List ℕ) → m < 32 → n < 32 → Ends xs → Ends ys
    → register_text m ++ xs ≡ register_text n ++ ys → (m ≡ n) × (xs ≡ ys)
register_first m n xs ys p q ex ey e =
    let parts = same_piece (register_text m) (register_text n) xs ys (clean_register m (omega arith)) (clean_register n (omega arith)) ex ey e in
    (same_register m n (omega arith) (omega arith) parts.0, parts.1)

same_memory : (a b a' b' : ℕ) (d d' : ℤ) → a < 32 → b < 32 → a' < 32 → b' < 32 → FitsSigned w16 d → FitsSigned w16 d'
    → register_text a ++ 44 ∷ (signed_decimal d ++ 40 ∷ (register_text b ++ 41 ∷ []))
    ≡ register_text a' ++ 44 ∷ (signed_decimal d' ++ 40 ∷ (register_text b' ++ 41 ∷ []))
    → (a ≡ a') × (b ≡ b') × (d ≡ d')
same_memory a b a' b' d d' ha hb ha' hb' hd hd' e =
    let last : ℕ → List ℕ = λ n. register_text n ++ 41 ∷ [] in
    let more : ℤ → ℕ → List ℕ = λ z n. signed_decimal z ++ 40 ∷ last n in
    let one = register_first a a' (44 ∷ more d b) (44 ∷ more d' b') ha ha' refl refl e in
    let two = same_piece (signed_decimal d) (signed_decimal d') (40 ∷ last b) (40 ∷ last b') (clean_signed d (word_fits d hd))
    (clean_signed d' (word_fits d' hd')) refl refl (same_tails 44 44 (more d b) (more d' b') one.1) in
    let three = register_first b b' (41 ∷ []) (41 ∷ []) hb hb' refl refl (same_tails 40 40 (last b) (last b') two.1) in
    (one.0, three.0, signed_decimal_injective d d' (word_fits d hd) (word_fits d' hd') two.0)

same_from_second : (c c' : ℕ) (s t : Second) → c < 32 → c' < 32 → IsSecond s → IsSecond t → from_second s c ≡ from_second t c' → (s ≡ t) × (c ≡ c')
same_from_second c c' s t hc hc' hs ht e =
    let one = same_piece (second_text s) (second_text t) (44 ∷ register_text c) (44 ∷ register_text c') (second_fits s hs) (second_fits t ht) refl refl e in
    (same_second s t hs ht one.0, same_register c c' (omega arith) (omega arith) (same_tails 44 44 (register_text c) (register_text c') one.1))

same_operands : (single : Bool) (a c a' c' : ℕ) (s t : Second) → a < 32 → c < 32 → a' < 32 → c' < 32 → IsSecond s → IsSecond t
    → cond single [] (register_text a ++ codes ",") ++ from_second s c ≡ cond single [] (register_text a' ++ codes ",") ++ from_second t c'
    → (single ≡ false → a ≡ a') × (s ≡ t) × (c ≡ c')
same_operands true a c a' c' s t ha hc ha' hc' hs ht e =
    let two = same_from_second c c' s t hc hc' hs ht e in (λ no. absurd cc, two.0, two.1)
same_operands false a c a' c' s t ha hc ha' hc' hs ht e =
    let first : register_text a ++ 44 ∷ from_second s c ≡ register_text a' ++ 44 ∷ from_second t c' =
    sym (append_assoc (register_text a) (44 ∷ []) (from_second s c)) ∙ e ∙ append_assoc (register_text a') (44 ∷ []) (from_second t c') in
    let one = register_first a a' (44 ∷ from_second s c) (44 ∷ from_second t c') ha ha' refl refl first in
    let two = same_from_second c c' s t hc hc' hs ht (same_tails 44 44 (from_second s c) (from_second t c') one.1) in
    (λ no. one.0, two.0, two.1)

same_first : (op : OperateOp) (a a' : ℕ) → IsFirst op a → IsFirst op a' → (is_single op ≡ false → a ≡ a') → a ≡ a'
unfolding is_single
same_first row.Sextb a a' h h' e = h ∙ sym h'
same_first row.Sextw a a' h h' e = h ∙ sym h'
same_first op a a' h h' e = e refl

same_jump : (a b a' b' : ℕ) → a < 32 → b < 32 → a' < 32 → b' < 32
    → register_text a ++ 44 ∷ 40 ∷ (register_text b ++ codes "),0") ≡ register_text a' ++ 44 ∷ 40 ∷ (register_text b' ++ codes "),0")
    → (a ≡ a') × (b ≡ b')
same_jump a b a' b' ha hb ha' hb' e =
    let last : ℕ → List ℕ = λ n. register_text n ++ codes "),0" in
    let one = register_first a a' (44 ∷ 40 ∷ last b) (44 ∷ 40 ∷ last b') ha ha' refl refl e in
    let two = register_first b b' (codes "),0") (codes "),0") hb hb' refl refl
    (same_tails 40 40 (last b) (last b') (same_tails 44 44 (40 ∷ last b) (40 ∷ last b') one.1)) in
    (one.0, two.0)

same_figure : (m n : ℕ) → m < 2 ^ 64 → n < 2 ^ 64 → codes "0x" ++ hexadecimal m ≡ codes "0x" ++ hexadecimal n → m ≡ n
same_figure m n p q e = hexadecimal_injective m n p q (same_tails 120 120 _ _ (same_tails 48 48 _ _ e))

-- ---- words

same_memory_op : (op op' : MemoryOp) → memory op ≡ memory op' → op ≡ op'
same_memory_op op op' e = cc

same_branch_op : (op op' : BranchOp) → branch op ≡ branch op' → op ≡ op'
same_branch_op op op' e = cc

same_operate_op : (op op' : OperateOp) → operate op ≡ operate op' → op ≡ op'
same_operate_op op op' e = cc

-- the instruction of the word, or that it has none
abbrev Is : ℕ → Option AlphaInstr → Type 0
Is word None = word < 2 ^ 32
Is word (Some instr) = Spells word instr

by_instr : (v w : ℕ) (i j : AlphaInstr) → Spells v i → Spells w j → i ≡ j → v ≡ w
by_instr v w i j p q e = sym p.1 ∙ ap word_of e ∙ q.1

told_operate : (v w : ℕ) (op op' : OperateOp) (a a' c c' : ℕ) (s t : Second) → op ≡ op' → Spells v (Operate op a s c) → Spells w (Operate op' a' t c')
    → rest_at v (Some (Operate op a s c)) ≡ rest_at w (Some (Operate op' a' t c')) → v ≡ w
told_operate v w op op' a a' c c' s t same hv hw r =
    let hw' : Spells w (Operate op a' t c') = subst (λ o. Spells w (Operate o a' t c')) (sym same) hw in
    let r' : rest_at v (Some (Operate op a s c)) ≡ rest_at w (Some (Operate op a' t c')) = r ∙ ap (λ o. rest_at w (Some (Operate o a' t c'))) (sym same) in
    let fields = same_operands (is_single op) a c a' c' s t (first_below op a hv.0.0) hv.0.2 (first_below op a' hw'.0.0) hw'.0.2 hv.0.1 hw'.0.1 r' in
    let first = same_first op a a' hv.0.0 hw'.0.0 fields.0 in
    by_instr v w _ _ hv hw' (λ i. Operate op (first i) (fields.1 i) (fields.2 i))

abbrev kind : Head → ℕ
kind (memory op) = 0
kind (branch op) = 1
kind (operate op) = 2
kind jump = 3
kind call = 4
kind long = 5

told_instr : (v w : ℕ) (i j : AlphaInstr) → Spells v i → Spells w j → head_at (Some i) ≡ head_at (Some j)
    → rest_at v (Some i) ≡ rest_at w (Some j) → v ≡ w
told_instr v w (Memory op a b d) (Memory op' a' b' d') hv hw h r =
    let ops = same_memory_op op op' h in
    let fields = same_memory a b a' b' d d' hv.0.0 hv.0.1 hw.0.0 hw.0.1 hv.0.2 hw.0.2 r in
    by_instr v w _ _ hv hw (λ i. Memory (ops i) (fields.0 i) (fields.1 i) (fields.2 i))
told_instr v w (Branch op a d) (Branch op' a' d') hv hw h r =
    let ops = same_branch_op op op' h in
    let far : ℤ → List ℕ = λ z. distance_text (distance_of z) in
    let one = register_first a a' (44 ∷ far d) (44 ∷ far d') hv.0.0 hw.0.0 refl refl r in
    let two = same_distance (distance_of d) (distance_of d') (distance_fits d hv.0.1 hv.0.2) (distance_fits d' hw.0.1 hw.0.2)
    (same_tails 44 44 (far d) (far d') one.1) in
    let words = same_words d d' two in
    by_instr v w _ _ hv hw (λ i. Branch (ops i) (one.0 i) (words i))
told_instr v w (Operate op a s c) (Operate op' a' t c') hv hw h r =
    told_operate v w op op' a a' c c' s t (same_operate_op op op' h) hv hw r
told_instr v w (Jump a b) (Jump a' b') hv hw h r =
    let fields = same_jump a b a' b' hv.0.0 hv.0.1 hw.0.0 hw.0.1 r in
    by_instr v w _ _ hv hw (λ i. Jump (fields.0 i) (fields.1 i))
told_instr v w (Pal m) (Pal n) hv hw h r = by_instr v w _ _ hv hw (ap Pal (same_figure m n (omega arith) (omega arith) r))
told_instr v w i j hv hw h r = absurd (let differ : kind (head_at (Some i)) ≡ kind (head_at (Some j)) = ap kind h in omega (arith, differ))

not_long : (i : AlphaInstr) → head_at (Some i) ≡ long → ⊥
not_long (Memory op a b d) h = let differ : ◌≡◌ {A = ℕ} 0 5 = ap kind h in omega (arith, differ)
not_long (Branch op a d) h = let differ : ◌≡◌ {A = ℕ} 1 5 = ap kind h in omega (arith, differ)
not_long (Operate op a s c) h = let differ : ◌≡◌ {A = ℕ} 2 5 = ap kind h in omega (arith, differ)
not_long (Jump a b) h = let differ : ◌≡◌ {A = ℕ} 3 5 = ap kind h in omega (arith, differ)
not_long (Pal n) h = let differ : ◌≡◌ {A = ℕ} 4 5 = ap kind h in omega (arith, differ)

told : (v w : ℕ) (o p : Option AlphaInstr) → Is v o → Is w p → head_at o ≡ head_at p → rest_at v o ≡ rest_at w p → v ≡ w
told v w None None hv hw h r = same_figure v w (omega arith) (omega arith) r
told v w None (Some j) hv hw h r = absurd (not_long j (sym h))
told v w (Some i) None hv hw h r = absurd (not_long i h)
told v w (Some i) (Some j) hv hw h r = told_instr v w i j hv hw h r

is_of : (w : ℕ) (o : Option AlphaInstr) → w < 2 ^ 32 → instr_at w ≡ o → Is w o
is_of w None h e = h
is_of w (Some i) h e = spelled w i h e

pub one_word : OneWordEach
unfolding word_text
one_word v w hv hw e =
    let o = instr_at v in
    let p = instr_at w in
    let cut = same_piece (head_name (head_at o)) (head_name (head_at p)) (32 ∷ rest_at v o) (32 ∷ rest_at w p)
    (clean_head (head_at o)) (clean_head (head_at p)) refl refl (sym (parted v o) ∙ e ∙ parted w p) in
    told v w o p (is_of v o hv refl) (is_of w p hw refl) (same_head (head_at o) (head_at p) cut.0) (same_tails 32 32 _ _ cut.1)
