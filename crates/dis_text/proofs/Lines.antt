-- One line more of those of bytes, and one more of what is said of numbers.
use Rattle.std.proofs.Common.{◌≡◌, ◌<◌, ◌≤◌, ◌+◌, ◌-◌, ◌*◌, ℕ, zero, suc, Bool, true, false, cond, List, [], ◌∷◌, ◌++◌, Option, drop, get_or, length, map, refl, sym, ap, ◌∙◌, arith, append_assoc}
use Rattle.std.specs.Prelude.{filter, min}
use Rattle.std.specs.List.{flat_map, range_with_len}
use Rattle.std.proofs.lemmas.List.{append-nil}
use Rattle.std.proofs.lemmas.List.FromFn.{map-range_with_len_more}
use Rattle.std.proofs.lemmas.Grind.{flat_map-append}
use Rattle.vax_form.specs.declared.instr.Instr.{Instr}
use Rattle.vax_form.specs.declared.pages.Pages.{Pages}
use Rattle.dis_text.specs.Pieces.{Covered, Piece, bytes, covered_by, gap, inside, instruction, lines_from, pieces}

line_by : (m n at end : ℕ) → m ≡ suc n → lines_from m at end ≡ bytes at (min 8 (end - at)) ∷ lines_from n (at + 8) end
unfolding lines_from
line_by m n at end e = ap (λ k. lines_from k at end) e

-- the line of that number, and those behind it
pub line_next : (count k at end : ℕ) → k < count
    → lines_from (count - k) (at + 8 * k) end ≡ bytes (at + 8 * k) (min 8 (end - (at + 8 * k))) ∷ lines_from (count - (k + 1)) (at + 8 * (k + 1)) end
line_next count k at end h =
    let next : at + 8 * k + 8 ≡ at + 8 * (k + 1) = omega arith in
    line_by (count - k) (count - (k + 1)) (at + 8 * k) end (omega arith)
    ∙ ap (λ a. bytes (at + 8 * k) (min 8 (end - (at + 8 * k))) ∷ lines_from (count - (k + 1)) a end) next

pub line_none : (count k at end : ℕ) → count ≤ k → lines_from (count - k) at end ≡ []
unfolding lines_from
line_none count k at end h = let none : count - k ≡ 0 = omega arith in ap (λ n. lines_from n at end) none

-- the text of one more of the pieces that have numbers
pub text_more : (f : Piece → List ℕ) (g : ℕ → Piece) (old out new : List ℕ) (k : ℕ) → out ≡ old ++ flat_map f (map g (range_with_len 0 k)) → new ≡ out ++ f (g k)
    → new ≡ old ++ flat_map f (map g (range_with_len 0 (k + 1)))
text_more f g old out new k before more =
    let here : 0 + k ≡ k = omega arith in
    let all : flat_map f (map g (range_with_len 0 (k + 1))) ≡ flat_map f (map g (range_with_len 0 k)) ++ f (g k) =
    ap (flat_map f) (map-range_with_len_more g 0 k k here) ∙ flat_map-append f (map g (range_with_len 0 k)) (g k ∷ [])
    ∙ ap (λ rest. flat_map f (map g (range_with_len 0 k)) ++ rest) (append-nil (f (g k))) in
    more ∙ ap (λ o. o ++ f (g k)) before ∙ append_assoc old (flat_map f (map g (range_with_len 0 k))) (f (g k)) ∙ ap (λ rest. old ++ rest) (sym all)

-- the text of pieces, and of those behind them
pub text_both : (f : Piece → List ℕ) (ps qs : List Piece) → flat_map f (ps ++ qs) ≡ flat_map f ps ++ flat_map f qs
text_both f ps qs = flat_map-append f ps qs

-- the text of one more piece, where the others' follows
pub piece_done : (f : Piece → List ℕ) (p : Piece) (ps qs : List Piece) (out new all : List ℕ) → ps ≡ p ∷ qs → out ++ flat_map f ps ≡ all → new ≡ out ++ f p
    → new ++ flat_map f qs ≡ all
piece_done f p ps qs out new all is before more =
    ap (λ o. o ++ flat_map f qs) more ∙ append_assoc out (f p) (flat_map f qs) ∙ ap (λ rest. out ++ flat_map f rest) (sym is) ∙ before

-- and of one more instruction, with the gap before it
pub instruction_done : (f : Piece → List ℕ) (pages : Pages) (stored end : ℕ) (c d : Covered) (instr : Instr) (rest : List Instr) (i : Option ℕ) (out middle new all : List ℕ)
    → out ++ flat_map f (pieces pages stored end c (instr ∷ rest)) ≡ all → middle ≡ out ++ flat_map f (gap pages stored c instr.at)
    → new ≡ middle ++ f (instruction instr i) → i ≡ inside c instr → d ≡ covered_by instr c
    → new ++ flat_map f (pieces pages stored end d rest) ≡ all
unfolding pieces
instruction_done f pages stored end c d instr rest i out middle new all before first second begun is =
    let g = flat_map f (gap pages stored c instr.at) in
    let one = f (instruction instr (inside c instr)) in
    let more : List ℕ = flat_map f (pieces pages stored end (covered_by instr c) rest) in
    let whole : flat_map f (gap pages stored c instr.at ++ instruction instr (inside c instr) ∷ pieces pages stored end (covered_by instr c) rest) ≡ g ++ (one ++ more) =
    flat_map-append f (gap pages stored c instr.at) (instruction instr (inside c instr) ∷ pieces pages stored end (covered_by instr c) rest) in
    let parts : out ++ g ++ one ++ more ≡ out ++ (g ++ (one ++ more)) = simp append_assoc in
    ap (λ e. new ++ flat_map f (pieces pages stored end e rest)) is
    ∙ ap (λ o. o ++ more) (second ∙ ap (λ n. middle ++ f (instruction instr n)) begun ∙ ap (λ o. o ++ one) first) ∙ parts ∙ ap (λ o. out ++ o) (sym whole) ∙ before

-- ---- the instructions that begin in a section

pub filtered_in : (p : Instr → Bool) (xs : List Instr) (k : ℕ) (d : Instr) → k < length xs → p (get_or xs k d) ≡ true → filter p (drop k xs) ≡ get_or xs k d ∷ filter p (drop (k + 1) xs)
filtered_in p [] k d h t = absurd (omega arith)
filtered_in p (x ∷ xs) zero d h t = ap (λ b. cond b (x ∷ filter p xs) (filter p xs)) t
filtered_in p (x ∷ xs) (suc k) d h t =
    let next : suc (k + 1) ≡ suc k + 1 = omega arith in
    filtered_in p xs k d (omega arith) t ∙ ap (λ n. get_or xs k d ∷ filter p (drop n (x ∷ xs))) next

pub filtered_out : (p : Instr → Bool) (xs : List Instr) (k : ℕ) (d : Instr) → k < length xs → p (get_or xs k d) ≡ false → filter p (drop k xs) ≡ filter p (drop (k + 1) xs)
filtered_out p [] k d h t = absurd (omega arith)
filtered_out p (x ∷ xs) zero d h t = ap (λ b. cond b (x ∷ filter p xs) (filter p xs)) t
filtered_out p (x ∷ xs) (suc k) d h t =
    let next : suc (k + 1) ≡ suc k + 1 = omega arith in
    filtered_out p xs k d (omega arith) t ∙ ap (λ n. filter p (drop n (x ∷ xs))) next

drop_none : (xs : List Instr) (k : ℕ) → length xs ≤ k → drop k xs ≡ []
drop_none [] zero h = refl
drop_none [] (suc k) h = refl
drop_none (x ∷ xs) zero h = absurd (omega arith)
drop_none (x ∷ xs) (suc k) h = drop_none xs k (omega arith)

-- an instruction that begins elsewhere changes nothing
pub passed_over : (f : Piece → List ℕ) (pages : Pages) (stored end : ℕ) (c d : Covered) (before behind : List Instr) (out new all : List ℕ)
    → before ≡ behind → new ≡ out → d ≡ c → out ++ flat_map f (pieces pages stored end c before) ≡ all
    → new ++ flat_map f (pieces pages stored end d behind) ≡ all
passed_over f pages stored end c d before behind out new all same outs covers is =
    ap (λ o. o ++ flat_map f (pieces pages stored end d behind)) outs
    ∙ ap (λ e. out ++ flat_map f (pieces pages stored end e behind)) covers
    ∙ ap (λ instrs. out ++ flat_map f (pieces pages stored end c instrs)) (sym same) ∙ is

-- behind the last instruction is the rest of the section
pub all_done : (f : Piece → List ℕ) (pages : Pages) (stored end : ℕ) (c : Covered) (p : Instr → Bool) (xs : List Instr) (k : ℕ) (out new all : List ℕ)
    → length xs ≤ k → out ++ flat_map f (pieces pages stored end c (filter p (drop k xs))) ≡ all → new ≡ out ++ flat_map f (gap pages stored c end)
    → new ≡ all
unfolding pieces
all_done f pages stored end c p xs k out new all h before more =
    more ∙ ap (λ instrs. out ++ flat_map f (pieces pages stored end c (filter p instrs))) (sym (drop_none xs k h)) ∙ before
