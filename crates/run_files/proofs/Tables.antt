-- Tables of which each item is looked at in turn.
use Rattle.std.proofs.Common.{◌≡◌, ℕ, zero, suc, ◌+◌, ◌*◌, ◌<◌, Bool, true, false, cond, List, [], ◌∷◌, ◌++◌, drop, sym, ap, subst, ◌∙◌, arith, Some, Ok, Err}
use Rattle.std.specs.Prelude.{position}
use Rattle.std.specs.List.{AllByRecursion, position_from}
use Rattle.std.proofs.lemmas.Iterator.Adapters.{position_from-zero}
use Rattle.std.proofs.lemmas.List.{drop-drop}
use Rattle.image_file.specs.Reading.{table_in}
use Rattle.image_file.specs.Steps.{refuse_at}
use Rattle.image_file.proofs.ListLaws.{none_position}
use Rattle.image_file.proofs.TableItems.{table_more}

-- none of the first items passes the test
abbrev pub NonePass : {X : Type 0} → (X → Bool) → (width : ℕ) → (List ℕ → X) → (count : ℕ) → List ℕ → Type 0
NonePass test width read count bytes = AllByRecursion (λ x. test x ≡ false) (table_in width read count bytes)

all_push : {X : Type 0} (P : X → Type 0) (xs : List X) (x : X) → AllByRecursion P xs → P x → AllByRecursion P (xs ++ x ∷ [])
all_push P [] x all here = (here, tt)
all_push P (y ∷ ys) x all here = (all.0, all_push P ys x all.1 here)

pub none_more : {X : Type 0} (test : X → Bool) (width : ℕ) (read : List ℕ → X) (count : ℕ) (bytes : List ℕ) → NonePass test width read count bytes → test (read (drop (width * count) bytes)) ≡ false → NonePass test width read (count + 1) bytes
none_more test width read count bytes none fails =
    subst (λ items. AllByRecursion (λ x. test x ≡ false) items) (sym (table_more width read count bytes)) (all_push (λ x. test x ≡ false) (table_in width read count bytes) (read (drop (width * count) bytes)) none fails)

found_from : {X : Type 0} (test : X → Bool) (width : ℕ) (read : List ℕ → X) (place count from : ℕ) (bytes : List ℕ) → place < count → NonePass test width read place bytes → test (read (drop (width * place) bytes)) ≡ true
    → position_from test from (table_in width read count bytes) ≡ Some (from + place)
found_from test width read place zero from bytes within none here = absurd (omega arith)
found_from test width read zero (suc count) from bytes within none here =
    let none_before : width * 0 ≡ 0 = omega arith in
    let first : test (read bytes) ≡ true = subst (λ n. test (read (drop n bytes)) ≡ true) none_before here in
    let at : from ≡ from + 0 = omega arith in
    ap (λ b. cond b (Some from) (position_from test (from + 1) (table_in width read count (drop width bytes)))) first ∙ ap (λ n. Some n) at
found_from test width read (suc place) (suc count) from bytes within none here =
    let behind : drop (width * suc place) bytes ≡ drop (width * place) (drop width bytes) = ap (λ n. drop n bytes) (omega arith) ∙ sym (drop-drop (width * place) width bytes) in
    let later : test (read (drop (width * place) (drop width bytes))) ≡ true = subst (λ rest. test (read rest) ≡ true) behind here in
    let at : from + 1 + place ≡ from + suc place = omega arith in
    ap (λ b. cond b (Some from) (position_from test (from + 1) (table_in width read count (drop width bytes)))) none.0
    ∙ found_from test width read place count (from + 1) (drop width bytes) (omega arith) none.1 later ∙ ap (λ n. Some n) at

-- the first item that passes
pub first_refused : {X E : Type 0} (test : X → Bool) (refusal : ℕ → E) (width : ℕ) (read : List ℕ → X) (place count : ℕ) (bytes : List ℕ) → place < count → NonePass test width read place bytes → test (read (drop (width * place) bytes)) ≡ true
    → Err (refusal place) ≡ refuse_at (position test (table_in width read count bytes)) refusal
first_refused test refusal width read place count bytes within none here =
    sym (ap (λ found. refuse_at found refusal) (position_from-zero test (table_in width read count bytes) ∙ found_from test width read place count 0 bytes within none here ∙ ap (λ n. Some n) (let at : 0 + place ≡ place = omega arith in at)))

pub none_refused : {X E : Type 0} (test : X → Bool) (refusal : ℕ → E) (width : ℕ) (read : List ℕ → X) (count : ℕ) (bytes : List ℕ) → NonePass test width read count bytes
    → Ok tt ≡ refuse_at (position test (table_in width read count bytes)) refusal
none_refused test refusal width read count bytes none = sym (ap (λ found. refuse_at found refusal) (none_position test (table_in width read count bytes) none))
