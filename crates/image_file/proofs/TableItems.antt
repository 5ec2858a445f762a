-- Tables read one item after the other.
use Rattle.std.proofs.Common.{add-one, ◌≡◌, ℕ, zero, suc, ◌+◌, ◌*◌, List, [], ◌∷◌, ◌++◌, drop, refl, sym, ap, ◌∙◌, arith}
use Rattle.std.proofs.Math.Nat.{mul-zero}
use Rattle.std.proofs.lemmas.List.{drop-drop}
use Rattle.image_file.specs.Reading.{word, table_in}

pub word_behind : (bytes : List ℕ) (at more : ℕ) → word (drop (at + more) bytes) ≡ word (drop more (drop at bytes))
word_behind bytes at more = ap word (sym (drop-drop more at bytes))

table_suc : {X : Type 0} (width : ℕ) (read : List ℕ → X) (count : ℕ) (bytes : List ℕ) → table_in width read (suc count) bytes ≡ table_in width read count bytes ++ read (drop (width * count) bytes) ∷ []
table_suc width read zero bytes = ap (λ rest. read rest ∷ []) (rw mul-zero refl)
table_suc width read (suc count) bytes =
    let behind : drop (width * suc count) bytes ≡ drop (width * count) (drop width bytes) = ap (λ n. drop n bytes) (omega arith) ∙ sym (drop-drop (width * count) width bytes) in
    ap (λ rest. read bytes ∷ rest) (table_suc width read count (drop width bytes) ∙ ap (λ rest. table_in width read count (drop width bytes) ++ read rest ∷ []) (sym behind))

pub table_more : {X : Type 0} (width : ℕ) (read : List ℕ → X) (count : ℕ) (bytes : List ℕ) → table_in width read (count + 1) bytes ≡ table_in width read count bytes ++ read (drop (width * count) bytes) ∷ []
table_more width read count bytes = ap (λ n. table_in width read n bytes) (add-one count) ∙ table_suc width read count bytes
