-- The bytes that a history put out, told either way round.
use Rattle.std.proofs.Common.{◌≡◌, Bool, true, false, if◌then◌else◌, ℕ, List, [], ◌∷◌, ◌++◌, map, reverse, refl, sym, ap, ◌∙◌}
use Rattle.std.specs.List.{filter}
use Rattle.std.proofs.lemmas.List.{append-nil, reverse-append, reverse-reverse}
use Rattle.memory_core.specs.Contents.{output_of}
use Rattle.memory_core.specs.Kinds.{is_put}
use Rattle.memory_core.specs.declared.entry.Entry.{Entry}
use Rattle.memory_core.proofs.Keeping.{output_of-push}
use Rattle.vax_form.specs.Made.{Made, output_after}

-- what one more entry puts before the others
put_first : (b : Bool) (e : Entry) (puts : List Entry) → reverse (map (λ (x : Entry). x.after) puts) ++ (if b then e.after ∷ [] else [])
    ≡ reverse (map (λ (x : Entry). x.after) (if b then e ∷ puts else puts))
put_first true e puts = sym (reverse-append (e.after ∷ []) (map (λ (x : Entry). x.after) puts))
put_first false e puts = append-nil (reverse (map (λ (x : Entry). x.after) puts))

output_reversed : (history : List Entry) → output_of (reverse history) ≡ reverse (output_of history)
output_reversed [] = refl
output_reversed (e ∷ history) =
    ap output_of (reverse-append (e ∷ []) history)
    ∙ output_of-push (reverse history) e
    ∙ ap (λ (bytes : List ℕ). bytes ++ (if is_put e.kind then e.after ∷ [] else [])) (output_reversed history)
    ∙ put_first (is_put e.kind) e (filter (λ (x : Entry). is_put x.kind) history)

-- what driven threads put out is what their history has, where it is told newest first
pub put_out : (history : List Entry) (made : List Made) → output_after made ≡ output_of (reverse history) → output_of history ≡ reverse (output_after made)
put_out history made is =
    sym (reverse-reverse (output_of history))
    ∙ ap reverse (sym (output_reversed history))
    ∙ ap reverse (sym is)
