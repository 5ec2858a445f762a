-- What was written is the spelling.
use Rattle.std.proofs.Common.{◌≡◌, ℕ, List, [], ◌∷◌, ◌++◌, length, map, refl, sym, ap, ◌∙◌, append_assoc}
use Rattle.std.specs.Prelude.{zip}
use Rattle.std.specs.List.{flat_map}
use Rattle.std.proofs.lemmas.List.{length-map}
use Rattle.vax_form.specs.declared.state.Pick.{Pick}
use Rattle.run_files.specs.Spelling.{Ended, header_bytes, end_bytes, pick_bytes, order_bytes, stored_order}

zip_back : (ends : List Ended) → zip (map (λ (end : Ended). end.0) ends) (map (λ (end : Ended). end.1) ends) ≡ ends
zip_back [] = refl
zip_back (e ∷ es) = ap (λ rest. e ∷ rest) (zip_back es)

regroup : (a b c d : List ℕ) → ((a ++ b) ++ c) ++ d ≡ a ++ b ++ c ++ d
regroup a b c d = simp append_assoc

pub put_so : (ends : List Ended) (input : List ℕ) (picks : List Pick) (count : ℕ) → count ≡ length picks
    → ((header_bytes (length ends) count (length input) ++ flat_map end_bytes ends) ++ input) ++ flat_map pick_bytes picks ≡ order_bytes (stored_order ends input picks)
unfolding order_bytes
put_so ends input picks count is =
    regroup (header_bytes (length ends) count (length input)) (flat_map end_bytes ends) input (flat_map pick_bytes picks)
    ∙ (λ i. header_bytes (sym (length-map ends (λ (end : Ended). end.0)) i) (is i) (length input) ++ flat_map end_bytes (sym (zip_back ends) i) ++ input ++ flat_map pick_bytes picks)
