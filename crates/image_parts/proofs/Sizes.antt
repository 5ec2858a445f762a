-- Sections, each with its size.
use Rattle.std.proofs.Common.{◌≡◌, ◌<◌, ◌≤◌, ◌^◌, ℕ, true, false, cond, List, [], ◌∷◌, ◌++◌, None, length, map, replicate, refl, sym, ap, ◌∙◌, arith, lit<}
use Rattle.std.specs.Prelude.{All, position, ◌==◌}
use Rattle.std.specs.List.{flat_map, list_all, AllByRecursion}
use Rattle.std.specs.Int.{w32, to_le_bytes}
use Rattle.std.proofs.lemmas.Bool.{and_parts, eqb-true}
use Rattle.std.proofs.lemmas.List.{length-map}
use Rattle.image_file.specs.declared.image.Start.{Start}
use Rattle.image_file.specs.Values.{SectionValue}
use Rattle.image_file.specs.Spelling.{row_of, row_bytes, header_bytes, start_bytes, spelling}
use Rattle.image_file.specs.Whole.{StartFits, IsStart}
use Rattle.image_file.proofs.LengthLaws.{stored_of}
use Rattle.image_file.proofs.ListLaws.{position_none}
use Rattle.image_file.proofs.PageLaws.{all_at}
use Rattle.image_parts.specs.Values.{PartsValue}
use Rattle.image_parts.specs.Parts.{MOST_COUNTED, RowFits, Fits, sized, stores_too_much, is_cleared, fits_version_1, version_for, most_counted, parts_image}

pub same_stored : (ss : List SectionValue) → flat_map stored_of (map sized ss) ≡ flat_map stored_of ss
same_stored [] = refl
same_stored (s ∷ ss) = ap (λ rest. s.stored ++ rest) (same_stored ss)

pub same_count : (ss : List SectionValue) → length (map sized ss) ≡ length ss
same_count ss = length-map ss sized

pub none_too_long : (ss : List SectionValue) → None ≡ position stores_too_much ss → All (λ s. stores_too_much s ≡ false) ss
none_too_long ss none = λ k d within. all_at (λ s. stores_too_much s ≡ false) ss k d (position_none stores_too_much ss (sym none)) within

zeros : (xs : List ℕ) → list_all (λ (value : ℕ). value == 0) xs ≡ true → xs ≡ replicate (length xs) 0
zeros [] all = refl
zeros (x ∷ xs) all =
    let both = and_parts (x == 0) (list_all (λ (value : ℕ). value == 0) xs) all in
    let here : x ≡ 0 = eqb-true _ _ both.0 in
    λ i. here i ∷ zeros xs both.1 i

starts_of_1 : (ts : List Start) → AllByRecursion StartFits ts → list_all is_cleared ts ≡ true → AllByRecursion (IsStart 1) ts
starts_of_1 [] fit cleared = tt
starts_of_1 (t ∷ ts) fit cleared =
    let both = and_parts (is_cleared t) (list_all is_cleared ts) cleared in
    (record { fits = fit.0; cleared = λ _. zeros t.first both.0 ∙ ap (λ n. replicate n 0) fit.0.count }, starts_of_1 ts fit.1 both.1)

starts_of_2 : (ts : List Start) → AllByRecursion StartFits ts → AllByRecursion (IsStart 2) ts
starts_of_2 [] fit = tt
starts_of_2 (t ∷ ts) fit = (record { fits = fit.0; cleared = λ one. absurd (omega (arith, one)) }, starts_of_2 ts fit.1)

starts_fit : (ts : List Start) (ss : List SectionValue) → AllByRecursion StartFits ts → AllByRecursion (IsStart (version_for ts ss)) ts
starts_fit ts ss fit =
    (elim (fits_version_1 ts ss) as (λ b. fits_version_1 ts ss ≡ b → AllByRecursion (IsStart (cond b 1 2)) ts) [
      | true ↦ λ is. starts_of_1 ts fit (and_parts _ _ (and_parts _ _ is).0).1
      | false ↦ λ is. starts_of_2 ts fit
    ]) refl

version_fits : (ts : List Start) (ss : List SectionValue) → version_for ts ss < 2 ^ 16
version_fits ts ss = elim (fits_version_1 ts ss) as (λ b. cond b 1 2 < 2 ^ 16) [ true ↦ lit< tt | false ↦ lit< tt ]

pub parts_fit : (parts : PartsValue) → most_counted parts ≤ MOST_COUNTED → AllByRecursion StartFits parts.threads → AllByRecursion RowFits (map row_of (map sized parts.sections)) → AllByRecursion (λ (e : ℕ). e < 2 ^ 32) parts.entries
    → Fits (parts_image parts)
unfolding parts_image
parts_fit parts few starts rows entries =
    let count = same_count parts.sections in
    record {
      version = version_fits parts.threads (map sized parts.sections);
      threads = omega (arith, few);
      sections = omega (arith, few, count);
      entries = omega (arith, few);
      starts_fit = starts_fit parts.threads (map sized parts.sections) starts;
      rows_fit = rows;
      entries_fit = entries;
      pages = refl;
    }

-- what is appended part by part is the spelling
pub spelled_so : (parts : PartsValue) (version t s e : ℕ) (threads : List Start) (sections : List SectionValue) (entries : List ℕ) (a b c d out : List ℕ)
    → version ≡ version_for parts.threads (map sized parts.sections) → t ≡ length parts.threads → s ≡ length parts.sections → e ≡ length parts.entries
    → threads ≡ parts.threads → sections ≡ parts.sections → entries ≡ parts.entries
    → a ≡ header_bytes version t s e → b ≡ a ++ flat_map (start_bytes version) threads → c ≡ b ++ flat_map row_bytes (map row_of (map sized sections)) → d ≡ c ++ flat_map (to_le_bytes w32) entries
    → out ≡ d ++ flat_map stored_of sections → out ≡ spelling (parts_image parts)
unfolding parts_image spelling
spelled_so parts version t s e threads sections entries a b c d out version_is t_is s_is e_is threads_are sections_are entries_are head starts rows words stored =
    let count : s ≡ length (map sized parts.sections) = s_is ∙ sym (same_count parts.sections) in
    let last : flat_map stored_of sections ≡ flat_map stored_of (map sized parts.sections) = ap (flat_map stored_of) sections_are ∙ sym (same_stored parts.sections) in
    stored
    ∙ ap (λ o. o ++ flat_map stored_of sections) (words ∙ ap (λ o. o ++ flat_map (to_le_bytes w32) entries) (rows ∙ ap (λ o. o ++ flat_map row_bytes (map row_of (map sized sections))) (starts ∙ ap (λ o. o ++ flat_map (start_bytes version) threads) head)))
    ∙ (λ i. header_bytes (version_is i) (t_is i) (count i) (e_is i) ++ flat_map (start_bytes (version_is i)) (threads_are i) ++ flat_map row_bytes (map row_of (map sized (sections_are i))) ++ flat_map (to_le_bytes w32) (entries_are i) ++ last i)
