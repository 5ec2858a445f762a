-- The sizes of a translation.
use Rattle.std.proofs.Common.{◌<◌, ◌≤◌, ◌+◌, ℕ, List, length, map, get_or, ◌∙◌, arith}
use Rattle.std.specs.List.Sorted.{IsStrictlyIncreasing}
use Rattle.std.proofs.lemmas.List.{get_or-map, length-map}
use Rattle.std.proofs.lemmas.List.Elements.{recursion_from_All}
use Rattle.address_map.specs.Pairs.{AllRise, Pair}
use Rattle.address_map.proofs.Lookups.{word_at-pair}
use Rattle.block_law.specs.Translations.{Code, Meaning, Meets, Permit}
use Rattle.image_meaning.specs.declared.target.Target.{Target}
use Rattle.image_file.specs.Values.{ImageValue}
use Rattle.report_text.specs.Listing.{AreWithin}
use Rattle.translate.proofs.Reached.{is_mapped}
use Rattle.translate.specs.Translated.{IsTranslated}
use Rattle.vest_files.proofs.Members.{not_longer}

addresses_rise : (pairs : List Pair) → AllRise pairs → IsStrictlyIncreasing (map (λ (p : Pair). p.0) pairs)
addresses_rise pairs rise k lt =
    let count = length-map pairs (λ (p : Pair). p.0) in
    let within : k + 1 < length pairs = omega (arith, count, lt) in
    let up = (rise k (0, 0) within).0 in
    rw (get_or-map (λ (p : Pair). p.0) pairs k (0, 0) 0 (omega arith), get_or-map (λ (p : Pair). p.0) pairs (k + 1) (0, 0) 0 within) up

-- as many addresses are mapped as can be reached at most
pub few_pairs : (target : Target) (image : ImageValue) (hints : List ℕ) (code : Code) → IsTranslated target image hints code → length code.map ≤ 32768
few_pairs target image hints code is =
    let few = is.few.few in
    let count = length-map code.map (λ (p : Pair). p.0) in
    let fewer : length (map (λ (p : Pair). p.0) code.map) ≤ length is.few.addresses =
    not_longer (map (λ (p : Pair). p.0) code.map) is.few.addresses (addresses_rise code.map is.meets.map_rises) is.few.reached.rising
    (λ a h. (is.few.reached.members a).1 ((is.mapped a).0 (is_mapped code.map a ∙ h)).member) in
    omega (arith, few, count, fewer)

-- each block begins within the words, or behind them
pub blocks_within : (meaning : Meaning) (permit : Permit) (code : Code) → Meets meaning permit code → AreWithin code.words code.map
blocks_within meaning permit code meets = recursion_from_All (λ (pair : Pair). pair.1 ≤ length code.words) code.map
    (λ k d lt.
    let block = meets.blocks (get_or code.map k d).0 (get_or code.map k d).1 (word_at-pair code.map k d meets.map_rises lt) in
    let ends = block.ends in
    let within = block.within in
    omega (arith, ends, within))
