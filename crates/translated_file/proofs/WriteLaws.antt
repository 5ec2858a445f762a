-- What was written is the spelling, and its numbers are longwords.
use Rattle.std.proofs.Common.{◌≡◌, ℕ, ◌+◌, ◌^◌, ◌<◌, List, [], ◌∷◌, ◌++◌, length, take, sym, ap, subst, ◌∙◌, arith, true, Ok}
use Rattle.std.specs.List.{flat_map, AllByRecursion}
use Rattle.std.proofs.lemmas.List.{take_more}
use Rattle.std.proofs.lemmas.List.Concat.{flat_map-append}
use Rattle.address_map.specs.Pairs.{Pair}
use Rattle.image_file.specs.Values.{ImageValue}
use Rattle.image_file.specs.Spelling as Image
use Rattle.image_file.specs.Whole.{IsWhole}
use Rattle.image_file.proofs.LengthLaws.{whole_length, whole_small}
use Rattle.translated_file.specs.Limits.{is_version}
use Rattle.translated_file.specs.Spelling.{word_bytes, header_bytes, front_bytes, pair_words, tail_words, written_parts, spelling}
use Rattle.translated_file.specs.Reading.{parts_of}
use Rattle.translated_file.specs.Comparing.{tail_place, accepted}
use Rattle.translated_file.specs.Whole.{IsLong, AreHints}
use Rattle.translated_file.proofs.Differences.{pair_at}
use Rattle.translated_file.proofs.BothWays.{read_again, tail_agrees, all_append}

pub pair_fits : (pairs : List Pair) (k : ℕ) → k < length pairs → AllByRecursion IsLong (flat_map pair_words (take k pairs)) → AllByRecursion IsLong (pair_words (pair_at pairs k)) → AllByRecursion IsLong (flat_map pair_words (take (k + 1) pairs))
pair_fits pairs k within before here =
    let more = ap (flat_map pair_words) (take_more pairs k (0, 0) within) ∙ flat_map-append pair_words (take k pairs) (pair_at pairs k ∷ []) in
    subst (λ ws. AllByRecursion IsLong ws) (sym more) (all_append (flat_map pair_words (take k pairs)) (pair_words (pair_at pairs k)) before here)

pub image_small : (image : ImageValue) (bytes : List ℕ) → IsWhole image → bytes ≡ Image.spelling image → length bytes < 2 ^ 32
image_small image bytes whole is = omega (arith, ap length is, whole_length image whole, whole_small image whole)

abbrev raw : ℕ → List ℕ → List ℕ → List ℕ → List Pair → List ℕ
raw version image hints words pairs = header_bytes version (length image) (length hints) ++ image ++ word_bytes hints ++ word_bytes (tail_words words pairs)

pub raw_is : (version : ℕ) (image : ImageValue) (bytes hints words : List ℕ) (pairs found : List Pair) → bytes ≡ Image.spelling image → found ≡ pairs → raw version bytes hints words found ≡ spelling version image hints words pairs
unfolding front_bytes
raw_is version image bytes hints words pairs found is same = λ i. raw version (is i) hints words (same i)

pub written_reads : (version : ℕ) (bytes : List ℕ) (image : ImageValue) (hints words : List ℕ) (pairs : List Pair) → is_version version ≡ true → IsWhole image → AreHints hints → bytes ≡ spelling version image hints words pairs → parts_of bytes ≡ Ok (written_parts version image hints words pairs)
written_reads version bytes image hints words pairs is whole are spelled = ap parts_of spelled ∙ read_again (written_parts version image hints words pairs) (record { version = is; image = whole; hints = are })

pub written_compares : (version : ℕ) (bytes : List ℕ) (image : ImageValue) (hints words : List ℕ) (pairs : List Pair) → parts_of bytes ≡ Ok (written_parts version image hints words pairs) → AllByRecursion IsLong (tail_words words pairs) → accepted bytes words pairs ≡ Ok tt
written_compares version bytes image hints words pairs read fit = rw read (tail_agrees (tail_place (written_parts version image hints words pairs)) (tail_words words pairs) fit)
