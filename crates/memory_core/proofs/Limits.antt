-- What a limit counts of a history and of its parts.
use Rattle.std.proofs.Common.{◌≡◌, ℕ, suc, ◌+◌, ◌<◌, ◌≤◌, ◌==◌, ◌&&◌, Bool, true, false, if◌then◌else◌, List, [], ◌∷◌, ◌++◌, length, map, reverse, refl, ap, ◌∙◌, arith, length-append}
use Rattle.std.specs.List.{filter}
use Rattle.std.proofs.lemmas.Bool.Decides.{nat_tests}
use Rattle.std.proofs.lemmas.List.{reverse-append, length-reverse, length-map, map-append}
use Rattle.std.proofs.lemmas.List.Elements.{filter-append}
use Rattle.memory_core.specs.declared.entry.Entry.{Entry}
use Rattle.memory_core.specs.declared.entry.Kind.TheVariants.{Put}
use Rattle.memory_core.specs.declared.entry.Limit.{Limit}
use Rattle.memory_core.specs.declared.entry.Limit.TheVariants.{Entries, Puts}
use Rattle.memory_core.specs.Contents.{output_of, bytes_put}
use Rattle.memory_core.specs.Kinds.{is_put}
use Rattle.memory_core.specs.Limits.{counts, counted, greatest, IsAtLeast, IsWithin, IsAtLimit}

-- ---- bytes put

pub output_of-append : (xs ys : List Entry) → output_of (xs ++ ys) ≡ output_of xs ++ output_of ys
output_of-append xs ys =
    ap (map (λ (e : Entry). e.after)) (filter-append (λ (e : Entry). is_put e.kind) xs ys)
    ∙ map-append (λ (e : Entry). e.after) (filter (λ (e : Entry). is_put e.kind) xs) (filter (λ (e : Entry). is_put e.kind) ys)

bytes_put-append : (xs ys : List Entry) → bytes_put (xs ++ ys) ≡ bytes_put xs + bytes_put ys
bytes_put-append xs ys = ap length (output_of-append xs ys) ∙ length-append (output_of xs) (output_of ys)

bytes_put-reverse : (xs : List Entry) → bytes_put (reverse xs) ≡ bytes_put xs
bytes_put-reverse [] = refl
bytes_put-reverse (x ∷ xs) =
    let turned : bytes_put (reverse (x ∷ xs)) ≡ bytes_put (reverse xs ++ x ∷ []) = ap bytes_put (reverse-append (x ∷ []) xs) in
    let split = bytes_put-append (reverse xs) (x ∷ []) in
    let whole : bytes_put (x ∷ xs) ≡ bytes_put (x ∷ []) + bytes_put xs = bytes_put-append (x ∷ []) xs in
    omega (arith, turned, split, whole, bytes_put-reverse xs)

if_put_within : (b : Bool) (e : Entry) (xs : List Entry) (m : ℕ) → length xs ≤ m → length (if b then e ∷ xs else xs) ≤ suc m
if_put_within true e xs m h = omega arith
if_put_within false e xs m h = omega arith

length-puts : (xs : List Entry) → length (filter (λ (e : Entry). is_put e.kind) xs) ≤ length xs
length-puts [] = omega arith
length-puts (e ∷ xs) = if_put_within (is_put e.kind) e (filter (λ (e : Entry). is_put e.kind) xs) (length xs) (length-puts xs)

-- no more bytes are put than count
pub puts_counted : (limit : Limit) (xs : List Entry) → bytes_put xs ≤ counted limit xs
puts_counted (Entries n) xs = rw (length-map (filter (λ (e : Entry). is_put e.kind) xs) (λ (e : Entry). e.after)) (length-puts xs)
puts_counted (Puts n) xs = omega arith

-- ---- parts of a history, and a history the other way round

pub counted-append : (limit : Limit) (xs ys : List Entry) → counted limit (xs ++ ys) ≡ counted limit xs + counted limit ys
counted-append (Entries n) xs ys = length-append xs ys
counted-append (Puts n) xs ys = bytes_put-append xs ys

pub counted-reverse : (limit : Limit) (xs : List Entry) → counted limit (reverse xs) ≡ counted limit xs
counted-reverse (Entries n) xs = length-reverse xs
counted-reverse (Puts n) xs = bytes_put-reverse xs

pub none_within : (limit : Limit) → IsWithin limit []
none_within (Entries n) = omega arith
none_within (Puts n) = omega arith

pub within_part : (limit : Limit) (xs ys : List Entry) → IsWithin limit (xs ++ ys) → IsWithin limit xs × IsWithin limit ys
within_part limit xs ys within = (omega (arith, within, counted-append limit xs ys), omega (arith, within, counted-append limit xs ys))

pub within_reverse : (limit : Limit) (xs : List Entry) → IsWithin limit xs → IsWithin limit (reverse xs)
within_reverse limit xs within = omega (arith, within, counted-reverse limit xs)

pub within_turned : (limit : Limit) (xs : List Entry) → IsWithin limit (reverse xs) → IsWithin limit xs
within_turned limit xs within = omega (arith, within, counted-reverse limit xs)

pub at_reverse : (limit : Limit) (xs : List Entry) → IsAtLimit limit xs → IsAtLimit limit (reverse xs)
at_reverse limit xs at = counted-reverse limit xs ∙ at

pub at_within : (limit : Limit) (xs : List Entry) → IsAtLimit limit xs → IsWithin limit xs
at_within limit xs at = omega (arith, at)

pub at_stays : (limit : Limit) (later xs : List Entry) → IsAtLimit limit xs → IsWithin limit (later ++ xs) → IsAtLimit limit (later ++ xs)
at_stays limit later xs at within = omega (arith, at, within, counted-append limit later xs)

-- ---- one entry more

one_counts : (limit : Limit) (e : Entry) → counted limit (e ∷ []) ≡ (if counts limit e.kind then 1 else 0)
one_counts (Entries n) e = refl
one_counts (Puts n) e = one (is_put e.kind) where
  one : (b : Bool) → length (map (λ (x : Entry). x.after) (if b then e ∷ [] else [])) ≡ (if b then 1 else 0)
  one true = refl
  one false = refl

pub puts_count : (limit : Limit) → counts limit Put ≡ true
puts_count (Entries n) = refl
puts_count (Puts n) = refl

-- what counts and isn't at the limit has room
pub room_below : (counts : Bool) (count most : ℕ) → (counts && (count == most)) ≡ false → count ≤ most → counts ≡ true → count < most
room_below true count most h bound is = grind (arith, nat_tests)
room_below false count most h bound is = absurd (cc is)

one_more : (counts : Bool) (count most : ℕ) → (counts ≡ true → count < most) → count ≤ most → count + (if counts then 1 else 0) ≤ most
one_more true count most room within = omega (arith, room refl)
one_more false count most room within = omega arith

pub within-push : (limit : Limit) (xs : List Entry) (e : Entry) → (counts limit e.kind ≡ true → counted limit xs < greatest limit) → IsWithin limit xs → IsWithin limit (xs ++ e ∷ [])
within-push limit xs e room within =
    let more = one_more (counts limit e.kind) (counted limit xs) (greatest limit) room within in
    omega (arith, more, counted-append limit xs (e ∷ []), one_counts limit e)

-- there is none where there may be no more
pub past_limit : (limit : Limit) (e : Entry) (xs : List Entry) → counts limit e.kind ≡ true → IsAtLimit limit xs → IsAtLimit limit (e ∷ xs) → ⊥
past_limit limit e xs counts_so full more =
    let one : counted limit (e ∷ []) ≡ 1 = one_counts limit e ∙ ap (λ (b : Bool). if b then 1 else 0) counts_so in
    absurd (omega (arith, full, more, counted-append limit (e ∷ []) xs, one))

-- within a limit it is within one that is as great
pub within_raised : (old new : Limit) (xs : List Entry) → IsAtLeast old new → IsWithin old xs → IsWithin new xs
within_raised (Entries m) (Entries n) xs more within = omega (arith, more, within)
within_raised (Puts m) (Puts n) xs more within = omega (arith, more, within)
within_raised (Entries m) (Puts n) xs more within = absurd more
within_raised (Puts m) (Entries n) xs more within = absurd more
