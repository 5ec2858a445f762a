-- At most so many instructions of a generated image can be reached.
use Rattle.std.proofs.Common.{◌≡◌, ℕ, zero, suc, ◌+◌, ◌^◌, ◌<◌, ◌≤◌, Bool, true, false, ◌||◌, List, [], ◌∷◌, ◌++◌, length, get_or, refl, sym, ap, subst, ◌∙◌, arith, nat_eq, append-nil, length-append, lit≤}
use Rattle.std.specs.List.{AllByRecursion}
use Rattle.std.proofs.lemmas.List.Folds.{list_any_at}
use Rattle.std.proofs.lemmas.Bool.{eqb-true, eq-eqb}
use Rattle.vax_form.specs.declared.pages.Pages.{Pages}
use Rattle.vax_form.specs.Targets.{has}
use Rattle.flow_discovery.specs.Reach.{AreReached}
use Rattle.flow_discovery.specs.Starts.{starts}
use Rattle.report_text.specs.Generated.{back_bytes, front_bytes, generated_code, generated_image, group_bytes, group_of, groups, image_with, number_of_group}
use Rattle.report_text.proofs.GeneratedLaws.{code_few, group_few, pages_with, table_with}
use Rattle.generated_flow.specs.Few.{NeverTooMany, ReachesFew}
use Rattle.generated_flow.proofs.Counting.{not_more}
use Rattle.generated_flow.proofs.Forms.{group, move, service}
use Rattle.generated_flow.proofs.Pieces.{Flows, joined, joined-append, offset, offset_grows, place}

-- ---- the code as pieces
abbrev group_pieces : (number count : ℕ) → List (List ℕ)
group_pieces number zero = []
group_pieces number (suc count) = group_pieces number count ++ group_bytes (group_of (number_of_group number count)) ∷ []

abbrev last_pieces : List (List ℕ)
last_pieces = (0xD0 ∷ 0x52 ∷ 0x50 ∷ []) ∷ (0xBC ∷ 0x01 ∷ []) ∷ []

abbrev pieces : ℕ → List (List ℕ)
pieces number =
    (0xBC ∷ 0x04 ∷ []) ∷ (0xD0 ∷ 0x50 ∷ 0x51 ∷ []) ∷ (0xD0 ∷ 0x50 ∷ 0x52 ∷ []) ∷ (group_pieces number number ++ last_pieces)

joined_groups : (number count : ℕ) → joined (group_pieces number count) ≡ groups number count
joined_groups number zero = refl
joined_groups number (suc count) =
    let bytes : List ℕ = group_bytes (group_of (number_of_group number count)) in
    joined-append (group_pieces number count) (bytes ∷ []) ∙ (λ i. joined_groups number count i ++ append-nil bytes i)

joined_pieces : (number : ℕ) → joined (pieces number) ≡ generated_code number
joined_pieces number =
    ap (λ t. front_bytes ++ t) (joined-append (group_pieces number number) last_pieces ∙ ap (λ t. t ++ back_bytes) (joined_groups number number))

length-groups : (number count : ℕ) → length (group_pieces number count) ≡ count
length-groups number zero = refl
length-groups number (suc count) =
    let bytes : List ℕ = group_bytes (group_of (number_of_group number count)) in
    let one : List (List ℕ) = bytes ∷ [] in
    omega (arith, length-append (group_pieces number count) one, length-groups number count)

length-pieces : (number : ℕ) → length (pieces number) ≡ number + 5
length-pieces number = omega (arith, length-append (group_pieces number number) last_pieces, length-groups number number)

all_append : (ps qs : List (List ℕ)) → AllByRecursion Flows ps → AllByRecursion Flows qs → AllByRecursion Flows (ps ++ qs)
all_append [] qs a b = b
all_append (p ∷ ps) qs a b = (a.0, all_append ps qs a.1 b)

group_flows : (x : ℕ) → Flows (group_bytes (group_of x))
group_flows x = record { goes = λ at. group at x; short = omega (arith, group_few (group_of x)) }

groups_flow : (number count : ℕ) → AllByRecursion Flows (group_pieces number count)
groups_flow number zero = tt
groups_flow number (suc count) =
    all_append (group_pieces number count) _ (groups_flow number count) (group_flows (number_of_group number count), tt)

pieces_flow : (number : ℕ) → AllByRecursion Flows (pieces number)
pieces_flow number = (
  record { goes = λ at. service at 4 (lit≤ tt); short = lit≤ tt },
  (
    record { goes = λ at. move at 0 1 (lit≤ tt) (lit≤ tt); short = lit≤ tt },
    (
      record { goes = λ at. move at 0 2 (lit≤ tt) (lit≤ tt); short = lit≤ tt },
      all_append (group_pieces number number) last_pieces (groups_flow number number)
          (record { goes = λ at. move at 2 0 (lit≤ tt) (lit≤ tt); short = lit≤ tt }, (record { goes = λ at. service at 1 (lit≤ tt); short = lit≤ tt }, tt)),
    ),
  ),
)

-- ---- what can be reached
four : (b : Bool) → (b || (b || (b || (b || false)))) ≡ true → b ≡ true
four true is = refl
four false is = is

starts_are : (number a : ℕ) → has (starts (generated_image number) []) a ≡ true → a ≡ 65536
unfolding image_with
starts_are number a h = eqb-true a 65536 (four (nat_eq a 65536) h)

pages_are : (number : ℕ) → (generated_image number).pages ≡ table_with (joined (pieces number))
unfolding image_with
pages_are number = pages_with (generated_code number) ∙ ap table_with (sym (joined_pieces number))

pub reaches_few : ReachesFew
reaches_few number addresses few reached =
    let ps : List (List ℕ) = pieces number in
    let begins : List ℕ = starts (generated_image number) [] in
    let size : length (joined ps) ≤ 2 ^ 19 = subst (λ code. length code ≤ 2 ^ 19) (sym (joined_pieces number)) (code_few number few) in
    let of_pieces : AreReached (table_with (joined ps)) begins addresses =
    subst (λ (pages : Pages). AreReached pages begins addresses) (pages_are number) reached in
    let count = length-pieces number in
    let some : 0 < length ps = omega (arith, count) in
    let grows : (j k : ℕ) → j ≤ k → 65536 + offset j ps ≤ 65536 + offset k ps = λ j k le. omega (arith, offset_grows ps j k le) in
    not_more (λ j. 65536 + offset j ps) grows (number + 5) addresses of_pieces.rising
    (λ i inside.
    let a : ℕ = get_or addresses i 0 in
    let member = (of_pieces.members a).0 (list_any_at (nat_eq a) addresses i 0 inside (eq-eqb a a refl)) in
    let there = place ps (pieces_flow number) some size begins (starts_are number) a member in
    let high = there.1 in
    (there.0, omega (arith, high, count), there.2))

pub never_too_many : NeverTooMany
never_too_many number count few (addresses, reached, is, many) = omega (arith, reaches_few number addresses few reached, is, many, few)
