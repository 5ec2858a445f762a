-- Operands in memory: their pages, their parts, and the accesses that are made for them.
use Rattle.std.proofs.Common.{◌≡◌, ℕ, zero, suc, ◌+◌, ◌-◌, ◌*◌, ◌/◌, ◌%◌, ◌^◌, ◌<◌, ◌≤◌, refl, sym, ap, ◌∙◌, subst, arith, List, [], ◌∷◌, All, Option, Some, None, Bool, true, false, inl, inr, lit<, lit≤}
use Rattle.std.specs.Prelude.{◌==◌, ◌&&◌, ◌||◌, ◌⊎◌, not, nat_le, nat_lt, bit_and, if◌then◌else◌}
use Rattle.std.specs.List.{list_any}
use Rattle.std.proofs.Math.Nat.{mod-eq_of_lt, mod-mod}
use Rattle.std.proofs.lemmas.Bool.Decides.{nat_tests}
use Rattle.std.proofs.lemmas.List.Elements.{All-cons, All-nil}
use Rattle.std.proofs.lemmas.Nat.{and_assoc, and_mask, div_below, div-add-mod', mod_below, pow-add, pow_pos}
use Rattle.std.proofs.lemmas.Bool.{or_cases, eqb-true}
use Rattle.vt_words.specs.Quad.{IsCount, one as c1, two as c2, four as c4, eight as c8, field_of, with_field_of}
use Rattle.vt_words.proofs.Spreads.{below_8}
use Rattle.vax_form.specs.PageTable.{IsPageTable, AreRising, has_page}
use Rattle.vax_form.specs.Pages.{first_bad, is_allowed, allows}
use Rattle.vax_form.specs.Parts.{parts}
use Rattle.vax_form.specs.Ranges.{FitsPage}
use Rattle.vax_form.specs.State.{Answers}
use Rattle.vax_form.specs.Tree.{Tree}
use Rattle.vax_form.specs.declared.pages.PageRange.{PageRange}
use Rattle.vax_form.specs.declared.pages.Pages.{Pages}
use Rattle.vax_form.specs.declared.state.Reference.{Reference}
use Rattle.vax_form.specs.declared.state.RefKind.TheVariants as references
use Rattle.alpha_meaning.specs.Pieces.{Kinds}
use Rattle.alpha_meaning.specs.Result.{inverse}
use Rattle.alpha_meaning.proofs.Rules.{changed_low}
use Rattle.micro_ops.specs.declared.known.Checked.{Checked}
use Rattle.micro_ops.specs.declared.known.Checked.TheVariants.{Nowhere, At}
use Rattle.micro_ops.specs.declared.program.LockedOp.{LockedOp}
use Rattle.micro_ops.specs.declared.program.LockedOp.TheVariants.{AddWord, SetBit, ClearBit}
use Rattle.micro_ops.specs.Course.{Course, Ask, read_parts, write_parts}
use Rattle.micro_ops.specs.Known.{is_checked}
use Rattle.micro_ops.specs.Meaning.{Temps, Left, locked_count, locked_kind}
use Rattle.byte_sequences.specs.Plans.{quad_of_part, read_plan, write_plan, locked_plan}
use Rattle.byte_sequences.specs.Promises.{MayRead, MayWrite, MayLock, MayStore, IsLockable}
use Rattle.block_law.specs.Laws.{MoreKinds}
use Rattle.block_law.specs.Placements.{Placement}
use Rattle.block_law.proofs.Blocks.{Begins, piece_terms}
use Rattle.program_codegen.specs.Accesses.{by_locks, needed}
use Rattle.program_codegen.proofs.Stores.{loads_of, loaded_of, load_kinds, stores_of, stored_of, SomeStore, store_kinds, Each, read_kinds, lock_kinds}
use Rattle.program_codegen.proofs.Numbers.{all_three}
use Rattle.program_codegen.proofs.Holding.{IsChecked, tree}

-- ---- pages
-- an image lies below address 80000000
allowed_low : (ranges : List PageRange) (lowest address : ℕ) (write : Bool) → AreRising lowest ranges → list_any (allows address write) ranges ≡ true → address / 512 < 4194304
allowed_low [] lowest address write rising e = absurd (cc e)
allowed_low (r ∷ rs) lowest address write rising e = by (λ is. allowed_low rs (r.first + r.count) address write rising.3 is) (or_cases (allows address write r) (list_any (allows address write) rs) e)
  where
    below : (n k : ℕ) (a b : Bool) → k ≤ 4194304 → (a && nat_lt n k && b) ≡ true → n < 4194304
    below n k a b high e = let x = all_three a (nat_lt n k) b e in let lt : n < k = grind (arith, nat_tests, x.1) in omega arith

    by : (list_any (allows address write) rs ≡ true → address / 512 < 4194304) → (allows address write r ≡ true) ⊎ (list_any (allows address write) rs ≡ true) → address / 512 < 4194304
    by later (inl is) = below (address / 512) (r.first + r.count) (nat_le r.first (address / 512)) (not write || r.writable) rising.2 is
    by later (inr is) = later is

pub in_space : (pages : Pages) (address : ℕ) (write : Bool) → IsPageTable pages → is_allowed pages address write ≡ true → address < 2 ^ 31
in_space pages address write is e = let lt = allowed_low pages.ranges 0 address write is.rising e in omega arith

-- what may be written may be read
either_readable : (has writable : Bool) (rest rest' : Bool) → (rest ≡ true → rest' ≡ true) → ((has && (not true || writable)) || rest) ≡ true → ((has && (not false || writable)) || rest') ≡ true
either_readable true writable rest rest' f e = refl
either_readable false writable rest rest' f e = f e

writable_is_readable : (ranges : List PageRange) (address : ℕ) → list_any (allows address true) ranges ≡ true → list_any (allows address false) ranges ≡ true
writable_is_readable [] address e = absurd (cc e)
writable_is_readable (r ∷ rs) address e = either_readable (has_page (address / 512) r) r.writable (list_any (allows address true) rs) (list_any (allows address false) rs) (writable_is_readable rs address) e

pub readable : (pages : Pages) (address : ℕ) → is_allowed pages address true ≡ true → is_allowed pages address false ≡ true
readable pages address e = writable_is_readable pages.ranges address e

may_use : (pages : Pages) (address : ℕ) (intent write : Bool) → (not write || intent) ≡ true → is_allowed pages address intent ≡ true → is_allowed pages address write ≡ true
may_use pages address true true may e = e
may_use pages address true false may e = readable pages address e
may_use pages address false true may e = absurd (cc may)
may_use pages address false false may e = e

pub in_quad : (pages : Pages) (write : Bool) (a : ℕ) → is_allowed pages a write ≡ true → is_allowed pages (a / 8 * 8) write ≡ true
in_quad pages write a e =
    let same : a / 8 * 8 / 512 ≡ a / 512 = omega arith in
    ap (λ page. list_any (λ (r : PageRange). has_page page r && (not write || r.writable)) pages.ranges) same ∙ e

-- each byte that passes a check
pub first_passes : (pages : Pages) (write : Bool) (address count : ℕ) → first_bad pages write address (suc count) ≡ None → (is_allowed pages address write ≡ true) × (first_bad pages write ((address + 1) % 2 ^ 32) count ≡ None)
first_passes pages write address count e = by (is_allowed pages address write) refl e
  where
    by : (b : Bool) → is_allowed pages address write ≡ b → (if b then first_bad pages write ((address + 1) % 2 ^ 32) count else Some address) ≡ None → (b ≡ true) × (first_bad pages write ((address + 1) % 2 ^ 32) count ≡ None)
    by true is e = (refl, e)
    by false is e = absurd (cc e)

pub each_byte : (pages : Pages) (write : Bool) (count address i : ℕ) → address < 2 ^ 32 → i < count → first_bad pages write address count ≡ None → is_allowed pages ((address + i) % 2 ^ 32) write ≡ true
each_byte pages write zero address i small lt e = absurd (omega arith)
each_byte pages write (suc count) address zero small lt e =
    let here : (address + 0) % 2 ^ 32 ≡ address = omega arith in
    subst (λ a. is_allowed pages a write ≡ true) (sym here) (first_passes pages write address count e).0
each_byte pages write (suc count) address (suc i) small lt e =
    let there : ((address + 1) % 2 ^ 32 + i) % 2 ^ 32 ≡ (address + suc i) % 2 ^ 32 = omega arith in
    subst (λ a. is_allowed pages a write ≡ true) there (each_byte pages write count ((address + 1) % 2 ^ 32) i (omega arith) (omega arith) (first_passes pages write address count e).1)

-- ---- checked operands
pub count_some : {count : ℕ} → IsCount count → (0 < count) × (count ≤ 8)
count_some c1 = (lit< tt, lit≤ tt)
count_some c2 = (lit< tt, lit≤ tt)
count_some c4 = (lit< tt, lit≤ tt)
count_some c8 = (lit< tt, lit≤ tt)

-- an operand whose bytes may be used so
pub record IsUsable (pages : Pages) (write : Bool) (address count : ℕ) : Type 0 where
  pub small : address < 2 ^ 32
  pub bytes : (i : ℕ) → i < count → is_allowed pages ((address + i) % 2 ^ 32) write ≡ true

pub usable : (pages : Pages) (checked : Checked) (temps : Temps) (place count : ℕ) (write : Bool) → temps place < 2 ^ 32 → is_checked checked place count write ≡ true → IsChecked pages checked temps → IsUsable pages write (temps place) count
usable pages Nowhere temps place count write small e is = absurd (cc e)
usable pages (At at bytes intent) temps place count write small e is =
    let x = all_three (at == place) (bytes == count) (not write || intent) e in
    let passes : first_bad pages intent (temps place) count ≡ None = subst (λ n. first_bad pages intent (temps place) n ≡ None) (eqb-true bytes count x.1) (subst (λ n. first_bad pages intent (temps n) bytes ≡ None) (eqb-true at place x.0) is) in
    record { small = small; bytes = λ i lt. may_use pages ((temps place + i) % 2 ^ 32) intent write x.2 (each_byte pages intent count (temps place) i small lt passes) }

module _ (pages : Pages) (table : IsPageTable pages) where
  first_byte : (write : Bool) (address count : ℕ) → 0 < count → IsUsable pages write address count → is_allowed pages address write ≡ true
  first_byte write address count some usage =
      let small = usage.small in
      let here : (address + 0) % 2 ^ 32 ≡ address = omega arith in
      subst (λ a. is_allowed pages a write ≡ true) here (usage.bytes 0 some)

  pub within_space : (write : Bool) (address count : ℕ) → 0 < count → count ≤ 8 → IsUsable pages write address count → address + count ≤ 2 ^ 32
  within_space write address count some few usage = let low = in_space pages address write table (first_byte write address count some usage) in omega arith

  -- the addresses that may be used are low
  pub is_low_address : (write : Bool) (address count : ℕ) → 0 < count → IsUsable pages write address count → address < 2 ^ 31
  is_low_address write address count some usage = in_space pages address write table (first_byte write address count some usage)

  pub quad_usable : (write : Bool) (address count : ℕ) → 0 < count → IsUsable pages write address count → is_allowed pages (address / 8 * 8) write ≡ true
  quad_usable write address count some usage = in_quad pages write address (first_byte write address count some usage)

  abbrev PartUsable : Bool → ℕ × ℕ → Type 0
  PartUsable write part = is_allowed pages (quad_of_part part) write ≡ true

  parts_usable : (write : Bool) (address count : ℕ) → 0 < count → count ≤ 8 → IsUsable pages write address count → All (PartUsable write) (parts address count)
  parts_usable write address count some few usage = by (count == 0) (nat_le count (8 - address % 8)) refl refl
    where
      one : All (PartUsable write) ((address, count) ∷ [])
      one = All-cons (PartUsable write) (address, count) [] (quad_usable write address count some usage) (All-nil (PartUsable write))

      two : 8 - address % 8 < count → All (PartUsable write) ((address, 8 - address % 8) ∷ ((address + (8 - address % 8)) % 2 ^ 32, count - (8 - address % 8)) ∷ [])
      two crosses =
          All-cons (PartUsable write) (address, 8 - address % 8) (((address + (8 - address % 8)) % 2 ^ 32, count - (8 - address % 8)) ∷ []) (quad_usable write address count some usage)
          (All-cons (PartUsable write) ((address + (8 - address % 8)) % 2 ^ 32, count - (8 - address % 8)) [] (in_quad pages write ((address + (8 - address % 8)) % 2 ^ 32) (usage.bytes (8 - address % 8) crosses)) (All-nil (PartUsable write)))

      by : (none in_one : Bool) → (count == 0) ≡ none → nat_le count (8 - address % 8) ≡ in_one
          → All (PartUsable write) (if none then [] else if in_one then (address, count) ∷ [] else (address, 8 - address % 8) ∷ ((address + (8 - address % 8)) % 2 ^ 32, count - (8 - address % 8)) ∷ [])
      by true in_one e f = All-nil (PartUsable write)
      by false true e f = one
      by false false e f = two (crosses count (8 - address % 8) f)
        where
          crosses : (a b : ℕ) → nat_le a b ≡ false → b < a
          crosses a b e = grind (arith, nat_tests, e)

-- what is asked of each sequence
module _ (p : Placement) (table : IsPageTable p.pages) where
  pub may_read : (byte_word : Bool) (address count : ℕ) → IsCount count → IsUsable p.pages false address count → MayRead (loaded_of byte_word) (piece_terms p (loads_of byte_word)) address count
  may_read byte_word address count is usage =
      let x = count_some is in
      record { within = within_space p.pages table false address count x.0 x.1 usage; pages = parts_usable p.pages table false address count x.0 x.1 usage; loads = load_kinds byte_word address is }

  may_store : (kinds : Kinds) (stored : Option ℕ) → SomeStore kinds stored → MayStore (piece_terms p kinds) stored
  may_store kinds (Some bytes) e = e
  may_store kinds None e = record { loads = e.0; stores = e.1 }

  pub may_write : (byte_word : Bool) (address count : ℕ) → IsCount count → IsUsable p.pages true address count → MayWrite (stored_of byte_word) (piece_terms p (stores_of byte_word address count)) address count
  may_write byte_word address count is usage =
      let x = count_some is in
      record { within = within_space p.pages table true address count x.0 x.1 usage; pages = parts_usable p.pages table true address count x.0 x.1 usage; readable = λ quad e. readable p.pages quad e; stores = may_store (stores_of byte_word address count) (stored_of byte_word address count) (store_kinds byte_word address count) }

-- ---- references by the plans of accesses
module _ (p : Placement) (byte_word : Bool) (bytes : ℕ) (kinds : MoreKinds (needed byte_word bytes) p.kinds) (onward : Left → Tree) where
  abbrev onto : (ℕ → Course Left) → ℕ → Tree
  onto on value = tree onward (on value)

  pub begins_read : (address count : ℕ) (on : ℕ → Course Left) → 0 < count → Begins (loads_of byte_word) p.kinds (onto on) None (read_plan (parts address count)) (tree onward (read_parts (parts address count) on)) None
  begins_read address count on some = by (count == 0) (nat_le count (8 - address % 8)) refl
    where
      by : (none in_one : Bool) → (count == 0) ≡ none
          → Begins (loads_of byte_word) p.kinds (onto on) None (read_plan (if none then [] else if in_one then (address, count) ∷ [] else (address, 8 - address % 8) ∷ ((address + (8 - address % 8)) % 2 ^ 32, count - (8 - address % 8)) ∷ []))
          (tree onward (read_parts (if none then [] else if in_one then (address, count) ∷ [] else (address, 8 - address % 8) ∷ ((address + (8 - address % 8)) % 2 ^ 32, count - (8 - address % 8)) ∷ []) on)) None
      by true in_one e = absurd (zero_not count some e)
        where
          zero_not : (n : ℕ) → 0 < n → (n == 0) ≡ true → ⊥
          zero_not n lt e = let is = eqb-true n 0 e in omega arith
      by false true e = (refl, read_kinds byte_word bytes p.kinds kinds _ _, λ before lt. (refl, (ap (λ v. tree onward (on v)) (mod-mod (before / 2 ^ (8 * (address % 8))) (2 ^ (8 * count))), refl)))
      by false false e =
          let c = 8 - address % 8 in
          let next = (address + (8 - address % 8)) % 2 ^ 32 in (
            refl,
            read_kinds byte_word bytes p.kinds kinds _ _,
            λ before lt. (
              refl,
              (
                refl,
                read_kinds byte_word bytes p.kinds kinds _ _,
                λ before' lt'. (
                  refl,
                  (
                    ap (λ v. tree onward (on (v + field_of before' (next % 8) (count - c) % 2 ^ (8 * (count - c)) * 2 ^ (8 * c)))) (mod-mod (before / 2 ^ (8 * (address % 8))) (2 ^ (8 * c)))
                        ∙ ap (λ v. tree onward (on (field_of before (address % 8) c + v * 2 ^ (8 * c)))) (mod-mod (before' / 2 ^ (8 * (next % 8))) (2 ^ (8 * (count - c)))),
                    refl,
                  ),
                ),
              ),
            ),
          )

  pub begins_write : (stores : Kinds) (xs : List (ℕ × ℕ)) (value : ℕ) (on : Course Left) → Each stores p.kinds xs → Begins stores p.kinds (λ (done : Unit {0}). tree onward on) None (write_plan xs value) (tree onward (write_parts xs value on)) None
  begins_write stores [] value on each = (refl, refl)
  begins_write stores (part ∷ xs) value on each =
      (refl, each.0 _, λ before lt. (sym (changed_low before (part.0 % 8) part.1 value), begins_write stores xs (value / 2 ^ (8 * part.1)) on each.1))

  abbrev locked_ask : LockedOp → (address from : ℕ) → (ℕ → Course Left) → Course Left
  locked_ask kind address from on = Ask (record { address = address; count = locked_count kind; kind = locked_kind kind from }) (λ reply. on (reply % 2 ^ (8 * locked_count kind)))

  pub begins_locked : (kind : LockedOp) (address from : ℕ) (on : ℕ → Course Left) → IsLockable kind address from → Begins by_locks p.kinds (onto on) None (locked_plan kind address from) (tree onward (locked_ask kind address from on)) None
  begins_locked AddWord address from on is = (
    refl,
    lock_kinds byte_word bytes p.kinds kinds AddWord address from,
    λ before lt. (
      let same : (field_of before (address % 8) 2 + from) % 2 ^ 16 ≡ (field_of before (address % 8) 2 + from % 2 ^ 16) % 2 ^ 16 = sums (field_of before (address % 8) 2) from in
          sym (changed_low before (address % 8) 2 (field_of before (address % 8) 2 + from)) ∙ ap (with_field_of before (address % 8) 2) same,
      (ap (λ v. tree onward (on v)) (mod-mod (before / 2 ^ (8 * (address % 8))) (2 ^ 16)), refl),
    ),
  )
    where
      sums : (a b : ℕ) → (a + b) % 2 ^ 16 ≡ (a + b % 2 ^ 16) % 2 ^ 16
      sums a b = omega arith
  begins_locked SetBit address from on is =
      (refl, lock_kinds byte_word bytes p.kinds kinds SetBit address from, λ before lt. (refl, (ap (λ v. tree onward (on v)) (mod-mod (before / 2 ^ (8 * (address % 8))) (2 ^ 8)), refl)))
  begins_locked ClearBit address from on is =
      (refl, lock_kinds byte_word bytes p.kinds kinds ClearBit address from, λ before lt. (ap (with_field_of before (address % 8) 1) (clears (before / 2 ^ (8 * (address % 8))) from is), (ap (λ v. tree onward (on v)) (mod-mod (before / 2 ^ (8 * (address % 8))) (2 ^ 8)), refl)))
    where
      by_mask : (y k k' : ℕ) → bit_and 255 k ≡ bit_and 255 k' → bit_and (y % 2 ^ 8) k ≡ bit_and (y % 2 ^ 8) k'
      by_mask y k k' e =
          ap (λ x. bit_and x k) (sym (and_mask y 8)) ∙ (and_assoc k y 255 ∙ (ap (bit_and y) e ∙ (sym (and_assoc k' y 255) ∙ ap (λ x. bit_and x k') (and_mask y 8))))

      clears : (y n : ℕ) → n < 8 → bit_and (y % 2 ^ 8) (inverse (2 ^ n)) ≡ bit_and (y % 2 ^ 8) (255 - 2 ^ n)
      clears y n lt =
          below_8 (λ n. bit_and (y % 2 ^ 8) (inverse (2 ^ n)) ≡ bit_and (y % 2 ^ 8) (255 - 2 ^ n))
          (by_mask y (inverse (2 ^ 0)) (255 - 2 ^ 0) refl) (by_mask y (inverse (2 ^ 1)) (255 - 2 ^ 1) refl) (by_mask y (inverse (2 ^ 2)) (255 - 2 ^ 2) refl) (by_mask y (inverse (2 ^ 3)) (255 - 2 ^ 3) refl)
          (by_mask y (inverse (2 ^ 4)) (255 - 2 ^ 4) refl) (by_mask y (inverse (2 ^ 5)) (255 - 2 ^ 5) refl) (by_mask y (inverse (2 ^ 6)) (255 - 2 ^ 6) refl) (by_mask y (inverse (2 ^ 7)) (255 - 2 ^ 7) refl) n lt

-- ---- what holds of a course behind its references
module _ (Holding : Course Left → Type 0) (opens : (reference : Reference) (on : ℕ → Course Left) (reply : ℕ) → Holding (Ask reference on) → Answers reference reply → Holding (on reply)) where
  pub read_value : (address count value : ℕ) (on : ℕ → Course Left) → 0 < count → count ≤ 8 → value < 2 ^ (8 * count) → Holding (read_parts (parts address count) on) → Holding (on value)
  read_value address count value on some few fits h = by (count == 0) (nat_le count (8 - address % 8)) refl refl h
    where
      by : (none in_one : Bool) → (count == 0) ≡ none → nat_le count (8 - address % 8) ≡ in_one
          → Holding (read_parts (if none then [] else if in_one then (address, count) ∷ [] else (address, 8 - address % 8) ∷ ((address + (8 - address % 8)) % 2 ^ 32, count - (8 - address % 8)) ∷ []) on) → Holding (on value)
      by true in_one e f h = absurd (zero_not count some e)
        where
          zero_not : (n : ℕ) → 0 < n → (n == 0) ≡ true → ⊥
          zero_not n lt e = let is = eqb-true n 0 e in omega arith
      by false true e f h = subst (λ v. Holding (on v)) (mod-eq_of_lt fits) (opens (record { address = address; count = count; kind = references.Read }) (λ reply. on (reply % 2 ^ (8 * count))) value h fits)
      by false false e f h =
          let c = 8 - address % 8 in
          let crosses : 8 - address % 8 < count = crossing count (8 - address % 8) f in
          let all : 8 * (count - (8 - address % 8)) + 8 * (8 - address % 8) ≡ 8 * count = omega arith in
          let product : 2 ^ (8 * count) ≡ 2 ^ (8 * (count - c)) * 2 ^ (8 * c) = ap (λ n. 2 ^ n) (sym all) ∙ pow-add 2 (8 * (count - c)) (8 * c) in
          let low : value % 2 ^ (8 * c) < 2 ^ (8 * c) = mod_below value (2 ^ (8 * c)) (pow_pos (8 * c)) in
          let high : value / 2 ^ (8 * c) < 2 ^ (8 * (count - c)) = div_below value (2 ^ (8 * c)) (2 ^ (8 * (count - c))) (pow_pos (8 * c)) (subst (λ n. value < n) product fits) in
          let next = (address + (8 - address % 8)) % 2 ^ 32 in
          let first = opens _ _ (value % 2 ^ (8 * c)) h low in
          let second = opens _ _ (value / 2 ^ (8 * c)) first high in
          subst (λ v. Holding (on v)) (joined value (2 ^ (8 * c)) (2 ^ (8 * (count - c))) high) second
        where
          crossing : (a b : ℕ) → nat_le a b ≡ false → b < a
          crossing a b e = grind (arith, nat_tests, e)

          joined : (v x y : ℕ) → v / x < y → v % x % x + v / x % y * x ≡ v
          joined v x y high = rw (mod-mod v x, mod-eq_of_lt high) (swapped (v % x) (v / x * x) v (div-add-mod' v x))
            where
              swapped : (a b n : ℕ) → b + a ≡ n → a + b ≡ n
              swapped a b n e = omega arith

  pub write_done : (xs : List (ℕ × ℕ)) (value : ℕ) (on : Course Left) → Holding (write_parts xs value on) → Holding on
  write_done [] value on h = h
  write_done (part ∷ xs) value on h = write_done xs (value / 2 ^ (8 * part.1)) on (opens _ _ 0 h refl)

  pub locked_value : (kind : LockedOp) (address from value : ℕ) (on : ℕ → Course Left) → value < 2 ^ (8 * locked_count kind)
      → Holding (Ask (record { address = address; count = locked_count kind; kind = locked_kind kind from }) (λ reply. on (reply % 2 ^ (8 * locked_count kind)))) → Holding (on value)
  locked_value AddWord address from value on fits h = subst (λ v. Holding (on v)) (mod-eq_of_lt fits) (opens _ _ value h fits)
  locked_value SetBit address from value on fits h = subst (λ v. Holding (on v)) (mod-eq_of_lt fits) (opens _ _ value h fits)
  locked_value ClearBit address from value on fits h = subst (λ v. Holding (on v)) (mod-eq_of_lt fits) (opens _ _ value h fits)

-- ---- interlocked operands
pub may_lock : (p : Placement) (table : IsPageTable p.pages) (kind : LockedOp) (address from : ℕ) → IsUsable p.pages true address (locked_count kind)
    → FitsPage p.pages (record { address = address; count = locked_count kind; kind = locked_kind kind from }) → MayLock (piece_terms p by_locks) kind address from
may_lock p table AddWord address from usage fits = record {
  within = within_space p.pages table true address 2 (lit< tt) (lit≤ tt) usage;
  operand = fits.quadword.within;
  page = quad_usable p.pages table true address 2 (lit< tt) usage;
  readable = λ quad e. readable p.pages quad e;
  retries = record { loads = refl; stores = refl };
}
may_lock p table SetBit address from usage fits = record {
  within = within_space p.pages table true address 1 (lit< tt) (lit≤ tt) usage;
  operand = fits.quadword.bit;
  page = quad_usable p.pages table true address 1 (lit< tt) usage;
  readable = λ quad e. readable p.pages quad e;
  retries = record { loads = refl; stores = refl };
}
may_lock p table ClearBit address from usage fits = record {
  within = within_space p.pages table true address 1 (lit< tt) (lit≤ tt) usage;
  operand = fits.quadword.bit;
  page = quad_usable p.pages table true address 1 (lit< tt) usage;
  readable = λ quad e. readable p.pages quad e;
  retries = record { loads = refl; stores = refl };
}
