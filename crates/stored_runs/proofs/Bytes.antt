-- Memory, byte by byte.
use Rattle.std.proofs.Common.{◌≡◌, ◌≢◌, ℕ, zero, suc, ◌<◌, ◌≤◌, ◌+◌, ◌-◌, ◌*◌, ◌/◌, ◌%◌, ◌^◌, ◌==◌, ◌&&◌, Bool, true, false, List, [], ◌∷◌, ◌++◌, Some, None, cond, if◌then◌else◌, length, get_or, slice_index, slice_set, nat_le, nat_lt, refl, sym, ap, ◌∙◌, arith, eq-eqb, lit<}
use Rattle.std.specs.Prelude.{position}
use Rattle.std.specs.List.{position_or_len}
use Rattle.std.proofs.Math.Nat.{pow-le-pow_right}
use Rattle.std.proofs.Math.Path.{fun_ext}
use Rattle.std.proofs.lemmas.Bool.Decides.{nat_tests}
use Rattle.std.proofs.lemmas.List.{get_or-set_same, get_or-set_other, length-set}
use Rattle.std.proofs.lemmas.List.Quantifiers.{position-Some}
use Rattle.std.proofs.lemmas.List.Sums.{fails_before_first}
use Rattle.vax_form.specs.References.{with_byte, with_value}
use Rattle.stored_runs.specs.Memory.{has_address, byte_among}
use Rattle.stored_runs.specs.declared.memory.Region.{Region}

chosen : (b : Bool) (x y : ℕ) → b ≡ true → (if b then x else y) ≡ x
chosen true x y is = refl
chosen false x y is = absurd (cc is)

passed : (b : Bool) (x y : ℕ) → b ≡ false → (if b then x else y) ≡ y
passed true x y is = absurd (cc is)
passed false x y is = refl

none_has : {X : Type 0} (p : X → Bool) (xs : List X) (d : X) → position p xs ≡ None → (k : ℕ) → k < length xs → p (get_or xs k d) ≡ false
none_has {X} p xs d is k below = by (nat_lt (position_or_len p xs) (length xs)) refl is
  where
    by : (b : Bool) → nat_lt (position_or_len p xs) (length xs) ≡ b → cond b (Some (position_or_len p xs)) None ≡ None → p (get_or xs k d) ≡ false
    by true e none = absurd (cc none)
    by false e none =
        let all : length xs ≤ position_or_len p xs = grind (arith, nat_tests, e) in
        fails_before_first p xs k d (omega (arith, all, below))

-- ---- one region
pub starts_before : (address : ℕ) (r : Region) → has_address address r ≡ true → r.start ≤ address
starts_before address r is = grind (arith, nat_tests, is)

pub ends_behind : (address : ℕ) (r : Region) → has_address address r ≡ true → address - r.start < length r.bytes.items
ends_behind address r is = grind (arith, nat_tests, is)

-- the byte at an address of the region, where one of its bytes was stored
module _ (r new : Region) (address value : ℕ) (has : has_address address r ≡ true) (start : new.start ≡ r.start) (bytes : new.bytes.items ≡ slice_set r.bytes.items (address - r.start) value) where
  alike : (at : ℕ) → has_address at new ≡ has_address at r
  alike at =
      ap (λ s. nat_le s at && nat_lt (at - s) (length new.bytes.items)) start
      ∙ ap (λ n. nat_le r.start at && nat_lt (at - r.start) n) (ap length bytes ∙ length-set r.bytes.items (address - r.start) value)

  slot : (at : ℕ) → slice_index new.bytes.items (at - new.start) ≡ slice_index (slice_set r.bytes.items (address - r.start) value) (at - r.start)
  slot at = ap (λ l. slice_index l (at - new.start)) bytes ∙ ap (λ s. slice_index (slice_set r.bytes.items (address - r.start) value) (at - s)) start

  inside : (at : ℕ) (b : Bool) → (at == address) ≡ b → has_address at r ≡ true
      → slice_index new.bytes.items (at - new.start) ≡ (if b then value else slice_index r.bytes.items (at - r.start))
  inside at true e is =
      let same : at ≡ address = grind (arith, nat_tests, e) in
      slot at ∙ ap (λ a. slice_index (slice_set r.bytes.items (address - r.start) value) (a - r.start)) same
      ∙ get_or-set_same r.bytes.items (address - r.start) value 0 (ends_behind address r has)
  inside at false e is =
      let apart : at ≢ address = λ same. let gone : false ≡ true = sym e ∙ eq-eqb at address same in cc gone in
      let low = starts_before at r is in
      let high = starts_before address r has in
      slot at ∙ get_or-set_other r.bytes.items (address - r.start) (at - r.start) value 0 (λ same. apart (omega (arith, low, high, same)))

  outside : (at rest : ℕ) (b : Bool) → (at == address) ≡ b → has_address at r ≡ false → rest ≡ (if b then value else rest)
  outside at rest true e none =
      let same : at ≡ address = grind (arith, nat_tests, e) in
      let gone : true ≡ false = sym has ∙ ap (λ a. has_address a r) (sym same) ∙ none in
      absurd (cc gone)
  outside at rest false e none = refl

  pub stored_here : (at rest : ℕ) → (if has_address at new then slice_index new.bytes.items (at - new.start) else rest)
      ≡ (if at == address then value else if has_address at r then slice_index r.bytes.items (at - r.start) else rest)
  stored_here at rest =
      ap (λ (b : Bool). if b then slice_index new.bytes.items (at - new.start) else rest) (alike at) ∙ by (has_address at r) refl
    where
      by : (b : Bool) → has_address at r ≡ b → (if b then slice_index new.bytes.items (at - new.start) else rest)
          ≡ (if at == address then value else if b then slice_index r.bytes.items (at - r.start) else rest)
      by true is = inside at (at == address) refl is
      by false none = outside at rest (at == address) refl none

-- ---- all regions
byte_found : (regions : List Region) (address i : ℕ) (d : Region) → i < length regions → has_address address (get_or regions i d) ≡ true
    → ((k : ℕ) → k < i → has_address address (get_or regions k d) ≡ false)
    → slice_index (get_or regions i d).bytes.items (address - (get_or regions i d).start) ≡ byte_among regions address
byte_found [] address i d below is before = absurd (omega arith)
byte_found (r ∷ regions) address zero d below is before = sym (chosen (has_address address r) _ _ is)
byte_found (r ∷ regions) address (suc i) d below is before =
    byte_found regions address i d (omega arith) is (λ k l. before (suc k) (omega arith)) ∙ sym (passed (has_address address r) _ _ (before 0 (omega arith)))

byte_unfound : (regions : List Region) (address : ℕ) (d : Region) → ((k : ℕ) → k < length regions → has_address address (get_or regions k d) ≡ false) → 0 ≡ byte_among regions address
byte_unfound [] address d none = refl
byte_unfound (r ∷ regions) address d none =
    byte_unfound regions address d (λ k l. none (suc k) (omega arith)) ∙ sym (passed (has_address address r) _ _ (none 0 (omega arith)))

pub same_default : (xs : List ℕ) (n d : ℕ) → n < length xs → get_or xs n d ≡ slice_index xs n
same_default [] n d below = absurd (omega arith)
same_default (x ∷ xs) zero d below = refl
same_default (x ∷ xs) (suc n) d below = same_default xs n d (omega arith)

pub byte_at_place : (regions : List Region) (address i : ℕ) (r : Region) → position (has_address address) regions ≡ Some i → r ≡ get_or regions i r
    → slice_index r.bytes.items (address - r.start) ≡ byte_among regions address
byte_at_place regions address i r found is =
    let p = position-Some (has_address address) regions i r found in
    ap (λ (r : Region). slice_index r.bytes.items (address - r.start)) is ∙ byte_found regions address i r p.0 p.1 p.2

pub has_at_place : (regions : List Region) (address i : ℕ) (r : Region) → position (has_address address) regions ≡ Some i → r ≡ get_or regions i r → has_address address r ≡ true
has_at_place regions address i r found is = ap (has_address address) is ∙ (position-Some (has_address address) regions i r found).1

pub byte_nowhere : (regions : List Region) (address : ℕ) → position (has_address address) regions ≡ None → 0 ≡ byte_among regions address
byte_nowhere [] address none = refl
byte_nowhere (r ∷ regions) address none = byte_unfound (r ∷ regions) address r (none_has (has_address address) (r ∷ regions) r none)

store_found : (regions : List Region) (address i value : ℕ) (d new : Region) → i < length regions → has_address address (get_or regions i d) ≡ true
    → ((k : ℕ) → k < i → has_address address (get_or regions k d) ≡ false) → new.start ≡ (get_or regions i d).start
    → new.bytes.items ≡ slice_set (get_or regions i d).bytes.items (address - (get_or regions i d).start) value
    → (at : ℕ) → byte_among (slice_set regions i new) at ≡ with_byte (byte_among regions) address value at
store_found [] address i value d new below is before start bytes at = absurd (omega arith)
store_found (r ∷ regions) address zero value d new below is before start bytes at = stored_here r new address value is start bytes at (byte_among regions at)
store_found (r ∷ regions) address (suc i) value d new below is before start bytes at =
    ap (λ rest. if has_address at r then slice_index r.bytes.items (at - r.start) else rest)
    (store_found regions address i value d new (omega arith) is (λ k l. before (suc k) (omega arith)) start bytes at)
    ∙ by (has_address at r) refl (at == address) refl
  where
    by : (b : Bool) → has_address at r ≡ b → (c : Bool) → (at == address) ≡ c
        → (if b then slice_index r.bytes.items (at - r.start) else if c then value else byte_among regions at)
        ≡ (if c then value else if b then slice_index r.bytes.items (at - r.start) else byte_among regions at)
    by true here true e =
        let same : at ≡ address = grind (arith, nat_tests, e) in
        let gone : true ≡ false = sym here ∙ ap (λ a. has_address a r) same ∙ before 0 (omega arith) in
        absurd (cc gone)
    by true here false e = refl
    by false here c e = refl

-- a byte stored in the first region that has its address
pub stored_in : (regions : List Region) (address i value : ℕ) (r new : Region) → position (has_address address) regions ≡ Some i → r ≡ get_or regions i r
    → new.start ≡ r.start → new.bytes.items ≡ slice_set r.bytes.items (address - r.start) value
    → byte_among (slice_set regions i new) ≡ with_byte (byte_among regions) address value
stored_in regions address i value r new found is start bytes =
    let p = position-Some (has_address address) regions i r found in
    fun_ext (store_found regions address i value r new p.0 p.1 p.2 (start ∙ ap (λ (r : Region). r.start) is)
    (bytes ∙ ap (λ (r : Region). slice_set r.bytes.items (address - r.start) value) is))

store_beyond : (regions : List Region) (address value : ℕ) (d new : Region) → ((k : ℕ) → k < length regions → has_address address (get_or regions k d) ≡ false)
    → new.start ≡ address → new.bytes.items ≡ value ∷ [] → (at : ℕ) → byte_among (regions ++ new ∷ []) at ≡ with_byte (byte_among regions) address value at
store_beyond [] address value d new none start bytes at =
    ap (λ (b : Bool). if b then slice_index new.bytes.items (at - new.start) else 0) (only at)
    ∙ ap (λ x. if at == address then x else 0) (ap (λ l. slice_index l (at - new.start)) bytes ∙ ap (λ s. slice_index (value ∷ []) (at - s)) start) ∙ by (at == address) refl
  where
    sole : (at : ℕ) → (nat_le address at && nat_lt (at - address) 1) ≡ (at == address)
    sole at = grind (arith, nat_tests)

    only : (at : ℕ) → has_address at new ≡ (at == address)
    only at =
        ap (λ s. nat_le s at && nat_lt (at - s) (length new.bytes.items)) start
        ∙ ap (λ n. nat_le address at && nat_lt (at - address) n) (ap length bytes)
        ∙ sole at

    by : (b : Bool) → (at == address) ≡ b → (if b then slice_index (value ∷ []) (at - address) else 0) ≡ (if b then value else 0)
    by true e =
        let z : at - address ≡ 0 = grind (arith, nat_tests, e) in
        ap (slice_index (value ∷ [])) z
    by false e = refl
store_beyond (r ∷ regions) address value d new none start bytes at =
    ap (λ rest. if has_address at r then slice_index r.bytes.items (at - r.start) else rest)
    (store_beyond regions address value d new (λ k l. none (suc k) (omega arith)) start bytes at)
    ∙ by (has_address at r) refl (at == address) refl
  where
    by : (b : Bool) → has_address at r ≡ b → (c : Bool) → (at == address) ≡ c
        → (if b then slice_index r.bytes.items (at - r.start) else if c then value else byte_among regions at)
        ≡ (if c then value else if b then slice_index r.bytes.items (at - r.start) else byte_among regions at)
    by true here true e =
        let same : at ≡ address = grind (arith, nat_tests, e) in
        let gone : true ≡ false = sym here ∙ ap (λ a. has_address a r) same ∙ none 0 (omega arith) in
        absurd (cc gone)
    by true here false e = refl
    by false here c e = refl

-- a byte stored where no region has its address
pub stored_out : (regions : List Region) (address value : ℕ) (new : Region) → position (has_address address) regions ≡ None → new.start ≡ address → new.bytes.items ≡ value ∷ []
    → byte_among (regions ++ new ∷ []) ≡ with_byte (byte_among regions) address value
stored_out regions address value new none start bytes = fun_ext (store_beyond regions address value new new (none_has (has_address address) regions new none) start bytes)

-- ---- numbers
pub value_fits : (value read b : ℕ) → value < 256 ^ read → read ≤ 7 → b < 256 → 256 * value + b < 2 ^ 64
value_fits value read b small few byte =
    let most : 256 ^ read ≤ 256 ^ 7 = pow-le-pow_right (lit< tt) few in
    let e : 256 ^ 7 ≡ 2 ^ 56 = refl in
    omega arith

-- the lowest byte of a number stored, and then the rest of it
pub store_more : (before after : ℕ → ℕ) (address count place rest : ℕ) → place < count
    → after ≡ with_byte before ((address + place) % 2 ^ 32) (rest % 256)
    → with_value before (address + place) (count - place) rest ≡ with_value after (address + (place + 1)) (count - (place + 1)) (rest / 256)
store_more before after address count place rest below is =
    let e : count - place ≡ suc (count - (place + 1)) = omega arith in
    let f : address + place + 1 ≡ address + (place + 1) = omega arith in
    ap (λ k. with_value before (address + place) k rest) e
    ∙ ap (λ b. with_value b (address + place + 1) (count - (place + 1)) (rest / 256)) (sym is)
    ∙ ap (λ a. with_value after a (count - (place + 1)) (rest / 256)) f
