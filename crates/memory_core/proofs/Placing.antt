-- Where the quadwords of the pages stand.
use Rattle.std.proofs.Common.{◌≡◌, ℕ, zero, suc, ◌<◌, ◌≤◌, ◌+◌, ◌-◌, ◌*◌, ◌/◌, ◌%◌, ◌&&◌, ◌||◌, Bool, true, false, if◌then◌else◌, List, [], ◌∷◌, ◌++◌, length, Option, Some, None, option_map, is_some, slice_index_or, refl, sym, ap, ◌∙◌, subst, arith, length-append, add-one}
use Rattle.std.proofs.lemmas.Bool.Decides.{nat_tests}
use Rattle.std.proofs.lemmas.List.{get_or_append_left, get_or-append-add}
use Rattle.std.specs.Prelude.{not}
use Rattle.std.specs.List.{list_any}
use Rattle.vax_form.specs.declared.pages.PageRange.{PageRange}
use Rattle.vax_form.specs.PageTable.{has_page, AreRising}
use Rattle.vax_form.specs.Pages.{allows}
use Rattle.image_file.specs.Values.{ImageValue}
use Rattle.memory_core.specs.Opening.{opening}
use Rattle.memory_core.specs.Places.{page_count, page_number, quad_place, quads_from, quads_of}

pub has_page_tells : (page : ℕ) (r : PageRange) → has_page page r ≡ true → (r.first ≤ page) × (page < r.first + r.count)
has_page_tells page r h = grind (arith, nat_tests)

-- ---- a page of the ranges has a place

is_some-map : (count : ℕ) (o : Option ℕ) → is_some (option_map (λ n. count + n) o) ≡ is_some o
is_some-map count None = refl
is_some-map count (Some n) = refl

some_step : (b : Bool) (any : Bool) (x count : ℕ) (o : Option ℕ) → any ≡ is_some o → ((b && true) || any) ≡ is_some (if b then Some x else option_map (λ n. count + n) o)
some_step true any x count o h = refl
some_step false any x count o h = h ∙ sym (is_some-map count o)

pub any_is_some : (rs : List PageRange) (address : ℕ) → list_any (allows address false) rs ≡ is_some (page_number rs (address / 512))
any_is_some [] address = refl
any_is_some (r ∷ rs) address = some_step (has_page (address / 512) r) (list_any (allows address false) rs) (address / 512 - r.first) r.count (page_number rs (address / 512)) (any_is_some rs address)

is_some-place : (address : ℕ) (o : Option ℕ) → is_some (option_map (λ n. 64 * n + address % 512 / 8) o) ≡ is_some o
is_some-place address None = refl
is_some-place address (Some n) = refl

pub any_is_placed : (rs : List PageRange) (address : ℕ) → list_any (allows address false) rs ≡ is_some (quad_place rs address)
any_is_placed rs address = any_is_some rs address ∙ sym (is_some-place address (page_number rs (address / 512)))

-- a page that may be written may be read
allows_step : (b w any any' : Bool) → (any ≡ true → any' ≡ true) → ((b && (not true || w)) || any) ≡ true → ((b && true) || any') ≡ true
allows_step true true any any' f h = refl
allows_step true false any any' f h = refl
allows_step false w any any' f h = f h

pub any_written : (rs : List PageRange) (address : ℕ) (write : Bool) → list_any (allows address write) rs ≡ true → list_any (allows address false) rs ≡ true
any_written [] address write h = h
any_written (r ∷ rs) address true h = allows_step (has_page (address / 512) r) r.writable (list_any (allows address true) rs) (list_any (allows address false) rs) (any_written rs address true) h
any_written (r ∷ rs) address false h = h

-- ---- different pages have different places

abbrev pub placed : Bool → ℕ → ℕ → Option ℕ → Option ℕ
placed b x count o = if b then Some x else option_map (λ n. count + n) o

same_step : {P : Type 0} → (b b' : Bool) (x x' count n : ℕ) (o o' : Option ℕ) → (b ≡ true → x < count) → (b' ≡ true → x' < count)
    → ((m : ℕ) → o ≡ Some m → o' ≡ Some m → P) → (b ≡ true → b' ≡ true → x ≡ x' → P)
    → placed b x count o ≡ Some n → placed b' x' count o' ≡ Some n → P
same_step true true x x' count n o o' l l' behind here e e' = here refl refl (cc (e, e'))
same_step true false x x' count n o None l l' behind here e e' = absurd (cc e')
same_step true false x x' count n o (Some m) l l' behind here e e' =
    let i : x ≡ n = cc e in
    let j : count + m ≡ n = cc e' in
    let k : x < count = l refl in
    absurd (omega arith)
same_step false true x x' count n None o' l l' behind here e e' = absurd (cc e)
same_step false true x x' count n (Some m) o' l l' behind here e e' =
    let i : x' ≡ n = cc e' in
    let j : count + m ≡ n = cc e in
    let k : x' < count = l' refl in
    absurd (omega arith)
same_step false false x x' count n None o' l l' behind here e e' = absurd (cc e)
same_step false false x x' count n (Some m) None l l' behind here e e' = absurd (cc e')
same_step false false x x' count n (Some m) (Some m') l l' behind here e e' =
    let i : count + m ≡ n = cc e in
    let j : count + m' ≡ n = cc e' in
    let k : m' ≡ m = omega arith in
    behind m refl (ap (λ (v : ℕ). Some v) k)

pub page_of_place : (rs : List PageRange) (page page' n : ℕ) → page_number rs page ≡ Some n → page_number rs page' ≡ Some n → page ≡ page'
page_of_place [] page page' n e e' = absurd (cc e)
page_of_place (r ∷ rs) page page' n e e' =
    same_step (has_page page r) (has_page page' r) (page - r.first) (page' - r.first) r.count n (page_number rs page) (page_number rs page')
    (λ h. let t = has_page_tells page r h in omega arith)
    (λ h. let t = has_page_tells page' r h in omega arith)
    (page_of_place rs page page')
    (λ h h' i. let t = has_page_tells page r h in let t' = has_page_tells page' r h' in omega arith)
    e e'

quad_of_place_at : (rs : List PageRange) (x y i : ℕ) (o o' : Option ℕ) → page_number rs (x / 512) ≡ o → page_number rs (y / 512) ≡ o'
    → option_map (λ n. 64 * n + x % 512 / 8) o ≡ Some i → option_map (λ n. 64 * n + y % 512 / 8) o' ≡ Some i → x - x % 8 ≡ y - y % 8
quad_of_place_at rs x y i None o' p p' e e' = absurd (cc e)
quad_of_place_at rs x y i (Some n) None p p' e e' = absurd (cc e')
quad_of_place_at rs x y i (Some n) (Some m) p p' e e' =
    let j : 64 * n + x % 512 / 8 ≡ i = cc e in
    let k : 64 * m + y % 512 / 8 ≡ i = cc e' in
    let same : n ≡ m = omega arith in
    let page : x / 512 ≡ y / 512 = page_of_place rs (x / 512) (y / 512) m (p ∙ ap (λ (v : ℕ). Some v) same) p' in
    omega arith

pub quad_of_place : (rs : List PageRange) (x y i : ℕ) → quad_place rs x ≡ Some i → quad_place rs y ≡ Some i → x - x % 8 ≡ y - y % 8
quad_of_place rs x y i e e' = quad_of_place_at rs x y i (page_number rs (x / 512)) (page_number rs (y / 512)) refl refl e e'

-- an address has the place of its quadword
pub place_of_quad : (rs : List PageRange) (x : ℕ) → quad_place rs (x - x % 8) ≡ quad_place rs x
place_of_quad rs x =
    let page : (x - x % 8) / 512 ≡ x / 512 = omega arith in
    let quad : (x - x % 8) % 512 / 8 ≡ x % 512 / 8 = omega arith in
    rw (page, quad) refl

-- ---- the quadwords of an image at their places

pub length-quads_from : (image : ImageValue) (address count : ℕ) → length (quads_from image address count) ≡ count
length-quads_from image address zero = refl
length-quads_from image address (suc count) = ap suc (length-quads_from image (address + 8) count)

get_or-quads_from : (image : ImageValue) (address count i : ℕ) → i < count → slice_index_or (quads_from image address count) i 0 ≡ opening image (address + 8 * i)
get_or-quads_from image address zero i h = absurd (omega arith)
get_or-quads_from image address (suc count) zero h = let e : address ≡ address + 8 * 0 = omega arith in ap (opening image) e
get_or-quads_from image address (suc count) (suc i) h =
    let e : address + 8 + 8 * i ≡ address + 8 * suc i = omega arith in
    get_or-quads_from image (address + 8) count i (omega arith) ∙ ap (opening image) e

quads_from-suc : (image : ImageValue) (address count : ℕ) → quads_from image address (suc count) ≡ quads_from image address count ++ opening image (address + 8 * count) ∷ []
quads_from-suc image address zero = let e : address ≡ address + 8 * 0 = omega arith in ap (λ (x : ℕ). opening image x ∷ []) e
quads_from-suc image address (suc count) =
    let e : address + 8 + 8 * count ≡ address + 8 * suc count = omega arith in
    ap (λ (xs : List ℕ). opening image address ∷ xs) (quads_from-suc image (address + 8) count ∙ ap (λ (x : ℕ). quads_from image (address + 8) count ++ opening image x ∷ []) e)

pub quads_from-push : (image : ImageValue) (address count : ℕ) → quads_from image address (count + 1) ≡ quads_from image address count ++ opening image (address + 8 * count) ∷ []
quads_from-push image address count = rw add-one (quads_from-suc image address count)

-- the list has the image's quadword of each address at its place
pub record AreOpening (image : ImageValue) (quads : List ℕ) (address place : ℕ) : Type 0 where
  pub within : place < length quads
  pub is : slice_index_or quads place 0 ≡ opening image (address - address % 8)

module _ (image : ImageValue) (address : ℕ) where
  opening_first : (first count : ℕ) (rest : List ℕ) (place : ℕ) → first ≤ address / 512 → address / 512 < first + count → 64 * (address / 512 - first) + address % 512 / 8 ≡ place
      → AreOpening image (quads_from image (512 * first) (64 * count) ++ rest) address place
  opening_first first count rest place low high e =
      let quads = quads_from image (512 * first) (64 * count) in
      let long : length quads ≡ 64 * count = length-quads_from image (512 * first) (64 * count) in
      let within : place < 64 * count = omega arith in
      let in_first : place < length quads = omega arith in
      let at : 512 * first + 8 * place ≡ address - address % 8 = omega arith in
      record {
        within = rw length-append (omega arith);
        is = get_or_append_left quads rest 0 place in_first ∙ get_or-quads_from image (512 * first) (64 * count) place within ∙ ap (opening image) at;
      }

  opening_rest : (first count : ℕ) (rest : List ℕ) (n place : ℕ) → AreOpening image rest address (64 * n + address % 512 / 8) → 64 * (count + n) + address % 512 / 8 ≡ place
      → AreOpening image (quads_from image (512 * first) (64 * count) ++ rest) address place
  opening_rest first count rest n place o e =
      let quads = quads_from image (512 * first) (64 * count) in
      let long : length quads ≡ 64 * count = length-quads_from image (512 * first) (64 * count) in
      let at : place ≡ length quads + (64 * n + address % 512 / 8) = omega arith in
      let inside = o.within in
      record {
        within = rw length-append (omega arith);
        is = ap (λ (i : ℕ). slice_index_or (quads ++ rest) i 0) at ∙ get_or-append-add quads rest (64 * n + address % 512 / 8) 0 ∙ o.is;
      }

  opening_step : (r : PageRange) (rest : List ℕ) (b : Bool) (o : Option ℕ) (place : ℕ) → has_page (address / 512) r ≡ b
      → ((n : ℕ) → o ≡ Some n → AreOpening image rest address (64 * n + address % 512 / 8))
      → option_map (λ n. 64 * n + address % 512 / 8) (placed b (address / 512 - r.first) r.count o) ≡ Some place
      → AreOpening image (quads_from image (512 * r.first) (64 * r.count) ++ rest) address place
  opening_step r rest true o place is f e =
      let t = has_page_tells (address / 512) r is in
      opening_first r.first r.count rest place t.0 t.1 (cc e)
  opening_step r rest false None place is f e = absurd (cc e)
  opening_step r rest false (Some n) place is f e = opening_rest r.first r.count rest n place (f n refl) (cc e)

  opening_pages : (rs : List PageRange) (n : ℕ) → page_number rs (address / 512) ≡ Some n → AreOpening image (quads_of image rs) address (64 * n + address % 512 / 8)
  opening_pages [] n e = absurd (cc e)
  opening_pages (r ∷ rs) n e =
      opening_step r (quads_of image rs) (has_page (address / 512) r) (page_number rs (address / 512)) (64 * n + address % 512 / 8) refl
      (λ m h. opening_pages rs m h) (ap (option_map (λ (v : ℕ). 64 * v + address % 512 / 8)) e)

  opening_at : (rs : List PageRange) (o : Option ℕ) (place : ℕ) → page_number rs (address / 512) ≡ o → option_map (λ n. 64 * n + address % 512 / 8) o ≡ Some place → AreOpening image (quads_of image rs) address place
  opening_at rs None place p e = absurd (cc e)
  opening_at rs (Some n) place p e = let i : 64 * n + address % 512 / 8 ≡ place = cc e in subst (AreOpening image (quads_of image rs) address) i (opening_pages rs n p)

  pub all_opening : (rs : List PageRange) (place : ℕ) → quad_place rs address ≡ Some place → AreOpening image (quads_of image rs) address place
  all_opening rs place e = opening_at rs (page_number rs (address / 512)) place refl e

-- ---- a page table has few pages

pub rising_low : (lowest : ℕ) (rs : List PageRange) (i : ℕ) (d : PageRange) → AreRising lowest rs → i < length rs → (slice_index_or rs i d).first + (slice_index_or rs i d).count ≤ 4194304
rising_low lowest [] i d h l = absurd (omega arith)
rising_low lowest (r ∷ rs) zero d h l = h.2
rising_low lowest (r ∷ rs) (suc i) d h l = rising_low (r.first + r.count) rs i d h.3 (omega arith)

pub rising_few : (lowest : ℕ) (rs : List PageRange) → lowest ≤ 4194304 → AreRising lowest rs → lowest + page_count rs ≤ 4194304
rising_few lowest [] l h = omega arith
rising_few lowest (r ∷ rs) l h =
    let rest = rising_few (r.first + r.count) rs h.2 h.3 in
    let first : lowest ≤ r.first = h.0 in
    omega arith
