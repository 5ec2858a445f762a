-- What holds of generated images.
use Rattle.std.proofs.Common.{◌≡◌, ℕ, zero, suc, ◌+◌, ◌-◌, ◌*◌, ◌^◌, ◌<◌, ◌≤◌, true, false, None, List, [], ◌∷◌, ◌++◌, length, map, take, replicate, refl, sym, ap, ◌∙◌, arith, add-one, append_assoc, length-append, lit<}
use Rattle.std.specs.Int.{w16, to_le_bytes}
use Rattle.std.specs.List.{list_all, AllByRecursion}
use Rattle.std.proofs.lemmas.Bool.{le-leb, lt-ltb}
use Rattle.std.proofs.lemmas.List.{append-nil, take_all}
use Rattle.vax_form.specs.PageTable.{PageTable}
use Rattle.vax_form.specs.declared.pages.PageRange.{PageRange}
use Rattle.image_file.specs.Pages.{section_bytes, pages_of}
use Rattle.image_file.specs.Rows.{is_sound, first_overlap, page_bytes, page_count}
use Rattle.image_file.specs.Spelling.{row_of, spelling}
use Rattle.image_file.specs.Whole.{IsStart, HasRoom, IsLaidOut, IsWhole}
use Rattle.report_text.specs.declared.images.Group.{Group}
use Rattle.report_text.specs.declared.images.Group.TheVariants.{Add, ExclusiveOr, Rotate, Store}
use Rattle.report_text.specs.Generated.{next_number, number_of_group, group_of, group_bytes, groups, front_bytes, back_bytes, generated_code, generated_start, code_section, sections_with, image_with}

-- ---- groups, one by one

pub number_moved : (number group x next : ℕ) → x ≡ number_of_group number group → next ≡ next_number x → next ≡ number_of_group number (group + 1)
number_moved number group x next is more = more ∙ ap next_number is ∙ ap (number_of_group number) (sym (add-one group))

next_groups : (number group x : ℕ) → x ≡ number_of_group number group → groups number (group + 1) ≡ groups number group ++ group_bytes (group_of x)
next_groups number group x is =
    ap (groups number) (add-one group) ∙ ap (λ y. groups number group ++ group_bytes (group_of y)) (sym is)

pub code_moved : (number group x : ℕ) (front code new : List ℕ) → x ≡ number_of_group number group → code ≡ front ++ groups number group
    → new ≡ code ++ group_bytes (group_of x) → new ≡ front ++ groups number (group + 1)
code_moved number group x front code new is so_far more =
    more
    ∙ ap (λ c. c ++ group_bytes (group_of x)) so_far
    ∙ append_assoc front (groups number group) (group_bytes (group_of x))
    ∙ ap (λ gs. front ++ gs) (sym (next_groups number group x is))

pub bytes_moved : (number group x bytes more : ℕ) → x ≡ number_of_group number group → bytes ≡ 89 + length (groups number group)
    → more ≡ length (group_bytes (group_of x)) → bytes + more ≡ 89 + length (groups number (group + 1))
bytes_moved number group x bytes more is so_far size =
    let all = ap length (next_groups number group x is) ∙ length-append (groups number group) (group_bytes (group_of x)) in
    omega (arith, all, so_far, size)

pub group_few : (group : Group) → length (group_bytes group) ≤ 5
group_few (Add byte) = omega arith
group_few (ExclusiveOr byte) = omega arith
group_few Rotate = omega arith
group_few (Store place) = omega arith

pub groups_few : (number count : ℕ) → length (groups number count) ≤ 5 * count
groups_few number zero = omega arith
groups_few number (suc count) =
    let group : Group = group_of (number_of_group number count) in
    omega (arith, length-append (groups number count) (group_bytes group), group_few group, groups_few number count)

-- what holds of the bytes of each kind of group holds of the group of every number
pub each_kind : (P : List ℕ → Type 0) → ((byte : ℕ) → P (0x80 ∷ 0x8F ∷ byte ∷ 0x52 ∷ [])) → ((byte : ℕ) → P (0x8C ∷ 0x8F ∷ byte ∷ 0x52 ∷ []))
    → P (0x9C ∷ 0x03 ∷ 0x52 ∷ 0x52 ∷ []) → ((place : ℕ) → P (0x90 ∷ 0x52 ∷ 0xC1 ∷ to_le_bytes w16 place)) → (x : ℕ) → P (group_bytes (group_of x))
each_kind P add exclusive_or rotate store x = by (group_of x)
  where
    by : (group : Group) → P (group_bytes group)
    by (Add byte) = add byte
    by (ExclusiveOr byte) = exclusive_or byte
    by Rotate = rotate
    by (Store place) = store place

-- ---- the code

pub length-code : (number : ℕ) → length (generated_code number) ≡ 13 + length (groups number number)
length-code number =
    omega (arith, length-append (front_bytes ++ groups number number) back_bytes, length-append front_bytes (groups number number))

pub code_some : (number : ℕ) → 1 ≤ length (generated_code number)
code_some number = omega (arith, length-code number)

pub code_few : (number : ℕ) → number ≤ 32000 → length (generated_code number) ≤ 2 ^ 19
code_few number few = omega (arith, length-code number, groups_few number number)

-- ---- the sections

sound_with : (code : List ℕ) → 1 ≤ length code → length code ≤ 2 ^ 19 → list_all is_sound (map row_of (sections_with code)) ≡ true
sound_with code some few =
    let size : ℕ = length code in
    rw (lt-ltb 0 size some, le-leb size size (omega arith), le-leb (65536 + size) 2147483648 (omega arith)) refl

apart_with : (code : List ℕ) → first_overlap 0 (map row_of (sections_with code)) ≡ None
apart_with code = refl

abbrev pub data_range : PageRange
data_range = record { first = 8; count = 4; writable = true; place = 0 }

abbrev pub code_range : List ℕ → PageRange
code_range code = record { first = 128; count = page_count (length code); writable = false; place = 0 }

abbrev pub table_with : List ℕ → PageTable
table_with code = record { ranges = data_range ∷ code_range code ∷ []; code = section_bytes (code_section code) }

pub pages_with : (code : List ℕ) → pages_of (sections_with code) ≡ table_with code
unfolding pages_of
pages_with code = λ i. record { ranges = data_range ∷ code_range code ∷ []; code = append-nil (section_bytes (code_section code)) i }

pub same_table : (code bytes : List ℕ) (ranges : List PageRange) → ranges ≡ data_range ∷ code_range code ∷ [] → bytes ≡ section_bytes (code_section code)
    → (let table : PageTable = record { ranges = ranges; code = bytes } in table ≡ pages_of (sections_with code))
same_table code bytes ranges r b = (λ i. record { ranges = r i; code = b i }) ∙ sym (pages_with code)

pub padded : (code bytes all : List ℕ) (count size : ℕ) → count ≡ page_count (length code) → bytes ≡ code → size ≡ length code
    → all ≡ take (512 * count) bytes ++ replicate (512 * count - size) 0 → all ≡ section_bytes (code_section code)
padded code bytes all count size pages same sized filled =
    filled
    ∙ (λ i. take (512 * pages i) (same i) ++ replicate (512 * pages i - sized i) 0)
    ∙ ap (λ front. front ++ replicate (page_bytes (length code) - length code) 0) (take_all (page_bytes (length code)) code (omega arith))

pub two_ranges : (code : List ℕ) (count : ℕ) (none one two : List PageRange) → count ≡ page_count (length code) → none ≡ []
    → one ≡ none ++ data_range ∷ []
    → (let last : PageRange = record { first = 128; count = count; writable = false; place = 0 } in two ≡ one ++ last ∷ [])
    → two ≡ data_range ∷ code_range code ∷ []
two_ranges code count none one two pages empty first second =
    let front = first ∙ ap (λ ranges. ranges ++ data_range ∷ []) empty in
    second ∙ (λ i. front i ++ record { first = 128; count = pages i; writable = false; place = 0 } ∷ [])

-- ---- the image

zeros : (count : ℕ) → AllByRecursion (λ (value : ℕ). value < 2 ^ 32) (replicate count 0)
zeros zero = tt
zeros (suc count) = (lit< tt, zeros count)

start_fits : IsStart 1 generated_start
start_fits = record {
  fits = record { pc = lit< tt; sp = lit< tt; count = refl; first = zeros 14 };
  cleared = λ one. refl;
}

pub whole_with : (code : List ℕ) → 1 ≤ length code → length code ≤ 2 ^ 19 → IsWhole (image_with code)
unfolding image_with
whole_with code some few =
    let room : HasRoom (image_with code) = record {
      version = refl;
      some_thread = omega arith;
      threads = omega arith;
      sections = omega arith;
      entries = omega arith;
      starts_fit = (start_fits, (start_fits, (start_fits, (start_fits, tt))));
      entries_fit = tt;
    } in
    let laid_out : IsLaidOut (image_with code) = record {
      sound = sound_with code some few;
      apart = apart_with code;
      small = omega arith;
      entries_in_code = refl;
      pages = refl;
    } in
    record { room = room; laid_out = laid_out }

-- the length of the file
spelled_with : (code : List ℕ) → length (spelling (image_with code)) ≡ 76 + length code
unfolding spelling image_with
spelled_with code = omega (arith, ap length (append-nil code))

pub spelled_generated : (number : ℕ) → length (spelling (image_with (generated_code number))) ≡ 89 + length (groups number number)
spelled_generated number = omega (arith, spelled_with (generated_code number), length-code number)
