-- Rows of order files, written by hand: the file of a program that puts one byte, what becomes of it by a changed byte or a cut, and the
-- file of a program that reads its input and puts it out again.
use Rattle.std.proofs.Common.{◌≡◌, ℕ, List, [], ◌∷◌, ◌++◌, true, false, map, set, take, Result, Ok, Err, refl}
use Rattle.std.specs.List.{range_with_len}
use Rattle.vax_form.specs.declared.state.Pick.{Pick}
use Rattle.memory_core.specs.declared.entry.Kind.TheVariants.{LoadLocked, StoreConditional, Put}
use Rattle.memory_core.specs.declared.entry.Kind.{Kind}
use Rattle.memory_core.specs.declared.entry.Entry.{Entry}
use Rattle.system_model.specs.Counted.{order}
use Rattle.run_files.specs.declared.refusal.OrderRefusal.{OrderRefusal}
use Rattle.run_files.specs.declared.refusal.OrderRefusal.TheVariants.{Truncated}
use Rattle.run_files.specs.Refusal.{numbers_of}
use Rattle.run_files.specs.Values.{OrderValue}
use Rattle.run_files.specs.Spelling.{order_bytes, stored_order}
use Rattle.run_files.specs.Reading.{header_of, numbers_allowed, parts_allowed, order_of}

-- thread 0 after so many instructions
abbrev after : ℕ → Pick
after retired = record { thread = 0; retired = retired }

-- MOVL #5,R0; CHMK #2, which puts 05 out; CHMK #1, which ends the thread
abbrev first : List ℕ
first =
    86 ∷ 88 ∷ 79 ∷ 82 ∷ 1 ∷ 0 ∷ 0 ∷ 0 ∷ 1 ∷ 0 ∷ 0 ∷ 0 ∷ 1 ∷ 0 ∷ 0 ∷ 0 ∷ 0 ∷ 0 ∷ 0 ∷ 0 ∷
    3 ∷ 0 ∷ 0 ∷ 0 ∷ 0 ∷ 0 ∷ 0 ∷ 0 ∷ 0 ∷
    0 ∷ 1 ∷ 0 ∷ 0 ∷ 0 ∷ 0 ∷ 0 ∷ 0 ∷ 0 ∷ []

abbrev first_order : OrderValue
first_order = record { input = []; counts = 3 ∷ []; spent = false ∷ []; picks = after 1 ∷ [] }

first_is_spelled : order_bytes first_order ≡ first
unfolding order_bytes
first_is_spelled = refl

first_is_read : order_of 1 first ≡ Ok first_order
unfolding order_of header_of numbers_allowed parts_allowed
first_is_read = refl

-- the entry of the PUT, between ones that make no reference: a load-locked access, and a store conditional that failed
abbrev entry : Kind → (retired : ℕ) → Entry
entry kind retired = record { retired = retired; before = 0; after = 5; quad = 0; processor = 0; kind = kind; success = false }

first_is_stored : order_bytes (stored_order ((3, false) ∷ []) [] (order (entry LoadLocked 0 ∷ entry StoreConditional 0 ∷ entry Put 1 ∷ []))) ≡ first
unfolding order_bytes
first_is_stored = refl

-- ---- refusals of the first file, as they are told

abbrev told : Result OrderValue OrderRefusal → List ℕ
told (Ok file) = []
told (Err refusal) = numbers_of refusal

empty : told (order_of 1 []) ≡ 1 ∷ 0 ∷ []
unfolding order_of header_of
empty = refl

cut_in_the_header : told (order_of 1 (take 19 first)) ≡ 1 ∷ 19 ∷ []
unfolding order_of header_of
cut_in_the_header = refl

bad_magic : told (order_of 1 (set first 0 0x57)) ≡ 2 ∷ []
unfolding order_of header_of
bad_magic = refl

other_version : told (order_of 1 (set first 4 2)) ≡ 3 ∷ 2 ∷ []
unfolding order_of header_of numbers_allowed
other_version = refl

of_two_threads : told (order_of 1 (set first 8 2)) ≡ 4 ∷ 2 ∷ []
unfolding order_of header_of numbers_allowed
of_two_threads = refl

of_no_thread : told (order_of 0 first) ≡ 4 ∷ 1 ∷ []
unfolding order_of header_of numbers_allowed
of_no_thread = refl

too_many_picks : told (order_of 1 (set (set first 12 1) 14 0x40)) ≡ 5 ∷ 4194305 ∷ []
unfolding order_of header_of numbers_allowed
too_many_picks = refl

picks_that_are_not_there : told (order_of 1 (set (set first 12 0) 14 0x40)) ≡ 1 ∷ 38 ∷ []
unfolding order_of header_of numbers_allowed
picks_that_are_not_there = refl

long_input : told (order_of 1 (set (set first 16 1) 18 1)) ≡ 6 ∷ 65537 ∷ []
unfolding order_of header_of numbers_allowed
long_input = refl

input_that_is_not_there : told (order_of 1 (set first 18 1)) ≡ 1 ∷ 38 ∷ []
unfolding order_of header_of numbers_allowed
input_that_is_not_there = refl

cut_in_the_pick : told (order_of 1 (take 37 first)) ≡ 1 ∷ 37 ∷ []
unfolding order_of header_of numbers_allowed
cut_in_the_pick = refl

one_byte_more : told (order_of 1 (first ++ 0 ∷ [])) ≡ 7 ∷ 38 ∷ []
unfolding order_of header_of numbers_allowed
one_byte_more = refl

bad_flag : told (order_of 1 (set first 28 2)) ≡ 8 ∷ 0 ∷ []
unfolding order_of header_of numbers_allowed parts_allowed
bad_flag = refl

bad_flag_and_one_byte_more : told (order_of 1 (set first 28 2 ++ 0 ∷ [])) ≡ 7 ∷ 38 ∷ []
unfolding order_of header_of numbers_allowed parts_allowed
bad_flag_and_one_byte_more = refl

-- 1,000,000,000,001 is E8D4A51001
abbrev long_run : List ℕ
long_run = set (set (set (set (set first 20 0x01) 21 0x10) 22 0xa5) 23 0xd4) 24 0xe8

large_count : told (order_of 1 long_run) ≡ 9 ∷ 0 ∷ []
unfolding order_of header_of numbers_allowed parts_allowed
large_count = refl

largest_count : told (order_of 1 (set long_run 20 0)) ≡ []
unfolding order_of header_of numbers_allowed parts_allowed
largest_count = refl

large_count_and_bad_flag : told (order_of 1 (set long_run 28 2)) ≡ 8 ∷ 0 ∷ []
unfolding order_of header_of numbers_allowed parts_allowed
large_count_and_bad_flag = refl

pick_of_no_thread : told (order_of 1 (set first 29 1)) ≡ 10 ∷ 0 ∷ []
unfolding order_of header_of numbers_allowed parts_allowed
pick_of_no_thread = refl

-- ---- a program that gets two bytes, ab, and puts them out

abbrev copied : List ℕ
copied =
    86 ∷ 88 ∷ 79 ∷ 82 ∷ 1 ∷ 0 ∷ 0 ∷ 0 ∷ 1 ∷ 0 ∷ 0 ∷ 0 ∷ 5 ∷ 0 ∷ 0 ∷ 0 ∷ 2 ∷ 0 ∷ 0 ∷ 0 ∷
    14 ∷ 0 ∷ 0 ∷ 0 ∷ 0 ∷ 0 ∷ 0 ∷ 0 ∷ 0 ∷
    97 ∷ 98 ∷
    0 ∷ 0 ∷ 0 ∷ 0 ∷ 0 ∷ 0 ∷ 0 ∷ 0 ∷ 0 ∷
    0 ∷ 3 ∷ 0 ∷ 0 ∷ 0 ∷ 0 ∷ 0 ∷ 0 ∷ 0 ∷
    0 ∷ 5 ∷ 0 ∷ 0 ∷ 0 ∷ 0 ∷ 0 ∷ 0 ∷ 0 ∷
    0 ∷ 8 ∷ 0 ∷ 0 ∷ 0 ∷ 0 ∷ 0 ∷ 0 ∷ 0 ∷
    0 ∷ 10 ∷ 0 ∷ 0 ∷ 0 ∷ 0 ∷ 0 ∷ 0 ∷ 0 ∷ []

abbrev copied_order : OrderValue
copied_order = record { input = 97 ∷ 98 ∷ []; counts = 14 ∷ []; spent = false ∷ []; picks = after 0 ∷ after 3 ∷ after 5 ∷ after 8 ∷ after 10 ∷ [] }

copied_is_spelled : order_bytes copied_order ≡ copied
unfolding order_bytes
copied_is_spelled = refl

copied_is_read : order_of 1 copied ≡ Ok copied_order
unfolding order_of header_of numbers_allowed parts_allowed
copied_is_read = refl

every_prefix_is_refused : map (λ kept. order_of 1 (take kept copied)) (range_with_len 0 76) ≡ map (λ kept. Err (Truncated kept)) (range_with_len 0 76)
unfolding order_of header_of numbers_allowed
every_prefix_is_refused = refl

-- ---- a file without picks and input, of a thread that is Spent after 100 instructions

spent : order_of 1 (86 ∷ 88 ∷ 79 ∷ 82 ∷ 1 ∷ 0 ∷ 0 ∷ 0 ∷ 1 ∷ 0 ∷ 0 ∷ 0 ∷ 0 ∷ 0 ∷ 0 ∷ 0 ∷ 0 ∷ 0 ∷ 0 ∷ 0 ∷ 100 ∷ 0 ∷ 0 ∷ 0 ∷ 0 ∷ 0 ∷ 0 ∷ 0 ∷ 1 ∷ [])
    ≡ Ok (record { input = []; counts = 100 ∷ []; spent = true ∷ []; picks = [] })
unfolding order_of header_of numbers_allowed parts_allowed
spent = refl
