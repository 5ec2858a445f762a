-- The order that the bytes of a file mean, or the first reason for which they mean none.
use Rattle.std.specs.Prelude.{◌≡◌, ℕ, ◌+◌, ◌*◌, ◌==◌, not, Bool, List, length, map, take, drop, position, Result, Ok, Err, nat_lt, slice_index}
use Rattle.std.specs.Int.{w64, from_le_bytes}
use Rattle.vax_form.specs.declared.state.Pick.{Pick}
use Rattle.image_file.specs.Reading.{word, table_in}
use Rattle.image_file.specs.Steps.{◌>>=◌, refuse_if, refuse_at}
use Rattle.run_files.specs.declared.header.Header.{Header}
use Rattle.run_files.specs.declared.refusal.OrderRefusal.{OrderRefusal}
use Rattle.run_files.specs.declared.refusal.OrderRefusal.TheVariants.{Truncated, BadMagic, BadVersion, WrongThreads, TooManyPicks, LongInput, Trailing, BadFlag, LargeCount, BadThread, WantOfMemory}
use Rattle.run_files.specs.Limits.{MAGIC, VERSION, HEADER, THREAD_BYTES, PICK_BYTES, MOST_INPUT, MOST_PICKS, MOST_COUNT}
use Rattle.run_files.specs.Spelling.{order_room}
use Rattle.run_files.specs.Values.{OrderValue}

-- a call's answer, seen by view, is what reading gives, unless memory ran out
abbrev pub Gives : {X Y : Type 0} → (X → Y) → Result X OrderRefusal → Result Y OrderRefusal → Type 0
Gives view (Ok x) read = read ≡ Ok (view x)
Gives view (Err WantOfMemory) read = Unit {0}
Gives view (Err e) read = read ≡ Err e

-- the number in the first eight bytes
abbrev pub quad : List ℕ → ℕ
quad bytes = from_le_bytes w64 (take 8 bytes)

abbrev pub header_in : List ℕ → Header
header_in bytes = record { version = word (drop 4 bytes); threads = word (drop 8 bytes); picks = word (drop 12 bytes); input = word (drop 16 bytes) }

-- the length that the file should have
abbrev pub file_length : Header → ℕ
file_length header = order_room header.threads header.input header.picks

-- the version is the format's, the threads are so many, and picks and input are not too long
unfoldable pub numbers_allowed : ℕ → Header → Result (Unit {0}) OrderRefusal
numbers_allowed threads header = do
  version ← refuse_if (not (header.version == VERSION)) (BadVersion header.version)
  same ← refuse_if (not (header.threads == threads)) (WrongThreads header.threads)
  picks ← refuse_if (nat_lt MOST_PICKS header.picks) (TooManyPicks header.picks)
  refuse_if (nat_lt MOST_INPUT header.input) (LongInput header.input)

-- the header's numbers, of a file of so many threads that has just the length that they tell
unfoldable pub header_of : ℕ → List ℕ → Result Header OrderRefusal
header_of threads bytes = do
  headed ← refuse_if (nat_lt (length bytes) HEADER) (Truncated (length bytes))
  magic ← refuse_if (not (word bytes == MAGIC)) BadMagic
  allowed ← numbers_allowed threads (header_in bytes)
  whole ← refuse_if (nat_lt (length bytes) (file_length (header_in bytes))) (Truncated (length bytes))
  ended ← refuse_if (nat_lt (file_length (header_in bytes)) (length bytes)) (Trailing (file_length (header_in bytes)))
  Ok (header_in bytes)

-- where the input stands, and the picks
abbrev pub input_at : Header → ℕ
input_at header = HEADER + THREAD_BYTES * header.threads

abbrev pub picks_at : Header → ℕ
picks_at header = input_at header + header.input

-- a thread's flag stands behind its count
abbrev pub flag_in : List ℕ → ℕ
flag_in bytes = slice_index bytes 8

abbrev pub pick_in : List ℕ → Pick
pick_in bytes = record { thread = slice_index bytes 0; retired = quad (drop 1 bytes) }

abbrev pub counts_in : (threads : ℕ) → List ℕ → List ℕ
counts_in threads bytes = table_in THREAD_BYTES quad threads (drop HEADER bytes)

abbrev pub flags_in : (threads : ℕ) → List ℕ → List ℕ
flags_in threads bytes = table_in THREAD_BYTES flag_in threads (drop HEADER bytes)

abbrev pub input_in : Header → List ℕ → List ℕ
input_in header bytes = take header.input (drop (input_at header) bytes)

abbrev pub picks_in : Header → List ℕ → List Pick
picks_in header bytes = table_in PICK_BYTES pick_in header.picks (drop (picks_at header) bytes)

abbrev pub is_bad_flag : ℕ → Bool
is_bad_flag flag = nat_lt 1 flag

abbrev pub is_large_count : ℕ → Bool
is_large_count count = nat_lt MOST_COUNT count

-- its thread isn't one of so many
abbrev pub is_of_no_thread : ℕ → Pick → Bool
is_of_no_thread threads pick = not (nat_lt pick.thread threads)

-- All flags are looked at before the first count, and all counts before the first pick.
unfoldable pub parts_allowed : Header → List ℕ → Result (Unit {0}) OrderRefusal
parts_allowed header bytes = do
  flags ← refuse_at (position is_bad_flag (flags_in header.threads bytes)) (λ thread. BadFlag thread)
  counts ← refuse_at (position is_large_count (counts_in header.threads bytes)) (λ thread. LargeCount thread)
  refuse_at (position (is_of_no_thread header.threads) (picks_in header bytes)) (λ place. BadThread place)

abbrev pub is_set : ℕ → Bool
is_set flag = flag == 1

abbrev pub order_in : Header → List ℕ → OrderValue
order_in header bytes = record { input = input_in header bytes; counts = counts_in header.threads bytes; spent = map is_set (flags_in header.threads bytes); picks = picks_in header bytes }

-- the order of so many threads
unfoldable pub order_of : ℕ → List ℕ → Result OrderValue OrderRefusal
order_of threads bytes = do
  header ← header_of threads bytes
  allowed ← parts_allowed header bytes
  Ok (order_in header bytes)
