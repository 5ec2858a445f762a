-- The bytes of an order file. All numbers are little-endian.
use Rattle.std.specs.Prelude.{ℕ, ◌+◌, ◌*◌, Bool, List, [], ◌∷◌, ◌++◌, length, map, zip, codes, if◌then◌else◌}
use Rattle.std.specs.List.{flat_map}
use Rattle.std.specs.Int.{w32, w64, to_le_bytes}
use Rattle.vax_form.specs.declared.state.Pick.{Pick}
use Rattle.run_files.specs.Limits.{VERSION, HEADER, THREAD_BYTES, PICK_BYTES}
use Rattle.run_files.specs.Values.{OrderValue}

-- magic number, version, and the numbers of threads, picks and bytes of input
abbrev pub header_bytes : (threads picks input : ℕ) → List ℕ
header_bytes threads picks input = codes "VXOR" ++ to_le_bytes w32 VERSION ++ to_le_bytes w32 threads ++ to_le_bytes w32 picks ++ to_le_bytes w32 input

-- how a thread ended: the number of instructions that it retired, and whether it is Spent
abbrev pub Ended : Type 0
Ended = ℕ × Bool

abbrev pub flag : Bool → ℕ
flag spent = if spent then 1 else 0

abbrev pub end_bytes : Ended → List ℕ
end_bytes end = to_le_bytes w64 end.0 ++ flag end.1 ∷ []

abbrev pub pick_bytes : Pick → List ℕ
pick_bytes pick = pick.thread ∷ to_le_bytes w64 pick.retired

-- the header, the count and the flag of each thread, the input, and the picks
unfoldable pub order_bytes : OrderValue → List ℕ
order_bytes file =
    header_bytes (length file.counts) (length file.picks) (length file.input)
    ++ flat_map end_bytes (zip file.counts file.spent)
    ++ file.input
    ++ flat_map pick_bytes file.picks

-- how many bytes that are
abbrev pub order_room : (threads input picks : ℕ) → ℕ
order_room threads input picks = HEADER + THREAD_BYTES * threads + input + PICK_BYTES * picks

-- the file of threads that ended so
abbrev pub stored_order : (ends : List Ended) → (input : List ℕ) → (picks : List Pick) → OrderValue
stored_order ends input picks = record { input = input; counts = map (λ (end : Ended). end.0) ends; spent = map (λ (end : Ended). end.1) ends; picks = picks }
