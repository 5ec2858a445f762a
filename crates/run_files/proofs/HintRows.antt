-- Rows of hint files, by hand.
use Rattle.std.proofs.Common.{◌≡◌, ℕ, List, [], ◌∷◌, ◌++◌, take, drop, refl, Ok, Err}
use Rattle.std.specs.Prelude.{codes}
use Rattle.run_files.specs.declared.hint_refusal.HintRefusal.TheVariants.{Truncated, BadMagic, BadVersion, TooMany, BadHint, Trailing}
use Rattle.run_files.specs.Hints.{count_of, hints_bytes, hints_of}

-- a file by hand with the addresses 220 and 1000, both ways, and each refusal
abbrev two : List ℕ
two = codes "VXHT" ++ 1 ∷ 0 ∷ 0 ∷ 0 ∷ 2 ∷ 0 ∷ 0 ∷ 0 ∷ 0x20 ∷ 2 ∷ 0 ∷ 0 ∷ 0 ∷ 0x10 ∷ 0 ∷ 0 ∷ []

row_written : hints_bytes (0x220 ∷ 0x1000 ∷ []) ≡ two
unfolding hints_bytes
row_written = refl

row_read : hints_of two ≡ Ok (0x220 ∷ 0x1000 ∷ [])
unfolding hints_of count_of
row_read = refl

row_none : hints_of (codes "VXHT" ++ 1 ∷ 0 ∷ 0 ∷ 0 ∷ 0 ∷ 0 ∷ 0 ∷ 0 ∷ []) ≡ Ok []
unfolding hints_of count_of
row_none = refl

row_empty : hints_of [] ≡ Err (Truncated 0)
unfolding hints_of count_of
row_empty = refl

row_header : hints_of (take 11 two) ≡ Err (Truncated 11)
unfolding hints_of count_of
row_header = refl

row_magic : hints_of (0x57 ∷ drop 1 two) ≡ Err BadMagic
unfolding hints_of count_of
row_magic = refl

row_version : hints_of (codes "VXHT" ++ 2 ∷ drop 5 two) ≡ Err (BadVersion 2)
unfolding hints_of count_of
row_version = refl

row_many : hints_of (codes "VXHT" ++ 1 ∷ 0 ∷ 0 ∷ 0 ∷ 1 ∷ 0x80 ∷ 0 ∷ 0 ∷ []) ≡ Err (TooMany 32769)
unfolding hints_of count_of
row_many = refl

row_short : hints_of (take 19 two) ≡ Err (Truncated 19)
unfolding hints_of count_of
row_short = refl

row_equal : hints_of (take 16 two ++ 0x20 ∷ 2 ∷ 0 ∷ 0 ∷ []) ≡ Err (BadHint 1)
unfolding hints_of count_of
row_equal = refl

-- the addresses are looked at before what stands behind them
row_equal_and_more : hints_of (take 16 two ++ 0x20 ∷ 2 ∷ 0 ∷ 0 ∷ 7 ∷ []) ≡ Err (BadHint 1)
unfolding hints_of count_of
row_equal_and_more = refl

row_more : hints_of (two ++ 7 ∷ []) ≡ Err (Trailing 20)
unfolding hints_of count_of
row_more = refl
