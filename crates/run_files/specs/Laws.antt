-- What holds of all order files.
use Rattle.std.specs.Prelude.{◌≡◌, ◌≤◌, ◌<◌, ℕ, List, length, take, Ok, Err}
use Rattle.vax_form.specs.GrammarLaws.{AreBytes}
use Rattle.run_files.specs.declared.refusal.OrderRefusal.TheVariants.{Truncated}
use Rattle.run_files.specs.Limits.{MOST_THREADS}
use Rattle.run_files.specs.Values.{OrderValue}
use Rattle.run_files.specs.Fits.{Fits}
use Rattle.run_files.specs.Spelling.{order_bytes}
use Rattle.run_files.specs.Reading.{order_of}

-- what fits is read back as it was
abbrev pub WrittenIsRead : Type 0
WrittenIsRead = (threads : ℕ) (file : OrderValue) → Fits threads file → order_of threads (order_bytes file) ≡ Ok file

-- what is read fits, and its bytes are the spelling
abbrev pub ReadIsWritten : Type 0
ReadIsWritten = (threads : ℕ) (bytes : List ℕ) (file : OrderValue) → threads ≤ MOST_THREADS → AreBytes bytes → order_of threads bytes ≡ Ok file
    → Fits threads file × (bytes ≡ order_bytes file)

-- every proper prefix of an accepted file is refused as Truncated, with the prefix's length
abbrev pub PrefixesAreRefused : Type 0
PrefixesAreRefused = (threads : ℕ) (bytes : List ℕ) (file : OrderValue) (kept : ℕ) → order_of threads bytes ≡ Ok file → kept < length bytes → order_of threads (take kept bytes) ≡ Err (Truncated kept)
