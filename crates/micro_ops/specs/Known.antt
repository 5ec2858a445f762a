-- What is known behind some operations of a program, by these operations alone.
use Rattle.std.specs.Prelude.{ℕ, ◌==◌, ◌&&◌, ◌||◌, Bool, true, false, not, List, replicate, slice_get, slice_set, unwrap_or, if◌then◌else◌}
use Rattle.micro_ops.specs.declared.known.Holding.{Holding}
use Rattle.micro_ops.specs.declared.known.Holding.TheVariants.{Nothing, Wide, Longword}
use Rattle.micro_ops.specs.declared.known.Checked.{Checked}
use Rattle.micro_ops.specs.declared.known.Checked.TheVariants.{Nowhere, At}
use Rattle.micro_ops.specs.declared.known.Known.{Known}

-- no temporary above 5 holds anything
abbrev pub no_high : List Bool
no_high = replicate 64 false

-- no register was committed
abbrev pub no_commits : List Bool
no_commits = replicate 15 false

-- before the first operation
abbrev pub at_start : Known
at_start = record {
  temp0 = Nothing;
  temp1 = Nothing;
  temp2 = Nothing;
  temp3 = Nothing;
  temp4 = Nothing;
  temp5 = Nothing;
  high = no_high;
  checked = Nowhere;
  changed = false;
  committed = no_commits;
  codes = false;
  psw = false;
  ended = false;
}

-- the flag of a number, where the list has one
abbrev pub has_flag : List Bool → (number : ℕ) → Bool
has_flag flags number = unwrap_or (slice_get flags number) false

-- ---- temporaries
abbrev pub held : Known → (temp : ℕ) → Holding
held known temp =
    if temp == 0 then known.temp0 else if temp == 1 then known.temp1 else if temp == 2 then known.temp2
    else if temp == 3 then known.temp3 else if temp == 4 then known.temp4 else if temp == 5 then known.temp5
    else if has_flag known.high temp then Wide else Nothing

abbrev pub with_held : (temp : ℕ) → Holding → Known → Known
with_held temp holding known =
    if temp == 0 then record known { temp0 = holding } else if temp == 1 then record known { temp1 = holding }
    else if temp == 2 then record known { temp2 = holding } else if temp == 3 then record known { temp3 = holding }
    else if temp == 4 then record known { temp4 = holding } else if temp == 5 then record known { temp5 = holding }
    else record known { high = slice_set known.high temp true }

abbrev pub is_something : Holding → Bool
is_something Nothing = false
is_something Wide = true
is_something Longword = true

abbrev pub is_longword : Holding → Bool
is_longword Nothing = false
is_longword Wide = false
is_longword Longword = true

-- it was written, and is not lost
abbrev pub holds : Known → (temp : ℕ) → Bool
holds known temp = is_something (held known temp)

abbrev pub holds_longword : Known → (temp : ℕ) → Bool
holds_longword known temp = is_longword (held known temp)

-- ---- checks
-- a check of a place that is written counts no more
abbrev pub forgotten : (temp : ℕ) → Checked → Checked
forgotten temp Nowhere = Nowhere
forgotten temp (At place count write) = if place == temp then Nowhere else At place count write

-- the last check was of that place and so many bytes, for writing where that is wanted
abbrev pub is_checked : Checked → (place count : ℕ) → (write : Bool) → Bool
is_checked Nowhere place count write = false
is_checked (At at bytes intent) place count write = (at == place) && (bytes == count) && (not write || intent)

abbrev pub is_committed : Known → (number : ℕ) → Bool
is_committed known number = has_flag known.committed number

-- ---- what is known behind
abbrev pub behind_write : (temp : ℕ) → Holding → Known → Known
behind_write temp holding known =
    let written = with_held temp holding known in record written { checked = forgotten temp known.checked }

-- only the temporaries 0 to 3 outlast a check or a reference
abbrev pub behind_access : Known → Known
behind_access known = record known { temp4 = Nothing; temp5 = Nothing; high = no_high }

abbrev pub behind_commit : (number : ℕ) → Known → Known
behind_commit number known = record known { committed = slice_set known.committed number true; changed = true }
