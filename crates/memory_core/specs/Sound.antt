-- What the fields of a memory are, by its history.
use Rattle.std.specs.Prelude.{◌≡◌, ◌<◌, ◌≤◌, ◌+◌, ◌^◌, ◌++◌, ℕ, suc, drop, min, length, reverse, slice_index_or, vec_capacity}
use Rattle.memory_core.specs.declared.entry.SetUp.{SetUp}
use Rattle.memory_core.specs.declared.held.Held.TheInside.{Inside}
use Rattle.memory_core.specs.Contents.{Contents, output_of, bytes_put}
use Rattle.memory_core.specs.Fields.{IsKept, AreCurrent, kept_of, most_kept}
use Rattle.memory_core.specs.Held.{Holding}
use Rattle.memory_core.specs.Limits.{greatest, IsWithin}
use Rattle.memory_core.specs.Order.{gets, Meets}
use Rattle.memory_core.specs.Reservations.{none}

abbrev pub set_up_of : Inside → SetUp
set_up_of m = record { image = m.image.value; input = m.behind.bytes ++ m.input.items; limit = m.limit; miss = m.miss }

abbrev pub contents_of : Inside → Contents
contents_of m = record { set_up = set_up_of m; processors = length m.reservations.items; history = m.history.entries }

abbrev pub holding_of : Inside → Holding
holding_of m = record { contents = contents_of m; sent = m.sent; input_room = vec_capacity m.input; output_room = vec_capacity m.output }

pub record IsSound (m : Inside) : Type 0 where
  pub order : Meets (set_up_of m) (reverse m.history.entries)
  pub within : IsWithin m.limit m.history.entries
  pub word : greatest m.limit < 2 ^ 64
  pub index : m.index ≡ m.image.value.pages.ranges
  pub quads : AreCurrent (set_up_of m) (reverse m.history.entries) m.quads.items
  pub kept : (p : ℕ) → p < length m.reservations.items → IsKept m.miss (reverse m.history.entries) p (slice_index_or m.reservations.items p none)
  pub taken : length m.behind.bytes + m.taken ≡ min (gets (reverse m.history.entries)) (suc (length (set_up_of m).input))
  pub sent : m.sent ≤ bytes_put m.history.entries
  pub output : m.output.items ≡ drop m.sent (output_of m.history.entries)
  pub output_room : greatest m.limit ≤ m.sent + vec_capacity m.output
  pub entries : m.kept.items ≡ kept_of m.limit m.history.entries
  pub entries_room : most_kept m.limit ≤ vec_capacity m.kept
