-- The order of references that a history keeps.
use Rattle.std.specs.Prelude.{Bool, true, false, List, map, filter}
use Rattle.vax_form.specs.declared.state.Pick.{Pick}
use Rattle.memory_core.specs.declared.entry.Kind.{Kind}
use Rattle.memory_core.specs.declared.entry.Kind.TheVariants.{Load, LoadLocked, Store, StoreConditional, TieRead, TieWrite, TieLocked, Put, Get}
use Rattle.memory_core.specs.declared.entry.Entry.{Entry}

-- the accesses that stand for a reference: all but load-locked ones and store conditionals that fail
abbrev pub counts : Kind → (success : Bool) → Bool
counts Load success = true
counts LoadLocked success = false
counts Store success = true
counts StoreConditional success = success
counts TieRead success = true
counts TieWrite success = true
counts TieLocked success = true
counts Put success = true
counts Get success = true

-- the entry stands for a reference
abbrev pub is_counted : Entry → Bool
is_counted e = counts e.kind e.success

-- its thread, after the instructions that it had retired
abbrev pub pick_of : Entry → Pick
pick_of e = record { thread = e.processor; retired = e.retired }

-- the picks of the counted entries, in the order of the entries
abbrev pub order : List Entry → List Pick
order entries = map pick_of (filter is_counted entries)
