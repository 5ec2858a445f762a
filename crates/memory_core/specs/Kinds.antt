-- The kinds of entries.
use Rattle.std.specs.Prelude.{Bool, true, false}
use Rattle.memory_core.specs.declared.entry.Kind.{Kind}
use Rattle.memory_core.specs.declared.entry.Kind.TheVariants.{Load, LoadLocked, Store, StoreConditional, TieRead, TieWrite, TieLocked, Put, Get}

-- an access to a quadword
abbrev pub is_memory : Kind → Bool
is_memory Load = true
is_memory LoadLocked = true
is_memory Store = true
is_memory StoreConditional = true
is_memory TieRead = true
is_memory TieWrite = true
is_memory TieLocked = true
is_memory Put = false
is_memory Get = false

-- an access that writes its quadword, where a store conditional has this success
abbrev pub writes : Kind → Bool → Bool
writes Load success = false
writes LoadLocked success = false
writes Store success = true
writes StoreConditional success = success
writes TieRead success = false
writes TieWrite success = true
writes TieLocked success = true
writes Put success = false
writes Get success = false

abbrev pub is_conditional : Kind → Bool
is_conditional StoreConditional = true
is_conditional _ = false

abbrev pub is_put : Kind → Bool
is_put Put = true
is_put _ = false

abbrev pub is_get : Kind → Bool
is_get Get = true
is_get _ = false
