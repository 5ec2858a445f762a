-- The objects in memory, as contracts see them, and what their calls answer.
use Rattle.std.specs.Prelude.{◌≡◌, ◌<◌, HoldsAt, ℕ, ◌-◌, min, List, [], ◌∷◌, ◌++◌, length, take, drop, Bool, if◌then◌else◌, Option, None, Some, unwrap_or, bytes_eq, string_bytes, map, ◌==◌, String, Vec, vec_len, vec_capacity}
use Rattle.std.specs.List.{list_any}
use Rattle.std.specs.declared.alloc.Global.{Global}
use Rattle.vt_outside.specs.Causes.{one_more}
use Rattle.vt_outside.specs.declared.desk.DeskRead.{DeskRead}
use Rattle.vt_outside.specs.declared.desk.DeskRead.TheVariants.{Failed as DeskFailed}
use Rattle.vt_outside.specs.declared.desk.DeskWrite.{DeskWrite}
use Rattle.vt_outside.specs.declared.desk.DeskWrite.TheVariants.{Done as WriteDone, Failed as WriteFailed}
use Rattle.vt_outside.specs.declared.source.Got.{Got}
use Rattle.vt_outside.specs.declared.source.Got.TheVariants.{Bytes, End, Failed}
use Rattle.vt_outside.specs.declared.sink.Put.{Put}
use Rattle.vt_outside.specs.declared.sink.Put.TheVariants.{Took, Failed as SinkFailed}

-- which calls are to fail, and the number of the next call
pub record CallsValue : Type 0 where
  pub fails : List ℕ
  pub next : ℕ

-- the next call is to fail
abbrev pub is_failing : CallsValue → Bool
is_failing calls = list_any (λ n. n == calls.next) calls.fails

-- after one more call; at its last value the number stands
abbrev pub called : CallsValue → CallsValue
called calls = record calls { next = one_more calls.next }

-- the files, the first of a name before any other
pub record MemoryDeskValue : Type 0 where
  pub files : List (List ℕ × List ℕ)
  pub calls : CallsValue
  pub read_faults : ℕ
  pub write_faults : ℕ

abbrev pub fresh_desk : List (List ℕ × List ℕ) → List ℕ → MemoryDeskValue
fresh_desk files fails = record {
  files = files;
  calls = record { fails = fails; next = 0 };
  read_faults = 0;
  write_faults = 0;
}

-- after a read with this answer
abbrev pub read_after : DeskRead → MemoryDeskValue → MemoryDeskValue
read_after DeskFailed desk = record desk { calls = called desk.calls; read_faults = one_more desk.read_faults }
read_after answer desk = record desk { calls = called desk.calls }

-- after a write with this answer, which left these files
abbrev pub write_after : DeskWrite → List (List ℕ × List ℕ) → MemoryDeskValue → MemoryDeskValue
write_after WriteDone files desk = record desk { files = files; calls = called desk.calls }
write_after WriteFailed files desk = record desk { calls = called desk.calls; write_faults = one_more desk.write_faults }

-- what the first file of that name has
abbrev pub contents_of : List (List ℕ × List ℕ) → List ℕ → Option (List ℕ)
contents_of [] name = None
contents_of (file ∷ files) name = if bytes_eq file.0 name then Some file.1 else contents_of files name

-- a name and its bytes
abbrev pub file_of : String Global × Vec ℕ Global → List ℕ × List ℕ
file_of file = (string_bytes file.0, file.1.items)

-- the bytes left, the most bytes of one call, and the count of faults
pub record MemorySourceValue : Type 0 where
  pub left : List ℕ
  pub most : ℕ
  pub calls : CallsValue
  pub faults : ℕ

abbrev pub fresh_source : List ℕ → List ℕ → ℕ → MemorySourceValue
fresh_source contents fails most = record {
  left = contents;
  most = most;
  calls = record { fails = fails; next = 0 };
  faults = 0;
}

-- what `read` answers, for so much room
abbrev pub source_answer : MemorySourceValue → ℕ → Got
source_answer source room =
    if is_failing source.calls then Failed
    else if length source.left == 0 then End
    else Bytes (min (min source.most room) (length source.left))

-- after a read with this answer
abbrev pub source_after : Got → MemorySourceValue → MemorySourceValue
source_after (Bytes n) source = record source { left = drop n source.left; calls = called source.calls }
source_after End source = record source { calls = called source.calls }
source_after Failed source = record source { calls = called source.calls; faults = one_more source.faults }

-- the bytes taken, the spare room of their vector, the most bytes of one call, and the count of faults
pub record MemorySinkValue : Type 0 where
  pub taken : List ℕ
  pub room : ℕ
  pub most : Option ℕ
  pub calls : CallsValue
  pub faults : ℕ

abbrev pub fresh_sink : Vec ℕ Global → List ℕ → MemorySinkValue
fresh_sink contents fails = record {
  taken = contents.items;
  room = vec_capacity contents - vec_len contents;
  most = None;
  calls = record { fails = fails; next = 0 };
  faults = 0;
}

-- the same, where one call takes at most so many bytes
abbrev pub slow_sink : Vec ℕ Global → List ℕ → ℕ → MemorySinkValue
slow_sink contents fails most = record (fresh_sink contents fails) { most = Some most }

-- what `write` answers to so many bytes
abbrev pub sink_answer : MemorySinkValue → ℕ → Put
sink_answer sink count =
    if is_failing sink.calls then SinkFailed
    else if sink.room == 0 then SinkFailed
    else Took (min (min count (unwrap_or sink.most count)) sink.room)

-- after a write of these bytes with this answer
abbrev pub sink_after : Put → MemorySinkValue → List ℕ → MemorySinkValue
sink_after (Took n) sink bytes =
    record sink { taken = sink.taken ++ take n bytes; room = sink.room - n; calls = called sink.calls }
sink_after SinkFailed sink bytes = record sink { calls = called sink.calls; faults = one_more sink.faults }

-- the first file of that name stands at i
pub record IsPlaceOf (i : ℕ) (files : List (String Global × Vec ℕ Global)) (name : List ℕ) : Type 0 where
  pub within : i < length files
  pub before : contents_of (map file_of (take i files)) name ≡ None
  pub here : HoldsAt (λ file. string_bytes file.0 ≡ name) files i
