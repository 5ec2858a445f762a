-- A memory whose input is given, and whose output is sent, while it runs.
use Rattle.std.specs.Prelude.{◌≡◌, ◌≢◌, ◌≤◌, ◌+◌, ◌-◌, ◌^◌, ◌==◌, ℕ, Bool, List, [], ◌∷◌, ◌++◌, drop, length, min, reverse}
use Rattle.image_file.specs.Values.{ImageValue}
use Rattle.memory_core.specs.declared.entry.Entry.{Entry}
use Rattle.memory_core.specs.declared.entry.Limit.{Limit}
use Rattle.memory_core.specs.declared.entry.Limit.TheVariants.{Puts}
use Rattle.memory_core.specs.declared.entry.SetUp.{SetUp}
use Rattle.memory_core.specs.Contents.{Contents, fresh, output_of, bytes_put}
use Rattle.memory_core.specs.Limits.{IsAtLeast}
use Rattle.memory_core.specs.Order.{gets}

-- a memory's contents, how many bytes its output keeps at most, and how many bytes of the output were sent
pub record LiveContents : Type 0 where
  pub contents : Contents
  pub buffer : ℕ
  pub sent : ℕ

-- a memory of one processor without entries and input
abbrev pub begun : ImageValue → (buffer miss : ℕ) → LiveContents
begun image buffer miss = record { contents = fresh image [] 1 (Puts buffer) miss; buffer = buffer; sent = 0 }

-- ---- input

-- a GET would find no byte, and none found none so far
abbrev pub wants_input : Contents → Bool
wants_input contents = gets (reverse contents.history) == length contents.set_up.input

-- the input has one byte more
abbrev pub given : (byte : ℕ) → Contents → Contents
given byte contents = record contents { set_up = record contents.set_up { input = contents.set_up.input ++ byte ∷ [] } }

-- ---- output

-- the bytes that were put and not sent
abbrev pub unsent : LiveContents → List ℕ
unsent live = drop live.sent (output_of live.contents.history)

-- the greatest limit
abbrev pub most_puts : ℕ
most_puts = 2 ^ 64 - 1

-- as many bytes may be put as were sent and the buffer has room for
abbrev pub room_behind : (buffer sent : ℕ) → Limit
room_behind buffer sent = Puts (min (sent + buffer) most_puts)

-- the buffer has room for as many bytes as it has
abbrev pub emptied : (buffer : ℕ) → Contents → Contents
emptied buffer contents =
    record contents { set_up = record contents.set_up { limit = room_behind buffer (bytes_put contents.history) } }

-- all output is sent
abbrev pub all_sent : LiveContents → LiveContents
all_sent live = record live { contents = emptied live.buffer live.contents; sent = bytes_put live.contents.history }

-- ---- set-ups

-- the new set-up has the old one's input with more behind it, if each GET of the entries found a byte of the old one's;
-- and its limit is as great
pub record GoesOn (entries : List Entry) (old new : SetUp) : Type 0 where
  pub image : new.image ≡ old.image
  pub miss : new.miss ≡ old.miss
  pub more : List ℕ
  pub input : new.input ≡ old.input ++ more
  pub found : more ≢ [] → gets entries ≤ length old.input
  pub limit : IsAtLeast old.limit new.limit
