-- Quadwords are below 2^64.
use Rattle.std.proofs.Common.{◌≡◌, ℕ, ◌<◌, ◌+◌, ◌-◌, ◌*◌, ◌%◌, ◌^◌, ◌==◌, Bool, true, false, if◌then◌else◌, List, [], ◌∷◌, refl, sym, subst, arith}
use Rattle.std.proofs.lemmas.Nat.{and_le_l, pow_below, or_lt}
use Rattle.vt_words.proofs.Tests.{chosen_below}
use Rattle.image_file.specs.Memory.{byte_in}
use Rattle.image_file.specs.Values.{ImageValue}
use Rattle.memory_core.specs.declared.entry.Kind.{Kind}
use Rattle.memory_core.specs.declared.entry.Kind.TheVariants.{Load, LoadLocked, Store, StoreConditional, TieRead, TieWrite, TieLocked, Put, Get}
use Rattle.memory_core.specs.declared.entry.Change.{Change}
use Rattle.memory_core.specs.declared.entry.Change.TheVariants.{Nothing, Bytes, AddWord, SetBit, ClearBit, Byte}
use Rattle.memory_core.specs.declared.entry.Entry.{Entry}
use Rattle.memory_core.specs.declared.entry.SetUp.{SetUp}
use Rattle.memory_core.specs.Bytes.{word_at}
use Rattle.memory_core.specs.Changes.{IsInRange, changed, leaves}
use Rattle.memory_core.specs.Kinds.{is_memory}
use Rattle.memory_core.specs.Opening.{opening}
use Rattle.memory_core.specs.Order.{stands_on, left_by, Fits, Meets}
use Rattle.memory_core.proofs.LookingBack.{found_left}
use Rattle.memory_core.proofs.Choices.{first_true}
use Rattle.system_model.proofs.Quads.{quad_at-lt, with_bytes-lt}

pub changed-lt : (change : Change) (before : ℕ) → IsInRange change → before < 2 ^ 64 → changed change before < 2 ^ 64
changed-lt Nothing before r h = h
changed-lt (Bytes mask value) before r h = with_bytes-lt mask value before
changed-lt (AddWord at value) before r h = with_bytes-lt (3 * 2 ^ at) ((word_at at before + value) % 2 ^ 16 * 2 ^ (8 * at)) before
changed-lt (SetBit n) before r h = or_lt 64 before (2 ^ n) h (pow_below n 64 r)
changed-lt (ClearBit n) before r h = omega (arith, and_le_l before (2 ^ 64 - 1 - 2 ^ n))
changed-lt (Byte b) before r h = omega (arith, r)

leaves-lt : (kind : Kind) (success : Bool) (change : Change) (before : ℕ) → IsInRange change → before < 2 ^ 64 → leaves kind success change before < 2 ^ 64
leaves-lt Load success change before r h = h
leaves-lt LoadLocked success change before r h = h
leaves-lt Store success change before r h = changed-lt change before r h
leaves-lt StoreConditional success change before r h = chosen_below success (changed change before) before (2 ^ 64) (changed-lt change before r h) h
leaves-lt TieRead success change before r h = h
leaves-lt TieWrite success change before r h = changed-lt change before r h
leaves-lt TieLocked success change before r h = changed-lt change before r h
leaves-lt Put success change before r h = changed-lt change before r h
leaves-lt Get success change before r h = h

opening-lt : (image : ImageValue) (quad : ℕ) → ((address : ℕ) → byte_in image address < 256) → opening image quad < 2 ^ 64
unfolding opening
opening-lt image quad h = quad_at-lt (byte_in image) quad h

module _ (set_up : SetUp) (bytes : (address : ℕ) → byte_in set_up.image address < 256) where
  left-lt_step : (past : List Entry) (e : Entry) (quad : ℕ) → Fits set_up past e → ((q : ℕ) → left_by set_up past q < 2 ^ 64) → (b : Bool) → stands_on e quad ≡ b → (if b then e.after else left_by set_up past quad) < 2 ^ 64
  left-lt_step past e quad f h true s =
      let memory = first_true (is_memory e.kind) (e.quad == quad) s in
      let found : e.before < 2 ^ 64 = subst (λ n. n < 2 ^ 64) (sym (found_left set_up past e f memory)) (h e.quad) in
      subst (λ n. n < 2 ^ 64) (sym f.after) (leaves-lt e.kind e.success f.change e.before f.allowed.range found)
  left-lt_step past e quad f h false s = h quad

  pub left-lt : (past : List Entry) → Meets set_up past → (quad : ℕ) → left_by set_up past quad < 2 ^ 64
  left-lt [] m quad = opening-lt set_up.image quad bytes
  left-lt (e ∷ past) m quad = left-lt_step past e quad m.1 (left-lt past m.0) (stands_on e quad) refl
