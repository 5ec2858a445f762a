-- The bytes that a history left, summed one by one.
use Rattle.std.proofs.Common.{◌≡◌, ◌+◌, ◌∙◌, ℕ, List, refl, sym, ap, ap₂, add-one}
use Rattle.std.specs.Option.{unwrap_or}
use Rattle.memory_core.specs.Contents.{byte_left}
use Rattle.memory_core.specs.declared.entry.Entry.{Entry}
use Rattle.memory_core.specs.declared.entry.SetUp.{SetUp}
use Rattle.vest_runs.specs.Generate.{bytes_left}

module _ (of : SetUp) (history : List Entry) where
  pub no_bytes : (first : ℕ) → 0 ≡ bytes_left of history first 0
  unfolding bytes_left
  no_bytes first = refl

  pub bytes_more : (first place sum byte : ℕ) → sum ≡ bytes_left of history first place → byte ≡ unwrap_or (byte_left of history (first + place)) 0
      → sum + byte ≡ bytes_left of history first (place + 1)
  unfolding bytes_left
  bytes_more first place sum byte is here =
      ap₂ (λ (a b : ℕ). a + b) is here
      ∙ sym (ap (bytes_left of history first) (add-one place))
