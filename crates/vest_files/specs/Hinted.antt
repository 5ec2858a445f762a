-- What the hints of a translation are mapped to.
use Rattle.std.specs.Prelude.{◌≡◌, ℕ, true, IsSome, IsTrue, List}
use Rattle.vax_form.specs.Targets.{has}
use Rattle.address_map.specs.Pairs.{word_at}
use Rattle.block_law.specs.Translations.{Code}
use Rattle.flow_discovery.specs.Mapped.{has_block_at}
use Rattle.image_file.specs.Values.{ImageValue}
use Rattle.image_meaning.specs.declared.target.Target.{Target}
use Rattle.translate.specs.Translated.{IsTranslated}

-- a hint is mapped where an instruction stands at it that has a block
abbrev pub HintsAreMapped : Type 0
HintsAreMapped = (target : Target) (image : ImageValue) (hints : List ℕ) (code : Code) (address : ℕ) → IsTranslated target image hints code
    → IsTrue (has hints address) → has_block_at image.pages address ≡ true → IsSome (word_at code.map address)
