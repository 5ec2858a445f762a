-- Which version of a translated file holds code for which processors.
use Rattle.std.specs.Prelude.{ℕ, ◌==◌, if◌then◌else◌}
use Rattle.image_meaning.specs.declared.target.Target.{Target}
use Rattle.image_meaning.specs.declared.target.Target.TheVariants.{Original, ByteWord}

abbrev pub version_of : Target → ℕ
version_of Original = 1
version_of ByteWord = 2

-- of the versions that the format has
abbrev pub target_of : (version : ℕ) → Target
target_of version = if version == 2 then ByteWord else Original
