-- Memory, input and output as the code keeps them.
use Rattle.std.specs.Prelude.{ℕ, List, [], ◌∷◌, ◌++◌, unwrap_or}
use Rattle.std.specs.BTreeMap.{get}
use Rattle.std.specs.Ordering.{nat_cmp}
use Rattle.image_file.specs.Memory.{byte_in}
use Rattle.image_file.specs.Values.{ImageValue}
use Rattle.vax_form.specs.declared.state.RefKind.{RefKind}
use Rattle.vax_form.specs.declared.state.RefKind.TheVariants.{Put}
use Rattle.vax_run.specs.declared.memory.Memory.{Memory}

-- a byte that was written, else the image's
abbrev pub byte_of : ImageValue → Memory → ℕ → ℕ
byte_of image memory address = unwrap_or (get nat_cmp memory.written address) (byte_in image address)

-- the output behind a reference, oldest first
abbrev pub put_by : RefKind → List ℕ → List ℕ
put_by (Put value) output = output ++ value ∷ []
put_by _ output = output
