-- The quadwords that an image starts with.
use Rattle.std.specs.Prelude.{ℕ, ◌+◌}
use Rattle.image_file.specs.Memory.{byte_in}
use Rattle.image_file.specs.Values.{ImageValue}
use Rattle.memory_core.specs.Bytes.{quad_of}

unfoldable pub opening : ImageValue → ℕ → ℕ
opening image address = quad_of (λ at. byte_in image (address + at))
