-- Where the flow of an image starts.
use Rattle.std.specs.Prelude.{ℕ, List, map, ◌++◌}
use Rattle.image_file.specs.declared.image.Image.{Image}
use Rattle.image_file.specs.declared.image.Start.{Start}

-- the addresses of the threads, the entries of the image, and the hints
abbrev pub starts : Image → List ℕ → List ℕ
starts image hints = map (λ (thread : Start). thread.pc) image.threads ++ image.entries ++ hints
