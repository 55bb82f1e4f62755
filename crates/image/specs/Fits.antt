-- For proofs only. Where an image lies in a cluster's buffer.
use Rattle.std.specs.Prelude.{ℕ, suc, ◌+◌, ◌≤◌}
use Rattle.record.specs.declared.Shape.{Shape}
use Rattle.image.specs.Image.{image_size}
use Rattle.image.specs.Cluster.{image_at}

-- the image of replica c lies in a buffer of so many bytes
abbrev pub ImageFits : Shape → ℕ → ℕ → Type 0
ImageFits Z size c = image_at Z c + image_size Z (suc c) ≤ size
