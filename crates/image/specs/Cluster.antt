-- Document 01's fleet: n images of m slots end to end in one buffer. Replicas count from 0 here: replica c has number c + 1.
use Rattle.std.specs.Prelude.{ℕ, suc}
use Rattle.search.specs.Search.{sum, joined}
use Rattle.slices.specs.Parts.{Bytes, part}
use Rattle.record.specs.declared.Shape.{Shape}
use Rattle.image.specs.Image.{Image, image_size, decode_under, first_in, decode_image, encode_image}

abbrev pub Cluster : Type 0
Cluster = ℕ → Image

-- where the image of replica c begins, behind those before it; and where n of them end
unfoldable pub image_at : Shape → ℕ → ℕ
image_at Z c = sum (λ d. image_size Z (suc d)) c

-- the bytes of replica c
unfoldable pub image_part : Shape → Bytes → ℕ → Bytes
image_part Z b c = part b (image_at Z c) (image_size Z (suc c))

-- the index that its log begins at
unfoldable pub first_at : Shape → Bytes → ℕ → ℕ
first_at Z b c = first_in Z (suc c) (image_part Z b c)

unfoldable pub decode : Shape → Bytes → Cluster
decode Z b c = decode_image Z (suc c) (image_part Z b c)

-- under indices that are given, for what demand 3 supposes of logs whose headers may be damaged
unfoldable pub decode_with : Shape → (ℕ → ℕ) → Bytes → Cluster
decode_with Z firsts b c = decode_under Z (suc c) (firsts c) (image_part Z b c)

unfoldable pub encode : Shape → Cluster → Bytes
encode Z F = joined Z.n (λ c. encode_image Z (suc c) (F c))
