-- Three clusters before their damage, taken apart. Epoch 2 wrote payloads A, B and C.
use Rattle.std.specs.Prelude.{zero, suc, cond, List, [], ◌∷◌, ltb, get_or, replicate}
use Rattle.slices.specs.Parts.{Bytes}
use Rattle.record.specs.Layout.{fresh_entry}
use Rattle.record.specs.Meaning.{proper, Record, good, blank, Entry, intact, broken}
use Rattle.image.specs.Image.{Image}
use Rattle.image.specs.Cluster.{Cluster}

unfoldable pub payload_a : Bytes
payload_a = 65 ∷ []

unfoldable pub payload_b : Bytes
payload_b = 66 ∷ []

unfoldable pub payload_c : Bytes
payload_c = 67 ∷ []

-- 240 bytes that are no intact entry
unfoldable pub noise : Bytes
noise = replicate 240 9

-- an image with these records and entries; what is not listed is blank and fresh
unfoldable pub image_with : List Record → List Entry → Image
image_with rs xs = record { header = proper 1; records = λ k. get_or rs k blank; entries = λ k. get_or xs k (broken fresh_entry) }

-- A and B, and C in flight: its record is there, and its entry was torn
unfoldable pub leader_image : Image
leader_image = image_with (good 2 ∷ good 2 ∷ good 2 ∷ []) (intact 2 payload_a ∷ intact 2 payload_b ∷ broken noise ∷ [])

unfoldable pub image_ab : Image
image_ab = image_with (good 2 ∷ good 2 ∷ []) (intact 2 payload_a ∷ intact 2 payload_b ∷ [])

unfoldable pub empty_image : Image
empty_image = image_with [] []

-- A, and B and C in flight: of these only C's record is there
unfoldable pub gap_image : Image
gap_image = image_with (good 2 ∷ blank ∷ good 2 ∷ []) (intact 2 payload_a ∷ [])

unfoldable pub image_a : Image
image_a = image_with (good 2 ∷ []) (intact 2 payload_a ∷ [])

-- the five
unfoldable pub undamaged_five : Cluster
undamaged_five zero = leader_image
undamaged_five (suc zero) = image_ab
undamaged_five (suc (suc zero)) = empty_image
undamaged_five (suc (suc (suc zero))) = image_ab
undamaged_five (suc (suc (suc (suc c)))) = gap_image

-- three with one slot each: A on all
unfoldable pub undamaged_three : Cluster
undamaged_three c = image_a

-- four with one slot each: A on three of them
unfoldable pub undamaged_four : Cluster
undamaged_four c = cond (ltb c 3) image_a empty_image
