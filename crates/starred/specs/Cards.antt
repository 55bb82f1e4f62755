-- Small images and clusters for the table, in the writer's bytes.
use Rattle.std.specs.Prelude.{ℕ, [], ◌∷◌, ◌++◌, replicate}
use Rattle.slices.specs.Parts.{Bytes}
use Rattle.record.specs.declared.Shape.{Shape}
use Rattle.record.specs.Layout.{header_bytes, record_bytes, blank_record, entry_bytes, fresh_entry}
use Rattle.protocol.specs.Call.{Numbers}

-- 240 and 34 bytes that nobody writes
unfoldable pub noise : Bytes
noise = replicate 240 9

unfoldable pub scratch : Bytes
scratch = replicate 34 9

-- n replicas with one slot and with two
abbrev pub with_one : ℕ → Shape
with_one n = record { n = n; m = 1; edition = 1; witnesses = 0 }

abbrev pub with_two : ℕ → Shape
with_two n = record { n = n; m = 2; edition = 1; witnesses = 0 }

-- slot k under epoch e, as written
unfoldable pub whole : ℕ → ℕ → Bytes
whole e k = entry_bytes e k (65 ∷ [])

-- an image of one slot and one of two, of replica 1 of 3
unfoldable pub one : Bytes → Bytes → Bytes
one r x = header_bytes (with_one 3) 1 1 ++ (r ++ x)

unfoldable pub two : Bytes → Bytes → Bytes → Bytes → Bytes
two r s x y = header_bytes (with_two 3) 1 1 ++ (r ++ (s ++ (x ++ y)))

-- the image of replica c of n, with one slot, under epoch 2: its entry is noise; it has it; it does not
unfoldable pub faulty_of : ℕ → ℕ → Bytes
faulty_of n c = header_bytes (with_one n) c 1 ++ (record_bytes 2 1 ++ noise)

unfoldable pub has_of : ℕ → ℕ → Bytes
has_of n c = header_bytes (with_one n) c 1 ++ (record_bytes 2 1 ++ whole 2 1)

unfoldable pub lacks_of : ℕ → ℕ → Bytes
lacks_of n c = header_bytes (with_one n) c 1 ++ (blank_record ++ fresh_entry)

-- of 5
abbrev pub faulty : ℕ → Bytes
faulty = faulty_of 5

abbrev pub has : ℕ → Bytes
has = has_of 5

abbrev pub lacks : ℕ → Bytes
lacks = lacks_of 5

-- five replicas with one slot, leader 1, and this present set
abbrev pub five : ℕ → Numbers
five present = record { shape = with_one 5; leader = 1; present = present }
