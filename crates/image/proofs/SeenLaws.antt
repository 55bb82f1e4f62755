-- What the view of an image tells its caller.
use Prim.Native.Nat.{ℕ}
use mathlib.Core.Path.{◌≡◌, refl, sym, ap, ◌∙◌}
use mathlib.Core.Bool.{true, false}
use mathlib.Core.List.{List}
use native.Mathlib.Omega.{arith}
use lib.ListN.{take}
use Rattle.std.specs.Prelude.{Option, Some, None}
use Rattle.slices.specs.Parts.{Bytes}
use Rattle.slices.proofs.PartLaws.{part_take}
use Rattle.record.specs.declared.Shape.{Shape}
use Rattle.record.specs.Layout.{header_size}
use Rattle.record.specs.Meaning.{Header, proper, improper, first_index, read_header}
use Rattle.record.specs.Judged.{header_answer}
use Rattle.image.specs.Refusal.{refuse, ◌else◌}
use Rattle.search.specs.Search.{listed}
use Rattle.image.specs.Image.{Image, decode_under, first_in, decode_image}
use Rattle.image.specs.View.{is_proper, image_refusal, log_length}
use Rattle.image.specs.declared.condition.Slot.{Slot}
use Rattle.image.specs.Seen.{slot_of, Seen}
use Rattle.image.specs.Scan.{Scanned, length_in, scan_refusal}
use Rattle.image.proofs.ScannedLaws.{length_scanned, refusal_scanned}
use Rattle.image.proofs.DecodeLaws.{first_is}

-- a header's answer that has no first index is none
pub is_improper : (a : Option ℕ) → ((first : ℕ) → a ≡ Some first → ⊥) → a ≡ None
is_improper (Some first) h = absurd (h first refl)
is_improper None h = refl

-- what each answer of the judge says of a header
answered_improper : (h : Header) {a : Option ℕ} → a ≡ header_answer h → a ≡ None → is_proper h ≡ false
unfolding header_answer is_proper
answered_improper (proper f) e q = absurd (let z : ◌≡◌ {A = ℕ} 0 1 = cc in omega arith)
answered_improper (improper b) e q = refl

answered_proper : (h : Header) {a : Option ℕ} {first : ℕ} → a ≡ header_answer h → a ≡ Some first → is_proper h ≡ true
unfolding header_answer is_proper
answered_proper (proper f) e q = refl
answered_proper (improper b) e q = absurd (let z : ◌≡◌ {A = ℕ} 0 1 = cc in omega arith)

answered_first : (h : Header) {a : Option ℕ} {first : ℕ} → a ≡ header_answer h → a ≡ Some first → first ≡ first_index h
unfolding header_answer first_index
answered_first (proper f) {a} {first} e q = let z : first ≡ f = cc in z
answered_first (improper b) e q = absurd (let z : ◌≡◌ {A = ℕ} 0 1 = cc in omega arith)

module _ (Z : Shape) (c : ℕ) (b : Bytes) {a : Option ℕ} (e : a ≡ header_answer (read_header Z c (take (header_size Z) b))) where
  header_is : read_header Z c (take (header_size Z) b) ≡ (decode_image Z c b).header
  unfolding decode_image decode_under
  header_is = rw part_take

  judged : a ≡ header_answer (decode_image Z c b).header
  judged = e ∙ ap header_answer header_is

  -- refusal 4 comes first
  pub view_improper : a ≡ None → 4 ≡ image_refusal Z.m (decode_image Z c b)
  unfolding image_refusal refuse ◌else◌
  view_improper q = sym (rw (answered_improper (decode_image Z c b).header judged q))

  -- else the image is taken apart under the index that its header gives, and the scan decides
  module _ {first : ℕ} (q : a ≡ Some first) where
    pub view_first : first ≡ first_in Z c b
    view_first = answered_first (decode_image Z c b).header judged q ∙ first_is Z c b

    view_under : decode_under Z c first b ≡ decode_image Z c b
    unfolding decode_image
    view_under = ap (λ (z : ℕ). decode_under Z c z b) view_first

    module _ {slots : List Slot} (s : Scanned Z.m (decode_under Z c first b) slots) {len : ℕ} (l : len ≡ length_in (take Z.m slots)) where
      scanned_slots : take Z.m slots ≡ listed Z.m (slot_of (decode_image Z c b))
      scanned_slots = s.slots_are ∙ ap (λ (i : Image). listed Z.m (slot_of i)) view_under

      length_is : len ≡ log_length Z.m (decode_image Z c b)
      length_is = l ∙ ap length_in scanned_slots ∙ length_scanned Z.m (decode_image Z c b)

      pub view_scanned : {refusal : ℕ} → refusal ≡ scan_refusal len (take Z.m slots) → refusal ≡ image_refusal Z.m (decode_image Z c b)
      unfolding image_refusal refuse ◌else◌
      view_scanned r =
          r ∙ ap (scan_refusal len) scanned_slots ∙ refusal_scanned Z.m (decode_image Z c b) len length_is
          ∙ sym (rw (answered_proper (decode_image Z c b).header judged q))

      pub view_seen : Seen Z.m (decode_image Z c b) first len slots
      view_seen = record {
        first_is = view_first ∙ sym (first_is Z c b);
        length_is = length_is;
        slots_are = scanned_slots;
      }
