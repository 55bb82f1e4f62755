-- Whether a slot has a payload, and where it stands.
use Prim.Native.Nat.{ℕ, ◌+◌, ◌-◌, ◌≤◌, ◌<◌}
use mathlib.Core.Path.{◌≡◌, refl, sym, ap, ◌∙◌}
use mathlib.Core.Bool.{Bool, true, false, not, ◌&&◌}
use mathlib.Core.List.{List}
use native.Mathlib.Omega.{arith}
use lib.Dec.{eqb, leb}
use lib.ListN.{length}
use borrow.Author.Tests.{ne_eqb, le-leb, lt-leb, leb-true, not-true}
use Rattle.std.specs.Prelude.{Option, Some, None}
use Rattle.slices.specs.Parts.{Bytes, part}
use Rattle.slices.proofs.SameLaws.{and_left, and_right, and_off, clash}
use Rattle.slices.proofs.PartLaws.{part_part}
use Rattle.record.specs.declared.Shape.{Shape}
use Rattle.record.specs.Layout.{is_witness}
use Rattle.record.specs.Meaning.{Record, good, blank, bad, Entry, intact, broken, read_entry, entry_payload}
use Rattle.record.specs.Exactly.{IntactFor}
use Rattle.record.specs.Judged.{entry_answer}
use Rattle.record.specs.declared.Intact.{Intact}
use Rattle.record.proofs.EntryLaws.{intact_for, intact_payload, intact_part}
use Rattle.image.specs.Image.{Image, index, entry_at, decode_under, decode_image}
use Rattle.image.specs.View.{condition, condition_at, card_refusal}
use Rattle.image.specs.declared.condition.Condition.TheVariants.{Unused}
use Rattle.search.specs.Search.{listed}
use Rattle.search.proofs.ListedLaws.{length_listed, get_d_listed}
use Rattle.image.specs.declared.condition.Slot.{Slot}
use Rattle.image.specs.Seen.{slot_of, slot_in}
use Rattle.image.specs.Scan.{SpanIn}
use Rattle.image.specs.Read.{is_whole, has_payload, payload_of, payload_at}
use Rattle.image.specs.Answers.{value, numbered}
use Rattle.image.proofs.DecodeLaws.{entry_under, entry_ends}

-- ---- whether there is a payload

module _ (slot : ℕ) (slots : List Slot) (m : ℕ) (i : Image) (e : slots ≡ listed m (slot_of i)) where
  as_many : length slots ≡ m
  as_many = ap length e ∙ length_listed m (slot_of i)

  pub whole_low : slot < 1 → false ≡ has_payload m i slot
  unfolding has_payload
  whole_low h = sym (rw (lt-leb 1 slot h))

  pub whole_high : length slots < slot → false ≡ has_payload m i slot
  unfolding has_payload
  whole_high h = sym (rw (lt-leb slot m (omega (arith, as_many, h))) (simp and_off))

  pub whole_at : 1 ≤ slot → slot ≤ length slots → has_payload m i slot ≡ is_whole (slot_in slots (slot - 1)).condition
  unfolding has_payload
  whole_at lo hi =
      let below : slot - 1 < m = omega (arith, as_many, lo, hi) in
      let there : slot_in slots (slot - 1) ≡ slot_of i (slot - 1)
      = ap (λ (z : List Slot). slot_in z (slot - 1)) e ∙ get_d_listed m (slot_of i) (slot - 1) (record { condition = Unused; epoch = 0 }) below in
      rw (le-leb 1 slot lo, le-leb slot m (omega (arith, as_many, hi)), there)

module _ (m slot : ℕ) (i : Image) (h : has_payload m i slot ≡ true) where
  within : leb 1 slot && leb slot m ≡ true
  unfolding has_payload
  within = and_left (leb 1 slot && leb slot m) (is_whole (condition_at i (slot - 1))) h

  pub has_low : 1 ≤ slot
  has_low = leb-true 1 slot (and_left (leb 1 slot) (leb slot m) within)

  pub has_below : slot - 1 < m
  has_below = omega (arith, has_low, leb-true slot m (and_right (leb 1 slot) (leb slot m) within))

  pub has_whole : is_whole (condition_at i (slot - 1)) ≡ true
  unfolding has_payload
  has_whole = and_right (leb 1 slot && leb slot m) (is_whole (condition_at i (slot - 1))) h

pub payload_answered : {q : ℕ} {t has : Bool} → 0 ≡ q → t ≡ has → value t ≡ numbered q has
unfolding numbered
payload_answered e s = sym (rw (← e, ← s))

-- ---- where a payload stands

-- a whole slot's entry is intact
whole_intact : (r : Record) (x : Entry) → is_whole (condition r x) ≡ true → entry_answer x ≡ None → ⊥
unfolding is_whole condition entry_answer
whole_intact r (intact e p) h q = let z : ◌≡◌ {A = ℕ} 0 1 = cc in omega arith
whole_intact (good e) (broken b) h q = clash h refl
whole_intact blank (broken b) h q = clash h refl
whole_intact (bad d) (broken b) h q = clash h refl

-- an intact entry as the judge answers it
intact_found : (k : ℕ) (s : Bytes) (n : Intact) → Some n ≡ entry_answer (read_entry k s) → (n.size ≤ 200) × (entry_payload s ≡ part s 26 n.size)
unfolding entry_answer
intact_found k s n h = go (read_entry k s) refl h
  where
    go : (x : Entry) → read_entry k s ≡ x → Some n ≡ entry_answer x → (n.size ≤ 200) × (entry_payload s ≡ part s 26 n.size)
    go (intact f p) q g =
        let i : IntactFor k f p s = intact_for k s f p q in
        let y : n ≡ record { epoch = f; size = length p } = cc in
        let z : n.size ≡ length p = ap (λ (w : Intact). w.size) y in
        (omega (arith, i.short), intact_payload k f p s i ∙ sym (rw z (intact_part k f p s i)))
    go (broken z) q g = absurd (let y : ◌≡◌ {A = ℕ} 0 1 = cc in omega arith)

module _ (Z : Shape) (first : ℕ) (b : Bytes) (k : ℕ) (h : k < Z.m) (a : Option Intact) (there : (c : ℕ) → is_witness Z c ≡ false → a ≡ entry_answer ((decode_under Z c first b).entries k)) where
  pub span_none : a ≡ None → (c : ℕ) → is_witness Z c ≡ false → is_whole (condition_at (decode_under Z c first b) k) ≡ true
      → (part b 0 (0 - 0) ≡ entry_payload (part b (entry_at Z k) 240)) × (0 ≡ entry_at Z k + 26)
  unfolding condition_at
  span_none q c card w = absurd (whole_intact ((decode_under Z c first b).records k) ((decode_under Z c first b).entries k) w (sym (there c card) ∙ q))

  -- no witness has number 0
  none : is_witness Z 0 ≡ false
  unfolding is_witness
  none = refl

  module _ {n : Intact} (q : a ≡ Some n) where
    found : (n.size ≤ 200) × (entry_payload (part b (entry_at Z k) 240) ≡ part (part b (entry_at Z k) 240) 26 n.size)
    found = intact_found (index first k) (part b (entry_at Z k) 240) n (sym q ∙ there 0 none ∙ ap entry_answer (entry_under Z 0 first b k none h))

    pub span_short : n.size ≤ 200
    span_short = found.0

    module _ {at : ℕ} (place : at ≡ entry_at Z k + 26) where
      pub span_fits : entry_at Z Z.m ≤ length b → at + n.size ≤ length b
      span_fits size = omega (arith, entry_ends Z k h, span_short)

      pub span_there : (part b at (at + n.size - at) ≡ entry_payload (part b (entry_at Z k) 240)) × (at ≡ entry_at Z k + 26)
      span_there =
          let z : at + n.size - at ≡ n.size = omega arith in
          (rw (z, place) (sym (found.1 ∙ part_part b (entry_at Z k) 240 26 n.size (omega (arith, span_short)))), place)

pub span_empty : (size : ℕ) → SpanIn size 0 0
span_empty size = record { ordered = omega arith; within = omega arith }

module _ (Z : Shape) (c : ℕ) (b : Bytes) (slot r : ℕ) (e : r ≡ card_refusal Z c b) where
  pub no_payload_refused : ¬ (r ≡ 0) → (part b 0 (0 - 0) ≡ payload_of Z c b slot) × (0 ≡ payload_at Z c b slot)
  unfolding payload_of payload_at part
  no_payload_refused h = (sym (rw (← e, ne_eqb r 0 h)), sym (rw (← e, ne_eqb r 0 h)))

  pub no_payload : (t : Bool) → t ≡ has_payload Z.m (decode_image Z c b) slot → not t ≡ true
      → (part b 0 (0 - 0) ≡ payload_of Z c b slot) × (0 ≡ payload_at Z c b slot)
  unfolding payload_of payload_at part
  no_payload t s u = (sym (rw (← s, not-true t u, and_off (eqb (card_refusal Z c b) 0))), sym (rw (← s, not-true t u, and_off (eqb (card_refusal Z c b) 0))))

  pub payload_there : r ≡ 0 → has_payload Z.m (decode_image Z c b) slot ≡ true → (p : Bytes) {a : ℕ}
      → (p ≡ entry_payload (part b (entry_at Z (slot - 1)) 240)) × (a ≡ entry_at Z (slot - 1) + 26)
      → (p ≡ payload_of Z c b slot) × (a ≡ payload_at Z c b slot)
  unfolding payload_of payload_at
  payload_there h s p (q, z) = (q ∙ sym (rw (← e, h, s)), z ∙ sym (rw (← e, h, s)))
