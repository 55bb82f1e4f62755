-- The verdicts of an image's slots, as they are worked out and filled in.
use Prim.Native.Nat.{ℕ, suc, ◌+◌, ◌-◌, ◌≤◌, ◌<◌}
use mathlib.Core.Path.{◌≡◌, refl, sym, ◌∙◌}
use mathlib.Core.Bool.{Bool, true, false}
use mathlib.Core.List.{List}
use native.Mathlib.Omega.{arith}
use lib.ListN.{length, take, drop, set, replicate}
use denote.Enum.Declared.{tag_of}
use borrow.Author.Tests.{eq-eqb, ne_eqb}
use Rattle.search.specs.Search.{listed}
use Rattle.std.specs.Prelude.{Option, Some, None}
use Rattle.slices.specs.Parts.{Bytes, part}
use Rattle.slices.specs.Same.{same}
use Rattle.slices.proofs.SameLaws.{and_off, same_differs}
use Rattle.slices.proofs.PartLaws.{length_part}
use Rattle.slices.proofs.SpliceLaws.{part_lent}
use Rattle.record.specs.declared.Shape.{Shape}
use Rattle.record.specs.Layout.{is_witness, fresh_entry}
use Rattle.record.specs.Meaning.{Entry, intact, broken, read_entry}
use Rattle.record.specs.Exactly.{EntryIs}
use Rattle.record.specs.Judged.{entry_answer}
use Rattle.record.specs.declared.Intact.{Intact}
use Rattle.record.proofs.EntryLaws.{entry_is, fresh_not_intact}
use Rattle.image.specs.Image.{Image, entry_at, index, decode_under}
use Rattle.image.specs.declared.condition.Condition.TheVariants.{Unused, Faulty}
use Rattle.image.specs.declared.condition.Slot.{Slot}
use Rattle.image.specs.Seen.{slot_of, slot_in}
use Rattle.image.specs.contracts.verdict.Verdict.{the_type}
use Rattle.image.specs.declared.verdict.Verdict.{Verdict}
use Rattle.image.specs.declared.verdict.Verdict.TheVariants as verdict
use Rattle.image.specs.Verdict.{is_fresh, verdict_number, verdict_of, verdict_at}
use Rattle.image.specs.Scan.{Marked}
use Rattle.image.specs.Read.{verdicts_of}
use Rattle.image.proofs.DecodeLaws.{entry_under, entry_ends}
use Rattle.image.proofs.ScannedLaws.{taken_at}
use Rattle.image.proofs.SlotLaws.{apart, list_more, list_end}

-- ---- a fresh entry

pub fresh_is : (k : ℕ) (s : Bytes) → is_fresh (read_entry k s) ≡ same s fresh_entry
unfolding is_fresh
fresh_is k s = go (read_entry k s) (entry_is k s)
  where
    go : (x : Entry) → EntryIs k s x → is_fresh x ≡ same s fresh_entry
    go (intact e p) i = sym (same_differs s fresh_entry (λ q. fresh_not_intact k e p (rw q at i)))
    go (broken z) h = rw h.0

module _ (Z : Shape) (first : ℕ) (b : Bytes) (k : ℕ) (size : entry_at Z Z.m ≤ length b) {at : ℕ} (place : at ≡ entry_at Z k) where
  pub fresh_judged : {t : Bool} → t ≡ same (take (at + 240 - at) (drop at b)) (replicate (length (take (at + 240 - at) (drop at b))) 32)
      → (c : ℕ) → is_witness Z c ≡ false → k < Z.m → t ≡ is_fresh ((decode_under Z c first b).entries k)
  unfolding fresh_entry
  fresh_judged e c card h =
      let l : length (part b at 240) ≡ 240 = length_part b at 240 (omega (arith, entry_ends Z k h)) in
      let q : same (take (at + 240 - at) (drop at b)) (replicate (length (take (at + 240 - at) (drop at b))) 32) ≡ is_fresh ((decode_under Z c first b).entries k)
      = rw (part_lent b at 240, l, entry_under Z c first b k card h, ← place) (sym (fresh_is (index first k) (part b at 240))) in
      e ∙ q

-- ---- the verdict of a slot

module _ (k used : ℕ) (entry : Option Intact) where
  -- what is said of the verdict of a slot whose record is good, and whose entry is not intact with its epoch
  abbrev FaultyIs : ℕ → Type 0
  FaultyIs v = (x : Entry) → entry ≡ entry_answer x → v ≡ verdict_of used k Faulty x

  pub faulty_stale : {i : Intact} → entry ≡ Some i → FaultyIs 6
  unfolding verdict_of entry_answer
  faulty_stale h (intact f p) q = refl
  faulty_stale h (broken b) q = absurd (apart h q)

  pub faulty_last : entry ≡ None → k + 1 ≡ used → FaultyIs 4
  unfolding verdict_of entry_answer
  faulty_last h l (intact f p) q = absurd (apart q h)
  faulty_last h l (broken b) q = sym (rw (eq-eqb (suc k) used (omega arith)))

  pub faulty_damaged : entry ≡ None → ¬ (k + 1 ≡ used) → FaultyIs 3
  unfolding verdict_of entry_answer
  faulty_damaged h l (intact f p) q = absurd (apart q h)
  faulty_damaged h l (broken b) q = sym (rw (ne_eqb (suc k) used (λ z. l (omega arith))))

module _ (k used : ℕ) (x : Entry) where
  -- what is said of the verdict of a slot whose record is blank
  abbrev UnusedIs : ℕ → Type 0
  UnusedIs v = v ≡ verdict_of used k Unused x

  pub unused_beyond : ¬ (k ≡ used) → UnusedIs 0
  unfolding verdict_of
  unused_beyond l = sym (rw (ne_eqb k used l))

  pub unused_fresh : {t : Bool} → t ≡ is_fresh x → t ≡ true → UnusedIs 0
  unfolding verdict_of
  unused_fresh e t = sym (rw (← e, t, and_off))

  pub unused_unfinished : {t : Bool} → t ≡ is_fresh x → k ≡ used → t ≡ false → UnusedIs 5
  unfolding verdict_of
  unused_unfinished e l t = sym (rw (eq-eqb k used l, ← e, t))

-- a verdict as a byte is its number
pub verdict_byte : (v : Verdict) → tag_of the_type v ≡ verdict_number v
verdict_byte verdict.Unused = refl
verdict_byte verdict.Whole = refl
verdict_byte verdict.RecordLost = refl
verdict_byte verdict.Corrupt = refl
verdict_byte verdict.Ambiguous = refl
verdict_byte verdict.Partial = refl
verdict_byte verdict.Stale = refl

-- ---- the slots one after another

module _ (m : ℕ) (i : Image) (used : ℕ) (slots : List Slot) (s : Marked m i used slots) where
  pub verdict_here : (k : ℕ) {v : ℕ} → k < m → v ≡ verdict_of used k (slot_in slots k).condition (i.entries k) → v ≡ verdict_at m i k
  unfolding verdict_at
  verdict_here k h e =
      e ∙ rw (taken_at m (slot_of i) slots (record { condition = Unused; epoch = 0 }) s.slots_are k h, s.length_is)

pub verdicts_more : (m : ℕ) (i : Image) (used : ℕ) (slots : List Slot) (k v : ℕ) (vs : List ℕ) → k < m → k < length vs
    → v ≡ verdict_of used k (slot_in slots k).condition (i.entries k) → (Marked m i used slots → take k vs ≡ listed k (verdict_at m i))
    → Marked m i used slots → take (k + 1) (set vs k v) ≡ listed (k + 1) (verdict_at m i)
verdicts_more m i used slots k v vs h l f e s = list_more (verdict_at m i) k v vs l (e s) (verdict_here m i used slots s k h f)

pub verdicts_end : (m : ℕ) (i : Image) (k : ℕ) (vs : List ℕ) → k ≡ m → length vs ≤ k → take k vs ≡ listed k (verdict_at m i) → vs ≡ verdicts_of m i
unfolding verdicts_of
verdicts_end m i k vs h l e = list_end (verdict_at m i) k m vs h l e
