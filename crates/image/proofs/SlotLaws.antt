-- One slot of the scan: what its record and its entry are found to be gives its condition and its epoch.
use Prim.Native.Nat.{ℕ, ◌+◌, ◌-◌, ◌≤◌, ◌<◌}
use mathlib.Core.Path.{◌≡◌, refl, sym, ap, ◌∙◌}
use mathlib.Core.Bool.{true, false}
use mathlib.Core.List.{List, []}
use native.Mathlib.Omega.{arith}
use native.Mathlib.Numerals.{add-one}
use lib.ListN.{length, take, drop, set}
use lib.Seq.{take-suc-set, take_all}
use borrow.Author.Tests.{eq-eqb, ne_eqb}
use Rattle.search.specs.Search.{listed}
use Rattle.std.specs.Prelude.{Option, Some, None}
use Rattle.slices.specs.Parts.{Bytes}
use Rattle.slices.proofs.SpliceLaws.{part_lent}
use Rattle.record.specs.declared.Shape.{Shape}
use Rattle.record.specs.Layout.{is_witness}
use Rattle.record.specs.Meaning.{Record, good, blank, bad, Entry, intact, broken, read_record, read_entry}
use Rattle.record.specs.Judged.{record_answer, entry_answer}
use Rattle.record.specs.declared.RecordState.{RecordState}
use Rattle.record.specs.declared.RecordState.TheVariants.{Good, Blank, Bad}
use Rattle.record.specs.declared.Intact.{Intact}
use Rattle.image.specs.Image.{Image, index, record_at, entry_at, decode_under}
use Rattle.image.specs.View.{condition, epoch_of, condition_at, epoch_at}
use Rattle.image.specs.declared.condition.Condition.{Condition}
use Rattle.image.specs.declared.condition.Condition.TheVariants.{Unused, Whole, RecordLost, Faulty, Lost}
use Rattle.image.specs.declared.condition.Slot.{Slot}
use Rattle.image.specs.Seen.{slot_of}
use Rattle.image.specs.Scan.{SlotIs, Scanned}
use Rattle.image.proofs.DecodeLaws.{record_under, entry_under, none_under}

-- ---- the parts of the image that are judged

module _ (Z : Shape) (first : ℕ) (b : Bytes) (k : ℕ) (h : k < Z.m) {at j : ℕ} (q : j ≡ index first k) where
  pub record_judged : at ≡ record_at Z k → {a : RecordState} → a ≡ record_answer (read_record j (take (at + 34 - at) (drop at b)))
      → (c : ℕ) → a ≡ record_answer ((decode_under Z c first b).records k)
  record_judged p e c = e ∙ rw (q, part_lent b at 34, record_under Z c first b k h, p)

  pub entry_judged : at ≡ entry_at Z k → {a : Option Intact} → a ≡ entry_answer (read_entry j (take (at + 240 - at) (drop at b)))
      → (c : ℕ) → is_witness Z c ≡ false → a ≡ entry_answer ((decode_under Z c first b).entries k)
  entry_judged p e c card = e ∙ rw (q, part_lent b at 240, entry_under Z c first b k card h, p)

-- a witness has no entry, and so none that is intact
pub entry_none : (Z : Shape) (c first : ℕ) (b : Bytes) (k : ℕ) {a : Option Intact} → is_witness Z c ≡ true → a ≡ None → a ≡ entry_answer ((decode_under Z c first b).entries k)
unfolding entry_answer
entry_none Z c first b k witness h = h ∙ sym (rw (none_under Z c first b k witness))

-- ---- a good record

-- no entry is both
pub apart : {a : Option Intact} {i : Intact} → a ≡ Some i → a ≡ None → ⊥
apart p q = let z : ◌≡◌ {A = ℕ} 0 1 = cc in omega arith

-- a slot as it is found
abbrev pub slot : Condition → ℕ → Slot
slot a e = record { condition = a; epoch = e }

pub good_broken : (e : ℕ) {a : Option Intact} → a ≡ None → (x : Entry) → a ≡ entry_answer x → SlotIs (good e) x (slot Faulty e)
unfolding entry_answer condition epoch_of
good_broken e q (intact f p) h = absurd (apart h q)
good_broken e q (broken b) h = record { condition_is = refl; epoch_is = refl }

pub good_same : (e : ℕ) {a : Option Intact} {i : Intact} → a ≡ Some i → i.epoch ≡ e → (x : Entry) → a ≡ entry_answer x → SlotIs (good e) x (slot Whole e)
unfolding entry_answer condition epoch_of
good_same e {a} {i} q s (intact f p) h =
    let y : i ≡ record { epoch = f; size = length p } = cc in
    let z : e ≡ f = sym s ∙ ap (λ (w : Intact). w.epoch) y in
    record { condition_is = sym (rw (eq-eqb e f z)); epoch_is = refl }
good_same e q s (broken b) h = absurd (apart q h)

pub good_other : (e : ℕ) {a : Option Intact} {i : Intact} → a ≡ Some i → ¬ (i.epoch ≡ e) → (x : Entry) → a ≡ entry_answer x → SlotIs (good e) x (slot Faulty e)
unfolding entry_answer condition epoch_of
good_other e {a} {i} q s (intact f p) h =
    let y : i ≡ record { epoch = f; size = length p } = cc in
    record { condition_is = sym (rw (ne_eqb e f (λ z. s (ap (λ (w : Intact). w.epoch) y ∙ sym z)))); epoch_is = refl }
good_other e q s (broken b) h = absurd (apart q h)

-- ---- a bad record

pub bad_broken : {a : Option Intact} → a ≡ None → (b : Bytes) (x : Entry) → a ≡ entry_answer x → SlotIs (bad b) x (slot Lost 0)
unfolding entry_answer condition epoch_of
bad_broken q b (intact f p) h = absurd (apart h q)
bad_broken q b (broken d) h = record { condition_is = refl; epoch_is = refl }

pub bad_intact : {a : Option Intact} {i : Intact} → a ≡ Some i → (b : Bytes) (x : Entry) → a ≡ entry_answer x → SlotIs (bad b) x (slot RecordLost i.epoch)
unfolding entry_answer condition epoch_of
bad_intact {a} {i} q b (intact f p) h =
    let y : i ≡ record { epoch = f; size = length p } = cc in
    record { condition_is = refl; epoch_is = ap (λ (w : Intact). w.epoch) y }
bad_intact q b (broken d) h = absurd (apart q h)

-- ---- any record

pub slot_good : {a : RecordState} {e : ℕ} (r : Record) (x : Entry) (v : Slot) → a ≡ Good e → a ≡ record_answer r
    → SlotIs (good e) x v → SlotIs r x v
unfolding record_answer
slot_good {a} {e} (good f) x v q h s = let z : e ≡ f = cc in rw z at s
slot_good blank x v q h s = absurd (let z : ◌≡◌ {A = ℕ} 0 1 = cc in omega arith)
slot_good (bad b) x v q h s = absurd (let z : ◌≡◌ {A = ℕ} 0 1 = cc in omega arith)

pub slot_blank : {a : RecordState} (r : Record) (x : Entry) → a ≡ Blank → a ≡ record_answer r → SlotIs r x (slot Unused 0)
unfolding record_answer condition epoch_of
slot_blank (good f) x q h = absurd (let z : ◌≡◌ {A = ℕ} 0 1 = cc in omega arith)
slot_blank blank x q h = record { condition_is = refl; epoch_is = refl }
slot_blank (bad b) x q h = absurd (let z : ◌≡◌ {A = ℕ} 0 1 = cc in omega arith)

-- a record with neither of the two tags is bad
pub is_bad : (a : RecordState) → ((e : ℕ) → a ≡ Good e → ⊥) → (a ≡ Blank → ⊥) → a ≡ Bad
is_bad (Good e) h k = absurd (h e refl)
is_bad Blank h k = absurd (k refl)
is_bad Bad h k = refl

pub slot_bad : {a : RecordState} (r : Record) (x : Entry) (v : Slot) → a ≡ Bad → a ≡ record_answer r
    → ((b : Bytes) → SlotIs (bad b) x v) → SlotIs r x v
unfolding record_answer
slot_bad (good f) x v q h s = absurd (let z : ◌≡◌ {A = ℕ} 0 1 = cc in omega arith)
slot_bad blank x v q h s = absurd (let z : ◌≡◌ {A = ℕ} 0 1 = cc in omega arith)
slot_bad (bad b) x v q h s = s b

-- ---- a list that is filled from the front

pub list_start : {A : Type 0} (f : ℕ → A) → [] ≡ listed 0 f
unfolding listed
list_start f = refl

pub list_more : {A : Type 0} (f : ℕ → A) (k : ℕ) (v : A) (l : List A) → k < length l → take k l ≡ listed k f → v ≡ f k → take (k + 1) (set l k v) ≡ listed (k + 1) f
unfolding listed
list_more f k v l h e q = rw (add-one, take-suc-set l k v h, e, q)

pub list_end : {A : Type 0} (f : ℕ → A) (k m : ℕ) (l : List A) → k ≡ m → length l ≤ k → take k l ≡ listed k f → l ≡ listed m f
list_end f k m l h n e = sym (take_all k l n) ∙ e ∙ rw h

-- ---- the slots one after another

pub scan_start : (i : Image) (slots : List Slot) → Scanned 0 i slots
unfolding listed
scan_start i slots = record { slots_are = refl }

-- a slot by its fields
pub slot_is : (v : Slot) {a : Condition} {e : ℕ} → v.condition ≡ a → v.epoch ≡ e → v ≡ slot a e
slot_is v p q = rw (← p, ← q) refl

pub scan_more : (i : Image) (slots : List Slot) (k : ℕ) (v : Slot) → k < length slots → Scanned k i slots
    → SlotIs (i.records k) (i.entries k) v → Scanned (k + 1) i (set slots k v)
unfolding condition_at epoch_at
scan_more i slots k v h s w =
    record { slots_are = list_more (slot_of i) k v slots h s.slots_are (slot_is v w.condition_is w.epoch_is) }

pub scan_end : (i : Image) (slots : List Slot) (m k : ℕ) → k ≤ m → m ≤ k → Scanned k i slots → Scanned m i slots
scan_end i slots m k h l s = let e : k ≡ m = omega arith in rw e at s
