-- Formatting and appending, test by test: which refusal it is, and what is answered and left then.
use Prim.Native.Nat.{ℕ, suc, ◌+◌, ◌-◌, ◌*◌, ◌≤◌, ◌<◌}
use mathlib.Core.Path.{◌≡◌, refl, sym, ap, ◌∙◌}
use mathlib.Core.Bool.{true, cond, ◌||◌}
use mathlib.Core.List.{List, [], ◌++◌}
use native.Mathlib.Omega.{arith}
use native.Mathlib.Nat.{mul-le-mul_left}
use native.Mathlib.Numerals.{add-one}
use native.Mathlib.Decide.{ℕ_discrete}
use lib.Dec.{eqb, leb, ltb}
use lib.ListN.{length, length-append, take-append-drop}
use borrow.Author.Tests.{eq-eqb, ne_eqb, lt-ltb, le-ltb, le-leb, lt-leb}
use Rattle.search.specs.Search.{joined}
use Rattle.slices.specs.Parts.{Bytes, spliced}
use Rattle.slices.proofs.SpliceLaws.{length_spliced}
use Rattle.record.specs.declared.Shape.{Shape}
use Rattle.record.specs.Layout.{is_witness, header_size, header_bytes, record_bytes, blank_record, entry_bytes, fresh_entry}
use Rattle.record.specs.Meaning.{first_index}
use Rattle.record.proofs.LayoutLaws.{length_header, length_entry}
use Rattle.record.proofs.WriteLaws.{start, then, whole}
use Rattle.image.specs.declared.refusal.Refusal.{Refusal}
use Rattle.image.specs.Refusal.{refusal_number, refuse, ◌else◌}
use Rattle.image.specs.Image.{Image, index, image_size, record_at, entry_at, decode_image, fresh_image}
use Rattle.image.specs.View.{epoch_at, log_length, card_refusal, witness_refusal}
use Rattle.image.specs.declared.condition.Condition.TheVariants.{Unused}
use Rattle.image.specs.declared.condition.Slot.{Slot}
use Rattle.image.specs.Seen.{slot_of, slot_in, Seen}
use Rattle.image.specs.Append.{last_epoch, format_refusal, append_refusal, stored, appended, formatted}
use Rattle.image.specs.Witness.{record_refusal, recorded, record_appended}
use Rattle.image.specs.Answers.{refused, value, numbered, format_call_numbers}
use Rattle.image.proofs.RefusalLaws.{refuse_off, else_next, else_first}
use Rattle.image.proofs.CallLaws.{slots_high, called_slots, called_size, formatted_call}
use Rattle.image.proofs.ReadLaws.{opened_slots, opened_size, opened_card, witnessed_slots, witnessed_size}
use Rattle.image.proofs.ViewLaws.{length_le}
use Rattle.image.proofs.ScannedLaws.{taken_at}
use Rattle.image.proofs.DecodeLaws.{size_is, record_begins, records_end, entries_end, record_ends, entry_ends, first_is}
use Rattle.image.proofs.AcceptLaws.{accepts_elim, record_accepts_elim}
use Rattle.image.proofs.FreshLaws.{length_records, length_fresh_entries, length_fresh_image}

-- a refusal has a number, which is not 0
pub number_above : (e : Refusal) → 0 < refusal_number e
number_above e = grind arith

-- ---- formatting

module _ (Z : Shape) (c first : ℕ) (b : Bytes) (free : 0 ≡ format_refusal Z c first (length b)) where
  pub format_few : Z.m ≤ 64
  format_few = slots_high Z.m (called_slots Z c (length b) (formatted_call Z c first (length b) (sym free)))

  pub format_size : length b ≡ image_size Z c
  format_size = called_size Z c (length b) (formatted_call Z c first (length b) (sym free))

  module _ (f : ℕ) {x : Bytes} (p : x ≡ spliced b 0 (header_bytes Z c f)) where
    pub headed_size : length x ≡ image_size Z c
    headed_size = ap length p ∙ length_spliced b 0 (header_bytes Z c f) (omega (arith, length_header Z c f, format_size, size_is Z c)) ∙ format_size

    module _ {y : Bytes} (q : y ≡ spliced x (header_size Z) (joined Z.m (λ k. blank_record))) where
      pub blanked_size : length y ≡ image_size Z c
      blanked_size = ap length q ∙ length_spliced x (header_size Z) (joined Z.m (λ k. blank_record)) (omega (arith, length_records Z.m, headed_size, size_is Z c)) ∙ headed_size

      pub format_done : f ≡ first → {z : Bytes} → z ≡ spliced y (header_size Z + 34 * Z.m) (cond (is_witness Z c) [] (joined Z.m (λ k. fresh_entry)))
          → (value tt ≡ format_call_numbers Z c first (length b)) × (z ≡ formatted Z c first b)
      unfolding numbered formatted
      format_done e {z} s = (sym (rw (← free)), made ∙ sym (rw (← free, ← e)))
        where
          head : length (header_bytes Z c f) ≡ header_size Z
          head = length_header Z c f

          records : length (header_bytes Z c f ++ joined Z.m (λ k. blank_record)) ≡ header_size Z + 34 * Z.m
          records = length-append (header_bytes Z c f) (joined Z.m (λ k. blank_record)) ∙ omega (arith, head, length_records Z.m)

          made : z ≡ fresh_image Z c f
          made =
              unfold fresh_image in
              (let x = then (image_size Z c) 0 (header_bytes Z c f) (start _ b format_size) refl (omega (arith, head, size_is Z c)) p in
              let y = then (image_size Z c) (header_size Z) (joined Z.m (λ k. blank_record)) x head (omega (arith, length_records Z.m, size_is Z c)) q in
              let z = then (image_size Z c) (header_size Z + 34 * Z.m) (cond (is_witness Z c) [] (joined Z.m (λ k. fresh_entry))) y records (omega (arith, length_fresh_entries Z c, size_is Z c)) s in
              whole z (length_fresh_image Z c f))

-- a witness has no entries
pub entries_none : (Z : Shape) (c : ℕ) (b : Bytes) (at : ℕ) → is_witness Z c ≡ true → b ≡ spliced b at (cond (is_witness Z c) [] (joined Z.m (λ k. fresh_entry)))
unfolding spliced
entries_none Z c b at witness = let z : at + 0 ≡ at = omega arith in rw (witness, z) (sym (take-append-drop at b))

-- ---- appending: refusals 8 to 10

module _ (last len m e size : ℕ) where
  abbrev denial : ℕ
  denial = refuse 8 (eqb e 0 || ltb e last) else refuse 9 (ltb 200 size) else refuse 10 (leb m len)

  pub deny_zero : e ≡ 0 → 8 ≡ denial
  unfolding refuse ◌else◌
  deny_zero h = sym (rw (eq-eqb e 0 h))

  module _ (p : ¬ (e ≡ 0)) where
    pub deny_lower : e < last → 8 ≡ denial
    unfolding refuse ◌else◌
    deny_lower h = sym (rw (ne_eqb e 0 p, lt-ltb e last h))

    module _ (q : last ≤ e) where
      pub deny_long : 200 < size → 9 ≡ denial
      unfolding refuse ◌else◌
      deny_long h = sym (rw (ne_eqb e 0 p, le-ltb e last q, lt-ltb 200 size h))

      module _ (s : size ≤ 200) where
        pub deny_full : m ≤ len → 10 ≡ denial
        unfolding refuse ◌else◌
        deny_full h = sym (rw (ne_eqb e 0 p, le-ltb e last q, le-ltb 200 size s, le-leb m len h))

        pub deny_none : len < m → 0 ≡ denial
        unfolding refuse ◌else◌
        deny_none h = sym (rw (ne_eqb e 0 p, le-ltb e last q, le-ltb 200 size s, lt-leb m len h))

-- the last epoch as the scan has it
pub last_seen : (m : ℕ) (i : Image) {first len : ℕ} {slots : List Slot} → Seen m i first len slots
    → cond (eqb len 0) 0 (slot_in slots (len - 1)).epoch ≡ last_epoch m i
unfolding last_epoch
last_seen m i {len = len} {slots = slots} s = rw (← s.length_is) (go (ℕ_discrete len 0))
  where
    go : Dec (len ≡ 0) → cond (eqb len 0) 0 (slot_in slots (len - 1)).epoch ≡ cond (eqb len 0) 0 (epoch_at i (len - 1))
    go (yes q) = rw (eq-eqb len 0 q)
    go (no q) =
        let h : len - 1 < m = omega (arith, s.length_is, length_le m i) in
        rw (ne_eqb len 0 q) (ap (λ (v : Slot). v.epoch) (taken_at m (slot_of i) slots (record { condition = Unused; epoch = 0 }) s.slots_are (len - 1) h))

-- ---- appending: which refusal it is

-- to a card
module _ (Z : Shape) (c : ℕ) (b : Bytes) (e size : ℕ) where
  pub refused_call : (r : Refusal) → refusal_number r ≡ card_refusal Z c b → append_refusal Z c b e size ≡ refusal_number r
  unfolding append_refusal
  refused_call r call = else_first _ _ (λ q. omega (arith, q, number_above r, call)) ∙ sym call

  module _ (free : 0 ≡ card_refusal Z c b) {first len : ℕ} {slots : List Slot} (s : Seen Z.m (decode_image Z c b) first len slots) where
    pub used_few : len ≤ 64
    used_few = omega (arith, s.length_is, length_le Z.m (decode_image Z c b), slots_high Z.m (opened_slots Z c b 0 free refl))

    module _ {last d : ℕ} (l : last ≡ cond (eqb len 0) 0 (slot_in slots (len - 1)).epoch)
        (k : d ≡ (refuse 8 (eqb e 0 || ltb e last) else refuse 9 (ltb 200 size) else refuse 10 (leb Z.m len))) where
      pub refused_append : append_refusal Z c b e size ≡ d
      unfolding append_refusal
      refused_append = else_next _ (sym free) ∙ sym (rw (l ∙ last_seen Z.m (decode_image Z c b) s, s.length_is) at k)

      -- an append that goes on
      pub slot_free : 0 ≡ d → (Z.m ≤ 64) × (len < Z.m) × (entry_at Z Z.m ≤ length b) × (size ≤ 200)
      slot_free z =
          let a = accepts_elim Z c b e size (refused_append ∙ sym z) in
          (slots_high Z.m (opened_slots Z c b 0 free refl), omega (arith, s.length_is, a.room), omega (arith, opened_size Z c b 0 free refl, entries_end Z c (opened_card Z c b 0 free refl)), a.short)

-- to a witness: a payload of no bytes is never too long
pub bare : (x y : ℕ) → (x else refuse 9 (ltb 200 0) else y) ≡ (x else y)
bare x y = ap (λ (z : ℕ). x else z) (else_next y (refuse_off 9 refl))

module _ (Z : Shape) (c : ℕ) (b : Bytes) (e : ℕ) where
  pub record_call : (r : Refusal) → refusal_number r ≡ witness_refusal Z c b → record_refusal Z c b e ≡ refusal_number r
  unfolding record_refusal
  record_call r call = else_first _ _ (λ q. omega (arith, q, number_above r, call)) ∙ sym call

  module _ (free : 0 ≡ witness_refusal Z c b) {first len : ℕ} {slots : List Slot} (s : Seen Z.m (decode_image Z c b) first len slots) where
    pub used_short : len ≤ 64
    used_short = omega (arith, s.length_is, length_le Z.m (decode_image Z c b), slots_high Z.m (witnessed_slots Z c b 0 free refl))

    module _ {last d : ℕ} (l : last ≡ cond (eqb len 0) 0 (slot_in slots (len - 1)).epoch)
        (k : d ≡ (refuse 8 (eqb e 0 || ltb e last) else refuse 9 (ltb 200 0) else refuse 10 (leb Z.m len))) where
      pub refused_record : record_refusal Z c b e ≡ d
      unfolding record_refusal
      refused_record =
          else_next _ (sym free)
          ∙ sym (bare (refuse 8 (eqb e 0 || ltb e (last_epoch Z.m (decode_image Z c b)))) (refuse 10 (leb Z.m (log_length Z.m (decode_image Z c b)))))
          ∙ sym (rw (l ∙ last_seen Z.m (decode_image Z c b) s, s.length_is) at k)

      pub record_free : 0 ≡ d → (Z.m ≤ 64) × (len < Z.m) × (record_at Z Z.m ≤ length b)
      record_free z =
          let a = record_accepts_elim Z c b e (refused_record ∙ sym z) in
          (slots_high Z.m (witnessed_slots Z c b 0 free refl), omega (arith, s.length_is, a.room), omega (arith, witnessed_size Z c b 0 free refl, records_end Z c))

-- ---- appending: the slot

module _ (Z : Shape) (first k : ℕ) (b : Bytes) (km : k < Z.m) (size : entry_at Z Z.m ≤ length b) {at : ℕ} (place : at ≡ entry_at Z k) where
  pub entry_room : at + 240 ≤ length b
  entry_room = omega (arith, entry_ends Z k km)

  module _ (e : ℕ) (p : Bytes) (short : length p ≤ 200) {j : ℕ} (i : j ≡ index first k) {x : Bytes} (q : x ≡ spliced b at (entry_bytes e j p)) {on : ℕ} (line : on ≡ record_at Z k) where
    pub record_room : on + 34 ≤ length x
    record_room =
        let l = length_spliced b at (entry_bytes e j p) (omega (arith, length_entry e j p short, entry_room)) in
        omega (arith, ap length q, l, record_ends Z k km)

    pub slot_stored : {y : Bytes} → y ≡ spliced x on (record_bytes e j) → y ≡ stored Z first b k e p
    unfolding stored
    slot_stored r = rw (r, q, i, place, line)

-- ---- appending: what is answered and left

pub append_refused : (Z : Shape) (c : ℕ) (b : Bytes) (e : ℕ) (p : Bytes) {r : ℕ} → append_refusal Z c b e (length p) ≡ r → ¬ (r ≡ 0)
    → (refused r ≡ numbered (append_refusal Z c b e (length p)) (suc (log_length Z.m (decode_image Z c b)))) × (b ≡ appended Z c b e p)
unfolding numbered appended
append_refused Z c b e p {r} is h = let off = ne_eqb r 0 h in (sym (rw (is, off)), sym (rw (is, off)))

pub append_done : (Z : Shape) (c : ℕ) (b : Bytes) (e : ℕ) (p : Bytes) → append_refusal Z c b e (length p) ≡ 0
    → {first k : ℕ} {d : Bytes} → first ≡ first_index (decode_image Z c b).header → k ≡ log_length Z.m (decode_image Z c b)
    → d ≡ stored Z first b k e p
    → (value (k + 1) ≡ numbered (append_refusal Z c b e (length p)) (suc (log_length Z.m (decode_image Z c b)))) × (d ≡ appended Z c b e p)
unfolding numbered appended
append_done Z c b e p is f q s = (sym (rw (is, ← q, add-one)), rw (is, ← q, ← first_is Z c b, ← f) s)

-- ---- a witness's record

pub record_within : (Z : Shape) (k : ℕ) (b : Bytes) → k < Z.m → record_at Z Z.m ≤ length b → {on : ℕ} → on ≡ record_at Z k → on + 34 ≤ length b
record_within Z k b km size line = omega (arith, record_begins Z k, record_begins Z Z.m, mul-le-mul_left 34 km)

pub slot_recorded : (Z : Shape) (first k : ℕ) (b : Bytes) (e : ℕ) {j : ℕ} → j ≡ index first k → {on : ℕ} → on ≡ record_at Z k → {y : Bytes} → y ≡ spliced b on (record_bytes e j)
    → y ≡ recorded Z first b k e
unfolding recorded
slot_recorded Z first k b e i line r = rw (r, i, line)

pub record_refused : (Z : Shape) (c : ℕ) (b : Bytes) (e : ℕ) {r : ℕ} → record_refusal Z c b e ≡ r → ¬ (r ≡ 0)
    → (refused r ≡ numbered (record_refusal Z c b e) (suc (log_length Z.m (decode_image Z c b)))) × (b ≡ record_appended Z c b e)
unfolding numbered record_appended
record_refused Z c b e {r} is h = let off = ne_eqb r 0 h in (sym (rw (is, off)), sym (rw (is, off)))

pub record_done : (Z : Shape) (c : ℕ) (b : Bytes) (e : ℕ) → record_refusal Z c b e ≡ 0
    → {first k : ℕ} {d : Bytes} → first ≡ first_index (decode_image Z c b).header → k ≡ log_length Z.m (decode_image Z c b)
    → d ≡ recorded Z first b k e
    → (value (k + 1) ≡ numbered (record_refusal Z c b e) (suc (log_length Z.m (decode_image Z c b)))) × (d ≡ record_appended Z c b e)
unfolding numbered record_appended
record_done Z c b e is f q s = (sym (rw (is, ← q, add-one)), rw (is, ← q, ← first_is Z c b, ← f) s)
