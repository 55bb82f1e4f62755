-- Reading one image, in the sentences of documents 01 and 02.
use Prim.Native.Nat.{ℕ, suc, ◌-◌, ◌^◌, ◌≤◌, ◌<◌}
use mathlib.Core.Path.{◌≡◌, refl, sym, ap, ◌∙◌}
use mathlib.Core.Bool.{Bool, true, false, cond, ◌&&◌, ◌||◌}
use native.Mathlib.Omega.{arith}
use lib.Dec.{eqb, leb}
use borrow.Author.Tests.{eq-eqb, ne_eqb}
use Rattle.slices.specs.Parts.{Bytes, part}
use Rattle.slices.specs.Same.{same}
use Rattle.slices.proofs.SameLaws.{and_off, same_eq, same_differs}
use Rattle.record.specs.declared.Shape.{Shape}
use Rattle.record.specs.Layout.{is_witness, header_size, fresh_entry}
use Rattle.record.specs.Meaning.{Entry, good, blank, bad, intact, broken}
use Rattle.record.specs.Exactly.{IntactFor}
use Rattle.record.proofs.HeaderLaws.{read_first_high}
use Rattle.record.proofs.EntryLaws.{intact_for, intact_payload, one_index}
use Rattle.image.specs.Image.{Image, index, entry_at, first_in, decode_image}
use Rattle.image.specs.View.{condition, epoch_of, condition_at, epoch_at, log_length, card_refusal}
use Rattle.image.specs.declared.condition.Condition.TheVariants.{Unused, Whole, RecordLost, Faulty}
use Rattle.image.specs.Verdict.{is_fresh, verdict_at}
use Rattle.image.specs.Read.{has_payload, payload_of}
use Rattle.image.specs.ReadingClaim.{Stale, Reading}
use Rattle.image.proofs.CallLaws.{slots_high}
use Rattle.image.proofs.KindLaws.{kind_own, kind_readable}
use Rattle.image.proofs.ReadLaws.{opened_slots}
use Rattle.image.proofs.AcceptLaws.{readable_image}
use Rattle.image.proofs.DecodeLaws.{entry_there}
use Rattle.image.proofs.ViewLaws.{Sound, gap_intro, length_count}
use Rattle.image.proofs.VerdictLaws.{whole_verdict, verdict_whole, verdict_lost, verdict_stale, verdict_noise, verdict_unused, faulty_slot, is_stale, is_noise}
use Rattle.image.proofs.VerdictSteps.{fresh_is}
use Rattle.image.proofs.PayloadLaws.{has_below}

-- ---- one slot, of its record and its entry

module _ (m : ℕ) (i : Image) (k : ℕ) where
  good_intact : (e : ℕ) (p : Bytes) → i.records k ≡ good e → i.entries k ≡ intact e p → condition_at i k ≡ Whole
  unfolding condition_at condition
  good_intact e p r x = rw (r, x, eq-eqb e e refl)

  bad_intact : (e : ℕ) (z p : Bytes) → i.records k ≡ bad z → i.entries k ≡ intact e p → condition_at i k ≡ RecordLost
  unfolding condition_at condition
  bad_intact e z p r x = rw (r, x)

  good_other : (e : ℕ) → i.records k ≡ good e → ((p : Bytes) → ¬ (i.entries k ≡ intact e p)) → condition_at i k ≡ Faulty
  unfolding condition_at condition
  good_other e r f = rw r (go (i.entries k) refl)
    where
      go : (x : Entry) → i.entries k ≡ x → condition (good e) x ≡ Faulty
      go (intact d p) q = rw (ne_eqb e d (λ z. f p (rw (sym z) at q)))
      go (broken z) q = refl

  -- its entry is intact with another epoch, or not intact at all
  good_stale : Stale i k → verdict_at m i k ≡ 6
  good_stale s =
      verdict_stale m i k s.written s.payload
      (good_other s.recorded s.good_record (λ p q. s.other_epoch (let z : s.written ≡ s.recorded = cc in z)))
      s.intact_entry

  good_noise : (e : ℕ) → i.records k ≡ good e → ((f : ℕ) (p : Bytes) → ¬ (i.entries k ≡ intact f p))
      → verdict_at m i k ≡ cond (eqb (suc k) (log_length m i)) 4 3
  good_noise e r f = go (i.entries k) refl
    where
      go : (x : Entry) → i.entries k ≡ x → verdict_at m i k ≡ cond (eqb (suc k) (log_length m i)) 4 3
      go (intact d p) q = absurd (f d p q)
      go (broken z) q = verdict_noise m i k z (good_other e r (f e)) q

  stays_or_stale : (e : ℕ) → i.records k ≡ good e → ((p : Bytes) → ¬ (i.entries k ≡ intact e p))
      → (eqb (verdict_at m i k) 6 || eqb (verdict_at m i k) (cond (eqb (suc k) (log_length m i)) 4 3)) ≡ true
  stays_or_stale e r f = go (i.entries k) refl
    where
      same_either : (t : Bool) → (eqb (cond t 4 3) 6 || eqb (cond t 4 3) (cond t 4 3)) ≡ true
      same_either true = refl
      same_either false = refl

      go : (x : Entry) → i.entries k ≡ x → (eqb (verdict_at m i k) 6 || eqb (verdict_at m i k) (cond (eqb (suc k) (log_length m i)) 4 3)) ≡ true
      go (intact d p) q = rw (verdict_stale m i k d p (good_other e r f) q)
      go (broken z) q = rw (verdict_noise m i k z (good_other e r f) q) (same_either (eqb (suc k) (log_length m i)))

  stale_good : verdict_at m i k ≡ 6 → Stale i k
  stale_good h =
      let (a, (f, p, x)) = is_stale m i k h in
      let s = faulty_slot m i k a in
      record {
        recorded = epoch_at i k;
        written = f;
        payload = p;
        good_record = s.0;
        intact_entry = x;
        other_epoch = λ q. s.1 p (x ∙ ap (λ (e : ℕ). intact e p) q);
      }

  blank_unused : i.records k ≡ blank → condition_at i k ≡ Unused
  unfolding condition_at condition
  blank_unused r = rw r

  pub good_epoch : (e : ℕ) → i.records k ≡ good e → epoch_at i k ≡ e
  unfolding epoch_at epoch_of
  good_epoch e r = rw r

  bad_epoch : (e : ℕ) (z p : Bytes) → i.records k ≡ bad z → i.entries k ≡ intact e p → epoch_at i k ≡ e
  unfolding epoch_at epoch_of
  bad_epoch e z p r x = rw (r, x)

  pub blank_epoch : i.records k ≡ blank → epoch_at i k ≡ 0
  unfolding epoch_at epoch_of
  blank_epoch r = rw r

-- ---- a card's image that is not refused

module _ (Z : Shape) (c : ℕ) (b : Bytes) (ok : card_refusal Z c b ≡ 0) where
  abbrev i : Image
  i = decode_image Z c b

  abbrev len : ℕ
  len = log_length Z.m (decode_image Z c b)

  card : is_witness Z c ≡ false
  card = kind_own _ Z c b ok

  sound : Sound Z.m i
  sound = readable_image Z c b (kind_readable _ Z c b ok)

  few : Z.m ≤ 64
  few = slots_high Z.m (opened_slots Z c b 0 (sym ok) refl)

  unused : (k : ℕ) → k < Z.m → len ≤ k → condition_at i k ≡ Unused
  unused k h l = blank_unused Z.m i k (sound.tail k l h)

  -- a slot's index
  abbrev at : ℕ → ℕ
  at k = index (first_in Z c b) k

  at_high : (k : ℕ) → k < Z.m → index (first_in Z c b) k < 10 ^ 11
  unfolding index first_in
  at_high k h = omega (arith, read_first_high Z c (part b 0 (header_size Z)), few)

  fresh_at : (k : ℕ) → k < Z.m → is_fresh (i.entries k) ≡ same (part b (entry_at Z k) 240) fresh_entry
  fresh_at k h = ap is_fresh (entry_there Z c b k card h) ∙ fresh_is (at k) (part b (entry_at Z k) 240)

  last_not : (k : ℕ) → k < Z.m → k ≡ len → ¬ (part b (entry_at Z k) 240 ≡ fresh_entry) → verdict_at Z.m i k ≡ 5
  last_not k h l f =
      verdict_unused Z.m i k (unused k h (omega arith))
      ∙ rw (eq-eqb k len l, fresh_at k h, same_differs (part b (entry_at Z k) 240) fresh_entry f)

  last_fresh : (k : ℕ) → k < Z.m → k ≡ len → part b (entry_at Z k) 240 ≡ fresh_entry → verdict_at Z.m i k ≡ 0
  last_fresh k h l f =
      verdict_unused Z.m i k (unused k h (omega arith))
      ∙ rw (fresh_at k h, same_eq (part b (entry_at Z k) 240) fresh_entry f, and_off)

  behind : (k : ℕ) → k < Z.m → len < k → verdict_at Z.m i k ≡ 0
  behind k h l = verdict_unused Z.m i k (unused k h (omega arith)) ∙ rw (ne_eqb k len (λ q. omega arith))

  there : (k e : ℕ) (p : Bytes) → has_payload Z.m i (suc k) ≡ true → i.entries k ≡ intact e p → payload_of Z c b (suc k) ≡ p
  unfolding payload_of
  there k e p h x =
      let z : suc k - 1 ≡ k = omega arith in
      let l : k < Z.m = omega (arith, has_below Z.m (suc k) i h) in
      rw (ok, h, z) (intact_payload (at k) e p _ (intact_for (at k) _ e p (sym (entry_there Z c b k card l) ∙ x)))

  elsewhere : (k j e f : ℕ) (p : Bytes) → k < Z.m → j ≤ 4294967295 → i.records k ≡ good e → IntactFor j f p (part b (entry_at Z k) 240)
      → ¬ (j ≡ index (first_in Z c b) k)
      → verdict_at Z.m i k ≡ cond (eqb (suc k) len) 4 3
  elsewhere k j e f p h l r x d =
      good_noise Z.m i k e r (λ g q y. d (one_index j (at k) f g p q _ (omega arith) (at_high k h) x (intact_for (at k) _ g q (sym (entry_there Z c b k card h) ∙ y))))

  pub reads : Reading Z c b i len
  unfolding has_payload
  reads = record {
    length_is = length_count Z.m i (gap_intro Z.m i sound.tail);
    epoch_good = good_epoch Z.m i;
    epoch_else = bad_epoch Z.m i;
    epoch_unused = blank_epoch Z.m i;
    whole = λ k e p r x. verdict_whole Z.m i k (good_intact Z.m i k e p r x);
    record_lost = λ k e z p r x. verdict_lost Z.m i k (bad_intact Z.m i k e z p r x);
    stale = λ k s. omega (arith, good_stale Z.m i k s);
    stale_only = stale_good Z.m i;
    damaged = λ k e r f l. good_noise Z.m i k e r f ∙ rw (ne_eqb (suc k) len l);
    ambiguous = λ k e r f l. good_noise Z.m i k e r f ∙ rw (eq-eqb (suc k) len l);
    damaged_only = λ k f p h. is_noise Z.m i k _ (omega arith) (omega arith) h f p;
    ambiguous_only = λ k f p h. is_noise Z.m i k _ (omega arith) (omega arith) h f p;
    that_or_six = stays_or_stale Z.m i;
    misplaced = λ k j e f p h l r x d. omega (arith, elsewhere k j e f p h l r x d);
    unfinished = last_not;
    unused_fresh = last_fresh;
    unused_behind = behind;
    present = λ s. ap (λ (t : Bool). leb 1 s && leb s Z.m && t) (whole_verdict Z.m i (s - 1));
    payload = there;
  }
