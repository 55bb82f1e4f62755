-- What refuses an image, number by number.
use Prim.Native.Nat.{ℕ, zero, suc, ◌+◌, ◌-◌, ◌≤◌, ◌<◌}
use mathlib.Core.Path.{◌≡◌, refl, sym, ap, subst}
use mathlib.Core.Bool.{Bool, true, false, cond, not, ◌&&◌, true≢false}
use mathlib.Core.List.{[]}
use native.Mathlib.Omega.{arith}
use native.Mathlib.Decide.{dec_lt}
use lib.Dec.{eqb, leb}
use lib.ListN.{length}
use borrow.Author.Tests.{eqb-true, eq-eqb, leb-true, not-true}
use Rattle.slices.specs.Parts.{Bytes, part}
use Rattle.slices.proofs.SameLaws.{and_left, and_right, and_true}
use Rattle.record.specs.declared.Shape.{Shape}
use Rattle.record.specs.Layout.{is_witness, header_size}
use Rattle.record.specs.Meaning.{Header, proper, improper, Record, good, blank, bad, Entry, intact, broken, read_header}
use Rattle.record.specs.Exactly.{HeaderIs, SomeHeader}
use Rattle.record.proofs.HeaderLaws.{header_is, proper_read}
use Rattle.image.specs.Refusal.{refuse, ◌else◌}
use Rattle.image.specs.Image.{Image, image_size, decode_under, decode_image}
use Rattle.image.specs.View.{is_size, is_replica, is_slots, is_edition, is_blank, is_proper, is_lost, condition, condition_at, log_length, no_gap, none_lost, rising, image_refusal, named_refusal, call_refusal, read_refusal, card_refusal, witness_refusal, epoch_at}
use Rattle.image.specs.declared.condition.Condition.TheVariants.{Whole, Faulty}
use Rattle.image.specs.RefusalClaim.{Lowest, NoneLost, NoneBad, Passes, ReadPasses, CardPasses, WitnessPasses}
use Rattle.image.proofs.CallLaws.{is_slots_lem, slots_low, slots_high, is_size_lem, size_low, size_high, is_replica_lem, is_edition_lem, edition_from, edition_to}
use Rattle.image.proofs.ViewLaws.{length_le, used_below, blank_next, gap_elim, gap_intro, lost_elim, lost_intro, rising_intro, rising_all}
use Rattle.image.proofs.KindLaws.{kind_chain, witness_chain}
use Rattle.image.proofs.DecodeLaws.{none_there}
use Rattle.image.proofs.LowestLaws.{From, Decides, try, last_of, else_assoc}

-- ---- 1 to 3

slots_decides : (m : ℕ) → Decides (is_slots m) ((1 ≤ m) × (m ≤ 64))
slots_decides m = record { so = λ e. (slots_low m e, slots_high m e); back = λ p. is_slots_lem m p.0 p.1 }

size_decides : (n : ℕ) → Decides (is_size n) ((3 ≤ n) × (n ≤ 7))
size_decides n = record { so = λ e. (size_low n e, size_high n e); back = λ p. is_size_lem n p.0 p.1 }

edition_decides : (e : ℕ) → Decides (is_edition e) ((1 ≤ e) × (e ≤ 2))
edition_decides e = record { so = λ h. (edition_from e h, edition_to e h); back = λ p. is_edition_lem e p.0 p.1 }

replica_decides : (n c : ℕ) → Decides (is_replica n c) ((1 ≤ c) × (c ≤ n))
replica_decides n c = record {
  so = λ e. unfold is_replica in (leb-true 1 c (and_left (leb 1 c) (leb c n) e), leb-true c n (and_right (leb 1 c) (leb c n) e));
  back = λ p. is_replica_lem n c p.0 p.1;
}

both_decide : (s t : Bool) {P Q : Type 0} → Decides s P → Decides t Q → Decides (s && t) (P × Q)
both_decide s t d e = record { so = λ h. (d.so (and_left s t h), e.so (and_right s t h)); back = λ p. and_true s t (d.back p.0) (e.back p.1) }

named_decides : (Z : Shape) (c : ℕ)
    → Decides (is_size Z.n && is_edition Z.edition && is_replica Z.n c) (((3 ≤ Z.n) × (Z.n ≤ 7)) × ((1 ≤ Z.edition) × (Z.edition ≤ 2)) × ((1 ≤ c) × (c ≤ Z.n)))
named_decides Z c =
    let d = both_decide (is_size Z.n && is_edition Z.edition) (is_replica Z.n c) (both_decide (is_size Z.n) (is_edition Z.edition) (size_decides Z.n) (edition_decides Z.edition)) (replica_decides Z.n c) in
    record { so = λ h. ((d.so h).0.0, (d.so h).0.1, (d.so h).1); back = λ p. d.back ((p.0, p.1), p.2) }

bytes_decides : (Z : Shape) (c size : ℕ) → Decides (eqb size (image_size Z c)) (size ≡ image_size Z c)
bytes_decides Z c size = record { so = eqb-true size (image_size Z c); back = eq-eqb size (image_size Z c) }

not_decides : (t : Bool) → Decides (not t) (t ≡ false)
not_decides t = record { so = not-true t; back = λ p. ap not p }

-- ---- 4

header_decides : (Z : Shape) (c : ℕ) (b : Bytes) → Decides (is_proper (read_header Z c b)) (SomeHeader Z c b)
unfolding is_proper
header_decides Z c b = record { so = λ e. so (read_header Z c b) (header_is Z c b) e; back = λ p. rw (proper_read Z c b p.first p.is) }
  where
    so : (h : Header) → HeaderIs Z c b h → is_proper h ≡ true → SomeHeader Z c b
    so (proper first) p e = record { first = first; is = p }
    so (improper z) p e = absurd (true≢false (sym e))

-- ---- 5 to 7

module _ (m : ℕ) (i : Image) where
  blank_apart : (r : Record) → is_blank r ≡ false → ¬ (r ≡ blank)
  unfolding is_blank
  blank_apart r h e = true≢false (rw e at h)

  -- the first blank record ends the log
  log_ends : (k : ℕ) → k < m → i.records k ≡ blank → log_length m i ≤ k
  log_ends k h e = go (dec_lt k (log_length m i))
    where
      go : Dec (k < log_length m i) → log_length m i ≤ k
      go (yes l) = absurd (blank_apart (i.records k) (used_below m i k l) e)
      go (no l) = omega arith

  gap_decides : Decides (no_gap m i) ((j k : ℕ) → j < k → k < m → i.records j ≡ blank → i.records k ≡ blank)
  gap_decides = record {
    so = λ g j k l h e. gap_elim m i g k (omega (arith, log_ends j (omega arith) e)) h;
    back = λ p. gap_intro m i (λ k l h. tail p k l h (dec_lt (log_length m i) k));
  }
    where
      tail : ((j k : ℕ) → j < k → k < m → i.records j ≡ blank → i.records k ≡ blank) → (k : ℕ) → log_length m i ≤ k → k < m
          → Dec (log_length m i < k) → i.records k ≡ blank
      tail p k l h (yes q) = p (log_length m i) k q h (blank_next m i (omega arith))
      tail p k l h (no q) = let z : k ≡ log_length m i = omega arith in rw z (blank_next m i (omega arith))

  lost_is : (r : Record) (x : Entry) → ((y z : Bytes) → r ≡ bad y → ¬ (x ≡ broken z)) → is_lost (condition r x) ≡ false
  unfolding is_lost condition
  lost_is (good e) (intact d p) f = go (eqb e d)
    where
      go : (t : Bool) → is_lost (cond t Whole Faulty) ≡ false
      go true = refl
      go false = refl
  lost_is (good e) (broken z) f = refl
  lost_is blank x f = refl
  lost_is (bad y) (intact e p) f = refl
  lost_is (bad y) (broken z) f = absurd (f y z refl refl)

  lost_decides : Decides (none_lost m i) (NoneLost m i)
  unfolding condition_at
  lost_decides = record {
    so = λ l k y z h r x. lost (lost_elim m i l k h) r x;
    back = λ p. lost_intro m i (λ k h. lost_is (i.records k) (i.entries k) (λ y z. p k y z h));
  }
    where
      lost : {r : Record} {x : Entry} {y z : Bytes} → is_lost (condition r x) ≡ false → r ≡ bad y → ¬ (x ≡ broken z)
      lost h e f = true≢false (unfold is_lost condition in rw (e, f) at h)

  -- without entries any bad record is lost
  bad_decides : ((k : ℕ) → i.entries k ≡ broken []) → Decides (none_lost m i) (NoneBad m i)
  bad_decides bare = record {
    so = λ l k y h r. lost_decides.so l k y [] h r (bare k);
    back = λ p. lost_decides.back (λ k y z h r x. p k y h r);
  }

  -- of an image without a gap
  rising_decides : no_gap m i ≡ true
      → Decides (rising m i) ((j k : ℕ) → j < k → k < m → ¬ (i.records j ≡ blank) → ¬ (i.records k ≡ blank) → epoch_at i j ≤ epoch_at i k)
  rising_decides g = record {
    so = λ r j k l h a b. let z : j + (k - j) ≡ k = omega arith in omega (arith, rw z at (rising_all m i r (k - j) j (rw z (used k h b (dec_lt k (log_length m i))))));
    back = λ p. rising_intro m i (λ k l. p k (suc k) (omega arith) (omega (arith, length_le m i))
        (blank_apart _ (used_below m i k (omega arith))) (blank_apart _ (used_below m i (suc k) l)));
  }
    where
      used : (k : ℕ) → k < m → ¬ (i.records k ≡ blank) → Dec (k < log_length m i) → k < log_length m i
      used k h b (yes l) = l
      used k h b (no l) = absurd (b (gap_elim m i g k (omega arith) h))

-- ---- all of them

module _ (Z : Shape) (c : ℕ) (b : Bytes) (three six : Type 0) where
  abbrev i : Image
  i = decode_image Z c b

  abbrev Each : ℕ → Type 0
  Each = Passes three six Z c b (decode_image Z c b)

  beyond : (q : ℕ) → 8 ≤ q → Each q
  beyond zero h = absurd (omega arith)
  beyond (suc zero) h = absurd (omega arith)
  beyond (suc (suc zero)) h = absurd (omega arith)
  beyond (suc (suc (suc zero))) h = absurd (omega arith)
  beyond (suc (suc (suc (suc zero)))) h = absurd (omega arith)
  beyond (suc (suc (suc (suc (suc zero))))) h = absurd (omega arith)
  beyond (suc (suc (suc (suc (suc (suc zero)))))) h = absurd (omega arith)
  beyond (suc (suc (suc (suc (suc (suc (suc zero))))))) h = absurd (omega arith)
  beyond (suc (suc (suc (suc (suc (suc (suc (suc q)))))))) h = tt

  of_image : Decides (none_lost Z.m (decode_image Z c b)) six → From Each 4 (image_refusal Z.m i)
  unfolding image_refusal decode_image decode_under
  of_image lost =
      try Each 4 (is_proper i.header) _ (λ e. omega arith) (header_decides Z c (part b 0 (header_size Z)))
      (λ _. try Each 5 (no_gap Z.m i) _ (λ e. omega arith) (gap_decides Z.m i)
      (λ g. try Each 6 (none_lost Z.m i) _ (λ e. omega arith) lost
      (λ _. seven ((gap_decides Z.m i).back g))))
    where
      seven : no_gap Z.m i ≡ true → From Each 7 (refuse 7 (not (rising Z.m i)))
      seven g = subst (From Each 7) (end (refuse 7 (not (rising Z.m i))))
          (try Each 7 (rising Z.m i) 0 (λ e. omega arith) (rising_decides Z.m i g) (λ _. last_of Each 8 beyond))
        where
          end : (r : ℕ) → (r else 0) ≡ r
          end zero = unfold ◌else◌ in refl
          end (suc r) = unfold ◌else◌ in refl

  module _ (t : Bool) (sized : Decides t three) (lost : three → Decides (none_lost Z.m (decode_image Z c b)) six) where
    from_one : From Each 1 ((named_refusal Z c else refuse 3 (not t)) else image_refusal Z.m i)
    unfolding named_refusal
    from_one =
        rw (else_assoc, else_assoc)
        (try Each 1 (is_slots Z.m) _ (λ e. omega arith) (slots_decides Z.m)
        (λ _. try Each 2 (is_size Z.n && is_edition Z.edition && is_replica Z.n c) _ (λ e. omega arith) (named_decides Z c)
        (λ _. try Each 3 t _ (λ e. omega arith) sized (λ x. of_image (lost x)))))

    lowest_of : {r : ℕ} → r ≡ ((named_refusal Z c else refuse 3 (not t)) else image_refusal Z.m i) → Lowest Each r
    lowest_of is = rw is (record {
      applies = from_one.applies;
      below = λ z q h. all q (λ l. from_one.below z q l h);
      none = λ z q. all q (from_one.none z q);
    })
      where
        all : (q : ℕ) → (1 ≤ q → Each q) → Each q
        all zero f = tt
        all (suc q) f = f (omega arith)

-- a call for any image, for cards, for witnesses
module _ (Z : Shape) (c : ℕ) (b : Bytes) where
  pub lowest_wins : Lowest (ReadPasses Z c b (decode_image Z c b)) (read_refusal Z c b)
  lowest_wins =
      lowest_of Z c b (length b ≡ image_size Z c) _ (eqb (length b) (image_size Z c)) (bytes_decides Z c (length b)) (λ _. lost_decides Z.m (decode_image Z c b))
      (unfold read_refusal call_refusal in refl)

  pub lowest_card : Lowest (CardPasses Z c b (decode_image Z c b)) (card_refusal Z c b)
  lowest_card =
      lowest_of Z c b ((is_witness Z c ≡ false) × (length b ≡ image_size Z c)) _ (not (is_witness Z c) && eqb (length b) (image_size Z c))
      (both_decide (not (is_witness Z c)) (eqb (length b) (image_size Z c)) (not_decides (is_witness Z c)) (bytes_decides Z c (length b)))
      (λ _. lost_decides Z.m (decode_image Z c b)) (kind_chain _ Z c b)

  pub lowest_witness : Lowest (WitnessPasses Z c b (decode_image Z c b)) (witness_refusal Z c b)
  lowest_witness =
      lowest_of Z c b ((is_witness Z c ≡ true) × (length b ≡ image_size Z c)) _ (is_witness Z c && eqb (length b) (image_size Z c))
      (both_decide (is_witness Z c) (eqb (length b) (image_size Z c)) (record { so = λ e. e; back = λ p. p }) (bytes_decides Z c (length b)))
      (λ p. bad_decides Z.m (decode_image Z c b) (λ k. none_there Z c b k p.0)) (witness_chain Z c b)
