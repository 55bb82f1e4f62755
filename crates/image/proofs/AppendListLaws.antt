-- Every list of accepted appends onto a fresh image reads as that list.
use Prim.Native.Nat.{ℕ, suc, ◌+◌, ◌-◌, ◌≤◌, ◌<◌}
use mathlib.Core.Path.{◌≡◌, refl, sym, ap, ◌∙◌}
use mathlib.Core.Bool.{true, false}
use mathlib.Core.List.{List, [], ◌∷◌, ◌++◌, append-nil}
use native.Mathlib.Omega.{arith}
use native.Mathlib.Decide.{ℕ_discrete, dec_lt}
use lib.ListN.{length, get_or, replicate, length-append, length-map, length-replicate, get_or-replicate, get_or-append, get_or-map, get_or-eq_default}
use lib.Seq.{get_or_at, get_or-append-add, append_snoc}
use Rattle.search.specs.Search.{listed}
use Rattle.search.proofs.ListedLaws.{listed_ext}
use Rattle.slices.specs.Parts.{Bytes}
use Rattle.slices.proofs.SameLaws.{and_off}
use Rattle.record.specs.declared.Shape.{Shape}
use Rattle.record.specs.Layout.{is_witness}
use Rattle.image.specs.Image.{Image, image_size, first_in, decode_image, fresh_image}
use Rattle.image.specs.View.{condition, epoch_of, condition_at, epoch_at, log_length, card_refusal}
use Rattle.image.specs.declared.condition.Condition.TheVariants.{Unused, Whole}
use Rattle.image.specs.Verdict.{is_fresh, verdict_at}
use Rattle.image.specs.Read.{is_whole, epochs_of, verdicts_of, has_payload, payload_of}
use Rattle.image.specs.Append.{format_refusal, append_refusal, appended}
use Rattle.image.specs.AppendList.{Appending, append_all, Accepted, epochs_in, payloads_in, ReadsAs}
use Rattle.image.specs.AppendClaim.{OneMore}
use Rattle.image.proofs.ViewLaws.{Sound, length_le}
use Rattle.image.proofs.VerdictLaws.{verdict_whole, verdict_unused}
use Rattle.image.proofs.CallLaws.{formatted_first}
use Rattle.image.proofs.FreshLaws.{fresh_first, fresh_length, fresh_fresh, fresh_readable}
use Rattle.image.proofs.KindLaws.{kind_readable, kind_intro}
use Rattle.image.proofs.AcceptLaws.{Accepts, accepts_elim, readable_image}
use Rattle.image.proofs.AppendLaws.{has_payload_lem, no_slot, payload_none, one_more, appended_entry, appended_stored}

abbrev nothing : Appending
nothing = record { epoch = 0; payload = [] }

-- a list and then one value
pub listed_split : (m : ℕ) (f : ℕ → ℕ) (l : List ℕ) (z : ℕ) → length l ≤ m → ((k : ℕ) → k < length l → f k ≡ get_or l k 0) → ((k : ℕ) → length l ≤ k → k < m → f k ≡ z)
    → listed m f ≡ l ++ replicate (m - length l) z
listed_split m f l z h a b = sym (listed_ext m f 0 (l ++ replicate (m - length l) z) size (λ k x. go k x (dec_lt k (length l))))
  where
    size : length (l ++ replicate (m - length l) z) ≡ m
    size = simp (length-append, length-replicate) (omega arith)

    go : (k : ℕ) → k < m → Dec (k < length l) → get_or (l ++ replicate (m - length l) z) k 0 ≡ f k
    go k x (yes q) = get_or-append l (replicate (m - length l) z) 0 k q ∙ sym (a k q)
    go k x (no q) =
        let j = k - length l in
        let w : k ≡ length l + j = omega arith in
        let v : j < m - length l = omega arith in
        ap (λ (k : ℕ). get_or (l ++ replicate (m - length l) z) k 0) w
        ∙ get_or-append-add l (replicate (m - length l) z) j 0
        ∙ get_or-replicate (m - length l) j z 0 v
        ∙ sym (b k (omega arith) x)

-- so much of b holds the list, and the rest is fresh
record Holds (Z : Shape) (c first : ℕ) (b : Bytes) (l : List Appending) : Type 0 where
  begins : first_in Z c b ≡ first
  readable : card_refusal Z c b ≡ 0
  many : log_length Z.m (decode_image Z c b) ≡ length l
  whole : (k : ℕ) → k < length l → condition_at (decode_image Z c b) k ≡ Whole
  epochs : (k : ℕ) → k < length l → epoch_at (decode_image Z c b) k ≡ (get_or l k nothing).epoch
  payloads : (k : ℕ) → k < length l → payload_of Z c b (suc k) ≡ (get_or l k nothing).payload
  unused : (k : ℕ) → length l ≤ k → k < Z.m → is_fresh ((decode_image Z c b).entries k) ≡ true

holds_fresh : (Z : Shape) (c first : ℕ) → is_witness Z c ≡ false → format_refusal Z c first (image_size Z c) ≡ 0 → Holds Z c first (fresh_image Z c first) []
holds_fresh Z c first card h = record {
  begins = fresh_first Z c first (formatted_first Z c first (image_size Z c) h);
  readable = kind_intro _ Z c (fresh_image Z c first) card (fresh_readable Z c first h);
  many = fresh_length Z c first;
  whole = λ k x. absurd (omega arith);
  epochs = λ k x. absurd (omega arith);
  payloads = λ k x. absurd (omega arith);
  unused = λ k x y. fresh_fresh Z c first k card y;
}

module _ (Z : Shape) (c first : ℕ) (b : Bytes) (l : List Appending) (a : Appending) (w : Holds Z c first b l) (high : a.epoch ≤ 4294967295)
    (ok : append_refusal Z c b a.epoch (length a.payload) ≡ 0) where
  abbrev after : Bytes
  after = appended Z c b a.epoch a.payload

  accepts : Accepts Z c b a.epoch (length a.payload)
  accepts = accepts_elim Z c b a.epoch (length a.payload) ok

  longer : OneMore Z c b (decode_image Z c b) (log_length Z.m (decode_image Z c b)) a.epoch a.payload after (decode_image Z c after)
  longer = one_more Z c b a.epoch a.payload after high accepts (appended_stored Z c b a.epoch a.payload ok)

  -- what holds of the slots before it and of its own
  each : (P : ℕ → Appending → Type 0) → ((k : ℕ) → k < length l → P k (get_or l k nothing)) → P (length l) a
      → (k : ℕ) → k < length (l ++ (a ∷ [])) → P k (get_or (l ++ (a ∷ [])) k nothing)
  each P old new k h = go (ℕ_discrete k (length l))
    where
      go : Dec (k ≡ length l) → P k (get_or (l ++ (a ∷ [])) k nothing)
      go (yes q) = rw (q, get_or_at l a [] nothing (length l) refl) new
      go (no q) =
          let x : k < length l = omega (arith, length-append l (a ∷ []), q) in
          rw (get_or-append l (a ∷ []) nothing k x) (old k x)

  off : (k : ℕ) → k < length l → ¬ (k ≡ log_length Z.m (decode_image Z c b))
  off k h q = omega (arith, w.many)

  holds_more : Holds Z c first after (l ++ (a ∷ []))
  holds_more = record {
    begins = longer.begins ∙ w.begins;
    readable = longer.readable;
    many = longer.longer ∙ omega (arith, w.many, length-append l (a ∷ []));
    whole =
        each (λ (k : ℕ) (x : Appending). condition_at (decode_image Z c after) k ≡ Whole)
        (λ k h. longer.conditions_stay k (off k h) ∙ w.whole k h) (rw w.many at longer.whole);
    epochs =
        each (λ (k : ℕ) (x : Appending). epoch_at (decode_image Z c after) k ≡ x.epoch)
        (λ k h. longer.epochs_stay k (off k h) ∙ w.epochs k h) (rw w.many at longer.epoch);
    payloads =
        each (λ (k : ℕ) (x : Appending). payload_of Z c after (suc k) ≡ x.payload)
        (λ k h. longer.payloads_stay (suc k) (λ q. off k h (omega arith)) ∙ w.payloads k h) (rw w.many at longer.payload);
    unused = λ k h x. fresh k (omega (arith, h, length-append l (a ∷ []))) x;
  }
    where
      fresh : (k : ℕ) → suc (length l) ≤ k → k < Z.m → is_fresh ((decode_image Z c after).entries k) ≡ true
      fresh k h x =
          rw (appended_entry Z c b a.epoch a.payload after high accepts (appended_stored Z c b a.epoch a.payload ok) k (λ q. omega (arith, w.many)))
          (w.unused k (omega arith) x)

holds_all : (Z : Shape) (c first : ℕ) (r : List Appending) (b : Bytes) (l : List Appending) → Holds Z c first b l → Accepted Z c b r
    → Holds Z c first (append_all Z c b r) (l ++ r)
unfolding append_all Accepted
holds_all Z c first [] b l w t = rw (append-nil l) w
holds_all Z c first (a ∷ r) b l w t =
    rw (← append_snoc l a r)
    (holds_all Z c first r (appended Z c b a.epoch a.payload) (l ++ (a ∷ [])) (holds_more Z c first b l a w t.0 t.1) t.2)

-- what holds, as the reader answers it
module _ (Z : Shape) (c first : ℕ) (b : Bytes) (l : List Appending) (w : Holds Z c first b l) where
  abbrev image : Image
  image = decode_image Z c b

  fits : length l ≤ Z.m
  fits = omega (arith, length_le Z.m image, w.many)

  sound : Sound Z.m image
  sound = readable_image Z c b (kind_readable _ Z c b w.readable)

  rest : (k : ℕ) → length l ≤ k → k < Z.m → condition_at image k ≡ Unused
  unfolding condition_at condition
  rest k h x = rw (sound.tail k (omega (arith, w.many)) x)

  rest_epoch : (k : ℕ) → length l ≤ k → k < Z.m → epoch_at image k ≡ 0
  unfolding epoch_at epoch_of
  rest_epoch k h x = rw (sound.tail k (omega (arith, w.many)) x)

  rest_verdict : (k : ℕ) → length l ≤ k → k < Z.m → verdict_at Z.m image k ≡ 0
  rest_verdict k h x = verdict_unused Z.m image k (rest k h x) ∙ rw (w.unused k h x, and_off)

  present : (k : ℕ) → k < length l → has_payload Z.m image (suc k) ≡ true
  unfolding is_whole
  present k h = has_payload_lem Z.m image k (omega (arith, fits)) ∙ ap is_whole (w.whole k h)

  rest_payload : (k : ℕ) → length l ≤ k → payload_of Z c b (suc k) ≡ []
  unfolding is_whole
  rest_payload k h = payload_none Z c b (suc k) (go (dec_lt k Z.m))
    where
      go : Dec (k < Z.m) → has_payload Z.m image (suc k) ≡ false
      go (yes x) = has_payload_lem Z.m image k x ∙ ap is_whole (rest k h x)
      go (no x) = no_slot Z.m image k (omega arith)

  payload_at_lem : (k : ℕ) → Dec (k < length l) → payload_of Z c b (suc k) ≡ get_or (payloads_in l) k []
  payload_at_lem k (yes h) = w.payloads k h ∙ sym (get_or-map (λ (a : Appending). a.payload) l k nothing)
  payload_at_lem k (no h) = rest_payload k (omega arith) ∙ sym (get_or-eq_default (payloads_in l) [] (omega (arith, length-map l (λ (a : Appending). a.payload))))

  reads_as : ReadsAs Z c first b l
  unfolding epochs_of verdicts_of
  reads_as = record {
    readable = w.readable;
    begins = w.begins;
    many = w.many;
    epochs =
        rw size at
        (listed_split Z.m (epoch_at image) (epochs_in l) 0 (omega (arith, size, fits))
        (λ k h. w.epochs k (omega (arith, size)) ∙ sym (get_or-map (λ (a : Appending). a.epoch) l k nothing))
        (λ k h x. rest_epoch k (omega (arith, size)) x));
    verdicts =
        rw ones at
        (listed_split Z.m (verdict_at Z.m image) (replicate (length l) 1) 0 (omega (arith, ones, fits))
        (λ k h. let x : k < length l = omega (arith, ones) in verdict_whole Z.m image k (w.whole k x) ∙ sym (get_or-replicate (length l) k 1 0 x))
        (λ k h x. rest_verdict k (omega (arith, ones)) x));
    present = present;
    payloads = λ k. payload_at_lem k (dec_lt k (length l));
  }
    where
      size : length (epochs_in l) ≡ length l
      size = length-map l (λ (a : Appending). a.epoch)

      ones : length (replicate {A = ℕ} (length l) 1) ≡ length l
      ones = length-replicate (length l) 1

pub several_read : (Z : Shape) (c first : ℕ) (l : List Appending) → is_witness Z c ≡ false → format_refusal Z c first (image_size Z c) ≡ 0
    → Accepted Z c (fresh_image Z c first) l → ReadsAs Z c first (append_all Z c (fresh_image Z c first) l) l
several_read Z c first l card h a =
    reads_as Z c first (append_all Z c (fresh_image Z c first) l) l (holds_all Z c first l (fresh_image Z c first) [] (holds_fresh Z c first card h) a)
