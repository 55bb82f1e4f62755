-- What demand 3 supposes makes the invariant true at first.
use mathlib.Core.Path.{◌≡◌, refl, sym, ap, ◌∙◌}
use mathlib.Core.Bool.{Bool, true, false, not, ◌&&◌, true≢false}
use mathlib.Core.List.{[]}
use Prim.Native.Nat.{ℕ, zero, suc, ◌+◌, ◌≤◌, ◌<◌}
use native.Mathlib.Omega.{arith}
use lib.Dec.{eqb, leb, ltb}
use borrow.Author.Tests.{ltb-true, leb-true, eqb-true, lt-ltb, le-leb, eq-eqb, not-true}
use Rattle.search.specs.Search.{lowest, count, one_if}
use Rattle.search.proofs.SearchLaws.{lowest_is, lowest_passes, lowest_le_passing}
use Rattle.search.proofs.CountLaws.{sum_le}
use Rattle.slices.specs.Parts.{Bytes}
use Rattle.slices.proofs.SameLaws.{and_left, and_right}
use Rattle.record.specs.Meaning.{Header, proper, first_index, Record, Entry, intact, broken}
use Rattle.image.specs.Image.{Image, index}
use Rattle.image.specs.Cluster.{Cluster}
use Rattle.image.specs.View.{condition, condition_at, epoch_of, is_blank, is_proper, is_lost, epoch_at, log_length, view_of, seen_as}
use Rattle.image.proofs.ViewLaws.{readable_sound}
use Rattle.planner.specs.Setting.{Setting, witness, views_of}
use Rattle.planner.specs.Rules.{majority}
use Rattle.demand3.specs.Supposed.{History, DamagedSlot, undamaged, record_bad, entry_bad, DamagedRecord, record_good, record_spoilt, DamagedHeader, own_header, no_header, DamagedAs, card_left, witness_left, Within, Agree, held, committed, Supposed}
use Rattle.protocol.proofs.Consistency.{Consistent}
use Rattle.protocol.proofs.HoldingLaws.{Holding}
use Rattle.protocol.proofs.Invariant.{Inv}

-- ---- a damaged slot
slot_used : {e : ℕ} {p : Bytes} {r : Record} {x : Entry} → DamagedSlot e p r x → is_blank r ≡ false
unfolding is_blank
slot_used undamaged = refl
slot_used record_bad = refl
slot_used (entry_bad h) = refl

slot_epoch : {e : ℕ} {p : Bytes} {r : Record} {x : Entry} → DamagedSlot e p r x → epoch_of r x ≡ e
unfolding epoch_of
slot_epoch undamaged = refl
slot_epoch record_bad = refl
slot_epoch (entry_bad h) = refl

slot_payload : {e : ℕ} {p : Bytes} {r : Record} {x : Entry} → DamagedSlot e p r x → (q : Bytes) → x ≡ intact e q → q ≡ p
slot_payload undamaged q y = cc
slot_payload record_bad q y = cc
slot_payload (entry_bad h) q y = absurd (h q y)

-- a witness's: with no entry beside it a bad record is lost
record_used : {e : ℕ} {r : Record} → DamagedRecord e r → is_blank r ≡ false
unfolding is_blank
record_used record_good = refl
record_used record_spoilt = refl

record_epoch_lem : {e : ℕ} {r : Record} (x : Entry) → DamagedRecord e r → x ≡ broken [] → is_lost (condition r x) ≡ false → epoch_of r x ≡ e
unfolding epoch_of condition is_lost
record_epoch_lem x record_good n l = refl
record_epoch_lem x record_spoilt n l = absurd (true≢false (rw n at l))

-- either
module _ {m : ℕ} {h : History} {i : Image} where
  pub left_fits : {w : Bool} → DamagedAs m h i w → h.length ≤ m
  left_fits (card_left d) = d.fits
  left_fits (witness_left d) = d.fits

  left_length : {w : Bool} → DamagedAs m h i w → log_length m i ≡ h.length
  unfolding log_length is_blank
  left_length (card_left d) = lowest_is (λ k. is_blank (i.records k)) m h.length d.fits (λ j b. slot_used (d.used j b)) (λ b. rw (d.unused b))
  left_length (witness_left d) = lowest_is (λ k. is_blank (i.records k)) m h.length d.fits (λ j b. record_used (d.used j b)) (λ b. rw (d.unused b))

  left_epoch : {w : Bool} → DamagedAs m h i w → (k : ℕ) → k < h.length → (w ≡ true → i.entries k ≡ broken []) → is_lost (condition_at i k) ≡ false → epoch_at i k ≡ h.epoch (index h.first k)
  unfolding condition_at epoch_at
  left_epoch (card_left d) k b n l = slot_epoch (d.used k b)
  left_epoch (witness_left d) k b n l = record_epoch_lem (i.entries k) (d.used k b) (n refl) l

  left_payload : {w : Bool} → DamagedAs m h i w → w ≡ false → (k : ℕ) → k < h.length → (q : Bytes)
      → i.entries k ≡ intact (h.epoch (index h.first k)) q → q ≡ h.payload (index h.first k)
  left_payload (card_left d) c k b = slot_payload (d.used k b)
  left_payload (witness_left d) c k b = absurd (true≢false c)

-- ---- holders
pub record Held (i e : ℕ) (h : History) : Type 0 where
  pub within : Within i h
  pub epoch : h.epoch i ≡ e

pub held_elim : (i e : ℕ) (h : History) → held i e h ≡ true → Held i e h
unfolding held
held_elim i e h x =
    let l = leb h.first i in
    let g = ltb i (h.first + h.length) in
    let q = eqb (h.epoch i) e in
    let y = and_right l (g && q) x in
    record {
      within = record { low = leb-true h.first i (and_left l (g && q) x); high = ltb-true i (h.first + h.length) (and_left g q y) };
      epoch = eqb-true (h.epoch i) e (and_right g q y);
    }

held_intro : (i e : ℕ) (h : History) → Within i h → h.epoch i ≡ e → held i e h ≡ true
unfolding held
held_intro i e h w b = rw (le-leb h.first i w.low, lt-ltb i (h.first + h.length) w.high, eq-eqb (h.epoch i) e b)

within_slot : (h : History) (k : ℕ) → k < h.length → Within (h.first + k) h
within_slot h k b = record { low = omega arith; high = omega arith }

pub committed_few : (S : Setting) (i e : ℕ) (p : Bytes) (H : ℕ → History)
    → count (λ c. committed (witness S c) i e p (H c)) S.shape.n ≤ count (λ c. held i e (H c)) S.shape.n
unfolding count committed one_if
committed_few S i e p H =
    sum_le (λ c. one_if (committed (witness S c) i e p (H c))) (λ c. one_if (held i e (H c))) S.shape.n
    (λ c b. go (held i e (H c)) _)
  where
    go : (a t : Bool) → one_if (a && t) ≤ one_if a
    go true true = omega arith
    go true false = omega arith
    go false t = omega arith

-- ---- the one payload for each slot and epoch, and the one epoch below: those of the lowest card whose log held it, and of the lowest replica
-- whose log held it and the index below. Slots are counted from index L
module _ (S : Setting) (H : ℕ → History) (L : ℕ) where
  abbrev on_card_at : ℕ → ℕ → ℕ → Bool
  on_card_at k e c = not (witness S c) && held (L + k) e (H c)

  abbrev held_two : ℕ → ℕ → ℕ → Bool
  held_two k e c = leb (H c).first (L + k) && held (L + suc k) e (H c)

  unfoldable pub payload_at : ℕ → ℕ → Bytes
  payload_at k e = (H (lowest (on_card_at k e) S.shape.n)).payload (L + k)

  unfoldable pub epoch_below : ℕ → ℕ → ℕ
  epoch_below zero e = zero
  epoch_below (suc k) e = (H (lowest (held_two k e) S.shape.n)).epoch (L + k)

  module _ (agree : Agree S H) (c k : ℕ) (cn : c < S.shape.n) where
    pub payload_at_lem : (e : ℕ) → witness S c ≡ false → held (L + k) e (H c) ≡ true → payload_at k e ≡ (H c).payload (L + k)
    unfolding payload_at Agree
    payload_at_lem e card h =
        let w = lowest (on_card_at k e) S.shape.n in
        let p : on_card_at k e c ≡ true = rw card h in
        let b = lowest_le_passing (on_card_at k e) S.shape.n c cn p in
        let t = lowest_passes (on_card_at k e) S.shape.n (omega arith) in
        let x = held_elim (L + k) e (H w) (and_right (not (witness S w)) (held (L + k) e (H w)) t) in
        let y = held_elim (L + k) e (H c) h in
        let v = not-true (witness S w) (and_left (not (witness S w)) (held (L + k) e (H w)) t) in
        (agree w c (L + k) (omega arith) cn x.within y.within (x.epoch ∙ sym y.epoch)
        ).payloads (rw (v, card)) (L + k) x.within.low (omega (arith, y.within.low)) (omega arith)

    pub epoch_below_lem : (e : ℕ) → (H c).first ≤ L + k → held (L + suc k) e (H c) ≡ true → epoch_below (suc k) e ≡ (H c).epoch (L + k)
    unfolding epoch_below Agree
    epoch_below_lem e low h =
        let w = lowest (held_two k e) S.shape.n in
        let p : held_two k e c ≡ true = rw (le-leb (H c).first (L + k) low) h in
        let b = lowest_le_passing (held_two k e) S.shape.n c cn p in
        let t = lowest_passes (held_two k e) S.shape.n (omega arith) in
        let x = held_elim (L + suc k) e (H w) (and_right (leb (H w).first (L + k)) (held (L + suc k) e (H w)) t) in
        let y = held_elim (L + suc k) e (H c) h in
        (agree w c (L + suc k) (omega arith) cn x.within y.within (x.epoch ∙ sym y.epoch)
        ).epochs (L + k) (leb-true (H w).first (L + k) (and_left (leb (H w).first (L + k)) (held (L + suc k) e (H w)) t)) low (omega arith)

-- ---- a readable replica has its history's header, and what is supposed of it
proper_own : {first : ℕ} {h : Header} → DamagedHeader first h → is_proper h ≡ true → h ≡ proper first
unfolding is_proper
proper_own own_header e = refl
proper_own no_header e = absurd (true≢false (sym e))

-- G is the cluster taken apart under the histories' first indices: a readable replica is the same in F
pub record Linked (S : Setting) (F G : Cluster) (H : ℕ → History) : Type 0 where
  pub header : (c : ℕ) → (G c).header ≡ (F c).header
  pub same : (c : ℕ) → (F c).header ≡ proper (H c).first → G c ≡ F c
  -- a witness has no entries
  pub bare : (c k : ℕ) → witness S c ≡ true → (F c).entries k ≡ broken []

module _ (S : Setting) (F G : Cluster) (H : ℕ → History) (I e : ℕ) (p : Bytes) (s : Supposed S G H I e p) (link : Linked S F G H) where
  own_header_lem : (c : ℕ) → c < S.shape.n → (views_of S F c).readable ≡ true → (F c).header ≡ proper (H c).first
  unfolding views_of seen_as
  own_header_lem c cn ok = sym (link.header c) ∙ proper_own (s.headers c cn) (rw (link.header c) (readable_sound (S.present c) S.shape.m (F c) ok).headed)

  damaged : (c : ℕ) → c < S.shape.n → (views_of S F c).readable ≡ true → DamagedAs S.shape.m (H c) (F c) (witness S c)
  damaged c cn ok = rw (← link.same c (own_header_lem c cn ok)) (s.damaged c cn)

  pub view_first : (c : ℕ) → c < S.shape.n → (views_of S F c).readable ≡ true → (views_of S F c).first ≡ (H c).first
  unfolding views_of seen_as view_of first_index
  view_first c cn ok = ap first_index (own_header_lem c cn ok)

  view_length : (c : ℕ) → c < S.shape.n → (views_of S F c).readable ≡ true → (views_of S F c).length ≡ (H c).length
  unfolding views_of seen_as view_of
  view_length c cn ok = left_length (damaged c cn ok)

  view_epoch : (c k : ℕ) → c < S.shape.n → (views_of S F c).readable ≡ true → k < (H c).length → (views_of S F c).epoch k ≡ (H c).epoch ((H c).first + k)
  unfolding views_of seen_as view_of index
  view_epoch c k cn ok h =
      left_epoch (damaged c cn ok) k h (link.bare c k)
      ((readable_sound (S.present c) S.shape.m (F c) ok).kept k (omega (arith, left_fits (damaged c cn ok))))

  -- the slot of an index that a readable replica's log held
  pub base_holding : (c k : ℕ) → c < S.shape.n → (views_of S F c).readable ≡ true → held I e (H c) ≡ true → (views_of S F c).first + k ≡ I → Holding k e (views_of S F c)
  base_holding c k cn ok h at =
      let x = held_elim I e (H c) h in
      let f = view_first c cn ok in
      let b : k < (H c).length = omega (arith, x.within.high, f, at) in
      let g : (H c).first + k ≡ I = omega (arith, f, at) in
      record { within = omega (arith, view_length c cn ok, b); epoch = view_epoch c k cn ok b ∙ ap (H c).epoch g ∙ x.epoch }

  -- a slot that is used under this epoch was held
  pub used_held : (c k : ℕ) → c < S.shape.n → (views_of S F c).readable ≡ true → (views_of S F c).first + k ≡ I → Holding k e (views_of S F c) → held I e (H c) ≡ true
  used_held c k cn ok at u =
      let f = view_first c cn ok in
      let b : k < (H c).length = omega (arith, u.within, view_length c cn ok) in
      let g : (H c).first + k ≡ I = omega (arith, f, at) in
      held_intro I e (H c) (record { low = omega arith; high = omega arith }) (ap (H c).epoch (sym g) ∙ sym (view_epoch c k cn ok b) ∙ u.epoch)

  -- every card whose log held it held this payload
  pub one_payload : (c : ℕ) → c < S.shape.n → witness S c ≡ false → held I e (H c) ≡ true → (H c).payload I ≡ p
  unfolding Agree
  one_payload c cn card h =
      let o = s.on_card in
      let x = held_elim I e (H o.replica) o.there in
      let y = held_elim I e (H c) h in
      (s.agree c o.replica I cn o.below y.within x.within (y.epoch ∙ sym x.epoch)
      ).payloads (rw (card, o.card)) I y.within.low (omega (arith, x.within.low)) (omega arith) ∙ o.payload

  -- an entry that a card's log held, intact with its epoch, has the payload
  pub base_payload : (c k : ℕ) (q : Bytes) → c < S.shape.n → witness S c ≡ false → held I e (H c) ≡ true → (H c).first + k ≡ I → (G c).entries k ≡ intact e q → q ≡ p
  unfolding index
  base_payload c k q cn card h at x =
      let y = held_elim I e (H c) h in
      let b : k < (H c).length = omega (arith, y.within.high, at) in
      left_payload (s.damaged c cn) card k b q (rw (at, y.epoch) x) ∙ ap (H c).payload at ∙ one_payload c cn card h

  pub many : majority S.shape.n ≤ count (λ c. held I e (H c)) S.shape.n
  many = omega (arith, s.on_majority, committed_few S I e p H)

-- what is supposed of a cluster that planning does not refuse: every readable replica has the leader's first index, and K is the slot
pub record Ground (S : Setting) (F : Cluster) (H : ℕ → History) (I e : ℕ) (p : Bytes) (K : ℕ) : Type 0 where
  pub under : Cluster
  pub supposed : Supposed S under H I e p
  pub link : Linked S F under H
  pub firsts : (c : ℕ) → c < S.shape.n → (views_of S F c).readable ≡ true → (views_of S F c).first ≡ (views_of S F S.leader).first
  pub slot : (views_of S F S.leader).first + K ≡ I

module _ (S : Setting) (F : Cluster) (H : ℕ → History) (I e : ℕ) (p : Bytes) (K : ℕ) (g : Ground S F H I e p K) where
  abbrev G : Cluster
  G = g.under

  abbrev s : Supposed S G H I e p
  s = g.supposed

  abbrev pub leader_first : ℕ
  leader_first = (views_of S F S.leader).first

  -- a readable replica's history begins where the leader's log does
  pub own_first : (c : ℕ) → c < S.shape.n → (views_of S F c).readable ≡ true → (H c).first ≡ leader_first
  own_first c cn ok = sym (view_first S F G H I e p s g.link c cn ok) ∙ g.firsts c cn ok

  at_slot : (c k : ℕ) → c < S.shape.n → (views_of S F c).readable ≡ true → k < (views_of S F c).length → held (leader_first + k) ((views_of S F c).epoch k) (H c) ≡ true
  at_slot c k cn ok h =
      let b : k < (H c).length = rw (view_length S F G H I e p s g.link c cn ok) at h in
      rw (← own_first c cn ok, view_epoch S F G H I e p s g.link c k cn ok b) (held_intro ((H c).first + k) ((H c).epoch ((H c).first + k)) (H c) (within_slot (H c) k b) refl)

  at_epoch : (c k : ℕ) → c < S.shape.n → (views_of S F c).readable ≡ true → k < (views_of S F c).length → (views_of S F c).epoch k ≡ (H c).epoch (leader_first + k)
  at_epoch c k cn ok h = sym (held_elim (leader_first + k) ((views_of S F c).epoch k) (H c) (at_slot c k cn ok h)).epoch

  base_consistent : Consistent S (payload_at S H leader_first) (epoch_below S H leader_first) F
  unfolding index
  base_consistent = record {
    payloads = λ c k q cn card ok h x.
        let b : k < (H c).length = rw (view_length S F G H I e p s g.link c cn ok) at h in
        left_payload (damaged S F G H I e p s g.link c cn ok) card k b q (rw (view_epoch S F G H I e p s g.link c k cn ok b) at x)
        ∙ ap (λ (f : ℕ). (H c).payload (f + k)) (own_first c cn ok)
        ∙ sym (payload_at_lem S H leader_first s.agree c k cn ((views_of S F c).epoch k) card (at_slot c k cn ok h));
    chain = λ c k cn ok h.
        at_epoch c k cn ok (omega arith)
        ∙ sym (epoch_below_lem S H leader_first s.agree c k cn ((views_of S F c).epoch (suc k)) (omega (arith, own_first c cn ok)) (at_slot c (suc k) cn ok h));
  }

  pub ground_holding : (c : ℕ) → c < S.shape.n → (views_of S F c).readable ≡ true → held I e (H c) ≡ true → Holding K e (views_of S F c)
  ground_holding c cn ok h = base_holding S F G H I e p s g.link c K cn ok h (omega (arith, g.firsts c cn ok, g.slot))

  pub base_inv : Inv S (payload_at S H leader_first) (epoch_below S H leader_first) (λ c. held I e (H c)) K e F F
  base_inv = record {
    consistent = base_consistent;
    holders = λ c cn h r. record { used = ground_holding c cn r h; entry = λ q y. y };
  }

  pub payload_is : payload_at S H leader_first K e ≡ p
  payload_is =
      let o = s.on_card in
      payload_at_lem S H leader_first s.agree o.replica K o.below e o.card (rw g.slot o.there) ∙ ap (H o.replica).payload g.slot ∙ o.payload
