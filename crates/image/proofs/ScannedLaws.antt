-- What the scan works out of its slots is what View.antt says of the image.
use Prim.Native.Nat.{ℕ, suc, ◌+◌, ◌-◌, ◌<◌}
use mathlib.Core.Path.{◌≡◌, refl, sym, ap, ◌∙◌}
use mathlib.Core.Bool.{Bool, true, false, cond, not, ◌||◌, true≢false}
use mathlib.Core.List.{List}
use native.Mathlib.Omega.{arith}
use native.Mathlib.Decide.{dec_lt}
use lib.Dec.{eqb, leb, ltb}
use lib.ListN.{length, get_or, take, drop, length-take, length-drop}
use lib.Seq.{get_or-take, get_or-drop}
use borrow.Author.Tests.{le-ltb, lt-ltb, not-false}
use Rattle.std.specs.List.{list_any}
use Rattle.search.specs.Search.{all, listed}
use Rattle.search.proofs.SearchLaws.{lowest_cong, all_cong, all_elim, all_intro}
use Rattle.search.proofs.ListedLaws.{length_listed, get_d_listed}
use Rattle.search.proofs.ChainLaws.{any_off, any_none_at, any_all, all_beyond}
use Rattle.record.specs.Meaning.{Record, good, blank, bad, Entry, intact, broken}
use Rattle.image.specs.Refusal.{refuse, ◌else◌}
use Rattle.image.specs.Image.{Image}
use Rattle.image.specs.View.{condition, condition_at, epoch_at, is_blank, is_unused, is_lost, log_length, no_gap, none_lost, rising, condition_number}
use Rattle.image.specs.declared.condition.Condition.TheVariants.{Unused, Whole, Faulty}
use Rattle.image.specs.declared.condition.Slot.{Slot}
use Rattle.image.specs.Seen.{slot_of, slot_in}
use Rattle.image.specs.Scan.{length_in, gap_in, lost_in, falls_in, scan_refusal}
use Rattle.image.proofs.ViewLaws.{length_le}

-- ---- an unused slot

pub blank_unused : (r : Record) (x : Entry) → is_blank r ≡ is_unused (condition r x)
unfolding is_blank is_unused condition
blank_unused (good e) (intact f p) = go (eqb e f)
  where
    go : (t : Bool) → false ≡ eqb (condition_number (cond t Whole Faulty)) 0
    go true = refl
    go false = refl
blank_unused (good e) (broken b) = refl
blank_unused blank x = refl
blank_unused (bad b) (intact e p) = refl
blank_unused (bad b) (broken d) = refl

-- ---- the image that was scanned

or_on : (b : Bool) → b || true ≡ true
or_on true = refl
or_on false = refl

-- an element of a list of which the first m are known
pub taken_at : {A : Type 0} (m : ℕ) (f : ℕ → A) (l : List A) (d : A) → take m l ≡ listed m f → (k : ℕ) → k < m → get_or l k d ≡ f k
taken_at {A} m f l d e k h = sym (get_or-take m l k d h) ∙ ap (λ (z : List A). get_or z k d) e ∙ get_d_listed m f k d h

module _ (m : ℕ) (i : Image) where
  abbrev scanned : List Slot
  scanned = listed m (slot_of i)

  abbrev unused_slot : Slot
  unused_slot = record { condition = Unused; epoch = 0 }

  here : (k : ℕ) → k < m → slot_in scanned k ≡ slot_of i k
  here k h = get_d_listed m (slot_of i) k unused_slot h

  unused_here : (k : ℕ) → k < m → is_unused (slot_in scanned k).condition ≡ is_blank (i.records k)
  unfolding condition_at
  unused_here k h = rw (here k h) (sym (blank_unused (i.records k) (i.entries k)))

  pub length_scanned : length_in scanned ≡ log_length m i
  unfolding length_in log_length
  length_scanned = rw (length_listed m (slot_of i)) (lowest_cong _ _ m unused_here)

  pub lost_scanned : lost_in scanned ≡ not (none_lost m i)
  unfolding lost_in none_lost
  lost_scanned =
      rw (any_all (λ (s : Slot). is_lost s.condition) scanned unused_slot, length_listed m (slot_of i))
      (ap not (all_cong _ _ m (λ k h. rw (here k h))))

  module _ (len : ℕ) where
    abbrev gap : Slot → Bool
    gap s = not (is_unused s.condition)

    abbrev free : ℕ → Bool
    free k = ltb k len || is_blank (i.records k)

    behind : (k : ℕ) → k < length (drop len scanned) → (len + k < m) × (get_or (drop len scanned) k unused_slot ≡ slot_of i (len + k))
    behind k h =
        let w : len + k < m = omega (arith, length-drop len scanned, length_listed m (slot_of i)) in
        (w, get_or-drop len scanned k unused_slot ∙ here (len + k) w)

    pub gap_scanned : gap_in len scanned ≡ not (all free m)
    unfolding gap_in condition_at
    gap_scanned = go (list_any gap (drop len scanned)) refl (all free m) refl
      where
        go : (a : Bool) → list_any gap (drop len scanned) ≡ a → (t : Bool) → all free m ≡ t → a ≡ not t
        go true e false f = refl
        go false e true f = refl
        go true e true f =
            absurd (true≢false (sym e ∙ any_off gap (drop len scanned) unused_slot (λ k h.
            let w = behind k h in
            let b = all_elim free m f (len + k) w.0 in
            let c : is_blank (i.records (len + k)) ≡ true = rw (le-ltb (len + k) len (omega arith)) at b in
            rw (w.1, ← blank_unused (i.records (len + k)) (i.entries (len + k)), c))))
        go false e false f =
            absurd (true≢false (sym (all_intro free m (λ k h. here_free k h (dec_lt k len))) ∙ f))
          where
            here_free : (k : ℕ) → k < m → Dec (k < len) → free k ≡ true
            here_free k h (yes l) = rw (lt-ltb k len l)
            here_free k h (no l) =
                let j : len + (k - len) ≡ k = omega arith in
                let w = any_none_at gap (drop len scanned) unused_slot e (k - len) (omega (arith, length-drop len scanned, length_listed m (slot_of i))) in
                let u : not (is_unused (slot_of i k).condition) ≡ false = rw ((behind (k - len) (omega (arith, length-drop len scanned, length_listed m (slot_of i)))).1, j) at w in
                rw (blank_unused (i.records k) (i.entries k), not-false _ u) (or_on (ltb k len))

  pub rising_scanned : falls_in (take (log_length m i) scanned) ≡ not (rising m i)
  unfolding falls_in rising
  rising_scanned =
      let few = length_le m i in
      let size : length (take (log_length m i) scanned) ≡ log_length m i = length-take (log_length m i) scanned ∙ omega (arith, length_listed m (slot_of i)) in
      rw size
      (ap not (all_cong _ rises (log_length m i) (λ k h. one k h (dec_lt (suc k) (log_length m i)))
      ∙ all_beyond rises (log_length m i) m few (λ k h. rw (le-ltb (suc k) (log_length m i) (omega arith)))))
    where
      rises : ℕ → Bool
      rises k = not (ltb (suc k) (log_length m i)) || leb (epoch_at i k) (epoch_at i (suc k))

      used : List Slot
      used = take (log_length m i) scanned

      there : (k : ℕ) → k < log_length m i → slot_in used k ≡ slot_of i k
      there k h = get_or-take (log_length m i) scanned k unused_slot h ∙ here k (omega (arith, length_le m i))

      one : (k : ℕ) → k < log_length m i → Dec (suc k < log_length m i)
          → (not (ltb (suc k) (log_length m i)) || leb (slot_in used k).epoch (slot_in used (suc k)).epoch) ≡ rises k
      one k h (yes l) = rw (there k h, there (suc k) l)
      one k h (no l) = rw (le-ltb (suc k) (log_length m i) (omega arith))

  pub refusal_scanned : (len : ℕ) → len ≡ log_length m i
      → scan_refusal len scanned ≡ (refuse 5 (not (no_gap m i)) else refuse 6 (not (none_lost m i)) else refuse 7 (not (rising m i)))
  unfolding scan_refusal no_gap
  refusal_scanned len e = rw (e, gap_scanned (log_length m i), lost_scanned, rising_scanned)
