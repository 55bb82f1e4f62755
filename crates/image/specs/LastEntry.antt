-- Source document 003, appendix A: whether a crash or damage made the last entry faulty cannot be told from one image, of verdict 4 or 6.
use Rattle.std.specs.Prelude.{ℕ, suc, ◌≤◌, ◌≡◌, length}
use Rattle.slices.specs.Parts.{Bytes, part, spliced}
use Rattle.record.specs.declared.Shape.{Shape}
use Rattle.record.specs.Layout.{entry_size, record_bytes, blank_record}
use Rattle.record.specs.Meaning.{intact, read_entry}
use Rattle.image.specs.Image.{index, first_in, record_at, entry_at, decode_image}
use Rattle.image.specs.View.{epoch_at, log_length, card_refusal}
use Rattle.image.specs.Verdict.{verdict_at}
use Rattle.image.specs.Append.{append_refusal, appended}

-- image b, from the same image a, in two ways. Epoch e and payload p are appended to a, at slot k, and x are 240 bytes that are no
-- intact entry of that epoch
pub record TwoHistories (Z : Shape) (c : ℕ) (a b : Bytes) (k e : ℕ) (p x : Bytes) : Type 0 where
  pub accepted : append_refusal Z c a e (length p) ≡ 0
  pub slot : log_length Z.m (decode_image Z c a) ≡ k
  pub stored : verdict_at Z.m (decode_image Z c (appended Z c a e p)) k ≡ 1
  pub size : length x ≡ entry_size
  pub faulty : (q : Bytes) → read_entry (index (first_in Z c a) k) x ≡ intact e q → ⊥
  -- a crash during the append: its record arrived, and x is what stands in place of its entry
  pub crash : spliced (spliced a (entry_at Z k) x) (record_at Z k) (record_bytes e (index (first_in Z c a) k)) ≡ b
  -- damage after the append: it was stored, and its entry became x
  pub damage : spliced (appended Z c a e p) (entry_at Z k) x ≡ b

-- both histories of slot k of b, whatever payload was appended: a is b with that slot's record blank, so that x stands in a already
abbrev pub Untold : Shape → ℕ → Bytes → ℕ → Type 0
Untold Z c b k = (p : Bytes) → length p ≤ 200
    → TwoHistories Z c (spliced b (record_at Z k) blank_record) b k (epoch_at (decode_image Z c b) k) p (part b (entry_at Z k) entry_size)

-- x may be what the store of an entry of e and p for an index leaves, cut in the middle: any bytes but no intact entry except the one being
-- written (01)
abbrev pub MayBeTorn : ℕ → ℕ → Bytes → Bytes → Type 0
MayBeTorn j e p x = (f : ℕ) (q : Bytes) → read_entry j x ≡ intact f q → (f ≡ e) × (q ≡ p)

pub record LastEntry : Type 0 where
  -- every image with verdict 4 has both, and the append's entry store may have been cut in the middle
  pub untold : (Z : Shape) (c : ℕ) (b : Bytes) (k : ℕ) → card_refusal Z c b ≡ 0 → verdict_at Z.m (decode_image Z c b) k ≡ 4 → Untold Z c b k
  pub torn : (Z : Shape) (c : ℕ) (b : Bytes) (k : ℕ) → card_refusal Z c b ≡ 0 → verdict_at Z.m (decode_image Z c b) k ≡ 4
      → (p : Bytes) → MayBeTorn (index (first_in Z c b) k) (epoch_at (decode_image Z c b) k) p (part b (entry_at Z k) entry_size)
  -- with verdict 6 at the last used slot it has both too (02, Two), but there the append's entry store was not cut in the middle: of the two
  -- stores its record's alone arrived
  pub stale_untold : (Z : Shape) (c : ℕ) (b : Bytes) (k : ℕ) → card_refusal Z c b ≡ 0 → verdict_at Z.m (decode_image Z c b) k ≡ 6
      → log_length Z.m (decode_image Z c b) ≡ suc k → Untold Z c b k
  pub stale_not_torn : (Z : Shape) (c : ℕ) (b : Bytes) (k : ℕ) → card_refusal Z c b ≡ 0 → verdict_at Z.m (decode_image Z c b) k ≡ 6
      → log_length Z.m (decode_image Z c b) ≡ suc k → (p : Bytes) → ¬ (MayBeTorn (index (first_in Z c b) k) (epoch_at (decode_image Z c b) k) p (part b (entry_at Z k) entry_size))
