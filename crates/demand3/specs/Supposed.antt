-- What demand 3 supposes, over histories: for each replica the slots whose record was there at the power failure, by their indices (02, Six).
use Rattle.std.specs.Prelude.{ℕ, ◌+◌, ◌≤◌, ◌<◌, ◌≡◌, Bool, true, false, not, ◌&&◌, ◌||◌, eqb, leb, ltb}
use Rattle.search.specs.Search.{count}
use Rattle.slices.specs.Parts.{Bytes}
use Rattle.slices.specs.Same.{same}
use Rattle.record.specs.Meaning.{Header, proper, improper, Record, good, blank, bad, Entry, intact}
use Rattle.image.specs.Image.{Image, index}
use Rattle.image.specs.Cluster.{Cluster}
use Rattle.planner.specs.Setting.{Setting, witness}
use Rattle.planner.specs.Rules.{majority}

-- a log of so many slots, from this index on
pub record History : Type 0 where
  pub first : ℕ
  pub length : ℕ
  pub epoch : ℕ → ℕ
  pub payload : ℕ → Bytes
  pub in_flight : ℕ → Bool

-- a slot of a history with this pair, and what damage may have left of it: nothing, its record bad, or its entry not intact with its epoch
pub data DamagedSlot (e : ℕ) (p : Bytes) : Record → Entry → Type 0 where
  undamaged : DamagedSlot e p (good e) (intact e p)
  record_bad : {b : Bytes} → DamagedSlot e p (bad b) (intact e p)
  entry_bad : {x : Entry} → ((q : Bytes) → x ≡ intact e q → ⊥) → DamagedSlot e p (good e) x

-- a slot of a witness's history under this epoch (02, Seven): its record is good, or bad
pub data DamagedRecord (e : ℕ) : Record → Type 0 where
  record_good : DamagedRecord e (good e)
  record_spoilt : {b : Bytes} → DamagedRecord e (bad b)

-- the header is the history's own, or one that is refused by 4. No other good header: it would give another index to every slot
pub data DamagedHeader (first : ℕ) : Header → Type 0 where
  own_header : DamagedHeader first (proper first)
  no_header : {b : Bytes} → DamagedHeader first (improper b)

-- an image, taken apart under the history's first index. The record of the first slot past the history is blank; entries there and later
-- slots are free
pub record Damaged (m : ℕ) (h : History) (i : Image) : Type 0 where
  pub fits : h.length ≤ m
  pub used : (k : ℕ) → k < h.length
      → DamagedSlot (h.epoch (index h.first k)) (h.payload (index h.first k)) (i.records k) (i.entries k)
  pub unused : h.length < m → i.records h.length ≡ blank

-- a witness's image, the same way (02, Seven)
pub record DamagedWitness (m : ℕ) (h : History) (i : Image) : Type 0 where
  pub fits : h.length ≤ m
  pub used : (k : ℕ) → k < h.length → DamagedRecord (h.epoch (index h.first k)) (i.records k)
  pub unused : h.length < m → i.records h.length ≡ blank

-- a card's, or a witness's
pub data DamagedAs (m : ℕ) (h : History) (i : Image) : Bool → Type 0 where
  card_left : Damaged m h i → DamagedAs m h i false
  witness_left : DamagedWitness m h i → DamagedAs m h i true

-- the history has a slot of index i
pub record Within (i : ℕ) (h : History) : Type 0 where
  pub low : h.first ≤ i
  pub high : i < h.first + h.length

-- two logs with the same epoch at one index hold the same pairs there and at every lower index that both keep; where one of them is a
-- witness's they agree by their epochs alone (02, Seven)
pub record SameUpTo (witnessed : Bool) (i : ℕ) (h g : History) : Type 0 where
  pub epochs : (j : ℕ) → h.first ≤ j → g.first ≤ j → j ≤ i → h.epoch j ≡ g.epoch j
  pub payloads : witnessed ≡ false → (j : ℕ) → h.first ≤ j → g.first ≤ j → j ≤ i → h.payload j ≡ g.payload j

unfoldable pub Agree : Setting → (ℕ → History) → Type 0
Agree S H =
    (c d i : ℕ) → c < S.shape.n → d < S.shape.n → Within i (H c) → Within i (H d) → (H c).epoch i ≡ (H d).epoch i
    → SameUpTo (witness S c || witness S d) i (H c) (H d)

-- the history holds index i under epoch e, in flight or not
unfoldable pub held : ℕ → ℕ → History → Bool
held i e h = leb h.first i && (ltb i (h.first + h.length) && eqb (h.epoch i) e)

-- 01's stored: it holds payload p there, and that was not in flight. On a witness its good record counts as stored (02, Seven)
unfoldable pub committed : Bool → ℕ → ℕ → Bytes → History → Bool
committed witness i e p h = held i e h && ((witness || same (h.payload i) p) && not (h.in_flight i))

-- a card's log held payload p there, in flight or not. Without witnesses that follows from a majority (Cards.antt)
pub record OnCard (S : Setting) (H : ℕ → History) (i e : ℕ) (p : Bytes) : Type 0 where
  pub replica : ℕ
  pub below : replica < S.shape.n
  pub card : witness S replica ≡ false
  pub there : held i e (H replica) ≡ true
  pub payload : (H replica).payload i ≡ p

-- what demand 3 supposes of a payload p at index i under epoch e: it stood committed on a majority of all n, each with a log of its own first
-- index, a card's log held it, and the leader's did
pub record Supposed (S : Setting) (F : Cluster) (H : ℕ → History) (i e : ℕ) (p : Bytes) : Type 0 where
  pub headers : (c : ℕ) → c < S.shape.n → DamagedHeader (H c).first (F c).header
  pub damaged : (c : ℕ) → c < S.shape.n → DamagedAs S.shape.m (H c) (F c) (witness S c)
  pub agree : Agree S H
  pub on_majority : majority S.shape.n ≤ count (λ c. committed (witness S c) i e p (H c)) S.shape.n
  pub on_card : OnCard S H i e p
  pub leader_held : held i e (H S.leader) ≡ true
