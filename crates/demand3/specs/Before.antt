-- A cluster before the damage, in document 01's words, and what damage makes of it.
use Rattle.std.specs.Prelude.{ℕ, ◌-◌, ◌≤◌, ◌<◌, ◌≡◌, Bool, true, false, cond, []}
use Rattle.search.specs.Search.{count}
use Rattle.slices.specs.Parts.{Bytes}
use Rattle.record.specs.Meaning.{Header, improper, first_index, Record, good, blank, bad, Entry, intact, broken}
use Rattle.image.specs.Image.{Image}
use Rattle.image.specs.Cluster.{Cluster}
use Rattle.image.specs.View.{log_length, epoch_at}
use Rattle.image.specs.Verdict.{verdict_at}
use Rattle.planner.specs.Setting.{Setting, witness}
use Rattle.planner.specs.Rules.{majority}
use Rattle.demand3.specs.Supposed.{History, Agree, held, committed, OnCard}

-- what was in flight on a replica at the power failure
pub record Flight : Type 0 where
  -- which slots, and the payload that was being written to each
  pub in_flight : ℕ → Bool
  pub payload : ℕ → Bytes

-- the entry is not intact with epoch e
abbrev pub NotIntact : ℕ → Entry → Type 0
NotIntact e x = (q : Bytes) → x ≡ intact e q → ⊥

-- a used slot in flight: its record is there with its entry, or without
pub data FlightSlot (p : Bytes) : Record → Entry → Type 0 where
  arrived : {e : ℕ} → FlightSlot p (good e) (intact e p)
  record_alone : {e : ℕ} {x : Entry} → NotIntact e x → FlightSlot p (good e) x

-- a replica's image before the damage. Behind the log, where a later record in flight may have arrived alone, anything may stand
pub record Before (m : ℕ) (f : Flight) (i : Image) : Type 0 where
  -- every slot of the log that was not in flight had verdict 1 (01's stored)
  pub stored : (k : ℕ) → k < log_length m i → f.in_flight k ≡ false → verdict_at m i k ≡ 1
  pub flying : (k : ℕ) → k < log_length m i → f.in_flight k ≡ true → FlightSlot (f.payload k) (i.records k) (i.entries k)

-- a good record
pub data GoodRecord : Record → Type 0 where
  is_good : {e : ℕ} → GoodRecord (good e)

-- a witness's image before the damage (02, Seven): every used slot has a good record, in flight or not, since a record is written whole or
-- not at all
pub record WitnessBefore (m : ℕ) (i : Image) : Type 0 where
  pub records : (k : ℕ) → k < log_length m i → GoodRecord (i.records k)

-- a card's, or a witness's
pub data BeforeAs (m : ℕ) (f : Flight) (i : Image) : Bool → Type 0 where
  card_before : Before m f i → BeforeAs m f i false
  witness_before : WitnessBefore m i → BeforeAs m f i true

-- what damage makes of a slot's record and entry. A record that stands without its entry counts as a damaged entry, so it is kept
pub data SlotDamage : Record → Entry → Record → Entry → Type 0 where
  spared : {r : Record} {x : Entry} → SlotDamage r x r x
  -- the record of a used slot, into something neither blank nor good
  record_damaged : {e : ℕ} {p b : Bytes} → SlotDamage (good e) (intact e p) (bad b) (intact e p)
  -- the entry, into one that is not intact with its record's epoch
  entry_damaged : {e : ℕ} {x y : Entry} → NotIntact e y → SlotDamage (good e) x (good e) y
  -- the entry of an unused slot, into anything
  unused_damaged : {x y : Entry} → SlotDamage blank x blank y

-- what it makes of a witness's record: a good one into something neither blank nor good
pub data RecordDamage : Record → Record → Type 0 where
  record_spared : {r : Record} → RecordDamage r r
  record_spoilt : {e : ℕ} {b : Bytes} → RecordDamage (good e) (bad b)

-- a header, into one that is refused by 4
pub data HeaderDamage : Header → Header → Type 0 where
  header_spared : {h : Header} → HeaderDamage h h
  header_refused : {h : Header} {b : Bytes} → HeaderDamage h (improper b)

pub record Damage (m : ℕ) (i j : Image) : Type 0 where
  -- image i became j
  pub header : HeaderDamage i.header j.header
  pub slots : (k : ℕ) → k < m → SlotDamage (i.records k) (i.entries k) (j.records k) (j.entries k)

-- a witness's image, the same way
pub record WitnessDamage (m : ℕ) (i j : Image) : Type 0 where
  pub header : HeaderDamage i.header j.header
  pub records : (k : ℕ) → k < m → RecordDamage (i.records k) (j.records k)

-- a card's, or a witness's
pub data DamageAs (m : ℕ) (i j : Image) : Bool → Type 0 where
  card_damage : Damage m i j → DamageAs m i j false
  witness_damage : WitnessDamage m i j → DamageAs m i j true

unfoldable pub payload_in : Entry → Bytes
payload_in (intact e p) = p
payload_in (broken b) = []

-- what slot k held, or was being written to it. A witness holds none
unfoldable pub payload_at : Flight → Image → ℕ → Bytes
payload_at f i k = cond (f.in_flight k) (f.payload k) (payload_in (i.entries k))

-- the log that a replica held, what was in flight included, from the index that its header gave on
unfoldable pub history_of : ℕ → Flight → Image → History
history_of m f i = record {
  first = first_index i.header;
  length = log_length m i;
  epoch = λ j. epoch_at i (j - first_index i.header);
  payload = λ j. payload_at f i (j - first_index i.header);
  in_flight = λ j. f.in_flight (j - first_index i.header);
}

-- the indices at which the logs of a cluster began
abbrev pub firsts_of : Cluster → ℕ → ℕ
firsts_of F c = first_index (F c).header

-- what demand 3 supposes of payload p at index j under epoch e
pub record DamagedCluster (S : Setting) (F : Cluster) (f : ℕ → Flight) (G : Cluster) (j e : ℕ) (p : Bytes) : Type 0 where
  -- cluster F before the damage, with f in flight, became G, which is taken apart under the indices at which the logs of F began
  pub before : (c : ℕ) → c < S.shape.n → BeforeAs S.shape.m (f c) (F c) (witness S c)
  pub damage : (c : ℕ) → c < S.shape.n → DamageAs S.shape.m (F c) (G c) (witness S c)
  pub agree : Agree S (λ c. history_of S.shape.m (f c) (F c))
  pub on_majority : majority S.shape.n ≤ count (λ c. committed (witness S c) j e p (history_of S.shape.m (f c) (F c))) S.shape.n
  pub on_card : OnCard S (λ c. history_of S.shape.m (f c) (F c)) j e p
  pub leader_held : held j e (history_of S.shape.m (f S.leader) (F S.leader)) ≡ true
