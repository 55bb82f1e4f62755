-- Documents 01 and 02, "Refused by number", for a cluster: each number has its condition and no other, and the first that applies, in the order
-- in which they are tried, wins.
use Rattle.std.specs.Prelude.{ℕ, pred, suc, ◌/◌, ◌%◌, ◌^◌, ◌≤◌, ◌<◌, ◌≡◌, List, [], ◌∷◌, eqb, length, get_or}
use Rattle.search.specs.Search.{lowest}
use Rattle.slices.specs.Parts.{Bytes}
use Rattle.record.specs.declared.Shape.{Shape}
use Rattle.image.specs.View.{read_refusal}
use Rattle.image.specs.Cluster.{image_at, image_part, first_at}
use Rattle.planner.specs.Plan.{cluster_refusal, plan_refusal}

-- the order in which the numbers are tried: 21 behind 12, and before 13 (02, Six); 22 behind 11 (02, Seven)
unfoldable pub tried : List ℕ
tried = 1 ∷ 2 ∷ 3 ∷ 11 ∷ 22 ∷ 12 ∷ 21 ∷ 13 ∷ []

-- where a number stands in it
unfoldable pub rank : ℕ → ℕ
rank q = lowest (λ i. eqb (get_or tried i 0) q) 8

-- r is the first number in that order whose refusal applies, 0 if none does
pub record FirstApplying (Applies : ℕ → Type 0) (r : ℕ) : Type 0 where
  pub applies : ¬ (r ≡ 0) → Applies r
  pub before : (q : ℕ) → rank q < rank r → ¬ (Applies q)
  pub none : r ≡ 0 → (q : ℕ) → ¬ (Applies q)

-- bit c of a set, worth 2 to the power c, is one: replica number c + 1 is in it
abbrev pub InSet : ℕ → ℕ → Type 0
InSet set c = set / 2 ^ c % 2 ≡ 1

-- a call about the cluster b of n replicas with m slots each, of an edition, with the leader's number and the present set
pub data ClusterRefused (Z : Shape) (leading present : ℕ) (b : Bytes) : ℕ → Type 0 where
  slots : ¬ ((1 ≤ Z.m) × (Z.m ≤ 64)) → ClusterRefused Z leading present b 1
  replicas : ¬ ((3 ≤ Z.n) × (Z.n ≤ 7)) → ClusterRefused Z leading present b 2
  edition : ¬ ((1 ≤ Z.edition) × (Z.edition ≤ 2)) → ClusterRefused Z leading present b 2
  size : ¬ (length b ≡ image_at Z Z.n) → ClusterRefused Z leading present b 3
  -- a bit for no replica: theirs are the bits below n
  stray : (c : ℕ) → Z.n ≤ c → InSet present c → ClusterRefused Z leading present b 11
  -- the same of the set of witnesses
  stray_witness : (c : ℕ) → Z.n ≤ c → InSet Z.witnesses c → ClusterRefused Z leading present b 22
  -- the leader is not 1 to n, not in the set, or unreadable: its own image is refused; or a witness, its image readable or not
  no_leader : ¬ ((1 ≤ leading) × (leading ≤ Z.n)) → ClusterRefused Z leading present b 12
  away : ¬ (InSet present (pred leading)) → ClusterRefused Z leading present b 12
  unreadable : ¬ (read_refusal Z leading (image_part Z b (pred leading)) ≡ 0) → ClusterRefused Z leading present b 12
  leader_witness : InSet Z.witnesses (pred leading) → ClusterRefused Z leading present b 12
  -- a replica in the set that is readable has a log that begins at another index than the leader's
  other_first : (c : ℕ) → c < Z.n → InSet present c → read_refusal Z (suc c) (image_part Z b c) ≡ 0 → ¬ (first_at Z b c ≡ first_at Z b (pred leading))
      → ClusterRefused Z leading present b 21

-- the planner's call, lent a plan of so many bytes and a table of so many rows
pub data PlanRefused (Z : Shape) (leading present : ℕ) (b : Bytes) (bytes rows : ℕ) : ℕ → Type 0 where
  cluster : {q : ℕ} → ClusterRefused Z leading present b q → PlanRefused Z leading present b bytes rows q
  plan : ¬ (bytes ≡ Z.m) → PlanRefused Z leading present b bytes rows 13
  table : ¬ (rows ≡ Z.n) → PlanRefused Z leading present b bytes rows 13

pub record ClusterRefusalClaim : Type 0 where
  pub recovering : (Z : Shape) (leading present : ℕ) (b : Bytes)
      → FirstApplying (ClusterRefused Z leading present b) (cluster_refusal Z leading present b)
  pub planning : (Z : Shape) (leading present : ℕ) (b : Bytes) (bytes rows : ℕ)
      → FirstApplying (PlanRefused Z leading present b bytes rows) (plan_refusal Z leading present b bytes rows)
  -- every log of edition 1 begins at index 1: 21 never comes there
  pub edition_one : (Z : Shape) (leading present : ℕ) (b : Bytes) → Z.edition ≡ 1 → ¬ (cluster_refusal Z leading present b ≡ 21)
