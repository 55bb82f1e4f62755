-- Without witnesses demand 3 supposes what document 01 says: of every replica what is said of a card, and nothing more.
use Rattle.std.specs.Prelude.{ℕ, ◌≤◌, ◌<◌, ◌≡◌, true, false}
use Rattle.search.specs.Search.{count}
use Rattle.slices.specs.Parts.{Bytes}
use Rattle.record.specs.declared.Shape.{Shape}
use Rattle.record.specs.Layout.{is_witness}
use Rattle.image.specs.Cluster.{Cluster}
use Rattle.planner.specs.Setting.{Setting}
use Rattle.planner.specs.Rules.{majority}
use Rattle.demand3.specs.Supposed.{History, DamagedHeader, Damaged, Within, SameUpTo, held, committed, Supposed}
use Rattle.demand3.specs.Before.{Flight, Before, Damage, history_of, DamagedCluster}

-- the logs agree in epochs and payloads
unfoldable pub AgreeCards : ℕ → (ℕ → History) → Type 0
AgreeCards n H = (c d i : ℕ) → c < n → d < n → Within i (H c) → Within i (H d) → (H c).epoch i ≡ (H d).epoch i → SameUpTo false i (H c) (H d)

-- over histories
pub record SupposedCards (S : Setting) (F : Cluster) (H : ℕ → History) (i e : ℕ) (p : Bytes) : Type 0 where
  pub headers : (c : ℕ) → c < S.shape.n → DamagedHeader (H c).first (F c).header
  pub damaged : (c : ℕ) → c < S.shape.n → Damaged S.shape.m (H c) (F c)
  pub agree : AgreeCards S.shape.n H
  pub on_majority : majority S.shape.n ≤ count (λ c. committed false i e p (H c)) S.shape.n
  pub leader_held : held i e (H S.leader) ≡ true

-- of a cluster before its damage
pub record DamagedCards (S : Setting) (F : Cluster) (f : ℕ → Flight) (G : Cluster) (j e : ℕ) (p : Bytes) : Type 0 where
  pub before : (c : ℕ) → c < S.shape.n → Before S.shape.m (f c) (F c)
  pub damage : (c : ℕ) → c < S.shape.n → Damage S.shape.m (F c) (G c)
  pub agree : AgreeCards S.shape.n (λ c. history_of S.shape.m (f c) (F c))
  pub on_majority : majority S.shape.n ≤ count (λ c. committed false j e p (history_of S.shape.m (f c) (F c))) S.shape.n
  pub leader_held : held j e (history_of S.shape.m (f S.leader) (F S.leader)) ≡ true

pub record WithoutWitnesses : Type 0 where
  pub card : (Z : Shape) (c : ℕ) → Z.witnesses ≡ 0 → is_witness Z c ≡ false
  pub supposed : (S : Setting) (F : Cluster) (H : ℕ → History) (i e : ℕ) (p : Bytes) → S.shape.witnesses ≡ 0 → SupposedCards S F H i e p → Supposed S F H i e p
  pub damaged : (S : Setting) (F : Cluster) (f : ℕ → Flight) (G : Cluster) (j e : ℕ) (p : Bytes) → S.shape.witnesses ≡ 0
      → DamagedCards S F f G j e p → DamagedCluster S F f G j e p
