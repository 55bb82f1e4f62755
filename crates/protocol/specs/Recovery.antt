-- Document 01, "Settling": the first store still outstanding.
use Rattle.std.specs.Prelude.{ℕ, pred, Bool, true, false, cond, not, ◌&&◌, ◌||◌, eqb, ltb}
use Rattle.std.proofs.Math.Option.{Option, none, some}
use Rattle.search.specs.Search.{lowest}
use Rattle.image.specs.View.{View}
use Rattle.image.specs.Cluster.{Cluster}
use Rattle.planner.specs.Setting.{Setting, witness, views_of}
use Rattle.planner.specs.Rules.{is_faulty, is_record_lost, answers, rule, is_fetch, donor, end, Answer, Refused, Waiting, Ready, answer}
use Rattle.protocol.specs.Store.{Store, store_entry, store_record, store_blank, same_entry}

-- the first of two stores
infixr 30 ◌or◌
unfoldable pub ◌or◌ : Option Store → Option Store → Option Store
none or t = t
(some s) or t = some s

-- the store s, if k is below b
unfoldable pub if_below : ℕ → ℕ → Store → Option Store
if_below k b s = cond (ltb k b) (some s) none

module _ (S : Setting) (W : ℕ → View) where
  open S use {leader}

  -- the leader: records blanked from the last slot down to the end; fetched entries, lowest first; lost records, lowest first
  unfoldable pub leader_store : Option Store
  leader_store =
      if_below (end S W) (W leader).length (store_blank leader (pred (W leader).length))
      or if_below fetch (end S W) (store_entry leader fetch (donor S W fetch))
      or if_below lost (end S W) (store_record leader lost ((W leader).epoch lost))
    where
      fetch : ℕ
      fetch = lowest (λ k. is_fetch (rule S W k)) (end S W)

      lost : ℕ
      lost = lowest (λ k. is_record_lost ((W leader).condition k)) (end S W)

  -- slot k of c has another epoch than the leader's, or lies beyond the leader's length
  unfoldable pub differs : ℕ → ℕ → Bool
  differs c k = not (ltb k (W leader).length && eqb ((W c).epoch k) ((W leader).epoch k))

  -- 01's d; one past its last slot if none differs
  unfoldable pub first_differing : ℕ → ℕ
  first_differing c = lowest (differs c) (W c).length

  -- a follower c, whose first missing slot has another entry than the leader's if `other` says so: records blanked from its last slot
  -- down to d; faulty entries below d; lost records below d; then the first missing slot, entry before record
  unfoldable pub follower_store : Bool → ℕ → Option Store
  follower_store other c =
      if_below d len (store_blank c (pred len))
      or if_below fault d (store_entry c fault leader)
      or if_below lost d (store_record c lost ((W c).epoch lost))
      or if_below len (W leader).length (cond other (store_entry c len leader) (store_record c len ((W leader).epoch len)))
    where
      len : ℕ
      len = (W c).length

      d : ℕ
      d = first_differing c

      fault : ℕ
      fault = lowest (λ k. is_faulty ((W c).condition k)) d

      lost : ℕ
      lost = lowest (λ k. is_record_lost ((W c).condition k)) d

unfoldable pub is_some : Option Store → Bool
is_some none = false
is_some (some s) = true

-- the first store that f has for a number below b
unfoldable pub first_of : (ℕ → Option Store) → ℕ → Option Store
first_of f b = cond (ltb first b) (f first) none
  where
    first : ℕ
    first = lowest (λ c. is_some (f c)) b

unfoldable pub if_ready : Answer → Option Store → Option Store
if_ready Refused s = none
if_ready (Waiting k) s = none
if_ready (Ready k) s = s

module _ (S : Setting) (F : Cluster) where
  open S use {shape, leader}

  -- the first missing slot of c has another entry than the leader's; a witness has no entries to get (02, Seven)
  unfoldable pub unlike : ℕ → Bool
  unlike c = not (witness S c || same_entry ((F c).entries (views_of S F c).length) ((F leader).entries (views_of S F c).length))

  -- what c has still to get, if it answers
  unfoldable pub due : ℕ → Option Store
  due c = cond (answers S (views_of S F) c) (follower_store S (views_of S F) (unlike c) c) none

  unfoldable pub followers_store : Option Store
  followers_store = first_of due shape.n

  -- the first store still outstanding: none unless the plan is ready, the leader's before the others'
  unfoldable pub next : Option Store
  next = if_ready (answer S (views_of S F)) (leader_store S (views_of S F) or followers_store)

-- d if there is no store, else what f makes of it
unfoldable pub after : {A : Type 0} → Option Store → A → (Store → A) → A
after none d f = d
after (some s) d f = f s
