-- The rule for a truncation is the earliest safe one (02, Eight): a test of n and of the number of don't-haves that truncates with fewer of
-- them truncates, in some cluster, a payload that stood committed on a majority. The clusters are those of the table in `starred`: the
-- leader's entry is noise, the next d replicas answer don't-have, and the others, which have it, are away.
use Rattle.std.specs.Prelude.{ℕ, suc, ◌-◌, ◌≡◌, Bool, true, false, cond, ◌||◌, eqb, ltb}
use Rattle.search.specs.Search.{count}
use Rattle.image.specs.View.{View, is_size}
use Rattle.image.specs.Cluster.{Cluster, decode_with}
use Rattle.planner.specs.Setting.{Setting}
use Rattle.planner.specs.Rules.{majority, may_truncate, is_faulty, dont_have, donor, Rule, Keep, Fetch, Truncate, Wait, rule}
use Rattle.planner.specs.Plan.{views_in}
use Rattle.protocol.specs.Call.{named, refusal_in}
use Rattle.protocol.specs.CallResult.{waiting}
use Rattle.example.specs.Undamaged.{payload_a, empty_image, image_a}
use Rattle.starred.specs.Cards.{with_one}
use Rattle.starred.specs.Sizes.{asked, cards, planned}
use Rattle.demand3.specs.Before.{firsts_of, DamagedCluster}
use Rattle.demand3.specs.Histories.{no_flights}

-- the rules with another test of n and the number of don't-haves
unfoldable pub rule_by : (ℕ → ℕ → Bool) → Setting → (ℕ → View) → ℕ → Rule
rule_by test S W k =
    cond (is_faulty ((W S.leader).condition k))
    (cond (ltb (donor S W k) S.shape.n) Fetch (cond (test S.shape.n (count (dont_have S W k) S.shape.n)) Truncate Wait))
    Keep

-- before the damage all but the d replicas after the leader had A
unfoldable pub undamaged_but : ℕ → Cluster
undamaged_but d c = cond (eqb c 0 || ltb d c) image_a empty_image

-- n replicas, d don't-haves: A stood committed on a majority, the plan waits for it, and by the other test it is truncated
pub record TruncatesCommitted (test : ℕ → ℕ → Bool) (n d : ℕ) : Type 0 where
  pub accepted : refusal_in (asked n d) (cards n d) ≡ 0
  pub committed : DamagedCluster (named (asked n d)) (undamaged_but d) no_flights (decode_with (with_one n) (firsts_of (undamaged_but d)) (cards n d)) 1 2 payload_a
  pub lacking : count (dont_have (named (asked n d)) (views_in (named (asked n d)) (cards n d)) 0) n ≡ d
  pub waits : planned n d ≡ waiting 1
  pub truncated : rule_by test (named (asked n d)) (views_in (named (asked n d)) (cards n d)) 0 ≡ Truncate

pub record Earliest : Type 0 where
  -- with the test as it is these are the rules
  pub same : (S : Setting) (W : ℕ → View) (k : ℕ) → rule_by may_truncate S W k ≡ rule S W k
  -- any test that truncates where that one does not
  pub earlier : (test : ℕ → ℕ → Bool) (n d : ℕ) → is_size n ≡ true → may_truncate n d ≡ false → test n d ≡ true → TruncatesCommitted test n d
  -- so, for every n, does the test that asks for one don't-have fewer
  pub one_fewer : (n : ℕ) → is_size n ≡ true → TruncatesCommitted (λ n d. may_truncate n (suc d)) n (n - majority n)
