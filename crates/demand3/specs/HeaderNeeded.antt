-- What demand 3 supposes of headers is needed (02, Six): a cluster of which all else that it supposes holds, and in which a step overwrites
-- the record of the payload.
use Rattle.std.specs.Prelude.{ℕ, ◌≤◌, ◌<◌, ◌≡◌, true, false}
use Rattle.search.specs.Search.{count}
use Rattle.record.specs.Layout.{record_bytes}
use Rattle.record.specs.Meaning.{proper}
use Rattle.image.specs.Cluster.{Cluster, decode_with}
use Rattle.planner.specs.Rules.{majority}
use Rattle.protocol.specs.Call.{step, named, refusal_in}
use Rattle.protocol.specs.CallResult.{call_bytes}
use Rattle.example.specs.Undamaged.{payload_a}
use Rattle.example_later.specs.Misheaded.{of_misheaded, misheaded, undamaged_misheaded, misheaded_cluster}
use Rattle.demand3.specs.Supposed.{History, Damaged, held, committed}
use Rattle.demand3.specs.Before.{history_of}
use Rattle.demand3.specs.Cards.{AgreeCards}
use Rattle.demand3.specs.Claim.{record_in}
use Rattle.demand3.specs.Histories.{no_flights}

-- what the logs held: A at index 3, on all three
unfoldable pub misheaded_logs : ℕ → History
misheaded_logs c = history_of 1 (no_flights c) (undamaged_misheaded c)

-- the images, each taken apart under the first index of its log
unfoldable pub misheaded_images : Cluster
misheaded_images = decode_with of_misheaded (λ c. (misheaded_logs c).first) misheaded_cluster

pub record HeaderNeeded : Type 0 where
  pub accepted : refusal_in misheaded misheaded_cluster ≡ 0
  -- every supposition but that on headers
  pub damaged : (c : ℕ) → c < 3 → Damaged 1 (misheaded_logs c) (misheaded_images c)
  pub agree : AgreeCards 3 misheaded_logs
  pub on_majority : majority 3 ≤ count (λ c. committed false 3 2 payload_a (misheaded_logs c)) 3
  pub leader_held : held 3 2 (misheaded_logs 0) ≡ true
  -- the leader's header is a good one of another first index
  pub header : (misheaded_images 0).header ≡ proper 5
  -- the leader's record of A, at first and after one step
  pub before : record_in (named misheaded) misheaded_cluster 0 0 ≡ record_bytes 2 3
  pub after : record_in (named misheaded) (call_bytes misheaded step misheaded_cluster) 0 0 ≡ record_bytes 1 5
