-- What the cards of the second table mean and how they are planned, for 3 to 7 replicas and every number of don't-haves that waits.
use Prim.Native.Nat.{ℕ, suc, ◌+◌, ◌-◌, ◌≤◌}
use mathlib.Core.Path.{◌≡◌}
use mathlib.Core.Bool.{Bool, true, cond, ◌||◌}
use mathlib.Core.List.{List, [], ◌∷◌}
use native.Mathlib.Omega.{arith}
use lib.Dec.{eqb, leb, ltb}
use Rattle.search.specs.Search.{count, listed}
use Rattle.search.proofs.ListedLaws.{listed_at}
use Rattle.record.specs.Layout.{fresh_entry}
use Rattle.record.specs.Meaning.{proper, Record, good, blank, Entry, intact, broken}
use Rattle.image.specs.Cluster.{decode}
use Rattle.planner.specs.Rules.{majority, is_faulty, dont_have, donor}
use Rattle.planner.specs.Plan.{views_in}
use Rattle.protocol.specs.Call.{named, refusal_in}
use Rattle.protocol.specs.CallResult.{waiting}
use Rattle.starred.specs.Cards.{with_one, noise}
use Rattle.starred.specs.Sizes.{asked, cards, planned}

-- f for each n from 3 to 7 and each d that leaves a majority
unfoldable pub over : {A : Type 0} → (ℕ → ℕ → A) → List (List A)
over f = listed 5 (λ i. listed (suc (i + 3 - majority (i + 3))) (f (i + 3)))

-- replica c is not one of the d don't-haves
abbrev pub holds : ℕ → ℕ → Bool
holds d c = eqb c 0 || ltb d c

-- its record and its entry
unfoldable pub record_of : ℕ → ℕ → Record
record_of d c = cond (holds d c) (good 2) blank

unfoldable pub entry_of : ℕ → ℕ → Entry
entry_of d c = cond (eqb c 0) (broken noise) (cond (ltb d c) (intact 2 (65 ∷ [])) (broken fresh_entry))

pub record Seen : Type 0 where
  pub headers : over (λ n d. listed n (λ c. (decode (with_one n) (cards n d) c).header)) ≡ over (λ n d. listed n (λ c. proper 1))
  pub records : over (λ n d. listed n (λ c. (decode (with_one n) (cards n d) c).records 0)) ≡ over (λ n d. listed n (record_of d))
  pub entries : over (λ n d. listed n (λ c. (decode (with_one n) (cards n d) c).entries 0)) ≡ over (λ n d. listed n (entry_of d))
  pub accepted : over (λ n d. refusal_in (asked n d) (cards n d)) ≡ over (λ n d. 0)
  pub faulty : over (λ n d. is_faulty ((views_in (named (asked n d)) (cards n d) 0).condition 0)) ≡ over (λ n d. true)
  pub donors : over (λ n d. donor (named (asked n d)) (views_in (named (asked n d)) (cards n d)) 0) ≡ over (λ n d. n)
  pub lacking : over (λ n d. count (dont_have (named (asked n d)) (views_in (named (asked n d)) (cards n d)) 0) n) ≡ over (λ n d. d)
  pub holders : over (λ n d. leb (majority n) (count (holds d) n)) ≡ over (λ n d. true)
  pub waits : over planned ≡ over (λ n d. waiting 1)

pub over_at : {A : Type 0} (f g : ℕ → ℕ → A) → over f ≡ over g → (n d : ℕ) → 3 ≤ n → n ≤ 7 → majority n + d ≤ n → f n d ≡ g n d
unfolding over
over_at f g e n d low high few =
    let q : n - 3 + 3 ≡ n = omega arith in
    rw q at
    (listed_at (suc (n - 3 + 3 - majority (n - 3 + 3))) (f (n - 3 + 3)) (g (n - 3 + 3))
    (listed_at 5 (λ i. listed (suc (i + 3 - majority (i + 3))) (f (i + 3))) (λ i. listed (suc (i + 3 - majority (i + 3))) (g (i + 3))) e (n - 3) (omega arith))
    d (rw q (omega arith)))
