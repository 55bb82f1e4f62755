-- Document 02, requests One and Eight: for each n, how many don't-haves cut and how many wait. The leader's slot is faulty, the next d
-- replicas answer don't-have, and the others, which have it, are away.
use Rattle.std.specs.Prelude.{ℕ, suc, ◌+◌, ◌^◌, ◌-◌, ◌≡◌, cond, List, [], ◌∷◌, eqb, leb}
use Rattle.search.specs.Search.{listed, joined}
use Rattle.slices.specs.Parts.{Bytes}
use Rattle.planner.specs.Plan.{views_in, plan_byte}
use Rattle.protocol.specs.Call.{plan, Numbers, named}
use Rattle.protocol.specs.CallResult.{Result, call_result, refused, ready, waiting}
use Rattle.starred.specs.Cards.{with_one, faulty_of, has_of, lacks_of}

-- leader 1; it and the next d are present
abbrev pub asked : ℕ → ℕ → Numbers
asked n d = record { shape = with_one n; leader = 1; present = 2 ^ (d + 1) - 1 }

unfoldable pub cards : ℕ → ℕ → Bytes
cards n d = joined n (λ c. cond (eqb c 0) (faulty_of n 1) (cond (leb c d) (lacks_of n (suc c)) (has_of n (suc c))))

unfoldable pub planned : ℕ → ℕ → Result
planned n d = call_result (asked n d) (plan 1 n) (cards n d)

-- the answer, and the plan byte of the slot, for d = 0 to n - 1
unfoldable pub answers : ℕ → List Result
answers n = listed n (planned n)

unfoldable pub bytes : ℕ → Bytes
bytes n = listed n (λ d. plan_byte (named (asked n d)) (views_in (named (asked n d)) (cards n d)) 0)

pub record Sizes : Type 0 where
  -- two of three, two of four, three of five, three of six and four of seven cut; fewer wait
  pub three : answers 3 ≡ waiting 1 ∷ waiting 1 ∷ ready 0 ∷ []
  pub four : answers 4 ≡ waiting 1 ∷ waiting 1 ∷ ready 0 ∷ ready 0 ∷ []
  pub five : answers 5 ≡ waiting 1 ∷ waiting 1 ∷ waiting 1 ∷ ready 0 ∷ ready 0 ∷ []
  pub six : answers 6 ≡ waiting 1 ∷ waiting 1 ∷ waiting 1 ∷ ready 0 ∷ ready 0 ∷ ready 0 ∷ []
  pub seven : answers 7 ≡ waiting 1 ∷ waiting 1 ∷ waiting 1 ∷ waiting 1 ∷ ready 0 ∷ ready 0 ∷ ready 0 ∷ []
  -- the plan's byte: 3 wait, 4 cut
  pub three_bytes : bytes 3 ≡ 3 ∷ 3 ∷ 4 ∷ []
  pub four_bytes : bytes 4 ≡ 3 ∷ 3 ∷ 4 ∷ 4 ∷ []
  pub five_bytes : bytes 5 ≡ 3 ∷ 3 ∷ 3 ∷ 4 ∷ 4 ∷ []
  pub six_bytes : bytes 6 ≡ 3 ∷ 3 ∷ 3 ∷ 4 ∷ 4 ∷ 4 ∷ []
  pub seven_bytes : bytes 7 ≡ 3 ∷ 3 ∷ 3 ∷ 3 ∷ 4 ∷ 4 ∷ 4 ∷ []
  -- of four, two don't-haves, and the one that has it is present too: it is fetched from that one
  pub four_intact : call_result (asked 4 3) (plan 1 4) (cards 4 2) ≡ ready 1
  pub four_intact_byte : plan_byte (named (asked 4 3)) (views_in (named (asked 4 3)) (cards 4 2)) 0 ≡ 14
  -- two and eight replicas are no cluster
  pub two : planned 2 1 ≡ refused 2
  pub eight : planned 8 7 ≡ refused 2
