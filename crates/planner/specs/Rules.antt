-- Document 01, "Asking the fleet": answers, rules and the end of the log, as functions of the views W of the replicas.
use Rattle.std.specs.Prelude.{ℕ, ◌+◌, ◌-◌, ◌/◌, Bool, true, false, cond, not, ◌&&◌, ◌||◌, eqb, ltb}
use Rattle.search.specs.Search.{lowest, count, all}
use Rattle.image.specs.View.{condition_number, View}
use Rattle.image.specs.declared.condition.Condition.{Condition}
use Rattle.image.specs.Read.{is_whole}
use Rattle.planner.specs.Setting.{Setting, witness}

-- 01's majority, and of an even n 02's (One): more than half of n
unfoldable pub majority : ℕ → ℕ
majority n = n / 2 + 1

-- d don't-haves of n allow a truncation (01's cut, as 02 has it, Eight): those that did not answer don't-have, the leader and those away
-- included, are fewer than a majority
unfoldable pub may_truncate : ℕ → ℕ → Bool
may_truncate n d = ltb (n - d) (majority n)

-- 01's faulty: verdicts 3 and 4, and 02's 6 (Two)
unfoldable pub is_faulty : Condition → Bool
is_faulty a = eqb (condition_number a) 3

unfoldable pub is_record_lost : Condition → Bool
is_record_lost a = eqb (condition_number a) 2

-- a witness's used slot (02, Seven): it answers have-faulty, and no entry is missing there
unfoldable pub is_record_only : Condition → Bool
is_record_only a = eqb (condition_number a) 5

unfoldable pub is_used : Condition → Bool
is_used a = not (eqb (condition_number a) 0)

-- what to do about a slot of the leader
pub data Rule : Type 0 where
  Keep Fetch Truncate Wait : Rule

unfoldable pub is_truncate : Rule → Bool
is_truncate Keep = false
is_truncate Fetch = false
is_truncate Truncate = true
is_truncate Wait = false

unfoldable pub is_fetch : Rule → Bool
is_fetch Keep = false
is_fetch Fetch = true
is_fetch Truncate = false
is_fetch Wait = false

unfoldable pub is_wait : Rule → Bool
is_wait Keep = false
is_wait Fetch = false
is_wait Truncate = false
is_wait Wait = true

module _ (S : Setting) (W : ℕ → View) where
  open S use {shape, leader}

  -- c answers: it is readable, present and not the leader
  unfoldable pub answers : ℕ → Bool
  answers c = not (eqb c leader) && (W c).readable

  -- slot k of c is used under the leader's epoch there
  unfoldable pub agrees : ℕ → ℕ → Bool
  agrees c k = is_used ((W c).condition k) && eqb ((W c).epoch k) ((W leader).epoch k)

  unfoldable pub have : ℕ → ℕ → Bool
  have k c = answers c && is_whole ((W c).condition k) && agrees c k

  unfoldable pub have_faulty : ℕ → ℕ → Bool
  have_faulty k c = answers c && (is_faulty ((W c).condition k) || is_record_only ((W c).condition k)) && agrees c k

  unfoldable pub dont_have : ℕ → ℕ → Bool
  dont_have k c = answers c && not (agrees c k)

  -- the lowest-numbered replica that has slot k intact; n if none has
  unfoldable pub donor : ℕ → ℕ
  donor k = lowest (have k) shape.n

  -- the rules, in their order: fetch, truncate if the don't-haves allow it, wait
  unfoldable pub rule : ℕ → Rule
  rule k =
      cond (is_faulty ((W leader).condition k))
      (cond (ltb (donor k) shape.n) Fetch (cond (may_truncate shape.n (count (dont_have k) shape.n)) Truncate Wait))
      Keep

  -- the lowest truncated slot ends the log; all later ones go with it
  unfoldable pub end : ℕ
  end = lowest (λ k. is_truncate (rule k)) (W leader).length

  -- the lowest slot below the end that waits; the end if none does
  unfoldable pub first_waiting : ℕ
  first_waiting = lowest (λ k. is_wait (rule k)) end

-- a leader is readable, and no witness (02, Seven)
unfoldable pub may_lead : Setting → (ℕ → View) → Bool
may_lead S W = (W S.leader).readable && not (witness S S.leader)

-- every readable present replica's log begins at the leader's first index (02, Six)
unfoldable pub same_firsts : Setting → (ℕ → View) → Bool
same_firsts S W = all (λ c. not (W c).readable || eqb (W c).first (W S.leader).first) S.shape.n

-- refused by 12 or 21, waiting with the lowest waiting slot, or ready with the final length
pub data Answer : Type 0 where
  Refused : Answer
  Waiting : ℕ → Answer
  Ready : ℕ → Answer

unfoldable pub answer : Setting → (ℕ → View) → Answer
answer S W =
    cond (may_lead S W && same_firsts S W)
    (cond (ltb (first_waiting S W) (end S W)) (Waiting (first_waiting S W)) (Ready (end S W)))
    Refused
