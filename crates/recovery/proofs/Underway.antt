-- A run that is underway: what it has made, and what it has still to make.
use Prim.Native.Nat.{ℕ, zero, suc, ◌+◌, ◌-◌, ◌≤◌, ◌<◌}
use mathlib.Core.Path.{◌≡◌, refl, sym, ap, ◌∙◌}
use mathlib.Core.Bool.{true, false}
use mathlib.Core.Option.{Option, none, some}
use native.Mathlib.Omega.{arith}
use native.Mathlib.Nat.{sub-zero}
use lib.ListN.{length}
use Rattle.slices.specs.Parts.{Bytes}
use Rattle.planner.specs.Setting.{Setting, setting_of}
use Rattle.protocol.specs.Store.{Store}
use Rattle.protocol.specs.Recovery.{after, is_some}
use Rattle.protocol.specs.StepBytes.{after_store_bytes, next_in, steps_bytes, stores_bytes}
use Rattle.protocol.specs.Call.{Numbers, named, refusal_in}
use Rattle.protocol.specs.CallResult.{recovered, spent, run_result, count_of}
use Rattle.recovery.specs.NextStore.{store_of}
use Rattle.recovery.specs.Answers.{counted}
use Rattle.recovery.specs.declared.NextStore.{NextStore}
use Rattle.protocol.proofs.CallLaws.{accepted}
use Rattle.protocol.proofs.Reached.{after_run}

-- from b₀, with a budget; so many made; the bytes as they are now, and the store that is outstanding
pub record Underway (N : Numbers) (b₀ : Bytes) (budget made : ℕ) (b : Bytes) (t : NextStore) : Type 0 where
  pub bounded : made ≤ budget
  pub accepts : refusal_in N b ≡ 0
  pub is_next : store_of t ≡ next_in (named N) b
  pub steps : steps_bytes (named N) (budget - made) b ≡ steps_bytes (named N) budget b₀
  pub count : made + stores_bytes (named N) (budget - made) b ≡ stores_bytes (named N) budget b₀

-- ---- steps of bytes by the store that is outstanding

module _ (S : Setting) (b : Bytes) where
  steps_made : (o : Option Store) (a : Bytes) (j : ℕ) → o ≡ next_in S b → is_some o ≡ true → a ≡ after o b (λ s. after_store_bytes S.shape s b)
      → steps_bytes S (suc j) b ≡ steps_bytes S j a
  unfolding steps_bytes after is_some
  steps_made none a j e t h = absurd (let z : ◌≡◌ {A = ℕ} 0 1 = cc in omega arith)
  steps_made (some s) a j e t h = rw (← e, h)

  stores_made : (o : Option Store) (a : Bytes) (j : ℕ) → o ≡ next_in S b → is_some o ≡ true → a ≡ after o b (λ s. after_store_bytes S.shape s b)
      → stores_bytes S (suc j) b ≡ suc (stores_bytes S j a)
  unfolding stores_bytes after is_some
  stores_made none a j e t h = absurd (let z : ◌≡◌ {A = ℕ} 0 1 = cc in omega arith)
  stores_made (some s) a j e t h = rw (← e, h)

  steps_rest : (o : Option Store) (j : ℕ) → o ≡ next_in S b → is_some o ≡ false → steps_bytes S j b ≡ b
  unfolding steps_bytes after is_some
  steps_rest o zero e t = refl
  steps_rest none (suc j) e t = rw (← e)
  steps_rest (some s) (suc j) e t = absurd (let z : ◌≡◌ {A = ℕ} 0 1 = cc in omega arith)

  stores_rest : (o : Option Store) (j : ℕ) → o ≡ next_in S b → is_some o ≡ false → stores_bytes S j b ≡ 0
  unfolding stores_bytes after is_some
  stores_rest o zero e t = refl
  stores_rest none (suc j) e t = rw (← e)
  stores_rest (some s) (suc j) e t = absurd (let z : ◌≡◌ {A = ℕ} 0 1 = cc in omega arith)

  steps_zero : steps_bytes S 0 b ≡ b
  unfolding steps_bytes
  steps_zero = refl

  stores_zero : stores_bytes S 0 b ≡ 0
  unfolding stores_bytes
  stores_zero = refl

pub answer_recovered : (made : ℕ) (o : Option Store) → is_some o ≡ false → recovered made ≡ run_result made o
unfolding is_some run_result
answer_recovered made none t = refl
answer_recovered made (some s) t = absurd (let z : ◌≡◌ {A = ℕ} 0 1 = cc in omega arith)

answer_spent : (made : ℕ) (o : Option Store) → is_some o ≡ true → spent made ≡ run_result made o
unfolding is_some run_result
answer_spent made none t = absurd (let z : ◌≡◌ {A = ℕ} 0 1 = cc in omega arith)
answer_spent made (some s) t = refl

-- the two beside their count
pub counted_recovered : (made : ℕ) (o : Option Store) → is_some o ≡ false → (recovered made, made) ≡ counted (run_result made o)
unfolding count_of
counted_recovered made o t = ap counted (answer_recovered made o t)

pub counted_spent : (made : ℕ) (o : Option Store) → is_some o ≡ true → (spent made, made) ≡ counted (run_result made o)
unfolding count_of
counted_spent made o t = ap counted (answer_spent made o t)

-- ---- the run

pub underway_start : (N : Numbers) (b : Bytes) (budget : ℕ) (t : NextStore) → refusal_in N b ≡ 0 → store_of t ≡ next_in (named N) b → Underway N b budget 0 b t
underway_start N b budget t e x = record {
  bounded = omega arith;
  accepts = e;
  is_next = x;
  steps = ap (λ (j : ℕ). steps_bytes (named N) j b) (sub-zero budget);
  count = ap (λ (j : ℕ). 0 + stores_bytes (named N) j b) (sub-zero budget) ∙ omega arith;
}

module _ (N : Numbers) {b₀ b : Bytes} {budget made : ℕ} {t : NextStore} (u : Underway N b₀ budget made b t) where
  pub underway_more : {a : Bytes} {v : NextStore} → made < budget → is_some (store_of t) ≡ true → a ≡ after (store_of t) b (λ s. after_store_bytes N.shape s b)
      → (refusal_in N a ≡ 0 → store_of v ≡ next_in (named N) a) → Underway N b₀ budget (made + 1) a v
  unfolding setting_of
  underway_more {a} {v} h some_left x next =
      let S = named N in
      let j = budget - (made + 1) in
      let q : budget - made ≡ suc j = omega arith in
      let one : steps_bytes S 1 b ≡ a = steps_made S b (store_of t) a 0 u.is_next some_left x ∙ steps_zero S a in
      let e : refusal_in N a ≡ 0 = rw (← one) (after_run N b u.accepts 1).accepts in
      let st = steps_made S b (store_of t) a j u.is_next some_left x in
      let ct = stores_made S b (store_of t) a j u.is_next some_left x in
      let w = rw q at u.count in
      record {
        bounded = omega arith;
        accepts = e;
        is_next = next e;
        steps = sym st ∙ rw (← q) u.steps;
        count = omega arith;
      }

  module _ (none_left : is_some (store_of t) ≡ false) where
    pub underway_rests : b ≡ steps_bytes (named N) budget b₀
    underway_rests = sym (steps_rest (named N) b (store_of t) (budget - made) u.is_next none_left) ∙ u.steps

    rests_count : made ≡ stores_bytes (named N) budget b₀
    rests_count = let z = stores_rest (named N) b (store_of t) (budget - made) u.is_next none_left in let w = u.count in omega arith

    pub underway_recovered : recovered made ≡ run_result (stores_bytes (named N) budget b₀) (next_in (named N) (steps_bytes (named N) budget b₀))
    underway_recovered = rw (← rests_count, ← underway_rests, ← u.is_next) (answer_recovered made (store_of t) none_left)

  module _ (used : budget ≤ made) where
    nothing_left : budget - made ≡ 0
    nothing_left = omega arith

    pub underway_ends : b ≡ steps_bytes (named N) budget b₀
    underway_ends = sym (rw nothing_left (steps_zero (named N) b)) ∙ u.steps

    ends_count : made ≡ stores_bytes (named N) budget b₀
    ends_count = let z : stores_bytes (named N) (budget - made) b ≡ 0 = rw nothing_left (stores_zero (named N) b) in let w = u.count in omega arith

    pub underway_answers : run_result made (store_of t) ≡ run_result (stores_bytes (named N) budget b₀) (next_in (named N) (steps_bytes (named N) budget b₀))
    underway_answers = rw (← ends_count, ← underway_ends, ← u.is_next)

  -- the buffer stays as long as it was
  pub underway_size : refusal_in N b₀ ≡ 0 → length b ≡ length b₀
  underway_size e = (accepted N b u.accepts).size ∙ sym (accepted N b₀ e).size
