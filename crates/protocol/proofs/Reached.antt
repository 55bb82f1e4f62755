-- What recovery can reach, in bytes, with nothing supposed.
use Prim.Native.Nat.{ℕ, ◌≤◌, ◌<◌}
use mathlib.Core.Path.{◌≡◌, sym, ap, ◌∙◌}
use mathlib.Core.Bool.{false}
use mathlib.Core.Option.{none, some}
use native.Mathlib.Omega.{arith}
use native.Mathlib.Decide.{ℕ_discrete}
use lib.ListN.{length}
use Rattle.slices.specs.Parts.{Bytes}
use Rattle.image.specs.Cluster.{image_at, image_part, first_at, decode}
use Rattle.image.proofs.EncodeLaws.{decode_injective, image_part_same}
use Rattle.planner.specs.Setting.{Setting, setting_of}
use Rattle.planner.specs.Rules.{answer, Waiting}
use Rattle.planner.specs.Plan.{views_in, lent_refusal, plan_refusal}
use Rattle.protocol.specs.Store.{Store}
use Rattle.protocol.specs.Recovery.{next, if_ready}
use Rattle.protocol.specs.ClusterSteps.{steps}
use Rattle.protocol.specs.StepBytes.{next_in, steps_bytes, stores_bytes}
use Rattle.protocol.specs.Call.{Call, plan, step, run, Numbers, named, budget_of, refusal_in, refusal_of}
use Rattle.protocol.specs.CallResult.{call_bytes}
use Rattle.protocol.proofs.Work.{work_bound}
use Rattle.protocol.proofs.Reach.{Reach}
use Rattle.protocol.proofs.Runs.{reach_steps, enough, finishes, stores_bound, spent_all, steps_stores, unspent}
use Rattle.protocol.proofs.Always.{Always, always}
use Rattle.protocol.proofs.FirstLaws.{reach_first}
use Rattle.protocol.proofs.StepLaws.{Means, steps_mean, stores_mean}
use Rattle.protocol.proofs.CallLaws.{accepted, call_accepted, refusal_same, made_bytes, refused_bytes}

-- b is what recovery can reach from b₀, and has its size
pub record Reached (S : Setting) (b₀ b : Bytes) : Type 0 where
  pub size : length b ≡ image_at S.shape S.shape.n
  pub reach : Reach S (decode S.shape b₀) (decode S.shape b)

-- so many steps
pub steps_reached : (S : Setting) → S.leader < S.shape.n → (j : ℕ) (b : Bytes) → length b ≡ image_at S.shape S.shape.n → Reached S b (steps_bytes S j b)
steps_reached S low j b size =
    let w = steps_mean S low j b size in
    record { size = w.size; reach = rw w.is (reach_steps S j (decode S.shape b)) }

-- leave every log beginning where it began
pub steps_first : (S : Setting) → S.leader < S.shape.n → (j : ℕ) (b : Bytes) → length b ≡ image_at S.shape S.shape.n → (c : ℕ) → first_at S.shape (steps_bytes S j b) c ≡ first_at S.shape b c
steps_first S low j b size c = reach_first S b (steps_bytes S j b) (steps_reached S low j b size).reach c

-- where planning is not refused: b₀ the cluster at first, b one that recovery can reach
pub record Unsupposed (S : Setting) (b₀ b : Bytes) : Type 0 where
  pub away : (c : ℕ) → c < S.shape.n → (views_in S b₀ c).readable ≡ false → image_part S.shape b c ≡ image_part S.shape b₀ c
  pub readables : (c : ℕ) → (views_in S b c).readable ≡ (views_in S b₀ c).readable
  pub firsts : (c : ℕ) → (views_in S b c).first ≡ (views_in S b₀ c).first
  pub answers : answer S (views_in S b) ≡ answer S (views_in S b₀)
  pub waiting : (k : ℕ) → answer S (views_in S b₀) ≡ Waiting k → b ≡ b₀
  pub bounded : (j : ℕ) → stores_bytes S j b ≤ enough S
  pub counted : (j : ℕ) → steps_bytes S (stores_bytes S j b) b ≡ steps_bytes S j b
  pub spent : (j : ℕ) (s : Store) → next_in S (steps_bytes S j b) ≡ some s → stores_bytes S j b ≡ j
  pub unspent : (j : ℕ) → enough S ≤ j → next_in S (steps_bytes S j b) ≡ none
  pub bytes : (i j : ℕ) → next_in S (steps_bytes S i b) ≡ none → next_in S (steps_bytes S j b₀) ≡ none → steps_bytes S i b ≡ steps_bytes S j b₀

-- a plan that waits has no store
pub waiting_none : (S : Setting) (b : Bytes) (k : ℕ) → answer S (views_in S b) ≡ Waiting k → next S (decode S.shape b) ≡ none
unfolding views_in next if_ready
waiting_none S b k e = rw e

module _ (S : Setting) (low : S.leader < S.shape.n) (b₀ b : Bytes) (size : length b₀ ≡ image_at S.shape S.shape.n) (r : Reached S b₀ b) where
  a : Always S (decode S.shape b₀) (decode S.shape b)
  a = always S (decode S.shape b₀) low r.reach

  means : (j : ℕ) → Means S (steps_bytes S j b) (steps S j (decode S.shape b))
  means j = steps_mean S low j b r.size

  -- runs that leave nothing outstanding
  same_end : (i j : ℕ) → next_in S (steps_bytes S i b) ≡ none → next_in S (steps_bytes S j b₀) ≡ none → steps_bytes S i b ≡ steps_bytes S j b₀
  unfolding next_in
  same_end i j x y =
      let F = decode S.shape b in
      let F₀ = decode S.shape b₀ in
      let v = means i in
      let w = steps_mean S low j b₀ size in
      decode_injective S.shape (steps_bytes S i b) (steps_bytes S j b₀) v.size w.size
      (v.is
      ∙ unspent S i (enough S) F (rw v.is at x) (finishes S low (enough S) F (work_bound S F))
      ∙ a.finals
      ∙ unspent S (enough S) j F₀ (finishes S low (enough S) F₀ (work_bound S F₀)) (rw w.is at y)
      ∙ sym w.is)

  pub unsupposed : Unsupposed S b₀ b
  unfolding views_in next_in
  unsupposed =
      let F = decode S.shape b in
      record {
        away = λ c cn f. image_part_same S.shape b b₀ r.size size c cn (a.untouched c f);
        readables = a.readables;
        firsts = a.firsts;
        answers = a.answers;
        waiting = λ k e. decode_injective S.shape b b₀ r.size size (a.still (waiting_none S b₀ k e));
        bounded = λ j. rw (stores_mean S low j b r.size) (stores_bound S low j F);
        counted = λ j.
            decode_injective S.shape (steps_bytes S (stores_bytes S j b) b) (steps_bytes S j b) (means (stores_bytes S j b)).size (means j).size
            ((means (stores_bytes S j b)).is ∙ rw (stores_mean S low j b r.size) (steps_stores S j F) ∙ sym (means j).is);
        spent = λ j s e. stores_mean S low j b r.size ∙ spent_all S j F s (rw (means j).is at e);
        unspent = λ j h. rw (means j).is (finishes S low j F (omega (arith, work_bound S F)));
        bytes = same_end;
      }

-- what recovery can reach from a cluster that is not refused
pub record After (N : Numbers) (b₀ b : Bytes) : Type 0 where
  pub size : length b ≡ image_at N.shape N.shape.n
  pub accepts : refusal_in N b ≡ 0
  pub facts : Unsupposed (named N) b₀ b

pub after_reached : (N : Numbers) {b₀ b : Bytes} → refusal_in N b₀ ≡ 0 → Reached (named N) b₀ b → After N b₀ b
unfolding setting_of
after_reached N {b₀ = b₀} {b = b} e r =
    let v = accepted N b₀ e in
    let u = unsupposed (named N) v.low b₀ b v.size r in
    record { size = r.size; accepts = refusal_same N b b₀ (r.size ∙ sym v.size) u.readables u.firsts ∙ e; facts = u }

pub after_run : (N : Numbers) (b : Bytes) → refusal_in N b ≡ 0 → (j : ℕ) → After N b (steps_bytes (named N) j b)
unfolding setting_of
after_run N b e j = let v = accepted N b e in after_reached N e (steps_reached (named N) v.low j b v.size)

-- ---- refusals, 21 among them, neither come nor go by a call

pub refusal_stays : (N : Numbers) (q : Call) (b : Bytes) → refusal_in N (call_bytes N q b) ≡ refusal_in N b
refusal_stays N q b = go (ℕ_discrete (refusal_of N q b) 0)
  where
    go : Dec (refusal_of N q b ≡ 0) → refusal_in N (call_bytes N q b) ≡ refusal_in N b
    go (yes e) =
        let a = call_accepted N q b e in
        ap (refusal_in N) (made_bytes N q b e) ∙ (after_run N b a (budget_of q)).accepts ∙ sym a
    go (no h) = ap (refusal_in N) (refused_bytes N q b h)

-- nor of any other call after it
pub refusals_stay : (N : Numbers) (q r : Call) (b : Bytes) → refusal_of N r (call_bytes N q b) ≡ refusal_of N r b
unfolding refusal_of plan_refusal
refusals_stay N q (plan p t) b = ap (λ (x : ℕ). lent_refusal x N.shape p t) (refusal_stays N q b)
refusals_stay N q step b = refusal_stays N q b
refusals_stay N q (run j) b = refusal_stays N q b
