-- Part A of the claim, in the results and bytes of calls.
use Prim.Native.Nat.{ℕ, suc, ◌<◌}
use mathlib.Core.Path.{◌≡◌, refl, sym, ap, ◌∙◌}
use mathlib.Core.Bool.{false}
use mathlib.Core.List.{List}
use mathlib.Core.Option.{none}
use native.Mathlib.Omega.{arith}
use Rattle.slices.specs.Parts.{Bytes, part}
use Rattle.record.specs.declared.Shape.{Shape}
use Rattle.record.specs.Layout.{header_size}
use Rattle.record.specs.Meaning.{write_header}
use Rattle.record.proofs.HeaderLaws.{write_read_header}
use Rattle.image.specs.Cluster.{image_part, decode}
use Rattle.image.proofs.DecodeLaws.{header_there}
use Rattle.planner.specs.Setting.{setting_of}
use Rattle.planner.specs.Rules.{Ready, answer}
use Rattle.planner.specs.Plan.{views_in, lent_refusal, plan_refusal}
use Rattle.protocol.specs.StepBytes.{next_in, steps_bytes, stores_bytes}
use Rattle.demand3.specs.CallList.{Request, CallList}
use Rattle.protocol.specs.Call.{plan, run, Numbers, named, refusal_in, refusal_of}
use Rattle.protocol.specs.CallResult.{Result, refused, waiting, recovered, run_result, accepted_result, call_result, call_bytes, bound, without_count, run_end, is_spent}
use Rattle.demand3.specs.Claim.{readable, PartA}
use Rattle.protocol.proofs.CallLaws.{Standing, is_refused, is_waiting, is_ready, standing, accepted, run_bytes}
use Rattle.demand3.proofs.ReadableLaws.{readable_view, spoilt_unreadable}
use Rattle.protocol.proofs.FirstLaws.{reach_header}
use Rattle.protocol.proofs.Reached.{After}
use Rattle.demand3.proofs.AfterCalls.{calls_reach, unchanged}
use Rattle.demand3.proofs.AfterCalls as calls
use Rattle.demand3.proofs.ResultLaws.{unspent_none}
use Rattle.protocol.proofs.StillLaws.{Still, still_refused, still_waiting}
use Rattle.demand3.proofs.QuietLaws.{Quiet, refused_quiet, waiting_quiet}
use Rattle.protocol.proofs.ReadyLaws.{ready_run, ready_plan}
use Rattle.demand3.proofs.RunLaws.{runs}

same_still : (N : Numbers) (b : Bytes) (r : Result) → Still N b r → Quiet r → PartA N b b
same_still N b r s q = record {
  planned = λ i j. refl;
  refused_same = λ k e. refl;
  waiting_same = λ k e. refl;
  refusals = refl;
  headers = λ c cn. refl;
  size = refl;
  away = λ c cn f. refl;
  readables = λ c cn. refl;
  spoilt = λ c k z cn km w x. (spoilt_unreadable N b c k z km w x, refl);
  full_bytes = refl;
  full_ends = refl;
  bytes = λ i j u v. s.bytes i ∙ sym (s.bytes j);
  ends = λ j u. ap without_count (s.runs j) ∙ q.uncounted ∙ sym q.ends ∙ ap run_end (sym s.plans);
}

-- the planner is told the same
plan_same : (N : Numbers) (b₀ b : Bytes) → refusal_in N b ≡ refusal_in N b₀ → answer (named N) (views_in (named N) b) ≡ answer (named N) (views_in (named N) b₀)
    → (i j : ℕ) → call_result N (plan i j) b ≡ call_result N (plan i j) b₀
unfolding call_result accepted_result refusal_of plan_refusal lent_refusal
plan_same N b₀ b e a i j = rw (e, a)

-- a run that is not spent leaves nothing outstanding
pub none_left : (N : Numbers) (b : Bytes) → refusal_in N b ≡ 0 → (l : ℕ) → answer (named N) (views_in (named N) b) ≡ Ready l → (j : ℕ) → is_spent (call_result N (run j) b) ≡ false
    → next_in (named N) (steps_bytes (named N) j b) ≡ none
none_left N b e l x j u =
    unspent_none (stores_bytes (named N) j b) (next_in (named N) (steps_bytes (named N) j b)) (ap is_spent (sym (ready_run N b e l x j)) ∙ u)

-- a header that means the same is the same bytes
header_bytes_lem : (Z : Shape) (a b : Bytes) (c : ℕ) → (decode Z a c).header ≡ (decode Z b c).header
    → part (image_part Z a c) 0 (header_size Z) ≡ part (image_part Z b c) 0 (header_size Z)
unfolding decode
header_bytes_lem Z a b c e =
    sym (write_read_header Z (suc c) (part (image_part Z a c) 0 (header_size Z)))
    ∙ ap (write_header Z (suc c)) (sym (header_there Z (suc c) (image_part Z a c)) ∙ e ∙ header_there Z (suc c) (image_part Z b c))
    ∙ write_read_header Z (suc c) (part (image_part Z b c) 0 (header_size Z))

module _ (N : Numbers) (b₀ b : Bytes) (e : refusal_in N b₀ ≡ 0) (l : ℕ) (x : answer (named N) (views_in (named N) b₀) ≡ Ready l) (a : After N b₀ b)
    (h : (c : ℕ) → (decode N.shape b c).header ≡ (decode N.shape b₀ c).header) where
  y : answer (named N) (views_in (named N) b) ≡ Ready l
  y = a.facts.answers ∙ x

  alike : (i j : ℕ) → is_spent (call_result N (run i) b) ≡ false → is_spent (call_result N (run j) b₀) ≡ false → call_bytes N (run i) b ≡ call_bytes N (run j) b₀
  alike i j u v = run_bytes N b a.accepts i ∙ a.facts.bytes i j (none_left N b a.accepts l y i u) (none_left N b₀ e l x j v) ∙ sym (run_bytes N b₀ e j)

  recovers : (j : ℕ) → is_spent (call_result N (run j) b) ≡ false → without_count (call_result N (run j) b) ≡ recovered 0
  unfolding without_count run_result
  recovers j u = ap without_count (ready_run N b a.accepts l y j) ∙ rw (none_left N b a.accepts l y j u)

  recovers_first : (j : ℕ) → is_spent (call_result N (run j) b₀) ≡ false → without_count (call_result N (run j) b₀) ≡ recovered 0
  unfolding without_count run_result
  recovers_first j u = ap without_count (ready_run N b₀ e l x j) ∙ rw (none_left N b₀ e l x j u)

  keeps : (c : ℕ) → c < N.shape.n → readable N b₀ c ≡ false → image_part N.shape b c ≡ image_part N.shape b₀ c
  unfolding setting_of
  keeps c cn f = a.facts.away c cn (sym (readable_view N b₀ (accepted N b₀ e) c cn) ∙ f)

  ready_a : PartA N b₀ b
  unfolding setting_of run_end
  ready_a =
      let p = ready_plan N b₀ e l x in
      let full = (runs N b).enough (bound N) (omega arith) in
      let full₀ = (runs N b₀).enough (bound N) (omega arith) in
      record {
        planned = plan_same N b₀ b (a.accepts ∙ sym e) a.facts.answers;
        refused_same = λ r z. absurd (let w : ◌≡◌ {A = ℕ} 0 1 = cc in omega arith);
        waiting_same = λ k z. absurd (let w : ◌≡◌ {A = ℕ} 0 1 = cc in omega arith);
        refusals = a.accepts ∙ sym e;
        headers = λ c cn. header_bytes_lem N.shape b b₀ c (h c);
        size = a.size ∙ sym (accepted N b₀ e).size;
        away = keeps;
        spoilt = λ c k z cn km w x. let f = spoilt_unreadable N b₀ c k z km w x in (f, keeps c cn f);
        readables = λ c cn. readable_view N b (accepted N b a.accepts) c cn ∙ a.facts.readables c ∙ sym (readable_view N b₀ (accepted N b₀ e) c cn);
        full_bytes = alike (bound N) (bound N) full full₀;
        full_ends = recovers (bound N) full ∙ sym (recovers_first (bound N) full₀);
        bytes = alike;
        ends = λ j u. recovers j u ∙ ap run_end (sym p);
      }

pub part_a : (N : Numbers) {qs : List Request} {b₀ b : Bytes} → CallList N qs b₀ b → PartA N b₀ b
unfolding setting_of
part_a N {b₀ = b₀} {b = b} list = go (standing N b₀)
  where
    go : Standing N b₀ → PartA N b₀ b
    go (is_refused h) = rw (unchanged N h list) (same_still N b₀ (refused (refusal_in N b₀)) (still_refused N b₀ h) (refused_quiet (refusal_in N b₀)))
    go (is_waiting e k x) = rw ((calls.after N e list).facts.waiting k x) (same_still N b₀ (waiting (suc k)) (still_waiting N b₀ e k x) (waiting_quiet (suc k)))
    go (is_ready e l x) =
        let y = accepted N b₀ e in
        ready_a N b₀ b e l x (calls.after N e list) (reach_header (named N) (decode N.shape b₀) (calls_reach N y.low y.size list).reach)
