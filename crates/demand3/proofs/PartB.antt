-- Part B of the claim, in bytes.
use Prim.Native.Nat.{ℕ, suc, ◌+◌, ◌-◌, ◌<◌}
use mathlib.Core.Path.{◌≡◌, refl, sym, ap, ◌∙◌}
use mathlib.Core.Bool.{Bool, true, false, true≢false}
use mathlib.Core.List.{List, []}
use mathlib.Core.Option.{none}
use native.Mathlib.Omega.{arith}
use native.Mathlib.Decide.{ℕ_discrete}
use Rattle.slices.specs.Parts.{Bytes, part}
use Rattle.record.specs.Meaning.{first_index, Record, good, blank, bad, Entry, intact, broken, read_record, read_entry}
use Rattle.record.proofs.RecordLaws.{good_for}
use Rattle.record.proofs.EntryLaws.{intact_for}
use Rattle.image.specs.Image.{index, entry_at}
use Rattle.image.specs.View.{view_of, seen_as, condition, condition_at, epoch_of, epoch_at, is_blank, is_lost}
use Rattle.image.specs.Cluster.{Cluster, image_part, first_at, decode, decode_with}
use Rattle.image.proofs.ViewLaws.{length_le, readable_sound, used_below}
use Rattle.image.proofs.ClusterLaws.{record_means, entry_means, none_means, entry_part, with_header, with_same, entry_with, first_at_lem}
use Rattle.planner.specs.Setting.{Setting, setting_of, witness, views_of}
use Rattle.planner.specs.Plan.{views_in}
use Rattle.planner.specs.Rules.{Ready, answer, end, first_waiting}
use Rattle.protocol.specs.StepBytes.{next_in, steps_bytes}
use Rattle.demand3.specs.Supposed.{History, held, Supposed}
use Rattle.demand3.specs.Before.{Flight, history_of, firsts_of, DamagedCluster}
use Rattle.demand3.specs.CallList.{Request, CallList}
use Rattle.protocol.specs.Call.{step, Numbers, named, refusal_in}
use Rattle.protocol.specs.CallResult.{ready, recovered, call_result, planning}
use Rattle.demand3.specs.Claim.{readable, entry_in, record_in, UsedUnder, Stands, PartB}
use Rattle.protocol.proofs.Reach.{here, reach_on}
use Rattle.planner.proofs.FirstLaws.{same_elim}
use Rattle.protocol.proofs.HoldingLaws.{Holding}
use Rattle.protocol.proofs.Runs.{reach_steps}
use Rattle.demand3.proofs.BeforeLaws.{damaged_cluster_lem}
use Rattle.demand3.proofs.Base.{left_fits, held_elim, view_first, base_holding, base_payload, used_held, Linked, Ground}
use Rattle.demand3.proofs.Committed.{StandsIn, kept_first, kept_used, kept_entry, used_payload_lem, stands, ready_first, waits_first}
use Rattle.protocol.proofs.Reached.{Reached, After}
use Rattle.protocol.proofs.StepLaws.{steps_mean}
use Rattle.protocol.proofs.CallLaws.{Standing, is_refused, is_waiting, is_ready, standing, accepted, planning_refused, step_refused, planning_result, run_bytes}
use Rattle.demand3.proofs.ReadableLaws.{readable_seen}
use Rattle.demand3.proofs.AfterCalls.{calls_reach, unchanged}
use Rattle.demand3.proofs.AfterCalls as calls
use Rattle.demand3.proofs.ResultLaws.{says_ready, says_recovered}
use Rattle.protocol.proofs.StillLaws.{still_waiting}
use Rattle.protocol.proofs.ReadyLaws.{ready_plan, ready_step}
use Rattle.demand3.proofs.PartA.{none_left}

-- a witness's used slot has a good record: a bad one is refused
used_good : (r : Record) (x : Entry) (e : ℕ) → x ≡ broken [] → is_blank r ≡ false → is_lost (condition r x) ≡ false → epoch_of r x ≡ e → r ≡ good e
unfolding is_blank condition is_lost epoch_of
used_good (good f) x e n u l q = ap good q
used_good blank x e n u l q = absurd (true≢false u)
used_good (bad z) x e n u l q = absurd (true≢false (rw n at l))

used_record : (S : Setting) (b : Bytes) (c k e : ℕ) → witness S c ≡ true → (views_in S b c).readable ≡ true → k < (views_in S b c).length → (views_in S b c).epoch k ≡ e
    → (k < S.shape.m) × ((decode S.shape b c).records k ≡ good e)
unfolding views_in views_of seen_as view_of epoch_at condition_at
used_record S b c k e w ok within q =
    let km : k < S.shape.m = omega (arith, within, length_le S.shape.m (decode S.shape b c)) in (
      km,
      used_good ((decode S.shape b c).records k) ((decode S.shape b c).entries k) e (none_means S.shape b c k w)
          (used_below S.shape.m (decode S.shape b c) k within)
          ((readable_sound (S.present c) S.shape.m (decode S.shape b c) ok).kept k km)
          q,
    )

standing_record : (S : Setting) (b : Bytes) (c k e : ℕ) (p : Bytes) → k < S.shape.m → StandsIn S (decode S.shape b) c k e p → (w : Bool) → witness S c ≡ w
    → (decode S.shape b c).records k ≡ good e
unfolding views_in
standing_record S b c k e p km s false q = (s.whole q).rec
standing_record S b c k e p km s true q = (used_record S b c k e q s.ok s.used.within s.used.epoch).1

-- what an entry's bytes mean in the cluster, by the index of the slot
module _ (S : Setting) (b : Bytes) (c k : ℕ) (km : k < S.shape.m) (I : ℕ) (at : index (first_at S.shape b c) k ≡ I) where
  pub entry_in_lem : witness S c ≡ false → (decode S.shape b c).entries k ≡ read_entry I (entry_in S b c k)
  unfolding entry_in
  entry_in_lem card = entry_means S.shape b c k card km ∙ ap (λ (j : ℕ). read_entry j (entry_in S b c k)) at

  pub record_in_lem : (decode S.shape b c).records k ≡ read_record I (record_in S b c k)
  unfolding record_in
  record_in_lem = record_means S.shape b c k km ∙ ap (λ (j : ℕ). read_record j (record_in S b c k)) at

  pub written : (e : ℕ) (p : Bytes) → StandsIn S (decode S.shape b) c k e p → Stands S b c I e p
  written e p w = record {
    slot = k;
    at = at;
    rec = (good_for I (record_in S b c k) e (sym record_in_lem ∙ standing_record S b c k e p km w (witness S c) refl)).bytes;
    ent = λ card. (intact_for I (entry_in S b c k) e p (sym (entry_in_lem card) ∙ (w.whole card).ent)).bytes;
  }

-- where a witness has an index used, its record stands
witness_stands : (S : Setting) (b : Bytes) (c I e : ℕ) (p : Bytes) → witness S c ≡ true → (views_in S b c).readable ≡ true → UsedUnder S b c I e → Stands S b c I e p
witness_stands S b c I e p w ok u =
    let y = used_record S b c u.slot e w ok u.within u.epoch in
    record {
      slot = u.slot;
      at = u.at;
      rec = (good_for I (record_in S b c u.slot) e (sym (record_in_lem S b c u.slot y.0 I u.at) ∙ y.1)).bytes;
      ent = λ card. absurd (true≢false (sym w ∙ card));
    }

-- an image that is the same has the same entries
entry_same : (S : Setting) (a b : Bytes) (c k : ℕ) → witness S c ≡ false → k < S.shape.m → image_part S.shape a c ≡ image_part S.shape b c → entry_in S a c k ≡ entry_in S b c k
unfolding entry_in
entry_same S a b c k card km e =
    let Z = S.shape in
    sym (entry_part Z a c k card km) ∙ ap (λ (t : Bytes). part t (entry_at Z k) 240) e ∙ entry_part Z b c k card km

-- the first index that is seen of a replica is its header's
seen_first : (S : Setting) (b : Bytes) (c : ℕ) → (views_in S b c).first ≡ first_at S.shape b c
unfolding views_in views_of seen_as view_of
seen_first S b c = first_at_lem S.shape b c

-- taken apart under the histories' first indices
abbrev Under : Setting → (ℕ → History) → Bytes → Cluster
Under S H b = decode_with S.shape (λ c. (H c).first) b

linked : (S : Setting) (H : ℕ → History) (b : Bytes) → Linked S (decode S.shape b) (Under S H b) H
linked S H b = record {
  header = λ c. with_header S.shape (λ c. (H c).first) b c;
  bare = λ c k w. none_means S.shape b c k w;
  same = λ c e. with_same S.shape (λ c. (H c).first) b c (sym (first_at_lem S.shape b c) ∙ unfold first_index in ap first_index e);
}

-- what is supposed, in bytes
module _ (S : Setting) (b : Bytes) (H : ℕ → History) (I e : ℕ) (p : Bytes) (s : Supposed S (Under S H b) H I e p) where
  held_slot : (c k : ℕ) → c < S.shape.n → held I e (H c) ≡ true → index (H c).first k ≡ I → k < S.shape.m
  unfolding index
  held_slot c k cn x at = omega (arith, (held_elim I e (H c) x).within.high, left_fits (s.damaged c cn), at)

  payload_there : (c k : ℕ) (q : Bytes) → c < S.shape.n → witness S c ≡ false → held I e (H c) ≡ true → index (H c).first k ≡ I → read_entry I (entry_in S b c k) ≡ intact e q → q ≡ p
  unfolding entry_in index
  payload_there c k q cn card y at x =
      base_payload S (decode S.shape b) (Under S H b) H I e p s (linked S H b) c k q cn card y at
      (entry_with S.shape (λ c. (H c).first) b c k card (held_slot c k cn y at) ∙ ap (λ (j : ℕ). read_entry j (entry_in S b c k)) at ∙ x)

-- where planning is refused no byte has changed: what is supposed says it
module _ (N : Numbers) (b : Bytes) (h : refusal_in N b ≡ 0 → ⊥) (H : ℕ → History) (I e : ℕ) (p : Bytes) (s : Supposed (named N) (Under (named N) H b) H I e p) where
  abbrev F : Cluster
  F = decode N.shape b

  abbrev G : Cluster
  G = Under (named N) H b

  held_there : (c : ℕ) → c < N.shape.n → held I e (H c) ≡ true → readable N b c ≡ true → UsedUnder (named N) b c I e
  unfolding views_in setting_of index
  held_there c cn y rd =
      let ok = readable_seen N b c rd in
      let f = view_first (named N) F G H I e p s (linked (named N) H b) c cn ok in
      let at : (views_of (named N) F c).first + (I - (H c).first) ≡ I = omega (arith, f, (held_elim I e (H c) y).within.low) in
      let u = base_holding (named N) F G H I e p s (linked (named N) H b) c (I - (H c).first) cn ok y at in
      record { slot = I - (H c).first; at = (rw (seen_first (named N) b c) at at); within = u.within; epoch = u.epoch }

  part_b_refused : PartB N b H I e p b
  unfolding views_in setting_of index
  part_b_refused =
      let z = planning_refused N b h in
      record {
        used = held_there;
        witnessed = λ c cn w h rd. witness_stands (named N) b c I e p w (readable_seen N b c rd) (held_there c cn h rd);
        entry = λ c k q cn card y at x. refl;
        held_payload = payload_there (named N) b H I e p s;
        used_payload = λ c q cn card rd u x.
            let ok = readable_seen N b c rd in
            let f = view_first (named N) F G H I e p s (linked (named N) H b) c cn ok in
            payload_there (named N) b H I e p s c u.slot q cn card
            (used_held (named N) F G H I e p s (linked (named N) H b) c u.slot cn ok (rw (← seen_first (named N) b c) at u.at) (record { within = u.within; epoch = u.epoch })) (omega (arith, f, u.at, seen_first (named N) b c)) x;
        is_ready = λ c k y. absurd (h y);
        waits = λ k y. absurd (h y);
        mended = λ l j y. absurd (let w : ◌≡◌ {A = ℕ} 0 1 = cc in omega arith);
        at_rest = λ y. absurd (let v = step_refused N b h in let w : ◌≡◌ {A = ℕ} 0 1 = cc in omega arith);
      }

-- it is not refused
module _ (N : Numbers) (b₀ b : Bytes) (x : refusal_in N b₀ ≡ 0) (v : After N b₀ b) (low : (named N).leader < (named N).shape.n) (r : Reached (named N) b₀ b)
    (H : ℕ → History) (I e : ℕ) (p : Bytes) (s : Supposed (named N) (Under (named N) H b₀) H I e p) where
  abbrev S : Setting
  S = named N

  abbrev F₀ : Cluster
  F₀ = decode S.shape b₀

  abbrev L : ℕ
  L = (views_in S b₀ S.leader).first

  abbrev K : ℕ
  K = I - L

  leader_first : L ≡ (H S.leader).first
  unfolding views_in
  leader_first = view_first S F₀ (Under S H b₀) H I e p s (linked S H b₀) S.leader low (accepted N b₀ x).readable

  slot : K < N.shape.m
  unfolding setting_of
  slot =
      let y = (held_elim I e (H S.leader) s.leader_held).within in
      omega (arith, y.high, y.low, leader_first, left_fits (s.damaged S.leader low))

  at : L + K ≡ I
  at = omega (arith, leader_first, (held_elim I e (H S.leader) s.leader_held).within.low)

  g : Ground S F₀ H I e p K
  unfolding views_in
  g = record { under = Under S H b₀; supposed = s; link = linked S H b₀; firsts = same_elim S (views_in S b₀) (accepted N b₀ x).firsts; slot = at }

  seen : (c : ℕ) → readable N b₀ c ≡ true → (views_in S b₀ c).readable ≡ true
  seen c rd = readable_seen N b₀ c rd

  -- the index's slot on a readable replica, at first and now
  first_at_slot : (c : ℕ) → c < N.shape.n → (views_in S b₀ c).readable ≡ true → index (first_at N.shape b₀ c) K ≡ I
  unfolding views_in setting_of index
  first_at_slot c cn ok = rw (seen_first S b₀ c) at (kept_first S F₀ H I e p K low g here c cn ok)

  now_at : (c : ℕ) → c < N.shape.n → (views_in S b₀ c).readable ≡ true → index (first_at N.shape b c) K ≡ I
  unfolding views_in setting_of index
  now_at c cn ok = rw (seen_first S b c) at (kept_first S F₀ H I e p K low g r.reach c cn ok)

  own_slot : (c k : ℕ) → c < N.shape.n → (views_in S b₀ c).readable ≡ true → index (H c).first k ≡ I → k ≡ K
  unfolding views_in setting_of index
  own_slot c k cn ok y = omega (arith, kept_first S F₀ H I e p K low g here c cn ok, view_first S F₀ (Under S H b₀) H I e p s (linked S H b₀) c cn ok, y)

  -- nothing is outstanding after j steps
  stood : (l j : ℕ) → call_result N (planning N) b₀ ≡ ready l → next_in S (steps_bytes S j b) ≡ none → (c : ℕ) → c < N.shape.n → readable N b₀ c ≡ true → Stands S (steps_bytes S j b) c I e p
  unfolding views_in next_in setting_of index
  stood l j y z c cn rd =
      let w = steps_mean S low j b r.size in
      let a = says_ready (answer S (views_in S b₀)) l (sym (planning_result N b₀ x) ∙ y) in
      let q = reach_on S r.reach (reach_steps S j (decode S.shape b)) in
      let f : (views_in S (steps_bytes S j b) c).first + K ≡ I = rw w.is (kept_first S F₀ H I e p K low g q c cn (seen c rd)) in
      written S (steps_bytes S j b) c K slot I (rw (seen_first S (steps_bytes S j b) c) at f) e p
      (rw w.is (stands S F₀ H I e p K low g q l a (rw w.is at z) c cn (seen c rd)))

  first_ready : (l : ℕ) → call_result N (planning N) b₀ ≡ ready l → answer S (views_in S b) ≡ Ready l
  first_ready l y = v.facts.answers ∙ says_ready (answer S (views_in S b₀)) l (sym (planning_result N b₀ x) ∙ y)

  -- an entry that was intact with e stays, on a readable replica and on any other
  kept : (c k : ℕ) (q : Bytes) → c < N.shape.n → witness S c ≡ false → held I e (H c) ≡ true → index (H c).first k ≡ I → read_entry I (entry_in S b₀ c k) ≡ intact e q → entry_in S b c k ≡ entry_in S b₀ c k
  unfolding views_in setting_of
  kept c k q cn card h own y = go (views_in S b₀ c).readable refl
    where
      go : (t : Bool) → (views_in S b₀ c).readable ≡ t → entry_in S b c k ≡ entry_in S b₀ c k
      go true ok =
          let k-is = own_slot c k cn ok own in
          let y' = rw k-is at y in
          let z = kept_entry S F₀ H I e p K low g r.reach c q cn ok h (entry_in_lem S b₀ c K slot I (first_at_slot c cn ok) card ∙ y') in
          rw k-is ((intact_for I (entry_in S b c K) e q (sym (entry_in_lem S b c K slot I (now_at c cn ok) card) ∙ z)).bytes ∙ sym (intact_for I (entry_in S b₀ c K) e q y').bytes)
      go false away = entry_same S b b₀ c k card (held_slot S b₀ H I e p s c k cn h own) (v.facts.away c cn away)

  now_payload : (c : ℕ) (q : Bytes) → c < N.shape.n → witness S c ≡ false → (views_in S b₀ c).readable ≡ true → Holding K e (views_in S b c) → read_entry I (entry_in S b c K) ≡ intact e q → q ≡ p
  unfolding views_in setting_of
  now_payload c q cn card ok u y = used_payload_lem S F₀ H I e p K low g r.reach c q cn card ok u (entry_in_lem S b c K slot I (now_at c cn ok) card ∙ y)

  held_payload_lem : (c k : ℕ) (q : Bytes) → c < N.shape.n → witness S c ≡ false → held I e (H c) ≡ true → index (H c).first k ≡ I → read_entry I (entry_in S b c k) ≡ intact e q → q ≡ p
  unfolding views_in setting_of
  held_payload_lem c k q cn card h own y = go (views_in S b₀ c).readable refl
    where
      go : (t : Bool) → (views_in S b₀ c).readable ≡ t → q ≡ p
      go true ok = now_payload c q cn card ok (kept_used S F₀ H I e p K low g r.reach c cn ok h) (rw (own_slot c k cn ok own) at y)
      go false away =
          payload_there S b₀ H I e p s c k q cn card h own
          (ap (read_entry I) (sym (entry_same S b b₀ c k card (held_slot S b₀ H I e p s c k cn h own) (v.facts.away c cn away))) ∙ y)

  leader_slot : (k : ℕ) → index (first_at N.shape b₀ S.leader) k ≡ I → k ≡ K
  unfolding index setting_of
  leader_slot k own = omega (arith, own, at, seen_first S b₀ S.leader)

  -- a step that finds nothing outstanding: the plan was ready
  rested : Standing N b → call_result N step b ≡ recovered 0 → (c : ℕ) → c < N.shape.n → readable N b₀ c ≡ true → Stands S b c I e p
  unfolding steps_bytes
  rested (is_refused h) z = absurd (h v.accepts)
  rested (is_waiting y l a) z = absurd (let w = (still_waiting N b y l a).steps in let o : ◌≡◌ {A = ℕ} 0 1 = cc in omega arith)
  rested (is_ready y l a) z =
      stood l 0 (ready_plan N b₀ x l (sym v.facts.answers ∙ a)) (says_recovered (next_in S b) 0 (sym (ready_step N b y l a) ∙ z))

  used_still : (c : ℕ) → c < N.shape.n → held I e (H c) ≡ true → readable N b₀ c ≡ true → UsedUnder S b c I e
  unfolding views_in setting_of
  used_still c cn h rd =
      let u = kept_used S F₀ H I e p K low g r.reach c cn (seen c rd) h in
      record { slot = K; at = now_at c cn (seen c rd); within = u.within; epoch = u.epoch }

  part_b_accepted : PartB N b₀ H I e p b
  unfolding views_in setting_of steps_bytes
  part_b_accepted =
      let a = accepted N b₀ x in
      record {
        used = used_still;
        witnessed = λ c cn w h rd. witness_stands S b c I e p w (v.facts.readables c ∙ seen c rd) (used_still c cn h rd);
        entry = kept;
        held_payload = held_payload_lem;
        used_payload = λ c q cn card rd u y.
            let z : u.slot ≡ K = unfold index in omega (arith, u.at, now_at c cn (seen c rd)) in
            now_payload c q cn card (seen c rd) (rw (← z) (record { within = u.within; epoch = u.epoch })) (rw z at y);
        is_ready = λ c k y own f cn h others.
            let z : k ≡ K = leader_slot k own in
            ready_plan N b₀ x (end S (views_in S b₀)) (ready_first S F₀ H I e p K low g a.leads a.firsts c cn (rw z at h) (rw z at f) (λ j l d. others j l (λ q. d (q ∙ z))));
        waits = λ k y own f none_has.
            let z : k ≡ K = leader_slot k own in
            let w = waits_first S F₀ H I e p K low g a.leads a.firsts (rw z at f) (λ c cn. rw z at (none_has c cn)) in
            let still = still_waiting N b₀ x (first_waiting S (views_in S b₀)) w in
            let kept-bytes = v.facts.waiting (first_waiting S (views_in S b₀)) w in
            record {
              slot = suc (first_waiting S (views_in S b₀));
              answer = still.plans;
              step_answer = rw kept-bytes still.steps;
              run_answer = λ j. rw kept-bytes (still.runs j);
              same = kept-bytes;
            };
        mended = λ l j y u c cn rd. rw (run_bytes N b v.accepts j) (stood l j y (none_left N b v.accepts l (first_ready l y) j u) c cn rd);
        at_rest = rested (standing N b);
      }

-- after every list of calls
pub part_b : (N : Numbers) (H : ℕ → History) (I e : ℕ) (p : Bytes) {qs : List Request} {b₀ b : Bytes}
    → Supposed (named N) (decode_with N.shape (λ c. (H c).first) b₀) H I e p → CallList N qs b₀ b → PartB N b₀ H I e p b
unfolding setting_of
part_b N H I e p {b₀ = b₀} {b = b} s list = go (ℕ_discrete (refusal_in N b₀) 0)
  where
    go : Dec (refusal_in N b₀ ≡ 0) → PartB N b₀ H I e p b
    go (yes x) =
        let a = accepted N b₀ x in
        part_b_accepted N b₀ b x (calls.after N x list) a.low (calls_reach N a.low a.size list) H I e p s
    go (no h) = rw (unchanged N h list) (part_b_refused N b₀ h H I e p s)

-- from the cluster before its damage
pub part_b_whole : (N : Numbers) (qs : List Request) (F : Cluster) (f : ℕ → Flight) (b₀ b : Bytes) (I e : ℕ) (p : Bytes)
    → DamagedCluster (named N) F f (decode_with N.shape (firsts_of F) b₀) I e p → CallList N qs b₀ b → PartB N b₀ (λ c. history_of N.shape.m (f c) (F c)) I e p b
unfolding setting_of history_of
part_b_whole N qs F f b₀ b I e p s list =
    part_b N (λ c. history_of N.shape.m (f c) (F c)) I e p (damaged_cluster_lem (named N) F f (decode_with N.shape (firsts_of F) b₀) I e p s) list
