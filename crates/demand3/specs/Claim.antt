-- What is claimed of calls: of an uncut one and of runs from any cluster; then, after every list of calls, part A with nothing supposed and
-- part B of a payload that stood committed on a majority. b₀ is the cluster at first, b the one that the list left.
use Rattle.std.specs.Prelude.{ℕ, suc, ◌+◌, ◌≤◌, ◌<◌, ◌≡◌, Bool, true, false, ◌&&◌, eqb, length}
use Rattle.slices.specs.Parts.{Bytes, part}
use Rattle.record.specs.Layout.{header_size, record_size, entry_size, record_bytes, entry_bytes}
use Rattle.record.specs.Meaning.{bad, intact, read_entry}
use Rattle.image.specs.Image.{index, record_at, entry_at}
use Rattle.image.specs.View.{read_refusal}
use Rattle.image.specs.Cluster.{image_at, image_part, first_at, decode}
use Rattle.search.specs.Sets.{has}
use Rattle.planner.specs.Setting.{Setting, witness}
use Rattle.planner.specs.Plan.{views_in}
use Rattle.planner.specs.Rules.{is_faulty, have, rule, is_wait, end}
use Rattle.demand3.specs.Interrupted.{LeftBytes}
use Rattle.demand3.specs.Supposed.{History, held}
use Rattle.protocol.specs.Call.{Call, plan, step, run, Numbers, named, budget_of, refusal_in, refusal_of}
use Rattle.protocol.specs.CallResult.{refused, waiting, ready, recovered, spent, call_result, call_bytes, planning, bound, count_of, without_count, run_end, is_spent, is_stored}

-- replica c (from 0) is present, and its own image is not refused
unfoldable pub readable : Numbers → Bytes → ℕ → Bool
readable N b c = has N.present c && eqb (read_refusal N.shape (suc c) (image_part N.shape b c)) 0

-- the bytes of an entry and of a record in the cluster
unfoldable pub entry_in : Setting → Bytes → ℕ → ℕ → Bytes
entry_in S b c k = part b (image_at S.shape c + entry_at S.shape k) entry_size

unfoldable pub record_in : Setting → Bytes → ℕ → ℕ → Bytes
record_in S b c k = part b (image_at S.shape c + record_at S.shape k) record_size

-- index i of replica c is used under epoch e, at some slot
pub record UsedUnder (S : Setting) (b : Bytes) (c i e : ℕ) : Type 0 where
  pub slot : ℕ
  pub at : index (first_at S.shape b c) slot ≡ i
  pub within : slot < (views_in S b c).length
  pub epoch : (views_in S b c).epoch slot ≡ e

-- record and entry of index i are the writer's, at some slot; on a witness its record is (02, Seven)
pub record Stands (S : Setting) (b : Bytes) (c i e : ℕ) (p : Bytes) : Type 0 where
  pub slot : ℕ
  pub at : index (first_at S.shape b c) slot ≡ i
  pub rec : record_in S b c slot ≡ record_bytes e i
  pub ent : witness S c ≡ false → entry_in S b c slot ≡ entry_bytes e i p

-- a call that ends by itself
pub record Uncut (N : Numbers) (b : Bytes) : Type 0 where
  -- it answers a refusal only if it is refused by that number, and then no byte changes; nor does planning change one
  pub refusal : (q : Call) (r : ℕ) → call_result N q b ≡ refused r → refusal_of N q b ≡ r
  pub refused_keeps : (q : Call) (r : ℕ) → call_result N q b ≡ refused r → call_bytes N q b ≡ b
  pub plan_keeps : (bytes rows : ℕ) → call_bytes N (plan bytes rows) b ≡ b
  -- what it leaves is among what the list allows
  pub left : (q : Call) → refusal_of N q b ≡ 0 → LeftBytes (named N) (budget_of q) b (call_bytes N q b)
  -- a run is so many steps
  pub no_step : call_bytes N (run 0) b ≡ b
  pub more_steps : (j : ℕ) → call_bytes N (run (suc j)) b ≡ call_bytes N (run j) (call_bytes N step b)

-- the counts and ends of runs
pub record Runs (N : Numbers) (b : Bytes) : Type 0 where
  -- a run counts the steps that made a store: so many leave the same bytes, and every smaller budget is spent. At most 3 × n × m
  pub counted : (j : ℕ) → call_bytes N (run (count_of (call_result N (run j) b))) b ≡ call_bytes N (run j) b
  pub smaller : (i j : ℕ) → i < count_of (call_result N (run j) b) → call_result N (run i) b ≡ spent i
  pub bounded : (j : ℕ) → count_of (call_result N (run j) b) ≤ bound N
  -- it is spent exactly if a store is then outstanding, and only with its whole budget; never with 3 × n × m or more
  pub outstanding : (j : ℕ) → is_spent (call_result N (run j) b) ≡ is_stored (call_result N step (call_bytes N (run j) b))
  pub budget : (j c : ℕ) → call_result N (run j) b ≡ spent c → c ≡ j
  pub enough : (j : ℕ) → bound N ≤ j → is_spent (call_result N (run j) b) ≡ false

pub record PartA (N : Numbers) (b₀ b : Bytes) : Type 0 where
  -- the planner's answer (ready or waiting with its number, or the refusal) is the first one; refused or waiting, no byte has changed
  pub planned : (bytes rows : ℕ) → call_result N (plan bytes rows) b ≡ call_result N (plan bytes rows) b₀
  pub refused_same : (r : ℕ) → call_result N (planning N) b₀ ≡ refused r → b ≡ b₀
  pub waiting_same : (k : ℕ) → call_result N (planning N) b₀ ≡ waiting k → b ≡ b₀
  -- every refusal of planning is as it was at first, and every header too: so 21 neither comes nor goes (02, Six)
  pub refusals : refusal_in N b ≡ refusal_in N b₀
  pub headers : (c : ℕ) → c < N.shape.n
      → part (image_part N.shape b c) 0 (header_size N.shape) ≡ part (image_part N.shape b₀ c) 0 (header_size N.shape)
  -- replicas away or unreadable keep every byte; the same replicas are readable
  pub size : length b ≡ length b₀
  pub away : (c : ℕ) → c < N.shape.n → readable N b₀ c ≡ false → image_part N.shape b c ≡ image_part N.shape b₀ c
  pub readables : (c : ℕ) → c < N.shape.n → readable N b c ≡ readable N b₀ c
  -- a witness with a bad record is unreadable, and keeps every byte (02, Seven)
  pub spoilt : (c k : ℕ) (z : Bytes) → c < N.shape.n → k < N.shape.m → witness (named N) c ≡ true → (decode N.shape b₀ c).records k ≡ bad z
      → (readable N b₀ c ≡ false) × (image_part N.shape b c ≡ image_part N.shape b₀ c)
  -- a run of budget 3 × n × m ends as from the first cluster, every byte alike, though its count may differ
  pub full_bytes : call_bytes N (run (bound N)) b ≡ call_bytes N (run (bound N)) b₀
  pub full_ends : without_count (call_result N (run (bound N)) b) ≡ without_count (call_result N (run (bound N)) b₀)
  -- so do any two runs that are not spent; each ends as the plan says, recovered if it was ready
  pub bytes : (i j : ℕ) → is_spent (call_result N (run i) b) ≡ false → is_spent (call_result N (run j) b₀) ≡ false → call_bytes N (run i) b ≡ call_bytes N (run j) b₀
  pub ends : (j : ℕ) → is_spent (call_result N (run j) b) ≡ false → without_count (call_result N (run j) b) ≡ run_end (call_result N (planning N) b₀)

-- the plan waits, a step and every run say so too, and no byte has changed
pub record Waits (N : Numbers) (b₀ b : Bytes) : Type 0 where
  pub slot : ℕ
  pub answer : call_result N (planning N) b₀ ≡ waiting slot
  pub step_answer : call_result N step b ≡ waiting slot
  pub run_answer : (j : ℕ) → call_result N (run j) b ≡ waiting slot
  pub same : b ≡ b₀

-- of payload p at index i under epoch e. Slot k of a log that began at index f has index f + k
pub record PartB (N : Numbers) (b₀ : Bytes) (H : ℕ → History) (i e : ℕ) (p : Bytes) (b : Bytes) : Type 0 where
  -- a readable present replica whose log held it keeps it used under e; each card whose log held it keeps the entry's bytes if they were
  -- intact with e. (The others keep every byte: `away`. Where a header is damaged no index can be read)
  pub used : (c : ℕ) → c < N.shape.n → held i e (H c) ≡ true → readable N b₀ c ≡ true → UsedUnder (named N) b c i e
  -- on such a witness the record is good under e all along (02, Seven)
  pub witnessed : (c : ℕ) → c < N.shape.n → witness (named N) c ≡ true → held i e (H c) ≡ true → readable N b₀ c ≡ true → Stands (named N) b c i e p
  pub entry : (c k : ℕ) (q : Bytes) → c < N.shape.n → witness (named N) c ≡ false → held i e (H c) ≡ true → index (H c).first k ≡ i
      → read_entry i (entry_in (named N) b₀ c k) ≡ intact e q → entry_in (named N) b c k ≡ entry_in (named N) b₀ c k
  -- any entry there intact with e has the payload: where a card's log held it, and where a card has it used under e
  pub held_payload : (c k : ℕ) (q : Bytes) → c < N.shape.n → witness (named N) c ≡ false → held i e (H c) ≡ true → index (H c).first k ≡ i
      → read_entry i (entry_in (named N) b c k) ≡ intact e q → q ≡ p
  pub used_payload : (c : ℕ) (q : Bytes) → c < N.shape.n → witness (named N) c ≡ false → readable N b₀ c ≡ true → (u : UsedUnder (named N) b c i e)
      → read_entry i (entry_in (named N) b c u.slot) ≡ intact e q → q ≡ p
  -- the leader's entry is faulty and planning is not refused: with a copy within reach and no other slot that stays waiting the plan is
  -- ready; with no copy within reach it waits
  pub is_ready : (c k : ℕ) → refusal_in N b₀ ≡ 0 → index (first_at N.shape b₀ (named N).leader) k ≡ i
      → is_faulty ((views_in (named N) b₀ (named N).leader).condition k) ≡ true
      → c < N.shape.n → have (named N) (views_in (named N) b₀) k c ≡ true
      → ((j : ℕ) → j < end (named N) (views_in (named N) b₀) → (j ≡ k → ⊥) → is_wait (rule (named N) (views_in (named N) b₀) j) ≡ false)
      → call_result N (planning N) b₀ ≡ ready (end (named N) (views_in (named N) b₀))
  pub waits : (k : ℕ) → refusal_in N b₀ ≡ 0 → index (first_at N.shape b₀ (named N).leader) k ≡ i
      → is_faulty ((views_in (named N) b₀ (named N).leader).condition k) ≡ true
      → ((c : ℕ) → c < N.shape.n → have (named N) (views_in (named N) b₀) k c ≡ false) → Waits N b₀ b
  -- the plan is ready: after every run that is not spent it stands on every readable present replica; and at once, if a step answers that no
  -- store is outstanding
  pub mended : (l j : ℕ) → call_result N (planning N) b₀ ≡ ready l → is_spent (call_result N (run j) b) ≡ false
      → (c : ℕ) → c < N.shape.n → readable N b₀ c ≡ true → Stands (named N) (call_bytes N (run j) b) c i e p
  pub at_rest : call_result N step b ≡ recovered 0
      → (c : ℕ) → c < N.shape.n → readable N b₀ c ≡ true → Stands (named N) b c i e p
