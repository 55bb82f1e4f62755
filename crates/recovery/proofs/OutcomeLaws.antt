-- Step and run answer by what stands of the recovery.
use Prim.Native.Nat.{ℕ, suc, pred, ◌+◌, ◌≤◌, ◌<◌}
use mathlib.Core.Path.{◌≡◌, sym, ap, ◌∙◌}
use mathlib.Core.Option.{Option}
use native.Mathlib.Omega.{arith}
use lib.Dec.{leb}
use lib.ListN.{length}
use borrow.Author.Tests.{leb-true}
use Rattle.slices.specs.Parts.{Bytes}
use Rattle.slices.proofs.SameLaws.{and_right}
use Rattle.record.specs.declared.Shape.{Shape}
use Rattle.image.specs.View.{is_slots}
use Rattle.image.specs.Cluster.{decode}
use Rattle.image.proofs.ClusterLaws.{image_fits}
use Rattle.planner.specs.Setting.{setting_of}
use Rattle.protocol.specs.Store.{Store, store_entry, store_record, store_blank, store_replica, store_slot, store_kind}
use Rattle.protocol.specs.Recovery.{after}
use Rattle.protocol.specs.StepBytes.{after_store_bytes, next_in, steps_bytes, stores_bytes}
use Rattle.protocol.specs.Call.{step, run, Numbers, named, refusal_in}
use Rattle.protocol.specs.CallResult.{Result, refused, waiting, stored, recovered, step_result, run_result, count_of, call_result, call_bytes}
use Rattle.image.specs.Fits.{ImageFits}
use Rattle.recovery.specs.NextStore.{store_of, StoreFits, BeginsAt}
use Rattle.recovery.specs.OutlookIs.{ReadyIs, OutlookIs}
use Rattle.recovery.specs.Answers.{counted}
use Rattle.recovery.specs.declared.NextStore.{NextStore}
use Rattle.recovery.specs.declared.NextStore.TheVariants.{Nothing, Entry, Record, Blank}
use Rattle.recovery.specs.declared.Outlook.{Outlook}
use Rattle.recovery.specs.declared.Outlook.TheVariants as outlook
use Rattle.protocol.proofs.Due.{due_facts}
use Rattle.protocol.proofs.Keeps.{due_cards, due_target, due_slot, due_donor}
use Rattle.image.proofs.DecodeLaws.{size_some}
use Rattle.image.proofs.ClusterLaws.{images_fill}
use Rattle.protocol.proofs.CallLaws.{accepted, step_refused, step_kept, run_refused, run_kept, step_bytes, run_bytes}
use Rattle.protocol.proofs.Reached.{waiting_none}
use Rattle.protocol.proofs.StepCountLaws.{steps_still}
use Rattle.protocol.proofs.StillLaws.{still_waiting}
use Rattle.protocol.proofs.ReadyLaws.{ready_run, ready_step}

-- ---- a store that is outstanding lies in the cluster

module _ (N : Numbers) (b : Bytes) (e : refusal_in N b ≡ 0) where
  pub slots_few : N.shape.m ≤ 64
  unfolding is_slots
  slots_few = leb-true N.shape.m 64 (and_right (leb 1 N.shape.m) (leb N.shape.m 64) (accepted N b e).slots)

  within : (c : ℕ) → c < (named N).shape.n → ImageFits N.shape (length b) c
  unfolding setting_of
  within c h = omega (arith, image_fits N.shape N.shape.n c h, (accepted N b e).size)

  pub store_fits : (s : NextStore) → store_of s ≡ next_in (named N) b → StoreFits N.shape (length b) s
  unfolding next_in store_replica store_slot setting_of
  store_fits Nothing x = tt
  store_fits (Entry c k d) x =
      let F = decode (named N).shape b in
      let u = due_facts (named N) F (store_entry c k d) (sym x) in
      let low = (accepted N b e).low in (
        due_slot (named N) F (store_entry c k d) u.is_due,
        ((due_cards (named N) F c k d u.plan u.is_due).to, within c (due_target (named N) F (store_entry c k d) low u.plan u.is_due).below),
        ((due_cards (named N) F c k d u.plan u.is_due).from, within d (due_donor (named N) F c k d low u.plan u.is_due).below),
      )
  store_fits (Record c k f) x =
      let F = decode (named N).shape b in
      let u = due_facts (named N) F (store_record c k f) (sym x) in
      let low = (accepted N b e).low in
      (due_slot (named N) F (store_record c k f) u.is_due, within c (due_target (named N) F (store_record c k f) low u.plan u.is_due).below)
  store_fits (Blank c k) x =
      let F = decode (named N).shape b in
      let u = due_facts (named N) F (store_blank c k) (sym x) in
      let low = (accepted N b e).low in
      (due_slot (named N) F (store_blank c k) u.is_due, within c (due_target (named N) F (store_blank c k) low u.plan u.is_due).below)

-- a larger buffer holds what a smaller one does
pub fits_more : (Z : Shape) (a b : ℕ) (s : NextStore) → a ≤ b → StoreFits Z a s → StoreFits Z b s
fits_more Z a b Nothing h f = tt
fits_more Z a b (Entry c k d) h f = (f.0, (f.1.0, omega arith), (f.2.0, omega arith))
fits_more Z a b (Record c k e) h f = (f.0, omega arith)
fits_more Z a b (Blank c k) h f = (f.0, omega arith)

-- a replica's number is not too large
pub replica_few : (Z : Shape) (c : ℕ) → ImageFits Z 18446744073709551615 c → c + 1 < 18446744073709551616
replica_few Z c f = omega (arith, images_fill Z c, size_some Z (suc c))

-- ---- the store by its numbers

pub answer_nothing : {s : NextStore} → s ≡ Nothing → recovered 0 ≡ step_result (store_of s)
unfolding step_result
answer_nothing e = rw e

pub answer_stored : {a b : ℕ} (c k kind : ℕ) → a ≡ suc c → b ≡ suc k → stored a b kind ≡ stored (suc c) (suc k) kind
answer_stored c k kind e d = rw (e, d)

module _ (c k kind : ℕ) {r : Result} (w : r ≡ stored (suc c) (suc k) kind) where
  pub answer_entry : {s : NextStore} {d : ℕ} → s ≡ Entry c k d → kind ≡ 1 → r ≡ step_result (store_of s)
  unfolding step_result store_replica store_slot store_kind
  answer_entry e i = w ∙ rw (e, i)

  pub answer_record : {s : NextStore} {f : ℕ} → s ≡ Record c k f → kind ≡ 2 → r ≡ step_result (store_of s)
  unfolding step_result store_replica store_slot store_kind
  answer_record e i = w ∙ rw (e, i)

  pub answer_blank : {s : NextStore} → s ≡ Blank c k → kind ≡ 3 → r ≡ step_result (store_of s)
  unfolding step_result store_replica store_slot store_kind
  answer_blank e i = w ∙ rw (e, i)

-- ---- by what stands of the recovery

module _ (N : Numbers) (b : Bytes) where
  module _ {o : Outlook} {r : ℕ} (q : o ≡ outlook.Refused r) (i : OutlookIs N b o) where
    off : OutlookIs N b (outlook.Refused r)
    off = rw q at i

    no : refusal_in N b ≡ 0 → ⊥
    no e = off.1 (sym off.0 ∙ e)

    pub refused_step : refused r ≡ call_result N step b
    refused_step = ap refused (sym off.0) ∙ sym (step_refused N b no)

    pub refused_step_bytes : b ≡ call_bytes N step b
    refused_step_bytes = sym (step_kept N b no)

    pub refused_run : (j : ℕ) → (refused r, 0) ≡ counted (call_result N (run j) b)
    unfolding count_of
    refused_run j = ap counted (ap refused (sym off.0) ∙ sym (run_refused N b no j))

    pub refused_run_bytes : (j : ℕ) → b ≡ call_bytes N (run j) b
    refused_run_bytes j = sym (run_kept N b no j)

  module _ {o : Outlook} {k : ℕ} (q : o ≡ outlook.Waiting k) (i : OutlookIs N b o) where
    at : OutlookIs N b (outlook.Waiting k)
    at = rw q at i

    from : k ≡ suc (pred k)
    from = let h = at.1 in omega arith

    pub waiting_step : waiting k ≡ call_result N step b
    waiting_step = ap waiting from ∙ sym (still_waiting N b at.0 (pred k) at.2).steps

    pub waiting_step_bytes : b ≡ call_bytes N step b
    unfolding next_in
    waiting_step_bytes = sym (step_bytes N b at.0 ∙ steps_still (named N) 1 b (waiting_none (named N) b (pred k) at.2))

    pub waiting_run : (j : ℕ) {count : ℕ} → count ≡ 0 → (waiting k, count) ≡ counted (call_result N (run j) b)
    unfolding count_of
    waiting_run j e = ap (λ (x : ℕ). (waiting k, x)) e ∙ ap counted (ap waiting from ∙ sym ((still_waiting N b at.0 (pred k) at.2).runs j))

    pub waiting_run_bytes : (j : ℕ) → b ≡ call_bytes N (run j) b
    waiting_run_bytes j = sym ((still_waiting N b at.0 (pred k) at.2).bytes j)

  module _ {o : Outlook} {s : NextStore} {first : ℕ} (q : o ≡ outlook.Ready s first) (i : OutlookIs N b o) where
    told : OutlookIs N b (outlook.Ready s first)
    told = rw q at i

    is : ReadyIs N b s
    is = told.0

    pub ready_accepts : refusal_in N b ≡ 0
    ready_accepts = is.0

    pub ready_next : store_of s ≡ next_in (named N) b
    ready_next = is.2

    -- where the log begins that the store is made on
    pub ready_begins : BeginsAt N.shape b s first
    ready_begins = told.1

    pub ready_stepped : {r : Result} → r ≡ step_result (store_of s) → r ≡ call_result N step b
    ready_stepped h = h ∙ ap step_result is.2 ∙ sym (ready_step N b is.0 _ is.1)

    pub ready_step_bytes : {a : Bytes} → a ≡ after (store_of s) b (λ t. after_store_bytes N.shape t b) → a ≡ call_bytes N step b
    unfolding steps_bytes setting_of
    ready_step_bytes h = h ∙ sym (step_bytes N b is.0 ∙ ap (λ (x : Option Store). after x b (λ t. after_store_bytes N.shape t b)) (sym is.2))

  module _ (s : NextStore) (is : ReadyIs N b s) where
    pub ready_ran : {r : Result} (j : ℕ) → r ≡ run_result (stores_bytes (named N) j b) (next_in (named N) (steps_bytes (named N) j b)) → r ≡ call_result N (run j) b
    ready_ran j h = h ∙ sym (ready_run N b is.0 _ is.1 j)

    pub ready_run_bytes : {a : Bytes} (j : ℕ) → a ≡ steps_bytes (named N) j b → a ≡ call_bytes N (run j) b
    ready_run_bytes j h = h ∙ sym (run_bytes N b is.0 j)
