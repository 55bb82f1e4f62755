-- For proofs only. What stands of a recovery before a call goes on.
use Rattle.std.specs.Prelude.{pred, ◌≤◌, ◌≡◌}
use Rattle.slices.specs.Parts.{Bytes}
use Rattle.planner.specs.Rules.{Waiting, Ready, answer, end}
use Rattle.planner.specs.Plan.{views_in}
use Rattle.protocol.specs.StepBytes.{next_in}
use Rattle.protocol.specs.Call.{Numbers, named, refusal_in}
use Rattle.recovery.specs.NextStore.{store_of, BeginsAt}
use Rattle.recovery.specs.declared.NextStore.{NextStore}
use Rattle.recovery.specs.declared.Outlook.{Outlook}
use Rattle.recovery.specs.declared.Outlook.TheVariants as outlook

-- a plan that is ready, and the first store still outstanding
abbrev pub ReadyIs : Numbers → Bytes → NextStore → Type 0
ReadyIs N b s =
    (refusal_in N b ≡ 0) × (answer (named N) (views_in (named N) b) ≡ Ready (end (named N) (views_in (named N) b))) × (store_of s ≡ next_in (named N) b)

-- refused; waiting at a slot; or ready, with that store, and where the log begins that it is made on
abbrev pub OutlookIs : Numbers → Bytes → Outlook → Type 0
OutlookIs N b (outlook.Refused r) = (refusal_in N b ≡ r) × (r ≡ 0 → ⊥)
OutlookIs N b (outlook.Waiting k) = (refusal_in N b ≡ 0) × (1 ≤ k) × (answer (named N) (views_in (named N) b) ≡ Waiting (pred k))
OutlookIs N b (outlook.Ready s first) = ReadyIs N b s × BeginsAt N.shape b s first
