-- What a witness answers.
use Prim.Native.Nat.{ℕ}
use mathlib.Core.Path.{◌≡◌, refl}
use mathlib.Core.Bool.{Bool, true, false, cond, not}
use lib.Dec.{eqb}
use Rattle.slices.proofs.SameLaws.{and_off}
use Rattle.record.specs.Meaning.{good, blank, Entry, intact, broken}
use Rattle.image.specs.Cluster.{Cluster}
use Rattle.image.specs.View.{View, condition, epoch_of, condition_at, epoch_at, view_of, condition_as, seen_as}
use Rattle.image.specs.declared.condition.Condition.{Condition}
use Rattle.image.specs.declared.condition.Condition.TheVariants.{Unused, Whole, RecordLost, Faulty, Lost, RecordOnly}
use Rattle.image.specs.Read.{is_whole}
use Rattle.planner.specs.Setting.{Setting, witness, views_of}
use Rattle.planner.specs.Rules.{is_faulty, is_record_only, is_used, answers, agrees, have, have_faulty, dont_have, may_lead}

-- its record is good: it has all that a witness has of a slot
seen_good : (e : ℕ) (x : Entry) → condition_as true (condition (good e) x) ≡ RecordOnly
unfolding condition_as condition
seen_good e (broken b) = refl
seen_good e (intact f p) = go (eqb e f)
  where
    go : (t : Bool) → condition_as true (cond t Whole Faulty) ≡ RecordOnly
    go true = refl
    go false = refl

-- none of its slots is whole
never_whole : (a : Condition) → is_whole (condition_as true a) ≡ false
unfolding is_whole condition_as
never_whole Unused = refl
never_whole Whole = refl
never_whole RecordLost = refl
never_whole Faulty = refl
never_whole Lost = refl
never_whole RecordOnly = refl

module _ (S : Setting) (F : Cluster) (k c : ℕ) (w : witness S c ≡ true) where
  pub witness_donates : have S (views_of S F) k c ≡ false
  unfolding have views_of seen_as
  witness_donates = rw (w, never_whole, and_off (answers S (views_of S F) c))

  module _ (on : answers S (views_of S F) c ≡ true) where
    module _ (e : ℕ) (g : (F c).records k ≡ good e) where
      seen : (views_of S F c).condition k ≡ RecordOnly
      unfolding views_of seen_as view_of condition_at
      seen = rw (w, g) (seen_good e ((F c).entries k))

      under : (views_of S F c).epoch k ≡ e
      unfolding views_of seen_as view_of epoch_at epoch_of
      under = rw g

      pub witness_good : have_faulty S (views_of S F) k c ≡ eqb e ((views_of S F S.leader).epoch k)
      unfolding have_faulty agrees is_faulty is_record_only is_used
      witness_good = rw (on, seen, under)

      pub witness_other : dont_have S (views_of S F) k c ≡ not (eqb e ((views_of S F S.leader).epoch k))
      unfolding dont_have agrees is_used
      witness_other = rw (on, seen, under)

    module _ (g : (F c).records k ≡ blank) where
      unseen : (views_of S F c).condition k ≡ Unused
      unfolding views_of seen_as view_of condition_at condition condition_as
      unseen = rw (w, g)

      pub witness_blank : dont_have S (views_of S F) k c ≡ true
      unfolding dont_have agrees is_used
      witness_blank = rw (on, unseen)

pub witness_leads : (S : Setting) (W : ℕ → View) → witness S S.leader ≡ true → may_lead S W ≡ false
unfolding may_lead
witness_leads S W w = rw (w, and_off (W S.leader).readable)
