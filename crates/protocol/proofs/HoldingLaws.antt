-- Whose logs hold one epoch at a slot: none of them answers don't-have there or below (`holding_quorum`), and none is truncated there
-- (`differing_above`).
use mathlib.Core.Path.{◌≡◌, refl, sym, ap, ◌∙◌}
use mathlib.Core.Bool.{Bool, true, false, cond, not, true≢false}
use Prim.Native.Nat.{ℕ, zero, suc, ◌+◌, ◌-◌, ◌≤◌, ◌<◌}
use native.Mathlib.Omega.{arith}
use native.Mathlib.Decide.{dec_lt}
use lib.Dec.{eqb}
use borrow.Author.Tests.{eq-eqb, lt-ltb}
use Rattle.search.specs.Search.{count}
use Rattle.search.proofs.SearchLaws.{lowest_passes}
use Rattle.slices.specs.Parts.{Bytes}
use Rattle.slices.proofs.SameLaws.{and_off}
use Rattle.record.specs.Meaning.{Record, good, blank, bad, Entry, intact, broken}
use Rattle.image.specs.Cluster.{Cluster}
use Rattle.image.specs.View.{View, condition, condition_at, is_blank, view_of, condition_as, seen_as}
use Rattle.image.specs.declared.condition.Condition.{Condition}
use Rattle.image.specs.declared.condition.Condition.TheVariants.{Unused, Whole, RecordLost, Faulty, Lost, RecordOnly}
use Rattle.image.proofs.ViewLaws.{used_below}
use Rattle.planner.specs.Setting.{Setting, witness, views_of}
use Rattle.planner.specs.Rules.{majority, is_used, answers, agrees, dont_have}
use Rattle.protocol.specs.Recovery.{differs, first_differing}
use Rattle.protocol.proofs.Consistency.{Consistent}
use Rattle.protocol.proofs.Quorum.{Quorum}

-- slot k of a replica is used under epoch e
pub record Holding (k e : ℕ) (a : View) : Type 0 where
  pub within : k < a.length
  pub epoch : a.epoch k ≡ e

used_as : (w : Bool) (d : Condition) → is_used d ≡ true → is_used (condition_as w d) ≡ true
unfolding condition_as is_used
used_as true Unused h = h
used_as true Whole h = refl
used_as true RecordLost h = refl
used_as true Faulty h = refl
used_as true Lost h = refl
used_as true RecordOnly h = refl
used_as false d h = h

used_condition : (S : Setting) (F : Cluster) (c j : ℕ) → j < (views_of S F c).length → is_used ((views_of S F c).condition j) ≡ true
unfolding views_of seen_as view_of condition_at condition is_blank is_used
used_condition S F c j h = used_as (witness S c) (condition_at (F c) j) (go ((F c).records j) ((F c).entries j) (used_below S.shape.m (F c) j h))
  where
    go : (r : Record) (x : Entry) → is_blank r ≡ false → is_used (condition r x) ≡ true
    go (good e) (intact f p) b = at (eqb e f)
      where
        at : (t : Bool) → is_used (cond t Whole Faulty) ≡ true
        at true = refl
        at false = refl
    go (good e) (broken y) b = refl
    go blank x b = absurd (true≢false b)
    go (bad z) (intact f p) b = refl
    go (bad z) (broken y) b = refl

module _ (S : Setting) (pay : ℕ → ℕ → Bytes) (prev : ℕ → ℕ → ℕ) (F : Cluster) (i : Consistent S pay prev F) (K e : ℕ)
    (n : S.leader < S.shape.n) (ok : (views_of S F S.leader).readable ≡ true) (top : Holding K e (views_of S F S.leader)) where
  -- two logs with the same epoch at slot K have the same epochs below it
  below : (c : ℕ) → c < S.shape.n → (views_of S F c).readable ≡ true → Holding K e (views_of S F c) → (d j : ℕ) → j + d ≡ K → (views_of S F c).epoch j ≡ (views_of S F S.leader).epoch j
  below c cn r h zero j q =
      let p : j ≡ K = omega arith in
      rw p (h.epoch ∙ sym top.epoch)
  below c cn r h (suc d) j q =
      let z = below c cn r h d (suc j) (omega arith) in
      i.chain c j cn r (omega (arith, h.within)) ∙ ap (prev (suc j)) z ∙ sym (i.chain S.leader j n ok (omega (arith, top.within)))

  pub same_below : (c : ℕ) → c < S.shape.n → (views_of S F c).readable ≡ true → Holding K e (views_of S F c) → (j : ℕ) → j ≤ K → (views_of S F c).epoch j ≡ (views_of S F S.leader).epoch j
  same_below c cn r h j b = below c cn r h (K - j) j (omega arith)

  holder_agrees : (c : ℕ) → c < S.shape.n → (views_of S F c).readable ≡ true → Holding K e (views_of S F c) → (j : ℕ) → j ≤ K → agrees S (views_of S F) c j ≡ true
  unfolding agrees
  holder_agrees c cn r h j b = rw (used_condition S F c j (omega (arith, h.within)), eq-eqb ((views_of S F c).epoch j) ((views_of S F S.leader).epoch j) (same_below c cn r h j b))

  -- a holder's first differing slot lies above K
  pub differing_above : (c : ℕ) → c < S.shape.n → (views_of S F c).readable ≡ true → Holding K e (views_of S F c) → K < first_differing S (views_of S F) c
  unfolding first_differing differs
  differing_above c cn r h = go (dec_lt K (first_differing S (views_of S F) c))
    where
      d : ℕ
      d = first_differing S (views_of S F) c

      go : Dec (K < d) → K < d
      go (yes l) = l
      go (no l) =
          let p = lowest_passes (differs S (views_of S F) c) (views_of S F c).length (omega (arith, h.within)) in
          absurd (true≢false (sym (rw (lt-ltb d (views_of S F S.leader).length (omega (arith, top.within)), eq-eqb ((views_of S F c).epoch d) ((views_of S F S.leader).epoch d) (same_below c cn r h d (omega arith))) at p)))

  -- so no holder answers don't-have there or below: with a majority of them these slots stay
  pub holding_quorum : (hold : ℕ → Bool) → majority S.shape.n ≤ count hold S.shape.n
      → ((c : ℕ) → c < S.shape.n → hold c ≡ true → (views_of S F c).readable ≡ true → Holding K e (views_of S F c))
      → (j : ℕ) → j ≤ K → Quorum S (views_of S F) hold j
  unfolding dont_have
  holding_quorum hold many holds j b = record { many = many; answer = λ c cn x. go c cn x (views_of S F c).readable refl }
    where
      go : (c : ℕ) → c < S.shape.n → hold c ≡ true → (t : Bool) → (views_of S F c).readable ≡ t → dont_have S (views_of S F) j c ≡ false
      go c cn x true r = rw (holder_agrees c cn r (holds c cn x r) j b, and_off (answers S (views_of S F) c))
      go c cn x false r = unfold answers in rw (r, and_off (not (eqb c S.leader)))
