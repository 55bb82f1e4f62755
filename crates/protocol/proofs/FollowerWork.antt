-- Each store that a follower was due leaves it less work.
use mathlib.Core.Path.{◌≡◌, refl, ap, ◌∙◌, fun_ext}
use mathlib.Core.Bool.{Bool, true, false, cond, not}
use Prim.Native.Nat.{ℕ, suc, ◌+◌, ◌-◌, ◌*◌, ◌≤◌, ◌<◌}
use native.Mathlib.Omega.{arith}
use native.Mathlib.Nat.{zero-add}
use native.Mathlib.Decide.{ℕ_discrete}
use lib.Dec.{ltb}
use borrow.Author.Tests.{eq-eqb, lt-ltb, le-ltb, ltb-true}
use Rattle.search.specs.Search.{count, one_if}
use Rattle.search.proofs.SearchLaws.{lowest_is, lowest_cong, lowest_passes, below_lowest}
use Rattle.search.proofs.CountLaws.{count_cong, count_lt, count_suc}
use Rattle.image.specs.View.{View}
use Rattle.image.specs.declared.condition.Condition.{Condition}
use Rattle.planner.specs.Setting.{Setting}
use Rattle.protocol.specs.Recovery.{differs, first_differing}
use Rattle.protocol.proofs.Effects.{is_complete, Blanked, Mended, Appended}
use Rattle.protocol.proofs.Work.{incomplete, credit, follower_work}

differing_off : (S : Setting) (W U : ℕ → View) (c : ℕ) → U c ≡ W c → U S.leader ≡ W S.leader → first_differing S U c ≡ first_differing S W c
unfolding first_differing differs
differing_off S W U c p q =
    let d : differs S U c ≡ differs S W c = fun_ext (λ j. rw (p, q)) in
    rw (d, p)

pub follower_off : (S : Setting) (W U : ℕ → View) (u : Bool) (c : ℕ) → U c ≡ W c → U S.leader ≡ W S.leader → follower_work S U u c ≡ follower_work S W u c
unfolding follower_work credit
follower_off S W U u c p q = rw (differing_off S W U c p q, p, q)

module _ (S : Setting) (W U : ℕ → View) (c : ℕ) (here : U S.leader ≡ W S.leader) where
  differs_same : (j : ℕ) → (U c).epoch j ≡ (W c).epoch j → differs S U c j ≡ differs S W c j
  unfolding differs
  differs_same j e = rw (here, e)

  blanked_differing : (l : ℕ) → Blanked l (W c) (U c) → first_differing S W c ≤ l → first_differing S U c ≡ first_differing S W c
  unfolding first_differing
  blanked_differing l t h = rw t.is (lowest_is (differs S U c) l (first_differing S W c) h
      (λ j b. differs_same j (t.epochs j (omega arith)) ∙ below_lowest (differs S W c) (W c).length j b)
      (λ b. differs_same (first_differing S W c) (t.epochs (first_differing S W c) b) ∙ lowest_passes (differs S W c) (W c).length (omega (arith, t.was, h))))

  mended_differing : (k : ℕ) → Mended k (W c) (U c) → first_differing S U c ≡ first_differing S W c
  unfolding first_differing
  mended_differing k t = rw t.lengths (lowest_cong (differs S U c) (differs S W c) (W c).length (λ j b. differs_same j (t.epochs j)))

  pub blanked_work : (l : ℕ) (u v : Bool) → Blanked l (W c) (U c) → first_differing S W c ≤ l → follower_work S U v c < follower_work S W u c
  unfolding follower_work credit incomplete
  blanked_work l u v t h =
      let n : count (incomplete (U c)) (first_differing S W c) ≡ count (incomplete (W c)) (first_differing S W c) = count_cong (incomplete (U c)) (incomplete (W c)) (first_differing S W c) (λ k b. ap (λ (d : Condition). not (is_complete d)) (t.conditions k (omega arith))) in
      rw (blanked_differing l t h, t.is, t.was, here, lt-ltb (first_differing S W c) (suc l) (omega arith)) (omega arith)

  pub mended_work : (k : ℕ) (u : Bool) → Mended k (W c) (U c) → k < first_differing S W c → is_complete ((W c).condition k) ≡ false → follower_work S U u c < follower_work S W u c
  unfolding follower_work credit incomplete is_complete
  mended_work k u t h s =
      let n : count (incomplete (U c)) (first_differing S W c) < count (incomplete (W c)) (first_differing S W c) =
      count_lt (incomplete (U c)) (incomplete (W c)) (first_differing S W c) k h (λ j q. ap (λ (d : Condition). not (is_complete d)) (t.conditions j q)) (rw t.whole) (rw s) in
      rw (mended_differing k t, t.lengths, here) (go n (ltb (first_differing S W c) (W c).length) (ltb (first_differing S W c) (W S.leader).length) u refl)
    where
      go : count (incomplete (U c)) (first_differing S W c) < count (incomplete (W c)) (first_differing S W c) → (a b u : Bool) → ltb (first_differing S W c) (W S.leader).length ≡ b
          → (((W c).length - first_differing S W c) + count (incomplete (U c)) (first_differing S W c) + 2 * ((W S.leader).length - first_differing S W c)) - cond a 0 (cond b (cond u 0 1) 0)
          < (((W c).length - first_differing S W c) + count (incomplete (W c)) (first_differing S W c) + 2 * ((W S.leader).length - first_differing S W c)) - cond a 0 (cond b (cond u 0 1) 0)
      go n true b u q = omega arith
      go n false true true q = omega arith
      go n false true false q = omega (arith, ltb-true)
      go n false false u q = omega arith

  pub filled_work : U c ≡ W c → first_differing S W c ≡ (W c).length → (W c).length < (W S.leader).length → follower_work S U false c < follower_work S W true c
  unfolding follower_work credit
  filled_work e full h =
      rw (differing_off S W U c e here, e, here, full, le-ltb (W c).length (W c).length (omega arith), lt-ltb (W c).length (W S.leader).length h) (omega arith)

  differs_not : (j : ℕ) → (U c).epoch j ≡ (W S.leader).epoch j → j < (W S.leader).length → differs S U c j ≡ false
  unfolding differs
  differs_not j p h = rw (here, lt-ltb j (W S.leader).length h, eq-eqb ((U c).epoch j) ((W S.leader).epoch j) p)

  appended_differing : Appended (W c).length ((W S.leader).epoch (W c).length) (W c) (U c) → first_differing S W c ≡ (W c).length → (W c).length < (W S.leader).length → first_differing S U c ≡ suc (W c).length
  unfolding first_differing
  appended_differing t full h = rw t.is (lowest_is (differs S U c) (suc (W c).length) (suc (W c).length) (omega arith) (λ j b. go j b (ℕ_discrete j (W c).length)) (λ b. absurd (omega arith)))
    where
      go : (j : ℕ) → j < suc (W c).length → Dec (j ≡ (W c).length) → differs S U c j ≡ false
      go j b (yes q) = rw q (differs_not (W c).length t.epoch h)
      go j b (no q) = differs_same j (t.epochs j (omega arith)) ∙ below_lowest (differs S W c) (W c).length j (omega (arith, full))

  pub appended_work : (v : Bool) → Appended (W c).length ((W S.leader).epoch (W c).length) (W c) (U c) → first_differing S W c ≡ (W c).length → (W c).length < (W S.leader).length
      → follower_work S U v c < follower_work S W false c
  unfolding follower_work credit incomplete is_complete one_if
  appended_work v t full h =
      let l = (W c).length in
      let n : count (incomplete (U c)) (suc l) ≡ count (incomplete (W c)) l =
      count_suc (incomplete (U c)) l ∙ rw t.complete (rw zero-add (count_cong (incomplete (U c)) (incomplete (W c)) l (λ k b. ap (λ (d : Condition). not (is_complete d)) (t.conditions k b)))) in
      rw (appended_differing t full h, t.is, here, full, le-ltb l l (omega arith), lt-ltb l (W S.leader).length h, n) (omega arith)
