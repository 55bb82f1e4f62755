-- Where the logs begin: refusal 21, from the views and from a survey's numbers.
use Prim.Native.Nat.{ℕ, zero, suc, ◌<◌}
use mathlib.Core.Path.{◌≡◌, refl, sym, ◌∙◌}
use mathlib.Core.Bool.{Bool, true, false, not, ◌||◌, true≢false}
use mathlib.Core.List.{List}
use native.Mathlib.Omega.{arith}
use lib.Dec.{eqb}
use lib.ListN.{get_or}
use borrow.Author.Tests.{eqb-true, eqb-false, eq-eqb, ne_eqb}
use Rattle.slices.specs.Parts.{Bytes}
use Rattle.search.specs.Search.{all}
use Rattle.search.proofs.SearchLaws.{all_elim, all_intro, all_off, all_cong}
use Rattle.record.proofs.LayoutLaws.{gives_other}
use Rattle.record.proofs.HeaderLaws.{read_first_one}
use Rattle.image.specs.Image.{first_in, decode_under, decode_image}
use Rattle.image.specs.View.{View, view_of, seen_as}
use Rattle.image.specs.Cluster.{first_at, decode}
use Rattle.search.specs.Sets.{has}
use Rattle.planner.specs.Setting.{Setting, views_of}
use Rattle.planner.specs.Rules.{same_firsts}
use Rattle.planner.specs.Plan.{views_in}
use Rattle.planner.specs.Survey.{Surveyed, same_numbers}

-- ---- one replica: if it is readable it has the same first index

passed : (r : Bool) (x y : ℕ) → (not r || eqb x y) ≡ true → r ≡ true → x ≡ y
passed true x y e on = eqb-true x y e
passed false x y e on = absurd (true≢false (sym on))

passes : (r : Bool) (x y : ℕ) → (r ≡ true → x ≡ y) → (not r || eqb x y) ≡ true
passes true x y f = eq-eqb x y (f refl)
passes false x y f = refl

fails : (r : Bool) (x y : ℕ) → r ≡ true → ¬ (x ≡ y) → (not r || eqb x y) ≡ false
fails true x y on f = ne_eqb x y f
fails false x y on f = absurd (true≢false (sym on))

failed : (r : Bool) (x y : ℕ) → (not r || eqb x y) ≡ false → (r ≡ true) × (¬ (x ≡ y))
failed true x y e = (refl, eqb-false x y e)
failed false x y e = absurd (true≢false e)

same_test : {r s : Bool} {x y v w : ℕ} → r ≡ s → (s ≡ true → x ≡ v) → y ≡ w → (not r || eqb x y) ≡ (not s || eqb v w)
same_test {s = s} {x = x} {v = v} {w = w} p f q = rw (p, q) (go s f)
  where
    go : (t : Bool) → (t ≡ true → x ≡ v) → (not t || eqb x w) ≡ (not t || eqb v w)
    go true g = rw (g refl) refl
    go false g = refl

-- ---- all of them

-- one that fails
pub record Failing (p : ℕ → Bool) (b : ℕ) : Type 0 where
  pub at : ℕ
  pub within : at < b
  pub is : p at ≡ false

pub all_fails : (p : ℕ → Bool) (b : ℕ) → all p b ≡ false → Failing p b
unfolding all
all_fails p zero e = absurd (true≢false e)
all_fails p (suc b) e = go (p b) refl e (all_fails p b)
  where
    go : (t : Bool) → p b ≡ t → all p (suc b) ≡ false → (all p b ≡ false → Failing p b) → Failing p (suc b)
    go false q e ih = record { at = b; within = omega arith; is = q }
    go true q e ih = let f = ih (rw q at e) in record { at = f.at; within = omega (arith, f.within); is = f.is }

module _ (S : Setting) (W : ℕ → View) where
  pub same_elim : same_firsts S W ≡ true → (c : ℕ) → c < S.shape.n → (W c).readable ≡ true → (W c).first ≡ (W S.leader).first
  unfolding same_firsts
  same_elim h c l on = omega (arith, passed (W c).readable (W c).first _ (all_elim _ _ h c (omega (arith, l))) on)

  pub same_intro : ((c : ℕ) → c < S.shape.n → (W c).readable ≡ true → (W c).first ≡ (W S.leader).first) → same_firsts S W ≡ true
  unfolding same_firsts
  same_intro f = all_intro _ _ (λ c l. passes (W c).readable (W c).first _ (λ on. omega (arith, f c (omega (arith, l)) on)))

  pub same_off : (c : ℕ) → c < S.shape.n → (W c).readable ≡ true → ¬ ((W c).first ≡ (W S.leader).first) → same_firsts S W ≡ false
  unfolding same_firsts
  same_off c l on f = all_off _ _ c (omega (arith, l)) (fails (W c).readable (W c).first _ on (λ e. f (omega (arith, e))))

  -- a readable replica with another first index
  pub record Other : Type 0 where
    pub at : ℕ
    pub within : at < S.shape.n
    pub reads : (W at).readable ≡ true
    pub differs : ¬ ((W at).first ≡ (W S.leader).first)

  pub same_other : same_firsts S W ≡ false → Other
  unfolding same_firsts
  same_other h =
      let f = all_fails _ _ h in
      let o = failed (W f.at).readable (W f.at).first _ f.is in
      record { at = f.at; within = omega (arith, f.within); reads = o.0; differs = λ e. o.1 (omega (arith, e)) }

-- ---- from a cluster's bytes

pub view_first : (S : Setting) (b : Bytes) (c : ℕ) → (views_in S b c).first ≡ first_at S.shape b c
unfolding views_in views_of seen_as view_of decode decode_image decode_under first_at first_in
view_first S b c = refl

pub first_one : (S : Setting) (b : Bytes) (c : ℕ) → S.shape.edition ≡ 1 → (views_in S b c).first ≡ 1
unfolding first_at first_in
first_one S b c e = view_first S b c ∙ read_first_one S.shape (suc c) _ (gives_other S.shape (omega arith))

pub same_one : (S : Setting) (b : Bytes) → S.shape.edition ≡ 1 → same_firsts S (views_in S b) ≡ true
same_one S b e = same_intro S (views_in S b) (λ c l on. first_one S b c e ∙ sym (first_one S b S.leader e))

-- ---- from a survey's numbers

module _ {n m : ℕ} {W : ℕ → View} {readable : ℕ} {firsts lengths conditions epochs : List ℕ} (s : Surveyed n m W readable firsts lengths conditions epochs)
    (S : Setting) (en : S.shape.n ≡ n) (lead : S.leader < n) (reads : (W S.leader).readable ≡ true) where
  pub numbers_same : same_numbers n S.leader readable firsts ≡ same_firsts S W
  unfolding same_numbers same_firsts
  numbers_same =
      rw en (all_cong (λ c. not (has readable c) || eqb (get_or firsts c 0) (get_or firsts S.leader 0)) (λ c. not (W c).readable || eqb (W c).first (W S.leader).first) n
      (λ c l. same_test (s.readable_is c l) (s.first_is c l) (s.first_is S.leader lead reads)))
