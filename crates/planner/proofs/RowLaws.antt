-- The rows of the planner's table.
use Prim.Native.Nat.{ℕ, ◌+◌, ◌*◌, ◌-◌, ◌<◌, ◌≤◌}
use mathlib.Core.Path.{◌≡◌, refl, sym, ◌∙◌}
use mathlib.Core.Bool.{Bool, true, false, cond}
use mathlib.Core.List.{List, []}
use native.Mathlib.Omega.{arith}
use native.Mathlib.Numerals.{add-one}
use lib.Dec.{eqb}
use lib.ListN.{length, get_or, set, take}
use lib.Seq.{take-suc-set}
use borrow.Author.Tests.{eqb-false}
use Rattle.search.specs.Search.{listed, one_if}
use Rattle.search.proofs.ListedLaws.{listed_cong}
use Rattle.image.specs.View.{View}
use Rattle.search.specs.Sets.{has}
use Rattle.planner.specs.Plan.{row_length, row_epoch}
use Rattle.planner.specs.Survey.{Surveyed}
use Rattle.planner.specs.Answers.{row_of}
use Rattle.planner.specs.Tabulated.{no_row, last_epoch, number_row}

module _ (readable : ℕ) (lengths epochs : List ℕ) (c : ℕ) where
  pub row_off : has readable c ≡ false → no_row ≡ number_row readable lengths epochs c
  unfolding number_row
  row_off e = rw e refl

  pub row_on : {y e : ℕ} → has readable c ≡ true → y ≡ 1 → e ≡ last_epoch epochs c (get_or lengths c 0)
      → record { readable = y; length = get_or lengths c 0; last_epoch = e } ≡ number_row readable lengths epochs c
  unfolding number_row
  row_on h one q = rw (h, one, q) refl

-- ---- filled from the front

pub rows_none {ℓ} : {A : Type ℓ} (f : ℕ → A) → [] ≡ listed 0 f
unfolding listed
rows_none f = refl

pub rows_more {ℓ} : {A : Type ℓ} (f : ℕ → A) (rows : List A) (c : ℕ) {x : A} → c < length rows → take c rows ≡ listed c f → x ≡ f c → take (c + 1) (set rows c x) ≡ listed (c + 1) f
unfolding listed
rows_more f rows c {x} h e q = rw (add-one, take-suc-set rows c x h, e, q) refl

pub rows_all {ℓ} : {A : Type ℓ} (f : ℕ → A) (rows : List A) (n c : ℕ) → c ≤ n → n ≤ c → take c rows ≡ listed c f → take n rows ≡ listed n f
rows_all f rows n c h g e = let q : n ≡ c = omega arith in rw q e

-- ---- the rows of a survey are those of its views

module _ (n m readable : ℕ) (W : ℕ → View) (firsts lengths conditions epochs : List ℕ) (s : Surveyed n m W readable firsts lengths conditions epochs)
    (fits : (c : ℕ) → c < n → (W c).readable ≡ true → (W c).length ≤ m) where
  pub lengths_fit : m ≤ 64 → (c : ℕ) → c < n → has readable c ≡ true → get_or lengths c 0 ≤ 64
  lengths_fit h c b r =
      let on : (W c).readable ≡ true = sym (s.readable_is c b) ∙ r in
      omega (arith, s.length_is c b on, fits c b on)

  row_is : (c : ℕ) → c < n → number_row readable lengths epochs c ≡ row_of (W c)
  unfolding number_row row_of row_length row_epoch no_row one_if last_epoch
  row_is c b = go (W c).readable refl
    where
      last : (l : ℕ) (t : Bool) → (W c).readable ≡ true → l ≡ (W c).length → eqb l 0 ≡ t → cond t 0 (get_or epochs (c * 64 + l - 1) 0) ≡ cond t 0 ((W c).epoch (l - 1))
      last l true on e q = refl
      last l false on e q =
          let z : c * 64 + l - 1 ≡ c * 64 + (l - 1) = omega (arith, eqb-false l 0 q) in
          rw z (s.epoch_is c (l - 1) b (omega (arith, fits c b on, eqb-false l 0 q)) on)

      go : (t : Bool) → (W c).readable ≡ t → number_row readable lengths epochs c ≡ row_of (W c)
      go true on = rw (s.readable_is c b, on, s.length_is c b on, last (W c).length (eqb (W c).length 0) on refl refl) refl
      go false off = rw (s.readable_is c b, off) refl

  pub rows_are : listed n (number_row readable lengths epochs) ≡ listed n (λ c. row_of (W c))
  rows_are = listed_cong n (number_row readable lengths epochs) (λ c. row_of (W c)) row_is
