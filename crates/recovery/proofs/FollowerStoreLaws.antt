-- A follower's first store, as the code comes to it.
use Prim.Native.Nat.{ℕ, pred, ◌+◌, ◌*◌, ◌-◌, ◌≤◌, ◌<◌}
use mathlib.Core.Path.{◌≡◌, sym, ◌∙◌}
use mathlib.Core.Bool.{Bool, true, false, not, ◌&&◌}
use mathlib.Core.List.{List}
use mathlib.Core.Option.{Option, none, some}
use native.Mathlib.Omega.{arith}
use lib.Dec.{eqb, ltb}
use lib.ListN.{get_or}
use Rattle.search.specs.Search.{lowest}
use Rattle.search.proofs.SearchLaws.{lowest_le}
use Rattle.image.specs.View.{View}
use Rattle.planner.specs.Setting.{Setting}
use Rattle.planner.specs.Rules.{is_faulty, is_record_lost}
use Rattle.protocol.specs.Store.{Store, store_entry, store_record, store_blank}
use Rattle.protocol.specs.Recovery.{◌or◌, if_below, differs, first_differing, follower_store}
use Rattle.protocol.proofs.ChainLaws.{or_first, or_second, below_some, above_none}
use Rattle.recovery.specs.Look.{Looked, missing_store}
use Rattle.recovery.proofs.LookLaws.{lost_found, faulty_found, differing_found}

module _ (S : Setting) (W : ℕ → View) (other : Bool) (leader c : ℕ) where
  abbrev own : ℕ
  own = (W c).length

  abbrev differing : ℕ
  differing = first_differing S W c

  abbrev fault : ℕ
  fault = lowest (λ k. is_faulty ((W c).condition k)) differing

  abbrev missed : ℕ
  missed = lowest (λ k. is_record_lost ((W c).condition k)) differing

  abbrev blanked : Option Store
  blanked = if_below differing own (store_blank c (pred own))

  abbrev mended : Option Store
  mended = if_below fault differing (store_entry c fault leader)

  abbrev rewritten : Option Store
  rewritten = if_below missed differing (store_record c missed ((W c).epoch missed))

  abbrev added : Option Store
  added = missing_store S W other c

  module _ (el : S.leader ≡ leader) (m limit length : ℕ) (conditions epochs : List ℕ)
      (x : Looked m (W leader) leader limit conditions epochs) (y : Looked m (W c) c length conditions epochs)
      (d : ℕ) (ed : d ≡ lowest (λ k. not (ltb k limit && eqb (get_or epochs (c * 64 + k) 0) (get_or epochs (leader * 64 + k) 0))) length) where
    all_four : follower_store S W other c ≡ (blanked or mended or rewritten or added)
    unfolding follower_store
    all_four = rw el

    d_is : d ≡ differing
    d_is = ed ∙ differing_found S W el x y

    d_fits : differing ≤ m
    unfolding first_differing
    d_fits = let a = lowest_le (differs S W c) own in let b = y.log_fits in omega arith

    fault_is : {f : ℕ} → f ≡ lowest (λ k. eqb (get_or conditions (c * 64 + k) 0) 3) d → f ≡ fault
    fault_is e = e ∙ rw d_is (faulty_found y differing d_fits)

    missed_is : {f : ℕ} → f ≡ lowest (λ k. eqb (get_or conditions (c * 64 + k) 0) 2) d → f ≡ missed
    missed_is e = e ∙ rw d_is (lost_found y differing d_fits)

    pub follower_blanks : d < length → some (store_blank c (length - 1)) ≡ follower_store S W other c
    follower_blanks h =
        let a = d_is in
        let b = y.length_is in
        let q : length - 1 ≡ pred own = omega arith in
        rw (all_four, q) (or_first blanked (mended or rewritten or added) _ (below_some differing own _ (omega arith)))

    module _ (kept : length ≤ d) where
      not_blanked : blanked ≡ none
      not_blanked = let a = d_is in let b = y.length_is in above_none differing own _ (omega arith)

      pub follower_mends : (f donor : ℕ) → f ≡ lowest (λ k. eqb (get_or conditions (c * 64 + k) 0) 3) d → f < d → donor ≡ leader
          → some (store_entry c f donor) ≡ follower_store S W other c
      follower_mends f donor e h i =
          let a = d_is in
          let b = fault_is e in
          let l : fault < differing = omega arith in
          rw (all_four, b, i) (or_second blanked (mended or rewritten or added) _ not_blanked (or_first mended (rewritten or added) _ (below_some fault differing _ l)))

      module _ (f : ℕ) (e : f ≡ lowest (λ k. eqb (get_or conditions (c * 64 + k) 0) 3) d) (whole : d ≤ f) where
        not_mended : mended ≡ none
        not_mended = let a = d_is in let b = fault_is e in above_none fault differing _ (omega arith)

        past_entries : {o : Option Store} → o ≡ (rewritten or added) → o ≡ follower_store S W other c
        past_entries h = rw all_four (or_second blanked (mended or rewritten or added) _ not_blanked (or_second mended (rewritten or added) _ not_mended h))

        pub follower_rewrites : (g : ℕ) → g ≡ lowest (λ k. eqb (get_or conditions (c * 64 + k) 0) 2) d → g < d
            → some (store_record c g (get_or epochs (c * 64 + g) 0)) ≡ follower_store S W other c
        follower_rewrites g i h =
            let a = d_is in
            let b = missed_is i in
            let l : missed < differing = omega arith in
            let v = d_fits in
            let q = y.epoch_is missed (omega arith) in
            rw (b, q) (past_entries (or_first rewritten added _ (below_some missed differing _ l)))

        module _ (g : ℕ) (i : g ≡ lowest (λ k. eqb (get_or conditions (c * 64 + k) 0) 2) d) (there : d ≤ g) where
          not_rewritten : rewritten ≡ none
          not_rewritten = let a = d_is in let b = missed_is i in above_none missed differing _ (omega arith)

          pub past_records : {o : Option Store} → o ≡ added → o ≡ follower_store S W other c
          past_records h = past_entries (or_second rewritten added _ not_rewritten h)

-- the first missing slot, if the log ends before the leader's
module _ (S : Setting) (W : ℕ → View) (other : Bool) (leader c : ℕ) (el : S.leader ≡ leader) (m limit length : ℕ) (conditions epochs : List ℕ)
    (x : Looked m (W leader) leader limit conditions epochs) (y : Looked m (W c) c length conditions epochs) where
  pub missing_none : limit ≤ length → none ≡ missing_store S W other c
  missing_none h =
      let a = x.length_is in
      let b = y.length_is in
      rw el (sym (above_none (W c).length (W leader).length _ (omega arith)))

  pub missing_entry : length < limit → other ≡ true → some (store_entry c length leader) ≡ missing_store S W other c
  missing_entry h t =
      let a = x.length_is in
      let b = y.length_is in
      rw (el, t, b) (sym (below_some (W c).length (W leader).length _ (omega arith)))

  pub missing_record : length < limit → other ≡ false → some (store_record c length (get_or epochs (leader * 64 + length) 0)) ≡ missing_store S W other c
  missing_record h t =
      let a = x.length_is in
      let b = y.length_is in
      let v = x.log_fits in
      let q = x.epoch_is length (omega arith) in
      rw (q, el, t, b) (sym (below_some (W c).length (W leader).length _ (omega arith)))
