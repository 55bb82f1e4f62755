-- The leader's first store, as the code comes to it.
use Prim.Native.Nat.{ℕ, pred, ◌+◌, ◌*◌, ◌-◌, ◌≤◌, ◌<◌}
use mathlib.Core.Path.{◌≡◌, sym, ap, ◌∙◌}
use mathlib.Core.List.{List}
use mathlib.Core.Option.{Option, none, some}
use native.Mathlib.Omega.{arith}
use lib.Dec.{eqb, ltb}
use lib.ListN.{get_or}
use Rattle.search.specs.Search.{lowest}
use Rattle.search.proofs.SearchLaws.{lowest_passes}
use Rattle.image.specs.View.{View}
use Rattle.planner.specs.Setting.{Setting}
use Rattle.planner.specs.Rules.{is_record_lost, is_fetch, rule, donor, end}
use Rattle.planner.specs.Survey.{Planned}
use Rattle.protocol.specs.Store.{Store, store_entry, store_record, store_blank}
use Rattle.protocol.specs.Recovery.{◌or◌, if_below, leader_store}
use Rattle.protocol.proofs.ChainLaws.{or_first, or_second, below_some, above_none}
use Rattle.recovery.specs.Look.{Looked}
use Rattle.recovery.proofs.LookLaws.{lost_found, fetch_found, donor_found}
use Rattle.planner.proofs.RuleLaws.{end_le}

module _ (S : Setting) (W : ℕ → View) (leader : ℕ) where
  abbrev len : ℕ
  len = (W leader).length

  abbrev fetch : ℕ
  fetch = lowest (λ k. is_fetch (rule S W k)) (end S W)

  abbrev lost : ℕ
  lost = lowest (λ k. is_record_lost ((W leader).condition k)) (end S W)

  abbrev one : Option Store
  one = if_below (end S W) len (store_blank leader (pred len))

  abbrev two : Option Store
  two = if_below fetch (end S W) (store_entry leader fetch (donor S W fetch))

  abbrev three : Option Store
  three = if_below lost (end S W) (store_record leader lost ((W leader).epoch lost))

  module _ (el : S.leader ≡ leader) (length : ℕ) (conditions epochs bytes : List ℕ) (final waiting : ℕ)
      (x : Looked S.shape.m (W leader) leader length conditions epochs) (p : Planned S W bytes final waiting) where
    whole : leader_store S W ≡ (one or two or three)
    unfolding leader_store
    whole = rw el

    fits : (W S.leader).length ≤ S.shape.m
    fits = rw el x.log_fits

    fetch_is : {f : ℕ} → f ≡ lowest (λ k. ltb 10 (get_or bytes k 0)) final → f ≡ fetch
    fetch_is e = e ∙ rw p.end_is (fetch_found S W p fits)

    lost_is : {f : ℕ} → f ≡ lowest (λ k. eqb (get_or conditions (leader * 64 + k) 0) 2) final → f ≡ lost
    lost_is e = e ∙ rw p.end_is (lost_found x (end S W) (let a = end_le S W in let b = fits in omega arith))

    pub leader_blanks : (k : ℕ) → final < length → k ≡ length - 1 → some (store_blank leader k) ≡ leader_store S W
    leader_blanks k h i =
        let a = x.length_is in
        let b = p.end_is in
        let q : k ≡ pred len = omega arith in
        rw (whole, q) (or_first one (two or three) _ (below_some (end S W) len _ (omega arith)))

    module _ (kept : length ≤ final) where
      no_blank : one ≡ none
      no_blank = let a = x.length_is in let b = p.end_is in above_none (end S W) len _ (omega arith)

      pub leader_fetches : (f d : ℕ) → f ≡ lowest (λ k. ltb 10 (get_or bytes k 0)) final → f < final → d ≡ get_or bytes f 0 - 11 → some (store_entry leader f d) ≡ leader_store S W
      leader_fetches f d e h ed =
          let a = fetch_is e in
          let b = p.end_is in
          let l : fetch < end S W = omega arith in
          let w = donor_found S W p fits fetch l (lowest_passes (λ k. is_fetch (rule S W k)) (end S W) l) in
          let v = ap (λ (k : ℕ). get_or bytes k 0) a in
          let q : d ≡ donor S W fetch = omega arith in
          rw (whole, a, q) (or_second one (two or three) _ no_blank (or_first two three _ (below_some fetch (end S W) _ l)))

      module _ (f : ℕ) (e : f ≡ lowest (λ k. ltb 10 (get_or bytes k 0)) final) (unfetched : final ≤ f) where
        no_fetch : two ≡ none
        no_fetch = let a = fetch_is e in let b = p.end_is in above_none fetch (end S W) _ (omega arith)

        pub leader_rewrites : (g : ℕ) → g ≡ lowest (λ k. eqb (get_or conditions (leader * 64 + k) 0) 2) final → g < final
            → some (store_record leader g (get_or epochs (leader * 64 + g) 0)) ≡ leader_store S W
        leader_rewrites g i h =
            let a = lost_is i in
            let b = p.end_is in
            let l : lost < end S W = omega arith in
            let w = end_le S W in
            let v = fits in
            let q = x.epoch_is lost (omega arith) in
            rw (whole, a, q) (or_second one (two or three) _ no_blank (or_second two three _ no_fetch (sym (below_some lost (end S W) _ l))))

        pub leader_rests : (g : ℕ) → g ≡ lowest (λ k. eqb (get_or conditions (leader * 64 + k) 0) 2) final → final ≤ g → none ≡ leader_store S W
        leader_rests g i h =
            let a = lost_is i in
            let b = p.end_is in
            rw whole (or_second one (two or three) _ no_blank (or_second two three _ no_fetch (sym (above_none lost (end S W) _ (omega arith)))))
