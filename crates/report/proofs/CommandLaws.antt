-- The ways in which a command line is read.
use Prim.Native.Nat.{ℕ, pred, ◌*◌, ◌%◌, ◌^◌, ◌<◌, ◌≤◌}
use mathlib.Core.Path.{◌≡◌, refl, sym, ◌∙◌}
use mathlib.Core.Bool.{true, false}
use native.Mathlib.Omega.{arith}
use native.Mathlib.Decide.{dec_lt}
use lib.Pow.{shl_exact}
use lib.ListN.{length, get_or}
use borrow.Author.Tests.{lt-leb, le-leb, eq-eqb, ne_eqb}
use Rattle.slices.specs.Parts.{Bytes, part}
use Rattle.slices.proofs.PartLaws.{length_part}
use Rattle.slices.proofs.SameLaws.{and_off}
use Rattle.column.specs.ColumnState.{column_state}
use Rattle.column.specs.declared.ColumnState.{ColumnState}
use Rattle.column.specs.declared.ColumnState.TheVariants.{Number, Blank}
use Rattle.column.specs.declared.ColumnState.TheVariants as column
use Rattle.column.proofs.StateLaws.{number_only_if}
use Rattle.image.specs.View.{is_size, is_replica}
use Rattle.report.specs.Command.{numbered, chosen, command_of, command_line, present_of}
use Rattle.report.specs.declared.Present.{Present}
use Rattle.report.specs.declared.Present.TheVariants.{Set, LeaderAlone}
use Rattle.report.specs.declared.Command.{Command}
use Rattle.report.specs.declared.Command.TheVariants.{Well, Malformed}

-- no number stands there
abbrev pub Other : ColumnState → Type 0
Other s = (x : ℕ) → s ≡ Number x → ⊥

not_numbered : (s : ColumnState) (then : ℕ → Command) → Other s → Malformed ≡ numbered s then
unfolding numbered
not_numbered (column.Number x) then h = absurd (h x refl)
not_numbered column.Blank then h = refl
not_numbered column.Malformed then h = refl

module _ (n m leader set : ColumnState) where
  pub no_n : Other n → Malformed ≡ command_of n m leader set
  unfolding command_of
  no_n h = not_numbered n _ h

  module _ {x : ℕ} (at_n : n ≡ Number x) where
    pub no_m : Other m → Malformed ≡ command_of n m leader set
    unfolding command_of numbered
    no_m h = rw at_n (not_numbered m _ h)

    module _ {y : ℕ} (at-m : m ≡ Number y) where
      pub no_leader : Other leader → Malformed ≡ command_of n m leader set
      unfolding command_of numbered
      no_leader h = rw (at_n, at-m) (not_numbered leader _ h)

      module _ {z : ℕ} (at-leader : leader ≡ Number z) where
        pub with_set : {w : ℕ} → set ≡ Number w → Well x y z (Set w) ≡ command_of n m leader set
        unfolding command_of numbered chosen
        with_set h = rw (at_n, at-m, at-leader, h) refl

        pub with_blank : set ≡ Blank → Well x y z LeaderAlone ≡ command_of n m leader set
        unfolding command_of numbered chosen
        with_blank h = rw (at_n, at-m, at-leader, h) refl

        pub no_set : set ≡ column.Malformed → Malformed ≡ command_of n m leader set
        unfolding command_of numbered chosen
        no_set h = rw (at_n, at-m, at-leader, h) refl

module _ (b : Bytes) where
  pub too_short : length b < 14 → Malformed ≡ command_line b
  unfolding command_line
  too_short h = rw (lt-leb _ _ h) refl

  pub no_newline : 14 ≤ length b → (get_or b 13 0 ≡ 10 → ⊥) → Malformed ≡ command_line b
  unfolding command_line
  no_newline h k = rw (le-leb _ _ h, ne_eqb _ _ k) refl

  pub with_columns : {n m leader set : ColumnState} {r : Command} → 14 ≤ length b → get_or b 13 0 ≡ 10
      → n ≡ column_state (part b 0 3) → m ≡ column_state (part b 3 3) → leader ≡ column_state (part b 6 3) → set ≡ column_state (part b 9 4)
      → r ≡ command_of n m leader set → r ≡ command_line b
  unfolding command_line
  with_columns h k pn pm pl ps e = e ∙ rw (pn, pm, pl, ps, le-leb _ _ h, eq-eqb _ _ k) refl

  pub set_fits : {set : ColumnState} (w : ℕ) → 14 ≤ length b → set ≡ column_state (part b 9 4) → set ≡ Number w → w < 10000
  set_fits w h p e =
      let l : length (part b 9 4) ≡ 4 = length_part b 9 4 (omega arith) in
      let k : w < 10 ^ length (part b 9 4) = (number_only_if (part b 9 4) w (sym p ∙ e)).fits in
      rw l at k

pub well_long : (b : Bytes) {n m leader : ℕ} {set : Present} → command_line b ≡ Well n m leader set → 14 ≤ length b
well_long b {n} {m} {leader} {set} e = go (dec_lt (length b) 14)
  where
    go : Dec (length b < 14) → 14 ≤ length b
    go (yes h) = absurd (let k = too_short b h in let z : ◌≡◌ {A = ℕ} 0 1 = cc in omega arith)
    go (no h) = omega (arith, h)

-- ---- the present set

-- `1 << k`
one_bit : (k : ℕ) → k < 32 → 1 * 2 ^ k % 4294967296 ≡ 2 ^ k
one_bit k h = shl_exact 1 k 32 (omega arith) (omega arith) ∙ omega arith

module _ (n leader : ℕ) where
  -- there is no such replica
  pub unsized_none : is_size n ≡ false → 0 ≡ present_of n leader LeaderAlone
  unfolding present_of
  unsized_none e = rw e refl

  pub leader_none : is_replica n leader ≡ false → 0 ≡ present_of n leader LeaderAlone
  unfolding present_of
  leader_none e = rw (e, and_off (is_size n)) refl

  module _ (s : is_size n ≡ true) (e : is_replica n leader ≡ true) where
    pub leader_own : 2 ^ pred leader ≡ present_of n leader LeaderAlone
    unfolding present_of
    leader_own = rw (s, e) refl

    -- `1 << (leader - 1)`
    pub leader_bit : {k : ℕ} → k ≡ pred leader → k < 32 → 1 * 2 ^ k % 4294967296 ≡ present_of n leader LeaderAlone
    leader_bit {k} p h = one_bit k h ∙ rw p leader_own

  module _ (p : Present) where
    pub present_set : {w : ℕ} → p ≡ Set w → w ≡ present_of n leader p
    unfolding present_of
    present_set h = rw h refl

    pub present_blank : {w : ℕ} → p ≡ LeaderAlone → w ≡ present_of n leader LeaderAlone → w ≡ present_of n leader p
    present_blank h e = rw h e
