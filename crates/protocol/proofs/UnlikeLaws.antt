-- The test of a missing slot's entry, in bytes: all 240 of them.
use Prim.Native.Nat.{ℕ, suc, ◌+◌, ◌<◌}
use mathlib.Core.Path.{◌≡◌, refl, sym, ap, ◌∙◌}
use mathlib.Core.Bool.{Bool, true, false, not}
use native.Mathlib.Omega.{arith}
use Rattle.slices.specs.Parts.{Bytes, part}
use Rattle.slices.specs.Same.{same}
use Rattle.slices.proofs.SameLaws.{same_true, same_false, not_so}
use Rattle.record.specs.declared.Shape.{Shape}
use Rattle.record.specs.Layout.{is_witness}
use Rattle.record.specs.Meaning.{read_entry, write_entry}
use Rattle.record.proofs.EntryLaws.{write_read_entry}
use Rattle.image.specs.Image.{index, entry_at}
use Rattle.image.specs.Cluster.{image_at, first_at, decode}
use Rattle.image.proofs.ClusterLaws.{entry_means}
use Rattle.planner.specs.Setting.{Setting, witness, views_of}
use Rattle.planner.specs.Plan.{views_in}
use Rattle.protocol.specs.Store.{same_entry}
use Rattle.protocol.specs.Recovery.{unlike}
use Rattle.protocol.proofs.FirstLaws.{entry_as}
use Rattle.protocol.proofs.Slots.{same_entry_lem, entry_refl}

pub same_entry_bytes : (k : ℕ) (a b : Bytes) → same_entry (read_entry k a) (read_entry k b) ≡ same a b
same_entry_bytes k a b = go (same a b) refl
  where
    go : (t : Bool) → same a b ≡ t → same_entry (read_entry k a) (read_entry k b) ≡ t
    go true e = rw (same_true a b e) (entry_refl (read_entry k b))
    go false e = not_so (same_entry (read_entry k a) (read_entry k b)) (λ h.
        same_false a b e (sym (write_read_entry k a) ∙ ap (write_entry k) (same_entry_lem (read_entry k a) (read_entry k b) h) ∙ write_read_entry k b))

pub unlike_bytes : (S : Setting) (b : Bytes) (c : ℕ) → witness S c ≡ false → witness S S.leader ≡ false → first_at S.shape b c ≡ first_at S.shape b S.leader → (views_in S b c).length < S.shape.m
    → unlike S (decode S.shape b) c
    ≡ not (same (part b (image_at S.shape c + entry_at S.shape (views_in S b c).length) 240) (part b (image_at S.shape S.leader + entry_at S.shape (views_in S b c).length) 240))
unfolding unlike views_in
unlike_bytes S b c card lead one h =
    let k = (views_of S (decode S.shape b) c).length in
    rw (card, entry_means S.shape b c k card h, entry_as S.shape b c S.leader k one lead h)
    (ap not (same_entry_bytes (index (first_at S.shape b c) k) (part b (image_at S.shape c + entry_at S.shape k) 240) (part b (image_at S.shape S.leader + entry_at S.shape k) 240)))

-- the same, for the numbers that the code is given
pub unlike_found : (S : Setting) (b : Bytes) (Z : Shape) (leader c k : ℕ) → S.shape ≡ Z → S.leader ≡ leader → is_witness Z (suc c) ≡ false → witness S S.leader ≡ false → first_at S.shape b c ≡ first_at S.shape b S.leader → k ≡ (views_in S b c).length → k < Z.m
    → unlike S (decode S.shape b) c ≡ not (same (part b (image_at Z c + entry_at Z k) 240) (part b (image_at Z leader + entry_at Z k) 240))
unlike_found S b Z leader c k ez el card lead one ek h =
    let e : S.shape.m ≡ Z.m = ap (λ (Y : Shape). Y.m) ez in
    rw (← ez, ← el, ek) (unlike_bytes S b c (rw ez card) lead one (omega (arith, e)))

-- a witness has no entries to get
pub unlike_witness : (S : Setting) (b : Bytes) (c : ℕ) → is_witness S.shape (suc c) ≡ true → unlike S (decode S.shape b) c ≡ false
unfolding unlike
unlike_witness S b c e = rw e
