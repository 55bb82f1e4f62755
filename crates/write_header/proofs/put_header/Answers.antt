-- `put_header` lends as many bytes as a header has to the writer of headers.
use Prim.Native.Nat.{ℕ, ◌+◌, ◌-◌}
use mathlib.Core.Path.{◌≡◌, sym, ◌∙◌}
use native.Mathlib.Omega.{arith}
use lib.ListN.{length}
use borrow.Rule.Slice.PartMut.{put_mid}
use Rattle.slices.specs.Parts.{Bytes, spliced}
use Rattle.record.specs.declared.Shape.{Shape}
use Rattle.record.specs.Layout.{header_bytes}
use Rattle.record.proofs.LayoutLaws.{length_header}
use Rattle.slices.proofs.SpliceLaws.{part_put}
use Rattle.write_header.proofs.put_header.Goals as goal

-- the front, up to an end that the code works out
front-put : (b : Bytes) (e : ℕ) (v : Bytes) {x : Bytes} → x ≡ v → length v ≡ e → put_mid 0 (e - 0) b x ≡ spliced b 0 v
front-put b e v q h = let z : 0 + e ≡ e = omega arith in rw z at (part_put b 0 e v q h)

-- the header, for numbers that are the call's
header-as : (Z : Shape) (c first : ℕ) {d f : ℕ} {x : Bytes} → d ≡ c → f ≡ first → x ≡ header_bytes Z d f → x ≡ header_bytes Z c first
header-as Z c first p q h = rw (p, q) at h

pub returns : goal.returns
returns c =
    front-put c.args.image.now _ _ (header-as _ _ _ (omega arith) (omega arith) c.write_header.ensures) (length_header _ _ _ ∙ sym c.header_size-e.ensures)
