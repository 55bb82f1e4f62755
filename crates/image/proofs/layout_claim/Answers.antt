-- The claim's parts are laws.
use mathlib.Core.Path.{◌≡◌, ◌∙◌}
use native.Mathlib.Omega.{arith}
use Rattle.record.specs.declared.Shape.{Shape}
use Rattle.slices.specs.Parts.{part}
use Rattle.record.specs.Layout.{header_size}
use Rattle.record.proofs.HeaderLaws.{read_first_one}
use Rattle.record.proofs.LayoutLaws.{header_size_one, header_size_two, gives_other, gives_two, length_header, length_record, length_blank, length_entry, length_fresh}
use Rattle.image.specs.Image.{index, first_in}
use Rattle.image.specs.LayoutClaim.{card_size}
use Rattle.image.proofs.DecodeLaws.{size_card, size_witness, record_there, entry_there, none_there}
use Rattle.image.proofs.ClusterLaws.{image_at_lem, image_at_all}
use Rattle.image.proofs.EncodeLaws.{encode_decode_image, encode_decode}
use Rattle.image.proofs.layout_claim.Goals as goal

one : (Z : Shape) → Z.edition ≡ 1 → header_size Z ≡ 28
one Z e = header_size_one Z (gives_other Z (λ two. omega arith))

two : (Z : Shape) → Z.edition ≡ 2 → header_size Z ≡ 39
two Z e = header_size_two Z (gives_two Z e)

pub returns : goal.returns
unfolding index card_size
returns c =
    record {
      header_size_lem = λ Z c first e. length_header Z c first ∙ one Z e;
      header_size_two = λ Z c first e. length_header Z c first ∙ two Z e;
      record_size_lem = length_record;
      blank_size = length_blank;
      entry_size_lem = length_entry;
      fresh_size = length_fresh;
      image_size_lem = λ Z c e card. omega (arith, size_card Z c card, one Z e);
      image_size_two = λ Z c e card. omega (arith, size_card Z c card, two Z e);
      witness_size = λ Z c e witness. omega (arith, size_witness Z c witness, one Z e);
      witness_size_two = λ Z c e witness. omega (arith, size_witness Z c witness, two Z e);
      cluster_size = λ Z none. image_at_lem Z Z.n none;
      cluster_witnesses = λ Z. omega (arith, image_at_all Z Z.n);
      card_size_lem = size_card;
      index_record = record_there;
      index_entry = entry_there;
      no_entry = none_there;
      first_one = λ Z c b e. unfold first_in in read_first_one Z c (part b 0 (header_size Z)) (gives_other Z (λ two. omega arith));
      image_again = encode_decode_image;
      cluster_again = encode_decode;
    }
