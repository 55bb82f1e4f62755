-- The claim's parts are laws.
use lib.ListN.{length}
use Rattle.image.specs.Append.{appended}
use Rattle.image.specs.Image.{image_size, fresh_image}
use Rattle.image.proofs.CallLaws.{formatted_first}
use Rattle.image.proofs.KindLaws.{kind_intro}
use Rattle.image.proofs.FreshLaws.{length_fresh_image, fresh_first, fresh_readable, fresh_length, fresh_blank, fresh_verdict}
use Rattle.image.proofs.AcceptLaws.{accepts_elim, last_epoch_again}
use Rattle.image.proofs.AppendLaws.{appended_stored, one_more}
use Rattle.image.proofs.AppendListLaws.{several_read}
use Rattle.image.proofs.WitnessLaws.{empty_witness, record_more, several_epochs}
use Rattle.image.proofs.append_claim.Goals as goal

pub returns : goal.returns
returns c =
    record {
      fresh = λ Z c first card h. record {
        size = length_fresh_image Z c first;
        readable = kind_intro _ Z c (fresh_image Z c first) card (fresh_readable Z c first h);
        begins = fresh_first Z c first (formatted_first Z c first (image_size Z c) h);
        none = fresh_length Z c first;
        blanks = λ k x. fresh_blank Z c first k;
        verdicts = λ k x. fresh_verdict Z c first k card x;
      };
      one = λ Z c b e p high ok.
          one_more Z c b e p (appended Z c b e p) high (accepts_elim Z c b e (length p) ok) (appended_stored Z c b e p ok);
      several = several_read;
      at_last_epoch = last_epoch_again;
      witness_fresh = empty_witness;
      witness_one = record_more;
      witness_several = several_epochs;
    }
