use Rattle.column.proofs.StateLaws as law
use Rattle.column.proofs.exact_claim.Goals as goal

pub returns : goal.returns
returns c =
    record {
      number_if = law.number_if;
      number_only_if = law.number_only_if;
      blank_if = law.blank_if;
      blank_only_if = law.blank_only_if;
      malformed_if = law.malformed_if;
      malformed_only_if = law.malformed_only_if;
      read_back = law.number_written;
    }
