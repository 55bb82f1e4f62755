-- The claim's parts are laws.
use native.Mathlib.Omega.{arith}
use Rattle.search.proofs.CountLaws.{count_not}
use Rattle.image.proofs.ViewLaws.{sound_elim}
use Rattle.image.proofs.VerdictLaws.{whole_verdict}
use Rattle.planner.specs.Rules.{majority, dont_have}
use Rattle.planner.proofs.VerdictTies.{faulty_verdict, used_verdict}
use Rattle.planner.proofs.AskingLaws as law
use Rattle.planner.proofs.FirstLaws.{view_first, first_one, same_one}
use Rattle.planner.proofs.MajorityLaws as many
use Rattle.planner.proofs.WitnessLaws as witness
use Rattle.planner.proofs.asking_claim.Goals as goal

pub returns : goal.returns
returns c =
    record {
      faulty = faulty_verdict;
      whole = whole_verdict;
      used = λ m i k ok h. used_verdict m i k ((sound_elim m i ok).kept k h);
      readable = law.own_refusal;
      first = view_first;
      first_one = λ S b c e. first_one S b c (omega arith);
      same_one = same_one;
      one_answer = law.one_answer;
      witness_good = λ S F k c e w on g. witness.witness_good S F k c w on e g;
      witness_other = λ S F k c e w on g. witness.witness_other S F k c w on e g;
      witness_blank = λ S F k c w on g. witness.witness_blank S F k c w on g;
      witness_donates = λ S F k c w. witness.witness_donates S F k c w;
      witness_leads = witness.witness_leads;
      majority_odd = λ k. omega (arith, many.majority_odd k);
      majority_four = unfold majority in omega arith;
      majority_six = unfold majority in omega arith;
      majority_is = many.majority_is;
      may_hold = λ S W k. count_not (dont_have S W k) S.shape.n;
      leader_may_hold = law.leader_may_hold;
      away_may_hold = law.away_may_hold;
      cuts = many.cuts;
      cuts_more = many.cuts_more;
      cuts_odd = λ k d. many.cuts_odd k d;
    }
