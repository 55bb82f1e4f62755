use Rattle.demand3.proofs.UncutLaws.{uncut}
use Rattle.demand3.proofs.RunLaws.{runs}
use Rattle.demand3.proofs.PartA.{part_a}
use Rattle.demand3.proofs.PartB.{part_b, part_b_whole}
use Rattle.image.proofs.ClusterLaws.{with_one_lem}
use Rattle.record.proofs.LayoutLaws.{no_witness}
use Rattle.demand3.proofs.BeforeLaws.{damaged_cluster_lem}
use Rattle.demand3.proofs.CardsLaws.{supposed_cards, damaged_cards}
use Rattle.demand3.proofs.demand_three.Goals as goal

pub returns : goal.returns
returns c =
    record {
      uncut = uncut;
      runs = runs;
      always = λ N qs b₀ b list. part_a N list;
      committed = λ N qs b₀ b H i e p s list. part_b N H i e p s list;
      damaged = damaged_cluster_lem;
      demand = part_b_whole;
      without_witnesses = record { card = λ Z c e. no_witness Z e c; supposed = λ S F H i e p w s. supposed_cards S w F H i e p s; damaged = λ S F f G j e p w s. damaged_cards S w F f G j e p s };
      edition_one = λ N firsts b c e f. with_one_lem N.shape firsts b c e f;
    }
