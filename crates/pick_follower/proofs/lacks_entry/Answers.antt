-- `lacks_entry` compares a card's entry with the leader's.
use mathlib.Core.Path.{sym, ◌∙◌}
use Rattle.protocol.proofs.UnlikeLaws.{unlike_found, unlike_witness}
use Rattle.recovery.proofs.WitnessLaws.{is_told}
use Rattle.recovery.proofs.BeginsLaws.{survey_one}
use Rattle.recovery.proofs.FollowerLaws.{image_within}
use native.Mathlib.Omega.{arith}
use Rattle.pick_follower.proofs.lacks_entry.Goals as goal

pub overflow_add-c : goal.overflow_add-c
overflow_add-c c =
    let r = c.requires.0.in_range in let h = c.requires.0.replica_below in omega (arith, r.few)

pub returns-then-is_witness : goal.returns-then-is_witness
returns-then-is_witness c =
    λ S v q. sym (unlike_witness S c.args.cluster.now c.args.c (rw v.shape_is (is_told c.args.shape c.args.c c.is_witness.ensures (omega arith) c.if-is_witness.true)))

pub entry_differs-requires : goal.entry_differs-requires
entry_differs-requires c =
    let r = c.requires.0.in_range in
    record {
      m_bound = (r.slots_fit, c.requires.1);
      card_fits = (
        (is_told c.args.shape c.args.c c.is_witness.ensures (omega arith) c.if-is_witness.false, image_within r _ c.requires.0.replica_below),
        (r.leader_card, image_within r _ r.leader_below),
      );
    }

pub returns : goal.returns
returns c =
    λ S v q.
    let s = v.survey_is in
    let h = c.requires.0.replica_below in
    let on = sym (s.surveyed.readable_is _ h) ∙ c.requires.0.replica_reads in
    let card = is_told c.args.shape c.args.c c.is_witness.ensures (omega arith) c.if-is_witness.false in
    c.entry_differs.ensures ∙ sym (unlike_found S c.args.cluster.now _ _ _ _ v.shape_is s.leader_is card (rw s.leader_is s.leader_card) (survey_one c.args.cluster.now s _ h on) q c.requires.1)
