-- Every row of the three tables is computed, and what the cards of the second mean.
use mathlib.Core.Path.{refl}
use Rattle.protocol.proofs.Opened.{opened}
use Rattle.starred.specs.Cards as cards
use Rattle.starred.specs.Starred.{Starred}
use Rattle.starred.specs.Sizes as sizes
use Rattle.starred.specs.Sizes.{Sizes}
use Rattle.starred.specs.Stale as stale
use Rattle.starred.specs.Stale.{StalePlaces}
use Rattle.starred.proofs.SeenLaws.{over, record_of, entry_of, Seen}

pub computed : Starred × Sizes × Seen × StalePlaces
unfolding opened cards.noise cards.scratch cards.whole cards.one cards.two cards.faulty_of cards.has_of cards.lacks_of sizes.cards sizes.planned sizes.answers sizes.bytes stale.last stale.before stale.stale stale.planned over record_of entry_of
computed = (starred, by_size, seen, stale_places)
  where
    starred : Starred
    starred = record {
      no_bytes = refl;
      byte_65 = refl;
      line_1_1 = refl;
      line_1_1_sum = refl;
      same_epoch = refl;
      lower_epoch = refl;
      line_lost = refl;
      line_lost_read = refl;
      both_lost = refl;
      gap = refl;
      noise_last = refl;
      noise_last_read = refl;
      noise_before = refl;
      noise_before_read = refl;
      three_one = refl;
      three_one_byte = refl;
      two_two = refl;
      two_two_byte = refl;
      two_one_one = refl;
      two_one_one_byte = refl;
      three_intact = refl;
      three_intact_byte = refl;
    }

    by_size : Sizes
    by_size = record {
      three = refl;
      four = refl;
      five = refl;
      six = refl;
      seven = refl;
      three_bytes = refl;
      four_bytes = refl;
      five_bytes = refl;
      six_bytes = refl;
      seven_bytes = refl;
      four_intact = refl;
      four_intact_byte = refl;
      two = refl;
      eight = refl;
    }

    seen : Seen
    seen = record {
      headers = refl;
      records = refl;
      entries = refl;
      accepted = refl;
      faulty = refl;
      donors = refl;
      lacking = refl;
      holders = refl;
      waits = refl;
    }

    stale_places : StalePlaces
    stale_places = record {
      earlier_last = refl;
      earlier_before = refl;
      later_last = refl;
      misplaced_last = refl;
      misplaced_before = refl;
      fresh_last = refl;
      fresh_before = refl;
      no_payload = refl;
      three_one = refl;
      two_two = refl;
      two_one_one = refl;
      three_intact = refl;
    }
