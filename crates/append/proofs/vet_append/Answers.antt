-- `vet_append` tries 8, 9 and 10 in this order.
use Rattle.std.proofs.Common.{rules}
use Rattle.image.specs.Refusal.{refuse, ◌else◌}
use Rattle.append.proofs.vet_append.Goals as goal

pub returns-then-epoch-eq0 : goal.returns-then-epoch-eq0
unfolding refuse ◌else◌
returns-then-epoch-eq0 c = search rules

pub returns-then-size-gt-MAX_PAYLOAD : goal.returns-then-size-gt-MAX_PAYLOAD
unfolding refuse ◌else◌
returns-then-size-gt-MAX_PAYLOAD c = search rules

pub returns-then-m-length : goal.returns-then-m-length
unfolding refuse ◌else◌
returns-then-m-length c = search rules

pub returns : goal.returns
unfolding refuse ◌else◌
returns c = search rules
