-- A record is for the index that the log begins at.
use Rattle.std.proofs.Common.{rules, ◌≡◌, ap}
use Rattle.image.specs.Cluster.{first_at}
use Rattle.protocol.specs.Store.{store_replica}
use Rattle.protocol.specs.Recovery.{after}
use Rattle.protocol.specs.StepBytes.{after_store_bytes}
use Rattle.recovery.specs.NextStore.{store_of}
use Rattle.store.proofs.make_store.Goals as goal

pub returns-in-Record : goal.returns-in-Record
unfolding after after_store_bytes store_replica
returns-in-Record c =
    let a = c.args in
    let begins : first_at a.shape a.cluster.now c.in-Record.c ≡ a.first = c.requires.begins_at _ (ap store_of c.in-Record.is) in
    search rules
