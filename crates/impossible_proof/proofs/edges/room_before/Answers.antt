use Rattle.impossible_proof.specs.Private.Scan.{room_before}
use Rattle.impossible_proof.proofs.Balanced.{difference_held, difference_small}
use Rattle.impossible_proof.proofs.Rooms.{room_narrow}
use Rattle.impossible_proof.proofs.edges.room_before.Goals as goal

pub returns-clause-value : goal.returns-clause-value
unfolding room_before
returns-clause-value c =
    let table = c.args.table.now in
    difference_held c.room_by.result c.room_of_instant.result _ _ c.room_by.ensures.value c.room_of_instant.ensures.value
    (room_narrow table c.requires.valid 0 c.args.time c.requires.time) (room_narrow table c.requires.valid c.args.time c.args.time c.requires.time)

pub returns-clause-small : goal.returns-clause-small
returns-clause-small c =
    let table = c.args.table.now in
    difference_small c.room_by.result c.room_of_instant.result _ _ c.room_by.ensures.value c.room_of_instant.ensures.value
    (room_narrow table c.requires.valid 0 c.args.time c.requires.time) (room_narrow table c.requires.valid c.args.time c.args.time c.requires.time)
