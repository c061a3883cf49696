use Rattle.impossible_proof.proofs.Rooms.{room_small, small_as_held}
use Rattle.impossible_proof.proofs.edges.room_of_instant.Goals as goal

pub returns-clause-small : goal.returns-clause-small
returns-clause-small c =
    small_as_held c.window_capacity.result _ c.window_capacity.ensures (room_small c.args.table.now c.requires.valid c.args.time c.args.time c.requires.time)
