use Rattle.std.proofs.Common.{w64, rules, ◌∙◌}
use Rattle.std.proofs.lemmas.Int.{to_z-of_z}
use mir.Val.{SFits}
use Rattle.dual_bounds.specs.Room.{slot_capacity}
use Rattle.impossible_proof.proofs.Rooms.{room_small, small_as_held}
use Rattle.impossible_proof.proofs.edges.room_by.Goals as goal

pub returns-clause-value : goal.returns-clause-value
unfolding slot_capacity
returns-clause-value c =
    let fits : SFits w64 c.capacity.result = search rules in
    to_z-of_z w64 c.capacity.result fits ∙ c.capacity.ensures

pub returns-clause-small : goal.returns-clause-small
unfolding slot_capacity
returns-clause-small c = small_as_held c.capacity.result _ c.capacity.ensures (room_small c.args.table.now c.requires.valid 0 c.args.time c.requires.time)
