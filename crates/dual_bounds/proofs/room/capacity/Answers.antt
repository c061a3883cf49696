use Rattle.std.proofs.Common.{w64, rules, ◌∙◌}
use Rattle.std.proofs.lemmas.Int.{to_z-of_z}
use mir.Val.{SFits}
use Rattle.dual_bounds.specs.Room.{slot_capacity}
use Rattle.dual_bounds.proofs.room.capacity.Goals as goal

pub returns : goal.returns
unfolding slot_capacity
returns c =
    let fits : SFits w64 c.window_capacity.result = search rules in
    to_z-of_z w64 c.window_capacity.result fits ∙ c.window_capacity.ensures
