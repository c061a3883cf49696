use Rattle.std.proofs.Common.{◌≤◌, take}
use Rattle.arrayvec.specs.ArrayVec.{array_vec_len}
use Rattle.slot_rule.specs.Private.Turns.{AreTurns}
use Rattle.slot_rule.proofs.turns.first_turns.Given as goal

abbrev pub invariant-loop-stream : goal.invariant-loop-stream
invariant-loop-stream l = record { turns : AreTurns (take l.stream l.states) l.turns.items; few : array_vec_len l.turns ≤ l.stream }
