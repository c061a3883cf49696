use Rattle.std.proofs.Common.{ℕ, ◌<◌, get_or}
use Rattle.slot_rule.specs.declared.turns.Turn.{Turn}
use Rattle.slot_rule.specs.Private.Turns.{GoesBefore}
use Rattle.slot_rule.proofs.turns.place_of.Given as goal

abbrev pub invariant-loop-place : goal.invariant-loop-place
invariant-loop-place l = (k : ℕ) (d : Turn) → k < l.place → GoesBefore l.turn (get_or l.turns k d) → ⊥
