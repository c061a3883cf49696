use Rattle.std.proofs.Common.{◌≡◌, ◌+◌}
use Rattle.std.specs.List.{flat_map}
use Rattle.dual_bounds.specs.Private.Counts.{audio_within}
use Rattle.dual_bounds.proofs.AudioDue.{streams_from}
use Rattle.dual_bounds.proofs.room.packets_due_of.Given as goal

-- what is counted so far and what is still to come make the whole
abbrev pub invariant-loop-packets : goal.invariant-loop-packets
invariant-loop-packets l = l.total + audio_within l.from l.due (streams_from l.audios l.packets-index) ≡ audio_within l.from l.due (flat_map (λ packets. packets) l.audios)
