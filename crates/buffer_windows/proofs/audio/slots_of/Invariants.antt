use Rattle.std.proofs.Common.{◌≡◌, take, sum_by}
use Rattle.buffer_windows.specs.Room.{slots_taken}
use Rattle.buffer_windows.proofs.audio.slots_of.Given as goal

-- the slots of the streams so far
abbrev pub invariant-loop-packets : goal.invariant-loop-packets
invariant-loop-packets l = l.total ≡ sum_by (slots_taken l.slot l.window) (take l.packets-index l.audios)
