use Rattle.std.proofs.Common.{◌≡◌, ◌+◌, sum_by}
use Rattle.buffer_windows.specs.Room.{audio_slots, slots_taken}
use Rattle.buffer_windows.proofs.Counted.{streams_from}
use Rattle.buffer_windows.proofs.audio.audio_slots.Given as goal

-- the slots of the programs so far, and of those still to come
abbrev pub invariant-loop-program : goal.invariant-loop-program
invariant-loop-program l =
    l.total + sum_by (slots_taken l.table.slot l.window) (streams_from l.program-items l.program-index) ≡ audio_slots l.table l.window
