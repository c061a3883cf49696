use Rattle.std.proofs.Common.{◌≡◌, ◌≤◌, take}
use Rattle.std.specs.List.{sum_by}
use Rattle.program_reader.proofs.due_program.audio_packets_dropped.Given as goal

abbrev pub invariant-loop-stream : goal.invariant-loop-stream
invariant-loop-stream l = record { sum : l.dropped ≡ sum_by (λ one. one.dropped) (take l.stream-index l.streams); most : l.dropped ≤ l.stream-index }
