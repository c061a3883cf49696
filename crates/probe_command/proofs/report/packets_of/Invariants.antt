use Rattle.std.proofs.Common.{◌≡◌, length, map, take}
use Rattle.probe_command.proofs.report.packets_of.Given as goal

abbrev pub invariant-loop-pieces : goal.invariant-loop-pieces
invariant-loop-pieces l = l.counts ≡ map length (take l.pieces-index l.audios)
