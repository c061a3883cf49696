use Rattle.std.proofs.Common.{◌≡◌, ◌+◌, length, take}
use Rattle.std.specs.List.{sum_by}
use Rattle.job_programs.proofs.share.has_few_pieces.Given as goal

abbrev pub invariant-loop-pieces : goal.invariant-loop-pieces
invariant-loop-pieces l = l.room + sum_by length (take l.pieces-index l.audios) ≡ l.most
