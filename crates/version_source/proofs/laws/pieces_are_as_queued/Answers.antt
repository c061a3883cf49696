use Rattle.version_source.proofs.Cuts.{as-queued}
use Rattle.version_source.proofs.laws.pieces_are_as_queued.Goals as goal

pub returns : goal.returns
returns c = as-queued
