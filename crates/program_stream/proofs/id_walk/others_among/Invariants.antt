use Rattle.std.proofs.Common.{◌≡◌, ◌++◌, drop}
use Rattle.std.specs.List.{filter}
use Rattle.program_stream.specs.Streams.{is_other}
use Rattle.program_stream.proofs.id_walk.others_among.Given as goal

abbrev pub invariant-loop-id : goal.invariant-loop-id
invariant-loop-id l = l.others ++ filter (is_other l.drop l.video) (drop l.id-index l.ids) ≡ filter (is_other l.drop l.video) l.ids
