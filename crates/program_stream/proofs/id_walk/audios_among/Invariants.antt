use Rattle.std.proofs.Common.{◌≡◌, ◌++◌, drop}
use Rattle.std.specs.List.{filter}
use Rattle.program_stream.specs.Streams.{is_carried_audio}
use Rattle.program_stream.proofs.id_walk.audios_among.Given as goal

abbrev pub invariant-loop-id : goal.invariant-loop-id
invariant-loop-id l = l.audios ++ filter (is_carried_audio l.drop) (drop l.id-index l.ids) ≡ filter (is_carried_audio l.drop) l.ids
