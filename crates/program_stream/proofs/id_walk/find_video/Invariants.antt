use Rattle.std.proofs.Common.{◌≡◌, drop, true}
use Rattle.std.specs.List.{find}
use Rattle.pes_units.specs.PesHeader.{is_stream_id}
use Rattle.program_stream.proofs.id_walk.find_video.Given as goal

abbrev pub invariant-loop-id : goal.invariant-loop-id
invariant-loop-id l = find (is_stream_id true) l.ids ≡ find (is_stream_id true) (drop l.id-index l.ids)
