use Rattle.std.proofs.Common.{◌≡◌, ◌∷◌, map, take}
use Rattle.program_stream.specs.Streams.{map_stream}
use Rattle.program_stream.proofs.id_walk.map_of_ids.Given as goal

abbrev pub invariant-loop-id : goal.invariant-loop-id
invariant-loop-id l = l.streams.items ≡ map_stream 2 l.video ∷ map (map_stream 3) (take l.id-index l.audios)
