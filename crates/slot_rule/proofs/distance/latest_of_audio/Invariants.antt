use Rattle.std.proofs.Common.{◌≡◌, drop, fold, map, max}
use Rattle.std.specs.List.{flat_map}
use Rattle.version_table.specs.Table.{audio_packets_of, greatest}
use Rattle.slot_rule.proofs.distance.latest_of_audio.Given as goal

-- the latest time of what is left, from the latest so far on, is that of all
abbrev pub invariant-loop-program : goal.invariant-loop-program
invariant-loop-program l = let rest = flat_map (λ program. flat_map (λ packets. packets) program.audios) (drop l.program-index l.program-items) in
    fold max l.latest (map (λ packet. packet.due) rest) ≡ greatest (map (λ packet. packet.due) (audio_packets_of l.table))
