use Rattle.std.proofs.Common.{◌≡◌, drop, fold, map, max}
use Rattle.std.specs.List.{flat_map}
use Rattle.slot_rule.proofs.distance.later_audio.Given as goal

-- the latest time of what is left, from the latest so far on, is that of all
abbrev pub invariant-loop-packets : goal.invariant-loop-packets
invariant-loop-packets l = let rest = flat_map (λ packets. packets) (drop l.packets-index l.audios) in
    fold max l.latest (map (λ packet. packet.due) rest) ≡ fold max l.time (map (λ packet. packet.due) (flat_map (λ packets. packets) l.audios))
