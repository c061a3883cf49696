use Rattle.std.proofs.Common.{◌∷◌, []}
use Rattle.stream_pass.proofs.Passed.{held_is, held_longer}
use Rattle.stream_pass.proofs.limited_walk.take_state.Goals as goal

pub returns-in-Refused : goal.returns-in-Refused
returns-in-Refused g c start ended few read =
    let has_read = g.W.StreamWalk.has_read start in
    let refuses = g.W.StreamWalk.refuses start in
    held_longer has_read refuses ended (c.args.packet.now ∷ []) c.in-Refused.fault (held_is has_read refuses ended c.args.state c.in-Refused.fault c.in-Refused.is read)
