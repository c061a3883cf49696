use Rattle.file_pieces.proofs.Lanes.{fresh_more}
use Rattle.file_pieces.proofs.kept_pieces.FilePieces.new.Goals as goal

pub loop-lane-preserved : goal.loop-lane-preserved
loop-lane-preserved c told held =
    fresh_more told c.args.lanes.now c.loop-lane.states.items c.push.new.self.items c.loop-lane.lane-index c.lane-item.result c.new.result c.in_ok-push.ensures.items c.loop-lane-test.true
    (c.new.ensures.video told) (c.new.ensures.audio told) (c.loop-lane.invariant told) held
