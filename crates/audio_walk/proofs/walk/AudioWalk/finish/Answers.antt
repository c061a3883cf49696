use Rattle.std.proofs.Common.{[], inr}
use Rattle.elementary_streams.specs.Packets.{joined}
use Rattle.audio_walk.proofs.Ends.{finish_read, finish_refused, finish_starts, finish_times}
use Rattle.audio_walk.proofs.walk.AudioWalk.finish.Goals as goal

pub audio_starts-requires-clause-times : goal.audio_starts-requires-clause-times
audio_starts-requires-clause-times c =
    let (packets, all, is, ends) = c.requires.read in
    finish_times c.args.first.now.time packets c.args.dropped c.args.self c.as_slice.result.now [] [] is c.as_slice.ensures.value

pub end-requires : goal.end-requires
end-requires c =
    let (packets, all, is, ends) = c.requires.read in
    finish_starts c.args.first.now.time packets c.args.dropped c.args.self c.as_slice.result.now c.in_ok-starts.starts.items c.as_slice-2.result.now is c.as_slice.ensures.value
    c.in_ok-starts.ensures.starts c.in_ok-starts.ensures.near c.as_slice-2.ensures.value all _ ends c.args.self.seen

pub returns-in-Ok : goal.returns-in-Ok
returns-in-Ok c packets stream is ends =
    finish_read c.args.first.now.time packets c.args.dropped c.args.self c.as_slice.result.now c.in_ok-starts.starts.items c.as_slice-2.result.now is c.as_slice.ensures.value
    c.in_ok-starts.ensures.starts c.in_ok-starts.ensures.near c.as_slice-2.ensures.value stream ends c.in-Ok.frames c.is_low.result c.stream_type.result
    (c.in-Ok.ensures.frames (joined packets) is.walked) c.args.self.few (c.is_low.ensures (joined packets) is.rate) c.stream_type.ensures

pub returns-in-Err : goal.returns-in-Err
returns-in-Err c packets stream is ends =
    inr (finish_refused c.args.first.now.time packets c.args.dropped c.args.self c.as_slice.result.now c.in_ok-starts.starts.items c.as_slice-2.result.now is c.as_slice.ensures.value
    c.in_ok-starts.ensures.starts c.in_ok-starts.ensures.near c.as_slice-2.ensures.value stream ends c.in-Err.fault c.frames_refused.result
    (c.in-Err.ensures.refused (joined packets) is.walked) c.frames_refused.ensures)
