use Rattle.std.proofs.Common.{inr}
use Rattle.elementary_streams.proofs.StreamLemmas.{taken_few, taken_times, taken_size, taken_starts, frames_refused, stream_read}
use Rattle.elementary_streams.proofs.audio_stream.read_stream.Goals as goal

pub audio_starts-requires-clause-few : goal.audio_starts-requires-clause-few
audio_starts-requires-clause-few c = taken_few c.as_slice.result.now c.in-Ok.taken c.as_slice-2.result.now c.in-Ok.ensures c.as_slice-2.ensures.value (rw c.as_slice.ensures c.requires.few)

pub audio_starts-requires-clause-times : goal.audio_starts-requires-clause-times
audio_starts-requires-clause-times c = taken_times c.as_slice.result.now c.in-Ok.taken c.as_slice-2.result.now c.in-Ok.ensures c.as_slice-2.ensures.value

pub frames-read-requires-clause-size : goal.frames-read-requires-clause-size
frames-read-requires-clause-size c = taken_size c.as_slice.result.now c.in-Ok.taken c.as_slice-3.result.now c.in-Ok.ensures c.as_slice-3.ensures.value (rw c.as_slice.ensures c.requires.size)

pub frames-read-requires-clause-starts : goal.frames-read-requires-clause-starts
frames-read-requires-clause-starts c =
    taken_starts c.args.first.now.time c.as_slice.result.now c.in-Ok.taken c.as_slice-2.result.now c.as_slice-3.result.now c.in_ok-starts.starts.items c.as_slice-4.result.now c.in-Ok.ensures
    c.as_slice-2.ensures.value c.as_slice-3.ensures.value c.as_slice-4.ensures.value c.in_ok-starts.ensures.starts c.in_ok-starts.ensures.near

pub returns-in-Err-read : goal.returns-in-Err-read
returns-in-Err-read c =
    inr (frames_refused c.args.first.now.time c.args.stream.now c.as_slice.result.now c.in-Ok.taken c.as_slice-2.result.now c.as_slice-3.result.now c.in_ok-starts.starts.items
    c.as_slice-4.result.now c.in-Err-read.fault c.frames_refused.result c.as_slice.ensures c.in-Ok.ensures c.as_slice-2.ensures.value c.as_slice-3.ensures.value c.as_slice-4.ensures.value
    c.in_ok-starts.ensures.starts c.in-Err-read.ensures.refused c.frames_refused.ensures)

pub returns-in-Ok-read : goal.returns-in-Ok-read
returns-in-Ok-read c =
    stream_read c.args.first.now.time c.args.stream.now c.as_slice.result.now c.in-Ok.taken c.as_slice-2.result.now c.as_slice-3.result.now c.in_ok-starts.starts.items
    c.as_slice-4.result.now c.in-Ok-read.frames c.as_slice-in-Ok-read.result.now c.audio_type-kind.result c.count_of-bytes.result c.as_slice.ensures c.in-Ok.ensures c.as_slice-2.ensures.value c.as_slice-3.ensures.value c.as_slice-4.ensures.value
    c.in_ok-starts.ensures.starts c.in_ok-starts.ensures.near c.in-Ok-read.ensures.frames
    (taken_size c.as_slice.result.now c.in-Ok.taken c.as_slice-3.result.now c.in-Ok.ensures c.as_slice-3.ensures.value (rw c.as_slice.ensures c.requires.size)) c.as_slice-in-Ok-read.ensures.value
    c.audio_type-kind.ensures c.count_of-bytes.ensures
