use Rattle.std.proofs.Common.{◌∙◌, length, ap}
use Rattle.stream_audit.proofs.VideoFacts.{is_video, sequence_is, video_few, video_front, video_stopped}
use Rattle.stream_audit.proofs.video_packets.video_of.Goals as goal

pub front-first-requires : goal.front-first-requires
front-first-requires c = video_few c.args.packets.now c.in-Ok.taken c.in-Ok.ensures (length c.as_slice-count.result.now) (ap (λ placed. length placed) c.as_slice-count.ensures.value)

pub returns-clause-stream : goal.returns-clause-stream
returns-clause-stream c =
    let sequence = sequence_is c.args.packets.now c.in-Ok.taken c.as_slice.result.now c.find_sequence.result c.in-Ok.ensures c.as_slice.ensures.value c.find_sequence.ensures.at ∙ c.in-Some.is in
    let first_is = video_front c.args.packets.now c.in-Ok.taken c.in-Ok.ensures (length c.as_slice-count.result.now) (ap (λ placed. length placed) c.as_slice-count.ensures.value)
    c.front-first.result.now c.front-first.ensures in
    is_video c.args.places.now c.args.zero c.args.pid c.bytes_before.result c.in-Some.from c.bytes_of_units.result c.args.kept.now c.args.packets.now c.front-first.result.now
    c.in_ok-stream.stream sequence c.bytes_before.ensures c.bytes_of_units.ensures first_is (rw c.new-parts.ensures at c.in_ok-stream.ensures.stream)

pub returns-in-Err-clause-refused : goal.returns-in-Err-clause-refused
returns-in-Err-clause-refused c = video_stopped c.args.pid c.args.packets.now c.in-Err.fault c.stream_stop.result c.in-Err.ensures c.stream_stop.ensures
