use Rattle.std.proofs.Common.{◌<◌, length, map, List, refl, sym, ap, ◌∙◌, arith}
use Rattle.ts_demux.specs.declared.demuxed.AudioStream.{AudioStream}
use Rattle.program_stream.specs.Streams.{first_video_id, stream_with_id, map_of}
use Rattle.program_stream.specs.Private.Walks.{stream_ids}
use Rattle.program_stream.proofs.Holding.{streams_are}
use Rattle.ts_demux.proofs.CarrySteps.{some_there}
use Rattle.program_stream.proofs.WalkSteps.{one_video, others_there, few_audios}
use Rattle.program_stream.proofs.stream_walk.StreamWalk.into_demuxed.Goals as goal

pub returns : goal.returns
returns c drop elements walked =
    let videos = c.args.self.video.streams.items in
    let audios = c.args.self.audios.streams.items in
    let video = c.remove-video.result in
    let some : 0 < length videos = omega (arith, some_there c.args.self.video.streams.len (sym c.is_empty.ensures ∙ c.if-is_empty.false), c.args.self.video.streams.ok.0) in
    let one = one_video elements videos video (first_video_id elements) walked.video.ids_are walked.video.each some c.remove-video.ensures.value in
    record {
      video = video.pid;
      video_is = one.0;
      few = few_audios audios _ 8 walked.audios.ids_are (omega (arith, c.len.ensures, c.if-len-gt-AUDIOS_MOST.false, c.args.self.audios.streams.ok.0));
      map_is = c.map_of.ensures ∙ ap (λ (xs : List AudioStream). map_of video.pid (stream_ids xs)) c.as_slice.ensures.value ∙ ap (map_of video.pid) walked.audios.ids_are;
      video_packets = one.1;
      audio_packets = c.from_vec.ensures ∙ streams_are elements audios walked.audios.each ∙ ap (map (stream_with_id elements)) walked.audios.ids_are;
      others_are = others_there drop elements c.args.self.others video.pid walked.others one.0;
      no_rest = refl;
    }
