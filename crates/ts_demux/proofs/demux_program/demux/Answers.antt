use Rattle.std.proofs.Common.{◌<◌, List, length, map, sym, ap, ◌∙◌, subst, arith}
use Rattle.psi_tables.specs.declared.stream.Stream.{Stream}
use Rattle.ts_demux.specs.declared.demuxed.AudioStream.{AudioStream}
use Rattle.ts_demux.specs.Private.StreamWalk.{AreGathered, IsGatherFault}
use Rattle.ts_demux.proofs.DemuxSteps.{gather_refused, all_of, some_of, first_of, others_of_first, rest_size}
use Rattle.ts_demux.specs.CarriedPackets.{AreDistinct}
use Rattle.ts_demux.proofs.DistinctPids.{carried_distinct}
use Rattle.ts_demux.proofs.demux_program.demux.Goals as goal

pub returns-in-Err-gather_in : goal.returns-in-Err-gather_in
returns-in-Err-gather_in c =
    let carried = c.in-Ok.carried in
    let has = c.in-Ok.ensures in
    gather_refused c.args.file.now c.args.program c.args.drop.now carried.map carried.others c.in-Err-gather_in.fault has.tables has.few has.short
    (subst (λ (items : List Stream). IsGatherFault c.args.file.now (map (λ (stream : Stream). stream.pid) items) c.in-Err-gather_in.fault)
    c.as_slice-streams.ensures.value c.in-Err-gather_in.ensures)

pub remove-video-requires : goal.remove-video-requires
remove-video-requires c =
    let carried = c.in-Ok.carried in
    let is = c.in-Ok.ensures.tables.carried_is in
    let gathered : AreGathered c.args.file.now (map (λ (stream : Stream). stream.pid) carried.map.streams.items) c.in-Ok-gather_in.gatherers.items =
    subst (λ (items : List Stream). AreGathered c.args.file.now (map (λ (stream : Stream). stream.pid) items) c.in-Ok-gather_in.gatherers.items)
    c.as_slice-streams.ensures.value c.in-Ok-gather_in.ensures in
    let all = all_of c.args.file.now carried.map.streams.items is.video _ c.in-Ok-all_streams.streams.items c.in-Ok-gather_in.gatherers.items is.streams gathered c.in-Ok-all_streams.ensures.ok in
    let some : 0 < length c.in-Ok-all_streams.streams.items = some_of c.in-Ok-all_streams.streams.items _ _ all in
    omega arith

pub returns : goal.returns
returns c =
    let carried = c.in-Ok.carried in
    let has = c.in-Ok.ensures in
    let is = has.tables.carried_is in
    let gathered : AreGathered c.args.file.now (map (λ (stream : Stream). stream.pid) carried.map.streams.items) c.in-Ok-gather_in.gatherers.items =
    subst (λ (items : List Stream). AreGathered c.args.file.now (map (λ (stream : Stream). stream.pid) items) c.in-Ok-gather_in.gatherers.items)
    c.as_slice-streams.ensures.value c.in-Ok-gather_in.ensures in
    let all = all_of c.args.file.now carried.map.streams.items is.video _ c.in-Ok-all_streams.streams.items c.in-Ok-gather_in.gatherers.items is.streams gathered c.in-Ok-all_streams.ensures.ok in
    record {
      tables = has.tables;
      few = has.few;
      short = has.short;
      sound = gathered.sound;
      video = is.video;
      audios = _;
      streams = is.streams;
      video_packets = ap (λ (a : AudioStream). a.units) (first_of c.in-Ok-all_streams.streams.items _ c.remove-video.result _ all c.remove-video.ensures.value);
      audio_packets = c.from_vec.ensures ∙ c.remove-video.ensures.items ∙ others_of_first c.in-Ok-all_streams.streams.items _ _ all;
      rest_is = rest_size c.args.file.now;
    }

pub gather_in-requires-clause-distinct : goal.gather_in-requires-clause-distinct
gather_in-requires-clause-distinct c =
    let carried = c.in-Ok.carried in
    let has = c.in-Ok.ensures.tables in
    subst (λ (items : List Stream). AreDistinct (map (λ (stream : Stream). stream.pid) items)) (sym c.as_slice-streams.ensures.value)
    (carried_distinct c.args.drop.now has.whole carried.map carried.others has.carried_is)
