use Rattle.std.proofs.Common.{◌≡◌, ◌<◌, ◌++◌, ◌∷◌, [], length, map, ap, ◌∙◌, arith}
use Rattle.std.proofs.lemmas.List.{take_all}
use Rattle.psi_tables.specs.declared.stream.Stream.{Stream}
use Rattle.ts_demux.specs.declared.carried_packets.CarriedPid.{CarriedPid}
use Rattle.ts_demux.proofs.CarriedSteps.{stand_push, pids_push}
use Rattle.ts_demux.proofs.carried_packets.CarriedPackets.new.Goals as goal

pub loop-stream-preserved : goal.loop-stream-preserved
loop-stream-preserved c =
    let read = c.loop-stream.read.items in
    let new : CarriedPid = record { pid = c.stream-item.result.pid; packets = c.new-packets.result } in
    let items : c.push.new.self.items ≡ read ++ new ∷ [] = c.in_ok-push.ensures.items in
    let within : c.loop-stream.stream-index < length c.args.streams.now = omega arith in
    record {
      pids = rw items (pids_push read new c.args.streams.now c.loop-stream.stream-index c.stream-item.result c.loop-stream.invariant.pids within (ap (λ (s : Stream). s.pid) c.stream-item.is));
      stand = λ file. rw items (stand_push file read new (c.loop-stream.invariant.stand file) c.new-packets.ensures);
    }

pub returns : goal.returns
returns c = (
  c.loop-stream.invariant.pids ∙ ap (map (λ (stream : Stream). stream.pid)) (take_all c.loop-stream.stream-index c.args.streams.now (omega arith)),
  c.loop-stream.invariant.stand,
)
