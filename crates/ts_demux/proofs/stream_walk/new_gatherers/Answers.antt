use Rattle.std.proofs.Common.{◌≡◌, ◌<◌, ◌++◌, ◌∷◌, [], length, ap, ◌∙◌, arith}
use Rattle.psi_tables.specs.declared.stream.Stream.{Stream}
use Rattle.ts_demux.proofs.GatherSteps.{all_push, pids_more}
use Rattle.ts_demux.proofs.stream_walk.new_gatherers.Goals as goal

pub loop-stream-preserved : goal.loop-stream-preserved
loop-stream-preserved c =
    let before = c.loop-stream.gatherers.items in
    let items : c.push.new.self.items ≡ before ++ c.new.result ∷ [] = c.in_ok-push.ensures.items in
    let within : c.loop-stream.stream-index < length c.args.streams.now = omega arith in
    record {
      all = λ file. rw items (all_push file 0 before c.new.result (c.loop-stream.invariant.all file) (c.new.ensures.gathers file));
      pids = rw items (pids_more before c.new.result c.args.streams.now c.loop-stream.stream-index c.stream-item.result c.loop-stream.invariant.pids
          within (c.new.ensures.pid ∙ ap (λ (s : Stream). s.pid) c.stream-item.is));
    }
