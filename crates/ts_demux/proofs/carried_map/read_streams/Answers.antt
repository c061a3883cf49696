use Rattle.std.proofs.Common.{ℕ, List}
use Rattle.ts_demux.specs.CarriedMap.{HasStreams}
use Rattle.ts_demux.specs.Demux.{IsDemuxRefused}
use Rattle.ts_demux.specs.Pass.{HasMapOf}
use Rattle.ts_demux.proofs.CarriedMapSteps.{has_streams, holds_then, refused_front}
use Rattle.ts_demux.proofs.carried_map.read_streams.Goals as goal

pub returns-in-Err-clause-refused : goal.returns-in-Err-clause-refused
returns-in-Err-clause-refused g c = refused_front _ _ _ _ _ c.args.program c.args.drop.now c.in-Err.fault c.in-Err.ensures.refused

pub returns-in-Ok-streams_of-clause-streams : goal.returns-in-Ok-streams_of-clause-streams
returns-in-Ok-streams_of-clause-streams g c =
    holds_then _ _ _ _ _ (HasMapOf c.args.program c.in-Ok.whole) (HasStreams c.args.program c.args.drop.now c.in-Ok-streams_of.carried)
    (λ (file : List ℕ) has. has_streams file c.args.program c.args.drop.now c.in-Ok.whole c.in-Ok-streams_of.carried c.in-Ok-streams_of.ensures has) c.in-Ok.ensures.map

pub returns-in-Err-streams_of-clause-refused : goal.returns-in-Err-streams_of-clause-refused
returns-in-Err-streams_of-clause-refused g c =
    holds_then _ _ _ _ _ (HasMapOf c.args.program c.in-Ok.whole) (λ (file : List ℕ). IsDemuxRefused file c.args.program c.args.drop.now c.in-Err-streams_of.fault)
    (λ (file : List ℕ) has. c.in-Err-streams_of.ensures file c.args.program has) c.in-Ok.ensures.map
