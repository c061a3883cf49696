use Rattle.std.proofs.Common.{◌≡◌, ◌⊎◌, List, ℤ, sym, subst}
use Rattle.std.specs.Option.{option_copied}
use Rattle.ts_demux.specs.declared.demuxed.PesUnit.{PesUnit}
use Rattle.elementary_streams.specs.declared.stream_fault.StreamFault.TheVariants.{OutOfMemory}
use Rattle.elementary_streams.specs.Audio.{IsStreamRead, IsStreamRefused}
use Rattle.elementary_streams.specs.NearTimes.{IsNear}
use Rattle.pes_passing.specs.PassingPackets.{AreSplit}
use Rattle.stream_pass.specs.StreamWalk.{IsRefusal}
use Rattle.passed_programs.specs.PassedAudio.{RefusesAudio}
use Rattle.passed_programs.proofs.PassedAudio.{end_few, end_refused, end_room}
use Rattle.passed_programs.proofs.passed_audio.TimedWalkStreamWalk.end.Goals as goal

pub end-requires : goal.end-requires
end-requires c =
    let (start, packets, all, has, split, few) = c.requires in
    let last = option_copied c.args.last in
    record {
      read = (packets, all, has.0, split);
      few = end_few packets all last c.args.self.walk has.0 split few;
      size = end_room packets all last c.args.self.walk has.0 split few;
      first = subst (IsNear 0) (sym has.1) has.2;
    }

pub returns-in-Ok : goal.returns-in-Ok
returns-in-Ok c start packets all has split few stream units =
    subst (λ (time : ℤ). IsStreamRead time stream c.in-Ok.read) has.1
    (c.in-Ok.ensures packets stream has.0 (subst (λ (ps : List PesUnit). AreSplit ps packets (option_copied c.args.last)) (sym units) split))

pub returns-in-Err : goal.returns-in-Err
returns-in-Err c start packets all has split few =
    subst (IsRefusal (RefusesAudio start.first.time all)) (sym c.walk_fault.ensures)
    (end_refused start.first.time all c.in-Err.fault (λ stream units.
    subst (λ (time : ℤ). (c.in-Err.fault ≡ OutOfMemory) ⊎ IsStreamRefused time stream c.in-Err.fault) has.1
    (c.in-Err.ensures packets stream has.0 (subst (λ (ps : List PesUnit). AreSplit ps packets (option_copied c.args.last)) (sym units) split))))
