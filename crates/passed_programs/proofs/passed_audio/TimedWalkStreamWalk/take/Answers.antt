use Rattle.std.proofs.Common.{◌∷◌, ◌++◌, List, sym, subst}
use Rattle.ts_demux.specs.declared.demuxed.PesUnit.{PesUnit}
use Rattle.elementary_streams.specs.declared.stream_fault.StreamFault.{StreamFault}
use Rattle.stream_pass.specs.declared.stream_walk.WalkFault.{WalkFault}
use Rattle.stream_pass.specs.StreamWalk.{IsRefusal}
use Rattle.passed_programs.specs.PassedAudio.{RefusesAudio}
use Rattle.passed_programs.proofs.PassedAudio.{take_refused, take_room}
use Rattle.passed_programs.proofs.passed_audio.TimedWalkStreamWalk.take.Goals as goal

pub take-requires : goal.take-requires
take-requires c = let (start, packets, has, few) = c.requires in take_room packets c.args.packet.now c.args.self.walk has.0 few

pub returns-in-Ok-clause-read : goal.returns-in-Ok-clause-read
returns-in-Ok-clause-read c start packets has few = (c.in-Ok.ensures.read packets has.0, has.1, has.2)

pub returns-in-Err-clause-refused : goal.returns-in-Err-clause-refused
returns-in-Err-clause-refused c start packets has =
    subst (λ (found : WalkFault StreamFault). IsRefusal (λ (fault : StreamFault). (next : PesUnit) (more : List PesUnit) →
    RefusesAudio start.first.time (packets ++ c.args.packet.now ∷ next ∷ more) fault) found) (sym c.walk_fault.ensures)
    (take_refused start.first.time packets c.args.packet.now c.in-Err.fault (c.in-Err.ensures.refused packets has.0))
