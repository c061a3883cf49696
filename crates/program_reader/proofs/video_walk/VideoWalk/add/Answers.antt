use Rattle.std.proofs.Common.{◌≡◌, None, true}
use Rattle.std.proofs.lemmas.List.Elements.{All-push}
use Rattle.ts_demux.specs.declared.demuxed.PesUnit.{PesUnit}
use Rattle.pes_units.specs.PesPackets.{packet_refusal}
use Rattle.program_reader.proofs.WalkEnds.{fault_whole}
use Rattle.program_reader.proofs.video_walk.VideoWalk.add.Goals as goal

pub take-requires-clause-read : goal.take-requires-clause-read
take-requires-clause-read c = let (packets, has, few) = c.requires.read in (packets, has.reads, few)

pub returns-clause-read : goal.returns-clause-read
returns-clause-read c packets has few = record {
  sound = All-push (λ (packet : PesUnit). packet_refusal true packet.bytes ≡ None) packets c.args.packet.now has.sound c.in-Ok.ensures.sound;
  reads = c.in_ok-take.ensures.read packets has.reads few;
}

pub returns-in-Err-clause-refused : goal.returns-in-Err-clause-refused
returns-in-Err-clause-refused c packets has = fault_whole packets c.args.packet.now c.in-Err.fault has.sound c.in-Err.ensures.refused
