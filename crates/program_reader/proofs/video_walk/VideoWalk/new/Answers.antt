use Rattle.std.proofs.Common.{◌≡◌, None, true, length, ap, arith}
use Rattle.std.proofs.lemmas.List.Elements.{All-nil}
use Rattle.pes_units.specs.PesPackets.{packet_refusal}
use Rattle.ts_demux.specs.declared.demuxed.PesUnit.{PesUnit}
use Rattle.program_reader.specs.declared.unit_sizes.SizesWanted.{SizesWanted}
use Rattle.program_reader.proofs.WalkEnds.{reads_none}
use Rattle.program_reader.proofs.video_walk.VideoWalk.new.Goals as goal

pub returns-clause-read : goal.returns-clause-read
returns-clause-read c =
    let units = c.new-3.ensures in
    let same : length c.new-3.result.wanted.coarser.now ≡ length c.args.wanted.coarser.now = ap (λ (w : SizesWanted). length w.coarser.now) units.wanted in
    record {
      sound = All-nil (λ (packet : PesUnit). packet_refusal true packet.bytes ≡ None);
      reads = reads_none c.new.result c.new-2.result c.new-3.result c.new.ensures c.new-2.ensures.cut c.new-2.ensures.most units.units units.first units.last units.dropped units.sizes
          (units.passed c.new.result.pictures.items c.new.result.packets.items 0) (omega (arith, same, c.requires.coarser));
    }
