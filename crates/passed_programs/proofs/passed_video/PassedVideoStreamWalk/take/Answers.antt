use Rattle.std.proofs.Common.{◌∷◌, [], ◌++◌, List, sym, ◌∙◌, subst}
use Rattle.bit_lists.specs.Fields.{AreBytes}
use Rattle.ts_demux.specs.declared.demuxed.PesUnit.{PesUnit}
use Rattle.program_reader.specs.declared.program_fault.ProgramFault.{ProgramFault}
use Rattle.stream_pass.specs.StreamWalk.{IsRefusal}
use Rattle.passed_programs.specs.VideoPackets.{RefusesVideo}
use Rattle.passed_programs.proofs.Bytes.{one_more}
use Rattle.passed_programs.proofs.TakenVideo.{few_video, take_refused}
use Rattle.passed_programs.proofs.passed_video.PassedVideoStreamWalk.take.Goals as goal

pub add-requires : goal.add-requires
add-requires c =
    let (start, packets, has, few) = c.requires in
    record { read = (packets, has.0, few_video (packets ++ c.args.packet.now ∷ []) few) }

pub returns-in-Ok-clause-read : goal.returns-in-Ok-clause-read
returns-in-Ok-clause-read c start packets has few =
    (c.in-Ok.ensures.read packets has.0 (few_video (packets ++ c.args.packet.now ∷ []) few), c.in-Ok.ensures.wanted ∙ has.1, one_more packets c.args.packet.now has.2 (subst AreBytes c.as_slice.ensures c.see_bytes.ensures))

pub returns-clause-refused : goal.returns-clause-refused
returns-clause-refused c start packets has =
    subst (IsRefusal (λ (fault : ProgramFault). (next : PesUnit) (more : List PesUnit) → RefusesVideo (packets ++ c.args.packet.now ∷ next ∷ more) fault)) (sym c.walk_refused.ensures)
    (take_refused packets c.args.packet.now c.in-Err.fault (c.in-Err.ensures.refused packets has.0))
