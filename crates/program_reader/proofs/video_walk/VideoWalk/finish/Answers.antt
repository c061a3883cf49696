use Rattle.std.proofs.Common.{length, inr}
use Rattle.elementary_streams.specs.Packets.{joined}
use Rattle.program_reader.proofs.WalkEnds.{answer_refused}
use Rattle.program_reader.proofs.WalkLemmas.{reads_here, refused_known}
use Rattle.program_reader.proofs.video_walk.VideoWalk.finish.Goals as goal

pub returns-in-Some-clause-video : goal.returns-in-Some-clause-video
returns-in-Some-clause-video c packets demuxed has few sound taken dropped =
    inr (answer_refused demuxed packets taken sound c.in-Some.fault
    (refused_known packets (length (joined packets)) c.args.self.refused c.in-Some.fault c.args.self c.in-Some.is has))

pub read_last-requires : goal.read_last-requires
read_last-requires c =
    let (packets, has, few) = c.requires.read in
    record { read = (packets, reads_here packets (length (joined packets)) c.args.self.refused c.args.self c.in-None.is has, few) }

pub returns-in-None-clause-video : goal.returns-in-None-clause-video
returns-in-None-clause-video c packets demuxed has few sound taken dropped =
    c.read_last.ensures.video packets demuxed (reads_here packets (length (joined packets)) c.args.self.refused c.args.self c.in-None.is has) few sound taken dropped

pub returns-in-None-clause-sizes : goal.returns-in-None-clause-sizes
returns-in-None-clause-sizes c packets has few want =
    c.read_last.ensures.sizes packets (reads_here packets (length (joined packets)) c.args.self.refused c.args.self c.in-None.is has) few want
