use Rattle.std.proofs.Common.{inr, arith}
use Rattle.elementary_streams.specs.Packets.{joined}
use Rattle.program_reader.proofs.WalkEnds.{answer_last, answer_none, answer_units, cut_all, follows_last, kept_end, passed_last, possible_last, refused_end, short_last, sized_end, walked_sizes}
use Rattle.program_reader.proofs.video_walk.VideoWalk.read_last.Goals as goal

pub returns-in_default-clause-video : goal.returns-in_default-clause-video
returns-in_default-clause-video c packets demuxed reads few sound taken dropped =
    inr (answer_none demuxed packets taken sound (c.in_default.ensures.units (joined packets) reads.given (cut_all packets c.args.self.places c.args.self.cutter c.args.self.units few reads)))

pub read-requires-clause-order : goal.read-requires-clause-order
read-requires-clause-order c =
    let (packets, reads, few) = c.requires.read in
    let it = follows_last packets c.args.self.places c.args.self.cutter c.args.self.units few reads c.in-Some.unit (c.in-Some.ensures.units (joined packets) reads.given (cut_all packets c.args.self.places c.args.self.cutter c.args.self.units few reads)) (c.in-Some.ensures.bytes (joined packets) reads.given (cut_all packets c.args.self.places c.args.self.cutter c.args.self.units few reads)) in
    it.order

pub read-requires-clause-place : goal.read-requires-clause-place
read-requires-clause-place c =
    let (packets, reads, few) = c.requires.read in
    let it = follows_last packets c.args.self.places c.args.self.cutter c.args.self.units few reads c.in-Some.unit (c.in-Some.ensures.units (joined packets) reads.given (cut_all packets c.args.self.places c.args.self.cutter c.args.self.units few reads)) (c.in-Some.ensures.bytes (joined packets) reads.given (cut_all packets c.args.self.places c.args.self.cutter c.args.self.units few reads)) in
    omega (arith, it.order, it.within, few.bytes_few)

pub read-requires-clause-size : goal.read-requires-clause-size
read-requires-clause-size c =
    let (packets, reads, few) = c.requires.read in
    let it = short_last packets c.args.self.places c.args.self.cutter c.args.self.units few reads c.in-Some.unit (c.in-Some.ensures.units (joined packets) reads.given (cut_all packets c.args.self.places c.args.self.cutter c.args.self.units few reads)) (c.in-Some.ensures.bytes (joined packets) reads.given (cut_all packets c.args.self.places c.args.self.cutter c.args.self.units few reads)) in
    omega (arith, it)

pub read-requires-clause-stand : goal.read-requires-clause-stand
read-requires-clause-stand c =
    let (packets, reads, few) = c.requires.read in
    let it = follows_last packets c.args.self.places c.args.self.cutter c.args.self.units few reads c.in-Some.unit (c.in-Some.ensures.units (joined packets) reads.given (cut_all packets c.args.self.places c.args.self.cutter c.args.self.units few reads)) (c.in-Some.ensures.bytes (joined packets) reads.given (cut_all packets c.args.self.places c.args.self.cutter c.args.self.units few reads)) in
    (packets, reads.stand, it.within)

pub read-requires-clause-passed : goal.read-requires-clause-passed
read-requires-clause-passed c =
    let (packets, reads, few) = c.requires.read in
    passed_last packets c.args.self.places c.args.self.cutter c.args.self.units few reads c.in-Some.unit (c.in-Some.ensures.units (joined packets) reads.given (cut_all packets c.args.self.places c.args.self.cutter c.args.self.units few reads)) (c.in-Some.ensures.bytes (joined packets) reads.given (cut_all packets c.args.self.places c.args.self.cutter c.args.self.units few reads))

pub read-requires-clause-before : goal.read-requires-clause-before
read-requires-clause-before c =
    let (packets, reads, few) = c.requires.read in
    possible_last packets c.args.self.places c.args.self.cutter c.args.self.units few reads c.in-Some.unit (c.in-Some.ensures.units (joined packets) reads.given (cut_all packets c.args.self.places c.args.self.cutter c.args.self.units few reads)) (c.in-Some.ensures.bytes (joined packets) reads.given (cut_all packets c.args.self.places c.args.self.cutter c.args.self.units few reads))

pub read-requires-clause-coarser : goal.read-requires-clause-coarser
read-requires-clause-coarser c =
    let (packets, reads, few) = c.requires.read in
    reads.read.coarser

pub returns-in-Ok-clause-video : goal.returns-in-Ok-clause-video
returns-in-Ok-clause-video c packets demuxed reads few sound taken dropped =
    answer_units demuxed packets taken sound _ c.read.new.self c.dropped.result c.args.pes_dropped c.walked_video.result (c.in-Some.ensures.units (joined packets) reads.given (cut_all packets c.args.self.places c.args.self.cutter c.args.self.units few reads))
    (kept_end packets c.args.self.places c.args.self.cutter c.args.self.units few reads c.in-Some.unit (c.in-Some.ensures.units (joined packets) reads.given (cut_all packets c.args.self.places c.args.self.cutter c.args.self.units few reads)) (c.in-Some.ensures.bytes (joined packets) reads.given (cut_all packets c.args.self.places c.args.self.cutter c.args.self.units few reads))
    c.read.new.self c.read.result c.read.ensures.read c.in-Ok.field-0 c.in-Ok.is c.in-Ok.ensures.kept)
    c.dropped.ensures dropped c.walked_video.ensures

pub returns-clause-video : goal.returns-clause-video
returns-clause-video c packets demuxed reads few sound taken dropped =
    answer_last demuxed packets taken sound _ c.in-Err.fault (c.in-Some.ensures.units (joined packets) reads.given (cut_all packets c.args.self.places c.args.self.cutter c.args.self.units few reads))
    (refused_end packets c.args.self.places c.args.self.cutter c.args.self.units few reads c.in-Some.unit (c.in-Some.ensures.units (joined packets) reads.given (cut_all packets c.args.self.places c.args.self.cutter c.args.self.units few reads)) (c.in-Some.ensures.bytes (joined packets) reads.given (cut_all packets c.args.self.places c.args.self.cutter c.args.self.units few reads))
    c.read.new.self c.read.result c.read.ensures.read c.in-Err.fault c.in-Err.is)

pub returns-in-Ok-clause-sizes : goal.returns-in-Ok-clause-sizes
returns-in-Ok-clause-sizes c packets reads few want =
    walked_sizes (joined packets) c.args.self.units.wanted.coarser.now c.read.new.self c.dropped.result c.args.pes_dropped c.walked_video.result
    (sized_end packets c.args.self.places c.args.self.cutter c.args.self.units few reads c.in-Some.unit (c.in-Some.ensures.units (joined packets) reads.given (cut_all packets c.args.self.places c.args.self.cutter c.args.self.units few reads)) (c.in-Some.ensures.bytes (joined packets) reads.given (cut_all packets c.args.self.places c.args.self.cutter c.args.self.units few reads))
    c.read.new.self c.read.result c.read.ensures.read c.in-Ok.field-0 c.in-Ok.is c.in-Ok.ensures.kept c.read.ensures.wanted c.in-Ok.ensures.sizes want)
    c.walked_video.ensures
