use Rattle.std.proofs.Common.{◌+◌, Err, ap, sym, ◌∙◌, arith}
use Rattle.program_reader.specs.declared.program_fault.ProgramFault.{ProgramFault}
use Rattle.program_reader.proofs.WalkLemmas.{bytes_short, follows, passed_here, possible_here, push_fits, reads_found, reads_here, reads_quiet, reads_refused, reads_there}
use Rattle.program_reader.proofs.video_walk.VideoWalk.read_next.Goals as goal

pub push-requires : goal.push-requires
push-requires c =
    let (packets, at, has, few, left) = c.requires.read in
    let walk = c.args.self.now in
    omega (arith, push_fits packets at walk.places walk.cutter walk.units c.args.bytes.now few (reads_here packets at walk.refused walk c.requires.none has) left)

pub returns-in_default-clause-read : goal.returns-in_default-clause-read
returns-in_default-clause-read c packets at has few left =
    let walk = c.args.self.now in
    let reads = reads_here packets at walk.refused walk c.requires.none has in
    reads_there packets (at + c.in_ok-count.count) walk.refused (record walk { cutter = c.push.new.self }) c.requires.none
    (reads_quiet packets at walk.places walk.cutter c.push.new.self walk.units c.args.bytes.now c.in_ok-count.count few reads left c.in_ok-count.ensures.within c.in_ok-count.ensures.cut c.in_ok-count.ensures.most (sym c.in_default.ensures.place))

pub read-requires-clause-order : goal.read-requires-clause-order
read-requires-clause-order c =
    let (packets, at, has, few, left) = c.requires.read in
    let walk = c.args.self.now in
    let reads = reads_here packets at walk.refused walk c.requires.none has in
    let it = follows packets at walk.places walk.cutter c.push.new.self walk.units c.args.bytes.now c.in_ok-count.count few reads left c.in_ok-count.ensures.within c.in_ok-count.ensures.cut c.in_ok-count.ensures.most
    c.in-Some.unit (sym c.in-Some.ensures.place) c.in-Some.ensures.bytes in
    it.order

pub read-requires-clause-place : goal.read-requires-clause-place
read-requires-clause-place c =
    let (packets, at, has, few, left) = c.requires.read in
    let walk = c.args.self.now in
    let reads = reads_here packets at walk.refused walk c.requires.none has in
    let it = follows packets at walk.places walk.cutter c.push.new.self walk.units c.args.bytes.now c.in_ok-count.count few reads left c.in_ok-count.ensures.within c.in_ok-count.ensures.cut c.in_ok-count.ensures.most
    c.in-Some.unit (sym c.in-Some.ensures.place) c.in-Some.ensures.bytes in
    omega (arith, it.order, it.within, few.bytes_few)

pub read-requires-clause-size : goal.read-requires-clause-size
read-requires-clause-size c =
    let (packets, at, has, few, left) = c.requires.read in
    let walk = c.args.self.now in
    let reads = reads_here packets at walk.refused walk c.requires.none has in
    let it = bytes_short packets at walk.places walk.cutter c.push.new.self walk.units c.args.bytes.now c.in_ok-count.count few reads left c.in_ok-count.ensures.within c.in_ok-count.ensures.cut c.in_ok-count.ensures.most
    c.in-Some.unit (sym c.in-Some.ensures.place) c.in-Some.ensures.bytes in
    omega (arith, it)

pub read-requires-clause-stand : goal.read-requires-clause-stand
read-requires-clause-stand c =
    let (packets, at, has, few, left) = c.requires.read in
    let walk = c.args.self.now in
    let reads = reads_here packets at walk.refused walk c.requires.none has in
    let it = follows packets at walk.places walk.cutter c.push.new.self walk.units c.args.bytes.now c.in_ok-count.count few reads left c.in_ok-count.ensures.within c.in_ok-count.ensures.cut c.in_ok-count.ensures.most
    c.in-Some.unit (sym c.in-Some.ensures.place) c.in-Some.ensures.bytes in
    (packets, reads.stand, it.within)

pub read-requires-clause-passed : goal.read-requires-clause-passed
read-requires-clause-passed c =
    let (packets, at, has, few, left) = c.requires.read in
    let walk = c.args.self.now in
    let reads = reads_here packets at walk.refused walk c.requires.none has in
    passed_here packets at walk.places walk.cutter c.push.new.self walk.units c.args.bytes.now c.in_ok-count.count few reads left c.in_ok-count.ensures.within c.in_ok-count.ensures.cut c.in_ok-count.ensures.most
    c.in-Some.unit (sym c.in-Some.ensures.place) c.in-Some.ensures.bytes

pub read-requires-clause-before : goal.read-requires-clause-before
read-requires-clause-before c =
    let (packets, at, has, few, left) = c.requires.read in
    let walk = c.args.self.now in
    let reads = reads_here packets at walk.refused walk c.requires.none has in
    possible_here packets at walk.places walk.cutter c.push.new.self walk.units c.args.bytes.now c.in_ok-count.count few reads left c.in_ok-count.ensures.within c.in_ok-count.ensures.cut c.in_ok-count.ensures.most
    c.in-Some.unit (sym c.in-Some.ensures.place) c.in-Some.ensures.bytes

pub read-requires-clause-coarser : goal.read-requires-clause-coarser
read-requires-clause-coarser c =
    let (packets, at, has, few, left) = c.requires.read in
    let walk = c.args.self.now in
    let reads = reads_here packets at walk.refused walk c.requires.none has in
    reads.read.coarser

pub returns-in-Ok-clause-read : goal.returns-in-Ok-clause-read
returns-in-Ok-clause-read c packets at has few left =
    let walk = c.args.self.now in
    let reads = reads_here packets at walk.refused walk c.requires.none has in
    reads_there packets (at + c.in_ok-count.count) walk.refused (record walk { cutter = c.push.new.self; units = c.read.new.self }) c.requires.none
    (reads_found packets at walk.places walk.cutter c.push.new.self walk.units c.args.bytes.now c.in_ok-count.count few reads left c.in_ok-count.ensures.within c.in_ok-count.ensures.cut c.in_ok-count.ensures.most
    c.in-Some.unit (sym c.in-Some.ensures.place) c.in-Some.ensures.bytes c.read.new.self c.read.result c.read.ensures.read c.in-Ok.field-0 c.in-Ok.is c.in-Ok.ensures.kept c.read.ensures.wanted c.in-Ok.ensures.sizes c.read.ensures.passed)

pub returns-in-Refused-clause-read : goal.returns-in-Refused-clause-read
returns-in-Refused-clause-read c packets at has few left =
    let walk = c.args.self.now in
    let reads = reads_here packets at walk.refused walk c.requires.none has in
    reads_refused packets at walk.places walk.cutter c.push.new.self walk.units c.args.bytes.now c.in_ok-count.count few reads left c.in_ok-count.ensures.within c.in_ok-count.ensures.cut c.in_ok-count.ensures.most
    c.in-Some.unit (sym c.in-Some.ensures.place) c.in-Some.ensures.bytes c.read.new.self c.read.result c.read.ensures.read _ (c.in-Err.is ∙ ap (λ (f : ProgramFault). Err f) c.in-Refused.is) (λ memory. absurd cc)
