use Rattle.std.proofs.Common.{◌∷◌, ◌++◌, [], length, sym, ◌∙◌, arith}
use Rattle.elementary_streams.specs.Packets.{joined}
use Rattle.program_reader.proofs.WalkLemmas.{not_refused, payload_is, payload_left, place_fits, reads_here, reads_longer, reads_more, reads_there}
use Rattle.program_reader.proofs.video_walk.VideoWalk.take.Goals as goal

pub returns-then-is_some-clause-read : goal.returns-then-is_some-clause-read
returns-then-is_some-clause-read c packets has few =
    reads_more packets c.args.packet.now (length (joined packets)) (length (joined (packets ++ c.args.packet.now ∷ []))) c.args.self.now.refused c.args.self.now
    (sym c.is_some.ensures ∙ c.if-is_some.true) has

pub add-requires-clause-fits : goal.add-requires-clause-fits
add-requires-clause-fits c =
    let (packets, has, few) = c.requires.read in
    let walk = c.args.self.now in
    let reads = reads_here packets (length (joined packets)) walk.refused walk (not_refused walk.refused (sym c.is_some.ensures ∙ c.if-is_some.false)) has in
    let payload = payload_is c.args.packet.now c.args.header c.as_slice.result.now c.bytes_behind-payload.result.now c.requires.header c.as_slice.ensures c.bytes_behind-payload.ensures in
    omega (arith, place_fits packets c.args.packet.now walk.places c.bytes_behind-payload.result.now reads.stand few payload)

pub add-requires-clause-counted : goal.add-requires-clause-counted
add-requires-clause-counted c =
    let (packets, has, few) = c.requires.read in
    let walk = c.args.self.now in
    let reads = reads_here packets (length (joined packets)) walk.refused walk (not_refused walk.refused (sym c.is_some.ensures ∙ c.if-is_some.false)) has in
    reads.stand.found.count ∙ sym reads.stand.bytes

pub read_units-requires-clause-none : goal.read_units-requires-clause-none
read_units-requires-clause-none c = not_refused c.args.self.now.refused (sym c.is_some.ensures ∙ c.if-is_some.false)

pub read_units-requires-clause-read : goal.read_units-requires-clause-read
read_units-requires-clause-read c =
    let (packets, has, few) = c.requires.read in
    let walk = c.args.self.now in
    let packet = c.args.packet.now in
    let none = not_refused walk.refused (sym c.is_some.ensures ∙ c.if-is_some.false) in
    let reads = reads_here packets (length (joined packets)) walk.refused walk none has in
    let payload = payload_is packet c.args.header c.as_slice.result.now c.bytes_behind-payload.result.now c.requires.header c.as_slice.ensures c.bytes_behind-payload.ensures in
    let stand = c.in_ok-add.ensures.stand packets packet reads.stand c.requires.header payload in (
      packets ++ packet ∷ [],
      length (joined packets),
      reads_there (packets ++ packet ∷ []) (length (joined packets)) walk.refused (record walk { places = c.add.new.self }) none
          (reads_longer packets packet walk.places c.add.new.self walk.cutter walk.units stand reads),
      few,
      payload_left packets packet ∙ sym payload,
    )

pub returns-clause-read : goal.returns-clause-read
returns-clause-read c packets has few =
    let walk = c.args.self.now in
    let packet = c.args.packet.now in
    let none = not_refused walk.refused (sym c.is_some.ensures ∙ c.if-is_some.false) in
    let reads = reads_here packets (length (joined packets)) walk.refused walk none has in
    let payload = payload_is packet c.args.header c.as_slice.result.now c.bytes_behind-payload.result.now c.requires.header c.as_slice.ensures c.bytes_behind-payload.ensures in
    let stand = c.in_ok-add.ensures.stand packets packet reads.stand c.requires.header payload in
    c.read_units.ensures.read (packets ++ packet ∷ []) (length (joined packets))
    (reads_there (packets ++ packet ∷ []) (length (joined packets)) walk.refused (record walk { places = c.add.new.self }) none
    (reads_longer packets packet walk.places c.add.new.self walk.cutter walk.units stand reads)) few (payload_left packets packet ∙ sym payload)
