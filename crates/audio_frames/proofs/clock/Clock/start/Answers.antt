use Rattle.std.proofs.Common.{◌≡◌, ◌<◌, length, sym, ◌∙◌, arith}
use Rattle.std.specs.Prelude.{slice_index}
use Rattle.audio_frames.specs.Private.Packets.{start_of}
use Rattle.audio_frames.proofs.Clocks.{clock_at, held, first_between, some_packet}
use Rattle.audio_frames.proofs.Timed.{given_here}
use Rattle.audio_frames.proofs.clock.Clock.start.Goals as goal

pub returns-in-Some-clause-clock : goal.returns-in-Some-clause-clock
returns-in-Some-clause-clock c =
    let starts = c.args.starts.now in
    let places = c.args.places.now in
    let packets = c.packets_up_to-packets.result in
    let counted = c.packets_up_to-packets.ensures.count in
    let first : (0 < length starts) × (start_of starts 0 ≡ 0) = c.requires.first in
    let some : 0 < packets = some_packet starts (slice_index places 0) packets first.0 first.1 counted in
    clock_at starts places 0 packets 0 c.in-Some.given c.since.result
    (record {
      packets_are = c.since.ensures.packets;
      given_is = c.since.ensures.given ∙ held c.in-Some.given c.in-Some.ensures.range.0 c.in-Some.ensures.range.1;
      ago_is = c.since.ensures.ago;
      rate = (omega (arith, c.since.ensures.rate, c.requires.rate.0), omega (arith, c.since.ensures.rate, c.requires.rate.1));
      time = c.since.ensures.time;
      low = c.in-Some.ensures.range.0;
      high = c.in-Some.ensures.range.1;
    })
    counted some
    (given_here starts places 0 c.in-Some.given (first_between starts places packets counted some ∙ sym c.in-Some.ensures.time))

pub returns-in-None-clause-none : goal.returns-in-None-clause-none
returns-in-None-clause-none c none =
    let starts = c.args.starts.now in
    let places = c.args.places.now in
    let packets = c.packets_up_to-packets.result in
    let counted = c.packets_up_to-packets.ensures.count in
    let first : (0 < length starts) × (start_of starts 0 ≡ 0) = c.requires.first in
    let some : 0 < packets = some_packet starts (slice_index places 0) packets first.0 first.1 counted in
    first_between starts places packets counted some ∙ sym c.in-None.ensures.time
