use Rattle.std.proofs.Common.{◌+◌, ◌∙◌, arith}
use Rattle.audio_frames.proofs.Clocks.{clock_at, held, next_given, next_kept}
use Rattle.audio_frames.proofs.clock.Clock.next.Goals as goal

pub returns-in-Some-clause-clock : goal.returns-in-Some-clause-clock
returns-in-Some-clause-clock c =
    let counted = c.packets_up_to-packets.ensures.count in
    clock_at c.args.starts.now c.args.places.now (c.args.frame + 1) c.packets_up_to-packets.result 0 c.in-Some.given c.since.result
    (record {
      packets_are = c.since.ensures.packets;
      given_is = c.since.ensures.given ∙ held c.in-Some.given c.in-Some.ensures.range.0 c.in-Some.ensures.range.1;
      ago_is = c.since.ensures.ago;
      rate = (omega (arith, c.since.ensures.rate, c.requires.clock.rate.0), omega (arith, c.since.ensures.rate, c.requires.clock.rate.1));
      time = c.since.ensures.time;
      low = c.in-Some.ensures.range.0;
      high = c.in-Some.ensures.range.1;
    })
    counted (omega (arith, c.packets_up_to-packets.ensures.from, c.requires.clock.some))
    (next_given c.args.starts.now c.args.places.now c.args.frame c.packets_up_to-packets.result c.args.self c.in-Some.given c.requires.clock counted
    c.packets_up_to-packets.ensures.from c.in-Some.ensures.time)

pub returns-in-None-clause-clock : goal.returns-in-None-clause-clock
returns-in-None-clause-clock c =
    let counted = c.packets_up_to-packets.ensures.count in
    clock_at c.args.starts.now c.args.places.now (c.args.frame + 1) c.packets_up_to-packets.result (c.args.self.ago + 1) c.args.self.given c.since-in-None.result
    (record {
      packets_are = c.since-in-None.ensures.packets;
      given_is = c.since-in-None.ensures.given ∙ held c.args.self.given c.requires.clock.low c.requires.clock.high;
      ago_is = c.since-in-None.ensures.ago;
      rate = (omega (arith, c.since-in-None.ensures.rate, c.requires.clock.rate.0), omega (arith, c.since-in-None.ensures.rate, c.requires.clock.rate.1));
      time = c.since-in-None.ensures.time;
      low = c.requires.clock.low;
      high = c.requires.clock.high;
    })
    counted (omega (arith, c.packets_up_to-packets.ensures.from, c.requires.clock.some))
    (next_kept c.args.starts.now c.args.places.now c.args.frame c.packets_up_to-packets.result c.args.self c.requires.clock counted c.packets_up_to-packets.ensures.from c.in-None.ensures.time)
