use Rattle.std.proofs.Common.{◌+◌, None, drop, map, ◌∙◌, arith}
use Rattle.tstd_model.specs.PacketBytes.{arrives}
use Rattle.stream_audit.specs.NeverEmpty.{packet_in}
use Rattle.stream_audit.proofs.PacketLaws.{first-busy, never-busy, rise-of, slots-next, slots-end}
use Rattle.stream_audit.proofs.busy_time.first_full.Goals as goal

pub returns-then-rate-step : goal.returns-then-rate-step
returns-then-rate-step c =
    never-busy c.args.slot c.args.rate (map packet_in c.args.packets.now) (rise-of c.args.packets.now c.requires.slots_rise)
    (omega (arith, c.if-rate-step.true, c.from-step.ensures)) (omega (arith, c.requires.rate_fits))

pub returns-in-Some : goal.returns-in-Some
returns-in-Some c =
    let was = c.loop-slot_no.invariant in
    let time = c.loop-slot_no.time in
    let k = c.loop-slot_no.slot_no-index in
    let packets = c.args.packets.now in
    first-busy c.args.slot c.args.rate (map packet_in packets) (rise-of packets c.requires.slots_rise) _
    (was.same
    ∙ slots-next time.subticks time.from time.until c.args.slot packets k _ _ _ c.loop-slot_no-test.true (omega (arith, c.from-step.ensures)) c.first_instant.ensures.value
    ∙ c.in-Some.ensures.busy (arrives c.args.slot (map packet_in (drop (k + 1) packets))))

pub loop-slot_no-preserved : goal.loop-slot_no-preserved
loop-slot_no-preserved c =
    let was = c.loop-slot_no.invariant in
    let time = c.loop-slot_no.time in
    let k = c.loop-slot_no.slot_no-index in
    let packets = c.args.packets.now in
    record {
      subticks = c.take.ensures.subticks ∙ was.subticks;
      short = c.in_default.ensures.short;
      from = c.take.ensures.from;
      same = was.same
          ∙ slots-next time.subticks time.from time.until c.args.slot packets k _ _ _ c.loop-slot_no-test.true (omega (arith, c.from-step.ensures)) c.first_instant.ensures.value
          ∙ c.in_default.ensures.busy (arrives c.args.slot (map packet_in (drop (k + 1) packets)));
    }

pub returns : goal.returns
returns c =
    let was = c.loop-slot_no.invariant in
    let time = c.loop-slot_no.time in
    first-busy c.args.slot c.args.rate (map packet_in c.args.packets.now) (rise-of c.args.packets.now c.requires.slots_rise) None
    (was.same
    ∙ slots-end time.subticks time.from time.until c.args.slot c.args.packets.now c.loop-slot_no.slot_no-index (omega (arith, c.loop-slot_no-test.false)) was.short.1)
