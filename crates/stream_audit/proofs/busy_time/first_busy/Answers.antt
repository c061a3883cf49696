use Rattle.std.proofs.Common.{◌+◌, None, drop, ◌∙◌, arith}
use Rattle.tstd_model.specs.PacketBytes.{arrives}
use Rattle.stream_audit.proofs.PacketLaws.{first-busy, never-busy, walk-next, walk-end}
use Rattle.stream_audit.proofs.busy_time.first_busy.Goals as goal

pub returns-then-rate-step : goal.returns-then-rate-step
returns-then-rate-step c =
    never-busy c.args.slot c.args.rate c.args.arrivals.now c.requires.slots_rise (omega (arith, c.if-rate-step.true, c.from-step.ensures)) (omega (arith, c.requires.rate_fits))

pub returns-in-Some : goal.returns-in-Some
returns-in-Some c =
    let was = c.loop-arrival.invariant in
    let time = c.loop-arrival.time in
    let k = c.loop-arrival.arrival-index in
    let arrivals = c.args.arrivals.now in
    first-busy c.args.slot c.args.rate arrivals c.requires.slots_rise _
    (was.same
    ∙ walk-next time.subticks time.from time.until c.args.slot arrivals k _ _ _ c.loop-arrival-test.true (omega (arith, c.from-step.ensures)) c.first_instant.ensures.value
    ∙ c.in-Some.ensures.busy (arrives c.args.slot (drop (k + 1) arrivals)))

pub loop-arrival-preserved : goal.loop-arrival-preserved
loop-arrival-preserved c =
    let was = c.loop-arrival.invariant in
    let time = c.loop-arrival.time in
    let k = c.loop-arrival.arrival-index in
    let arrivals = c.args.arrivals.now in
    record {
      subticks = c.take.ensures.subticks ∙ was.subticks;
      short = c.in_default.ensures.short;
      from = c.take.ensures.from;
      same = was.same
          ∙ walk-next time.subticks time.from time.until c.args.slot arrivals k _ _ _ c.loop-arrival-test.true (omega (arith, c.from-step.ensures)) c.first_instant.ensures.value
          ∙ c.in_default.ensures.busy (arrives c.args.slot (drop (k + 1) arrivals));
    }

pub returns : goal.returns
returns c =
    let was = c.loop-arrival.invariant in
    let time = c.loop-arrival.time in
    first-busy c.args.slot c.args.rate c.args.arrivals.now c.requires.slots_rise None
    (was.same ∙ walk-end time.subticks time.from time.until c.args.slot c.args.arrivals.now c.loop-arrival.arrival-index (omega (arith, c.loop-arrival-test.false)) was.short.1)
