use Rattle.std.proofs.Common.{◌<◌, length, arith}
use Rattle.slot_rule.specs.Private.States.{ReleasesAll}
use Rattle.slot_rule.proofs.ListSteps.{ChangesFirst-more, ChangesEach-from_first}
use Rattle.slot_rule.proofs.states.release_all.Goals as goal

pub loop-state-preserved : goal.loop-state-preserved
loop-state-preserved c =
    let within : c.loop-state.state-index < length c.loop-state.states = omega arith in
    ChangesFirst-more (ReleasesAll c.args.table.now c.args.choice.now c.args.start) c.loop-state.state-index c.args.states.now c.loop-state.states _ c.release.new.self c.loop-state.invariant within
    (record { keeps = c.release.ensures.keeps; releases = c.release.ensures.releases; rest = c.release.ensures.rest })

pub returns : goal.returns
returns c =
    ChangesEach-from_first (ReleasesAll c.args.table.now c.args.choice.now c.args.start) c.loop-state.state-index c.args.states.now c.loop-state.states c.loop-state.invariant (omega arith)
