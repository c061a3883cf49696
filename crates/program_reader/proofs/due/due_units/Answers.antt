use Rattle.program_reader.proofs.DueLemmas.{dues_more}
use Rattle.program_reader.proofs.due.due_units.Goals as goal

pub due_unit-requires-clause-time : goal.due_unit-requires-clause-time
due_unit-requires-clause-time c = c.requires.times c.loop-unit.unit-index _ c.loop-unit-test.true

pub loop-unit-preserved : goal.loop-unit-preserved
loop-unit-preserved c = dues_more c.args.clock.now.start c.args.clock.now.earliest c.args.units.now c.loop-unit.unit-index _ c.loop-unit.sources c.push.new.self
    c.due_unit.result c.loop-unit-test.true c.loop-unit.invariant c.due_unit.ensures c.in_ok-push.ensures.ok
