use Rattle.std.proofs.Common.{◌-◌}
use Rattle.slot_rule.specs.Private.QueueState.{KeepsPlace, Releases, packets_at}
use Rattle.slot_rule.proofs.queue_state.QueueState.release.Given as goal

abbrev pub invariant-loop-self : goal.invariant-loop-self
invariant-loop-self l = record {
  keeps : KeepsPlace (packets_at l.table l.choice l.initial.self.items) l.self;
  releases : Releases (packets_at l.table l.choice l.initial.self.items) l.start l.initial.self l.self;
}

abbrev pub decreases-loop-self : goal.decreases-loop-self
decreases-loop-self l = l.self.sent - l.self.gone
