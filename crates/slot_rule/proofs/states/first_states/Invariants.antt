use Rattle.std.proofs.Common.{◌≡◌, All, length, map, take}
use Rattle.slot_rule.specs.Private.States.{IsFirstState, places_from, places_kept, queue_of}
use Rattle.slot_rule.specs.Queues.{queues_from}
use Rattle.slot_rule.proofs.RuleQueues.{units_in}
use Rattle.slot_rule.proofs.states.first_states.Given as goal

abbrev pub invariant-loop-program : goal.invariant-loop-program
invariant-loop-program l = record {
  queues : map (queue_of l.table l.choice) l.states.items ≡ queues_from 0 (take l.program l.table.programs) l.choice;
  places : places_kept l.states.items ≡ places_from 0 0 (take l.program l.table.programs);
  first_states : All (IsFirstState l.table l.choice) l.states.items;
  first_unit : l.first ≡ length (units_in (take l.program l.table.programs));
}
