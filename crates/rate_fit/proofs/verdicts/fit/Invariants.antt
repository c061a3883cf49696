use Rattle.std.proofs.Common.{◌≡◌}
use Rattle.rate_fit.specs.Fit.{in_slots}
use Rattle.rate_fit.proofs.Slots.{SaidBefore}
use Rattle.rate_fit.proofs.verdicts.fit.Given as goal

abbrev pub invariant-loop-slot : goal.invariant-loop-slot
invariant-loop-slot l = record {
  same : in_slots 0 l.table ≡ in_slots 0 l.initial.table;
  said : SaidBefore l.initial.table l.slots l.slot-index l.verdicts;
}
