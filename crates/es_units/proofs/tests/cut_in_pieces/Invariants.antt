use Rattle.std.proofs.Common.{◌≡◌, ◌-◌, ◌≤◌, length, take}
use Rattle.es_units.specs.UnitCutter.{HasCut, bytes_pushed}
use Rattle.es_units.proofs.tests.cut_in_pieces.Given as goal

abbrev pub invariant-loop-at : goal.invariant-loop-at
invariant-loop-at l = record {
  within : l.at ≤ length l.es;
  pushed : bytes_pushed l.cutter ≡ l.at;
  cut : HasCut (take l.at l.es) l.units.items l.cutter;
}

abbrev pub decreases-loop-at : goal.decreases-loop-at
decreases-loop-at l = length l.es - l.at
