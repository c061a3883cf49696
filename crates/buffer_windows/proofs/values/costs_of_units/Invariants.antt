use Rattle.std.proofs.Common.{◌≡◌, ◌+◌, ◌*◌, ◌≤◌, ◌^◌, drop}
use Rattle.buffer_windows.specs.Private.Near.{IsNear}
use Rattle.buffer_windows.specs.Private.Prices.{owned}
use Rattle.buffer_windows.specs.Values.{least_owned_costs as least_costs}
use Rattle.buffer_windows.proofs.values.costs_of_units.Given as goal

-- what is summed so far and what is still to come make the whole
abbrev pub invariant-loop-i : goal.invariant-loop-i
invariant-loop-i l = record {
  total : l.total + least_costs l.owner.slot l.windows (owned l.owner.number l.owner.vbv (drop l.i l.units)) (drop l.i l.fixed)
      ≡ least_costs l.owner.slot l.windows (owned l.owner.number l.owner.vbv l.units) l.fixed;
  small : l.total ≤ l.i * 2 ^ 80;
  near : IsNear l.owner.slot l.windows l.near;
}
