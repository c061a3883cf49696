use Rattle.std.proofs.Common.{ℕ, ◌+◌, ◌<◌, ◌≤◌, length, get_or}
use Rattle.version_table.specs.declared.table.Version.{Version}
use Rattle.dual_bounds.specs.Values.{cost, packet_count}
use Rattle.cost_steps.specs.declared.constants.TheConstants.{PRICE_MOST}
use Rattle.cost_steps.specs.Private.Lines.{CostsLess, line_cost}
use Rattle.cost_steps.proofs.steps.next_price.Given as goal

abbrev pub invariant-loop-version : goal.invariant-loop-version
invariant-loop-version l = record {
  most : l.next ≤ PRICE_MOST + 1;
  before : (price : ℕ) → price < l.next → (k : ℕ) (d : Version) → k < l.version-index → packet_count (get_or l.versions k d) < l.line.packets
      → line_cost l.line price ≤ cost price (get_or l.versions k d);
  at : l.next ≤ PRICE_MOST → (k : ℕ) × (k < length l.versions) × ((d : Version) → CostsLess l.next l.line (get_or l.versions k d));
}
