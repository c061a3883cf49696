use Rattle.std.proofs.Common.{ℕ, ◌+◌, ◌*◌, ◌^◌, ◌<◌, ◌≤◌, length, get_or}
use Rattle.version_table.specs.declared.table.Version.{Version}
use Rattle.dual_bounds.specs.Values.{cost}
use Rattle.cost_steps.specs.declared.constants.TheConstants.{PRICE_MOST}
use Rattle.cost_steps.specs.Private.Lines.{IsLineOf, line_cost}
use Rattle.cost_steps.proofs.steps.least_line.Given as goal

abbrev pub invariant-loop-version : goal.invariant-loop-version
invariant-loop-version l = record {
  small : l.least.rise + l.least.packets * PRICE_MOST < 2 ^ 63;
  one : (k : ℕ) × (k < length l.versions) × ((d : Version) → IsLineOf (get_or l.versions k d) l.least);
  least : (k : ℕ) (d : Version) → k < l.version-index → line_cost l.least l.price ≤ cost l.price (get_or l.versions k d);
}
