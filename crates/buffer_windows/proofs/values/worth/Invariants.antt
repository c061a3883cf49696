use Rattle.std.proofs.Common.{◌≡◌, ◌*◌, ◌^◌, take, pos, neg_ℤ, ◌≤ℤ◌}
use Rattle.buffer_windows.specs.Values.{buffer_worth as worth}
use Rattle.buffer_windows.proofs.values.worth.Given as goal

abbrev pub invariant-loop-window : goal.invariant-loop-window
invariant-loop-window l = record {
  sum_is : l.total ≡ worth l.table (take l.window-index l.windows);
  low : neg_ℤ (pos (l.window-index * 2 ^ 88)) ≤ℤ l.total;
  high : l.total ≤ℤ pos (l.window-index * 2 ^ 88);
}
