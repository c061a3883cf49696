use Rattle.std.proofs.Common.{◌≡◌, ◌+◌, ◌++◌, drop, vec_capacity}
use Rattle.certificate_checker.specs.Private.Order.{IsFilled, units_behind}
use Rattle.certificate_checker.proofs.order.list_program.Given as goal

-- the units before this place are listed too
abbrev pub invariant-loop-place : goal.invariant-loop-place
invariant-loop-place l = record {
  filled : IsFilled l.table (drop l.place l.units ++ units_behind l.table (l.program + 1)) l.order.items;
  room : vec_capacity l.order ≡ vec_capacity l.fn.order;
}
