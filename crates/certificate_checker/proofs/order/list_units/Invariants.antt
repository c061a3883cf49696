use Rattle.std.proofs.Common.{◌≡◌, vec_capacity}
use Rattle.certificate_checker.specs.Private.Order.{IsFilled, units_behind}
use Rattle.certificate_checker.proofs.order.list_units.Given as goal

-- the units of the programs before this one are listed
abbrev pub invariant-loop-program : goal.invariant-loop-program
invariant-loop-program l = record {
  filled : IsFilled l.table (units_behind l.table l.program) l.order.items;
  room : vec_capacity l.order ≡ vec_capacity l.fn.order;
}
