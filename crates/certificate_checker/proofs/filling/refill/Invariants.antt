use Rattle.std.proofs.Common.{◌≡◌, replicate, vec_capacity}
use Rattle.certificate_checker.proofs.filling.refill.Given as goal

abbrev pub invariant-loop-filled : goal.invariant-loop-filled
invariant-loop-filled g l = record {
  items : l.items.items ≡ replicate l._filled l.item;
  room : vec_capacity l.items ≡ vec_capacity l.fn.items;
}
