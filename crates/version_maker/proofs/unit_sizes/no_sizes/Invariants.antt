use Rattle.std.proofs.Common.{◌≡◌, ◌≤◌, length, replicate}
use Rattle.arrayvec.specs.ArrayVec.{array_vec_len}
use Rattle.version_maker.specs.Private.Sized.{first_size}
use Rattle.version_maker.proofs.unit_sizes.no_sizes.Given as goal

abbrev pub invariant-loop-m : goal.invariant-loop-m
invariant-loop-m l = record {
  within : l._m-index ≤ length l.coarser;
  len : array_vec_len l.sizes ≡ l._m-index;
  items : l.sizes.items ≡ replicate l._m-index (first_size 0);
}
