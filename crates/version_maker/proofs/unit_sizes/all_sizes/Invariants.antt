use Rattle.std.proofs.Common.{◌≡◌, ◌+◌, ◌∷◌, take}
use Rattle.std.specs.Prelude.{map}
use Rattle.arrayvec.specs.ArrayVec.{array_vec_len}
use Rattle.version_maker.specs.Private.Sized.{first_size, with_bytes}
use Rattle.version_maker.proofs.unit_sizes.all_sizes.Given as goal

abbrev pub invariant-loop-size : goal.invariant-loop-size
invariant-loop-size l = record {
  len : array_vec_len l.sizes ≡ l.size-index + 1;
  items : l.sizes.items ≡ first_size l.unit ∷ map (with_bytes l.around) (take l.size-index l.coarser);
}
