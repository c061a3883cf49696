use Rattle.std.proofs.Common.{◌≡◌, take}
use Rattle.std.specs.Prelude.{map}
use Rattle.requantiser.specs.Private.Walk.{coarsened_slice}
use Rattle.requantiser.proofs.picture.walk_slices.Given as goal

-- the slices so far
abbrev pub invariant-loop-slice : goal.invariant-loop-slice
invariant-loop-slice l = l.made ≡ map (coarsened_slice l.picture.seq.now l.picture.coding.now l.m) (take l.slice-index l.slices)
