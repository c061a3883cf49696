use Rattle.std.proofs.Common.{sym, ◌∙◌, ap, subst, arith}
use Rattle.std.specs.Prelude.{map}
use Rattle.std.specs.List.{AllByRecursion, AllZip}
use Rattle.picture_grammar.specs.Slice.{columns}
use Rattle.requantiser.specs.Slices.{IsCoarserSlice}
use Rattle.requantiser.specs.Private.Shapes.{IsWalkableSlice}
use Rattle.requantiser.specs.Private.Walk.{coarsened_slice}
use Rattle.requantiser.proofs.SpelledHeads.{columns-few}
use Rattle.requantiser.proofs.SpelledPictures.{lawful-walkable, coarsened_slices-are}
use Rattle.requantiser.proofs.picture.coarsen_slices.Goals as goal

pub walk_slices-requires-clause-weights : goal.walk_slices-requires-clause-weights
walk_slices-requires-clause-weights c = (lawful-walkable c.args.picture.now c.requires).usable.weights

pub walk_slices-requires-clause-few : goal.walk_slices-requires-clause-few
walk_slices-requires-clause-few c = omega (arith, columns-few c.args.picture.now.seq (lawful-walkable c.args.picture.now c.requires).usable)

pub walk_slices-requires-clause-walkable : goal.walk_slices-requires-clause-walkable
walk_slices-requires-clause-walkable c =
    subst (AllByRecursion (IsWalkableSlice (columns c.args.picture.now.seq))) (sym c.as_slice-slices.ensures) (lawful-walkable c.args.picture.now c.requires).slices

pub returns : goal.returns
returns c =
    subst (AllZip (IsCoarserSlice c.args.picture.now.seq c.args.picture.now.coding c.args.m) c.args.picture.now.slices)
    (sym (c.in_ok-made.ensures ∙ ap (map (coarsened_slice c.args.picture.now.seq c.args.picture.now.coding c.args.m)) c.as_slice-slices.ensures))
    (coarsened_slices-are c.args.picture.now.seq c.args.picture.now.coding c.args.m (columns c.args.picture.now.seq) c.args.picture.now.slices (lawful-walkable c.args.picture.now c.requires).slices)
