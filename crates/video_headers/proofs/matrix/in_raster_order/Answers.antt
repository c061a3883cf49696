use Rattle.std.proofs.Common.{◌∙◌, arith}
use Rattle.std.proofs.lemmas.List.{length-set}
use Rattle.video_headers.proofs.Zigzag.{raster, raster-more}
use Rattle.video_headers.proofs.matrix.in_raster_order.Goals as goal

pub loop-place-preserved : goal.loop-place-preserved
loop-place-preserved c = record {
  size = length-set _ _ _ ∙ c.loop-place.invariant.size;
  placed = raster-more c.args.weights.now c.loop-place.matrix c.loop-place.place c.scan.result (omega arith) c.scan.ensures.index c.loop-place.invariant.size c.loop-place.invariant.placed;
}

pub returns : goal.returns
returns c = raster c.args.weights.now c.loop-place.matrix c.loop-place.invariant.size (λ k lt. c.loop-place.invariant.placed k (omega (arith, lt)))
