use Rattle.std.proofs.Common.{◌≡◌, ◌<◌, ℕ, length, get_or}
use Rattle.quant_math.specs.Scans.{zigzag_scan}
use Rattle.video_headers.proofs.matrix.in_raster_order.Given as goal

abbrev pub invariant-loop-place : goal.invariant-loop-place
invariant-loop-place l = record {
  size : length l.matrix ≡ 64;
  placed : (k : ℕ) → k < l.place → get_or l.matrix (get_or zigzag_scan k 0) 0 ≡ get_or l.weights k 0;
}
