use Rattle.std.proofs.Common.{refl, ap, ◌-◌, ◌%◌}
use Rattle.video_headers.proofs.Rules.{only-range}
use Rattle.video_headers.proofs.WholeBytes.{answers-zeros}
use Rattle.video_headers.proofs.zeros.read_zero_bits.Goals as goal

pub returns : goal.returns
returns g c = answers-zeros c.args.reader.now c.read_limited.new.reader _ (ap (λ k. (8 - k % 8) % 8) c.place.ensures) (c.read_limited.ensures.answers _ (refl, (λ v lt. only-range 0 v), tt))
