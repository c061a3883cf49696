use Rattle.std.proofs.Common.{ap, ◌-◌, ◌%◌}
use Rattle.video_headers.proofs.WholeBytes.{answers-to_byte}
use Rattle.video_headers.proofs.unread.read_bits_to_byte.Goals as goal

pub returns : goal.returns
returns g c = answers-to_byte c.args.reader.now c.read_limited.new.reader _ (ap (λ k. (8 - k % 8) % 8) c.place.ensures) (c.read_limited.ensures.answers _ tt)
