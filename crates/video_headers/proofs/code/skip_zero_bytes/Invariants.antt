use Rattle.std.proofs.Common.{ℕ, ◌-◌, ◌^◌, Ok}
use Rattle.bit_cursor.specs.BitReader.{place}
use Rattle.video_headers.specs.Private.NextCode.{ZerosTaken}
use Rattle.video_headers.specs.Private.Reading.{AnswersLook}
use Rattle.video_headers.specs.Private.Wholes.{Wholes}
use Rattle.video_headers.proofs.code.skip_zero_bytes.Given as goal

abbrev pub invariant-zeros : goal.invariant-zeros
invariant-zeros g l = AnswersLook {V = Unit {0}} (Ok tt) (Wholes l.fn.reader) (λ x. ZerosTaken (place l.fn.reader) l.reader) l.fn.reader l.reader

abbrev pub decreases-zeros : goal.decreases-zeros
decreases-zeros g l = 2 ^ 63 - place l.reader
