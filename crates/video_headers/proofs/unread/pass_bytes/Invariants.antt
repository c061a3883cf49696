use Rattle.std.proofs.Common.{◌-◌, ◌^◌, Ok}
use Rattle.bit_cursor.specs.BitReader.{place}
use Rattle.video_headers.specs.Private.Reading.{AnswersLook}
use Rattle.video_headers.specs.Private.Unread.{BytesPassed}
use Rattle.video_headers.specs.Private.Wholes.{Wholes}
use Rattle.video_headers.proofs.unread.pass_bytes.Given as goal

abbrev pub invariant-bytes : goal.invariant-bytes
invariant-bytes g l = AnswersLook {V = Unit {0}} (Ok tt) (Wholes l.fn.reader) (λ x. BytesPassed l.reader) l.fn.reader l.reader

abbrev pub decreases-bytes : goal.decreases-bytes
decreases-bytes g l = 2 ^ 63 - place l.reader
