use Rattle.std.proofs.Common.{drop, arith}
use Rattle.bit_cursor.specs.BitReader.{place}
use Rattle.video_headers.specs.Private.NextCode.{ComesNext, comes_of}
use Rattle.video_headers.specs.Private.Wholes.{Wholes}
use Rattle.video_headers.proofs.Looks.{after-look, look-exit-over, look-step, look-on}
use Rattle.video_headers.proofs.ZeroBytes.{prefix-passed, code-coming}
use Rattle.video_headers.proofs.code.take_prefix_and_byte.Goals as goal

pub returns-in_err-byte-clause-answers : goal.returns-in_err-byte-clause-answers
returns-in_err-byte-clause-answers g c =
    after-look g.met.S.Source.keeps_on (look-step {W = Unit {0}} tt (λ x end bits. Wholes c.pass.new.reader end (drop 24 bits)) c.pass.ensures.runs (prefix-passed c.pass.ensures.left))
    (look-exit-over c.from_residual.result (λ end bits w. (drop 24 bits, w)) c.from_residual.ensures.1 c.in_err-byte.ensures)

pub returns-clause-answers : goal.returns-clause-answers
returns-clause-answers g c =
    rw (c.comes_of.ensures) (look-on g.met.S.Source.keeps_on (comes_of c.in_ok-byte.byte) (λ k. ComesNext k (place c.args.reader.now) c.next_byte.new.reader)
    (look-step {W = Unit {0}} tt (λ x end bits. Wholes c.pass.new.reader end (drop 24 bits)) c.pass.ensures.runs (prefix-passed c.pass.ensures.left)) c.in_ok-byte.ensures.runs
    (λ end bits s w. code-coming c.pass.ensures.left c.in_ok-byte.byte c.in_ok-byte.ensures end bits s))

pub returns-clause-moved : goal.returns-clause-moved
returns-clause-moved g c = omega (arith, c.pass.ensures.place, c.in_ok-byte.ensures.runs.onward)
