use Rattle.std.proofs.Common.{◌++◌, ◌∷◌, []}
use Rattle.video_headers.proofs.Extra.{extra-more, extra-no_byte, extra-last, extra-no_flag, extra-none, extra-pushed, extra-ended, extra-refused}
use Rattle.video_headers.proofs.picture.read_extra_information.Goals as goal

pub bytes-init : goal.bytes-init
bytes-init g c = record { bytes = []; so_far = extra-none _ g.met.S.Source.keeps_itself }

pub returns-in_err-another : goal.returns-in_err-another
returns-in_err-another g c =
    extra-refused g.met.S.Source.keeps_on c.bytes.invariant.bytes c.from_residual.result c.from_residual.ensures.1 c.bytes.invariant.so_far
    (extra-no_flag g.met.S.Source.keeps_on g.met.S.Source.keeps_itself c.bytes.invariant.bytes c.in_err-another.ensures)

pub returns-then-not-another : goal.returns-then-not-another
returns-then-not-another g c =
    extra-ended g.met.S.Source.keeps_on c.bytes.invariant.bytes c.bytes.invariant.so_far
    (extra-last g.met.S.Source.keeps_on g.met.S.Source.keeps_itself c.bytes.invariant.bytes c.in_ok-another.another c.if-not-another.true
    c.in_ok-another.ensures)

pub returns-in_err-_byte : goal.returns-in_err-_byte
returns-in_err-_byte g c =
    extra-refused g.met.S.Source.keeps_on c.bytes.invariant.bytes c.from_residual-in_err-_byte.result c.from_residual-in_err-_byte.ensures.1 c.bytes.invariant.so_far
    (extra-no_byte g.met.S.Source.keeps_on g.met.S.Source.keeps_itself c.bytes.invariant.bytes c.in_ok-another.another c.if-not-another.false c.in_ok-another.ensures c.in_err-_byte.ensures.answers)

pub bytes-preserved : goal.bytes-preserved
bytes-preserved g c = record {
  bytes = c.bytes.invariant.bytes ++ c.in_ok-_byte._byte ∷ [];
  so_far = extra-pushed g.met.S.Source.keeps_on c.bytes.invariant.bytes c.in_ok-_byte._byte c.bytes.invariant.so_far
      (extra-more g.met.S.Source.keeps_on g.met.S.Source.keeps_itself c.bytes.invariant.bytes c.in_ok-_byte._byte c.in_ok-another.another
      c.if-not-another.false c.in_ok-another.ensures c.in_ok-_byte.ensures.answers);
}
