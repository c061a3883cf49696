use Rattle.std.proofs.Common.{rules, refl}
use Rattle.video_headers.proofs.Identifiers.{four-taken, four-missing}
use Rattle.video_headers.proofs.Reading.{answers-of}
use Rattle.video_headers.proofs.extension.next_four_bits.Goals as goal

pub returns-in-Ok : goal.returns-in-Ok
returns-in-Ok g c =
    answers-of (record {
      on = λ end bits left. (
        bits,
        (refl, refl),
        four-taken c.in-Ok.number _ _ c.in-Ok.ensures.value c.in-Ok.ensures.below c.in-Ok.ensures.left c.in-Ok.ensures.place end bits left,
      );
    })
    (search rules) (search rules) (search rules)

pub returns-in-Err-End : goal.returns-in-Err-End
returns-in-Err-End g c =
    answers-of (record { on = λ end bits left. (bits, (refl, refl), four-missing c.args.reader.now c.args.reader.now (c.in-Err-End.ensures.end (search rules)) end bits left) })
    (search rules) (search rules) (search rules)
