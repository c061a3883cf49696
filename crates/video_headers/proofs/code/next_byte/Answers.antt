use Rattle.std.proofs.Common.{rules, refl}
use Rattle.video_headers.proofs.Reading.{answers-of}
use Rattle.video_headers.proofs.ToldFields.{stops-nothing}
use Rattle.video_headers.proofs.ZeroBytes.{byte-taken, byte-missing}
use Rattle.video_headers.proofs.code.next_byte.Goals as goal

pub returns-in-Ok : goal.returns-in-Ok
returns-in-Ok g c =
    answers-of (record {
      on = λ end bits left. (
        bits,
        (refl, refl),
        byte-taken c.in-Ok.byte _ _ c.in-Ok.ensures.value c.in-Ok.ensures.below c.in-Ok.ensures.left c.in-Ok.ensures.place end bits left,
      );
    })
    (search rules) (search rules) (search rules)

pub returns-in-Err-End : goal.returns-in-Err-End
returns-in-Err-End g c =
    answers-of (record {
      on = λ end bits left. (
        bits,
        (refl, refl),
        byte-missing c.args.reader.now _ (c.in-Err-End.ensures.end (search rules)) c.in-Err-End.ensures.kept c.in-Err-End.ensures.kept_place end bits
            left,
      );
    })
    (search rules) (search rules) (search rules)
