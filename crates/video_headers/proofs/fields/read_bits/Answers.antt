use Rattle.std.proofs.Common.{rules}
use Rattle.video_headers.proofs.ToldFields.{stops-end, bits-goes, stops-nothing}
use Rattle.video_headers.proofs.Reading.{answers-of}
use Rattle.video_headers.proofs.fields.read_bits.Goals as goal

pub returns-in-Ok-clause-answers : goal.returns-in-Ok-clause-answers
returns-in-Ok-clause-answers g c = answers-of (bits-goes c.args.n c.in-Ok.number _ _ c.in-Ok.ensures.value c.in-Ok.ensures.below c.in-Ok.ensures.left
    c.in-Ok.ensures.place) (search rules) (search rules) (search rules)

pub returns-in-Err-End-clause-answers : goal.returns-in-Err-End-clause-answers
returns-in-Err-End-clause-answers g c = answers-of (stops-end c.args.n c.args.reader.now c.place-at.result c.place-at.ensures
    (c.in-Err-End.ensures.end (search rules))) (search rules) (search rules) (search rules)

pub returns-in-Err-Outside-clause-answers : goal.returns-in-Err-Outside-clause-answers
returns-in-Err-Outside-clause-answers g c = answers-of (stops-nothing _ _) (search rules) (search rules) (search rules)
