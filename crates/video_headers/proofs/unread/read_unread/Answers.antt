use Rattle.video_headers.specs.Private.Unread.{unread_item, bits_to_byte}
use Rattle.picture_grammar.specs.Grammar.{many}
use Rattle.video_headers.proofs.Passed.{regrouped}
use Rattle.video_headers.proofs.Reading.{answers-bind, answers-exit}
use Rattle.video_headers.proofs.unread.read_unread.Goals as goal

pub returns-in_err-_bits : goal.returns-in_err-_bits
returns-in_err-_bits g c = regrouped bits_to_byte (many unread_item) tt (answers-exit _ c.from_residual.result c.from_residual.ensures.1 c.in_err-_bits.ensures)

pub returns : goal.returns
returns g c = regrouped bits_to_byte (many unread_item) tt (answers-bind g.met.S.Source.keeps_on _ c.in_ok-_bits.ensures c.pass_bytes.ensures)
