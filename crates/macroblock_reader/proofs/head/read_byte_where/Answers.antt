use Rattle.std.proofs.Common.{[], Ok, Err}
use Rattle.std.proofs.lemmas.Result.{err_from_is_err_and}
use Rattle.picture_grammar.specs.Element.{uimsbf}
use Rattle.macroblock_reader.proofs.Courses.{answers-some}
use Rattle.macroblock_reader.proofs.head.read_byte_where.Goals as goal

pub returns-in_err-byte : goal.returns-in_err-byte
returns-in_err-byte g c =
    let p = err_from_is_err_and c.from_residual.result c.from_residual.ensures.1 in
    rw (p.1, p.2) (answers-some (uimsbf 8 []) c.args.from.now c.read_byte.new.from c.args.stands c.if-stands.true (Err c.in_err-byte.field-0.0) c.in_err-byte.ensures)

pub returns-then-stands : goal.returns-then-stands
returns-then-stands g c = answers-some (uimsbf 8 []) c.args.from.now c.read_byte.new.from c.args.stands c.if-stands.true (Ok c.in_ok-byte.byte) c.in_ok-byte.ensures
