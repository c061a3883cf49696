use Rattle.std.proofs.Common.{Ok, Err}
use Rattle.std.proofs.lemmas.Result.{err_from_is_err_and}
use Rattle.picture_grammar.specs.Macroblock.{quantiser_scale_code}
use Rattle.macroblock_reader.proofs.Courses.{answers-some}
use Rattle.macroblock_reader.proofs.elements.read_code_where.Goals as goal

pub returns-in_err-code : goal.returns-in_err-code
returns-in_err-code g c =
    let p = err_from_is_err_and c.from_residual.result c.from_residual.ensures.1 in
    rw (p.1, p.2) (answers-some quantiser_scale_code c.args.from.now c.read_not_zero.new.from c.args.stands c.if-stands.true (Err c.in_err-code.field-0.0) c.in_err-code.ensures)

pub returns-then-stands : goal.returns-then-stands
returns-then-stands g c = answers-some quantiser_scale_code c.args.from.now c.read_not_zero.new.from c.args.stands c.if-stands.true (Ok c.in_ok-code.code) c.in_ok-code.ensures
