use Rattle.std.proofs.Common.{Ok, Err}
use Rattle.std.proofs.lemmas.Result.{err_from_is_err_and}
use Rattle.picture_grammar.specs.Element.{one_flag}
use Rattle.macroblock_reader.proofs.Courses.{answers-some}
use Rattle.macroblock_reader.proofs.motion.read_select.Goals as goal

pub returns-in_err-select : goal.returns-in_err-select
returns-in_err-select g c =
    let p = err_from_is_err_and c.from_residual.result c.from_residual.ensures.1 in
    rw (p.1, p.2) (answers-some one_flag c.args.from.now c.read_bit.new.from c.args.stands c.if-stands.true (Err c.in_err-select.field-0.0) c.in_err-select.ensures)

pub returns-then-stands : goal.returns-then-stands
returns-then-stands g c = answers-some one_flag c.args.from.now c.read_bit.new.from c.args.stands c.if-stands.true (Ok c.in_ok-select.select) c.in_ok-select.ensures
