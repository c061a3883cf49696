use Rattle.std.proofs.Common.{Ok, Err}
use Rattle.std.proofs.lemmas.Result.{err_from_is_err_and}
use Rattle.picture_grammar.specs.Slice.{slice_extension}
use Rattle.macroblock_reader.proofs.Courses.{answers-some}
use Rattle.macroblock_reader.proofs.head.read_extension_where.Goals as goal

pub returns-in_err-extension : goal.returns-in_err-extension
returns-in_err-extension g c =
    let p = err_from_is_err_and c.from_residual.result c.from_residual.ensures.1 in
    rw (p.1, p.2) (answers-some slice_extension c.args.from.now c.read_extension.new.from c.args.stands c.if-stands.true (Err c.in_err-extension.field-0.0) c.in_err-extension.ensures)

pub returns-then-stands : goal.returns-then-stands
returns-then-stands g c = answers-some slice_extension c.args.from.now c.read_extension.new.from c.args.stands c.if-stands.true (Ok c.in_ok-extension.extension) c.in_ok-extension.ensures
