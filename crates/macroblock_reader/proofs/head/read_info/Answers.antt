use Rattle.std.proofs.Common.{rules}
use Rattle.std.proofs.lemmas.Result.{err_from_is_err_and}
use Rattle.bit_cursor.specs.BitReader.{KeepsSource}
use Rattle.picture_grammar.specs.Grammar.{optional}
use Rattle.picture_grammar.specs.Element.{one_flag}
use Rattle.picture_grammar.specs.Slice.{slice_extension, slice_info}
use Rattle.picture_grammar.proofs.LocalLaws.{local-element}
use Rattle.macroblock_reader.proofs.Courses.{course-start, course-on, course-err, course-rest}
use Rattle.macroblock_reader.proofs.Slices.{answers-may}
use Rattle.macroblock_reader.proofs.head.read_info.Goals as goal

pub returns-in_err-extended : goal.returns-in_err-extended
returns-in_err-extended g c =
    let keeps : KeepsSource c.args.from.now c.args.from.now = search rules in
    let p = err_from_is_err_and c.from_residual.result c.from_residual.ensures.1 in
    rw (p.1, p.2) (course-err g.met.S.Source.keeps_on one_flag (λ extended. optional extended slice_extension) (course-start slice_info c.args.from.now keeps) (answers-may c.in_err-extended.ensures))

pub returns : goal.returns
returns g c =
    let on = g.met.S.Source.keeps_on in
    let keeps : KeepsSource c.args.from.now c.args.from.now = search rules in
    let flagged = course-on on one_flag (λ extended. optional extended slice_extension) (local-element _ _ _) (course-start slice_info c.args.from.now keeps) c.in_ok-extended.ensures in
    course-rest on c.read_extension_where.result flagged c.read_extension_where.ensures
