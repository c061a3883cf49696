use Rattle.std.proofs.Common.{rules}
use Rattle.std.proofs.lemmas.Result.{err_from_is_err_and}
use Rattle.bit_cursor.specs.BitReader.{KeepsSource}
use Rattle.picture_grammar.specs.Macroblock.{quantiser_scale_code}
use Rattle.picture_grammar.specs.Slice.{slice_info}
use Rattle.macroblock_reader.specs.SliceHead.{slice_head}
use Rattle.macroblock_reader.proofs.Courses.{course-start, course-on, course-err, course-end}
use Rattle.macroblock_reader.proofs.Slices.{answers-may, head_1, head_2, local-scale_code, local-info}
use Rattle.macroblock_reader.proofs.head.read_head.Goals as goal

pub returns-in_err-code : goal.returns-in_err-code
returns-in_err-code g c =
    let keeps : KeepsSource c.args.from.now c.args.from.now = search rules in
    let p = err_from_is_err_and c.from_residual.result c.from_residual.ensures.1 in
    rw (p.1, p.2) (course-err g.met.S.Source.keeps_on quantiser_scale_code head_1 (course-start slice_head c.args.from.now keeps) (answers-may c.in_err-code.ensures))

pub returns-in_err-info : goal.returns-in_err-info
returns-in_err-info g c =
    let on = g.met.S.Source.keeps_on in
    let keeps : KeepsSource c.args.from.now c.args.from.now = search rules in
    let p = err_from_is_err_and c.from_residual-in_err-info.result c.from_residual-in_err-info.ensures.1 in
    let coded = course-on on quantiser_scale_code head_1 local-scale_code (course-start slice_head c.args.from.now keeps) c.in_ok-code.ensures in
    rw (p.1, p.2) (course-err on slice_info (head_2 c.in_ok-code.code) coded c.in_err-info.ensures)

pub returns : goal.returns
returns g c =
    let on = g.met.S.Source.keeps_on in
    let keeps : KeepsSource c.args.from.now c.args.from.now = search rules in
    let coded = course-on on quantiser_scale_code head_1 local-scale_code (course-start slice_head c.args.from.now keeps) c.in_ok-code.ensures in
    let whole = course-on on slice_info (head_2 c.in_ok-code.code) local-info coded c.in_ok-info.ensures in
    course-end slice_head _ whole
